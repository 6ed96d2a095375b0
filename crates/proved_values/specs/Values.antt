-- Known values, and the definitions that they are values of. Assumes nothing.
use Rattle.std.specs.Prelude.{ℕ, [], ◌∷◌, Some, map, replicate}
use Rattle.std.specs.List.{range_with_len}
use Rattle.products.specs.Products.{product}
use Rattle.whitening.specs.Whitening.{wadd}
use Rattle.four_words.specs.Keying.{key_of}
use Rattle.four_words.specs.Turning.{turned_key}
use Rattle.xtea.specs.Xtea.{xtea}
use Rattle.des.specs.Boxes.{boxed}
use Rattle.des.specs.Des.{des}
use Rattle.idea.specs.Idea.{idea}
use Rattle.idea.specs.Keys.{key_word, key_words}
use Rattle.idea.specs.Networks.{groups}
use Rattle.traces.specs.declared.headers.Label.{Label}
use Rattle.traces.specs.Headers.{word_of}
use Rattle.traces.specs.Padding.{padded}
use Rattle.proved_values.specs.declared.values.ProvedValues.{ProvedValues}

-- the table
abbrev pub table : ProvedValues
table = record {
  -- 2 joined with 32,769 modulo 65,537
  two_by_32769 = 1;
  -- 65,536 joined with itself, the square of -1
  zero_by_zero = 1;
  -- what `Wadd` makes of 0000000100000002 under FFFFFFFF00000001: the left sum wraps
  wadd_left_wraps = 0x0000000000000003;
  -- what `Wadd` makes of 0000000200000002 under 00000001FFFFFFFF: nothing is carried to the left sum
  wadd_without_carry = 0x0000000300000001;
  -- what one cycle of XTEA makes of zeros under a key of zeros
  xtea_cycle_of_zeros = 0x000000009E3779B9;
  -- what S1 of DES makes of 011011
  s1_of_011011 = Some 5;
  -- what DES makes of 0123456789ABCDEF under 133457799BBCDFF1
  des_example = 0x85E813540F0AB405;
  -- words 9 to 16 of the IDEA key 0001 0002 .. 0008
  idea_second_eight = 0x0400 ∷ 0x0600 ∷ 0x0800 ∷ 0x0A00 ∷ 0x0C00 ∷ 0x0E00 ∷ 0x1000 ∷ 0x0200 ∷ [];
  -- the closing words of that key's network of eight rounds, turned
  idea_turned_closing = record { first = 0x0001; second = 0xFFFE; third = 0xFFFD; fourth = 0xC001 };
  -- what IDEA makes of 0000000100020003 under that key
  idea_example = 0x11FBED2B01986DE5;
  -- the header of axis 1, serial 5, trace 9
  header = 0x1800000500000009;
  -- an empty plain, padded to whole blocks: eight bytes 08
  padded_nothing = 0x08 ∷ 0x08 ∷ 0x08 ∷ 0x08 ∷ 0x08 ∷ 0x08 ∷ 0x08 ∷ 0x08 ∷ [];
}

-- the IDEA key 0001 0002 .. 0008
abbrev pub idea_key : ℕ
idea_key = 0x00010002000300040005000600070008

-- axis 1, serial 5, trace 9
abbrev pub label : Label
label = record { axis = 1; serial = 5; number = 9 }

-- the same values as the definitions have them
abbrev pub worked_out : ProvedValues
worked_out = record {
  two_by_32769 = product 2 32769;
  zero_by_zero = product 0 0;
  wadd_left_wraps = wadd 0xFFFFFFFF00000001 0x0000000100000002;
  wadd_without_carry = wadd 0x00000001FFFFFFFF 0x0000000200000002;
  xtea_cycle_of_zeros = xtea (replicate 16 0) 1 0;
  s1_of_011011 = Some (boxed 0 0b011011);
  des_example = des 0x133457799BBCDFF1 0x0123456789ABCDEF;
  idea_second_eight = map (key_word idea_key) (range_with_len 8 8);
  idea_turned_closing = (turned_key groups (key_of 8 (key_words idea_key))).closing;
  idea_example = idea idea_key 8 0x0000000100020003;
  header = word_of label;
  padded_nothing = padded [];
}
