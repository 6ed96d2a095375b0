-- The round function by the merged table. Assumes nothing.
use Rattle.std.proofs.Common.{◌≡◌, ℕ, ◌+◌, ◌-◌, ◌*◌, ◌/◌, ◌%◌, ◌^◌, ◌<◌, true, zero, suc, List, [], ◌∷◌, map, get_or, refl, sym, ap, ap₂, ◌∙◌, arith}
use Rattle.std.specs.List.{fold, list_all, range_with_len}
use Rattle.std.specs.Int.Digits.{number_from_digits_after}
use Rattle.std.specs.Int.Bits.{bit_and, bit_xor, and_shifted, xor_assoc, xor_disjoint}
use Rattle.std.proofs.Math.Nat.{mul-one, mul_assoc, add-mul}
use Rattle.std.proofs.lemmas.List.FromFn.{get_or-map-range_with_len}
use Rattle.std.proofs.lemmas.Nat.{pow-add, shl_below, xor_comm, xor_lt}
use Rattle.selections.specs.Selections.{picked}
use Rattle.selections.proofs.Linear.{Linear, agree, each_below, linear_after, linear_and, linear_mod, linear_picked, linear_shr, picked_xor, same_linear}
use Rattle.selections.proofs.Picked.{picked_below}
use Rattle.des.specs.Boxes.{boxed}
use Rattle.des.specs.Des.{group, f}
use Rattle.des.specs.internal.Merged.{placed, merged_numbers, mixed, share, shares}
use Rattle.des.specs.KeptWords.{byte_of, word_of, word_table}
use Rattle.des.specs.internal.Spread.{Groups, half_of, spread, spread_table}
use Rattle.des.specs.Tables.{expansion, permutation}
use Rattle.des.proofs.Rows.{boxed_fits}
use Rattle.des.proofs.Spreading.{half_spread, spread_groups, spread_xor}

-- entry `64 * index + six` of the table
pub merged_entry : (index six : ℕ) → index < 8 → six < 64 → get_or merged_numbers (64 * index + six) 0 ≡ spread (placed index six)
unfolding merged_numbers
merged_entry index six i s =
    let k = 64 * index + six in
    let box : k / 64 ≡ index = omega arith in
    let rest : k % 64 ≡ six = omega arith in
    get_or-map-range_with_len (λ k. spread (placed (k / 64) (k % 64))) 0 512 k k 0 (omega arith) (omega arith) ∙ ap₂ (λ b r. spread (placed b r)) box rest

abbrev mask : ℕ
mask = 0x3F3F_3F3F_3F3F_3F3F

-- a byte of some groups, and the same bits of their word
byte : ℕ → ℕ → ℕ
byte i x = bit_and x mask / 2 ^ (8 * byte_of i) % 2 ^ 8

six_bits : ℕ → ℕ → ℕ
six_bits i x = group (word_of x) i

every_byte : list_all (λ i. agree (byte i) (six_bits i) 64) (range_with_len 0 8) ≡ true
unfolding byte six_bits word_of
every_byte = refl

linear_byte : (i : ℕ) → Linear (byte i)
unfolding byte
linear_byte i = linear_after (linear_mod 8) (linear_after (linear_shr (8 * byte_of i)) (linear_and mask))

linear_six_bits : (i : ℕ) → Linear (six_bits i)
unfolding six_bits word_of
linear_six_bits i = linear_after (linear_mod 6) (linear_after (linear_shr (42 - 6 * i)) (linear_picked 64 word_table))

byte_agrees : (i : ℕ) → i < 8 → agree (byte i) (six_bits i) 64 ≡ true
byte_agrees = each_below (λ i. agree (byte i) (six_bits i) 64) 8 every_byte

-- a group is a whole byte
pub group_of_byte : (groups i : ℕ) → groups < 2 ^ 64 → i < 8 → Groups groups → groups / 2 ^ (8 * byte_of i) % 256 ≡ group (word_of groups) i
unfolding byte six_bits
group_of_byte groups i few h only =
    ap (λ g. g / 2 ^ (8 * byte_of i) % 256) (sym only)
    ∙ same_linear (linear_byte i) (linear_six_bits i) 64 (byte_agrees i h) groups few

-- what the boxes take is nothing but groups, and those of E of the half and the round word
masked_agrees : agree (λ n. bit_and (bit_and n mask) mask) (λ n. bit_and n mask) 64 ≡ true
masked_agrees = refl

pub groups_mixed : (half kept : ℕ) → half < 2 ^ 32 → kept < 2 ^ 64 → Groups (bit_xor (spread half) (bit_and kept mask))
groups_mixed half kept h k =
    (linear_and mask).xor (spread half) (bit_and kept mask)
    ∙ ap₂ bit_xor (spread_groups half h) (same_linear (linear_after (linear_and mask) (linear_and mask)) (linear_and mask) 64 masked_agrees kept k)

expanded_agrees : agree (λ n. word_of (spread n)) (picked 32 expansion) 32 ≡ true
unfolding spread word_of
expanded_agrees = refl

unmasked_agrees : agree (λ n. word_of (bit_and n mask)) word_of 64 ≡ true
unfolding word_of
unmasked_agrees = refl

word_whole : (kept : ℕ) → word_of kept % 2 ^ 48 ≡ word_of kept
unfolding word_of
word_whole kept = omega (arith, picked_below 64 kept word_table)

pub word_mixed : (half kept : ℕ) → half < 2 ^ 32 → kept < 2 ^ 64 → word_of (bit_xor (spread half) (bit_and kept mask)) ≡ mixed half (word_of kept)
unfolding spread word_of
word_mixed half kept h k =
    picked_xor 64 word_table (spread half) (bit_and kept mask)
    ∙ ap₂ bit_xor
    (same_linear (linear_after (linear_picked 64 word_table) (linear_picked 32 spread_table)) (linear_picked 32 expansion) 32 expanded_agrees half h)
    (same_linear (linear_after (linear_picked 64 word_table) (linear_and mask)) (linear_picked 64 word_table) 64 unmasked_agrees kept k ∙ sym (word_whole kept))

-- P of digits, the last of which has k bits behind it
last_digit : (h d k : ℕ) → d < 16 → picked 32 permutation ((h * 16 + d) * 2 ^ k) ≡ bit_xor (picked 32 permutation (h * 2 ^ (4 + k))) (picked 32 permutation (d * 2 ^ k))
last_digit h d k few =
    let below : d * 2 ^ k < 2 ^ (4 + k) = shl_below d 4 k few in
    let split : (h * 16 + d) * 2 ^ k ≡ h * 2 ^ (4 + k) + d * 2 ^ k = add-mul (h * 16) d (2 ^ k) ∙ ap (λ n. n + d * 2 ^ k) (mul_assoc h 16 (2 ^ k) ∙ ap (λ n. h * n) (sym (pow-add 2 4 k))) in
    ap (picked 32 permutation) (split ∙ sym (xor_disjoint (h * 2 ^ (4 + k)) (d * 2 ^ k) (and_shifted h (4 + k) (d * 2 ^ k) below)))
    ∙ picked_xor 32 permutation (h * 2 ^ (4 + k)) (d * 2 ^ k)

module _ (digit : ℕ → ℕ) (few : (i : ℕ) → digit i < 16) where
  -- P of the digits from i on, behind those that are there
  digits_after : (n i h : ℕ) → i + n ≡ 8
      → picked 32 permutation (number_from_digits_after 16 h (map digit (range_with_len i n)))
      ≡ fold (λ out j. bit_xor out (picked 32 permutation (digit j * 2 ^ (28 - 4 * j)))) (picked 32 permutation (h * 2 ^ (4 * n))) (range_with_len i n)
  digits_after zero i h e = ap (picked 32 permutation) (sym (mul-one h))
  digits_after (suc n) i h e =
      let here : 4 * n ≡ 28 - 4 * i = omega arith in
      let more : 4 + 4 * n ≡ 4 * suc n = omega arith in
      digits_after n (i + 1) (h * 16 + digit i) (omega arith)
      ∙ ap (λ p. fold (λ out j. bit_xor out (picked 32 permutation (digit j * 2 ^ (28 - 4 * j)))) p (range_with_len (i + 1) n))
      (last_digit h (digit i) (4 * n) (few i) ∙ ap₂ (λ a b. bit_xor (picked 32 permutation (h * 2 ^ a)) (picked 32 permutation (digit i * 2 ^ b))) more here)

-- the round function is what the boxes add
pub f_shares : (half word : ℕ) → f half word ≡ shares (mixed half word)
unfolding f placed
f_shares half word = digits_after (λ i. boxed i (group (mixed half word) i)) (λ i. boxed_fits i (group (mixed half word) i)) 8 0 0 refl

-- a word xored in front of others
in_front : (i h : ℕ) (ys : List ℕ) → bit_xor i (fold bit_xor h ys) ≡ fold bit_xor (bit_xor i h) ys
in_front i h [] = refl
in_front i h (y ∷ ys) = in_front i (bit_xor h y) ys ∙ ap (λ a. fold bit_xor a ys) (sym (xor_assoc i h y))

-- one word more, which is first from the back
one_more : (x i h : ℕ) (ys : List ℕ) → x ≡ fold bit_xor h ys → bit_xor x i ≡ fold bit_xor i (h ∷ ys)
one_more x i h ys e = ap (λ y. bit_xor y i) e ∙ xor_comm (fold bit_xor h ys) i ∙ in_front i h ys

from_the_back : (a b c d e g h i : ℕ) → fold bit_xor a (b ∷ c ∷ d ∷ e ∷ g ∷ h ∷ i ∷ []) ≡ fold bit_xor i (h ∷ g ∷ e ∷ d ∷ c ∷ b ∷ a ∷ [])
from_the_back a b c d e g h i =
    one_more _ i h (g ∷ e ∷ d ∷ c ∷ b ∷ a ∷ [])
    (one_more _ h g (e ∷ d ∷ c ∷ b ∷ a ∷ [])
    (one_more _ g e (d ∷ c ∷ b ∷ a ∷ [])
    (one_more _ e d (c ∷ b ∷ a ∷ [])
    (one_more _ d c (b ∷ a ∷ [])
    (one_more _ c b (a ∷ [])
    (one_more a b a [] refl))))))

spread_fold : (a : ℕ) (xs : List ℕ) → fold bit_xor (spread a) (map spread xs) ≡ spread (fold bit_xor a xs)
spread_fold a [] = refl
spread_fold a (x ∷ xs) = ap (λ s. fold bit_xor s (map spread xs)) (sym (spread_xor a x)) ∙ spread_fold (bit_xor a x) xs

-- the spread shares of all boxes, the last one first
pub shares_spread : (x : ℕ) → fold (λ out i. bit_xor out (spread (share x i))) (spread (share x 7)) (6 ∷ 5 ∷ 4 ∷ 3 ∷ 2 ∷ 1 ∷ 0 ∷ []) ≡ spread (shares x)
shares_spread x =
    spread_fold (share x 7) (share x 6 ∷ share x 5 ∷ share x 4 ∷ share x 3 ∷ share x 2 ∷ share x 1 ∷ share x 0 ∷ [])
    ∙ ap spread (sym (from_the_back (share x 0) (share x 1) (share x 2) (share x 3) (share x 4) (share x 5) (share x 6) (share x 7)))

-- the same, two boxes at a time
pub pairs_spread : (x : ℕ) → fold (λ out i. bit_xor out (bit_xor (spread (share x (2 * i + 1))) (spread (share x (2 * i))))) (bit_xor (spread (share x 7)) (spread (share x 6))) (2 ∷ 1 ∷ 0 ∷ []) ≡ spread (shares x)
pairs_spread x =
    let s : ℕ → ℕ = λ i. spread (share x i) in
    let more : (out i j : ℕ) → bit_xor out (bit_xor (s i) (s j)) ≡ bit_xor (bit_xor out (s i)) (s j) = λ out i j. sym (xor_assoc out (s i) (s j)) in
    ap (λ out. bit_xor (bit_xor out (bit_xor (s 3) (s 2))) (bit_xor (s 1) (s 0))) (more (bit_xor (s 7) (s 6)) 5 4)
    ∙ ap (λ out. bit_xor out (bit_xor (s 1) (s 0))) (more _ 3 2)
    ∙ more _ 1 0
    ∙ shares_spread x

shares_fit : (x a : ℕ) (is : List ℕ) → a < 2 ^ 32 → fold (λ out i. bit_xor out (share x i)) a is < 2 ^ 32
unfolding placed
shares_fit x a [] p = p
shares_fit x a (i ∷ is) p = shares_fit x (bit_xor a (share x i)) is (xor_lt 32 a (share x i) p (picked_below 32 _ permutation))

-- the half of these groups is what the boxes add
pub shares_back : (x : ℕ) → half_of (spread (shares x)) ≡ shares x
shares_back x = half_spread (shares x) (shares_fit x 0 (range_with_len 0 8) (omega arith))
