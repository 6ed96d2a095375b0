-- What the loop of `words_from` keeps. Assumes nothing.
use Rattle.std.proofs.Common.{◌≡◌, ◌/◌, ◌%◌, ◌<◌, ◌^◌, length, map}
use Rattle.des.specs.Keys.{words_from}
use Rattle.des.specs.KeptWords.{word_of}
use Rattle.des.proofs.Parts.{with_rest}
use Rattle.des.proofs.keys.words_from.Given as goal

-- the words so far and those to come are the words of the parts
abbrev pub invariant-loop-places : goal.invariant-loop-places
invariant-loop-places l = record {
  left : l.left < 2 ^ 28;
  right : l.right < 2 ^ 28;
  many : length l.kept.items ≡ l.places-index;
  words : with_rest (map word_of l.kept.items) l.shifts l.left l.right l.places-index ≡ words_from (l.parts / 2 ^ 28) (l.parts % 2 ^ 28) l.shifts;
}
