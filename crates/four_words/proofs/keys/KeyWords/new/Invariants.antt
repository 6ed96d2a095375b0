-- What the loop of `KeyWords::new` keeps. Assumes nothing.
use Rattle.std.proofs.Common.{◌≡◌, ◌≤◌, ◌+◌, ◌-◌, length, map}
use Rattle.std.specs.List.{range_with_len}
use Rattle.four_words.specs.Keying.{AllFit, round_at}
use Rattle.four_words.proofs.keys.KeyWords.new.Given as goal

-- the words of the rounds so far
abbrev pub invariant-loop-round : goal.invariant-loop-round
invariant-loop-round l =
    (1 ≤ l.round) × (length l.others.items + 1 ≡ l.round)
    × (l.others.items ≡ map (round_at l.words) (range_with_len 1 (l.round - 1))) × AllFit l.others.items
