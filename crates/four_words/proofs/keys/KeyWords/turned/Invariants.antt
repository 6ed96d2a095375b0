-- What the loop of `KeyWords::turned` keeps. Assumes nothing.
use Rattle.std.proofs.Common.{◌≤◌, length}
use Rattle.four_words.specs.Joining.{both}
use Rattle.four_words.proofs.Progress.{Made}
use Rattle.four_words.proofs.keys.KeyWords.turned.Given as goal

-- the rounds so far
abbrev pub invariant-loop-round : goal.invariant-loop-round
invariant-loop-round g l = Made (both g.O.Group g.I.Group) l.initial.mixing l.round-items l.others.items l.mixing l.round-index × (l.round-index ≤ length l.round-items)
