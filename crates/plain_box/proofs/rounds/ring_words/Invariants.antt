-- What the loop of `ring_words` keeps. Assumes nothing.
use Rattle.four_words.proofs.Filling.{Filled}
use Rattle.plain_box.specs.Plainest.{ring_word}
use Rattle.plain_box.proofs.rounds.ring_words.Given as goal

-- the words so far are those of the ring
abbrev pub invariant-loop-place : goal.invariant-loop-place
invariant-loop-place l = Filled (ring_word l.key) l.words l.place
