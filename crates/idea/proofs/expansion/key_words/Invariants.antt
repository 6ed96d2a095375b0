-- What the loops of `key_words` keep. Assumes nothing.
use Rattle.std.proofs.Common.{◌+◌, ◌*◌, ◌≤◌}
use Rattle.four_words.proofs.Filling.{Filled}
use Rattle.idea.specs.Keys.{key_word}
use Rattle.idea.proofs.expansion.key_words.Given as goal

-- the words so far are those of the key
abbrev pub invariant-loop-turn : goal.invariant-loop-turn
invariant-loop-turn l = Filled (key_word l.key) l.words (8 * l.turn)

abbrev pub invariant-loop-place : goal.invariant-loop-place
invariant-loop-place l = Filled (key_word l.key) l.words (8 * l.turn + l.place)

abbrev pub invariant-loop-i : goal.invariant-loop-i
invariant-loop-i l = Filled (key_word l.key) l.words l.i × (48 ≤ l.i)
