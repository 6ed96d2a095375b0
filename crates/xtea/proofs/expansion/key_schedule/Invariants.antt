-- What the loop of `key_schedule` keeps. Assumes nothing.
use Rattle.std.proofs.Common.{◌≡◌, ◌*◌, length}
use Rattle.xtea.specs.Xtea.{words_of}
use Rattle.xtea.proofs.expansion.key_schedule.Given as goal

-- the words are those of the cycles so far
abbrev pub invariant-loop-cycle : goal.invariant-loop-cycle
invariant-loop-cycle l = (length l.words.items ≡ 2 * l.cycle) × (l.words.items ≡ words_of l.key l.cycle)
