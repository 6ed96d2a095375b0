-- `number` meets its contract. Assumes nothing.
use Rattle.std.proofs.Common.{arith}
use Rattle.known_answers.proofs.Digits.{room}
use Rattle.known_answers.proofs.hex.number.Goals as goal

pub grown-requires : goal.grown-requires
grown-requires c = room c.loop-c.value c.loop-c.c-index c.loop-c.invariant.0 (omega arith)
