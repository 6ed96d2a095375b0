-- What the loop of `bytes` keeps. Assumes nothing.
use Rattle.std.proofs.Common.{◌≡◌, ◌+◌, ◌≤◌, length}
use Rattle.known_answers.specs.Hex.{bytes_of}
use Rattle.known_answers.proofs.Digits.{onto}
use Rattle.known_answers.proofs.hex.bytes.Given as goal

-- the bytes so far and those to come are the bytes of all, and there is room for them
abbrev pub invariant-loop-byte : goal.invariant-loop-byte
invariant-loop-byte l =
    goal.iterator-loop-byte.can_next l.byte-iterator
    × goal.iterator-loop-byte.is_finite l.byte-iterator
    × (length l.key + length l.byte-iterator ≤ 96)
    × (onto l.key l.byte-iterator ≡ bytes_of l.digits)
