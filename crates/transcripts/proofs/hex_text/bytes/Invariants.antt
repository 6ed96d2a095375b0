-- What the loop of `bytes` keeps. Assumes nothing.
use Rattle.std.proofs.Common.{◌≡◌, vec_items}
use Rattle.known_answers.specs.Hex.{bytes_of}
use Rattle.known_answers.proofs.Digits.{onto}
use Rattle.transcripts.proofs.hex_text.bytes.Given as goal

-- the bytes so far and those to come are the bytes of all
abbrev pub invariant-loop-byte : goal.invariant-loop-byte
invariant-loop-byte l =
    goal.iterator-loop-byte.can_next l.byte-iterator
    × goal.iterator-loop-byte.is_finite l.byte-iterator
    × (onto (vec_items l.read) l.byte-iterator ≡ bytes_of l.digits)
