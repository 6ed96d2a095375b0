-- What the loop of `number` keeps. Assumes nothing.
use Rattle.std.proofs.Common.{◌≡◌, ◌^◌, ◌<◌, drop}
use Rattle.known_answers.specs.Hex.{number_of}
use Rattle.known_answers.proofs.Digits.{after}
use Rattle.known_answers.proofs.hex.number.Given as goal

-- what the digits so far write fits them, and what is left after it is what all write
abbrev pub invariant-loop-c : goal.invariant-loop-c
invariant-loop-c l = (l.value < 16 ^ l.c-index) × (after l.value (drop l.c-index l.digits) ≡ number_of l.digits)
