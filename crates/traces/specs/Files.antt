-- Trace files, and the runs in them. Assumes nothing.
use Rattle.std.specs.Prelude.{◌≡◌, ℕ, ◌+◌, ◌^◌, ◌<◌, List, ◌++◌, length, Result, Ok, Err, nat_lt, ◌==◌, if◌then◌else◌}
use Rattle.std.specs.Int.{to_be_bytes, w64}
use Rattle.refusals.specs.declared.reasons.Refusal.TheVariants.{StartLength, PlainTooLong}
use Rattle.refusals.specs.declared.reasons.Refusal.{Refusal}
use Rattle.chaining.specs.declared.direction.Direction.TheVariants.{Sealing}
use Rattle.chaining.specs.Runs.{Bytes, Rewritten, block}
use Rattle.traces.specs.declared.headers.Label.{Label}
use Rattle.traces.specs.Headers.{labelled}
use Rattle.traces.specs.Padding.{padded, padding}

-- the header of a trace that may be closed, or the first reason in number order why it may not
abbrev pub judged_trace : Label → List ℕ → List ℕ → Result ℕ Refusal
judged_trace label start plain =
    if length start == 8
    then (if nat_lt 32767 (length plain) then Err PlainTooLong else labelled label)
    else Err StartLength

-- the length of the file of a plain of n bytes
abbrev pub file_length : ℕ → ℕ
file_length n = 16 + (n + padding n)

-- the file is a header, a start, and the padded plain as a new bench on S seals it that is restarted with the start
pub record Holds (S : ℕ → ℕ) (header : ℕ) (start plain file : List ℕ) : Type 0 where
  pub start_bytes : Bytes start
  pub body : List ℕ
  pub sealed : Rewritten Sealing S (block start 0) (padded plain) body
  pub bytes : file ≡ to_be_bytes w64 header ++ start ++ body

-- the file is the closing of a label, a start and a plain, which may be closed. A trace number has 32 bits by its type
pub record Closed (S : ℕ → ℕ) (label : Label) (start plain file : List ℕ) : Type 0 where
  pub number : label.number < 2 ^ 32
  pub header : ℕ
  pub taken : judged_trace label start plain ≡ Ok header
  pub holds : Holds S header start plain file

-- of all runs only this one is sealed to the body, under the map S and after the chain block r
pub record OnlyRun (S : ℕ → ℕ) (r : ℕ) (body : List ℕ) (run : List ℕ) : Type 0 where
  pub sealed : Rewritten Sealing S r run body
  pub only : (xs : List ℕ) → Rewritten Sealing S r xs body → xs ≡ run
