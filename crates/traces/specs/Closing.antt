-- What closing a trace does. Assumes nothing.
use Rattle.std.specs.Prelude.{◌≡◌, ℕ, List, ◌++◌, length, drop, Result, Ok, Err, nat_lt, if◌then◌else◌}
use Rattle.refusals.specs.declared.reasons.Refusal.TheVariants.{OutputTooShort}
use Rattle.refusals.specs.declared.reasons.Refusal.{Refusal}
use Rattle.traces.specs.declared.headers.Label.{Label}
use Rattle.traces.specs.Files.{Closed, file_length, judged_trace}

-- n bytes, where there is room for them
abbrev pub within : ℕ → ℕ → Result ℕ Refusal
within room n = if nat_lt room n then Err OutputTooShort else Ok n

-- the length of the file of n bytes of plain, where the trace may be closed and there is room for it
abbrev pub judged_length : Result ℕ Refusal → ℕ → ℕ → Result ℕ Refusal
judged_length (Err refusal) n room = Err refusal
judged_length (Ok header) n room = within room (file_length n)

-- the same, from what is brought and the length of the output
abbrev pub judged_closing : Label → List ℕ → List ℕ → ℕ → Result ℕ Refusal
judged_closing label start plain = judged_length (judged_trace label start plain) (length plain)

-- the file of n bytes that a trace is closed to stands at the start of the output, and its length is answered
pub record Wrote (n : ℕ) (S : ℕ → ℕ) (label : Label) (start plain before : List ℕ) (result : Result ℕ Refusal) (after : List ℕ) : Type 0 where
  pub answer : result ≡ Ok n
  pub file : List ℕ
  pub closed : Closed S label start plain file
  pub size : length file ≡ n
  pub output : after ≡ file ++ drop n before

-- what is answered and left of an output once the trace and the room are judged; refused, it is as it was
abbrev pub ClosesBy : Result ℕ Refusal → (ℕ → ℕ) → Label → List ℕ → List ℕ → List ℕ → Result ℕ Refusal → List ℕ → Type 0
ClosesBy (Err refusal) S label start plain before result after = (result ≡ Err refusal) × (after ≡ before)
ClosesBy (Ok n) S label start plain before result after = Wrote n S label start plain before result after

-- a closing under the map S, into an output
abbrev pub Closes : (ℕ → ℕ) → Label → List ℕ → List ℕ → List ℕ → Result ℕ Refusal → List ℕ → Type 0
Closes S label start plain before = ClosesBy (judged_closing label start plain (length before)) S label start plain before
