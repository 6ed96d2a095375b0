-- What opening a trace file does. Assumes nothing.
use Rattle.std.specs.Prelude.{◌≡◌, ℕ, ◌%◌, ◌||◌, List, ◌++◌, length, drop, slice_range, Option, Some, None, Result, Ok, Err, nat_lt, ◌==◌, if◌then◌else◌}
use Rattle.refusals.specs.declared.reasons.Refusal.TheVariants.{FileLength, BadPadding, OutputTooShort}
use Rattle.refusals.specs.declared.reasons.Refusal.{Refusal}
use Rattle.chaining.specs.Runs.{block}
use Rattle.traces.specs.declared.headers.Header.{Header}
use Rattle.traces.specs.declared.opening.Opened.{Opened}
use Rattle.traces.specs.Files.{OnlyRun}
use Rattle.traces.specs.Headers.{header_of}
use Rattle.traces.specs.Padding.{unpadded}

-- the header of a file, or the first reason in number order why it is none
unfoldable pub judged_file : List ℕ → Result Header Refusal
judged_file file =
    if nat_lt (length file) 24 || nat_lt 32784 (length file) then Err FileLength
    else if length file % 8 == 0 then header_of (block file 0)
    else Err FileLength

-- the start of a file
abbrev pub start_of : List ℕ → List ℕ
start_of file = slice_range file 8 16

-- the body of a file
abbrev pub body_of : List ℕ → List ℕ
body_of file = drop 16 file

-- the chain block that the start sets
unfoldable pub chain_of : List ℕ → ℕ
chain_of file = block (start_of file) 0

-- the plain of a run, where it has one and there is room for it
abbrev pub judged_plain : Option (List ℕ) → ℕ → Result (List ℕ) Refusal
judged_plain None room = Err BadPadding
judged_plain (Some plain) room = if nat_lt room (length plain) then Err OutputTooShort else Ok plain

-- what is answered and left of an output: refused, it is as it was; taken, the plain stands at its start
abbrev pub Gives : Header → Result (List ℕ) Refusal → List ℕ → Result Opened Refusal → List ℕ → Type 0
Gives header (Err refusal) before result after = (result ≡ Err refusal) × (after ≡ before)
Gives header (Ok plain) before result after =
    (result ≡ Ok (record { header = header; length = length plain })) × (after ≡ plain ++ drop (length plain) before)

-- a file with a header gives the plain of the one run that is sealed to its body after its start
pub record OpensTo (header : Header) (S : ℕ → ℕ) (file before : List ℕ) (result : Result Opened Refusal) (after : List ℕ) : Type 0 where
  pub run : List ℕ
  pub only : OnlyRun S (chain_of file) (body_of file) run
  pub gives : Gives header (judged_plain (unpadded run) (length before)) before result after

-- the same, once the file is judged; refused, the output is as it was
abbrev pub OpensBy : Result Header Refusal → (ℕ → ℕ) → List ℕ → List ℕ → Result Opened Refusal → List ℕ → Type 0
OpensBy (Err refusal) S file before result after = (result ≡ Err refusal) × (after ≡ before)
OpensBy (Ok header) S file before result after = OpensTo header S file before result after

-- an opening under the map S, into an output
unfoldable pub Opens : (ℕ → ℕ) → List ℕ → List ℕ → Result Opened Refusal → List ℕ → Type 0
Opens S file before result after = OpensBy (judged_file file) S file before result after
