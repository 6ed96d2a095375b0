-- What closing and opening make of each other's work. Assumes nothing.
use Rattle.std.specs.Prelude.{◌≡◌, ℕ, List, ◌++◌, length, drop, take, Some, Result, Ok, Err}
use Rattle.refusals.specs.declared.reasons.Refusal.{Refusal}
use Rattle.ciphers.specs.Maps.{SameMap}
use Rattle.chaining.specs.Runs.{Bytes}
use Rattle.traces.specs.declared.headers.Header.{Header}
use Rattle.traces.specs.declared.headers.Label.{Label}
use Rattle.traces.specs.declared.opening.Opened.{Opened}
use Rattle.traces.specs.Closing.{within}
use Rattle.traces.specs.Files.{Closed}
use Rattle.traces.specs.Headers.{label_of}
use Rattle.traces.specs.Opening.{Gives, Opens, judged_plain, start_of}

-- what was closed is given back: the label, the start, which stands in the file, and the plain, where there is room for it
pub record GivenBack (label : Label) (start plain file before : List ℕ) (result : Result Opened Refusal) (after : List ℕ) : Type 0 where
  pub header : Header
  pub same_label : label_of header ≡ label
  pub same_start : start_of file ≡ start
  pub same_plain : Gives header (judged_plain (Some plain) (length before)) before result after

-- opened under the map S, whatever was closed under a map that is the same is given back
abbrev pub GivesBack : (ℕ → ℕ) → List ℕ → List ℕ → Result Opened Refusal → List ℕ → Type 0
GivesBack S file before result after =
    (f : ℕ → ℕ) (label : Label) (start plain : List ℕ) → SameMap f S → Closed f label start plain file → GivenBack label start plain file before result after

-- the file was opened, under the map S, to a label, a start and a plain
pub record OpenedTo (S : ℕ → ℕ) (file : List ℕ) (label : Label) (start plain : List ℕ) : Type 0 where
  pub bytes : Bytes file
  pub before : List ℕ
  pub opened : Opened
  pub after : List ℕ
  pub opens : Opens S file before (Ok opened) after
  pub same_label : label_of opened.header ≡ label
  pub same_start : start_of file ≡ start
  pub same_plain : take opened.length after ≡ plain

-- what is answered and left of an output once the room for a file is judged; refused, it is as it was
abbrev pub WritesBy : Result ℕ Refusal → List ℕ → List ℕ → Result ℕ Refusal → List ℕ → Type 0
WritesBy (Err refusal) file before result after = (result ≡ Err refusal) × (after ≡ before)
WritesBy (Ok n) file before result after = (result ≡ Ok n) × (after ≡ file ++ drop n before)

-- the file is written to the start of an output, where there is room for it
abbrev pub Writes : List ℕ → List ℕ → Result ℕ Refusal → List ℕ → Type 0
Writes file before = WritesBy (within (length before) (length file)) file before

-- closed under the map S, what a file was opened to under a map that is the same makes the file again
abbrev pub MakesAgain : (ℕ → ℕ) → Label → List ℕ → List ℕ → List ℕ → Result ℕ Refusal → List ℕ → Type 0
MakesAgain S label start plain before result after =
    (f : ℕ → ℕ) (file : List ℕ) → SameMap f S → OpenedTo f file label start plain → Writes file before result after
