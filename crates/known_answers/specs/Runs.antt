-- Many lines tried one after another. Assumes nothing.
use Rattle.std.specs.Prelude.{◌≡◌, ℕ, List, [], ◌∷◌, map, Some, None, Option, Err}
use Rattle.known_answers.specs.declared.tally.Fault.TheVariants.{Unreadable}
use Rattle.known_answers.specs.declared.tally.Tally.{Tally}
use Rattle.known_answers.specs.Cut.{lines_of}
use Rattle.known_answers.specs.Tally.{Verdict, counted}
use Rattle.known_answers.specs.Vector.{Reading, reading_of}

-- the verdict on a reading, if there is one
abbrev pub verdict_if : (Reading → Verdict) → Option Reading → Verdict
verdict_if verdict None = Err Unreadable
verdict_if verdict (Some r) = verdict r

-- the verdict on a line, where a reading has the verdict that is given
abbrev pub verdict_of : (Reading → Verdict) → List ℕ → Verdict
verdict_of verdict line = verdict_if verdict (reading_of line)

-- the verdicts on an input, line by line
abbrev pub verdicts_of : (Reading → Verdict) → List ℕ → List Verdict
verdicts_of verdict input = map (verdict_of verdict) (lines_of input)

-- how far a run has come: the verdicts that are left, and the totals so far
pub record Progress : Type 0 where
  pub left : List Verdict
  pub tally : Tally

-- totals with some verdicts more
abbrev pub tallied : Tally → List Verdict → Tally
tallied t [] = t
tallied t (v ∷ vs) = tallied (counted v t) vs

-- a call answers the next verdict and counts it; it answers none, and changes nothing, only where none is left
abbrev pub Steps : Progress → Option Verdict → Progress → Type 0
Steps before None after = (before.left ≡ []) × (after.left ≡ []) × (after.tally ≡ before.tally)
Steps before (Some v) after = (before.left ≡ v ∷ after.left) × (after.tally ≡ counted v before.tally)
