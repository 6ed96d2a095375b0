-- A pile that is not fitted. Assumes nothing.
use Rattle.std.proofs.Common.{ℕ, List, Result, Ok, Err, refl}
use Rattle.refusals.specs.declared.reasons.Refusal.{Refusal}
use Rattle.ciphers.specs.Maps.{SameMap}
use Rattle.plans.specs.declared.stages.Stage.{Stage}
use Rattle.piles.specs.declared.pile.Pile.{Pile}
use Rattle.piles.specs.Fitting.{Answers, map_after}

-- after a refusal the map is the one before
pub kept : (map_of : Pile → ℕ → ℕ) (fit : Result (List Stage) Refusal) (key : List ℕ) (refusal : Refusal) (map : ℕ → ℕ) → Answers map_of fit key (Err refusal) → SameMap map (map_after fit key map)
kept map_of (Ok stages) key refusal map a b p = absurd a
kept map_of (Err told) key refusal map a b p = refl
