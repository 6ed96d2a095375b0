-- What each call answers and leaves. Assumes nothing.
use Rattle.std.specs.Prelude.{◌≡◌, ℕ, Bool, true, false, List, length, Some, Result, Ok, Err}
use Rattle.ciphers.specs.Maps.{Inverse, SameMap}
use Rattle.refusals.specs.declared.reasons.Refusal.{Refusal}
use Rattle.chaining.specs.declared.direction.Direction.TheVariants.{Sealing, Opening}
use Rattle.chaining.specs.declared.direction.Direction.{Direction}
use Rattle.chaining.specs.Benches.{judged_run, judged_start}
use Rattle.chaining.specs.Runs.{Rewritten}
use Rattle.plans.specs.declared.stages.Stage.{Stage}
use Rattle.plans.specs.Plans.{and_then}
use Rattle.piles.specs.Keyed.{sealed_by_all}

-- a call told its caller an outcome, of which P holds
abbrev pub Told : {A R : Type 0} → (Result A Refusal → R) → (Result A Refusal → Type 0) → R → Type 0
Told {A} reply_of P reply = (outcome : Result A Refusal) × (reply ≡ reply_of outcome) × P outcome

-- what is done to some bytes under the pile that stages and a key make; where it can't be fitted, they are as they were
abbrev pub Under : {A : Type 0} → Result (List Stage) Refusal → List ℕ → ((ℕ → ℕ) → List ℕ → Result A Refusal → List ℕ → Type 0) → List ℕ → List ℕ → Result A Refusal → Type 0
Under (Err refusal) key Does before after outcome = (outcome ≡ Err refusal) × (after ≡ before)
Under (Ok stages) key Does before after outcome =
    (S : ℕ → ℕ) × SameMap S (sealed_by_all stages key) × Does S before outcome after

-- which way a pass goes
abbrev pub direction_of : Bool → Direction
direction_of false = Sealing
direction_of true = Opening

-- the map of a bench on a pile with the map S, turned where it opens
abbrev pub MapOf : Direction → (ℕ → ℕ) → (ℕ → ℕ) → Type 0
MapOf Sealing S map = map ≡ S
MapOf Opening S map = Inverse S map

-- a pass of a run that is judged, under the map S; refused, the run is as it was
abbrev pub PassesBy : Result ℕ Refusal → Direction → (ℕ → ℕ) → List ℕ → Result ℕ Refusal → List ℕ → Type 0
PassesBy (Err refusal) d S before outcome after = (outcome ≡ Err refusal) × (after ≡ before)
PassesBy (Ok r) d S before outcome after =
    (map : ℕ → ℕ) × MapOf d S map × (outcome ≡ Ok (length before)) × Rewritten d map r before after

-- a pass of a run after a start, under the map S
unfoldable pub Passes : Direction → List ℕ → (ℕ → ℕ) → List ℕ → Result ℕ Refusal → List ℕ → Type 0
Passes d start S before outcome after =
    PassesBy (and_then (judged_start start) (λ r. judged_run (length before) (Some r))) d S before outcome after
