-- What becomes of a pile that is fitted. Assumes nothing.
use Rattle.std.specs.Prelude.{◌≡◌, ℕ, List, length, Result, Ok, Err, ◌==◌, if◌then◌else◌}
use Rattle.std.specs.List.{sum_by}
use Rattle.refusals.specs.declared.reasons.Refusal.TheVariants.{KeyLength}
use Rattle.refusals.specs.declared.reasons.Refusal.{Refusal}
use Rattle.ciphers.specs.Maps.{SameMap}
use Rattle.plans.specs.declared.stages.Stage.{Stage}
use Rattle.plans.specs.Plans.{and_then, plan_of}
use Rattle.plans.specs.Stages.{key_length}
use Rattle.piles.specs.declared.pile.Pile.{Pile}
use Rattle.piles.specs.Keyed.{sealed_by_all}

-- the stages, where the key has as many bytes as they take together
abbrev pub with_key : List ℕ → List Stage → Result (List Stage) Refusal
with_key key stages = if length key == sum_by key_length stages then Ok stages else Err KeyLength

-- the stages that a description and a key fit a pile with, or why they do not
abbrev pub fitting : List ℕ → List ℕ → Result (List Stage) Refusal
fitting description key = and_then (plan_of description) (with_key key)

-- what is answered
abbrev pub answer : Result (List Stage) Refusal → Result (Unit {0}) Refusal
answer (Ok stages) = Ok tt
answer (Err refusal) = Err refusal

-- the map afterwards: that of the stages under the key, or the one before
abbrev pub map_after : Result (List Stage) Refusal → List ℕ → (ℕ → ℕ) → ℕ → ℕ
map_after (Ok stages) key before = sealed_by_all stages key
map_after (Err refusal) key before = before

-- the answer is a pile with the map of the stages under the key, or the refusal; map_of gives the map of a pile
abbrev pub Answers : (Pile → ℕ → ℕ) → Result (List Stage) Refusal → List ℕ → Result Pile Refusal → Type 0
Answers map_of (Ok stages) key (Ok pile) = SameMap (map_of pile) (sealed_by_all stages key)
Answers map_of (Ok stages) key (Err refusal) = ⊥
Answers map_of (Err refusal) key (Ok pile) = ⊥
Answers map_of (Err refusal) key (Err answered) = answered ≡ refusal
