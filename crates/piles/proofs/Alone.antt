-- A stage alone takes all of the key. Assumes nothing.
use Rattle.std.proofs.Common.{◌≡◌, ℕ, List, [], ◌∷◌, length, take, arith}
use Rattle.std.proofs.lemmas.List.{take_all}
use Rattle.std.specs.List.{sum_by}
use Rattle.plans.specs.declared.stages.Stage.{Stage}
use Rattle.plans.specs.Stages.{key_length}

pub alone : (stage : Stage) (key : List ℕ) → length key ≡ sum_by key_length (stage ∷ []) → take (key_length stage) key ≡ key
alone stage key e = take_all (key_length stage) key (omega (arith, e))
