-- Stages that are compared one by one. Assumes nothing.
use Rattle.std.proofs.Common.{◌≡◌, Bool, Decides, List, rules}
use Rattle.std.specs.Cmp.Lexicographic.{pointwise}
use Rattle.std.proofs.lemmas.Slice.Eq.{slice_eq-Decides}
use Rattle.plans.specs.declared.stages.Stage.{Stage}
use Rattle.plans.specs.contracts.stages.StagePartialEq.TheImpl.{eq-value}

-- equal stages are one stage
pub one_stage : (a b : Stage) → Decides (eq-value.it a b) (a ≡ b)
one_stage a b = search rules

pub one_list : (xs ys : List Stage) (r : Bool) → r ≡ pointwise eq-value.it xs ys → Decides r (xs ≡ ys)
one_list xs ys r = slice_eq-Decides one_stage xs ys r
