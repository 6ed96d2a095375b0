-- Functions that undo each other. Assumes nothing.
use Rattle.std.specs.Prelude.{◌≡◌}

-- on the values of which P holds, f and g give such values and undo each other, in either order
pub record Inverses {X : Type 0} (P : X → Type 0) (f g : X → X) : Type 0 where
  pub keeps : (x : X) → P x → P (f x)
  pub keeps_back : (x : X) → P x → P (g x)
  pub back : (x : X) → P x → g (f x) ≡ x
  pub forth : (x : X) → P x → f (g x) ≡ x
