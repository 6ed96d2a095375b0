-- What makes a group of a join of words. Assumes nothing.
use Rattle.std.specs.Prelude.{◌≡◌}

-- fits says which values are words; the laws hold on all of them, and nothing asks that the join commutes
pub record Lawful {W : Type 0} (fits : W → Type 0) (neutral : W) (joined : W → W → W) (inverted : W → W) : Type 0 where
  pub neutral_fits : fits neutral
  pub join_fits : (x y : W) → fits x → fits y → fits (joined x y)
  pub inverse_fits : (x : W) → fits x → fits (inverted x)
  pub associative : (x y z : W) → fits x → fits y → fits z → joined (joined x y) z ≡ joined x (joined y z)
  pub neutral_left : (x : W) → fits x → joined neutral x ≡ x
  pub neutral_right : (x : W) → fits x → joined x neutral ≡ x
  pub inverse_left : (x : W) → fits x → joined (inverted x) x ≡ neutral
  pub inverse_right : (x : W) → fits x → joined x (inverted x) ≡ neutral
