-- Layers that are turned together seal as the networks between the permutations do. Assumes nothing.
use Rattle.std.proofs.Common.{◌≡◌, ℕ, Bool, true, false, not, [], ◌∷◌, ap, ◌∙◌}
use Rattle.networks.specs.Rounds.{Network}
use Rattle.selections.specs.Selections.{picked}
use Rattle.ciphers.specs.Blocks.{feistel}
use Rattle.ciphers.specs.Maps.{in_turn}
use Rattle.ciphers.specs.internal.Sealing.{composed, permuted_by}
use Rattle.des.proofs.Ciphering.{final_is}
use Rattle.des.specs.Networks.{sealed_by}
use Rattle.des.specs.Tables.{initial, final}

-- two permutations around a map, in either order
around : (reversed : Bool) (inner : ℕ → ℕ) (b : ℕ) → composed reversed (permuted_by reversed initial) (composed reversed inner (permuted_by (not reversed) initial)) b ≡ picked 64 final (inner (picked 64 initial b))
around true inner b = ap (λ t. picked 64 t (inner (picked 64 initial b))) final_is
around false inner b = ap (λ t. picked 64 t (inner (picked 64 initial b))) final_is

module _ (outer first second third : Bool) (together : (first ≡ outer) × (second ≡ outer) × (third ≡ not outer)) where
  layered : (inner : ℕ → ℕ) (b : ℕ) → composed outer (permuted_by first initial) (composed second inner (permuted_by third initial)) b ≡ picked 64 final (inner (picked 64 initial b))
  layered inner b =
      (λ i. composed outer (permuted_by (together.0 i) initial) (composed (together.1 i) inner (permuted_by (together.2 i) initial)) b) ∙ around outer inner b

  pub one_network : (x : ℕ) (N : Network ℕ) (b : ℕ) → x ≡ composed outer (permuted_by first initial) (composed second (feistel N) (permuted_by third initial)) b
      → x ≡ sealed_by (N ∷ []) b
  unfolding sealed_by
  one_network x N b e = e ∙ layered (feistel N) b

  pub three_networks : (x : ℕ) (N M L : Network ℕ) (b : ℕ) → x ≡ composed outer (permuted_by first initial) (composed second (in_turn (feistel N) (feistel M) (feistel L)) (permuted_by third initial)) b
      → x ≡ sealed_by (N ∷ M ∷ L ∷ []) b
  unfolding sealed_by
  three_networks x N M L b e = e ∙ layered (in_turn (feistel N) (feistel M) (feistel L)) b
