-- Four layers one after another. Assumes nothing.
use Rattle.std.proofs.Common.{◌≡◌, ℕ, ◌^◌, ◌<◌, List, [], ◌∷◌, length, refl, sym, ◌∙◌, arith}
use Rattle.ciphers.specs.Maps.{SameMap}
use Rattle.plans.specs.declared.stages.Stage.{Stage}
use Rattle.piles.specs.declared.layers.Layer.{Layer}
use Rattle.piles.specs.Keyed.{sealed_by_all}
use Rattle.piles.specs.internal.Layers.{layered}

-- no stage is left after the last
none_left : (stages : List Stage) (key : List ℕ) (b : ℕ) → length stages ≡ 0 → sealed_by_all stages key b ≡ b
none_left [] key b e = refl
none_left (stage ∷ stages) key b e = absurd (omega (arith, e))

-- a step takes a layer off what is left of the stages and of the key, and together they make the same of every block
abbrev Taken : List Stage → List ℕ → Layer → List Stage → List ℕ → Type 0
Taken stages key layer stages_left key_left = (b : ℕ) → b < 2 ^ 64 → sealed_by_all stages key b ≡ sealed_by_all stages_left key_left (layered layer b)

abbrev Keeps : Layer → Type 0
Keeps layer = (b : ℕ) → b < 2 ^ 64 → layered layer b < 2 ^ 64

pub four : (l1 l2 l3 l4 : Layer) (s0 s1 s2 s3 s4 : List Stage) (k0 k1 k2 k3 k4 : List ℕ)
    → Taken s0 k0 l1 s1 k1 → Keeps l1 → Taken s1 k1 l2 s2 k2 → Keeps l2 → Taken s2 k2 l3 s3 k3 → Keeps l3 → Taken s3 k3 l4 s4 k4
    → length s4 ≡ 0 → SameMap (λ b. layered l4 (layered l3 (layered l2 (layered l1 b)))) (sealed_by_all s0 k0)
four l1 l2 l3 l4 s0 s1 s2 s3 s4 k0 k1 k2 k3 k4 t1 f1 t2 f2 t3 f3 t4 e b l =
    let b1 = f1 b l in
    let b2 = f2 (layered l1 b) b1 in
    let b3 = f3 (layered l2 (layered l1 b)) b2 in
    sym (t1 b l ∙ t2 _ b1 ∙ t3 _ b2 ∙ t4 _ b3 ∙ none_left s4 k4 _ e)
