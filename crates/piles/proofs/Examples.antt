-- The definitions at a few piles: each is computed. Assumes nothing.
use Rattle.std.proofs.Common.{◌≡◌, ℕ, List, [], ◌∷◌, ◌++◌, replicate, codes, Ok, Err, refl}
use Rattle.refusals.specs.declared.reasons.Refusal.TheVariants.{UnknownName, KeyLength}
use Rattle.plans.specs.declared.stages.Stage.TheVariants.{Des, Wxor, Wadd}
use Rattle.piles.specs.Fitting.{fitting}
use Rattle.piles.specs.Keyed.{sealed_by_all}

abbrev ones : List ℕ
ones = replicate 8 255

-- 1 in either half
abbrev one_each : List ℕ
one_each = 0 ∷ 0 ∷ 0 ∷ 1 ∷ 0 ∷ 0 ∷ 0 ∷ 1 ∷ []

xor_then_sum : sealed_by_all (Wxor ∷ Wadd ∷ []) (ones ++ one_each) 0 ≡ 0
xor_then_sum = refl

sum_then_xor : sealed_by_all (Wadd ∷ Wxor ∷ []) (one_each ++ ones) 0 ≡ 0xFFFFFFFEFFFFFFFE
sum_then_xor = refl

first_key_first : sealed_by_all (Wadd ∷ Wxor ∷ []) (ones ++ one_each) 1 ≡ 0xFFFFFFFE00000001
first_key_first = refl

enough : fitting (codes "des wxor") (ones ++ ones) ≡ Ok (Des ∷ Wxor ∷ [])
enough = refl

too_short : fitting (codes "des") (replicate 7 0) ≡ Err KeyLength
too_short = refl

too_long : fitting (codes "des") (replicate 9 0) ≡ Err KeyLength
too_long = refl

description_first : fitting (codes "foo") [] ≡ Err (UnknownName 0)
description_first = refl
