-- A product of which one word is 0, and one of which neither is. Assumes nothing.
use Rattle.std.proofs.Common.{◌≡◌, ℕ, zero, suc, ◌+◌, ◌-◌, ◌*◌, ◌%◌, ◌^◌, ◌<◌, refl, ◌∙◌, arith}
use Rattle.products.specs.Products.{product}
use Rattle.products.specs.internal.Residues.{product_comm}

-- 1 less both words, modulo 65,536
abbrev pub less_both : ℕ → ℕ → ℕ
less_both x y = ((1 + (65536 - x)) % 65536 + (65536 - y)) % 65536

zero_left : (x : ℕ) → x < 2 ^ 16 → product 0 x ≡ less_both 0 x
unfolding product
zero_left zero p = refl
zero_left (suc x) p = omega arith

zero_right : (x : ℕ) → x < 2 ^ 16 → product x 0 ≡ less_both x 0
zero_right x p = product_comm x 0 ∙ zero_left x p ∙ omega arith

pub with_zero : (x y : ℕ) → x < 2 ^ 16 → y < 2 ^ 16 → x * y ≡ 0 → product x y ≡ less_both x y
with_zero zero y p q z = zero_left y q
with_zero (suc x) zero p q z = zero_right (suc x) p
with_zero (suc x) (suc y) p q z = absurd (omega (arith, z))

pub without_zero : (x y : ℕ) → (x * y ≡ 0 → ⊥) → product x y ≡ x * y % 65537 % 65536
unfolding product
without_zero zero y some = absurd (some (omega arith))
without_zero (suc x) zero some = absurd (some (omega arith))
without_zero (suc x) (suc y) some = refl
