-- A run that was sealed is opened to what it was, and one that was opened is sealed to what it was. Assumes nothing.
use Rattle.std.proofs.Common.{◌≡◌, ℕ, zero, suc, ◌/◌, ◌%◌, ◌^◌, ◌<◌, ◌≤◌, List, length, sym, refl, ap, ◌∙◌, subst, ap₂, arith}
use Rattle.std.specs.Int.Bits.{bit_xor}
use Rattle.std.proofs.lemmas.Nat.{xor_lt}
use Rattle.ciphers.specs.Maps.{Inverse}
use Rattle.ciphers.proofs.Blocks.{xor_twice}
use Rattle.chaining.specs.declared.direction.Direction.TheVariants.{Sealing, Opening}
use Rattle.chaining.specs.declared.direction.Direction.{Direction}
use Rattle.chaining.specs.Benches.{other}
use Rattle.chaining.specs.Runs.{Bytes, block, before, Rewritten, chain_after}
use Rattle.chaining.proofs.Bytes.{block_lt, same_bytes}

-- a sealed block before another is a block
pub before_lt : (r : ℕ) (xs : List ℕ) (i : ℕ) → r < 2 ^ 64 → Bytes xs → before r xs i < 2 ^ 64
before_lt r xs zero p b = p
before_lt r xs (suc i) p b = block_lt xs i b

-- block by block, where the sealed blocks before are the same
block_opened : (S T : ℕ → ℕ) (a p : ℕ) → Inverse S T → a < 2 ^ 64 → p < 2 ^ 64 → bit_xor (T (S (bit_xor a p))) p ≡ a
block_opened S T a p i l m = ap (λ n. bit_xor n p) (i.back (bit_xor a p) (xor_lt 64 a p l m)) ∙ xor_twice a p

block_sealed : (S T : ℕ → ℕ) (a p : ℕ) → Inverse S T → a < 2 ^ 64 → T (bit_xor (bit_xor (S a) p) p) ≡ a
block_sealed S T a p i l = ap T (xor_twice (S a) p) ∙ i.back a l

opened : (S T : ℕ → ℕ) (r : ℕ) (xs ys zs : List ℕ) → Inverse S T → r < 2 ^ 64 → Rewritten Sealing S r xs ys → Rewritten Opening T r ys zs → (i : ℕ) → i < length xs / 8 → block zs i ≡ block xs i
opened S T r xs ys zs inv p v w i q =
    w.blocks i (subst (λ n. i < n / 8) (sym v.len) q)
    ∙ ap (λ n. bit_xor (T n) (before r ys i)) (v.blocks i q)
    ∙ block_opened S T (block xs i) (before r ys i) inv (block_lt xs i v.brought) (before_lt r ys i p v.left)

-- the other way a block needs the one before it, so they are given back one after another
sealed_next : (S T : ℕ → ℕ) (r : ℕ) (xs ys zs : List ℕ) → Inverse S T → Rewritten Opening S r xs ys → Rewritten Sealing T r ys zs → (i : ℕ) → i < length xs / 8 → before r zs i ≡ before r xs i → block zs i ≡ block xs i
sealed_next S T r xs ys zs inv v w i q e =
    w.blocks i (subst (λ n. i < n / 8) (sym v.len) q)
    ∙ ap₂ (λ m n. T (bit_xor m n)) (v.blocks i q) e
    ∙ block_sealed S T (block xs i) (before r xs i) inv (block_lt xs i v.brought)

sealed_before : (S T : ℕ → ℕ) (r : ℕ) (xs ys zs : List ℕ) → Inverse S T → Rewritten Opening S r xs ys → Rewritten Sealing T r ys zs → (i : ℕ) → i ≤ length xs / 8 → before r zs i ≡ before r xs i
sealed_before S T r xs ys zs inv v w zero q = refl
sealed_before S T r xs ys zs inv v w (suc i) q = sealed_next S T r xs ys zs inv v w i (omega arith) (sealed_before S T r xs ys zs inv v w i (omega arith))

-- what a bench made of a run, one that faces it takes back
pub run_back : (d : Direction) (S T : ℕ → ℕ) (r : ℕ) (xs ys zs : List ℕ) → Inverse S T → r < 2 ^ 64 → length xs % 8 ≡ 0 → Rewritten d S r xs ys → Rewritten (other d) T r ys zs → zs ≡ xs
run_back Sealing S T r xs ys zs inv p m v w = same_bytes xs zs v.brought w.left (w.len ∙ v.len) m (opened S T r xs ys zs inv p v w)
run_back Opening S T r xs ys zs inv p m v w = same_bytes xs zs v.brought w.left (w.len ∙ v.len) m (λ i q. sealed_next S T r xs ys zs inv v w i q (sealed_before S T r xs ys zs inv v w i (omega arith)))

-- and both are left with one chain block
pub chain_same : (d : Direction) (r : ℕ) (xs ys zs : List ℕ) → length ys ≡ length xs → zs ≡ xs → chain_after (other d) r ys zs ≡ chain_after d r xs ys
chain_same Sealing r xs ys zs l e = ap (λ n. before r ys (n / 8)) l
chain_same Opening r xs ys zs l e = ap₂ (λ us n. before r us (n / 8)) e l

pub chain_lt : (d : Direction) (r : ℕ) (xs ys : List ℕ) → r < 2 ^ 64 → Bytes xs → Bytes ys → chain_after d r xs ys < 2 ^ 64
chain_lt Sealing r xs ys p b b' = before_lt r ys (length xs / 8) p b'
chain_lt Opening r xs ys p b b' = before_lt r xs (length xs / 8) p b
