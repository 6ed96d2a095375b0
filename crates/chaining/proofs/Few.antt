-- Runs of one block and of four. Assumes nothing.
use Rattle.std.proofs.Common.{◌≡◌, ℕ, zero, suc, ◌/◌, ◌<◌, List, length, sym, ap, ◌∙◌, subst, arith}
use Rattle.std.specs.Int.{w64, from_be_bytes}
use Rattle.std.proofs.lemmas.List.{take_all}
use Rattle.chaining.specs.declared.direction.Direction.TheVariants.{Sealing, Opening}
use Rattle.chaining.specs.declared.direction.Direction.{Direction}
use Rattle.chaining.specs.Runs.{Bytes, block, before, chained, sealed_of, Rewritten, chain_after}
use Rattle.chaining.specs.internal.Fours.{four_of, opened_four}

-- eight bytes are a block
only_block : (xs : List ℕ) → length xs ≡ 8 → block xs 0 ≡ from_be_bytes w64 xs
only_block xs l = ap (from_be_bytes w64) (take_all 8 xs (omega (arith, l)))

pub one : (d : Direction) (S : ℕ → ℕ) (r : ℕ) (xs ys : List ℕ) → Bytes xs → Bytes ys → length xs ≡ 8 → length ys ≡ 8 → from_be_bytes w64 ys ≡ chained d S r (from_be_bytes w64 xs) → Rewritten d S r xs ys
one d S r xs ys b b' l l' e = record {
  brought = b;
  left = b';
  len = l' ∙ sym l;
  blocks = λ i p.
      let first : 0 ≡ i = omega (arith, l) in
      subst (λ k. block ys k ≡ chained d S (before r (sealed_of d xs ys) k) (block xs k)) first
      (only_block ys l' ∙ e ∙ ap (chained d S r) (sym (only_block xs l)));
}

pub chain_one : (d : Direction) (r : ℕ) (xs ys : List ℕ) → length xs ≡ 8 → length ys ≡ 8 → sealed_of d (from_be_bytes w64 xs) (from_be_bytes w64 ys) ≡ chain_after d r xs ys
chain_one Sealing r xs ys l l' =
    let e : 1 ≡ length xs / 8 = omega (arith, l) in
    sym (only_block ys l') ∙ ap (before r ys) e
chain_one Opening r xs ys l l' =
    let e : 1 ≡ length xs / 8 = omega (arith, l) in
    sym (only_block xs l) ∙ ap (before r xs) e

opened_at : (S : ℕ → ℕ) (r : ℕ) (xs ys : List ℕ) → four_of ys ≡ opened_four S r (four_of xs) → (i : ℕ) → i < 4 → block ys i ≡ chained Opening S (before r xs i) (block xs i)
opened_at S r xs ys e zero p = ap (λ f. f.first) e
opened_at S r xs ys e (suc zero) p = ap (λ f. f.second) e
opened_at S r xs ys e (suc (suc zero)) p = ap (λ f. f.third) e
opened_at S r xs ys e (suc (suc (suc zero))) p = ap (λ f. f.fourth) e
opened_at S r xs ys e (suc (suc (suc (suc i)))) p = absurd (omega arith)

pub four : (S : ℕ → ℕ) (r : ℕ) (xs ys : List ℕ) → Bytes xs → Bytes ys → length xs ≡ 32 → length ys ≡ 32 → four_of ys ≡ opened_four S r (four_of xs) → Rewritten Opening S r xs ys
four S r xs ys b b' l l' e = record {
  brought = b;
  left = b';
  len = l' ∙ sym l;
  blocks = λ i p. opened_at S r xs ys e i (omega (arith, l));
}

pub chain_four : (r : ℕ) (xs ys : List ℕ) → length xs ≡ 32 → (four_of xs).fourth ≡ chain_after Opening r xs ys
chain_four r xs ys l =
    let e : 4 ≡ length xs / 8 = omega (arith, l) in
    ap (before r xs) e
