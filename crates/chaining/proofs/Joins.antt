-- Runs that are rewritten one after another. Assumes nothing.
use Rattle.std.proofs.Common.{◌≡◌, ℕ, zero, suc, ◌+◌, ◌-◌, ◌*◌, ◌/◌, ◌%◌, ◌<◌, ◌≤◌, List, ◌++◌, length, take, drop, sym, refl, ap, ◌∙◌, subst, ap₂, ⊎_elim, arith}
use Rattle.std.specs.Int.{w64, from_be_bytes}
use Rattle.std.proofs.lemmas.Bool.{cases_lt}
use Rattle.std.proofs.lemmas.List.{take-append-le, drop_at, drop-drop, get_or_append_left, get_or-append_right, length-append}
use Rattle.std.proofs.lemmas.Slice.{between_is}
use Rattle.chaining.specs.declared.direction.Direction.TheVariants.{Sealing, Opening}
use Rattle.chaining.specs.declared.direction.Direction.{Direction}
use Rattle.chaining.specs.Runs.{Bytes, block, before, chained, sealed_of, Rewritten, chain_after}

bytes_joined : (us vs : List ℕ) → Bytes us → Bytes vs → Bytes (us ++ vs)
bytes_joined us vs b b' i = ⊎_elim
    (λ p. subst (λ x. x < 256) (sym (get_or_append_left us vs 0 i p)) (b i))
    (λ p. subst (λ x. x < 256) (sym (get_or-append_right us vs (length us) i 0 refl p)) (b' (i - length us)))
    (cases_lt i (length us))

block_front : (us vs : List ℕ) (i : ℕ) → 8 * i + 8 ≤ length us → block (us ++ vs) i ≡ block us i
block_front us vs i p = ap (from_be_bytes w64)
    (between_is (us ++ vs) (8 * i) (8 * i + 8) ∙ ap (drop (8 * i)) (take-append-le (8 * i + 8) us vs p) ∙ sym (between_is us (8 * i) (8 * i + 8)))

block_back : (us vs : List ℕ) (n i : ℕ) → length us ≡ 8 * n → block (us ++ vs) (n + i) ≡ block vs i
block_back us vs n i l =
    let here : 8 * (n + i) ≡ 8 * n + 8 * i = omega arith in
    let width : 8 * (n + i) + 8 - 8 * (n + i) ≡ 8 * i + 8 - 8 * i = omega arith in
    ap (from_be_bytes w64)
    (ap₂ (λ w k. take w (drop k (us ++ vs))) width here
    ∙ ap (take (8 * i + 8 - 8 * i)) (sym (drop-drop (8 * i) (8 * n) (us ++ vs)) ∙ ap (drop (8 * i)) (drop_at us vs (8 * n) l)))

before_front : (r : ℕ) (us vs : List ℕ) (i : ℕ) → 8 * i ≤ length us → before r (us ++ vs) i ≡ before r us i
before_front r us vs zero p = refl
before_front r us vs (suc i) p = block_front us vs i (omega arith)

before_back : (r : ℕ) (us vs : List ℕ) (n i : ℕ) → length us ≡ 8 * n → before r (us ++ vs) (n + i) ≡ before (before r us n) vs i
before_back r us vs n zero l =
    let e : n + zero ≡ n = omega arith in
    ap (before r (us ++ vs)) e ∙ before_front r us vs n (omega arith)
before_back r us vs n (suc i) l =
    let e : suc (n + i) ≡ n + suc i = omega arith in
    subst (λ k. before r (us ++ vs) k ≡ block vs i) e (block_back us vs n i l)

sealed_joined : (d : Direction) (xs ys us vs : List ℕ) → sealed_of d (xs ++ us) (ys ++ vs) ≡ sealed_of d xs ys ++ sealed_of d us vs
sealed_joined Sealing xs ys us vs = refl
sealed_joined Opening xs ys us vs = refl

sealed_length : (d : Direction) (xs ys : List ℕ) → length ys ≡ length xs → length (sealed_of d xs ys) ≡ length xs
sealed_length Sealing xs ys l = l
sealed_length Opening xs ys l = refl

-- a run of n blocks is rewritten, and then another after the chain block that it leaves
module _ (d : Direction) (S : ℕ → ℕ) (r : ℕ) (xs ys us vs : List ℕ) (n : ℕ) (whole : length xs ≡ 8 * n) (a : Rewritten d S r xs ys) (b : Rewritten d S (chain_after d r xs ys) us vs) where
  blocks_of_first : length xs / 8 ≡ n
  blocks_of_first = omega (arith, whole)

  sealed_whole : length (sealed_of d xs ys) ≡ 8 * n
  sealed_whole = sealed_length d xs ys a.len ∙ whole

  chain_first : (i : ℕ) → i ≤ n → before r (sealed_of d (xs ++ us) (ys ++ vs)) i ≡ before r (sealed_of d xs ys) i
  chain_first i p = ap (λ s. before r s i) (sealed_joined d xs ys us vs) ∙ before_front r (sealed_of d xs ys) (sealed_of d us vs) i (omega (arith, sealed_whole))

  chain_second : (i : ℕ) → before r (sealed_of d (xs ++ us) (ys ++ vs)) (n + i) ≡ before (chain_after d r xs ys) (sealed_of d us vs) i
  chain_second i =
      ap (λ s. before r s (n + i)) (sealed_joined d xs ys us vs)
      ∙ before_back r (sealed_of d xs ys) (sealed_of d us vs) n i sealed_whole
      ∙ ap (λ m. before (before r (sealed_of d xs ys) m) (sealed_of d us vs) i) (sym blocks_of_first)

  first : (i : ℕ) → i < n → block (ys ++ vs) i ≡ chained d S (before r (sealed_of d (xs ++ us) (ys ++ vs)) i) (block (xs ++ us) i)
  first i p =
      block_front ys vs i (omega (arith, whole, a.len))
      ∙ a.blocks i (omega (arith, whole))
      ∙ ap₂ (chained d S) (sym (chain_first i (omega arith))) (sym (block_front xs us i (omega (arith, whole))))

  second : (i : ℕ) → i < length us / 8 → block (ys ++ vs) (n + i) ≡ chained d S (before r (sealed_of d (xs ++ us) (ys ++ vs)) (n + i)) (block (xs ++ us) (n + i))
  second i p =
      block_back ys vs n i (a.len ∙ whole)
      ∙ b.blocks i p
      ∙ ap₂ (chained d S) (sym (chain_second i)) (sym (block_back xs us n i whole))

  pub joined : Rewritten d S r (xs ++ us) (ys ++ vs)
  joined = record {
    brought = bytes_joined xs us a.brought b.brought;
    left = bytes_joined ys vs a.left b.left;
    len = length-append ys vs ∙ ap₂ (λ m k. m + k) a.len b.len ∙ sym (length-append xs us);
    blocks = λ i p. ⊎_elim
        (λ q. first i q)
        (λ q.
        let e : n + (i - n) ≡ i = omega arith in
        subst (λ k. block (ys ++ vs) k ≡ chained d S (before r (sealed_of d (xs ++ us) (ys ++ vs)) k) (block (xs ++ us) k)) e
        (second (i - n) (omega (arith, whole, length-append xs us))))
        (cases_lt i n);
  }

  pub chain_joined : chain_after d r (xs ++ us) (ys ++ vs) ≡ chain_after d (chain_after d r xs ys) us vs
  chain_joined =
      let e : length (xs ++ us) / 8 ≡ n + length us / 8 = omega (arith, whole, length-append xs us) in
      ap (before r (sealed_of d (xs ++ us) (ys ++ vs))) e ∙ chain_second (length us / 8)

-- the run all is xs and then us
pub both : (d e : Direction) (S : ℕ → ℕ) (r last : ℕ) (all xs ys us vs : List ℕ) → Rewritten d S r xs ys → Rewritten e S last us vs → e ≡ d → last ≡ chain_after d r xs ys → all ≡ xs ++ us → length xs % 8 ≡ 0 → Rewritten d S r all (ys ++ vs)
both d e S r last all xs ys us vs a b same chain parts whole =
    let b' : Rewritten d S (chain_after d r xs ys) us vs = subst (λ l. Rewritten d S l us vs) chain (subst (λ k. Rewritten k S last us vs) same b) in
    subst (λ zs. Rewritten d S r zs (ys ++ vs)) (sym parts) (joined d S r xs ys us vs (length xs / 8) (omega arith) a b')

pub chain_both : (d e : Direction) (S : ℕ → ℕ) (r last next : ℕ) (all xs ys us vs : List ℕ) → Rewritten d S r xs ys → Rewritten e S last us vs → e ≡ d → last ≡ chain_after d r xs ys → all ≡ xs ++ us → length xs % 8 ≡ 0 → next ≡ chain_after e last us vs → next ≡ chain_after d r all (ys ++ vs)
chain_both d e S r last next all xs ys us vs a b same chain parts whole then =
    let b' : Rewritten d S (chain_after d r xs ys) us vs = subst (λ l. Rewritten d S l us vs) chain (subst (λ k. Rewritten k S last us vs) same b) in
    then
    ∙ ap₂ (λ k l. chain_after k l us vs) same chain
    ∙ sym (chain_joined d S r xs ys us vs (length xs / 8) (omega arith) a b')
    ∙ ap (λ zs. chain_after d r zs (ys ++ vs)) (sym parts)
