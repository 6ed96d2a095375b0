-- The words of a turned network, round by round. Assumes nothing.
use Rattle.std.proofs.Common.{◌≡◌, ℕ, zero, suc, ◌+◌, ◌-◌, ◌<◌, ◌≤◌, List, [], ◌∷◌, length, reverse, slice_index_or, refl, ap, ◌∙◌, arith}
use Rattle.std.proofs.lemmas.List.{get_or-reverse, length-reverse}
use Rattle.four_words.specs.declared.words.BoxWords.{BoxWords}
use Rattle.four_words.specs.declared.words.RoundWords.{RoundWords}
use Rattle.four_words.specs.Joining.{Groups, inverses}
use Rattle.four_words.specs.Keying.{Key}
use Rattle.four_words.specs.Quarters.{exchanged}
use Rattle.four_words.specs.Turning.{TurnedWords, last_mixing, preceded, round_of, rounds_in, turned_key}

module _ (G : Groups) where
  length_preceded : (m : BoxWords) (ks : List RoundWords) → length (preceded G m ks) ≡ length ks
  unfolding preceded
  length_preceded m [] = refl
  length_preceded m (k ∷ ks) = ap suc (length_preceded k.mixing ks)

  joins_preceded : (m : BoxWords) (ks : List RoundWords) (i : ℕ) (d e : RoundWords) → i < length ks
      → (slice_index_or (preceded G m ks) i d).joins ≡ inverses G (exchanged (slice_index_or ks i e).joins)
  unfolding preceded
  joins_preceded m [] i d e l = absurd (omega (arith, l))
  joins_preceded m (k ∷ ks) zero d e l = refl
  joins_preceded m (k ∷ ks) (suc i) d e l = joins_preceded k.mixing ks i d e (omega (arith, l))

  -- k is the round before the others
  mixing_preceded : (k : RoundWords) (ks : List RoundWords) (i : ℕ) (d e : RoundWords) → i < length ks
      → (slice_index_or (preceded G k.mixing ks) i d).mixing ≡ (slice_index_or (k ∷ ks) i e).mixing
  unfolding preceded
  mixing_preceded k [] i d e l = absurd (omega (arith, l))
  mixing_preceded k (j ∷ ks) zero d e l = refl
  mixing_preceded k (j ∷ ks) (suc i) d e l = mixing_preceded j ks i d e (omega (arith, l))

  last_at : (k : RoundWords) (ks : List RoundWords) (e : RoundWords) → last_mixing k.mixing ks ≡ (slice_index_or (k ∷ ks) (length ks) e).mixing
  unfolding last_mixing
  last_at k [] e = refl
  last_at k (j ∷ ks) e = last_at j ks e

  module _ (k : Key) where
    -- a later round of the turned network is one of the others, counted from the last
    from_last : (r : ℕ) → 2 ≤ r → r ≤ rounds_in k
        → round_of (turned_key G k) r ≡ slice_index_or (preceded G k.first.mixing k.others) (length k.others + 1 - r) (turned_key G k).first
    from_last r p q =
        let P = preceded G k.first.mixing k.others in
        let n = length_preceded k.first.mixing k.others in
        ap (λ i. slice_index_or ((turned_key G k).first ∷ reverse P) i (turned_key G k).first) {x = r - 1} {y = suc (r - 2)} (omega (arith, p))
        ∙ get_or-reverse P (r - 2) (turned_key G k).first (omega (arith, p, q, n))
        ∙ ap (λ i. slice_index_or P i (turned_key G k).first) (omega (arith, p, q, n))

    later_joins : (r : ℕ) → 2 ≤ r → r ≤ rounds_in k → (round_of (turned_key G k) r).joins ≡ inverses G (exchanged (round_of k (rounds_in k + 2 - r)).joins)
    later_joins r p q =
        ap (λ x. x.joins) (from_last r p q)
        ∙ joins_preceded k.first.mixing k.others (length k.others + 1 - r) (turned_key G k).first k.first (omega (arith, p, q))
        ∙ ap (λ i. inverses G (exchanged (slice_index_or (k.first ∷ k.others) i k.first).joins)) {x = suc (length k.others + 1 - r)} (omega (arith, p, q))

    mixings : (r : ℕ) → 1 ≤ r → r ≤ rounds_in k → (round_of (turned_key G k) r).mixing ≡ (round_of k (rounds_in k + 1 - r)).mixing
    mixings zero p q = absurd (omega (arith, p))
    mixings (suc zero) p q =
        last_at k.first k.others k.first ∙ ap (λ i. (slice_index_or (k.first ∷ k.others) i k.first).mixing) (omega arith)
    mixings (suc (suc r)) p q =
        ap (λ x. x.mixing) (from_last (suc (suc r)) (omega arith) q)
        ∙ mixing_preceded k.first k.others (length k.others + 1 - suc (suc r)) (turned_key G k).first k.first (omega (arith, q))
        ∙ ap (λ i. (slice_index_or (k.first ∷ k.others) i k.first).mixing) (omega (arith, q))

    pub turned_words : TurnedWords G k (turned_key G k)
    turned_words = record {
      rounds = ap suc (length-reverse (preceded G k.first.mixing k.others) ∙ length_preceded k.first.mixing k.others);
      first = refl;
      later = later_joins;
      mixing = mixings;
      closing = refl;
    }
