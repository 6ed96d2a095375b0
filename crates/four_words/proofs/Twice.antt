-- A second turn takes the first back. Assumes nothing.
use Rattle.std.proofs.Common.{◌≡◌, ℕ, List, [], ◌∷◌, ◌++◌, reverse, sym, refl, ap, ap₂, ◌∙◌}
use Rattle.std.proofs.lemmas.Grind.{reverse_onto}
use Rattle.std.proofs.lemmas.List.{reverse-reverse}
use Rattle.groups.specs.Laws.{Lawful}
use Rattle.groups.proofs.Cancelling.{inverse_twice}
use Rattle.four_words.specs.declared.words.BoxWords.{BoxWords}
use Rattle.four_words.specs.declared.words.RoundWords.{RoundWords}
use Rattle.four_words.specs.declared.words.Words.{Words}
use Rattle.four_words.specs.Joining.{Groups, inverses}
use Rattle.four_words.specs.Keying.{AllFit, Key, KeyFits}
use Rattle.four_words.specs.Passing.{Network, turned}
use Rattle.four_words.specs.Quarters.{Fit}
use Rattle.four_words.specs.Turning.{last_mixing, preceded, turned_key, turned_round}
use Rattle.four_words.proofs.Undoing.{Fits}

last_push : (m : BoxWords) (ks : List RoundWords) (k : RoundWords) → last_mixing m (ks ++ k ∷ []) ≡ k.mixing
unfolding last_mixing
last_push m [] k = refl
last_push m (j ∷ ks) k = last_push j.mixing ks k

module _ (G : Groups) where
  preceded_push : (m : BoxWords) (ks : List RoundWords) (k : RoundWords) → preceded G m (ks ++ k ∷ []) ≡ preceded G m ks ++ turned_round G (last_mixing m ks) k ∷ []
  unfolding preceded last_mixing
  preceded_push m [] k = refl
  preceded_push m (j ∷ ks) k = ap (λ ks. turned_round G m j ∷ ks) (preceded_push j.mixing ks k)

  reverse_preceded : (m : BoxWords) (k : RoundWords) (ks : List RoundWords) → reverse (preceded G m (k ∷ ks)) ≡ reverse (preceded G k.mixing ks) ++ turned_round G m k ∷ []
  unfolding preceded
  reverse_preceded m k ks = reverse_onto (preceded G k.mixing ks) (turned_round G m k) []

module _ {outer_neutral inner_neutral : ℕ} (G : Groups)
    (outer : Lawful Fits outer_neutral G.outer G.outer_inverse) (inner : Lawful Fits inner_neutral G.inner G.inner_inverse) where
  inverses_twice : (w : Words) → Fit w → inverses G (inverses G w) ≡ w
  inverses_twice w p i = record {
    first = inverse_twice outer w.first p.0 i;
    second = inverse_twice inner w.second p.1 i;
    third = inverse_twice inner w.third p.2 i;
    fourth = inverse_twice outer w.fourth p.3 i;
  }

  round_twice : (m : BoxWords) (k : RoundWords) → Fit k.joins → turned_round G k.mixing (turned_round G m k) ≡ k
  round_twice m k p = ap (λ w. record { joins = w; mixing = k.mixing }) (inverses_twice k.joins p)

  last_twice : (m : BoxWords) (ks : List RoundWords) → last_mixing (last_mixing m ks) (reverse (preceded G m ks)) ≡ m
  unfolding last_mixing preceded
  last_twice m [] = refl
  last_twice m (k ∷ ks) = ap (last_mixing (last_mixing k.mixing ks)) (reverse_preceded G m k ks) ∙ last_push _ (reverse (preceded G k.mixing ks)) (turned_round G m k)

  others_twice : (m : BoxWords) (ks : List RoundWords) → AllFit ks → preceded G (last_mixing m ks) (reverse (preceded G m ks)) ≡ reverse ks
  unfolding last_mixing preceded AllFit
  others_twice m [] p = refl
  others_twice m (k ∷ ks) p =
      let L = last_mixing k.mixing ks in
      let T = reverse (preceded G k.mixing ks) in
      ap (preceded G L) (reverse_preceded G m k ks)
      ∙ preceded_push G L T (turned_round G m k)
      ∙ ap₂ (λ js j. js ++ j ∷ []) (others_twice k.mixing ks p.1) (ap (λ x. turned_round G x (turned_round G m k)) (last_twice k.mixing ks) ∙ round_twice m k p.0)
      ∙ sym (reverse_onto ks k [])

  key_twice : (k : Key) → KeyFits k → turned_key G (turned_key G k) ≡ k
  key_twice k p i = record {
    first = record { joins = inverses_twice k.first.joins p.0 i; mixing = last_twice k.first.mixing k.others i };
    others = (ap reverse (others_twice k.first.mixing k.others p.1) ∙ reverse-reverse k.others) i;
    closing = inverses_twice k.closing p.2 i;
  }

pub turned_twice : {outer_neutral inner_neutral : ℕ} (N : Network)
    (outer : Lawful Fits outer_neutral N.groups.outer N.groups.outer_inverse) (inner : Lawful Fits inner_neutral N.groups.inner N.groups.inner_inverse)
    → KeyFits N.key → turned (turned N) ≡ N
turned_twice N outer inner p = ap (λ k. record { groups = N.groups; mixing = N.mixing; key = k }) (key_twice N.groups outer inner N.key p)
