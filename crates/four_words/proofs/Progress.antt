-- How far the rounds of a turned network are made. Assumes nothing.
use Rattle.std.proofs.Common.{◌≡◌, ℕ, ◌+◌, ◌≤◌, ◌<◌, List, [], ◌∷◌, ◌++◌, drop, length, length-append, reverse, slice_index_or, append_assoc, refl, subst, sym, ap, ◌∙◌}
use Rattle.std.proofs.lemmas.List.{at_drop_more, at_drop_all, append-nil}
use Rattle.four_words.specs.declared.words.BoxWords.{BoxWords}
use Rattle.four_words.specs.declared.words.RoundWords.{RoundWords}
use Rattle.four_words.specs.Joining.{Groups}
use Rattle.four_words.specs.Keying.{AllFit}
use Rattle.four_words.specs.Quarters.{Fit}
use Rattle.four_words.specs.Turning.{last_mixing, preceded, turned_round}
use Rattle.four_words.proofs.Lists.{fits_none, fits_more, fits_reverse}

-- of the rounds ks after one with z5 and z6 as m, the first i are turned into out, and the last of these has z5 and z6 as now
pub record Made (G : Groups) (m : BoxWords) (ks out : List RoundWords) (now : BoxWords) (i : ℕ) : Type 0 where
  pub rest : out ++ preceded G now (drop i ks) ≡ preceded G m ks
  pub last : last_mixing now (drop i ks) ≡ last_mixing m ks
  pub many : length out ≡ i
  pub fits : AllFit out

pub made_none : (G : Groups) (m : BoxWords) (ks out : List RoundWords) → out ≡ [] → Made G m ks out m 0
made_none G m ks out e = subst (λ js. Made G m ks js m 0) (sym e) (record { rest = refl; last = refl; many = refl; fits = fits_none })

-- the next round is turned, after those that are
pub made_more : (G : Groups) (m : BoxWords) (ks out : List RoundWords) (now : BoxWords) (i : ℕ) (k d : RoundWords) → i < length ks
    → k ≡ turned_round G now (slice_index_or ks i d) → Fit k.joins → Made G m ks out now i → Made G m ks (out ++ k ∷ []) (slice_index_or ks i d).mixing (i + 1)
unfolding last_mixing preceded
made_more G m ks out now i k d l e f p = record {
  rest =
      append_assoc out _ _
      ∙ ap (λ j. out ++ j ∷ preceded G (slice_index_or ks i d).mixing (drop (i + 1) ks)) e
      ∙ ap (λ js. out ++ js) (sym (at_drop_more (preceded G now) ks i d l))
      ∙ p.rest;
  last = sym (at_drop_more (last_mixing now) ks i d l) ∙ p.last;
  many = length-append out (k ∷ []) ∙ ap (λ n. n + 1) p.many;
  fits = fits_more out k p.fits f;
}

pub made_all : (G : Groups) (m : BoxWords) (ks out : List RoundWords) (now : BoxWords) (i : ℕ) → length ks ≤ i → Made G m ks out now i
    → (out ≡ preceded G m ks) × (now ≡ last_mixing m ks) × AllFit (reverse out)
unfolding last_mixing preceded
made_all G m ks out now i l p = (
  sym (ap (λ js. out ++ js) (at_drop_all (preceded G now) ks i l) ∙ append-nil out) ∙ p.rest,
  sym (at_drop_all (last_mixing now) ks i l) ∙ p.last,
  fits_reverse out p.fits,
)
