-- The words of rounds, one round more. Assumes nothing.
use Rattle.std.proofs.Common.{◌≡◌, ℕ, ◌+◌, ◌-◌, ◌≤◌, List, [], ◌∷◌, ◌++◌, map, ap, ◌∙◌, arith, reverse}
use Rattle.std.specs.List.{range_with_len}
use Rattle.std.proofs.lemmas.Grind.{reverse_onto}
use Rattle.std.proofs.lemmas.List.FromFn.{map-range_with_len_more}
use Rattle.four_words.specs.declared.words.RoundWords.{RoundWords}
use Rattle.four_words.specs.Keying.{AllFit, round_at}
use Rattle.four_words.specs.Quarters.{Fit}

pub others_more : (ws : List ℕ) (r : ℕ) → 1 ≤ r → map (round_at ws) (range_with_len 1 (r + 1 - 1)) ≡ map (round_at ws) (range_with_len 1 (r - 1)) ++ round_at ws r ∷ []
others_more ws r p =
    ap (λ n. map (round_at ws) (range_with_len 1 n)) (omega arith)
    ∙ map-range_with_len_more (round_at ws) 1 (r - 1) r (omega arith)

pub fits_none : AllFit []
unfolding AllFit
fits_none = tt

pub fits_more : (ks : List RoundWords) (k : RoundWords) → AllFit ks → Fit k.joins → AllFit (ks ++ k ∷ [])
unfolding AllFit
fits_more [] k p q = (q, tt)
fits_more (j ∷ ks) k p q = (p.0, fits_more ks k p.1 q)

pub fits_reverse : (ks : List RoundWords) → AllFit ks → AllFit (reverse ks)
unfolding AllFit
fits_reverse [] p = tt
fits_reverse (k ∷ ks) p = rw (reverse_onto ks k []) (fits_more (reverse ks) k (fits_reverse ks p.1) p.0)
