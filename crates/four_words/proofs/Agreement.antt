-- Both ways back of a four-word network agree; no group law is needed. Assumes nothing.
use Rattle.std.proofs.Common.{◌≡◌, List, [], ◌∷◌, reverse, sym, refl, ap, ◌∙◌}
use Rattle.std.specs.List.{fold}
use Rattle.networks.proofs.Folds.{fold_reverse_cons}
use Rattle.four_words.specs.declared.words.BoxWords.{BoxWords}
use Rattle.four_words.specs.declared.words.RoundWords.{RoundWords}
use Rattle.four_words.specs.declared.words.Words.{Words}
use Rattle.four_words.specs.Joining.{inverses, joined}
use Rattle.four_words.specs.Passing.{Network, mixed, ran, round, turned, unran, unround}
use Rattle.four_words.specs.Quarters.{exchanged}
use Rattle.four_words.specs.Turning.{last_mixing, preceded, turned_round}

module _ (N : Network) where
  -- a later round, and a later round taken back
  abbrev pub later : Words → RoundWords → Words
  later w k = round N k (exchanged w)

  abbrev pub earlier : Words → RoundWords → Words
  earlier w k = exchanged (unround N k w)

  -- the turned rounds after the first make what the rounds taken back make, but for the mixing that is left
  agree : (m : BoxWords) (ks : List RoundWords) (w : Words)
      → fold later (mixed N (last_mixing m ks) w) (reverse (preceded N.groups m ks)) ≡ mixed N m (fold earlier w (reverse ks))
  unfolding preceded last_mixing
  agree m [] w = refl
  agree m (k ∷ ks) w =
      fold_reverse_cons later (turned_round N.groups m k) (preceded N.groups k.mixing ks) (mixed N (last_mixing k.mixing ks) w)
      ∙ ap (λ v. later v (turned_round N.groups m k)) (agree k.mixing ks w)
      ∙ ap (mixed N m) (sym (fold_reverse_cons earlier k ks w))

  pub ways_back : (w : Words) → unran N w ≡ ran (turned N) w
  ways_back w =
      ap (λ v. joined N.groups v (inverses N.groups N.key.first.joins))
      (sym (agree N.key.first.mixing N.key.others (joined N.groups w (inverses N.groups N.key.closing))))
