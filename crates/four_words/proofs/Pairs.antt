-- Two inverses made of one. Assumes nothing.
use Rattle.std.proofs.Common.{◌≡◌, sym, ap, ◌∙◌}
use Rattle.groups.proofs.Cancelling.{only_inverse}
use Rattle.groups.specs.Laws.{Lawful}

module _ {W : Type 0} {fits : W → Type 0} {neutral : W} {joined : W → W → W} {inverted : W → W} (laws : Lawful fits neutral joined inverted) where
  pub inverse_first : (x y : W) → fits x → fits y → joined y (inverted (joined x y)) ≡ inverted x
  inverse_first x y p q =
      let both = laws.join_fits x y p q in
      let once = laws.inverse_fits (joined x y) both in
      only_inverse laws x (joined y (inverted (joined x y))) p (laws.join_fits _ _ q once)
      (sym (laws.associative x y (inverted (joined x y)) p q once) ∙ laws.inverse_right (joined x y) both)

  pub inverse_second : (x y : W) → fits x → fits y → joined (inverted (joined x y)) x ≡ inverted y
  inverse_second x y p q =
      let once = laws.inverse_fits (joined x y) (laws.join_fits x y p q) in
      only_inverse laws y (joined (inverted (joined x y)) x) q (laws.join_fits _ _ once p)
      (sym (laws.associative y (inverted (joined x y)) x q once p) ∙ ap (λ z. joined z x) (inverse_first x y p q) ∙ laws.inverse_left x p)
