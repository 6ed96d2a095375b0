-- What follows from the laws of a group: a join taken back, and inverses. Assumes nothing.
use Rattle.std.proofs.Common.{◌≡◌, sym, ap, ◌∙◌}
use Rattle.groups.specs.Laws.{Lawful}

module _ {W : Type 0} {fits : W → Type 0} {neutral : W} {joined : W → W → W} {inverted : W → W} (laws : Lawful fits neutral joined inverted) where
  -- a word joined with another and then with its inverse
  pub taken_back : (x z : W) → fits x → fits z → joined (joined x z) (inverted z) ≡ x
  taken_back x z p q =
      laws.associative x z (inverted z) p q (laws.inverse_fits z q)
      ∙ ap (joined x) (laws.inverse_right z q)
      ∙ laws.neutral_right x p

  -- the other way round
  pub brought_back : (x z : W) → fits x → fits z → joined (joined x (inverted z)) z ≡ x
  brought_back x z p q =
      laws.associative x (inverted z) z p (laws.inverse_fits z q) q
      ∙ ap (joined x) (laws.inverse_left z q)
      ∙ laws.neutral_right x p

  -- no other word than its inverse makes the neutral word with a word
  pub only_inverse : (x y : W) → fits x → fits y → joined x y ≡ neutral → y ≡ inverted x
  only_inverse x y p q e =
      let once = laws.inverse_fits x p in
      sym (laws.neutral_left y q)
      ∙ ap (λ n. joined n y) (sym (laws.inverse_left x p))
      ∙ laws.associative (inverted x) x y once p q
      ∙ ap (joined (inverted x)) e
      ∙ laws.neutral_right (inverted x) once

  -- a word is the inverse of its inverse
  pub inverse_twice : (x : W) → fits x → inverted (inverted x) ≡ x
  inverse_twice x p = let once = laws.inverse_fits x p in sym (only_inverse (inverted x) x once p (laws.inverse_left x p))
