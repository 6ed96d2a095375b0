-- The rounds of two, side by side, are the rounds of each. Assumes nothing.
use Rattle.std.proofs.Common.{◌≡◌, List, [], ◌∷◌, refl, ap}
use Rattle.std.specs.List.{fold}
use Rattle.four_words.specs.declared.two.Two.{Two}
use Rattle.four_words.specs.declared.words.Words.{Words}
use Rattle.four_words.specs.Joining.{joined}
use Rattle.four_words.specs.Passing.{Network, ran, round}
use Rattle.four_words.specs.internal.Abreast.{both_of, ran_abreast}

-- a fold that takes a step with both is a fold of each
both_fold : {X A : Type 0} (f : A → X → A) (two : Two A) (xs : List X) → fold (λ s x. both_of (λ a. f a x) s) two xs ≡ both_of (λ a. fold f a xs) two
both_fold f two [] = refl
both_fold f two (x ∷ xs) = both_fold f (both_of (λ a. f a x) two) xs

pub ran_of_both : (N : Network) (two : Two Words) → ran_abreast N two ≡ both_of (ran N) two
ran_of_both N two =
    ap (both_of (λ w. joined N.groups w N.key.closing)) (both_fold _ (both_of (round N N.key.first) two) N.key.others)
