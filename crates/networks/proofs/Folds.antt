-- Folds from the back, and of four at once. Assumes nothing.
use Rattle.std.proofs.Common.{◌≡◌, List, [], ◌∷◌, reverse, ap, refl, ◌∙◌}
use Rattle.std.proofs.lemmas.Grind.{reverse_onto}
use Rattle.std.proofs.lemmas.List.Sums.{fold_push}
use Rattle.std.specs.List.{fold}
use Rattle.networks.specs.declared.fours.Four.{Four}
use Rattle.networks.specs.Fours.{each}

-- what comes first is taken last
pub fold_reverse_cons : {X A : Type 0} (f : A → X → A) (x : X) (xs : List X) (a : A) → fold f a (reverse (x ∷ xs)) ≡ f (fold f a (reverse xs)) x
fold_reverse_cons f x xs a = ap (fold f a) (reverse_onto xs x []) ∙ fold_push f a (reverse xs) x

-- a fold that takes a step with each of four is a fold of each
pub each_fold : {X A : Type 0} (f : X → A → A) (four : Four A) (xs : List X) → fold (λ s x. each (f x) s) four xs ≡ each (λ a. fold (λ s x. f x s) a xs) four
each_fold f four [] = refl
each_fold f four (x ∷ xs) = each_fold f (each (f x) four) xs
