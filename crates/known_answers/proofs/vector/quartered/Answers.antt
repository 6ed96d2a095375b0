-- `quartered` meets its contract. Assumes nothing.
use Rattle.std.proofs.Common.{◌≡◌, ℕ, ◌<◌, ◌≢◌, ◌⊎◌, inl, inr, List, [], ◌∷◌, length, Option, Some, None, IfSome, IsNone, IsTrue, Bor, refl, ap, arith, rules, length-take}
use Rattle.std.specs.Prelude.{◌==◌}
use Rattle.std.specs.Option.{option_map}
use Rattle.std.specs.Iterator.Runs.{SomeRun, WholeRun}
use Rattle.std.proofs.lemmas.List.{length-map}
use Rattle.std.proofs.lemmas.Iterator.{YieldsList}
use Rattle.std.proofs.lemmas.Iterator.Splits.{YieldsList-from_slice_split}
use Rattle.itertools.proofs.AdaptorLemmas.{items_from_whole_run, items_from_run}
use Rattle.known_answers.specs.Vector.{four_of}
use Rattle.known_answers.proofs.vector.quartered.Goals as goal

not_four : (fs : List (List ℕ)) → length fs ≢ 4 → None ≡ four_of fs
not_four [] l = refl
not_four (a ∷ []) l = refl
not_four (a ∷ b ∷ []) l = refl
not_four (a ∷ b ∷ c ∷ []) l = refl
not_four (a ∷ b ∷ c ∷ d ∷ []) l = absurd (l refl)
not_four (a ∷ b ∷ c ∷ d ∷ e ∷ fs) l = refl

module _ {S : Type 0} {steps : S → Option (Bor (List ℕ)) → S → Type 0} {s : S} {fs : List (List ℕ)} where
  -- what `collect_tuple` answers, of an iterator that gives these fields
  quarters : (r : Option (Bor (List ℕ) × Bor (List ℕ) × Bor (List ℕ) × Bor (List ℕ)))
      → IfSome r (λ f. WholeRun steps s (λ p. p.items ≡ f.0 ∷ f.1 ∷ f.2 ∷ f.3 ∷ []))
      → (IsNone r → SomeRun steps s (λ p. (IsTrue p.whole × (p.len < 4)) ⊎ (p.len ≡ 5)))
      → YieldsList steps (λ x. x.now) s fs → option_map (λ f. (f.0.now, f.1.now, f.2.now, f.3.now)) r ≡ four_of fs
  quarters (Some f) (p, from, whole, items) none road = ap four_of (rw items at (items_from_whole_run road p from whole))
  quarters None some none road = let (p, from, count) = none refl in elim count [
    | inl few ↦ not_four fs (λ four. absurd (omega (arith, p.long, ap length (items_from_whole_run road p from few.0), length-map p.items (λ x. x.now))))
    | inr many ↦ not_four fs (λ four. absurd (omega (arith, p.long, ap length (items_from_run road p from), length-map p.items (λ x. x.now), length-take (length p.items) fs)))
  ]

pub returns : goal.returns
returns c =
    quarters c.collect_tuple.result c.collect_tuple.ensures.some c.collect_tuple.ensures.none
    (YieldsList-from_slice_split _ (λ b. b == 59) c.args.line.now c.split.ensures.rest c.split.ensures.done c.split.ensures.closure (λ x b q k. search rules))
