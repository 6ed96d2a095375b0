-- Calls that are copied one by one. Assumes nothing.
use Rattle.std.proofs.Common.{◌≡◌, ℕ, suc, ◌<◌, List, [], ◌∷◌, map, length, get_or, None, refl, ap₂, arith}
use Rattle.chaining.specs.declared.calls.Call.{Call}
use Rattle.chaining.specs.Sessions.{asked}
use Rattle.transcripts.specs.Copies.{Copied}
use Rattle.transcripts.specs.internal.OneCopy.{IsCopy}

-- two lists that agree at each place, under two maps
map_same : {X : Type 0} (f g : Call → X) (xs ys : List Call) → length ys ≡ length xs → ((k : ℕ) (d : Call) → k < length xs → f (get_or ys k d) ≡ g (get_or xs k d)) → map f ys ≡ map g xs
map_same f g [] [] l e = refl
map_same f g [] (y ∷ ys) l e = absurd (omega arith)
map_same f g (x ∷ xs) [] l e = absurd (omega arith)
map_same f g (x ∷ xs) (y ∷ ys) l e = ap₂ (λ z zs. z ∷ zs) (e 0 x (omega arith)) (map_same f g xs ys (omega arith) (λ k d p. e (suc k) d (omega arith)))

pub copied_each : (calls copies : List Call) → length copies ≡ length calls → ((k : ℕ) (d : Call) → k < length calls → IsCopy (get_or calls k d) (get_or copies k d)) → Copied calls copies
copied_each calls copies l e = record {
  requests = map_same (λ c. asked c.request) (λ c. asked c.request) calls copies l (λ k d p. (e k d p).request);
  answers = map_same (λ c. c.answer) (λ _. None) calls copies l (λ k d p. (e k d p).answer);
  earlier = map_same (λ c. c.earlier) (λ _. None) calls copies l (λ k d p. (e k d p).earlier);
}
