-- The first line of a text. Assumes nothing.
use Rattle.std.proofs.Common.{◌≡◌, ℕ, zero, suc, ◌+◌, ◌<◌, ◌≤◌, true, false, List, [], ◌∷◌, length, get_or, take, drop, Some, refl, arith, add-one}
use Rattle.std.specs.Prelude.{◌==◌}
use Rattle.std.specs.List.{position, position_or_len}
use Rattle.std.proofs.lemmas.List.Quantifiers.{position-Some}
use Rattle.std.proofs.lemmas.List.Sums.{fails_before_first}
use Rattle.known_answers.specs.Cut.{lines_of}

-- the first line feed stands at i
at_feed : (t : List ℕ) (i : ℕ) → i < length t → (get_or t i 0 == 10) ≡ true → ((k : ℕ) → k < i → (get_or t k 0 == 10) ≡ false) → lines_of t ≡ take i t ∷ lines_of (drop (i + 1) t)
at_feed [] i l e below = absurd (omega arith)
at_feed (b ∷ bs) zero l e below = rw e refl
at_feed (b ∷ bs) (suc i) l e below =
    rw (below 0 (omega arith), at_feed bs i (omega arith) e (λ k h. below (suc k) (omega arith)), add-one, add-one) refl

no_feed : (b : ℕ) (bs : List ℕ) → ((k : ℕ) → k < length (b ∷ bs) → (get_or (b ∷ bs) k 0 == 10) ≡ false) → lines_of (b ∷ bs) ≡ (b ∷ bs) ∷ []
no_feed b [] below = rw (below 0 (omega arith)) refl
no_feed b (c ∷ cs) below = rw (below 0 (omega arith), no_feed c cs (λ k h. below (suc k) (omega arith))) refl

pub lines_some : (t : List ℕ) (i : ℕ) → position (λ b. b == 10) t ≡ Some i → lines_of t ≡ take i t ∷ lines_of (drop (i + 1) t)
lines_some t i e = let p = position-Some (λ b. b == 10) t i 0 e in at_feed t i p.0 p.1 p.2

pub lines_none : (t : List ℕ) → 0 < length t → length t ≤ position_or_len (λ b. b == 10) t → lines_of t ≡ t ∷ []
lines_none [] l e = absurd (omega arith)
lines_none (b ∷ bs) l e = no_feed b bs (λ k h. fails_before_first (λ b. b == 10) (b ∷ bs) k 0 (omega arith))
