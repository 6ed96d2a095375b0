-- One turn of the loops over digits. Assumes nothing.
use Rattle.std.proofs.Common.{◌≡◌, ℕ, ◌+◌, ◌*◌, ◌^◌, ◌<◌, ◌≤◌, List, [], ◌∷◌, ◌++◌, length, Some, None, Option, sym, refl, ap, arith, append_assoc}
use Rattle.std.proofs.Math.Nat.{pow-le-pow_right}
use Rattle.std.specs.Option.{option_map}
use Rattle.std.specs.Int.Digits.{number_from_digits_after}
use Rattle.known_answers.specs.Hex.{front, all_given, values_of, pairs_of}

-- what i digits write is below 16 ^ i, so there is room for one more of sixteen
pub room : (v i : ℕ) → v < 16 ^ i → i < 16 → v < 2 ^ 60
room v i h l = let p : 16 ^ i ≤ 16 ^ 15 = pow-le-pow_right (omega arith) {i = i} {j = 15} (omega arith) in omega arith

-- what digits write after the number v
abbrev pub after : ℕ → List ℕ → Option ℕ
after v cs = option_map (number_from_digits_after 16 v) (values_of cs)

-- the bytes so far with those that are to come
abbrev pub onto : List ℕ → List (Option ℕ) → Option (List ℕ)
onto out os = option_map (λ bs. out ++ bs) (all_given os)

pub onto_start : (o : Option (List ℕ)) → option_map (λ bs. [] ++ bs) o ≡ o
onto_start None = refl
onto_start (Some bs) = refl

pub onto_more : (out : List ℕ) (b : ℕ) (o : Option (List ℕ)) → option_map (λ bs. out ++ bs) (front (Some b) o) ≡ option_map (λ bs. (out ++ b ∷ []) ++ bs) o
onto_more out b None = refl
onto_more out b (Some bs) = ap Some (sym (append_assoc out (b ∷ []) bs))

-- a pair to each two digits
pub length-pairs_of : (cs : List ℕ) → 2 * length (pairs_of cs) ≤ length cs + 1
length-pairs_of [] = omega arith
length-pairs_of (c ∷ []) = omega arith
length-pairs_of (high ∷ low ∷ cs) = omega (arith, length-pairs_of cs)
