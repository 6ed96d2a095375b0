-- Padding and its removal undo each other. Assumes nothing.
use Rattle.std.proofs.Common.{◌≡◌, ℕ, zero, suc, ◌+◌, ◌-◌, ◌%◌, ◌≤◌, Bool, true, false, if◌then◌else◌, eqb, List, [], ◌∷◌, ◌++◌, length, get_or, drop, replicate, Some, None, sym, refl, ap, ap₂, ◌∙◌, arith, tests, length-append, length-drop, length-take-le}
use Rattle.std.specs.List.{list_all}
use Rattle.std.specs.Int.{is_in_range}
use Rattle.std.proofs.lemmas.Bool.{and_from, and_parts, eqb-true, eq-eqb}
use Rattle.std.proofs.lemmas.List.{take_at, drop_at, get_or-replicate, get_or-append_right, length-replicate, take-append-drop}
use Rattle.traces.specs.Padding.{padded, padding, unpadded, without}

-- bytes that are all the same are a replicate
same_bytes : (n : ℕ) (xs : List ℕ) → list_all (λ b. eqb b n) xs ≡ true → xs ≡ replicate (length xs) n
same_bytes n [] e = refl
same_bytes n (x ∷ xs) e =
    let p = and_parts (eqb x n) (list_all (λ b. eqb b n) xs) e in
    ap₂ (λ y ys. y ∷ ys) (eqb-true x n p.0) (same_bytes n xs p.1)

-- and a replicate is of bytes that are all the same
all_same : (n k : ℕ) → list_all (λ b. eqb b n) (replicate k n) ≡ true
all_same n zero = refl
all_same n (suc k) = and_from _ _ (eq-eqb n n refl) (all_same n k)

-- the plain, where it is chosen
chosen : (c : Bool) (xs ys : List ℕ) → c ≡ true → xs ≡ ys → (if c then Some xs else None) ≡ Some ys
chosen true xs ys e p = ap Some p
chosen false xs ys e p = search

-- and it was chosen, where there is one
chosen_back : (c : Bool) (xs ys : List ℕ) → (if c then Some xs else None) ≡ Some ys → (c ≡ true) × (ys ≡ xs)
chosen_back true xs ys e = search
chosen_back false xs ys e = search

-- a number of bytes of padding
in_range : (n : ℕ) → 1 ≤ n → n ≤ 8 → is_in_range 1 8 n ≡ true
in_range n p q = search (arith, tests)

-- and what its test says
range_in : (n : ℕ) → is_in_range 1 8 n ≡ true → (1 ≤ n) × (n ≤ 8)
range_in n e = search (arith, tests)

-- so many bytes of padding are taken away
without_of : (n : ℕ) (plain : List ℕ) → 1 ≤ n → n ≤ 8 → without n (plain ++ replicate n n) ≡ Some plain
without_of n plain p q =
    let run = plain ++ replicate n n in
    let k : length plain ≡ length run - n = omega (arith, length-append plain (replicate n n), length-replicate n n) in
    let rest : drop (length run - n) run ≡ replicate n n = drop_at plain (replicate n n) (length run - n) k in
    chosen _ _ _
    (and_from _ _ (in_range n p q) (ap (list_all (λ b. eqb b n)) rest ∙ all_same n n))
    (take_at plain (replicate n n) (length run - n) k)

-- the plain is that of its padded run
pub unpadded_padded : (plain : List ℕ) → unpadded (padded plain) ≡ Some plain
unpadded_padded plain =
    let n = padding (length plain) in
    let run = plain ++ replicate n n in
    let size : length run ≡ length plain + n = length-append plain (replicate n n) ∙ ap (λ k. length plain + k) (length-replicate n n) in
    let last : get_or run (length run - 1) 0 ≡ n =
    get_or-append_right plain (replicate n n) (length plain) (length run - 1) 0 refl (omega (arith, size))
    ∙ get_or-replicate n (length run - 1 - length plain) n 0 (omega (arith, size)) in
    ap (λ k. without k run) last ∙ without_of n plain (omega arith) (omega arith)

-- and a run of whole blocks that has a plain is its padded run
pub padded_unpadded : (run plain : List ℕ) → 8 ≤ length run → length run % 8 ≡ 0 → unpadded run ≡ Some plain → padded plain ≡ run
padded_unpadded run plain l m e =
    let n = get_or run (length run - 1) 0 in
    let c = chosen_back _ _ _ e in
    let b = and_parts (is_in_range 1 8 n) (list_all (λ b. eqb b n) (drop (length run - n) run)) c.0 in
    let r = range_in n b.0 in
    let size : length plain ≡ length run - n = ap length c.1 ∙ length-take-le (length run - n) run (omega (arith, r.0, r.1)) in
    let count : padding (length plain) ≡ n = omega (arith, size, r.0, r.1) in
    let rest : drop (length run - n) run ≡ replicate n n = same_bytes n _ b.1 ∙ ap (λ k. replicate k n) (omega (arith, length-drop (length run - n) run, r.0, r.1)) in
    ap (λ k. plain ++ replicate k k) count ∙ ap₂ (λ a b. a ++ b) c.1 (sym rest) ∙ take-append-drop (length run - n) run

-- how long a padded run is
pub length-padded : (plain : List ℕ) → length (padded plain) ≡ length plain + padding (length plain)
length-padded plain = length-append plain _ ∙ ap (λ k. length plain + k) (length-replicate (padding (length plain)) (padding (length plain)))
