-- Benches that face each other mirror each other's calls. Assumes nothing.
use Rattle.std.proofs.Common.{◌≡◌, ℕ, ◌%◌, ◌^◌, ◌<◌, Bool, true, false, if◌then◌else◌, eqb, ltb, List, length, IfSome, Some, None, Ok, Err, Option, Result, sym, refl, ap, ◌∙◌, subst, ap₂}
use Rattle.std.specs.Option.{ok_or}
use Rattle.std.proofs.lemmas.Bool.{eqb-true}
use Rattle.refusals.specs.declared.reasons.Refusal.TheVariants.{StartLength, RunTooLong, RunNotWhole, NoChainBlock}
use Rattle.refusals.specs.declared.reasons.Refusal.{Refusal}
use Rattle.chaining.specs.declared.calls.Request.TheVariants.{Pass, Turn, Restart}
use Rattle.chaining.specs.declared.calls.Request.{Request}
use Rattle.chaining.specs.Benches.{State, Answer, with_chain, judged_run, PassedBy, Passed, judged_start, RestartedBy}
use Rattle.chaining.specs.Mirrors.{Facing}
use Rattle.chaining.specs.Runs.{Rewritten, block, chain_after}
use Rattle.chaining.specs.Sessions.{Does}
use Rattle.chaining.proofs.Bytes.{block_lt}
use Rattle.chaining.proofs.Facing.{facing_turned}
use Rattle.chaining.proofs.Passing.{run_back, chain_same, chain_lt}

-- a run that is taken has whole blocks, and the bench has the chain block
whole : (long whole-blocks : Bool) (chain : Option ℕ) (r : ℕ) → (if long then Err RunTooLong else (if whole-blocks then ok_or chain NoChainBlock else Err RunNotWhole)) ≡ Ok r → (whole-blocks ≡ true) × (chain ≡ Some r)
whole true whole-blocks chain r e = search
whole false true None r e = search
whole false true (Some q) r e = search
whole false false chain r e = search

start_block : (eight : Bool) (b r : ℕ) → (if eight then Ok b else Err StartLength) ≡ Ok r → r ≡ b
start_block true b r e = search
start_block false b r e = search

-- benches that face each other judge a run alike
judged_same : (s t : State) (xs ys : List ℕ) → Facing s t → length ys ≡ length xs → judged_run (length ys) t.chain ≡ judged_run (length xs) s.chain
judged_same s t xs ys a l = ap₂ judged_run l a.chains

chain_block : (s t : State) (r : ℕ) → Facing s t → s.chain ≡ Some r → r < 2 ^ 64
chain_block s t r a e = subst (λ c. IfSome c (λ n. n < 2 ^ 64)) e a.block

-- with the same chain block set, they still face each other
facing_with : (s t : State) (q r : ℕ) → Facing s t → q ≡ r → r < 2 ^ 64 → Facing (with_chain s r) (with_chain t q)
facing_with s t q r a e p = record { maps = a.maps; directions = a.directions; chains = ap Some e; block = p }

facing_now : (s' t' u v : State) → s' ≡ u → t' ≡ v → Facing u v → Facing s' t'
facing_now s' t' u v e f a = subst (λ x. Facing x t') (sym e) (subst (λ x. Facing u x) (sym f) a)

accepted : (s t : State) (r : ℕ) (xs ys zs : List ℕ) (s' t' : State) → Facing s t → r < 2 ^ 64 → length xs % 8 ≡ 0 → Rewritten s.direction s.map r xs ys → s' ≡ with_chain s (chain_after s.direction r xs ys) → Rewritten t.direction t.map r ys zs → t' ≡ with_chain t (chain_after t.direction r ys zs) → (zs ≡ xs) × Facing s' t'
accepted s t r xs ys zs s' t' a p m v e w f =
    let back : zs ≡ xs = run_back s.direction s.map t.map r xs ys zs a.maps p m v (subst (λ d. Rewritten d t.map r ys zs) a.directions w) in
    let chain : chain_after t.direction r ys zs ≡ chain_after s.direction r xs ys = ap (λ d. chain_after d r ys zs) a.directions ∙ chain_same s.direction r xs ys zs v.len back in
    (back, facing_now s' t' _ _ e f (facing_with s t _ _ a chain (chain_lt s.direction r xs ys p v.brought v.left)))

pass_by : (s t : State) (xs ys zs : List ℕ) (a a' : Answer) (s' t' : State) (v : Result ℕ Refusal) → Facing s t → judged_run (length xs) s.chain ≡ v → PassedBy v s xs a ys s' → Passed t ys a' zs t' → (a' ≡ a) × (zs ≡ xs) × Facing s' t'
pass_by s t xs ys zs a a' s' t' (Err refusal) h e p q =
    let q' : PassedBy (Err refusal) t ys a' zs t' = subst (λ v. PassedBy v t ys a' zs t') (judged_same s t xs ys h (ap length p.1) ∙ e) q in
    (q'.0 ∙ sym p.0, q'.1 ∙ p.1, facing_now s' t' s t p.2 q'.2 h)
pass_by s t xs ys zs a a' s' t' (Ok r) h e p q =
    let q' : PassedBy (Ok r) t ys a' zs t' = subst (λ v. PassedBy v t ys a' zs t') (judged_same s t xs ys h p.1.len ∙ e) q in
    let w = whole (ltb 32768 (length xs)) (eqb (length xs % 8) 0) s.chain r e in
    let b = accepted s t r xs ys zs s' t' h (chain_block s t r h w.1) (eqb-true (length xs % 8) 0 w.0) p.1 p.2 q'.1 q'.2 in
    (q'.0 ∙ sym p.0, b.0, b.1)

restart_by : (s t : State) (start : List ℕ) (a a' : Answer) (s' t' : State) (v : Result ℕ Refusal) → Facing s t → judged_start start ≡ v → RestartedBy v s start a s' → RestartedBy v t start a' t' → (a' ≡ a) × Facing s' t'
restart_by s t start a a' s' t' (Err refusal) h e p q = (q.0 ∙ sym p.0, facing_now s' t' s t p.1 q.1 h)
restart_by s t start a a' s' t' (Ok r) h e p q =
    let here : r ≡ block start 0 = start_block (eqb (length start) 8) (block start 0) r e in
    (q.0 ∙ sym p.0, facing_now s' t' _ _ p.2 q.2 (facing_with s t r r h refl (subst (λ n. n < 2 ^ 64) (sym here) (block_lt start 0 p.1))))

pub does_mirrored : (s t : State) (asked : Request (List ℕ)) (a a' : Answer) (left left' : Request (List ℕ)) (s' t' : State) → Facing s t → Does s asked a left s' → Does t left a' left' t' → (a' ≡ a) × (left' ≡ asked) × Facing s' t'
does_mirrored s t (Pass xs) a a' left left' s' t' h (ys, e, p) d =
    let (zs, e', q) = subst (λ l. Does t l a' left' t') e d in
    let b = pass_by s t xs ys zs a a' s' t' (judged_run (length xs) s.chain) h refl p q in
    (b.0, e' ∙ ap Pass b.1, b.2)
does_mirrored s t Turn a a' left left' s' t' h (e, p, u) d =
    let q : Does t Turn a' left' t' = subst (λ l. Does t l a' left' t') e d in
    (q.1 ∙ sym p, q.0, facing_turned s t s' t' h u q.2)
does_mirrored s t (Restart start) a a' left left' s' t' h (e, p) d =
    let q : Does t (Restart start) a' left' t' = subst (λ l. Does t l a' left' t') e d in
    let b = restart_by s t start a a' s' t' (judged_start start) h refl p q.1 in
    (b.0, q.0, b.1)
