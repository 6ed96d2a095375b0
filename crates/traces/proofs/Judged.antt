-- What is known of traces and files that are taken. Assumes nothing.
use Rattle.std.proofs.Common.{◌≡◌, ℕ, ◌%◌, ◌≤◌, Bool, true, false, ◌||◌, if◌then◌else◌, eqb, ltb, List, length, Ok, Err, Result, refl, ap, ◌∙◌}
use Rattle.std.proofs.lemmas.Bool.{eqb-true, eq-eqb, ltb-false, le-ltb, or_from, or_parts}
use Rattle.refusals.specs.declared.reasons.Refusal.TheVariants.{StartLength, PlainTooLong, FileLength}
use Rattle.refusals.specs.declared.reasons.Refusal.{Refusal}
use Rattle.chaining.specs.Runs.{block}
use Rattle.traces.specs.declared.headers.Header.{Header}
use Rattle.traces.specs.declared.headers.Label.{Label}
use Rattle.traces.specs.Files.{judged_trace}
use Rattle.traces.specs.Headers.{header_of, labelled}
use Rattle.traces.specs.Opening.{judged_file}

-- what is known of a test that refuses, where nothing was refused
pub passed_then : {T : Type 0} (test : Bool) (rest : Result T Refusal) (refusal : Refusal) (x : T) → (if test then rest else Err refusal) ≡ Ok x → (test ≡ true) × (rest ≡ Ok x)
passed_then true rest refusal x e = (refl, e)
passed_then false rest refusal x e = search

pub passed_else : {T : Type 0} (test : Bool) (rest : Result T Refusal) (refusal : Refusal) (x : T) → (if test then Err refusal else rest) ≡ Ok x → (test ≡ false) × (rest ≡ Ok x)
passed_else true rest refusal x e = search
passed_else false rest refusal x e = (refl, e)

-- what is known of a trace that may be closed
pub trace_fits : (label : Label) (start plain : List ℕ) (header : ℕ) → judged_trace label start plain ≡ Ok header → (length start ≡ 8) × (length plain ≤ 32767) × (labelled label ≡ Ok header)
trace_fits label start plain header e =
    let eight = passed_then (eqb (length start) 8) (if ltb 32767 (length plain) then Err PlainTooLong else labelled label) StartLength header e in
    let few = passed_else (ltb 32767 (length plain)) (labelled label) PlainTooLong header eight.1 in
    (eqb-true (length start) 8 eight.0, ltb-false 32767 (length plain) few.0, few.1)

-- and what it is answered with, where it fits
pub trace_taken : (label : Label) (start plain : List ℕ) → length start ≡ 8 → length plain ≤ 32767 → judged_trace label start plain ≡ labelled label
trace_taken label start plain e l =
    ap (λ t. if t then (if ltb 32767 (length plain) then Err PlainTooLong else labelled label) else Err StartLength) (eq-eqb (length start) 8 e)
    ∙ ap (λ t. if t then Err PlainTooLong else labelled label) (le-ltb 32767 (length plain) l)

-- a file of the right length has the header of its first bytes
pub file_taken : (file : List ℕ) → 24 ≤ length file → length file ≤ 32784 → length file % 8 ≡ 0 → judged_file file ≡ header_of (block file 0)
unfolding judged_file
file_taken file l m w =
    ap (λ t. if t then Err FileLength else (if eqb (length file % 8) 0 then header_of (block file 0) else Err FileLength)) (or_from _ _ (le-ltb (length file) 24 l) (le-ltb 32784 (length file) m))
    ∙ ap (λ t. if t then header_of (block file 0) else Err FileLength) (eq-eqb (length file % 8) 0 w)

-- what is known of a file that has a header
pub file_fits : (file : List ℕ) (header : Header) → judged_file file ≡ Ok header → (24 ≤ length file) × (length file ≤ 32784) × (length file % 8 ≡ 0) × (header_of (block file 0) ≡ Ok header)
unfolding judged_file
file_fits file header e =
    let within = passed_else (ltb (length file) 24 || ltb 32784 (length file)) (if eqb (length file % 8) 0 then header_of (block file 0) else Err FileLength) FileLength header e in
    let both = or_parts _ _ within.0 in
    let whole = passed_then (eqb (length file % 8) 0) (header_of (block file 0)) FileLength header within.1 in
    (ltb-false (length file) 24 both.0, ltb-false 32784 (length file) both.1, eqb-true (length file % 8) 0 whole.0, whole.1)
