-- What an empty trace is closed into, under a map that keeps every block and after a start of zeros. Assumes nothing.
use Rattle.std.proofs.Common.{◌≡◌, ℕ, ◌++◌, List, [], Result, Ok, replicate, refl, sym, ap, ◌∙◌, subst, arith, lit<}
use Rattle.std.proofs.lemmas.List.{append-nil}
use Rattle.std.specs.Int.{to_be_bytes, w64}
use Rattle.std.specs.Int.Bits.{xor_zero_r}
use Rattle.refusals.specs.declared.reasons.Refusal.{Refusal}
use Rattle.chaining.specs.declared.direction.Direction.TheVariants.{Sealing}
use Rattle.chaining.specs.Runs.{Rewritten, block}
use Rattle.chaining.proofs.Bytes.{same_bytes}
use Rattle.traces.specs.Closing.{Closes, ClosesBy, judged_length}
use Rattle.traces.specs.Files.{Closed}
use Rattle.traces.specs.Headers.{labelled, word_of}
use Rattle.traces.specs.Padding.{padded}
use Rattle.traces.specs.declared.headers.Label.{Label}

-- the padding stands in the body as it is
kept_body : (S : ℕ → ℕ) (body : List ℕ) → ((b : ℕ) → S b ≡ b) → Rewritten Sealing S 0 (padded []) body → body ≡ padded []
kept_body S body keeps w = same_bytes (padded []) body w.brought w.left w.len refl (λ i p.
    let e : i ≡ 0 = omega (arith, p) in
    let first : block body 0 ≡ block (padded []) 0 = w.blocks 0 (lit< tt) ∙ keeps _ ∙ xor_zero_r _ in
    subst (λ n. block body n ≡ block (padded []) n) (sym e) first)

-- the file that is left, where the label has a header
file_of : (S : ℕ → ℕ) (label : Label) (file : List ℕ) → ((b : ℕ) → S b ≡ b) → labelled label ≡ Ok (word_of label) → Closed S label (replicate 8 0) [] file
    → file ≡ to_be_bytes w64 (word_of label) ++ replicate 8 0 ++ padded []
file_of S label file keeps taken closed =
    let same : closed.header ≡ word_of label = cc (taken, closed.taken) in
    closed.holds.bytes
    ∙ ap (λ h. to_be_bytes w64 h ++ replicate 8 0 ++ closed.holds.body) same
    ∙ ap (λ b. to_be_bytes w64 (word_of label) ++ replicate 8 0 ++ b) (kept_body S closed.holds.body keeps closed.holds.sealed)

pub closed_empty : (S : ℕ → ℕ) (label : Label) (result : Result ℕ Refusal) (after : List ℕ) → ((b : ℕ) → S b ≡ b) → labelled label ≡ Ok (word_of label)
    → Closes S label (replicate 8 0) [] (replicate 24 0) result after → after ≡ to_be_bytes w64 (word_of label) ++ replicate 8 0 ++ padded []
closed_empty S label result after keeps taken closes =
    let at : ClosesBy (Ok 24) S label (replicate 8 0) [] (replicate 24 0) result after = subst (λ j. ClosesBy (judged_length j 0 24) S label (replicate 8 0) [] (replicate 24 0) result after) taken closes in
    at.output ∙ append-nil at.file ∙ file_of S label at.file keeps taken at.closed
