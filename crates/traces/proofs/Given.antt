-- A file that is opened. Assumes nothing.
use Rattle.std.proofs.Common.{◌≡◌, ℕ, List, length, Ok, Err, Result, sym, subst, ◌∙◌}
use Rattle.refusals.specs.declared.reasons.Refusal.{Refusal}
use Rattle.traces.specs.declared.headers.Header.{Header}
use Rattle.traces.specs.declared.opening.Opened.{Opened}
use Rattle.traces.specs.Files.{OnlyRun}
use Rattle.traces.specs.Opening.{Gives, chain_of, Opens, OpensBy, body_of, judged_file, judged_plain}
use Rattle.traces.specs.Padding.{unpadded}

-- a file that is refused
pub opens_refused : (S : ℕ → ℕ) (file before : List ℕ) (judged : Result Header Refusal) (refusal : Refusal) (result : Result Opened Refusal) (after : List ℕ) → judged ≡ judged_file file → judged ≡ Err refusal → result ≡ Err refusal → after ≡ before → Opens S file before result after
unfolding Opens
opens_refused S file before judged refusal result after e is p q = subst (λ judged. OpensBy judged S file before result after) (sym is ∙ e) (p, q)

-- a file with a header is opened by what its body opens to
pub opens_given : (S : ℕ → ℕ) (file before opened run : List ℕ) (judged : Result Header Refusal) (header : Header) (result : Result Opened Refusal) (after : List ℕ) → judged ≡ judged_file file → judged ≡ Ok header → OnlyRun S (chain_of file) (body_of file) opened → run ≡ opened → Gives header (judged_plain (unpadded run) (length before)) before result after → Opens S file before result after
unfolding Opens
opens_given S file before opened run judged header result after e is only same gives =
    subst (λ judged. OpensBy judged S file before result after) (sym is ∙ e) (record { run = run; only = subst (OnlyRun S (chain_of file) (body_of file)) (sym same) only; gives = gives })
