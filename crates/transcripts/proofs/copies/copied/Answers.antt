-- `copied` meets its contract. Assumes nothing.
use Rattle.std.proofs.Common.{◌≡◌, ℕ, ◌<◌, length, get_or, IfOk, vec_items, rules}
use Rattle.std.proofs.lemmas.Result.{IfOk-weaker}
use Rattle.chaining.specs.declared.calls.Call.{Call}
use Rattle.transcripts.specs.internal.OneCopy.{IsCopy}
use Rattle.transcripts.proofs.Copying.{copied_each}
use Rattle.transcripts.proofs.copies.copied.Goals as goal

pub returns : goal.returns
returns c =
    let each : IfOk c.try_collect.result (λ v. (length (vec_items v) ≡ length c.args.calls.now) × ((k : ℕ) (d : Call) → k < length c.args.calls.now → IsCopy (get_or c.args.calls.now k d) (get_or (vec_items v) k d))) = search rules in
    IfOk-weaker c.try_collect.result _ _ (λ v e. copied_each c.args.calls.now (vec_items v) e.0 e.1) each
