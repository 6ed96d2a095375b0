-- `bytes` meets its contract. Assumes nothing.
use Rattle.std.proofs.Common.{◌≡◌, ◌∷◌, Some, vec_items, sym, ◌∙◌}
use Rattle.known_answers.specs.Hex.{all_given}
use Rattle.known_answers.proofs.Digits.{onto_more}
use Rattle.transcripts.proofs.hex_text.bytes.Goals as goal

pub loop-byte-preserved : goal.loop-byte-preserved
loop-byte-preserved c =
    let left : c.loop-byte.byte-iterator ≡ Some c.in-Some-byte.byte ∷ c.next.new.self = rw c.in-Some-byte.is at c.in-Some.ensures.steps in
    let kept = rw left at c.loop-byte.invariant in
    rw c.in_ok-push.ensures.items (tt, tt, sym (onto_more (vec_items c.loop-byte.read) c.in-Some-byte.byte (all_given c.next.new.self)) ∙ kept.2)
