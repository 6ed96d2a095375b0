-- `bytes` meets its contract. Assumes nothing.
use Rattle.std.proofs.Common.{◌≡◌, ◌∷◌, Some, sym, ◌∙◌, arith, length-append}
use Rattle.known_answers.specs.Hex.{all_given, pairs_of}
use Rattle.known_answers.proofs.Digits.{onto_start, onto_more, length-pairs_of}
use Rattle.known_answers.proofs.hex.bytes.Goals as goal

pub loop-byte-init : goal.loop-byte-init
loop-byte-init c =
    let pairs : c.into_iter-byte-iterator.result ≡ pairs_of c.args.digits.now = cc in
    rw (c.new-key.ensures, pairs) (tt, tt, omega (arith, length-pairs_of c.args.digits.now), onto_start (all_given (pairs_of c.args.digits.now)))

pub loop-byte-preserved : goal.loop-byte-preserved
loop-byte-preserved c =
    let left : c.loop-byte.byte-iterator ≡ Some c.in_ok-byte.field-0 ∷ c.next.new.self = rw c.in_ok-byte.was at c.in-Some.ensures.steps in
    let kept = rw left at c.loop-byte.invariant in
    rw (c.push.ensures, length-append) (tt, tt, omega (arith, kept), sym (onto_more c.loop-byte.key c.in_ok-byte.field-0 (all_given c.next.new.self)) ∙ kept.3)
