-- `serve` meets its contract. Assumes nothing.
use Rattle.std.proofs.Common.{refl}
use Rattle.chaining.proofs.Serving.{served_none, serving_more}
use Rattle.chaining.proofs.sessions.serve.Goals as goal

pub loop-call-init : goal.loop-call-init
loop-call-init g c = (served_none _, refl)

pub loop-call-preserved : goal.loop-call-preserved
loop-call-preserved g c = serving_more _ _ _ _ _ _ _ _ c.loop-call-test.true c.loop-call.auto.calls c.loop-call.invariant.0 c.loop-call.invariant.1 c.serve_call.ensures
