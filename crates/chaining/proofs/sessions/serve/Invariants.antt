-- What the loop of `serve` keeps. Assumes nothing.
use Rattle.std.proofs.Common.{◌≡◌, take, drop}
use Rattle.chaining.specs.Benches.{state_of}
use Rattle.chaining.specs.Sessions.{Served}
use Rattle.chaining.proofs.sessions.serve.Given as goal

-- the calls so far are served, and the others are as they were
abbrev pub invariant-loop-call : goal.invariant-loop-call
invariant-loop-call g l = Served (state_of g.C.Cipher.map l.initial.bench) (take l.call-index l.initial.calls) (take l.call-index l.calls) (state_of g.C.Cipher.map l.bench) × (drop l.call-index l.calls ≡ drop l.call-index l.initial.calls)
