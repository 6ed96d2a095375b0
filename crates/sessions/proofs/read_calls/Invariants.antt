-- What the loop of `read_calls` keeps. Assumes nothing.
use Rattle.std.proofs.Common.{◌≡◌, ◌≤◌, ◌++◌, length, vec_items}
use Rattle.chaining.specs.Sessions.{requests}
use Rattle.sessions.specs.internal.Calls.{calls_of}
use Rattle.sessions.proofs.read_calls.Given as goal

-- no line comes back, and the requests so far with those of the lines that are left are the requests of all
abbrev pub invariant-loop-line : goal.invariant-loop-line
invariant-loop-line l = (length l.lines ≤ length l.initial.lines) × (requests (vec_items l.calls) ++ calls_of l.lines ≡ requests (vec_items l.initial.calls) ++ calls_of l.initial.lines)

abbrev pub decreases-loop-line : goal.decreases-loop-line
decreases-loop-line l = length l.lines
