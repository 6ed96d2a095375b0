-- One call of a session on a bench. Assumes nothing.
use Rattle.std.specs.Prelude.{◌≡◌, Some}
use Rattle.chaining.specs.declared.calls.Call.{Call}
use Rattle.chaining.specs.Benches.{State, Answer}
use Rattle.chaining.specs.Sessions.{asked, Does}

-- a bench went from s to t over a call, which was changed to what it left and answered
pub record ServedCall (s : State) (call : Call) (served : Call) (t : State) : Type 0 where
  pub answer : Answer
  pub does : Does s (asked call.request) answer (asked served.request) t
  pub answered : served.answer ≡ Some answer
  pub kept : served.earlier ≡ call.answer
