-- One call copied. Assumes nothing.
use Rattle.std.specs.Prelude.{◌≡◌, None}
use Rattle.chaining.specs.declared.calls.Call.{Call}
use Rattle.chaining.specs.Sessions.{asked}

-- the same request, with no answer yet
pub record IsCopy (call : Call) (copy : Call) : Type 0 where
  pub request : asked copy.request ≡ asked call.request
  pub answer : copy.answer ≡ None
  pub earlier : copy.earlier ≡ None
