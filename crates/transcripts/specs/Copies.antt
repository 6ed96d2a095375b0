-- Calls copied. Assumes nothing.
use Rattle.std.specs.Prelude.{◌≡◌, List, map, None}
use Rattle.chaining.specs.declared.calls.Call.{Call}
use Rattle.chaining.specs.Sessions.{requests, answers, earlier}

-- the same requests, with no answer yet
pub record Copied (calls : List Call) (copies : List Call) : Type 0 where
  pub requests : requests copies ≡ requests calls
  pub answers : answers copies ≡ map (λ _. None) calls
  pub earlier : earlier copies ≡ map (λ _. None) calls
