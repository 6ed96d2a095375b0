-- A session on two benches over XTEA. Assumes nothing.
use Rattle.std.specs.Prelude.{ℕ, List}
use Rattle.ciphers.specs.Maps.{SameMap}
use Rattle.chaining.specs.declared.calls.Call.{Call}
use Rattle.chaining.specs.Benches.{State}
use Rattle.chaining.specs.Mirrors.{Mirrored, GivenBack}
use Rattle.xtea.specs.Xtea.{xtea}

-- two benches whose ciphers have the map of XTEA ran over the calls, and gave everything back
pub record Returned (key : List ℕ) (calls : List Call) (served : List Call) (s : State) (t : State) : Type 0 where
  pub first : ℕ → ℕ
  pub second : ℕ → ℕ
  pub first_map : SameMap first (xtea key 32)
  pub second_map : SameMap second (xtea key 32)
  pub ran : Mirrored first second calls served s t
  pub back : GivenBack calls served s t
