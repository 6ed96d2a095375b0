-- Verdicts counted by their kind. Assumes nothing.
use Rattle.std.specs.Prelude.{ℕ, ◌+◌, ◌-◌, ◌^◌, min, Result, Ok, Err}
use Rattle.known_answers.specs.declared.tally.Tally.{Tally}
use Rattle.known_answers.specs.declared.tally.Fault.TheVariants.{Differs, Refused, Unreadable}
use Rattle.known_answers.specs.declared.tally.Fault.{Fault}

-- how a known answer came out
abbrev pub Verdict : Type 0
Verdict = Result (Unit {0}) Fault

-- nothing counted yet
abbrev pub none : Tally
none = record { ok = 0; differs = 0; refused = 0; unreadable = 0 }

-- one more, as far as 64 bits go
abbrev pub more : ℕ → ℕ
more n = min (n + 1) (2 ^ 64 - 1)

-- one more in the verdict's own total
abbrev pub counted : Verdict → Tally → Tally
counted (Ok u) t = record t { ok = more t.ok }
counted (Err (Differs block)) t = record t { differs = more t.differs }
counted (Err (Refused notice)) t = record t { refused = more t.refused }
counted (Err Unreadable) t = record t { unreadable = more t.unreadable }
