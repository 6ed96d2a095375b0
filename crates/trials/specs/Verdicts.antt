-- What is said of a known answer. Assumes nothing.
use Rattle.std.specs.Prelude.{ℕ, List, Result, Ok, Err, ◌==◌, if◌then◌else◌}
use Rattle.refusals.specs.declared.reasons.Refusal.{Refusal}
use Rattle.refusals.specs.Notices.{notice_of}
use Rattle.plans.specs.declared.stages.Stage.{Stage}
use Rattle.piles.specs.Fitting.{fitting}
use Rattle.piles.specs.Keyed.{sealed_by_all}
use Rattle.known_answers.specs.declared.tally.Fault.TheVariants.{Differs, Refused}
use Rattle.known_answers.specs.Tally.{Verdict}
use Rattle.known_answers.specs.Vector.{Reading}

-- the verdict on a block that was got, where one is known
abbrev pub verdict_on : ℕ → ℕ → Verdict
verdict_on got known = if got == known then Ok tt else Err (Differs got)

-- the verdict on a reading, on the stages that its description and key fit, or refused as they are
abbrev pub tried_with : Result (List Stage) Refusal → Reading → Verdict
tried_with (Ok stages) r = verdict_on (sealed_by_all stages r.1 r.2) r.3
tried_with (Err refusal) r = Err (Refused (notice_of refusal))

-- the verdict on a reading: its description, its key, its text and its sealed block
abbrev pub tried_on : Reading → Verdict
tried_on r = tried_with (fitting r.0 r.1) r
