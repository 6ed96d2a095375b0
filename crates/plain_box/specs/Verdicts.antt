-- What is said of a known answer of the plain box. Assumes nothing.
use Rattle.std.specs.Prelude.{ℕ, length, Some, None, Option, Err, ◌==◌, if◌then◌else◌}
use Rattle.known_answers.specs.declared.tally.Fault.TheVariants.{Unreadable}
use Rattle.known_answers.specs.Tally.{Verdict}
use Rattle.known_answers.specs.Vector.{Reading}
use Rattle.trials.specs.Verdicts.{verdict_on}
use Rattle.plain_box.specs.Naming.{rounds_of}
use Rattle.plain_box.specs.Plainest.{sealed_by}

-- the verdict on a reading, with the number of rounds that was named, if one was; a key of other than sixteen bytes is not readable
abbrev pub tried_by : Option ℕ → Reading → Verdict
tried_by None r = Err Unreadable
tried_by (Some rounds) r = if length r.1 == 16 then verdict_on (sealed_by rounds r.1 r.2) r.3 else Err Unreadable

-- the verdict on a reading: its description, its key, its text and its sealed block
abbrev pub tried_on : Reading → Verdict
tried_on r = tried_by (rounds_of r.0) r
