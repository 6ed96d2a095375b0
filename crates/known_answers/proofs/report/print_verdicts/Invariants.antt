-- What the loop of `print_verdicts` keeps. Assumes nothing.
use Rattle.std.proofs.Common.{◌≡◌, length}
use Rattle.known_answers.specs.Tally.{none}
use Rattle.known_answers.specs.Runs.{verdicts_of, tallied}
use Rattle.known_answers.proofs.report.print_verdicts.Given as goal

-- the totals so far with the verdicts that are left are the totals of all
abbrev pub invariant-loop-verdict : goal.invariant-loop-verdict
invariant-loop-verdict g l = tallied l.run.tally l.run.left ≡ tallied none (verdicts_of g.E.Examiner.verdict l.input)

abbrev pub decreases-loop-verdict : goal.decreases-loop-verdict
decreases-loop-verdict g l = length l.run.left
