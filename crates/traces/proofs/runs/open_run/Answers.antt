-- `open_run` meets its contract. Assumes nothing.
use Rattle.traces.proofs.Lending.{opened_only, turned_twice}
use Rattle.traces.proofs.runs.open_run.Goals as goal

pub returns-clause-opened : goal.returns-clause-opened
returns-clause-opened c =
    opened_only _ _ _ _ _ _ c.opening_bench-bench.ensures.map c.opening_bench-bench.ensures.direction c.ranges.start.fits c.requires.whole c.pass_after.ensures.rewritten

pub returns-clause-map : goal.returns-clause-map
returns-clause-map c = turned_twice _ _ _ _ c.opening_bench-bench.ensures.map c.pass_after.ensures.map c.turned_back.ensures
