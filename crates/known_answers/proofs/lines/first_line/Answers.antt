-- `first_line` meets its contract. Assumes nothing.
use Rattle.std.proofs.Common.{◌+◌, ◌≤◌, length, rules}
use Rattle.std.specs.Prelude.{◌==◌}
use Rattle.std.specs.List.{position_or_len}
use Rattle.std.proofs.lemmas.List.{take_rest}
use Rattle.known_answers.proofs.FirstLine.{lines_some, lines_none}
use Rattle.known_answers.proofs.lines.first_line.Goals as goal

pub returns-in-Some : goal.returns-in-Some
returns-in-Some c =
    rw (take_rest c.args.text.now (c.in-Some.at + 1)) (lines_some c.args.text.now c.in-Some.at (search rules))

pub returns-in-None : goal.returns-in-None
returns-in-None c =
    let past : length c.args.text.now ≤ position_or_len (λ b. b == 10) c.args.text.now = search rules in
    lines_none c.args.text.now (search rules) past
