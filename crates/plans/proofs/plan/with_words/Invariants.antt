-- What the loop of `with_words` keeps. Assumes nothing.
use Rattle.std.proofs.Common.{◌≡◌}
use Rattle.plans.specs.Plans.{with_words}
use Rattle.plans.proofs.plan.with_words.Given as goal

-- the plan so far with the words to come is the first plan with all words
abbrev pub invariant-loop-word : goal.invariant-loop-word
invariant-loop-word l =
    goal.iterator-loop-word.can_next l.word-iterator
    × goal.iterator-loop-word.is_finite l.word-iterator
    × (with_words l.plan l.word-iterator ≡ with_words l.fn.plan l.fn.words)
