-- Two of a kind worked on side by side: how the faster run of four blocks goes. Assumes nothing.
use Rattle.std.specs.List.{fold}
use Rattle.four_words.specs.declared.two.Two.{Two}
use Rattle.four_words.specs.declared.words.Words.{Words}
use Rattle.four_words.specs.Joining.{joined}
use Rattle.four_words.specs.Passing.{Network, round}
use Rattle.four_words.specs.Quarters.{exchanged}

-- a function of both of them
abbrev pub both_of : {A B : Type 0} → (A → B) → Two A → Two B
both_of f two = record { first = f two.first; second = f two.second }

-- the rounds of a network in order, each of them of both before the next
abbrev pub ran_abreast : Network → Two Words → Two Words
ran_abreast N two =
    both_of (λ w. joined N.groups w N.key.closing) (fold (λ s k. both_of (λ w. round N k (exchanged w)) s) (both_of (round N N.key.first) two) N.key.others)
