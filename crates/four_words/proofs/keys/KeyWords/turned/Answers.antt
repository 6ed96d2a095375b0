-- `KeyWords::turned` meets its contract. Assumes nothing.
use Rattle.std.proofs.Common.{rules, ◌+◌, slice_index_or, subst, sym}
use Rattle.four_words.specs.declared.words.RoundWords.{RoundWords}
use Rattle.four_words.specs.Joining.{both}
use Rattle.four_words.proofs.Progress.{Made, made_none, made_more}
use Rattle.four_words.proofs.keys.KeyWords.turned.Goals as goal

-- what an index beyond the rounds would give
abbrev zeros : RoundWords
zeros = record { joins = record { first = 0; second = 0; third = 0; fourth = 0 }; mixing = record { z5 = 0; z6 = 0 } }

pub loop-round-init : goal.loop-round-init
loop-round-init g c = (made_none (both g.O.Group g.I.Group) c.self.inside.first.mixing c.as_slice-round-items.result.now c.new-others.result.items c.new-others.ensures, search rules)

pub loop-round-preserved : goal.loop-round-preserved
loop-round-preserved g c =
    let l = c.loop-round in
    let G = both g.O.Group g.I.Group in
    let m = c.self.inside.first.mixing in
    let ks = c.as_slice-round-items.result.now in
    let made = made_more G m ks l.others.items l.mixing l.round-index c.turned_round.result zeros c.loop-round-test.true c.turned_round.ensures.value c.turned_round.ensures.fits l.invariant.0 in
    (subst (λ js. Made G m ks js (slice_index_or ks l.round-index zeros).mixing (l.round-index + 1)) (sym c.push.ensures.items) made, search rules)
