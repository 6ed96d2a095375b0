-- `fill` meets its contract. Assumes nothing.
use Rattle.std.proofs.Common.{◌≡◌, length, arith}
use Rattle.piles.proofs.Four.{four}
use Rattle.piles.proofs.supply.fill.Goals as goal

pub returns : goal.returns
returns c =
    let first = c.next in
    let second = c.next-2 in
    let third = c.next-3 in
    let fourth = c.next-4 in
    let none : length fourth.new.self.stages.now ≡ 0 = omega (arith, c.requires.few, first.ensures.stages, second.ensures.stages, third.ensures.stages, fourth.ensures.stages) in
    rw (c.new-3.ensures.first, c.new-3.ensures.second, c.new-3.ensures.order, c.new-2.ensures.first, c.new-2.ensures.second, c.new-2.ensures.order, c.new.ensures.first, c.new.ensures.second, c.new.ensures.order)
    (four first.result second.result third.result fourth.result
    c.args.stages.now first.new.self.stages.now second.new.self.stages.now third.new.self.stages.now fourth.new.self.stages.now
    c.args.key.now first.new.self.key.now second.new.self.key.now third.new.self.key.now fourth.new.self.key.now
    first.ensures.map first.ensures.fits second.ensures.map second.ensures.fits third.ensures.map third.ensures.fits fourth.ensures.map none)
