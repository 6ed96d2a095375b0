-- `TripleDes::under` meets its contract. Assumes nothing.
use Rattle.std.proofs.Common.{sym, subst, ap, ◌∙◌}
use Rattle.std.specs.Int.{from_be_bytes, w64}
use Rattle.ciphers.specs.Blocks.{feistel}
use Rattle.ciphers.specs.Maps.{SameMap, in_turn}
use Rattle.des.specs.Networks.{network_of}
use Rattle.des.specs.internal.Between.{in_network}
use Rattle.des.proofs.Three.{sealed_three}
use Rattle.des.proofs.triple.TripleDes.under.Goals as goal

pub returns-clause-map : goal.returns-clause-map
returns-clause-map c =
    let outer = c.new-3.ensures in
    let inner = c.new-2.ensures in
    let one = from_be_bytes w64 c.args.first.now in
    let two = from_be_bytes w64 c.args.second.now in
    let three = from_be_bytes w64 c.args.third.now in
    sealed_three _ _ _ _ _ one two three
    outer.order
    (ap (λ p. p.reversed) outer.second ∙ inner.order)
    (ap (λ p. p.inverted) outer.first ∙ c.new.ensures.direction)
    (ap (λ p. p.second.inverted) outer.second ∙ ap (λ p. p.inverted) inner.second ∙ c.inverse.ensures.direction)
    (subst
    (λ e. SameMap (in_turn (feistel (network_of e.first.inverted e.first.schedule)) (feistel (network_of e.second.inverted e.second.schedule)) (feistel (network_of e.third.inverted e.third.schedule))) (in_network one two three))
    (sym (ap (λ p. p.first) outer.second ∙ inner.first))
    c.networks-inner.ensures.map)
