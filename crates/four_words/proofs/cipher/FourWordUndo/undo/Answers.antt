-- A four-word network's `undo` of a block meets its contract. Assumes nothing.
use Rattle.std.proofs.Common.{ap, ◌∙◌}
use Rattle.four_words.specs.Networks.{network}
use Rattle.four_words.specs.Passing.{four_word}
use Rattle.four_words.proofs.Splitting.{undone_block}
use Rattle.four_words.proofs.Undoing.{undoes}
use Rattle.four_words.proofs.cipher.FourWordUndo.undo.Goals as goal

pub returns : goal.returns
returns g c =
    let N = network g.O.Group g.I.Group g.B.MixingBox c.args.self.now in
    ap (four_word N) c.undone_block.ensures.value
    ∙ undone_block N c.args.block
    (undoes N g.met.O.Group.lawful g.met.I.Group.lawful (g.met.B.MixingBox.within c.args.self.now.mixing) c.undone_block.ensures.fits)
    c.ranges.block.fits
