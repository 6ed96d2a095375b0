-- `FourWord::ran_two` meets its contract. Assumes nothing.
use Rattle.std.proofs.Common.{◌∙◌}
use Rattle.four_words.specs.Networks.{network}
use Rattle.four_words.proofs.Abreast.{ran_of_both}
use Rattle.four_words.proofs.network.FourWord.ran_two.Goals as goal

pub returns : goal.returns
returns g c = c.ran_abreast.ensures ∙ ran_of_both (network g.O.Group g.I.Group g.B.MixingBox c.args.self.now) c.args.words
