-- `FourWord::turn` meets its contract. Assumes nothing.
use Rattle.std.proofs.Common.{ap, sym, subst, ◌∙◌}
use Rattle.four_words.specs.Joining.{both}
use Rattle.four_words.specs.Networks.{network}
use Rattle.four_words.specs.Passing.{turned}
use Rattle.four_words.specs.Turning.{TurnedWords}
use Rattle.four_words.proofs.Turned.{turned_words}
use Rattle.four_words.proofs.Twice.{turned_twice}
use Rattle.four_words.proofs.Undoing.{turns}
use Rattle.four_words.proofs.network.FourWord.turn.Goals as goal

pub returns-clause-words : goal.returns-clause-words
returns-clause-words g c =
    let G = both g.O.Group g.I.Group in
    subst (λ N. TurnedWords G c.args.self.now.key N.key) (sym c.reverse.ensures.value) (turned_words G c.args.self.now.key)

pub returns-clause-again : goal.returns-clause-again
returns-clause-again g c =
    let N = network g.O.Group g.I.Group g.B.MixingBox c.args.self.now in
    ap turned c.reverse.ensures.value ∙ turned_twice N g.met.O.Group.lawful g.met.I.Group.lawful c.reverse.ensures.fits

pub returns-clause-inverse : goal.returns-clause-inverse
returns-clause-inverse g c =
    let N = network g.O.Group g.I.Group g.B.MixingBox c.args.self.now in
    rw c.reverse.ensures.value (turns N g.met.O.Group.lawful g.met.I.Group.lawful (g.met.B.MixingBox.within c.args.self.now.mixing) c.reverse.ensures.fits)
