-- `turn` of a layer meets its contract. Assumes nothing.
use Rattle.piles.proofs.Turning.{turned}
use Rattle.piles.proofs.layers.LayerCipher.turn.Goals as goal

pub returns-in-Des : goal.returns-in-Des
returns-in-Des c = record { inverse = turned _ _ _ c.in-Des.is c.turn.ensures.inverse; turned = tt }

pub returns-in-TripleDes : goal.returns-in-TripleDes
returns-in-TripleDes c = record { inverse = turned _ _ _ c.in-TripleDes.is c.turn-in-TripleDes.ensures.inverse; turned = tt }

pub returns-in-Idea : goal.returns-in-Idea
returns-in-Idea c = record { inverse = turned _ _ _ c.in-Idea.is c.turn-in-Idea.ensures.inverse; turned = tt }

pub returns-in-Xtea : goal.returns-in-Xtea
returns-in-Xtea c = record { inverse = turned _ _ _ c.in-Xtea.is c.turn-in-Xtea.ensures.inverse; turned = tt }
