-- What a stage makes of a block is a block. Assumes nothing.
use Rattle.std.proofs.Common.{ℕ, ◌^◌, ◌<◌, List, get_or, arith}
use Rattle.ciphers.specs.Maps.{SameMap}
use Rattle.ciphers.proofs.Blocks.{bytes_below}
use Rattle.des.proofs.Below.{des_below, tdea_below}
use Rattle.idea.proofs.Below.{idea_below}
use Rattle.whitening.proofs.Below.{wadd_below, wxor_below}
use Rattle.xtea.proofs.Below.{xtea_below}
use Rattle.plans.specs.declared.stages.Stage.TheVariants.{Des, Ede2, Ede3, Idea, Xtea, Wxor, Wadd}
use Rattle.plans.specs.declared.stages.Stage.{Stage}
use Rattle.piles.specs.declared.layers.Layer.{Layer}
use Rattle.piles.specs.Keyed.{sealed_by}
use Rattle.piles.specs.internal.Layers.{layered}

sealed_by_below : (stage : Stage) (key : List ℕ) (b : ℕ) → ((i : ℕ) → get_or key i 0 < 256) → b < 2 ^ 64 → sealed_by stage key b < 2 ^ 64
sealed_by_below Des key b bytes l = des_below _ b
sealed_by_below Ede2 key b bytes l = tdea_below _ _ _ b
sealed_by_below Ede3 key b bytes l = tdea_below _ _ _ b
sealed_by_below (Idea rounds) key b bytes l = idea_below _ rounds b
sealed_by_below (Xtea cycles) key b bytes l = xtea_below key cycles b l
sealed_by_below Wxor key b bytes l = wxor_below _ b (bytes_below key bytes) l
sealed_by_below Wadd key b bytes l = wadd_below _ b (bytes_below key bytes) l

-- what a layer makes of a block is a block, where it is the layer of a stage
pub layered_below : (layer : Layer) (stage : Stage) (key : List ℕ) → SameMap (layered layer) (sealed_by stage key) → ((i : ℕ) → get_or key i 0 < 256) → (b : ℕ) → b < 2 ^ 64 → layered layer b < 2 ^ 64
layered_below layer stage key same bytes b l = omega (arith, same b l, sealed_by_below stage key b bytes l)
