-- What stages make of a block under the bytes of a key. Assumes nothing.
use Rattle.std.specs.Prelude.{ℕ, List, [], ◌∷◌, drop, take}
use Rattle.std.specs.Int.{from_be_bytes, w64, w128}
use Rattle.whitening.specs.Whitening.{wadd, wxor}
use Rattle.xtea.specs.Xtea.{xtea}
use Rattle.des.specs.Des.{des}
use Rattle.des.specs.Triple.{tdea, key_at}
use Rattle.idea.specs.Idea.{idea}
use Rattle.plans.specs.declared.stages.Stage.TheVariants.{Des, Ede2, Ede3, Idea, Xtea, Wxor, Wadd}
use Rattle.plans.specs.declared.stages.Stage.{Stage}
use Rattle.plans.specs.Stages.{key_length}

-- the block that a stage makes of a block under its own key
abbrev pub sealed_by : Stage → List ℕ → ℕ → ℕ
sealed_by Des key b = des (from_be_bytes w64 key) b
sealed_by Ede2 key b = tdea (key_at key 0) (key_at key 1) (key_at key 0) b
sealed_by Ede3 key b = tdea (key_at key 0) (key_at key 1) (key_at key 2) b
sealed_by (Idea rounds) key b = idea (from_be_bytes w128 key) rounds b
sealed_by (Xtea cycles) key b = xtea key cycles b
sealed_by Wxor key b = wxor (from_be_bytes w64 key) b
sealed_by Wadd key b = wadd (from_be_bytes w64 key) b

-- the block that stages make of a block from left to right, each under its bytes of the key, which follow one another
abbrev pub sealed_by_all : List Stage → List ℕ → ℕ → ℕ
sealed_by_all [] key b = b
sealed_by_all (stage ∷ stages) key b =
    sealed_by_all stages (drop (key_length stage) key) (sealed_by stage (take (key_length stage) key) b)
