-- The layers of a new cipher are DES, and deciphering is their inverse. Assumes nothing.
use Rattle.std.proofs.Common.{◌≡◌, ℕ, Bool, true, false, List, refl, ap, ◌∙◌}
use Rattle.ciphers.specs.Blocks.{feistel}
use Rattle.ciphers.specs.Maps.{SameMap}
use Rattle.ciphers.specs.internal.Sealing.{composed, permuted_by}
use Rattle.selections.specs.Selections.{picked}
use Rattle.selections.specs.Permutations.{inverse_table}
use Rattle.des.specs.Des.{through, des}
use Rattle.des.specs.Keys.{round_words}
use Rattle.des.specs.Networks.{network_of}
use Rattle.des.specs.Tables.{initial, final}

-- the last table is the inverse of the first
pub final_is : inverse_table 64 initial ≡ final
unfolding inverse_table
final_is = refl

sealed : (ws : List ℕ) (b : ℕ) → composed false (permuted_by false initial) (composed false (feistel (network_of false ws)) (permuted_by true initial)) b ≡ through ws b
unfolding through
sealed ws b = ap (λ t. picked 64 t (feistel (network_of false ws) (picked 64 initial b))) final_is

-- a new cipher: nothing is turned but the last permutation
pub sealed_new : (outer inner first third flipped : Bool) (ws : List ℕ) (key : ℕ) → outer ≡ false → inner ≡ false → first ≡ false → third ≡ true → flipped ≡ false → ws ≡ round_words key
    → SameMap (composed outer (permuted_by first initial) (composed inner (feistel (network_of flipped ws)) (permuted_by third initial))) (des key)
sealed_new outer inner first third flipped ws key o i p q n e b block =
    (λ j. composed (o j) (permuted_by (p j) initial) (composed (i j) (feistel (network_of (n j) (e j))) (permuted_by (q j) initial)) b) ∙ sealed (round_words key) b
