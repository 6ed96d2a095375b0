-- The round words of no cycle, and of one cycle more. Assumes nothing.
use Rattle.std.proofs.Common.{◌≡◌, ℕ, ◌+◌, List, [], ◌∷◌, ◌++◌, refl, sym, ap, ◌∙◌, add-one, append_assoc}
use Rattle.xtea.specs.Xtea.{first_word, second_word, words_of}

pub words_none : (key : List ℕ) → words_of key 0 ≡ []
unfolding words_of
words_none key = refl

pub words_more : (key : List ℕ) (j : ℕ) → words_of key (j + 1) ≡ (words_of key j ++ first_word key j ∷ []) ++ second_word key j ∷ []
unfolding words_of
words_more key j = ap (words_of key) (add-one j) ∙ sym (append_assoc (words_of key j) (first_word key j ∷ []) (second_word key j ∷ []))
