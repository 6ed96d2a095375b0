-- What is written as a description is read back. Assumes nothing.
use Rattle.std.proofs.Common.{◌≡◌, ℕ, zero, suc, ◌+◌, ◌-◌, ◌*◌, ◌<◌, ◌≤◌, Bool, ◌&&◌, not, true, false, List, [], ◌∷◌, ◌++◌, length, replicate, Result, Ok, Err, refl, sym, ap, ◌∙◌, append_assoc, length-append, leb-true, ltb-true, arith, rules}
use Rattle.std.specs.Prelude.{◌==◌, nat_le, nat_lt}
use Rattle.std.specs.Fmt.{digits}
use Rattle.std.specs.List.{All, list_all, range_with_len, slice_split}
use Rattle.std.proofs.lemmas.Bool.{and_parts, not-true}
use Rattle.std.proofs.lemmas.List.{append-nil}
use Rattle.std.proofs.lemmas.List.Elements.{All-head, All-tail}
use Rattle.std.proofs.lemmas.List.FromFn.{get_or-range_with_len, length-range_with_len}
use Rattle.std.proofs.lemmas.List.Splits.{slice_split_at, slice_split_none}
use Rattle.std.proofs.lemmas.List.Sums.{AllPass-from_list_all}
use Rattle.refusals.specs.declared.reasons.Refusal.{Refusal}
use Rattle.plans.specs.declared.stages.Stage.TheVariants.{Des, Ede2, Ede3, Idea, Xtea, Wxor, Wadd}
use Rattle.plans.specs.declared.stages.Stage.{Stage}
use Rattle.plans.specs.contracts.stages.StagePartialEq.TheImpl.{eq-value}
use Rattle.plans.specs.Plans.{and_then, stage_of, with_word, with_words, stages_of, plan_of}
use Rattle.plans.specs.Stages.{CountFits, stage_text}
use Rattle.plans.specs.Words.{Placed, placed_from, words_from}
use Rattle.plans.specs.Written.{Apart, Lawful, described, spaced}
use Rattle.plans.proofs.Agreeing.{one_stage}
use Rattle.plans.proofs.Cutting.{placed_first}

told : Stage → Result Stage Refusal → Bool
told stage (Ok other) = eq-value.it other stage
told stage (Err e) = false

-- what is tested of each stage: its text names it, and has one to seven bytes, of which none is a space
good : ℕ → Stage → Bool
good p stage =
    told stage (stage_of record { place = p; bytes = stage_text stage })
    && list_all (λ b. not (b == 32)) (stage_text stage)
    && nat_lt 0 (length (stage_text stage))
    && nat_le (length (stage_text stage)) 7

each_count : (test : ℕ → Bool) (most : ℕ) → list_all test (range_with_len 1 most) ≡ true → (n : ℕ) → 1 ≤ n → n ≤ most → test n ≡ true
each_count test most t n some few =
    let i = n - 1 in
    let below : i < most = omega arith in
    let at : 1 + i ≡ n = omega arith in
    rw (← at) (simp get_or-range_with_len at (AllPass-from_list_all test (range_with_len 1 most) t i 0 (rw length-range_with_len below)))

-- computed for all 45 stages, at any place
every_stage : (p : ℕ) (stage : Stage) → CountFits stage → good p stage ≡ true
unfolding good told digits
every_stage p Des fits = refl
every_stage p Ede2 fits = refl
every_stage p Ede3 fits = refl
every_stage p (Idea rounds) fits = each_count (λ n. good p (Idea n)) 8 refl rounds fits.0 fits.1
every_stage p (Xtea cycles) fits = each_count (λ n. good p (Xtea n)) 32 refl cycles fits.0 fits.1
every_stage p Wxor fits = refl
every_stage p Wadd fits = refl

told_true : (stage : Stage) (r : Result Stage Refusal) → told stage r ≡ true → r ≡ Ok stage
unfolding told
told_true stage (Ok other) e = ap Ok ((one_stage other stage).0 e)
told_true stage (Err e) t = search rules

names_stage : (p : ℕ) (stage : Stage) → CountFits stage → stage_of (record { place = p; bytes = stage_text stage }) ≡ Ok stage
unfolding good
names_stage p stage fits = told_true stage _ (and_parts _ _ (and_parts _ _ (and_parts _ _ (every_stage p stage fits)).0).0).0

no_space : (stage : Stage) → CountFits stage → All (λ b. (b == 32) ≡ false) (stage_text stage)
unfolding good
no_space stage fits k d l = not-true _ (AllPass-from_list_all (λ b. not (b == 32)) (stage_text stage) (and_parts _ _ (and_parts _ _ (and_parts _ _ (every_stage 0 stage fits)).0).0).1 k d l)

some_bytes : (stage : Stage) → CountFits stage → 0 < length (stage_text stage)
unfolding good
some_bytes stage fits = ltb-true _ _ (and_parts _ _ (and_parts _ _ (every_stage 0 stage fits)).0).1

few_bytes : (stage : Stage) → CountFits stage → length (stage_text stage) ≤ 7
unfolding good
few_bytes stage fits = leb-true _ _ (and_parts _ _ (every_stage 0 stage fits)).1

-- what may stand behind a word: nothing, or a space and anything
abbrev Behind : List ℕ → Type 0
Behind [] = Unit
Behind (b ∷ bs) = b ≡ 32

skip : (n p : ℕ) (text : List ℕ) → words_from p (replicate n 32 ++ text) ≡ words_from (p + n) text
skip zero p text = ap (λ q. words_from q text) (omega arith)
skip (suc n) p text = skip n (p + 1) text ∙ ap (λ q. words_from q text) (omega arith)

word_then : (p : ℕ) (word rest : List ℕ) → 0 < length word → All (λ b. (b == 32) ≡ false) word → Behind rest → words_from p (word ++ rest) ≡ record { place = p; bytes = word } ∷ words_from (p + length word) rest
word_then p word [] some none behind =
    ap (words_from p) (append-nil word)
    ∙ ap (placed_from p) (slice_split_none (λ b. b == 32) word none)
    ∙ placed_first p word [] some
word_then p word (b ∷ bs) some none behind =
    ap (λ c. words_from p (word ++ c ∷ bs)) behind
    ∙ ap (placed_from p) (slice_split_at (λ b. b == 32) word 32 bs none refl)
    ∙ placed_first p word (slice_split (λ b. b == 32) bs) some
    ∙ ap (λ c. record { place = p; bytes = word } ∷ words_from (p + length word) (c ∷ bs)) (sym behind)

-- the stages so far and that of a word
with_stage : (acc : List Stage) (p : ℕ) (stage : Stage) → length acc < 4 → CountFits stage → with_word acc (record { place = p; bytes = stage_text stage }) ≡ Ok (acc ++ stage ∷ [])
with_stage acc p stage room fits =
    let free : (length acc == 4) ≡ false = grind arith in
    rw (free) (ap (λ r. and_then r (λ s. Ok (acc ++ s ∷ []))) (names_stage p stage fits))

-- one stage more, and then those of the rest
read_on : (acc : List Stage) (n p : ℕ) (stage : Stage) (stages : List Stage) (rest : List ℕ) → length acc < 4 → CountFits stage → Behind rest → ((q : ℕ) → with_words (acc ++ stage ∷ []) (words_from q rest) ≡ Ok ((acc ++ stage ∷ []) ++ stages)) → with_words acc (words_from p (replicate n 32 ++ (stage_text stage ++ rest))) ≡ Ok (acc ++ stage ∷ stages)
read_on acc n p stage stages rest room fits behind more =
    ap (with_words acc) (skip n p (stage_text stage ++ rest) ∙ word_then (p + n) (stage_text stage) rest (some_bytes stage fits) (no_space stage fits) behind)
    ∙ ap (λ r. and_then r (λ so_far. with_words so_far (words_from (p + n + length (stage_text stage)) rest))) (with_stage acc (p + n) stage room fits)
    ∙ more (p + n + length (stage_text stage))
    ∙ ap Ok (append_assoc acc (stage ∷ []) stages)

-- the spaces between stages, and those behind the last
abbrev Gaps : (ℕ → ℕ) → ℕ → List Stage → Type 0
Gaps spaces k stages = (j : ℕ) → k < j → j < k + length stages → 1 ≤ spaces j

behind_spaces : (n : ℕ) (text : List ℕ) → 1 ≤ n → Behind (replicate n 32 ++ text)
behind_spaces zero text some = absurd (omega arith)
behind_spaces (suc n) text some = refl

behind_end : (n : ℕ) → Behind (replicate n 32)
behind_end zero = tt
behind_end (suc n) = refl

behind_stage : (spaces : ℕ → ℕ) (k : ℕ) (stage : Stage) (stages : List Stage) → Gaps spaces k (stage ∷ stages) → Behind (spaced spaces (k + 1) stages)
behind_stage spaces k stage [] gaps = behind_end (spaces (k + 1))
behind_stage spaces k stage (next ∷ stages) gaps = behind_spaces (spaces (k + 1)) (stage_text next ++ spaced spaces (k + 1 + 1) stages) (gaps (k + 1) (omega arith) (omega arith))

later : (spaces : ℕ → ℕ) (k : ℕ) (stage : Stage) (stages : List Stage) → Gaps spaces k (stage ∷ stages) → Gaps spaces (k + 1) stages
later spaces k stage stages gaps j some below = gaps j (omega arith) (omega arith)

read_spaced : (spaces : ℕ → ℕ) (k p : ℕ) (acc stages : List Stage) → length acc + length stages ≤ 4 → All CountFits stages → Gaps spaces k stages → with_words acc (words_from p (spaced spaces k stages)) ≡ Ok (acc ++ stages)
read_spaced spaces k p acc [] few fits gaps =
    ap (λ text. with_words acc (words_from p text)) (sym (append-nil (replicate (spaces k) 32)))
    ∙ ap (with_words acc) (skip (spaces k) p [])
    ∙ ap Ok (sym (append-nil acc))
read_spaced spaces k p acc (stage ∷ stages) few fits gaps =
    read_on acc (spaces k) p stage stages (spaced spaces (k + 1) stages) (omega arith) (All-head CountFits stage stages fits) (behind_stage spaces k stage stages gaps)
    (λ q. read_spaced spaces (k + 1) q (acc ++ stage ∷ []) stages (omega (arith, length-append acc (stage ∷ []))) (All-tail CountFits stage stages fits) (later spaces k stage stages gaps))

-- the same with one space between
read_described : (p : ℕ) (acc stages : List Stage) → length acc + length stages ≤ 4 → All CountFits stages → with_words acc (words_from p (described stages)) ≡ Ok (acc ++ stages)
read_described p acc [] few fits = ap Ok (sym (append-nil acc))
read_described p acc (stage ∷ []) few fits =
    ap (λ text. with_words acc (words_from p text)) (sym (append-nil (stage_text stage)))
    ∙ read_on acc 0 p stage [] [] (omega arith) (All-head CountFits stage [] fits) tt (λ q. ap Ok (sym (append-nil (acc ++ stage ∷ []))))
read_described p acc (stage ∷ next ∷ stages) few fits =
    read_on acc 0 p stage (next ∷ stages) (32 ∷ described (next ∷ stages)) (omega arith) (All-head CountFits stage (next ∷ stages) fits) refl
    (λ q. read_described (q + 1) (acc ++ stage ∷ []) (next ∷ stages) (omega (arith, length-append acc (stage ∷ []))) (All-tail CountFits stage (next ∷ stages) fits))

-- where words give stages, there was a word
some_word : (size : ℕ) (words : List Placed) (stages : List Stage) → 1 ≤ length stages → with_words [] words ≡ Ok stages → stages_of size words ≡ Ok stages
some_word size [] [] some e = absurd (omega arith)
some_word size [] (stage ∷ stages) some e = search rules
some_word size (word ∷ words) stages some e = e

of_words : (text : List ℕ) (stages : List Stage) → length text ≤ 64 → 1 ≤ length stages → with_words [] (words_from 0 text) ≡ Ok stages → plan_of text ≡ Ok stages
of_words text stages short some e =
    let fits : nat_lt 64 (length text) ≡ false = grind arith in
    rw (fits) (some_word (length text) (words_from 0 text) stages some e)

described_short : (stages : List Stage) → All CountFits stages → length (described stages) ≤ 8 * length stages
described_short [] fits = omega arith
described_short (stage ∷ []) fits = omega (arith, few_bytes stage (All-head CountFits stage [] fits))
described_short (stage ∷ next ∷ stages) fits =
    omega (arith, few_bytes stage (All-head CountFits stage (next ∷ stages) fits), length-append (stage_text stage) (32 ∷ described (next ∷ stages)), described_short (next ∷ stages) (All-tail CountFits stage (next ∷ stages) fits))

pub written : (stages : List Stage) → Lawful stages → plan_of (described stages) ≡ Ok stages
written stages lawful =
    of_words (described stages) stages (omega (arith, lawful.1, described_short stages lawful.2)) lawful.0 (read_described 0 [] stages (omega (arith, lawful.1)) lawful.2)

pub written_apart : (spaces : ℕ → ℕ) (stages : List Stage) → Lawful stages → Apart spaces stages → length (spaced spaces 0 stages) ≤ 64 → plan_of (spaced spaces 0 stages) ≡ Ok stages
written_apart spaces stages lawful apart short =
    of_words (spaced spaces 0 stages) stages short lawful.0 (read_spaced spaces 0 0 [] stages (omega (arith, lawful.1)) lawful.2 (λ j some below. apart j some (omega arith)))
