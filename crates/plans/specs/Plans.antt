-- What a description is read as. Assumes nothing.
use Rattle.std.specs.Prelude.{ℕ, ◌+◌, List, [], ◌∷◌, ◌++◌, length, drop, take, Some, None, Option, Result, Ok, Err, nat_lt, ◌==◌, if◌then◌else◌}
use Rattle.std.specs.List.{position}
use Rattle.std.specs.Option.{ok_or}
use Rattle.refusals.specs.declared.reasons.Refusal.TheVariants.{DescriptionTooLong, NoWord, UnknownName, BadCount, FifthWord}
use Rattle.refusals.specs.declared.reasons.Refusal.{Refusal}
use Rattle.plans.specs.declared.stages.Stage.{Stage}
use Rattle.plans.specs.Stages.{count_of, counted, stage_named}
use Rattle.plans.specs.Words.{Placed, words_from}

-- the next result, which a value decides; an error stays
abbrev pub and_then : {T U E : Type 0} → Result T E → (T → Result U E) → Result U E
and_then (Ok x) next = next x
and_then (Err e) next = Err e

-- the stage that a word names: its name alone, or with a count where the word has a colon
abbrev pub stage_by : Placed → Option ℕ → Result Stage Refusal
stage_by word None = ok_or (stage_named word.bytes) (UnknownName word.place)
stage_by word (Some colon) =
    and_then (ok_or (stage_named (take colon word.bytes)) (UnknownName word.place))
    (λ stage. ok_or (counted stage (count_of (drop (colon + 1) word.bytes))) (BadCount (word.place + colon)))

-- the same, where the first colon of a word ends its name
abbrev pub stage_of : Placed → Result Stage Refusal
stage_of word = stage_by word (position (λ b. b == 58) word.bytes)

-- some stages and that of the next word; a fifth word is not read
abbrev pub with_word : List Stage → Placed → Result (List Stage) Refusal
with_word stages word =
    if length stages == 4 then Err (FifthWord word.place)
    else and_then (stage_of word) (λ stage. Ok (stages ++ stage ∷ []))

-- some stages and those of the words after them, each word judged before the next
abbrev pub with_words : List Stage → List Placed → Result (List Stage) Refusal
with_words stages [] = Ok stages
with_words stages (word ∷ words) = and_then (with_word stages word) (λ more. with_words more words)

-- the stages of the words of a description of some size; there must be a word
abbrev pub stages_of : ℕ → List Placed → Result (List Stage) Refusal
stages_of size [] = Err (NoWord size)
stages_of size (word ∷ words) = with_words [] (word ∷ words)

-- the stages that a description names, or why it names none
abbrev pub plan_of : List ℕ → Result (List Stage) Refusal
plan_of description =
    if nat_lt 64 (length description) then Err DescriptionTooLong
    else stages_of (length description) (words_from 0 description)
