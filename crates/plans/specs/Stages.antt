-- What a word of a description names. Assumes nothing.
use Rattle.std.specs.Prelude.{ℕ, ◌+◌, ◌-◌, ◌*◌, ◌≤◌, ◌&&◌, List, [], ◌∷◌, ◌++◌, Some, None, Option, codes, decimal, if◌then◌else◌}
use Rattle.std.specs.Option.{option_map}
use Rattle.std.specs.Int.{is_in_range}
use Rattle.std.specs.Str.{bytes_eq}
use Rattle.plans.specs.declared.stages.Stage.TheVariants.{Des, Ede2, Ede3, Idea, Xtea, Wxor, Wadd}
use Rattle.plans.specs.declared.stages.Stage.{Stage}

-- the stage that a name alone names: without a count IDEA has 8 rounds, XTEA 32 cycles
abbrev pub stage_named : List ℕ → Option Stage
stage_named name =
    if bytes_eq name (codes "des") then Some Des
    else if bytes_eq name (codes "ede2") then Some Ede2
    else if bytes_eq name (codes "ede3") then Some Ede3
    else if bytes_eq name (codes "idea") then Some (Idea 8)
    else if bytes_eq name (codes "xtea") then Some (Xtea 32)
    else if bytes_eq name (codes "wxor") then Some Wxor
    else if bytes_eq name (codes "wadd") then Some Wadd
    else None

-- the number that one or two decimal digits write, the first of them not 0
abbrev pub count_of : List ℕ → Option ℕ
count_of [] = None
count_of (ones ∷ []) = if is_in_range 49 57 ones then Some (ones - 48) else None
count_of (tens ∷ ones ∷ []) =
    if is_in_range 49 57 tens && is_in_range 48 57 ones then Some ((tens - 48) * 10 + (ones - 48)) else None
count_of (a ∷ b ∷ c ∷ digits) = None

-- a count of 1 to the most that there may be
abbrev pub at_most : ℕ → Option ℕ → Option ℕ
at_most most None = None
at_most most (Some n) = if is_in_range 1 most n then Some n else None

-- the stage with a count; only IDEA and XTEA take one
abbrev pub counted : Stage → Option ℕ → Option Stage
counted (Idea usual) count = option_map (λ n. Idea n) (at_most 8 count)
counted (Xtea usual) count = option_map (λ n. Xtea n) (at_most 32 count)
counted Des count = None
counted Ede2 count = None
counted Ede3 count = None
counted Wxor count = None
counted Wadd count = None

-- how many bytes of a key a stage takes
abbrev pub key_length : Stage → ℕ
key_length Des = 8
key_length Ede2 = 16
key_length Ede3 = 24
key_length (Idea rounds) = 16
key_length (Xtea cycles) = 16
key_length Wxor = 8
key_length Wadd = 8

-- the count of a stage is one that it takes
abbrev pub CountFits : Stage → Type 0
CountFits (Idea rounds) = (1 ≤ rounds) × (rounds ≤ 8)
CountFits (Xtea cycles) = (1 ≤ cycles) × (cycles ≤ 32)
CountFits Des = Unit
CountFits Ede2 = Unit
CountFits Ede3 = Unit
CountFits Wxor = Unit
CountFits Wadd = Unit

-- a stage as it is printed: its name, and its count where it takes one
abbrev pub stage_text : Stage → List ℕ
stage_text Des = codes "des"
stage_text Ede2 = codes "ede2"
stage_text Ede3 = codes "ede3"
stage_text (Idea rounds) = codes "idea:" ++ decimal rounds
stage_text (Xtea cycles) = codes "xtea:" ++ decimal cycles
stage_text Wxor = codes "wxor"
stage_text Wadd = codes "wadd"
