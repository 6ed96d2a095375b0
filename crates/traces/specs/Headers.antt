-- The first eight bytes of a trace file, as a number. Assumes nothing.
use Rattle.std.specs.Prelude.{ℕ, ◌+◌, ◌*◌, ◌/◌, ◌%◌, ◌^◌, ◌&&◌, ◌||◌, List, [], ◌∷◌, Result, Ok, Err, codes, nat_lt, ◌==◌, if◌then◌else◌}
use Rattle.refusals.specs.declared.reasons.Refusal.TheVariants.{FieldTooLarge, FileForm}
use Rattle.refusals.specs.declared.reasons.Refusal.{Refusal}
use Rattle.traces.specs.declared.headers.Axis.TheVariants.{RightAscension, Declination}
use Rattle.traces.specs.declared.headers.Axis.{Axis}
use Rattle.traces.specs.declared.headers.Header.{Header}
use Rattle.traces.specs.declared.headers.Label.{Label}

-- how an axis stands in a file
abbrev pub axis_number : Axis → ℕ
axis_number RightAscension = 0
axis_number Declination = 1

-- how an axis is printed
abbrev pub axis_text : Axis → List ℕ
axis_text RightAscension = codes "right ascension"
axis_text Declination = codes "declination"

-- fields packed after what is packed already, each as its bits and its value
abbrev pub packed : ℕ → List (ℕ × ℕ) → ℕ
packed before [] = before
packed before ((bits, value) ∷ fields) = packed (before * 2 ^ bits + value) fields

-- form, axis, spare, serial and trace number, the most significant first
abbrev pub word_of : Label → ℕ
word_of label = packed 0 ((4, 1) ∷ (1, label.axis) ∷ (3, 0) ∷ (24, label.serial) ∷ (32, label.number) ∷ [])

-- the header of a label, or why it has none
abbrev pub labelled : Label → Result ℕ Refusal
labelled label =
    if nat_lt 1 label.axis || nat_lt 0xFFFFFF label.serial then Err FieldTooLarge else Ok (word_of label)

-- the field of a header that has some bits below it
abbrev pub field : ℕ → ℕ → ℕ → ℕ
field below bits word = word / 2 ^ below % 2 ^ bits

-- the axis of a bit
abbrev pub axis_of : ℕ → Axis
axis_of bit = if bit == 0 then RightAscension else Declination

-- the header that a number is, or why it is none
abbrev pub header_of : ℕ → Result Header Refusal
header_of word =
    if field 60 4 word == 1 && field 56 3 word == 0
    then Ok (record { axis = axis_of (field 59 1 word); serial = field 32 24 word; number = field 0 32 word })
    else Err FileForm

-- the numbers of a header
abbrev pub label_of : Header → Label
label_of header = record { axis = axis_number header.axis; serial = header.serial; number = header.number }
