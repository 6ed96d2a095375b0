-- The definitions at a few traces and files: each is computed. Assumes nothing.
use Rattle.std.proofs.Common.{◌≡◌, [], ◌∷◌, ◌++◌, replicate, Some, None, Ok, Err, refl}
use Rattle.refusals.specs.declared.reasons.Refusal.TheVariants.{StartLength, PlainTooLong, FieldTooLarge, FileLength, FileForm, BadPadding, OutputTooShort}
use Rattle.traces.specs.declared.headers.Axis.TheVariants.{RightAscension, Declination}
use Rattle.traces.specs.Closing.{judged_closing}
use Rattle.traces.specs.Headers.{header_of, labelled}
use Rattle.traces.specs.Opening.{judged_file, judged_plain}
use Rattle.traces.specs.Padding.{padded, unpadded}

nothing : padded [] ≡ replicate 8 8
nothing = refl

seven : padded (replicate 7 0) ≡ replicate 7 0 ++ 1 ∷ []
seven = refl

a_block : padded (replicate 8 0) ≡ replicate 8 0 ++ replicate 8 8
a_block = refl

all_padding : unpadded (replicate 8 8) ≡ Some []
all_padding = refl

one_byte : unpadded (replicate 7 0 ++ 1 ∷ []) ≡ Some (replicate 7 0)
one_byte = refl

no_padding : unpadded (replicate 8 0) ≡ None
no_padding = refl

nine : unpadded (replicate 16 9) ≡ None
nine = refl

one_of_two_wrong : unpadded (replicate 6 0 ++ 1 ∷ 2 ∷ []) ≡ None
one_of_two_wrong = refl

the_header : labelled (record { axis = 1; serial = 5; number = 9 }) ≡ Ok 0x1800000500000009
the_header = refl

the_header_read : header_of 0x1800000500000009 ≡ Ok (record { axis = Declination; serial = 5; number = 9 })
the_header_read = refl

largest : labelled (record { axis = 0; serial = 16777215; number = 0xFFFFFFFF }) ≡ Ok 0x10FFFFFFFFFFFFFF
largest = refl

largest_read : header_of 0x10FFFFFFFFFFFFFF ≡ Ok (record { axis = RightAscension; serial = 16777215; number = 0xFFFFFFFF })
largest_read = refl

serial_over : labelled (record { axis = 0; serial = 16777216; number = 0 }) ≡ Err FieldTooLarge
serial_over = refl

axis_over : labelled (record { axis = 2; serial = 0; number = 0 }) ≡ Err FieldTooLarge
axis_over = refl

other_form : header_of 0x2000000500000009 ≡ Err FileForm
other_form = refl

no_form : header_of 0x0000000500000009 ≡ Err FileForm
no_form = refl

spare_bit : header_of 0x1100000500000009 ≡ Err FileForm
spare_bit = refl

enough_room : judged_closing (record { axis = 1; serial = 5; number = 9 }) (replicate 8 0) [] 24 ≡ Ok 24
enough_room = refl

no_room : judged_closing (record { axis = 1; serial = 5; number = 9 }) (replicate 8 0) [] 23 ≡ Err OutputTooShort
no_room = refl

start_first : judged_closing (record { axis = 2; serial = 5; number = 9 }) (replicate 7 0) (replicate 32768 0) 0 ≡ Err StartLength
start_first = refl

plain_second : judged_closing (record { axis = 2; serial = 5; number = 9 }) (replicate 8 0) (replicate 32768 0) 0 ≡ Err PlainTooLong
plain_second = refl

label_third : judged_closing (record { axis = 2; serial = 5; number = 9 }) (replicate 8 0) (replicate 32767 0) 0 ≡ Err FieldTooLarge
label_third = refl

shortest : judged_file (0x18 ∷ 0 ∷ 0 ∷ 5 ∷ 0 ∷ 0 ∷ 0 ∷ 9 ∷ replicate 16 0) ≡ Ok (record { axis = Declination; serial = 5; number = 9 })
unfolding judged_file
shortest = refl

too_short : judged_file (replicate 16 0) ≡ Err FileLength
unfolding judged_file
too_short = refl

not_whole : judged_file (replicate 25 0) ≡ Err FileLength
unfolding judged_file
not_whole = refl

longest : judged_file (replicate 32784 0) ≡ Err FileForm
unfolding judged_file
longest = refl

too_long : judged_file (replicate 32792 0) ≡ Err FileLength
unfolding judged_file
too_long = refl

padding_first : judged_plain None 0 ≡ Err BadPadding
padding_first = refl
