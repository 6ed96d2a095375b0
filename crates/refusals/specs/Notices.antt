-- What each refusal is told as. Assumes nothing.
use Rattle.std.specs.Prelude.{ℕ, List, ◌++◌, codes, decimal}
use Rattle.refusals.specs.declared.notices.Notice.{Notice}
use Rattle.refusals.specs.declared.reasons.Refusal.TheVariants.{DescriptionTooLong, NoWord, UnknownName, BadCount, FifthWord, KeyLength, StartLength, RunTooLong, PlainTooLong, RunNotWhole, NoChainBlock, FieldTooLarge, FileLength, FileForm, BadPadding, OutputTooShort}
use Rattle.refusals.specs.declared.reasons.Refusal.{Refusal}

-- a number, and a place in what the caller brought
abbrev pub numbered : ℕ → ℕ → Notice
numbered n p = record { number = n; place = p }

-- the number and the place of each refusal
abbrev pub notice_of : Refusal → Notice
notice_of DescriptionTooLong = numbered 1 64
notice_of (NoWord length) = numbered 2 length
notice_of (UnknownName place) = numbered 3 place
notice_of (BadCount place) = numbered 4 place
notice_of (FifthWord place) = numbered 5 place
notice_of KeyLength = numbered 6 0
notice_of StartLength = numbered 7 0
notice_of RunTooLong = numbered 8 0
notice_of PlainTooLong = numbered 8 0
notice_of RunNotWhole = numbered 9 0
notice_of NoChainBlock = numbered 10 0
notice_of FieldTooLarge = numbered 11 0
notice_of FileLength = numbered 12 0
notice_of FileForm = numbered 13 0
notice_of BadPadding = numbered 14 0
notice_of OutputTooShort = numbered 15 0

-- how a notice is printed: its number at its place
abbrev pub notice_text : Notice → List ℕ
notice_text notice = decimal notice.number ++ codes " at " ++ decimal notice.place
