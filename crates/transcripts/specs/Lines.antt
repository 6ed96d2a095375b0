-- The lines of a session's text. Assumes nothing.
use Rattle.std.specs.Prelude.{ℕ, if◌then◌else◌, List, length, take, drop, Some, None, vec_items, codes, Option, Vec}
use Rattle.std.specs.Option.{option_map}
use Rattle.std.specs.Str.{bytes_eq}
use Rattle.chaining.specs.declared.calls.Request.TheVariants.{Pass, Turn, Restart}
use Rattle.chaining.specs.Sessions.{asked}
use Rattle.known_answers.specs.Hex.{bytes_of}
use Rattle.transcripts.specs.declared.lines.Line.TheVariants.{Key, Call}
use Rattle.transcripts.specs.declared.lines.Line.{Line}

-- what stands behind a word in a line that begins with it
abbrev pub behind : List ℕ → List ℕ → Option (List ℕ)
behind word line = if bytes_eq (take (length word) line) word then Some (drop (length word) line) else None

-- a line, with the bytes that it holds
abbrev pub said : {A : Type 0} → Line (Vec ℕ A) → Line (List ℕ)
said (Key key) = Key (vec_items key)
said (Call request) = Call (asked request)

-- what a line says by the bytes that the digits behind a word write, or else what it says by other words
abbrev pub by_word : Option (List ℕ) → (List ℕ → Line (List ℕ)) → Option (Line (List ℕ)) → Option (Line (List ℕ))
by_word None says others = others
by_word (Some digits) says others = option_map says (bytes_of digits)

-- "key ", "pass " or "restart " with digits behind it, or "turn"
abbrev pub line_of : List ℕ → Option (Line (List ℕ))
line_of line =
    by_word (behind (codes "key ") line) (λ key. Key key)
    (by_word (behind (codes "pass ") line) (λ run. Call (Pass run))
    (by_word (behind (codes "restart ") line) (λ start. Call (Restart start))
    (if bytes_eq line (codes "turn") then Some (Call Turn) else None)))
