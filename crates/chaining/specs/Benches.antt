-- What a bench stands for, and what each call on it does. Assumes nothing.
use Rattle.std.specs.Prelude.{◌≡◌, ℕ, ◌%◌, if◌then◌else◌, List, length, Some, None, Ok, Err, Option, Result, ◌==◌, nat_lt, codes}
use Rattle.std.specs.Option.{ok_or}
use Rattle.refusals.specs.declared.reasons.Refusal.TheVariants.{StartLength, RunTooLong, RunNotWhole, NoChainBlock}
use Rattle.refusals.specs.declared.reasons.Refusal.{Refusal}
use Rattle.ciphers.specs.Maps.{Inverse}
use Rattle.chaining.specs.declared.bench.Bench.{Bench}
use Rattle.chaining.specs.declared.direction.Direction.TheVariants.{Sealing, Opening}
use Rattle.chaining.specs.declared.direction.Direction.{Direction}
use Rattle.chaining.specs.Runs.{Bytes, Rewritten, block, chain_after}

-- the present map of the cipher, the direction, and the chain block if there is one
pub record State : Type 0 where
  pub map : ℕ → ℕ
  pub direction : Direction
  pub chain : Option ℕ

-- the state of a bench, whatever the type of its cipher
abbrev pub state_of : {C : Type 0} → (C → ℕ → ℕ) → Bench C → State
state_of map b = record { map = map b.cipher; direction = b.direction; chain = b.chain }

-- the same bench with a chain block
abbrev pub with_chain : State → ℕ → State
with_chain s r = record s { chain = Some r }

-- the other direction
abbrev pub other : Direction → Direction
other Sealing = Opening
other Opening = Sealing

-- how a direction is printed
abbrev pub direction_text : Direction → List ℕ
direction_text Sealing = codes "sealing"
direction_text Opening = codes "opening"

-- done, or refused
abbrev pub Answer : Type 0
Answer = Result (Unit {0}) Refusal

-- a new bench on a map
abbrev pub begun : (ℕ → ℕ) → State
begun f = record { map = f; direction = Sealing; chain = None }

-- a turn
pub record Turned (s : State) (t : State) : Type 0 where
  pub map : Inverse s.map t.map
  pub direction : t.direction ≡ other s.direction
  pub chain : t.chain ≡ s.chain

-- the chain block with which a run of n bytes is taken, or why it is turned away, judged in number order
abbrev pub judged_run : ℕ → Option ℕ → Result ℕ Refusal
judged_run n chain =
    if nat_lt 32768 n then Err RunTooLong else (if n % 8 == 0 then ok_or chain NoChainBlock else Err RunNotWhole)

-- what a pass of xs does once it is judged: refused, it leaves all as it was; taken, it rewrites xs to ys
abbrev pub PassedBy : Result ℕ Refusal → State → List ℕ → Answer → List ℕ → State → Type 0
PassedBy (Err refusal) s xs a ys t = (a ≡ Err refusal) × (ys ≡ xs) × (t ≡ s)
PassedBy (Ok r) s xs a ys t = (a ≡ Ok tt) × Rewritten s.direction s.map r xs ys × (t ≡ with_chain s (chain_after s.direction r xs ys))

-- a pass of the bytes xs, answered a, that leaves ys
abbrev pub Passed : State → List ℕ → Answer → List ℕ → State → Type 0
Passed s xs a ys t = PassedBy (judged_run (length xs) s.chain) s xs a ys t

-- the chain block that a start sets, or why it is turned away
abbrev pub judged_start : List ℕ → Result ℕ Refusal
judged_start start = if length start == 8 then Ok (block start 0) else Err StartLength

-- what a restart does once it is judged
abbrev pub RestartedBy : Result ℕ Refusal → State → List ℕ → Answer → State → Type 0
RestartedBy (Err refusal) s start a t = (a ≡ Err refusal) × (t ≡ s)
RestartedBy (Ok r) s start a t = (a ≡ Ok tt) × Bytes start × (t ≡ with_chain s r)

-- a restart with the bytes of a start, answered a
abbrev pub Restarted : State → List ℕ → Answer → State → Type 0
Restarted s start a t = RestartedBy (judged_start start) s start a t
