-- Two benches over one session, and the law that the second gives everything back. Assumes nothing.
use Rattle.std.specs.Prelude.{◌≡◌, ℕ, ◌^◌, ◌<◌, List, [], ◌∷◌, map, IfSome, Some}
use Rattle.ciphers.specs.Maps.{Inverse, SameMap}
use Rattle.chaining.specs.declared.calls.Call.{Call}
use Rattle.chaining.specs.Benches.{State, other, begun, Turned}
use Rattle.chaining.specs.Sessions.{Exchange, Ran, last_of, requests, answers, earlier}

-- one bench seals and the other opens, under maps that undo each other, with the same chain block of 64 bits or none
pub record Facing (s : State) (t : State) : Type 0 where
  pub maps : Inverse s.map t.map
  pub directions : t.direction ≡ other s.direction
  pub chains : t.chain ≡ s.chain
  pub block : IfSome s.chain (λ r. r < 2 ^ 64)

-- the call y of the second bench mirrors the call x of the first
pub record Mirrors (x : Exchange) (y : Exchange) : Type 0 where
  -- accepted by both, or refused by both with one number and place
  pub answer : y.answer ≡ x.answer
  -- the second leaves what the first was brought
  pub given_back : y.left ≡ x.brought
  pub facing : Facing x.after y.after

-- each call of the second mirrors the same call of the first
unfoldable pub CallByCall : List Exchange → List Exchange → Type 0
CallByCall [] [] = Unit {0}
CallByCall [] (y ∷ ys) = ⊥
CallByCall (x ∷ xs) [] = ⊥
CallByCall (x ∷ xs) (y ∷ ys) = Mirrors x y × CallByCall xs ys

-- a new bench on f runs a session; a new bench on g is turned once and runs it as the first left it
pub record BothRan (f : ℕ → ℕ) (g : ℕ → ℕ) (there : List Exchange) (turned : State) (back : List Exchange) : Type 0 where
  pub first : Ran (begun f) there
  pub turned_once : Turned (begun g) turned
  pub second : Ran turned back
  pub as_left : map (λ y. y.brought) back ≡ map (λ x. x.left) there

-- the session law: for every session and all maps
abbrev pub SessionLaw : Type 0
SessionLaw = (f g : ℕ → ℕ) (there : List Exchange) (turned : State) (back : List Exchange) → SameMap f g → BothRan f g there turned back → CallByCall there back

-- both benches ran over the calls, and ended in the states s and t
pub record Mirrored (f : ℕ → ℕ) (g : ℕ → ℕ) (calls : List Call) (served : List Call) (s : State) (t : State) : Type 0 where
  pub there : List Exchange
  pub turned : State
  pub back : List Exchange
  pub ran : BothRan f g there turned back
  -- the law, of these sessions
  pub law : SameMap f g → CallByCall there back
  pub brought : map (λ x. x.brought) there ≡ requests calls
  pub left : map (λ y. y.left) back ≡ requests served
  pub first_answers : map (λ x. Some x.answer) there ≡ earlier served
  pub second_answers : map (λ y. Some y.answer) back ≡ answers served
  pub first_after : last_of (begun f) there ≡ s
  pub second_after : last_of turned back ≡ t

-- the calls hold what they brought, both benches answered alike, and they face each other
pub record GivenBack (calls : List Call) (served : List Call) (s : State) (t : State) : Type 0 where
  pub requests : requests served ≡ requests calls
  pub answers : answers served ≡ earlier served
  pub facing : Facing s t
