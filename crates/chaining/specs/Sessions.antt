-- Sessions: calls on a bench, one after another. Assumes nothing.
use Rattle.std.specs.Prelude.{◌≡◌, ℕ, List, [], ◌∷◌, map, Some, Ok, vec_items, Option, Vec}
use Rattle.chaining.specs.declared.calls.Call.{Call}
use Rattle.chaining.specs.declared.calls.Request.TheVariants.{Pass, Turn, Restart}
use Rattle.chaining.specs.declared.calls.Request.{Request}
use Rattle.chaining.specs.Benches.{State, Answer, Turned, Passed, Restarted}

-- a request, with the bytes that it holds
abbrev pub asked : {A : Type 0} → Request (Vec ℕ A) → Request (List ℕ)
asked (Pass run) = Pass (vec_items run)
asked Turn = Turn
asked (Restart start) = Restart (vec_items start)

-- a request that is done in state s: its answer a, what is left of it, and the state t after it
abbrev pub Does : State → Request (List ℕ) → Answer → Request (List ℕ) → State → Type 0
Does s (Pass xs) a left t = (ys : List ℕ) × (left ≡ Pass ys) × Passed s xs a ys t
Does s Turn a left t = (left ≡ Turn) × (a ≡ Ok tt) × Turned s t
Does s (Restart xs) a left t = (left ≡ Restart xs) × Restarted s xs a t

-- one call: what it brought, the answer, what it left, and the bench after it
pub record Exchange : Type 0 where
  pub brought : Request (List ℕ)
  pub answer : Answer
  pub left : Request (List ℕ)
  pub after : State

-- the calls of a session on a bench in state s, which nothing else changes
unfoldable pub Ran : State → List Exchange → Type 0
Ran s [] = Unit {0}
Ran s (x ∷ xs) = Does s x.brought x.answer x.left x.after × Ran x.after xs

-- the state that a session leaves
unfoldable pub last_of : State → List Exchange → State
last_of s [] = s
last_of s (x ∷ xs) = last_of x.after xs

-- what some calls ask
abbrev pub requests : List Call → List (Request (List ℕ))
requests calls = map (λ c. asked c.request) calls

-- what the bench that had them last answered
abbrev pub answers : List Call → List (Option Answer)
answers calls = map (λ c. c.answer) calls

-- and the one before it
abbrev pub earlier : List Call → List (Option Answer)
earlier calls = map (λ c. c.earlier) calls

-- a bench went from s to t over a session, and the calls were changed to what it left and answered
pub record Served (s : State) (calls : List Call) (served : List Call) (t : State) : Type 0 where
  pub session : List Exchange
  pub ran : Ran s session
  pub brought : map (λ x. x.brought) session ≡ requests calls
  pub left : map (λ x. x.left) session ≡ requests served
  pub answered : map (λ x. Some x.answer) session ≡ answers served
  pub kept : earlier served ≡ answers calls
  pub after : last_of s session ≡ t
