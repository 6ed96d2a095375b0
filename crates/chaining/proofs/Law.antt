-- The session law. Assumes nothing.
use Rattle.std.proofs.Common.{◌≡◌, ℕ, List, [], ◌∷◌, map, get_or, drop, Some, sym, refl, ap, ◌∙◌, ap₂, subst}
use Rattle.chaining.specs.declared.calls.Call.{Call}
use Rattle.chaining.specs.Benches.{State, begun, Turned}
use Rattle.ciphers.specs.Maps.{SameMap}
use Rattle.chaining.specs.Mirrors.{Facing, Mirrors, CallByCall, BothRan, SessionLaw, Mirrored, GivenBack}
use Rattle.chaining.specs.Sessions.{Does, Exchange, Ran, last_of, Served}
use Rattle.chaining.proofs.Facing.{facing_begun}
use Rattle.chaining.proofs.Mirroring.{does_mirrored}

-- benches that face each other, over a session
record Faced (there : List Exchange) (back : List Exchange) (s : State) (t : State) : Type 0 where
  pub calls : CallByCall there back
  pub after : Facing (last_of s there) (last_of t back)

faced : (s t : State) (there back : List Exchange) → Facing s t → Ran s there → Ran t back → map (λ y. y.brought) back ≡ map (λ x. x.left) there → Faced there back s t
unfolding Ran last_of CallByCall
faced s t [] [] a r q e = record { calls = tt; after = a }
faced s t [] (y ∷ ys) a r q e = cc
faced s t (x ∷ xs) [] a r q e = cc
faced s t (x ∷ xs) (y ∷ ys) a r q e =
    let head : y.brought ≡ x.left = ap (λ l. get_or l 0 y.brought) e in
    let m = does_mirrored s t x.brought x.answer y.answer x.left y.left x.after y.after a r.0 (subst (λ b. Does t b y.answer y.left y.after) head q.0) in
    let rest = faced x.after y.after xs ys m.2 r.1 q.1 (ap (drop 1) e) in
    record { calls = (record { answer = m.0; given_back = m.1; facing = m.2 }, rest.calls); after = rest.after }

both_faced : (f g : ℕ → ℕ) (there : List Exchange) (turned : State) (back : List Exchange) → SameMap f g → BothRan f g there turned back → Faced there back (begun f) turned
both_faced f g there turned back e b = faced (begun f) turned there back (facing_begun f g turned e b.turned_once) b.first b.second b.as_left

pub session_law : SessionLaw
session_law f g there turned back e b = (both_faced f g there turned back e b).calls

-- what holds call by call holds of the lists
each_same : {X : Type 0} (f g : Exchange → X) → ((x y : Exchange) → Mirrors x y → f y ≡ g x) → (there back : List Exchange) → CallByCall there back → map f back ≡ map g there
unfolding CallByCall
each_same f g e [] [] c = refl
each_same f g e [] (y ∷ ys) c = absurd c
each_same f g e (x ∷ xs) [] c = absurd c
each_same f g e (x ∷ xs) (y ∷ ys) c = ap₂ (λ z zs. z ∷ zs) (e x y c.0) (each_same f g e xs ys c.1)

-- two servings, on a new bench and on a turned one
pub mirrored : (f g : ℕ → ℕ) (calls between served : List Call) (new turned s t : State) → new ≡ begun f → Served new calls between s → Turned (begun g) turned → Served turned between served t → Mirrored f g calls served s t
mirrored f g calls between served new turned s t e v u w =
    let v' : Served (begun f) calls between s = subst (λ n. Served n calls between s) e v in
    let ran : BothRan f g v'.session turned w.session = record { first = v'.ran; turned_once = u; second = w.ran; as_left = w.brought ∙ sym v'.left } in
    record {
      there = v'.session;
      turned = turned;
      back = w.session;
      ran = ran;
      law = λ e. session_law f g _ _ _ e ran;
      brought = v'.brought;
      left = w.left;
      first_answers = v'.answered ∙ sym w.kept;
      second_answers = w.answered;
      first_after = v'.after;
      second_after = w.after;
    }

pub all_given_back : (f g : ℕ → ℕ) (calls served : List Call) (s t : State) → Mirrored f g calls served s t → SameMap f g → GivenBack calls served s t
all_given_back f g calls served s t m e =
    let b = both_faced f g m.there m.turned m.back e m.ran in
    record {
      requests = sym m.left ∙ each_same (λ z. z.left) (λ z. z.brought) (λ x y n. n.given_back) m.there m.back b.calls ∙ m.brought;
      answers = sym m.second_answers ∙ each_same (λ z. Some z.answer) (λ z. Some z.answer) (λ x y n. ap Some n.answer) m.there m.back b.calls ∙ m.first_answers;
      facing = subst (λ x. Facing x t) m.first_after (subst (λ y. Facing (last_of (begun f) m.there) y) m.second_after b.after);
    }
