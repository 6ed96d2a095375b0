-- One more call at the end of a session. Assumes nothing.
use Rattle.std.proofs.Common.{◌≡◌, ℕ, ◌+◌, ◌<◌, List, [], ◌∷◌, ◌++◌, map, length, get_or, take, drop, set, Some, sym, refl, ap, ◌∙◌, subst, add-zero, arith}
use Rattle.std.proofs.lemmas.List.{map-append, take_more, take_more_set, get_or-drop, drop-drop, drop-set-lt}
use Rattle.chaining.specs.declared.calls.Call.{Call}
use Rattle.chaining.specs.Benches.{State}
use Rattle.chaining.specs.Sessions.{asked, Does, Exchange, Ran, last_of, Served}
use Rattle.chaining.specs.internal.OneCall.{ServedCall}

ran_push : (s : State) (xs : List Exchange) (x : Exchange) → Ran s xs → Does (last_of s xs) x.brought x.answer x.left x.after → Ran s (xs ++ x ∷ [])
unfolding Ran last_of
ran_push s [] x r d = (d, tt)
ran_push s (y ∷ ys) x r d = (r.0, ran_push y.after ys x r.1 d)

last_push : (s : State) (xs : List Exchange) (x : Exchange) → last_of s (xs ++ x ∷ []) ≡ x.after
unfolding last_of
last_push s [] x = refl
last_push s (y ∷ ys) x = last_push y.after ys x

-- a list with one more at its end, under a map, where the maps agree so far and on what is added
push_same : {X Y Z : Type 0} (f : X → Z) (g : Y → Z) (xs : List X) (ys : List Y) (x : X) (y : Y) → map f xs ≡ map g ys → f x ≡ g y → map f (xs ++ x ∷ []) ≡ map g (ys ++ y ∷ [])
push_same f g xs ys x y e q = map-append f xs (x ∷ []) ∙ (λ t. e t ++ (q t ∷ [])) ∙ sym (map-append g ys (y ∷ []))

served_push : (s t u : State) (calls served : List Call) (call now : Call) → Served s calls served t → ServedCall t call now u → Served s (calls ++ call ∷ []) (served ++ now ∷ []) u
served_push s t u calls served call now v w =
    let x : Exchange = record { brought = asked call.request; answer = w.answer; left = asked now.request; after = u } in
    record {
      session = v.session ++ x ∷ [];
      ran = ran_push s v.session x v.ran (subst (λ z. Does z (asked call.request) w.answer (asked now.request) u) (sym v.after) w.does);
      brought = push_same (λ y. y.brought) (λ c. asked c.request) v.session calls x call v.brought refl;
      left = push_same (λ y. y.left) (λ c. asked c.request) v.session served x now v.left refl;
      answered = push_same (λ y. Some y.answer) (λ c. c.answer) v.session served x now v.answered (sym w.answered);
      kept = push_same (λ c. c.earlier) (λ c. c.answer) served calls now call v.kept w.kept;
      after = last_push s v.session x;
    }

pub served_none : (s : State) → Served s [] [] s
unfolding Ran last_of
served_none s = record { session = []; ran = tt; brought = refl; left = refl; answered = refl; kept = refl; after = refl }

-- what stands behind a place is the same, so it is at that place, and behind the next one
same_at : (calls now : List Call) (i : ℕ) (d : Call) → drop i now ≡ drop i calls → get_or now i d ≡ get_or calls i d
same_at calls now i d e =
    let here : (l : List Call) → get_or (drop i l) 0 d ≡ get_or l i d = λ l. simp add-zero at (get_or-drop i l 0 d) in
    sym (here now) ∙ ap (λ l. get_or l 0 d) e ∙ here calls

same_behind : (calls now : List Call) (i : ℕ) (next : Call) → drop i now ≡ drop i calls → drop (i + 1) (set now i next) ≡ drop (i + 1) calls
same_behind calls now i next e = drop-set-lt (i + 1) now i next (omega arith) ∙ sym (drop-drop 1 i now) ∙ ap (drop 1) e ∙ drop-drop 1 i calls

pub serving_more : (s t u : State) (calls now : List Call) (i : ℕ) (d next : Call) → i < length calls → length now ≡ length calls → Served s (take i calls) (take i now) t → drop i now ≡ drop i calls → ServedCall t (get_or now i d) next u → Served s (take (i + 1) calls) (take (i + 1) (set now i next)) u × (drop (i + 1) (set now i next) ≡ drop (i + 1) calls)
serving_more s t u calls now i d next p l v e w = (
  subst (λ cs. Served s cs (take (i + 1) (set now i next)) u) (sym (take_more calls i d p))
      (subst (λ cs. Served s (take i calls ++ get_or calls i d ∷ []) cs u) (sym (take_more_set now i next (subst (λ n. i < n) (sym l) p)))
      (served_push s t u (take i calls) (take i now) (get_or calls i d) next v (subst (λ c. ServedCall t c next u) (same_at calls now i d e) w))),
  same_behind calls now i next e,
)
