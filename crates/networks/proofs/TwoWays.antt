-- Both ways back of a Feistel network agree, and undo the run. Assumes nothing.
use Rattle.std.proofs.Common.{◌≡◌, ℕ, true, false, not, List, [], ◌∷◌, reverse, sym, refl, ap, ◌∙◌, ap₂, if◌then◌else◌}
use Rattle.std.proofs.Math.Bool.{not-not}
use Rattle.std.proofs.lemmas.List.{reverse-reverse}
use Rattle.std.specs.List.{fold}
use Rattle.groups.specs.Laws.{Lawful}
use Rattle.groups.proofs.Cancelling.{inverse_twice, taken_back}
use Rattle.networks.specs.declared.pairs.Halves.{Halves}
use Rattle.networks.specs.Inverses.{Inverses}
use Rattle.networks.specs.Halves.{swapped, Words}
use Rattle.networks.specs.Rounds.{Network, applied, round, rounds, unround, unrounds, ran, unran, turned}
use Rattle.networks.proofs.Folds.{fold_reverse_cons}

-- over a lawful group, and a round function whose values are words
module _ {W : Type 0} {fits : W → Type 0} {neutral : W} (N : Network W) (laws : Lawful fits neutral N.joined N.inverted) (values : (half : W) (word : ℕ) → fits (N.function half word)) where
  -- the turned network applies the inverse of what the network applies
  opposed : (a : W) (k : ℕ) → N.inverted (applied N a k) ≡ applied (turned N) a k
  opposed a k =
      elim N.inverting as (λ b. N.inverted (if b then N.inverted (N.function a k) else N.function a k) ≡ (if not b then N.inverted (N.function a k) else N.function a k))
      [ true ↦ inverse_twice laws _ (values a k) | false ↦ refl ]

  -- one undone round, and one round of the turned network with the halves swapped
  step : (k : ℕ) (h : Halves W) → unround N k (swapped h) ≡ swapped (round (turned N) k h)
  step k h = ap (λ x. record { left = N.joined h.left x; right = h.right }) (opposed h.right k)

  agree : (ks : List ℕ) (h : Halves W) → fold (λ s k. unround N k s) (swapped h) ks ≡ swapped (rounds (turned N) ks h)
  agree [] h = refl
  agree (k ∷ ks) h = ap (λ s. fold (λ s k. unround N k s) s ks) (step k h) ∙ agree ks (round (turned N) k h)

  pub ways_back : (h : Halves W) → unran N h ≡ ran (turned N) h
  ways_back h = agree (reverse N.words) h

  applied_fits : (a : W) (k : ℕ) → fits (applied N a k)
  applied_fits a k =
      elim N.inverting as (λ b. fits (if b then N.inverted (N.function a k) else N.function a k))
      [ true ↦ laws.inverse_fits _ (values a k) | false ↦ values a k ]

  -- a round and its undoing
  unround-round : (k : ℕ) (h : Halves W) → fits h.left → unround N k (round N k h) ≡ h
  unround-round k h p = ap (λ l. record { left = l; right = h.right }) (taken_back laws h.left (applied N h.right k) p (applied_fits h.right k))

  unrounds-rounds : (ks : List ℕ) (h : Halves W) → Words fits h → unrounds N ks (rounds N ks h) ≡ h
  unrounds-rounds [] h p = refl
  unrounds-rounds (k ∷ ks) h p =
      fold_reverse_cons (λ s k. unround N k s) k ks _
      ∙ ap (unround N k) (unrounds-rounds ks (round N k h) (p.1, laws.join_fits _ _ p.0 (applied_fits h.right k)))
      ∙ unround-round k h p.0

  pub there_and_back : (h : Halves W) → Words fits h → ran (turned N) (ran N h) ≡ h
  there_and_back h p = sym (ways_back (ran N h)) ∙ unrounds-rounds N.words h p

  rounds_fits : (ks : List ℕ) (h : Halves W) → Words fits h → Words fits (rounds N ks h)
  rounds_fits [] h p = p
  rounds_fits (k ∷ ks) h p = rounds_fits ks (round N k h) (p.1, laws.join_fits _ _ p.0 (applied_fits h.right k))

  -- a run of words gives words
  ran_fits : (h : Halves W) → Words fits h → Words fits (ran N h)
  ran_fits h p = let both = rounds_fits N.words h p in (both.1, both.0)

-- a second turn takes the first back
turned_twice : {W : Type 0} (N : Network W) → turned (turned N) ≡ N
turned_twice N =
    ap₂ (λ b ws. record { joined = N.joined; inverted = N.inverted; function = N.function; inverting = b; words = ws })
    (not-not N.inverting) (reverse-reverse N.words)

-- a network and the turned one are inverses: what holds from one side holds from the other, since the second turn takes the first back
module _ {W : Type 0} {fits : W → Type 0} {neutral : W} (N : Network W) (laws : Lawful fits neutral N.joined N.inverted) (values : (half : W) (word : ℕ) → fits (N.function half word)) where
  pub back_and_forth : (h : Halves W) → Words fits h → ran N (ran (turned N) h) ≡ h
  back_and_forth h p = sym (ap (λ M. ran M (ran (turned N) h)) (turned_twice N)) ∙ there_and_back (turned N) laws values h p

  pub inverses : Inverses (Words fits) (ran N) (ran (turned N))
  inverses = record {
    keeps = ran_fits N laws values;
    keeps_back = ran_fits (turned N) laws values;
    back = there_and_back N laws values;
    forth = back_and_forth;
  }
