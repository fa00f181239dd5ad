-- The order of a choice, act by act.
use Rattle.std.proofs.Common.{◌≡◌, ◌∙◌, ℕ, zero, suc, ◌+◌, List, [], ◌∷◌, ◌++◌, Option, Some, None, refl, sym, ap, arith, append-nil}
use Rattle.order_laws.specs.System.{System, after}
use Rattle.order_laws.specs.EveryOrder.{chosen_by, chosen}

-- who is chosen, if anybody is
abbrev pub listed : {A : Type 0} → Option A → List A
listed None = []
listed (Some a) = a ∷ []

module _ (S : System) (choose : S.State → Option S.Actor) where
  -- who is chosen after n acts
  abbrev pub next_after : ℕ → S.State → Option S.Actor
  next_after n s = choose (after S s (chosen S choose n s))

  -- ONE ACT MORE comes last
  pub chosen_next : (n : ℕ) (s : S.State) → chosen S choose (suc n) s ≡ chosen S choose n s ++ listed (next_after n s)
  chosen_next zero s = go (choose s)
    where
      go : (o : Option S.Actor) → chosen_by S (λ x. chosen S choose zero x) s o ≡ listed o
      go None = refl
      go (Some a) = refl
  chosen_next (suc n) s = go (choose s) refl (λ x. chosen_next n x)
    where
      go : (o : Option S.Actor) → choose s ≡ o → ((x : S.State) → chosen S choose (suc n) x ≡ chosen S choose n x ++ listed (next_after n x))
          → chosen_by S (λ x. chosen S choose (suc n) x) s o
          ≡ chosen_by S (λ x. chosen S choose n x) s o ++ listed (choose (after S s (chosen_by S (λ x. chosen S choose n x) s o)))
      go None e ih = ap listed (sym e)
      go (Some a) e ih = ap (λ (order : List S.Actor). a ∷ order) (ih (S.act s a))

  -- WHERE NOBODY IS CHOSEN, the order is whole
  pub chosen_whole : (k n : ℕ) (s : S.State) → next_after n s ≡ None → chosen S choose (n + k) s ≡ chosen S choose n s
  chosen_whole zero n s none = let e : n + 0 ≡ n = omega arith in ap (λ (m : ℕ). chosen S choose m s) e
  chosen_whole (suc k) n s none =
      let e : n + suc k ≡ suc (n + k) = omega arith in
      ap (λ (m : ℕ). chosen S choose m s) e
      ∙ chosen_next (n + k) s
      ∙ ap (λ (order : List S.Actor). order ++ listed (choose (after S s order))) (chosen_whole k n s none)
      ∙ ap (λ (o : Option S.Actor). chosen S choose n s ++ listed o) none
      ∙ append-nil (chosen S choose n s)

  pub chosen_same : (m n : ℕ) (s : S.State) → next_after m s ≡ None → next_after n s ≡ None → chosen S choose m s ≡ chosen S choose n s
  chosen_same m n s here there =
      let turned : m + n ≡ n + m = omega arith in
      sym (chosen_whole n m s here) ∙ ap (λ (k : ℕ). chosen S choose k s) turned ∙ chosen_whole m n s there
