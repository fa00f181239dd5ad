-- The runs of a machine and of one that mirrors it go together.
use Rattle.std.proofs.Common.{◌≡◌, ◌⊎◌, inl, inr, ℕ, zero, suc, List, [], ◌∷◌, map, refl, ap, ap₂, ◌∙◌, Bool, true, false, nat_le, Option, Some, None, option_map}
use Rattle.order_laws.specs.System.{after}
use Rattle.order_laws.specs.Runs.{Steps, going, settled, conflicted, bounded, settle_to, look, judge, run_act, runs}
use Rattle.order_laws.specs.EveryOrder.{chosen_by, chosen}
use Rattle.order_laws.specs.Mirror.{map_settle, map_run, Mirrors}

module _ (S T : Steps) (f : S.world.State → T.world.State) (g : S.Finish → T.Finish) (h : S.world.Actor → T.world.Actor) (M : Mirrors S T f g h) where
  settle_to_mirrors : (t : List ℕ) (x : S.world.State ⊎ S.Finish) → map_run f g (settle_to S t x) ≡ settle_to T t (map_settle f g x)
  settle_to_mirrors t (inl w) = refl
  settle_to_mirrors t (inr e) = refl

  look_mirrors : (t : List ℕ) (w : S.world.State) (quiet full : Bool) → map_run f g (look S t w quiet full) ≡ look T t (f w) quiet full
  look_mirrors t w true full = settle_to_mirrors t (S.settle w) ∙ ap (settle_to T t) (M.settle w)
  look_mirrors t w false true = refl
  look_mirrors t w false false = refl

  judge_mirrors : (t : List ℕ) (w : S.world.State) (c : Bool) → map_run f g (judge S t w c) ≡ judge T t (f w) c
  judge_mirrors t w true = refl
  judge_mirrors t w false =
      look_mirrors t w (S.quiet w) (nat_le S.bound (S.size w))
      ∙ ap₂ (look T t (f w)) (M.quiet w) (ap₂ nat_le M.bound (M.size w))

  act_mirrors : (r : (runs S).State) (a : S.world.Actor) → map_run f g (run_act S r a) ≡ run_act T (map_run f g r) (h a)
  act_mirrors (going t w) a =
      judge_mirrors (S.time w ∷ t) (S.world.act w a) (S.conflict w a)
      ∙ ap₂ (λ x v. judge T (x ∷ t) v (S.conflict w a)) (M.time w) (M.act w a)
      ∙ ap (judge T (T.time (f w) ∷ t) (T.world.act (f w) (h a))) (M.conflict w a)
  act_mirrors (settled t e) a = refl
  act_mirrors (conflicted tw w) a = refl
  act_mirrors (bounded tw w) a = refl

  -- AFTER THE SAME ORDER both stand at the same
  pub after_mirrors : (order : List S.world.Actor) (r : (runs S).State) → map_run f g (after (runs S) r order) ≡ after (runs T) (map_run f g r) (map h order)
  after_mirrors [] r = refl
  after_mirrors (a ∷ order) r = after_mirrors order (run_act S r a) ∙ ap (λ x. after (runs T) x (map h order)) (act_mirrors r a)

  -- THE SAME CHOICE gives the same order
  module _ (choose : (runs S).State → Option S.world.Actor) (choose' : (runs T).State → Option T.world.Actor)
      (same : (r : (runs S).State) → option_map h (choose r) ≡ choose' (map_run f g r)) where
    pub chosen_mirrors : (n : ℕ) (r : (runs S).State) → map h (chosen (runs S) choose n r) ≡ chosen (runs T) choose' n (map_run f g r)
    chosen_mirrors zero r = refl
    chosen_mirrors (suc n) r = go (choose r) (λ x. chosen_mirrors n x) ∙ ap (chosen_by (runs T) (λ x. chosen (runs T) choose' n x) (map_run f g r)) (same r)
      where
        go : (o : Option S.world.Actor) → ((x : (runs S).State) → map h (chosen (runs S) choose n x) ≡ chosen (runs T) choose' n (map_run f g x)) →
            map h (chosen_by (runs S) (λ x. chosen (runs S) choose n x) r o) ≡ chosen_by (runs T) (λ x. chosen (runs T) choose' n x) (map_run f g r) (option_map h o)
        go None ih = refl
        go (Some a) ih = ap (λ l. h a ∷ l) (ih (run_act S r a) ∙ ap (λ x. chosen (runs T) choose' n x) (act_mirrors r a))
