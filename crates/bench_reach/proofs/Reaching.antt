-- What the first world has, and acts and edges keep, holds of each world that a permitted order reaches.
use Rattle.std.proofs.Common.{◌≡◌, ◌⊎◌, inl, inr, ℕ, zero, suc, ◌<◌, max, List, [], ◌∷◌, length, Bool, true, false, Option, Some, None, nat_le, refl, sym, ap, subst, leb-false, le_trans}
use Rattle.std.proofs.Math.Nat.{le-max_left, le-max_right}
use Rattle.std.specs.FinMap as map
use Rattle.order_laws.specs.System.{Permitted, after}
use Rattle.order_laws.specs.Runs.{going, settled, conflicted, bounded, runs, run_act, judge, look, settle_to}
use Rattle.bench_model.specs.Paths.{Path}
use Rattle.bench_model.specs.World.{World, Enabled, act, act_of}
use Rattle.bench_model.specs.Settle.{Setting, Finish, Ending, verdict, next_step, quiet, settle_on, settle_by, settle_from, settle, conflict_of, steps}
use Rattle.bench_model.specs.Orders.{RunOf, start, first_world}
use Rattle.bench_model.specs.TwoMoves.{Reached}

module _ (S : Setting) (Holds : World S.model.Inner → Type 0) where
  -- the first world has it, and an act of a thread that may act keeps it, and so does the edge of a time step that doesn't end the run
  pub record Kept : Type 0 where
    pub first : Holds (first_world S)
    pub act : (w : World S.model.Inner) (p : Path) (e : Enabled w p) → Holds w → Holds (act_of S.model w p (Some e.thread))
    pub edge : (w : World S.model.Inner) → verdict S.limits w ≡ None → Holds w → Holds (next_step S w)

  abbrev OfSettled : World S.model.Inner ⊎ Finish → Type 0
  OfSettled (inl w) = Holds w × (w.log ≡ [])
  OfSettled (inr e) = Unit {0}

  abbrev OfRun : RunOf S → Type 0
  OfRun (going t w) = Holds w × (length w.log < max 1 S.limits.step_actions)
  OfRun (settled t e) = Unit {0}
  OfRun (conflicted t w) = Unit {0}
  OfRun (bounded t w) = Unit {0}

  module _ (K : Kept) where
    on_held : (again : World S.model.Inner → World S.model.Inner ⊎ Finish) → ((w : World S.model.Inner) → Holds w → OfSettled (again w)) → (w : World S.model.Inner) (b : Bool) → Holds w → w.log ≡ [] → OfSettled (settle_on S again w b)
    on_held again h w true g e = h w g
    on_held again h w false g e = (g, e)

    by_held : (again : World S.model.Inner → World S.model.Inner ⊎ Finish) → ((w : World S.model.Inner) → Holds w → OfSettled (again w)) → (w : World S.model.Inner) (o : Option Ending) → verdict S.limits w ≡ o → Holds w → OfSettled (settle_by S again w o)
    by_held again h w (Some o) v g = tt
    by_held again h w None v g = on_held again h (next_step S w) (quiet (next_step S w)) (K.edge w v g) refl

    from_held : (n : ℕ) (w : World S.model.Inner) → Holds w → OfSettled (settle_from S n w)
    from_held zero w g = tt
    from_held (suc n) w g = by_held (λ v. settle_from S n v) (λ v h. from_held n v h) w (verdict S.limits w) refl g

    settled_held : (t : List ℕ) (x : World S.model.Inner ⊎ Finish) → OfSettled x → OfRun (settle_to (steps S) t x)
    settled_held t (inl w) (g, e) = (g, subst (λ l. length l < max 1 S.limits.step_actions) (sym e) (le-max_left 1 S.limits.step_actions))
    settled_held t (inr f) h = tt

    look_held : (t : List ℕ) (w : World S.model.Inner) (q f : Bool) → nat_le S.limits.step_actions (length w.log) ≡ f → Holds w → OfRun (look (steps S) t w q f)
    look_held t w true f e g = settled_held t (settle S w) (from_held (suc S.limits.time_steps) w g)
    look_held t w false true e g = tt
    look_held t w false false e g = (g, le_trans (leb-false S.limits.step_actions (length w.log) e) (le-max_right 1 S.limits.step_actions))

    judge_held : (t : List ℕ) (w : World S.model.Inner) (c : Bool) → Holds w → OfRun (judge (steps S) t w c)
    judge_held t w true g = tt
    judge_held t w false g = look_held t w (quiet w) (nat_le S.limits.step_actions (length w.log)) refl g

    run_held : (order : List Path) (r : RunOf S) → OfRun r → Permitted (runs (steps S)) r order → OfRun (after (runs (steps S)) r order)
    run_held [] r h ok = h
    run_held (a ∷ order) (going t w) (g, room) (e, ok) =
        run_held order (run_act (steps S) (going t w) a)
        (judge_held (w.time ∷ t) (act S.model w a) (conflict_of S.model w a (map.get w.threads a)) (subst Holds (sym (ap (act_of S.model w a) e.here)) (K.act w a e g))) ok
    run_held (a ∷ order) (settled t f) h (e, ok) = absurd e
    run_held (a ∷ order) (conflicted t w) h (e, ok) = absurd e
    run_held (a ∷ order) (bounded t w) h (e, ok) = absurd e

    reached_held : (w : World S.model.Inner) → Reached S w → Holds w × (length w.log < max 1 S.limits.step_actions)
    reached_held w (order, times, ok, at) = subst OfRun at (run_held order (start S) (K.first, le-max_left 1 S.limits.step_actions) ok)

    -- WHAT IS KEPT holds of each world that is reached
    pub reached_by_induction : (w : World S.model.Inner) → Reached S w → Holds w
    reached_by_induction w r = (reached_held w r).0

-- EACH WORLD THAT IS REACHED has room for one action more in its time step
pub room_by_induction : (S : Setting) (w : World S.model.Inner) → Reached S w → length w.log < max 1 S.limits.step_actions
room_by_induction S w r = (reached_held S (λ v. Unit {0}) (record { first = tt; act = λ v p e h. tt; edge = λ v e h. tt }) w r).1
