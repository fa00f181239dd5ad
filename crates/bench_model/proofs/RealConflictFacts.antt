-- While an order goes on, no two events of its log conflict; where it meets a conflict, that is the newest event's.
use Rattle.std.proofs.Common.{◌≡◌, ℕ, zero, suc, List, [], ◌∷◌, Bool, true, false, Option, Some, None, refl, sym, subst, ◌⊎◌, inl, inr}
use Rattle.std.specs.FinMap as map
use Rattle.order_laws.specs.System.{after}
use Rattle.order_laws.specs.Runs.{Run, going, settled, conflicted, bounded, runs, run_act, judge, look, settle_to}
use Rattle.bench_model.specs.Paths.{Path}
use Rattle.bench_model.specs.Log.{Event, conflicts}
use Rattle.bench_model.specs.World.{Thread, World, act_of}
use Rattle.bench_model.specs.Settle.{Setting, Finish, Ending, steps, settle_from, settle_by, settle_on, next_step, quiet, verdict, conflict_of}
use Rattle.bench_model.proofs.ConflictFacts.{AllFree}

-- the newest event conflicts with an earlier one, and no other event does
abbrev pub IsFirstConflict : (ℕ → ℕ → Bool) → List Event → Type 0
IsFirstConflict cone [] = ⊥
IsFirstConflict cone (e ∷ log) = (conflicts cone log e ≡ true) × AllFree cone log

abbrev pub IsReal : {I : Type 0} → (ℕ → ℕ → Bool) → Run (World I) Finish → Type 0
IsReal cone (going times w) = AllFree cone w.log
IsReal cone (settled times e) = Unit {0}
IsReal cone (conflicted tw w) = IsFirstConflict cone w.log
IsReal cone (bounded tw w) = AllFree cone w.log

module _ (S : Setting) where
  -- a new time step has an empty log
  abbrev pub Empties : World S.model.Inner ⊎ Finish → Type 0
  Empties (inl w) = w.log ≡ []
  Empties (inr e) = Unit {0}

  empties_on : (again : World S.model.Inner → World S.model.Inner ⊎ Finish) → ((w : World S.model.Inner) → Empties (again w)) → (w : World S.model.Inner) (b : Bool) → w.log ≡ [] → Empties (settle_on S again w b)
  empties_on again h w true e = h w
  empties_on again h w false e = e

  empties_by : (again : World S.model.Inner → World S.model.Inner ⊎ Finish) → ((w : World S.model.Inner) → Empties (again w)) → (w : World S.model.Inner) (o : Option Ending) → Empties (settle_by S again w o)
  empties_by again h w (Some o) = tt
  empties_by again h w None = empties_on again h (next_step S w) (quiet (next_step S w)) refl

  pub empties : (n : ℕ) (w : World S.model.Inner) → Empties (settle_from S n w)
  empties zero w = tt
  empties (suc n) w = empties_by (λ v. settle_from S n v) (empties n) w (verdict S.limits w)

  real_settled : (t : List ℕ) (x : World S.model.Inner ⊎ Finish) → Empties x → IsReal S.model.cone (settle_to (steps S) t x)
  real_settled t (inl w) e = subst (AllFree S.model.cone) (sym e) tt
  real_settled t (inr e) h = tt

  real_look : (t : List ℕ) (w : World S.model.Inner) (q f : Bool) → AllFree S.model.cone w.log → IsReal S.model.cone (look (steps S) t w q f)
  real_look t w true f h = real_settled t (settle_from S (suc S.limits.time_steps) w) (empties (suc S.limits.time_steps) w)
  real_look t w false true h = h
  real_look t w false false h = h

  real_judge : (t : List ℕ) (w : World S.model.Inner) (p : Path) (o : Option (Thread S.model.Inner)) (c : Bool) → conflict_of S.model w p o ≡ c → AllFree S.model.cone w.log → IsReal S.model.cone (judge (steps S) t (act_of S.model w p o) c)
  real_judge t w p None true e h = absurd (cc)
  real_judge t w p None false e h = real_look t w (quiet w) _ h
  real_judge t w p (Some k) true e h = (e, h)
  real_judge t w p (Some k) false e h = real_look t (act_of S.model w p (Some k)) (quiet (act_of S.model w p (Some k))) _ (e, h)

  real_act : (r : Run (World S.model.Inner) Finish) (p : Path) → IsReal S.model.cone r → IsReal S.model.cone (run_act (steps S) r p)
  real_act (going t w) p h = real_judge (w.time ∷ t) w p (map.get w.threads p) (conflict_of S.model w p (map.get w.threads p)) refl h
  real_act (settled t e) p h = h
  real_act (conflicted tw w) p h = h
  real_act (bounded tw w) p h = h

  -- WHERE A RUN MEETS A CONFLICT, it is that of the newest event, and the first of its time step
  pub real_after : (o : List Path) (r : Run (World S.model.Inner) Finish) → IsReal S.model.cone r → IsReal S.model.cone (after (runs (steps S)) r o)
  real_after [] r h = h
  real_after (p ∷ o) r h = real_after o (run_act (steps S) r p) (real_act r p h)
