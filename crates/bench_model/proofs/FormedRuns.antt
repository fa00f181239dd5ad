-- The log of each permitted order is formed, through all its time steps.
use Rattle.std.proofs.Common.{◌≡◌, ◌⊎◌, inl, inr, ℕ, suc, List, [], ◌∷◌, Bool, true, false, refl, subst, nat_le, length}
use Rattle.std.specs.FinMap as map
use Rattle.order_laws.specs.System.{Permitted, after}
use Rattle.order_laws.specs.Runs.{going, settled, conflicted, bounded, RunPossible, runs, run_act, judge, look, settle_to}
use Rattle.bench_model.specs.Paths.{Path}
use Rattle.bench_model.specs.World.{World, act}
use Rattle.bench_model.specs.Settle.{Setting, SettingLaws, Finish, steps, settle, quiet, conflict_of}
use Rattle.bench_model.specs.Orders.{RunOf, start, replay, Permits, first_world, LogsFormed}
use Rattle.bench_model.proofs.LogFormed.{Tied, tied_empty, tied_act}
use Rattle.bench_model.proofs.RealConflictFacts.{Empties, empties}
use Rattle.bench_model.proofs.SettleFacts.{step_laws}
use Rattle.order_laws.proofs.RunLaws.{run_possible}
use Rattle.bench_model.proofs.FirstOrder.{first_possible}
use Rattle.bench_model.proofs.Theorem.{reached_possible}

module _ (S : Setting) (L : SettingLaws S) where
  abbrev RunTied : RunOf S → Type 0
  RunTied (going t w) = Tied S.model L.model w
  RunTied (settled t e) = Unit {0}
  RunTied (conflicted tw w) = Unit {0}
  RunTied (bounded tw w) = Unit {0}

  tied_settled : (t : List ℕ) (x : World S.model.Inner ⊎ Finish) → Empties S x → RunTied (settle_to (steps S) t x)
  tied_settled t (inl w) e = tied_empty S.model L.model w e
  tied_settled t (inr f) e = tt

  tied_look : (t : List ℕ) (w : World S.model.Inner) (q f : Bool) → Tied S.model L.model w → RunTied (look (steps S) t w q f)
  tied_look t w true f h = tied_settled t (settle S w) (empties S (suc S.limits.time_steps) w)
  tied_look t w false true h = tt
  tied_look t w false false h = h

  tied_judge : (t : List ℕ) (w : World S.model.Inner) (c : Bool) → Tied S.model L.model w → RunTied (judge (steps S) t w c)
  tied_judge t w true h = tt
  tied_judge t w false h = tied_look t w (quiet w) (nat_le S.limits.step_actions (length w.log)) h

  tied_run : (order : List Path) (r : RunOf S) → RunPossible (steps S) r → RunTied r → Permitted (runs (steps S)) r order → RunTied (after (runs (steps S)) r order)
  tied_run [] r p h ok = h
  tied_run (a ∷ order) (going t w) p h (e, ok) =
      tied_run order (run_act (steps S) (going t w) a) (run_possible (steps S) (step_laws S L.model) (going t w) a p e)
      (tied_judge (w.time ∷ t) (act S.model w a) (conflict_of S.model w a (map.get w.threads a)) (tied_act S.model L.model w a p h e)) ok
  tied_run (a ∷ order) (settled t f) p h (e, ok) = absurd e
  tied_run (a ∷ order) (conflicted tw w) p h (e, ok) = absurd e
  tied_run (a ∷ order) (bounded tw w) p h (e, ok) = absurd e

  pub reached_tied : (order : List Path) (times : List ℕ) (w : World S.model.Inner) → Permits S order → replay S order ≡ going times w → Tied S.model L.model w
  reached_tied order times w ok at = subst RunTied at (tied_run order (start S) (first_possible S L) (tied_empty S.model L.model (first_world S) refl) ok)

  -- THE LOG IS FORMED
  pub logs_formed : LogsFormed S
  logs_formed order ok times w at =
      let T : Tied S.model L.model w = reached_tied order times w ok at in
      (T.formed, λ p e. (tied_act S.model L.model w p (reached_possible S L order times w ok at) T e).formed)
