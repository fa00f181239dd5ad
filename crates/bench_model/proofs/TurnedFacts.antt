-- Turned runs, computed with threads as a list; and what isn't turned is right.
use Rattle.std.proofs.Common.{◌≡◌, ℕ, suc, List, [], ◌∷◌, length, Bool, true, false, cond, ◌||◌, Option, Some, None, refl, ap, ap₂, ◌∙◌}
use Rattle.std.specs.List.{list_any}
use Rattle.std.specs.FinMap as map
use Rattle.std.specs.FinMap.{find}
use Rattle.order_laws.specs.System.{after}
use Rattle.order_laws.specs.Runs.{Steps, Run, going, settled, conflicted, bounded, runs}
use Rattle.order_laws.specs.Mirror.{Mirrors, map_run}
use Rattle.order_laws.proofs.MirrorFacts.{after_mirrors}
use Rattle.bench_model.specs.Paths.{Path, path_cmp}
use Rattle.bench_model.specs.Log.{Event, link, clash, leads_to_any, scan}
use Rattle.bench_model.specs.World.{Thread, World, answer, self_after, newborn, wakes, wake, birth, is_there}
use Rattle.bench_model.specs.Settle.{Setting, Finish, fails_now, steps}
use Rattle.bench_model.specs.Orders.{RunOf, start, replay}
use Rattle.bench_model.specs.Turned.{Turn, upright, turned_act_of, turned_conflict, turned_steps, turned_by, is_conflicted, turned_conflicts, link_by, leads_by, scan_by, enabled_in, runs_by, running_in}
use Rattle.bench_model.proofs.Listed.{Listed, listed, listed_act_of, write_row, birth_row, wake_row, there_row, entries_write, entries_birth, entries_wake, there_same, quiet_rows, enabled_row, enabled_same, listed_from, from_listed, listed_start, start_listed, map_same, listed_run_of, run_listed, listed_replay, replay_listed}

module _ (S : Setting) where
  -- WHERE NOTHING IS TURNED the runs are those of the bench
  pub upright_is : turned_steps S (upright S) ≡ steps S
  upright_is = refl

  -- with all four links the test is that of the bench
  leads_right : (d : Event) (past : List Event) → leads_by (link_by true true true true) d past ≡ leads_to_any d past
  leads_right d [] = refl
  leads_right d (x ∷ past) = ap (λ b. link d x || b) (leads_right d past)

  pub all_links : (cone : ℕ → ℕ → Bool) (e : Event) (log past : List Event) → scan_by (link_by true true true true) cone e log past ≡ scan cone e log past
  all_links cone e [] past = refl
  all_links cone e (d ∷ log) past =
      ap (λ b. elim b [ true ↦ scan_by (link_by true true true true) cone e log (d ∷ past) | false ↦ clash cone d.kind e.kind || scan_by (link_by true true true true) cone e log past ]) (leads_right d past)
      ∙ ap₂ (λ x y. elim (leads_to_any d past) [ true ↦ x | false ↦ clash cone d.kind e.kind || y ]) (all_links cone e log (d ∷ past)) (all_links cone e log past)

  module _ (T : Turn S) where
    abbrev pub turned_row_of : Listed S.model.Inner → Path → Option (Thread S.model.Inner) → Listed S.model.Inner
    turned_row_of w p None = w
    turned_row_of w p (Some t) =
        let m = S.model.next t.inner in
        record (listed_act_of S.model w p (Some t)) {
          rows = write_row (birth_row (wake_row w.rows (wakes p m)) (newborn p t m)) p (self_after t m (answer S.model w.inputs w.registers m) (cond T.joins_wait true (there_row w.rows p m)));
        }

    act_turned : (w : World S.model.Inner) (p : Path) (o : Option (Thread S.model.Inner)) → listed (turned_act_of S T w p o) ≡ turned_row_of (listed w) p o
    act_turned w p None = refl
    act_turned w p (Some t) =
        let m = S.model.next t.inner in
        let a : ℕ = answer S.model w.inputs w.registers m in
        ap (λ es. record (turned_row_of (listed w) p (Some t)) { rows = es })
        (entries_write (birth (wake w.threads (wakes p m)) (newborn p t m)) p (self_after t m a (cond T.joins_wait true (is_there w.threads p m)))
        ∙ ap₂ (λ es b. write_row es p (self_after t m a (cond T.joins_wait true b)))
        (entries_birth (wake w.threads (wakes p m)) (newborn p t m) ∙ ap (λ es. birth_row es (newborn p t m)) (entries_wake w.threads (wakes p m)))
        (there_same w.threads p m))

    abbrev pub conflict_row : Listed S.model.Inner → Path → Option (Thread S.model.Inner) → Bool
    conflict_row w p None = false
    conflict_row w p (Some t) = T.conflict w.inputs w.log p t

    conflict_turned : (w : World S.model.Inner) (p : Path) (o : Option (Thread S.model.Inner)) → turned_conflict S T w p o ≡ conflict_row (listed w) p o
    conflict_turned w p None = refl
    conflict_turned w p (Some t) = refl

    abbrev pub turned_rows : Steps
    turned_rows = record {
      world = record {
        State = Listed S.model.Inner;
        Actor = Path;
        Alike = λ w v. w ≡ v;
        Possible = λ w. Unit {0};
        Enabled = λ w p. Unit {0};
        Clean = λ w p. Unit {0};
        act = λ w p. turned_row_of w p (find path_cmp p w.rows);
      };
      Finish = Finish;
      FinishAlike = λ e f. e ≡ f;
      quiet = λ w. cond T.fails_at_once (quiet_rows w.rows || list_any (fails_now w.time) w.records) (quiet_rows w.rows);
      conflict = λ w p. conflict_row w p (find path_cmp p w.rows);
      size = λ w. length w.log;
      time = λ w. w.time;
      bound = S.limits.step_actions;
      settle = λ w. listed_from S (suc S.limits.time_steps) w;
    }

    mirrors : Mirrors (turned_steps S T) turned_rows listed (λ e. e) (λ p. p)
    mirrors = record {
      act = λ w p. act_turned w p (map.get w.threads p) ∙ ap (turned_row_of (listed w) p) (map.get-entries w.threads p);
      quiet = λ w. refl;
      conflict = λ w p. conflict_turned w p (map.get w.threads p) ∙ ap (conflict_row (listed w) p) (map.get-entries w.threads p);
      size = λ w. refl;
      time = λ w. refl;
      bound = refl;
      settle = λ w. from_listed S (suc S.limits.time_steps) w;
    }

    after_turned : (order : List Path) → map_run listed (λ e. e) (after (runs (turned_steps S T)) (start S) order) ≡ after (runs turned_rows) (listed_start S) order
    after_turned order =
        after_mirrors (turned_steps S T) turned_rows listed (λ e. e) (λ p. p) mirrors order (start S)
        ∙ ap₂ (λ r o. after (runs turned_rows) r o) (start_listed S) (map_same S order)

    conflicted_same : (r : RunOf S) → is_conflicted r ≡ is_conflicted (map_run {V = Listed S.model.Inner} {F = Finish} listed (λ e. e) r)
    conflicted_same (going t w) = refl
    conflicted_same (settled t e) = refl
    conflicted_same (conflicted tw w) = refl
    conflicted_same (bounded tw w) = refl

    pub conflict_computed : (order : List Path) → turned_conflicts S T order ≡ is_conflicted (after (runs turned_rows) (listed_start S) order)
    conflict_computed order = conflicted_same (after (runs (turned_steps S T)) (start S) order) ∙ ap is_conflicted (after_turned order)

    -- WHAT AN ORDER GIVES, so turned, as it is computed
    pub turned_computed : (order : List Path) → turned_by S T order ≡ listed_run_of S (after (runs turned_rows) (listed_start S) order)
    turned_computed order =
        run_listed S (after (runs (turned_steps S T)) (start S) order)
        ∙ ap (listed_run_of S) (after_turned order)

  -- ---- who may act, as it is computed
  abbrev pub enabled_rows : Run (Listed S.model.Inner) Finish → Path → Bool
  enabled_rows (going times w) p = enabled_row w.rows (find path_cmp p w.rows)
  enabled_rows _ p = false

  enabled_run : (r : RunOf S) (p : Path) → enabled_in r p ≡ enabled_rows (map_run listed (λ e. e) r) p
  enabled_run (going t w) p = enabled_same w (map.get w.threads p) ∙ ap (enabled_row (map.entries w.threads)) (map.get-entries w.threads p)
  enabled_run (settled t e) p = refl
  enabled_run (conflicted tw w) p = refl
  enabled_run (bounded tw w) p = refl

  pub enabled_computed : (order : List Path) (p : Path) → enabled_in (replay S order) p ≡ enabled_rows (listed_replay S order) p
  enabled_computed order p = enabled_run (replay S order) p ∙ ap (λ r. enabled_rows r p) (replay_listed S order)

  abbrev pub running_rows : Run (Listed S.model.Inner) Finish → Path → Bool
  running_rows (going times w) p = runs_by (find path_cmp p w.rows)
  running_rows _ p = false

  running_run : (r : RunOf S) (p : Path) → running_in r p ≡ running_rows (map_run listed (λ e. e) r) p
  running_run (going t w) p = ap runs_by (map.get-entries w.threads p)
  running_run (settled t e) p = refl
  running_run (conflicted tw w) p = refl
  running_run (bounded tw w) p = refl

  pub running_computed : (order : List Path) (p : Path) → running_in (replay S order) p ≡ running_rows (listed_replay S order) p
  running_computed order p = running_run (replay S order) p ∙ ap (λ r. running_rows r p) (replay_listed S order)
