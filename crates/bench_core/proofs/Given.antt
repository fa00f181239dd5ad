-- What a bench has at first, and what it gives at last.
use Rattle.std.proofs.Common.{◌≡◌, ℕ, List, map, reverse, Bool, true, false, cond, Option, Some, None, option_map, refl, ap, ◌∙◌}
use Rattle.std.specs.FinMap as fin
use Rattle.std.proofs.lemmas.List.Sorted.{IsPermutation-reverse}
use Rattle.net_design.specs.Designs.{DesignValue}
use Rattle.net_design.specs.Naming.{in_cone}
use Rattle.order_laws.specs.Runs.{going, settled, conflicted, bounded}
use Rattle.tl_threads.specs.Threads.{Inner}
use Rattle.tl_code.specs.Compiled.{Compiled}
use Rattle.tl_code.specs.Codes.{root_state}
use Rattle.bench_model.specs.Paths.{Path, path_cmp, is_path}
use Rattle.bench_model.specs.Log.{Event}
use Rattle.bench_model.specs.World.{Record, World}
use Rattle.bench_model.specs.Sorting.{record_le, sorted}
use Rattle.bench_model.specs.Orders.{RunOf, Result, Outcome, conflict, step_limit, settles, named_pair, world_result, run_of}
use Rattle.bench_model.proofs.SortingFacts.{sorted_permutation}
use Rattle.bench_model.proofs.RecordOrder.{record_order}
use Rattle.bench_setting.specs.declared.limits.Limits.{Limits}
use Rattle.bench_setting.specs.Limited.{limits_told}
use Rattle.bench_setting.specs.Settings.{zeros}
use Rattle.bench_run.specs.declared.outcome.Outcome as code
use Rattle.bench_run.specs.Told.{record_told, outcome_told}
use Rattle.bench_threads.specs.declared.entry.Entry.{Entry}
use Rattle.bench_threads.specs.Tables.{started}
use Rattle.bench_course.specs.Laws.{CourseStands, FirstStands, MarksAndRoomUnseen}
use Rattle.bench_judge.specs.Laws.{RunStands}
use Rattle.bench_core.specs.Bench.{BenchValue, IsBench, is_marked, setting_in, run_in, first_bench}
use Rattle.bench_core.specs.Laws.{MayBegin, FirstIsBench, given_at, ResultsAreTold}
use Rattle.bench_core.proofs.Marks.{mark_at, get_put}
use Rattle.bench_core.proofs.Taken.{stays_bench}

-- ---- the first bench

module _ (first : FirstStands) (d : DesignValue) (c : Compiled) (l : Limits) (may : MayBegin d c l) where
  first_is : IsBench (first_bench d c l)
  first_is = record {
    runs = may.runs;
    code = may.code;
    ports = may.ports;
    step_actions = may.step_actions;
    run_actions = may.run_actions;
    permitted = tt;
    stands = first c (record { elab = d.elab; net = d.net; inputs = zeros d.elab; registers = zeros d.elab }) (limits_told l) may.code refl refl;
    ends = refl;
  }

begun_mark : (p : Path) (e : Entry) (q : Path) → e.marked ≡ false → mark_at (fin.insert fin.empty p e) q ≡ false
begun_mark p e q free = ap is_marked (get_put fin.empty p e q) ∙ go (is_path q p)
  where
    go : (b : Bool) → is_marked (cond b (Some e) (fin.get (fin.empty {X = Entry} {R = path_cmp}) q)) ≡ false
    go true = free
    go false = ap is_marked (fin.get-empty path_cmp q)

pub first_is_bench : FirstStands → MarksAndRoomUnseen → FirstIsBench
first_is_bench first unseen d c l n may same = (
  (stays_bench unseen (first_bench d c l) (first_is first d c l may)).room n same,
  λ p. ap (λ (b : BenchValue). mark_at b.course.threads p) same ∙ begun_mark (root_state c).path (started (root_state c)) p refl,
)

-- ---- the result

-- the oldest or the newest record first, they are the same in order
sorted_reverse : (rs : List Record) → sorted record_le (reverse rs) ≡ sorted record_le rs
sorted_reverse rs = sorted_permutation record_le record_order rs (reverse rs) (IsPermutation-reverse rs)

same_result : (a r : Result) → a.records ≡ r.records → a.samples ≡ r.samples → a.actions ≡ r.actions → a.outcome ≡ r.outcome → a ≡ r
same_result a r er es ea eo =
    ap (λ (x : List Record). record a { records = x }) er
    ∙ ap (λ (x : List (List ℕ)). record a { records = r.records; samples = x }) es
    ∙ ap (λ (x : ℕ). record a { records = r.records; samples = r.samples; actions = x }) ea
    ∙ ap (λ (x : Outcome). record r { outcome = x }) eo

same_inside : (x y : Outcome) → Some x ≡ Some y → x ≡ y
same_inside x y h = cc

module _ (b : BenchValue) where
  gives_none : (o : Option code.Outcome) → option_map outcome_told o ≡ None → option_map (given_at b) o ≡ None
  gives_none None h = refl
  gives_none (Some o) h = absurd (cc)

  -- a bench that has the parts of a result, with its outcome, gives it
  gives : (r : Result) → sorted record_le (map record_told b.course.observations) ≡ r.records → b.course.samples ≡ r.samples → b.course.actions ≡ r.actions
      → (o : Option code.Outcome) → option_map outcome_told o ≡ Some r.outcome → option_map (given_at b) o ≡ Some r
  gives r er es ea None h = absurd (cc)
  gives r er es ea (Some o) h = ap Some (same_result (given_at b o) r er es ea (same_inside (outcome_told o) r.outcome h))

  world_gives : (w : World Inner) (x : Outcome) → CourseStands b.code b.course w → option_map outcome_told b.outcome ≡ Some x → option_map (given_at b) b.outcome ≡ Some (world_result w x)
  world_gives w x s e = gives (world_result w x) (ap (sorted record_le) s.records ∙ sorted_reverse w.records) s.samples s.actions b.outcome e

  conflict_gives : (w : World Inner) (pair : Option (Event × Event)) → CourseStands b.code b.course w
      → option_map outcome_told b.outcome ≡ option_map (λ (x : Result). x.outcome) (option_map (λ (p : Event × Event). world_result w (conflict w.time p.0 p.1)) pair)
      → option_map (given_at b) b.outcome ≡ option_map (λ (p : Event × Event). world_result w (conflict w.time p.0 p.1)) pair
  conflict_gives w None s e = gives_none b.outcome e
  conflict_gives w (Some p) s e = world_gives w (conflict w.time p.0 p.1) s e

  told_at : (r : RunOf (setting_in b)) → RunStands b.code b.course r → option_map outcome_told b.outcome ≡ option_map (λ (x : Result). x.outcome) (run_of (setting_in b) r)
      → option_map (given_at b) b.outcome ≡ run_of (setting_in b) r
  told_at (going t w) s e = gives_none b.outcome e
  told_at (settled t f) s e =
      gives (record { records = sorted record_le f.records; samples = reverse f.samples; actions = f.actions; outcome = settles f.time f.ending })
      (ap (sorted record_le) s.records ∙ sorted_reverse f.records) s.samples s.actions b.outcome e
  told_at (conflicted t w) s e = conflict_gives w (named_pair (in_cone b.course.elab) w.log) s e
  told_at (bounded t w) s e = world_gives w (step_limit w.time) s e

pub results_are_told : ResultsAreTold
results_are_told b is = told_at b (run_in b) is.stands is.ends
