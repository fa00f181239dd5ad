-- What is handed out.
use Rattle.std.proofs.Common.{◌≡◌, ◌≤◌, length, ◌||◌, Option, Some, None, option_map, refl, sym, ap, subst, ◌∙◌, arith}
use Rattle.std.specs.FinMap as map
use Rattle.tl_threads.specs.Threads.{Inner}
use Rattle.tl_code.specs.Codes.{Fits}
use Rattle.bench_model.specs.Paths.{Path}
use Rattle.bench_model.specs.World.{Thread}
use Rattle.bench_model.specs.Orders.{RunOf, RealConflicts, least_of_run}
use Rattle.bench_setting.specs.Settings.{AtEachTest}
use Rattle.bench_reach.specs.Bounds.{ThreadBounded, AtAnyTest, WorldsBounded}
use Rattle.bench_run.specs.declared.outcome.Outcome.{Outcome}
use Rattle.bench_threads.specs.declared.entry.Entry.{Entry}
use Rattle.bench_threads.specs.Threads.{least_unmarked}
use Rattle.bench_stands.specs.Laws.{NoneMarked, IsReady, NextIs, LeastTold, LeastIsTold, EntriesFit}
use Rattle.bench_core.specs.Bench.{BenchValue, IsBench, NothingMarked, is_marked, marked_at, setting_in, run_in}
use Rattle.bench_core.specs.Picking.{PickSays, handed, handed_unless, picked, marked_for, path_in, names}
use Rattle.bench_core.specs.declared.pick.Pick.{Pick}
use Rattle.bench_core.specs.declared.pick.Pick.TheVariants.{Take, Idle, Over}
use Rattle.bench_core.specs.Laws.{PicksAreRight}
use Rattle.bench_core.proofs.Going.{GoesOn, goes_on, nobody_acts, world_bounded, run_room, thread_at}
use Rattle.bench_core.proofs.Marks.{or_false, marked_more}

handed_path : (e : Option Entry) → option_map (λ (e : Entry). e.state.path) e ≡ path_in (handed e)
handed_path None = refl
handed_path (Some e) = refl

marks_more : (b : BenchValue) (pick : Pick) → PickSays b pick → (p : Path) → marked_at (marked_for pick b) p ≡ (marked_at b p || names pick p)
marks_more b (Take s) says p = marked_more b.course.threads s.path says.1.entry says.1.here p
marks_more b Idle says p = sym (or_false (marked_at b p))
marks_more b Over says p = sym (or_false (marked_at b p))

module _ (real : AtEachTest RealConflicts) (least : LeastIsTold) (fits : EntriesFit) (bounds : AtAnyTest WorldsBounded) (b : BenchValue) (is : IsBench b) where
  told : (g : GoesOn b) → LeastTold b.course.threads g.world
  told g = least b.code b.course.threads g.world g.stands.threads

  fits_here : (g : GoesOn b) (e : Entry) → IsReady b.course.threads e → Fits b.code e.state
  fits_here g e ready =
      let at = thread_at b.code e.state.path (map.get b.course.threads e.state.path) e (map.get g.world.threads e.state.path) ready.here (g.stands.threads e.state.path) in
      let t : Thread Inner = at.0 in
      let few : ThreadBounded g.world.actions t = (world_bounded b is g bounds).each e.state.path t at.1 in
      let acts : t.acts ≤ g.world.actions = few.acts in
      let forks : length t.forked ≤ t.acts = few.forks in
      let most : g.world.actions ≤ 4294967293 = run_room b is g bounds in
      fits b.code e.state.path e t at.2 (omega arith) (omega arith)

  says_open : b.outcome ≡ None → GoesOn b → (e : Option Entry) → least_unmarked b.course.threads ≡ e → PickSays b (handed e)
  says_open none g None h = (none, subst (λ (x : Option Entry). NextIs b.course.threads x) h (told g).next)
  says_open none g (Some e) h =
      let ready : IsReady b.course.threads e = subst (λ (x : Option Entry). NextIs b.course.threads x) h (told g).next in (
        none,
        record {
          entry = e;
          here = ready.here;
          state = refl;
          enabled = ready.enabled;
          free = ap is_marked ready.here ∙ ready.unmarked;
          fits = fits_here g e ready;
        },
      )

  says_at : (o : Option Outcome) → b.outcome ≡ o → PickSays b (handed_unless o (least_unmarked b.course.threads))
  says_at None h = says_open h (goes_on real b is h) (least_unmarked b.course.threads) refl
  says_at (Some o) h = (o, h)

  none_marked : NothingMarked b → NoneMarked b.course.threads
  none_marked nothing p e here = sym (ap is_marked here) ∙ nothing p

  first_at : (o : Option Outcome) → b.outcome ≡ o → NothingMarked b → least_of_run (run_in b) ≡ path_in (handed_unless o (least_unmarked b.course.threads))
  first_at None h nothing =
      let g = goes_on real b is h in
      ap (λ (r : RunOf (setting_in b)). least_of_run r) g.run ∙ sym ((told g).least (none_marked nothing)) ∙ handed_path (least_unmarked b.course.threads)
  first_at (Some o) h nothing = nobody_acts b is o h (run_in b) refl

pub picks_are_right : AtEachTest RealConflicts → LeastIsTold → EntriesFit → AtAnyTest WorldsBounded → PicksAreRight
picks_are_right real least fits bounds b is = record {
  says = says_at real least fits bounds b is b.outcome refl;
  first = first_at real least fits bounds b is b.outcome refl;
  marks = marks_more b (picked b) (says_at real least fits bounds b is b.outcome refl);
}
