-- Where a course stands for a world, the course that was judged stands for where the run stands.
use Rattle.std.proofs.Common.{◌≡◌, ℕ, List, ◌∷◌, length, Bool, true, false, nat_le, Option, Some, None, option_map, is_some, refl, sym, ap, ap₂, subst, ◌∙◌, ◌⊎◌, inl, inr}
use Rattle.std.specs.FinMap as fin
use Rattle.net_design.specs.Naming.{in_cone}
use Rattle.tl_check.specs.Checked.{TestFor}
use Rattle.tl_threads.specs.Threads.{Inner}
use Rattle.tl_code.specs.Compiled.{Compiled}
use Rattle.order_laws.specs.Runs.{settle_to, look, judge}
use Rattle.order_rel.specs.Logs.{log_of}
use Rattle.order_rel.proofs.ToldFacts.{told_length}
use Rattle.bench_model.specs.Log.{Event}
use Rattle.bench_model.specs.World.{World, act}
use Rattle.bench_model.specs.Settle.{Limits, Ending, Finish, steps, conflict_of}
use Rattle.bench_model.specs.Settle as settle
use Rattle.bench_model.specs.Orders.{conflict, step_limit, settles, named_pair, world_result}
use Rattle.bench_setting.specs.Settings.{setting_of}
use Rattle.bench_threads.specs.Threads.{quiet}
use Rattle.bench_stands.specs.Laws.{QuietIsTold}
use Rattle.bench_stands.proofs.Told.{there_told}
use Rattle.bench_course.specs.Course.{CourseValue}
use Rattle.bench_course.specs.Taking.{taken}
use Rattle.bench_course.specs.Laws.{model_of, CourseStands, TakingIsAct}
use Rattle.bench_settle.specs.Settling.{settled}
use Rattle.bench_settle.specs.Laws.{SettledAs, SettlingIsTold}
use Rattle.bench_judge.specs.Judging.{judged_settled, looked, judged_by}
use Rattle.bench_judge.specs.Laws.{JudgedAs, JudgingIsTold}
use Rattle.bench_judge.proofs.Pairs.{conflict_found}

module _ (k : TestFor) (l : Limits) (c : Compiled) (o : CourseValue) (w : World Inner) (times : List ℕ) (s : CourseStands c o w) where
  -- ---- after settling
  of_settled : (v : CourseValue) (ending : Option Ending) (r : World Inner ⊎ Finish) → SettledAs c v ending r
      → JudgedAs k l c (judged_settled (record { course = v; ending = ending })) (settle_to (steps (setting_of o.elab k l)) times r)
  of_settled v None (inl u) h = record { stands = h; outcome = refl }
  of_settled v (Some ending) (inr f) h = record { stands = h.0; outcome = ap₂ (λ (time : ℕ) (e : Ending). Some (settles time e)) h.0.time h.1 }
  of_settled v None (inr f) h = absurd h
  of_settled v (Some ending) (inl u) h = absurd h

  -- ---- without a conflict
  of_look : SettlingIsTold → (still full : Bool) → JudgedAs k l c (looked l o still full) (look (steps (setting_of o.elab k l)) times w still full)
  of_look settling true full = of_settled (settled l o).course (settled l o).ending (settle.settle (setting_of o.elab k l) w) (settling k l c o w s)
  of_look settling false true = record { stands = s; outcome = ap (λ (time : ℕ). Some (step_limit time)) s.time }
  of_look settling false false = record { stands = s; outcome = refl }

  same_size : length o.log ≡ length w.log
  same_size = sym (told_length o.log) ∙ ap length s.log

  looked_told : SettlingIsTold → QuietIsTold
      → JudgedAs k l c (looked l o (quiet o.threads) (nat_le l.step_actions (length o.log)))
      (look (steps (setting_of o.elab k l)) times w (settle.quiet w) (nat_le l.step_actions (length w.log)))
  looked_told settling still =
      subst (λ q. JudgedAs k l c (looked l o (quiet o.threads) (nat_le l.step_actions (length o.log))) (look (steps (setting_of o.elab k l)) times w q (nat_le l.step_actions (length w.log))))
      (still c o.threads w s.threads)
      (subst (λ n. JudgedAs k l c (looked l o (quiet o.threads) (nat_le l.step_actions (length o.log))) (look (steps (setting_of o.elab k l)) times w (quiet o.threads) (nat_le l.step_actions n)))
      same_size
      (of_look settling (quiet o.threads) (nat_le l.step_actions (length o.log))))

  -- ---- by the pair that the log names
  of_pair : SettlingIsTold → QuietIsTold → (pair : Option (Event × Event)) → named_pair (in_cone o.elab) w.log ≡ pair → (meets : Bool) → is_some pair ≡ meets
      → JudgedAs k l c (judged_by l o pair) (judge (steps (setting_of o.elab k l)) times w meets)
  of_pair settling still (Some pair) names true found = record {
    stands = s;
    outcome =
        ap (λ (time : ℕ). Some (conflict time pair.0 pair.1)) s.time
        ∙ sym (ap (λ (x : Option (Event × Event)). option_map (λ y. y.outcome) (option_map (λ (y : Event × Event). world_result w (conflict w.time y.0 y.1)) x)) names);
  }
  of_pair settling still (Some pair) names false found = absurd (cc)
  of_pair settling still None names true found = absurd (cc)
  of_pair settling still None names false found = looked_told settling still

pub judging_told : TakingIsAct → SettlingIsTold → QuietIsTold → JudgingIsTold
judging_told taking settling still k l c o times w work entry s may =
    let p = work.from.path in
    let there : is_some (fin.get w.threads p) ≡ true = sym (there_told c p (fin.get o.threads p) (fin.get w.threads p) (s.threads p)) ∙ ap is_some may.here in
    let stands = taking c o w work entry s may in
    let named = ap (named_pair (in_cone o.elab)) stands.log in
    of_pair k l c (taken o work) (act (model_of o.elab) w p) (w.time ∷ times) stands settling still
    (named_pair (in_cone o.elab) (log_of (taken o work).log)) (sym named)
    (conflict_of (model_of o.elab) w p (fin.get w.threads p)) (ap is_some named ∙ conflict_found (model_of o.elab) w p (fin.get w.threads p) there)
