-- The samples that are needed behind an act, and room for them.
use Rattle.std.proofs.Common.{◌≡◌, inl, inr, ℕ, ◌-◌, ◌≤◌, [], length, Bool, true, false, cond, not, ◌||◌, is_some, Some, None, Option, refl, sym, ap, ◌∙◌, arith}
use Rattle.std.specs.List.{list_any}
use Rattle.std.specs.FinMap as map
use Rattle.bench_model.specs.Paths.{Path}
use Rattle.bench_model.specs.Settle.{Limits, Ending, or_spent, ended, limited}
use Rattle.bench_model.specs.Settle.Ending.{failed}
use Rattle.tl_code.specs.declared.state.ThreadState.{ThreadState}
use Rattle.tl_prepare.specs.declared.act.Act.{Act}
use Rattle.tl_prepare.specs.Work.{Work}
use Rattle.tl_prepare.specs.Given.{IsPrepared}
use Rattle.bench_threads.specs.Tables.{Table}
use Rattle.bench_threads.specs.Threads.{quiet, is_enabled, first_spent, edges_ahead}
use Rattle.bench_threads.specs.Laws.{QuietIsNobody, SpentIsNamed, ActsBringEdges, EndsBringEdges}
use Rattle.bench_course.specs.Course.{CourseValue, table_in, fails_in}
use Rattle.bench_course.specs.Taking.{number_found, taken}
use Rattle.bench_course.specs.Ending.{verdict_of}
use Rattle.bench_ahead.specs.Needed.{within, samples_needed}
use Rattle.bench_ahead.specs.Behind.{runs_behind, edges_behind}
use Rattle.bench_ahead.proofs.Behind.{acts_where, quiet_behind}
use Rattle.bench_ahead.proofs.Edges.{over, Enough, edges_enough}

pub within_one : (left : ℕ) (o : Option ℕ) → 1 ≤ within left o
within_one left None = omega arith
within_one left (Some n) = omega arith

one_within : (left : ℕ) → within left (Some 1) ≤ 1
one_within left = omega arith

-- the threads alone end the run
judged : (fails : Bool) (spent : Option (ℕ × Path × ℕ)) (root : Bool) (limit : Option Ending) → (is_some spent || not root) ≡ true → is_some (cond fails (Some failed) (or_spent spent (ended root limit))) ≡ true
judged true spent root limit h = refl
judged false (Some x) root limit h = refl
judged false None false limit h = refl
judged false None true limit h = cc

verdict_where : (l : Limits) (o : CourseValue) → over o.threads ≡ true → is_some (verdict_of l o) ≡ true
verdict_where l o h =
    judged (list_any (fails_in o.time) o.observations) (first_spent (map.entries o.threads)) (is_some (map.get o.threads []))
    (limited l (map.len o.threads) (length o.observations) o.actions o.time) h

less_where : (b : Bool) (n m : ℕ) → 1 ≤ m → n ≤ m → cond b 1 n ≤ m
less_where true n m h k = h
less_where false n m h k = k

at_least : (l : Limits) (o : CourseValue) (e : Option ℕ) → Enough o.threads e → samples_needed l o ≤ within (l.time_steps - o.time) e
at_least l o e (inl is) =
    less_where (is_some (verdict_of l o)) (within (l.time_steps - o.time) (edges_ahead o.threads)) (within (l.time_steps - o.time) e) (within_one (l.time_steps - o.time) e)
    (let same : within (l.time_steps - o.time) e ≡ within (l.time_steps - o.time) (edges_ahead o.threads) = ap (within (l.time_steps - o.time)) is in omega arith)
at_least l o e (inr (is, ends)) =
    let one : samples_needed l o ≡ 1 = ap (λ b. cond b 1 (within (l.time_steps - o.time) (edges_ahead o.threads))) (verdict_where l o ends) in
    let some = within_one (l.time_steps - o.time) e in omega arith

at_most : (left : ℕ) (o : CourseValue) (e : Option ℕ) → Enough o.threads e → within left e ≤ within left (edges_ahead o.threads)
at_most left o e (inl is) = let same : within left e ≡ within left (edges_ahead o.threads) = ap (within left) is in omega arith
at_most left o e (inr (is, ends)) =
    let one : within left e ≡ within left (Some 1) = ap (within left) is in
    let a = one_within left in let b = within_one left (edges_ahead o.threads) in omega arith

module _ (nobody : QuietIsNobody) (named : SpentIsNamed) (acts : ActsBringEdges) (ends : EndsBringEdges) (o : CourseValue) (w : Work) (made : IsPrepared w)
    (enabled : is_enabled o.threads (map.get o.threads w.from.path) ≡ true) where
  pub quiet_is : quiet (taken o w).threads ≡ not (runs_behind o.threads w)
  quiet_is = quiet_behind nobody o.threads w (number_found o.elab o.inputs o.registers w.act) made (acts_where o.threads w.from.path enabled)

  enough_is : quiet (taken o w).threads ≡ true → Enough (taken o w).threads (edges_behind o.threads w.from.path w.act)
  enough_is = edges_enough nobody named acts ends o.threads w (number_found o.elab o.inputs o.registers w.act) made (acts_where o.threads w.from.path enabled)

  pub enough : (l : Limits) → quiet (taken o w).threads ≡ true → samples_needed l (taken o w) ≤ within (l.time_steps - o.time) (edges_behind o.threads w.from.path w.act)
  enough l h = at_least l (taken o w) (edges_behind o.threads w.from.path w.act) (enough_is h)

  pub most : (left : ℕ) → quiet (taken o w).threads ≡ true → within left (edges_behind o.threads w.from.path w.act) ≤ within left (edges_ahead (taken o w).threads)
  most left h = at_most left (taken o w) (edges_behind o.threads w.from.path w.act) (enough_is h)

  -- ---- the same, as the code finds it

  pub found_quiet : (t : Table) (found test : Bool) → t ≡ table_in o → found ≡ runs_behind t.threads w → found ≡ test → quiet (taken o w).threads ≡ not test
  found_quiet t found test table is known = quiet_is ∙ ap not (sym (ap (λ (u : Table). runs_behind u.threads w) table) ∙ sym is ∙ known)

  pub answer : (n left : ℕ) (e : Option ℕ) (steps time : ℕ) (t : Table) (s : ThreadState) (b : Act) → t ≡ table_in o → s ≡ w.from → b ≡ w.act → n ≡ within left e → left ≡ steps - time → time ≡ o.time
      → e ≡ edges_behind t.threads s.path b → n ≡ within (steps - o.time) (edges_behind o.threads w.from.path w.act)
  answer n left e steps time t s b table state acted is left_is time_is e_is =
      is ∙ ap (λ (k : ℕ). within k e) (left_is ∙ ap (λ (k : ℕ). steps - k) time_is)
      ∙ ap (within (steps - o.time))
      (e_is ∙ ap (λ (u : Table). edges_behind u.threads s.path b) table ∙ ap (λ (u : ThreadState). edges_behind o.threads u.path b) state ∙ ap (edges_behind o.threads w.from.path) acted)
