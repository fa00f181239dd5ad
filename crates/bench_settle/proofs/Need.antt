-- Behind a time step that leaves nobody to act, one sample less is needed.
use Rattle.std.proofs.Common.{◌≡◌, ℕ, zero, suc, ◌-◌, ◌<◌, ◌≤◌, min, max, Bool, true, false, cond, nat_lt, nat_le, length, [], Option, Some, None, is_some, refl, sym, ap, subst, ◌∙◌, arith, leb-false}
use Rattle.std.specs.List.{list_any}
use Rattle.std.specs.FinMap as map
use Rattle.bench_model.specs.Paths.{Path}
use Rattle.bench_model.specs.Settle.{Limits, Ending, or_spent, ended, limited}
use Rattle.bench_model.specs.Settle.Ending.{failed, thread_limit, record_limit, action_limit, time_limit}
use Rattle.bench_threads.specs.Shelves.{Threads}
use Rattle.bench_threads.specs.Threads.{quiet, first_spent, tick, edges_ahead}
use Rattle.bench_threads.proofs.Ahead.{at_least_one, counts_down, lets_go, none_ahead}
use Rattle.bench_course.specs.Course.{CourseValue, fails_in}
use Rattle.bench_course.specs.Ending.{verdict_of, sampled, stepped}
use Rattle.bench_ahead.specs.Needed.{within, samples_needed}

-- ---- a run that goes on has a time step left

-- where nothing ends the run, no limit does
no_limit : (failure : Bool) (spent : Option (ℕ × Path × ℕ)) (root : Bool) (v : Option Ending)
    → cond failure (Some failed) (or_spent spent (ended root v)) ≡ None → v ≡ None
no_limit true spent root v h = absurd cc
no_limit false (Some x) root v h = absurd cc
no_limit false None false v h = absurd cc
no_limit false None true v h = h

-- and the limit of time steps doesn't
no_time_limit : (a b c d : Bool)
    → cond a (Some thread_limit) (cond b (Some record_limit) (cond c (Some action_limit) (cond d (Some time_limit) None))) ≡ None → d ≡ false
no_time_limit true b c d h = absurd cc
no_time_limit false true c d h = absurd cc
no_time_limit false false true d h = absurd cc
no_time_limit false false false true h = absurd cc
no_time_limit false false false false h = refl

pub time_left : (l : Limits) (o : CourseValue) → verdict_of l o ≡ None → suc o.time < l.time_steps
time_left l o h =
    let none : limited l (map.len o.threads) (length o.observations) o.actions o.time ≡ None =
    no_limit (list_any (fails_in o.time) o.observations) (first_spent (map.entries o.threads)) (is_some (map.get o.threads [])) _ h in
    leb-false l.time_steps (suc o.time)
    (no_time_limit (nat_lt l.threads (map.len o.threads)) (nat_lt l.records (length o.observations)) (nat_lt l.run_actions o.actions) (nat_le l.time_steps (suc o.time)) none)

-- ---- the need for samples

at_least : (left : ℕ) (e : Option ℕ) → 1 ≤ within left e
at_least left None = omega arith
at_least left (Some n) = omega arith

-- at least one is needed
pub one_needed : (l : Limits) (o : CourseValue) → 1 ≤ samples_needed l o
one_needed l o = go (is_some (verdict_of l o))
  where
    go : (b : Bool) → 1 ≤ cond b 1 (within (l.time_steps - o.time) (edges_ahead o.threads))
    go true = omega arith
    go false = at_least (l.time_steps - o.time) (edges_ahead o.threads)

-- the run's end brings no need of its own
at_most : (b : Bool) (left : ℕ) (e : Option ℕ) → cond b 1 (within left e) ≤ within left e
at_most true left e = at_least left e
at_most false left e = omega arith

-- an edge that lets nobody go leaves one less
fewer : (ts : Threads) (left : ℕ) → 1 ≤ left → quiet ts ≡ true → quiet (tick ts) ≡ true → suc (within left (edges_ahead (tick ts))) ≤ within (suc left) (edges_ahead ts)
fewer ts left more now later = go (edges_ahead ts) refl
  where
    go : (e : Option ℕ) → edges_ahead ts ≡ e → suc (within left (edges_ahead (tick ts))) ≤ within (suc left) e
    go None i = subst (λ e. suc (within left e) ≤ max 1 (suc left)) (sym (none_ahead ts now i).1) (omega (arith, more))
    go (Some zero) i = let one : 1 ≤ 0 = at_least_one ts 0 i in absurd (omega (arith, one))
    go (Some (suc zero)) i = let loud : quiet (tick ts) ≡ false = lets_go ts i in absurd cc
    go (Some (suc (suc n))) i = subst (λ e. suc (within left e) ≤ max 1 (min (suc (suc n)) (suc left))) (sym (counts_down ts n now i).1) (omega (arith, more))

-- THE NEED FALLS with each time step that ends
pub need_falls : (l : Limits) (o : CourseValue) → quiet o.threads ≡ true → verdict_of l o ≡ None → quiet (tick o.threads) ≡ true
    → suc (samples_needed l (stepped (sampled o))) ≤ samples_needed l o
need_falls l o now on later =
    let left : suc o.time < l.time_steps = time_left l o on in
    let one : l.time_steps - o.time ≡ suc (l.time_steps - suc o.time) = omega (arith, left) in
    let less = fewer o.threads (l.time_steps - suc o.time) (omega (arith, left)) now later in
    let most = at_most (is_some (verdict_of l (stepped (sampled o)))) (l.time_steps - suc o.time) (edges_ahead (tick o.threads)) in
    let here : samples_needed l o ≡ within (suc (l.time_steps - suc o.time)) (edges_ahead o.threads) =
    ap (λ (v : Option Ending). cond (is_some v) 1 (within (l.time_steps - o.time) (edges_ahead o.threads))) on
    ∙ ap (λ (n : ℕ). within n (edges_ahead o.threads)) one in
    subst (λ (n : ℕ). suc (samples_needed l (stepped (sampled o))) ≤ n) (sym here) (omega (arith, less, most))
