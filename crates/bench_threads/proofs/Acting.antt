-- Who may act, by what stands on three shelves.
use Rattle.std.proofs.Common.{◌≡◌, List, [], ◌∷◌, map, Bool, true, false, cond, not, ◌&&◌, ◌||◌, Some, refl, sym, ap, ◌∙◌, nat_lt}
use Rattle.std.specs.List.{list_any}
use Rattle.std.specs.FinMap as map
use Rattle.tb_base.specs.declared.path.Region.{Region}
use Rattle.tb_base.specs.declared.path.Region.TheVariants.{Main, Monitor}
use Rattle.tl_threads.specs.Threads.{region_number}
use Rattle.bench_model.specs.Paths.{Path}
use Rattle.bench_threads.specs.declared.entry.Entry.{Entry}
use Rattle.bench_threads.specs.declared.entry.Mode.{Mode}
use Rattle.bench_threads.specs.declared.entry.Mode.TheVariants.{Running, AtJoin, AtEdges, AtJoinStep, Spent}
use Rattle.bench_threads.specs.declared.entry.Queue.{Queue}
use Rattle.bench_threads.specs.declared.entry.Queue.TheVariants.{Drivers, Monitors, Waiting}
use Rattle.bench_threads.specs.Modes.{is_running}
use Rattle.bench_threads.specs.Shelves.{Threads, is_nil, first_unmarked}
use Rattle.bench_threads.specs.Queues.{queue_of, queue_for, is_queue, is_drivers, is_monitors}
use Rattle.bench_threads.specs.Houses.{Houses}
use Rattle.bench_threads.specs.Threads.{quiet, may_act, first_ready, least_unmarked}
use Rattle.bench_threads.proofs.Submap.{passed}
use Rattle.bench_threads.proofs.Houses.{held}

driving : Entry → Bool
driving e = is_queue Drivers (queue_of e)

watching : Entry → Bool
watching e = is_queue Monitors (queue_of e)

running_stands : (k : Mode) (r : Region) → is_running k ≡ (is_drivers (queue_for k r) || is_monitors (queue_for k r))
running_stands Running Main = refl
running_stands Running Monitor = refl
running_stands (AtJoin c) r = refl
running_stands (AtEdges n) r = refl
running_stands (AtJoinStep c) r = refl
running_stands (Spent l) r = refl

none_below_main : (k : Mode) (r : Region) → (is_running k && nat_lt (region_number r) 0) ≡ false
none_below_main Running Main = refl
none_below_main Running Monitor = refl
none_below_main (AtJoin c) r = refl
none_below_main (AtEdges n) r = refl
none_below_main (AtJoinStep c) r = refl
none_below_main (Spent l) r = refl

drivers_below : (k : Mode) (r : Region) → (is_running k && nat_lt (region_number r) 1) ≡ is_drivers (queue_for k r)
drivers_below Running Main = refl
drivers_below Running Monitor = refl
drivers_below (AtJoin c) r = refl
drivers_below (AtEdges n) r = refl
drivers_below (AtJoinStep c) r = refl
drivers_below (Spent l) r = refl

-- ---- nobody runs where no shelf of running threads has any

quiet_list : (es : List (Path × Entry)) → not (list_any (λ (e : Path × Entry). is_running e.1.mode) es) ≡ (is_nil (passed driving es) && is_nil (passed watching es))
unfolding driving watching
quiet_list [] = refl
quiet_list (e ∷ es) =
    ap (λ b. not (b || list_any (λ (e : Path × Entry). is_running e.1.mode) es)) (running_stands e.1.mode e.1.state.region)
    ∙ elim (queue_of e.1) as (λ k. not ((is_drivers k || is_monitors k) || list_any (λ (e : Path × Entry). is_running e.1.mode) es)
    ≡ (is_nil (cond (is_drivers k) (e ∷ passed driving es) (passed driving es)) && is_nil (cond (is_monitors k) (e ∷ passed watching es) (passed watching es)))) [
      | Drivers ↦ refl
      | Monitors ↦ sym (false_right (is_nil (passed driving es)))
      | Waiting ↦ quiet_list es
    ]
  where
    false_right : (b : Bool) → (b && false) ≡ false
    false_right true = refl
    false_right false = refl

module _ (t d m w : Threads) (h : Houses t d m w) where
  pub quiet_is : quiet t ≡ (is_nil (map.entries d) && is_nil (map.entries m))
  unfolding driving watching
  quiet_is = quiet_list (map.entries t) ∙ ap (λ es. is_nil es && is_nil (passed watching (map.entries t))) (sym (held Drivers t d h.drivers)) ∙ ap (λ es. is_nil (map.entries d) && is_nil es) (sym (held Monitors t m h.monitors))

any_below_main : (es : List (Path × Entry)) → list_any (λ (u : Path × Entry). is_running u.1.mode && nat_lt (region_number u.1.state.region) 0) es ≡ false
any_below_main [] = refl
any_below_main (e ∷ es) = ap (λ b. b || list_any (λ (u : Path × Entry). is_running u.1.mode && nat_lt (region_number u.1.state.region) 0) es) (none_below_main e.1.mode e.1.state.region) ∙ any_below_main es

any_driver : (es : List (Path × Entry)) → list_any (λ (u : Path × Entry). is_running u.1.mode && nat_lt (region_number u.1.state.region) 1) es ≡ not (is_nil (passed driving es))
unfolding driving
any_driver [] = refl
any_driver (e ∷ es) =
    ap (λ b. b || list_any (λ (u : Path × Entry). is_running u.1.mode && nat_lt (region_number u.1.state.region) 1) es) (drivers_below e.1.mode e.1.state.region)
    ∙ elim (queue_of e.1) as (λ k. (is_drivers k || list_any (λ (u : Path × Entry). is_running u.1.mode && nat_lt (region_number u.1.state.region) 1) es) ≡ not (is_nil (cond (is_drivers k) (e ∷ passed driving es) (passed driving es)))) [
      | Drivers ↦ refl
      | Monitors ↦ any_driver es
      | Waiting ↦ any_driver es
    ]

not_not : (b : Bool) → not (not b) ≡ b
not_not true = refl
not_not false = refl

-- a thread of this queue may act where this says whether no driver runs
unfoldable pub acts : Bool → Queue → Bool
acts idle Drivers = true
acts idle Monitors = idle
acts idle Waiting = false

acts_as : (idle : Bool) (es : List (Path × Entry)) → is_nil (passed driving es) ≡ idle → (k : Mode) (r : Region)
    → (is_running k && not (list_any (λ (u : Path × Entry). is_running u.1.mode && nat_lt (region_number u.1.state.region) (region_number r)) es)) ≡ acts idle (queue_for k r)
unfolding acts
acts_as idle es e Running Main = ap not (any_below_main es)
acts_as idle es e Running Monitor = ap not (any_driver es) ∙ not_not (is_nil (passed driving es)) ∙ e
acts_as idle es e (AtJoin c) r = refl
acts_as idle es e (AtEdges n) r = refl
acts_as idle es e (AtJoinStep c) r = refl
acts_as idle es e (Spent l) r = refl

-- ---- the first that is ready

first_of_drivers : (t : Threads) → ((e : Entry) → may_act t e ≡ acts false (queue_of e)) → (es : List (Path × Entry)) → first_ready t es ≡ first_unmarked (map (λ (e : Path × Entry). e.1) (passed driving es))
unfolding acts driving
first_of_drivers t may [] = refl
first_of_drivers t may (e ∷ es) =
    ap (λ b. cond (b && not e.1.marked) (Some e.1) (first_ready t es)) (may e.1)
    ∙ elim (queue_of e.1) as (λ k. cond (acts false k && not e.1.marked) (Some e.1) (first_ready t es) ≡ first_unmarked (map (λ (e : Path × Entry). e.1) (cond (is_drivers k) (e ∷ passed driving es) (passed driving es)))) [
      | Drivers ↦ turned e.1.marked ∙ ap (λ o. cond e.1.marked o (Some e.1)) (first_of_drivers t may es)
      | Monitors ↦ first_of_drivers t may es
      | Waiting ↦ first_of_drivers t may es
    ]
  where
    turned : (b : Bool) → cond (not b) (Some e.1) (first_ready t es) ≡ cond b (first_ready t es) (Some e.1)
    turned true = refl
    turned false = refl

first_of_monitors : (t : Threads) → ((e : Entry) → may_act t e ≡ acts true (queue_of e)) → (es : List (Path × Entry)) → is_nil (passed driving es) ≡ true
    → first_ready t es ≡ first_unmarked (map (λ (e : Path × Entry). e.1) (passed watching es))
unfolding acts driving watching
first_of_monitors t may [] idle = refl
first_of_monitors t may (e ∷ es) idle =
    ap (λ b. cond (b && not e.1.marked) (Some e.1) (first_ready t es)) (may e.1)
    ∙ elim (queue_of e.1) as (λ k. is_nil (cond (is_drivers k) (e ∷ passed driving es) (passed driving es)) ≡ true →
    cond (acts true k && not e.1.marked) (Some e.1) (first_ready t es) ≡ first_unmarked (map (λ (e : Path × Entry). e.1) (cond (is_monitors k) (e ∷ passed watching es) (passed watching es)))) [
      | Drivers ↦ λ i. cc
      | Monitors ↦ λ i. turned e.1.marked ∙ ap (λ o. cond e.1.marked o (Some e.1)) (first_of_monitors t may es i)
      | Waiting ↦ λ i. first_of_monitors t may es i
    ] idle
  where
    turned : (b : Bool) → cond (not b) (Some e.1) (first_ready t es) ≡ cond b (first_ready t es) (Some e.1)
    turned true = refl
    turned false = refl

module _ (t d m w : Threads) (h : Houses t d m w) where
  idle_is : is_nil (passed driving (map.entries t)) ≡ is_nil (map.entries d)
  unfolding driving
  idle_is = ap is_nil (sym (held Drivers t d h.drivers))

  pub may_act_is : (e : Entry) → may_act t e ≡ acts (is_nil (map.entries d)) (queue_of e)
  may_act_is e = acts_as (is_nil (map.entries d)) (map.entries t) idle_is e.mode e.state.region

  pub least_driver : is_nil (map.entries d) ≡ false → least_unmarked t ≡ first_unmarked (map.values d)
  unfolding driving
  least_driver idle =
      first_of_drivers t (λ e. may_act_is e ∙ ap (λ b. acts b (queue_of e)) idle) (map.entries t)
      ∙ ap (λ es. first_unmarked (map (λ (e : Path × Entry). e.1) es)) (sym (held Drivers t d h.drivers))

  pub least_monitor : is_nil (map.entries d) ≡ true → least_unmarked t ≡ first_unmarked (map.values m)
  unfolding watching
  least_monitor idle =
      first_of_monitors t (λ e. may_act_is e ∙ ap (λ b. acts b (queue_of e)) idle) (map.entries t) (idle_is ∙ idle)
      ∙ ap (λ es. first_unmarked (map (λ (e : Path × Entry). e.1) es)) (sym (held Monitors t m h.monitors))
