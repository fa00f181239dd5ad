use Rattle.std.proofs.Common.{◌≡◌, ◌∙◌, sym, ap, subst, ℕ, true, List, ◌<◌, ◌||◌, ◌&&◌, nat_eq, length, get_or, set, [], arith}
use Rattle.std.proofs.lemmas.Grind.{common_steps}
use Rattle.std.proofs.lemmas.List.{length-set}
use Rattle.net_core.specs.Rules.{has}
use Rattle.net_core.specs.Signals.{info, is_input}
use Rattle.net_core.specs.declared.ports.Signal.{Signal}
use Rattle.net_graph.specs.Graphs.{reads_in}
use Rattle.net_graph.specs.NetGraphs.{numbers}
use Rattle.net_graph.specs.Reaching.{in_set, RightAt}
use Rattle.net_graph.specs.Uniting.{in_one_of}
use Rattle.net_graph.proofs.HasFacts.{has_at}
use Rattle.net_graph.proofs.ConeFacts.{number_at, numbers_length, set_right}
use Rattle.net_graph.proofs.cones.fill.Goals as goal

in_order : (xs : List Signal) (i n : ℕ) → i < length xs → ((x : ℕ) → has (numbers xs) x ≡ true → x < n) → (get_or xs i (record { 0 = 0 })).0 < n
in_order xs i n h o = subst (λ z. z < n) (number_at xs i) (o (get_or (numbers xs) i 0) (has_at (numbers xs) i 0 (subst (λ z. i < z) (sym (numbers_length xs)) h)))

pub bounds-lists-x : goal.bounds-lists-x
bounds-lists-x c = in_order c.args.order.now c.loop-signal.signal-index (length c.args.lists.now) c.loop-signal-test.true c.requires.order.own

pub bounds-sets-x : goal.bounds-sets-x
bounds-sets-x c = subst (λ n. (get_or c.args.order.now c.loop-signal.signal-index (record { 0 = 0 })).0 < n) (sym c.loop-signal.invariant.places)
    (in_order c.args.order.now c.loop-signal.signal-index (length c.args.lists.now) c.loop-signal-test.true c.requires.order.own)

pub loop-signal-preserved : goal.loop-signal-preserved
loop-signal-preserved c =
    let a : ℕ = (get_or c.args.order.now c.loop-signal.signal-index (record { 0 = 0 })).0 in
    let N : List ℕ = numbers c.args.order.now in
    let q : get_or N c.loop-signal.signal-index 0 ≡ a = number_at c.args.order.now c.loop-signal.signal-index in
    let h : c.loop-signal.signal-index < length N = subst (λ z. c.loop-signal.signal-index < z) (sym (numbers_length c.args.order.now)) c.loop-signal-test.true in
    let b : a < length c.loop-signal.sets = subst (λ n. a < n) (sym c.loop-signal.invariant.places)
    (in_order c.args.order.now c.loop-signal.signal-index (length c.args.lists.now) c.loop-signal-test.true c.requires.order.own) in
    let i1 : c.is_input.result ≡ is_input (info c.args.signals.now a).role = c.is_input.ensures in
    let l1 : c.items.result.now ≡ get_or c.args.lists.now a [] = grind (arith, common_steps) in
    let e : (p : ℕ) → in_set c.cone_of.result p ≡ ((is_input (info c.args.signals.now a).role && nat_eq p a) || in_one_of (get_or c.args.lists.now a []) c.loop-signal.sets p) = λ p.
    c.cone_of.ensures p ∙ ap (λ t. (t && nat_eq p a) || in_one_of c.items.result.now c.loop-signal.sets p) i1
    ∙ ap (λ (t : List ℕ). (is_input (info c.args.signals.now a).role && nat_eq p a) || in_one_of t c.loop-signal.sets p) l1 in
    record {
      places = length-set c.loop-signal.sets a c.cone_of.result ∙ c.loop-signal.invariant.places;
      done = λ x m. subst (λ z. RightAt (reads_in c.args.lists.now) (λ p. is_input (info c.args.signals.now p).role) (set c.loop-signal.sets z c.cone_of.result) x) q
          (set_right c.args.lists.now (λ p. is_input (info c.args.signals.now p).role) N c.loop-signal.signal-index c.loop-signal.sets c.cone_of.result
          c.requires.order.follows h (subst (λ z. z < length c.loop-signal.sets) (sym q) b)
          (λ p. subst (λ z. in_set c.cone_of.result p ≡ ((is_input (info c.args.signals.now z).role && nat_eq p z) || in_one_of (get_or c.args.lists.now z []) c.loop-signal.sets p)) (sym q) (e p))
          c.loop-signal.invariant.done x m);
    }
