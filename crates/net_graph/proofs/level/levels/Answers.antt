use Rattle.std.proofs.Common.{◌≡◌, ◌∙◌, sym, ap, subst, ℕ, List, ◌<◌, length, arith, None}
use Rattle.std.proofs.lemmas.Grind.{common_steps}
use Rattle.std.specs.declared.vec.Vec.{Vec}
use Rattle.std.specs.declared.alloc.Global.{Global}
use Rattle.net_core.specs.declared.ports.Signal.{Signal}
use Rattle.net_core.specs.Nets.{net_reads}
use Rattle.net_graph.specs.Graphs.{reads_in, IsOrder}
use Rattle.net_graph.specs.Loops.{IsNamedLoop, NoLoops}
use Rattle.net_graph.specs.Taking.{Furthest}
use Rattle.net_graph.specs.NetGraphs.{numbers, ReadsOver}
use Rattle.net_graph.proofs.OwnFacts.{order_of_net, no_loops_of_order, named_same, none_holds, some_holds}
use Rattle.net_graph.proofs.level.levels.Goals.{then-len+in_ok-found+in_default, else-len}
use Rattle.net_graph.proofs.level.levels.Goals as goal

ordered : (c : goal.After-drop-lists-2) → IsOrder (net_reads c.args.net.now) (length c.args.net.now.signals) (numbers c.in_ok-signals_of-2.field-0)
ordered c =
    let l : c.deref-2.result.now ≡ c.in_ok-lists.lists.items = grind (arith, common_steps) in
    let f : Furthest c.in_ok-lists.lists.items c.in_ok-order.order.items = subst (λ (q : List (List ℕ)). Furthest q c.in_ok-order.order.items) l c.in_ok-order.ensures in
    let n : length c.in_ok-lists.lists.items ≡ length c.args.net.now.signals = c.in_ok-lists.ensures.places ∙ c.requires.equations in
    let o : numbers c.in_ok-signals_of-2.field-0 ≡ c.in_ok-order.order.items = grind (arith, common_steps) in
    let none : length c.in_ok-order.order.items < length c.in_ok-lists.lists.items → NoLoops (ReadsOver (reads_in c.in_ok-lists.lists.items) c.args.net.now.own) = λ h.
    elim c.if-len.branch [
      | then-len+in_ok-found+in_default w ↦
          let d : w.deref-then-len.result.now ≡ c.in_ok-lists.lists.items = grind (arith, common_steps) in
          let e : w.in_ok-found.field-0 ≡ None = grind (arith, common_steps) in
          subst (λ (q : List (List ℕ)). NoLoops (ReadsOver (reads_in q) c.args.net.now.own)) d
          (none_holds (NoLoops (ReadsOver (reads_in w.deref-then-len.result.now) c.args.net.now.own)) w.in_ok-found.field-0 e w.in_ok-found.ensures.none)
      | else-len w ↦ absurd (grind (arith, common_steps))
    ] in
    subst (λ (q : List ℕ). IsOrder (net_reads c.args.net.now) (length c.args.net.now.signals) q) (sym o)
    (order_of_net c.in_ok-lists.lists.items (net_reads c.args.net.now) c.args.net.now.own (length c.args.net.now.signals) c.in_ok-order.order.items
    c.in_ok-lists.ensures.reads n c.requires.conditions c.requires.within f none)

pub returns-clause-order : goal.returns-clause-order
returns-clause-order c = ordered c

pub returns-clause-no_loop : goal.returns-clause-no_loop
returns-clause-no_loop c =
    no_loops_of_order (net_reads c.args.net.now) c.args.net.now.own (length c.args.net.now.signals) (numbers c.in_ok-signals_of-2.field-0) c.requires.own (ordered c)

pub returns-in-Some-clause-named : goal.returns-in-Some-clause-named
returns-in-Some-clause-named c loop e =
    let q : c.in_ok-signals_of.field-0 ≡ loop = cc in
    let d : c.deref-then-len.result.now ≡ c.in_ok-lists.lists.items = grind (arith, common_steps) in
    let o : numbers c.in_ok-signals_of.field-0 ≡ c.in-Some.found.items = grind (arith, common_steps) in
    let n : (x : ℕ) × IsNamedLoop (ReadsOver (reads_in c.deref-then-len.result.now) c.args.net.now.own) x c.in-Some.found.items
    = some_holds (λ (v : Vec ℕ Global). (x : ℕ) × IsNamedLoop (ReadsOver (reads_in c.deref-then-len.result.now) c.args.net.now.own) x v.items) c.in_ok-found.field-0 c.in-Some.found c.in-Some.is c.in_ok-found.ensures.some in (
      n.0,
      named_same (reads_in c.in_ok-lists.lists.items) (net_reads c.args.net.now) c.args.net.now.own c.in_ok-lists.ensures.reads n.0 (numbers loop)
          (subst (λ (l : List (List ℕ)). IsNamedLoop (ReadsOver (reads_in l) c.args.net.now.own) n.0 (numbers loop)) d
          (subst (λ (l : List ℕ). IsNamedLoop (ReadsOver (reads_in c.deref-then-len.result.now) c.args.net.now.own) n.0 l) (sym o ∙ ap (λ (l : List Signal). numbers l) q) n.1)),
    )
