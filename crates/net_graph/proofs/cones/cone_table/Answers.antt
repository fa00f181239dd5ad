use Rattle.std.proofs.Common.{◌≡◌, ◌∙◌, sym, ap, subst, ℕ, true, List, ◌<◌, length, arith, refl}
use Rattle.std.proofs.lemmas.Grind.{common_steps}
use Rattle.std.specs.Prelude.{◌↔◌}
use Rattle.net_core.specs.Nets.{net_reads}
use Rattle.net_core.specs.Signals.{info, is_input}
use Rattle.net_core.specs.declared.tree.SignalInfo.{SignalInfo}
use Rattle.net_graph.specs.declared.inputs.InputSet.{InputSet}
use Rattle.net_graph.specs.Graphs.{reads_in, IsOrder}
use Rattle.net_graph.specs.NetGraphs.{numbers}
use Rattle.net_graph.specs.Reaching.{in_row_of, Reached}
use Rattle.net_graph.proofs.ConeFacts.{order_to, right_same}
use Rattle.net_graph.proofs.cones.cone_table.Goals as goal

pub fill-requires-clause-order : goal.fill-requires-clause-order
fill-requires-clause-order c =
    let d : c.deref.result.now ≡ c.in_ok-lists.lists.items = grind (arith, common_steps) in
    let o : c.order.result.now ≡ c.args.levels.now = grind (arith, common_steps) in
    let n : length c.args.net.now.signals ≡ length c.in_ok-lists.lists.items = sym (c.in_ok-lists.ensures.places ∙ c.requires.net.equations) in
    subst (λ (l : List (List ℕ)). IsOrder (reads_in l) (length l) (numbers c.order.result.now)) (sym d)
    (order_to (net_reads c.args.net.now) (reads_in c.in_ok-lists.lists.items) (λ x y. sym (c.in_ok-lists.ensures.reads x y)) (length c.args.net.now.signals) (length c.in_ok-lists.lists.items) n (numbers c.order.result.now)
    (subst (λ s. IsOrder (net_reads c.args.net.now) (length c.args.net.now.signals) (numbers s)) (sym o) c.requires.levels))

pub returns : goal.returns
returns c =
    let d : c.deref.result.now ≡ c.in_ok-lists.lists.items = grind (arith, common_steps) in
    let l : c.of.result ≡ c.in_ok-lists.lists.items = grind (arith, common_steps) in
    let s : c.of-2.result ≡ c.fill.new.sets = grind (arith, common_steps) in
    let g : c.items.result.now ≡ c.args.net.now.signals = grind (arith, common_steps) in
    let n : length c.in_ok-lists.lists.items ≡ length c.args.net.now.signals = c.in_ok-lists.ensures.places ∙ c.requires.net.equations in
    record {
      cones = λ x p h i.
          let i2 : is_input (info c.items.result.now p).role ≡ true = subst (λ (q : List SignalInfo). is_input (info q p).role ≡ true) (sym g) i in
          let x2 : x < length c.deref.result.now = subst (λ z. x < z) (sym (ap (λ (q : List (List ℕ)). length q) d ∙ n)) h in
          let r : (in_row_of c.fill.new.sets x p ≡ true) ↔ Reached (reads_in c.deref.result.now) p x = c.fill.ensures.right x x2 p i2 in
          subst (λ (q : List InputSet). (in_row_of q x p ≡ true) ↔ Reached (net_reads c.args.net.now) p x) (sym s)
          (right_same (reads_in c.deref.result.now) (net_reads c.args.net.now) (λ a b. ap (λ (q : List (List ℕ)). reads_in q a b) d ∙ c.in_ok-lists.ensures.reads a b) (in_row_of c.fill.new.sets x p) p x r);
      places = ap (λ (q : List InputSet). length q) s ∙ c.fill.ensures.places ∙ ap (λ (q : List (List ℕ)). length q) d ∙ n;
      reads = λ x y. ap (λ (q : List (List ℕ)). reads_in q x y) l ∙ c.in_ok-lists.ensures.reads x y;
      lists = ap (λ (q : List (List ℕ)). length q) l ∙ n;
      own = refl;
    }
