use Rattle.std.proofs.Common.{◌≡◌, sym, subst, ◌≤◌, ◌+◌, ◌∷◌, [], List, Bool, false, ℕ, length, take, drop, ◌++◌, set, replicate, arith}
use Rattle.std.proofs.lemmas.Grind.{common_steps}
use Rattle.net_graph.specs.Distances.{Level, RowReads, ReadsFront, Spread, AllEntered}
use Rattle.net_graph.proofs.DistanceFacts.{first_level, level_next, none_entered, all_measured}
use Rattle.net_graph.proofs.distance.distances.Goals as goal

pub loop-alloc-init : goal.loop-alloc-init
loop-alloc-init c =
    let own : ℕ = c.args.own in
    let G : ℕ → ℕ → Type 0 = RowReads c.args.readers.now own in
    let d : c.in_ok-distances.distances.items ≡ replicate own own = grind (arith, common_steps) in
    let f : c.in_ok-front.front.items ≡ c.args.target ∷ [] = grind (arith, common_steps) in
    let m : c.in_ok-entered.entered.items ≡ replicate (length c.args.readers.now) false = grind (arith, common_steps) in
    record {
      level = subst (λ (o : List ℕ). Level G c.args.target own 0 (set o c.args.target 0) c.in_ok-front.front.items) (sym d)
          (subst (λ (o : List ℕ). Level G c.args.target own 0 (set (replicate own own) c.args.target 0) o) (sym f) (first_level G c.args.target own c.requires));
      entered = subst (λ (o : List Bool). AllEntered c.args.readers.now own o (set c.in_ok-distances.distances.items c.args.target 0)) (sym m)
          (none_entered c.args.readers.now own (length c.args.readers.now) (set c.in_ok-distances.distances.items c.args.target 0));
    }

pub loop-alloc-preserved : goal.loop-alloc-preserved
loop-alloc-preserved c =
    let own : ℕ = c.args.own in
    let G : ℕ → ℕ → Type 0 = RowReads c.args.readers.now own in
    let n : length c.next_level.new.distances ≡ c.loop-alloc.distances.len = grind (arith, common_steps) in
    let e : take c.loop-alloc.distances.len (c.next_level.new.distances ++ drop (length c.next_level.new.distances) c.loop-alloc.distances.items) ≡ c.next_level.new.distances = grind (arith, common_steps) in
    let e2 : take c.loop-alloc.entered.len (c.next_level.new.entered ++ drop (length c.next_level.new.entered) c.loop-alloc.entered.items) ≡ c.next_level.new.entered = grind (arith, common_steps) in
    let s : 1 ≤ length c.loop-alloc.front.items = grind (arith, common_steps) in
    let f : c.deref.result.now ≡ c.loop-alloc.front.items = grind (arith, common_steps) in
    let g : c.deref_mut.result.now ≡ c.loop-alloc.distances.items = grind (arith, common_steps) in
    let b : c.new-next.result.items ≡ [] = grind (arith, common_steps) in
    let p : Spread (ReadsFront G c.loop-alloc.front.items) own (c.loop-alloc.level + 1) c.loop-alloc.distances.items [] c.next_level.new.distances c.next_level.new.next.items
    = subst (λ (o : List ℕ). Spread (ReadsFront G o) own (c.loop-alloc.level + 1) c.loop-alloc.distances.items [] c.next_level.new.distances c.next_level.new.next.items) f
    (subst (λ (o : List ℕ). Spread (ReadsFront G c.deref.result.now) own (c.loop-alloc.level + 1) o [] c.next_level.new.distances c.next_level.new.next.items) g
    (subst (λ (o : List ℕ). Spread (ReadsFront G c.deref.result.now) own (c.loop-alloc.level + 1) c.deref_mut.result.now o c.next_level.new.distances c.next_level.new.next.items) b c.in_ok-next_level.ensures.spread)) in
    record {
      level = subst (λ (o : List ℕ). Level G c.args.target own (c.loop-alloc.level + 1) o c.next_level.new.next.items) (sym e)
          (level_next G c.args.target own c.loop-alloc.level c.loop-alloc.distances.items c.loop-alloc.front.items c.next_level.new.distances c.next_level.new.next.items c.loop-alloc.invariant.level s p);
      entered = subst (λ (o : List ℕ). AllEntered c.args.readers.now own (take c.loop-alloc.entered.len (c.next_level.new.entered ++ drop (length c.next_level.new.entered) c.loop-alloc.entered.items)) o) (sym e)
          (subst (λ (o : List Bool). AllEntered c.args.readers.now own o c.next_level.new.distances) (sym e2) c.in_ok-next_level.ensures.entered);
    }

pub returns-clause-measures : goal.returns-clause-measures
returns-clause-measures c =
    let f : c.loop-alloc.front.items ≡ [] = grind (arith, common_steps) in
    all_measured (RowReads c.args.readers.now c.args.own) c.args.target c.args.own c.loop-alloc.level c.loop-alloc.distances.items c.loop-alloc.front.items c.loop-alloc.invariant.level f
