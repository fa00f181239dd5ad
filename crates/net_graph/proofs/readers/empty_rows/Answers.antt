use Rattle.std.proofs.Common.{◌≡◌, arith, ◌++◌, ◌∷◌, [], List, length, ◌+◌, subst, sym, ℕ, false}
use Rattle.std.proofs.lemmas.Grind.{common_steps}
use Rattle.std.specs.declared.vec.Vec.{Vec}
use Rattle.std.specs.declared.alloc.Global.{Global}
use Rattle.net_graph.specs.Readers.{in_row}
use Rattle.net_graph.proofs.ReaderFacts.{one_more_empty}
use Rattle.net_graph.proofs.readers.empty_rows.Goals as goal

pub loop-preserved : goal.loop-preserved
loop-preserved c =
    let e : c.push.new.self.items ≡ c.loop.rows.items ++ c.new.result ∷ [] = grind (arith, common_steps) in
    let n : c.new.result.items ≡ [] = grind (arith, common_steps) in
    let l : length c.push.new.self.items ≡ c.loop.counter + 1 = grind (arith, common_steps) in
    record {
      rows = l;
      empty = λ z k. subst (λ (rs : List (Vec ℕ Global)). in_row rs z k ≡ false) (sym e) (one_more_empty c.loop.rows.items c.new.result n c.loop.invariant.empty z k);
    }
