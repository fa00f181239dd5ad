use Rattle.std.proofs.Common.{◌≡◌, ◌∙◌, sym, ap, ℕ, ◌<◌, ◌≤◌, List, length, get_or, arith}
use Rattle.std.proofs.lemmas.Grind.{common_steps}
use Rattle.std.specs.declared.vec.Vec.{Vec}
use Rattle.std.specs.declared.alloc.Global.{Global}
use Rattle.net_core.specs.Rules.{has}
use Rattle.net_graph.proofs.ReaderFacts.{row_at, row_past}
use Rattle.net_graph.proofs.distance.row.Goals as goal

pub returns-in-Some : goal.returns-in-Some
returns-in-Some c k =
    let h : c.args.z < length c.args.rows.now = grind (arith, common_steps) in
    let e : get_or c.args.rows.now c.args.z c.in-Some.row.now ≡ c.in-Some.row.now = grind (arith, common_steps) in
    ap (λ (o : List ℕ). has o k) c.as_slice.ensures.value ∙ ap (λ (v : Vec ℕ Global). has v.items k) (sym e) ∙ sym (row_at c.args.rows.now c.args.z k c.in-Some.row.now h)

pub returns-in-None : goal.returns-in-None
returns-in-None c k =
    let h : length c.args.rows.now ≤ c.args.z = grind (arith, common_steps) in
    sym (row_past c.args.rows.now c.args.z k h)
