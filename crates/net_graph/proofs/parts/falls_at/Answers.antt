use Rattle.std.proofs.Common.{◌≡◌, ◌<◌, ◌≤◌, ℕ, true, [], arith, get_or}
use Rattle.std.proofs.lemmas.Grind.{common_steps}
use Rattle.net_core.specs.Rules.{has}
use Rattle.net_graph.specs.Parts.{part_of}
use Rattle.net_graph.proofs.PartFacts.{no_loop_falling}
use Rattle.net_graph.proofs.parts.falls_at.Goals as goal

pub returns : goal.returns
returns c t other l =
    let h : (y : ℕ) → has (get_or c.args.lists.now c.args.x []) y ≡ true → part_of c.args.parts.now y ≤ c.highest_part.result = λ y m.
    let k : has c.items.result.now y ≡ true = grind (arith, common_steps) in
    c.highest_part.ensures y k in
    let f : c.highest_part.result < part_of c.args.parts.now c.args.x = grind (arith, common_steps) in
    no_loop_falling c.args.lists.now c.args.parts.now c.args.x c.highest_part.result c.requires.parts h f other l
