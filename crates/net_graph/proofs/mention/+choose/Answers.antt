use Rattle.std.proofs.Common.{◌≡◌, ◌∷◌, ◌++◌, [], arith}
use Rattle.std.proofs.lemmas.Grind.{common_steps}
use Rattle.net_graph.proofs.MentionFacts.{when_grown}
use Rattle.net_graph.proofs.mention.+choose.Goals as goal

pub add_choice-returns-in_ok-add_choices-in-When-2 : goal.add_choice-returns-in_ok-add_choices-in-When-2
add_choice-returns-in_ok-add_choices-in-When-2 t c =
    let e : c.push.new.self.items ≡ c.args.found.now.items ++ c.in-When.cond.0 ∷ [] = grind (arith, common_steps) in
    when_grown c.args.found.now.items c.push.new.self.items c.add_choices.new.found.items c.add_choices-in-When.new.found.items
    c.in-When.cond c.in-When.taken c.in-When.other c.as_slice.result.now c.as_slice-in-When.result.now c.args.choice.now
    c.in-When.is e c.as_slice.ensures c.as_slice-in-When.ensures c.in_ok-add_choices-in-When.ensures c.in_ok-add_choices-in-When-2.ensures
