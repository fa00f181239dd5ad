use Rattle.std.proofs.Common.{List, ◌≡◌, ◌++◌, ◌∙◌, ap, refl, rules}
use Rattle.fir_flat.specs.declared.signals.Entry.{Entry}
use Rattle.fir_flat.specs.Signals.{seen_opening}
use Rattle.fir_flat.proofs.CourseFacts.{opened_expands}
use Rattle.fir_flat.proofs.flattening.Course.open.Goals as goal

pub returns : goal.returns
returns c =
    let a : c.append.new.self.items ≡ c.args.self.now.to_come.items ++ c.reverse.new.self.items = search rules in
    opened_expands c.args.modules.now c.requires.ranked.0 c.requires.ranked.1 (seen_opening c.args.opening.now) c.in_ok-own.own.items c.args.self.now _
    c.in_ok-own.ensures refl c.in_ok-write_own.ensures
    (a ∙ ap (λ (xs : List Entry). c.args.self.now.to_come.items ++ xs) c.reverse.ensures.items)
