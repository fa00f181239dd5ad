use Rattle.std.proofs.Common.{◌∙◌, ◌<◌, sym, ap, length, arith, option_map}
use Rattle.fir_check.specs.Scopes.{instance_thing}
use Rattle.fir_check.proofs.Named.{named_none, instances_low, instance_at}
use Rattle.fir_check.proofs.surroundings.Surroundings.instance.Goals as goal

pub offset_bounds-self-number : goal.offset_bounds-self-number
offset_bounds-self-number c =
    let l : c.in-Some.number < length c.args.self.instances.now = instances_low c.args.self.modules.now c.args.self.table.now c.args.self.types.now c.args.self.instances.now c.args.target.now c.in-Some.number c.args.self.named c.args.self.typed (sym c.find.ensures ∙ c.in-Some.is) in omega arith

pub bounds-self-number : goal.bounds-self-number
bounds-self-number c = instances_low c.args.self.modules.now c.args.self.table.now c.args.self.types.now c.args.self.instances.now c.args.target.now c.in-Some.number c.args.self.named c.args.self.typed (sym c.find.ensures ∙ c.in-Some.is)

pub returns-in-None : goal.returns-in-None
returns-in-None c = ap (option_map instance_thing) (sym (named_none c.args.self.modules.now c.args.self.table.now c.args.target.now c.args.self.named (sym c.find.ensures ∙ c.in-None.is)))

pub returns-in-Some : goal.returns-in-Some
returns-in-Some c = instance_at c.args.self.modules.now c.args.self.table.now c.args.self.types.now c.args.self.instances.now c.args.target.now c.in-Some.number _ _ c.args.self.named c.args.self.typed (sym c.find.ensures ∙ c.in-Some.is) c.instance.ensures
