use Rattle.std.proofs.Common.{◌∙◌, ◌<◌, Some, sym, ap, map, length, arith, option_map}
use Rattle.fir_check.specs.Driven.{clock_inputs}
use Rattle.fir_check.specs.KnownSeen.{key_name}
use Rattle.fir_check.proofs.Named.{named_none}
use Rattle.fir_check.proofs.Clocks.{clocks_low, clocks_at}
use Rattle.fir_check.proofs.surroundings.Surroundings.clock_inputs.Goals as goal

pub offset_bounds-self-number : goal.offset_bounds-self-number
offset_bounds-self-number c =
    let l : c.in-Some.number < length c.args.self.clocks.now = clocks_low c.args.self.modules.now c.args.self.table.now c.args.self.clocks.now c.args.target.now c.in-Some.number c.args.self.named c.args.self.clocked (sym c.find.ensures ∙ c.in-Some.is) in omega arith

pub bounds-self-number : goal.bounds-self-number
bounds-self-number c = clocks_low c.args.self.modules.now c.args.self.table.now c.args.self.clocks.now c.args.target.now c.in-Some.number c.args.self.named c.args.self.clocked (sym c.find.ensures ∙ c.in-Some.is)

pub returns-in-None : goal.returns-in-None
returns-in-None c = ap (option_map clock_inputs) (sym (named_none c.args.self.modules.now c.args.self.table.now c.args.target.now c.args.self.named (sym c.find.ensures ∙ c.in-None.is)))

pub returns-in-Some : goal.returns-in-Some
returns-in-Some c =
    ap (λ names. Some (map key_name names)) c.as_slice.ensures.value
    ∙ clocks_at c.args.self.modules.now c.args.self.table.now c.args.self.clocks.now c.args.target.now c.in-Some.number _ c.args.self.named c.args.self.clocked (sym c.find.ensures ∙ c.in-Some.is)
