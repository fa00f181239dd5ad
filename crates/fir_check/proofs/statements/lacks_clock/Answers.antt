use Rattle.std.proofs.Common.{◌≡◌, Bool, IfOk, subst}
use Rattle.fir_check.proofs.Clocks.{clocks_lacked}
use Rattle.fir_check.proofs.statements.lacks_clock.Goals as goal

pub returns-in-Some : goal.returns-in-Some
returns-in-Some c =
    subst (λ (x : Bool). IfOk c.misses_one.result (λ b. b ≡ x))
    (clocks_lacked _ c.args.around.home.now c.args.instance.now c.args.around.sinks.now c.clock_inputs.result c.in-Some.names _ c.args.around.driven c.clock_inputs.ensures c.in-Some.is)
    c.misses_one.ensures
