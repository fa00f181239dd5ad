use Rattle.std.proofs.Common.{refl}
use Rattle.fir_check.specs.KnownSeen.{seen}
use Rattle.fir_check.proofs.Args.{told_verif}
use Rattle.fir_check.proofs.statements.tell_verif.Goals as goal

pub returns : goal.returns
returns c = told_verif c.args.around.modules.now c.args.around.home.now (seen c.args.around.types.now c.args.scope.now) c.args.kind c.args.args.now c.tell_args-told.result _ c.tell_args-told.ensures refl
