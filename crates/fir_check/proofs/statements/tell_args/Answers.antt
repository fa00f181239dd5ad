use Rattle.std.proofs.Common.{refl}
use Rattle.fir_check.specs.KnownSeen.{seen}
use Rattle.fir_check.proofs.Args.{args_none, args_next, args_end}
use Rattle.fir_check.proofs.statements.tell_args.Goals as goal

pub loop-k-init : goal.loop-k-init
loop-k-init c = args_none c.args.kind (seen c.args.around.types.now c.args.scope.now) _ refl

pub loop-k-preserved : goal.loop-k-preserved
loop-k-preserved c =
    args_next c.args.around.types.now c.args.kind (seen c.args.around.types.now c.args.scope.now) c.args.args.now c.loop-k.k c.operands_before-before.result c.index-args-k.result c.loop-k.told c.with_arg-told.result c.judge_behind-next.result c.loop-k-test.true c.index-args-k.is
    c.operands_before-before.ensures c.loop-k.invariant
    (record { meaning = c.judge_behind-next.ensures.meaning; unknown = c.judge_behind-next.ensures.unknown; wrong = c.judge_behind-next.ensures.wrong; clock = c.judge_behind-next.ensures.clock }) c.with_arg-told.ensures

pub returns : goal.returns
returns c = args_end c.args.kind (seen c.args.around.types.now c.args.scope.now) c.args.args.now c.loop-k.k c.loop-k.told c.loop-k-test.false c.loop-k.invariant
