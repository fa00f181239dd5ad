use Rattle.std.proofs.Common.{arith, List, ℕ, subst, sym}
use Rattle.fir_check.specs.Numbers.{ComesNext, types_in}
use Rattle.fir_check.specs.Walking.{body_breaks}
use Rattle.fir_check.proofs.Numbering.{left_start, left_here, left_next}
use Rattle.fir_check.proofs.Whole.{modules_start, modules_next, modules_end}
use Rattle.fir_check.proofs.accept.note_numbered_statements.Goals as goal

pub loop-home-init : goal.loop-home-init
loop-home-init c = record {
  broken = modules_start (body_breaks c.args.modules.now) c.args.modules.now c.args.best.now;
  numbers = left_start types_in c.args.modules.now c.args.numbering.now.types c.args.numbering.now.declared.items 0 c.requires.declared;
}

pub note_statements-requires : goal.note_statements-requires
note_statements-requires c =
    subst (λ (ns : List ℕ). ComesNext c.args.numbering.now.types ns c.loop-home.next (types_in c.home-item.result)) (sym c.as_slice-declared.ensures.value)
    (left_here types_in c.args.modules.now c.loop-home.home-index c.home-item.result c.args.numbering.now.types c.args.numbering.now.declared.items c.loop-home.next 0 c.loop-home-test.true c.home-item.is c.loop-home.invariant.numbers)

pub loop-home-preserved : goal.loop-home-preserved
loop-home-preserved c = record {
  broken =
      modules_next (body_breaks c.args.modules.now) c.args.modules.now c.loop-home.home-index c.home-item.result c.loop-home.best c.note_statements.new.best c.args.best.now c.loop-home-test.true c.home-item.is
      c.in_ok-note_statements.ensures.best c.loop-home.invariant.broken;
  numbers =
      left_next types_in c.args.modules.now c.loop-home.home-index c.home-item.result c.args.numbering.now.types c.args.numbering.now.declared.items c.loop-home.next c.note_statements.new.next 0 c.loop-home-test.true c.home-item.is
      c.in_ok-note_statements.ensures.next c.loop-home.invariant.numbers;
}

pub returns : goal.returns
returns c = modules_end (body_breaks c.args.modules.now) c.args.modules.now c.loop-home.home-index c.loop-home.best c.args.best.now (omega arith) c.loop-home.invariant.broken
