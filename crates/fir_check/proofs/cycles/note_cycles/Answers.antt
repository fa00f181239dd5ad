use Rattle.std.proofs.Common.{◌∙◌, sym, ap, arith}
use Rattle.fir_check.specs.Tables.{is_number, number_named}
use Rattle.fir_check.specs.Instances.{kids_seen}
use Rattle.fir_check.proofs.Trails.{kids_long}
use Rattle.fir_check.proofs.CycleLoops.{cycles_start, cycles_end, cycles_other, module_noted, kids_within}
use Rattle.fir_check.proofs.cycles.note_cycles.Goals as goal
use Rattle.fir_check.proofs.cycles.note_cycles.Goals.{then-is_first+in_ok-note_cycles_of, else-is_first}

pub loop-k-init : goal.loop-k-init
loop-k-init c = cycles_start _ _

pub loop-k-preserved : goal.loop-k-preserved
loop-k-preserved c = elim c.if-is_first.branch [
  | then-is_first+in_ok-note_cycles_of w ↦
      rw w.best-is (module_noted c.args.modules.now c.args.table.now (kids_seen w.deref-then-is_first.result.now) c.loop-k.k c.index-modules-k.result c.loop-k.best _ _ c.requires
      (ap kids_seen w.deref-then-is_first.ensures.value ∙ c.in_ok-kids.ensures) c.loop-k-test.true c.index-modules-k.is
      (ap (λ x. is_number c.loop-k.k (number_named x c.args.table.now)) (sym c.bytes.ensures) ∙ sym c.is_first.ensures ∙ w.if-is_first.true)
      w.in_ok-note_cycles_of.ensures c.loop-k.invariant)
  | else-is_first w ↦
      rw w.best-is (cycles_other c.args.modules.now c.args.table.now c.loop-k.k c.index-modules-k.result c.loop-k.best _ c.requires c.loop-k-test.true c.index-modules-k.is
      (ap (λ x. is_number c.loop-k.k (number_named x c.args.table.now)) (sym c.bytes.ensures) ∙ sym c.is_first.ensures ∙ w.if-is_first.false) c.loop-k.invariant)
]

pub note_cycles_of-requires-clause-within : goal.note_cycles_of-requires-clause-within
note_cycles_of-requires-clause-within c =
    kids_within c.args.modules.now c.args.table.now (kids_seen c.deref-then-is_first.result.now) _ c.requires
    (ap kids_seen c.deref-then-is_first.ensures.value ∙ c.in_ok-kids.ensures) (kids_long c.deref-then-is_first.result.now)

pub returns : goal.returns
returns c = cycles_end _ c.loop-k.k _ _ (omega arith) c.loop-k.invariant
