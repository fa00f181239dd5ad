use Rattle.std.proofs.Common.{arith, [], ◌∷◌, List, ℕ, flat_map, take, subst, sym}
use Rattle.fir_ast.specs.declared.tree.Ty.{Ty}
use Rattle.fir_check.specs.Numbers.{Gains}
use Rattle.fir_check.proofs.Numbering.{gains_start, gains_next, gains_end, gains_all, gains_as, one_each}
use Rattle.fir_check.proofs.declared_types.number_types.Goals as goal

pub loop-ty-init : goal.loop-ty-init
loop-ty-init c =
    subst (λ (x : List ℕ). Gains c.args.table.now c.args.table.now (flat_map (λ t. t ∷ []) (take 0 c.args.types.now)) [] x) (sym c.new-numbers.ensures.items) (gains_start (λ t. t ∷ []) c.args.types.now c.args.table.now [])

pub loop-ty-preserved : goal.loop-ty-preserved
loop-ty-preserved c =
    gains_next (λ t. t ∷ []) c.args.types.now c.loop-ty.ty-index c.ty-item.result c.args.table.now c.loop-ty.table c.number_type.new.table [] c.loop-ty.numbers.items c.number_type.new.numbers.items
    c.loop-ty-test.true c.ty-item.is c.in_ok-number_type.ensures c.loop-ty.invariant

pub returns : goal.returns
returns c = gains_all c.args.table.now c.loop-ty.table c.args.types.now c.loop-ty.numbers.items
    (gains_as c.args.table.now c.loop-ty.table (flat_map (λ (t : Ty). t ∷ []) c.args.types.now) c.args.types.now [] c.loop-ty.numbers.items (one_each c.args.types.now)
    (gains_end (λ t. t ∷ []) c.args.types.now c.loop-ty.ty-index c.args.table.now c.loop-ty.table [] c.loop-ty.numbers.items (omega arith) c.loop-ty.invariant))
