use Rattle.std.proofs.Common.{arith, sym, ap, ◌∙◌, ◌-◌, ◌++◌, List}
use Rattle.fir_ast.specs.Limits.{limits}
use Rattle.fir_ast.specs.CircuitGrammar.{nested_within, block_limit}
use Rattle.fir_ast.specs.declared.tree.Port.{Port}
use Rattle.fir_ast.specs.declared.tree.Stmt.{Stmt}
use Rattle.fir_read.specs.Steps.{port_list}
use Rattle.fir_read.proofs.BodyReading.{body_begun, body_goes_on, body_breaks_off, body_done, body_out}
use Rattle.fir_read.proofs.modules.lines_behind.Goals as goal

pub loop-turn-init : goal.loop-turn-init
loop-turn-init c = body_begun (nested_within limits block_limit) c.args.column c.add_line.new.ports.items c.add_line.new.rows.items c.args.first c.still_ports-follow.result c.left-turn-end.result c.args.tokens.now (c.in_ok-add_line.ensures.ports ∙ ap (λ (z : List Port). z ++ port_list c.args.first.0) c.new-ports.ensures.items) (c.in_ok-add_line.ensures.rows ∙ ap (λ (z : List Stmt). z ++ c.args.first.1) c.new-rows.ensures.items) c.still_ports-follow.ensures c.left-turn-end.ensures

pub returns-in-Err : goal.returns-in-Err
returns-in-Err c = body_breaks_off (nested_within limits block_limit) c.args.column (c.loop-turn.ports.items, c.loop-turn.rows.items) c.loop-turn.follow c.left-turn-end.result c.loop-turn._turn c.loop-turn.tokens _ c.in-Err.e c.loop-turn-test.true (sym c.begins_row.ensures ∙ c.if-not-begins_row.false) c.in-Err.ensures c.loop-turn.invariant

pub returns-then-not-begins_row : goal.returns-then-not-begins_row
returns-then-not-begins_row c = rw (c.of.ensures, c.of-then-not-begins_row.ensures) (body_done (nested_within limits block_limit) c.args.column (c.loop-turn.ports.items, c.loop-turn.rows.items) c.loop-turn.follow (c.left-turn-end.result - c.loop-turn._turn) c.loop-turn.tokens _ (sym c.begins_row.ensures ∙ c.if-not-begins_row.true) c.loop-turn.invariant)

pub loop-turn-preserved : goal.loop-turn-preserved
loop-turn-preserved c = body_goes_on (nested_within limits block_limit) c.args.column c.loop-turn.ports.items c.add_line-in-loop-turn.new.ports.items c.loop-turn.rows.items c.add_line-in-loop-turn.new.rows.items c.in-Ok.next c.loop-turn.follow c.still_ports-follow-in-loop-turn.result c.left-turn-end.result c.loop-turn._turn c.loop-turn.tokens c.read_line.new.tokens _ c.in_ok-add_line-2.ensures.ports c.in_ok-add_line-2.ensures.rows c.still_ports-follow-in-loop-turn.ensures c.loop-turn-test.true (sym c.begins_row.ensures ∙ c.if-not-begins_row.false) c.in-Ok.ensures c.loop-turn.invariant

pub returns : goal.returns
returns c = rw (c.of-2.ensures, c.of-3.ensures) (body_out (nested_within limits block_limit) c.args.column (c.loop-turn.ports.items, c.loop-turn.rows.items) c.loop-turn.follow c.left-turn-end.result c.loop-turn._turn c.loop-turn.tokens _ (omega arith) c.loop-turn.invariant)
