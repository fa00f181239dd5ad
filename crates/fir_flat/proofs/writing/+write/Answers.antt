use Rattle.std.proofs.Common.{ℕ, List, ◌∙◌, ap, subst, OnOk}
use Rattle.fir_ast.specs.declared.tree.Stmt.{Stmt}
use Rattle.fir_flat.specs.Shapes.{shape_of}
use Rattle.fir_flat.specs.Bodies.{statement, body_of}
use Rattle.fir_flat.specs.Values.{value}
use Rattle.fir_flat.specs.Kinds.{seen}
use Rattle.fir_flat.specs.Writing.{AddsWire, AddsNode, AddsRegister, AddsInstance, WritesBlock}
use Rattle.fir_flat.proofs.Moved.{body-Skip, body-Verif}
use Rattle.fir_flat.proofs.WritingFacts.{on_ok, on_both, writes_wire, writes_node, writes_register, writes_instance, writes_connect, writes_invalid, writes_nothing, writes_when}
use Rattle.fir_flat.proofs.writing.+write.Goals as goal

pub write_stmt-returns-in-Wire : goal.write_stmt-returns-in-Wire
write_stmt-returns-in-Wire t c =
    on_ok _ _ c.write_wire.result
    (writes_wire c.args.modules.now c.args.stmt.now c.in-Wire.line c.in-Wire.name c.in-Wire.ty c.args.known.now c.write_wire.new.known
    c.args.written.now c.write_wire.new.written c.in-Wire.is)
    (subst (λ (n : List ℕ). OnOk c.write_wire.result (AddsWire c.in-Wire.line n (shape_of c.in-Wire.ty) c.args.known.now c.write_wire.new.known
    c.args.written.now c.write_wire.new.written)) c.bytes.ensures c.write_wire.ensures)

pub write_stmt-returns-in-Node : goal.write_stmt-returns-in-Node
write_stmt-returns-in-Node t c =
    on_ok _ _ c.write_node.result
    (writes_node c.args.modules.now c.args.stmt.now c.in-Node.line c.in-Node.name c.in-Node.value c.args.known.now c.write_node.new.known
    c.args.written.now c.write_node.new.written c.in-Node.is)
    (subst (λ (n : List ℕ). OnOk c.write_node.result (AddsNode c.in-Node.line n (value (seen c.args.known.now) c.in-Node.value) c.args.known.now c.write_node.new.known
    c.args.written.now c.write_node.new.written)) c.bytes-in-Node.ensures c.write_node.ensures)

pub write_stmt-returns-in-Reg : goal.write_stmt-returns-in-Reg
write_stmt-returns-in-Reg t c =
    on_ok _ _ c.write_register.result
    (writes_register c.args.modules.now c.args.stmt.now c.in-Reg.line c.in-Reg.name c.in-Reg.ty c.in-Reg.clock c.in-Reg.reset c.args.known.now c.write_register.new.known
    c.args.written.now c.write_register.new.written c.in-Reg.is)
    (subst (λ (n : List ℕ). OnOk c.write_register.result (AddsRegister c.in-Reg.line n (shape_of c.in-Reg.ty) c.in-Reg.reset c.args.known.now c.write_register.new.known
    c.args.written.now c.write_register.new.written)) c.bytes-in-Reg.ensures c.write_register.ensures)

pub write_stmt-returns-in-Inst : goal.write_stmt-returns-in-Inst
write_stmt-returns-in-Inst t c =
    on_ok _ _ c.write_instance.result
    (writes_instance c.args.modules.now c.args.stmt.now c.in-Inst.line c.in-Inst.name c.in-Inst.module c.args.known.now c.write_instance.new.known
    c.args.written.now c.write_instance.new.written c.in-Inst.is)
    (subst (λ (n : List ℕ). OnOk c.write_instance.result (AddsInstance c.args.modules.now c.in-Inst.name n c.args.known.now c.write_instance.new.known
    c.args.written.now c.write_instance.new.written)) c.bytes-in-Inst-2.ensures
    (subst (λ (n : List ℕ). OnOk c.write_instance.result (AddsInstance c.args.modules.now n c.bytes-in-Inst-2.result.now c.args.known.now c.write_instance.new.known
    c.args.written.now c.write_instance.new.written)) c.bytes-in-Inst.ensures c.write_instance.ensures))

pub write_stmt-returns-in-Connect : goal.write_stmt-returns-in-Connect
write_stmt-returns-in-Connect t c =
    on_ok _ _ c.write_connect.result
    (writes_connect c.args.modules.now c.args.stmt.now c.in-Connect.line c.in-Connect.sink c.in-Connect.value c.args.known.now
    c.args.written.now c.write_connect.new.written c.in-Connect.is)
    c.write_connect.ensures

pub write_stmt-returns-in-Invalid : goal.write_stmt-returns-in-Invalid
write_stmt-returns-in-Invalid t c =
    on_ok _ _ c.write_invalid.result
    (writes_invalid c.args.modules.now c.args.stmt.now c.in-Invalid.line c.in-Invalid.sink c.args.known.now
    c.args.written.now c.write_invalid.new.written c.in-Invalid.is)
    c.write_invalid.ensures

pub write_stmt-returns-in_ok-other-in-When : goal.write_stmt-returns-in_ok-other-in-When
write_stmt-returns-in_ok-other-in-When t c =
    on_both _ _ _ c.put_when.result
    (writes_when c.args.modules.now c.args.stmt.now c.in-When.line c.in-When.cond c.in-When.taken c.in-When.other
    c.args.known.now c.write_block.new.known c.write_block-in-When.new.known
    c.args.written.now c.in_ok-taken-in-When.taken c.in_ok-other-in-When.other c.put_when.new.self c.in_ok-cond-in-When.cond c.in-When.is
    c.in_ok-cond-in-When.ensures
    (subst (λ (b : List Stmt). WritesBlock c.args.modules.now (body_of b) c.args.known.now c.args.written.now.next c.in_ok-taken-in-When.taken)
    c.as_slice.ensures c.in_ok-taken-in-When.ensures.written)
    c.in_ok-taken-in-When.ensures.known
    (subst (λ (b : List Stmt). WritesBlock c.args.modules.now (body_of b) c.write_block.new.known c.in_ok-taken-in-When.taken.next c.in_ok-other-in-When.other)
    c.as_slice-in-When.ensures c.in_ok-other-in-When.ensures.written)
    c.in_ok-other-in-When.ensures.known)
    c.put_when.ensures.body c.put_when.ensures.next

pub write_stmt-returns-in-Skip : goal.write_stmt-returns-in-Skip
write_stmt-returns-in-Skip t c =
    writes_nothing c.args.modules.now c.args.stmt.now c.args.known.now c.args.written.now
    (λ rest. ap (λ s. statement s rest) c.in-Skip.is ∙ body-Skip c.in-Skip.line rest)

pub write_stmt-returns-in-Verif : goal.write_stmt-returns-in-Verif
write_stmt-returns-in-Verif t c =
    writes_nothing c.args.modules.now c.args.stmt.now c.args.known.now c.args.written.now
    (λ rest. ap (λ s. statement s rest) c.in-Verif.is
    ∙ body-Verif c.in-Verif.line c.in-Verif.kind c.in-Verif.args c.in-Verif.code c.in-Verif.text c.in-Verif.label rest)
