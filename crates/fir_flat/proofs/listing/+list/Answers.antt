use Rattle.std.proofs.Common.{ℕ, List, ◌∷◌, [], true, false, ◌∙◌, ap, sym, subst, OnOk, refl}
use Rattle.net_core.specs.declared.tree.Role.TheVariants as role
use Rattle.fir_flat.specs.declared.kinds.Flow.TheVariants.{Free, Fixed}
use Rattle.fir_flat.specs.Shapes.{shape_of}
use Rattle.fir_flat.specs.Values.{value}
use Rattle.fir_flat.specs.Modules.{place_of, instance, signals_in}
use Rattle.fir_flat.specs.Elaboration.{opened, opened_at}
use Rattle.fir_flat.specs.Kinds.{seen}
use Rattle.fir_flat.specs.Listing.{Declares, one_role}
use Rattle.fir_flat.proofs.Agreed.{agrees}
use Rattle.fir_flat.proofs.WritingFacts.{on_ok}
use Rattle.fir_flat.specs.Bodies.{statement}
use Rattle.fir_flat.proofs.Moved.{body-Skip, body-Verif}
use Rattle.fir_flat.proofs.ListingFacts.{named_same, lists_wire, lists_node, lists_register, lists_instance, lists_connect, lists_invalid, lists_skipped}
use Rattle.fir_flat.proofs.listing.+list.Goals as goal

pub list_stmt-returns-in-Wire : goal.list_stmt-returns-in-Wire
list_stmt-returns-in-Wire t c =
    on_ok _ _ c.list_name.result
    (lists_wire c.args.modules.now c.args.prefix.now c.args.stmt.now c.in-Wire.line c.in-Wire.name c.in-Wire.ty c.args.known.now c.list_name.new.known
    c.args.listed.now c.list_name.new.listed c.in-Wire.is)
    (named_same c.list_name.result c.args.known.now c.list_name.new.known c.args.listed.now c.list_name.new.listed c.args.prefix.now _ (one_role c.in-Wire.line role.Inner true)
    _ c.in-Wire.name _ (shape_of c.in-Wire.ty) Free c.of_role-declared.ensures c.bytes.ensures refl c.list_name.ensures)

pub list_stmt-returns-in-Node : goal.list_stmt-returns-in-Node
list_stmt-returns-in-Node t c =
    on_ok _ _ c.list_name-in-Node.result
    (lists_node c.args.modules.now c.args.prefix.now c.args.stmt.now c.in-Node.line c.in-Node.name c.in-Node.value c.args.known.now c.list_name-in-Node.new.known
    c.args.listed.now c.list_name-in-Node.new.listed c.in-Node.is)
    (named_same c.list_name-in-Node.result c.args.known.now c.list_name-in-Node.new.known c.args.listed.now c.list_name-in-Node.new.listed c.args.prefix.now _ (one_role c.in-Node.line role.Node false)
    _ c.in-Node.name _ (value (seen c.args.known.now) c.in-Node.value).ty Fixed c.of_role-declared-in-Node.ensures c.bytes-in-Node.ensures
    (c.weigh.ensures.kind ∙ sym (agrees (seen c.args.known.now) c.in-Node.value)) c.list_name-in-Node.ensures)

pub list_stmt-returns-in-Reg : goal.list_stmt-returns-in-Reg
list_stmt-returns-in-Reg t c =
    on_ok _ _ c.list_name-in-Reg.result
    (lists_register c.args.modules.now c.args.prefix.now c.args.stmt.now c.in-Reg.line c.in-Reg.name c.in-Reg.ty c.in-Reg.clock c.in-Reg.reset c.args.known.now c.list_name-in-Reg.new.known
    c.args.listed.now c.list_name-in-Reg.new.listed c.in-Reg.is)
    (named_same c.list_name-in-Reg.result c.args.known.now c.list_name-in-Reg.new.known c.args.listed.now c.list_name-in-Reg.new.listed c.args.prefix.now _ (one_role c.in-Reg.line role.Reg true)
    _ c.in-Reg.name _ (shape_of c.in-Reg.ty) Free c.of_role-declared-in-Reg.ensures c.bytes-in-Reg.ensures refl c.list_name-in-Reg.ensures)

pub list_stmt-returns-in-Inst : goal.list_stmt-returns-in-Inst
list_stmt-returns-in-Inst t c =
    on_ok _ _ c.list_instance.result
    (lists_instance c.args.modules.now c.args.prefix.now c.args.stmt.now c.in-Inst.line c.in-Inst.name c.in-Inst.module c.args.known.now c.list_instance.new.known
    c.args.listed.now c.list_instance.new.listed c.in-Inst.is)
    (subst (λ (n : List ℕ). OnOk c.list_instance.result (Declares c.args.known.now c.list_instance.new.known c.args.listed.now c.list_instance.new.listed
    (instance c.args.modules.now c.in-Inst.name n c.args.listed.now.next)
    (opened (opened_at c.in-Inst.name (place_of c.args.modules.now n) c.args.listed.now.next c.args.prefix.now) ∷ []) (signals_in c.args.modules.now (place_of c.args.modules.now n))))
    c.bytes-target.ensures
    (subst (λ (n : List ℕ). OnOk c.list_instance.result (Declares c.args.known.now c.list_instance.new.known c.args.listed.now c.list_instance.new.listed
    (instance c.args.modules.now n c.bytes-target.result.now c.args.listed.now.next)
    (opened (opened_at n (place_of c.args.modules.now c.bytes-target.result.now) c.args.listed.now.next c.args.prefix.now) ∷ [])
    (signals_in c.args.modules.now (place_of c.args.modules.now c.bytes-target.result.now))))
    c.bytes-name.ensures c.list_instance.ensures))

pub list_stmt-returns-in-Connect : goal.list_stmt-returns-in-Connect
list_stmt-returns-in-Connect t c =
    lists_connect c.args.modules.now c.args.prefix.now c.args.stmt.now c.in-Connect.line c.in-Connect.sink c.in-Connect.value c.args.known.now c.args.listed.now c.in-Connect.is

pub list_stmt-returns-in-Invalid : goal.list_stmt-returns-in-Invalid
list_stmt-returns-in-Invalid t c =
    lists_invalid c.args.modules.now c.args.prefix.now c.args.stmt.now c.in-Invalid.line c.in-Invalid.sink c.args.known.now c.args.listed.now c.in-Invalid.is

pub list_stmt-returns-in-Skip : goal.list_stmt-returns-in-Skip
list_stmt-returns-in-Skip t c =
    lists_skipped c.args.modules.now c.args.prefix.now c.args.stmt.now c.args.known.now c.args.listed.now
    (λ rest. ap (λ s. statement s rest) c.in-Skip.is ∙ body-Skip c.in-Skip.line rest)

pub list_stmt-returns-in-Verif : goal.list_stmt-returns-in-Verif
list_stmt-returns-in-Verif t c =
    lists_skipped c.args.modules.now c.args.prefix.now c.args.stmt.now c.args.known.now c.args.listed.now
    (λ rest. ap (λ s. statement s rest) c.in-Verif.is
    ∙ body-Verif c.in-Verif.line c.in-Verif.kind c.in-Verif.args c.in-Verif.code c.in-Verif.text c.in-Verif.label rest)
