use Rattle.std.proofs.Common.{List, ◌∷◌, [], ◌++◌, refl, sym, subst, take, map, OnOk, rules}
use Rattle.fir_ast.specs.declared.tree.Expr.{Expr}
use Rattle.fir_flat.specs.Values.{Value, value, operand}
use Rattle.fir_flat.specs.Kinds.{bound_of, seen}
use Rattle.fir_flat.specs.Resolving.{Given, Refers}
use Rattle.fir_flat.proofs.ResolveFacts.{taken_next}
use Rattle.fir_flat.proofs.LookedUp.{name_looked_up, field_looked_up, named_field_looked_up, element_looked_up, index_looked_up, literal_looked_up, mux_looked_up, operation_looked_up, operand_looked_up, refers_none, refused}
use Rattle.fir_flat.proofs.resolve.+resolve.Goals as goal

pub resolve-returns-in_err-resolve-in_default : goal.resolve-returns-in_err-resolve-in_default
resolve-returns-in_err-resolve-in_default t c = search rules

pub resolve-returns-in_err-of-in-At : goal.resolve-returns-in_err-of-in-At
resolve-returns-in_err-of-in-At t c = search rules

pub resolve-returns-in_err-of-in-Index : goal.resolve-returns-in_err-of-in-Index
resolve-returns-in_err-of-in-Index t c = search rules

pub resolve-returns-in_err-index-in-Index : goal.resolve-returns-in_err-index-in-Index
resolve-returns-in_err-index-in-Index t c =
    refused c.from_residual-in_err-index-in-Index.result _ (Refers (value (seen c.args.known.now) c.args.expr.now)) c.from_residual-in_err-index-in-Index.ensures.1

pub resolve-returns-in_err-nums-in-Apply : goal.resolve-returns-in_err-nums-in-Apply
resolve-returns-in_err-nums-in-Apply t c = search rules

pub resolve-returns-in_err-cond-in-Mux : goal.resolve-returns-in_err-cond-in-Mux
resolve-returns-in_err-cond-in-Mux t c = search rules

pub resolve-returns-in_err-taken-in-Mux : goal.resolve-returns-in_err-taken-in-Mux
resolve-returns-in_err-taken-in-Mux t c =
    refused c.from_residual-in_err-taken-in-Mux.result _ (Refers (value (seen c.args.known.now) c.args.expr.now)) c.from_residual-in_err-taken-in-Mux.ensures.1

pub resolve-returns-in_err-other-in-Mux : goal.resolve-returns-in_err-other-in-Mux
resolve-returns-in_err-other-in-Mux t c =
    refused c.from_residual-in_err-other-in-Mux.result _ (Refers (value (seen c.args.known.now) c.args.expr.now)) c.from_residual-in_err-other-in-Mux.ensures.1

pub resolve-same-nums : goal.resolve-same-nums
resolve-same-nums t c = refl

pub resolve-returns-in_err-operands-in_default-op : goal.resolve-returns-in_err-operands-in_default-op
resolve-returns-in_err-operands-in_default-op t c = search rules

pub resolve-same-nums-in_default-op : goal.resolve-same-nums-in_default-op
resolve-same-nums-in_default-op t c = refl

pub resolve-returns-in-Ident : goal.resolve-returns-in-Ident
resolve-returns-in-Ident t c =
    name_looked_up (seen c.args.known.now) c.args.expr.now c.in-Ident.name c.bytes.result.now (bound_of c.find.result) c.resolve_name.result c.in-Ident.is c.bytes.ensures c.find.ensures c.resolve_name.ensures

pub resolve-returns-in-Ident-get : goal.resolve-returns-in-Ident-get
resolve-returns-in-Ident-get t c =
    named_field_looked_up (seen c.args.known.now) c.args.expr.now c.in-Part.of c.get.result.now c.in-Part.name c.bytes-in-Ident-get-2.result.now c.in-Ident-get.bundle c.bytes-in-Ident-get.result.now
    c.resolve_field_named.result c.in-Part.is c.get.ensures c.in-Ident-get.is c.bytes-in-Ident-get.ensures c.bytes-in-Ident-get-2.ensures c.resolve_field_named.ensures

pub resolve-returns-in_ok-resolve-in_default : goal.resolve-returns-in_ok-resolve-in_default
resolve-returns-in_ok-resolve-in_default t c =
    field_looked_up (seen c.args.known.now) c.args.expr.now c.in-Part.of c.get.result.now c.in-Part.name c.bytes-in_default.result.now c.resolve_field.result c.in-Part.is c.get.ensures
    c.bytes-in_default.ensures (c.resolve_field.ensures (value (seen c.args.known.now) c.get.result.now) c.in_ok-resolve-in_default.ensures)

pub resolve-returns-in_ok-of-in-At : goal.resolve-returns-in_ok-of-in-At
resolve-returns-in_ok-of-in-At t c =
    element_looked_up (seen c.args.known.now) c.args.expr.now c.in-At.of c.get-in-At.result.now c.in-At.place c.resolve_element.result c.in-At.is c.get-in-At.ensures
    (c.resolve_element.ensures (value (seen c.args.known.now) c.get-in-At.result.now) c.in_ok-of-in-At.ensures)

pub resolve-returns-in_ok-index-in-Index : goal.resolve-returns-in_ok-index-in-Index
resolve-returns-in_ok-index-in-Index t c =
    index_looked_up (seen c.args.known.now) c.args.expr.now c.in-Index.of c.get-in-Index.result.now c.in-Index.index c.get-in-Index-2.result.now c.resolve_index.result c.in-Index.is c.get-in-Index.ensures
    c.get-in-Index-2.ensures
    (c.resolve_index.ensures (value (seen c.args.known.now) c.get-in-Index.result.now) (value (seen c.args.known.now) c.get-in-Index-2.result.now) c.in_ok-of-in-Index.ensures c.in_ok-index-in-Index.ensures)

pub resolve-returns-in-Lit : goal.resolve-returns-in-Lit
resolve-returns-in-Lit t c =
    literal_looked_up (seen c.args.known.now) c.args.expr.now c.in-Lit.signed c.in-Lit.width c.in-Lit.negative c.in-Lit.magnitude c.resolve_literal.result c.in-Lit.is c.resolve_literal.ensures

pub resolve-returns-in_ok-other-in-Mux : goal.resolve-returns-in_ok-other-in-Mux
resolve-returns-in_ok-other-in-Mux t c =
    let vs : List Value = map (value (seen c.args.known.now)) c.in-Apply.args in
    mux_looked_up (seen c.args.known.now) c.args.expr.now c.in-Apply.op c.in-Apply.args c.in-Apply.args c.in-Apply.nums c.in_ok-nums-in-Apply.nums c.resolve_mux.result
    c.in-Apply.is c.in-Mux.is refl c.in_ok-nums-in-Apply.ensures
    (c.resolve_mux.ensures (operand 0 vs) (operand 1 vs) (operand 2 vs)
    (subst (λ (xs : List Expr). Refers (operand 0 (map (value (seen c.args.known.now)) xs)) c.in_ok-cond-in-Mux.cond) c.as_slice.ensures c.in_ok-cond-in-Mux.ensures)
    (subst (λ (xs : List Expr). Refers (operand 1 (map (value (seen c.args.known.now)) xs)) c.in_ok-taken-in-Mux.taken) c.as_slice-in-Mux.ensures c.in_ok-taken-in-Mux.ensures)
    (subst (λ (xs : List Expr). Refers (operand 2 (map (value (seen c.args.known.now)) xs)) c.in_ok-other-in-Mux.other) c.as_slice-in-Mux-2.ensures c.in_ok-other-in-Mux.ensures))

pub resolve-returns-in_ok-operands-in_default-op : goal.resolve-returns-in_ok-operands-in_default-op
resolve-returns-in_ok-operands-in_default-op t c =
    operation_looked_up (seen c.args.known.now) c.args.expr.now c.in-Apply.op c.in-Apply.args c.as_slice-in_default-op.result.now c.in-Apply.nums c.in_ok-nums-in-Apply.nums c.resolve_operation.result c.in-Apply.is
    c.in_default-op.not-Mux c.as_slice-in_default-op.ensures c.in_ok-nums-in-Apply.ensures
    (c.resolve_operation.ensures (map (value (seen c.args.known.now)) c.as_slice-in_default-op.result.now) c.in_ok-operands-in_default-op.ensures)

pub resolve_operand-returns-then-k-args : goal.resolve_operand-returns-then-k-args
resolve_operand-returns-then-k-args t c =
    operand_looked_up (value (seen c.args.known.now)) c.args.args.now c.args.k c.index-args-k.result c.resolve.result c.if-k-args.true c.index-args-k.is
    c.resolve.ensures

pub resolve_operand-returns : goal.resolve_operand-returns
resolve_operand-returns t c = refers_none (value (seen c.args.known.now)) c.args.args.now c.args.k c.if-k-args.false

pub resolve_operands-loop-k-preserved : goal.resolve_operands-loop-k-preserved
resolve_operands-loop-k-preserved t c =
    let so_far : List Value = take c.loop-k.k (map (value (seen c.args.known.now)) c.args.args.now) in
    let next : Value = value (seen c.args.known.now) c.index-args-k.result in
    subst (λ (vs : List Value). Given vs c.add.new.self)
    (sym (taken_next (value (seen c.args.known.now)) c.args.args.now c.loop-k.k c.index-args-k.result c.loop-k-test.true c.index-args-k.is))
    (subst (λ r. OnOk r (Given (so_far ++ next ∷ []) c.add.new.self)) c.in_ok-add.was (c.add.ensures so_far next c.loop-k.invariant c.in_ok-next.ensures))
