use Rattle.std.proofs.Common.{◌≡◌, ◌+◌, ◌*◌, ◌∷◌, [], ◌++◌, ◌∙◌, refl, sym, ap, subst, arith, append-nil}
use Rattle.fir_flat.specs.declared.kinds.Flow.TheVariants.{Fixed, Source}
use Rattle.fir_flat.specs.Shapes.{Shape, size, ports_shape}
use Rattle.fir_flat.specs.Bodies.{node, inst, connect, invalid, statement, body_of}
use Rattle.fir_flat.specs.Values.{bound}
use Rattle.fir_flat.specs.Modules.{instance, place_of, module_at}
use Rattle.fir_flat.specs.Counts.{cut}
use Rattle.fir_flat.specs.Measures.{measure, connect_weight, reached, driven}
use Rattle.fir_flat.specs.Kinds.{seen, kind_shape, Weighs}
use Rattle.fir_flat.specs.Tallies.{declared_in, Tallies}
use Rattle.fir_flat.proofs.Agreed.{agrees}
use Rattle.fir_flat.proofs.Cutting.{cut_inside}
use Rattle.fir_flat.proofs.Moved.{moves_by, moves_nothing, moves_when, whole, body-Node, body-Inst, body-Connect, body-Invalid, body-Skip, body-Verif}
use Rattle.fir_flat.proofs.own.+count_own.Goals as goal

pub count_stmt-returns-in-Skip : goal.count_stmt-returns-in-Skip
count_stmt-returns-in-Skip t c =
    moves_nothing c.args.modules.now c.args.stmt.now c.args.known.now c.args.tally.now
    (λ rest. ap (λ s. statement s rest) c.in-Skip.is ∙ body-Skip c.in-Skip.line rest)

pub count_stmt-returns-in-Verif : goal.count_stmt-returns-in-Verif
count_stmt-returns-in-Verif t c =
    moves_nothing c.args.modules.now c.args.stmt.now c.args.known.now c.args.tally.now
    (λ rest. ap (λ s. statement s rest) c.in-Verif.is
    ∙ body-Verif c.in-Verif.line c.in-Verif.kind c.in-Verif.args c.in-Verif.code c.in-Verif.text c.in-Verif.label rest)

pub count_stmt-returns-in-Connect : goal.count_stmt-returns-in-Connect
count_stmt-returns-in-Connect t c =
    moves_by c.args.modules.now c.args.stmt.now (connect c.in-Connect.line c.in-Connect.sink c.in-Connect.value) c.args.known.now c.args.known.now
    (seen c.args.known.now) c.args.tally.now c.count_connect.new.tally 0
    (connect_weight (measure (seen c.args.known.now) c.in-Connect.sink) (measure (seen c.args.known.now) c.in-Connect.value)) 0
    (cut (connect_weight (measure (seen c.args.known.now) c.in-Connect.sink) (measure (seen c.args.known.now) c.in-Connect.value))) []
    (λ rest. ap (λ s. statement s rest) c.in-Connect.is ∙ body-Connect c.in-Connect.line c.in-Connect.sink c.in-Connect.value rest)
    (λ rest. omega arith) (λ rest. refl) (λ rest. refl) refl
    c.count_connect.ensures.signals (omega arith)
    (cut_inside c.args.tally.now.parts _ c.count_connect.new.tally.parts c.count_connect.ensures.parts) refl
    (ap (λ v. v.items) c.count_connect.ensures.instances ∙ sym (append-nil c.args.tally.now.instances.items)) (whole c.args.known.now)

pub count_stmt-returns-in-Invalid : goal.count_stmt-returns-in-Invalid
count_stmt-returns-in-Invalid t c =
    moves_by c.args.modules.now c.args.stmt.now (invalid c.in-Invalid.line c.in-Invalid.sink) c.args.known.now c.args.known.now
    (seen c.args.known.now) c.args.tally.now c.count_invalid.new.tally 0
    (reached (measure (seen c.args.known.now) c.in-Invalid.sink) * driven (measure (seen c.args.known.now) c.in-Invalid.sink) 0) 0
    (cut (reached (measure (seen c.args.known.now) c.in-Invalid.sink) * driven (measure (seen c.args.known.now) c.in-Invalid.sink) 0)) []
    (λ rest. ap (λ s. statement s rest) c.in-Invalid.is ∙ body-Invalid c.in-Invalid.line c.in-Invalid.sink rest)
    (λ rest. omega arith) (λ rest. refl) (λ rest. refl) refl
    c.count_invalid.ensures.signals (omega arith)
    (cut_inside c.args.tally.now.parts _ c.count_invalid.new.tally.parts c.count_invalid.ensures.parts) refl
    (ap (λ v. v.items) c.count_invalid.ensures.instances ∙ sym (append-nil c.args.tally.now.instances.items)) (whole c.args.known.now)

pub count_stmt-returns-in_ok-declare-in-Node : goal.count_stmt-returns-in_ok-declare-in-Node
count_stmt-returns-in_ok-declare-in-Node t c =
    let w : Weighs (measure (seen c.args.known.now) c.in-Node.value) c.weigh-value.result
    = c.weigh-value.ensures in
    let size_is : c.size-size.result ≡ cut (size (measure (seen c.args.known.now) c.in-Node.value).ty)
    = c.size-size.ensures ∙ ap (λ (y : Shape). cut (size y)) w.kind in
    moves_by c.args.modules.now c.args.stmt.now (node c.in-Node.line c.in-Node.name c.in-Node.value) c.args.known.now c.declare-in-Node.new.known
    (seen c.args.known.now ++ bound c.in-Node.name (measure (seen c.args.known.now) c.in-Node.value).ty Fixed 0 ∷ []) c.args.tally.now c.add-in-Node.new.self
    (size (measure (seen c.args.known.now) c.in-Node.value).ty)
    (size (measure (seen c.args.known.now) c.in-Node.value).ty * (2 + (measure (seen c.args.known.now) c.in-Node.value).nodes))
    c.size-size.result c.node_weight.result []
    (λ rest. ap (λ s. statement s rest) c.in-Node.is ∙ body-Node c.in-Node.line c.in-Node.name c.in-Node.value rest)
    (λ rest. ap (λ (y : Shape). size y + declared_in c.args.modules.now (seen c.args.known.now ++ bound c.in-Node.name y Fixed 0 ∷ []) rest)
    (agrees (seen c.args.known.now) c.in-Node.value))
    (λ rest. refl) (λ rest. refl)
    (c.in_ok-declare-in-Node.ensures.names
    ∙ ap (λ n. seen c.args.known.now ++ bound n (kind_shape c.weigh-value.result.kind) Fixed 0 ∷ []) c.bytes-in-Node.ensures
    ∙ ap (λ (y : Shape). seen c.args.known.now ++ bound c.in-Node.name y Fixed 0 ∷ []) w.kind)
    c.add-in-Node.ensures.signals size_is c.add-in-Node.ensures.parts
    (c.node_weight.ensures (size (measure (seen c.args.known.now) c.in-Node.value).ty) (measure (seen c.args.known.now) c.in-Node.value).nodes size_is w.nodes)
    (ap (λ v. v.items) c.add-in-Node.ensures.instances ∙ sym (append-nil c.args.tally.now.instances.items)) c.in_ok-declare-in-Node.ensures.kept

pub count_stmt-returns-in_ok-declare-in-Inst : goal.count_stmt-returns-in_ok-declare-in-Inst
count_stmt-returns-in_ok-declare-in-Inst t c =
    let at : c.place_of-place.result ≡ place_of c.args.modules.now c.in-Inst.module
    = c.place_of-place.ensures ∙ ap (λ n. place_of c.args.modules.now n) c.bytes-in-Inst.ensures in
    moves_by c.args.modules.now c.args.stmt.now (inst c.in-Inst.line c.in-Inst.name c.in-Inst.module) c.args.known.now c.declare-in-Inst.new.known
    (seen c.args.known.now ++ instance c.args.modules.now c.in-Inst.name c.in-Inst.module 0 ∷ []) c.args.tally.now
    (record { signals = c.add-in-Inst.new.self.signals; parts = c.add-in-Inst.new.self.parts; instances = c.push.new.self })
    0 1 0 1 (place_of c.args.modules.now c.in-Inst.module ∷ [])
    (λ rest. ap (λ s. statement s rest) c.in-Inst.is ∙ body-Inst c.in-Inst.line c.in-Inst.name c.in-Inst.module rest)
    (λ rest. refl) (λ rest. refl) (λ rest. refl)
    (c.in_ok-declare-in-Inst.ensures.names
    ∙ ap (λ n. seen c.args.known.now ++ bound n (kind_shape c.instance_at-kind.result) Source 0 ∷ []) c.bytes-in-Inst-2.ensures
    ∙ ap (λ (t : Shape). seen c.args.known.now ++ bound c.in-Inst.name t Source 0 ∷ []) c.instance_at-kind.ensures
    ∙ ap (λ p. seen c.args.known.now ++ bound c.in-Inst.name (ports_shape (module_at c.args.modules.now p).ports) Source 0 ∷ []) at)
    c.add-in-Inst.ensures.signals (omega arith) c.add-in-Inst.ensures.parts (omega arith)
    (c.in_ok-push-in-Inst.ensures.items ∙ ap (λ v. v.items ++ c.place_of-place.result ∷ []) c.add-in-Inst.ensures.instances
    ∙ ap (λ p. c.args.tally.now.instances.items ++ p ∷ []) at) c.in_ok-declare-in-Inst.ensures.kept

pub count_stmt-returns-in_ok-count_block-in-When-2 : goal.count_stmt-returns-in_ok-count_block-in-When-2
count_stmt-returns-in_ok-count_block-in-When-2 t c =
    moves_when c.args.modules.now c.args.stmt.now c.in-When.line c.in-When.cond c.in-When.taken c.in-When.other
    c.args.known.now c.count_block.new.known c.count_block-in-When.new.known
    c.args.tally.now c.add-in-When.new.self c.count_block.new.tally c.count_block-in-When.new.tally c.sum.result
    c.in-When.is c.add-in-When.ensures.signals c.add-in-When.ensures.parts
    (let w : Weighs (measure (seen c.args.known.now) c.in-When.cond) c.weigh-cond.result
    = c.weigh-cond.ensures in
    omega (arith, w.nodes, c.sum.ensures))
    (ap (λ v. v.items) c.add-in-When.ensures.instances)
    (subst (λ b. Tallies c.args.modules.now (body_of b) c.args.known.now c.add-in-When.new.self c.count_block.new.tally) c.as_slice.ensures c.in_ok-count_block-in-When.ensures.counted)
    c.in_ok-count_block-in-When.ensures.known
    (subst (λ b. Tallies c.args.modules.now (body_of b) c.count_block.new.known c.count_block.new.tally c.count_block-in-When.new.tally) c.as_slice-in-When.ensures c.in_ok-count_block-in-When-2.ensures.counted)
    c.in_ok-count_block-in-When-2.ensures.known
