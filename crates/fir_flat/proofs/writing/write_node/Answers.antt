use Rattle.std.proofs.Common.{ℕ, ◌≡◌, ◌∙◌, ◌+◌, ◌++◌, ◌∷◌, [], ap, subst, IfOk, OnOk}
use Rattle.fir_flat.specs.declared.kinds.Flow.TheVariants.{Fixed}
use Rattle.fir_flat.specs.Counts.{cut}
use Rattle.fir_flat.specs.Shapes.{Shape, size}
use Rattle.fir_flat.specs.Values.{Value, bound, value}
use Rattle.fir_flat.specs.Kinds.{seen}
use Rattle.fir_flat.specs.Resolving.{Resolves}
use Rattle.fir_flat.specs.Statements.{node_grounds}
use Rattle.fir_flat.proofs.WritingFacts.{names_more, kept_more}
use Rattle.fir_flat.proofs.writing.write_node.Goals as goal

pub returns : goal.returns
returns c =
    let v : Value = value (seen c.args.known.now) c.args.expr.now in
    let h : Resolves v c.in_ok-value.value = c.in_ok-value.ensures in
    let sized : c.in_ok-size.size ≡ size v.ty
    = subst (λ r. IfOk r (λ n. n ≡ size v.ty)) c.in_ok-size.was (c.exact.ensures (size v.ty) (c.size.ensures ∙ ap (λ (t : Shape). cut (size t)) h.ty)) in
    let put : c.put_node.new.out.items ≡ c.args.written.now.body.items ++ node_grounds c.args.line c.args.written.now.next v c.in_ok-size.size
    = subst (λ r. OnOk r (c.put_node.new.out.items ≡ c.args.written.now.body.items ++ node_grounds c.args.line c.args.written.now.next v c.in_ok-size.size))
    c.in_ok-put_node.was (c.put_node.ensures v h) in
    record {
      body = put ∙ ap (λ (n : ℕ). c.args.written.now.body.items ++ node_grounds c.args.line c.args.written.now.next v n) sized;
      next = c.in_ok-written.ensures ∙ ap (λ n. c.args.written.now.next + n) sized;
      names =
          names_more c.args.known.now c.push.new.self _ c.in_ok-push.ensures
          ∙ ap (λ (t : Shape). seen c.args.known.now ++ bound c.args.name.now t Fixed c.args.written.now.next ∷ []) h.ty;
      kept = kept_more c.args.known.now c.push.new.self _ c.in_ok-push.ensures;
    }
