use Rattle.std.proofs.Common.{false, ◌≡◌, ◌∙◌, ◌++◌, ◌<◌, ap, sym, subst, drop, length, OnOk, rules}
use Rattle.fir_flat.specs.Shapes.{leaves}
use Rattle.fir_flat.specs.Parts.{turned_parts}
use Rattle.fir_flat.specs.Elaboration.{invalid_parts}
use Rattle.fir_flat.specs.Statements.{invalid_part, invalid_grounds}
use Rattle.fir_flat.proofs.StatementFacts.{invalid_more}
use Rattle.fir_flat.proofs.statements.put_invalid.Goals as goal

pub loop-k-preserved : goal.loop-k-preserved
loop-k-preserved c v h =
    let long : c.loop-k.k < length c.in_ok-parts.parts.items = search rules in
    let put : c.put_invalid_part.new.out.items ≡ c.loop-k.out.items ++ invalid_part c.args.line c.index.result.now.against v c.loop-k.k
    = subst (λ r. OnOk r (c.put_invalid_part.new.out.items ≡ c.loop-k.out.items ++ invalid_part c.args.line c.index.result.now.against v c.loop-k.k))
    c.in_ok-put_invalid_part.was (c.put_invalid_part.ensures v h) in
    subst (λ n.
    c.put_invalid_part.new.out.items ++ invalid_parts c.args.line v n (drop n (leaves v.ty))
    ≡ c.args.out.now.items ++ invalid_grounds c.args.line v)
    (sym c.in_ok-k.ensures)
    (invalid_more c.args.line c.loop-k.k v c.in_ok-parts.parts.items c.index.result.now c.loop-k.out.items c.put_invalid_part.new.out.items _
    (c.in_ok-parts.ensures ∙ ap (turned_parts false) h.ty) long c.index.ensures
    put
    (c.loop-k.invariant v h))
