use Rattle.std.proofs.Common.{false, ℕ, ap, ap₂, ◌≡◌, ◌∙◌, ◌++◌, ◌<◌, sym, subst, drop, length, slice_index, List, OnOk, rules}
use Rattle.fir_flat.specs.Shapes.{leaves, partners}
use Rattle.fir_flat.specs.Parts.{turned_parts}
use Rattle.fir_flat.specs.Elaboration.{connect_part, connect_parts}
use Rattle.fir_flat.specs.Statements.{connect_grounds}
use Rattle.fir_flat.proofs.StatementFacts.{connect_more}
use Rattle.fir_flat.proofs.statements.put_connect.Goals as goal

pub loop-k-preserved : goal.loop-k-preserved
loop-k-preserved c s v hs hv =
    let long : c.loop-k.k < length c.in_ok-parts.parts.items = search rules in
    let put : c.put_connect_part.new.out.items ≡ c.loop-k.out.items ++ connect_part c.args.line c.index.result.now.against s c.loop-k.k v c.number_at-partner.result
    = subst (λ r. OnOk r (c.put_connect_part.new.out.items ≡ c.loop-k.out.items ++ connect_part c.args.line c.index.result.now.against s c.loop-k.k v c.number_at-partner.result))
    c.in_ok-put_connect_part.was (c.put_connect_part.ensures s v hs hv) in
    subst (λ n.
    c.put_connect_part.new.out.items ++ connect_parts c.args.line s v n (drop n (leaves s.ty)) (drop n c.in_ok-partners.partners.items)
    ≡ c.args.out.now.items ++ connect_grounds c.args.line s v)
    (sym c.in_ok-k.ensures)
    (connect_more c.args.line c.loop-k.k s v c.in_ok-parts.parts.items c.index.result.now c.in_ok-partners.partners.items
    c.loop-k.out.items c.put_connect_part.new.out.items _
    (c.in_ok-parts.ensures ∙ ap (turned_parts false) hs.ty) (c.in_ok-partners.ensures ∙ ap₂ partners hs.ty hv.ty) long c.index.ensures
    (put
    ∙ ap (λ (j : ℕ). c.loop-k.out.items ++ connect_part c.args.line c.index.result.now.against s c.loop-k.k v j)
    (c.number_at-partner.ensures ∙ ap (λ (xs : List ℕ). slice_index xs c.loop-k.k) c.deref.ensures.value))
    (c.loop-k.invariant s v hs hv))
