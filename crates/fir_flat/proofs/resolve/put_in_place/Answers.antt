use Rattle.std.proofs.Common.{◌≡◌, ◌∙◌, Bool, ap₂, sym, subst, IfOk, if◌then◌else◌}
use Rattle.fir_flat.specs.declared.kinds.Flow.{Flow}
use Rattle.fir_flat.specs.Shapes.{Shape}
use Rattle.fir_flat.specs.Values.{inside, turned}
use Rattle.fir_flat.specs.Kinds.{kind_shape}
use Rattle.fir_flat.specs.Resolving.{Refers, LiesIn}
use Rattle.fir_flat.proofs.resolve.put_in_place.Goals as goal

pub returns : goal.returns
returns c v f h at l =
    let flow : c.flow_at-flow.result ≡ (if f.flip then turned v.flow else v.flow)
    = c.flow_at-flow.ensures ∙ ap₂ (λ (b : Bool) (g : Flow). if b then turned g else g) at.flip h.flow in
    subst (λ (t : Shape). IfOk c.behind.result (Refers (inside t (if f.flip then turned v.flow else v.flow) f.before v))) at.of
    (subst (λ (g : Flow). IfOk c.behind.result (Refers (inside (kind_shape c.args.place.of) g f.before v))) flow
    (c.behind.ensures v f.before h at.before (subst (LiesIn v.ty f.before) (sym at.of) l)))
