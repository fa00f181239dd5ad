use Rattle.std.proofs.Common.{ℕ, List, ◌≡◌, ◌∙◌, ◌+◌, ◌++◌, ◌∷◌, [], ap, subst, map, IfOk, OnOk}
use Rattle.std.specs.List.{range_with_len}
use Rattle.fir_flat.specs.declared.kinds.Flow.TheVariants.{Free}
use Rattle.fir_flat.specs.Shapes.{shape_of, size}
use Rattle.fir_flat.specs.Values.{Bound, bound}
use Rattle.fir_flat.specs.Kinds.{seen}
use Rattle.fir_flat.specs.Elaboration.{reg_part}
use Rattle.fir_flat.specs.Statements.{IsReset}
use Rattle.fir_flat.proofs.WritingFacts.{names_more, kept_more}
use Rattle.fir_flat.proofs.writing.write_register.Goals as goal

pub returns : goal.returns
returns c =
    let scope : List Bound = seen c.args.known.now ++ bound c.args.name.now (shape_of c.args.ty.now) Free c.args.written.now.next ∷ [] in
    let names : seen c.push.new.self ≡ scope = names_more c.args.known.now c.push.new.self _ c.in_ok-push.ensures in
    let sized : c.in_ok-size.size ≡ size (shape_of c.args.ty.now)
    = subst (λ r. IfOk r (λ n. n ≡ size (shape_of c.args.ty.now))) c.in_ok-size.was (c.exact.ensures (size (shape_of c.args.ty.now)) c.size_of.ensures) in
    let reset : IsReset scope (shape_of c.args.ty.now) c.args.reset.now c.in_ok-reset.reset
    = subst (λ (ks : List Bound). IsReset ks (shape_of c.args.ty.now) c.args.reset.now c.in_ok-reset.reset) names c.in_ok-reset.ensures in
    let put : c.put_register.new.out.items
    ≡ c.args.written.now.body.items ++ map (reg_part c.args.line c.args.written.now.next scope (shape_of c.args.ty.now) c.args.reset.now) (range_with_len 0 c.in_ok-size.size)
    = subst (λ r. OnOk r (c.put_register.new.out.items
    ≡ c.args.written.now.body.items ++ map (reg_part c.args.line c.args.written.now.next scope (shape_of c.args.ty.now) c.args.reset.now) (range_with_len 0 c.in_ok-size.size)))
    c.in_ok-put_register.was (c.put_register.ensures scope (shape_of c.args.ty.now) c.args.reset.now reset) in
    record {
      body =
          put
          ∙ ap (λ (n : ℕ). c.args.written.now.body.items ++ map (reg_part c.args.line c.args.written.now.next scope (shape_of c.args.ty.now) c.args.reset.now) (range_with_len 0 n)) sized;
      next = c.in_ok-written.ensures ∙ ap (λ n. c.args.written.now.next + n) sized;
      names = names;
      kept = kept_more c.args.known.now c.push.new.self _ c.in_ok-push.ensures;
    }
