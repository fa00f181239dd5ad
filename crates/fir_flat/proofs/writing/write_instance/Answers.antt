use Rattle.std.proofs.Common.{List, Bool, ◌≡◌, ◌∙◌, ◌+◌, ◌++◌, ◌∷◌, [], ap, subst, IfOk}
use Rattle.fir_ast.specs.declared.tree.Port.{Port}
use Rattle.fir_flat.specs.declared.kinds.Flow.TheVariants.{Source}
use Rattle.fir_flat.specs.Shapes.{Shape, ports_shape}
use Rattle.fir_flat.specs.Values.{bound}
use Rattle.fir_flat.specs.Modules.{place_of, module_at, signals_in}
use Rattle.fir_flat.specs.Elaboration.{declare_ports, port_leaves}
use Rattle.fir_flat.specs.Counts.{cut}
use Rattle.fir_flat.specs.Kinds.{kind_shape, seen}
use Rattle.fir_flat.proofs.WritingFacts.{takes_inputs, names_more, kept_more}
use Rattle.fir_flat.proofs.writing.write_instance.Goals as goal

pub returns : goal.returns
returns c =
    let place : c.place_of-place.result ≡ place_of c.args.modules.now c.args.target.now = c.place_of-place.ensures in
    let ports : c.ports_at-ports.result.now ≡ (module_at c.args.modules.now (place_of c.args.modules.now c.args.target.now)).ports
    = c.ports_at-ports.ensures ∙ ap (λ p. (module_at c.args.modules.now p).ports) place in
    let kind : kind_shape c.instance_at.result ≡ ports_shape (module_at c.args.modules.now (place_of c.args.modules.now c.args.target.now)).ports
    = c.instance_at.ensures ∙ ap (λ p. ports_shape (module_at c.args.modules.now p).ports) place in
    let counted : c.count_at.result ≡ cut (signals_in c.args.modules.now (place_of c.args.modules.now c.args.target.now))
    = c.count_at.ensures ∙ c.requires.each c.place_of-place.result ∙ ap (λ p. cut (signals_in c.args.modules.now p)) place in
    let count : c.in_ok-count.count ≡ signals_in c.args.modules.now (place_of c.args.modules.now c.args.target.now)
    = subst (λ r. IfOk r (λ n. n ≡ signals_in c.args.modules.now (place_of c.args.modules.now c.args.target.now))) c.in_ok-count.was
    (c.exact.ensures (signals_in c.args.modules.now (place_of c.args.modules.now c.args.target.now)) counted) in
    record {
      body =
          c.in_ok-put_ports.ensures
          ∙ ap (λ (test : Bool → Bool). c.args.written.now.body.items ++ declare_ports test c.args.written.now.next (port_leaves c.ports_at-ports.result.now)) takes_inputs
          ∙ ap (λ (ps : List Port). c.args.written.now.body.items ++ declare_ports (λ input. input) c.args.written.now.next (port_leaves ps)) ports;
      next = c.in_ok-written.ensures ∙ ap (λ n. c.args.written.now.next + n) count;
      names =
          names_more c.args.known.now c.push.new.self _ c.in_ok-push.ensures
          ∙ ap (λ (t : Shape). seen c.args.known.now ++ bound c.args.name.now t Source c.args.written.now.next ∷ []) kind;
      kept = kept_more c.args.known.now c.push.new.self _ c.in_ok-push.ensures;
    }
