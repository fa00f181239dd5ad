use Rattle.std.proofs.Common.{ℕ, List, ◌≡◌, ◌∙◌, ◌+◌, ◌++◌, ◌∷◌, [], ap, ap₂, subst, IfOk, false}
use Rattle.std.proofs.lemmas.List.{map-append}
use Rattle.fir_flat.specs.declared.kinds.Flow.TheVariants.{Source}
use Rattle.fir_flat.specs.Shapes.{Shape, ports_shape}
use Rattle.fir_flat.specs.Values.{bound}
use Rattle.fir_flat.specs.Modules.{place_of, module_at, signals_in}
use Rattle.fir_flat.specs.Elaboration.{opened}
use Rattle.fir_flat.specs.Counts.{cut}
use Rattle.fir_flat.specs.Kinds.{kind_shape, seen}
use Rattle.fir_flat.specs.Signals.{seen_entry, seen_entries}
use Rattle.fir_flat.proofs.WritingFacts.{names_more, kept_more}
use Rattle.fir_flat.proofs.listing.list_instance.Goals as goal

pub returns : goal.returns
returns c =
    let place : c.place_of-place.result ≡ place_of c.args.modules.now c.args.target.now = c.place_of-place.ensures in
    let kind : kind_shape c.instance_at-kind.result ≡ ports_shape (module_at c.args.modules.now (place_of c.args.modules.now c.args.target.now)).ports
    = c.instance_at-kind.ensures ∙ ap (λ p. ports_shape (module_at c.args.modules.now p).ports) place in
    let counted : c.count_at.result ≡ cut (signals_in c.args.modules.now (place_of c.args.modules.now c.args.target.now))
    = c.count_at.ensures ∙ c.requires.each c.place_of-place.result ∙ ap (λ p. cut (signals_in c.args.modules.now p)) place in
    let count : c.in_ok-count.count ≡ signals_in c.args.modules.now (place_of c.args.modules.now c.args.target.now)
    = subst (λ r. IfOk r (λ n. n ≡ signals_in c.args.modules.now (place_of c.args.modules.now c.args.target.now))) c.in_ok-count.was
    (c.exact.ensures (signals_in c.args.modules.now (place_of c.args.modules.now c.args.target.now)) counted) in
    record {
      entries =
          ap seen_entries c.in_ok-push.ensures.items ∙ map-append seen_entry c.args.listed.now.entries.items (_ ∷ [])
          ∙ ap₂ (λ (p : ℕ) (x : List ℕ). seen_entries c.args.listed.now.entries.items ++ opened (record { target = p; first = c.args.listed.now.next; prefix = x; top = false }) ∷ [])
          place c.in_ok-inner.ensures;
      next = c.in_ok-listed.ensures ∙ ap (λ n. c.args.listed.now.next + n) count;
      names =
          names_more c.args.known.now c.push-2.new.self _ c.in_ok-push-2.ensures
          ∙ ap (λ (t : Shape). seen c.args.known.now ++ bound c.args.name.now t Source c.args.listed.now.next ∷ []) kind;
      kept = kept_more c.args.known.now c.push-2.new.self _ c.in_ok-push-2.ensures;
    }
