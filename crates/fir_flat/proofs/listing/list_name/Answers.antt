use Rattle.std.proofs.Common.{ℕ, List, ◌≡◌, ◌∙◌, ◌+◌, ◌++◌, ap, subst, IfOk, false}
use Rattle.fir_flat.specs.Shapes.{size}
use Rattle.fir_flat.specs.Kinds.{kind_shape}
use Rattle.fir_flat.specs.Signals.{signals_of, seen_entries}
use Rattle.fir_flat.proofs.WritingFacts.{names_more, kept_more}
use Rattle.fir_flat.proofs.listing.list_name.Goals as goal

pub returns : goal.returns
returns c =
    let sized : c.in_ok-size.size ≡ size (kind_shape c.args.kind)
    = subst (λ r. IfOk r (λ n. n ≡ size (kind_shape c.args.kind))) c.in_ok-size.was (c.exact.ensures (size (kind_shape c.args.kind)) c.size.ensures) in
    record {
      entries =
          c.in_ok-put_kind_signals.ensures
          ∙ ap (λ (n : List ℕ). seen_entries c.args.listed.now.entries.items ++ signals_of c.args.declared n false (kind_shape c.args.kind))
          (c.deref.ensures.value ∙ c.in_ok-full.ensures);
      next = c.in_ok-listed.ensures ∙ ap (λ n. c.args.listed.now.next + n) sized;
      names = names_more c.args.known.now c.push.new.self _ c.in_ok-push.ensures;
      kept = kept_more c.args.known.now c.push.new.self _ c.in_ok-push.ensures;
    }
