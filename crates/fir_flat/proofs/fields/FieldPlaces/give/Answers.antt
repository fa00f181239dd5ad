use Rattle.std.proofs.Common.{◌≡◌, ◌∙◌, ◌&&◌, ap, sym, true, Some, if◌then◌else◌}
use Rattle.std.specs.Prelude.{bytes_eq}
use Rattle.fir_flat.specs.Fields.{field_given}
use Rattle.fir_flat.proofs.ScopeFacts.{at_ok}
use Rattle.fir_flat.proofs.fields.FieldPlaces.give.Goals as goal

pub returns-clause-ok : goal.returns-clause-ok
returns-clause-ok c =
    let u = at_ok _ _ (sym c.is_err.ensures.value ∙ c.if-is_err.false) c.insert.ensures.updates in
    let g : c.args.given ≡ true = cc in
    record {
      each = λ q.
          u.0 (record { ref_ptr = (0, 0); now = q })
          ∙ ap (λ b. if b && bytes_eq c.args.name.now q then Some c.args.spot else field_given q c.args.self.now) (sym g);
    }
