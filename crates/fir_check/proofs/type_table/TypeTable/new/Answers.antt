use Rattle.std.proofs.Common.{◌≡◌, ◌∙◌, ◌<◌, ◌++◌, ◌∷◌, [], All, List, ℕ, map, length, sym, ap, subst}
use Rattle.fir_check.specs.declared.type_table.TypeRow.{TypeRow}
use Rattle.fir_check.specs.Seen.{type_at}
use Rattle.fir_check.specs.TypeRows.{parts_of}
use Rattle.fir_check.proofs.TypeRows.{two_rows}
use Rattle.fir_check.proofs.type_table.TypeTable.new.Goals as goal

pub invariant_of-result : goal.invariant_of-result
invariant_of-result c =
    two_rows c.push-2.new.self.items c.row_of-first.result c.row_of-second.result c.of.result.now c.of-2.result.now
    (c.in_ok-push-2.ensures.items ∙ ap (λ (x : List TypeRow). x ++ c.row_of-second.result ∷ []) (c.in_ok-push.ensures.items ∙ ap (λ (x : List TypeRow). x ++ c.row_of-first.result ∷ []) c.new-rows.ensures.items))
    c.row_of-first.ensures.ty c.row_of-second.ensures.ty c.of.ensures c.of-2.ensures
    (λ types low parts h l.
    c.row_of-first.ensures.right types (subst (λ (xs : List ℕ). All (λ n. n < length types) xs) (sym c.new.ensures.items) low)
    (subst (λ (xs : List ℕ). map (type_at types) xs ≡ parts_of c.of.result.now) (sym c.new.ensures.items) parts) h l)
    (λ types low parts h l.
    c.row_of-second.ensures.right types (subst (λ (xs : List ℕ). All (λ n. n < length types) xs) (sym c.new-2.ensures.items) low)
    (subst (λ (xs : List ℕ). map (type_at types) xs ≡ parts_of c.of-2.result.now) (sym c.new-2.ensures.items) parts) h l)
