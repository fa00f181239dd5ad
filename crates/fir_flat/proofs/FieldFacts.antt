-- The fields of a bundle and the ports of a module, one behind the other.
use Rattle.std.proofs.Common.{ℕ, not, ◌≡◌, ◌+◌, ◌<◌, ◌≤◌, ◌∙◌, List, length, drop, get_or, ap, sym, arith}
use Rattle.std.proofs.lemmas.List.{drop_all}
use Rattle.fir_ast.specs.declared.tree.Ty.TheViews.{out-Field}
use Rattle.fir_ast.specs.declared.tree.Field.{Field}
use Rattle.fir_ast.specs.declared.tree.Port.{Port}
use Rattle.fir_flat.specs.Shapes.{Shape, field, shape_of, field_shape, fields_shape, ports_shape}
use Rattle.fir_flat.proofs.Rolled.{field-parts}
use Rattle.fir_flat.proofs.PartFacts.{next_dropped}

pub fields_at : (fs : List Field) (i : ℕ) (f : Field) → i < length fs → f ≡ get_or fs i f
    → fields_shape (drop i fs) ≡ field (out-Field f).flip (out-Field f).name (shape_of (out-Field f).ty) (fields_shape (drop (i + 1) fs))
fields_at fs i f h is = ap fields_shape (next_dropped fs i f h is) ∙ field-parts f (fields_shape (drop (i + 1) fs))

pub ports_at : (ps : List Port) (i : ℕ) (p : Port) → i < length ps → p ≡ get_or ps i p
    → ports_shape (drop i ps) ≡ field (not p.output) p.name (shape_of p.ty) (ports_shape (drop (i + 1) ps))
ports_at ps i p h is = ap ports_shape (next_dropped ps i p h is)

-- bundles that are written alike

pub same_parts : (f o : Field) (rest : Shape) → (out-Field f).flip ≡ (out-Field o).flip → (out-Field f).name ≡ (out-Field o).name
    → shape_of (out-Field f).ty ≡ shape_of (out-Field o).ty → field_shape f rest ≡ field_shape o rest
same_parts f o rest p q r =
    field-parts f rest ∙ ap (λ b. field b (out-Field f).name (shape_of (out-Field f).ty) rest) p
    ∙ ap (λ n. field (out-Field o).flip n (shape_of (out-Field f).ty) rest) q ∙ ap (λ t. field (out-Field o).flip (out-Field o).name t rest) r
    ∙ sym (field-parts o rest)

pub same_more : (fs os : List Field) (k : ℕ) (f o : Field) (P : Type 0) → k < length fs → length fs ≡ length os → f ≡ get_or fs k f → o ≡ get_or os k o
    → ((rest : Shape) → field_shape f rest ≡ field_shape o rest) → (fields_shape (drop k fs) ≡ fields_shape (drop k os) → P)
    → fields_shape (drop (k + 1) fs) ≡ fields_shape (drop (k + 1) os) → P
same_more fs os k f o P h l is js e g t =
    let i : k < length os = omega (arith, h, l) in
    g (ap fields_shape (next_dropped fs k f h is) ∙ e (fields_shape (drop (k + 1) fs)) ∙ ap (field_shape o) t ∙ sym (ap fields_shape (next_dropped os k o i js)))

pub same_end : (fs os : List Field) (k : ℕ) (P : Type 0) → length fs ≤ k → length fs ≡ length os → (fields_shape (drop k fs) ≡ fields_shape (drop k os) → P) → P
same_end fs os k P h l g =
    let i : length os ≤ k = omega (arith, h, l) in
    g (ap fields_shape (drop_all k fs h) ∙ sym (ap fields_shape (drop_all k os i)))
