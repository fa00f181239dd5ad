-- Types, and what expressions weigh, don't depend on the numbers of signals.
use Rattle.std.proofs.Common.{ℕ, ◌≡◌, ◌+◌, ◌∙◌, Bool, true, false, if◌then◌else◌, List, [], ◌∷◌, ◌++◌, map, refl, sym, ap, bytes_eq}
use Rattle.std.proofs.Math.Path.{fun_ext}
use Rattle.std.proofs.lemmas.List.{map-append}
use Rattle.fir_ast.specs.declared.tree.Expr.{Expr}
use Rattle.fir_ast.specs.declared.tree.Expr.TheFolds.{fold-Expr}
use Rattle.fir_ast.specs.declared.tree.Expr.TheOpen.{Expr-F, Ident, Part, At, Index, Lit, Apply}
use Rattle.fir_ast.specs.declared.tree.Port.{Port}
use Rattle.fir_flat.specs.Shapes.{shape_of, size}
use Rattle.fir_flat.specs.Values.{Bound, bound, bound_named, value}
use Rattle.fir_flat.specs.Measures.{Measure, level_measure, measure}
use Rattle.fir_flat.specs.Modules.{ports_known, unplaced}
use Rattle.fir_flat.proofs.Agreed.{agrees}

abbrev pub unnumbered : Bound → Bound
unnumbered b = bound b.name b.ty b.flow 0

if_unnumbered : (t : Bool) (b x y : Bound) → x ≡ unnumbered y → (if t then unnumbered b else x) ≡ unnumbered (if t then b else y)
if_unnumbered true b x y e = refl
if_unnumbered false b x y e = e

named-unnumbered : (name : List ℕ) (known : List Bound) → bound_named name (map unnumbered known) ≡ unnumbered (bound_named name known)
named-unnumbered name [] = refl
named-unnumbered name (b ∷ known) =
    if_unnumbered (bytes_eq b.name name) b (bound_named name (map unnumbered known)) (bound_named name known) (named-unnumbered name known)

abbrev name_measure : Bound → Measure
name_measure b = record { ty = b.ty; flow = b.flow; nodes = 1; times = 1; round = 0 }

level-unnumbered : (known : List Bound) (x : Expr-F Measure) → level_measure (map unnumbered known) x ≡ level_measure known x
level-unnumbered known (Ident name) = ap name_measure (named-unnumbered name known)
level-unnumbered known (Part e name) = refl
level-unnumbered known (At e n) = refl
level-unnumbered known (Index e index) = refl
level-unnumbered known (Lit signed width negative n) = refl
level-unnumbered known (Apply op args nums) = refl

measure-unnumbered : (known : List Bound) (e : Expr) → measure (map unnumbered known) e ≡ measure known e
measure-unnumbered known e = ap (λ (f : Expr-F Measure → Measure). fold-Expr Measure f e) (fun_ext (level-unnumbered known))

-- the same names with the same types; their signals may have other numbers
abbrev pub Alike : List Bound → List Bound → Type 0
Alike k l = map unnumbered k ≡ map unnumbered l

pub measure-alike : (k l : List Bound) → Alike k l → (e : Expr) → measure k e ≡ measure l e
measure-alike k l a e = sym (measure-unnumbered k e) ∙ ap (λ x. measure x e) a ∙ measure-unnumbered l e

pub type-alike : (k l : List Bound) → Alike k l → (e : Expr) → (value k e).ty ≡ (value l e).ty
type-alike k l a e = agrees k e ∙ ap (λ (m : Measure). m.ty) (measure-alike k l a e) ∙ sym (agrees l e)

pub more-alike : (k l : List Bound) (b c : Bound) → Alike k l → unnumbered b ≡ unnumbered c → Alike (k ++ b ∷ []) (l ++ c ∷ [])
more-alike k l b c a e =
    map-append unnumbered k (b ∷ []) ∙ ap (λ x. x ++ unnumbered b ∷ []) a ∙ ap (λ x. map unnumbered l ++ x ∷ []) e
    ∙ sym (map-append unnumbered l (c ∷ []))

pub ports-alike : (first : ℕ) (ports : List Port) → Alike (ports_known first ports) (map unplaced ports)
ports-alike first [] = refl
ports-alike first (p ∷ ps) = ap (λ x. unnumbered (unplaced p) ∷ x) (ports-alike (first + size (shape_of p.ty)) ps)
