-- The pieces of a type have its printed form as their text.
use Rattle.std.proofs.Common.{◌≡◌, ℕ, Bool, true, false, List, [], ◌∷◌, ◌++◌, refl, sym, ap, ◌∙◌, map, subst}
use Rattle.std.specs.Prelude.{codes}
use Rattle.std.specs.Fmt.{decimal}
use Rattle.text_grammar.specs.declared.item.Symbol.TheVariants as s
use Rattle.fir_ast.specs.declared.tree.Ty.{Ty}
use Rattle.fir_ast.specs.declared.tree.Field.{Field}
use Rattle.fir_ast.specs.declared.tree.Ty.TheOpen.{Ty-F, Field-F, UInt, SInt, Clock, Reset, Bundle, Vector}
use Rattle.fir_ast.specs.declared.tree.Ty.TheViews.{roll-Ty, roll-Field}
use Rattle.fir_ast.specs.declared.tree.Ty.TheFolds.{fold-roll-Ty, fold-roll-Field, ind-Ty, map-Ty, map-Field}
use Rattle.fir_ast.specs.Printed as printed
use Rattle.fir_print_laws.specs.Atoms as atoms
use Rattle.fir_print_laws.specs.Atoms.{Atom, text, atom_text, word, number, mark, space, colon, listed, type_atoms, field_atoms, bundle_atoms, flip_atoms}
use Rattle.fir_print_laws.proofs.Texts.{then, listed_text, width_is}

abbrev IsTypeText : Ty → Type 0
IsTypeText t = printed.type_text t ≡ text (type_atoms t)

abbrev IsFieldText : Field → Type 0
IsFieldText f = printed.field_text f ≡ text (field_atoms f)

abbrev WithTy : Type 0
WithTy = (t : Ty) × IsTypeText t

abbrev WithField : Type 0
WithField = (f : Field) × IsFieldText f

all_fields : (fs : List WithField) → map printed.field_text (map (λ e. e.0) fs) ≡ map text (map field_atoms (map (λ e. e.0) fs))
all_fields [] = refl
all_fields (f ∷ fs) = ap (λ t. t ∷ map printed.field_text (map (λ d. d.0) fs)) f.1 ∙ ap (λ z. text (field_atoms f.0) ∷ z) (all_fields fs)

bundle_is : (fs : List (List Atom)) → printed.bundle_text (map text fs) ≡ text (bundle_atoms fs)
bundle_is [] = refl
bundle_is (f ∷ fs) = ap (λ t. codes "{ " ++ t) (then (listed (f ∷ fs)) (space ∷ mark s.CloseBrace ∷ []) _ (codes " }") (listed_text (f ∷ fs)) refl)

flip_is : (b : Bool) → printed.flip_text b ≡ text (flip_atoms b)
flip_is true = refl
flip_is false = refl

type_level_is : (x : Ty-F WithTy WithField) → printed.type_level (map-Ty Ty Field (List ℕ) (List ℕ) printed.type_text printed.field_text (map-Ty WithTy WithField Ty Field (λ e. e.0) (λ e. e.0) x))
    ≡ text (atoms.type_level (map-Ty Ty Field (List Atom) (List Atom) type_atoms field_atoms (map-Ty WithTy WithField Ty Field (λ e. e.0) (λ e. e.0) x)))
type_level_is (UInt w) = ap (λ t. codes "UInt" ++ t) (width_is w)
type_level_is (SInt w) = ap (λ t. codes "SInt" ++ t) (width_is w)
type_level_is Clock = refl
type_level_is Reset = refl
type_level_is (Bundle fields) = ap printed.bundle_text (all_fields fields) ∙ bundle_is (map field_atoms (map (λ e. e.0) fields))
type_level_is (Vector of n) = then (type_atoms of.0) (mark s.OpenBracket ∷ number n ∷ mark s.CloseBracket ∷ []) _ (codes "[" ++ (decimal n ++ codes "]")) of.1 refl

field_level_is : (x : Field-F WithTy WithField) → printed.field_level (map-Field Ty Field (List ℕ) (List ℕ) printed.type_text printed.field_text (map-Field WithTy WithField Ty Field (λ e. e.0) (λ e. e.0) x))
    ≡ text (atoms.field_level (map-Field Ty Field (List Atom) (List Atom) type_atoms field_atoms (map-Field WithTy WithField Ty Field (λ e. e.0) (λ e. e.0) x)))
field_level_is f = then (flip_atoms f.flip) (word f.name ∷ (colon ++ type_atoms f.ty.0)) _ _ (flip_is f.flip) (ap (λ t. f.name ++ (codes " : " ++ t)) f.ty.1)

pub type_is : (t : Ty) → printed.type_text t ≡ text (type_atoms t)
type_is = ind-Ty IsTypeText IsFieldText
    (λ x y is. subst (λ z. IsTypeText (roll-Ty z)) is (fold-roll-Ty (List ℕ) (List ℕ) printed.type_level printed.field_level (map-Ty WithTy WithField Ty Field (λ e. e.0) (λ e. e.0) y) ∙ type_level_is y
    ∙ ap text (sym (fold-roll-Ty (List Atom) (List Atom) atoms.type_level atoms.field_level (map-Ty WithTy WithField Ty Field (λ e. e.0) (λ e. e.0) y)))))
    (λ x y is. subst (λ z. IsFieldText (roll-Field z)) is (fold-roll-Field (List ℕ) (List ℕ) printed.type_level printed.field_level (map-Field WithTy WithField Ty Field (λ e. e.0) (λ e. e.0) y) ∙ field_level_is y
    ∙ ap text (sym (fold-roll-Field (List Atom) (List Atom) atoms.type_level atoms.field_level (map-Field WithTy WithField Ty Field (λ e. e.0) (λ e. e.0) y)))))
