-- A type by its form, and induction over types.
use Rattle.std.proofs.Common.{ℕ, Option, List, [], ◌∷◌, ◌≡◌, ◌∙◌, map, sym, ap, subst}
use Rattle.fir_ast.specs.declared.tree.Ty.{Ty}
use Rattle.fir_ast.specs.declared.tree.Ty.TheVariants as ty
use Rattle.fir_ast.specs.declared.tree.Ty.TheVariants.{rolls-UInt, rolls-SInt, rolls-Clock, rolls-Reset, rolls-Bundle, rolls-Vector}
use Rattle.fir_ast.specs.declared.tree.Ty.TheOpen.{Ty-F, Field-F, UInt, SInt, Clock, Reset, Bundle, Vector}
use Rattle.fir_ast.specs.declared.tree.Ty.TheViews.{out-Ty, roll-Ty, roll-out-Ty, roll-Field, out-roll-Field}
use Rattle.fir_ast.specs.declared.tree.Ty.TheFolds.{ind-Ty, map-Ty, map-Field}
use Rattle.fir_ast.specs.declared.tree.Field.{Field}
use Rattle.fir_check.specs.Fields.{field_type}

-- the form of a type is known

pub rolled : (t : Ty) (x : Ty-F Ty Field) → out-Ty t ≡ x → t ≡ roll-Ty x
rolled t x e = sym (roll-out-Ty t) ∙ ap roll-Ty e

pub bundle_is : (t : Ty) (fs : List Field) → out-Ty t ≡ Bundle fs → t ≡ ty.Bundle fs
bundle_is t fs e = rolled t (Bundle fs) e ∙ rolls-Bundle fs

pub vector_is : (t : Ty) (of : Ty) (n : ℕ) → out-Ty t ≡ Vector of n → t ≡ ty.Vector of n
vector_is t of n e = rolled t (Vector of n) e ∙ rolls-Vector of n

-- induction

-- of the type of each field
abbrev pub Each : (Ty → Type 0) → List Field → Type 0
Each P [] = Unit {0}
Each P (f ∷ fs) = P (field_type f) × Each P fs

module _ (P : Ty → Type 0) where
  pub record ByForm : Type 0 where
    pub uint : (w : Option ℕ) → P (ty.UInt w)
    pub sint : (w : Option ℕ) → P (ty.SInt w)
    pub clock : P ty.Clock
    pub reset : P ty.Reset
    pub bundle : (fs : List Field) → Each P fs → P (ty.Bundle fs)
    pub vector : (of : Ty) (n : ℕ) → P of → P (ty.Vector of n)

  abbrev PF : Field → Type 0
  PF f = P (field_type f)

  abbrev WithTy : Type 0
  WithTy = (t : Ty) × P t

  abbrev WithField : Type 0
  WithField = (f : Field) × PF f

  each : (fs : List WithField) → Each P (map (λ e. e.0) fs)
  each [] = tt
  each (f ∷ fs) = (f.1, each fs)

  level : ByForm → (y : Ty-F WithTy WithField) → P (roll-Ty (map-Ty WithTy WithField Ty Field (λ e. e.0) (λ e. e.0) y))
  level b (UInt w) = subst P (sym (rolls-UInt w)) (b.uint w)
  level b (SInt w) = subst P (sym (rolls-SInt w)) (b.sint w)
  level b Clock = subst P (sym rolls-Clock) b.clock
  level b Reset = subst P (sym rolls-Reset) b.reset
  level b (Bundle fs) = subst P (sym (rolls-Bundle (map (λ e. e.0) fs))) (b.bundle (map (λ e. e.0) fs) (each fs))
  level b (Vector of n) = subst P (sym (rolls-Vector of.0 n)) (b.vector of.0 n of.1)

  field_level_is : (y : Field-F WithTy WithField) → PF (roll-Field (map-Field WithTy WithField Ty Field (λ e. e.0) (λ e. e.0) y))
  field_level_is y =
      subst (λ (z : Field-F Ty Field). P z.ty) (sym (out-roll-Field (map-Field WithTy WithField Ty Field (λ e. e.0) (λ e. e.0) y))) y.ty.1

  pub by_form : ByForm → (t : Ty) → P t
  by_form b = ind-Ty P PF
      (λ x y is. subst (λ z. P (roll-Ty z)) is (level b y))
      (λ x y is. subst (λ z. PF (roll-Field z)) is (field_level_is y))
