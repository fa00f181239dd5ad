-- What a fold is at each variant of a type and of an expression.
use Rattle.std.proofs.Common.{◌≡◌, ℕ, Bool, List, sym, ap, ◌∙◌, map}
use Rattle.std.specs.Prelude.{Option}
use Rattle.tb_base.specs.declared.op.Op.{Op}
use Rattle.fir_ast.specs.declared.tree.Ty.{Ty}
use Rattle.fir_ast.specs.declared.tree.Ty.TheFolds.{fold-Ty, fold-Field, fold-roll-Ty, fold-roll-Field}
use Rattle.fir_ast.specs.declared.tree.Ty.TheViews.{roll-Field}
use Rattle.fir_ast.specs.declared.tree.Ty.TheOpen as F
use Rattle.fir_ast.specs.declared.tree.Ty.TheOpen.{Ty-F, Field-F}
use Rattle.fir_ast.specs.declared.tree.Ty.TheVariants as t
use Rattle.fir_ast.specs.declared.tree.Ty.TheVariants.{rolls-UInt, rolls-SInt, rolls-Clock, rolls-Reset, rolls-Bundle, rolls-Vector}
use Rattle.fir_ast.specs.declared.tree.Field.{Field}
use Rattle.fir_ast.specs.declared.tree.Expr.{Expr}
use Rattle.fir_ast.specs.declared.tree.Expr.TheFolds.{fold-Expr, fold-roll-Expr}
use Rattle.fir_ast.specs.declared.tree.Expr.TheOpen as E
use Rattle.fir_ast.specs.declared.tree.Expr.TheOpen.{Expr-F}
use Rattle.fir_ast.specs.declared.tree.Expr.TheVariants as e
use Rattle.fir_ast.specs.declared.tree.Expr.TheVariants.{rolls-Ident, rolls-Part, rolls-At, rolls-Index, rolls-Lit, rolls-Apply}

module _ (A B : Type 0) (f : Ty-F A B → A) (g : Field-F A B → B) where
  pub of_uint : (w : Option ℕ) → fold-Ty A B f g (t.UInt w) ≡ f (F.UInt w)
  of_uint w = ap (fold-Ty A B f g) (sym (rolls-UInt w)) ∙ fold-roll-Ty A B f g (F.UInt w)

  pub of_sint : (w : Option ℕ) → fold-Ty A B f g (t.SInt w) ≡ f (F.SInt w)
  of_sint w = ap (fold-Ty A B f g) (sym (rolls-SInt w)) ∙ fold-roll-Ty A B f g (F.SInt w)

  pub of_clock : fold-Ty A B f g t.Clock ≡ f F.Clock
  of_clock = ap (fold-Ty A B f g) (sym rolls-Clock) ∙ fold-roll-Ty A B f g F.Clock

  pub of_reset : fold-Ty A B f g t.Reset ≡ f F.Reset
  of_reset = ap (fold-Ty A B f g) (sym rolls-Reset) ∙ fold-roll-Ty A B f g F.Reset

  pub of_bundle : (fields : List Field) → fold-Ty A B f g (t.Bundle fields) ≡ f (F.Bundle (map (fold-Field A B f g) fields))
  of_bundle fields = ap (fold-Ty A B f g) (sym (rolls-Bundle fields)) ∙ fold-roll-Ty A B f g (F.Bundle fields)

  pub of_vector : (of : Ty) (n : ℕ) → fold-Ty A B f g (t.Vector of n) ≡ f (F.Vector (fold-Ty A B f g of) n)
  of_vector of n = ap (fold-Ty A B f g) (sym (rolls-Vector of n)) ∙ fold-roll-Ty A B f g (F.Vector of n)

  pub of_field : (flip : Bool) (name : List ℕ) (ty : Ty)
      → fold-Field A B f g (roll-Field (record { flip = flip; name = name; ty = ty })) ≡ g (record { flip = flip; name = name; ty = fold-Ty A B f g ty })
  of_field flip name ty = fold-roll-Field A B f g (record { flip = flip; name = name; ty = ty })

module _ (A : Type 0) (f : Expr-F A → A) where
  pub of_ident : (name : List ℕ) → fold-Expr A f (e.Ident name) ≡ f (E.Ident name)
  of_ident name = ap (fold-Expr A f) (sym (rolls-Ident name)) ∙ fold-roll-Expr A f (E.Ident name)

  pub of_part : (x : Expr) (name : List ℕ) → fold-Expr A f (e.Part x name) ≡ f (E.Part (fold-Expr A f x) name)
  of_part x name = ap (fold-Expr A f) (sym (rolls-Part x name)) ∙ fold-roll-Expr A f (E.Part x name)

  pub of_at : (x : Expr) (n : ℕ) → fold-Expr A f (e.At x n) ≡ f (E.At (fold-Expr A f x) n)
  of_at x n = ap (fold-Expr A f) (sym (rolls-At x n)) ∙ fold-roll-Expr A f (E.At x n)

  pub of_index : (x i : Expr) → fold-Expr A f (e.Index x i) ≡ f (E.Index (fold-Expr A f x) (fold-Expr A f i))
  of_index x i = ap (fold-Expr A f) (sym (rolls-Index x i)) ∙ fold-roll-Expr A f (E.Index x i)

  pub of_lit : (signed : Bool) (w : Option ℕ) (negative : Bool) (n : ℕ) → fold-Expr A f (e.Lit signed w negative n) ≡ f (E.Lit signed w negative n)
  of_lit signed w negative n = ap (fold-Expr A f) (sym (rolls-Lit signed w negative n)) ∙ fold-roll-Expr A f (E.Lit signed w negative n)

  pub of_apply : (op : Op) (args : List Expr) (nums : List ℕ) → fold-Expr A f (e.Apply op args nums) ≡ f (E.Apply op (map (fold-Expr A f) args) nums)
  of_apply op args nums = ap (fold-Expr A f) (sym (rolls-Apply op args nums)) ∙ fold-roll-Expr A f (E.Apply op args nums)
