-- Ground expressions that are made as they must be, a variant at a time.
use Rattle.std.proofs.Common.{◌≡◌, ◌∙◌, sym, ap, ap₂, subst, ℕ, zero, suc, ◌+◌, ◌<◌, ◌==◌, Bool, true, false, not, ◌&&◌, ◌||◌, List, [], ◌∷◌, Option, refl, length, arith, map, slice_index_or, if◌then◌else◌, ⊎_elim}
use Rattle.std.specs.List.{list_all, range_with_len}
use Rattle.std.proofs.lemmas.Bool.{or_cases, eqb-true}
use Rattle.std.proofs.Math.Dec.{eqb-suc-zero}
use Rattle.tb_base.specs.declared.op.Op.{Op}
use Rattle.tb_base.specs.Row.{operand_count, number_count, signs_fit, row_signed, leading}
use Rattle.net_core.specs.declared.ports.Signal.{Signal}
use Rattle.net_core.specs.declared.tree.SignalInfo.{SignalInfo}
use Rattle.net_core.specs.declared.tree.GroundExpr.{GroundExpr}
use Rattle.net_core.specs.declared.tree.GroundExpr.TheVariants as to
use Rattle.net_core.specs.Signals.{info}
use Rattle.net_core.specs.Shapes.{Shape, shape, shape_at, level_shape}
use Rattle.net_core.specs.Values.{mentions, level_mentions, any}
use Rattle.net_core.specs.Formed.{Made, made, level_made, width_fits, one_sign}
use Rattle.net_core.proofs.Trees.{at_read, at_lit, at_apply, at_select, at_index_is}
use Rattle.fir_formed.proofs.Fair.{Fit}

-- operands

-- each is fit, of its sign
abbrev pub FitAll : List SignalInfo → List Bool → List GroundExpr → Type 0
FitAll S [] [] = Unit {0}
FitAll S [] (e ∷ es) = ⊥
FitAll S (b ∷ bs) [] = ⊥
FitAll S (b ∷ bs) (e ∷ es) = Fit S b e × FitAll S bs es

abbrev sign_of : List Bool → ℕ → Bool
sign_of bs k = slice_index_or bs k false

all_right : (S : List SignalInfo) (bs : List Bool) (es : List GroundExpr) → FitAll S bs es → list_all (λ (m : Made). m.right) (map (made S) es) ≡ true
all_right S [] [] f = refl
all_right S [] (e ∷ es) f = absurd f
all_right S (b ∷ bs) [] f = absurd f
all_right S (b ∷ bs) (e ∷ es) f = ap (λ x. x && list_all (λ (m : Made). m.right) (map (made S) es)) f.0.right ∙ all_right S bs es f.1

made_signs : (S : List SignalInfo) (bs : List Bool) (es : List GroundExpr) (k : ℕ) → FitAll S bs es → (shape_at (map (λ (m : Made). m.shape) (map (made S) es)) k).signed ≡ sign_of bs k
made_signs S [] [] zero f = refl
made_signs S [] [] (suc k) f = refl
made_signs S [] (e ∷ es) k f = absurd f
made_signs S (b ∷ bs) [] k f = absurd f
made_signs S (b ∷ bs) (e ∷ es) zero f = f.0.made_sign
made_signs S (b ∷ bs) (e ∷ es) (suc k) f = made_signs S bs es k f.1

shape_signs : (S : List SignalInfo) (bs : List Bool) (es : List GroundExpr) (k : ℕ) → FitAll S bs es → (shape_at (map (shape S []) es) k).signed ≡ sign_of bs k
shape_signs S [] [] zero f = refl
shape_signs S [] [] (suc k) f = refl
shape_signs S [] (e ∷ es) k f = absurd f
shape_signs S (b ∷ bs) [] k f = absurd f
shape_signs S (b ∷ bs) (e ∷ es) zero f = f.0.sign
shape_signs S (b ∷ bs) (e ∷ es) (suc k) f = shape_signs S bs es k f.1

all_below : (S : List SignalInfo) (bs : List Bool) (es : List GroundExpr) (y : ℕ) → FitAll S bs es → any (map (λ e. mentions e y) es) ≡ true → y < length S
all_below S [] [] y f m = cc
all_below S [] (e ∷ es) y f m = absurd f
all_below S (b ∷ bs) [] y f m = absurd f
all_below S (b ∷ bs) (e ∷ es) y f m = ⊎_elim (λ h. f.0.below y h) (λ h. all_below S bs es y f.1 h) (or_cases (mentions e y) (any (map (λ e. mentions e y) es)) m)

lengths : {X Y Z : Type 0} (g : Y → Z) (f : X → Y) (xs : List X) → length (map g (map f xs)) ≡ length xs
lengths g f [] = refl
lengths g f (x ∷ xs) = ap suc (lengths g f xs)

-- three facts of signs, at once
abbrev fits_at : Op → Bool → Bool → Bool → Bool
fits_at op a b c = signs_fit op a b c

and_all : (a b c : Bool) → a ≡ true → b ≡ true → c ≡ true → (a && (b && c)) ≡ true
and_all a b c p q r = ap (λ x. x && (b && c)) p ∙ ap (λ x. x && c) q ∙ r

pub fit_apply : (S : List SignalInfo) (op : Op) (bs : List Bool) (args : List GroundExpr) (nums : List ℕ) → FitAll S bs args
    → (length args == operand_count op) ≡ true → (length nums == number_count op) ≡ true
    → signs_fit op (sign_of bs 0) (sign_of bs 1) (sign_of bs 2) ≡ true
    → Fit S (row_signed op (leading op (sign_of bs 0) (sign_of bs 1))) (to.Apply op args nums)
fit_apply S op bs args nums f a n s =
    let shapes : List Shape = map (λ (m : Made). m.shape) (map (made S) args) in
    let e0 : (shape_at shapes 0).signed ≡ sign_of bs 0 = made_signs S bs args 0 f in
    let e1 : (shape_at shapes 1).signed ≡ sign_of bs 1 = made_signs S bs args 1 f in
    let e2 : (shape_at shapes 2).signed ≡ sign_of bs 2 = made_signs S bs args 2 f in
    let g : signs_fit op (shape_at shapes 0).signed (shape_at shapes 1).signed (shape_at shapes 2).signed ≡ true =
    ap (λ x. signs_fit op x (shape_at shapes 1).signed (shape_at shapes 2).signed) e0
    ∙ ap (λ x. signs_fit op (sign_of bs 0) x (shape_at shapes 2).signed) e1
    ∙ ap (λ x. signs_fit op (sign_of bs 0) (sign_of bs 1) x) e2 ∙ s in
    record {
      right = ap (λ (m : Made). m.right) (at_apply (level_made S) op args nums)
          ∙ ap₂ (λ x y. x && y) (and_all (length shapes == operand_count op) (length nums == number_count op) _ (ap (λ k. k == operand_count op) (lengths (λ (m : Made). m.shape) (made S) args) ∙ a) n g) (all_right S bs args f);
      made_sign = ap (λ (m : Made). m.shape.signed) (at_apply (level_made S) op args nums) ∙ ap₂ (λ x y. row_signed op (leading op x y)) e0 e1;
      sign = ap (λ (m : Shape). m.signed) (at_apply (level_shape S []) op args nums) ∙ ap₂ (λ x y. row_signed op (leading op x y)) (shape_signs S bs args 0 f) (shape_signs S bs args 1 f);
      below = λ y m. all_below S bs args y f (sym (at_apply (level_mentions y) op args nums) ∙ m);
    }

-- a signal

pub fit_read : (S : List SignalInfo) (x : Signal) → x.0 < length S → Fit S (info S x.0).signed (to.Read x)
fit_read S x l = record {
  right = ap (λ (m : Made). m.right) (at_read (level_made S) x);
  made_sign = ap (λ (m : Made). m.shape.signed) (at_read (level_made S) x);
  sign = ap (λ (m : Shape). m.signed) (at_read (level_shape S []) x);
  below = λ y m. let e : y ≡ x.0 = eqb-true y x.0 (sym (at_read (level_mentions y) x) ∙ m) in subst (λ k. k < length S) (sym e) l;
}

-- a literal

pub fit_literal : (S : List SignalInfo) (signed : Bool) (width : Option ℕ) (negative : Bool) (n : ℕ) → width_fits width ≡ true → (signed || not negative) ≡ true
    → Fit S signed (to.Lit signed width negative n)
fit_literal S signed width negative n w s = record {
  right = ap (λ (m : Made). m.right) (at_lit (level_made S) signed width negative n) ∙ ap₂ (λ x y. (x && y) && true) w s;
  made_sign = ap (λ (m : Made). m.shape.signed) (at_lit (level_made S) signed width negative n);
  sign = ap (λ (m : Shape). m.signed) (at_lit (level_shape S []) signed width negative n);
  below = λ y m. let e : false ≡ true = sym (at_lit (level_mentions y) signed width negative n) ∙ m in cc;
}

-- a choice

-- each is fit, of one sign
abbrev pub FitEach : List SignalInfo → Bool → List GroundExpr → Type 0
FitEach S b [] = Unit {0}
FitEach S b (e ∷ es) = Fit S b e × FitEach S b es

each_all : (S : List SignalInfo) (b : Bool) (es : List GroundExpr) → FitEach S b es → FitAll S (map (λ e. b) es) es
each_all S b [] f = tt
each_all S b (e ∷ es) f = (f.0, each_all S b es f.1)

same_true : (b c : Bool) → c ≡ b → (if c then b else not b) ≡ true
same_true true c e = ap (λ x. if x then true else false) e
same_true false c e = ap (λ x. if x then false else true) e

each_one_sign : (S : List SignalInfo) (b : Bool) (es : List GroundExpr) → FitEach S b es → one_sign b (map (λ (m : Made). m.shape) (map (made S) es)) ≡ true
each_one_sign S b [] f = refl
each_one_sign S b (e ∷ es) f =
    ap₂ (λ x y. x && y) (same_true b (made S e).shape.signed f.0.made_sign) (each_one_sign S b es f.1)

pub fit_select : (S : List SignalInfo) (b : Bool) (index e : GroundExpr) (es : List GroundExpr) → Fit S false index → FitEach S b (e ∷ es) → Fit S b (to.Select index (e ∷ es))
fit_select S b index e es i f =
    let o : one_sign (made S e).shape.signed (map (λ (m : Made). m.shape) (map (made S) (e ∷ es))) ≡ true =
    ap (λ x. one_sign x (map (λ (m : Made). m.shape) (map (made S) (e ∷ es)))) f.0.made_sign ∙ each_one_sign S b (e ∷ es) f in
    record {
      right = ap (λ (m : Made). m.right) (at_select (level_made S) index (e ∷ es))
          ∙ ap₂ (λ x y. x && y) (and_all (not (made S index).shape.signed) (not (length (map (λ (m : Made). m.shape) (map (made S) (e ∷ es))) == 0)) (one_sign (made S e).shape.signed (map (λ (m : Made). m.shape) (map (made S) (e ∷ es)))) (ap not i.made_sign) (ap not (eqb-suc-zero (length (map (λ (m : Made). m.shape) (map (made S) es))))) o)
          (ap₂ (λ x y. x && y) i.right (all_right S (map (λ x. b) (e ∷ es)) (e ∷ es) (each_all S b (e ∷ es) f)));
      made_sign = ap (λ (m : Made). m.shape.signed) (at_select (level_made S) index (e ∷ es)) ∙ f.0.made_sign;
      sign = ap (λ (m : Shape). m.signed) (at_select (level_shape S []) index (e ∷ es)) ∙ f.0.sign;
      below = λ y m. ⊎_elim (λ h. i.below y h) (λ h. all_below S (map (λ x. b) (e ∷ es)) (e ∷ es) y (each_all S b (e ∷ es) f) h)
          (or_cases (mentions index y) (any (map (λ x. mentions x y) (e ∷ es))) (sym (at_select (level_mentions y) index (e ∷ es)) ∙ m));
    }

pub fit_index_is : (S : List SignalInfo) (index : GroundExpr) (place : ℕ) → Fit S false index → Fit S false (to.IndexIs index place)
fit_index_is S index place i = record {
  right = ap (λ (m : Made). m.right) (at_index_is (level_made S) index place) ∙ ap₂ (λ x y. x && (y && true)) (ap not i.made_sign) i.right;
  made_sign = ap (λ (m : Made). m.shape.signed) (at_index_is (level_made S) index place);
  sign = ap (λ (m : Shape). m.signed) (at_index_is (level_shape S []) index place);
  below = λ y m. i.below y (sym (at_index_is (level_mentions y) index place) ∙ m);
}

-- each of a range
pub each_range : (S : List SignalInfo) (b : Bool) (f : ℕ → GroundExpr) (a n : ℕ) → ((i : ℕ) → i < a + n → Fit S b (f i)) → FitEach S b (map f (range_with_len a n))
each_range S b f a zero h = tt
each_range S b f a (suc n) h = (h a (omega arith), each_range S b f (a + 1) n (λ i l. h i (omega arith)))
