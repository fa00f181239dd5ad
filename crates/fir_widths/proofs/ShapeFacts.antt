-- Wider signals make wider expressions, and no expression is wider than 129.
use Rattle.std.proofs.Common.{◌≡◌, ◌∙◌, sym, ap, subst, ℕ, zero, suc, ◌+◌, ◌-◌, ◌^◌, ◌<◌, ◌≤◌, min, max, Bool, true, false, List, [], ◌∷◌, map, refl, arith, ◌⊎◌, inl, inr}
use Rattle.std.specs.Prelude.{slice_index}
use Rattle.std.proofs.lemmas.Nat.{pow_below}
use Rattle.std.proofs.lemmas.Bool.{cases_eq}
use Rattle.tb_base.specs.Row.{row_width, row_signed, leading, width_of}
use Rattle.tb_base.specs.declared.op.Op.{Op}
use Rattle.tb_base.specs.declared.op.Op.TheVariants.{Add, Sub, Mul, Div, Rem, Lt, Leq, Gt, Geq, Eq, Neq, Pad, AsUInt, AsSInt, Shl, Shr, Dshl, Dshr, Cvt, Neg, Not, And, Or, Xor, Andr, Orr, Xorr, Cat, Bits, Head, Tail, Mux}
use Rattle.net_core.specs.declared.tree.SignalInfo.{SignalInfo}
use Rattle.net_core.specs.declared.tree.GroundExpr.{GroundExpr}
use Rattle.net_core.specs.declared.tree.GroundExpr.TheFolds.{fold-roll-GroundExpr, ind-GroundExpr, map-GroundExpr}
use Rattle.net_core.specs.declared.tree.GroundExpr.TheOpen as E
use Rattle.net_core.specs.declared.tree.GroundExpr.TheViews.{roll-GroundExpr}
use Rattle.net_core.specs.Shapes.{Shape, shape_at, widths, greatest, level_shape, shape}
use Rattle.net_core.specs.Widths.{Below}
use Rattle.net_core.specs.WidthRules.{Judged, judged, level_judged}
use Rattle.fir_widths.proofs.JudgeFacts.{width_at_shape}

pow_rises : (b y : ℕ) → b ≤ y → 2 ^ b ≤ 2 ^ y
pow_rises b y h = step (cases_eq b y)
  where
    apart : (b ≡ y → ⊥) → b < y
    apart n = omega (arith, h, n)

    weaker : 2 ^ b < 2 ^ y → 2 ^ b ≤ 2 ^ y
    weaker k = omega (arith, k)

    same : b ≡ y → 2 ^ b ≤ 2 ^ y
    same e = subst (λ z. 2 ^ b ≤ 2 ^ z) e (plain (2 ^ b))
      where
        plain : (n : ℕ) → n ≤ n
        plain n = omega arith

    step : (b ≡ y) ⊎ (b ≡ y → ⊥) → 2 ^ b ≤ 2 ^ y
    step (inl e) = same e
    step (inr n) = weaker (pow_below b y (apart n))

shift_rises : (a x p q : ℕ) → a ≤ x → p ≤ q → a + p - 1 ≤ x + q - 1
shift_rises a x p q h k = omega (arith, h, k)

-- each row's width rises with its operands'
pub row_rises : (op : Op) (s : Bool) (a b c x y z n m : ℕ) → a ≤ x → b ≤ y → c ≤ z → row_width op s a b c n m ≤ row_width op s x y z n m
row_rises Add s a b c x y z n m p q r = omega arith
row_rises Sub s a b c x y z n m p q r = omega arith
row_rises Mul s a b c x y z n m p q r = omega arith
row_rises Rem s a b c x y z n m p q r = omega arith
row_rises Lt s a b c x y z n m p q r = omega arith
row_rises Leq s a b c x y z n m p q r = omega arith
row_rises Gt s a b c x y z n m p q r = omega arith
row_rises Geq s a b c x y z n m p q r = omega arith
row_rises Eq s a b c x y z n m p q r = omega arith
row_rises Neq s a b c x y z n m p q r = omega arith
row_rises Pad s a b c x y z n m p q r = omega arith
row_rises AsUInt s a b c x y z n m p q r = omega arith
row_rises AsSInt s a b c x y z n m p q r = omega arith
row_rises Shl s a b c x y z n m p q r = omega arith
row_rises Shr s a b c x y z n m p q r = omega arith
row_rises Dshr s a b c x y z n m p q r = omega arith
row_rises Neg s a b c x y z n m p q r = omega arith
row_rises Not s a b c x y z n m p q r = omega arith
row_rises And s a b c x y z n m p q r = omega arith
row_rises Or s a b c x y z n m p q r = omega arith
row_rises Xor s a b c x y z n m p q r = omega arith
row_rises Andr s a b c x y z n m p q r = omega arith
row_rises Orr s a b c x y z n m p q r = omega arith
row_rises Xorr s a b c x y z n m p q r = omega arith
row_rises Cat s a b c x y z n m p q r = omega arith
row_rises Bits s a b c x y z n m p q r = omega arith
row_rises Head s a b c x y z n m p q r = omega arith
row_rises Tail s a b c x y z n m p q r = omega arith
row_rises Mux s a b c x y z n m p q r = omega arith
row_rises Div true a b c x y z n m p q r = omega arith
row_rises Div false a b c x y z n m p q r = p
row_rises Cvt true a b c x y z n m p q r = p
row_rises Cvt false a b c x y z n m p q r = omega arith
row_rises Dshl s a b c x y z n m p q r = shift_rises a x (2 ^ b) (2 ^ y) p (pow_rises b y q)

-- of one sign, and no wider
pub record Rel (s t : Shape) : Type 0 where
  pub signed : s.signed ≡ t.signed
  pub width : s.width ≤ t.width

abbrev pub Mono : List SignalInfo → List ℕ → List ℕ → GroundExpr → Type 0
Mono signals v w e = Rel (shape signals v e) (shape signals w e)

abbrev With : List SignalInfo → List ℕ → List ℕ → Type 0
With signals v w = (e : GroundExpr) × Mono signals v w e

plain : (n : ℕ) → n ≤ n
plain n = omega arith

both : (m a b : ℕ) → a ≤ b → min m a ≤ min m b
both m a b h = omega (arith, h)

all_rel : (signals : List SignalInfo) (v w : List ℕ) (es : List (With signals v w)) (k : ℕ)
    → Rel (shape_at (map (shape signals v) (map (λ e. e.0) es)) k) (shape_at (map (shape signals w) (map (λ e. e.0) es)) k)
all_rel signals v w [] k = record { signed = refl; width = plain 0 }
all_rel signals v w (e ∷ es) zero = e.1
all_rel signals v w (e ∷ es) (suc k) = all_rel signals v w es k

all_greatest : (signals : List SignalInfo) (v w : List ℕ) (es : List (With signals v w))
    → greatest (widths (map (shape signals v) (map (λ e. e.0) es))) ≤ greatest (widths (map (shape signals w) (map (λ e. e.0) es)))
all_greatest signals v w [] = plain 0
all_greatest signals v w (e ∷ es) = wider _ _ _ _ e.1.width (all_greatest signals v w es)
  where
    wider : (a b c d : ℕ) → a ≤ b → c ≤ d → max a c ≤ max b d
    wider a b c d h k = omega (arith, h, k)

row_of : (op : Op) (ss ts : List Shape) (nums : List ℕ) → ((k : ℕ) → Rel (shape_at ss k) (shape_at ts k))
    → width_of op (shape_at ss 0).signed (widths ss) nums ≤ width_of op (shape_at ts 0).signed (widths ts) nums
row_of op ss ts nums h =
    rw (width_at_shape ss 0, width_at_shape ss 1, width_at_shape ss 2, width_at_shape ts 0, width_at_shape ts 1, width_at_shape ts 2, (h 0).signed)
    (both 129 _ _ (row_rises op (shape_at ts 0).signed _ _ _ _ _ _ (slice_index nums 0) (slice_index nums 1) (h 0).width (h 1).width (h 2).width))

level_mono : (signals : List SignalInfo) (v w : List ℕ) → Below v w → (x : E.GroundExpr-F (With signals v w))
    → Rel (level_shape signals v (map-GroundExpr GroundExpr Shape (shape signals v) (map-GroundExpr (With signals v w) GroundExpr (λ e. e.0) x)))
    (level_shape signals w (map-GroundExpr GroundExpr Shape (shape signals w) (map-GroundExpr (With signals v w) GroundExpr (λ e. e.0) x)))
level_mono signals v w b (E.Read s) = record { signed = refl; width = both 129 _ _ (b.each s.0) }
level_mono signals v w b (E.Lit sign width negative n) = record { signed = refl; width = plain _ }
level_mono signals v w b (E.Apply op args nums) = record {
  signed = let e = (all_rel signals v w args 0).signed in let f = (all_rel signals v w args 1).signed in
      ap (λ a. row_signed op (leading op a (shape_at (map (shape signals v) (map (λ e. e.0) args)) 1).signed)) e
      ∙ ap (λ a. row_signed op (leading op (shape_at (map (shape signals w) (map (λ e. e.0) args)) 0).signed a)) f;
  width = row_of op _ _ nums (all_rel signals v w args);
}
level_mono signals v w b (E.Select index items) = record {
  signed = (all_rel signals v w items 0).signed;
  width = both 129 _ _ (all_greatest signals v w items);
}
level_mono signals v w b (E.IndexIs index place) = record { signed = refl; width = plain 1 }

pub shape_roll : (signals : List SignalInfo) (w : List ℕ) (x : E.GroundExpr-F GroundExpr)
    → shape signals w (roll-GroundExpr x) ≡ level_shape signals w (map-GroundExpr GroundExpr Shape (shape signals w) x)
shape_roll signals w = fold-roll-GroundExpr Shape (level_shape signals w)

pub shape_rises : (signals : List SignalInfo) (v w : List ℕ) → Below v w → (e : GroundExpr) → Mono signals v w e
shape_rises signals v w b = ind-GroundExpr (Mono signals v w) (λ x y is. subst (λ z. Mono signals v w (roll-GroundExpr z)) is
    (rw (shape_roll signals v (map-GroundExpr (With signals v w) GroundExpr (λ e. e.0) y), shape_roll signals w (map-GroundExpr (With signals v w) GroundExpr (λ e. e.0) y))
    (level_mono signals v w b y)))

-- no width is above 129
cut_below : (m a : ℕ) → min m a ≤ m
cut_below m a = omega arith

level_cut : (signals : List SignalInfo) (w : List ℕ) (x : E.GroundExpr-F Shape) → (level_shape signals w x).width ≤ 129
level_cut signals w (E.Read s) = cut_below 129 _
level_cut signals w (E.Lit sign width negative n) = cut_below 129 _
level_cut signals w (E.Apply op args nums) = cut_below 129 _
level_cut signals w (E.Select index items) = cut_below 129 _
level_cut signals w (E.IndexIs index place) = small
  where
    small : 1 ≤ 129
    small = omega arith

abbrev Cut : List SignalInfo → List ℕ → GroundExpr → Type 0
Cut signals w e = (shape signals w e).width ≤ 129

pub shape_cut : (signals : List SignalInfo) (w : List ℕ) (e : GroundExpr) → (shape signals w e).width ≤ 129
shape_cut signals w = ind-GroundExpr (Cut signals w) (λ x y is. subst (λ (s : Shape). s.width ≤ 129) (sym (shape_roll signals w x))
    (level_cut signals w (map-GroundExpr GroundExpr Shape (shape signals w) x)))

-- what is judged has the expression's shape
abbrev Same : List SignalInfo → List ℕ → GroundExpr → Type 0
Same signals w e = (judged signals w e).shape ≡ shape signals w e

abbrev Held : List SignalInfo → List ℕ → Type 0
Held signals w = (e : GroundExpr) × Same signals w e

all_same : (signals : List SignalInfo) (w : List ℕ) (es : List (Held signals w))
    → map (λ j. j.shape) (map (judged signals w) (map (λ e. e.0) es)) ≡ map (shape signals w) (map (λ e. e.0) es)
all_same signals w [] = refl
all_same signals w (e ∷ es) = ap (λ (s : Shape). s ∷ map (λ j. j.shape) (map (judged signals w) (map (λ e. e.0) es))) e.1
    ∙ ap (λ (ss : List Shape). shape signals w e.0 ∷ ss) (all_same signals w es)

level_same : (signals : List SignalInfo) (w : List ℕ) (x : E.GroundExpr-F (Held signals w))
    → map-GroundExpr Judged Shape (λ j. j.shape) (map-GroundExpr GroundExpr Judged (judged signals w) (map-GroundExpr (Held signals w) GroundExpr (λ e. e.0) x))
    ≡ map-GroundExpr GroundExpr Shape (shape signals w) (map-GroundExpr (Held signals w) GroundExpr (λ e. e.0) x)
level_same signals w (E.Read s) = refl
level_same signals w (E.Lit sign width negative n) = refl
level_same signals w (E.Apply op args nums) = ap (λ (ss : List Shape). E.Apply op ss nums) (all_same signals w args)
level_same signals w (E.Select index items) = ap (λ (i : Shape). E.Select i (map (λ j. j.shape) (map (judged signals w) (map (λ e. e.0) items)))) index.1
    ∙ ap (λ (ss : List Shape). E.Select (shape signals w index.0) ss) (all_same signals w items)
level_same signals w (E.IndexIs index place) = ap (λ (i : Shape). E.IndexIs i place) index.1

pub judged_shape : (signals : List SignalInfo) (w : List ℕ) (e : GroundExpr) → (judged signals w e).shape ≡ shape signals w e
judged_shape signals w = ind-GroundExpr (Same signals w) (λ x y is. subst (λ z. Same signals w (roll-GroundExpr z)) is
    (ap (λ (j : Judged). j.shape) (fold-roll-GroundExpr Judged (level_judged signals w) (map-GroundExpr (Held signals w) GroundExpr (λ e. e.0) y))
    ∙ ap (λ (z : E.GroundExpr-F Shape). level_shape signals w z) (level_same signals w y)
    ∙ sym (shape_roll signals w (map-GroundExpr (Held signals w) GroundExpr (λ e. e.0) y))))
