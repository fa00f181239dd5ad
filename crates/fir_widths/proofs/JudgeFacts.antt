-- Judgements by parts.
use Rattle.std.proofs.Common.{◌≡◌, ◌∙◌, sym, ap, ℕ, zero, suc, ◌+◌, Bool, true, false, ◌||◌, ◌==◌, List, [], ◌∷◌, ◌++◌, map, length, get_or, take, max, refl, ◌<◌, arith}
use Rattle.std.proofs.Math.Dec.{eqb-zero-suc, eqb-suc-zero, eqb-suc-suc}
use Rattle.std.proofs.lemmas.List.{take_more, length-take, length-map}
use Rattle.std.specs.Prelude.{slice_index, if◌then◌else◌}
use Rattle.tb_base.specs.Row.{width_of, operand_count, number_count}
use Rattle.tb_base.specs.declared.op.Op.{Op}
use Rattle.tb_base.specs.declared.op.Op.TheVariants.{Add, Sub, Mul, Div, Rem, Lt, Leq, Gt, Geq, Eq, Neq, Pad, AsUInt, AsSInt, Shl, Shr, Dshl, Dshr, Cvt, Neg, Not, And, Or, Xor, Andr, Orr, Xorr, Cat, Bits, Head, Tail, Mux}
use Rattle.net_core.specs.declared.tree.SignalInfo.{SignalInfo}
use Rattle.net_core.specs.Shapes.{Shape, shape_at, widths, greatest}
use Rattle.net_core.specs.Values.{any}
use Rattle.net_core.specs.WidthRules.{Judged, judged, level_judged}
use Rattle.net_core.specs.declared.tree.GroundExpr.{GroundExpr}
use Rattle.net_core.specs.declared.tree.GroundExpr.TheVariants.{Apply, Select}
use Rattle.net_core.specs.declared.tree.GroundExpr.TheOpen as E
use Rattle.net_core.proofs.Trees.{at_apply, at_select}
use Rattle.fir_widths.specs.declared.shape.Summary.{Summary}
use Rattle.fir_widths.specs.Judging.{shapes, summary, noted, judged_apply, judged_select}

-- a row uses as many operands and numbers as it has
pub row_uses : (op : Op) (s : Bool) (a b c n m : ℕ)
    → width_of op s (take (operand_count op) (a ∷ b ∷ c ∷ [])) (take (number_count op) (n ∷ m ∷ [])) ≡ width_of op s (a ∷ b ∷ c ∷ []) (n ∷ m ∷ [])
row_uses Add s a b c n m = refl
row_uses Sub s a b c n m = refl
row_uses Mul s a b c n m = refl
row_uses Div s a b c n m = refl
row_uses Rem s a b c n m = refl
row_uses Lt s a b c n m = refl
row_uses Leq s a b c n m = refl
row_uses Gt s a b c n m = refl
row_uses Geq s a b c n m = refl
row_uses Eq s a b c n m = refl
row_uses Neq s a b c n m = refl
row_uses Pad s a b c n m = refl
row_uses AsUInt s a b c n m = refl
row_uses AsSInt s a b c n m = refl
row_uses Shl s a b c n m = refl
row_uses Shr s a b c n m = refl
row_uses Dshl s a b c n m = refl
row_uses Dshr s a b c n m = refl
row_uses Cvt s a b c n m = refl
row_uses Neg s a b c n m = refl
row_uses Not s a b c n m = refl
row_uses And s a b c n m = refl
row_uses Or s a b c n m = refl
row_uses Xor s a b c n m = refl
row_uses Andr s a b c n m = refl
row_uses Orr s a b c n m = refl
row_uses Xorr s a b c n m = refl
row_uses Cat s a b c n m = refl
row_uses Bits s a b c n m = refl
row_uses Head s a b c n m = refl
row_uses Tail s a b c n m = refl
row_uses Mux s a b c n m = refl

-- one part more
shape_push : (js : List Judged) (j : Judged) (k : ℕ) → shape_at (shapes (js ++ j ∷ [])) k ≡ if length js == k then j.shape else shape_at (shapes js) k
shape_push [] j zero = refl
shape_push [] j (suc k) = rw (eqb-zero-suc k) refl
shape_push (x ∷ js) j zero = rw (eqb-suc-zero (length js)) refl
shape_push (x ∷ js) j (suc k) = shape_push js j k ∙ ap (λ b. if b then j.shape else shape_at (shapes js) k) (sym (eqb-suc-suc (length js) k))

greatest_push : (js : List Judged) (j : Judged) → greatest (widths (shapes (js ++ j ∷ []))) ≡ max (greatest (widths (shapes js))) j.shape.width
greatest_push [] j = omega arith
greatest_push (x ∷ js) j = let h = greatest_push js j in omega (arith, h)

wide_push : (js : List Judged) (j : Judged) → any (map (λ i. i.wide) (js ++ j ∷ [])) ≡ (any (map (λ i. i.wide) js) || j.wide)
wide_push [] j = last j.wide
  where
    last : (b : Bool) → (b || false) ≡ b
    last true = refl
    last false = refl
wide_push (x ∷ js) j = step x.wide (wide_push js j)
  where
    step : (b : Bool) → any (map (λ i. i.wide) (js ++ j ∷ [])) ≡ (any (map (λ i. i.wide) js) || j.wide)
        → (b || any (map (λ i. i.wide) (js ++ j ∷ []))) ≡ ((b || any (map (λ i. i.wide) js)) || j.wide)
    step true e = refl
    step false e = e

bad_push : (js : List Judged) (j : Judged) → any (map (λ i. i.bad) (js ++ j ∷ [])) ≡ (any (map (λ i. i.bad) js) || j.bad)
bad_push [] j = last j.bad
  where
    last : (b : Bool) → (b || false) ≡ b
    last true = refl
    last false = refl
bad_push (x ∷ js) j = step x.bad (bad_push js j)
  where
    step : (b : Bool) → any (map (λ i. i.bad) (js ++ j ∷ [])) ≡ (any (map (λ i. i.bad) js) || j.bad)
        → (b || any (map (λ i. i.bad) (js ++ j ∷ []))) ≡ ((b || any (map (λ i. i.bad) js)) || j.bad)
    step true e = refl
    step false e = e

pub summary-push : (js : List Judged) (j : Judged) → summary (js ++ j ∷ []) ≡ noted (length js) j (summary js)
summary-push js j =
    let a = shape_push js j 0 in
    let b = shape_push js j 1 in
    let c = shape_push js j 2 in
    let d = greatest_push js j in
    let e = wide_push js j in
    let f = bad_push js j in
    cc

pub note_next : {X : Type 0} (f : X → Judged) (xs : List X) (k : ℕ) (x : X) (j : Judged) (s t : Summary) → k < length xs → x ≡ get_or xs k x
    → s ≡ summary (map f (take k xs)) → j ≡ f x → t ≡ noted k j s → t ≡ summary (map f (take (k + 1) xs))
note_next {X = X} f xs k x j s t h e i g n =
    n ∙ ap (λ a. noted k a s) g ∙ ap (λ (p : Summary). noted k (f x) p) i ∙ ap (λ m. noted m (f x) (summary (map f (take k xs)))) (sym long)
    ∙ sym (summary-push (map f (take k xs)) (f x)) ∙ ap (λ (js : List Judged). summary js) (sym (map_push f (take k xs) x))
    ∙ ap (λ (ys : List X). summary (map f ys)) (ap (λ y. take k xs ++ y ∷ []) e ∙ sym (take_more xs k x h))
  where
    map_push : {Y : Type 0} (g : Y → Judged) (ys : List Y) (y : Y) → map g (ys ++ y ∷ []) ≡ map g ys ++ g y ∷ []
    map_push g [] y = refl
    map_push g (z ∷ ys) y = ap (λ r. g z ∷ r) (map_push g ys y)

    long : length (map f (take k xs)) ≡ k
    long = length-map (take k xs) f ∙ shorter
      where
        shorter : length (take k xs) ≡ k
        shorter = omega (arith, length-take k xs, h)

pub width_at_shape : (ss : List Shape) (k : ℕ) → slice_index (widths ss) k ≡ (shape_at ss k).width
width_at_shape [] k = refl
width_at_shape (s ∷ ss) zero = refl
width_at_shape (s ∷ ss) (suc k) = width_at_shape ss k

level_apply : (signals : List SignalInfo) (w : List ℕ) (op : Op) (js : List Judged) (nums : List ℕ)
    → judged_apply op (summary js) (slice_index nums 0) (slice_index nums 1) ≡ level_judged signals w (E.Apply op js nums)
level_apply signals w op js nums = rw (width_at_shape (shapes js) 0, width_at_shape (shapes js) 1, width_at_shape (shapes js) 2) refl

pub apply_done : (signals : List SignalInfo) (w : List ℕ) (e : GroundExpr) (op : Op) (args : List GroundExpr) (nums : List ℕ) (r : Judged) (parts : Summary) (n m : ℕ)
    → e ≡ Apply op args nums → parts ≡ summary (map (judged signals w) args) → n ≡ slice_index nums 0 → m ≡ slice_index nums 1
    → r ≡ judged_apply op parts n m → r ≡ judged signals w e
apply_done signals w e op args nums r parts n m he hp hn hm hr =
    hr ∙ ap (λ (p : Summary). judged_apply op p n m) hp ∙ ap (λ k. judged_apply op (summary (map (judged signals w) args)) k m) hn
    ∙ ap (λ k. judged_apply op (summary (map (judged signals w) args)) (slice_index nums 0) k) hm
    ∙ level_apply signals w op (map (judged signals w) args) nums ∙ sym (at_apply (level_judged signals w) op args nums) ∙ sym (ap (judged signals w) he)

pub select_done : (signals : List SignalInfo) (w : List ℕ) (e index : GroundExpr) (items : List GroundExpr) (r i : Judged) (parts : Summary)
    → e ≡ Select index items → i ≡ judged signals w index → parts ≡ summary (map (judged signals w) items)
    → r ≡ judged_select i parts → r ≡ judged signals w e
select_done signals w e index items r i parts he hi hp hr =
    hr ∙ ap (λ (p : Judged). judged_select p parts) hi ∙ ap (λ (p : Summary). judged_select (judged signals w index) p) hp
    ∙ sym (at_select (level_judged signals w) index items) ∙ sym (ap (judged signals w) he)
