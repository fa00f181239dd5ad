-- In a sized circuit a condition's value fits one bit.
use Rattle.std.proofs.Common.{◌≡◌, ◌≢◌, ◌∙◌, sym, ap, subst, ℕ, zero, suc, ◌<◌, ◌≤◌, ◌^◌, ◌++◌, List, [], ◌∷◌, Option, Some, None, Bool, true, false, ◌&&◌, ◌||◌, ◌==◌, cond, length, map, min, arith, refl, get_or}
use Rattle.std.specs.Prelude.{slice_index, nat_lt, nat_le, filter}
use Rattle.std.specs.List.{All}
use Rattle.std.proofs.lemmas.List.Elements.{All-nil, All-cons}
use Rattle.std.proofs.lemmas.Bool.{or_parts, eq-eqb, ltb-false}
use Rattle.tb_base.specs.Word.{Word, low_bits, value_of}
use Rattle.tb_base.specs.Row.{flag}
use Rattle.tb_base.proofs.Words.{low_bits-lt}
use Rattle.net_core.specs.declared.tree.SignalInfo.{SignalInfo}
use Rattle.net_core.specs.declared.tree.GroundExpr.{GroundExpr}
use Rattle.net_core.specs.declared.tree.GroundExpr.TheFolds.{ind-GroundExpr, map-GroundExpr, fold-roll-GroundExpr}
use Rattle.net_core.specs.declared.tree.GroundExpr.TheOpen.{GroundExpr-F}
use Rattle.net_core.specs.declared.tree.GroundExpr.TheViews.{roll-GroundExpr}
use Rattle.net_core.specs.declared.tree.Elab.{Elab}
use Rattle.net_core.specs.Signals.{info, given_width}
use Rattle.net_core.specs.Shapes.{Shape, shape_at, level_shape, widths}
use Rattle.net_core.specs.Values.{any, value, level_value, level_mentions, mentions, word_at}
use Rattle.net_core.specs.WidthRules.{Judged, parts, judged, level_judged, Use, uses, use_lines, is_wide, is_bad, wide_signals, too_wide_lines, bad_range_lines, least_line, lesser, first_rule}
use Rattle.net_core.specs.Body.{body_of}
use Rattle.net_core.specs.Formed.{Sized, given_widths}
use Rattle.net_core.proofs.ExprFacts.{value_roll, mentions_roll}
use Rattle.net_resolve.specs.Resolved.{Each, asked}

-- the value fits one bit
abbrev pub is_one_bit : Word → Type 0
is_one_bit w = low_bits 1 (value_of w) ≡ w.raw

-- as do those of all conditions and resets
abbrev pub OneBits : Elab → (ℕ → ℕ) → Type 0
OneBits e V = Each (λ k c. is_one_bit (value e.signals c V)) (length e.signals) (asked e)

abbrev pub shape_of : Word → Shape
shape_of w = record { signed = w.signed; width = w.width }

pub given_at : (signals : List SignalInfo) (x : ℕ) → slice_index (map given_width signals) x ≡ given_width (info signals x)
given_at [] zero = refl
given_at [] (suc x) = refl
given_at (i ∷ is) zero = refl
given_at (i ∷ is) (suc x) = given_at is x

pub shapes_at : (ws : List Word) (k : ℕ) → shape_at (map shape_of ws) k ≡ shape_of (word_at ws k)
shapes_at [] zero = refl
shapes_at [] (suc k) = refl
shapes_at (w ∷ ws) zero = refl
shapes_at (w ∷ ws) (suc k) = shapes_at ws k

pub widths_at : (ws : List Word) (k : ℕ) → slice_index (widths (map shape_of ws)) k ≡ (word_at ws k).width
widths_at [] zero = refl
widths_at [] (suc k) = refl
widths_at (w ∷ ws) zero = refl
widths_at (w ∷ ws) (suc k) = widths_at ws k

widths_of : (ws : List Word) → widths (map shape_of ws) ≡ map (λ w. w.width) ws
widths_of [] = refl
widths_of (w ∷ ws) = ap (λ ns. w.width ∷ ns) (widths_of ws)

-- below 129 nothing is cut
pub uncut : (n : ℕ) → (min 129 n == 129) ≡ false → min 129 n ≡ n
uncut n h = step (nat_le 129 n) refl
  where
    apart : min 129 n ≢ 129
    apart = λ e. cc (ap (λ m. m == 129) e, h)

    step : (t : Bool) → nat_le 129 n ≡ t → min 129 n ≡ n
    step t e = omega (arith, apart)

-- where no width is cut, a level's shape is that of its value
level_fits : (signals : List SignalInfo) (V : ℕ → ℕ) (y : GroundExpr-F Word)
    → ((level_shape signals (map given_width signals) (map-GroundExpr Word Shape shape_of y)).width == 129) ≡ false
    → shape_of (level_value signals V y) ≡ level_shape signals (map given_width signals) (map-GroundExpr Word Shape shape_of y)
level_fits signals V (GroundExpr-F.Read s) h =
    ap (λ n. record { signed = (info signals s.0).signed; width = n }) (sym (given_at signals s.0) ∙ sym (uncut (slice_index (map given_width signals) s.0) h))
level_fits signals V (GroundExpr-F.Lit signed width negative n) h =
    ap (λ k. record { signed = signed; width = k }) (sym (uncut _ h))
level_fits signals V (GroundExpr-F.Apply op args nums) h =
    let g = uncut _ h in
    let sa : shape_at (map shape_of args) 0 ≡ shape_of (word_at args 0) = shapes_at args 0 in
    let sb : shape_at (map shape_of args) 1 ≡ shape_of (word_at args 1) = shapes_at args 1 in
    let wa = widths_at args 0 in
    let wb = widths_at args 1 in
    let wc = widths_at args 2 in
    rw (g, sa, sb, wa, wb, wc) refl
level_fits signals V (GroundExpr-F.Select index items) h =
    let g = uncut _ h in
    rw (g, shapes_at items 0, widths_of items) refl
level_fits signals V (GroundExpr-F.IndexIs index place) h = refl

-- an expression that is nowhere too wide has the shape that it is judged to have
abbrev Fitting : List SignalInfo → (ℕ → ℕ) → GroundExpr → Type 0
Fitting signals V e = (judged signals (map given_width signals) e).wide ≡ false → shape_of (value signals e V) ≡ (judged signals (map given_width signals) e).shape

abbrev With : List SignalInfo → (ℕ → ℕ) → Type 0
With signals V = (e : GroundExpr) × Fitting signals V e

all_fit : (signals : List SignalInfo) (V : ℕ → ℕ) (es : List (With signals V))
    → any (map (λ j. j.wide) (map (judged signals (map given_width signals)) (map (λ e. e.0) es))) ≡ false
    → map shape_of (map (λ c. value signals c V) (map (λ e. e.0) es)) ≡ map (λ j. j.shape) (map (judged signals (map given_width signals)) (map (λ e. e.0) es))
all_fit signals V [] h = refl
all_fit signals V (e ∷ es) h =
    let p = or_parts _ _ h in
    let a = e.1 p.0 in
    let b = all_fit signals V es p.1 in
    cc

children_fit : (signals : List SignalInfo) (V : ℕ → ℕ) (x : GroundExpr-F (With signals V))
    → any (map (λ j. j.wide) (parts (map-GroundExpr GroundExpr Judged (judged signals (map given_width signals)) (map-GroundExpr (With signals V) GroundExpr (λ e. e.0) x)))) ≡ false
    → map-GroundExpr Word Shape shape_of (map-GroundExpr GroundExpr Word (λ c. value signals c V) (map-GroundExpr (With signals V) GroundExpr (λ e. e.0) x))
    ≡ map-GroundExpr Judged Shape (λ j. j.shape) (map-GroundExpr GroundExpr Judged (judged signals (map given_width signals)) (map-GroundExpr (With signals V) GroundExpr (λ e. e.0) x))
children_fit signals V (GroundExpr-F.Read s) h = refl
children_fit signals V (GroundExpr-F.Lit signed width negative n) h = refl
children_fit signals V (GroundExpr-F.Apply op args nums) h = ap (λ ws. GroundExpr-F.Apply op ws nums) (all_fit signals V args h)
children_fit signals V (GroundExpr-F.Select index items) h =
    let p = or_parts _ _ h in
    ap (λ i. GroundExpr-F.Select i (map shape_of (map (λ c. value signals c V) (map (λ e. e.0) items)))) (index.1 p.0)
    ∙ ap (λ ws. GroundExpr-F.Select (judged signals (map given_width signals) index.0).shape ws) (all_fit signals V items p.1)
children_fit signals V (GroundExpr-F.IndexIs index place) h =
    let p = or_parts _ _ h in
    ap (λ i. GroundExpr-F.IndexIs i place) (index.1 p.0)

judged_roll : (signals : List SignalInfo) (w : List ℕ) (x : GroundExpr-F GroundExpr)
    → judged signals w (roll-GroundExpr x) ≡ level_judged signals w (map-GroundExpr GroundExpr Judged (judged signals w) x)
judged_roll signals w = fold-roll-GroundExpr Judged (level_judged signals w)

pub fitting : (signals : List SignalInfo) (V : ℕ → ℕ) (e : GroundExpr) → Fitting signals V e
fitting signals V = ind-GroundExpr (Fitting signals V) (λ x y is. subst (λ z. Fitting signals V (roll-GroundExpr z)) is (λ h. at y h))
  where
    at : (y : GroundExpr-F (With signals V)) → Fitting signals V (roll-GroundExpr (map-GroundExpr (With signals V) GroundExpr (λ e. e.0) y))
    at y h =
        let z = map-GroundExpr (With signals V) GroundExpr (λ e. e.0) y in
        let w = map given_width signals in
        let j = judged_roll signals w z in
        let p = or_parts _ _ (sym (ap (λ (k : Judged). k.wide) j) ∙ h) in
        let c = children_fit signals V y p.1 in
        ap shape_of (value_roll signals V z)
        ∙ level_fits signals V (map-GroundExpr GroundExpr Word (λ c. value signals c V) z) (ap (λ k. (level_shape signals w k).width == 129) c ∙ p.0)
        ∙ ap (level_shape signals w) c
        ∙ sym (ap (λ (k : Judged). k.shape) j)

-- an expression over signals within their widths has a value within its width
abbrev Within : List SignalInfo → (ℕ → ℕ) → GroundExpr → Type 0
Within signals V e = ((y : ℕ) → mentions e y ≡ true → V y < 2 ^ given_width (info signals y)) → (value signals e V).raw < 2 ^ (value signals e V).width

level_within : (signals : List SignalInfo) (V : ℕ → ℕ) (x : GroundExpr-F GroundExpr)
    → ((y : ℕ) → level_mentions y (map-GroundExpr GroundExpr Bool (λ c. mentions c y) x) ≡ true → V y < 2 ^ given_width (info signals y))
    → (level_value signals V (map-GroundExpr GroundExpr Word (λ c. value signals c V) x)).raw < 2 ^ (level_value signals V (map-GroundExpr GroundExpr Word (λ c. value signals c V) x)).width
level_within signals V (GroundExpr-F.Read s) h = h s.0 (eq-eqb s.0 s.0 refl)
level_within signals V (GroundExpr-F.Lit signed width negative n) h = low_bits-lt _ _
level_within signals V (GroundExpr-F.Apply op args nums) h = low_bits-lt _ _
level_within signals V (GroundExpr-F.Select index items) h = low_bits-lt _ _
level_within signals V (GroundExpr-F.IndexIs index place) h = low_bits-lt 1 (flag ((value signals index V).raw == place))

pub within : (signals : List SignalInfo) (V : ℕ → ℕ) (e : GroundExpr) → Within signals V e
within signals V = ind-GroundExpr (Within signals V) (λ x y is. λ h.
    subst (λ (w : Word). w.raw < 2 ^ w.width) (sym (value_roll signals V x)) (level_within signals V x (λ z m. h z (mentions_roll z x ∙ m))))

one_bit : (w n : ℕ) (s : Bool) → w ≤ 1 → n < 2 ^ w → is_one_bit (record { width = w; signed = s; raw = n })
one_bit zero zero true l h = refl
one_bit zero zero false l h = refl
one_bit zero (suc n) s l h = absurd (over n h)
  where
    over : (m : ℕ) → suc m < 1 → ⊥
    over m h = absurd (omega (arith, h))
one_bit (suc zero) zero true l h = refl
one_bit (suc zero) zero false l h = refl
one_bit (suc zero) (suc zero) true l h = refl
one_bit (suc zero) (suc zero) false l h = refl
one_bit (suc zero) (suc (suc n)) s l h = absurd (over n h)
  where
    over : (m : ℕ) → suc (suc m) < 2 → ⊥
    over m h = absurd (omega (arith, h))
one_bit (suc (suc w)) n s l h = absurd (over w l)
  where
    over : (m : ℕ) → suc (suc m) ≤ 1 → ⊥
    over m h = absurd (omega (arith, h))

-- a rule that no line breaks

lesser_none : (n : ℕ) (o : Option ℕ) → lesser n o ≢ None
lesser_none n None = λ e. cc
lesser_none n (Some m) = λ e. cc

no_lines : (ns : List ℕ) → least_line ns ≡ None → ns ≡ []
no_lines [] h = refl
no_lines (n ∷ ns) h = absurd (lesser_none n (least_line ns) h)

no_rules : (a b : Option ℕ) → first_rule a b ≡ None → (a ≡ None) × (b ≡ None)
no_rules None None h = (refl, refl)
no_rules (Some n) None h = cc
no_rules None (Some m) h = cc
no_rules (Some n) (Some m) h = cc

no_back : (xs ys : List ℕ) → xs ++ ys ≡ [] → ys ≡ []
no_back [] ys h = h
no_back (x ∷ xs) ys h = cc

no_uses : (test : Use → Bool) (us : List Use) → use_lines test us ≡ [] → All (λ u. test u ≡ false) us
no_uses test [] h = All-nil (λ u. test u ≡ false)
no_uses test (u ∷ us) h = step (test u) refl (no_uses test us) h
  where
    step : (t : Bool) → test u ≡ t → (use_lines test us ≡ [] → All (λ u. test u ≡ false) us)
        → map (λ v. v.line) (cond t (u ∷ filter test us) (filter test us)) ≡ [] → All (λ u. test u ≡ false) (u ∷ us)
    step true e go m = cc
    step false e go m = All-cons (λ u. test u ≡ false) u us e (go m)

narrow_enough : (n : ℕ) → nat_lt 1 n ≡ false → n ≤ 1
narrow_enough n h = ltb-false 1 n h

-- the rules hold of each expression
pub none_wide : (e : Elab) → Sized e → All (λ u. is_wide e.signals (given_widths e) u ≡ false) (uses (body_of e.body))
none_wide e s =
    let w = given_widths e in
    let none = no_rules (least_line (too_wide_lines e w)) (least_line (bad_range_lines e w)) s.ruled in
    no_uses (is_wide e.signals w) (uses (body_of e.body)) (no_back (wide_signals e.signals w) (use_lines (is_wide e.signals w) (uses (body_of e.body))) (no_lines (too_wide_lines e w) none.0))

pub none_bad : (e : Elab) → Sized e → All (λ u. is_bad e.signals (given_widths e) u ≡ false) (uses (body_of e.body))
none_bad e s =
    let w = given_widths e in
    let none = no_rules (least_line (too_wide_lines e w)) (least_line (bad_range_lines e w)) s.ruled in
    no_uses (is_bad e.signals w) (uses (body_of e.body)) (no_lines (bad_range_lines e w) none.1)

-- of each expression of a statement: where it is a condition, its value fits one bit
pub uses_fit : (e : Elab) → Sized e → (V : ℕ → ℕ) → All (λ u. (y : ℕ) → mentions u.expr y ≡ true → V y < 2 ^ given_width (info e.signals y)) (uses (body_of e.body))
    → All (λ u. u.condition ≡ true → is_one_bit (value e.signals u.expr V)) (uses (body_of e.body))
uses_fit e s V r k d l =
    go (get_or (uses (body_of e.body)) k d) (r k d l) (none_wide e s k d l) (none_bad e s k d l)
  where
    thin : (c b n : Bool) → c ≡ true → (b || (c && n)) ≡ false → n ≡ false
    thin c b n g h = let p = or_parts b (c && n) h in cc (g, p.1)

    go : (u : Use) → ((y : ℕ) → mentions u.expr y ≡ true → V y < 2 ^ given_width (info e.signals y)) → is_wide e.signals (given_widths e) u ≡ false → is_bad e.signals (given_widths e) u ≡ false
        → u.condition ≡ true → is_one_bit (value e.signals u.expr V)
    go u m wide bad c =
        let f = fitting e.signals V u.expr wide in
        let t = thin u.condition _ _ c bad in
        one_bit (value e.signals u.expr V).width (value e.signals u.expr V).raw (value e.signals u.expr V).signed
        (narrow_enough (value e.signals u.expr V).width (ap (λ (z : Shape). nat_lt 1 z.width) f ∙ t)) (within e.signals V u.expr m)
