-- In a sized circuit bits hold the value of each expression.
use Rattle.std.proofs.Common.{◌≡◌, ◌≢◌, ◌∙◌, sym, ap, subst, ℕ, zero, suc, ◌≤◌, Bool, true, false, not, ◌&&◌, ◌||◌, ◌==◌, List, [], ◌∷◌, refl, map, length, min, arith, nat_le}
use Rattle.std.specs.Prelude.{slice_index, unwrap_or, nat_lt}
use Rattle.std.specs.List.{list_all}
use Rattle.std.proofs.lemmas.Bool.{and_parts, or_parts, le-leb, or_left, or_right, eq-eqb}
use Rattle.std.proofs.lemmas.List.{length-map}
use Rattle.tb_base.specs.Word.{Word}
use Rattle.tb_base.specs.declared.op.Op.{Op}
use Rattle.tb_base.specs.Row.{row_fits, row_width, row_signed, leading, signs_fit, in_range, operand_count, number_count}
use Rattle.net_core.specs.declared.tree.SignalInfo.{SignalInfo}
use Rattle.net_core.specs.declared.tree.GroundExpr.{GroundExpr}
use Rattle.net_core.specs.declared.tree.GroundExpr.TheFolds.{fold-roll-GroundExpr, ind-GroundExpr, map-GroundExpr}
use Rattle.net_core.specs.declared.tree.GroundExpr.TheOpen.{GroundExpr-F}
use Rattle.net_core.specs.declared.tree.GroundExpr.TheViews.{roll-GroundExpr}
use Rattle.net_core.specs.Signals.{info, given_width}
use Rattle.net_core.specs.Shapes.{Shape, shape_at, level_shape, literal_width}
use Rattle.net_core.specs.Values.{any, value, level_value, mentions, level_mentions, word_at}
use Rattle.net_core.specs.WidthRules.{Judged, judged, level_judged, parts, is_out, is_mux}
use Rattle.net_core.specs.Formed.{Made, made, level_made, is_right}
use Rattle.net_core.proofs.ExprFacts.{value_roll, mentions_roll}
use Rattle.net_resolve.proofs.Sound.{shape_of, given_at, shapes_at, widths_at, uncut, fitting}
use Rattle.sim_plain.specs.Words.{Held, held, level_held, level_fits}
use Rattle.sim_plain.proofs.Exact.{held_word}

made_roll : (signals : List SignalInfo) (x : GroundExpr-F GroundExpr) → made signals (roll-GroundExpr x) ≡ level_made signals (map-GroundExpr GroundExpr Made (made signals) x)
made_roll signals = fold-roll-GroundExpr Made (level_made signals)

judged_roll : (signals : List SignalInfo) (w : List ℕ) (x : GroundExpr-F GroundExpr) → judged signals w (roll-GroundExpr x) ≡ level_judged signals w (map-GroundExpr GroundExpr Judged (judged signals w) x)
judged_roll signals w = fold-roll-GroundExpr Judged (level_judged signals w)

held_roll : (signals : List SignalInfo) (V : ℕ → ℕ) (x : GroundExpr-F GroundExpr) → held signals V (roll-GroundExpr x) ≡ level_held signals V (map-GroundExpr GroundExpr Held (held signals V) x)
held_roll signals V = fold-roll-GroundExpr Held (level_held signals V)

-- ---- signs

-- an expression is made with the sign of its value
abbrev Signed : List SignalInfo → (ℕ → ℕ) → GroundExpr → Type 0
Signed signals V e = (made signals e).shape.signed ≡ (value signals e V).signed

abbrev WithSign : List SignalInfo → (ℕ → ℕ) → Type 0
WithSign signals V = (e : GroundExpr) × Signed signals V e

sign_at : (signals : List SignalInfo) (V : ℕ → ℕ) (es : List (WithSign signals V)) (k : ℕ)
    → (shape_at (map (λ (m : Made). m.shape) (map (made signals) (map (λ e. e.0) es))) k).signed ≡ (word_at (map (λ c. value signals c V) (map (λ e. e.0) es)) k).signed
sign_at signals V [] zero = refl
sign_at signals V [] (suc k) = refl
sign_at signals V (e ∷ es) zero = e.1
sign_at signals V (e ∷ es) (suc k) = sign_at signals V es k

level_signed : (signals : List SignalInfo) (V : ℕ → ℕ) (x : GroundExpr-F (WithSign signals V))
    → (level_shape signals [] (map-GroundExpr Made Shape (λ m. m.shape) (map-GroundExpr GroundExpr Made (made signals) (map-GroundExpr (WithSign signals V) GroundExpr (λ e. e.0) x)))).signed
    ≡ (level_value signals V (map-GroundExpr GroundExpr Word (λ c. value signals c V) (map-GroundExpr (WithSign signals V) GroundExpr (λ e. e.0) x))).signed
level_signed signals V (GroundExpr-F.Read s) = refl
level_signed signals V (GroundExpr-F.Lit sign width negative n) = refl
level_signed signals V (GroundExpr-F.Apply op args nums) =
    let a = sign_at signals V args 0 in
    let b = sign_at signals V args 1 in
    ap (λ s. row_signed op (leading op s (shape_at (map (λ (m : Made). m.shape) (map (made signals) (map (λ e. e.0) args))) 1).signed)) a
    ∙ ap (λ s. row_signed op (leading op (word_at (map (λ c. value signals c V) (map (λ e. e.0) args)) 0).signed s)) b
level_signed signals V (GroundExpr-F.Select index items) = sign_at signals V items 0
level_signed signals V (GroundExpr-F.IndexIs index place) = refl

signed : (signals : List SignalInfo) (V : ℕ → ℕ) (e : GroundExpr) → Signed signals V e
signed signals V = ind-GroundExpr (Signed signals V) (λ x y is. subst (λ z. Signed signals V (roll-GroundExpr z)) is (step y))
  where
    step : (y : GroundExpr-F (WithSign signals V)) → Signed signals V (roll-GroundExpr (map-GroundExpr (WithSign signals V) GroundExpr (λ e. e.0) y))
    step y =
        let m : GroundExpr-F GroundExpr = map-GroundExpr (WithSign signals V) GroundExpr (λ e. e.0) y in
        ap (λ (m : Made). m.shape.signed) (made_roll signals m) ∙ level_signed signals V y ∙ ap (λ (w : Word). w.signed) (sym (value_roll signals V m))

signs_at : (signals : List SignalInfo) (V : ℕ → ℕ) (es : List GroundExpr) (k : ℕ)
    → (shape_at (map (λ (m : Made). m.shape) (map (made signals) es)) k).signed ≡ (word_at (map (λ c. value signals c V) es) k).signed
signs_at signals V [] zero = refl
signs_at signals V [] (suc k) = refl
signs_at signals V (e ∷ es) zero = signed signals V e
signs_at signals V (e ∷ es) (suc k) = signs_at signals V es k

-- ---- lists of parts

shapes_are : (signals : List SignalInfo) (V : ℕ → ℕ) (es : List GroundExpr)
    → any (map (λ (j : Judged). j.wide) (map (judged signals (map given_width signals)) es)) ≡ false
    → map (λ (j : Judged). j.shape) (map (judged signals (map given_width signals)) es) ≡ map shape_of (map (λ c. value signals c V) es)
shapes_are signals V [] h = refl
shapes_are signals V (e ∷ es) h =
    let p = or_parts _ _ h in
    let a : shape_of (value signals e V) ≡ (judged signals (map given_width signals) e).shape = fitting signals V e p.0 in
    let b = shapes_are signals V es p.1 in
    cc

held_words : (signals : List SignalInfo) (V : ℕ → ℕ) (es : List GroundExpr) → map (λ (h : Held). h.word) (map (held signals V) es) ≡ map (λ c. value signals c V) es
held_words signals V [] = refl
held_words signals V (e ∷ es) = let a : (held signals V e).word ≡ value signals e V = held_word signals V e in let b = held_words signals V es in cc

pub both : (p q : Bool) → p ≡ true → q ≡ true → (p && q) ≡ true
both true q h g = g
both false q h g = cc

-- ---- one level

-- below 129 the width is at most 128
narrow : (n : ℕ) → (min 129 n == 129) ≡ false → nat_le n 128 ≡ true
narrow n h = le-leb n 128 (few (uncut n h))
  where
    apart : min 129 n ≢ 129
    apart = λ e. cc (ap (λ m. m == 129) e, h)

    few : min 129 n ≡ n → n ≤ 128
    few e = omega (arith, e, apart)

-- signs, numbers and width of a row
row_held : (op : Op) (a b c : Word) (n m : ℕ) → signs_fit op a.signed b.signed c.signed ≡ true → in_range op a.width n m ≡ true
    → (min 129 (row_width op a.signed a.width b.width c.width n m) == 129) ≡ false → row_fits op a b c n m ≡ true
row_held op a b c n m s r w =
    let t = narrow (row_width op a.signed a.width b.width c.width n m) w in
    cc

in_range_of : (r o : Bool) → (not r || o) ≡ false → r ≡ true
in_range_of true o h = refl
in_range_of false o h = cc

apply_fits : (signals : List SignalInfo) (V : ℕ → ℕ) (op : Op) (es : List GroundExpr) (nums : List ℕ)
    → is_right (GroundExpr-F.Apply op (map (λ (m : Made). m.shape) (map (made signals) es)) nums) ≡ true
    → any (map (λ (j : Judged). j.wide) (map (judged signals (map given_width signals)) es)) ≡ false
    → ((level_shape signals (map given_width signals) (GroundExpr-F.Apply op (map (λ (j : Judged). j.shape) (map (judged signals (map given_width signals)) es)) nums)).width == 129) ≡ false
    → is_out (GroundExpr-F.Apply op (map (λ (j : Judged). j.shape) (map (judged signals (map given_width signals)) es)) nums) ≡ false
    → level_fits signals (GroundExpr-F.Apply op (map (λ c. value signals c V) es) nums) ≡ true
apply_fits signals V op es nums right wide w out =
    let ws : List Word = map (λ c. value signals c V) es in
    let ms : List Shape = map (λ (m : Made). m.shape) (map (made signals) es) in
    let js : List Shape = map (λ (j : Judged). j.shape) (map (judged signals (map given_width signals)) es) in
    let s : js ≡ map shape_of ws = shapes_are signals V es wide in
    let p = and_parts (length ms == operand_count op) ((length nums == number_count op) && signs_fit op (shape_at ms 0).signed (shape_at ms 1).signed (shape_at ms 2).signed) right in
    let q = and_parts (length nums == number_count op) (signs_fit op (shape_at ms 0).signed (shape_at ms 1).signed (shape_at ms 2).signed) p.1 in
    let count : length ms ≡ length ws = length-map (map (made signals) es) (λ (m : Made). m.shape) ∙ length-map es (made signals) ∙ sym (length-map es (λ c. value signals c V)) in
    let signs : signs_fit op (word_at ws 0).signed (word_at ws 1).signed (word_at ws 2).signed ≡ true
    = rw (← signs_at signals V es 0, ← signs_at signals V es 1, ← signs_at signals V es 2) q.1 in
    let range : in_range op (word_at ws 0).width (slice_index nums 0) (slice_index nums 1) ≡ true
    = ap (λ (t : Shape). in_range op t.width (slice_index nums 0) (slice_index nums 1)) (sym (ap (λ (l : List Shape). shape_at l 0) s ∙ shapes_at ws 0))
    ∙ in_range_of (in_range op (shape_at js 0).width (slice_index nums 0) (slice_index nums 1)) (is_mux op && nat_lt 1 (shape_at js 0).width) out in
    let width : (min 129 (row_width op (word_at ws 0).signed (word_at ws 0).width (word_at ws 1).width (word_at ws 2).width (slice_index nums 0) (slice_index nums 1)) == 129) ≡ false
    = rw (← widths_at ws 0, ← widths_at ws 1, ← widths_at ws 2, ← ap (λ (t : Shape). t.signed) (shapes_at ws 0)) (ap (λ (l : List Shape). (level_shape signals (map given_width signals) (GroundExpr-F.Apply op l nums)).width == 129) (sym s) ∙ w) in
    both ((length ws == operand_count op) && (length nums == number_count op)) _
    (both (length ws == operand_count op) (length nums == number_count op) (ap (λ n. n == operand_count op) (sym count) ∙ p.0) q.0)
    (row_held op (word_at ws 0) (word_at ws 1) (word_at ws 2) (slice_index nums 0) (slice_index nums 1) signs range width)

-- ---- expressions

-- an expression that is made right, and breaks no rule in any part
pub record Sound (signals : List SignalInfo) (e : GroundExpr) : Type 0 where
  pub right : (made signals e).right ≡ true
  pub thin : (judged signals (map given_width signals) e).wide ≡ false
  pub good : (judged signals (map given_width signals) e).bad ≡ false

abbrev Holds : List SignalInfo → (ℕ → ℕ) → GroundExpr → Type 0
Holds signals V e = (made signals e).right ≡ true → (judged signals (map given_width signals) e).wide ≡ false → (judged signals (map given_width signals) e).bad ≡ false → (held signals V e).fits ≡ true

abbrev With : List SignalInfo → (ℕ → ℕ) → Type 0
With signals V = (e : GroundExpr) × Holds signals V e

all_hold : (signals : List SignalInfo) (V : ℕ → ℕ) (es : List (With signals V))
    → list_all (λ (m : Made). m.right) (map (made signals) (map (λ e. e.0) es)) ≡ true
    → any (map (λ (j : Judged). j.wide) (map (judged signals (map given_width signals)) (map (λ e. e.0) es))) ≡ false
    → any (map (λ (j : Judged). j.bad) (map (judged signals (map given_width signals)) (map (λ e. e.0) es))) ≡ false
    → list_all (λ (h : Held). h.fits) (map (held signals V) (map (λ e. e.0) es)) ≡ true
all_hold signals V [] r w b = refl
all_hold signals V (e ∷ es) r w b =
    let p = and_parts (made signals e.0).right _ r in
    let q = or_parts _ _ w in
    let t = or_parts _ _ b in
    both (held signals V e.0).fits _ (e.1 p.0 q.0 t.0) (all_hold signals V es p.1 q.1 t.1)

-- no part breaks a rule

thin_parts : (signals : List SignalInfo) (w : List ℕ) (x : GroundExpr-F Judged) → (level_judged signals w x).wide ≡ false → any (map (λ (j : Judged). j.wide) (parts x)) ≡ false
thin_parts signals w x h = (or_parts _ _ h).1

good_parts : (signals : List SignalInfo) (w : List ℕ) (x : GroundExpr-F Judged) → (level_judged signals w x).bad ≡ false → any (map (λ (j : Judged). j.bad) (parts x)) ≡ false
good_parts signals w x h = (or_parts _ _ h).1

level_holds : (signals : List SignalInfo) (V : ℕ → ℕ) (x : GroundExpr-F (With signals V))
    → (level_made signals (map-GroundExpr GroundExpr Made (made signals) (map-GroundExpr (With signals V) GroundExpr (λ e. e.0) x))).right ≡ true
    → (level_judged signals (map given_width signals) (map-GroundExpr GroundExpr Judged (judged signals (map given_width signals)) (map-GroundExpr (With signals V) GroundExpr (λ e. e.0) x))).wide ≡ false
    → (level_judged signals (map given_width signals) (map-GroundExpr GroundExpr Judged (judged signals (map given_width signals)) (map-GroundExpr (With signals V) GroundExpr (λ e. e.0) x))).bad ≡ false
    → (level_held signals V (map-GroundExpr GroundExpr Held (held signals V) (map-GroundExpr (With signals V) GroundExpr (λ e. e.0) x))).fits ≡ true
level_holds signals V (GroundExpr-F.Read s) r w b =
    let p = or_parts _ _ w in
    both (nat_le (given_width (info signals s.0)) 128) true (ap (λ n. nat_le n 128) (sym (given_at signals s.0)) ∙ narrow (slice_index (map given_width signals) s.0) p.0) refl
level_holds signals V (GroundExpr-F.Lit sign width negative n) r w b =
    let p = or_parts _ _ w in
    both (nat_le (unwrap_or width (literal_width sign negative n)) 128) true (narrow (unwrap_or width (literal_width sign negative n)) p.0) refl
level_holds signals V (GroundExpr-F.Apply op args nums) r w b =
    let es : List GroundExpr = map (λ e. e.0) args in
    let p = and_parts (is_right (GroundExpr-F.Apply op (map (λ (m : Made). m.shape) (map (made signals) es)) nums)) _ r in
    let q = or_parts _ _ w in
    let t = or_parts _ _ b in
    both (level_fits signals (GroundExpr-F.Apply op (map (λ (h : Held). h.word) (map (held signals V) es)) nums)) _
    (ap (λ (ws : List Word). level_fits signals (GroundExpr-F.Apply op ws nums)) (held_words signals V es) ∙ apply_fits signals V op es nums p.0 q.1 q.0 t.0)
    (all_hold signals V args p.1 q.1 t.1)
level_holds signals V (GroundExpr-F.Select index items) r w b =
    let J = judged signals (map given_width signals) in
    let es : List GroundExpr = map (λ e. e.0) items in
    let x : GroundExpr-F Judged = GroundExpr-F.Select (J index.0) (map J es) in
    let p = and_parts _ _ r in
    let u = and_parts (made signals index.0).right _ p.1 in
    let q = or_parts (J index.0).wide (any (map (λ (j : Judged). j.wide) (map J es))) (thin_parts signals (map given_width signals) x w) in
    let t = or_parts (J index.0).bad (any (map (λ (j : Judged). j.bad) (map J es))) (good_parts signals (map given_width signals) x b) in
    both (held signals V index.0).fits _ (index.1 u.0 q.0 t.0) (all_hold signals V items u.1 q.1 t.1)
level_holds signals V (GroundExpr-F.IndexIs index place) r w b =
    let J = judged signals (map given_width signals) in
    let x : GroundExpr-F Judged = GroundExpr-F.IndexIs (J index.0) place in
    let p = and_parts _ _ r in
    let u = and_parts (made signals index.0).right _ p.1 in
    let q = or_parts (J index.0).wide false (thin_parts signals (map given_width signals) x w) in
    let t = or_parts (J index.0).bad false (good_parts signals (map given_width signals) x b) in
    both (held signals V index.0).fits true (index.1 u.0 q.0 t.0) refl

holds : (signals : List SignalInfo) (V : ℕ → ℕ) (e : GroundExpr) → Holds signals V e
holds signals V = ind-GroundExpr (Holds signals V) (λ x y is. subst (λ z. Holds signals V (roll-GroundExpr z)) is (step y))
  where
    step : (y : GroundExpr-F (With signals V)) → Holds signals V (roll-GroundExpr (map-GroundExpr (With signals V) GroundExpr (λ e. e.0) y))
    step y r w b =
        let m : GroundExpr-F GroundExpr = map-GroundExpr (With signals V) GroundExpr (λ e. e.0) y in
        let j = judged_roll signals (map given_width signals) m in
        ap (λ (h : Held). h.fits) (held_roll signals V m)
        ∙ level_holds signals V y (ap (λ (k : Made). k.right) (sym (made_roll signals m)) ∙ r) (ap (λ (k : Judged). k.wide) (sym j) ∙ w) (ap (λ (k : Judged). k.bad) (sym j) ∙ b)

-- bits hold the values of a sound expression and of its parts
pub sound_fits : (signals : List SignalInfo) (V : ℕ → ℕ) (e : GroundExpr) → Sound signals e → (held signals V e).fits ≡ true
sound_fits signals V e s = holds signals V e s.right s.thin s.good

-- ---- other lists of signals, which agree on those that the expression mentions

abbrev Alike : List SignalInfo → List SignalInfo → (ℕ → ℕ) → GroundExpr → Type 0
Alike s t V e = ((y : ℕ) → mentions e y ≡ true → info s y ≡ info t y) → held s V e ≡ held t V e

abbrev WithAlike : List SignalInfo → List SignalInfo → (ℕ → ℕ) → Type 0
WithAlike s t V = (e : GroundExpr) × Alike s t V e

all_alike : (s t : List SignalInfo) (V : ℕ → ℕ) (es : List (WithAlike s t V))
    → ((y : ℕ) → any (map (λ c. mentions c y) (map (λ e. e.0) es)) ≡ true → info s y ≡ info t y)
    → map (held s V) (map (λ e. e.0) es) ≡ map (held t V) (map (λ e. e.0) es)
all_alike s t V [] h = refl
all_alike s t V (e ∷ es) h =
    let a : held s V e.0 ≡ held t V e.0 = e.1 (λ y m. h y (or_left (mentions e.0 y) (any (map (λ c. mentions c y) (map (λ e. e.0) es))) m)) in
    let b = all_alike s t V es (λ y m. h y (or_right (mentions e.0 y) (any (map (λ c. mentions c y) (map (λ e. e.0) es))) m)) in
    cc

level_alike : (s t : List SignalInfo) (V : ℕ → ℕ) (x : GroundExpr-F (WithAlike s t V))
    → ((y : ℕ) → level_mentions y (map-GroundExpr GroundExpr Bool (λ c. mentions c y) (map-GroundExpr (WithAlike s t V) GroundExpr (λ e. e.0) x)) ≡ true → info s y ≡ info t y)
    → level_held s V (map-GroundExpr GroundExpr Held (held s V) (map-GroundExpr (WithAlike s t V) GroundExpr (λ e. e.0) x))
    ≡ level_held t V (map-GroundExpr GroundExpr Held (held t V) (map-GroundExpr (WithAlike s t V) GroundExpr (λ e. e.0) x))
level_alike s t V (GroundExpr-F.Read r) h =
    ap (λ (i : SignalInfo). record { word = Rattle.net_core.specs.Values.word_of i (V r.0); fits = nat_le (given_width i) 128 && true }) (h r.0 (eq-eqb r.0 r.0 refl))
level_alike s t V (GroundExpr-F.Lit sign width negative n) h = refl
level_alike s t V (GroundExpr-F.Apply op args nums) h =
    ap (λ (hs : List Held). level_held t V (GroundExpr-F.Apply op hs nums)) (all_alike s t V args h)
level_alike s t V (GroundExpr-F.Select index items) h =
    ap (λ (i : Held). level_held t V (GroundExpr-F.Select i (map (held s V) (map (λ e. e.0) items))))
    (index.1 (λ y m. h y (or_left (mentions index.0 y) (any (map (λ c. mentions c y) (map (λ e. e.0) items))) m)))
    ∙ ap (λ (hs : List Held). level_held t V (GroundExpr-F.Select (held t V index.0) hs))
    (all_alike s t V items (λ y m. h y (or_right (mentions index.0 y) (any (map (λ c. mentions c y) (map (λ e. e.0) items))) m)))
level_alike s t V (GroundExpr-F.IndexIs index place) h =
    ap (λ (i : Held). level_held t V (GroundExpr-F.IndexIs i place)) (index.1 h)

pub alike : (s t : List SignalInfo) (V : ℕ → ℕ) (e : GroundExpr) → Alike s t V e
alike s t V = ind-GroundExpr (Alike s t V) (λ x y is. subst (λ z. Alike s t V (roll-GroundExpr z)) is (λ h.
    held_roll s V (map-GroundExpr (WithAlike s t V) GroundExpr (λ e. e.0) y)
    ∙ level_alike s t V y (λ r m. h r (mentions_roll r (map-GroundExpr (WithAlike s t V) GroundExpr (λ e. e.0) y) ∙ m))
    ∙ sym (held_roll t V (map-GroundExpr (WithAlike s t V) GroundExpr (λ e. e.0) y))))
