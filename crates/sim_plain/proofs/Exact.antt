-- Where an expression fits, what is computed is its value.
use Rattle.std.proofs.Common.{◌≡◌, ◌∙◌, sym, ap, ℕ, pos, Bool, true, false, ◌&&◌, ◌==◌, List, [], ◌∷◌, Option, Some, None, refl, map, subst, cond, nat_le, length}
use Rattle.std.specs.List.{list_all}
use Rattle.std.specs.Prelude.{slice_index, unwrap_or}
use Rattle.tb_base.specs.Word.{Word, cut}
use Rattle.tb_base.specs.Row.{row_word, row_fits, flag, no_word, applied, operand_count, number_count}
use Rattle.tb_base.specs.declared.op.Op.{Op}
use Rattle.tb_base.proofs.Words.{low_bits-value_of}
use Rattle.net_core.specs.declared.tree.SignalInfo.{SignalInfo}
use Rattle.net_core.specs.declared.tree.GroundExpr.{GroundExpr}
use Rattle.net_core.specs.declared.tree.GroundExpr.TheFolds.{fold-roll-GroundExpr, ind-GroundExpr, map-GroundExpr}
use Rattle.net_core.specs.declared.tree.GroundExpr.TheOpen.{GroundExpr-F}
use Rattle.net_core.specs.declared.tree.GroundExpr.TheViews.{roll-GroundExpr}
use Rattle.net_core.specs.Shapes.{literal_width}
use Rattle.net_core.specs.Signals.{info, given_width}
use Rattle.net_core.specs.Values.{level_value, value, word_at, literal_value}
use Rattle.net_core.proofs.ExprFacts.{value_roll}
use Rattle.sim_plain.specs.Words.{Held, held, level_held, level_fits, computed, level_computed, within, picked_word, InWidths, source_fits}
use Rattle.net_core.specs.Last.{source}

pub both_true : (x y : Bool) → (x && y) ≡ true → (x ≡ true) × (y ≡ true)
both_true true y h = (refl, h)
both_true false y h = cc

abbrev pub Exact : List SignalInfo → (ℕ → ℕ) → GroundExpr → Type 0
Exact signals V e = ((held signals V e).word ≡ value signals e V) × (InWidths signals V → (held signals V e).fits ≡ true → computed signals V e ≡ value signals e V)

abbrev With : List SignalInfo → (ℕ → ℕ) → Type 0
With signals V = (e : GroundExpr) × Exact signals V e

words_are : (signals : List SignalInfo) (V : ℕ → ℕ) (es : List (With signals V))
    → map (λ (h : Held). h.word) (map (held signals V) (map (λ e. e.0) es)) ≡ map (λ c. value signals c V) (map (λ e. e.0) es)
words_are signals V [] = refl
words_are signals V (e ∷ es) = let a : (held signals V e.0).word ≡ value signals e.0 V = e.1.0 in let b = words_are signals V es in cc

computed_are : (signals : List SignalInfo) (V : ℕ → ℕ) → InWidths signals V → (es : List (With signals V))
    → list_all (λ (h : Held). h.fits) (map (held signals V) (map (λ e. e.0) es)) ≡ true
    → map (computed signals V) (map (λ e. e.0) es) ≡ map (λ c. value signals c V) (map (λ e. e.0) es)
computed_are signals V i [] h = refl
computed_are signals V i (e ∷ es) h =
    let p = both_true (held signals V e.0).fits (list_all (λ (h : Held). h.fits) (map (held signals V) (map (λ e. e.0) es))) h in
    let a : computed signals V e.0 ≡ value signals e.0 V = e.1.1 i p.0 in
    let b = computed_are signals V i es p.1 in
    cc

pub within_is : (w : ℕ) → nat_le w 128 ≡ true → within w ≡ w
within_is w h = rw h refl

row_of : (op : Op) (ws : List Word) (nums : List ℕ)
    → (((length ws == operand_count op) && (length nums == number_count op)) && row_fits op (word_at ws 0) (word_at ws 1) (word_at ws 2) (slice_index nums 0) (slice_index nums 1)) ≡ true
    → unwrap_or (applied op ws nums) no_word ≡ row_word op (word_at ws 0) (word_at ws 1) (word_at ws 2) (slice_index nums 0) (slice_index nums 1)
row_of op ws nums h =
    let p = both_true ((length ws == operand_count op) && (length nums == number_count op)) (row_fits op (word_at ws 0) (word_at ws 1) (word_at ws 2) (slice_index nums 0) (slice_index nums 1)) h in
    chosen ((length ws == operand_count op) && (length nums == number_count op)) (row_fits op (word_at ws 0) (word_at ws 1) (word_at ws 2) (slice_index nums 0) (slice_index nums 1)) _ p.0 p.1
  where
    chosen : (t u : Bool) (w : Word) → t ≡ true → u ≡ true → unwrap_or (cond t (cond u (Some w) None) None) no_word ≡ w
    chosen t u w a b = rw (a, b) refl

level_words : (signals : List SignalInfo) (V : ℕ → ℕ) (x : GroundExpr-F (With signals V))
    → level_value signals V (map-GroundExpr Held Word (λ h. h.word) (map-GroundExpr GroundExpr Held (held signals V) (map-GroundExpr (With signals V) GroundExpr (λ e. e.0) x)))
    ≡ level_value signals V (map-GroundExpr GroundExpr Word (λ c. value signals c V) (map-GroundExpr (With signals V) GroundExpr (λ e. e.0) x))
level_words signals V (GroundExpr-F.Read s) = refl
level_words signals V (GroundExpr-F.Lit sign width negative n) = refl
level_words signals V (GroundExpr-F.Apply op args nums) =
    ap (λ (ws : List Word). row_word op (word_at ws 0) (word_at ws 1) (word_at ws 2) (slice_index nums 0) (slice_index nums 1)) (words_are signals V args)
level_words signals V (GroundExpr-F.Select index items) =
    ap (λ (i : Word). picked_word (map (λ (h : Held). h.word) (map (held signals V) (map (λ e. e.0) items))) i.raw) index.1.0
    ∙ ap (λ (ws : List Word). picked_word ws (value signals index.0 V).raw) (words_are signals V items)
level_words signals V (GroundExpr-F.IndexIs index place) = ap (λ (w : Word). cut 1 false (flag (w.raw == place))) index.1.0

level_exact : (signals : List SignalInfo) (V : ℕ → ℕ) → InWidths signals V → (x : GroundExpr-F (With signals V))
    → (level_held signals V (map-GroundExpr GroundExpr Held (held signals V) (map-GroundExpr (With signals V) GroundExpr (λ e. e.0) x))).fits ≡ true
    → level_computed signals V (map-GroundExpr GroundExpr Word (computed signals V) (map-GroundExpr (With signals V) GroundExpr (λ e. e.0) x))
    ≡ level_value signals V (map-GroundExpr GroundExpr Word (λ c. value signals c V) (map-GroundExpr (With signals V) GroundExpr (λ e. e.0) x))
level_exact signals V i (GroundExpr-F.Read s) h =
    let p = both_true (nat_le (given_width (info signals s.0)) 128) true h in
    ap (λ w. cut w (info signals s.0).signed (pos (V s.0))) (within_is (given_width (info signals s.0)) p.0)
    ∙ ap (λ n. record { width = given_width (info signals s.0); signed = (info signals s.0).signed; raw = n })
    (low_bits-value_of (record { width = given_width (info signals s.0); signed = false; raw = V s.0 }) (i s.0))
level_exact signals V i (GroundExpr-F.Lit sign width negative n) h =
    let p = both_true (nat_le (unwrap_or width (literal_width sign negative n)) 128) true h in
    ap (λ w. cut w sign (literal_value negative n)) (within_is (unwrap_or width (literal_width sign negative n)) p.0)
level_exact signals V i (GroundExpr-F.Apply op args nums) h =
    let ws : List Word = map (λ (h : Held). h.word) (map (held signals V) (map (λ e. e.0) args)) in
    let p = both_true (level_fits signals (GroundExpr-F.Apply op ws nums)) (list_all (λ (h : Held). h.fits) (map (held signals V) (map (λ e. e.0) args))) h in
    ap (λ (cs : List Word). unwrap_or (applied op cs nums) no_word) (computed_are signals V i args p.1)
    ∙ row_of op (map (λ c. value signals c V) (map (λ e. e.0) args)) nums
    (subst (λ (vs : List Word). level_fits signals (GroundExpr-F.Apply op vs nums) ≡ true) (words_are signals V args) p.0)
level_exact signals V i (GroundExpr-F.Select index items) h =
    let p = both_true (held signals V index.0).fits (list_all (λ (h : Held). h.fits) (map (held signals V) (map (λ e. e.0) items))) h in
    ap (λ (w : Word). picked_word (map (computed signals V) (map (λ e. e.0) items)) w.raw) (index.1.1 i p.0)
    ∙ ap (λ (ws : List Word). picked_word ws (value signals index.0 V).raw) (computed_are signals V i items p.1)
level_exact signals V i (GroundExpr-F.IndexIs index place) h =
    let p = both_true (held signals V index.0).fits true h in
    ap (λ (w : Word). cut 1 false (flag (w.raw == place))) (index.1.1 i p.0)

exact_both : (signals : List SignalInfo) (V : ℕ → ℕ) (e : GroundExpr) → Exact signals V e
exact_both signals V = ind-GroundExpr (Exact signals V) (λ x y is. subst (λ z. Exact signals V (roll-GroundExpr z)) is
    (step y))
  where
    step : (y : GroundExpr-F (With signals V)) → Exact signals V (roll-GroundExpr (map-GroundExpr (With signals V) GroundExpr (λ e. e.0) y))
    step y =
        let m : GroundExpr-F GroundExpr = map-GroundExpr (With signals V) GroundExpr (λ e. e.0) y in
        let f : held signals V (roll-GroundExpr m) ≡ level_held signals V (map-GroundExpr GroundExpr Held (held signals V) m) = fold-roll-GroundExpr Held (level_held signals V) m in
        let g : computed signals V (roll-GroundExpr m) ≡ level_computed signals V (map-GroundExpr GroundExpr Word (computed signals V) m) = fold-roll-GroundExpr Word (level_computed signals V) m in
        let v = value_roll signals V m in (
          ap (λ (h : Held). h.word) f ∙ level_words signals V y ∙ sym v,
          λ i h. g ∙ level_exact signals V i y (ap (λ (t : Held). t.fits) (sym f) ∙ h) ∙ sym v,
        )

pub exact : (signals : List SignalInfo) (V : ℕ → ℕ) → InWidths signals V → (e : GroundExpr) → (held signals V e).fits ≡ true → computed signals V e ≡ value signals e V
exact signals V i e = (exact_both signals V e).1 i

-- the word that is held is the value
pub held_word : (signals : List SignalInfo) (V : ℕ → ℕ) (e : GroundExpr) → (held signals V e).word ≡ value signals e V
held_word signals V e = (exact_both signals V e).0

pub exact_source : (signals : List SignalInfo) (V : ℕ → ℕ) (s : Option GroundExpr) (e : GroundExpr) (r : Word) → s ≡ Some e → r ≡ computed signals V e
    → InWidths signals V → source_fits signals V s ≡ true → r ≡ source signals s V
exact_source signals V s e r q c i h =
    c ∙ exact signals V i e (ap (λ (o : Option GroundExpr). source_fits signals V o) (sym q) ∙ h) ∙ ap (λ (o : Option GroundExpr). source signals o V) (sym q)
