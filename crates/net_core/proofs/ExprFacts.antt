-- An expression's value depends on what it mentions.
use Rattle.std.proofs.Common.{◌≡◌, ◌∙◌, sym, ap, ℕ, Bool, true, false, List, [], ◌∷◌, ◌==◌, refl, map, subst}
use Rattle.std.proofs.lemmas.Bool.{or_left, or_right, eq-eqb}
use Rattle.std.specs.Prelude.{slice_index}
use Rattle.tb_base.specs.Word.{Word, cut, value_of}
use Rattle.tb_base.specs.Row.{row_word, flag}
use Rattle.net_core.specs.declared.tree.SignalInfo.{SignalInfo}
use Rattle.net_core.specs.declared.tree.GroundExpr.{GroundExpr}
use Rattle.net_core.specs.declared.tree.GroundExpr.TheFolds.{fold-roll-GroundExpr, ind-GroundExpr, map-GroundExpr}
use Rattle.net_core.specs.declared.tree.GroundExpr.TheOpen.{GroundExpr-F}
use Rattle.net_core.specs.declared.tree.GroundExpr.TheViews.{roll-GroundExpr}
use Rattle.net_core.specs.Shapes.{greatest}
use Rattle.net_core.specs.Signals.{info}
use Rattle.net_core.specs.Values.{any, level_value, value, level_mentions, mentions, word_at, word_of}

abbrev pub Local : List SignalInfo → GroundExpr → Type 0
Local signals e = (V W : ℕ → ℕ) → ((y : ℕ) → mentions e y ≡ true → V y ≡ W y) → value signals e V ≡ value signals e W

pub value_roll : (signals : List SignalInfo) (V : ℕ → ℕ) (x : GroundExpr-F GroundExpr)
    → value signals (roll-GroundExpr x) V ≡ level_value signals V (map-GroundExpr GroundExpr Word (λ c. value signals c V) x)
value_roll signals V = fold-roll-GroundExpr Word (level_value signals V)

pub mentions_roll : (y : ℕ) (x : GroundExpr-F GroundExpr) → mentions (roll-GroundExpr x) y ≡ level_mentions y (map-GroundExpr GroundExpr Bool (λ c. mentions c y) x)
mentions_roll y = fold-roll-GroundExpr Bool (level_mentions y)

-- an expression that has the property: what a level holds
abbrev With : List SignalInfo → Type 0
With signals = (e : GroundExpr) × Local signals e

all_local : (signals : List SignalInfo) (es : List (With signals)) (V W : ℕ → ℕ)
    → ((y : ℕ) → any (map (λ c. mentions c y) (map (λ e. e.0) es)) ≡ true → V y ≡ W y)
    → map (λ c. value signals c V) (map (λ e. e.0) es) ≡ map (λ c. value signals c W) (map (λ e. e.0) es)
all_local signals [] V W h = refl
all_local signals (e ∷ es) V W h =
    let a : value signals e.0 V ≡ value signals e.0 W = e.1 V W (λ y m. h y (or_left (mentions e.0 y) (any (map (λ c. mentions c y) (map (λ e. e.0) es))) m)) in
    let b = all_local signals es V W (λ y m. h y (or_right (mentions e.0 y) (any (map (λ c. mentions c y) (map (λ e. e.0) es))) m)) in
    cc

-- a Select's value by those of its parts
abbrev picked : Word → List Word → Word
picked i ws = cut (greatest (map (λ w. w.width) ws)) (word_at ws 0).signed (value_of (word_at ws i.raw))

level_local : (signals : List SignalInfo) (x : GroundExpr-F (With signals)) (V W : ℕ → ℕ)
    → ((y : ℕ) → level_mentions y (map-GroundExpr GroundExpr Bool (λ c. mentions c y) (map-GroundExpr (With signals) GroundExpr (λ e. e.0) x)) ≡ true → V y ≡ W y)
    → level_value signals V (map-GroundExpr GroundExpr Word (λ c. value signals c V) (map-GroundExpr (With signals) GroundExpr (λ e. e.0) x))
    ≡ level_value signals W (map-GroundExpr GroundExpr Word (λ c. value signals c W) (map-GroundExpr (With signals) GroundExpr (λ e. e.0) x))
level_local signals (GroundExpr-F.Read s) V W h = ap (λ n. word_of (info signals s.0) n) (h s.0 (eq-eqb s.0 s.0 refl))
level_local signals (GroundExpr-F.Lit sign width negative n) V W h = refl
level_local signals (GroundExpr-F.Apply op args nums) V W h =
    ap (λ ws. row_word op (word_at ws 0) (word_at ws 1) (word_at ws 2) (slice_index nums 0) (slice_index nums 1)) (all_local signals args V W h)
level_local signals (GroundExpr-F.Select index items) V W h =
    ap (λ (i : Word). picked i (map (λ c. value signals c V) (map (λ e. e.0) items)))
    (index.1 V W (λ y m. h y (or_left (mentions index.0 y) (any (map (λ c. mentions c y) (map (λ e. e.0) items))) m)))
    ∙ ap (λ (ws : List Word). picked (value signals index.0 W) ws)
    (all_local signals items V W (λ y m. h y (or_right (mentions index.0 y) (any (map (λ c. mentions c y) (map (λ e. e.0) items))) m)))
level_local signals (GroundExpr-F.IndexIs index place) V W h =
    ap (λ (w : Word). cut 1 false (flag (w.raw == place))) (index.1 V W h)

pub local : (signals : List SignalInfo) (e : GroundExpr) → Local signals e
local signals = ind-GroundExpr (Local signals) (λ x y is. subst (λ z. Local signals (roll-GroundExpr z)) is (λ V W h.
    value_roll signals V (map-GroundExpr (With signals) GroundExpr (λ e. e.0) y)
    ∙ level_local signals y V W (λ s m. h s (mentions_roll s (map-GroundExpr (With signals) GroundExpr (λ e. e.0) y) ∙ m))
    ∙ sym (value_roll signals W (map-GroundExpr (With signals) GroundExpr (λ e. e.0) y))))
