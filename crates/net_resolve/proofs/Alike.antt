-- An expression's value depends on the signals that it mentions: other lists of signals serve as well.
use Rattle.std.proofs.Common.{◌≡◌, ◌∙◌, sym, ap, ℕ, ◌<◌, Bool, true, false, List, [], ◌∷◌, ◌==◌, refl, map, subst, nat_eq, Option, Some, None, cond}
use Rattle.std.proofs.lemmas.Bool.{or_left, or_right, eq-eqb}
use Rattle.std.specs.Prelude.{slice_index}
use Rattle.tb_base.specs.Word.{Word, cut, value_of}
use Rattle.tb_base.specs.Row.{row_word, flag}
use Rattle.net_core.specs.declared.tree.SignalInfo.{SignalInfo}
use Rattle.net_core.specs.declared.tree.GroundExpr.{GroundExpr}
use Rattle.net_core.specs.declared.tree.GroundExpr.TheFolds.{ind-GroundExpr, map-GroundExpr}
use Rattle.net_core.specs.declared.tree.GroundExpr.TheOpen.{GroundExpr-F}
use Rattle.net_core.specs.declared.tree.GroundExpr.TheViews.{roll-GroundExpr}
use Rattle.net_core.specs.Shapes.{greatest}
use Rattle.net_core.specs.Signals.{info}
use Rattle.net_core.specs.Values.{any, level_value, value, level_mentions, mentions, word_at, word_of}
use Rattle.net_core.specs.Last.{source, source_mentions}
use Rattle.net_core.specs.Nets.{Choices, nothing, take, branch, chosen}
use Rattle.net_core.proofs.ExprFacts.{value_roll, mentions_roll}
use Rattle.net_resolve.proofs.Bounds.{Bounded}

abbrev pub Alike : List SignalInfo → List SignalInfo → (ℕ → ℕ) → GroundExpr → Type 0
Alike s t V e = ((y : ℕ) → mentions e y ≡ true → info s y ≡ info t y) → value s e V ≡ value t e V

-- an expression that has the property: what a level holds
abbrev With : List SignalInfo → List SignalInfo → (ℕ → ℕ) → Type 0
With s t V = (e : GroundExpr) × Alike s t V e

all_alike : (s t : List SignalInfo) (V : ℕ → ℕ) (es : List (With s t V))
    → ((y : ℕ) → any (map (λ c. mentions c y) (map (λ e. e.0) es)) ≡ true → info s y ≡ info t y)
    → map (λ c. value s c V) (map (λ e. e.0) es) ≡ map (λ c. value t c V) (map (λ e. e.0) es)
all_alike s t V [] h = refl
all_alike s t V (e ∷ es) h =
    let a : value s e.0 V ≡ value t e.0 V = e.1 (λ y m. h y (or_left (mentions e.0 y) (any (map (λ c. mentions c y) (map (λ e. e.0) es))) m)) in
    let b = all_alike s t V es (λ y m. h y (or_right (mentions e.0 y) (any (map (λ c. mentions c y) (map (λ e. e.0) es))) m)) in
    cc

-- a Select's value by those of its parts
abbrev picked : Word → List Word → Word
picked i ws = cut (greatest (map (λ w. w.width) ws)) (word_at ws 0).signed (value_of (word_at ws i.raw))

level_alike : (s t : List SignalInfo) (V : ℕ → ℕ) (x : GroundExpr-F (With s t V))
    → ((y : ℕ) → level_mentions y (map-GroundExpr GroundExpr Bool (λ c. mentions c y) (map-GroundExpr (With s t V) GroundExpr (λ e. e.0) x)) ≡ true → info s y ≡ info t y)
    → level_value s V (map-GroundExpr GroundExpr Word (λ c. value s c V) (map-GroundExpr (With s t V) GroundExpr (λ e. e.0) x))
    ≡ level_value t V (map-GroundExpr GroundExpr Word (λ c. value t c V) (map-GroundExpr (With s t V) GroundExpr (λ e. e.0) x))
level_alike s t V (GroundExpr-F.Read r) h = ap (λ i. word_of i (V r.0)) (h r.0 (eq-eqb r.0 r.0 refl))
level_alike s t V (GroundExpr-F.Lit sign width negative n) h = refl
level_alike s t V (GroundExpr-F.Apply op args nums) h =
    ap (λ ws. row_word op (word_at ws 0) (word_at ws 1) (word_at ws 2) (slice_index nums 0) (slice_index nums 1)) (all_alike s t V args h)
level_alike s t V (GroundExpr-F.Select index items) h =
    ap (λ (i : Word). picked i (map (λ c. value s c V) (map (λ e. e.0) items)))
    (index.1 (λ y m. h y (or_left (mentions index.0 y) (any (map (λ c. mentions c y) (map (λ e. e.0) items))) m)))
    ∙ ap (λ (ws : List Word). picked (value t index.0 V) ws)
    (all_alike s t V items (λ y m. h y (or_right (mentions index.0 y) (any (map (λ c. mentions c y) (map (λ e. e.0) items))) m)))
level_alike s t V (GroundExpr-F.IndexIs index place) h =
    ap (λ (w : Word). cut 1 false (flag (w.raw == place))) (index.1 h)

pub alike : (s t : List SignalInfo) (V : ℕ → ℕ) (e : GroundExpr) → Alike s t V e
alike s t V = ind-GroundExpr (Alike s t V) (λ x y is. subst (λ z. Alike s t V (roll-GroundExpr z)) is (λ h.
    value_roll s V (map-GroundExpr (With s t V) GroundExpr (λ e. e.0) y)
    ∙ level_alike s t V y (λ r m. h r (mentions_roll r (map-GroundExpr (With s t V) GroundExpr (λ e. e.0) y) ∙ m))
    ∙ sym (value_roll t V (map-GroundExpr (With s t V) GroundExpr (λ e. e.0) y))))

source_alike : (s t : List SignalInfo) (V : ℕ → ℕ) (e : Option GroundExpr) → ((y : ℕ) → source_mentions e y ≡ true → info s y ≡ info t y) → source s e V ≡ source t e V
source_alike s t V None h = refl
source_alike s t V (Some e) h = alike s t V e h

-- choices over signals below n give the same for lists of signals that agree below n
pub chosen_alike : (s t : List SignalInfo) (V : ℕ → ℕ) (n : ℕ) (c : Choices) (d : Option Word) → ((y : ℕ) → y < n → info s y ≡ info t y) → Bounded n c → chosen s V c d ≡ chosen t V c d
chosen_alike s t V n nothing d h b = refl
chosen_alike s t V n (take e rest) d h b =
    rw (source_alike s t V e (λ y m. h y (b.0 y m))) (chosen_alike s t V n rest (Some (source t e V)) h b.1)
chosen_alike s t V n (branch k p q rest) d h b =
    rw (chosen_alike s t V n p d h b.1, chosen_alike s t V n q d h b.2) (chosen_alike s t V n rest (cond (nat_eq (V k) 1) (chosen t V p d) (chosen t V q d)) h b.3)
