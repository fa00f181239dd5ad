-- What an expression mentions and what a signal reads, as lists that compute.
use Rattle.std.proofs.Common.{◌≡◌, ◌∙◌, sym, ap, subst, ℕ, Bool, true, false, List, [], ◌∷◌, ◌++◌, ◌||◌, Option, Some, None, nat_eq, cond, if◌then◌else◌, map, refl}
use Rattle.std.proofs.Math.Bool.{or-false}
use Rattle.net_core.specs.declared.tree.Elab.{Elab}
use Rattle.net_core.specs.declared.tree.SignalInfo.{SignalInfo}
use Rattle.net_core.specs.declared.tree.GroundExpr.{GroundExpr}
use Rattle.net_core.specs.declared.tree.GroundExpr.TheFolds.{fold-GroundExpr, fold-roll-GroundExpr, ind-GroundExpr, map-GroundExpr}
use Rattle.net_core.specs.declared.tree.GroundExpr.TheOpen.{GroundExpr-F}
use Rattle.net_core.specs.declared.tree.GroundExpr.TheViews.{roll-GroundExpr}
use Rattle.net_core.specs.Signals.{info, is_kept}
use Rattle.net_core.specs.Values.{any, level_mentions, mentions}
use Rattle.net_core.specs.Body.{Body, done, declare, set, when, body_of}
use Rattle.net_core.specs.Last.{own, sinks, reads, source_mentions}
use Rattle.net_core.specs.Depends.{reads_of}
use Rattle.net_core.specs.Rules.{has}
use Rattle.net_core.proofs.ExprFacts.{mentions_roll}

-- expressions

abbrev pub together : List (List ℕ) → List ℕ
together [] = []
together (xs ∷ xss) = xs ++ together xss

abbrev pub level_mentioned : GroundExpr-F (List ℕ) → List ℕ
level_mentioned (GroundExpr-F.Read s) = s.0 ∷ []
level_mentioned (GroundExpr-F.Lit signed width negative n) = []
level_mentioned (GroundExpr-F.Apply op args nums) = together args
level_mentioned (GroundExpr-F.Select index items) = index ++ together items
level_mentioned (GroundExpr-F.IndexIs index place) = index

-- the signals that stand in it
abbrev pub mentioned : GroundExpr → List ℕ
mentioned = fold-GroundExpr (List ℕ) level_mentioned

pub has_both : (xs ys : List ℕ) (y : ℕ) → has (xs ++ ys) y ≡ (has xs y || has ys y)
has_both [] ys y = refl
has_both (x ∷ xs) ys y = ap (λ b. nat_eq y x || b) (has_both xs ys y) ∙ sym (either (nat_eq y x))
  where
    either : (b : Bool) → ((b || has xs y) || has ys y) ≡ (b || (has xs y || has ys y))
    either true = refl
    either false = refl

abbrev Listed : GroundExpr → Type 0
Listed e = (y : ℕ) → mentions e y ≡ has (mentioned e) y

abbrev With : Type 0
With = (e : GroundExpr) × Listed e

all_listed : (es : List With) (y : ℕ) → any (map (λ c. mentions c y) (map (λ e. e.0) es)) ≡ has (together (map mentioned (map (λ e. e.0) es))) y
all_listed [] y = refl
all_listed (e ∷ es) y =
    ap (λ b. b || any (map (λ c. mentions c y) (map (λ d. d.0) es))) (e.1 y)
    ∙ ap (λ b. has (mentioned e.0) y || b) (all_listed es y)
    ∙ sym (has_both (mentioned e.0) (together (map mentioned (map (λ d. d.0) es))) y)

level_listed : (x : GroundExpr-F With) (y : ℕ)
    → level_mentions y (map-GroundExpr GroundExpr Bool (λ c. mentions c y) (map-GroundExpr With GroundExpr (λ e. e.0) x))
    ≡ has (level_mentioned (map-GroundExpr GroundExpr (List ℕ) mentioned (map-GroundExpr With GroundExpr (λ e. e.0) x))) y
level_listed (GroundExpr-F.Read s) y = sym (or-false (nat_eq y s.0))
level_listed (GroundExpr-F.Lit signed width negative n) y = refl
level_listed (GroundExpr-F.Apply op args nums) y = all_listed args y
level_listed (GroundExpr-F.Select index items) y =
    ap (λ b. b || any (map (λ c. mentions c y) (map (λ d. d.0) items))) (index.1 y)
    ∙ ap (λ b. has (mentioned index.0) y || b) (all_listed items y)
    ∙ sym (has_both (mentioned index.0) (together (map mentioned (map (λ d. d.0) items))) y)
level_listed (GroundExpr-F.IndexIs index place) y = index.1 y

pub mentions_listed : (e : GroundExpr) (y : ℕ) → mentions e y ≡ has (mentioned e) y
mentions_listed = ind-GroundExpr Listed (λ x y is. subst (λ z. Listed (roll-GroundExpr z)) is (λ s.
    mentions_roll s (map-GroundExpr With GroundExpr (λ e. e.0) y)
    ∙ level_listed y s
    ∙ ap (λ xs. has xs s) (sym (fold-roll-GroundExpr (List ℕ) level_mentioned (map-GroundExpr With GroundExpr (λ e. e.0) y)))))

-- signals

abbrev pub source_mentioned : Option GroundExpr → List ℕ
source_mentioned None = []
source_mentioned (Some e) = mentioned e

-- what x reads, where `before` has what it read so far
abbrev pub read_list : ℕ → Body → List ℕ → List ℕ
read_list x done before = before
read_list x (declare z line reset rest) before = read_list x rest before
read_list x (set line z e rest) before = read_list x rest (if nat_eq x z then source_mentioned e else before)
read_list x (when line c taken other rest) before =
    read_list x rest (if sinks x taken || sinks x other
    then mentioned c ++ (read_list x taken before ++ read_list x other before)
    else before)

source_listed : (e : Option GroundExpr) (y : ℕ) → source_mentions e y ≡ has (source_mentioned e) y
source_listed None y = refl
source_listed (Some e) y = mentions_listed e y

pub reads_in : (x y : ℕ) (b : Body) (a : Bool) (before : List ℕ) → a ≡ has before y → reads x y b a ≡ has (read_list x b before) y
reads_in x y done a before h = h
reads_in x y (declare z line reset rest) a before h = reads_in x y rest a before h
reads_in x y (set line z e rest) a before h = reads_in x y rest _ _ (step (nat_eq x z))
  where
    step : (t : Bool) → cond t (source_mentions e y) a ≡ has (cond t (source_mentioned e) before) y
    step true = source_listed e y
    step false = h
reads_in x y (when line c taken other rest) a before h =
    reads_in x y rest _ _ (step (sinks x taken || sinks x other) (reads_in x y taken a before h) (reads_in x y other a before h))
  where
    step : (t : Bool) → reads x y taken a ≡ has (read_list x taken before) y → reads x y other a ≡ has (read_list x other before) y
        → cond t (mentions c y || (reads x y taken a || reads x y other a)) a
        ≡ has (cond t (mentioned c ++ (read_list x taken before ++ read_list x other before)) before) y
    step false p q = h
    step true p q =
        rw (mentions_listed c y, p, q)
        (ap (λ b. has (mentioned c) y || b) (sym (has_both (read_list x taken before) (read_list x other before) y))
        ∙ sym (has_both (mentioned c) (read_list x taken before ++ read_list x other before) y))

-- what the signal x reads within a cycle
abbrev pub reads_from : List SignalInfo → Body → ℕ → List ℕ
reads_from signals b x = if is_kept (info signals x).role then [] else read_list x (own x b) []

pub reads_listed : (e : Elab) (b : Body) → body_of e.body ≡ b → (x y : ℕ) → reads_of e x y ≡ has (reads_from e.signals b x) y
reads_listed e b h x y = rw h (step (is_kept (info e.signals x).role))
  where
    step : (t : Bool) → cond t false (reads x y (own x b) false) ≡ has (cond t [] (read_list x (own x b) [])) y
    step true = refl
    step false = reads_in x y (own x b) false [] refl
