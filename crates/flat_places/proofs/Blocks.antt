-- One block behind another: what each function of a body gives.
use Rattle.std.proofs.Common.{◌≡◌, ◌∙◌, ◌≤◌, if◌then◌else◌, sym, ap, subst, ℕ, ◌+◌, Bool, true, false, not, ◌&&◌, ◌||◌, List, [], ◌∷◌, ◌++◌, Some, None, refl, arith, append_assoc, nat_eq}
use Rattle.net_core.specs.declared.tree.SignalInfo.{SignalInfo}
use Rattle.net_core.specs.declared.tree.Ground.{Ground}
use Rattle.net_core.specs.declared.tree.Ground.TheFolds.{fold-roll-Ground, ind-Ground, map-Ground}
use Rattle.net_core.specs.declared.tree.Ground.TheOpen as G
use Rattle.net_core.specs.Signals.{info, is_node}
use Rattle.net_core.specs.Body.{Body, done, declare, set, when, statement, level_body, body_of, whens, depth}
use Rattle.net_core.specs.Widths.{Asked, sources, initial, connected}
use Rattle.net_core.specs.WidthRules.{Use, uses, reset_uses, value_uses}
use Rattle.net_core.specs.Formed.{Declared, declares, lines_of, set_signals, count_of, begins_with_set, nodes_follow, holds_number, in_scope}

-- a block, and another behind it
abbrev pub followed : Body → Body → Body
followed done r = r
followed (declare x line reset rest) r = declare x line reset (followed rest r)
followed (set line x e rest) r = set line x e (followed rest r)
followed (when line c taken other rest) r = when line c taken other (followed rest r)

level_followed : (x : G.Ground-F (Body → Body)) (a b : Body) → level_body x (followed a b) ≡ followed (level_body x a) b
level_followed (G.Declare s line reset) a b = refl
level_followed (G.Set line s e) a b = refl
level_followed (G.When line c taken other) a b = refl

abbrev Follows : Ground → Type 0
Follows g = (a b : Body) → statement g (followed a b) ≡ followed (statement g a) b

statement_followed : (g : Ground) → Follows g
statement_followed = ind-Ground Follows (λ x y is. λ a b.
    subst (λ (f : Body → Body). f (followed a b) ≡ followed (f a) b) (sym (fold-roll-Ground (Body → Body) level_body x))
    (level_followed (map-Ground Ground (Body → Body) statement x) a b))

pub body_append : (xs ys : List Ground) → body_of (xs ++ ys) ≡ followed (body_of xs) (body_of ys)
body_append [] ys = refl
body_append (g ∷ gs) ys = ap (statement g) (body_append gs ys) ∙ statement_followed g (body_of gs) (body_of ys)

-- lists

three : {X : Type 0} (a b c d : List X) → a ++ (b ++ (c ++ d)) ≡ (a ++ (b ++ c)) ++ d
three a b c d = ap (λ (t : List _). a ++ t) (sym (append_assoc b c d)) ∙ sym (append_assoc a (b ++ c) d)

pub declares_followed : (a b : Body) → declares (followed a b) ≡ declares a ++ declares b
declares_followed done b = refl
declares_followed (declare x line reset rest) b = ap (λ (t : List Declared). record { signal = x; line = line; reset = reset } ∷ t) (declares_followed rest b)
declares_followed (set line x e rest) b = declares_followed rest b
declares_followed (when line c taken other rest) b =
    ap (λ (t : List Declared). declares taken ++ (declares other ++ t)) (declares_followed rest b)
    ∙ three (declares taken) (declares other) (declares rest) (declares b)

pub declares_append : (xs ys : List Ground) → declares (body_of (xs ++ ys)) ≡ declares (body_of xs) ++ declares (body_of ys)
declares_append xs ys = ap declares (body_append xs ys) ∙ declares_followed (body_of xs) (body_of ys)

pub set_signals_followed : (a b : Body) → set_signals (followed a b) ≡ set_signals a ++ set_signals b
set_signals_followed done b = refl
set_signals_followed (declare x line reset rest) b = set_signals_followed rest b
set_signals_followed (set line x e rest) b = ap (λ (t : List ℕ). x ∷ t) (set_signals_followed rest b)
set_signals_followed (when line c taken other rest) b =
    ap (λ (t : List ℕ). set_signals taken ++ (set_signals other ++ t)) (set_signals_followed rest b)
    ∙ three (set_signals taken) (set_signals other) (set_signals rest) (set_signals b)

pub set_signals_append : (xs ys : List Ground) → set_signals (body_of (xs ++ ys)) ≡ set_signals (body_of xs) ++ set_signals (body_of ys)
set_signals_append xs ys = ap set_signals (body_append xs ys) ∙ set_signals_followed (body_of xs) (body_of ys)

pub uses_followed : (a b : Body) → uses (followed a b) ≡ uses a ++ uses b
uses_followed done b = refl
uses_followed (declare x line reset rest) b =
    ap (λ (t : List Use). reset_uses line reset ++ t) (uses_followed rest b) ∙ sym (append_assoc (reset_uses line reset) (uses rest) (uses b))
uses_followed (set line x e rest) b =
    ap (λ (t : List Use). value_uses line e ++ t) (uses_followed rest b) ∙ sym (append_assoc (value_uses line e) (uses rest) (uses b))
uses_followed (when line c taken other rest) b =
    ap (λ (t : List Use). record { line = line; expr = c; condition = true } ∷ t)
    (ap (λ (t : List Use). uses taken ++ (uses other ++ t)) (uses_followed rest b) ∙ three (uses taken) (uses other) (uses rest) (uses b))

pub uses_append : (xs ys : List Ground) → uses (body_of (xs ++ ys)) ≡ uses (body_of xs) ++ uses (body_of ys)
uses_append xs ys = ap uses (body_append xs ys) ∙ uses_followed (body_of xs) (body_of ys)

pub sources_followed : (a b : Body) → sources (followed a b) ≡ sources a ++ sources b
sources_followed done b = refl
sources_followed (declare x line reset rest) b =
    ap (λ (t : List Asked). initial x reset ++ t) (sources_followed rest b) ∙ sym (append_assoc (initial x reset) (sources rest) (sources b))
sources_followed (set line x e rest) b =
    ap (λ (t : List Asked). connected x e ++ t) (sources_followed rest b) ∙ sym (append_assoc (connected x e) (sources rest) (sources b))
sources_followed (when line c taken other rest) b =
    ap (λ (t : List Asked). sources taken ++ (sources other ++ t)) (sources_followed rest b) ∙ three (sources taken) (sources other) (sources rest) (sources b)

pub sources_append : (xs ys : List Ground) → sources (body_of (xs ++ ys)) ≡ sources (body_of xs) ++ sources (body_of ys)
sources_append xs ys = ap sources (body_append xs ys) ∙ sources_followed (body_of xs) (body_of ys)

-- numbers

pub whens_followed : (a b : Body) → whens (followed a b) ≡ whens a + whens b
whens_followed done b = omega arith
whens_followed (declare x line reset rest) b = whens_followed rest b
whens_followed (set line x e rest) b = whens_followed rest b
whens_followed (when line c taken other rest) b = let e : whens (followed rest b) ≡ whens rest + whens b = whens_followed rest b in omega (arith, e)

pub whens_append : (xs ys : List Ground) → whens (body_of (xs ++ ys)) ≡ whens (body_of xs) + whens (body_of ys)
whens_append xs ys = ap whens (body_append xs ys) ∙ whens_followed (body_of xs) (body_of ys)

pub lines_append : (x : ℕ) (ds es : List Declared) → lines_of x (ds ++ es) ≡ lines_of x ds ++ lines_of x es
lines_append x [] es = refl
lines_append x (d ∷ ds) es = step (nat_eq x d.signal) (lines_append x ds es) where
  step : (t : Bool) → lines_of x (ds ++ es) ≡ lines_of x ds ++ lines_of x es
      → (if t then d.line ∷ lines_of x (ds ++ es) else lines_of x (ds ++ es)) ≡ (if t then d.line ∷ lines_of x ds else lines_of x ds) ++ lines_of x es
  step true e = ap (λ (t : List ℕ). d.line ∷ t) e
  step false e = e

pub count_append : (x : ℕ) (ys zs : List ℕ) → count_of x (ys ++ zs) ≡ count_of x ys + count_of x zs
count_append x [] zs = omega arith
count_append x (y ∷ ys) zs = let e : count_of x (ys ++ zs) ≡ count_of x ys + count_of x zs = count_append x ys zs in omega (arith, e)

-- nodes

begins_followed : (x : ℕ) (a b : Body) → begins_with_set x a ≡ true → begins_with_set x (followed a b) ≡ true
begins_followed x done b h = cc
begins_followed x (declare y line reset rest) b h = cc
begins_followed x (set line y None rest) b h = cc
begins_followed x (set line y (Some e) rest) b h = h
begins_followed x (when line c taken other rest) b h = cc

and_true : (a b : Bool) → (a && b) ≡ true → (a ≡ true) × (b ≡ true)
and_true true b k = (refl, k)
and_true false b k = cc

both_true : (a b : Bool) → a ≡ true → b ≡ true → (a && b) ≡ true
both_true a b p q = rw (p, q) refl

or_grows : (a b c : Bool) → (b ≡ true → c ≡ true) → (a || b) ≡ true → (a || c) ≡ true
or_grows true b c f h = refl
or_grows false b c f h = f h

pub nodes_followed : (signals : List SignalInfo) (a b : Body) → nodes_follow signals a ≡ true → nodes_follow signals b ≡ true
    → nodes_follow signals (followed a b) ≡ true
nodes_followed signals done b h k = k
nodes_followed signals (declare x line reset rest) b h k =
    let p = and_true (not (is_node (info signals x).role) || begins_with_set x rest) (nodes_follow signals rest) h in
    both_true _ _ (or_grows (not (is_node (info signals x).role)) (begins_with_set x rest) (begins_with_set x (followed rest b)) (begins_followed x rest b) p.0)
    (nodes_followed signals rest b p.1 k)
nodes_followed signals (set line x e rest) b h k = nodes_followed signals rest b h k
nodes_followed signals (when line c taken other rest) b h k =
    let p = and_true (nodes_follow signals taken) (nodes_follow signals other && nodes_follow signals rest) h in
    let q = and_true (nodes_follow signals other) (nodes_follow signals rest) p.1 in
    both_true _ _ p.0 (both_true _ _ q.0 (nodes_followed signals rest b q.1 k))

pub nodes_append : (signals : List SignalInfo) (xs ys : List Ground) → nodes_follow signals (body_of xs) ≡ true → nodes_follow signals (body_of ys) ≡ true
    → nodes_follow signals (body_of (xs ++ ys)) ≡ true
nodes_append signals xs ys h k = ap (nodes_follow signals) (body_append xs ys) ∙ nodes_followed signals (body_of xs) (body_of ys) h k

-- scopes: more is known

pub in_scope_more : (known more : List ℕ) (b : Body) → ((y : ℕ) → holds_number known y ≡ true → holds_number more y ≡ true) → in_scope known b ≡ true → in_scope more b ≡ true
in_scope_more known more done f h = refl
in_scope_more known more (declare x line reset rest) f h =
    in_scope_more (x ∷ known) (x ∷ more) rest (λ y. or_grows (nat_eq y x) (holds_number known y) (holds_number more y) (f y)) h
in_scope_more known more (set line x e rest) f h =
    let p = and_true (holds_number known x) (in_scope known rest) h in
    both_true _ _ (f x p.0) (in_scope_more known more rest f p.1)
in_scope_more known more (when line c taken other rest) f h =
    let p = and_true (in_scope known taken) (in_scope known other && in_scope known rest) h in
    let q = and_true (in_scope known other) (in_scope known rest) p.1 in
    both_true _ _ (in_scope_more known more taken f p.0) (both_true _ _ (in_scope_more known more other f q.0) (in_scope_more known more rest f q.1))

pub in_scope_followed : (known : List ℕ) (a b : Body) → in_scope known a ≡ true → in_scope known b ≡ true → in_scope known (followed a b) ≡ true
in_scope_followed known done b h k = k
in_scope_followed known (declare x line reset rest) b h k =
    in_scope_followed (x ∷ known) rest b h (in_scope_more known (x ∷ known) b (λ y e. or_last (nat_eq y x) (holds_number known y) e) k)
  where
    or_last : (a c : Bool) → c ≡ true → (a || c) ≡ true
    or_last true c e = refl
    or_last false c e = e
in_scope_followed known (set line x e rest) b h k =
    let p = and_true (holds_number known x) (in_scope known rest) h in
    both_true _ _ p.0 (in_scope_followed known rest b p.1 k)
in_scope_followed known (when line c taken other rest) b h k =
    let p = and_true (in_scope known taken) (in_scope known other && in_scope known rest) h in
    let q = and_true (in_scope known other) (in_scope known rest) p.1 in
    both_true _ _ p.0 (both_true _ _ q.0 (in_scope_followed known rest b q.1 k))

pub in_scope_append : (known : List ℕ) (xs ys : List Ground) → in_scope known (body_of xs) ≡ true → in_scope known (body_of ys) ≡ true
    → in_scope known (body_of (xs ++ ys)) ≡ true
in_scope_append known xs ys h k = ap (in_scope known) (body_append xs ys) ∙ in_scope_followed known (body_of xs) (body_of ys) h k

-- depth

pub depth_followed : (n : ℕ) (a b : Body) → depth a ≤ n → depth b ≤ n → depth (followed a b) ≤ n
depth_followed n done b h k = k
depth_followed n (declare x line reset rest) b h k = depth_followed n rest b h k
depth_followed n (set line x e rest) b h k = depth_followed n rest b h k
depth_followed n (when line c taken other rest) b h k =
    let t : depth (followed rest b) ≤ n = depth_followed n rest b (omega (arith, h)) k in omega (arith, h, t)

pub depth_append : (n : ℕ) (xs ys : List Ground) → depth (body_of xs) ≤ n → depth (body_of ys) ≤ n → depth (body_of (xs ++ ys)) ≤ n
depth_append n xs ys h k = subst (λ (b : Body). depth b ≤ n) (sym (body_append xs ys)) (depth_followed n (body_of xs) (body_of ys) h k)
