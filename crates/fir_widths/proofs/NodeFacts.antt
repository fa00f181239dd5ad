-- The least widths are at most 129, and a node's is exactly its expression's.
use Rattle.std.proofs.Common.{◌≡◌, ◌∙◌, sym, ap, subst, ℕ, zero, suc, ◌+◌, ◌<◌, ◌≤◌, min, Bool, true, false, ◌==◌, is_none, nat_eq, List, [], ◌∷◌, ◌++◌, map, set, length, get_or, refl, arith, cond, Option, Some, None, is_some, ⊎_elim, unwrap_or}
use Rattle.std.specs.Prelude.{slice_index}
use Rattle.std.specs.List.{All}
use Rattle.std.proofs.lemmas.List.{length-map, length-set, map-append, get_or-set_same}
use Rattle.std.proofs.lemmas.List.Elements.{All-nil, All-cons, All-head, All-tail}
use Rattle.std.proofs.lemmas.Bool.{or_left, cases_eq, both_ways, leb-true, eqb-true, eqb-false, eq-eqb}
use Rattle.net_core.specs.declared.tree.Elab.{Elab}
use Rattle.net_core.specs.declared.tree.SignalInfo.{SignalInfo}
use Rattle.net_core.specs.declared.tree.Role.{Role}
use Rattle.net_core.specs.declared.tree.Role.TheVariants.{Input, Output, Inner, Node, Reg}
use Rattle.net_core.specs.declared.tree.GroundExpr.{GroundExpr}
use Rattle.net_core.specs.Signals.{info, is_node, is_register, given_width}
use Rattle.net_core.specs.Shapes.{shape}
use Rattle.net_core.specs.Body.{Body, done, declare, set as set_body, when, body_of}
use Rattle.net_core.specs.Widths.{Asked, sources, is_free, Meets, Below, IsLeast}
use Rattle.net_core.specs.WidthRules.{wide_signals, too_wide_lines, bad_range_lines, use_lines, is_wide, uses, least_line, lesser, first_rule, width_rule}
use Rattle.net_core.specs.Formed.{Formed, Declared, declares, set_signals, count_of, width_fits}
use Rattle.net_core.proofs.FormedFacts.{All-left, All-right}
use Rattle.fir_widths.proofs.ShapeFacts.{shape_rises, shape_cut}
use Rattle.fir_widths.proofs.Rises.{Below-refl, set-Below, kept-set}

-- ---- no width is above 129
abbrev cut : List ℕ → List ℕ
cut w = map (λ n. min 129 n) w

cut_at : (w : List ℕ) (x : ℕ) → slice_index (cut w) x ≡ min 129 (slice_index w x)
cut_at [] x = refl
cut_at (n ∷ w) zero = refl
cut_at (n ∷ w) (suc x) = cut_at w x

cut_below : (w : List ℕ) → Below (cut w) w
cut_below w = record { each = λ x. let e = cut_at w x in omega (arith, e) }

fits : (o : Option ℕ) → width_fits o ≡ true → unwrap_or o 0 ≤ 128
fits None h = omega arith
fits (Some n) h = leb-true n 128 h

cut_meets : (e : Elab) (w : List ℕ) → Formed e → Meets e w → Meets e (cut w)
cut_meets e w f m = record {
  written = λ x h k. low (slice_index w x) (given_width (info e.signals x)) (slice_index (cut w) x) (cut_at w x) (m.written x h k)
      (fits (info e.signals x).width (f.narrow x _ h));
  wide = λ k d l p.
      let a : Asked = get_or (sources (body_of e.body)) k d in
      narrower (shape e.signals (cut w) a.source).width (shape e.signals w a.source).width (slice_index w a.sink) (slice_index (cut w) a.sink)
      (cut_at w a.sink) (shape_rises e.signals (cut w) w (cut_below w) a.source).width (m.wide k d l p) (shape_cut e.signals (cut w) a.source);
}
  where
    low : (a g c : ℕ) → c ≡ min 129 a → a ≡ g → g ≤ 128 → c ≡ g
    low a g c h k l = omega (arith, h, k, l)

    narrower : (s t a c : ℕ) → c ≡ min 129 a → s ≤ t → t ≤ a → s ≤ 129 → s ≤ c
    narrower s t a c h p q r = omega (arith, h, p, q, r)

most : (e : Elab) (w : List ℕ) → Formed e → IsLeast e w → (x : ℕ) → slice_index w x ≤ 129
most e w f i x =
    within (slice_index w x) (slice_index (cut w) x) (cut_at w x)
    ((i.least (cut w) (length-map w (λ n. min 129 n) ∙ i.long) (cut_meets e w f i.meets)).each x)
  where
    within : (a c : ℕ) → c ≡ min 129 a → a ≤ c → a ≤ 129
    within a c h k = omega (arith, h, k)

-- ---- and 129 only where a rule is broken
none_first : (a b : Option ℕ) → first_rule a b ≡ None → a ≡ None
none_first None b h = refl
none_first (Some n) None h = cc
none_first (Some n) (Some m) h = cc

no_lines : (ls : List ℕ) → least_line ls ≡ None → ls ≡ []
no_lines [] h = refl
no_lines (n ∷ ls) h = absurd (step (least_line ls) h)
  where
    step : (o : Option ℕ) → lesser n o ≡ None → ⊥
    step None k = cc
    step (Some m) k = cc

no_left : (xs ys : List ℕ) → xs ++ ys ≡ [] → xs ≡ []
no_left [] ys h = refl
no_left (x ∷ xs) ys h = cc

not_wide : (is : List SignalInfo) (w : List ℕ) (x : ℕ) → length w ≡ length is → wide_signals is w ≡ [] → x < length is → slice_index w x ≡ 129 → ⊥
not_wide [] w x l h p q = omega (arith, p)
not_wide (i ∷ is) [] x l h p q = omega (arith, l)
not_wide (i ∷ is) (n ∷ w) zero l h p q = here (n == 129) (eq-eqb n 129 q) h
  where
    here : (b : Bool) → b ≡ true → cond b (i.line ∷ wide_signals is w) (wide_signals is w) ≡ [] → ⊥
    here true s t = cc
    here false s t = cc
not_wide (i ∷ is) (n ∷ w) (suc x) l h p q = not_wide is w x (same l) (behind (n == 129) h) (less p) q
  where
    behind : (b : Bool) → cond b (i.line ∷ wide_signals is w) (wide_signals is w) ≡ [] → wide_signals is w ≡ []
    behind true t = cc
    behind false t = t

    same : suc (length w) ≡ suc (length is) → length w ≡ length is
    same t = omega (arith, t)

    less : suc x < suc (length is) → x < length is
    less t = omega (arith, t)

pub least_fits : (e : Elab) (w : List ℕ) → Formed e → IsLeast e w → width_rule e w ≡ None → (x : ℕ) → x < length e.signals → slice_index w x ≤ 128
least_fits e w f i r x h =
    under (slice_index w x) (most e w f i x)
    (not_wide e.signals w x i.long (no_left (wide_signals e.signals w) (use_lines (is_wide e.signals w) (uses (body_of e.body)))
    (no_lines (too_wide_lines e w) (none_first (least_line (too_wide_lines e w)) (least_line (bad_range_lines e w)) r))) h)
  where
    under : (a : ℕ) → a ≤ 129 → (a ≡ 129 → ⊥) → a ≤ 128
    under a p q = omega (arith, p, q)

-- ---- a node has one source
node_in : (is : List SignalInfo) (x : ℕ) → is_node (info is x).role ≡ true → x < length is
node_in [] x h = cc
node_in (i ∷ is) zero h = omega arith
node_in (i ∷ is) (suc x) h = let l : x < length is = node_in is x h in omega (arith, l)

no_register : (r : Role) → is_node r ≡ true → is_register r ≡ true → ⊥
no_register Input h k = cc
no_register Output h k = cc
no_register Inner h k = cc
no_register Node h k = cc
no_register Reg h k = cc

-- the sinks that something is asked for
abbrev asked_sinks : List Asked → List ℕ
asked_sinks rs = map (λ a. a.sink) rs

count-append : (x : ℕ) (xs ys : List ℕ) → count_of x (xs ++ ys) ≡ count_of x xs + count_of x ys
count-append x [] ys = omega arith
count-append x (y ∷ xs) ys = let h = count-append x xs ys in omega (arith, h)

asked_append : (x : ℕ) (rs bs : List Asked) → count_of x (asked_sinks (rs ++ bs)) ≡ count_of x (asked_sinks rs) + count_of x (asked_sinks bs)
asked_append x rs bs = ap (count_of x) (map-append (λ a. a.sink) rs bs) ∙ count-append x (asked_sinks rs) (asked_sinks bs)

-- a reset stands at no x
abbrev NoReset : ℕ → Declared → Type 0
NoReset x d = is_some d.reset ≡ true → x ≡ d.signal → ⊥

-- so x is asked for at most as often as it is set
asked_few : (x : ℕ) (b : Body) → All (NoReset x) (declares b) → count_of x (asked_sinks (sources b)) ≤ count_of x (set_signals b)
asked_few x done h = omega arith
asked_few x (declare y line None rest) h = asked_few x rest (All-tail (NoReset x) _ (declares rest) h)
asked_few x (declare y line (Some r) rest) h =
    other (nat_eq x y) refl (asked_few x rest (All-tail (NoReset x) _ (declares rest) h))
  where
    other : (t : Bool) → nat_eq x y ≡ t → count_of x (asked_sinks (sources rest)) ≤ count_of x (set_signals rest)
        → cond t 1 0 + count_of x (asked_sinks (sources rest)) ≤ count_of x (set_signals rest)
    other true e k = absurd (All-head (NoReset x) _ (declares rest) h refl (eqb-true x y e))
    other false e k = omega (arith, k)
asked_few x (set_body line y None rest) h = let k = asked_few x rest h in omega (arith, k)
asked_few x (set_body line y (Some e) rest) h = let k = asked_few x rest h in omega (arith, k)
asked_few x (when line c taken other rest) h =
    three _ _ _ _ _ _ _ _ _ _ (asked_append x (sources taken) (sources other ++ sources rest)) (asked_append x (sources other) (sources rest))
    (count-append x (set_signals taken) (set_signals other ++ set_signals rest)) (count-append x (set_signals other) (set_signals rest))
    (asked_few x taken (All-left (NoReset x) (declares taken) (declares other ++ declares rest) h))
    (asked_few x other (All-left (NoReset x) (declares other) (declares rest) (All-right (NoReset x) (declares taken) (declares other ++ declares rest) h)))
    (asked_few x rest (All-right (NoReset x) (declares other) (declares rest) (All-right (NoReset x) (declares taken) (declares other ++ declares rest) h)))
  where
    three : (s r t a b c u v p q : ℕ) → s ≡ a + r → r ≡ b + c → t ≡ u + v → v ≡ p + q → a ≤ u → b ≤ p → c ≤ q → s ≤ t
    three s r t a b c u v p q e f g i j k l = omega (arith, e, f, g, i, j, k, l)

-- what is asked for x is the width of g
abbrev From : ℕ → GroundExpr → Asked → Type 0
From x g a = x ≡ a.sink → a.source ≡ g

none_asked : (x : ℕ) (g : GroundExpr) (rs : List Asked) → count_of x (asked_sinks rs) ≡ 0 → All (From x g) rs
none_asked x g [] h = All-nil (From x g)
none_asked x g (a ∷ rs) h = step (nat_eq x a.sink) refl h (none_asked x g rs)
  where
    step : (t : Bool) → nat_eq x a.sink ≡ t → cond t 1 0 + count_of x (asked_sinks rs) ≡ 0
        → (count_of x (asked_sinks rs) ≡ 0 → All (From x g) rs) → All (From x g) (a ∷ rs)
    step true e k more = absurd (omega (arith, k))
    step false e k more = All-cons (From x g) a rs (λ s. absurd (eqb-false x a.sink e s)) (more (omega (arith, k)))

one_asked : (x : ℕ) (d : GroundExpr) (rs : List Asked) → count_of x (asked_sinks rs) ≤ 1 → (g : GroundExpr) × All (From x g) rs
one_asked x d [] h = (d, All-nil (From x d))
one_asked x d (a ∷ rs) h = step (nat_eq x a.sink) refl h (one_asked x d rs)
  where
    step : (t : Bool) → nat_eq x a.sink ≡ t → cond t 1 0 + count_of x (asked_sinks rs) ≤ 1
        → (count_of x (asked_sinks rs) ≤ 1 → (g : GroundExpr) × All (From x g) rs) → (g : GroundExpr) × All (From x g) (a ∷ rs)
    step true e k more = (a.source, All-cons (From x a.source) a rs (λ s. refl) (none_asked x a.source rs (omega (arith, k))))
    step false e k more =
        let r = more (omega (arith, k)) in
        (r.0, All-cons (From x r.0) a rs (λ s. absurd (eqb-false x a.sink e s)) r.1)

node_asked : (e : Elab) (x : ℕ) (d : GroundExpr) → Formed e → is_node (info e.signals x).role ≡ true
    → (g : GroundExpr) × All (From x g) (sources (body_of e.body))
node_asked e x d f n =
    one_asked x d (sources (body_of e.body))
    (at_most _ _ (asked_few x (body_of e.body) unreset) (f.nodes_once x (node_in e.signals x n) n))
  where
    unreset : All (NoReset x) (declares (body_of e.body))
    unreset = λ k c l r s. no_register (info e.signals x).role n (subst (λ y. is_register (info e.signals y).role ≡ true) (sym s) (f.resets k c l r))

    at_most : (a b : ℕ) → a ≤ b → b ≡ 1 → a ≤ 1
    at_most a b h k = omega (arith, h, k)

-- ---- and is as wide as that
pub node_width : (e : Elab) (w : List ℕ) → Formed e → IsLeast e w
    → All (λ a. is_node (info e.signals a.sink).role ≡ true → slice_index w a.sink ≡ (shape e.signals w a.source).width) (sources (body_of e.body))
node_width e w f i k d l n =
    same (slice_index w x) bits (slice_index v x) (i.meets.wide k d l free) ((i.least v (length-set w x bits ∙ i.long) meets).each x) here
  where
    a : Asked
    a = get_or (sources (body_of e.body)) k d

    x : ℕ
    x = a.sink

    bits : ℕ
    bits = (shape e.signals w a.source).width

    v : List ℕ
    v = set w x bits

    free : is_free (info e.signals x) ≡ true
    free = or_left (is_node (info e.signals x).role) (is_none (info e.signals x).width) n

    inside : x < length w
    inside = subst (λ m. x < m) (sym i.long) (node_in e.signals x n)

    here : slice_index v x ≡ bits
    here = get_or-set_same w x bits 0 inside

    below : Below v w
    below = set-Below w w x bits inside (Below-refl w) (i.meets.wide k d l free)

    alone : (g : GroundExpr) × All (From x g) (sources (body_of e.body))
    alone = node_asked e x a.source f n

    only : (b : Asked) → (x ≡ b.sink → b.source ≡ alone.0) → x ≡ b.sink → b.source ≡ a.source
    only b h s = h s ∙ sym (alone.1 k d l refl)

    at_x : (p q r t : ℕ) → p ≤ q → q ≡ bits → r ≡ bits → t ≡ r → p ≤ t
    at_x p q r t c j y z = omega (arith, c, j, y, z)

    elsewhere : (p q r t : ℕ) → p ≤ q → q ≤ r → t ≡ r → p ≤ t
    elsewhere p q r t c j y = omega (arith, c, j, y)

    wide : (b : Asked) → (x ≡ b.sink → b.source ≡ alone.0) → (shape e.signals w b.source).width ≤ slice_index w b.sink
        → (shape e.signals v b.source).width ≤ slice_index v b.sink
    wide b h m = ⊎_elim
        (λ s. at_x _ _ _ _ (shape_rises e.signals v w below b.source).width
        (ap (λ (g : GroundExpr). (shape e.signals w g).width) (only b h (sym s))) here (ap (slice_index v) s))
        (λ s. elsewhere _ _ _ _ (shape_rises e.signals v w below b.source).width m (kept-set w x bits b.sink inside s))
        (cases_eq b.sink x)

    meets : Meets e v
    meets = record {
      written = λ y h c. kept-set w x bits y inside (λ s. both_ways (is_free (info e.signals y)) c (subst (λ z. is_free (info e.signals z) ≡ true) (sym s) free))
          ∙ i.meets.written y h c;
      wide = λ j c h p. wide (get_or (sources (body_of e.body)) j c) (alone.1 j c h) (i.meets.wide j c h p);
    }

    same : (p q r : ℕ) → q ≤ p → p ≤ r → r ≡ q → p ≡ q
    same p q r h c j = omega (arith, h, c, j)
