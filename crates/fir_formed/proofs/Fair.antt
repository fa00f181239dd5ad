-- What holds of each statement of a typed body, and what follows of the whole.
use Rattle.std.proofs.Common.{◌≡◌, ◌∙◌, sym, ap, subst, ℕ, ◌+◌, ◌<◌, Bool, true, false, ◌&&◌, ◌||◌, List, [], ◌∷◌, ◌++◌, Option, Some, None, nat_eq, cond, refl, length, arith, map}
use Rattle.std.specs.List.{All}
use Rattle.std.proofs.lemmas.List.Elements.{All-nil, All-cons, All-append}
use Rattle.std.proofs.lemmas.Bool.{eq-eqb, eqb-true}
use Rattle.fir_check.proofs.Names.{or_true}
use Rattle.net_core.specs.declared.ports.Signal.{Signal}
use Rattle.net_core.specs.declared.tree.SignalInfo.{SignalInfo}
use Rattle.net_core.specs.declared.tree.GroundExpr.{GroundExpr}
use Rattle.net_core.specs.declared.tree.GroundReset.{GroundReset}
use Rattle.net_core.specs.declared.tree.Ground.{Ground}
use Rattle.net_core.specs.declared.tree.Ground.TheVariants as out
use Rattle.net_core.specs.declared.tree.Ground.TheVariants.{rolls-Declare, rolls-Set, rolls-When}
use Rattle.net_core.specs.declared.tree.Ground.TheFolds.{fold-roll-Ground}
use Rattle.net_core.specs.declared.tree.Ground.TheOpen.{Ground-F}
use Rattle.net_core.specs.Signals.{info, is_input, is_node}
use Rattle.net_core.specs.Values.{mentions}
use Rattle.net_core.specs.Body.{Body, done, declare, set, when, block, level_body, statement, body_of}
use Rattle.net_core.specs.Widths.{Asked, initial, connected, sources}
use Rattle.net_core.specs.WidthRules.{Use, uses, reset_uses, value_uses}
use Rattle.net_core.specs.Formed.{made, is_signed, declares, lines_of, set_signals, count_of, holds_number, in_scope}
use Rattle.net_core.specs.Formed.{Declared}

-- an expression that is made as it must be, of that sign
pub record Fit (S : List SignalInfo) (signed : Bool) (e : GroundExpr) : Type 0 where
  pub right : (made S e).right ≡ true
  pub made_sign : (made S e).shape.signed ≡ signed
  pub sign : is_signed S e ≡ signed
  pub below : (y : ℕ) → mentions e y ≡ true → y < length S

abbrev pub FitValue : List SignalInfo → Bool → Option GroundExpr → Type 0
FitValue S signed None = Unit {0}
FitValue S signed (Some e) = Fit S signed e

-- a register's reset
pub record FitPair (S : List SignalInfo) (signed : Bool) (r : GroundReset) : Type 0 where
  pub signal : Fit S false r.signal
  pub init : Fit S signed r.init

abbrev pub FitReset : List SignalInfo → Bool → Option GroundReset → Type 0
FitReset S signed None = Unit {0}
FitReset S signed (Some r) = FitPair S signed r

-- a signal that may be set
pub record Settable (S : List SignalInfo) (scope : List ℕ) (x : ℕ) : Type 0 where
  pub below : x < length S
  pub kept : is_input (info S x).role ≡ false
  pub there : holds_number scope x ≡ true

abbrev pub Fair : List SignalInfo → List ℕ → Body → Type 0
Fair S scope done = Unit {0}
Fair S scope (declare x line reset rest) = FitReset S (info S x).signed reset × Fair S (x ∷ scope) rest
Fair S scope (set line x e rest) = Settable S scope x × (FitValue S (info S x).signed e × Fair S scope rest)
Fair S scope (when line c taken other rest) = Fit S false c × (Fair S scope taken × (Fair S scope other × Fair S scope rest))

-- what is fair among some names is fair among more

abbrev pub Within : List ℕ → List ℕ → Type 0
Within s t = (y : ℕ) → holds_number s y ≡ true → holds_number t y ≡ true

pub within_more : (s t : List ℕ) (x : ℕ) → Within s t → Within (x ∷ s) (x ∷ t)
within_more s t x h y e = step (nat_eq y x) refl (h y) e
  where
    step : (b : Bool) → nat_eq y x ≡ b → (holds_number s y ≡ true → holds_number t y ≡ true) → (nat_eq y x || holds_number s y) ≡ true → (nat_eq y x || holds_number t y) ≡ true
    step true q g k = ap (λ b. b || holds_number t y) q
    step false q g k = ap (λ b. b || holds_number t y) q ∙ g (sym (ap (λ b. b || holds_number s y) q) ∙ k)

pub settable_more : (S : List SignalInfo) (s t : List ℕ) (x : ℕ) → Within s t → Settable S s x → Settable S t x
settable_more S s t x h k = record { below = k.below; kept = k.kept; there = h x k.there }

pub fair_more : (S : List SignalInfo) (s t : List ℕ) (b : Body) → Within s t → Fair S s b → Fair S t b
fair_more S s t done h f = tt
fair_more S s t (declare x line reset rest) h f = (f.0, fair_more S (x ∷ s) (x ∷ t) rest (within_more s t x h) f.1)
fair_more S s t (set line x e rest) h f = (settable_more S s t x h f.0, (f.1.0, fair_more S s t rest h f.1.1))
fair_more S s t (when line c taken other rest) h f =
    (f.0, (fair_more S s t taken h f.1.0, (fair_more S s t other h f.1.1.0, fair_more S s t rest h f.1.1.1)))

-- what follows

pub record FairUse (S : List SignalInfo) (u : Use) : Type 0 where
  pub right : (made S u.expr).right ≡ true
  pub below : (y : ℕ) → mentions u.expr y ≡ true → y < length S
  pub condition : u.condition ≡ true → is_signed S u.expr ≡ false

plain_use : (S : List SignalInfo) (signed : Bool) (line : ℕ) (e : GroundExpr) → Fit S signed e → FairUse S (record { line = line; expr = e; condition = false })
plain_use S signed line e f = record { right = f.right; below = f.below; condition = λ k. cc }

tested_use : (S : List SignalInfo) (line : ℕ) (e : GroundExpr) → Fit S false e → FairUse S (record { line = line; expr = e; condition = true })
tested_use S line e f = record { right = f.right; below = f.below; condition = λ k. f.sign }

fair_reset_uses : (S : List SignalInfo) (signed : Bool) (line : ℕ) (r : Option GroundReset) → FitReset S signed r → All (FairUse S) (reset_uses line r)
fair_reset_uses S signed line None f = All-nil (FairUse S)
fair_reset_uses S signed line (Some r) f =
    All-cons (FairUse S) (record { line = line; expr = r.signal; condition = true }) (record { line = line; expr = r.init; condition = false } ∷ []) (tested_use S line r.signal f.signal) (All-cons (FairUse S) _ [] (plain_use S signed line r.init f.init) (All-nil (FairUse S)))

fair_value_uses : (S : List SignalInfo) (signed : Bool) (line : ℕ) (e : Option GroundExpr) → FitValue S signed e → All (FairUse S) (value_uses line e)
fair_value_uses S signed line None f = All-nil (FairUse S)
fair_value_uses S signed line (Some e) f = All-cons (FairUse S) _ [] (plain_use S signed line e f) (All-nil (FairUse S))

pub fair_uses : (S : List SignalInfo) (scope : List ℕ) (b : Body) → Fair S scope b → All (FairUse S) (uses b)
fair_uses S scope done f = All-nil (FairUse S)
fair_uses S scope (declare x line reset rest) f =
    All-append (FairUse S) (reset_uses line reset) (uses rest) (fair_reset_uses S (info S x).signed line reset f.0) (fair_uses S (x ∷ scope) rest f.1)
fair_uses S scope (set line x e rest) f =
    All-append (FairUse S) (value_uses line e) (uses rest) (fair_value_uses S (info S x).signed line e f.1.0) (fair_uses S scope rest f.1.1)
fair_uses S scope (when line c taken other rest) f =
    All-cons (FairUse S) _ _ (tested_use S line c f.0)
    (All-append (FairUse S) (uses taken) (uses other ++ uses rest) (fair_uses S scope taken f.1.0)
    (All-append (FairUse S) (uses other) (uses rest) (fair_uses S scope other f.1.1.0) (fair_uses S scope rest f.1.1.1)))

abbrev pub FairAsk : List SignalInfo → Asked → Type 0
FairAsk S a = is_signed S a.source ≡ (info S a.sink).signed

fair_initial : (S : List SignalInfo) (x : ℕ) (r : Option GroundReset) → FitReset S (info S x).signed r → All (FairAsk S) (initial x r)
fair_initial S x None f = All-nil (FairAsk S)
fair_initial S x (Some r) f = All-cons (FairAsk S) _ [] f.init.sign (All-nil (FairAsk S))

fair_connected : (S : List SignalInfo) (x : ℕ) (e : Option GroundExpr) → FitValue S (info S x).signed e → All (FairAsk S) (connected x e)
fair_connected S x None f = All-nil (FairAsk S)
fair_connected S x (Some e) f = All-cons (FairAsk S) _ [] f.sign (All-nil (FairAsk S))

pub fair_sources : (S : List SignalInfo) (scope : List ℕ) (b : Body) → Fair S scope b → All (FairAsk S) (sources b)
fair_sources S scope done f = All-nil (FairAsk S)
fair_sources S scope (declare x line reset rest) f =
    All-append (FairAsk S) (initial x reset) (sources rest) (fair_initial S x reset f.0) (fair_sources S (x ∷ scope) rest f.1)
fair_sources S scope (set line x e rest) f =
    All-append (FairAsk S) (connected x e) (sources rest) (fair_connected S x e f.1.0) (fair_sources S scope rest f.1.1)
fair_sources S scope (when line c taken other rest) f =
    All-append (FairAsk S) (sources taken) (sources other ++ sources rest) (fair_sources S scope taken f.1.0)
    (All-append (FairAsk S) (sources other) (sources rest) (fair_sources S scope other f.1.1.0) (fair_sources S scope rest f.1.1.1))

pub record FairSet (S : List SignalInfo) (x : ℕ) : Type 0 where
  pub below : x < length S
  pub kept : is_input (info S x).role ≡ false

pub fair_sets : (S : List SignalInfo) (scope : List ℕ) (b : Body) → Fair S scope b → All (FairSet S) (set_signals b)
fair_sets S scope done f = All-nil (FairSet S)
fair_sets S scope (declare x line reset rest) f = fair_sets S (x ∷ scope) rest f.1
fair_sets S scope (set line x e rest) f =
    All-cons (FairSet S) x _ (record { below = f.0.below; kept = f.0.kept }) (fair_sets S scope rest f.1.1)
fair_sets S scope (when line c taken other rest) f =
    All-append (FairSet S) (set_signals taken) (set_signals other ++ set_signals rest) (fair_sets S scope taken f.1.0)
    (All-append (FairSet S) (set_signals other) (set_signals rest) (fair_sets S scope other f.1.1.0) (fair_sets S scope rest f.1.1.1))

both : (a b : Bool) → a ≡ true → b ≡ true → (a && b) ≡ true
both a b p q = ap (λ x. x && b) p ∙ q

pub fair_scope : (S : List SignalInfo) (scope : List ℕ) (b : Body) → Fair S scope b → in_scope scope b ≡ true
fair_scope S scope done f = refl
fair_scope S scope (declare x line reset rest) f = fair_scope S (x ∷ scope) rest f.1
fair_scope S scope (set line x e rest) f = both (holds_number scope x) (in_scope scope rest) f.0.there (fair_scope S scope rest f.1.1)
fair_scope S scope (when line c taken other rest) f =
    both (in_scope scope taken) (in_scope scope other && in_scope scope rest) (fair_scope S scope taken f.1.0)
    (both (in_scope scope other) (in_scope scope rest) (fair_scope S scope other f.1.1.0) (fair_scope S scope rest f.1.1.1))

-- a node is set as often as it is declared

abbrev pub Even : List SignalInfo → Body → Type 0
Even S b = (x : ℕ) → is_node (info S x).role ≡ true → count_of x (set_signals b) ≡ length (lines_of x (declares b))

count-append : (x : ℕ) (xs ys : List ℕ) → count_of x (xs ++ ys) ≡ count_of x xs + count_of x ys
count-append x [] ys = omega arith
count-append x (y ∷ xs) ys = let t : count_of x (xs ++ ys) ≡ count_of x xs + count_of x ys = count-append x xs ys in omega (arith, t)

lines-append : (x : ℕ) (xs ys : List Declared) → length (lines_of x (xs ++ ys)) ≡ length (lines_of x xs) + length (lines_of x ys)
lines-append x [] ys = omega arith
lines-append x (y ∷ xs) ys = step (nat_eq x y.signal) (lines-append x xs ys)
  where
    step : (b : Bool) → length (lines_of x (xs ++ ys)) ≡ length (lines_of x xs) + length (lines_of x ys)
        → length (cond b (y.line ∷ lines_of x (xs ++ ys)) (lines_of x (xs ++ ys))) ≡ length (cond b (y.line ∷ lines_of x xs) (lines_of x xs)) + length (lines_of x ys)
    step true k = omega (arith, k)
    step false k = k

pub even_when : (S : List SignalInfo) (line : ℕ) (c : GroundExpr) (t o r : Body) → Even S t → Even S o → Even S r → Even S (when line c t o r)
even_when S line c t o r f g h x k =
    let a = count-append x (set_signals t) (set_signals o ++ set_signals r) in
    let b = count-append x (set_signals o) (set_signals r) in
    let d = lines-append x (declares t) (declares o ++ declares r) in
    let e = lines-append x (declares o) (declares r) in
    let i : count_of x (set_signals t) ≡ length (lines_of x (declares t)) = f x k in
    let j : count_of x (set_signals o) ≡ length (lines_of x (declares o)) = g x k in
    let l : count_of x (set_signals r) ≡ length (lines_of x (declares r)) = h x k in
    omega (arith, a, b, d, e, i, j, l)

-- another signal than x
apart : (S : List SignalInfo) (x y : ℕ) → is_node (info S y).role ≡ false → is_node (info S x).role ≡ true → nat_eq x y ≡ false
apart S x y p q = step (nat_eq x y) refl
  where
    step : (b : Bool) → nat_eq x y ≡ b → nat_eq x y ≡ false
    step true e = let s : x ≡ y = eqb-true x y e in let w : is_node (info S y).role ≡ true = ap (λ z. is_node (info S z).role) (sym s) ∙ q in cc
    step false e = e

-- the declaration of a signal that is no node, and a set of one
pub even_declare : (S : List SignalInfo) (x line : ℕ) (reset : Option GroundReset) (rest : Body) → is_node (info S x).role ≡ false → Even S rest → Even S (declare x line reset rest)
even_declare S x line reset rest n f y k =
    f y k ∙ sym (ap (λ b. length (cond b (line ∷ lines_of y (declares rest)) (lines_of y (declares rest)))) (apart S y x n k))

pub even_set : (S : List SignalInfo) (line x : ℕ) (e : Option GroundExpr) (rest : Body) → is_node (info S x).role ≡ false → Even S rest → Even S (set line x e rest)
even_set S line x e rest n f y k = ap (λ b. cond b 1 0 + count_of y (set_signals rest)) (apart S y x n k) ∙ zero_more (count_of y (set_signals rest)) ∙ f y k
  where
    zero_more : (m : ℕ) → 0 + m ≡ m
    zero_more m = omega arith

-- a node's declaration and its expression
pub even_node : (S : List SignalInfo) (x line m : ℕ) (reset : Option GroundReset) (e : Option GroundExpr) (rest : Body) → Even S rest → Even S (declare x line reset (set m x e rest))
even_node S x line m reset e rest f y k = step (nat_eq y x) (f y k)
  where
    step : (b : Bool) → count_of y (set_signals rest) ≡ length (lines_of y (declares rest))
        → cond b 1 0 + count_of y (set_signals rest) ≡ length (cond b (line ∷ lines_of y (declares rest)) (lines_of y (declares rest)))
    step true p = omega (arith, p)
    step false p = omega (arith, p)

-- lists of statements

pub block-append : (xs ys : List Ground) (rest : Body) → block (map statement (xs ++ ys)) rest ≡ block (map statement xs) (block (map statement ys) rest)
block-append [] ys rest = refl
block-append (x ∷ xs) ys rest = ap (statement x) (block-append xs ys rest)

pub is_declare : (x : Signal) (line : ℕ) (r : Option GroundReset) (rest : Body) → statement (out.Declare x line r) rest ≡ declare x.0 line r rest
is_declare x line r rest = ap (λ (f : Body → Body). f rest) (ap statement (sym (rolls-Declare x line r)) ∙ fold-roll-Ground (Body → Body) level_body (Ground-F.Declare x line r))

pub is_set : (line : ℕ) (x : Signal) (e : Option GroundExpr) (rest : Body) → statement (out.Set line x e) rest ≡ set line x.0 e rest
is_set line x e rest = ap (λ (f : Body → Body). f rest) (ap statement (sym (rolls-Set line x e)) ∙ fold-roll-Ground (Body → Body) level_body (Ground-F.Set line x e))

pub is_when : (line : ℕ) (c : GroundExpr) (t o : List Ground) (rest : Body) → statement (out.When line c t o) rest ≡ when line c (body_of t) (body_of o) rest
is_when line c t o rest = ap (λ (f : Body → Body). f rest) (ap statement (sym (rolls-When line c t o)) ∙ fold-roll-Ground (Body → Body) level_body (Ground-F.When line c t o))

-- statements that may stand in front of any that are fair behind them
pub record Leads (S : List SignalInfo) (scope after : List ℕ) (gs : List Ground) : Type 0 where
  pub fair : (rest : Body) → Fair S after rest → Fair S scope (block (map statement gs) rest)
  pub even : (rest : Body) → Even S rest → Even S (block (map statement gs) rest)
  pub more : Within scope after

pub leads_nothing : (S : List SignalInfo) (scope : List ℕ) → Leads S scope scope []
leads_nothing S scope = record { fair = λ rest f. f; even = λ rest f. f; more = λ y e. e }

pub leads_append : (S : List SignalInfo) (s t u : List ℕ) (xs ys : List Ground) → Leads S s t xs → Leads S t u ys → Leads S s u (xs ++ ys)
leads_append S s t u xs ys a b = record {
  fair = λ rest f. subst (Fair S s) (sym (block-append xs ys rest)) (a.fair (block (map statement ys) rest) (b.fair rest f));
  even = λ rest f. subst (Even S) (sym (block-append xs ys rest)) (a.even (block (map statement ys) rest) (b.even rest f));
  more = λ y e. b.more y (a.more y e);
}

pub leads_set : (S : List SignalInfo) (scope : List ℕ) (line : ℕ) (x : Signal) (e : Option GroundExpr) → Settable S scope x.0 → is_node (info S x.0).role ≡ false
    → FitValue S (info S x.0).signed e → Leads S scope scope (out.Set line x e ∷ [])
leads_set S scope line x e s n v = record {
  fair = λ rest f. subst (Fair S scope) (sym (is_set line x e rest)) (s, (v, f));
  even = λ rest f. subst (Even S) (sym (is_set line x e rest)) (even_set S line x.0 e rest n f);
  more = λ y k. k;
}

pub leads_when : (S : List SignalInfo) (scope s t : List ℕ) (line : ℕ) (c : GroundExpr) (xs ys : List Ground) → Fit S false c → Leads S scope s xs → Leads S scope t ys
    → Leads S scope scope (out.When line c xs ys ∷ [])
leads_when S scope s t line c xs ys f a b = record {
  fair = λ rest g. subst (Fair S scope) (sym (is_when line c xs ys rest)) (f, (a.fair done tt, (b.fair done tt, g)));
  even = λ rest g. subst (Even S) (sym (is_when line c xs ys rest))
      (even_when S line c (body_of xs) (body_of ys) rest (a.even done (λ x k. refl)) (b.even done (λ x k. refl)) g);
  more = λ y k. k;
}

-- declarations of what is no node
pub leads_declare : (S : List SignalInfo) (scope : List ℕ) (x line : ℕ) (r : Option GroundReset) → is_node (info S x).role ≡ false → FitReset S (info S x).signed r
    → Leads S scope (x ∷ scope) (out.Declare (record { 0 = x }) line r ∷ [])
leads_declare S scope x line r n v = record {
  fair = λ rest f. subst (Fair S scope) (sym (is_declare (record { 0 = x }) line r rest)) (v, f);
  even = λ rest f. subst (Even S) (sym (is_declare (record { 0 = x }) line r rest)) (even_declare S x line r rest n f);
  more = λ y k. ap (λ b. nat_eq y x || b) k ∙ or_true (nat_eq y x);
}

-- a node
pub leads_node : (S : List SignalInfo) (scope : List ℕ) (x line : ℕ) (e : GroundExpr) → x < length S → is_input (info S x).role ≡ false → Fit S (info S x).signed e
    → Leads S scope (x ∷ scope) (out.Declare (record { 0 = x }) line None ∷ out.Set line (record { 0 = x }) (Some e) ∷ [])
leads_node S scope x line e l i v =
    let there : holds_number (x ∷ scope) x ≡ true = ap (λ b. b || holds_number scope x) (eq-eqb x x refl) in
    let eq : (rest : Body) → statement (out.Declare (record { 0 = x }) line None) (statement (out.Set line (record { 0 = x }) (Some e)) rest) ≡ declare x line None (set line x (Some e) rest)
    = λ rest. is_declare (record { 0 = x }) line None (statement (out.Set line (record { 0 = x }) (Some e)) rest) ∙ ap (declare x line None) (is_set line (record { 0 = x }) (Some e) rest) in
    record {
      fair = λ rest f. subst (Fair S scope) (sym (eq rest)) (tt, (record { below = l; kept = i; there = there }, (v, f)));
      even = λ rest f. subst (Even S) (sym (eq rest)) (even_node S x line line None (Some e) rest f);
      more = λ y k. ap (λ b. nat_eq y x || b) k ∙ or_true (nat_eq y x);
    }
