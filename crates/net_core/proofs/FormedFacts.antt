-- What a formed circuit reads are its signals, and what an initialised sink has.
use Rattle.std.proofs.Common.{◌≡◌, ◌≢◌, ◌∙◌, sym, ap, subst, ℕ, zero, suc, ◌+◌, ◌<◌, ◌≤◌, Bool, true, false, not, ◌&&◌, ◌||◌, List, [], ◌∷◌, ◌++◌, Option, Some, None, nat_eq, cond, refl, ⊎_elim, length, arith, is_some}
use Rattle.std.specs.List.{All, find, range_with_len}
use Rattle.std.proofs.lemmas.List.Elements.{All-nil, All-cons, All-head, All-tail}
use Rattle.std.proofs.lemmas.Bool.{or_cases}
use Rattle.tb_base.specs.Word.{Word}
use Rattle.net_core.specs.declared.tree.Elab.{Elab}
use Rattle.net_core.specs.declared.tree.SignalInfo.{SignalInfo}
use Rattle.net_core.specs.declared.tree.GroundExpr.{GroundExpr}
use Rattle.net_core.specs.Signals.{info, is_kept}
use Rattle.net_core.specs.Values.{mentions}
use Rattle.net_core.specs.Body.{Body, done, declare, set, when, body_of}
use Rattle.net_core.specs.Last.{or_else, home, own, sinks, reads, source_mentions, source, holds, last, initialised}
use Rattle.net_core.specs.Settled.{last_connect}
use Rattle.net_core.specs.Depends.{Within, is_left_open, uninitialised}
use Rattle.net_core.specs.WidthRules.{Use, uses, reset_uses, value_uses}
use Rattle.net_core.specs.Formed.{Formed}

pub All-left : {X : Type 0} (P : X → Type 0) (xs ys : List X) → All P (xs ++ ys) → All P xs
All-left P [] ys h = All-nil P
All-left P (x ∷ xs) ys h = All-cons P x xs (All-head P x (xs ++ ys) h) (All-left P xs ys (All-tail P x (xs ++ ys) h))

pub All-right : {X : Type 0} (P : X → Type 0) (xs ys : List X) → All P (xs ++ ys) → All P ys
All-right P [] ys h = h
All-right P (x ∷ xs) ys h = All-right P xs ys (All-tail P x (xs ++ ys) h)

-- of an expression that mentions y, something holds
abbrev pub Says : ℕ → Type 0 → Use → Type 0
Says y Q u = mentions u.expr y ≡ true → Q

value_says : (y : ℕ) (Q : Type 0) (line : ℕ) (e : Option GroundExpr) → All (Says y Q) (value_uses line e) → source_mentions e y ≡ true → Q
value_says y Q line None h m = cc
value_says y Q line (Some e) h m = All-head (Says y Q) _ [] h m

pub reads_says : (y : ℕ) (Q : Type 0) (x : ℕ) (b : Body) (a : Bool) → All (Says y Q) (uses b) → (a ≡ true → Q) → reads x y b a ≡ true → Q
reads_says y Q x done a h k r = k r
reads_says y Q x (declare z line reset rest) a h k r =
    reads_says y Q x rest a (All-right (Says y Q) (reset_uses line reset) (uses rest) h) k r
reads_says y Q x (set line z e rest) a h k r =
    reads_says y Q x rest (cond (nat_eq x z) (source_mentions e y) a) (All-right (Says y Q) (value_uses line e) (uses rest) h) (step (nat_eq x z)) r
  where
    step : (t : Bool) → cond t (source_mentions e y) a ≡ true → Q
    step true m = value_says y Q line e (All-left (Says y Q) (value_uses line e) (uses rest) h) m
    step false m = k m
reads_says y Q x (when line c taken other rest) a h k r =
    let t = All-tail (Says y Q) _ (uses taken ++ (uses other ++ uses rest)) h in
    let u = All-right (Says y Q) (uses taken) (uses other ++ uses rest) t in
    reads_says y Q x rest _ (All-right (Says y Q) (uses other) (uses rest) u)
    (step (sinks x taken || sinks x other) (All-head (Says y Q) _ (uses taken ++ (uses other ++ uses rest)) h)
    (reads_says y Q x taken a (All-left (Says y Q) (uses taken) (uses other ++ uses rest) t) k)
    (reads_says y Q x other a (All-left (Says y Q) (uses other) (uses rest) u) k)) r
  where
    step : (s : Bool) → (mentions c y ≡ true → Q) → (reads x y taken a ≡ true → Q) → (reads x y other a ≡ true → Q)
        → cond s (mentions c y || (reads x y taken a || reads x y other a)) a ≡ true → Q
    step false p q s m = k m
    step true p q s m = ⊎_elim p (λ n. ⊎_elim q s (or_cases (reads x y taken a) (reads x y other a) n)) (or_cases (mentions c y) (reads x y taken a || reads x y other a) m)

-- what holds of a body's expressions holds of those behind a declaration
abbrev pub OnBody : (Use → Type 0) → Option Body → Type 0
OnBody P None = Unit {0}
OnBody P (Some b) = All P (uses b)

or_else_on : (P : Use → Type 0) (a b : Option Body) → OnBody P a → OnBody P b → OnBody P (or_else a b)
or_else_on P None b p q = q
or_else_on P (Some a) b p q = p

pub home_uses : (P : Use → Type 0) (x : ℕ) (b : Body) → All P (uses b) → OnBody P (home x b)
home_uses P x done h = tt
home_uses P x (declare y line reset rest) h =
    step (nat_eq x y) (All-right P (reset_uses line reset) (uses rest) h) (home_uses P x rest (All-right P (reset_uses line reset) (uses rest) h))
  where
    step : (t : Bool) → All P (uses rest) → OnBody P (home x rest) → OnBody P (cond t (Some rest) (home x rest))
    step true p q = p
    step false p q = q
home_uses P x (set line y e rest) h = home_uses P x rest (All-right P (value_uses line e) (uses rest) h)
home_uses P x (when line c taken other rest) h =
    let t = All-tail P _ (uses taken ++ (uses other ++ uses rest)) h in
    let u = All-right P (uses taken) (uses other ++ uses rest) t in
    or_else_on P (home x taken) (or_else (home x other) (home x rest)) (home_uses P x taken (All-left P (uses taken) (uses other ++ uses rest) t))
    (or_else_on P (home x other) (home x rest) (home_uses P x other (All-left P (uses other) (uses rest) u)) (home_uses P x rest (All-right P (uses other) (uses rest) u)))

pub own_uses : (P : Use → Type 0) (x : ℕ) (b : Body) → All P (uses b) → All P (uses (own x b))
own_uses P x b h = step (home x b) (home_uses P x b h)
  where
    step : (o : Option Body) → OnBody P o → All P (uses (elim o [ None ↦ done | Some r ↦ r ]))
    step None p = All-nil P
    step (Some r) p = p

pub within : (e : Elab) → Formed e → Within e
within e f x y r = step (is_kept (info e.signals x).role) r
  where
    step : (t : Bool) → cond t false (reads x y (own x (body_of e.body)) false) ≡ true → y < length e.signals
    step true m = cc
    step false m = reads_says y (y < length e.signals) x (own x (body_of e.body)) false
        (own_uses (Says y (y < length e.signals)) x (body_of e.body) (λ k d l. f.read k d l y)) (λ n. cc) m

-- ---- initialised sinks
pub has_last : (signals : List SignalInfo) (V : ℕ → ℕ) (x : ℕ) (b : Body) (f : Bool) (a : Option Word)
    → (f ≡ true → is_some a ≡ true) → initialised x b f ≡ true → is_some (last signals V x b a) ≡ true
has_last signals V x done f a k i = k i
has_last signals V x (declare y line reset rest) f a k i = has_last signals V x rest f a k i
has_last signals V x (set line y e rest) f a k i =
    has_last signals V x rest (nat_eq x y || f) (cond (nat_eq x y) (Some (source signals e V)) a) (step (nat_eq x y)) i
  where
    step : (t : Bool) → (t || f) ≡ true → is_some (cond t (Some (source signals e V)) a) ≡ true
    step true m = refl
    step false m = k m
has_last signals V x (when line c taken other rest) f a k i =
    has_last signals V x rest (initialised x taken f && initialised x other f) _
    (step (holds signals c V) (initialised x taken f) (initialised x other f) (has_last signals V x taken f a k) (has_last signals V x other f a k)) i
  where
    step : (h t o : Bool) → (t ≡ true → is_some (last signals V x taken a) ≡ true) → (o ≡ true → is_some (last signals V x other a) ≡ true)
        → (t && o) ≡ true → is_some (cond h (last signals V x taken a) (last signals V x other a)) ≡ true
    step true true true p q m = p refl
    step false true true p q m = q refl
    step h true false p q m = cc
    step h false o p q m = cc

find_none : {X : Type 0} (p : X → Bool) (xs : List X) → find p xs ≡ None → All (λ x. p x ≡ false) xs
find_none p [] h = All-nil (λ x. p x ≡ false)
find_none p (x ∷ xs) h = step (p x) refl (find_none p xs) h
  where
    step : (t : Bool) → p x ≡ t → (find p xs ≡ None → All (λ y. p y ≡ false) xs) → cond t (Some x) (find p xs) ≡ None → All (λ y. p y ≡ false) (x ∷ xs)
    step true e go m = cc
    step false e go m = All-cons (λ y. p y ≡ false) x xs e (go m)

none_open : (e : Elab) → uninitialised e ≡ None → (x : ℕ) → x < length e.signals → is_left_open e x ≡ false
none_open e h x l =
    let a : is_left_open e (Rattle.std.proofs.Common.get_or (range_with_len 0 (length e.signals)) x 0) ≡ false
    = find_none (is_left_open e) (range_with_len 0 (length e.signals)) h x 0 (subst (λ n. x < n) (sym (Rattle.std.proofs.lemmas.List.FromFn.length-range_with_len 0 (length e.signals))) l) in
    let g = Rattle.std.proofs.lemmas.List.FromFn.get_or-range_with_len 0 (length e.signals) x 0 l in
    subst (λ y. is_left_open e y ≡ false) (g ∙ plain x) a
  where
    plain : (n : ℕ) → 0 + n ≡ n
    plain n = omega arith

is_there : (o : Option Word) → is_some o ≡ true → o ≢ None
is_there None h = cc
is_there (Some w) h = λ e. cc

pub connected_sinks : (e : Elab) (V : ℕ → ℕ) → uninitialised e ≡ None → (x : ℕ) → x < length e.signals
    → is_kept (info e.signals x).role ≡ false → last_connect e V x ≢ None
connected_sinks e V h x l k =
    is_there (last_connect e V x) (has_last e.signals V x (own x (body_of e.body)) false None (λ m. cc)
    (shut (is_kept (info e.signals x).role) (initialised x (own x (body_of e.body)) false) k (none_open e h x l)))
  where
    shut : (t i : Bool) → t ≡ false → (not t && not i) ≡ false → i ≡ true
    shut true i p q = cc
    shut false true p q = refl
    shut false false p q = cc
