-- Known names with and without those of drivers.
use Rattle.std.proofs.Common.{◌≡◌, ℕ, ◌+◌, ◌-◌, List, [], ◌∷◌, ◌++◌, length, Bool, true, false, not, cond, ◌||◌, ◌&&◌, nat_le, Option, Some, None, is_some, refl, sym, ap, subst, ◌∙◌, arith, length-append}
use Rattle.std.specs.Str.{bytes_eq}
use Rattle.std.proofs.lemmas.Slice.Eq.{bytes_eq-Decides}
use Rattle.tl_ast.specs.declared.tree.TestExpr.{TestExpr}
use Rattle.tl_ast.specs.declared.tree.TestExpr.TheFolds.{fold-roll-TestExpr, ind-TestExpr, map-TestExpr}
use Rattle.tl_ast.specs.declared.tree.TestExpr.TheViews.{roll-TestExpr}
use Rattle.tl_ast.specs.declared.tree.TestExpr.TheOpen as E
use Rattle.tl_ast.specs.declared.tree.TestExpr.TheOpen.{TestExpr-F}
use Rattle.tl_check.specs.Scopes.{Known, is_among, with_variable, handle_named, is_handle, with_handle, drivers_handle, is_full, one_handle_more, most_handles}
use Rattle.tl_check.specs.Values.{unknown_level, uses_unknown}

abbrev pub Name : Type 0
Name = List ℕ

abbrev pub Handles : Type 0
Handles = List (List ℕ × Bool)

abbrev pub known : List Name → Handles → Known
known variables handles = record { variables = variables; handles = handles }

-- ---- names

pub same_name : (a b : Name) → bytes_eq a b ≡ true → a ≡ b
same_name a b e = (bytes_eq-Decides a b).0 e

pub name_self : (a : Name) → bytes_eq a a ≡ true
name_self a = (bytes_eq-Decides a a).1 refl

pub flipped : (a b : Name) → bytes_eq a b ≡ false → bytes_eq b a ≡ false
flipped a b e = go (bytes_eq b a) refl
  where
    go : (c : Bool) → bytes_eq b a ≡ c → bytes_eq b a ≡ false
    go false f = f
    go true f = let t : bytes_eq a b ≡ true = ap (λ z. bytes_eq a z) (same_name b a f) ∙ name_self a in let u : true ≡ false = sym t ∙ e in cc

pub or_no : (b : Bool) → (b || false) ≡ b
or_no true = refl
or_no false = refl

pub and_no : (b : Bool) → (b && false) ≡ false
and_no true = refl
and_no false = refl

-- ---- variables

pub among_behind : (d x : Name) (vs : List Name) → is_among d (vs ++ x ∷ []) ≡ (is_among d vs || bytes_eq d x)
among_behind d x [] = or_no (bytes_eq d x)
among_behind d x (v ∷ vs) = go (bytes_eq d v) (among_behind d x vs)
  where
    go : (b : Bool) → is_among d (vs ++ x ∷ []) ≡ (is_among d vs || bytes_eq d x) → (b || is_among d (vs ++ x ∷ [])) ≡ ((b || is_among d vs) || bytes_eq d x)
    go true e = refl
    go false e = e

-- a variable is known behind its `let`
pub among_with : (x : Name) (vs : List Name) → is_among x (with_variable x vs) ≡ true
among_with x vs = go (is_among x vs) refl
  where
    go : (b : Bool) → is_among x vs ≡ b → is_among x (cond b vs (vs ++ x ∷ [])) ≡ true
    go true e = e
    go false e = among_behind x x vs ∙ ap (λ c. is_among x vs || c) (name_self x) ∙ ap (λ c. c || true) e

-- a known variable stays known
pub among_stays : (n x : Name) (vs : List Name) → is_among n vs ≡ true → is_among n (with_variable x vs) ≡ true
among_stays n x vs h = go (is_among x vs)
  where
    go : (b : Bool) → is_among n (cond b vs (vs ++ x ∷ [])) ≡ true
    go true = h
    go false = among_behind n x vs ∙ ap (λ c. c || bytes_eq n x) h

pub not_false : (b : Bool) → not b ≡ false → b ≡ true
not_false true e = refl
not_false false e = absurd cc

pub or_left : (a b : Bool) → (a || b) ≡ false → a ≡ false
or_left true b e = e
or_left false b e = refl

pub or_right : (a b : Bool) → (a || b) ≡ false → b ≡ false
or_right true b e = absurd cc
or_right false b e = e

-- an expression that uses known variables uses known ones behind a `let`
module _ (x : Name) (vs : List Name) where
  abbrev StaysKnown : TestExpr → Type 0
  StaysKnown e = uses_unknown vs e ≡ false → uses_unknown (with_variable x vs) e ≡ false

  abbrev With : Type 0
  With = (e : TestExpr) × StaysKnown e

  abbrev uses_at : List Name → TestExpr-F With → TestExpr-F Bool
  uses_at ws y = map-TestExpr TestExpr Bool (uses_unknown ws) (map-TestExpr With TestExpr (λ t. t.0) y)

  level_known : (y : TestExpr-F With) → unknown_level vs (uses_at vs y) ≡ false → unknown_level (with_variable x vs) (uses_at (with_variable x vs) y) ≡ false
  level_known (E.Num n) h = refl
  level_known (E.Var n) h = ap not (among_stays n x vs (not_false (is_among n vs) h))
  level_known (E.Neg t) h = t.1 h
  level_known (E.Two op a b) h =
      ap (λ c. c || uses_unknown (with_variable x vs) b.0) (a.1 (or_left (uses_unknown vs a.0) (uses_unknown vs b.0) h))
      ∙ b.1 (or_right (uses_unknown vs a.0) (uses_unknown vs b.0) h)

  pub stays_known : (e : TestExpr) → uses_unknown vs e ≡ false → uses_unknown (with_variable x vs) e ≡ false
  stays_known = ind-TestExpr StaysKnown (λ z y is. subst (λ w. StaysKnown (roll-TestExpr w)) is (λ h.
      let m : TestExpr-F TestExpr = map-TestExpr With TestExpr (λ t. t.0) y in
      fold-roll-TestExpr Bool (unknown_level (with_variable x vs)) m ∙ level_known y (sym (fold-roll-TestExpr Bool (unknown_level vs) m) ∙ h)))

-- ---- handles

pub handle_behind : (d x : Name) (w : Bool) (hs : Handles) → is_handle d (hs ++ (x, w) ∷ []) ≡ (is_handle d hs || bytes_eq d x)
handle_behind d x w [] = go (bytes_eq d x)
  where
    go : (b : Bool) → is_some (cond b (Some w) None) ≡ b
    go true = refl
    go false = refl
handle_behind d x w (h ∷ hs) = go (bytes_eq d h.0) (handle_behind d x w hs)
  where
    go : (b : Bool) → is_handle d (hs ++ (x, w) ∷ []) ≡ (is_handle d hs || bytes_eq d x) → is_some (cond b (Some h.1) (handle_named d (hs ++ (x, w) ∷ []))) ≡ (is_some (cond b (Some h.1) (handle_named d hs)) || bytes_eq d x)
    go true e = refl
    go false e = e

-- a handle is known behind its fork
pub handle_with : (x : Name) (w : Bool) (hs : Handles) → is_handle x (with_handle x w hs) ≡ true
handle_with x w hs = go (is_handle x hs) refl
  where
    go : (b : Bool) → is_handle x hs ≡ b → is_handle x (cond b hs (hs ++ (x, w) ∷ [])) ≡ true
    go true e = e
    go false e = handle_behind x x w hs ∙ ap (λ c. is_handle x hs || c) (name_self x) ∙ ap (λ c. c || true) e

-- what is known of a handle behind a fork of another
named_before : (y x : Name) (w : Bool) (hs : Handles) → bytes_eq y x ≡ false → handle_named y (hs ++ (x, w) ∷ []) ≡ handle_named y hs
named_before y x w [] e = ap (λ b. cond b (Some w) None) e
named_before y x w (h ∷ hs) e = ap (λ o. cond (bytes_eq y h.0) (Some h.1) o) (named_before y x w hs e)

-- the same of lists that know the same of it
named_both : (y x : Name) (w : Bool) (hs ks : Handles) → handle_named y ks ≡ handle_named y hs
    → handle_named y (ks ++ (x, w) ∷ []) ≡ handle_named y (hs ++ (x, w) ∷ [])
named_both y x w hs ks e = named_is y x w ks ∙ ap (λ o. or_new y x w o) e ∙ sym (named_is y x w hs)
  where
    or_new : (y x : Name) (w : Bool) → Option Bool → Option Bool
    or_new y x w None = cond (bytes_eq y x) (Some w) None
    or_new y x w (Some b) = Some b

    named_is : (y x : Name) (w : Bool) (hs : Handles) → handle_named y (hs ++ (x, w) ∷ []) ≡ or_new y x w (handle_named y hs)
    named_is y x w [] = refl
    named_is y x w (h ∷ hs) = go (bytes_eq y h.0) (named_is y x w hs)
      where
        go : (b : Bool) → handle_named y (hs ++ (x, w) ∷ []) ≡ or_new y x w (handle_named y hs) → cond b (Some h.1) (handle_named y (hs ++ (x, w) ∷ [])) ≡ or_new y x w (cond b (Some h.1) (handle_named y hs))
        go true i = refl
        go false i = i

abbrev pub one_if : Bool → ℕ
one_if b = cond b 1 0

-- Handles of a test and of its core form at the same place: of all but the drivers' handle the same is known, and the drivers' handle
-- is one besides.
pub record Alike (hs ks : Handles) : Type 0 where
  pub named : (x : Name) → bytes_eq x drivers_handle ≡ false → handle_named x ks ≡ handle_named x hs
  pub none : is_handle drivers_handle hs ≡ false
  pub count : length ks ≡ length hs + one_if (is_handle drivers_handle ks)

pub alike_none : Alike [] []
alike_none = record { named = λ x e. refl; none = refl; count = omega arith }

-- behind a fork of the test
pub alike_fork : (x : Name) (w : Bool) (hs ks : Handles) → bytes_eq x drivers_handle ≡ false → Alike hs ks → Alike (with_handle x w hs) (with_handle x w ks)
alike_fork x w hs ks other a =
    go (is_handle x hs) (is_handle x ks) (ap (λ o. is_some o) (a.named x other))
  where
    go : (b c : Bool) → c ≡ b → Alike (cond b hs (hs ++ (x, w) ∷ [])) (cond c ks (ks ++ (x, w) ∷ []))
    go true true e = a
    go true false e = absurd cc
    go false true e = absurd cc
    go false false e =
        let own : bytes_eq drivers_handle x ≡ false = flipped x drivers_handle other in
        let count = a.count in
        record {
          named = λ y i. named_both y x w hs ks (a.named y i);
          none = handle_behind drivers_handle x w hs ∙ ap (λ d. is_handle drivers_handle hs || d) own ∙ ap (λ d. d || false) a.none;
          count =
              let same : is_handle drivers_handle (ks ++ (x, w) ∷ []) ≡ is_handle drivers_handle ks =
              handle_behind drivers_handle x w ks ∙ ap (λ d. is_handle drivers_handle ks || d) own ∙ or_no (is_handle drivers_handle ks) in
              subst (λ d. length (ks ++ (x, w) ∷ []) ≡ length (hs ++ (x, w) ∷ []) + one_if d) (sym same)
              (omega (arith, count, length-append ks ((x, w) ∷ []), length-append hs ((x, w) ∷ [])));
        }

-- behind a fork of a driver
pub alike_driver : (w : Bool) (hs ks : Handles) → Alike hs ks → Alike hs (with_handle drivers_handle w ks)
alike_driver w hs ks a = go (is_handle drivers_handle ks) refl
  where
    go : (b : Bool) → is_handle drivers_handle ks ≡ b → Alike hs (cond b ks (ks ++ (drivers_handle, w) ∷ []))
    go true e = a
    go false e =
        let count : length ks ≡ length hs + one_if (is_handle drivers_handle ks) = a.count in
        let before : length ks ≡ length hs + one_if false = subst (λ b. length ks ≡ length hs + one_if b) e count in
        let now : is_handle drivers_handle (ks ++ (drivers_handle, w) ∷ []) ≡ true =
        handle_behind drivers_handle drivers_handle w ks ∙ ap (λ d. is_handle drivers_handle ks || d) (name_self drivers_handle) ∙ ap (λ d. d || true) e in
        record {
          named = λ y i. named_before y drivers_handle w ks i ∙ a.named y i;
          none = a.none;
          count = subst (λ d. length (ks ++ (drivers_handle, w) ∷ []) ≡ length hs + one_if d) (sym now)
              (omega (arith, before, length-append ks ((drivers_handle, w) ∷ [])));
        }

-- a fork of the test makes no more handles known than it may
pub alike_more : (x : Name) (hs ks : Handles) → bytes_eq x drivers_handle ≡ false → Alike hs ks → one_handle_more x ks ≡ one_handle_more x hs
alike_more x hs ks other a =
    ap (λ o. not (is_some o) && (not (bytes_eq x drivers_handle) && is_full most_handles (length ks) (is_handle drivers_handle ks))) (a.named x other)
    ∙ ap (λ b. not (is_handle x hs) && (not (bytes_eq x drivers_handle) && b)) full
  where
    full : is_full most_handles (length ks) (is_handle drivers_handle ks) ≡ is_full most_handles (length hs) (is_handle drivers_handle hs)
    full =
        ap (λ n. is_full most_handles n (is_handle drivers_handle ks)) a.count ∙ go (is_handle drivers_handle ks)
        ∙ ap (λ b. is_full most_handles (length hs) b) (sym a.none)
      where
        go : (b : Bool) → is_full most_handles (length hs + one_if b) b ≡ is_full most_handles (length hs) false
        go true = ap (λ n. nat_le most_handles n) (let e : length hs + 1 - 1 ≡ length hs = omega arith in e)
        go false = ap (λ n. nat_le most_handles n) (let e : length hs + 0 ≡ length hs = omega arith in e)
