-- Tests that tell that a circuit is formed, sized and without a loop.
use Rattle.std.proofs.Common.{◌≡◌, ◌≢◌, ◌∙◌, sym, ap, subst, ℕ, zero, suc, ◌<◌, Bool, true, false, not, ◌&&◌, ◌||◌, List, [], ◌∷◌, ◌++◌, Option, Some, None, nat_eq, nat_lt, nat_le, cond, ◌⊎◌, inl, inr, get_or, refl, ⊎_elim, length, arith, is_some}
use Rattle.std.specs.Prelude.{slice_get, slice_index}
use Rattle.std.specs.List.{All, list_all}
use Rattle.std.specs.Str.{bytes_eq}
use Rattle.std.specs.Cmp.Lexicographic.{other_text}
use Rattle.std.proofs.lemmas.List.Elements.{All-nil, All-cons, All-head, All-tail}
use Rattle.std.proofs.lemmas.Bool.{and_parts, or_cases, eqb-true, eqb-false, ltb-true, leb-true, cases_order}
use Rattle.tb_base.specs.Row.{same_sign}
use Rattle.net_core.specs.declared.tree.Elab.{Elab}
use Rattle.net_core.specs.declared.tree.SignalInfo.{SignalInfo}
use Rattle.net_core.specs.Signals.{info, is_input, is_port, is_node, is_register, is_kept, given_width}
use Rattle.net_core.specs.Shapes.{shape}
use Rattle.net_core.specs.Body.{Body, done, declare, set, when, body_of, whens, depth}
use Rattle.net_core.specs.Last.{home, own, or_else, reads}
use Rattle.net_core.specs.Depends.{reads_of, Loops, ends, goes, NoLoop}
use Rattle.net_core.specs.Rules.{has}
use Rattle.net_core.specs.Widths.{Asked, sources, is_free, Meets}
use Rattle.net_core.specs.WidthRules.{uses, width_rule}
use Rattle.net_core.specs.Formed.{Formed, Sized, made, declares, lines_of, first_declared, set_signals, count_of, nodes_follow, in_scope, width_fits, given_widths}
use Rattle.net_core.proofs.FormedFacts.{All-left, All-right}
use Rattle.net_core.proofs.ReadLists.{mentioned, mentions_listed, reads_from, reads_listed}

-- all numbers below n
abbrev pub up_to : ℕ → (ℕ → Bool) → Bool
up_to zero p = true
up_to (suc n) p = p n && up_to n p

pub below : (n : ℕ) (p : ℕ → Bool) → up_to n p ≡ true → (x : ℕ) → x < n → p x ≡ true
below zero p h x l = absurd (none x l)
  where
    none : (y : ℕ) → y < 0 → ⊥
    none y k = omega arith
below (suc n) p h x l = step (nat_eq x n) refl (below n p (and_parts (p n) (up_to n p) h).1 x)
  where
    other : x ≢ n → x < n
    other d = omega arith

    step : (t : Bool) → nat_eq x n ≡ t → (x < n → p x ≡ true) → p x ≡ true
    step true e k = rw (eqb-true x n e) (and_parts (p n) (up_to n p) h).0
    step false e k = k (other (eqb-false x n e))

pub passes : {X : Type 0} (p : X → Bool) (xs : List X) → list_all p xs ≡ true → All (λ x. p x ≡ true) xs
passes p [] h = All-nil (λ x. p x ≡ true)
passes p (x ∷ xs) h = let t = and_parts (p x) (list_all p xs) h in All-cons (λ y. p y ≡ true) x xs t.0 (passes p xs t.1)

pub has_passes : (p : ℕ → Bool) (xs : List ℕ) (y : ℕ) → list_all p xs ≡ true → has xs y ≡ true → p y ≡ true
has_passes p [] y h m = cc
has_passes p (x ∷ xs) y h m =
    let t = and_parts (p x) (list_all p xs) h in
    ⊎_elim (λ e. rw (eqb-true y x e) t.0) (λ n. has_passes p xs y t.1 n) (or_cases (nat_eq y x) (has xs y) m)

-- where a test holds, so does what follows
pub then_ : (a b : Bool) → (not a || b) ≡ true → a ≡ true → b ≡ true
then_ true b h e = h
then_ false b h e = cc

pub shut : (b : Bool) → not b ≡ true → b ≡ false
shut false h = refl
shut true h = cc

abbrev pub is_one : List ℕ → ℕ → Bool
is_one [] n = false
is_one (x ∷ []) n = nat_eq x n
is_one (x ∷ y ∷ ys) n = false

one_is : (xs : List ℕ) (n : ℕ) → is_one xs n ≡ true → xs ≡ n ∷ []
one_is [] n h = cc
one_is (x ∷ []) n h = ap (λ k. k ∷ []) (eqb-true x n h)
one_is (x ∷ y ∷ ys) n h = cc

abbrev pub is_place : Option ℕ → ℕ → Bool
is_place None x = false
is_place (Some y) x = nat_eq y x

place_is : (o : Option ℕ) (x : ℕ) → is_place o x ≡ true → o ≡ Some x
place_is None x h = cc
place_is (Some y) x h = ap Some (eqb-true y x h)

sign_is : (a b : Bool) → same_sign a b ≡ true → a ≡ b
sign_is true true h = refl
sign_is true false h = cc
sign_is false true h = cc
sign_is false false h = refl

-- the tests, in the order of the parts of `Formed`
abbrev pub form_tests : List SignalInfo → Body → List Bool
form_tests signals b =
    nat_le (length signals) 65536
    ∷ list_all (λ u. list_all (λ y. nat_lt y (length signals)) (mentioned u.expr)) (uses b)
    ∷ list_all (λ x. nat_lt x (length signals)) (set_signals b)
    ∷ list_all (λ d. nat_lt d.signal (length signals)) (declares b)
    ∷ up_to (length signals) (λ x. is_one (lines_of x (declares b)) (info signals x).line)
    ∷ up_to (length signals) (λ y. not (is_port (info signals y).role) || up_to y (λ x. is_port (info signals x).role))
    ∷ up_to (length signals) (λ x. not (is_port (info signals x).role) || nat_lt x 256)
    ∷ up_to (length signals) (λ y. not (is_port (info signals y).role) || up_to y (λ x. not (bytes_eq (info signals x).name (info signals y).name)))
    ∷ up_to (length signals) (λ x. not (is_port (info signals x).role) || is_place (slice_get (first_declared b) x) x)
    ∷ up_to (length signals) (λ x. not (is_input (info signals x).role) || is_some (info signals x).width)
    ∷ nodes_follow signals b
    ∷ up_to (length signals) (λ x. not (is_node (info signals x).role) || nat_eq (count_of x (set_signals b)) 1)
    ∷ list_all (λ d. not (is_some d.reset) || is_register (info signals d.signal).role) (declares b)
    ∷ list_all (λ x. not (is_input (info signals x).role)) (set_signals b)
    ∷ in_scope [] b
    ∷ list_all (λ u. (made signals u.expr).right) (uses b)
    ∷ list_all (λ a. same_sign (shape signals [] a.source).signed (info signals a.sink).signed) (sources b)
    ∷ list_all (λ u. not u.condition || not (shape signals [] u.expr).signed) (uses b)
    ∷ list_all (λ i. width_fits i.width) signals
    ∷ nat_le (depth b) 320
    ∷ nat_le (whens b) 4194304
    ∷ []

abbrev pub is_formed : List SignalInfo → Body → Bool
is_formed signals b = list_all (λ t. t) (form_tests signals b)

-- the test at a place
pub test_at : (ts : List Bool) → list_all (λ t. t) ts ≡ true → (k : ℕ) → nat_lt k (length ts) ≡ true → get_or ts k false ≡ true
test_at ts h k l = passes (λ t. t) ts h k false (ltb-true k (length ts) l)

distinct_by : (signals : List SignalInfo) → up_to (length signals) (λ y. not (is_port (info signals y).role)
    || up_to y (λ x. not (bytes_eq (info signals x).name (info signals y).name))) ≡ true
    → (x y : ℕ) → y < length signals → is_port (info signals y).role ≡ true → x < y → (info signals x).name ≢ (info signals y).name
distinct_by signals h x y l p k =
    other_text _ _ (sym (shut _ (below y _ (then_ _ _ (below (length signals) _ h y l) p) x k)))

pub formed_by : (e : Elab) (b : Body) → body_of e.body ≡ b → is_formed e.signals b ≡ true → Formed e
formed_by e b h m = let t = test_at (form_tests e.signals b) m in record {
  few = leb-true _ _ (t 0 refl);
  read = rw h (λ k d l y m. ltb-true _ _ (has_passes (λ z. nat_lt z (length e.signals)) _ y (passes _ (uses b) (t 1 refl) k d l) (sym (mentions_listed _ y) ∙ m)));
  set_below = rw h (λ k d l. ltb-true _ _ (passes _ (set_signals b) (t 2 refl) k d l));
  declared_below = rw h (λ k d l. ltb-true _ _ (passes _ (declares b) (t 3 refl) k d l));
  declared_once = rw h (λ x l. one_is _ _ (below (length e.signals) _ (t 4 refl) x l));
  ports_first = λ x y k l p. below y _ (then_ _ _ (below (length e.signals) _ (t 5 refl) y l) p) x k;
  few_ports = λ x l p. ltb-true _ _ (then_ _ _ (below (length e.signals) _ (t 6 refl) x l) p);
  distinct = λ x y k l p q same. ⊎_elim (λ i. i) (λ o. ⊎_elim
      (λ m. absurd (distinct_by e.signals (t 7 refl) x y l q m same))
      (λ m. absurd (distinct_by e.signals (t 7 refl) y x k p m (sym same))) o) (cases_order x y);
  ports_declared = rw h (λ x l p. place_is _ _ (then_ _ _ (below (length e.signals) _ (t 8 refl) x l) p));
  inputs_given = λ x l p. then_ _ _ (below (length e.signals) _ (t 9 refl) x l) p;
  nodes_set = rw h (t 10 refl);
  nodes_once = rw h (λ x l p. eqb-true _ _ (then_ _ _ (below (length e.signals) _ (t 11 refl) x l) p));
  resets = rw h (λ k d l p. then_ _ _ (passes _ (declares b) (t 12 refl) k d l) p);
  inputs_kept = rw h (λ k d l. shut _ (passes _ (set_signals b) (t 13 refl) k d l));
  scoped = rw h (t 14 refl);
  right = rw h (passes (λ u. (made e.signals u.expr).right) (uses b) (t 15 refl));
  one_sign = rw h (λ k d l. sign_is _ _ (passes _ (sources b) (t 16 refl) k d l));
  conditions = rw h (λ k d l p. shut _ (then_ _ _ (passes _ (uses b) (t 17 refl) k d l) p));
  narrow = passes (λ i. width_fits i.width) e.signals (t 18 refl);
  nested = rw h (leb-true _ _ (t 19 refl));
  few_whens = rw h (leb-true _ _ (t 20 refl));
}

abbrev pub is_node_wide : Elab → Asked → Bool
is_node_wide e a = not (is_node (info e.signals a.sink).role)
    || nat_eq (slice_index (given_widths e) a.sink) (shape e.signals (given_widths e) a.source).width

pub sized_by : (e : Elab) (b : Body) → body_of e.body ≡ b → Formed e → list_all (λ i. is_some i.width) e.signals ≡ true
    → list_all (is_node_wide e) (sources b) ≡ true → width_rule e (given_widths e) ≡ None → Sized e
sized_by e b h f given nodes ruled = record {
  formed = f;
  given = passes (λ i. is_some i.width) e.signals given;
  nodes = rw h (λ k d l p. eqb-true _ _ (then_ _ _ (passes _ (sources b) nodes k d l) p));
  ruled = ruled;
}

-- a signal that reads something is declared
or_else_none : {A : Type 0} (a b : Option A) → is_some (or_else a b) ≡ true → (is_some a ≡ true) ⊎ (is_some b ≡ true)
or_else_none None b h = inr h
or_else_none (Some a) b h = inl h

home_declared : (P : ℕ → Type 0) (x : ℕ) (b : Body) → All (λ d. P d.signal) (declares b) → is_some (home x b) ≡ true → P x
home_declared P x done h m = cc
home_declared P x (declare y line reset rest) h m =
    step (nat_eq x y) refl m (home_declared P x rest (All-tail (λ d. P d.signal) _ (declares rest) h))
  where
    step : (t : Bool) → nat_eq x y ≡ t → is_some (cond t (Some rest) (home x rest)) ≡ true → (is_some (home x rest) ≡ true → P x) → P x
    step true e n k = subst P (sym (eqb-true x y e)) (All-head (λ d. P d.signal) _ (declares rest) h)
    step false e n k = k n
home_declared P x (set line y e rest) h m = home_declared P x rest h m
home_declared P x (when line c taken other rest) h m =
    let u = All-right (λ d. P d.signal) (declares taken) (declares other ++ declares rest) h in
    ⊎_elim (λ t. home_declared P x taken (All-left (λ d. P d.signal) (declares taken) (declares other ++ declares rest) h) t)
    (λ n. ⊎_elim (λ t. home_declared P x other (All-left (λ d. P d.signal) (declares other) (declares rest) u) t)
    (λ t. home_declared P x rest (All-right (λ d. P d.signal) (declares other) (declares rest) u) t)
    (or_else_none (home x other) (home x rest) n))
    (or_else_none (home x taken) (or_else (home x other) (home x rest)) m)

pub reader_below : (e : Elab) → Formed e → (x y : ℕ) → reads_of e x y ≡ true → x < length e.signals
reader_below e f x y r = step (is_kept (info e.signals x).role) r
  where
    found : (o : Option Body) → reads x y (elim o [ None ↦ done | Some c ↦ c ]) false ≡ true → is_some o ≡ true
    found None m = cc
    found (Some c) m = refl

    step : (t : Bool) → cond t false (reads x y (own x (body_of e.body)) false) ≡ true → x < length e.signals
    step true m = cc
    step false m = home_declared (λ z. z < length e.signals) x (body_of e.body) f.declared_below (found (home x (body_of e.body)) m)

-- numbers that fall from each signal to what it reads leave no loop
loop_falls : (e : Elab) (rank : ℕ → ℕ) → ((x y : ℕ) → reads_of e x y ≡ true → rank y < rank x) → (p x : ℕ) → Loops e p x → rank p < rank x
loop_falls e rank f p x (ends _ r) = f x p r
loop_falls e rank f p x (goes _ y r l) = let a = loop_falls e rank f p y l in let b = f x y r in omega arith

pub no_loop_by : (e : Elab) (b : Body) → body_of e.body ≡ b → Formed e → (rank : ℕ → ℕ)
    → up_to (length e.signals) (λ x. list_all (λ y. nat_lt (rank y) (rank x)) (reads_from e.signals b x)) ≡ true → NoLoop e
no_loop_by e b h f rank t x l = let a = loop_falls e rank falls x x l in omega arith
  where
    falls : (x y : ℕ) → reads_of e x y ≡ true → rank y < rank x
    falls x y r = ltb-true _ _ (has_passes _ (reads_from e.signals b x) y
        (below (length e.signals) _ t x (reader_below e f x y r)) (sym (reads_listed e b h x y) ∙ r))

-- widths that meet what the circuit asks for
abbrev pub is_written : Elab → List ℕ → ℕ → Bool
is_written e w x = is_free (info e.signals x) || nat_eq (slice_index w x) (given_width (info e.signals x))

abbrev pub is_wide_enough : Elab → List ℕ → Asked → Bool
is_wide_enough e w a = not (is_free (info e.signals a.sink)) || nat_le (shape e.signals w a.source).width (slice_index w a.sink)

pub meets_by : (e : Elab) (b : Body) → body_of e.body ≡ b → (w : List ℕ) → up_to (length e.signals) (is_written e w) ≡ true
    → list_all (is_wide_enough e w) (sources b) ≡ true → Meets e w
meets_by e b h w t u = record {
  written = λ x l f. eqb-true _ _ (left _ _ (below (length e.signals) (is_written e w) t x l) f);
  wide = rw h (λ k d l f. leb-true _ _ (then_ _ _ (passes _ (sources b) u k d l) f));
}
  where
    left : (c d : Bool) → (c || d) ≡ true → c ≡ false → d ≡ true
    left true d i j = cc
    left false d i j = i
