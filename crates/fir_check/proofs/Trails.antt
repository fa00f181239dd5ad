-- A search over instances: what was found, and what the search has gone through.
use Rattle.std.proofs.Common.{ℕ, zero, suc, ◌≡◌, ◌+◌, ◌<◌, ◌≤◌, Bool, true, false, cond, ◌||◌, ◌&&◌, nat_eq, nat_lt, List, [], ◌∷◌, ◌++◌, length, drop, get_or, set, take, replicate, refl, sym, ap, subst, ◌∙◌, ◌⊎◌, inl, inr, arith, add-one, zero-add, append_assoc, drop-cons, eqb-true, eq-eqb}
use Rattle.std.proofs.lemmas.Bool.{eqb-false, ltb-true, ltb-false}
use Rattle.std.specs.List.{list_any, list_all}
use Rattle.std.specs.declared.vec.Vec.{Vec}
use Rattle.std.specs.declared.alloc.Global.{Global}
use Rattle.std.proofs.lemmas.List.{get_or_append_left, length-append, length-set, get_or-set_other, append-nil, length-replicate, take-append-le, take_all}
use Rattle.fir_check.specs.declared.instances.Instance.{Instance}
use Rattle.fir_check.specs.Instances.{kids_seen, kids_at, reaches, Leads, Parts, Within, Trail, visit, spread}

-- tests

pub or-true : (x y : Bool) → (x || y) ≡ true → (x ≡ false → y ≡ true)
or-true true y h n = cc
or-true false y h n = h

pub or-left : (x y : Bool) → x ≡ true → (x || y) ≡ true
or-left true y h = refl
or-left false y h = cc

pub or-right : (x y : Bool) → y ≡ true → (x || y) ≡ true
or-right true y h = refl
or-right false y h = h

pub or-none : (x y : Bool) → x ≡ false → y ≡ false → (x || y) ≡ false
or-none true y h k = cc
or-none false y h k = k

pub any-step : (x y r s : Bool) → (x ≡ true → y ≡ true) → (r ≡ true → s ≡ true) → (x || r) ≡ true → (y || s) ≡ true
any-step true y r s f g h = or-left y s (f refl)
any-step false y r s f g h = or-right y s (g h)

pub and-left : (x y : Bool) → (x && y) ≡ true → x ≡ true
and-left true y h = refl
and-left false y h = h

pub and-right : (x y : Bool) → (x && y) ≡ true → y ≡ true
and-right true y h = h
and-right false y h = cc

pub and-both : (x y : Bool) → x ≡ true → y ≡ true → (x && y) ≡ true
and-both true y h k = k
and-both false y h k = h

-- modules among those that were found

abbrev pub is_in : ℕ → List ℕ → Bool
is_in x xs = list_any (λ y. nat_eq y x) xs

abbrev pub all_in : List Instance → List ℕ → Bool
all_in insts xs = list_all (λ i. is_in i.target xs) insts

in-left : (x : ℕ) (xs ys : List ℕ) → is_in x xs ≡ true → is_in x (xs ++ ys) ≡ true
in-left x [] ys h = cc
in-left x (y ∷ xs) ys h = step (nat_eq y x) (λ k. in-left x xs ys k) h
  where
    step : (b : Bool) → (is_in x xs ≡ true → is_in x (xs ++ ys) ≡ true) → (b || is_in x xs) ≡ true → (b || is_in x (xs ++ ys)) ≡ true
    step true f k = refl
    step false f k = f k

in-last : (x : ℕ) (xs : List ℕ) → is_in x (xs ++ x ∷ []) ≡ true
in-last x [] = or-left (nat_eq x x) false (eq-eqb x x refl)
in-last x (y ∷ xs) = or-right (nat_eq y x) (is_in x (xs ++ x ∷ [])) (in-last x xs)

in-either : (x a : ℕ) (xs : List ℕ) → is_in x (xs ++ a ∷ []) ≡ true → (is_in x xs ≡ false) → a ≡ x
in-either x a [] h n = eqb-true a x (one (nat_eq a x) h)
  where
    one : (b : Bool) → (b || false) ≡ true → b ≡ true
    one true k = refl
    one false k = k
in-either x a (y ∷ xs) h n = step (nat_eq y x) (λ k m. in-either x a xs k m) h n
  where
    step : (b : Bool) → (is_in x (xs ++ a ∷ []) ≡ true → is_in x xs ≡ false → a ≡ x) → (b || is_in x (xs ++ a ∷ [])) ≡ true → (b || is_in x xs) ≡ false → a ≡ x
    step true f k m = cc
    step false f k m = f k m

pub record Stands (x : ℕ) (xs : List ℕ) : Type 0 where
  pub at : ℕ
  pub below : at < length xs
  pub is : get_or xs at 0 ≡ x

in-stands : (x : ℕ) (xs : List ℕ) → is_in x xs ≡ true → Stands x xs
in-stands x [] h = cc
in-stands x (y ∷ xs) h = step (nat_eq y x) (λ k. in-stands x xs k) refl h
  where
    further : Stands x xs → Stands x (y ∷ xs)
    further s = record { at = suc s.at; below = (let q : s.at < length xs = s.below in omega arith); is = s.is }

    step : (b : Bool) → (is_in x xs ≡ true → Stands x xs) → nat_eq y x ≡ b → (b || is_in x xs) ≡ true → Stands x (y ∷ xs)
    step true f e k = record { at = 0; below = omega arith; is = eqb-true y x e }
    step false f e k = further (f k)

-- a count of the modules without a mark

unfoldable pub unmarked : List Bool → ℕ
unmarked [] = 0
unmarked (true ∷ bs) = unmarked bs
unmarked (false ∷ bs) = suc (unmarked bs)

unmarked-set : (bs : List Bool) (a : ℕ) → a < length bs → get_or bs a false ≡ false → suc (unmarked (set bs a true)) ≡ unmarked bs
unfolding unmarked
unmarked-set [] a h e = absurd (omega arith)
unmarked-set (true ∷ bs) zero h e = cc
unmarked-set (false ∷ bs) zero h e = refl
unmarked-set (true ∷ bs) (suc a) h e = unmarked-set bs a (omega arith) e
unmarked-set (false ∷ bs) (suc a) h e = ap suc (unmarked-set bs a (omega arith) e)

-- a way, longer by one instance

pub way_here : (kids : List (List Instance)) (a : ℕ) → Leads kids a a
way_here kids a = record { steps = 0; way = eq-eqb a a refl }

reaches-next : (n : ℕ) (kids : List (List Instance)) (a b : ℕ) (c : ℕ) → reaches n kids a b ≡ true → list_any (λ i. nat_eq i.target c) (kids_at kids b) ≡ true → reaches (suc n) kids a c ≡ true
reaches-next zero kids a b c h k =
    or-right (nat_eq a c) _ (ap (λ x. list_any (λ i. nat_eq i.target c) (kids_at kids x)) (eqb-true a b h) ∙ k)
reaches-next (suc n) kids a b c h k = or-right (nat_eq a c) _ (step (λ x e. reaches-next n kids x b c e k) (nat_eq a b) refl h)
  where
    mapped : ((x : ℕ) → reaches n kids x b ≡ true → reaches (suc n) kids x c ≡ true) → (insts : List Instance) → list_any (λ i. reaches n kids i.target b) insts ≡ true → list_any (λ i. reaches (suc n) kids i.target c) insts ≡ true
    mapped f [] m = m
    mapped f (i ∷ insts) m = any-step (reaches n kids i.target b) (reaches (suc n) kids i.target c) _ _ (f i.target) (mapped f insts) m

    direct : (insts : List Instance) → list_any (λ i. nat_eq i.target c) insts ≡ true → list_any (λ i. reaches (suc n) kids i.target c) insts ≡ true
    direct [] m = m
    direct (i ∷ insts) m = any-step (nat_eq i.target c) (reaches (suc n) kids i.target c) _ _ (λ e. or-left (nat_eq i.target c) _ e) (direct insts) m

    step : ((x : ℕ) → reaches n kids x b ≡ true → reaches (suc n) kids x c ≡ true) → (x : Bool) → nat_eq a b ≡ x → (x || list_any (λ i. reaches n kids i.target b) (kids_at kids a)) ≡ true → list_any (λ i. reaches (suc n) kids i.target c) (kids_at kids a) ≡ true
    step f true e m = direct (kids_at kids a) (ap (λ x. list_any (λ i. nat_eq i.target c) (kids_at kids x)) (eqb-true a b e) ∙ k)
    step f false e m = mapped f (kids_at kids a) m

-- what a search has found

pub record State (kids : List (List Instance)) (from : ℕ) (t : Trail) : Type 0 where
  pub long : length t.0 ≡ length kids
  pub inside : (x : ℕ) → is_in x t.1 ≡ true → x < length kids
  pub kept : (x : ℕ) → get_or t.0 x false ≡ true → is_in x t.1 ≡ true
  pub way : (x : ℕ) → is_in x t.1 ≡ true → Leads kids from x
  pub room : length t.1 + unmarked t.0 ≡ length kids

visit-state : (kids : List (List Instance)) (from a : ℕ) (t : Trail) → a < length kids → Leads kids from a → State kids from t → State kids from (visit a t)
visit-state kids from a t h w s = step (get_or t.0 a false) refl
  where
    unmarked_now : length t.0 ≡ length kids → get_or t.0 a false ≡ false → suc (unmarked (set t.0 a true)) ≡ unmarked t.0
    unmarked_now l e = unmarked-set t.0 a (omega arith) e

    in_new : (x : ℕ) → is_in x (t.1 ++ a ∷ []) ≡ true → (b : Bool) → is_in x t.1 ≡ b → (is_in x t.1 ≡ true) ⊎ (a ≡ x)
    in_new x m true e = inl e
    in_new x m false e = inr (in-either x a t.1 m e)

    marked_new : (x : ℕ) → get_or (set t.0 a true) x false ≡ true → (b : Bool) → nat_eq a x ≡ b → is_in x (t.1 ++ a ∷ []) ≡ true
    marked_new x m true e = ap (λ y. is_in x (t.1 ++ y ∷ [])) (eqb-true a x e) ∙ in-last x t.1
    marked_new x m false e = in-left x t.1 (a ∷ []) (s.kept x (sym (get_or-set_other t.0 a x true false (λ q. eqb-false a x e (sym q))) ∙ m))

    step : (b : Bool) → get_or t.0 a false ≡ b → State kids from (cond b t (set t.0 a true, t.1 ++ a ∷ []))
    step true e = s
    step false e = record {
      long = length-set t.0 a true ∙ s.long;
      inside = λ x m. elim (in_new x m (is_in x t.1) refl) [ inl p ↦ s.inside x p | inr q ↦ subst (λ y. y < length kids) q h ];
      kept = λ x m. marked_new x m (nat_eq a x) refl;
      way = λ x m. elim (in_new x m (is_in x t.1) refl) [ inl p ↦ s.way x p | inr q ↦ subst (λ y. Leads kids from y) q w ];
      room = let u : suc (unmarked (set t.0 a true)) ≡ unmarked t.0 = unmarked_now s.long e in
          let r : length t.1 + unmarked t.0 ≡ length kids = s.room in
          let l : length (t.1 ++ a ∷ []) ≡ length t.1 + 1 = length-append t.1 (a ∷ []) in omega arith;
    }

-- a search only finds more

pub record More (xs ys : List ℕ) : Type 0 where
  pub rest : List ℕ
  pub is : ys ≡ xs ++ rest

more-refl : (xs : List ℕ) → More xs xs
more-refl xs = record { rest = []; is = sym (append-nil xs) }

more-trans : (xs ys zs : List ℕ) → More xs ys → More ys zs → More xs zs
more-trans xs ys zs p q = record { rest = p.rest ++ q.rest; is = q.is ∙ ap (λ t. t ++ q.rest) p.is ∙ append_assoc xs p.rest q.rest }

visit-more : (a : ℕ) (t : Trail) → More t.1 (visit a t).1
visit-more a t = elim (get_or t.0 a false) as (λ b. More t.1 (cond b t (set t.0 a true, t.1 ++ a ∷ [])).1) [ true ↦ more-refl t.1 | false ↦ record { rest = a ∷ []; is = refl } ]

pub spread-more : (insts : List Instance) (t : Trail) → More t.1 (spread insts t).1
spread-more [] t = more-refl t.1
spread-more (i ∷ insts) t = more-trans t.1 (visit i.target t).1 (spread insts (visit i.target t)).1 (visit-more i.target t) (spread-more insts (visit i.target t))

more-in : (x : ℕ) (xs ys : List ℕ) → More xs ys → is_in x xs ≡ true → is_in x ys ≡ true
more-in x xs ys m h = ap (is_in x) m.is ∙ in-left x xs m.rest h

more-all : (insts : List Instance) (xs ys : List ℕ) → More xs ys → all_in insts xs ≡ true → all_in insts ys ≡ true
more-all [] xs ys m h = refl
more-all (i ∷ insts) xs ys m h =
    and-both (is_in i.target ys) (all_in insts ys) (more-in i.target xs ys m (and-left (is_in i.target xs) (all_in insts xs) h)) (more-all insts xs ys m (and-right (is_in i.target xs) (all_in insts xs) h))

more-at : (k : ℕ) (xs ys : List ℕ) → More xs ys → k < length xs → get_or ys k 0 ≡ get_or xs k 0
more-at k xs ys m h = ap (λ t. get_or t k 0) m.is ∙ get_or_append_left xs m.rest 0 k h

visit-in : (kids : List (List Instance)) (from a : ℕ) (t : Trail) → State kids from t → is_in a (visit a t).1 ≡ true
visit-in kids from a t s = step (get_or t.0 a false) refl
  where
    step : (b : Bool) → get_or t.0 a false ≡ b → is_in a (cond b t (set t.0 a true, t.1 ++ a ∷ [])).1 ≡ true
    step true e = s.kept a e
    step false e = in-last a t.1

-- a module's instances, all found
pub record Spread (kids : List (List Instance)) (from : ℕ) (insts : List Instance) (t u : Trail) : Type 0 where
  pub state : State kids from u
  pub all : all_in insts u.1 ≡ true

pub spread_all : (kids : List (List Instance)) (from here : ℕ) (insts : List Instance) (t : Trail)
    → list_all (λ i. nat_lt i.target (length kids)) insts ≡ true → ((c : ℕ) → list_any (λ i. nat_eq i.target c) insts ≡ true → Leads kids from c)
    → State kids from t → Spread kids from insts t (spread insts t)
spread_all kids from here [] t w l s = record { state = s; all = refl }
spread_all kids from here (i ∷ insts) t w l s =
    let first : State kids from (visit i.target t) =
    visit-state kids from i.target t (ltb-true i.target (length kids) (and-left (nat_lt i.target (length kids)) _ w))
    (l i.target (or-left (nat_eq i.target i.target) _ (eq-eqb i.target i.target refl))) s in
    let rest : Spread kids from insts (visit i.target t) (spread insts (visit i.target t)) =
    spread_all kids from here insts (visit i.target t) (and-right (nat_lt i.target (length kids)) _ w) (λ c m. l c (or-right (nat_eq i.target c) _ m)) first in
    record {
      state = rest.state;
      all = and-both (is_in i.target (spread insts (visit i.target t)).1) (all_in insts (spread insts (visit i.target t)).1)
          (more-in i.target (visit i.target t).1 (spread insts (visit i.target t)).1 (spread-more insts (visit i.target t)) (visit-in kids from i.target t s)) rest.all;
    }

-- what was gone through: it isn't what is looked for, and its instances were found
pub record Search (kids : List (List Instance)) (from to : ℕ) (t : Trail) (next : ℕ) : Type 0 where
  pub state : State kids from t
  pub start : is_in from t.1 ≡ true
  pub other : (k : ℕ) → k < next → nat_eq (get_or t.1 k 0) to ≡ false
  pub closed : (k : ℕ) → k < next → all_in (kids_at kids (get_or t.1 k 0)) t.1 ≡ true
  pub within : next ≤ length t.1

unmarked-none : (n : ℕ) → unmarked (replicate n false) ≡ n
unfolding unmarked
unmarked-none zero = refl
unmarked-none (suc n) = ap suc (unmarked-none n)

none-marked : (n x : ℕ) → get_or (replicate n false) x false ≡ true → ⊥
none-marked zero x h = cc
none-marked (suc n) zero h = cc
none-marked (suc n) (suc x) h = none-marked n x h

pub search_start : (kids : List (List Instance)) (from to : ℕ) (marks : List Bool) (found : List ℕ) → from < length kids
    → marks ≡ (visit from (replicate (length kids) false, [])).0 → found ≡ (visit from (replicate (length kids) false, [])).1 → Search kids from to (marks, found) 0
search_start kids from to marks found h p q =
    let empty : State kids from (replicate (length kids) false, []) = record {
      long = length-replicate (length kids) false;
      inside = λ x m. cc;
      kept = λ x m. absurd (none-marked (length kids) x m);
      way = λ x m. cc;
      room = zero-add (unmarked (replicate (length kids) false)) ∙ unmarked-none (length kids);
    } in
    let one : State kids from (visit from (replicate (length kids) false, [])) = visit-state kids from from (replicate (length kids) false, []) h (way_here kids from) empty in
    let same : (visit from (replicate (length kids) false, [])) ≡ (marks, found) = ap (λ x. (x, (visit from (replicate (length kids) false, [])).1)) (sym p) ∙ ap (λ x. (marks, x)) (sym q) in
    record {
      state = subst (λ t. State kids from t) same one;
      start = ap (is_in from) q ∙ visit-in kids from from (replicate (length kids) false, []) empty;
      other = λ k m. absurd (omega arith);
      closed = λ k m. absurd (omega arith);
      within = omega arith;
    }

pub spread_next : (insts : List Instance) (k : ℕ) (d : Instance) (t u w : Trail) → k < length insts
    → u.0 ≡ (visit (get_or insts k d).target t).0 → u.1 ≡ (visit (get_or insts k d).target t).1 → spread (drop k insts) t ≡ w → spread (drop (k + 1) insts) u ≡ w
spread_next insts k d t u w h p q e =
    let g : Instance = get_or insts k d in
    ap (λ x. spread (drop (k + 1) insts) (x, u.1)) p ∙ ap (λ x. spread (drop (k + 1) insts) ((visit g.target t).0, x)) q
    ∙ ap (λ ys. spread ys (visit g.target t)) (ap (λ n. drop n insts) (add-one k))
    ∙ sym (ap (λ ys. spread ys t) (drop-cons insts k d h)) ∙ e

pub below_all : (insts : List Instance) (n k : ℕ) (d : Instance) → list_all (λ i. nat_lt i.target n) insts ≡ true → k < length insts → (get_or insts k d).target < n
below_all [] n k d h l = absurd (omega arith)
below_all (i ∷ insts) n zero d h l = ltb-true i.target n (and-left (nat_lt i.target n) _ h)
below_all (i ∷ insts) n (suc k) d h l = below_all insts n k d (and-right (nat_lt i.target n) _ h) (omega arith)

at-in : (xs : List ℕ) (k : ℕ) → k < length xs → is_in (get_or xs k 0) xs ≡ true
at-in [] k h = absurd (omega arith)
at-in (x ∷ xs) zero h = or-left (nat_eq x x) _ (eq-eqb x x refl)
at-in (x ∷ xs) (suc k) h = or-right (nat_eq x (get_or xs k 0)) _ (at-in xs k (omega arith))

way_on : (kids : List (List Instance)) (from here c : ℕ) → Leads kids from here → list_any (λ i. nat_eq i.target c) (kids_at kids here) ≡ true → Leads kids from c
way_on kids from here c w m = record { steps = suc w.steps; way = reaches-next w.steps kids from here c w.way m }

either_below : (k n : ℕ) → k < n + 1 → (k < n) ⊎ (k ≡ n)
either_below k n h = elim (nat_lt k n) as (λ b. nat_lt k n ≡ b → (k < n) ⊎ (k ≡ n)) [ true ↦ λ e. inl (ltb-true k n e) | false ↦ λ e. inr (let f : n ≤ k = ltb-false k n e in omega arith) ] refl

pub search_next : (kids : List (List Instance)) (from to next here : ℕ) (insts : List Instance) (t u : Trail)
    → Within (length kids) kids → next < length t.1 → here ≡ get_or t.1 next 0 → nat_eq here to ≡ false → insts ≡ kids_at kids here
    → u.0 ≡ (spread insts t).0 → u.1 ≡ (spread insts t).1 → Search kids from to t next → Search kids from to u (next + 1)
search_next kids from to next here insts t u w h e n i p q s =
    let hin : is_in here t.1 ≡ true = ap (λ x. is_in x t.1) e ∙ at-in t.1 next h in
    let sp : Spread kids from insts t (spread insts t) =
    spread_all kids from here insts t (ap (λ ys. list_all (λ j. nat_lt j.target (length kids)) ys) i ∙ w.each here)
    (λ c m. way_on kids from here c (s.state.way here hin) (ap (λ ys. list_any (λ j. nat_eq j.target c) ys) (sym i) ∙ m)) s.state in
    let more : More t.1 (spread insts t).1 = spread-more insts t in
    let same : spread insts t ≡ u = ap (λ x. (x, (spread insts t).1)) (sym p) ∙ ap (λ x. (u.0, x)) (sym q) in
    let kept : (k : ℕ) → k < length t.1 → get_or (spread insts t).1 k 0 ≡ get_or t.1 k 0 = λ k l. more-at k t.1 (spread insts t).1 more l in
    let whole : Search kids from to (spread insts t) (next + 1) = record {
      state = sp.state;
      start = more-in from t.1 (spread insts t).1 more s.start;
      other = λ k l. elim (either_below k next l) [
        | inl a ↦ ap (λ x. nat_eq x to) (kept k (let r : next ≤ length t.1 = s.within in omega arith)) ∙ s.other k a
        | inr b ↦ ap (λ x. nat_eq x to) (kept k (omega arith) ∙ ap (λ y. get_or t.1 y 0) b ∙ sym e) ∙ n
      ];
      closed = λ k l. elim (either_below k next l) [
        | inl a ↦ ap (λ x. all_in (kids_at kids x) (spread insts t).1) (kept k (let r : next ≤ length t.1 = s.within in omega arith)) ∙ more-all (kids_at kids (get_or t.1 k 0)) t.1 (spread insts t).1 more (s.closed k a)
        | inr b ↦ ap (λ x. all_in (kids_at kids x) (spread insts t).1) (kept k (omega arith) ∙ ap (λ y. get_or t.1 y 0) b ∙ sym e) ∙ ap (λ ys. all_in ys (spread insts t).1) (sym i) ∙ sp.all
      ];
      within = longer t.1 (spread insts t).1 more h;
    } in
    subst (λ x. Search kids from to x (next + 1)) same whole
  where
    longer : (xs ys : List ℕ) → More xs ys → next < length xs → next + 1 ≤ length ys
    longer xs ys m l = let a : length ys ≡ length xs + length m.rest = ap length m.is ∙ length-append xs m.rest in omega arith

pub search_found : (kids : List (List Instance)) (from to next here : ℕ) (t : Trail) → next < length t.1 → here ≡ get_or t.1 next 0 → nat_eq here to ≡ true → Search kids from to t next → Leads kids from to
search_found kids from to next here t h e n s =
    subst (λ x. Leads kids from x) (eqb-true here to n) (s.state.way here (ap (λ x. is_in x t.1) e ∙ at-in t.1 next h))

-- nothing that was found leads there
none-leads : (kids : List (List Instance)) (from to : ℕ) (t : Trail) (next : ℕ) → length t.1 ≤ next → Search kids from to t next → (n x : ℕ) → is_in x t.1 ≡ true → reaches n kids x to ≡ false
none-leads kids from to t next h s zero x m =
    let st = in-stands x t.1 m in let b : st.at < length t.1 = st.below in ap (λ y. nat_eq y to) (sym st.is) ∙ s.other st.at (omega arith)
none-leads kids from to t next h s (suc n) x m =
    let st = in-stands x t.1 m in let b : st.at < length t.1 = st.below in
    or-none (nat_eq x to) _ (ap (λ y. nat_eq y to) (sym st.is) ∙ s.other st.at (omega arith))
    (no-kid (λ y k. none-leads kids from to t next h s n y k) (kids_at kids x) (ap (λ y. all_in (kids_at kids y) t.1) (sym st.is) ∙ s.closed st.at (omega arith)))
  where
    no-kid : ((y : ℕ) → is_in y t.1 ≡ true → reaches n kids y to ≡ false) → (insts : List Instance) → all_in insts t.1 ≡ true → list_any (λ i. reaches n kids i.target to) insts ≡ false
    no-kid f [] k = refl
    no-kid f (i ∷ insts) k = or-none (reaches n kids i.target to) _ (f i.target (and-left (is_in i.target t.1) _ k)) (no-kid f insts (and-right (is_in i.target t.1) _ k))

pub search_end : (kids : List (List Instance)) (from to next : ℕ) (t : Trail) → length t.1 ≤ next → Search kids from to t next → Parts kids from to
search_end kids from to next t h s = record { none = λ n. none-leads kids from to t next h s n from s.start }

pub kids_found : (kids : List (Vec Instance Global)) (a : ℕ) (v : Vec Instance Global) → a < length kids → v ≡ get_or kids a v → v.items ≡ kids_at (kids_seen kids) a
kids_found [] a v h e = absurd (omega arith)
kids_found (k ∷ kids) zero v h e = ap (λ x. x.items) e
kids_found (k ∷ kids) (suc a) v h e = kids_found kids a v (omega arith) e

pub kids_long : (kids : List (Vec Instance Global)) → length (kids_seen kids) ≡ length kids
kids_long [] = refl
kids_long (k ∷ kids) = ap suc (kids_long kids)

-- each module is found once at most
pub found_few : (kids : List (List Instance)) (from to next : ℕ) (t : Trail) → Search kids from to t next → length t.1 ≤ length kids
found_few kids from to next t s = let r : length t.1 + unmarked t.0 ≡ length kids = s.state.room in omega arith

-- what was found is a module
pub found_inside : (kids : List (List Instance)) (from to next here : ℕ) (t : Trail) → next < length t.1 → here ≡ get_or t.1 next 0 → Search kids from to t next → here < length kids
found_inside kids from to next here t h e s = s.state.inside here (ap (λ x. is_in x t.1) e ∙ at-in t.1 next h)

pub inside_all : (kids : List (List Instance)) (n here : ℕ) (insts : List Instance) → Within n kids → insts ≡ kids_at kids here → list_all (λ i. nat_lt i.target n) insts ≡ true
inside_all kids n here insts w e = ap (λ ys. list_all (λ i. nat_lt i.target n) ys) e ∙ w.each here

pub other_module : (a b : ℕ) → (a ≡ b → ⊥) → nat_eq a b ≡ false
other_module a b n = elim (nat_eq a b) as (λ x. nat_eq a b ≡ x → x ≡ false) [ true ↦ λ e. absurd (n (eqb-true a b e)) | false ↦ λ e. refl ] refl

-- a vector's list behind a write to its slice
pub written : (n : ℕ) (new items : List Bool) → length new ≡ n → take n (new ++ drop (length new) items) ≡ new
written n new items e =
    ap (λ k. take k (new ++ drop (length new) items)) (sym e) ∙ take-append-le (length new) new (drop (length new) items) (omega arith) ∙ take_all (length new) new (omega arith)

any-default : (xs : List ℕ) (k x y : ℕ) → k < length xs → get_or xs k x ≡ get_or xs k y
any-default [] k x y h = absurd (omega arith)
any-default (z ∷ xs) zero x y h = refl
any-default (z ∷ xs) (suc k) x y h = any-default xs k x y (omega arith)

pub read_here : (xs : List ℕ) (k x : ℕ) → k < length xs → x ≡ get_or xs k x → x ≡ get_or xs k 0
read_here xs k x h e = e ∙ any-default xs k x 0 h
