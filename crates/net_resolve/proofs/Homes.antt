-- What the table has for a signal that is declared once, in scope of its connects.
use Rattle.std.proofs.Common.{◌≡◌, ◌∙◌, ap, subst, ℕ, zero, suc, ◌+◌, ◌≤◌, ◌++◌, Bool, true, false, ◌&&◌, ◌||◌, nat_eq, refl, Option, Some, None, is_some, cond, List, [], ◌∷◌, length, arith}
use Rattle.std.proofs.lemmas.Bool.{or_parts, eqb-true}
use Rattle.net_core.specs.declared.tree.GroundExpr.{GroundExpr}
use Rattle.net_core.specs.declared.tree.GroundReset.{GroundReset}
use Rattle.net_core.specs.Body.{Body, done, declare, set, when, whens}
use Rattle.net_core.specs.Last.{or_else, home, sinks, reset_of}
use Rattle.net_core.specs.Formed.{Declared, lines_of, in_scope, holds_number}
use Rattle.net_core.specs.Formed as formed
use Rattle.net_resolve.specs.declared.join.Found.{Found}
use Rattle.net_resolve.specs.Walk.{declares, kept, found, leaving, inner, or_old}
use Rattle.net_resolve.specs.Resets.{resets}
use Rattle.net_resolve.proofs.Numbering.{Numbered}
use Rattle.net_resolve.proofs.Fits.{Undeclared, undeclared_here}

-- how often x is declared
abbrev pub times : ℕ → Body → ℕ
times x done = 0
times x (declare y line reset rest) = cond (nat_eq x y) 1 0 + times x rest
times x (set line y e rest) = times x rest
times x (when line c t o rest) = times x t + times x o + times x rest

lines-append : (x : ℕ) (ds es : List Declared) → length (lines_of x (ds ++ es)) ≡ length (lines_of x ds) + length (lines_of x es)
lines-append x [] es = plain (length (lines_of x es))
  where
    plain : (n : ℕ) → n ≡ 0 + n
    plain n = omega arith
lines-append x (d ∷ ds) es = step (nat_eq x d.signal) (lines-append x ds es)
  where
    more : (a b c : ℕ) → a ≡ b + c → suc a ≡ suc b + c
    more a b c h = omega (arith, h)

    step : (t : Bool) → length (lines_of x (ds ++ es)) ≡ length (lines_of x ds) + length (lines_of x es)
        → length (cond t (d.line ∷ lines_of x (ds ++ es)) (lines_of x (ds ++ es))) ≡ length (cond t (d.line ∷ lines_of x ds) (lines_of x ds)) + length (lines_of x es)
    step true h = more _ _ _ h
    step false h = h

pub times_lines : (x : ℕ) (b : Body) → length (lines_of x (formed.declares b)) ≡ times x b
times_lines x done = refl
times_lines x (declare y line reset rest) = step (nat_eq x y) (times_lines x rest)
  where
    one : (a b : ℕ) → a ≡ b → suc a ≡ 1 + b
    one a b h = omega (arith, h)

    none : (a b : ℕ) → a ≡ b → a ≡ 0 + b
    none a b h = omega (arith, h)

    step : (t : Bool) → length (lines_of x (formed.declares rest)) ≡ times x rest
        → length (cond t (line ∷ lines_of x (formed.declares rest)) (lines_of x (formed.declares rest))) ≡ cond t 1 0 + times x rest
    step true h = one _ _ h
    step false h = none _ _ h
times_lines x (set line y e rest) = times_lines x rest
times_lines x (when line c t o rest) =
    lines-append x (formed.declares t) (formed.declares o ++ formed.declares rest)
    ∙ sum _ _ _ _ _ _ _ (times_lines x t) (lines-append x (formed.declares o) (formed.declares rest)) (times_lines x o) (times_lines x rest)
  where
    sum : (a b c d e f g : ℕ) → a ≡ b → g ≡ c + d → c ≡ e → d ≡ f → a + g ≡ b + e + f
    sum a b c d e f g p q r s = omega (arith, p, q, r, s)

pub undeclared : (x : ℕ) (b : Body) → times x b ≡ 0 → Undeclared x b
undeclared x done h = tt
undeclared x (declare y line reset rest) h = step (nat_eq x y) refl h (undeclared x rest)
  where
    low : (a b : ℕ) → a + b ≡ 0 → b ≡ 0
    low a b h = omega (arith, h)

    not_one : (b : ℕ) → 1 + b ≡ 0 → ⊥
    not_one b h = absurd (omega (arith, h))

    step : (t : Bool) → nat_eq x y ≡ t → cond t 1 0 + times x rest ≡ 0 → (times x rest ≡ 0 → Undeclared x rest) → (nat_eq x y ≡ false) × Undeclared x rest
    step true e h u = absurd (not_one (times x rest) h)
    step false e h u = (e, u (low 0 (times x rest) h))
undeclared x (set line y e rest) h = undeclared x rest h
undeclared x (when line c t o rest) h =
    (undeclared x t (first _ _ _ h), undeclared x o (second (times x t) _ _ h), undeclared x rest (third (times x t) (times x o) _ h))
  where
    first : (a b c : ℕ) → a + b + c ≡ 0 → a ≡ 0
    first a b c h = omega (arith, h)

    second : (a b c : ℕ) → a + b + c ≡ 0 → b ≡ 0
    second a b c h = omega (arith, h)

    third : (a b c : ℕ) → a + b + c ≡ 0 → c ≡ 0
    third a b c h = omega (arith, h)

-- without a declaration

home_none : (x : ℕ) (b : Body) → Undeclared x b → home x b ≡ None
home_none x done u = refl
home_none x (declare y line reset rest) u = rw u.0 (home_none x rest u.1)
home_none x (set line y e rest) u = home_none x rest u
home_none x (when line c t o rest) u = rw (home_none x t u.0, home_none x o u.1) (home_none x rest u.2)

reset_none : (x : ℕ) (b : Body) → Undeclared x b → reset_of x b ≡ None
reset_none x done u = refl
reset_none x (declare y line reset rest) u = rw u.0 (reset_none x rest u.1)
reset_none x (set line y e rest) u = reset_none x rest u
reset_none x (when line c t o rest) u = rw (reset_none x t u.0, reset_none x o u.1) (reset_none x rest u.2)

resets_same : (x : ℕ) (b : Body) (a : Option GroundReset) → Undeclared x b → resets x b a ≡ a
resets_same x done a u = refl
resets_same x (declare y line None rest) a u = resets_same x rest a u.1
resets_same x (declare y line (Some r) rest) a u = rw u.0 (resets_same x rest a u.1)
resets_same x (set line y e rest) a u = resets_same x rest a u
resets_same x (when line c t o rest) a u = rw (resets_same x t a u.0, resets_same x o a u.1) (resets_same x rest a u.2)

leaving_same : (x : ℕ) (b : Body) (f old : Option Found) → Undeclared x b → leaving x b f old ≡ old
leaving_same x b f old u = rw (undeclared_here x b u) refl

inner_same : (x n : ℕ) (b : Body) (old : Option Found) → Undeclared x b → inner x n b old ≡ old
inner_same x n done old u = refl
inner_same x n (declare y line reset rest) old u = inner_same x n rest old u.1
inner_same x n (set line y e rest) old u = inner_same x n rest old u
inner_same x n (when line c t o rest) old u =
    inner_same x (n + 1 + whens t + whens o) rest _ u.2
    ∙ leaving_same x o _ _ u.1 ∙ inner_same x (n + 1 + whens t) o _ u.1
    ∙ leaving_same x t _ _ u.0 ∙ inner_same x (n + 1) t old u.0

-- without a connect

kept_none : (x : ℕ) (b : Body) → kept x b None ≡ None
kept_none x b = step (declares x b) None
  where
    step : (t : Bool) (f : Option Found) → cond t f f ≡ f
    step true f = refl
    step false f = refl

found_same : (x n : ℕ) (b : Body) (a : Option Found) → sinks x b ≡ false → found x n b a ≡ a
found_same x n done a h = refl
found_same x n (declare y line reset rest) a h = found_same x n rest a h
found_same x n (set line y e rest) a h =
    let p = or_parts (nat_eq x y) (sinks x rest) h in
    rw p.0 (found_same x n rest a p.1)
found_same x n (when line c t o rest) a h =
    let p = or_parts (sinks x t || sinks x o) (sinks x rest) h in
    let q = or_parts (sinks x t) (sinks x o) p.0 in
    rw (found_same x (n + 1) t None q.0, found_same x (n + 1 + whens t) o None q.1, kept_none x t, kept_none x o)
    (found_same x (n + 1 + whens t + whens o) rest a p.1)

both_true : (p q : Bool) → (p && q) ≡ true → (p ≡ true) × (q ≡ true)
both_true true q h = (refl, h)
both_true false q h = cc

-- another number than one that is known
apart : (known : List ℕ) (x y : ℕ) → holds_number known x ≡ false → holds_number known y ≡ true → nat_eq x y ≡ false
apart known x y h k = step (nat_eq x y) refl
  where
    differ : holds_number known y ≡ false → nat_eq x y ≡ false
    differ f = cc (f, k)

    step : (t : Bool) → nat_eq x y ≡ t → nat_eq x y ≡ false
    step false e = e
    step true e = differ (subst (λ z. holds_number known z ≡ false) (eqb-true x y e) h)

unsunk : (known : List ℕ) (x : ℕ) (b : Body) → in_scope known b ≡ true → holds_number known x ≡ false → Undeclared x b → sinks x b ≡ false
unsunk known x done s k u = refl
unsunk known x (declare y line reset rest) s k u = unsunk (y ∷ known) x rest s (rw (u.0, k) refl) u.1
unsunk known x (set line y e rest) s k u =
    let p = both_true (holds_number known y) (in_scope known rest) s in
    rw (apart known x y k p.0) (unsunk known x rest p.1 k u)
unsunk known x (when line c t o rest) s k u =
    let p = both_true (in_scope known t) (in_scope known o && in_scope known rest) s in
    let q = both_true (in_scope known o) (in_scope known rest) p.1 in
    rw (unsunk known x t p.0 k u.0, unsunk known x o q.0 k u.1) (unsunk known x rest q.1 k u.2)

-- where the one declaration of three blocks stands
data Which (a b c : ℕ) : Type 0 where
  first : a ≡ 1 → b ≡ 0 → c ≡ 0 → Which a b c
  second : a ≡ 0 → b ≡ 1 → c ≡ 0 → Which a b c
  third : a ≡ 0 → b ≡ 0 → c ≡ 1 → Which a b c

which : (a b c : ℕ) → a + b + c ≡ 1 → Which a b c
which zero zero c h = third refl refl (omega (arith, h))
which zero (suc b) c h = second refl (omega (arith, h)) (omega (arith, h))
which (suc a) b c h = first (omega (arith, h)) (omega (arith, h)) (omega (arith, h))

-- the number of the first condition behind the declaration of x
abbrev pub place : ℕ → ℕ → Body → ℕ
place x n done = n
place x n (declare y line reset rest) = cond (nat_eq x y) n (place x n rest)
place x n (set line y e rest) = place x n rest
place x n (when line c t o rest) =
    cond (is_some (home x t)) (place x (n + 1) t)
    (cond (is_some (home x o)) (place x (n + 1 + whens t) o) (place x (n + 1 + whens t + whens o) rest))

abbrev pub At : (ℕ → GroundExpr → Type 0) → ℕ → Option Body → Type 0
At P m None = Unit {0}
At P m (Some r) = Numbered P m r

either_at : (P : ℕ → GroundExpr → Type 0) (a b : Option Body) (m k : ℕ) → At P m a → At P k b → At P (cond (is_some a) m k) (or_else a b)
either_at P None b m k p q = q
either_at P (Some r) b m k p q = p

pub numbered_home : (P : ℕ → GroundExpr → Type 0) (x n : ℕ) (b : Body) → Numbered P n b → At P (place x n b) (home x b)
numbered_home P x n done h = tt
numbered_home P x n (declare y line reset rest) h = step (nat_eq x y) (numbered_home P x n rest h)
  where
    step : (t : Bool) → At P (place x n rest) (home x rest) → At P (cond t n (place x n rest)) (cond t (Some rest) (home x rest))
    step true p = h
    step false p = p
numbered_home P x n (set line y e rest) h = numbered_home P x n rest h
numbered_home P x n (when line c t o rest) h =
    either_at P (home x t) (or_else (home x o) (home x rest)) _ _ (numbered_home P x (n + 1) t h.1)
    (either_at P (home x o) (home x rest) _ _ (numbered_home P x (n + 1 + whens t) o h.2) (numbered_home P x (n + 1 + whens t + whens o) rest h.3))

pub place_from : (x n : ℕ) (b : Body) → n ≤ place x n b
place_from x n done = omega arith
place_from x n (declare y line reset rest) = step (nat_eq x y) (place_from x n rest)
  where
    same : n ≤ n
    same = omega arith

    step : (t : Bool) → n ≤ place x n rest → n ≤ cond t n (place x n rest)
    step true h = same
    step false h = h
place_from x n (set line y e rest) = place_from x n rest
place_from x n (when line c t o rest) =
    step (is_some (home x t)) (is_some (home x o)) (place_from x (n + 1) t) (place_from x (n + 1 + whens t) o) (place_from x (n + 1 + whens t + whens o) rest)
  where
    less : (m k p : ℕ) → m + 1 + k ≤ p → m ≤ p
    less m k p h = omega (arith, h)

    less_one : (m p : ℕ) → m + 1 ≤ p → m ≤ p
    less_one m p h = omega (arith, h)

    less_two : (m k j p : ℕ) → m + 1 + k + j ≤ p → m ≤ p
    less_two m k j p h = omega (arith, h)

    step : (s r : Bool) → n + 1 ≤ place x (n + 1) t → n + 1 + whens t ≤ place x (n + 1 + whens t) o → n + 1 + whens t + whens o ≤ place x (n + 1 + whens t + whens o) rest
        → n ≤ cond s (place x (n + 1) t) (cond r (place x (n + 1 + whens t) o) (place x (n + 1 + whens t + whens o) rest))
    step true r p q u = less_one n _ p
    step false true p q u = less n (whens t) _ q
    step false false p q u = less_two n (whens t) (whens o) _ u

-- the table has what is found behind the declaration
pub record Entered (x n : ℕ) (b : Body) (old : Option Found) : Type 0 where
  pub rest : Body
  pub at : home x b ≡ Some rest
  pub once : Undeclared x rest
  pub table : leaving x b (found x n b None) (inner x n b old) ≡ or_old (found x (place x n b) rest None) old

pub entered : (x n : ℕ) (b : Body) (known : List ℕ) (old : Option Found) → in_scope known b ≡ true → holds_number known x ≡ false → times x b ≡ 1 → Entered x n b old
entered x n done known old s k h = cc
entered x n (declare y line reset rest) known old s k h =
    step (nat_eq x y) refl h (λ e. entered x n rest (y ∷ known) old s (rw (e, k) refl))
  where
    none_left : (a : ℕ) → 1 + a ≡ 1 → a ≡ 0
    none_left a h = omega (arith, h)

    one_left : (a : ℕ) → 0 + a ≡ 1 → a ≡ 1
    one_left a h = omega (arith, h)

    step : (t : Bool) → nat_eq x y ≡ t → cond t 1 0 + times x rest ≡ 1 → (nat_eq x y ≡ false → times x rest ≡ 1 → Entered x n rest old) → Entered x n (declare y line reset rest) old
    step true e h go =
        let u = undeclared x rest (none_left (times x rest) h) in
        record { rest = rest; at = rw e refl; once = u; table = rw (e, inner_same x n rest old u) refl }
    step false e h go =
        let i = go e (one_left (times x rest) h) in
        record { rest = i.rest; at = rw e i.at; once = i.once; table = rw e i.table }
entered x n (set line y e rest) known old s k h =
    let p = both_true (holds_number known y) (in_scope known rest) s in
    let i = entered x n rest known old p.1 k h in
    record { rest = i.rest; at = i.at; once = i.once; table = rw (apart known x y k p.0) i.table }
entered x n (when line c t o rest) known old s k h =
    let p = both_true (in_scope known t) (in_scope known o && in_scope known rest) s in
    let q = both_true (in_scope known o) (in_scope known rest) p.1 in
    step (which (times x t) (times x o) (times x rest) h) p.0 q.0
    (entered x (n + 1) t known old p.0 k) (entered x (n + 1 + whens t) o known old q.0 k) (entered x (n + 1 + whens t + whens o) rest known old q.1 k)
  where
    step : Which (times x t) (times x o) (times x rest) → in_scope known t ≡ true → in_scope known o ≡ true
        → (times x t ≡ 1 → Entered x (n + 1) t old) → (times x o ≡ 1 → Entered x (n + 1 + whens t) o old)
        → (times x rest ≡ 1 → Entered x (n + 1 + whens t + whens o) rest old)
        → Entered x n (when line c t o rest) old
    step (first a b d) st so go1 go2 go3 =
        let i = go1 a in
        let uo = undeclared x o b in
        let ur = undeclared x rest d in
        record {
          rest = i.rest;
          at = rw i.at refl;
          once = i.once;
          table = leaving_same x rest _ _ ur ∙ inner_same x (n + 1 + whens t + whens o) rest _ ur ∙ leaving_same x o _ _ uo ∙ inner_same x (n + 1 + whens t) o _ uo ∙ i.table ∙ rw i.at refl;
        }
    step (second a b d) st so go1 go2 go3 =
        let i = go2 b in
        let ut = undeclared x t a in
        let ur = undeclared x rest d in
        record {
          rest = i.rest;
          at = rw (home_none x t ut, i.at) refl;
          once = i.once;
          table = leaving_same x rest _ _ ur ∙ inner_same x (n + 1 + whens t + whens o) rest _ ur
              ∙ ap (λ z. leaving x o (found x (n + 1 + whens t) o None) (inner x (n + 1 + whens t) o z)) (leaving_same x t _ _ ut ∙ inner_same x (n + 1) t old ut)
              ∙ i.table ∙ rw (home_none x t ut, i.at) refl;
        }
    step (third a b d) st so go1 go2 go3 =
        let i = go3 d in
        let ut = undeclared x t a in
        let uo = undeclared x o b in
        record {
          rest = i.rest;
          at = rw (home_none x t ut, home_none x o uo) i.at;
          once = i.once;
          table = rw (
            found_same x (n + 1) t None (unsunk known x t st k ut),
            found_same x (n + 1 + whens t) o None (unsunk known x o so k uo),
            kept_none x t,
            kept_none x o,
            inner_same x (n + 1) t old ut,
            leaving_same x t None old ut,
            inner_same x (n + 1 + whens t) o old uo,
            leaving_same x o None old uo,
            home_none x t ut,
            home_none x o uo,
          )
              i.table;
        }

or_else_none : (a : Option GroundReset) → or_else a None ≡ a
or_else_none None = refl
or_else_none (Some r) = refl

pub resets_once : (x : ℕ) (b : Body) (old : Option GroundReset) → times x b ≡ 1 → resets x b old ≡ or_else (reset_of x b) old
resets_once x done old h = cc
resets_once x (declare y line None rest) old h = step (nat_eq x y) refl h (resets_once x rest old)
  where
    none_left : (a : ℕ) → 1 + a ≡ 1 → a ≡ 0
    none_left a h = omega (arith, h)

    one_left : (a : ℕ) → 0 + a ≡ 1 → a ≡ 1
    one_left a h = omega (arith, h)

    step : (t : Bool) → nat_eq x y ≡ t → cond t 1 0 + times x rest ≡ 1 → (times x rest ≡ 1 → resets x rest old ≡ or_else (reset_of x rest) old) → resets x rest old ≡ or_else (cond t None (reset_of x rest)) old
    step true e h go = resets_same x rest old (undeclared x rest (none_left _ h))
    step false e h go = go (one_left _ h)
resets_once x (declare y line (Some r) rest) old h = step (nat_eq x y) refl h (resets_once x rest old)
  where
    none_left : (a : ℕ) → 1 + a ≡ 1 → a ≡ 0
    none_left a h = omega (arith, h)

    one_left : (a : ℕ) → 0 + a ≡ 1 → a ≡ 1
    one_left a h = omega (arith, h)

    step : (t : Bool) → nat_eq x y ≡ t → cond t 1 0 + times x rest ≡ 1 → (times x rest ≡ 1 → resets x rest old ≡ or_else (reset_of x rest) old) → resets x rest (cond t (Some r) old) ≡ or_else (cond t (Some r) (reset_of x rest)) old
    step true e h go = resets_same x rest (Some r) (undeclared x rest (none_left _ h))
    step false e h go = go (one_left _ h)
resets_once x (set line y e rest) old h = resets_once x rest old h
resets_once x (when line c t o rest) old h =
    step (which (times x t) (times x o) (times x rest) h) (resets_once x t old) (resets_once x o old) (resets_once x rest old)
  where
    step : Which (times x t) (times x o) (times x rest)
        → (times x t ≡ 1 → resets x t old ≡ or_else (reset_of x t) old)
        → (times x o ≡ 1 → resets x o old ≡ or_else (reset_of x o) old)
        → (times x rest ≡ 1 → resets x rest old ≡ or_else (reset_of x rest) old)
        → resets x rest (resets x o (resets x t old)) ≡ or_else (or_else (reset_of x t) (or_else (reset_of x o) (reset_of x rest))) old
    step (first a b d) go1 go2 go3 =
        resets_same x rest _ (undeclared x rest d) ∙ resets_same x o _ (undeclared x o b) ∙ go1 a
        ∙ rw (reset_none x o (undeclared x o b), reset_none x rest (undeclared x rest d), or_else_none (reset_of x t)) refl
    step (second a b d) go1 go2 go3 =
        resets_same x rest _ (undeclared x rest d) ∙ ap (resets x o) (resets_same x t old (undeclared x t a)) ∙ go2 b
        ∙ rw (reset_none x t (undeclared x t a), reset_none x rest (undeclared x rest d), or_else_none (reset_of x o)) refl
    step (third a b d) go1 go2 go3 =
        ap (resets x rest) (resets_same x o _ (undeclared x o b) ∙ resets_same x t old (undeclared x t a)) ∙ go3 d
        ∙ rw (reset_none x t (undeclared x t a), reset_none x o (undeclared x o b)) refl
