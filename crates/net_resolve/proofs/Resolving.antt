-- What the pass over the signals leaves for one of them.
use Rattle.std.proofs.Common.{◌≡◌, ◌∙◌, sym, ap, subst, ℕ, zero, suc, ◌+◌, ◌<◌, ◌++◌, List, [], ◌∷◌, Option, Some, None, Bool, cond, length, get_or, arith, refl}
use Rattle.std.specs.List.{find, range_with_len}
use Rattle.net_core.specs.declared.tree.SignalInfo.{SignalInfo}
use Rattle.net_core.specs.declared.tree.GroundExpr.{GroundExpr}
use Rattle.net_core.specs.declared.tree.GroundReset.{GroundReset}
use Rattle.net_core.specs.declared.tree.Elab.{Elab}
use Rattle.net_core.specs.declared.tree.Role.TheVariants.{Reg}
use Rattle.net_core.specs.Signals.{info}
use Rattle.net_core.specs.Body.{Body, done, body_of}
use Rattle.net_core.specs.Last.{or_else, home, own, reset_of}
use Rattle.net_core.specs.Depends.{is_left_open, uninitialised}
use Rattle.net_core.specs.Nets.{Choices, nothing, no_equation}
use Rattle.net_core.specs.Formed.{Formed}
use Rattle.net_resolve.specs.declared.join.Found.{Found}
use Rattle.net_resolve.specs.Joint.{or_none}
use Rattle.net_resolve.specs.Walk.{found, leaving, inner, or_old}
use Rattle.net_resolve.specs.Resets.{resets}
use Rattle.net_resolve.specs.Resolved.{Each, reset_signal, resets_from}
use Rattle.net_resolve.specs.Pass.{equation_of, equations_from, is_open, first_open}
use Rattle.net_resolve.proofs.Numbering.{Numbered, each-left, each-right}
use Rattle.net_resolve.proofs.Homes.{At, times, times_lines, place, entered, numbered_home, resets_once}
use Rattle.net_resolve.proofs.Fits.{Fits, found_seen}
use Rattle.net_resolve.proofs.Seen.{seen, seen_full}

-- what the table has for q, and which reset
abbrev pub table_of : ℕ → Body → ℕ → Option Found
table_of n b q = leaving q b (found q n b None) (inner q n b None)

abbrev pub reset_at : Body → ℕ → Option GroundReset
reset_at b q = resets q b None

once : (e : Elab) → Formed e → (x : ℕ) → x < length e.signals → times x (body_of e.body) ≡ 1
once e f x l = sym (times_lines x (body_of e.body)) ∙ ap length (f.declared_once x l)

or_none_old : (a : Option Found) → or_old a None ≡ a
or_none_old None = refl
or_none_old (Some a) = refl

or_else_none : (a : Option GroundReset) → or_else a None ≡ a
or_else_none None = refl
or_else_none (Some r) = refl

pub reset_is : (e : Elab) → Formed e → (x : ℕ) → x < length e.signals → reset_at (body_of e.body) x ≡ reset_of x (body_of e.body)
reset_is e f x l = resets_once x (body_of e.body) None (once e f x l) ∙ or_else_none (reset_of x (body_of e.body))

own_rest : (x : ℕ) (b r : Body) → home x b ≡ Some r → own x b ≡ r
own_rest x b r h = rw (h, own) refl

-- the choices of x are what is seen of it behind its declaration
abbrev pub seen_of : Elab → ℕ → Choices
seen_of e x = seen x (place x (length e.signals) (body_of e.body)) (own x (body_of e.body)) nothing

pub table_fits : (e : Elab) → Formed e → (x : ℕ) → x < length e.signals → Fits (table_of (length e.signals) (body_of e.body) x) (seen_of e x)
table_fits e f x l =
    let b = body_of e.body in
    let n = length e.signals in
    let i = entered x n b [] None f.scoped refl (once e f x l) in
    let g = found_seen x (place x n b) i.rest None nothing i.once (record { list = refl; flag = refl }) in
    subst (λ t. Fits t (seen_of e x)) (sym (i.table ∙ or_none_old (found x (place x n b) i.rest None)))
    (subst (λ r. Fits (found x (place x n b) i.rest None) (seen x (place x n b) r nothing)) (sym (own_rest x b i.rest i.at)) g)

-- the conditions behind the declaration
pub numbered_own : (P : ℕ → GroundExpr → Type 0) (x n : ℕ) (b : Body) → Numbered P n b → Numbered P (place x n b) (own x b)
numbered_own P x n b h = step (home x b) (numbered_home P x n b h)
  where
    step : (o : Option Body) → At P (place x n b) o → Numbered P (place x n b) (elim o [ None ↦ done | Some r ↦ r ])
    step None p = tt
    step (Some r) p = p

-- a branch is left open where the choices aren't full
open_is : (e : Elab) → Formed e → (x : ℕ) → x < length e.signals
    → is_open (info e.signals x).role (or_none (table_of (length e.signals) (body_of e.body) x)) ≡ is_left_open e x
open_is e f x l =
    let g = table_fits e f x l in
    rw (g.flag, seen_full x (place x (length e.signals) (body_of e.body)) (own x (body_of e.body)) nothing) refl

first_is : (T : ℕ → Option Found) (p : ℕ → Bool) (x : ℕ) (ss : List SignalInfo)
    → ((i : ℕ) → i < length ss → is_open (info ss i).role (or_none (T (x + i))) ≡ p (x + i))
    → first_open T x ss ≡ find p (range_with_len x (length ss))
first_is T p x [] h = refl
first_is T p x (s ∷ ss) h =
    rw (head (h 0 (positive (length ss))))
    (ap (λ r. cond (p x) (Some x) r) (first_is T p (x + 1) ss (λ i l. subst (λ z. is_open (info ss i).role (or_none (T z)) ≡ p z) (shift x i) (h (suc i) (more i (length ss) l)))))
  where
    positive : (n : ℕ) → 0 < suc n
    positive n = omega arith

    more : (i n : ℕ) → i < n → suc i < suc n
    more i n l = omega (arith, l)

    shift : (a i : ℕ) → a + suc i ≡ a + 1 + i
    shift a i = omega arith

    plain : (a : ℕ) → a + 0 ≡ a
    plain a = omega arith

    head : is_open s.role (or_none (T (x + 0))) ≡ p (x + 0) → is_open s.role (or_none (T x)) ≡ p x
    head k = subst (λ z. is_open s.role (or_none (T z)) ≡ p z) (plain x) k

-- the first that is left open is the least of the circuit
pub open_first : (e : Elab) → Formed e → first_open (table_of (length e.signals) (body_of e.body)) 0 e.signals ≡ uninitialised e
open_first e f = first_is (table_of (length e.signals) (body_of e.body)) (is_left_open e) 0 e.signals
    (λ i l. subst (λ z. is_open (info e.signals i).role (or_none (table_of (length e.signals) (body_of e.body) z)) ≡ is_left_open e z) (plain i) (open_is e f i l))
  where
    plain : (i : ℕ) → i ≡ 0 + i
    plain i = omega arith

-- the equation of the signal at a place, and the number of its reset

abbrev pub number_at : (ℕ → Option GroundReset) → ℕ → ℕ → List SignalInfo → ℕ → ℕ
number_at R x k [] i = k
number_at R x k (s ∷ ss) zero = k
number_at R x k (s ∷ ss) (suc i) = number_at R (x + 1) (k + length (reset_signal s.role (R x))) ss i

pub equation_at : (T : ℕ → Option Found) (R : ℕ → Option GroundReset) (x k : ℕ) (ss : List SignalInfo) (i : ℕ) → i < length ss
    → get_or (equations_from T R x k ss) i no_equation ≡ equation_of (info ss i).role (or_none (T (x + i))) (R (x + i)) (number_at R x k ss i)
equation_at T R x k [] i l = absurd (empty i l)
  where
    empty : (j : ℕ) → j < 0 → ⊥
    empty j h = absurd (omega (arith, h))
equation_at T R x k (s ∷ ss) zero l = ap (λ z. equation_of s.role (or_none (T z)) (R z) k) (plain x)
  where
    plain : (a : ℕ) → a ≡ a + 0
    plain a = omega arith
equation_at T R x k (s ∷ ss) (suc i) l =
    equation_at T R (x + 1) (k + length (reset_signal s.role (R x))) ss i (less i (length ss) l)
    ∙ ap (λ z. equation_of (info ss i).role (or_none (T z)) (R z) (number_at R (x + 1) (k + length (reset_signal s.role (R x))) ss i)) (shift x i)
  where
    less : (j n : ℕ) → suc j < suc n → j < n
    less j n h = omega (arith, h)

    shift : (a j : ℕ) → a + 1 + j ≡ a + suc j
    shift a j = omega arith

pub length-equations : (T : ℕ → Option Found) (R : ℕ → Option GroundReset) (x k : ℕ) (ss : List SignalInfo) → length (equations_from T R x k ss) ≡ length ss
length-equations T R x k [] = refl
length-equations T R x k (s ∷ ss) = ap suc (length-equations T R (x + 1) (k + length (reset_signal s.role (R x))) ss)

pub resets_alike : (R S : ℕ → Option GroundReset) (x : ℕ) (ss : List SignalInfo) → ((i : ℕ) → i < length ss → R (x + i) ≡ S (x + i)) → resets_from R x ss ≡ resets_from S x ss
resets_alike R S x [] h = refl
resets_alike R S x (s ∷ ss) h =
    let a : R x ≡ S x = subst (λ z. R z ≡ S z) (plain x) (h 0 (positive (length ss))) in
    let r = resets_alike R S (x + 1) ss (λ i l. subst (λ z. R z ≡ S z) (shift x i) (h (suc i) (more i (length ss) l))) in
    ap (λ z. reset_signal s.role z ++ resets_from R (x + 1) ss) a ∙ ap (λ z. reset_signal s.role (S x) ++ z) r
  where
    positive : (n : ℕ) → 0 < suc n
    positive n = omega arith

    more : (i n : ℕ) → i < n → suc i < suc n
    more i n l = omega (arith, l)

    shift : (a i : ℕ) → a + suc i ≡ a + 1 + i
    shift a i = omega arith

    plain : (a : ℕ) → a + 0 ≡ a
    plain a = omega arith

-- what holds of each reset holds of a register's, at its number
pub each_reset : (P : ℕ → GroundExpr → Type 0) (R : ℕ → Option GroundReset) (x k : ℕ) (ss : List SignalInfo) (i : ℕ) (r : GroundReset)
    → Each P k (resets_from R x ss) → i < length ss → (info ss i).role ≡ Reg → R (x + i) ≡ Some r → P (number_at R x k ss i) r.signal
each_reset P R x k [] i r h l g q = absurd (empty i l)
  where
    empty : (j : ℕ) → j < 0 → ⊥
    empty j h = absurd (omega (arith, h))
each_reset P R x k (s ∷ ss) zero r h l g q =
    let a : R x ≡ Some r = subst (λ z. R z ≡ Some r) (plain x) q in
    let v : reset_signal s.role (R x) ≡ r.signal ∷ [] = rw (g, a) refl in
    (subst (λ z. Each P k z) v (each-left P k (reset_signal s.role (R x)) (resets_from R (x + 1) ss) h)).0
  where
    plain : (a : ℕ) → a + 0 ≡ a
    plain a = omega arith
each_reset P R x k (s ∷ ss) (suc i) r h l g q =
    each_reset P R (x + 1) (k + length (reset_signal s.role (R x))) ss i r
    (each-right P k (reset_signal s.role (R x)) (resets_from R (x + 1) ss) h)
    (less i (length ss) l) g (subst (λ z. R z ≡ Some r) (shift x i) q)
  where
    less : (j n : ℕ) → suc j < suc n → j < n
    less j n h = omega (arith, h)

    shift : (a j : ℕ) → a + suc j ≡ a + 1 + j
    shift a j = omega arith
