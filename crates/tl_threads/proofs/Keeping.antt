-- Which handles are known behind an act: those that were known before it, and the one that was just forked.
--
-- The machine does the same where the slots beyond those of the known handles are empty. So what stands there behind the act was there.
use Rattle.std.proofs.Common.{◌≡◌, ◌⊎◌, ℕ, zero, suc, ◌<◌, List, [], ◌∷◌, length, Bool, true, false, cond, nat_le, nat_lt, Option, Some, None, refl, sym, ap, subst, ◌∙◌, inl, inr, ⊎_elim, arith, slice_get, slice_set}
use Rattle.std.specs.Prelude.{replicate}
use Rattle.std.proofs.lemmas.List.{length-set}
use Rattle.tb_base.specs.declared.path.Region.{Region}
use Rattle.bench_model.specs.World.{Move}
use Rattle.bench_model.specs.World.Move.{poke, peek, expect, fork, join, arrive, joinstep, spend, end}
use Rattle.tl_threads.specs.declared.code.Placed.{Placed}
use Rattle.tl_threads.specs.declared.code.Instr.{Instr}
use Rattle.tl_threads.specs.declared.code.Instr.TheVariants as instr
use Rattle.tl_threads.specs.Bodies.{Body}
use Rattle.tl_threads.specs.Threads.{Inner, next}
use Rattle.tl_threads.specs.Code.{test_code}
use Rattle.tl_threads.specs.Machine.{Core, Did, Doing, Code, Go, taken, step, run, did, locally, counted, counted_on, go_if, with_child, stays}
use Rattle.tl_threads.specs.Machine.Doing.{pokes, peeks, expects, arrives, forks, joins, joinsteps, spends, ends}
use Rattle.tl_threads.specs.Stands.{Places, code_of, born, put, Fulfils}
use Rattle.tl_threads.specs.Fits.{FitsPlace, FitsCode, CodeOf}
use Rattle.tl_threads.specs.Behind.{ForkedInto, JoinedFrom, Behind, Begun}
use Rattle.tl_threads.proofs.Fitting.{stands_fits, fits_stands}
use Rattle.tl_threads.proofs.Refines.{refines}
use Rattle.tl_threads.proofs.Runs.{one_action}

one_did : (d e : Did) → ◌≡◌ {A = Option Did} (Some d) (Some e) → d ≡ e
one_did d e i = cc

-- ---- the first slots alone

abbrev first_slots : ℕ → List (Option ℕ) → List (Option ℕ)
first_slots n [] = []
first_slots zero (x ∷ xs) = None ∷ first_slots zero xs
first_slots (suc n) (x ∷ xs) = x ∷ first_slots n xs

first_length : (n : ℕ) (xs : List (Option ℕ)) → length (first_slots n xs) ≡ length xs
first_length zero [] = refl
first_length (suc n) [] = refl
first_length zero (x ∷ xs) = ap (λ m. suc m) (first_length zero xs)
first_length (suc n) (x ∷ xs) = ap (λ m. suc m) (first_length n xs)

first_below : (n : ℕ) (xs : List (Option ℕ)) (k : ℕ) → k < n → slice_get (first_slots n xs) k ≡ slice_get xs k
first_below zero xs k lt = absurd (omega arith)
first_below (suc n) [] k lt = refl
first_below (suc n) (x ∷ xs) zero lt = refl
first_below (suc n) (x ∷ xs) (suc k) lt = first_below n xs k (omega arith)

first_there : (n : ℕ) (xs : List (Option ℕ)) (k j : ℕ) → slice_get (first_slots n xs) k ≡ Some (Some j) → k < n
first_there zero [] k j e = absurd (cc)
first_there (suc n) [] k j e = absurd (cc)
first_there zero (x ∷ xs) zero j e = absurd (cc)
first_there zero (x ∷ xs) (suc k) j e = absurd (let lt = first_there zero xs k j e in omega arith)
first_there (suc n) (x ∷ xs) zero j e = omega arith
first_there (suc n) (x ∷ xs) (suc k) j e = let lt = first_there n xs k j e in omega arith

-- a slot that was written has what it had, or is the one that was written
set_or : (xs : List (Option ℕ)) (slot k j : ℕ) (x : Option ℕ) → slice_get (slice_set xs slot x) k ≡ Some (Some j) → (slice_get xs k ≡ Some (Some j)) ⊎ (slot ≡ k)
set_or [] slot k j x e = absurd (cc)
set_or (h ∷ hs) zero zero j x e = inr refl
set_or (h ∷ hs) zero (suc k) j x e = inl e
set_or (h ∷ hs) (suc slot) zero j x e = inl e
set_or (h ∷ hs) (suc slot) (suc k) j x e = ⊎_elim (λ a. inl a) (λ b. inr (ap (λ n. suc n) b)) (set_or hs slot k j x e)

-- the same slot, written in more slots
set_more : (xs ys : List (Option ℕ)) (n : ℕ) → ((k j : ℕ) → slice_get xs k ≡ Some (Some j) → slice_get ys k ≡ Some (Some j)) → length xs ≡ length ys → (slot k j : ℕ)
    → slice_get (slice_set xs slot (Some n)) k ≡ Some (Some j) → slice_get (slice_set ys slot (Some n)) k ≡ Some (Some j)
set_more [] ys n m q slot k j e = absurd (cc)
set_more (x ∷ xs) [] n m q slot k j e = absurd (omega (arith, q))
set_more (x ∷ xs) (y ∷ ys) n m q zero zero j e = e
set_more (x ∷ xs) (y ∷ ys) n m q zero (suc k) j e = m (suc k) j e
set_more (x ∷ xs) (y ∷ ys) n m q (suc slot) zero j e = m zero j e
set_more (x ∷ xs) (y ∷ ys) n m q (suc slot) (suc k) j e = set_more xs ys n (λ k j. m (suc k) j) (omega (arith, q)) slot k j e

-- ---- a run over fewer slots

module _ (f : Code) (few all : List (Option ℕ)) (n : ℕ) (fuller : (k j : ℕ) → slice_get few k ≡ Some (Some j) → slice_get all k ≡ Some (Some j)) where
  abbrev core_with : List (Option ℕ) → (pc : ℕ) → (locals loops : List ℕ) → Core
  core_with hs pc ls lo = record { pc = pc; locals = ls; handles = hs; loops = lo; forks = n }

  abbrev Kept : Did → Type 0
  Kept d = (d.core.handles ≡ few) × (d.core.forks ≡ n)

  abbrev Forked : Did → Type 0
  Forked d = (slot : ℕ) × ForkedInto f d slot × (d.core.handles ≡ slice_set few slot (Some n)) × (d.core.forks ≡ suc n)

  -- d is what was done over fewer slots
  pub record Alike (d e : Did) : Type 0 where
    pub doing : e.doing ≡ d.doing
    pub child : e.child ≡ d.child
    pub pc : e.core.pc ≡ d.core.pc
    pub locals : e.core.locals ≡ d.core.locals
    pub loops : e.core.loops ≡ d.core.loops
    pub forks : e.core.forks ≡ d.core.forks
    pub children : length few ≡ length all → (k j : ℕ) → slice_get d.core.handles k ≡ Some (Some j) → slice_get e.core.handles k ≡ Some (Some j)
    pub lengths : length few ≡ length all → length e.core.handles ≡ length d.core.handles
    pub slots : Kept d ⊎ Forked d
    pub joined : (l j : ℕ) → d.doing ≡ joins l j → (slot : ℕ) × JoinedFrom f d slot × (slice_get few slot ≡ Some (Some j))

  abbrev pub Both : (o p : Option Did) → Type 0
  Both o p = (d : Did) → o ≡ Some d → (e : Did) × (p ≡ Some e) × Alike d e

  abbrev BothGo : (g h : Go) → Type 0
  BothGo g h = (pc : ℕ) (ls lo : List ℕ) → Both (g (core_with few pc ls lo)) (h (core_with all pc ls lo))

  abbrev NoJoin : Doing → Type 0
  NoJoin x = (l j : ℕ) → x ≡ joins l j → ⊥

  did_both : (x : Doing) (pc : ℕ) (ls lo : List ℕ) → ((l j : ℕ) → x ≡ joins l j → (slot : ℕ) × JoinedFrom f (record { doing = x; core = core_with few pc ls lo; child = None }) slot × (slice_get few slot ≡ Some (Some j)))
      → Both (did x (core_with few pc ls lo)) (did x (core_with all pc ls lo))
  did_both x pc ls lo js d e = (
    record { doing = x; core = core_with all pc ls lo; child = None },
    refl,
    subst (λ (d : Did). Alike d (record { doing = x; core = core_with all pc ls lo; child = None })) (one_did _ d e)
        (record { doing = refl; child = refl; pc = refl; locals = refl; loops = refl; forks = refl; children = λ q. fuller; lengths = λ q. sym q; slots = inl (refl, refl); joined = js }),
  )

  plain : (x : Doing) (pc : ℕ) (ls lo : List ℕ) → NoJoin x → Both (did x (core_with few pc ls lo)) (did x (core_with all pc ls lo))
  plain x pc ls lo other = did_both x pc ls lo (λ l j e. absurd (other l j e))

  locally_both : (full : Bool) (l pc : ℕ) (ls lo : List ℕ) (o p : Option Did) → Both o p → Both (locally full l (core_with few pc ls lo) o) (locally full l (core_with all pc ls lo) p)
  locally_both true l pc ls lo o p b = plain (spends l) pc ls lo (λ l j e. cc)
  locally_both false l pc ls lo o p b = b

  cond_both : (b : Bool) (o p : Option Did) → Both o p → Both (cond b o None) (cond b p None)
  cond_both true o p r d e = r d e
  cond_both false o p r d e = absurd (cc)

  counted_both : (g h : Go) → BothGo g h → (count pc out : ℕ) (ls lo : List ℕ) → Both (g (counted count pc out (core_with few pc ls lo))) (h (counted count pc out (core_with all pc ls lo)))
  counted_both g h b zero pc out ls lo = b out ls lo
  counted_both g h b (suc m) pc out ls lo = b (suc pc) ls (m ∷ lo)

  again_both : (g h : Go) → BothGo g h → (pc back : ℕ) (ls lo : List ℕ) → Both (go_if g (counted_on pc back (core_with few pc ls lo) lo)) (go_if h (counted_on pc back (core_with all pc ls lo) lo))
  again_both g h b pc back ls [] d e = absurd (cc)
  again_both g h b pc back ls (zero ∷ lo) d e = b (suc pc) ls lo d e
  again_both g h b pc back ls (suc m ∷ lo) d e = b back ls (m ∷ lo) d e

  child_both : (x : ℕ → Doing) (k pc : ℕ) (ls lo : List ℕ) (o : Option (Option ℕ)) → slice_get few k ≡ o
      → ((i : ℕ) → slice_get few k ≡ Some (Some i) → (l j : ℕ) → x i ≡ joins l j → (slot : ℕ) × JoinedFrom f (record { doing = x i; core = core_with few (suc pc) ls lo; child = None }) slot × (slice_get few slot ≡ Some (Some j)))
      → Both (with_child x (core_with few pc ls lo) o) (with_child x (core_with all pc ls lo) (slice_get all k))
  child_both x k pc ls lo None e js d q = absurd (cc)
  child_both x k pc ls lo (Some None) e js d q = absurd (cc)
  child_both x k pc ls lo (Some (Some i)) e js d q =
      subst (λ (o : Option (Option ℕ)). Both (did (x i) (core_with few (suc pc) ls lo)) (with_child x (core_with all pc ls lo) o)) (sym (fuller k i e))
      (did_both (x i) (suc pc) ls lo (js i e)) d q

  step_both : (full : Bool) (j g j' g' : Go) → BothGo j j' → BothGo g g' → (pc : ℕ) (ls lo : List ℕ) (o : Option Instr) → f pc ≡ o
      → Both (step full j g (core_with few pc ls lo) o) (step full j' g' (core_with all pc ls lo) o)
  step_both full j g j' g' a b pc ls lo None h d e = absurd (cc)
  step_both full j g j' g' a b pc ls lo (Some (instr.Poke l p o)) h d e = plain (pokes l p.0 (taken ls o)) (suc pc) ls lo (λ l j e. cc) d e
  step_both full j g j' g' a b pc ls lo (Some (instr.Peek l p into)) h d e = plain (peeks l p.0 into) (suc pc) ls lo (λ l j e. cc) d e
  step_both full j g j' g' a b pc ls lo (Some (instr.Expect l p o)) h d e = plain (expects l p.0 (taken ls o)) (suc pc) ls lo (λ l j e. cc) d e
  step_both full j g j' g' a b pc ls lo (Some (instr.Step l m)) h d e = plain (arrives l m) (suc pc) ls lo (λ l j e. cc) d e
  step_both full j g j' g' a b pc ls lo (Some (instr.Store l k o)) h d e = locally_both full l pc ls lo _ _ (b (suc pc) (slice_set ls k (taken ls o)) lo) d e
  step_both full j g j' g' a b pc ls lo (Some (instr.Unless l o to)) h d e = locally_both full l pc ls lo _ _ (b _ ls lo) d e
  step_both full j g j' g' a b pc ls lo (Some (instr.Goto to)) h d e = cond_both (nat_lt pc to) _ _ (a to ls lo) d e
  step_both full j g j' g' a b pc ls lo (Some (instr.Enter l o to)) h d e = locally_both full l pc ls lo _ _ (b _ ls lo) d e
  step_both full j g j' g' a b pc ls lo (Some (instr.Turn l o back)) h d e = locally_both full l pc ls lo _ _ (b _ ls lo) d e
  step_both full j g j' g' a b pc ls lo (Some (instr.Count l o to)) h d e = locally_both full l pc ls lo _ _ (counted_both g g' b (taken ls o) pc to ls lo) d e
  step_both full j g j' g' a b pc ls lo (Some (instr.Again l back)) h d e = locally_both full l pc ls lo _ _ (again_both g g' b pc back ls lo) d e
  step_both full j g j' g' a b pc ls lo (Some (instr.Fork l r k after)) h d e = (
    record { doing = forks l r; core = record { pc = after; locals = ls; handles = slice_set all k (Some n); loops = lo; forks = suc n }; child = Some (suc pc) },
    refl,
    subst (λ (d : Did). Alike d (record { doing = forks l r; core = record { pc = after; locals = ls; handles = slice_set all k (Some n); loops = lo; forks = suc n }; child = Some (suc pc) })) (one_did _ d e)
        (record {
          doing = refl;
          child = refl;
          pc = refl;
          locals = refl;
          loops = refl;
          forks = refl;
          children = λ q i j. set_more few all n fuller q k i j;
          lengths = λ q. length-set all k (Some n) ∙ sym q ∙ sym (length-set few k (Some n));
          slots = inr (k, (pc, l, r, after, h, refl, refl), refl, refl);
          joined = λ l j e. absurd (cc);
        }),
  )
  step_both full j g j' g' a b pc ls lo (Some (instr.Join l k)) h d e =
      child_both (joins l) k pc ls lo (slice_get few k) refl
      (λ i q m t e. let same : l ≡ m = cc in let number : i ≡ t = cc in (k, (pc, l, h, refl), q ∙ ap (λ (t : ℕ). Some (Some t)) number)) d e
  step_both full j g j' g' a b pc ls lo (Some (instr.JoinStep l k)) h d e = child_both (joinsteps l) k pc ls lo (slice_get few k) refl (λ i q m t e. absurd (cc)) d e
  step_both full j g j' g' a b pc ls lo (Some instr.End) h d e = plain ends pc ls lo (λ l j e. cc) d e

  run_both : (limit m used : ℕ) → BothGo (run f limit m used) (run f limit m used)
  run_both limit zero used pc ls lo d e = absurd (cc)
  run_both limit (suc m) used pc ls lo d e =
      step_both (nat_le limit used) (λ t. run f limit m used t) (λ t. run f limit m (suc used) t) (λ t. run f limit m used t) (λ t. run f limit m (suc used) t) (run_both limit m used) (run_both limit m (suc used)) pc ls lo
      (f pc) refl d e

-- ---- what the move says of the place behind it

put_fits : (v h : ℕ) (f : Places) (depth : ℕ) (g : Region) (into : Option ℕ) (s : Core) → FitsCode v h f depth g (put into 0 s) → FitsCode v h f depth g s
put_fits v h f depth g None s t = t
put_fits v h f depth g (Some k) s (y, here, t) = (
  y,
  here,
  record { same_depth = t.same_depth; same_region = t.same_region; locals_len = sym (length-set s.locals k 0) ∙ t.locals_len; handles_len = t.handles_len; children = t.children; counts = t.counts },
)

has_stayed : (d : Did) (x : Doing) (A : Type 0) → d.doing ≡ x → stays x ≡ true → stays d.doing ≡ false → A
has_stayed d x A e t n = let z : true ≡ false = sym t ∙ sym (ap stays e) ∙ n in absurd (cc)

move_fits : (v h : ℕ) (f : Places) (depth : ℕ) (g : Region) (d : Did) (m : Move Inner) → Fulfils v h f depth g d m → stays d.doing ≡ false → FitsCode v h f depth g d.core
move_fits v h f depth g d (poke l p x i) t n = stands_fits v h f depth g d.core (i 0) (t.1 0)
move_fits v h f depth g d (peek l p shown i) t n = put_fits v h f depth g t.into d.core (stands_fits v h f depth g (put t.into 0 d.core) (i 0) (t.then 0))
move_fits v h f depth g d (expect l p x i) t n = stands_fits v h f depth g d.core i t.1
move_fits v h f depth g d (fork l r k i) t n = stands_fits v h f depth g d.core i t.then
move_fits v h f depth g d (join l k i) t n = stands_fits v h f depth g d.core i t.1
move_fits v h f depth g d (arrive l x i) t n = stands_fits v h f depth g d.core i t.1
move_fits v h f depth g d (joinstep l k i) t n = stands_fits v h f depth g d.core i t.1
move_fits v h f depth g d (spend l) t n = has_stayed d (spends l) (FitsCode v h f depth g d.core) t.0 refl n
move_fits v h f depth g d end t n = has_stayed d ends (FitsCode v h f depth g d.core) t.0 refl n

no_child : (d : Did) (begin : ℕ) (A : Type 0) → d.child ≡ None → d.child ≡ Some begin → A
no_child d begin A n e = absurd (cc)

same_begin : (d : Did) (a b : ℕ) → d.child ≡ Some a → d.child ≡ Some b → a ≡ b
same_begin d a b x y = cc

move_begins : (v h : ℕ) (f : Places) (depth : ℕ) (g : Region) (d : Did) (m : Move Inner) → Fulfils v h f depth g d m → Begun v h f depth d
move_begins v h f depth g d (poke l p x i) t begin e = no_child d begin _ t.0.1 e
move_begins v h f depth g d (peek l p shown i) t begin e = no_child d begin _ t.only.1 e
move_begins v h f depth g d (expect l p x i) t begin e = no_child d begin _ t.0.1 e
move_begins v h f depth g d (fork l into k i) t begin e = (
  l,
  t.child_region,
  t.doing,
  subst (λ (b : ℕ). FitsCode v h f (suc depth) t.child_region (born h b d.core)) (same_begin d t.pc begin t.child e)
      (stands_fits v h f (suc depth) t.child_region (born h t.pc d.core) k t.newborn),
)
move_begins v h f depth g d (join l k i) t begin e = no_child d begin _ t.0.1 e
move_begins v h f depth g d (arrive l x i) t begin e = no_child d begin _ t.0.1 e
move_begins v h f depth g d (joinstep l k i) t begin e = no_child d begin _ t.0.1 e
move_begins v h f depth g d (spend l) t begin e = no_child d begin _ t.1 e
move_begins v h f depth g d end t begin e = no_child d begin _ t.1 e

-- ---- what fits a place, and an act from there

module _ (v h : ℕ) (f : Places) (depth : ℕ) (g : Region) (s : Core) (x : Placed) (fit : FitsPlace v h x depth g s) where
  abbrev few : List (Option ℕ)
  few = first_slots x.handles s.handles

  abbrev less : Core
  less = record { pc = s.pc; locals = s.locals; handles = few; loops = s.loops; forks = s.forks }

  few_length : length few ≡ length s.handles
  few_length = first_length x.handles s.handles

  few_there : (k j : ℕ) → slice_get few k ≡ Some (Some j) → slice_get s.handles k ≡ Some (Some j)
  few_there k j e = sym (first_below x.handles s.handles k (first_there x.handles s.handles k j e)) ∙ e

  less_fits : FitsPlace v h x depth g less
  less_fits = record {
    same_depth = fit.same_depth;
    same_region = fit.same_region;
    locals_len = fit.locals_len;
    handles_len = few_length ∙ fit.handles_len;
    children = λ k lt. let c = fit.children k lt in (c.0, first_below x.handles s.handles k lt ∙ c.1);
    counts = fit.counts;
  }

  module _ (d e : Did) (like : Alike (code_of f) few s.handles s.forks few_there d e) where
    known_there : (k j : ℕ) → slice_get d.core.handles k ≡ Some (Some j) → (k < x.handles) ⊎ (ForkedInto (code_of f) e k × (e.core.forks ≡ suc s.forks))
    known_there k j r =
        ⊎_elim
        (λ z. inl (first_there x.handles s.handles k j (ap (λ hs. slice_get hs k) (sym z.0) ∙ r)))
        (λ z. ⊎_elim
        (λ y. inl (first_there x.handles s.handles k j y))
        (λ y. inr (subst (λ (n : ℕ). ForkedInto (code_of f) e n) y (z.1.0, z.1.1, z.1.2, z.1.3, z.1.4, like.child ∙ z.1.5, like.doing ∙ z.1.6), like.forks ∙ z.3))
        (set_or few z.0 k j (Some s.forks) (ap (λ hs. slice_get hs k) (sym z.2) ∙ r)))
        like.slots

    behind : FitsCode v h f depth g d.core → Behind v h f depth g s x e
    behind (y, here, t) = record {
      placed = y;
      here = ap f like.pc ∙ here;
      fits = record {
        same_depth = t.same_depth;
        same_region = t.same_region;
        locals_len = ap length like.locals ∙ t.locals_len;
        handles_len = like.lengths few_length ∙ t.handles_len;
        children = λ k lt. let c = t.children k lt in (c.0, like.children few_length k c.0 c.1);
        counts = ap length like.loops ∙ t.counts;
      };
      known = λ k lt. let c = t.children k lt in known_there k c.0 c.1;
      joined = λ l j q. let r = like.joined l j (sym like.doing ∙ q) in (r.0, (r.1.0, r.1.1, r.1.2, like.pc ∙ r.1.3), first_there x.handles s.handles r.0 j r.2);
    }

    begun : Begun v h f depth d → Begun v h f depth e
    begun b begin c =
        let r = b begin (sym like.child ∙ c) in (
          r.0,
          r.1,
          like.doing ∙ r.2,
          subst (λ (ls : List ℕ). FitsCode v h f (suc depth) r.1 (record { pc = begin; locals = ls; handles = replicate h None; loops = []; forks = 0 })) (sym like.locals) r.3,
        )

-- BEHIND AN ACT IT FITS AGAIN
pub fits_behind : (v h : ℕ) (f : Places) (body : Body) → CodeOf v h f body → (depth : ℕ) (g : Region) (s : Core) (x : Placed) → s.pc < length (test_code body) → f s.pc ≡ Some x
    → FitsPlace v h x depth g s → (limit n : ℕ) (d : Did) → run (code_of f) limit n 0 s ≡ Some d → (stays d.doing ≡ false → Behind v h f depth g s x d) × Begun v h f depth d
fits_behind v h f body code depth g s x lt here fit limit n d ran =
    let i = fits_stands v h f body code depth g (less v h f depth g s x fit) lt (x, here, less_fits v h f depth g s x fit) in
    let r = refines v h f limit depth g (less v h f depth g s x fit) i.0 i.1 in
    let b = run_both (code_of f) (few v h f depth g s x fit) s.handles s.forks (few_there v h f depth g s x fit) limit r.count 0 s.pc s.locals s.loops r.done r.ran in
    let same : b.0 ≡ d = one_action (code_of f) limit r.count n 0 s b.0 d b.1 ran in
    subst (λ (d : Did). (stays d.doing ≡ false → Behind v h f depth g s x d) × Begun v h f depth d) same (
      λ no. behind v h f depth g s x fit r.done b.0 b.2 (move_fits v h f depth g r.done (next limit i.0) r.fulfils (ap stays (sym b.2.doing) ∙ no)),
      begun v h f depth g s x fit r.done b.0 b.2 (move_begins v h f depth g r.done (next limit i.0) r.fulfils),
    )
