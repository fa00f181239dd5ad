-- What is prepared fits again.
use Rattle.std.proofs.Common.{◌≡◌, ℕ, zero, suc, ◌+◌, ◌<◌, ◌≤◌, List, [], ◌∷◌, ◌++◌, length, length-append, Bool, true, false, cond, Option, Some, None, option_map, refl, sym, ap, subst, ◌∙◌, ⊎_elim, arith, slice_get, slice_set}
use Rattle.std.specs.Prelude.{replicate}
use Rattle.std.proofs.lemmas.List.{length-map, length-reverse, length-replicate}
use Rattle.std.proofs.lemmas.Option.{slice_get-map}
use Rattle.tb_base.specs.declared.path.Region.{Region}
use Rattle.tl_threads.specs.declared.code.Placed.{Placed}
use Rattle.tl_threads.specs.declared.code.Instr.TheVariants as instr
use Rattle.tl_threads.specs.Machine.{Core, Did, Code, stays}
use Rattle.tl_threads.specs.Machine.Doing.{forks}
use Rattle.tl_threads.specs.Fits.{FitsCode}
use Rattle.tl_threads.specs.Stands.{born}
use Rattle.tl_threads.specs.Behind.{Behind, Begun, ActsFit}
use Rattle.tl_code.specs.declared.state.ThreadState.{ThreadState}
use Rattle.tl_code.specs.Compiled.{Compiled}
use Rattle.tl_code.specs.Codes.{IsChild, IsJoined, NamesChild, FitsAt, body_of_code, places, child_number, core_of}
use Rattle.tl_code.specs.Laws.{PlacesStand}
use Rattle.tl_code.proofs.First.{some_within}
use Rattle.tl_code.proofs.Standing.{fits_place}
use Rattle.tl_prepare.specs.declared.act.Act.{Act}
use Rattle.tl_prepare.specs.declared.act.Act.TheVariants as act
use Rattle.tl_prepare.specs.Runs.{code_at, HoldsAll}
use Rattle.tl_prepare.specs.Steps.{doing_of}
use Rattle.tl_prepare.specs.Work.{Work}
use Rattle.tl_prepare.specs.Given.{most_local, joined_by, newborn, next_child, region_of, OfChild, OfSlot, IsBorn, IsPrepared}
use Rattle.tl_prepare.specs.Laws.{FitsButCounts, PreparedFits, FitsWithinBounds}
use Rattle.tl_prepare.proofs.Holding.{held_all}
use Rattle.tl_prepare.proofs.Owning.{set_or, stays_child, more_forks}

-- ---- slots

-- the child whose number a slot has in the machine
child_of_number : (o : Option (Option (List ℕ))) (j : ℕ) → option_map (option_map child_number) o ≡ Some (Some j) → (child : List ℕ) × (o ≡ Some (Some child))
child_of_number None j e = absurd (cc)
child_of_number (Some None) j e = absurd (cc)
child_of_number (Some (Some child)) j e = (child, refl)

same_child : (o : Option (Option (List ℕ))) (a b : List ℕ) → o ≡ Some (Some a) → o ≡ Some (Some b) → a ≡ b
same_child o a b x y = cc

set_here : (hs : List (Option (List ℕ))) (k : ℕ) (a b : List ℕ) → slice_get (slice_set hs k (Some a)) k ≡ Some (Some b) → a ≡ b
set_here [] k a b e = absurd (cc)
set_here (h ∷ hs) zero a b e = cc
set_here (h ∷ hs) (suc k) a b e = set_here hs k a b e

abbrev no_numbers : ℕ → List (Option ℕ)
no_numbers n = replicate n None

empty_there : (n k j : ℕ) → slice_get (no_numbers n) k ≡ Some (Some j) → ⊥
empty_there zero k j e = absurd (cc)
empty_there (suc n) zero j e = absurd (cc)
empty_there (suc n) (suc k) j e = empty_there n k j e

-- ---- one instruction at a place

same_begin : (o : Option ℕ) (a b : ℕ) → o ≡ Some (suc a) → o ≡ Some (suc b) → a ≡ b
same_begin o a b x y = cc

one_fork : (f : Code) (p q l m : ℕ) (r g : Region) (j k to out : ℕ) → p ≡ q → f p ≡ Some (instr.Fork l r j to) → f q ≡ Some (instr.Fork m g k out) → j ≡ k
one_fork f p q l m r g j k to out e x y = let z : Some (instr.Fork l r j to) ≡ Some (instr.Fork m g k out) = sym x ∙ ap f e ∙ y in cc

one_join : (f : Code) (p q l m j k : ℕ) → p ≡ q → f p ≡ Some (instr.Join l j) → f q ≡ Some (instr.Join m k) → j ≡ k
one_join f p q l m j k e x y = let z : Some (instr.Join l j) ≡ Some (instr.Join m k) = sym x ∙ ap f e ∙ y in cc

module _ (c : Compiled) (w : Work) (p : IsPrepared w) (held : HoldsAll (code_at c.placed) w.fetched) (x : Placed) (at : FitsAt x c w.from) where
  f : Code
  f = code_at c.placed

  le : w.from.forks ≤ w.next.forks
  le = more_forks w.from w.next p.next.children

  still : (child : List ℕ) → IsChild w.from child → IsChild w.next child
  still child own = stays_child w.from w.next child p.next.path le own

  -- a slot that was known names a child of the thread
  known_child : (k : ℕ) (child : List ℕ) → k < x.handles → slice_get w.from.handles k ≡ Some (Some child) → IsChild w.next child
  known_child k child lt e = let n = at.children k lt in subst (λ (l : List ℕ). IsChild w.next l) (same_child (slice_get w.from.handles k) n.0 child n.1 e) (still n.0 n.2)

  new_child : (forks_are : w.next.forks ≡ suc w.from.forks) (child : List ℕ) → next_child w.from ≡ child → IsChild w.next child
  new_child more child e = (w.from.forks, omega (arith, more), sym e ∙ ap (λ l. l ++ w.from.forks ∷ []) (sym p.next.path))

  known_after : (k : ℕ) (child : List ℕ) → k < x.handles → slice_get w.next.handles k ≡ Some (Some child) → IsChild w.next child
  known_after k child lt e =
      ⊎_elim
      (λ n. known_child k child lt (ap (λ hs. slice_get hs k) (sym n.0) ∙ e))
      (λ o. ⊎_elim
      (λ d. known_child k child lt d)
      (λ d. new_child o.2 child (let z : next_child w.from ≡ child = cc in z))
      (set_or w.from.handles o.0 k (Some (next_child w.from)) child (ap (λ hs. slice_get hs k) (sym o.1) ∙ e)))
      p.next.children

  -- the slot of a fork
  fork_set : (a : Act) (l : ℕ) (g r : Region) (k q after : ℕ) → OfSlot w.fetched w.from w.next p.done a → OfChild w.from a → forks l g ≡ doing_of r a → f q ≡ Some (instr.Fork l g k after)
      → p.done.child ≡ Some (suc q) → w.next.handles ≡ slice_set w.from.handles k (Some (next_child w.from))
  unfolding f
  fork_set (act.Fork m child) l g r k q after s n e h b =
      let z : s.1 ≡ k = one_fork (code_at c.placed) s.0 q m l s.2 g s.1 k s.3 after (same_begin p.done.child s.0 q s.5 b) (s.4 (code_at c.placed) held) h in
      s.6 ∙ ap (λ i. slice_set w.from.handles i (Some child)) z ∙ ap (λ l. slice_set w.from.handles k (Some l)) n
  fork_set (act.Poke m p raw) l g r k q after s n e h b = absurd (cc)
  fork_set (act.Peek m p into) l g r k q after s n e h b = absurd (cc)
  fork_set (act.Expect m p wanted) l g r k q after s n e h b = absurd (cc)
  fork_set (act.Join m child) l g r k q after s n e h b = absurd (cc)
  fork_set (act.Arrive m i) l g r k q after s n e h b = absurd (cc)
  fork_set (act.JoinStep m child) l g r k q after s n e h b = absurd (cc)
  fork_set (act.Spend m) l g r k q after s n e h b = absurd (cc)
  fork_set act.End l g r k q after s n e h b = absurd (cc)

  fork_region : (a : Act) (l : ℕ) (g r : Region) → forks l g ≡ doing_of r a → g ≡ r
  fork_region (act.Fork m child) l g r e = cc
  fork_region (act.Poke m p raw) l g r e = absurd (cc)
  fork_region (act.Peek m p into) l g r e = absurd (cc)
  fork_region (act.Expect m p wanted) l g r e = absurd (cc)
  fork_region (act.Join m child) l g r e = absurd (cc)
  fork_region (act.Arrive m i) l g r e = absurd (cc)
  fork_region (act.JoinStep m child) l g r e = absurd (cc)
  fork_region (act.Spend m) l g r e = absurd (cc)
  fork_region act.End l g r e = absurd (cc)

  -- ---- a thread that stays
  module _ (core : core_of w.next ≡ core_of w.from) (stayed : stays p.done.doing ≡ true) where
    same_handles : w.next.handles ≡ w.from.handles
    same_handles = ⊎_elim (λ n. n.0) (λ o. absurd (let z : w.next.forks ≡ w.from.forks = ap (λ k. k.forks) core in omega (arith, z, o.2))) p.next.children

    none_joined : (a : Act) → p.done.doing ≡ doing_of (region_of w.child) a → IsJoined w.next (joined_by a)
    none_joined (act.Join l child) e = let z : true ≡ false = sym stayed ∙ ap stays e in absurd (cc)
    none_joined (act.Poke l p raw) e = tt
    none_joined (act.Peek l p into) e = tt
    none_joined (act.Expect l p wanted) e = tt
    none_joined (act.Fork l child) e = tt
    none_joined (act.Arrive l m) e = tt
    none_joined (act.JoinStep l child) e = tt
    none_joined (act.Spend l) e = tt
    none_joined act.End e = tt

    stays_fit : slice_get c.placed w.from.pc ≡ Some x → FitsButCounts c w.next
    stays_fit here = (
      x,
      ap (λ (k : Core). slice_get c.placed k.pc) core ∙ here,
      record {
        path = ap length p.next.path ∙ at.path;
        region = p.next.region ∙ at.region;
        locals = ap (λ (k : Core). length k.locals) core ∙ at.locals;
        slots = ap length same_handles ∙ at.slots;
        children = λ k lt. let n = at.children k lt in (n.0, ap (λ hs. slice_get hs k) same_handles ∙ n.1, still n.0 n.2);
        joined = subst (λ (o : Option (List ℕ)). IsJoined w.next o) (sym p.next.joined) (none_joined w.act p.act);
        loops = sym (length-reverse w.next.loops) ∙ ap (λ (k : Core). length k.loops) core ∙ length-reverse w.from.loops ∙ at.loops;
      },
    )

  -- ---- a thread that goes on
  module _ (core : core_of w.next ≡ p.done.core) (b : Behind c.variables c.handles (places c) (length w.from.path) w.from.region (core_of w.from) x p.done) where
    next_children : (k : ℕ) → k < b.placed.handles → NamesChild w.next k
    unfolding f
    next_children k lt =
        let n = b.fits.children k lt in
        let h = child_of_number (slice_get w.next.handles k) n.0 (sym (slice_get-map (option_map child_number) w.next.handles k) ∙ ap (λ (k' : Core). slice_get k'.handles k) core ∙ n.1) in (
          h.0,
          h.1,
          ⊎_elim
              (λ l. known_after k h.0 l h.1)
              (λ o. let z = o.0 in
              let s : w.next.handles ≡ slice_set w.from.handles k (Some (next_child w.from)) = fork_set w.act z.1 z.2 (region_of w.child) k z.0 z.3 p.slot p.of_child (sym z.6 ∙ p.act) z.4 z.5 in
              new_child (ap (λ (k : Core). k.forks) core ∙ o.1) h.0 (set_here w.from.handles k (next_child w.from) h.0 (ap (λ hs. slice_get hs k) (sym s) ∙ h.1)))
              (b.known k lt),
        )

    one_joined : (a : Act) → OfSlot w.fetched w.from w.next p.done a → p.done.doing ≡ doing_of (region_of w.child) a → IsJoined w.next (joined_by a)
    unfolding f
    one_joined (act.Join l child) s e =
        let j = b.joined l (child_number child) e in
        let same : s.0 ≡ j.1.0 = let z : suc s.0 ≡ suc j.1.0 = sym s.3 ∙ j.1.3 in omega (arith, z) in
        let k : s.1 ≡ j.0 = one_join (code_at c.placed) s.0 j.1.0 l j.1.1 s.1 j.0 same (s.2 (code_at c.placed) held) j.1.2 in
        known_child s.1 child (omega (arith, k, j.2)) s.4
    one_joined (act.Poke l p raw) s e = tt
    one_joined (act.Peek l p into) s e = tt
    one_joined (act.Expect l p wanted) s e = tt
    one_joined (act.Fork l child) s e = tt
    one_joined (act.Arrive l m) s e = tt
    one_joined (act.JoinStep l child) s e = tt
    one_joined (act.Spend l) s e = tt
    one_joined act.End s e = tt

    goes_fit : FitsButCounts c w.next
    goes_fit = (
      b.placed,
      ap (λ (k : Core). slice_get c.placed k.pc) core ∙ b.here,
      record {
        path = ap length p.next.path ∙ b.fits.same_depth;
        region = p.next.region ∙ b.fits.same_region;
        locals = ap (λ (k : Core). length k.locals) core ∙ b.fits.locals_len;
        slots = sym (length-map w.next.handles (option_map child_number)) ∙ ap (λ (k : Core). length k.handles) core ∙ b.fits.handles_len;
        children = next_children;
        joined = subst (λ (o : Option (List ℕ)). IsJoined w.next o) (sym p.next.joined) (one_joined w.act p.slot p.act);
        loops = sym (length-reverse w.next.loops) ∙ ap (λ (k : Core). length k.loops) core ∙ b.fits.counts;
      },
    )

  -- ---- a child that begins
  newborn_fits : (g : Region) (pc : ℕ) → length w.next.handles ≡ c.handles → core_of w.next ≡ p.done.core
      → FitsCode c.variables c.handles (places c) (suc (length w.from.path)) g (born c.handles pc p.done.core) → FitsButCounts c (newborn w.next (next_child w.from) g pc)
  newborn_fits g pc slots core t = (
    t.0,
    t.1,
    record {
      path = length-append w.from.path (w.from.forks ∷ []) ∙ more ∙ t.2.same_depth;
      region = t.2.same_region;
      locals = ap (λ (k : Core). length k.locals) core ∙ t.2.locals_len;
      slots = length-replicate (length w.next.handles) None ∙ slots;
      children = λ k lt. let n = t.2.children k lt in absurd (empty_there c.handles k n.0 n.1);
      joined = tt;
      loops = t.2.counts;
    },
  )
    where
      more : length w.from.path + 1 ≡ suc (length w.from.path)
      more = omega arith

pub within_bounds : FitsWithinBounds
within_bounds c s f acts few = (
  f.0,
  f.1,
  record {
    path = f.2.path;
    region = f.2.region;
    locals = f.2.locals;
    slots = f.2.slots;
    children = f.2.children;
    joined = f.2.joined;
    loops = f.2.loops;
    acts = acts;
    forks = few;
  },
)

fork_goes : (d : Did) (l : ℕ) (g : Region) → d.doing ≡ forks l g → stays d.doing ≡ false
fork_goes d l g e = ap stays e

-- WHAT IS PREPARED FITS AGAIN
pub prepared_fits : ActsFit → PlacesStand → PreparedFits
prepared_fits acts stand c w is p fits holds = (next_fits (stays p.done.doing) refl, λ child e. child_fits child w.child e p.child p.act)
  where
    held : HoldsAll (code_at c.placed) w.fetched
    held = held_all (code_at c.placed) w.fetched holds

    act_fits : (stays p.done.doing ≡ false → Behind c.variables c.handles (places c) (length w.from.path) w.from.region (core_of w.from) fits.0 p.done)
        × Begun c.variables c.handles (places c) (length w.from.path) p.done
    act_fits =
        acts c.variables c.handles (places c) (body_of_code c) (stand c is) (length w.from.path) w.from.region (core_of w.from) fits.0
        (omega (arith, some_within c.placed w.from.pc fits.0 fits.1, ap length is.laid)) fits.1 (fits_place c w.from fits.0 fits.2)
        most_local p.count p.done (p.under (code_at c.placed) held)

    core_is : (b : Bool) → stays p.done.doing ≡ b → core_of w.next ≡ cond b (core_of w.from) p.done.core
    core_is b e = p.next.core ∙ ap (λ b. cond b (core_of w.from) p.done.core) e

    next_fits : (b : Bool) → stays p.done.doing ≡ b → FitsButCounts c w.next
    next_fits true e = stays_fit c w p held fits.0 fits.2 (core_is true e) e fits.1
    next_fits false e = goes_fit c w p held fits.0 fits.2 (core_is false e) (act_fits.0 e)

    child_fits : (child : ThreadState) (o : Option ThreadState) → o ≡ Some child → IsBorn w.from w.next p.done.child o → p.done.doing ≡ doing_of (region_of o) w.act → FitsButCounts c child
    child_fits child None e b q = absurd (cc)
    child_fits child (Some k) e b q =
        let same : k ≡ child = cc in
        let r = act_fits.1 b.0 b.1 in
        let goes : stays p.done.doing ≡ false = fork_goes p.done r.0 r.1 r.2 in
        let g : r.1 ≡ k.region = fork_region c w p held fits.0 fits.2 w.act r.0 r.1 k.region (sym r.2 ∙ q) in
        subst (λ (s : ThreadState). FitsButCounts c s) (sym b.2 ∙ same)
        (newborn_fits c w p held fits.0 fits.2 k.region b.0 ((next_fits false goes).2.slots) (core_is false goes)
        (subst (λ (r : Region). FitsCode c.variables c.handles (places c) (suc (length w.from.path)) r (born c.handles b.0 p.done.core)) g r.3))
