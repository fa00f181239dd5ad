-- The thread of the table and the thread of the world, behind an act.
use Rattle.std.proofs.Common.{◌≡◌, ℕ, zero, suc, ◌+◌, List, [], ◌∷◌, ◌++◌, length, length-append, map, replicate, slice_set, Bool, true, false, cond, Option, Some, None, option_map, refl, sym, ap, subst, ◌∙◌, arith}
use Rattle.std.proofs.lemmas.List.{length-map}
use Rattle.tb_base.specs.declared.path.Region.{Region}
use Rattle.bench_model.specs.Paths.{Path, child}
use Rattle.bench_model.specs.World as m
use Rattle.bench_model.specs.World.Move.{fork}
use Rattle.bench_model.specs.World.Mode.{running, at_join, at_edges, at_joinstep, spent}
use Rattle.bench_model.proofs.PathFacts.{child_is}
use Rattle.tl_threads.specs.Threads.{Inner, region_number}
use Rattle.tl_threads.specs.Machine.{Did, Core, stays}
use Rattle.tl_threads.specs.Machine.Doing.{peeks, forks}
use Rattle.tl_threads.specs.Stands.{Stands, Fulfils, born, put}
use Rattle.tl_code.specs.declared.state.ThreadState.{ThreadState}
use Rattle.tl_code.specs.Compiled.{Compiled}
use Rattle.tl_code.specs.Codes.{IsChild, IsJoined, OwnChildren, places, child_number, last_of, core_of}
use Rattle.tl_code.specs.Laws.{StandsUnder}
use Rattle.tl_prepare.specs.declared.act.Act.{Act}
use Rattle.tl_prepare.specs.declared.act.Act.TheVariants as act
use Rattle.tl_prepare.specs.Steps.{doing_of}
use Rattle.tl_prepare.specs.Given.{newborn, next_child, OfChild, IsNext, IsBorn}
use Rattle.bench_threads.specs.declared.entry.Entry.{Entry}
use Rattle.bench_threads.specs.declared.entry.Mode.{Mode}
use Rattle.bench_threads.specs.declared.entry.Mode.TheVariants.{Running, AtJoin, AtEdges, AtJoinStep, Spent}
use Rattle.bench_threads.specs.Tables.{standing, started}
use Rattle.bench_stands.specs.Standing.{EntryStands, StandsAt, mode_told}
use Rattle.bench_acts.specs.Behind.{mode_behind, with_number, is_end}
use Rattle.bench_acts.proofs.Moves.{as_move, CountsForks}

-- ---- children

last_behind : (n : ℕ) (p : Path) (k : ℕ) → last_of n (p ++ k ∷ []) ≡ k
last_behind n [] k = refl
last_behind n (x ∷ p) k = last_behind x p k

-- the number of a child is that under which it was forked
number_behind : (p : Path) (k : ℕ) → child_number (p ++ k ∷ []) ≡ k
number_behind [] k = refl
number_behind (x ∷ p) k = last_behind x p k

pub own_child : (s : ThreadState) (c : Path) → IsChild s c → c ≡ child s.path (child_number c)
own_child s c is =
    let n : child_number c ≡ is.0 = ap child_number is.2 ∙ number_behind s.path is.0 in
    is.2 ∙ sym (child_is s.path is.0) ∙ ap (child s.path) (sym n)

no_numbers : (n : ℕ) → map (option_map child_number) (replicate n None) ≡ replicate n None
no_numbers zero = refl
no_numbers (suc n) = ap (λ hs. None ∷ hs) (no_numbers n)

-- ---- states

-- what is known of a thread at p before its act
pub record Before (c : Compiled) (s : ThreadState) (t : m.Thread Inner) : Type 0 where
  pub region : region_number s.region ≡ t.region
  pub inner : StandsUnder c s t.inner
  pub forks : s.forks ≡ length t.forked
  pub acts : s.acts ≡ t.acts
  pub joined : s.joined ≡ option_map (λ k. child s.path k) t.joined
  pub children : OwnChildren s

pub before : (c : Compiled) (p : Path) (e : Entry) (s : ThreadState) (t : m.Thread Inner) → e.state ≡ s → EntryStands c p e t → Before c s t
before c p e s t i is = subst (λ (x : ThreadState). Before c x t) i (record {
  region = is.region;
  inner = is.inner;
  forks = is.forks;
  acts = is.acts;
  joined = is.joined ∙ ap (λ q. option_map (λ k. child q k) t.joined) (sym is.path);
  children = is.children;
})

-- a state that stands for a thread stands for it with the same path, region and core
same_stands : (c : Compiled) (depth : ℕ) (g : Region) (k : Core) (s : ThreadState) (i : Inner) → length s.path ≡ depth → s.region ≡ g → core_of s ≡ k
    → Stands c.variables c.handles (places c) depth g k i → StandsUnder c s i
same_stands c depth g k s i ed eg ek is =
    subst (λ (x : Core). Stands c.variables c.handles (places c) (length s.path) s.region x i) (sym ek)
    (subst (λ (x : Region). Stands c.variables c.handles (places c) (length s.path) x k i) (sym eg)
    (subst (λ (x : ℕ). Stands c.variables c.handles (places c) x g k i) (sym ed) is))

-- a child that was joined is one, whatever the slots for variables have
joined_beside : (n : ThreadState) (locals : List ℕ) (o : Option Path) → IsJoined n o → IsJoined (record n { locals = locals }) o
joined_beside n locals None j = tt
joined_beside n locals (Some child) j = j

-- ---- behind an act

-- what the state behind an act is
pub record Behind (s n : ThreadState) (d : Did) (a : Act) : Type 0 where
  pub next : IsNext s d a n
  pub own : OwnChildren n
  pub joins : IsJoined n n.joined

module _ (c : Compiled) (s n : ThreadState) (d : Did) (t : m.Thread Inner) (b : Before c s t) where
  forks_of : t.inner.forks ≡ length t.forked
  forks_of = sym b.inner.slots.forks ∙ b.forks

  pub core_on : (a : Act) → Behind s n d a → stays d.doing ≡ false → core_of n ≡ d.core
  core_on a is e = is.next.core ∙ ap (λ b. cond b (core_of s) d.core) e

  core_left : (a : Act) → Behind s n d a → stays d.doing ≡ true → core_of n ≡ core_of s
  core_left a is e = is.next.core ∙ ap (λ b. cond b (core_of s) d.core) e

  -- the thread stands where the act leaves it
  entry_on : (a : Act) → Behind s n d a → (locals : List ℕ) (k : Mode) (mode : m.Mode) (i : Inner) (joined : Option ℕ) (forked : List ℕ)
      → k ≡ mode_told s.path mode → StandsUnder c (record n { locals = locals }) i → i.forks ≡ length forked → n.joined ≡ option_map (λ j. child s.path j) joined
      → EntryStands c s.path (standing (record n { locals = locals }) k) (m.went t i mode joined forked)
  entry_on a is locals k mode i joined forked ek st count ej = record {
    path = is.next.path;
    region = ap region_number is.next.region ∙ b.region;
    mode = ek;
    inner = st;
    forks = st.slots.forks ∙ count;
    acts = let x : n.acts ≡ s.acts + 1 = is.next.acts in omega (arith, x, b.acts);
    joined = ej;
    children = is.own;
    joins_own = joined_beside n locals n.joined is.joins;
  }

  -- the same, where the act leads on and reads nothing
  leads_on : (a : Act) → Behind s n d a → stays d.doing ≡ false → (k : Mode) (mode : m.Mode) (i : Inner) (joined : Option ℕ) (forked : List ℕ)
      → k ≡ mode_told s.path mode → Stands c.variables c.handles (places c) (length s.path) s.region d.core i → i.forks ≡ length forked
      → n.joined ≡ option_map (λ j. child s.path j) joined
      → EntryStands c s.path (standing n k) (m.went t i mode joined forked)
  leads_on a is e k mode i joined forked ek st count ej =
      entry_on a is n.locals k mode i joined forked ek
      (same_stands c (length s.path) s.region d.core n i (ap length is.next.path) is.next.region (core_on a is e) st) count ej

  join_mode : (there : Bool) (ch : Path) (k : ℕ) → ch ≡ child s.path k → cond there (AtJoin ch) Running ≡ mode_told s.path (cond there (at_join k) running)
  join_mode true ch k e = ap AtJoin e
  join_mode false ch k e = refl

  one_into : (l p : ℕ) (into other : Option ℕ) → d.doing ≡ peeks l p into → d.doing ≡ peeks l p other → other ≡ into
  one_into l p into other e f = let z : peeks l p into ≡ peeks l p other = sym e ∙ f in cc

  -- THE THREAD ITSELF
  pub own_after : (g : Region) (go : ℕ → Inner) (bi : Inner) (a : Act) → Behind s n d a → OfChild s a → d.doing ≡ doing_of g a
      → Fulfils c.variables c.handles (places c) (length s.path) s.region d (as_move (doing_of g a) go bi)
      → CountsForks t.inner.forks (as_move (doing_of g a) go bi) → is_end a ≡ false → (x : ℕ) (there : Bool)
      → StandsAt c s.path (Some (standing (with_number n a x) (mode_behind a there))) (m.self_after t (as_move (doing_of g a) go bi) x there)
  own_after g go bi (act.Poke l p raw) is of e f k en x there =
      leads_on (act.Poke l p raw) is (ap stays e) Running running (go x) None t.forked refl (f.1 x) (k x ∙ forks_of) is.next.joined
  own_after g go bi (act.Peek l p None) is of e f k en x there =
      let same : f.into ≡ None = one_into l p.0 None f.into e f.only.0 in
      let st : Stands c.variables c.handles (places c) (length s.path) s.region d.core (go x) =
      subst (λ (o : Option ℕ). Stands c.variables c.handles (places c) (length s.path) s.region (put o x d.core) (go x)) same (f.then x) in
      leads_on (act.Peek l p None) is (ap stays e) Running running (go x) None t.forked refl st (k x ∙ forks_of) is.next.joined
  own_after g go bi (act.Peek l p (Some slot)) is of e f k en x there =
      let same : f.into ≡ Some slot = one_into l p.0 (Some slot) f.into e f.only.0 in
      let st : Stands c.variables c.handles (places c) (length s.path) s.region (put (Some slot) x d.core) (go x) =
      subst (λ (o : Option ℕ). Stands c.variables c.handles (places c) (length s.path) s.region (put o x d.core) (go x)) same (f.then x) in
      let core : core_of n ≡ d.core = core_on (act.Peek l p (Some slot)) is (ap stays e) in
      entry_on (act.Peek l p (Some slot)) is (slice_set n.locals slot x) Running running (go x) None t.forked refl
      (same_stands c (length s.path) s.region (put (Some slot) x d.core) (record n { locals = slice_set n.locals slot x }) (go x) (ap length is.next.path) is.next.region (ap (put (Some slot) x) core) st)
      (k x ∙ forks_of) is.next.joined
  own_after g go bi (act.Expect l p wanted) is of e f k en x there =
      leads_on (act.Expect l p wanted) is (ap stays e) Running running (go 0) None t.forked refl f.1 (k ∙ forks_of) is.next.joined
  own_after g go bi (act.Fork l ch) is of e f k en x there =
      let count : (go 0).forks ≡ length (t.forked ++ region_number g ∷ []) = omega (arith, k, forks_of, length-append t.forked (region_number g ∷ [])) in
      leads_on (act.Fork l ch) is (ap stays e) Running running (go 0) None (t.forked ++ region_number g ∷ []) refl f.then count is.next.joined
  own_after g go bi (act.Join l ch) is of e f k en x there =
      let o : ch ≡ child s.path (child_number ch) = own_child s ch (b.children of.0 ch of.1) in
      leads_on (act.Join l ch) is (ap stays e) (cond there (AtJoin ch) Running) (cond there (at_join (child_number ch)) running) (go 0) (Some (child_number ch)) t.forked
      (join_mode there ch (child_number ch) o) f.1 (k ∙ forks_of) (is.next.joined ∙ ap Some o)
  own_after g go bi (act.Arrive l edges) is of e f k en x there =
      leads_on (act.Arrive l edges) is (ap stays e) (AtEdges edges) (at_edges edges) (go 0) None t.forked refl f.1 (k ∙ forks_of) is.next.joined
  own_after g go bi (act.JoinStep l ch) is of e f k en x there =
      leads_on (act.JoinStep l ch) is (ap stays e) (AtJoinStep ch) (at_joinstep (child_number ch)) (go 0) None t.forked
      (ap AtJoinStep (own_child s ch (b.children of.0 ch of.1))) f.1 (k ∙ forks_of) is.next.joined
  own_after g go bi (act.Spend l) is of e f k en x there =
      entry_on (act.Spend l) is n.locals (Spent l) (spent l) t.inner None t.forked refl
      (same_stands c (length s.path) s.region (core_of s) n t.inner (ap length is.next.path) is.next.region (core_left (act.Spend l) is (ap stays e)) b.inner) forks_of is.next.joined
  own_after g go bi act.End is of e f k en x there = absurd (cc)

  -- ---- a child that begins

  -- where the path of the thread's next child leads
  pub next_path : next_child s ≡ child s.path (length t.forked)
  next_path = sym (child_is s.path s.forks) ∙ ap (child s.path) b.forks

  begins_at : ℕ → List ℕ → List (Option ℕ) → Core
  begins_at pc locals handles = record { pc = pc; locals = locals; handles = handles; loops = []; forks = 0 }

  one_begin : (p q : ℕ) → d.child ≡ Some p → d.child ≡ Some q → p ≡ q
  one_begin p q e f = let z : Some p ≡ Some q = sym e ∙ f in cc

  one_region : (l : ℕ) (g h : Region) → d.doing ≡ forks l g → d.doing ≡ forks l h → g ≡ h
  one_region l g h e f = let z : forks l g ≡ forks l h = sym e ∙ f in cc

  newborn_core : (path : Path) (g : Region) (pc begin : ℕ) → pc ≡ begin → core_of n ≡ d.core → length n.handles ≡ c.handles → core_of (newborn n path g pc) ≡ born c.handles begin d.core
  unfolding begins_at
  newborn_core path g pc begin ep core eh =
      ap (λ pc. begins_at pc n.locals (map (option_map child_number) (replicate (length n.handles) None))) ep
      ∙ ap (λ (k : Core). begins_at begin k.locals (map (option_map child_number) (replicate (length n.handles) None))) core
      ∙ ap (begins_at begin d.core.locals) (no_numbers (length n.handles) ∙ ap (λ k. replicate k None) eh)

  -- THE CHILD
  pub child_after : (l : ℕ) (cs : ThreadState) (go bi : Inner) → core_of n ≡ d.core → d.doing ≡ forks l cs.region → IsBorn s n d.child (Some cs) → OwnChildren cs × IsJoined cs cs.joined
      → Fulfils c.variables c.handles (places c) (length s.path) s.region d (fork l (region_number cs.region) bi go)
      → EntryStands c (child s.path (length t.forked)) (started cs) (record { region = region_number cs.region; mode = running; inner = bi; forked = []; acts = 0; joined = None })
  child_after l cs go bi core e is own f =
      let same : f.child_region ≡ cs.region = one_region l f.child_region cs.region f.doing e in
      let slots : length n.handles ≡ c.handles = sym (length-map n.handles (option_map child_number)) ∙ ap (λ (k : Core). length k.handles) core ∙ f.then.slots.handles_len in
      let at : core_of cs ≡ born c.handles f.pc d.core = ap core_of is.2 ∙ newborn_core (next_child s) cs.region is.0 f.pc (one_begin is.0 f.pc is.1 f.child) core slots in
      let path : cs.path ≡ next_child s = ap (λ (u : ThreadState). u.path) is.2 in
      let more : length s.path + 1 ≡ suc (length s.path) = omega arith in
      let deep : length cs.path ≡ suc (length s.path) = ap length path ∙ length-append s.path (s.forks ∷ []) ∙ more in
      record {
        path = path ∙ next_path;
        region = refl;
        mode = refl;
        inner = same_stands c (suc (length s.path)) cs.region (born c.handles f.pc d.core) cs bi deep refl at
            (subst (λ (g : Region). Stands c.variables c.handles (places c) (suc (length s.path)) g (born c.handles f.pc d.core) bi) same f.newborn);
        forks = ap (λ (u : ThreadState). u.forks) is.2;
        acts = ap (λ (u : ThreadState). u.acts) is.2;
        joined = ap (λ (u : ThreadState). u.joined) is.2;
        children = own.0;
        joins_own = own.1;
      }
