-- The table and the world, path by path, behind an act.
use Rattle.std.proofs.Common.{◌≡◌, ℕ, [], length, Bool, true, false, cond, nat_eq, Option, Some, None, is_some, option_map, refl, sym, ap, subst, ◌∙◌, eqb-true, eq-eqb}
use Rattle.std.specs.FinMap as map
use Rattle.tb_base.specs.declared.path.Region.{Region}
use Rattle.bench_model.specs.Paths.{Path, is_path, child, parent}
use Rattle.bench_model.specs.World as m
use Rattle.bench_model.specs.World.Mode.{running, at_join, at_edges, at_joinstep, spent}
use Rattle.bench_model.proofs.PathFacts.{path_order, is_path_refl, is_path_same, is_path_apart, child_of_parent, child_same}
use Rattle.bench_model.proofs.ThreadsFacts.{born_at, woken_at, get_after}
use Rattle.tl_threads.specs.Threads.{Inner, region_number}
use Rattle.tl_threads.specs.Machine.{Did, stays}
use Rattle.tl_threads.specs.Machine.Doing.{forks}
use Rattle.tl_threads.specs.Stands.{Fulfils}
use Rattle.tl_code.specs.declared.state.ThreadState.{ThreadState}
use Rattle.tl_code.specs.Compiled.{Compiled}
use Rattle.tl_code.specs.Codes.{IsJoined, OwnChildren, places, child_number, core_of}
use Rattle.tl_prepare.specs.declared.act.Act.{Act}
use Rattle.tl_prepare.specs.declared.act.Act.TheVariants as act
use Rattle.tl_prepare.specs.Steps.{doing_of}
use Rattle.tl_prepare.specs.Given.{region_of, OfChild, IsBorn}
use Rattle.bench_threads.specs.declared.entry.Entry.{Entry}
use Rattle.bench_threads.specs.declared.entry.Mode.TheVariants.{Running, AtJoin}
use Rattle.bench_threads.specs.Shelves.{Threads}
use Rattle.bench_threads.specs.Tables.{standing, started}
use Rattle.bench_threads.specs.Threads.{write, woken, woken_mode}
use Rattle.bench_stands.specs.Standing.{EntryStands, StandsAt, TableStands, mode_told}
use Rattle.bench_acts.specs.Behind.{mode_behind, with_number, is_end, parent_of}
use Rattle.bench_acts.specs.After.{is_there, wake, birth, ended, moved, after}
use Rattle.bench_acts.proofs.Moves.{as_move, CountsForks}
use Rattle.bench_acts.proofs.Entries.{Before, Behind, own_child, own_after, child_after, core_on, next_path}
use Rattle.bench_acts.proofs.Told.{act_told}

-- ---- look-ups

get_write : (ts : Threads) (p : Path) (o : Option Entry) (q : Path) → map.get (write ts p o) q ≡ cond (is_path q p) o (map.get ts q)
unfolding is_path
get_write ts p None q = map.get-remove path_order ts p q
get_write ts p (Some e) q = map.get-insert path_order ts p e q

abbrev begun_at : Option ThreadState → Path → Option Entry → Option Entry
begun_at None q o = o
begun_at (Some s) q o = cond (is_path q s.path) (Some (started s)) o

pub get_birth : (ts : Threads) (o : Option ThreadState) (q : Path) → map.get (birth ts o) q ≡ begun_at o q (map.get ts q)
get_birth ts None q = refl
get_birth ts (Some s) q = get_write ts s.path (Some (started s)) q

abbrev awake_at : Path → Option Path → Path → Threads → Option Entry
awake_at p None q ts = map.get ts q
awake_at p (Some r) q ts = cond (is_path q r) (option_map (woken p) (map.get ts r)) (map.get ts q)

get_wake : (ts : Threads) (p : Path) (o : Option Path) (q : Path) → map.get (wake ts p o) q ≡ awake_at p o q ts
get_wake ts p None q = refl
get_wake ts p (Some r) q = get_write ts r (option_map (woken p) (map.get ts r)) q

-- ---- who stands for whom

-- the thread that is there stands for the one that is there
pub entry_of : (c : Compiled) (p : Path) (o : Option Entry) (v : Option (m.Thread Inner)) (e : Entry) (t : m.Thread Inner) → o ≡ Some e → v ≡ Some t → StandsAt c p o v → EntryStands c p e t
entry_of c p o v e t i j is =
    subst (λ (w : Option (m.Thread Inner)). StandsAt c p (Some e) w) j (subst (λ (u : Option Entry). StandsAt c p u v) i is)

-- both are there or none
pub both_there : (c : Compiled) (p : Path) (o : Option Entry) (v : Option (m.Thread Inner)) → StandsAt c p o v → is_some o ≡ is_some v
both_there c p None None is = refl
both_there c p (Some e) (Some t) is = refl
both_there c p None (Some t) is = absurd is
both_there c p (Some e) None is = absurd is

-- a choice of one stands for the same choice of the other
choice_stands : (c : Compiled) (q : Path) (b : Bool) (o u : Option Entry) (v w : Option (m.Thread Inner)) → (b ≡ true → StandsAt c q o v) → (b ≡ false → StandsAt c q u w)
    → StandsAt c q (cond b o u) (cond b v w)
choice_stands c q true o u v w f g = f refl
choice_stands c q false o u v w f g = g refl

-- ---- waking

same_child : (p : Path) (k j : ℕ) (b : Bool) → nat_eq j k ≡ b → is_path (child p k) (child p j) ≡ b
same_child p k j true e = ap (λ x. is_path (child p k) (child p x)) (eqb-true j k e) ∙ is_path_refl (child p k)
same_child p k j false e = is_path_apart (child p k) (child p j) (λ h. let z : nat_eq j k ≡ true = eq-eqb j k (sym (child_same p p k j h).1) in let y : true ≡ false = sym z ∙ e in absurd (cc))

woken_same : (p : Path) (k : ℕ) (mode : m.Mode) → woken_mode (child p k) (mode_told p mode) ≡ mode_told p (m.woken_mode k mode)
unfolding is_path
woken_same p k running = refl
woken_same p k (at_join j) = ap (λ b. cond b Running (AtJoin (child p j))) (same_child p k j (nat_eq j k) refl) ∙ go (nat_eq j k)
  where
    go : (b : Bool) → cond b Running (AtJoin (child p j)) ≡ mode_told p (cond b running (at_join j))
    go true = refl
    go false = refl
woken_same p k (at_edges n) = refl
woken_same p k (at_joinstep j) = refl
woken_same p k (spent l) = refl

woken_entry : (c : Compiled) (p ended : Path) (k : ℕ) (e : Entry) (t : m.Thread Inner) → ended ≡ child p k → EntryStands c p e t → EntryStands c p (woken ended e) (m.woken k t)
woken_entry c p ended k e t i is = record {
  path = is.path;
  region = is.region;
  mode = ap (λ x. woken_mode x e.mode) i ∙ ap (woken_mode (child p k)) is.mode ∙ woken_same p k t.mode;
  inner = is.inner;
  forks = is.forks;
  acts = is.acts;
  joined = is.joined;
  children = is.children;
  joins_own = is.joins_own;
}

woken_stands : (c : Compiled) (p ended : Path) (k : ℕ) (o : Option Entry) (v : Option (m.Thread Inner)) → ended ≡ child p k → StandsAt c p o v → StandsAt c p (option_map (woken ended) o) (option_map (m.woken k) v)
woken_stands c p ended k None None i is = tt
woken_stands c p ended k (Some e) (Some t) i is = woken_entry c p ended k e t i is
woken_stands c p ended k None (Some t) i is = absurd is
woken_stands c p ended k (Some e) None i is = absurd is

-- ---- behind the act

module _ (c : Compiled) (ts : Threads) (ws : m.Threads Inner) (stands : TableStands c ts ws) (s n : ThreadState) (d : Did) (t : m.Thread Inner) (b : Before c s t) where
  -- an end wakes the parent
  awake_stands : (q : Path) (o : Option (Path × ℕ)) → parent s.path ≡ o → StandsAt c q (awake_at s.path (option_map (λ x. x.0) o) q ts) (woken_at o q (map.get ws q))
  awake_stands q None e = stands q
  awake_stands q (Some (r, k)) e =
      choice_stands c q (is_path q r) (option_map (woken s.path) (map.get ts r)) (map.get ts q) (option_map (m.woken k) (map.get ws q)) (map.get ws q)
      (λ h.
      let same : q ≡ r = is_path_same q r h in
      let up : s.path ≡ child q k = child_of_parent s.path r k e ∙ ap (λ x. child x k) (sym same) in
      subst (λ x. StandsAt c q (option_map (woken s.path) (map.get ts x)) (option_map (m.woken k) (map.get ws q))) same
      (woken_stands c q s.path k (map.get ts q) (map.get ws q) up (stands q)))
      (λ h. stands q)

  -- a join finds its child in both or in neither
  there_same : (go : ℕ → Inner) (bi : Inner) (g : Region) (a : Act) → OfChild s a → is_there ts a ≡ m.is_there ws s.path (as_move (doing_of g a) go bi)
  there_same go bi g (act.Poke l p raw) of = refl
  there_same go bi g (act.Peek l p into) of = refl
  there_same go bi g (act.Expect l p wanted) of = refl
  there_same go bi g (act.Fork l ch) of = refl
  there_same go bi g (act.Join l ch) of =
      ap (λ z. is_some (map.get ts z)) (own_child s ch (b.children of.0 ch of.1))
      ∙ both_there c (child s.path (child_number ch)) (map.get ts (child s.path (child_number ch))) (map.get ws (child s.path (child_number ch))) (stands (child s.path (child_number ch)))
  there_same go bi g (act.Arrive l edges) of = refl
  there_same go bi g (act.JoinStep l ch) of = refl
  there_same go bi g (act.Spend l) of = refl
  there_same go bi g act.End of = refl

  nobody_begins : (q : Path) (o : Option ThreadState) → o ≡ None → StandsAt c q (begun_at o q (map.get ts q)) (map.get ws q)
  nobody_begins q o e = subst (λ (u : Option ThreadState). StandsAt c q (begun_at u q (map.get ts q)) (map.get ws q)) (sym e) (stands q)

  somebody_begins : (q : Path) (l : ℕ) (cs : ThreadState) (go bi : Inner) → core_of n ≡ d.core → d.doing ≡ forks l cs.region → IsBorn s n d.child (Some cs) → OwnChildren cs × IsJoined cs cs.joined
      → Fulfils c.variables c.handles (places c) (length s.path) s.region d (m.Move.fork l (region_number cs.region) bi go)
      → StandsAt c q (begun_at (Some cs) q (map.get ts q)) (born_at (m.newborn s.path t (m.Move.fork l (region_number cs.region) bi go)) q (map.get ws q))
  somebody_begins q l cs go bi core e is own f =
      let path : cs.path ≡ child s.path (length t.forked) = ap (λ (u : ThreadState). u.path) is.2 ∙ next_path c s n d t b in
      let newborn : m.Thread Inner = record { region = region_number cs.region; mode = running; inner = bi; forked = []; acts = 0; joined = None } in
      let new : EntryStands c (child s.path (length t.forked)) (started cs) newborn = child_after c s n d t b l cs go bi core e is own f in
      subst (λ p. StandsAt c q (cond (is_path q p) (Some (started cs)) (map.get ts q)) (cond (is_path q (child s.path (length t.forked))) (Some newborn) (map.get ws q))) (sym path)
      (choice_stands c q (is_path q (child s.path (length t.forked))) (Some (started cs)) (map.get ts q) (Some newborn) (map.get ws q)
      (λ h. subst (λ z. StandsAt c z (Some (started cs)) (Some newborn)) (sym (is_path_same q (child s.path (length t.forked)) h)) new)
      (λ h. stands q))

  forked_stands : (q : Path) (l : ℕ) (ch : Path) (go : ℕ → Inner) (bi : Inner) (o : Option ThreadState) → Behind s n d (act.Fork l ch) → d.doing ≡ doing_of (region_of o) (act.Fork l ch) → IsBorn s n d.child o
      → ((cs : ThreadState) → o ≡ Some cs → OwnChildren cs × IsJoined cs cs.joined)
      → Fulfils c.variables c.handles (places c) (length s.path) s.region d (as_move (doing_of (region_of o) (act.Fork l ch)) go bi)
      → StandsAt c q (begun_at o q (map.get ts q)) (born_at (m.newborn s.path t (as_move (doing_of (region_of o) (act.Fork l ch)) go bi)) q (map.get ws q))
  forked_stands q l ch go bi None is e begins own f = let z : None ≡ Some f.pc = sym begins ∙ f.child in absurd (cc)
  forked_stands q l ch go bi (Some cs) is e begins own f = somebody_begins q l cs (go 0) bi (core_on c s n d t b (act.Fork l ch) is (ap stays e)) e begins (own cs refl) f

  -- THE OTHERS
  others_stand : (go : ℕ → Inner) (bi : Inner) (o : Option ThreadState) (a : Act) → Behind s n d a → OfChild s a → d.doing ≡ doing_of (region_of o) a → IsBorn s n d.child o
      → ((cs : ThreadState) → o ≡ Some cs → OwnChildren cs × IsJoined cs cs.joined)
      → Fulfils c.variables c.handles (places c) (length s.path) s.region d (as_move (doing_of (region_of o) a) go bi) → is_end a ≡ false → (q : Path)
      → StandsAt c q (begun_at o q (map.get ts q))
      (born_at (m.newborn s.path t (as_move (doing_of (region_of o) a) go bi)) q (woken_at (m.wakes s.path (as_move (doing_of (region_of o) a) go bi)) q (map.get ws q)))
  others_stand go bi o (act.Poke l p raw) is of e begins own f en q = nobody_begins q o (act_told c s n d t b go bi (act.Poke l p raw) o of begins f).0
  others_stand go bi o (act.Peek l p into) is of e begins own f en q = nobody_begins q o (act_told c s n d t b go bi (act.Peek l p into) o of begins f).0
  others_stand go bi o (act.Expect l p wanted) is of e begins own f en q = nobody_begins q o (act_told c s n d t b go bi (act.Expect l p wanted) o of begins f).0
  others_stand go bi o (act.Fork l ch) is of e begins own f en q = forked_stands q l ch go bi o is e begins own f
  others_stand go bi o (act.Join l ch) is of e begins own f en q = nobody_begins q o (act_told c s n d t b go bi (act.Join l ch) o of begins f).0
  others_stand go bi o (act.Arrive l edges) is of e begins own f en q = nobody_begins q o (act_told c s n d t b go bi (act.Arrive l edges) o of begins f).0
  others_stand go bi o (act.JoinStep l ch) is of e begins own f en q = nobody_begins q o (act_told c s n d t b go bi (act.JoinStep l ch) o of begins f).0
  others_stand go bi o (act.Spend l) is of e begins own f en q = nobody_begins q o (act_told c s n d t b go bi (act.Spend l) o of begins f).0
  others_stand go bi o act.End is of e begins own f en q = absurd (cc)

  get_moved : (a : Act) (o : Option ThreadState) (x : ℕ) (q : Path) → n.path ≡ s.path
      → map.get (moved ts a n o x) q ≡ cond (is_path q s.path) (Some (standing (with_number n a x) (mode_behind a (is_there ts a)))) (begun_at o q (map.get ts q))
  get_moved a o x q e =
      let self : Option Entry = Some (standing (with_number n a x) (mode_behind a (is_there ts a))) in
      get_write (birth ts o) n.path self q ∙ ap (λ p. cond (is_path q p) self (map.get (birth ts o) q)) e ∙ ap (cond (is_path q s.path) self) (get_birth ts o q)

  -- an act that is no end
  moved_stands : (go : ℕ → Inner) (bi : Inner) (o : Option ThreadState) (a : Act) → Behind s n d a → OfChild s a → d.doing ≡ doing_of (region_of o) a → IsBorn s n d.child o
      → ((cs : ThreadState) → o ≡ Some cs → OwnChildren cs × IsJoined cs cs.joined)
      → Fulfils c.variables c.handles (places c) (length s.path) s.region d (as_move (doing_of (region_of o) a) go bi)
      → CountsForks t.inner.forks (as_move (doing_of (region_of o) a) go bi) → is_end a ≡ false → (x : ℕ) (q : Path)
      → StandsAt c q (map.get (moved ts a n o x) q) (map.get (m.threads_after ws s.path t (as_move (doing_of (region_of o) a) go bi) x) q)
  moved_stands go bi o a is of e begins own f k en x q =
      let mv : m.Move Inner = as_move (doing_of (region_of o) a) go bi in
      let self : Option Entry = Some (standing (with_number n a x) (mode_behind a (is_there ts a))) in
      let twin : Option (m.Thread Inner) = m.self_after t mv x (m.is_there ws s.path mv) in
      let alike : StandsAt c s.path self twin =
      subst (λ y. StandsAt c s.path self (m.self_after t mv x y)) (there_same go bi (region_of o) a of) (own_after c s n d t b (region_of o) go bi a is of e f k en x (is_there ts a)) in
      let all : StandsAt c q (cond (is_path q s.path) self (begun_at o q (map.get ts q))) (cond (is_path q s.path) twin (born_at (m.newborn s.path t mv) q (woken_at (m.wakes s.path mv) q (map.get ws q)))) =
      choice_stands c q (is_path q s.path) self (begun_at o q (map.get ts q)) twin (born_at (m.newborn s.path t mv) q (woken_at (m.wakes s.path mv) q (map.get ws q)))
      (λ h. subst (λ z. StandsAt c z self twin) (sym (is_path_same q s.path h)) alike) (λ h. others_stand go bi o a is of e begins own f en q) in
      subst (λ (u : Option Entry). StandsAt c q u (map.get (m.threads_after ws s.path t mv x) q)) (sym (get_moved a o x q is.next.path))
      (subst (λ (v : Option (m.Thread Inner)). StandsAt c q (cond (is_path q s.path) self (begun_at o q (map.get ts q))) v) (sym (get_after Inner ws s.path t mv x q)) all)

  get_ended : (p q : Path) → p ≡ s.path → map.get (ended ts p) q ≡ cond (is_path q s.path) None (awake_at s.path (parent_of s.path) q ts)
  get_ended p q e =
      ap (λ p. map.get (ended ts p) q) e ∙ get_write (wake ts s.path (parent_of s.path)) s.path None q
      ∙ ap (cond (is_path q s.path) None) (get_wake ts s.path (parent_of s.path) q)

  -- an end
  ended_stands : (p : Path) → p ≡ s.path → (x : ℕ) (q : Path) → StandsAt c q (map.get (ended ts p) q) (map.get (m.threads_after ws s.path t m.Move.end x) q)
  ended_stands p e x q =
      let all : StandsAt c q (cond (is_path q s.path) None (awake_at s.path (parent_of s.path) q ts)) (cond (is_path q s.path) None (woken_at (parent s.path) q (map.get ws q))) =
      choice_stands c q (is_path q s.path) None (awake_at s.path (parent_of s.path) q ts) None (woken_at (parent s.path) q (map.get ws q)) (λ h. tt) (λ h. awake_stands q (parent s.path) refl) in
      subst (λ (u : Option Entry). StandsAt c q u (map.get (m.threads_after ws s.path t m.Move.end x) q)) (sym (get_ended p q e))
      (subst (λ (v : Option (m.Thread Inner)). StandsAt c q (cond (is_path q s.path) None (awake_at s.path (parent_of s.path) q ts)) v) (sym (get_after Inner ws s.path t m.Move.end x q)) all)

  -- THE TABLE STANDS AGAIN
  pub stands_after : (go : ℕ → Inner) (bi : Inner) (o : Option ThreadState) (a : Act) → Behind s n d a → OfChild s a → d.doing ≡ doing_of (region_of o) a → IsBorn s n d.child o
      → ((cs : ThreadState) → o ≡ Some cs → OwnChildren cs × IsJoined cs cs.joined)
      → Fulfils c.variables c.handles (places c) (length s.path) s.region d (as_move (doing_of (region_of o) a) go bi)
      → CountsForks t.inner.forks (as_move (doing_of (region_of o) a) go bi) → (x : ℕ)
      → TableStands c (after ts a n o x) (m.threads_after ws s.path t (as_move (doing_of (region_of o) a) go bi) x)
  stands_after go bi o (act.Poke l p raw) is of e begins own f k x q = moved_stands go bi o (act.Poke l p raw) is of e begins own f k refl x q
  stands_after go bi o (act.Peek l p into) is of e begins own f k x q = moved_stands go bi o (act.Peek l p into) is of e begins own f k refl x q
  stands_after go bi o (act.Expect l p wanted) is of e begins own f k x q = moved_stands go bi o (act.Expect l p wanted) is of e begins own f k refl x q
  stands_after go bi o (act.Fork l ch) is of e begins own f k x q = moved_stands go bi o (act.Fork l ch) is of e begins own f k refl x q
  stands_after go bi o (act.Join l ch) is of e begins own f k x q = moved_stands go bi o (act.Join l ch) is of e begins own f k refl x q
  stands_after go bi o (act.Arrive l edges) is of e begins own f k x q = moved_stands go bi o (act.Arrive l edges) is of e begins own f k refl x q
  stands_after go bi o (act.JoinStep l ch) is of e begins own f k x q = moved_stands go bi o (act.JoinStep l ch) is of e begins own f k refl x q
  stands_after go bi o (act.Spend l) is of e begins own f k x q = moved_stands go bi o (act.Spend l) is of e begins own f k refl x q
  stands_after go bi o act.End is of e begins own f k x q = ended_stands n.path is.next.path x q
