-- Marks, behind an act and behind the end of time steps.
use Rattle.std.proofs.Common.{◌≡◌, ℕ, Bool, true, false, not, ◌&&◌, ◌||◌, cond, nat_le, Option, Some, None, option_map, is_some, IfSome, refl, sym, ap, ◌∙◌, ◌-◌}
use Rattle.std.specs.FinMap as map
use Rattle.tl_code.specs.declared.state.ThreadState.{ThreadState}
use Rattle.tl_prepare.specs.declared.act.Act.{Act}
use Rattle.tl_prepare.specs.Work.{Work}
use Rattle.bench_model.specs.Paths.{Path, is_path}
use Rattle.bench_model.specs.Settle.{Limits}
use Rattle.bench_model.proofs.PathFacts.{path_order, is_path_same}
use Rattle.bench_threads.specs.declared.entry.Entry.{Entry}
use Rattle.bench_threads.specs.declared.entry.Mode.{Mode}
use Rattle.bench_threads.specs.declared.entry.Mode.TheVariants.{Running, AtJoin, AtEdges, AtJoinStep, Spent}
use Rattle.bench_threads.specs.Shelves.{Threads}
use Rattle.bench_threads.specs.Tables.{standing, started}
use Rattle.bench_threads.specs.Threads.{change, woken, tick, tick_mode, released, with_mark, unmarked}
use Rattle.bench_threads.proofs.Houses.{get_change, get_all_changed}
use Rattle.bench_acts.specs.Behind.{mode_behind, with_number, is_end, parent_of}
use Rattle.bench_acts.specs.After.{is_there, wake, birth, ended, moved, after}
use Rattle.bench_course.specs.Course.{CourseValue}
use Rattle.bench_course.specs.Taking.{number_found, taken}
use Rattle.bench_judge.specs.Judging.{judged}
use Rattle.bench_core.specs.Bench.{is_marked}
use Rattle.bench_core.proofs.Judged.{judged_kept}

-- whether the thread of a path is there and marked
abbrev pub mark_at : Threads → Path → Bool
mark_at ts q = is_marked (map.get ts q)

and_true : (b : Bool) → (b && not false) ≡ b
and_true true = refl
and_true false = refl

and_false : (b : Bool) → (b && not true) ≡ false
and_false true = refl
and_false false = refl

or_true : (b : Bool) → (b || true) ≡ true
or_true true = refl
or_true false = refl

pub or_false : (b : Bool) → (b || false) ≡ b
or_false true = refl
or_false false = refl

-- ---- look-ups

pub get_put : (ts : Threads) (p : Path) (e : Entry) (q : Path) → map.get (map.insert ts p e) q ≡ cond (is_path q p) (Some e) (map.get ts q)
unfolding is_path
get_put ts p e q = map.get-insert path_order ts p e q

get_gone : (ts : Threads) (p q : Path) → map.get (map.remove ts p) q ≡ cond (is_path q p) None (map.get ts q)
unfolding is_path
get_gone ts p q = map.get-remove path_order ts p q

get_changed : (f : Entry → Entry) (ts : Threads) (p q : Path) → map.get (change f ts p) q ≡ cond (is_path q p) (option_map f (map.get ts p)) (map.get ts q)
unfolding is_path
get_changed f ts p q = get_change f ts p q

-- ---- changes that leave marks

mapped_mark : (f : Entry → Entry) → ((e : Entry) → (f e).marked ≡ e.marked) → (o : Option Entry) → is_marked (option_map f o) ≡ is_marked o
mapped_mark f same None = refl
mapped_mark f same (Some e) = same e

changed_mark : (f : Entry → Entry) → ((e : Entry) → (f e).marked ≡ e.marked) → (ts : Threads) (p q : Path) → mark_at (change f ts p) q ≡ mark_at ts q
changed_mark f same ts p q = ap is_marked (get_changed f ts p q) ∙ go (is_path q p) refl
  where
    go : (b : Bool) → is_path q p ≡ b → is_marked (cond b (option_map f (map.get ts p)) (map.get ts q)) ≡ mark_at ts q
    go true e = mapped_mark f same (map.get ts p) ∙ ap (mark_at ts) (sym (is_path_same q p e))
    go false e = refl

ticked_mark : (ts : Threads) (e : Entry) (k : Mode) → (tick_mode ts e k).marked ≡ e.marked
ticked_mark ts e Running = refl
ticked_mark ts e (AtJoin c) = refl
ticked_mark ts e (Spent l) = refl
ticked_mark ts e (AtEdges n) = go (nat_le n 1)
  where
    go : (b : Bool) → (cond b (released e) (record e { mode = AtEdges (n - 1) })).marked ≡ e.marked
    go true = refl
    go false = refl
ticked_mark ts e (AtJoinStep c) = go (is_some (map.get ts c))
  where
    go : (b : Bool) → (cond b e (released e)).marked ≡ e.marked
    go true = refl
    go false = refl

-- an edge leaves marks
pub tick_mark : (ts : Threads) (q : Path) → mark_at (tick ts) q ≡ mark_at ts q
tick_mark ts q =
    ap is_marked (get_all_changed (λ (e : Entry). tick_mode ts e e.mode) ts q)
    ∙ mapped_mark (λ (e : Entry). tick_mode ts e e.mode) (λ e. ticked_mark ts e e.mode) (map.get ts q)

-- ---- an act

woken_mark : (c : Path) (e : Entry) → (woken c e).marked ≡ e.marked
woken_mark c e = refl

wake_mark : (ts : Threads) (p : Path) (o : Option Path) (q : Path) → mark_at (wake ts p o) q ≡ mark_at ts q
wake_mark ts p None q = refl
wake_mark ts p (Some r) q = changed_mark (woken p) (woken_mark p) ts r q

birth_mark : (ts : Threads) (o : Option ThreadState) (q : Path) → IfSome o (λ child. map.get ts child.path ≡ None) → mark_at (birth ts o) q ≡ mark_at ts q
birth_mark ts None q absent = refl
birth_mark ts (Some s) q absent = ap is_marked (get_put ts s.path (started s) q) ∙ go (is_path q s.path) refl
  where
    go : (b : Bool) → is_path q s.path ≡ b → is_marked (cond b (Some (started s)) (map.get ts q)) ≡ mark_at ts q
    go true e = sym (ap (mark_at ts) (is_path_same q s.path e) ∙ ap is_marked absent)
    go false e = refl

ended_mark : (ts : Threads) (p q : Path) → mark_at (ended ts p) q ≡ (mark_at ts q && not (is_path q p))
ended_mark ts p q = ap is_marked (get_gone (wake ts p (parent_of p)) p q) ∙ go (is_path q p)
  where
    go : (b : Bool) → is_marked (cond b None (map.get (wake ts p (parent_of p)) q)) ≡ (mark_at ts q && not b)
    go true = sym (and_false (mark_at ts q))
    go false = wake_mark ts p (parent_of p) q ∙ sym (and_true (mark_at ts q))

moved_mark : (ts : Threads) (a : Act) (next : ThreadState) (o : Option ThreadState) (x : ℕ) (q : Path) → IfSome o (λ child. map.get ts child.path ≡ None)
    → mark_at (moved ts a next o x) q ≡ (mark_at ts q && not (is_path q next.path))
moved_mark ts a next o x q absent =
    ap is_marked (get_put (birth ts o) next.path (standing (with_number next a x) (mode_behind a (is_there ts a))) q) ∙ go (is_path q next.path)
  where
    go : (b : Bool) → is_marked (cond b (Some (standing (with_number next a x) (mode_behind a (is_there ts a)))) (map.get (birth ts o) q)) ≡ (mark_at ts q && not b)
    go true = sym (and_false (mark_at ts q))
    go false = birth_mark ts o q absent ∙ sym (and_true (mark_at ts q))

after_mark : (ts : Threads) (a : Act) (next : ThreadState) (o : Option ThreadState) (x : ℕ) (q : Path) → IfSome o (λ child. map.get ts child.path ≡ None)
    → mark_at (after ts a next o x) q ≡ (mark_at ts q && not (is_path q next.path))
after_mark ts a next o x q absent = go (is_end a)
  where
    go : (b : Bool) → mark_at (cond b (ended ts next.path) (moved ts a next o x)) q ≡ (mark_at ts q && not (is_path q next.path))
    go true = ended_mark ts next.path q
    go false = moved_mark ts a next o x q absent

-- ---- what judging leaves

-- circuit and marks
pub record Leaves (o n : CourseValue) : Type 0 where
  pub elab : n.elab ≡ o.elab
  pub net : n.net ≡ o.net
  pub marks : (q : Path) → mark_at n.threads q ≡ mark_at o.threads q

pub judged_leaves : (l : Limits) (o : CourseValue) → Leaves o (judged l o).course
judged_leaves l o =
    judged_kept (Leaves o) (λ v s. record { elab = s.elab; net = s.net; marks = s.marks })
    (λ v s. record { elab = s.elab; net = s.net; marks = λ q. tick_mark v.threads q ∙ s.marks q })
    l o (record { elab = refl; net = refl; marks = λ q. refl })

-- AN ACT TAKES THE MARK OF ITS THREAD AWAY, and no other
pub taken_mark : (o : CourseValue) (work : Work) → work.next.path ≡ work.from.path → IfSome work.child (λ child. map.get o.threads child.path ≡ None)
    → (q : Path) → mark_at (taken o work).threads q ≡ (mark_at o.threads q && not (is_path q work.from.path))
taken_mark o work same absent q =
    after_mark o.threads work.act work.next work.child (number_found o.elab o.inputs o.registers work.act) q absent
    ∙ ap (λ p. mark_at o.threads q && not (is_path q p)) same

-- ---- marks themselves

-- one thread is marked more
pub marked_more : (ts : Threads) (p : Path) (e : Entry) → map.get ts p ≡ Some e → (q : Path) → mark_at (change (with_mark true) ts p) q ≡ (mark_at ts q || is_path q p)
marked_more ts p e here q = ap is_marked (get_changed (with_mark true) ts p q) ∙ go (is_path q p)
  where
    go : (b : Bool) → is_marked (cond b (option_map (with_mark true) (map.get ts p)) (map.get ts q)) ≡ (mark_at ts q || b)
    go true = ap (λ (o : Option Entry). is_marked (option_map (with_mark true) o)) here ∙ sym (or_true (mark_at ts q))
    go false = sym (or_false (mark_at ts q))

free_mark : (o : Option Entry) → is_marked (option_map (with_mark false) o) ≡ false
free_mark None = refl
free_mark (Some e) = refl

-- none is marked
pub none_marked : (ts : Threads) (q : Path) → mark_at (unmarked ts) q ≡ false
none_marked ts q = ap is_marked (get_all_changed (with_mark false) ts q) ∙ free_mark (map.get ts q)
