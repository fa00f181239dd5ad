-- The edges ahead behind an act.
use Rattle.std.proofs.Common.{◌≡◌, ◌⊎◌, inl, inr, ℕ, suc, [], ◌∷◌, length, nat_eq, Bool, true, false, cond, not, ◌||◌, is_some, Some, None, Option, refl, sym, ap, subst, ◌&&◌, ◌∙◌, eqb-true, arith}
use Rattle.std.specs.FinMap as map
use Rattle.std.specs.Ordering.{eq_by_cmp}
use Rattle.std.specs.Option.{IfSome}
use Rattle.bench_model.specs.Paths.{Path, path_cmp}
use Rattle.tl_code.specs.declared.state.ThreadState.{ThreadState}
use Rattle.tl_prepare.specs.declared.act.Act.{Act}
use Rattle.tl_prepare.specs.declared.act.Act.TheVariants as act
use Rattle.tl_prepare.specs.Work.{Work}
use Rattle.tl_prepare.specs.Given.{IsPrepared}
use Rattle.bench_threads.specs.declared.entry.Entry.{Entry}
use Rattle.bench_threads.specs.declared.entry.Mode.TheVariants.{Running, AtJoin, Spent}
use Rattle.bench_threads.specs.Shelves.{Threads}
use Rattle.bench_threads.specs.Tables.{standing}
use Rattle.bench_threads.specs.Threads.{quiet, first_spent, is_awaited, edges_ahead}
use Rattle.bench_threads.specs.Laws.{QuietIsNobody, SpentIsNamed, ActsBringEdges, EndsBringEdges, GoesOn}
use Rattle.bench_threads.proofs.Houses.{get_removed}
use Rattle.bench_acts.specs.Behind.{mode_behind, with_number, is_end, parent_of}
use Rattle.bench_acts.specs.After.{is_there, birth, ended, moved, after, threads_after}
use Rattle.bench_ahead.specs.Behind.{wakes, edges_behind}
use Rattle.bench_ahead.proofs.Behind.{Acts, child_apart, get_put, quiet_born, quiet_ended, unwoken}

-- the run ends with this time step, for its threads alone: one is spent, or the root thread is gone
abbrev pub over : Threads → Bool
over ts = is_some (first_spent (map.entries ts)) || not (is_some (map.get ts []))

-- the edges ahead, or one where that is enough
abbrev pub Enough : Threads → Option ℕ → Type 0
Enough ts o = (o ≡ edges_ahead ts) ⊎ ((o ≡ Some 1) × (over ts ≡ true))

or_right : (a b : Bool) → b ≡ true → (a || b) ≡ true
or_right true b h = refl
or_right false b h = h

turned : {A : Type 0} (b : Bool) (x y : A) → cond (not b) x y ≡ cond b y x
turned true x y = refl
turned false x y = refl

is_root : (p : Path) → nat_eq (length p) 0 ≡ true → p ≡ []
is_root [] h = refl
is_root (k ∷ p) h = let z : suc (length p) ≡ 0 = eqb-true (length (k ∷ p)) 0 h in absurd (omega arith)

module _ (nobody : QuietIsNobody) (named : SpentIsNamed) (acts : ActsBringEdges) (ends : EndsBringEdges) (ts : Threads) (p : Path) (a : Acts ts p) where
  goes_as : (s : ThreadState) → GoesOn ts p s
  goes_as s = acts ts p a.entry s a.there a.runs

  -- where nobody runs, no child has begun
  unborn : (e : Entry) (o : Option ThreadState) → IfSome o (λ (c : ThreadState). eq_by_cmp path_cmp c.path p ≡ false) → quiet (map.insert (birth ts o) p e) ≡ true → map.insert (birth ts o) p e ≡ map.insert ts p e
  unborn e None apart h = refl
  unborn e (Some c) apart h = let bad : true ≡ false = sym h ∙ quiet_born nobody ts p e (Some c) apart in absurd cc

  -- ---- a thread that is left standing

  module _ (n : ThreadState) (o : Option ThreadState) (x : ℕ) (same : n.path ≡ p) (apart : IfSome o (λ (c : ThreadState). eq_by_cmp path_cmp c.path p ≡ false)) where
    stands : (b : Act) → is_end b ≡ false → after ts b n o x ≡ map.insert (birth ts o) p (standing (with_number n b x) (mode_behind b (is_there ts b)))
    stands b goes =
        ap (λ t. cond t (ended ts n.path) (moved ts b n o x)) goes
        ∙ ap (λ q. map.insert (birth ts o) q (standing (with_number n b x) (mode_behind b (is_there ts b)))) same

    settled : (b : Act) → is_end b ≡ false → quiet (after ts b n o x) ≡ true → after ts b n o x ≡ map.insert ts p (standing (with_number n b x) (mode_behind b (is_there ts b)))
    settled b goes h = stands b goes ∙ unborn (standing (with_number n b x) (mode_behind b (is_there ts b))) o apart (sym (ap quiet (stands b goes)) ∙ h)

    runs_on : (b : Act) → is_end b ≡ false → mode_behind b (is_there ts b) ≡ Running → quiet (after ts b n o x) ≡ true → Enough (after ts b n o x) (edges_ahead ts)
    runs_on b goes mode h =
        inl (sym (ap edges_ahead (settled b goes h) ∙ ap (λ k. edges_ahead (map.insert ts p (standing (with_number n b x) k))) mode ∙ (goes_as (with_number n b x)).runs))

    joins : (c : Path) (b : Bool) → edges_ahead (map.insert ts p (standing n (cond b (AtJoin c) Running))) ≡ edges_ahead ts
    joins c true = (goes_as n).joins c
    joins c false = (goes_as n).runs

    -- ---- a thread that ends

    leaves : (b : Bool) → wakes ts p (parent_of p) ≡ b → quiet (ended ts p) ≡ true → ended ts p ≡ map.remove ts p
    leaves true i h = let bad : true ≡ false = sym h ∙ quiet_ended nobody ts p a (parent_of p) ∙ ap (λ w. not w && quiet (map.remove ts p)) i in absurd cc
    leaves false i h = ap (λ us. map.remove us p) (unwoken nobody ts p (parent_of p) i)

    root_gone : nat_eq (length p) 0 ≡ true → over (map.remove ts p) ≡ true
    root_gone h =
        let none : map.get (map.remove ts p) [] ≡ None = ap (map.get (map.remove ts p)) (sym (is_root p h)) ∙ get_removed ts p in
        or_right (is_some (first_spent (map.entries (map.remove ts p)))) (not (is_some (map.get (map.remove ts p) []))) (ap (λ e. not (is_some e)) none)

    gone : (b : Bool) → nat_eq (length p) 0 ≡ b → Enough (map.remove ts p) (cond (b || is_awaited ts p) (Some 1) (edges_ahead ts))
    gone true i = inr (refl, root_gone i)
    gone false i = inl (sym (ends ts p a.entry a.there a.runs).is)

    ends_so : quiet (ended ts n.path) ≡ true → Enough (ended ts n.path) (edges_behind ts p act.End)
    ends_so h =
        let here : ended ts n.path ≡ ended ts p = ap (ended ts) same in
        let left : ended ts n.path ≡ map.remove ts p = here ∙ leaves (wakes ts p (parent_of p)) refl (sym (ap quiet here) ∙ h) in
        subst (λ us. Enough us (edges_behind ts p act.End)) (sym left) (gone (nat_eq (length p) 0) refl)

    -- ---- THE EDGES AHEAD, or one

    behind : (b : Act) → quiet (after ts b n o x) ≡ true → Enough (after ts b n o x) (edges_behind ts p b)
    behind (act.Poke l port raw) h = runs_on (act.Poke l port raw) refl refl h
    behind (act.Peek l port into) h = runs_on (act.Peek l port into) refl refl h
    behind (act.Expect l port wanted) h = runs_on (act.Expect l port wanted) refl refl h
    behind (act.Fork l c) h = runs_on (act.Fork l c) refl refl h
    behind (act.Join l c) h = inl (sym (ap edges_ahead (settled (act.Join l c) refl h) ∙ joins c (is_some (map.get ts c))))
    behind (act.Arrive l m) h = inl (sym (ap edges_ahead (settled (act.Arrive l m) refl h) ∙ (goes_as n).waits_edges m))
    behind (act.JoinStep l c) h =
        inl (turned (is_some (map.get ts c)) (Some 1) (edges_ahead ts) ∙ sym (ap edges_ahead (settled (act.JoinStep l c) refl h) ∙ (goes_as n).waits_end c))
    behind (act.Spend l) h =
        let now : after ts (act.Spend l) n o x ≡ map.insert ts p (standing n (Spent l)) = settled (act.Spend l) refl h in
        let there : map.get (after ts (act.Spend l) n o x) p ≡ Some (standing n (Spent l)) = ap (λ us. map.get us p) now ∙ get_put ts p (standing n (Spent l)) in
        inr (refl, ap (λ t. t || not (is_some (map.get (after ts (act.Spend l) n o x) []))) (named (after ts (act.Spend l) n o x) p (standing n (Spent l)) l there refl))
    behind act.End h = ends_so h

-- WHAT IS PREPARED has these edges ahead behind it, or one where the run ends
pub edges_enough : QuietIsNobody → SpentIsNamed → ActsBringEdges → EndsBringEdges → (ts : Threads) (w : Work) (x : ℕ) → IsPrepared w → Acts ts w.from.path → quiet (threads_after ts w x) ≡ true
    → Enough (threads_after ts w x) (edges_behind ts w.from.path w.act)
edges_enough nobody named acts ends ts w x made a =
    behind nobody named acts ends ts w.from.path a w.next w.child x made.next.path (child_apart w.from w.next made.done.child w.child made.child) w.act
