-- What is committed is the next act of its thread.
use Rattle.std.proofs.Common.{◌≡◌, ℕ, length, true, Option, Some, None, is_some, IfSome, refl, sym, ap, subst, ◌∙◌, arith}
use Rattle.std.specs.FinMap as map
use Rattle.bench_model.specs.Paths.{Path}
use Rattle.bench_model.specs.World as m
use Rattle.tl_threads.specs.Threads.{Inner, most_local, next}
use Rattle.tl_threads.specs.Stands.{Fulfils}
use Rattle.tl_code.specs.declared.state.ThreadState.{ThreadState}
use Rattle.tl_code.specs.Compiled.{Compiled}
use Rattle.tl_code.specs.Codes.{places}
use Rattle.tl_prepare.specs.Steps.{doing_of}
use Rattle.tl_prepare.specs.Work.{Work}
use Rattle.tl_prepare.specs.Given.{next_child, region_of, IsBorn}
use Rattle.tl_prepare.specs.Laws.{PreparedIsNext, ChildrenStayOwn}
use Rattle.bench_threads.specs.declared.entry.Entry.{Entry}
use Rattle.bench_threads.specs.Shelves.{Threads}
use Rattle.bench_stands.specs.Standing.{StandsAt}
use Rattle.bench_acts.specs.Laws.{Committed, ActsAs, CommitIsAct, NumbersLeft, CommitMayAdvance}
use Rattle.bench_acts.proofs.Moves.{as_move, goes_on, begins_as, done_is_move, CountsForks, next_counts}
use Rattle.bench_acts.proofs.Entries.{Before, Behind, before}
use Rattle.bench_acts.proofs.Told.{event_same, observed_told, act_told}
use Rattle.bench_acts.proofs.Tables.{entry_of, stands_after}

module _ (c : Compiled) (ts : Threads) (ws : m.Threads Inner) (w : Work) (e : Entry) (t : m.Thread Inner) (k : Committed c ts ws w e t) where
  stood : Before c w.from t
  stood = before c w.from.path e w.from t k.state (entry_of c w.from.path (map.get ts w.from.path) (map.get ws w.from.path) e t k.here k.there (k.stands w.from.path))

  Done : m.Move Inner → Type 0
  Done mv = Fulfils c.variables c.handles (places c) (length w.from.path) w.from.region k.prepared.done mv

  -- the move as what was done says it
  by_act : ChildrenStayOwn → (go : ℕ → Inner) (bi : Inner) → Done (as_move (doing_of (region_of w.child) w.act) go bi) → CountsForks t.inner.forks (as_move (doing_of (region_of w.child) w.act) go bi)
      → ActsAs c ts ws w t (as_move (doing_of (region_of w.child) w.act) go bi)
  unfolding Done
  by_act stay go bi f count =
      let own = stay w k.prepared stood.children in
      let behind : Behind w.from w.next k.prepared.done w.act = record { next = k.prepared.next; own = own.0; joins = own.1 } in
      record {
        event = event_same c w.from w.next k.prepared.done t stood go bi (region_of w.child) w.act k.prepared.of_child;
        threads = λ x. stands_after c ts ws k.stands w.from w.next k.prepared.done t stood go bi w.child w.act behind k.prepared.of_child k.prepared.act k.prepared.child own.2 f count x;
        told = act_told c w.from w.next k.prepared.done t stood go bi w.act w.child k.prepared.of_child k.prepared.child f;
        seen = λ time x. observed_told c w.from w.next k.prepared.done t stood go bi (region_of w.child) w.act time x;
      }

  by_move : ChildrenStayOwn → (mv : m.Move Inner) → Done mv → CountsForks t.inner.forks mv → ActsAs c ts ws w t mv
  unfolding Done
  by_move stay mv f count =
      let go = goes_on t.inner mv in
      let bi = begins_as t.inner mv in
      let same : mv ≡ as_move (doing_of (region_of w.child) w.act) go bi =
      done_is_move c.variables c.handles (places c) (length w.from.path) w.from.region k.prepared.done t.inner mv f ∙ ap (λ q. as_move q go bi) k.prepared.act in
      subst (λ (x : m.Move Inner). ActsAs c ts ws w t x) (sym same)
      (by_act stay go bi
      (subst (λ (x : m.Move Inner). Fulfils c.variables c.handles (places c) (length w.from.path) w.from.region k.prepared.done x) same f)
      (subst (λ (x : m.Move Inner). CountsForks t.inner.forks x) same count))

  of_next : ChildrenStayOwn → PreparedIsNext → ActsAs c ts ws w t (next most_local t.inner)
  unfolding Done
  of_next stay is_next = by_move stay (next most_local t.inner) (is_next c w t.inner k.prepared stood.inner k.held) (next_counts most_local t.inner)

  -- ---- what has to be there, and what must not be

  present : is_some (map.get ts w.next.path) ≡ true
  present = ap (λ p. is_some (map.get ts p)) k.prepared.next.path ∙ ap is_some k.here

  nobody_at : (p : Path) (o : Option Entry) (v : Option (m.Thread Inner)) → v ≡ None → StandsAt c p o v → o ≡ None
  nobody_at p None v i is = refl
  nobody_at p (Some e) v i is = absurd (subst (λ (u : Option (m.Thread Inner)). StandsAt c p (Some e) u) i is)

  new_path : NumbersLeft ws w.from.path t → (v : Option (m.Thread Inner)) → map.get ws (next_child w.from) ≡ v → v ≡ None
  new_path left None i = refl
  new_path left (Some u) i = absurd (omega (arith, left w.from.forks u i, stood.forks))

  absent : NumbersLeft ws w.from.path t → (o : Option ThreadState) → IsBorn w.from w.next k.prepared.done.child o → IfSome o (λ child. map.get ts child.path ≡ None)
  absent left None is = tt
  absent left (Some cs) is =
      ap (λ (u : ThreadState). map.get ts u.path) is.2
      ∙ nobody_at (next_child w.from) (map.get ts (next_child w.from)) (map.get ws (next_child w.from)) (new_path left (map.get ws (next_child w.from)) refl) (k.stands (next_child w.from))

pub commit_is_act : ChildrenStayOwn → PreparedIsNext → CommitIsAct
commit_is_act stay is_next c ts ws w e t k = of_next c ts ws w e t k stay is_next

pub commit_may_advance : CommitMayAdvance
commit_may_advance c ts ws w e t k left = record { there = present c ts ws w e t k; absent = absent c ts ws w e t k left w.child k.prepared.child }
