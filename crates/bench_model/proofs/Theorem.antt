-- The theorem on every order, at any bench: what crates above cite.
use Rattle.std.proofs.Common.{◌≡◌, ℕ, List, [], ◌∷◌, length, reverse, Some, option_map, refl, sym, ap, subst, ◌∙◌}
use Rattle.order_laws.specs.Runs.{going, settled, conflicted, bounded, runs, Fine, RunAlike, RunPossible}
use Rattle.order_laws.specs.EveryOrder.{Settled, IsOver, Follows}
use Rattle.order_laws.proofs.RunLaws.{run_laws}
use Rattle.order_laws.proofs.EveryOrder.{possible_after}
use Rattle.order_laws.proofs.Theorem.{follows}
use Rattle.bench_model.specs.Paths.{Path}
use Rattle.bench_model.specs.Log.{Event}
use Rattle.bench_model.specs.Conflict.{HasAt, IsFirstPair}
use Rattle.bench_model.specs.Sorting.{record_le, sorted}
use Rattle.bench_model.specs.World.{World, Possible}
use Rattle.bench_model.specs.Settle.{Setting, SettingLaws, Finish, FinishAlike, steps}
use Rattle.bench_model.specs.Orders.{RunOf, start, replay, Permits, Settles, first_order, Result, conflict, settles, run_of, named_pair, world_result, FollowsOrder, EveryOrder, AnyCleanOrder, FirstOrderEnds, RealConflict, RealConflicts}
use Rattle.bench_model.proofs.SettleFacts.{step_laws}
use Rattle.bench_model.proofs.SortingFacts.{sorted_permutation}
use Rattle.bench_model.proofs.RecordOrder.{record_order}
use Rattle.bench_model.proofs.ConflictFacts.{free_of, Named, named}
use Rattle.bench_model.proofs.RealConflictFacts.{IsFirstConflict, IsReal, real_after}
use Rattle.bench_model.proofs.FirstOrder.{first_possible, first_permitted, first_over, first_short, orders_within}

module _ (S : Setting) (L : SettingLaws S) where
  -- alike runs that have settled give the same
  finish_same : (e f : Finish) → FinishAlike e f → (t u : List ℕ) → run_of S (settled t e) ≡ run_of S (settled u f)
  finish_same e f a t u =
      let same : sorted record_le e.records ≡ sorted record_le f.records = sym (sorted_permutation record_le record_order e.records f.records a.records) in
      λ i. Some (record { records = same i; samples = reverse (a.samples i); actions = a.actions i; outcome = settles (a.time i) (a.ending i) })

  run_same : (r s : RunOf S) → RunAlike (steps S) r s → Settled r → run_of S r ≡ run_of S s
  run_same (settled t e) (settled u f) h k = finish_same e f h.1 t u
  run_same (settled t e) _ h k = absurd h
  run_same _ s h k = absurd k

  -- CLEAN ORDERS
  pub every_order : EveryOrder S
  every_order o o' ok done ok' =
      let f : Follows (steps S) (start S) (replay S o) o' = follows (steps S) (step_laws S L.model) (start S) (first_possible S L) tt o ok done o' ok' in
      record {
        clean = f.fine;
        fewer = f.fewer;
        more = f.more;
        permitted = f.permitted;
        settles = f.settles;
        same = λ h. run_same (replay S o') (replay S o) (f.same h) h;
      }

  -- an outcome without a conflict or a limit of actions is that of a settled run
  over_fine : (r : RunOf S) → IsOver r → Fine r → Settled r
  over_fine (going t w) h f = absurd h
  over_fine (settled t e) h f = tt
  over_fine (conflicted tw w) h f = absurd f
  over_fine (bounded tw w) h f = absurd f

  -- ANY CLEAN ORDER WILL DO
  pub any_clean_order : AnyCleanOrder S
  any_clean_order o ok done =
      let f : FollowsOrder S o (first_order S) = every_order o (first_order S) ok done (first_permitted S L) in
      (first_permitted S L, over_fine (replay S (first_order S)) (first_over S L) f.clean)

  -- ---- real conflicts
  pair_result : (t : List ℕ) (w : World S.model.Inner) (d e : Event) → named_pair S.model.cone w.log ≡ Some (d, e) → run_of S (conflicted t w) ≡ Some (world_result w (conflict w.time d e))
  pair_result t w d e h = ap (option_map (λ (pair : Event × Event). world_result w (conflict w.time pair.0 pair.1))) h

  real_at : (order : List Path) (t : List ℕ) (w : World S.model.Inner) → replay S order ≡ conflicted t w → (log : List Event) → w.log ≡ log → IsFirstConflict S.model.cone log → RealConflict S order w
  real_at order t w at [] is h = absurd h
  real_at order t w at (e ∷ log) is (c, f) =
      let n : Named S.model.cone e log = named S.model.cone e log c f in
      record {
        earlier = log;
        first = n.first;
        second = e;
        log_is = is;
        named = ap (run_of S) at ∙ pair_result t w n.first e (ap (named_pair S.model.cone) is ∙ n.is_named);
        spot = n.spot;
        stands = subst (λ l. HasAt l n.spot n.first) (sym is) n.stands;
        pair = subst (λ l. IsFirstPair S.model.cone l n.spot (length log)) (sym is) n.pair;
        free = free_of S.model.cone log f;
      }

  pub real_conflict : (order : List Path) (t : List ℕ) (w : World S.model.Inner) → replay S order ≡ conflicted t w → RealConflict S order w
  real_conflict order t w at = real_at order t w at w.log refl (subst (IsReal S.model.cone) at (real_after S order (start S) tt))

  -- where one permitted order isn't clean, none settles
  pub none_settles : (order : List Path) → Permits S order → (Fine (replay S order) → ⊥) → (other : List Path) → Permits S other → Settles S other → ⊥
  none_settles order ok bad other ok' done = bad (every_order other order ok' done ok).clean

  -- REAL CONFLICTS
  pub real_conflicts : RealConflicts S
  real_conflicts order ok t w at = (real_conflict order t w at, none_settles order ok (λ f. subst Fine at f))

  -- ---- the one-thread order ends
  result_of : (order : List Path) (r : RunOf S) → replay S order ≡ r → IsOver r → (x : Result) × (run_of S (replay S order) ≡ Some x)
  result_of order (going t w) at h = absurd h
  result_of order (settled t e) at h = (_, ap (run_of S) at)
  result_of order (conflicted tw w) at h = let c : RealConflict S order w = real_conflict order tw w at in (_, c.named)
  result_of order (bounded tw w) at h = (_, ap (run_of S) at)

  -- each order that has an outcome gives a result
  pub over_result : (order : List Path) → IsOver (replay S order) → (x : Result) × (run_of S (replay S order) ≡ Some x)
  over_result order h = result_of order (replay S order) refl h

  pub first_order_ends : FirstOrderEnds S
  first_order_ends = record { permitted = first_permitted S L; over = first_over S L; result = over_result (first_order S) (first_over S L); short = first_short S L; within = orders_within S L (first_order S) (first_permitted S L) }

  -- each world that a permitted order reaches is possible
  pub reached_possible : (order : List Path) (times : List ℕ) (w : World S.model.Inner) → Permits S order → replay S order ≡ going times w → Possible S.model w
  reached_possible order times w ok at = subst (RunPossible (steps S)) at (possible_after (runs (steps S)) (run_laws (steps S) (step_laws S L.model)) order (start S) (first_possible S L) ok)
