-- Who acts next: the first thread of the table that may act and isn't marked.
use Rattle.std.proofs.Common.{◌≡◌, List, [], ◌∷◌, map, Bool, true, false, cond, not, ◌&&◌, Option, Some, None, option_map, refl, sym, ap, subst, ◌∙◌}
use Rattle.std.specs.FinMap as map
use Rattle.std.specs.FinMap.{find}
use Rattle.std.specs.Ordering.{eq_by_cmp}
use Rattle.bench_model.specs.Paths.{Path, path_cmp}
use Rattle.bench_model.specs.World as m
use Rattle.bench_model.specs.World.{World}
use Rattle.bench_model.specs.Orders as orders
use Rattle.tl_threads.specs.Threads.{Inner}
use Rattle.tl_code.specs.Compiled.{Compiled}
use Rattle.bench_threads.specs.declared.entry.Entry.{Entry}
use Rattle.bench_threads.specs.Shelves.{Threads}
use Rattle.bench_threads.specs.Threads as table
use Rattle.bench_stands.specs.Standing.{TableStands}
use Rattle.bench_stands.specs.Laws.{NoneMarked, IsReady, NextIs, LeastIsTold}
use Rattle.bench_stands.proofs.Pairs.{Pair, Paired, paired}
use Rattle.bench_stands.proofs.Told.{enabled_same}
use Rattle.bench_stands.proofs.Enabling.{both_true}

not_marked : (b : Bool) → not b ≡ true → b ≡ false
not_marked true e = absurd (cc)
not_marked false e = refl

module _ (ts : Threads) where
  -- ---- there is none
  none_ready : (es : List (Path × Entry)) → table.first_ready ts es ≡ None → (q : Path) (x : Entry) → find path_cmp q es ≡ Some x → table.may_act ts x ≡ true → x.marked ≡ true
  none_ready [] n q x f a = absurd (cc)
  none_ready (e ∷ es) n q x f a = go (eq_by_cmp path_cmp q e.0) f (table.may_act ts e.1) refl e.1.marked refl n (λ n' f'. none_ready es n' q x f' a)
    where
      go : (b : Bool) → cond b (Some e.1) (find path_cmp q es) ≡ Some x → (acts : Bool) → table.may_act ts e.1 ≡ acts → (marked : Bool) → e.1.marked ≡ marked
          → cond (acts && not marked) (Some e.1) (table.first_ready ts es) ≡ None → (table.first_ready ts es ≡ None → find path_cmp q es ≡ Some x → x.marked ≡ true) → x.marked ≡ true
      go false f' true i true j n' rest = rest n' f'
      go false f' true i false j n' rest = absurd (cc)
      go false f' false i marked j n' rest = rest n' f'
      go true f' acts i true j n' rest = let same : e.1 ≡ x = cc in subst (λ (y : Entry). y.marked ≡ true) same j
      go true f' true i false j n' rest = absurd (cc)
      go true f' false i false j n' rest = absurd (let same : e.1 ≡ x = cc in let acts : table.may_act ts e.1 ≡ true = subst (λ (y : Entry). table.may_act ts y ≡ true) (sym same) a in cc)

  module _ (c : Compiled) (ws : m.Threads Inner) where
    -- ---- there is one
    ready_at : (e : Path × Entry) (t : Path × m.Thread Inner) → Pair c ts ws e t → (table.may_act ts e.1 && not e.1.marked) ≡ true → IsReady ts e.1
    ready_at e t h r =
        let b = both_true (table.may_act ts e.1) (not e.1.marked) r in
        record { here = ap (map.get ts) h.stands.path ∙ h.found; enabled = b.0; unmarked = not_marked e.1.marked b.1 }

    one_ready : (es : List (Path × Entry)) (us : List (Path × m.Thread Inner)) → Paired c ts ws es us → (x : Entry) → table.first_ready ts es ≡ Some x → IsReady ts x
    one_ready [] us h x is = absurd (cc)
    one_ready (e ∷ es) [] h x is = absurd h
    one_ready (e ∷ es) (t ∷ us) h x is = go (table.may_act ts e.1 && not e.1.marked) refl is (λ f. one_ready es us h.1 x f)
      where
        go : (b : Bool) → (table.may_act ts e.1 && not e.1.marked) ≡ b → cond b (Some e.1) (table.first_ready ts es) ≡ Some x → (table.first_ready ts es ≡ Some x → IsReady ts x) → IsReady ts x
        go true i f rest = let same : e.1 ≡ x = cc in subst (IsReady ts) same (ready_at e t h.0 i)
        go false i f rest = rest f

    next_is : Paired c ts ws (map.entries ts) (map.entries ws) → (o : Option Entry) → table.least_unmarked ts ≡ o → NextIs ts o
    next_is h None i = λ p e f a. none_ready (map.entries ts) i p e (sym (map.get-entries ts p) ∙ f) a
    next_is h (Some e) i = one_ready (map.entries ts) (map.entries ws) h e i

-- ---- where no thread is marked
module _ (c : Compiled) (ts : Threads) (w : World Inner) (s : TableStands c ts w.threads) (clean : NoneMarked ts) where
  ready_same : (e : Path × Entry) (t : Path × m.Thread Inner) → Pair c ts w.threads e t → (table.may_act ts e.1 && not e.1.marked) ≡ orders.is_enabled w (map.get w.threads t.0)
  ready_same e t h =
      let enabled : table.may_act ts e.1 ≡ orders.is_enabled w (map.get w.threads t.0) =
      ap (table.is_enabled ts) (sym h.found) ∙ enabled_same c ts w s e.0 ∙ ap (λ p. orders.is_enabled w (map.get w.threads p)) h.same in
      ap (λ b. table.may_act ts e.1 && not b) (clean e.0 e.1 h.found) ∙ go (table.may_act ts e.1) ∙ enabled
    where
      go : (b : Bool) → (b && true) ≡ b
      go true = refl
      go false = refl

  first_same : (es : List (Path × Entry)) (us : List (Path × m.Thread Inner)) → Paired c ts w.threads es us
      → option_map (λ (e : Entry). e.state.path) (table.first_ready ts es) ≡ orders.first_enabled w (map (λ (t : Path × m.Thread Inner). t.0) us)
  first_same [] [] h = refl
  first_same [] (t ∷ us) h = absurd h
  first_same (e ∷ es) [] h = absurd h
  first_same (e ∷ es) (t ∷ us) h =
      ap (λ b. option_map (λ (e : Entry). e.state.path) (cond b (Some e.1) (table.first_ready ts es))) (ready_same e t h.0)
      ∙ go (orders.is_enabled w (map.get w.threads t.0)) (first_same es us h.1)
    where
      go : (b : Bool) → option_map (λ (e : Entry). e.state.path) (table.first_ready ts es) ≡ orders.first_enabled w (map (λ (t : Path × m.Thread Inner). t.0) us)
          → option_map (λ (e : Entry). e.state.path) (cond b (Some e.1) (table.first_ready ts es)) ≡ cond b (Some t.0) (orders.first_enabled w (map (λ (t : Path × m.Thread Inner). t.0) us))
      go true rest = ap (λ p. Some p) (h.0.stands.path ∙ h.0.same)
      go false rest = rest

pub least_told : LeastIsTold
least_told c ts w s = record {
  next = next_is ts c w.threads (paired c ts w.threads s) (table.least_unmarked ts) refl;
  least = λ clean. first_same c ts w s clean (map.entries ts) (map.entries w.threads) (paired c ts w.threads s);
}
