-- Changes of a table that stands for threads, and of those threads.
use Rattle.std.proofs.Common.{◌≡◌, ◌<◌, [], Bool, true, false, cond, Option, Some, None, option_map, refl, sym, subst}
use Rattle.std.specs.FinMap as map
use Rattle.std.specs.Ordering.{eq_by_cmp}
use Rattle.bench_model.specs.Paths.{Path, path_cmp}
use Rattle.bench_model.specs.World as m
use Rattle.bench_model.specs.Orders.{root_thread}
use Rattle.tl_threads.specs.Threads.{Inner, root_of}
use Rattle.tl_code.specs.Compiled.{Compiled}
use Rattle.tl_code.specs.Codes.{IsCode, body_of_code, root_state}
use Rattle.tl_code.specs.Laws.{RootStateStands, RootOwnsChildren, StandingFits}
use Rattle.bench_threads.specs.declared.entry.Entry.{Entry}
use Rattle.bench_threads.specs.Shelves.{Threads}
use Rattle.bench_threads.specs.Tables.{started}
use Rattle.bench_threads.specs.Threads.{write, change, with_mark, unmarked}
use Rattle.bench_threads.proofs.Keyed.{path_total}
use Rattle.bench_threads.proofs.Houses.{get_change, get_all_changed}
use Rattle.bench_stands.specs.Standing.{EntryStands, StandsAt, TableStands}
use Rattle.bench_stands.specs.Laws.{FirstIsTold, EntriesFit, MarksAreUnseen}
use Rattle.bench_stands.proofs.Pairs.{moved, same_path}

get_written : (ts : Threads) (p : Path) (o : Option Entry) (q : Path) → map.get (write ts p o) q ≡ cond (eq_by_cmp path_cmp q p) o (map.get ts q)
get_written ts p None q = map.get-remove path_total ts p q
get_written ts p (Some e) q = map.get-insert path_total ts p e q

get_written_there : (ws : m.Threads Inner) (p : Path) (o : Option (m.Thread Inner)) (q : Path) → map.get (m.write ws p o) q ≡ cond (eq_by_cmp path_cmp q p) o (map.get ws q)
get_written_there ws p None q = map.get-remove path_total ws p q
get_written_there ws p (Some t) q = map.get-insert path_total ws p t q

module _ (c : Compiled) where
  -- changes of what stands at a path
  pub both_changed : (f : Entry → Entry) (g : m.Thread Inner → m.Thread Inner) (p : Path) → ((e : Entry) (t : m.Thread Inner) → EntryStands c p e t → EntryStands c p (f e) (g t))
      → (a : Option Entry) (b : Option (m.Thread Inner)) → StandsAt c p a b → StandsAt c p (option_map f a) (option_map g b)
  both_changed f g p keeps None None s = tt
  both_changed f g p keeps None (Some t) s = absurd s
  both_changed f g p keeps (Some e) None s = absurd s
  both_changed f g p keeps (Some e) (Some t) s = keeps e t s

  pub one_changed : (f : Entry → Entry) (p : Path) → ((e : Entry) (t : m.Thread Inner) → EntryStands c p e t → EntryStands c p (f e) t)
      → (a : Option Entry) (b : Option (m.Thread Inner)) → StandsAt c p a b → StandsAt c p (option_map f a) b
  one_changed f p keeps None None s = tt
  one_changed f p keeps None (Some t) s = absurd s
  one_changed f p keeps (Some e) None s = absurd s
  one_changed f p keeps (Some e) (Some t) s = keeps e t s

  -- THE SAME IS WRITTEN ON BOTH SIDES: an insertion, a removal, or a change
  pub written_stands : (ts : Threads) (ws : m.Threads Inner) → TableStands c ts ws → (p : Path) (a : Option Entry) (b : Option (m.Thread Inner)) → StandsAt c p a b
      → TableStands c (write ts p a) (m.write ws p b)
  written_stands ts ws s p a b new q =
      moved c q (cond (eq_by_cmp path_cmp q p) a (map.get ts q)) (map.get (write ts p a) q) (cond (eq_by_cmp path_cmp q p) b (map.get ws q)) (map.get (m.write ws p b) q)
      (sym (get_written ts p a q)) (sym (get_written_there ws p b q)) (go (eq_by_cmp path_cmp q p) refl)
    where
      go : (x : Bool) → eq_by_cmp path_cmp q p ≡ x → StandsAt c q (cond x a (map.get ts q)) (cond x b (map.get ws q))
      go true i = subst (λ (y : Path). StandsAt c y a b) (sym (same_path q p i)) new
      go false i = s q

  pub inserted_stands : (ts : Threads) (ws : m.Threads Inner) → TableStands c ts ws → (p : Path) (e : Entry) (t : m.Thread Inner) → EntryStands c p e t
      → TableStands c (map.insert ts p e) (map.insert ws p t)
  inserted_stands ts ws s p e t new = written_stands ts ws s p (Some e) (Some t) new

  pub removed_stands : (ts : Threads) (ws : m.Threads Inner) → TableStands c ts ws → (p : Path) → TableStands c (map.remove ts p) (map.remove ws p)
  removed_stands ts ws s p = written_stands ts ws s p None None tt

  pub changed_stands : (ts : Threads) (ws : m.Threads Inner) → TableStands c ts ws → (f : Entry → Entry) (g : m.Thread Inner → m.Thread Inner) (p : Path)
      → ((e : Entry) (t : m.Thread Inner) → EntryStands c p e t → EntryStands c p (f e) (g t))
      → TableStands c (change f ts p) (m.write ws p (option_map g (map.get ws p)))
  changed_stands ts ws s f g p keeps =
      written_stands ts ws s p (option_map f (map.get ts p)) (option_map g (map.get ws p)) (both_changed f g p keeps (map.get ts p) (map.get ws p) (s p))

  -- a change of the table alone
  pub own_change_stands : (ts : Threads) (ws : m.Threads Inner) → TableStands c ts ws → (f : Entry → Entry) (p : Path)
      → ((e : Entry) (t : m.Thread Inner) → EntryStands c p e t → EntryStands c p (f e) t) → TableStands c (change f ts p) ws
  own_change_stands ts ws s f p keeps q =
      moved c q (cond (eq_by_cmp path_cmp q p) (option_map f (map.get ts p)) (map.get ts q)) (map.get (change f ts p) q) (map.get ws q) (map.get ws q)
      (sym (get_change f ts p q)) refl (go (eq_by_cmp path_cmp q p) refl)
    where
      go : (x : Bool) → eq_by_cmp path_cmp q p ≡ x → StandsAt c q (cond x (option_map f (map.get ts p)) (map.get ts q)) (map.get ws q)
      go true i = subst (λ (y : Path). StandsAt c y (option_map f (map.get ts p)) (map.get ws y)) (sym (same_path q p i)) (one_changed f p keeps (map.get ts p) (map.get ws p) (s p))
      go false i = s q

  pub nothing_stands : TableStands c map.empty map.empty
  nothing_stands q =
      moved c q None (map.get (map.empty {X = Entry} {R = path_cmp}) q) None (map.get (map.empty {X = m.Thread Inner} {R = path_cmp}) q)
      (sym (map.get-empty path_cmp q)) (sym (map.get-empty path_cmp q)) tt

  -- ---- marks
  pub marked_stands : (marked : Bool) (p : Path) (e : Entry) (t : m.Thread Inner) → EntryStands c p e t → EntryStands c p (with_mark marked e) t
  marked_stands marked p e t s = record {
    path = s.path;
    region = s.region;
    mode = s.mode;
    inner = s.inner;
    forks = s.forks;
    acts = s.acts;
    joined = s.joined;
    children = s.children;
    joins_own = s.joins_own;
  }

pub marks_unseen : MarksAreUnseen
marks_unseen c ts ws s = record {
  one = λ marked p. own_change_stands c ts ws s (with_mark marked) p (marked_stands c marked p);
  none = λ q.
      moved c q (option_map (with_mark false) (map.get ts q)) (map.get (unmarked ts) q) (map.get ws q) (map.get ws q) (sym (get_all_changed (with_mark false) ts q)) refl
      (one_changed c (with_mark false) q (marked_stands c false q) (map.get ts q) (map.get ws q) (s q));
}

-- ---- single threads

-- the root thread at the beginning
root_entry : RootStateStands → RootOwnsChildren → (c : Compiled) → IsCode c → EntryStands c [] (started (root_state c)) (root_thread (root_of (body_of_code c)))
root_entry stands own c is = record {
  path = refl;
  region = refl;
  mode = refl;
  inner = stands c is;
  forks = refl;
  acts = refl;
  joined = refl;
  children = own c;
  joins_own = tt;
}

pub first_told : RootStateStands → RootOwnsChildren → FirstIsTold
first_told stands own c is = inserted_stands c map.empty map.empty (nothing_stands c) [] (started (root_state c)) (root_thread (root_of (body_of_code c))) (root_entry stands own c is)

pub entries_fit : StandingFits → EntriesFit
entries_fit fits c p e t s acts forks =
    fits c e.state t.inner s.inner s.children s.joins_own (subst (λ n. n < 4294967295) (sym s.acts) acts) (subst (λ n. n < 4294967295) (sym s.forks) forks)
