-- An edge, on a table and on the threads for which it stands.
use Rattle.std.proofs.Common.{ℕ, ◌-◌, Bool, true, false, cond, nat_le, is_some, option_map, refl, sym, subst}
use Rattle.std.specs.FinMap as map
use Rattle.bench_model.specs.Paths.{Path, path_cmp, child}
use Rattle.bench_model.specs.World as m
use Rattle.bench_model.specs.World.Mode.{running, at_join, at_edges, at_joinstep, spent}
use Rattle.bench_model.specs.Settle as settle
use Rattle.bench_model.proofs.SettleFacts.{get_map_values}
use Rattle.tl_threads.specs.Threads.{Inner}
use Rattle.tl_code.specs.Compiled.{Compiled}
use Rattle.bench_threads.specs.declared.entry.Entry.{Entry}
use Rattle.bench_threads.specs.declared.entry.Mode.TheVariants.{AtEdges}
use Rattle.bench_threads.specs.Shelves.{Threads}
use Rattle.bench_threads.specs.Threads as table
use Rattle.bench_threads.proofs.Houses.{get_all_changed}
use Rattle.bench_stands.specs.Standing.{mode_told, EntryStands, TableStands}
use Rattle.bench_stands.specs.Laws.{EdgeIsTold}
use Rattle.bench_stands.proofs.Pairs.{moved, same_path}
use Rattle.bench_stands.proofs.Updates.{both_changed}
use Rattle.bench_stands.proofs.Told.{there_told}

module _ (c : Compiled) where
  -- a thread that waits no more
  pub released_stands : (p : Path) (e : Entry) (t : m.Thread Inner) → EntryStands c p e t → EntryStands c p (table.released e) (settle.released t)
  released_stands p e t s = record {
    path = s.path;
    region = s.region;
    mode = refl;
    inner = s.inner;
    forks = s.forks;
    acts = s.acts;
    joined = refl;
    children = s.children;
    joins_own = tt;
  }

  -- a thread that waits for so many edges
  counts_stands : (p : Path) (e : Entry) (t : m.Thread Inner) (n : ℕ) → EntryStands c p e t → EntryStands c p (record e { mode = AtEdges n }) (record t { mode = at_edges n })
  counts_stands p e t n s = record {
    path = s.path;
    region = s.region;
    mode = refl;
    inner = s.inner;
    forks = s.forks;
    acts = s.acts;
    joined = s.joined;
    children = s.children;
    joins_own = s.joins_own;
  }

  module _ (ts : Threads) (ws : m.Threads Inner) (s : TableStands c ts ws) where
    ticked_by : (p : Path) (e : Entry) (t : m.Thread Inner) → EntryStands c p e t → (k : m.Mode) → EntryStands c p (table.tick_mode ts e (mode_told p k)) (settle.tick_mode ws p t k)
    ticked_by p e t x running = x
    ticked_by p e t x (at_join k) = x
    ticked_by p e t x (at_edges n) = go (nat_le n 1)
      where
        go : (b : Bool) → EntryStands c p (cond b (table.released e) (record e { mode = AtEdges (n - 1) })) (cond b (settle.released t) (record t { mode = at_edges (n - 1) }))
        go true = released_stands p e t x
        go false = counts_stands p e t (n - 1) x
    ticked_by p e t x (at_joinstep k) =
        subst (λ b. EntryStands c p (cond b e (table.released e)) (cond (is_some (map.get ws (child p k))) t (settle.released t)))
        (sym (there_told c (child p k) (map.get ts (child p k)) (map.get ws (child p k)) (s (child p k)))) (go (is_some (map.get ws (child p k))))
      where
        go : (b : Bool) → EntryStands c p (cond b e (table.released e)) (cond b t (settle.released t))
        go true = x
        go false = released_stands p e t x
    ticked_by p e t x (spent l) = x

    ticked : (p : Path) (e : Entry) (t : m.Thread Inner) → EntryStands c p e t → EntryStands c p (table.tick_mode ts e e.mode) (settle.tick_mode ws p t t.mode)
    ticked p e t x = subst (λ k. EntryStands c p (table.tick_mode ts e k) (settle.tick_mode ws p t t.mode)) (sym x.mode) (ticked_by p e t x t.mode)

pub edge_told : EdgeIsTold
edge_told c ts ws s p =
    moved c p (option_map (λ (e : Entry). table.tick_mode ts e e.mode) (map.get ts p)) (map.get (table.tick ts) p)
    (option_map (λ (t : m.Thread Inner). settle.tick_mode ws p t t.mode) (map.get ws p)) (map.get (settle.tick ws) p)
    (sym (get_all_changed (λ (e : Entry). table.tick_mode ts e e.mode) ts p))
    (sym (get_map_values path_cmp (λ (q : Path) (t : m.Thread Inner). settle.tick_mode ws q t t.mode) same_path ws p))
    (both_changed c (λ (e : Entry). table.tick_mode ts e e.mode) (λ (t : m.Thread Inner). settle.tick_mode ws p t t.mode) p (ticked c ts ws s p) (map.get ts p) (map.get ws p) (s p))
