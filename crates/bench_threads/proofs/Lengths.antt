-- No change makes more threads, so room that was taken stays.
use Rattle.std.proofs.Common.{◌≡◌, ℕ, ◌+◌, ◌-◌, ◌<◌, ◌≤◌, Bool, true, false, cond, is_some, Some, None, Option, option_map, refl, ap, ◌∙◌, arith}
use Rattle.std.specs.FinMap as map
use Rattle.bench_model.specs.Paths.{Path, path_cmp}
use Rattle.bench_model.specs.Settle.{map_values}
use Rattle.bench_threads.specs.declared.entry.Entry.{Entry}
use Rattle.bench_threads.specs.Shelves.{Threads, Shelved}
use Rattle.bench_threads.specs.Threads.{write, change}
use Rattle.bench_threads.proofs.Keyed.{path_total}
use Rattle.bench_threads.proofs.Houses.{len_all_changed}

removed_le : (t : Threads) (p : Path) → map.len (map.remove t p) ≤ map.len t
removed_le t p = go (map.contains_key t p) (map.len (map.remove t p)) (map.len-remove path_total t p)
  where
    go : (b : Bool) (n : ℕ) → n ≡ cond b (map.len t - 1) (map.len t) → n ≤ map.len t
    go true n e = omega arith
    go false n e = omega arith

put_le : (t : Threads) (p : Path) (e : Entry) → is_some (map.get t p) ≡ true → map.len (map.insert t p e) ≤ map.len t
put_le t p e there = let n : map.len (map.insert t p e) ≡ map.len t = map.len-insert path_total t p e ∙ ap (λ b. cond b (map.len t) (map.len t + 1)) there in omega arith

changed_le : (f : Entry → Entry) (t : Threads) (p : Path) → map.len (change f t p) ≤ map.len t
changed_le f t p = go (map.get t p) refl
  where
    go : (o : Option Entry) → map.get t p ≡ o → map.len (write t p (option_map f o)) ≤ map.len t
    go None e = removed_le t p
    go (Some x) e = put_le t p (f x) (ap is_some e)

-- the invariant of a table, after a change of its threads
kept : (b : Bool) (s s' : Shelved) (t : Threads) → (b ≡ true → map.len s.threads < s.room) → s'.threads ≡ t → map.len t ≤ map.len s.threads → s'.room ≡ s.room → b ≡ true → map.len s'.threads < s'.room
kept b s s' t h is le room on = let less = h on in let same = ap map.len is in omega arith

pub ready_removed : (b : Bool) (s s' : Shelved) (p : Path) → (b ≡ true → map.len s.threads < s.room) → s'.threads ≡ map.remove s.threads p → s'.room ≡ s.room → b ≡ true → map.len s'.threads < s'.room
ready_removed b s s' p h is room = kept b s s' (map.remove s.threads p) h is (removed_le s.threads p) room

pub ready_put : (b : Bool) (s s' : Shelved) (p : Path) (e : Entry) → is_some (map.get s.threads p) ≡ true → (b ≡ true → map.len s.threads < s.room) → s'.threads ≡ map.insert s.threads p e → s'.room ≡ s.room → b ≡ true → map.len s'.threads < s'.room
ready_put b s s' p e there h is room = kept b s s' (map.insert s.threads p e) h is (put_le s.threads p e there) room

pub ready_changed : (f : Entry → Entry) (b : Bool) (s s' : Shelved) (p : Path) → (b ≡ true → map.len s.threads < s.room) → s'.threads ≡ change f s.threads p → s'.room ≡ s.room → b ≡ true → map.len s'.threads < s'.room
ready_changed f b s s' p h is room = kept b s s' (change f s.threads p) h is (changed_le f s.threads p) room

pub ready_all : (f : Entry → Entry) (b : Bool) (s s' : Shelved) → (b ≡ true → map.len s.threads < s.room) → s'.threads ≡ map_values path_cmp (λ p e. f e) s.threads → s'.room ≡ s.room → b ≡ true → map.len s'.threads < s'.room
ready_all f b s s' h is room = let n = len_all_changed f s.threads in kept b s s' (map_values path_cmp (λ p e. f e) s.threads) h is (omega arith) room
