-- Three maps that share out the threads of one: those that run, region by region, and those that wait.
use Rattle.std.proofs.Common.{◌≡◌, ℕ, zero, suc, ◌+◌, ◌-◌, ◌<◌, ◌≤◌, min, map, T, ◌&&◌, is_some, option_map, List, [], ◌∷◌, ◌++◌, length, Bool, true, false, cond, Some, None, Option, refl, sym, ap, subst, ◌∙◌, arith}
use Rattle.std.specs.FinMap as map
use Rattle.std.specs.FinMap.{find, is_sorted}
use Rattle.std.specs.FinMap.Entries.{below_all}
use Rattle.bench_model.specs.Settle.{map_values}
use Rattle.std.specs.Ordering.{eq_by_cmp, is_eq, is_lt}
use Rattle.std.specs.Cmp.{tied_itself}
use Rattle.std.specs.Option.{IfSome, IfNone}
use Rattle.bench_model.specs.Paths.{Path, path_cmp}
use Rattle.bench_threads.specs.declared.entry.Entry.{Entry}
use Rattle.bench_threads.specs.declared.entry.Queue.{Queue}
use Rattle.bench_threads.specs.declared.entry.Queue.TheVariants.{Drivers, Monitors, Waiting}
use Rattle.bench_threads.specs.Shelves.{Threads, Shelved}
use Rattle.bench_threads.specs.Queues.{queue_of, is_queue}
use Rattle.bench_threads.specs.Threads.{write, change}
use Rattle.bench_threads.specs.Houses.{all, keep, Holds, Houses, room_in, Shared}
use Rattle.bench_threads.proofs.Keyed.{path_total, same_threads, get_alike}
use Rattle.bench_threads.proofs.Submap.{passing, passed, entries_passed}

-- the first that is there
first_of : Option Entry → Option Entry → Option Entry
first_of None o = o
first_of (Some e) o = Some e

find_joined : (q : Path) (xs ys : List (Path × Entry)) → find path_cmp q (xs ++ ys) ≡ first_of (find path_cmp q xs) (find path_cmp q ys)
unfolding first_of
find_joined q [] ys = refl
find_joined q (x ∷ xs) ys =
    elim (eq_by_cmp path_cmp q x.0) as (λ b. cond b (Some x.1) (find path_cmp q (xs ++ ys)) ≡ first_of (cond b (Some x.1) (find path_cmp q xs)) (find path_cmp q ys)) [ true ↦ refl | false ↦ find_joined q xs ys ]

get_all : (d m w : Threads) (q : Path) → map.get (all d m w) q ≡ first_of (map.get d q) (first_of (map.get m q) (map.get w q))
get_all d m w q =
    map.get-from_entries path_total (map.entries d ++ (map.entries m ++ map.entries w)) q
    ∙ find_joined q (map.entries d) (map.entries m ++ map.entries w)
    ∙ ap (first_of (find path_cmp q (map.entries d))) (find_joined q (map.entries m) (map.entries w))
    ∙ ap (λ o. first_of o (first_of (find path_cmp q (map.entries m)) (find path_cmp q (map.entries w)))) (sym (map.get-entries d q))
    ∙ ap (λ o. first_of (map.get d q) (first_of o (find path_cmp q (map.entries w)))) (sym (map.get-entries m q))
    ∙ ap (λ o. first_of (map.get d q) (first_of (map.get m q) o)) (sym (map.get-entries w q))

shared : (o : Option Entry) → first_of (keep Drivers o) (first_of (keep Monitors o) (keep Waiting o)) ≡ o
unfolding first_of
shared None = refl
shared (Some e) =
    elim (queue_of e) as (λ k. first_of (cond (is_queue Drivers k) (Some e) None) (first_of (cond (is_queue Monitors k) (Some e) None) (cond (is_queue Waiting k) (Some e) None)) ≡ Some e) [
      | Drivers ↦ refl
      | Monitors ↦ refl
      | Waiting ↦ refl
    ]

-- what three maps share out is what they have together
pub all_is : (t d m w : Threads) → Houses t d m w → all d m w ≡ t
all_is t d m w h = same_threads _ _ (λ q.
    get_all d m w q
    ∙ ap (λ o. first_of o (first_of (map.get m q) (map.get w q))) (h.drivers.at q)
    ∙ ap (λ o. first_of (keep Drivers (map.get t q)) (first_of o (map.get w q))) (h.monitors.at q)
    ∙ ap (λ o. first_of (keep Drivers (map.get t q)) (first_of (keep Monitors (map.get t q)) o)) (h.waiting.at q)
    ∙ shared (map.get t q))

pub housed : (t d m w : Threads) → Houses t d m w → Houses (all d m w) d m w
housed t d m w h = subst (λ u. Houses u d m w) (sym (all_is t d m w h)) h

-- ---- one map after a change

kept_cond : (a : Queue) (b : Bool) (o p : Option Entry) → cond b (keep a o) (keep a p) ≡ keep a (cond b o p)
kept_cond a true o p = refl
kept_cond a false o p = refl

pub holds_remove : (a : Queue) (t s : Threads) (p : Path) → Holds a t s → Holds a (map.remove t p) (map.remove s p)
holds_remove a t s p h = record {
  at = λ q.
      map.get-remove path_total s p q ∙ ap (cond (eq_by_cmp path_cmp q p) None) (h.at q) ∙ kept_cond a (eq_by_cmp path_cmp q p) None (map.get t q)
      ∙ ap (keep a) (sym (map.get-remove path_total t p q));
}

pub holds_insert : (a : Queue) (t s : Threads) (p : Path) (e : Entry) → Holds a t s → is_queue a (queue_of e) ≡ true → Holds a (map.insert t p e) (map.insert s p e)
holds_insert a t s p e h is = record {
  at = λ q.
      let same : Some e ≡ keep a (Some e) = sym (ap (λ b. cond b (Some e) None) is) in
      map.get-insert path_total s p e q ∙ ap (cond (eq_by_cmp path_cmp q p) (Some e)) (h.at q) ∙ ap (λ o. cond (eq_by_cmp path_cmp q p) o (keep a (map.get t q))) same
      ∙ kept_cond a (eq_by_cmp path_cmp q p) (Some e) (map.get t q)
      ∙ ap (keep a) (sym (map.get-insert path_total t p e q));
}

-- the map of another queue, which has no thread of this path
pub holds_beside : (a : Queue) (t s : Threads) (p : Path) (e : Entry) → Holds a t s → is_queue a (queue_of e) ≡ false → map.get s p ≡ None → Holds a (map.insert t p e) s
holds_beside a t s p e h is none = record {
  at = λ q. go q (eq_by_cmp path_cmp q p) refl ∙ ap (keep a) (sym (map.get-insert path_total t p e q));
}
  where
    go : (q : Path) (b : Bool) → eq_by_cmp path_cmp q p ≡ b → map.get s q ≡ keep a (cond b (Some e) (map.get t q))
    go q true i = get_alike s p q i ∙ none ∙ sym (ap (λ b. cond b (Some e) None) is)
    go q false i = h.at q

keep_passing : (a : Queue) (o : Option Entry) → keep a o ≡ passing (λ e. is_queue a (queue_of e)) o
keep_passing a None = refl
keep_passing a (Some e) = refl

pub held : (a : Queue) (t s : Threads) → Holds a t s → map.entries s ≡ passed (λ e. is_queue a (queue_of e)) (map.entries t)
held a t s h = entries_passed (λ e. is_queue a (queue_of e)) s t (λ q. h.at q ∙ keep_passing a (map.get t q))

-- each thread stands in one of them
shared_out : (es : List (Path × Entry)) → length es ≡ length (passed (λ e. is_queue Drivers (queue_of e)) es) + (length (passed (λ e. is_queue Monitors (queue_of e)) es) + length (passed (λ e. is_queue Waiting (queue_of e)) es))
shared_out [] = refl
shared_out (e ∷ es) =
    let d = passed (λ e. is_queue Drivers (queue_of e)) es in
    let m = passed (λ e. is_queue Monitors (queue_of e)) es in
    let w = passed (λ e. is_queue Waiting (queue_of e)) es in
    let rest : length es ≡ length d + (length m + length w) = shared_out es in
    elim (queue_of e.1) as (λ k. suc (length es) ≡ length (cond (is_queue Drivers k) (e ∷ d) d) + (length (cond (is_queue Monitors k) (e ∷ m) m) + length (cond (is_queue Waiting k) (e ∷ w) w))) [
      | Drivers ↦ omega arith
      | Monitors ↦ omega arith
      | Waiting ↦ omega arith
    ]

pub lengths : (t d m w : Threads) → Houses t d m w → map.len t ≡ map.len d + (map.len m + map.len w)
lengths t d m w h =
    let a : map.len d ≡ length (passed (λ e. is_queue Drivers (queue_of e)) (map.entries t)) = map.len-entries d ∙ ap length (held Drivers t d h.drivers) in
    let b : map.len m ≡ length (passed (λ e. is_queue Monitors (queue_of e)) (map.entries t)) = map.len-entries m ∙ ap length (held Monitors t m h.monitors) in
    let c : map.len w ≡ length (passed (λ e. is_queue Waiting (queue_of e)) (map.entries t)) = map.len-entries w ∙ ap length (held Waiting t w h.waiting) in
    let n : map.len t ≡ length (map.entries t) = map.len-entries t in
    let s = shared_out (map.entries t) in
    omega arith

-- ---- three shelves after a change

-- three shelves that share out these threads, with so much room
pub record After (d m w : Shelved) (t : Threads) (n : ℕ) : Type 0 where
  pub shared : Shared d m w
  pub is : all d.threads m.threads w.threads ≡ t
  pub room : room_in d m w ≡ n

-- a thread that stands in one queue stands in no other
only_drivers : (o : Option Entry) (e : Entry) → keep Drivers o ≡ Some e → (keep Monitors o ≡ None) × (keep Waiting o ≡ None)
only_drivers None e h = (refl, refl)
only_drivers (Some f) e h =
    elim (queue_of f) as (λ k. cond (is_queue Drivers k) (Some f) None ≡ Some e → (cond (is_queue Monitors k) (Some f) None ≡ None) × (cond (is_queue Waiting k) (Some f) None ≡ None)) [
      | Drivers ↦ λ g. (refl, refl)
      | Monitors ↦ λ g. cc
      | Waiting ↦ λ g. cc
    ] h

only_monitors : (o : Option Entry) (e : Entry) → keep Monitors o ≡ Some e → (keep Drivers o ≡ None) × (keep Waiting o ≡ None)
only_monitors None e h = (refl, refl)
only_monitors (Some f) e h =
    elim (queue_of f) as (λ k. cond (is_queue Monitors k) (Some f) None ≡ Some e → (cond (is_queue Drivers k) (Some f) None ≡ None) × (cond (is_queue Waiting k) (Some f) None ≡ None)) [
      | Drivers ↦ λ g. cc
      | Monitors ↦ λ g. (refl, refl)
      | Waiting ↦ λ g. cc
    ] h

only_waiting : (o : Option Entry) (e : Entry) → keep Waiting o ≡ Some e → (keep Drivers o ≡ None) × (keep Monitors o ≡ None)
only_waiting None e h = (refl, refl)
only_waiting (Some f) e h =
    elim (queue_of f) as (λ k. cond (is_queue Waiting k) (Some f) None ≡ Some e → (cond (is_queue Drivers k) (Some f) None ≡ None) × (cond (is_queue Monitors k) (Some f) None ≡ None)) [
      | Drivers ↦ λ g. cc
      | Monitors ↦ λ g. cc
      | Waiting ↦ λ g. (refl, refl)
    ] h

-- what is kept is there
was_there : (a : Queue) (o : Option Entry) (e : Entry) → keep a o ≡ Some e → is_some o ≡ true
was_there a None e h = cc
was_there a (Some f) e h = refl

module _ (d m w s : Shelved) (view : record { threads = all d.threads m.threads w.threads; room = room_in d m w } ≡ s) (h : Shared d m w) where
  pub houses_seen : Houses s.threads d.threads m.threads w.threads
  houses_seen = subst (λ (x : Shelved). Houses x.threads d.threads m.threads w.threads) view h.houses

  pub room_seen : map.len s.threads ≤ s.room
  room_seen = subst (λ (x : Shelved). map.len x.threads ≤ x.room) view h.room

  pub len_parts : map.len s.threads ≡ map.len d.threads + (map.len m.threads + map.len w.threads)
  len_parts = lengths s.threads d.threads m.threads w.threads houses_seen

  pub room_is : room_in d m w ≡ s.room
  room_is = ap (λ (x : Shelved). x.room) view

  -- room for one more is room on each shelf
  pub has_room : map.len s.threads < s.room → (map.len d.threads < d.room) × (map.len m.threads < m.room) × (map.len w.threads < w.room)
  has_room lt = let e = len_parts in let r : min d.room (min m.room w.room) ≡ s.room = room_is in (omega arith, omega arith, omega arith)

  pub after : (d' m' w' : Shelved) (t : Threads) → Houses t d'.threads m'.threads w'.threads → d'.room ≡ d.room → m'.room ≡ m.room → w'.room ≡ w.room → map.len t ≤ s.room → After d' m' w' t s.room
  after d' m' w' t g a b c le =
      let same : room_in d' m' w' ≡ s.room = ap (λ x. min x (min m'.room w'.room)) a ∙ ap (λ x. min d.room (min x w'.room)) b ∙ ap (λ x. min d.room (min m.room x)) c ∙ room_is in
      let is = all_is t d'.threads m'.threads w'.threads g in
      record {
        shared = record {
          houses = housed t d'.threads m'.threads w'.threads g;
          room = subst (λ x. map.len x ≤ room_in d' m' w') (sym is) (subst (λ x. map.len t ≤ x) (sym same) le);
        };
        is = is;
        room = same;
      }

  less_removed : (p : Path) → map.len (map.remove s.threads p) ≤ s.room
  less_removed p = let e = map.len-remove path_total s.threads p in let r = room_seen in go (map.contains_key s.threads p) (map.len (map.remove s.threads p)) e r
    where
      go : (b : Bool) (n : ℕ) → n ≡ cond b (map.len s.threads - 1) (map.len s.threads) → map.len s.threads ≤ s.room → n ≤ s.room
      go true n e r = omega arith
      go false n e r = omega arith

  -- a thread is taken out of each
  pub taken : (d' m' w' : Shelved) (p : Path) → d'.threads ≡ map.remove d.threads p → m'.threads ≡ map.remove m.threads p → w'.threads ≡ map.remove w.threads p
      → d'.room ≡ d.room → m'.room ≡ m.room → w'.room ≡ w.room → After d' m' w' (map.remove s.threads p) s.room
  taken d' m' w' p a b c x y z = after d' m' w' (map.remove s.threads p) (record {
    drivers = subst (Holds Drivers (map.remove s.threads p)) (sym a) (holds_remove Drivers s.threads d.threads p houses_seen.drivers);
    monitors = subst (Holds Monitors (map.remove s.threads p)) (sym b) (holds_remove Monitors s.threads m.threads p houses_seen.monitors);
    waiting = subst (Holds Waiting (map.remove s.threads p)) (sym c) (holds_remove Waiting s.threads w.threads p houses_seen.waiting);
  }) x y z (less_removed p)

  pub not_in : (p : Path) → map.get s.threads p ≡ None → (map.get d.threads p ≡ None) × (map.get m.threads p ≡ None) × (map.get w.threads p ≡ None)
  not_in p none = (houses_seen.drivers.at p ∙ ap (keep Drivers) none, houses_seen.monitors.at p ∙ ap (keep Monitors) none, houses_seen.waiting.at p ∙ ap (keep Waiting) none)

  pub in_drivers : (p : Path) (e : Entry) → map.get d.threads p ≡ Some e → (map.get m.threads p ≡ None) × (map.get w.threads p ≡ None) × (is_some (map.get s.threads p) ≡ true)
  in_drivers p e is =
      let kept = sym (houses_seen.drivers.at p) ∙ is in
      let o = only_drivers (map.get s.threads p) e kept in
      (houses_seen.monitors.at p ∙ o.0, houses_seen.waiting.at p ∙ o.1, was_there Drivers (map.get s.threads p) e kept)

  pub in_monitors : (p : Path) (e : Entry) → map.get m.threads p ≡ Some e → (map.get d.threads p ≡ None) × (map.get w.threads p ≡ None) × (is_some (map.get s.threads p) ≡ true)
  in_monitors p e is =
      let kept = sym (houses_seen.monitors.at p) ∙ is in
      let o = only_monitors (map.get s.threads p) e kept in
      (houses_seen.drivers.at p ∙ o.0, houses_seen.waiting.at p ∙ o.1, was_there Monitors (map.get s.threads p) e kept)

  pub in_waiting : (p : Path) (e : Entry) → map.get w.threads p ≡ Some e → (map.get d.threads p ≡ None) × (map.get m.threads p ≡ None) × (is_some (map.get s.threads p) ≡ true)
  in_waiting p e is =
      let kept = sym (houses_seen.waiting.at p) ∙ is in
      let o = only_waiting (map.get s.threads p) e kept in
      (houses_seen.drivers.at p ∙ o.0, houses_seen.monitors.at p ∙ o.1, was_there Waiting (map.get s.threads p) e kept)

  -- a new thread is put in, or one is put in the place of the one with its path
  one_more : (p : Path) (e : Entry) → map.len s.threads < s.room → map.len (map.insert s.threads p e) ≤ s.room
  one_more p e lt = go (map.contains_key s.threads p) (map.len (map.insert s.threads p e)) (map.len-insert path_total s.threads p e)
    where
      go : (b : Bool) (n : ℕ) → n ≡ cond b (map.len s.threads) (map.len s.threads + 1) → n ≤ s.room
      go true n i = omega arith
      go false n i = omega arith

  as_many : (p : Path) (e : Entry) → is_some (map.get s.threads p) ≡ true → map.len (map.insert s.threads p e) ≤ s.room
  as_many p e there = let r = room_seen in let n : map.len (map.insert s.threads p e) ≡ map.len s.threads = map.len-insert path_total s.threads p e ∙ ap (λ b. cond b (map.len s.threads) (map.len s.threads + 1)) there in omega arith

  put_drivers : (d' : Shelved) (p : Path) (e : Entry) → queue_of e ≡ Drivers → map.get m.threads p ≡ None → map.get w.threads p ≡ None → map.len (map.insert s.threads p e) ≤ s.room
      → d'.threads ≡ map.insert d.threads p e → d'.room ≡ d.room → After d' m w (map.insert s.threads p e) s.room
  put_drivers d' p e q x y le a r = after d' m w (map.insert s.threads p e) (record {
    drivers = subst (Holds Drivers (map.insert s.threads p e)) (sym a) (holds_insert Drivers s.threads d.threads p e houses_seen.drivers (ap (is_queue Drivers) q));
    monitors = holds_beside Monitors s.threads m.threads p e houses_seen.monitors (ap (is_queue Monitors) q) x;
    waiting = holds_beside Waiting s.threads w.threads p e houses_seen.waiting (ap (is_queue Waiting) q) y;
  }) r refl refl le

  put_monitors : (m' : Shelved) (p : Path) (e : Entry) → queue_of e ≡ Monitors → map.get d.threads p ≡ None → map.get w.threads p ≡ None → map.len (map.insert s.threads p e) ≤ s.room
      → m'.threads ≡ map.insert m.threads p e → m'.room ≡ m.room → After d m' w (map.insert s.threads p e) s.room
  put_monitors m' p e q x y le a r = after d m' w (map.insert s.threads p e) (record {
    drivers = holds_beside Drivers s.threads d.threads p e houses_seen.drivers (ap (is_queue Drivers) q) x;
    monitors = subst (Holds Monitors (map.insert s.threads p e)) (sym a) (holds_insert Monitors s.threads m.threads p e houses_seen.monitors (ap (is_queue Monitors) q));
    waiting = holds_beside Waiting s.threads w.threads p e houses_seen.waiting (ap (is_queue Waiting) q) y;
  }) refl r refl le

  put_waiting : (w' : Shelved) (p : Path) (e : Entry) → queue_of e ≡ Waiting → map.get d.threads p ≡ None → map.get m.threads p ≡ None → map.len (map.insert s.threads p e) ≤ s.room
      → w'.threads ≡ map.insert w.threads p e → w'.room ≡ w.room → After d m w' (map.insert s.threads p e) s.room
  put_waiting w' p e q x y le a r = after d m w' (map.insert s.threads p e) (record {
    drivers = holds_beside Drivers s.threads d.threads p e houses_seen.drivers (ap (is_queue Drivers) q) x;
    monitors = holds_beside Monitors s.threads m.threads p e houses_seen.monitors (ap (is_queue Monitors) q) y;
    waiting = subst (Holds Waiting (map.insert s.threads p e)) (sym a) (holds_insert Waiting s.threads w.threads p e houses_seen.waiting (ap (is_queue Waiting) q));
  }) refl refl r le

  -- into a queue, where the path isn't there
  pub new_driver : (d' : Shelved) (p : Path) (e : Entry) → queue_of e ≡ Drivers → map.get s.threads p ≡ None → map.len s.threads < s.room
      → d'.threads ≡ map.insert d.threads p e → d'.room ≡ d.room → After d' m w (map.insert s.threads p e) s.room
  new_driver d' p e q none lt = put_drivers d' p e q (not_in p none).1 (not_in p none).2 (one_more p e lt)

  pub new_monitor : (m' : Shelved) (p : Path) (e : Entry) → queue_of e ≡ Monitors → map.get s.threads p ≡ None → map.len s.threads < s.room
      → m'.threads ≡ map.insert m.threads p e → m'.room ≡ m.room → After d m' w (map.insert s.threads p e) s.room
  new_monitor m' p e q none lt = put_monitors m' p e q (not_in p none).0 (not_in p none).2 (one_more p e lt)

  pub new_waiting : (w' : Shelved) (p : Path) (e : Entry) → queue_of e ≡ Waiting → map.get s.threads p ≡ None → map.len s.threads < s.room
      → w'.threads ≡ map.insert w.threads p e → w'.room ≡ w.room → After d m w' (map.insert s.threads p e) s.room
  new_waiting w' p e q none lt = put_waiting w' p e q (not_in p none).0 (not_in p none).1 (one_more p e lt)

  -- in the place of one that is there
  pub over_driver : (d' : Shelved) (p : Path) (e f : Entry) → queue_of e ≡ Drivers → map.get d.threads p ≡ Some f
      → d'.threads ≡ map.insert d.threads p e → d'.room ≡ d.room → After d' m w (map.insert s.threads p e) s.room
  over_driver d' p e f q is = let o = in_drivers p f is in put_drivers d' p e q o.0 o.1 (as_many p e o.2)

  pub over_monitor : (m' : Shelved) (p : Path) (e f : Entry) → queue_of e ≡ Monitors → map.get m.threads p ≡ Some f
      → m'.threads ≡ map.insert m.threads p e → m'.room ≡ m.room → After d m' w (map.insert s.threads p e) s.room
  over_monitor m' p e f q is = let o = in_monitors p f is in put_monitors m' p e q o.0 o.1 (as_many p e o.2)

  pub over_waiting : (w' : Shelved) (p : Path) (e f : Entry) → queue_of e ≡ Waiting → map.get w.threads p ≡ Some f
      → w'.threads ≡ map.insert w.threads p e → w'.room ≡ w.room → After d m w' (map.insert s.threads p e) s.room
  over_waiting w' p e f q is = let o = in_waiting p f is in put_waiting w' p e q o.0 o.1 (as_many p e o.2)

-- empty shelves share out nothing
pub nothing_shared : (d m w : Shelved) → d.threads ≡ map.empty → m.threads ≡ map.empty → w.threads ≡ map.empty → Shared d m w × (all d.threads m.threads w.threads ≡ map.empty)
nothing_shared d m w a b c =
    let g : Houses map.empty d.threads m.threads w.threads = record { drivers = none Drivers d.threads a; monitors = none Monitors m.threads b; waiting = none Waiting w.threads c } in
    let is = all_is map.empty d.threads m.threads w.threads g in
    (record { houses = housed map.empty d.threads m.threads w.threads g; room = let e : map.len (all d.threads m.threads w.threads) ≡ 0 = ap map.len is ∙ map.len-empty path_cmp Entry in omega arith }, is)
  where
    none : (a : Queue) (s : Threads) → s ≡ map.empty → Holds a map.empty s
    none a s e = record { at = λ q. ap (λ u. map.get u q) e ∙ map.get-empty path_cmp q ∙ ap (keep a) (sym (map.get-empty path_cmp q)) }

-- a thread that is found makes the map not empty
found_some : (t : Threads) (p : Path) (e : Entry) → map.get t p ≡ Some e → 0 < map.len t
found_some t p e is = go (map.len t) refl
  where
    go : (n : ℕ) → map.len t ≡ n → 0 < n
    go zero i = let none : map.get t p ≡ None = ap (λ (u : Threads). map.get u p) (map.empty_of_len t i) ∙ map.get-empty path_cmp p in let bad : Some e ≡ None = sym is ∙ none in absurd cc
    go (suc n) i = omega arith

pub fewer : (t : Threads) (p : Path) (e : Entry) (n : ℕ) → Some e ≡ map.get t p → map.len t ≤ n → map.len (map.remove t p) < n
fewer t p e n is le =
    let l : map.len (map.remove t p) ≡ map.len t - 1 = map.len-remove path_total t p ∙ ap (λ o. cond (is_some o) (map.len t - 1) (map.len t)) (sym is) in
    let some = found_some t p e (sym is) in
    omega arith

-- what was just taken out isn't there, and to put it in again is to replace it
pub get_removed : (t : Threads) (p : Path) → map.get (map.remove t p) p ≡ None
get_removed t p = map.get-remove path_total t p p ∙ ap (λ r. cond (is_eq r) None (map.get t p)) (tied_itself path_total p)

twice : {A : Type 0} (b : Bool) (x y z : A) → cond b x (cond b y z) ≡ cond b x z
twice true x y z = refl
twice false x y z = refl

pub insert_removed : (t : Threads) (p : Path) (e : Entry) → map.insert (map.remove t p) p e ≡ map.insert t p e
insert_removed t p e = same_threads _ _ (λ q.
    map.get-insert path_total (map.remove t p) p e q ∙ ap (cond (eq_by_cmp path_cmp q p) (Some e)) (map.get-remove path_total t p q)
    ∙ twice (eq_by_cmp path_cmp q p) (Some e) None (map.get t q) ∙ sym (map.get-insert path_total t p e q))

pub insert_same : (t : Threads) (p : Path) (e : Entry) → map.get t p ≡ Some e → map.insert t p e ≡ t
insert_same t p e is = same_threads _ _ (λ q. map.get-insert path_total t p e q ∙ go q (eq_by_cmp path_cmp q p) refl)
  where
    go : (q : Path) (b : Bool) → eq_by_cmp path_cmp q p ≡ b → cond b (Some e) (map.get t q) ≡ map.get t q
    go q true i = sym (get_alike t p q i ∙ is)
    go q false i = refl

-- a change of one thread, on the map that has it and on those that don't
pub get_change : (f : Entry → Entry) (t : Threads) (p q : Path) → map.get (change f t p) q ≡ cond (eq_by_cmp path_cmp q p) (option_map f (map.get t p)) (map.get t q)
get_change f t p q = go (map.get t p)
  where
    go : (o : Option Entry) → map.get (write t p (option_map f o)) q ≡ cond (eq_by_cmp path_cmp q p) (option_map f o) (map.get t q)
    go None = map.get-remove path_total t p q
    go (Some e) = map.get-insert path_total t p (f e) q

keep_changed : (a : Queue) (f : Entry → Entry) → ((e : Entry) → queue_of (f e) ≡ queue_of e) → (o : Option Entry) → option_map f (keep a o) ≡ keep a (option_map f o)
keep_changed a f same None = refl
keep_changed a f same (Some e) = go (is_queue a (queue_of e)) ∙ sym (ap (λ k. cond (is_queue a k) (Some (f e)) None) (same e))
  where
    go : (b : Bool) → option_map f (cond b (Some e) None) ≡ cond b (Some (f e)) None
    go true = refl
    go false = refl

holds_change : (a : Queue) (f : Entry → Entry) → ((e : Entry) → queue_of (f e) ≡ queue_of e) → (t s : Threads) (p : Path) → Holds a t s → Holds a (change f t p) (change f s p)
holds_change a f same t s p h = record {
  at = λ q.
      get_change f s p q ∙ ap (λ o. cond (eq_by_cmp path_cmp q p) (option_map f o) (map.get s q)) (h.at p) ∙ ap (cond (eq_by_cmp path_cmp q p) (option_map f (keep a (map.get t p)))) (h.at q)
      ∙ ap (λ o. cond (eq_by_cmp path_cmp q p) o (keep a (map.get t q))) (keep_changed a f same (map.get t p))
      ∙ kept_cond a (eq_by_cmp path_cmp q p) (option_map f (map.get t p)) (map.get t q)
      ∙ ap (keep a) (sym (get_change f t p q));
}

module _ (d m w s : Shelved) (view : record { threads = all d.threads m.threads w.threads; room = room_in d m w } ≡ s) (h : Shared d m w) where
  len_changed : (f : Entry → Entry) (p : Path) → map.len (change f s.threads p) ≤ s.room
  len_changed f p = go (map.get s.threads p) refl
    where
      go : (o : Option Entry) → map.get s.threads p ≡ o → map.len (write s.threads p (option_map f o)) ≤ s.room
      go None e = less_removed d m w s view h p
      go (Some x) e = as_many d m w s view h p (f x) (ap is_some e)

  -- one thread is changed on each
  pub changed_on_each : (f : Entry → Entry) → ((e : Entry) → queue_of (f e) ≡ queue_of e) → (d' m' w' : Shelved) (p : Path)
      → d'.threads ≡ change f d.threads p → m'.threads ≡ change f m.threads p → w'.threads ≡ change f w.threads p
      → d'.room ≡ d.room → m'.room ≡ m.room → w'.room ≡ w.room → After d' m' w' (change f s.threads p) s.room
  changed_on_each f same d' m' w' p a b c x y z =
      let g = houses_seen d m w s view h in
      after d m w s view h d' m' w' (change f s.threads p) (record {
        drivers = subst (Holds Drivers (change f s.threads p)) (sym a) (holds_change Drivers f same s.threads d.threads p g.drivers);
        monitors = subst (Holds Monitors (change f s.threads p)) (sym b) (holds_change Monitors f same s.threads m.threads p g.monitors);
        waiting = subst (Holds Waiting (change f s.threads p)) (sym c) (holds_change Waiting f same s.threads w.threads p g.waiting);
      }) x y z (len_changed f p)

  -- shelves with more room
  pub roomier : (d' m' w' : Shelved) → d'.threads ≡ d.threads → m'.threads ≡ m.threads → w'.threads ≡ w.threads → d.room ≤ d'.room → m.room ≤ m'.room → w.room ≤ w'.room
      → Shared d' m' w' × (all d'.threads m'.threads w'.threads ≡ s.threads) × (s.room ≤ room_in d' m' w')
  roomier d' m' w' a b c x y z =
      let g : Houses s.threads d'.threads m'.threads w'.threads = record {
        drivers = subst (Holds Drivers s.threads) (sym a) (houses_seen d m w s view h).drivers;
        monitors = subst (Holds Monitors s.threads) (sym b) (houses_seen d m w s view h).monitors;
        waiting = subst (Holds Waiting s.threads) (sym c) (houses_seen d m w s view h).waiting;
      } in
      let is = all_is s.threads d'.threads m'.threads w'.threads g in
      let r : min d.room (min m.room w.room) ≡ s.room = room_is d m w s view h in
      let more : s.room ≤ min d'.room (min m'.room w'.room) = omega arith in
      let few = room_seen d m w s view h in
      (record { houses = housed s.threads d'.threads m'.threads w'.threads g; room = subst (λ u. map.len u ≤ room_in d' m' w') (sym is) (omega arith) }, is, more)

  -- what a shelf answers where a thread is put in the place of the one with its path
  pub record Replaced (d' m' w' : Shelved) (r : Option Entry) (e : Entry) : Type 0 where
    pub shared : Shared d' m' w'
    pub kept : IfSome r (λ back. back ≡ e)
    pub same : IfSome r (λ _. all d'.threads m'.threads w'.threads ≡ s.threads)
    pub done : IfNone r (all d'.threads m'.threads w'.threads ≡ map.insert s.threads e.state.path e)
    pub spare : room_in d' m' w' ≡ s.room

  done_after : (d' m' w' : Shelved) (r : Option Entry) (e : Entry) → r ≡ None → After d' m' w' (map.insert s.threads e.state.path e) s.room → Replaced d' m' w' r e
  done_after d' m' w' r e none a = subst (λ o. Replaced d' m' w' o e) (sym none) (record { shared = a.shared; kept = tt; same = tt; done = a.is; spare = a.room })

  same_after : (d' m' w' : Shelved) (r : Option Entry) (e : Entry) → r ≡ Some e → After d' m' w' s.threads s.room → Replaced d' m' w' r e
  same_after d' m' w' r e some a = subst (λ o. Replaced d' m' w' o e) (sym some) (record { shared = a.shared; kept = refl; same = a.is; done = tt; spare = a.room })

  pub driver_replaced : (d' : Shelved) (r : Option Entry) (e : Entry) → queue_of e ≡ Drivers
      → r ≡ cond (is_some (map.get d.threads e.state.path)) None (Some e) → d'.threads ≡ cond (is_some (map.get d.threads e.state.path)) (map.insert d.threads e.state.path e) d.threads → d'.room ≡ d.room
      → Replaced d' m w r e
  driver_replaced d' r e q a b x = go (map.get d.threads e.state.path) refl a b
    where
      go : (o : Option Entry) → map.get d.threads e.state.path ≡ o → r ≡ cond (is_some o) None (Some e) → d'.threads ≡ cond (is_some o) (map.insert d.threads e.state.path e) d.threads → Replaced d' m w r e
      go None i u v = same_after d' m w r e u (after d m w s view h d' m w s.threads (subst (λ t. Houses s.threads t m.threads w.threads) (sym v) (houses_seen d m w s view h)) x refl refl (room_seen d m w s view h))
      go (Some f) i u v = done_after d' m w r e u (over_driver d m w s view h d' e.state.path e f q i v x)

  pub monitor_replaced : (m' : Shelved) (r : Option Entry) (e : Entry) → queue_of e ≡ Monitors
      → r ≡ cond (is_some (map.get m.threads e.state.path)) None (Some e) → m'.threads ≡ cond (is_some (map.get m.threads e.state.path)) (map.insert m.threads e.state.path e) m.threads → m'.room ≡ m.room
      → Replaced d m' w r e
  monitor_replaced m' r e q a b x = go (map.get m.threads e.state.path) refl a b
    where
      go : (o : Option Entry) → map.get m.threads e.state.path ≡ o → r ≡ cond (is_some o) None (Some e) → m'.threads ≡ cond (is_some o) (map.insert m.threads e.state.path e) m.threads → Replaced d m' w r e
      go None i u v = same_after d m' w r e u (after d m w s view h d m' w s.threads (subst (λ t. Houses s.threads d.threads t w.threads) (sym v) (houses_seen d m w s view h)) refl x refl (room_seen d m w s view h))
      go (Some f) i u v = done_after d m' w r e u (over_monitor d m w s view h m' e.state.path e f q i v x)

  pub waiting_replaced : (w' : Shelved) (r : Option Entry) (e : Entry) → queue_of e ≡ Waiting
      → r ≡ cond (is_some (map.get w.threads e.state.path)) None (Some e) → w'.threads ≡ cond (is_some (map.get w.threads e.state.path)) (map.insert w.threads e.state.path e) w.threads → w'.room ≡ w.room
      → Replaced d m w' r e
  waiting_replaced w' r e q a b x = go (map.get w.threads e.state.path) refl a b
    where
      go : (o : Option Entry) → map.get w.threads e.state.path ≡ o → r ≡ cond (is_some o) None (Some e) → w'.threads ≡ cond (is_some o) (map.insert w.threads e.state.path e) w.threads → Replaced d m w' r e
      go None i u v = same_after d m w' r e u (after d m w s view h d m w' s.threads (subst (λ t. Houses s.threads d.threads m.threads t) (sym v) (houses_seen d m w s view h)) refl refl x (room_seen d m w s view h))
      go (Some f) i u v = done_after d m w' r e u (over_waiting d m w s view h w' e.state.path e f q i v x)

pub kept_is : (a : Queue) (o : Option Entry) (e : Entry) → keep a o ≡ Some e → o ≡ Some e
kept_is a None e h = cc
kept_is a (Some f) e h = go (is_queue a (queue_of f)) h
  where
    go : (b : Bool) → cond b (Some f) None ≡ Some e → Some f ≡ Some e
    go true i = i
    go false i = cc

module _ (d m w s : Shelved) (view : record { threads = all d.threads m.threads w.threads; room = room_in d m w } ≡ s) (h : Shared d m w) where
  -- what is taken out leaves room for one
  pub left_room : (a : Queue) (x : Threads) (d' m' w' : Shelved) (p : Path) (r : Option Entry) → Holds a s.threads x → r ≡ map.get x p → After d' m' w' (map.remove s.threads p) s.room
      → IfSome r (λ _. map.len (all d'.threads m'.threads w'.threads) < room_in d' m' w')
  left_room a x d' m' w' p None g is f = tt
  left_room a x d' m' w' p (Some e) g is f =
      let there : Some e ≡ map.get s.threads p = sym (kept_is a (map.get s.threads p) e (sym (g.at p) ∙ sym is)) in
      let less = fewer s.threads p e s.room there (room_seen d m w s view h) in
      subst (λ n. map.len (all d'.threads m'.threads w'.threads) < n) (sym f.room) (subst (λ u. map.len u < s.room) (sym f.is) less)

-- ---- all threads changed

find_all : (f : Entry → Entry) (q : Path) (es : List (Path × Entry)) → find path_cmp q (map {B = Path × Entry} (λ (e : Path × Entry). (e.0, f e.1)) es) ≡ option_map f (find path_cmp q es)
find_all f q [] = refl
find_all f q (e ∷ es) = go (eq_by_cmp path_cmp q e.0) (find_all f q es)
  where
    go : (b : Bool) → find path_cmp q (map {B = Path × Entry} (λ (e : Path × Entry). (e.0, f e.1)) es) ≡ option_map f (find path_cmp q es)
        → cond b (Some (f e.1)) (find path_cmp q (map {B = Path × Entry} (λ (e : Path × Entry). (e.0, f e.1)) es)) ≡ option_map f (cond b (Some e.1) (find path_cmp q es))
    go true ih = refl
    go false ih = ih

below_all_changed : (f : Entry → Entry) (p : Path) (es : List (Path × Entry)) → below_all path_cmp p (map {B = Path × Entry} (λ (e : Path × Entry). (e.0, f e.1)) es) ≡ below_all path_cmp p es
below_all_changed f p [] = refl
below_all_changed f p (e ∷ es) = ap (λ b. is_lt (path_cmp p e.0) && b) (below_all_changed f p es)

sorted_all_changed : (f : Entry → Entry) (es : List (Path × Entry)) → is_sorted path_cmp (map {B = Path × Entry} (λ (e : Path × Entry). (e.0, f e.1)) es) ≡ is_sorted path_cmp es
sorted_all_changed f [] = refl
sorted_all_changed f (e ∷ es) =
    ap (λ b. b && is_sorted path_cmp (map {B = Path × Entry} (λ (e : Path × Entry). (e.0, f e.1)) es)) (below_all_changed f e.0 es) ∙ ap (λ b. below_all path_cmp e.0 es && b) (sorted_all_changed f es)

pub get_all_changed : (f : Entry → Entry) (t : Threads) (q : Path) → map.get (map_values path_cmp (λ p e. f e) t) q ≡ option_map f (map.get t q)
get_all_changed f t q =
    map.get-from_sorted path_cmp (map {B = Path × Entry} (λ (e : Path × Entry). (e.0, f e.1)) (map.entries t)) q (subst T (sym (sorted_all_changed f (map.entries t))) (map.entries_sorted t))
    ∙ find_all f q (map.entries t) ∙ ap (option_map f) (sym (map.get-entries t q))

length_map : (f : Path × Entry → Path × Entry) (es : List (Path × Entry)) → length (map f es) ≡ length es
length_map f [] = refl
length_map f (e ∷ es) = ap suc (length_map f es)

pub len_all_changed : (f : Entry → Entry) (t : Threads) → map.len (map_values path_cmp (λ p e. f e) t) ≡ map.len t
len_all_changed f t =
    map.len-entries (map_values path_cmp (λ p e. f e) t)
    ∙ ap length (map.entries-from_sorted path_cmp (map {B = Path × Entry} (λ (e : Path × Entry). (e.0, f e.1)) (map.entries t)) (subst T (sym (sorted_all_changed f (map.entries t))) (map.entries_sorted t)))
    ∙ length_map (λ (e : Path × Entry). (e.0, f e.1)) (map.entries t) ∙ sym (map.len-entries t)

holds_all : (a : Queue) (f : Entry → Entry) → ((e : Entry) → queue_of (f e) ≡ queue_of e) → (t s u : Threads) → u ≡ map_values path_cmp (λ p e. f e) s → Holds a t s → Holds a (map_values path_cmp (λ p e. f e) t) u
holds_all a f same t s u is h = record {
  at = λ q. ap (λ x. map.get x q) is ∙ get_all_changed f s q ∙ ap (option_map f) (h.at q) ∙ keep_changed a f same (map.get t q) ∙ ap (keep a) (sym (get_all_changed f t q));
}

module _ (d m w s : Shelved) (view : record { threads = all d.threads m.threads w.threads; room = room_in d m w } ≡ s) (h : Shared d m w) where
  pub all_on_each : (f : Entry → Entry) → ((e : Entry) → queue_of (f e) ≡ queue_of e) → (d' m' w' : Shelved)
      → d'.threads ≡ map_values path_cmp (λ p e. f e) d.threads → m'.threads ≡ map_values path_cmp (λ p e. f e) m.threads → w'.threads ≡ map_values path_cmp (λ p e. f e) w.threads
      → d'.room ≡ d.room → m'.room ≡ m.room → w'.room ≡ w.room → After d' m' w' (map_values path_cmp (λ p e. f e) s.threads) s.room
  all_on_each f same d' m' w' a b c x y z =
      let g = houses_seen d m w s view h in
      after d m w s view h d' m' w' (map_values path_cmp (λ p e. f e) s.threads) (record {
        drivers = holds_all Drivers f same s.threads d.threads d'.threads a g.drivers;
        monitors = holds_all Monitors f same s.threads m.threads m'.threads b g.monitors;
        waiting = holds_all Waiting f same s.threads w.threads w'.threads c g.waiting;
      }) x y z (let n = len_all_changed f s.threads in let r = room_seen d m w s view h in omega arith)
