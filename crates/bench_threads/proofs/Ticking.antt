-- An edge, thread by thread: from the last of those that wait to the first.
use Rattle.std.proofs.Common.{◌≡◌, ℕ, zero, suc, ◌-◌, ◌<◌, ◌≤◌, List, [], ◌∷◌, length, get_or, set, take, Bool, true, false, cond, nat_le, is_some, Some, None, Option, option_map, refl, sym, ap, subst, ◌∙◌, arith, ◌⊎◌, inl, inr, ⊎_elim, length-take}
use Rattle.std.specs.List.{remove}
use Rattle.std.specs.FinMap as map
use Rattle.std.specs.Ordering.{eq_by_cmp, is_eq}
use Rattle.std.specs.Cmp.{tied_itself}
use Rattle.std.proofs.lemmas.Bool.{cases_lt}
use Rattle.std.specs.declared.cmp.Ordering.{Ordering}
use Rattle.std.specs.declared.cmp.Ordering.TheVariants.{Less, Equal, Greater}
use Rattle.tb_base.specs.declared.path.Region.{Region}
use Rattle.tb_base.specs.declared.path.Region.TheVariants.{Main, Monitor}
use Rattle.bench_model.specs.Paths.{Path, path_cmp}
use Rattle.bench_threads.specs.declared.entry.Entry.{Entry}
use Rattle.bench_threads.specs.declared.entry.Edge.TheVariants.{Stays, Counts, LetGo}
use Rattle.bench_threads.specs.declared.entry.Mode.{Mode}
use Rattle.bench_threads.specs.declared.entry.Mode.TheVariants.{Running, AtJoin, AtEdges, AtJoinStep, Spent}
use Rattle.bench_threads.specs.declared.entry.Queue.TheVariants.{Waiting}
use Rattle.bench_threads.specs.Shelves.{Threads, Shelved, Listed}
use Rattle.bench_threads.specs.Queues.{queue_of, queue_for, running_in, is_waiting, waiting_of}
use Rattle.bench_threads.specs.Houses.{all, keep, Holds, room_in, Shared}
use Rattle.bench_threads.specs.Threads.{released, edge_of, edged, tick_mode, tick, change, woken, waits_at, write}
use Rattle.bench_threads.proofs.Keyed.{path_total, same_threads, remove_absent, get_alike}
use Rattle.bench_threads.proofs.Spending.{waiting_holds}
use Rattle.bench_threads.proofs.Houses.{After, houses_seen, taken, over_waiting, in_waiting, left_room, holds_beside, get_removed, insert_removed, insert_same, kept_is, get_all_changed}

-- ---- waking

pub not_woken : (t : Threads) (p c : Path) → waits_at c (map.get t p) ≡ false → t ≡ change (woken c) t p
not_woken t p c h = go (map.get t p) refl h
  where
    go : (o : Option Entry) → map.get t p ≡ o → waits_at c o ≡ false → t ≡ write t p (option_map (woken c) o)
    go None i k = sym (remove_absent t p i)
    go (Some e) i k = sym (ap (λ (b : Bool). map.insert t p (record e { mode = cond b Running e.mode })) k ∙ insert_same t p e i)

-- ---- one thread

pub ticked_is : (ts : Threads) (e : Entry) (k : Mode) → tick_mode ts e k ≡ edged (edge_of ts k) e
ticked_is ts e Running = refl
ticked_is ts e (AtJoin c) = refl
ticked_is ts e (AtEdges n) = go (nat_le n 1)
  where
    go : (b : Bool) → cond b (released e) (record e { mode = AtEdges (n - 1) }) ≡ edged (cond b LetGo (Counts (n - 1))) e
    go true = refl
    go false = refl
ticked_is ts e (AtJoinStep c) = go (is_some (map.get ts c))
  where
    go : (b : Bool) → cond b e (released e) ≡ edged (cond b Stays LetGo) e
    go true = refl
    go false = refl
ticked_is ts e (Spent l) = refl

take_removed : (l : List Entry) (i : ℕ) → i < length l → take i (remove l i) ≡ take i l
take_removed [] i lt = absurd (omega arith)
take_removed (x ∷ l) zero lt = refl
take_removed (x ∷ l) (suc i) lt = ap (λ k. x ∷ k) (take_removed l i (omega arith))

take_set : (l : List Entry) (i : ℕ) (y : Entry) → take i (set l i y) ≡ take i l
take_set [] zero y = refl
take_set [] (suc i) y = refl
take_set (x ∷ l) zero y = refl
take_set (x ∷ l) (suc i) y = ap (λ k. x ∷ k) (take_set l i y)

not_waiting : (r : Region) → is_waiting (running_in r) ≡ false
not_waiting Main = refl
not_waiting Monitor = refl

pub within_waiting : (d m w s : Shelved) (view : record { threads = all d.threads m.threads w.threads; room = room_in d m w } ≡ s) (h : Shared d m w) (i : ℕ) → i < length (waiting_of s.threads) → i < length (map.values w.threads)
within_waiting d m w s view h i lt = subst (λ (l : List Entry). i < length l) (waiting_holds s.threads w.threads (houses_seen d m w s view h).waiting) lt

-- a place among those that wait, its thread e, and what the thread's shelf says of it
module _ (d m w s : Shelved) (view : record { threads = all d.threads m.threads w.threads; room = room_in d m w } ≡ s) (h : Shared d m w)
    (i : ℕ) (e : Entry) (there : map.get w.threads e.state.path ≡ Some e) where
  waits_here : waiting_of s.threads ≡ map.values w.threads
  waits_here = waiting_holds s.threads w.threads (houses_seen d m w s view h).waiting

  pub here : map.get s.threads e.state.path ≡ Some e
  here = kept_is Waiting (map.get s.threads e.state.path) e (sym ((houses_seen d m w s view h).waiting.at e.state.path) ∙ there)

  -- what is said of e is said of the thread at the place
  pub at_each : (new : Threads) → ((x : Entry) → e ≡ get_or (map.values w.threads) i x) → new ≡ map.insert s.threads e.state.path (tick_mode s.threads e e.mode)
      → (x : Entry) → new ≡ map.insert s.threads (get_or (waiting_of s.threads) i x).state.path (tick_mode s.threads (get_or (waiting_of s.threads) i x) (get_or (waiting_of s.threads) i x).mode)
  at_each new item is x =
      subst (λ (y : Entry). new ≡ map.insert s.threads y.state.path (tick_mode s.threads y y.mode)) (item x ∙ ap (λ (l : List Entry). get_or l i x) (sym waits_here)) is

  pub stays_same : Stays ≡ edge_of s.threads e.mode → s.threads ≡ map.insert s.threads e.state.path (tick_mode s.threads e e.mode)
  stays_same k = sym (ap (map.insert s.threads e.state.path) (ticked_is s.threads e e.mode ∙ ap (λ j. edged j e) (sym k)) ∙ insert_same s.threads e.state.path e here)

  pub counted : (w' : Shelved) (n : ℕ) → ((x : Entry) → e ≡ get_or (map.values w.threads) i x)
      → ((x : Entry) → w'.threads ≡ map.insert w.threads (get_or (map.values w.threads) i x).state.path (record (get_or (map.values w.threads) i x) { mode = AtEdges n }))
      → w'.room ≡ w.room → After d m w' (map.insert s.threads e.state.path (record e { mode = AtEdges n })) s.room
  counted w' n item new room =
      over_waiting d m w s view h w' e.state.path (record e { mode = AtEdges n }) e refl there
      (new e ∙ ap (λ (y : Entry). map.insert w.threads y.state.path (record y { mode = AtEdges n })) (sym (item e))) room

  pub counted_is : (n : ℕ) (new : Threads) → Counts n ≡ edge_of s.threads e.mode → new ≡ map.insert s.threads e.state.path (record e { mode = AtEdges n }) → new ≡ map.insert s.threads e.state.path (tick_mode s.threads e e.mode)
  counted_is n new k is = is ∙ ap (map.insert s.threads e.state.path) (sym (ticked_is s.threads e e.mode ∙ ap (λ j. edged j e) (sym k)))

  pub counted_front : (w' : Shelved) (n : ℕ) (x : Entry) → Shared d m w' → map.values w'.threads ≡ set (map.values w.threads) i x → take i (waiting_of (all d.threads m.threads w'.threads)) ≡ take i (waiting_of s.threads)
  counted_front w' n x g is =
      ap (take i) (waiting_holds (all d.threads m.threads w'.threads) w'.threads g.houses.waiting ∙ is) ∙ take_set (map.values w.threads) i x ∙ ap (take i) (sym waits_here)

  pub gone : (w' : Shelved) → w'.threads ≡ map.remove w.threads e.state.path → w'.room ≡ w.room → After d m w' (map.remove s.threads e.state.path) s.room
  gone w' a r =
      let o = in_waiting d m w s view h e.state.path e there in
      taken d m w s view h d m w' e.state.path (sym (remove_absent d.threads e.state.path o.0)) (sym (remove_absent m.threads e.state.path o.1)) a refl refl r

  pub gone_room : (w' : Shelved) → w'.threads ≡ map.remove w.threads e.state.path → w'.room ≡ w.room → map.len (all d.threads m.threads w'.threads) < room_in d m w'
  gone_room w' a r = left_room d m w s view h Waiting w.threads d m w' e.state.path (Some e) (houses_seen d m w s view h).waiting (sym there) (gone w' a r)

  pub let_go_is : (w' : Shelved) (new : Threads) → LetGo ≡ edge_of s.threads e.mode → w'.threads ≡ map.remove w.threads e.state.path → w'.room ≡ w.room
      → new ≡ map.insert (all d.threads m.threads w'.threads) e.state.path (released e) → new ≡ map.insert s.threads e.state.path (tick_mode s.threads e e.mode)
  let_go_is w' new k a r is =
      is ∙ ap (λ t. map.insert t e.state.path (released e)) ((gone w' a r).is) ∙ insert_removed s.threads e.state.path (released e)
      ∙ ap (map.insert s.threads e.state.path) (sym (ticked_is s.threads e e.mode ∙ ap (λ j. edged j e) (sym k)))

  pub let_go_front : (w' : Shelved) (new : Threads) → i < length (map.values w.threads) → w'.threads ≡ map.remove w.threads e.state.path → w'.room ≡ w.room → map.values w'.threads ≡ remove (map.values w.threads) i
      → new ≡ map.insert (all d.threads m.threads w'.threads) e.state.path (released e) → take i (waiting_of new) ≡ take i (waiting_of s.threads)
  let_go_front w' new lt a r vals is =
      let t = all d.threads m.threads w'.threads in
      let none : map.get w'.threads e.state.path ≡ None = ap (λ u. map.get u e.state.path) a ∙ get_removed w.threads e.state.path in
      let g = holds_beside Waiting t w'.threads e.state.path (released e) (gone w' a r).shared.houses.waiting (not_waiting e.state.region) none in
      ap (λ u. take i (waiting_of u)) is ∙ ap (take i) (waiting_holds (map.insert t e.state.path (released e)) w'.threads g ∙ vals)
      ∙ take_removed (map.values w.threads) i lt ∙ ap (take i) (sym waits_here)

-- ---- all threads

-- an edge for one thread
abbrev ticked : Threads → Entry → Entry
ticked ts e = tick_mode ts e e.mode

-- a thread that the edge hasn't come to yet
pub record Left (t0 t : Threads) (i : ℕ) (q : Path) : Type 0 where
  pub entry : Entry
  pub same : map.get t q ≡ map.get t0 q
  pub here : map.get t0 q ≡ Some entry
  pub path : entry.state.path ≡ q
  pub place : ℕ
  pub below : place < i
  pub is : (d : Entry) → get_or (waiting_of t0) place d ≡ entry

-- the edge has come to all of t0 but the first i of those that wait
pub record Ticked (t0 t : Threads) (i : ℕ) : Type 0 where
  pub low : i ≤ length (waiting_of t0)
  pub front : take i (waiting_of t) ≡ take i (waiting_of t0)
  pub there : (j : ℕ) (d : Entry) → j < length (waiting_of t0) → map.get t0 (get_or (waiting_of t0) j d).state.path ≡ Some (get_or (waiting_of t0) j d)
  pub at : (q : Path) → (map.get t q ≡ option_map (λ e. tick_mode t0 e e.mode) (map.get t0 q)) ⊎ Left t0 t i q

not_ticked : (ts : Threads) (e : Entry) (k : Mode) (r : Region) → is_waiting (queue_for k r) ≡ false → tick_mode ts e k ≡ e
not_ticked ts e Running r h = refl
not_ticked ts e (AtJoin c) r h = cc
not_ticked ts e (AtEdges n) r h = cc
not_ticked ts e (AtJoinStep c) r h = cc
not_ticked ts e (Spent l) r h = cc

pub start : (t0 w : Threads) (n : ℕ) → n ≡ length (map.values w) → Holds Waiting t0 w → Listed w → Ticked t0 t0 n
start t0 w n e h listed = record {
  low = let l : length (waiting_of t0) ≡ length (map.values w) = ap (λ (l : List Entry). length l) waits in omega arith;
  front = refl;
  there = subst (λ (l : List Entry). (j : ℕ) (d : Entry) → j < length l → map.get t0 (get_or l j d).state.path ≡ Some (get_or l j d)) (sym waits)
      (λ j d lt. kept_is Waiting (map.get t0 (get_or (map.values w) j d).state.path) (get_or (map.values w) j d) (sym (h.at (get_or (map.values w) j d).state.path) ∙ listed.there j d lt));
  at = λ q. go q (map.get t0 q) refl;
}
  where
    waits : waiting_of t0 ≡ map.values w
    waits = waiting_holds t0 w h

    stands : (q : Path) (x : Entry) → map.get t0 q ≡ Some x → (b : Bool) → is_waiting (queue_of x) ≡ b → (map.get t0 q ≡ option_map (λ e. tick_mode t0 e e.mode) (map.get t0 q)) ⊎ Left t0 t0 n q
    stands q x i false k = inl (i ∙ sym (ap (option_map (λ (e : Entry). tick_mode t0 e e.mode)) i ∙ ap Some (not_ticked t0 x x.mode x.state.region k)))
    stands q x i true k =
        let found = listed.found q x (h.at q ∙ ap (keep Waiting) i ∙ ap (λ b. cond b (Some x) None) k) in
        inr (record { entry = x; same = refl; here = i; path = found.path; place = found.place; below = let b = found.within in omega arith; is = λ d. ap (λ (l : List Entry). get_or l found.place d) waits ∙ found.is d })

    go : (q : Path) (o : Option Entry) → map.get t0 q ≡ o → (map.get t0 q ≡ option_map (λ e. tick_mode t0 e e.mode) (map.get t0 q)) ⊎ Left t0 t0 n q
    go q None i = inl (i ∙ sym (ap (option_map (λ (e : Entry). tick_mode t0 e e.mode)) i))
    go q (Some x) i = stands q x i (is_waiting (queue_of x)) refl

any_of : (l : List Entry) (i : ℕ) → i < length l → Entry
any_of [] i lt = absurd (omega arith)
any_of (x ∷ l) i lt = x

take_less : (l : List Entry) (i : ℕ) → take i (take (suc i) l) ≡ take i l
take_less [] zero = refl
take_less [] (suc i) = refl
take_less (x ∷ l) zero = refl
take_less (x ∷ l) (suc i) = ap (λ k. x ∷ k) (take_less l i)

get_taken : (l : List Entry) (i : ℕ) (d : Entry) → get_or (take (suc i) l) i d ≡ get_or l i d
get_taken [] zero d = refl
get_taken [] (suc i) d = refl
get_taken (x ∷ l) zero d = refl
get_taken (x ∷ l) (suc i) d = get_taken l i d

pub some_mapped : (f : Entry → Entry) (o : Option Entry) → is_some (option_map f o) ≡ is_some o
some_mapped f None = refl
some_mapped f (Some e) = refl

present : (t0 t : Threads) (i : ℕ) → Ticked t0 t i → (c : Path) → is_some (map.get t c) ≡ is_some (map.get t0 c)
present t0 t i g c = ⊎_elim (λ e. ap is_some e ∙ some_mapped (λ (e : Entry). tick_mode t0 e e.mode) (map.get t0 c)) (λ (l : Left t0 t i c). ap is_some l.same) (g.at c)

tick_alike : (t0 t : Threads) → ((c : Path) → is_some (map.get t c) ≡ is_some (map.get t0 c)) → (e : Entry) (k : Mode) → tick_mode t e k ≡ tick_mode t0 e k
tick_alike t0 t same e Running = refl
tick_alike t0 t same e (AtJoin c) = refl
tick_alike t0 t same e (AtEdges n) = refl
tick_alike t0 t same e (AtJoinStep c) = ap (λ b. cond b e (released e)) (same c)
tick_alike t0 t same e (Spent l) = refl

pub still_waits : (t0 t : Threads) (n : ℕ) → 0 < n → Ticked t0 t n → n - 1 < length (waiting_of t)
still_waits t0 t n pos g =
    let e : length (take n (waiting_of t)) ≡ length (take n (waiting_of t0)) = ap (λ (l : List Entry). length l) g.front in
    let low = g.low in
    omega (arith, length-take n (waiting_of t), length-take n (waiting_of t0))

step : (t0 t t' : Threads) (i : ℕ) → Ticked t0 t (suc i)
    → ((d : Entry) → t' ≡ map.insert t (get_or (waiting_of t) i d).state.path (tick_mode t (get_or (waiting_of t) i d) (get_or (waiting_of t) i d).mode))
    → take i (waiting_of t') ≡ take i (waiting_of t) → Ticked t0 t' i
step t0 t t' i g new front = record {
  low = let l = g.low in omega arith;
  front = front ∙ sym (take_less (waiting_of t) i) ∙ ap (take i) g.front ∙ take_less (waiting_of t0) i;
  there = g.there;
  at = λ q. go q (eq_by_cmp path_cmp q e.state.path) refl;
}
  where
    within : i < length (waiting_of t0)
    within = let l = g.low in omega arith

    d : Entry
    d = any_of (waiting_of t0) i within

    e : Entry
    e = get_or (waiting_of t0) i d

    same : get_or (waiting_of t) i d ≡ e
    same = sym (get_taken (waiting_of t) i d) ∙ ap (λ (l : List Entry). get_or l i d) g.front ∙ get_taken (waiting_of t0) i d

    made : t' ≡ map.insert t e.state.path (tick_mode t0 e e.mode)
    made = new d ∙ ap (λ (y : Entry). map.insert t y.state.path (tick_mode t y y.mode)) same ∙ ap (map.insert t e.state.path) (tick_alike t0 t (present t0 t (suc i) g) e e.mode)

    equal : (r : Ordering) → is_eq r ≡ true → r ≡ Equal
    equal Less h = cc
    equal Equal h = refl
    equal Greater h = cc

    go : (q : Path) (b : Bool) → eq_by_cmp path_cmp q e.state.path ≡ b → (map.get t' q ≡ option_map (λ e. tick_mode t0 e e.mode) (map.get t0 q)) ⊎ Left t0 t' i q
    go q true k =
        let here : map.get t0 q ≡ Some e = get_alike t0 e.state.path q k ∙ g.there i d within in
        inl (ap (λ u. map.get u q) made ∙ map.get-insert path_total t e.state.path (tick_mode t0 e e.mode) q ∙ ap (λ b. cond b (Some (tick_mode t0 e e.mode)) (map.get t q)) k
        ∙ sym (ap (option_map (λ (e : Entry). tick_mode t0 e e.mode)) here))
    go q false k =
        let kept : map.get t' q ≡ map.get t q = ap (λ u. map.get u q) made ∙ map.get-insert path_total t e.state.path (tick_mode t0 e e.mode) q ∙ ap (λ b. cond b (Some (tick_mode t0 e e.mode)) (map.get t q)) k in
        ⊎_elim (λ is. inl (kept ∙ is))
        (λ (l : Left t0 t (suc i) q). ⊎_elim
        (λ lt. inr (record { entry = l.entry; same = kept ∙ l.same; here = l.here; path = l.path; place = l.place; below = lt; is = l.is }))
        (λ ge.
        let at : l.place ≡ i = let b = l.below in omega arith in
        let here : e.state.path ≡ q = ap (λ (y : Entry). y.state.path) (sym (ap (λ j. get_or (waiting_of t0) j d) at) ∙ l.is d) ∙ l.path in
        let tie : eq_by_cmp path_cmp q e.state.path ≡ true = ap (eq_by_cmp path_cmp q) here ∙ ap is_eq (tied_itself path_total q) in
        let bad : true ≡ false = sym tie ∙ k in absurd cc)
        (cases_lt l.place i))
        (g.at q)

pub one_less : (t0 t t' : Threads) (n : ℕ) → 0 < n → Ticked t0 t n
    → ((d : Entry) → t' ≡ map.insert t (get_or (waiting_of t) (n - 1) d).state.path (tick_mode t (get_or (waiting_of t) (n - 1) d) (get_or (waiting_of t) (n - 1) d).mode))
    → take (n - 1) (waiting_of t') ≡ take (n - 1) (waiting_of t) → Ticked t0 t' (n - 1)
one_less t0 t t' n pos g new front = step t0 t t' (n - 1) (subst (Ticked t0 t) {x = n} {y = suc (n - 1)} (omega arith) g) new front

pub finish : (t0 t : Threads) (n : ℕ) → n ≤ 0 → Ticked t0 t n → t ≡ tick t0
finish t0 t n le g = same_threads t (tick t0) (λ q.
    ⊎_elim (λ is. is) (λ (l : Left t0 t n q). absurd (let b = l.below in omega arith)) (g.at q)
    ∙ sym (get_all_changed (λ e. tick_mode t0 e e.mode) t0 q))
