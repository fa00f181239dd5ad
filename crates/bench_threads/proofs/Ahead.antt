-- The edges ahead, thread by thread: the least of what each thread waits for.
use Rattle.std.proofs.Common.{◌≡◌, ℕ, suc, ◌-◌, ◌<◌, ◌≤◌, min, max, List, [], ◌∷◌, Bool, true, false, cond, not, ◌||◌, nat_le, is_some, T, Some, None, Option, option_map, refl, sym, ap, subst, ◌∙◌, arith, ◌⊎◌, inl, inr, ⊎_elim, leb-true, leb-false}
use Rattle.std.specs.List.{list_any}
use Rattle.std.specs.FinMap as map
use Rattle.std.specs.FinMap.{find, is_sorted}
use Rattle.std.specs.Ordering.{eq_by_cmp, is_eq}
use Rattle.std.specs.Cmp.{tied_itself, eq_by_cmp_equiv}
use Rattle.std.proofs.lemmas.Bool.{cases_lt}
use Rattle.bench_model.specs.Paths.{Path, path_cmp}
use Rattle.tl_code.specs.declared.state.ThreadState.{ThreadState}
use Rattle.bench_threads.specs.declared.entry.Entry.{Entry}
use Rattle.bench_threads.specs.declared.entry.Mode.{Mode}
use Rattle.bench_threads.specs.declared.entry.Mode.TheVariants.{Running, AtJoin, AtEdges, AtJoinStep, Spent}
use Rattle.bench_threads.specs.Modes.{is_running, waits_step}
use Rattle.bench_threads.specs.Shelves.{Threads}
use Rattle.bench_threads.specs.Tables.{standing, started}
use Rattle.bench_threads.specs.Threads.{quiet, change, woken, woken_mode, released, tick_mode, tick, sooner, edges_of, soonest, edges_ahead, is_awaited}
use Rattle.bench_threads.specs.Laws.{AtMost, GoesOn, Ends}
use Rattle.bench_threads.proofs.Keyed.{path_total, path_exact, get_alike, T_left, T_right}
use Rattle.bench_threads.proofs.Submap.{find_below, equal}
use Rattle.bench_threads.proofs.Houses.{get_all_changed, get_change}
use Rattle.bench_threads.proofs.Ticking.{some_mapped}

-- ---- numbers of edges

most_itself : (a : Option ℕ) → AtMost a a
most_itself None = tt
most_itself (Some n) = omega arith

most_trans : (a b c : Option ℕ) → AtMost a b → AtMost b c → AtMost a c
most_trans a b None h k = tt
most_trans a None (Some n) h k = absurd k
most_trans None (Some m) (Some n) h k = absurd h
most_trans (Some l) (Some m) (Some n) h k = omega arith

most_antisym : (a b : Option ℕ) → AtMost a b → AtMost b a → a ≡ b
most_antisym None None h k = refl
most_antisym None (Some m) h k = absurd h
most_antisym (Some n) None h k = absurd k
most_antisym (Some n) (Some m) h k = let e : n ≡ m = omega arith in ap Some e

most_left : (a b : Option ℕ) → AtMost (sooner a b) a
most_left None b = tt
most_left (Some n) None = omega arith
most_left (Some n) (Some m) = omega arith

most_right : (a b : Option ℕ) → AtMost (sooner a b) b
most_right None b = most_itself b
most_right (Some n) None = tt
most_right (Some n) (Some m) = omega arith

lesser_of : (n m : ℕ) → (min n m ≡ n) ⊎ (min n m ≡ m)
lesser_of n m = ⊎_elim (λ less. inl (omega arith)) (λ more. inr (omega arith)) (cases_lt n m)

picks : (a b : Option ℕ) → (sooner a b ≡ a) ⊎ (sooner a b ≡ b)
picks None b = inr refl
picks (Some n) None = inl refl
picks (Some n) (Some m) = go (lesser_of n m)
  where
    go : (min n m ≡ n) ⊎ (min n m ≡ m) → (Some (min n m) ≡ Some n) ⊎ (Some (min n m) ≡ Some m)
    go (inl e) = inl (ap Some e)
    go (inr e) = inr (ap Some e)

pub sooner_none : (a : Option ℕ) → sooner a None ≡ a
sooner_none None = refl
sooner_none (Some n) = refl

-- ---- the least of what each path has

-- a path with this number
pub record HasAt (g : Path → Option ℕ) (o : Option ℕ) : Type 0 where
  pub at : Path
  pub is : g at ≡ o

pub record IsLeast (g : Path → Option ℕ) (o : Option ℕ) : Type 0 where
  pub low : (q : Path) → AtMost o (g q)
  pub reached : (o ≡ None) ⊎ HasAt g o

below_each : (g : Path → Option ℕ) (a b : Option ℕ) → IsLeast g a → (b ≡ None) ⊎ HasAt g b → AtMost a b
below_each g a b h (inl e) = subst (AtMost a) (sym e) tt
below_each g a b h (inr r) = subst (AtMost a) r.is (h.low r.at)

only_one : (g : Path → Option ℕ) (a b : Option ℕ) → IsLeast g a → IsLeast g b → a ≡ b
only_one g a b h k = most_antisym a b (below_each g a b h k.reached) (below_each g b a k h.reached)

reached_alike : (g f : Path → Option ℕ) (o : Option ℕ) → ((q : Path) → f q ≡ g q) → (o ≡ None) ⊎ HasAt g o → (o ≡ None) ⊎ HasAt f o
reached_alike g f o same (inl e) = inl e
reached_alike g f o same (inr r) = inr (record { at = r.at; is = same r.at ∙ r.is })

least_alike : (g f : Path → Option ℕ) (o : Option ℕ) → ((q : Path) → f q ≡ g q) → IsLeast g o → IsLeast f o
least_alike g f o same h = record { low = λ q. subst (AtMost o) (sym (same q)) (h.low q); reached = reached_alike g f o same h.reached }

-- one path that had none gets a number
module _ (g f : Path → Option ℕ) (o m : Option ℕ) (p : Path) (none : (q : Path) → eq_by_cmp path_cmp q p ≡ true → g q ≡ None)
    (made : (q : Path) → f q ≡ cond (eq_by_cmp path_cmp q p) m (g q)) where
  put_low : IsLeast g o → (q : Path) (b : Bool) → AtMost (sooner o m) (cond b m (g q))
  put_low h q true = most_right o m
  put_low h q false = most_trans (sooner o m) o (g q) (most_left o m) (h.low q)

  put_here : sooner o m ≡ m → (sooner o m ≡ None) ⊎ HasAt f (sooner o m)
  put_here e = inr (record { at = p; is = made p ∙ ap (λ r. cond (is_eq r) m (g p)) (tied_itself path_total p) ∙ sym e })

  put_else : sooner o m ≡ o → (r : HasAt g o) (b : Bool) → eq_by_cmp path_cmp r.at p ≡ b → (sooner o m ≡ None) ⊎ HasAt f (sooner o m)
  put_else e r true i = inl (e ∙ sym r.is ∙ none r.at i)
  put_else e r false i = inr (record { at = r.at; is = made r.at ∙ ap (λ b. cond b m (g r.at)) i ∙ r.is ∙ sym e })

  put_reached : (o ≡ None) ⊎ HasAt g o → (sooner o m ≡ o) ⊎ (sooner o m ≡ m) → (sooner o m ≡ None) ⊎ HasAt f (sooner o m)
  put_reached h (inr e) = put_here e
  put_reached (inl i) (inl e) = inl (e ∙ i)
  put_reached (inr r) (inl e) = put_else e r (eq_by_cmp path_cmp r.at p) refl

  least_put : IsLeast g o → IsLeast f (sooner o m)
  least_put h = record {
    low = λ q. subst (AtMost (sooner o m)) (sym (made q)) (put_low h q (eq_by_cmp path_cmp q p));
    reached = put_reached h.reached (picks o m);
  }

-- ---- what each thread waits for

-- after how many edges the thread runs, where it is there
abbrev pub edges_at : Threads → Option Entry → Option ℕ
edges_at ts None = None
edges_at ts (Some e) = edges_of ts e.mode

-- the same of the thread of a path
abbrev pub edges_for : Threads → Path → Option ℕ
edges_for ts q = edges_at ts (map.get ts q)

list_low : (ts : Threads) (es : List (Path × Entry)) (q : Path) → AtMost (soonest ts es) (edges_at ts (find path_cmp q es))
list_low ts [] q = tt
list_low ts (e ∷ es) q = go (list_low ts es q) (eq_by_cmp path_cmp q e.0)
  where
    go : AtMost (soonest ts es) (edges_at ts (find path_cmp q es)) → (b : Bool) → AtMost (sooner (edges_of ts e.1.mode) (soonest ts es)) (edges_at ts (cond b (Some e.1) (find path_cmp q es)))
    go rest true = most_left (edges_of ts e.1.mode) (soonest ts es)
    go rest false = most_trans (sooner (edges_of ts e.1.mode) (soonest ts es)) (soonest ts es) (edges_at ts (find path_cmp q es)) (most_right (edges_of ts e.1.mode) (soonest ts es)) rest

-- the key of the first entry is in no later one
not_below : (e : Path × Entry) (es : List (Path × Entry)) (q : Path) → T (is_sorted path_cmp (e ∷ es)) → eq_by_cmp path_cmp q e.0 ≡ true → find path_cmp q es ≡ None
not_below e es q h i = ap (λ k. find path_cmp k es) (path_exact q e.0 (equal (path_cmp q e.0) i)) ∙ find_below e.0 es (T_left _ _ h)

find_first : (e : Path × Entry) (es : List (Path × Entry)) → find path_cmp e.0 (e ∷ es) ≡ Some e.1
find_first e es = ap (λ r. cond (is_eq r) (Some e.1) (find path_cmp e.0 es)) (tied_itself path_total e.0)

list_reached : (ts : Threads) (es : List (Path × Entry)) → T (is_sorted path_cmp es) → (soonest ts es ≡ None) ⊎ HasAt (λ q. edges_at ts (find path_cmp q es)) (soonest ts es)
list_reached ts [] h = inl refl
list_reached ts (e ∷ es) h = go (picks (edges_of ts e.1.mode) (soonest ts es)) (list_reached ts es (T_right _ _ h))
  where
    later : soonest ts (e ∷ es) ≡ soonest ts es → (r : HasAt (λ q. edges_at ts (find path_cmp q es)) (soonest ts es)) (b : Bool) → eq_by_cmp path_cmp r.at e.0 ≡ b
        → (soonest ts (e ∷ es) ≡ None) ⊎ HasAt (λ q. edges_at ts (find path_cmp q (e ∷ es))) (soonest ts (e ∷ es))
    later i r true k = inl (i ∙ sym r.is ∙ ap (edges_at ts) (not_below e es r.at h k))
    later i r false k = inr (record { at = r.at; is = ap (λ b. edges_at ts (cond b (Some e.1) (find path_cmp r.at es))) k ∙ r.is ∙ sym i })

    go : (soonest ts (e ∷ es) ≡ edges_of ts e.1.mode) ⊎ (soonest ts (e ∷ es) ≡ soonest ts es) → (soonest ts es ≡ None) ⊎ HasAt (λ q. edges_at ts (find path_cmp q es)) (soonest ts es)
        → (soonest ts (e ∷ es) ≡ None) ⊎ HasAt (λ q. edges_at ts (find path_cmp q (e ∷ es))) (soonest ts (e ∷ es))
    go (inl i) rest = inr (record { at = e.0; is = ap (edges_at ts) (find_first e es) ∙ sym i })
    go (inr i) (inl none) = inl (i ∙ none)
    go (inr i) (inr r) = later i r (eq_by_cmp path_cmp r.at e.0) refl

-- the edges ahead are the least of what the threads wait for
pub least_is : (ts : Threads) → IsLeast (edges_for ts) (edges_ahead ts)
least_is ts = record {
  low = λ q. subst (λ o. AtMost (edges_ahead ts) (edges_at ts o)) (sym (map.get-entries ts q)) (list_low ts (map.entries ts) q);
  reached = reached_alike (λ q. edges_at ts (find path_cmp q (map.entries ts))) (edges_for ts) (edges_ahead ts) (λ q. ap (edges_at ts) (map.get-entries ts q)) (list_reached ts (map.entries ts) (map.entries_sorted ts));
}

-- so where each thread of ts waits for this, the least is what they have ahead
pub ahead_is : (ts : Threads) (o : Option ℕ) → IsLeast (edges_for ts) o → edges_ahead ts ≡ o
ahead_is ts o h = only_one (edges_for ts) (edges_ahead ts) o (least_is ts) h

-- ---- some thread that passes a test

pub record Passes (ts : Threads) (f : Entry → Bool) : Type 0 where
  pub at : Path
  pub entry : Entry
  pub there : map.get ts at ≡ Some entry
  pub is : f entry ≡ true

pub record Found (es : List (Path × Entry)) (f : Entry → Bool) : Type 0 where
  pub at : Path
  pub entry : Entry
  pub there : find path_cmp at es ≡ Some entry
  pub is : f entry ≡ true

or_here : (a b : Bool) → a ≡ true → (a || b) ≡ true
or_here a b h = ap (λ x. x || b) h

or_later : (a b : Bool) → b ≡ true → (a || b) ≡ true
or_later true b h = refl
or_later false b h = h

any_at : (f : Entry → Bool) (es : List (Path × Entry)) (q : Path) (x : Entry) → find path_cmp q es ≡ Some x → f x ≡ true → list_any (λ (e : Path × Entry). f e.1) es ≡ true
any_at f [] q x h k = absurd cc
any_at f (e ∷ es) q x h k = go (λ i. any_at f es q x i k) (eq_by_cmp path_cmp q e.0) h
  where
    go : (find path_cmp q es ≡ Some x → list_any (λ (e : Path × Entry). f e.1) es ≡ true) → (b : Bool) → cond b (Some e.1) (find path_cmp q es) ≡ Some x → (f e.1 || list_any (λ (e : Path × Entry). f e.1) es) ≡ true
    go rest true i = let same : e.1 ≡ x = cc in or_here (f e.1) (list_any (λ (e : Path × Entry). f e.1) es) (ap f same ∙ k)
    go rest false i = or_later (f e.1) (list_any (λ (e : Path × Entry). f e.1) es) (rest i)

found_in : (f : Entry → Bool) (es : List (Path × Entry)) → T (is_sorted path_cmp es) → list_any (λ (e : Path × Entry). f e.1) es ≡ true → Found es f
found_in f [] h k = absurd cc
found_in f (e ∷ es) h k = go (λ m. found_in f es (T_right _ _ h) m) (f e.1) refl k
  where
    later : (r : Found es f) (b : Bool) → eq_by_cmp path_cmp r.at e.0 ≡ b → Found (e ∷ es) f
    later r true i = let bad : Some r.entry ≡ None = sym r.there ∙ not_below e es r.at h i in absurd cc
    later r false i = record { at = r.at; entry = r.entry; there = ap (λ b. cond b (Some e.1) (find path_cmp r.at es)) i ∙ r.there; is = r.is }

    go : (list_any (λ (e : Path × Entry). f e.1) es ≡ true → Found es f) → (b : Bool) → f e.1 ≡ b → (b || list_any (λ (e : Path × Entry). f e.1) es) ≡ true → Found (e ∷ es) f
    go rest true i m = record { at = e.0; entry = e.1; there = find_first e es; is = i }
    go rest false i m = later (rest m) (eq_by_cmp path_cmp (rest m).at e.0) refl

module _ (ts : Threads) (f : Entry → Bool) where
  pub passes_there : (q : Path) (x : Entry) → map.get ts q ≡ Some x → f x ≡ true → list_any (λ (e : Path × Entry). f e.1) (map.entries ts) ≡ true
  passes_there q x is k = any_at f (map.entries ts) q x (sym (map.get-entries ts q) ∙ is) k

  pub passes : list_any (λ (e : Path × Entry). f e.1) (map.entries ts) ≡ true → Passes ts f
  passes h = let r = found_in f (map.entries ts) (map.entries_sorted ts) h in record { at = r.at; entry = r.entry; there = map.get-entries ts r.at ∙ r.there; is = r.is }

  pub none_passes : list_any (λ (e : Path × Entry). f e.1) (map.entries ts) ≡ false → (q : Path) (x : Entry) → map.get ts q ≡ Some x → f x ≡ false
  none_passes h q x is = go (f x) refl
    where
      go : (b : Bool) → f x ≡ b → b ≡ false
      go true k = let bad : true ≡ false = sym (passes_there q x is k) ∙ h in absurd cc
      go false k = refl

  pub all_fail : ((q : Path) (x : Entry) → map.get ts q ≡ Some x → f x ≡ false) → list_any (λ (e : Path × Entry). f e.1) (map.entries ts) ≡ false
  all_fail h = go (list_any (λ (e : Path × Entry). f e.1) (map.entries ts)) refl
    where
      go : (b : Bool) → list_any (λ (e : Path × Entry). f e.1) (map.entries ts) ≡ b → b ≡ false
      go true k = let r = passes k in let bad : true ≡ false = sym r.is ∙ h r.at r.entry r.there in absurd cc
      go false k = refl

abbrev runs_so : Entry → Bool
runs_so e = is_running e.mode

negated : (b : Bool) → not b ≡ true → b ≡ false
negated true h = cc
negated false h = refl

none_runs : (ts : Threads) → quiet ts ≡ true → (q : Path) (x : Entry) → map.get ts q ≡ Some x → is_running x.mode ≡ false
none_runs ts h q x is = none_passes ts runs_so (negated _ h) q x is

pub quiet_where : (ts : Threads) → ((q : Path) (x : Entry) → map.get ts q ≡ Some x → is_running x.mode ≡ false) → quiet ts ≡ true
quiet_where ts h = ap not (all_fail ts runs_so h)

pub loud_where : (ts : Threads) (q : Path) (x : Entry) → map.get ts q ≡ Some x → is_running x.mode ≡ true → quiet ts ≡ false
loud_where ts q x is h = ap not (passes_there ts runs_so q x is h)

-- ---- at least one edge

one_of : (ts : Threads) (k : Mode) → AtMost (Some 1) (edges_of ts k)
one_of ts Running = tt
one_of ts (AtJoin c) = tt
one_of ts (AtEdges n) = omega arith
one_of ts (AtJoinStep c) = go (is_some (map.get ts c))
  where
    go : (b : Bool) → AtMost (Some 1) (cond b None (Some 1))
    go true = tt
    go false = omega arith
one_of ts (Spent l) = tt

one_at : (ts : Threads) (o : Option Entry) → AtMost (Some 1) (edges_at ts o)
one_at ts None = tt
one_at ts (Some e) = one_of ts e.mode

one_ahead : (ts : Threads) → AtMost (Some 1) (edges_ahead ts)
one_ahead ts = go (least_is ts).reached
  where
    go : (edges_ahead ts ≡ None) ⊎ HasAt (edges_for ts) (edges_ahead ts) → AtMost (Some 1) (edges_ahead ts)
    go (inl e) = subst (AtMost (Some 1)) (sym e) tt
    go (inr r) = subst (AtMost (Some 1)) r.is (one_at ts (map.get ts r.at))

pub at_least_one : (ts : Threads) (n : ℕ) → edges_ahead ts ≡ Some n → 1 ≤ n
at_least_one ts n e = subst (AtMost (Some 1)) e (one_ahead ts)

-- ---- an edge

-- one edge less, where more than one is left
abbrev one_less : Option ℕ → Option ℕ
one_less None = None
one_less (Some n) = cond (nat_le n 1) None (Some (n - 1))

-- no more than one is left
abbrev is_last : Option ℕ → Bool
is_last None = false
is_last (Some n) = nat_le n 1

of_alike : (ts us : Threads) → ((c : Path) → is_some (map.get us c) ≡ is_some (map.get ts c)) → (k : Mode) → edges_of us k ≡ edges_of ts k
of_alike ts us same Running = refl
of_alike ts us same (AtJoin c) = refl
of_alike ts us same (AtEdges n) = refl
of_alike ts us same (AtJoinStep c) = ap (λ b. cond {A = Option ℕ} b None (Some 1)) (same c)
of_alike ts us same (Spent l) = refl

greatest_one : (n : ℕ) → n ≤ 1 → max n 1 ≡ 1
greatest_one n h = omega arith

greatest_more : (n : ℕ) → 1 < n → max n 1 ≡ n
greatest_more n h = omega arith

less_by_one : (n : ℕ) → 1 < n → max (n - 1) 1 ≡ n - 1
less_by_one n h = omega arith

edge_less : (ts : Threads) (e : Entry) (k : Mode) → e.mode ≡ k → edges_of ts (tick_mode ts e k).mode ≡ one_less (edges_of ts k)
edge_less ts e Running i = ap (edges_of ts) i
edge_less ts e (AtJoin c) i = ap (edges_of ts) i
edge_less ts e (AtEdges n) i = go (nat_le n 1) refl
  where
    go : (b : Bool) → nat_le n 1 ≡ b → edges_of ts (cond b (released e) (record e { mode = AtEdges (n - 1) })).mode ≡ one_less (Some (max n 1))
    go true j = sym (ap (λ m. one_less (Some m)) (greatest_one n (leb-true n 1 j)))
    go false j =
        let more : 1 < n = leb-false n 1 j in
        ap Some (less_by_one n more) ∙ sym (ap (λ m. one_less (Some m)) (greatest_more n more) ∙ ap (λ b. cond b None (Some (n - 1))) j)
edge_less ts e (AtJoinStep c) i = go (is_some (map.get ts c)) refl
  where
    go : (b : Bool) → is_some (map.get ts c) ≡ b → edges_of ts (cond b e (released e)).mode ≡ one_less (cond b None (Some 1))
    go true j = ap (edges_of ts) i ∙ ap (λ b. cond {A = Option ℕ} b None (Some 1)) j
    go false j = refl
edge_less ts e (Spent l) i = ap (edges_of ts) i

runs_after : (ts : Threads) (e : Entry) (k : Mode) → e.mode ≡ k → is_running k ≡ false → is_running (tick_mode ts e k).mode ≡ is_last (edges_of ts k)
runs_after ts e Running i r = absurd cc
runs_after ts e (AtJoin c) i r = ap is_running i
runs_after ts e (AtEdges n) i r = go (nat_le n 1) refl
  where
    go : (b : Bool) → nat_le n 1 ≡ b → is_running (cond b (released e) (record e { mode = AtEdges (n - 1) })).mode ≡ nat_le (max n 1) 1
    go true j = sym (ap (λ m. nat_le m 1) (greatest_one n (leb-true n 1 j)))
    go false j = sym (ap (λ m. nat_le m 1) (greatest_more n (leb-false n 1 j)) ∙ j)
runs_after ts e (AtJoinStep c) i r = go (is_some (map.get ts c))
  where
    go : (b : Bool) → is_running (cond b e (released e)).mode ≡ is_last (cond b None (Some 1))
    go true = ap is_running i
    go false = refl
runs_after ts e (Spent l) i r = ap is_running i

-- who has one edge left runs after it, also where it ran before
last_runs : (ts : Threads) (e : Entry) (k : Mode) → edges_of ts k ≡ Some 1 → is_running (tick_mode ts e k).mode ≡ true
last_runs ts e Running h = absurd cc
last_runs ts e (AtJoin c) h = absurd cc
last_runs ts e (AtEdges n) h = go (nat_le n 1) refl
  where
    go : (b : Bool) → nat_le n 1 ≡ b → is_running (cond b (released e) (record e { mode = AtEdges (n - 1) })).mode ≡ true
    go true j = refl
    go false j = let more : 1 < n = leb-false n 1 j in let m : max n 1 ≡ 1 = cc in absurd (omega arith)
last_runs ts e (AtJoinStep c) h = go (is_some (map.get ts c)) h
  where
    go : (b : Bool) → cond {A = Option ℕ} b None (Some 1) ≡ Some 1 → is_running (cond b e (released e)).mode ≡ true
    go true j = absurd cc
    go false j = refl
last_runs ts e (Spent l) h = absurd cc

get_ticked : (ts : Threads) (q : Path) → map.get (tick ts) q ≡ option_map (λ (e : Entry). tick_mode ts e e.mode) (map.get ts q)
get_ticked ts q = get_all_changed (λ (e : Entry). tick_mode ts e e.mode) ts q

still_there : (ts : Threads) (c : Path) → is_some (map.get (tick ts) c) ≡ is_some (map.get ts c)
still_there ts c = ap is_some (get_ticked ts c) ∙ some_mapped (λ (e : Entry). tick_mode ts e e.mode) (map.get ts c)

-- each thread has one edge less
each_less : (ts : Threads) (q : Path) → edges_for (tick ts) q ≡ one_less (edges_for ts q)
each_less ts q = ap (edges_at (tick ts)) (get_ticked ts q) ∙ go (map.get ts q)
  where
    go : (o : Option Entry) → edges_at (tick ts) (option_map (λ (e : Entry). tick_mode ts e e.mode) o) ≡ one_less (edges_at ts o)
    go None = refl
    go (Some e) = of_alike ts (tick ts) (still_there ts) (tick_mode ts e e.mode).mode ∙ edge_less ts e e.mode refl

-- where no thread is at its last edge, nobody runs after it
quiet_after : (ts : Threads) → quiet ts ≡ true → ((q : Path) → is_last (edges_for ts q) ≡ false) → quiet (tick ts) ≡ true
quiet_after ts h more = quiet_where (tick ts) (λ q x is. go q x (map.get ts q) refl (sym (get_ticked ts q) ∙ is))
  where
    go : (q : Path) (x : Entry) (o : Option Entry) → map.get ts q ≡ o → option_map (λ (e : Entry). tick_mode ts e e.mode) o ≡ Some x → is_running x.mode ≡ false
    go q x None i j = absurd cc
    go q x (Some e) i j =
        let same : tick_mode ts e e.mode ≡ x = cc in
        ap (λ (y : Entry). is_running y.mode) (sym same) ∙ runs_after ts e e.mode refl (none_runs ts h q e i) ∙ sym (ap (λ o. is_last (edges_at ts o)) i) ∙ more q

not_last : (n : ℕ) (o : Option ℕ) → AtMost (Some (suc (suc n))) o → is_last o ≡ false
not_last n None h = refl
not_last n (Some m) h = go (nat_le m 1) refl
  where
    go : (b : Bool) → nat_le m 1 ≡ b → b ≡ false
    go true j = let le : m ≤ 1 = leb-true m 1 j in absurd (omega arith)
    go false j = refl

fewer_still : (n : ℕ) (o : Option ℕ) → AtMost (Some (suc (suc n))) o → AtMost (Some (suc n)) (one_less o)
fewer_still n None h = tt
fewer_still n (Some m) h = go (nat_le m 1)
  where
    go : (b : Bool) → AtMost (Some (suc n)) (cond b None (Some (m - 1)))
    go true = tt
    go false = omega arith

one_less_of : (n : ℕ) → one_less (Some (suc (suc n))) ≡ Some (suc n)
one_less_of n = go (nat_le (suc (suc n)) 1) refl
  where
    go : (b : Bool) → nat_le (suc (suc n)) 1 ≡ b → cond b None (Some (suc (suc n) - 1)) ≡ Some (suc n)
    go true j = let le : suc (suc n) ≤ 1 = leb-true (suc (suc n)) 1 j in absurd (omega arith)
    go false j = let e : suc (suc n) - 1 ≡ suc n = omega arith in ap Some e

pub counts_down : (ts : Threads) (n : ℕ) → quiet ts ≡ true → edges_ahead ts ≡ Some (suc (suc n)) → (quiet (tick ts) ≡ true) × (edges_ahead (tick ts) ≡ Some (suc n))
counts_down ts n h is = (quiet_after ts h (λ q. not_last n (edges_for ts q) (least.low q)), ahead_is (tick ts) (Some (suc n)) (record { low = λ q. subst (AtMost (Some (suc n))) (sym (each_less ts q)) (fewer_still n (edges_for ts q) (least.low q)); reached = go least.reached }))
  where
    least : IsLeast (edges_for ts) (Some (suc (suc n)))
    least = subst (IsLeast (edges_for ts)) is (least_is ts)

    go : (Some (suc (suc n)) ≡ None) ⊎ HasAt (edges_for ts) (Some (suc (suc n))) → (Some (suc n) ≡ None) ⊎ HasAt (edges_for (tick ts)) (Some (suc n))
    go (inl e) = absurd cc
    go (inr r) = inr (record { at = r.at; is = each_less ts r.at ∙ ap one_less r.is ∙ one_less_of n })

pub lets_go : (ts : Threads) → edges_ahead ts ≡ Some 1 → quiet (tick ts) ≡ false
lets_go ts is = go (subst (λ o. (o ≡ None) ⊎ HasAt (edges_for ts) o) is (least_is ts).reached)
  where
    here : (q : Path) (o : Option Entry) → map.get ts q ≡ o → edges_at ts o ≡ Some 1 → quiet (tick ts) ≡ false
    here q None i j = absurd cc
    here q (Some e) i j = loud_where (tick ts) q (tick_mode ts e e.mode) (get_ticked ts q ∙ ap (option_map (λ (e : Entry). tick_mode ts e e.mode)) i) (last_runs ts e e.mode j)

    go : ◌≡◌ {A = Option ℕ} (Some 1) None ⊎ HasAt (edges_for ts) (Some 1) → quiet (tick ts) ≡ false
    go (inl e) = absurd cc
    go (inr r) = here r.at (map.get ts r.at) refl r.is

pub none_ahead : (ts : Threads) → quiet ts ≡ true → edges_ahead ts ≡ None → (quiet (tick ts) ≡ true) × (edges_ahead (tick ts) ≡ None)
none_ahead ts h is = (quiet_after ts h (λ q. ap is_last (nothing q)), ahead_is (tick ts) None (record { low = λ q. subst (AtMost None) (sym (each_less ts q ∙ ap one_less (nothing q))) tt; reached = inl refl }))
  where
    no_more : (o : Option ℕ) → AtMost None o → o ≡ None
    no_more None h = refl
    no_more (Some n) h = absurd h

    nothing : (q : Path) → edges_for ts q ≡ None
    nothing q = no_more (edges_for ts q) ((subst (IsLeast (edges_for ts)) is (least_is ts)).low q)

-- ---- an act

module _ (ts : Threads) (p : Path) (e : Entry) (there : map.get ts p ≡ Some e) (runs : e.mode ≡ Running) where
  none_here : (q : Path) → eq_by_cmp path_cmp q p ≡ true → edges_for ts q ≡ None
  none_here q i = ap (edges_at ts) (get_alike ts p q i ∙ there) ∙ ap (edges_of ts) runs

  put_there : (x : Entry) (c : Path) → is_some (map.get (map.insert ts p x) c) ≡ is_some (map.get ts c)
  put_there x c = ap is_some (map.get-insert path_total ts p x c) ∙ go (eq_by_cmp path_cmp c p) refl
    where
      go : (b : Bool) → eq_by_cmp path_cmp c p ≡ b → is_some (cond b (Some x) (map.get ts c)) ≡ is_some (map.get ts c)
      go true i = sym (ap is_some (get_alike ts p c i ∙ there))
      go false i = refl

  each_put : (x : Entry) (q : Path) → edges_for (map.insert ts p x) q ≡ cond (eq_by_cmp path_cmp q p) (edges_of ts x.mode) (edges_for ts q)
  each_put x q = ap (edges_at (map.insert ts p x)) (map.get-insert path_total ts p x q) ∙ go (eq_by_cmp path_cmp q p)
    where
      alike : (o : Option Entry) → edges_at (map.insert ts p x) o ≡ edges_at ts o
      alike None = refl
      alike (Some y) = of_alike ts (map.insert ts p x) (put_there x) y.mode

      go : (b : Bool) → edges_at (map.insert ts p x) (cond b (Some x) (map.get ts q)) ≡ cond b (edges_of ts x.mode) (edges_for ts q)
      go true = of_alike ts (map.insert ts p x) (put_there x) x.mode
      go false = alike (map.get ts q)

  -- the lesser of what is ahead and of what the thread waits for
  put_ahead : (x : Entry) → edges_ahead (map.insert ts p x) ≡ sooner (edges_ahead ts) (edges_of ts x.mode)
  put_ahead x = ahead_is (map.insert ts p x) _ (least_put (edges_for ts) (edges_for (map.insert ts p x)) (edges_ahead ts) (edges_of ts x.mode) p none_here (each_put x) (least_is ts))

  waits_step_is : (a : Option ℕ) (b : Bool) → AtMost (Some 1) a → sooner a (cond b None (Some 1)) ≡ cond b a (Some 1)
  waits_step_is a true h = sooner_none a
  waits_step_is None false h = refl
  waits_step_is (Some n) false h = let m : min n 1 ≡ 1 = omega arith in ap Some m

  pub goes_on : (s : ThreadState) → GoesOn ts p s
  goes_on s = record {
    runs = put_ahead (standing s Running) ∙ sooner_none (edges_ahead ts);
    waits_edges = λ n. put_ahead (standing s (AtEdges n));
    waits_end = λ c. put_ahead (standing s (AtJoinStep c)) ∙ waits_step_is (edges_ahead ts) (is_some (map.get ts c)) (one_ahead ts);
    joins = λ c. put_ahead (standing s (AtJoin c)) ∙ sooner_none (edges_ahead ts);
    spent = λ l. put_ahead (standing s (Spent l)) ∙ sooner_none (edges_ahead ts);
    at_most = λ k. subst (λ o. AtMost o (edges_ahead ts)) (sym (put_ahead (standing s k))) (most_left (edges_ahead ts) (edges_of ts k));
  }

  -- ---- an end

  abbrev awaiting : Entry → Bool
  awaiting x = waits_step p x.mode

  -- after the end who waits for it at a joinstep runs after one edge
  ended_of : (k : Mode) → edges_of (map.remove ts p) k ≡ cond (waits_step p k) (Some 1) (edges_of ts k)
  ended_of Running = refl
  ended_of (AtJoin c) = refl
  ended_of (AtEdges n) = refl
  ended_of (AtJoinStep c) =
      ap (λ (o : Option Entry). cond {A = Option ℕ} (is_some o) None (Some 1)) (map.get-remove path_total ts p c) ∙ ap (λ b. cond {A = Option ℕ} (is_some (cond b None (map.get ts c))) None (Some 1)) ((eq_by_cmp_equiv path_total).symm c p)
      ∙ go (eq_by_cmp path_cmp p c)
    where
      go : (b : Bool) → cond {A = Option ℕ} (is_some (cond b None (map.get ts c))) None (Some 1) ≡ cond b (Some 1) (cond (is_some (map.get ts c)) None (Some 1))
      go true = refl
      go false = refl
  ended_of (Spent l) = refl

  -- what the threads of ts wait for after the end
  abbrev ended_at : Option Entry → Option ℕ
  ended_at None = None
  ended_at (Some x) = cond (waits_step p x.mode) (Some 1) (edges_of ts x.mode)

  each_ended : (q : Path) → edges_for (map.remove ts p) q ≡ ended_at (map.get ts q)
  each_ended q = ap (edges_at (map.remove ts p)) (map.get-remove path_total ts p q) ∙ go (eq_by_cmp path_cmp q p) refl
    where
      kept : (o : Option Entry) → edges_at (map.remove ts p) o ≡ ended_at o
      kept None = refl
      kept (Some x) = ended_of x.mode

      go : (b : Bool) → eq_by_cmp path_cmp q p ≡ b → edges_at (map.remove ts p) (cond b None (map.get ts q)) ≡ ended_at (map.get ts q)
      go true i = sym (ap ended_at (get_alike ts p q i ∙ there) ∙ ap (λ k. cond (waits_step p k) (Some 1) (edges_of ts k)) runs)
      go false i = kept (map.get ts q)

  ended_awaited : is_awaited ts p ≡ true → IsLeast (edges_for (map.remove ts p)) (Some 1)
  ended_awaited h =
      let r = passes ts awaiting h in
      record {
        low = λ q. one_at (map.remove ts p) (map.get (map.remove ts p) q);
        reached = inr (record { at = r.at; is = each_ended r.at ∙ ap ended_at r.there ∙ ap (λ b. cond b (Some 1) (edges_of ts r.entry.mode)) r.is });
      }

  ended_alone : is_awaited ts p ≡ false → IsLeast (edges_for (map.remove ts p)) (edges_ahead ts)
  ended_alone h = least_alike (edges_for ts) (edges_for (map.remove ts p)) (edges_ahead ts) (λ q. each_ended q ∙ go q (map.get ts q) refl) (least_is ts)
    where
      go : (q : Path) (o : Option Entry) → map.get ts q ≡ o → ended_at o ≡ edges_at ts o
      go q None i = refl
      go q (Some x) i = ap (λ b. cond b (Some 1) (edges_of ts x.mode)) (none_passes ts awaiting h q x i)

  pub ends : Ends ts p
  ends = go (is_awaited ts p) refl
    where
      made : (b : Bool) → is_awaited ts p ≡ b → edges_ahead (map.remove ts p) ≡ cond b (Some 1) (edges_ahead ts)
      made true i = ahead_is (map.remove ts p) (Some 1) (ended_awaited i)
      made false i = ahead_is (map.remove ts p) (edges_ahead ts) (ended_alone i)

      below : (b : Bool) → AtMost (cond b (Some 1) (edges_ahead ts)) (edges_ahead ts)
      below true = one_ahead ts
      below false = most_itself (edges_ahead ts)

      go : (b : Bool) → is_awaited ts p ≡ b → Ends ts p
      go b i = record { is = made b i ∙ sym (ap (λ b. cond b (Some 1) (edges_ahead ts)) i); at_most = subst (λ o. AtMost o (edges_ahead ts)) (sym (made b i)) (below b) }

-- ---- a birth and a wake

-- threads that wait for the same have the same ahead
alike_ahead : (ts us : Threads) → ((q : Path) → edges_for us q ≡ edges_for ts q) → edges_ahead us ≡ edges_ahead ts
alike_ahead ts us same = ahead_is us (edges_ahead ts) (least_alike (edges_for ts) (edges_for us) (edges_ahead ts) same (least_is ts))

module _ (ts : Threads) (c : Path) (s : ThreadState) (absent : map.get ts c ≡ None) (alone : is_awaited ts c ≡ false) where
  born_of : (k : Mode) → waits_step c k ≡ false → edges_of (map.insert ts c (started s)) k ≡ edges_of ts k
  born_of Running h = refl
  born_of (AtJoin d) h = refl
  born_of (AtEdges n) h = refl
  born_of (AtJoinStep d) h =
      ap (λ (o : Option Entry). cond {A = Option ℕ} (is_some o) None (Some 1)) (map.get-insert path_total ts c (started s) d ∙ ap (λ b. cond b (Some (started s)) (map.get ts d)) ((eq_by_cmp_equiv path_total).symm d c ∙ h))
  born_of (Spent l) h = refl

  each_born : (q : Path) → edges_for (map.insert ts c (started s)) q ≡ edges_for ts q
  each_born q = ap (edges_at (map.insert ts c (started s))) (map.get-insert path_total ts c (started s) q) ∙ go (eq_by_cmp path_cmp q c) refl
    where
      kept : (o : Option Entry) → map.get ts q ≡ o → edges_at (map.insert ts c (started s)) o ≡ edges_at ts o
      kept None i = refl
      kept (Some x) i = born_of x.mode (none_passes ts (λ (y : Entry). waits_step c y.mode) alone q x i)

      go : (b : Bool) → eq_by_cmp path_cmp q c ≡ b → edges_at (map.insert ts c (started s)) (cond b (Some (started s)) (map.get ts q)) ≡ edges_for ts q
      go true i = sym (ap (edges_at ts) (get_alike ts c q i ∙ absent))
      go false i = kept (map.get ts q) refl

  pub born : edges_ahead (map.insert ts c (started s)) ≡ edges_ahead ts
  born = alike_ahead ts (map.insert ts c (started s)) each_born

module _ (ts : Threads) (p c : Path) where
  woken_of : (k : Mode) → edges_of ts (woken_mode c k) ≡ edges_of ts k
  woken_of Running = refl
  woken_of (AtJoin d) = go (eq_by_cmp path_cmp c d)
    where
      go : (b : Bool) → edges_of ts (cond b Running (AtJoin d)) ≡ None
      go true = refl
      go false = refl
  woken_of (AtEdges n) = refl
  woken_of (AtJoinStep d) = refl
  woken_of (Spent l) = refl

  wake_there : (q : Path) → is_some (map.get (change (woken c) ts p) q) ≡ is_some (map.get ts q)
  wake_there q = ap is_some (get_change (woken c) ts p q) ∙ go (eq_by_cmp path_cmp q p) refl
    where
      go : (b : Bool) → eq_by_cmp path_cmp q p ≡ b → is_some (cond b (option_map (woken c) (map.get ts p)) (map.get ts q)) ≡ is_some (map.get ts q)
      go true i = some_mapped (woken c) (map.get ts p) ∙ sym (ap is_some (get_alike ts p q i))
      go false i = refl

  each_woken : (q : Path) → edges_for (change (woken c) ts p) q ≡ edges_for ts q
  each_woken q = ap (edges_at (change (woken c) ts p)) (get_change (woken c) ts p q) ∙ go (eq_by_cmp path_cmp q p) refl
    where
      same : (k : Mode) → edges_of (change (woken c) ts p) k ≡ edges_of ts k
      same k = of_alike ts (change (woken c) ts p) wake_there k

      changed : (o : Option Entry) → edges_at (change (woken c) ts p) (option_map (woken c) o) ≡ edges_at ts o
      changed None = refl
      changed (Some x) = same (woken_mode c x.mode) ∙ woken_of x.mode

      kept : (o : Option Entry) → edges_at (change (woken c) ts p) o ≡ edges_at ts o
      kept None = refl
      kept (Some x) = same x.mode

      go : (b : Bool) → eq_by_cmp path_cmp q p ≡ b → edges_at (change (woken c) ts p) (cond b (option_map (woken c) (map.get ts p)) (map.get ts q)) ≡ edges_for ts q
      go true i = changed (map.get ts p) ∙ sym (ap (edges_at ts) (get_alike ts p q i))
      go false i = kept (map.get ts q)

  pub wakes : edges_ahead (change (woken c) ts p) ≡ edges_ahead ts
  wakes = alike_ahead ts (change (woken c) ts p) each_woken
