-- Who runs beside a thread, for whom somebody waits at a joinstep, and that a spent thread is named.
use Rattle.std.proofs.Common.{◌≡◌, ℕ, ◌-◌, ◌≤◌, List, [], ◌∷◌, length, nat_eq, nat_lt, Bool, true, false, cond, not, ◌&&◌, ◌||◌, is_some, Some, None, Option, refl, sym, ap, ◌∙◌, arith}
use Rattle.std.proofs.lemmas.Bool.Decides.{nat_tests}
use Rattle.std.specs.Borrow.{Bor}
use Rattle.std.specs.List.{list_any}
use Rattle.std.specs.Option.{option_copied}
use Rattle.std.specs.FinMap as map
use Rattle.std.specs.FinMap.{find}
use Rattle.std.specs.Ordering.{eq_by_cmp}
use Rattle.tb_base.specs.declared.path.Region.{Region}
use Rattle.tl_threads.specs.Threads.{region_number}
use Rattle.bench_model.specs.Paths.{Path, path_cmp}
use Rattle.bench_threads.specs.declared.entry.Entry.{Entry}
use Rattle.bench_threads.specs.declared.entry.Mode.{Mode}
use Rattle.bench_threads.specs.declared.entry.Mode.TheVariants.{Running, AtJoin, AtEdges, AtJoinStep, Spent}
use Rattle.bench_threads.specs.declared.entry.Queue.TheVariants.{Drivers, Monitors, Waiting}
use Rattle.bench_threads.specs.Modes.{is_running, waits_step}
use Rattle.bench_threads.specs.Shelves.{Threads, is_nil}
use Rattle.bench_threads.specs.Queues.{queue_of, queue_for, is_waiting, waiting_in}
use Rattle.bench_threads.specs.Houses.{Holds, Houses}
use Rattle.bench_threads.specs.Threads.{quiet, lesser, spent_of, first_spent, is_awaited}
use Rattle.bench_threads.specs.Laws.{Runs, QuietIsNobody, SpentIsNamed}
use Rattle.bench_threads.proofs.Keyed.{path_total}
use Rattle.bench_threads.proofs.Houses.{holds_remove}
use Rattle.bench_threads.proofs.Acting.{quiet_is}
use Rattle.bench_threads.proofs.Spending.{waiting_holds}
use Rattle.bench_threads.proofs.Ahead.{passes, loud_where}

-- ---- who is left without one

nil_length : (es : List (Path × Entry)) → is_nil es ≡ nat_eq (length es) 0
nil_length [] = refl
nil_length (e ∷ es) = grind (arith, nat_tests)

nil_removed : (m : Threads) (p : Path) → is_nil (map.entries (map.remove m p)) ≡ nat_eq (cond (is_some (map.get m p)) (map.len m - 1) (map.len m)) 0
nil_removed m p = nil_length (map.entries (map.remove m p)) ∙ ap (λ n. nat_eq n 0) (sym (map.len-entries (map.remove m p)) ∙ map.len-remove path_total m p)

pub none_of_none : (m : Threads) (p : Path) → map.len m ≡ 0 → is_nil (map.entries (map.remove m p)) ≡ true
none_of_none m p e = nil_removed m p ∙ ap (λ n. nat_eq (cond (is_some (map.get m p)) (n - 1) n) 0) e ∙ go (is_some (map.get m p))
  where
    go : (b : Bool) → nat_eq (cond b (0 - 1) 0) 0 ≡ true
    go true = refl
    go false = refl

pub none_of_one : (m : Threads) (p : Path) → map.len m ≡ 1 → is_nil (map.entries (map.remove m p)) ≡ is_some (map.get m p)
none_of_one m p e = nil_removed m p ∙ ap (λ n. nat_eq (cond (is_some (map.get m p)) (n - 1) n) 0) e ∙ go (is_some (map.get m p))
  where
    go : (b : Bool) → nat_eq (cond b (1 - 1) 1) 0 ≡ b
    go true = refl
    go false = refl

pub some_of_more : (m : Threads) (p : Path) → 2 ≤ map.len m → is_nil (map.entries (map.remove m p)) ≡ false
some_of_more m p le = nil_removed m p ∙ go (is_some (map.get m p)) (map.len m) le
  where
    go : (b : Bool) (n : ℕ) → 2 ≤ n → nat_eq (cond b (n - 1) n) 0 ≡ false
    go true n le = grind (arith, nat_tests)
    go false n le = grind (arith, nat_tests)

pub copied_there : (o : Option (Bor Entry)) → is_some (option_copied o) ≡ is_some o
copied_there None = refl
copied_there (Some e) = refl

-- ---- who runs beside a thread

pub alone_is : (t d m w : Threads) (p : Path) → Houses t d m w → quiet (map.remove t p) ≡ (is_nil (map.entries (map.remove d p)) && is_nil (map.entries (map.remove m p)))
alone_is t d m w p h = quiet_is (map.remove t p) (map.remove d p) (map.remove m p) (map.remove w p) (record {
  drivers = holds_remove Drivers t d p h.drivers;
  monitors = holds_remove Monitors t m p h.monitors;
  waiting = holds_remove Waiting t w p h.waiting;
})

-- ---- for whom somebody waits at a joinstep

only_waiting : (c : Path) (k : Mode) (r : Region) → is_waiting (queue_for k r) ≡ false → waits_step c k ≡ false
only_waiting c Running r h = refl
only_waiting c (AtJoin d) r h = refl
only_waiting c (AtEdges n) r h = refl
only_waiting c (AtJoinStep d) r h = cc
only_waiting c (Spent l) r h = refl

any_waiting : (c : Path) (es : List (Path × Entry)) → list_any (λ (e : Path × Entry). waits_step c e.1.mode) es ≡ list_any (λ (e : Entry). waits_step c e.mode) (waiting_in es)
any_waiting c [] = refl
any_waiting c (e ∷ es) = go (any_waiting c es) (is_waiting (queue_of e.1)) refl
  where
    go : list_any (λ (e : Path × Entry). waits_step c e.1.mode) es ≡ list_any (λ (e : Entry). waits_step c e.mode) (waiting_in es) → (b : Bool) → is_waiting (queue_of e.1) ≡ b
        → (waits_step c e.1.mode || list_any (λ (e : Path × Entry). waits_step c e.1.mode) es) ≡ list_any (λ (e : Entry). waits_step c e.mode) (cond b (e.1 ∷ waiting_in es) (waiting_in es))
    go rest true i = ap (λ b. waits_step c e.1.mode || b) rest
    go rest false i = ap (λ b. b || list_any (λ (e : Path × Entry). waits_step c e.1.mode) es) (only_waiting c e.1.mode e.1.state.region i) ∙ rest

pub awaited_is : (t w : Threads) (c : Path) → Holds Waiting t w → is_awaited t c ≡ list_any (λ (e : Entry). waits_step c e.mode) (map.values w)
awaited_is t w c h = any_waiting c (map.entries t) ∙ ap (list_any (λ (e : Entry). waits_step c e.mode)) (waiting_holds t w h)

-- ---- nobody may act exactly where no thread runs

turned : (b : Bool) → not b ≡ false → b ≡ true
turned true h = refl
turned false h = cc

pub running_is : (k : Mode) → is_running k ≡ true → k ≡ Running
running_is Running h = refl
running_is (AtJoin c) h = cc
running_is (AtEdges n) h = cc
running_is (AtJoinStep c) h = cc
running_is (Spent l) h = cc

pub quiet_is_nobody : QuietIsNobody
quiet_is_nobody ts = (
  λ loud. let r = passes ts (λ (e : Entry). is_running e.mode) (turned _ loud) in record { at = r.at; entry = r.entry; there = r.there; is = running_is r.entry.mode r.is },
  λ r. loud_where ts r.at r.entry r.there (ap is_running r.is),
)

-- ---- a spent thread is named

seen_first : (x : ℕ × Path × ℕ) (o : Option (ℕ × Path × ℕ)) → is_some (lesser (Some x) o) ≡ true
seen_first x None = refl
seen_first x (Some y) = go (nat_lt y.0 x.0)
  where
    go : (b : Bool) → is_some (cond b (Some y) (Some x)) ≡ true
    go true = refl
    go false = refl

seen_later : (a o : Option (ℕ × Path × ℕ)) → is_some o ≡ true → is_some (lesser a o) ≡ true
seen_later None o h = h
seen_later (Some x) o h = seen_first x o

spent_found : (es : List (Path × Entry)) (q : Path) (x : Entry) (l : ℕ) → find path_cmp q es ≡ Some x → x.mode ≡ Spent l → is_some (first_spent es) ≡ true
spent_found [] q x l h k = absurd cc
spent_found (e ∷ es) q x l h k = go (λ i. spent_found es q x l i k) (eq_by_cmp path_cmp q e.0) h
  where
    go : (find path_cmp q es ≡ Some x → is_some (first_spent es) ≡ true) → (b : Bool) → cond b (Some e.1) (find path_cmp q es) ≡ Some x
        → is_some (lesser (spent_of (region_number e.1.state.region) e.1.state.path e.1.mode) (first_spent es)) ≡ true
    go rest true i =
        let same : e.1 ≡ x = cc in
        ap (λ (k : Mode). is_some (lesser (spent_of (region_number e.1.state.region) e.1.state.path k) (first_spent es))) (ap (λ (y : Entry). y.mode) same ∙ k)
        ∙ seen_first (region_number e.1.state.region, e.1.state.path, l) (first_spent es)
    go rest false i = seen_later (spent_of (region_number e.1.state.region) e.1.state.path e.1.mode) (first_spent es) (rest i)

pub spent_is_named : SpentIsNamed
spent_is_named ts p e l there is = spent_found (map.entries ts) p e l (sym (map.get-entries ts p) ∙ there) is
