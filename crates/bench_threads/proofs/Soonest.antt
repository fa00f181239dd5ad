-- The edges ahead, by going over the threads that wait, from the last to the first.
use Rattle.std.proofs.Common.{◌≡◌, ℕ, suc, ◌-◌, ◌<◌, ◌≤◌, List, [], ◌∷◌, length, get_or, drop, drop-cons, drop_of_length-le, Bool, true, false, cond, None, Option, refl, sym, ap, subst, ◌∙◌, arith}
use Rattle.std.specs.FinMap as map
use Rattle.tb_base.specs.declared.path.Region.{Region}
use Rattle.bench_model.specs.Paths.{Path}
use Rattle.bench_threads.specs.declared.entry.Entry.{Entry}
use Rattle.bench_threads.specs.declared.entry.Mode.{Mode}
use Rattle.bench_threads.specs.declared.entry.Mode.TheVariants.{Running, AtJoin, AtEdges, AtJoinStep, Spent}
use Rattle.bench_threads.specs.declared.entry.Queue.TheVariants.{Waiting}
use Rattle.bench_threads.specs.Shelves.{Threads}
use Rattle.bench_threads.specs.Queues.{queue_of, queue_for, is_waiting, waiting_in, waiting_of}
use Rattle.bench_threads.specs.Houses.{Holds}
use Rattle.bench_threads.specs.Threads.{sooner, edges_of, soonest, edges_ahead}
use Rattle.bench_threads.proofs.Spending.{waiting_holds}

-- after how many edges the first of these threads runs
abbrev pub soonest_in : Threads → List Entry → Option ℕ
soonest_in ts [] = None
soonest_in ts (e ∷ es) = sooner (edges_of ts e.mode) (soonest_in ts es)

-- who runs waits for no edge
no_edges : (ts : Threads) (k : Mode) (r : Region) → is_waiting (queue_for k r) ≡ false → edges_of ts k ≡ None
no_edges ts Running r h = refl
no_edges ts (AtJoin c) r h = refl
no_edges ts (AtEdges n) r h = cc
no_edges ts (AtJoinStep c) r h = cc
no_edges ts (Spent l) r h = refl

waiting_soonest : (ts : Threads) (es : List (Path × Entry)) → soonest ts es ≡ soonest_in ts (waiting_in es)
waiting_soonest ts [] = refl
waiting_soonest ts (e ∷ es) = go (waiting_soonest ts es) (is_waiting (queue_of e.1)) refl
  where
    go : soonest ts es ≡ soonest_in ts (waiting_in es) → (b : Bool) → is_waiting (queue_of e.1) ≡ b → sooner (edges_of ts e.1.mode) (soonest ts es) ≡ soonest_in ts (cond b (e.1 ∷ waiting_in es) (waiting_in es))
    go rest true i = ap (sooner (edges_of ts e.1.mode)) rest
    go rest false i = ap (λ o. sooner o (soonest ts es)) (no_edges ts e.1.mode e.1.state.region i) ∙ rest

-- o is the answer for the threads that wait from place i on
pub record SoonFrom (ts : Threads) (i : ℕ) (o : Option ℕ) : Type 0 where
  pub within : i ≤ length (waiting_of ts)
  pub is : o ≡ soonest_in ts (drop i (waiting_of ts))

pub soon_start : (t w : Threads) (n : ℕ) → Holds Waiting t w → n ≡ length (map.values w) → SoonFrom t n None
soon_start t w n h e =
    let l : length (waiting_of t) ≡ length (map.values w) = ap (λ (l : List Entry). length l) (waiting_holds t w h) in
    record { within = omega arith; is = sym (ap (soonest_in t) (drop_of_length-le {A = Entry} (waiting_of t) {i = n} (omega arith))) }

pub soon_next : (t w : Threads) (i : ℕ) (o m : Option ℕ) (e : Entry) → Holds Waiting t w → i < length (waiting_of t) → SoonFrom t (suc i) o → ((d : Entry) → e ≡ get_or (map.values w) i d) → m ≡ sooner (edges_of t e.mode) o → SoonFrom t i m
soon_next t w i o m e h lt s item is =
    let here : get_or (waiting_of t) i e ≡ e = ap (λ (l : List Entry). get_or l i e) (waiting_holds t w h) ∙ sym (item e) in
    record {
      within = omega arith;
      is = is ∙ ap (sooner (edges_of t e.mode)) s.is ∙ sym (ap (soonest_in t) (drop-cons (waiting_of t) i e lt) ∙ ap (λ (y : Entry). soonest_in t (y ∷ drop (suc i) (waiting_of t))) here);
    }

pub soon_less : (t w : Threads) (i : ℕ) (o m : Option ℕ) (e : Entry) → Holds Waiting t w → 0 < i → SoonFrom t i o → ((d : Entry) → e ≡ get_or (map.values w) (i - 1) d) → m ≡ sooner (edges_of t e.mode) o → SoonFrom t (i - 1) m
soon_less t w i o m e h pos s item is = let within = s.within in soon_next t w (i - 1) o m e h (omega arith) (subst (λ j. SoonFrom t j o) {x = i} {y = suc (i - 1)} (omega arith) s) item is

pub soon_done : (t : Threads) (i : ℕ) (o : Option ℕ) → i ≤ 0 → SoonFrom t i o → o ≡ edges_ahead t
soon_done t i o le s = let e : i ≡ 0 = omega arith in s.is ∙ ap (λ j. soonest_in t (drop j (waiting_of t))) e ∙ sym (waiting_soonest t (map.entries t))
