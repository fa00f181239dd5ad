-- The first spent thread is the first one of the Main region that waits, or else the first one of the Monitor region.
use Rattle.std.proofs.Common.{◌≡◌, ℕ, List, [], ◌∷◌, map, Bool, true, false, cond, Some, None, Option, option_map, refl, sym, ap, ◌∙◌}
use Rattle.std.specs.FinMap as map
use Rattle.tb_base.specs.declared.path.Region.{Region}
use Rattle.tb_base.specs.declared.path.Region.TheVariants.{Main, Monitor}
use Rattle.tl_threads.specs.Threads.{region_number}
use Rattle.bench_model.specs.Paths.{Path}
use Rattle.bench_threads.specs.declared.entry.Entry.{Entry}
use Rattle.bench_threads.specs.declared.entry.Mode.{Mode}
use Rattle.bench_threads.specs.declared.entry.Mode.TheVariants.{Running, AtJoin, AtEdges, AtJoinStep, Spent}
use Rattle.bench_threads.specs.declared.entry.Queue.TheVariants.{Waiting}
use Rattle.bench_threads.specs.Shelves.{Threads}
use Rattle.bench_threads.specs.Queues.{queue_of, queue_for, is_queue, is_waiting, waiting_in, waiting_of}
use Rattle.bench_threads.specs.Houses.{Houses, Holds}
use Rattle.bench_threads.specs.Threads.{lesser, spent_of, first_spent, spent_named, spent_line, line_in, or_line, spent_in, same_region}
use Rattle.bench_threads.proofs.Submap.{passed}
use Rattle.bench_threads.proofs.Houses.{held}

-- of the first in each region, the one that is named
pick : Option (Path × ℕ) → Option (Path × ℕ) → Option (ℕ × Path × ℕ)
pick (Some x) o = Some (0, x.0, x.1)
pick None (Some y) = Some (1, y.0, y.1)
pick None None = None

spent_step : (k : Mode) (r : Region) (p : Path) (a b : Option (Path × ℕ)) → lesser (spent_of (region_number r) p k) (pick a b)
    ≡ pick (cond (is_waiting (queue_for k r)) (or_line p (cond (same_region Main r) (spent_line k) None) a) a) (cond (is_waiting (queue_for k r)) (or_line p (cond (same_region Monitor r) (spent_line k) None) b) b)
unfolding pick
spent_step Running Main p a b = refl
spent_step Running Monitor p a b = refl
spent_step (AtJoin c) Main p a b = refl
spent_step (AtJoin c) Monitor p a b = refl
spent_step (AtEdges n) Main p a b = refl
spent_step (AtEdges n) Monitor p a b = refl
spent_step (AtJoinStep c) Main p a b = refl
spent_step (AtJoinStep c) Monitor p a b = refl
spent_step (Spent l) Main p (Some x) b = refl
spent_step (Spent l) Main p None (Some y) = refl
spent_step (Spent l) Main p None None = refl
spent_step (Spent l) Monitor p (Some x) b = refl
spent_step (Spent l) Monitor p None (Some y) = refl
spent_step (Spent l) Monitor p None None = refl

pushed : (r : Region) (b : Bool) (e : Entry) (es : List Entry) → spent_in r (cond b (e ∷ es) es) ≡ cond b (or_line e.state.path (line_in r e) (spent_in r es)) (spent_in r es)
pushed r true e es = refl
pushed r false e es = refl

none_spent : None ≡ pick None None
unfolding pick
none_spent = refl

spent_list : (es : List (Path × Entry)) → first_spent es ≡ pick (spent_in Main (waiting_in es)) (spent_in Monitor (waiting_in es))
spent_list [] = none_spent
spent_list (e ∷ es) =
    ap (lesser (spent_of (region_number e.1.state.region) e.1.state.path e.1.mode)) (spent_list es)
    ∙ spent_step e.1.mode e.1.state.region e.1.state.path (spent_in Main (waiting_in es)) (spent_in Monitor (waiting_in es))
    ∙ sym (ap (λ o. pick o (spent_in Monitor (cond (is_waiting (queue_of e.1)) (e.1 ∷ waiting_in es) (waiting_in es)))) (pushed Main (is_waiting (queue_of e.1)) e.1 (waiting_in es))
    ∙ ap (pick (cond (is_waiting (queue_of e.1)) (or_line e.1.state.path (line_in Main e.1) (spent_in Main (waiting_in es))) (spent_in Main (waiting_in es)))) (pushed Monitor (is_waiting (queue_of e.1)) e.1 (waiting_in es)))

waits_passed : (es : List (Path × Entry)) → waiting_in es ≡ map (λ (e : Path × Entry). e.1) (passed (λ e. is_queue Waiting (queue_of e)) es)
waits_passed [] = refl
waits_passed (e ∷ es) = go (is_waiting (queue_of e.1)) (waits_passed es)
  where
    go : (b : Bool) → waiting_in es ≡ map (λ (e : Path × Entry). e.1) (passed (λ e. is_queue Waiting (queue_of e)) es)
        → cond b (e.1 ∷ waiting_in es) (waiting_in es) ≡ map (λ (e : Path × Entry). e.1) (cond b (e ∷ passed (λ e. is_queue Waiting (queue_of e)) es) (passed (λ e. is_queue Waiting (queue_of e)) es))
    go true h = ap (λ l. e.1 ∷ l) h
    go false h = h

pub waiting_holds : (t w : Threads) → Holds Waiting t w → waiting_of t ≡ map.values w
waiting_holds t w h = waits_passed (map.entries t) ∙ ap (map (λ (e : Path × Entry). e.1)) (sym (held Waiting t w h))

pub waiting_is : (t d m w : Threads) → Houses t d m w → waiting_of t ≡ map.values w
waiting_is t d m w h = waiting_holds t w h.waiting

pub spent_here : (t d m w : Threads) → Houses t d m w → (x : Path × ℕ) → spent_in Main (map.values w) ≡ Some x → option_map spent_named (first_spent (map.entries t)) ≡ Some x
unfolding pick
spent_here t d m w h x is =
    ap (option_map spent_named) (spent_list (map.entries t))
    ∙ ap (λ l. option_map spent_named (pick (spent_in Main l) (spent_in Monitor l))) (waiting_is t d m w h)
    ∙ ap (λ o. option_map spent_named (pick o (spent_in Monitor (map.values w)))) is

pub spent_else : (t d m w : Threads) → Houses t d m w → spent_in Main (map.values w) ≡ None → option_map spent_named (first_spent (map.entries t)) ≡ spent_in Monitor (map.values w)
unfolding pick
spent_else t d m w h is =
    ap (option_map spent_named) (spent_list (map.entries t))
    ∙ ap (λ l. option_map spent_named (pick (spent_in Main l) (spent_in Monitor l))) (waiting_is t d m w h)
    ∙ ap (λ o. option_map spent_named (pick o (spent_in Monitor (map.values w)))) is ∙ go (spent_in Monitor (map.values w))
  where
    go : (o : Option (Path × ℕ)) → option_map spent_named (pick None o) ≡ o
    go None = refl
    go (Some x) = refl
