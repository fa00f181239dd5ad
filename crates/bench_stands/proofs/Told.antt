-- What a table tells of the threads for which it stands: who runs, who is enabled, who is spent, and how many there are.
use Rattle.std.proofs.Common.{◌≡◌, ℕ, suc, List, [], ◌∷◌, length, not, ◌&&◌, nat_lt, Option, Some, None, is_some, refl, sym, ap, ap₂, ◌∙◌}
use Rattle.std.specs.Bool.{Decides}
use Rattle.std.specs.FinMap as map
use Rattle.bench_model.specs.Paths.{Path}
use Rattle.bench_model.specs.World as m
use Rattle.bench_model.specs.World.{World, Enabled}
use Rattle.bench_model.specs.World.Mode.{running, at_join, at_edges, at_joinstep, spent}
use Rattle.bench_model.specs.Settle as settle
use Rattle.bench_model.specs.Orders as orders
use Rattle.tl_threads.specs.Threads.{Inner, region_number}
use Rattle.tl_code.specs.Compiled.{Compiled}
use Rattle.bench_threads.specs.declared.entry.Entry.{Entry}
use Rattle.bench_threads.specs.Modes.{is_running}
use Rattle.bench_threads.specs.Shelves.{Threads}
use Rattle.bench_threads.specs.Threads as table
use Rattle.bench_stands.specs.Standing.{mode_told, EntryStands, StandsAt, TableStands}
use Rattle.bench_stands.specs.Laws.{QuietIsTold, EnabledIsTold, SpentIsTold, CountIsTold}
use Rattle.bench_stands.proofs.Pairs.{Paired, paired, any_told}
use Rattle.bench_stands.proofs.Enabling.{enabled_decided}

-- ---- who runs
running_mode : (p : Path) (k : m.Mode) → is_running (mode_told p k) ≡ settle.is_running k
running_mode p running = refl
running_mode p (at_join k) = refl
running_mode p (at_edges n) = refl
running_mode p (at_joinstep k) = refl
running_mode p (spent l) = refl

module _ (c : Compiled) where
  pub runs_told : (p : Path) (e : Entry) (t : m.Thread Inner) → EntryStands c p e t → is_running e.mode ≡ settle.is_running t.mode
  runs_told p e t s = ap is_running s.mode ∙ running_mode p t.mode

  -- one is there where the other is
  pub there_told : (p : Path) (a : Option Entry) (b : Option (m.Thread Inner)) → StandsAt c p a b → is_some a ≡ is_some b
  there_told p None None s = refl
  there_told p None (Some t) s = absurd s
  there_told p (Some e) None s = absurd s
  there_told p (Some e) (Some t) s = refl

  module _ (ts : Threads) (w : World Inner) (s : TableStands c ts w.threads) where
    pairs : Paired c ts w.threads (map.entries ts) (map.entries w.threads)
    pairs = paired c ts w.threads s

    quiet_same : table.quiet ts ≡ settle.quiet w
    quiet_same = ap not (any_told c ts w.threads (λ e. is_running e.mode) (λ t. settle.is_running t.mode) runs_told (map.entries ts) (map.entries w.threads) pairs)

    -- ---- who is enabled
    acts_told : (p : Path) (e : Entry) (t : m.Thread Inner) → EntryStands c p e t → table.may_act ts e ≡ orders.is_enabled w (Some t)
    acts_told p e t x =
        ap₂ (λ a b. a && not b) (runs_told p e t x)
        (any_told c ts w.threads
        (λ u. is_running u.mode && nat_lt (region_number u.state.region) (region_number e.state.region))
        (λ u. settle.is_running u.mode && nat_lt u.region t.region)
        (λ q u v y. ap₂ (λ a b. a && b) (runs_told q u v y) (ap₂ nat_lt y.region x.region))
        (map.entries ts) (map.entries w.threads) pairs)

    enabled_at : (p : Path) (a : Option Entry) (b : Option (m.Thread Inner)) → StandsAt c p a b → table.is_enabled ts a ≡ orders.is_enabled w b
    enabled_at p None None x = refl
    enabled_at p None (Some t) x = absurd x
    enabled_at p (Some e) None x = absurd x
    enabled_at p (Some e) (Some t) x = acts_told p e t x

    pub enabled_same : (p : Path) → table.is_enabled ts (map.get ts p) ≡ orders.is_enabled w (map.get w.threads p)
    enabled_same p = enabled_at p (map.get ts p) (map.get w.threads p) (s p)

    enabled_decides : (p : Path) → Decides (table.is_enabled ts (map.get ts p)) (Enabled w p)
    enabled_decides p =
        let d = enabled_decided Inner w p in
        (λ h. d.0 (sym (enabled_same p) ∙ h), λ e. enabled_same p ∙ d.1 e)

pub quiet_told : QuietIsTold
quiet_told c ts w s = quiet_same c ts w s

pub enabled_told : EnabledIsTold
enabled_told c ts w s p = record { same = enabled_same c ts w s p; decides = enabled_decides c ts w s p }

-- ---- who is spent
spent_mode : (r : ℕ) (p q : Path) (k : m.Mode) → table.spent_of r p (mode_told q k) ≡ settle.spent_of r p k
spent_mode r p q running = refl
spent_mode r p q (at_join k) = refl
spent_mode r p q (at_edges n) = refl
spent_mode r p q (at_joinstep k) = refl
spent_mode r p q (spent l) = refl

lesser_same : (a b : Option (ℕ × Path × ℕ)) → table.lesser a b ≡ settle.lesser a b
lesser_same None b = refl
lesser_same (Some x) None = refl
lesser_same (Some x) (Some y) = refl

first_spent_same : (c : Compiled) (ts : Threads) (ws : m.Threads Inner) (es : List (Path × Entry)) (us : List (Path × m.Thread Inner)) → Paired c ts ws es us
    → table.first_spent es ≡ settle.first_spent us
first_spent_same c ts ws [] [] h = refl
first_spent_same c ts ws [] (t ∷ us) h = absurd h
first_spent_same c ts ws (e ∷ es) [] h = absurd h
first_spent_same c ts ws (e ∷ es) (t ∷ us) h =
    lesser_same (table.spent_of (region_number e.1.state.region) e.1.state.path e.1.mode) (table.first_spent es)
    ∙ ap₂ settle.lesser
    (ap₂ (λ r p. table.spent_of r p e.1.mode) h.0.stands.region (h.0.stands.path ∙ h.0.same)
    ∙ ap (table.spent_of t.1.region t.0) h.0.stands.mode ∙ spent_mode t.1.region t.0 e.0 t.1.mode)
    (first_spent_same c ts ws es us h.1)

pub spent_told : SpentIsTold
spent_told c ts w s = first_spent_same c ts w.threads (map.entries ts) (map.entries w.threads) (paired c ts w.threads s)

-- ---- how many there are
length_same : (c : Compiled) (ts : Threads) (ws : m.Threads Inner) (es : List (Path × Entry)) (us : List (Path × m.Thread Inner)) → Paired c ts ws es us → length es ≡ length us
length_same c ts ws [] [] h = refl
length_same c ts ws [] (t ∷ us) h = absurd h
length_same c ts ws (e ∷ es) [] h = absurd h
length_same c ts ws (e ∷ es) (t ∷ us) h = ap suc (length_same c ts ws es us h.1)

pub count_told : CountIsTold
count_told c ts w s = map.len-entries ts ∙ length_same c ts w.threads (map.entries ts) (map.entries w.threads) (paired c ts w.threads s) ∙ sym (map.len-entries w.threads)
