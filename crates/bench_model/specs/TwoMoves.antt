-- The laws of two moves: what is claimed of alike worlds, and of two threads that are enabled.
use Rattle.std.specs.Prelude.{◌≡◌, ◌↔◌, ℕ, List, ◌∷◌, false, Some}
use Rattle.std.specs.FinMap as map
use Rattle.order_laws.specs.Runs.{going, SettleAlike}
use Rattle.bench_model.specs.Paths.{Path}
use Rattle.bench_model.specs.Log.{Event, Name, name, Leads, link, clash}
use Rattle.bench_model.specs.World.{Thread, World, Enabled, WorldAlike, act, event_of}
use Rattle.bench_model.specs.Settle.{Setting, steps, settle}
use Rattle.bench_model.specs.Orders.{Permits, replay}

-- some permitted order leads to the world w
abbrev pub Reached : (S : Setting) → World S.model.Inner → Type 0
Reached S w = (order : List Path) × (times : List ℕ) × Permits S order × (replay S order ≡ going times w)

-- the next event of a thread
abbrev pub next_event : (S : Setting) → Path → Thread S.model.Inner → Event
next_event S p t = event_of p t (S.model.next t.inner)

-- two worlds have the same enabled paths, an act of one path gives alike worlds, and settling gives alike worlds or alike ends
pub record BehaveAlike (S : Setting) (w v : World S.model.Inner) : Type 0 where
  pub enabled : (p : Path) → Enabled w p ↔ Enabled v p
  pub acts : (p : Path) → WorldAlike (act S.model w p) (act S.model v p)
  pub settles : SettleAlike (steps S) (settle S w) (settle S v)

-- ALIKE WORLDS BEHAVE ALIKE
abbrev pub AlikeWorlds : Setting → Type 0
AlikeWorlds S = (w v : World S.model.Inner) → WorldAlike w v → BehaveAlike S w v

-- AN ENABLED THREAD STAYS ENABLED, as the same thread and so with the same next action, until it acts
abbrev pub StaysEnabled : Setting → Type 0
StaysEnabled S = (w : World S.model.Inner) → Reached S w → (a b : Path) → (a ≡ b → ⊥) → Enabled w a → Enabled w b →
    Enabled (act S.model w a) b × (map.get (act S.model w a).threads b ≡ map.get w.threads b)

-- what is said of two enabled threads a and b
pub record Exchange (S : Setting) (w : World S.model.Inner) (a b : Path) (ta tb : Thread S.model.Inner) : Type 0 where
  -- the next event of a is not before that of b
  pub apart : Leads (next_event S a ta ∷ w.log) (name w.log (next_event S a ta)) (next_event S b tb) → ⊥
  -- the events before the next event of b are the same after the act of a, and so are those that it conflicts with
  pub same_before : (n : Name) → Leads w.log n (next_event S b tb) ↔ Leads (next_event S a ta ∷ w.log) n (next_event S b tb)
  -- where the two don't clash, either order gives alike worlds
  pub alike : clash S.model.cone (next_event S a ta).kind (next_event S b tb).kind ≡ false →
      WorldAlike (act S.model (act S.model w a) b) (act S.model (act S.model w b) a)

-- TWO ENABLED THREADS MAY ACT IN EITHER ORDER where their next events don't clash
abbrev pub Exchanges : Setting → Type 0
Exchanges S = (w : World S.model.Inner) → Reached S w → (a b : Path) → (a ≡ b → ⊥) → (ea : Enabled w a) (eb : Enabled w b) → Exchange S w a b ea.thread eb.thread

-- A THREAD THAT IS ENABLED AFTER AN ACT, to whose next event that act has no link, was enabled before it, as the same thread
abbrev pub EnabledBefore : Setting → Type 0
EnabledBefore S = (w : World S.model.Inner) → Reached S w → (a b : Path) → (a ≡ b → ⊥) → (ea : Enabled w a) (eb : Enabled (act S.model w a) b) →
    link (next_event S a ea.thread) (next_event S b eb.thread) ≡ false → Enabled w b × (map.get w.threads b ≡ Some eb.thread)
