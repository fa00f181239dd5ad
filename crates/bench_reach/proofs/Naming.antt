-- Worlds that a test over a circuit reaches name ports of the circuit.
use Rattle.std.proofs.Common.{◌≡◌, ℕ, List, [], ◌∷◌, Bool, true, false, cond, Option, Some, None, nat_eq, sym, ap, subst}
use Rattle.std.proofs.lemmas.List.Elements.{All-nil, All-cons, All-append}
use Rattle.std.specs.List.{All}
use Rattle.std.specs.FinMap as map
use Rattle.net_core.specs.declared.tree.Elab.{Elab}
use Rattle.net_design.specs.Naming.{in_cone}
use Rattle.net_design.specs.Settling.{number_at, registers_after}
use Rattle.bench_model.specs.Paths.{Path}
use Rattle.bench_model.specs.Log.{Event}
use Rattle.bench_model.specs.World.{Move, Thread, World, Record, Enabled, act_of, answer, is_there, newborn, self_after, event_of, kind_of, record_of, recorded}
use Rattle.bench_model.specs.World.Move.{poke, peek, expect, fork, join, arrive, joinstep, spend, end}
use Rattle.bench_model.specs.World.Mode.{running}
use Rattle.bench_model.specs.Settle.{Limits, Setting, next_step}
use Rattle.bench_model.specs.Orders.{first_world}
use Rattle.bench_model.specs.TwoMoves.{Reached}
use Rattle.tl_threads.specs.Bodies.{Body, test_body}
use Rattle.tl_threads.specs.Threads.{Inner, next, most_local, root_of}
use Rattle.tl_threads.specs.Regions.{threads_over}
use Rattle.bench_setting.specs.Settings.{circuit_of, fitted_to, port_numbers, zeros}
use Rattle.bench_reach.specs.Naming.{IsPort, BodyNames, MoveNames, KindNames, WorldsNamePorts}
use Rattle.bench_reach.proofs.Reaching.{reached_by_induction}
use Rattle.bench_reach.proofs.Origins.{Core, Came, acted, begun, stayed, came, Before, before_edge, only_root}
use Rattle.bench_reach.proofs.Bodies.{bodies_name_ports}
use Rattle.bench_reach.proofs.Moves.{FramesName, GoesOn, Naming, moves_name}

module _ (e : Elab) where
  -- ---- threads
  abbrev held : Option (Thread Inner) → Type 0
  held None = Unit {0}
  held (Some t) = FramesName e t.inner.rest

  self_names : (t : Thread Inner) (m : Move Inner) (x : ℕ) (b : Bool) → FramesName e t.inner.rest → GoesOn e m → held (self_after t m x b)
  self_names t (poke l p v i) x b h g = g x
  self_names t (peek l s c i) x b h g = g x
  self_names t (expect l s v i) x b h g = g
  self_names t (fork l r c i) x b h g = g.1
  self_names t (join l k i) x b h g = g
  self_names t (arrive l n i) x b h g = g
  self_names t (joinstep l k i) x b h g = g
  self_names t (spend l) x b h g = h
  self_names t end x b h g = tt

  born_names : (a q : Path) (t u : Thread Inner) (m : Move Inner) → GoesOn e m → newborn a t m ≡ Some (q, u) → FramesName e u.inner.rest
  born_names a q t u (fork l r c i) g h =
      let z : Thread Inner = record { region = r; mode = running; inner = c; forked = []; acts = 0; joined = None } in
      let same : z ≡ u = ap (λ (y : Option (Path × Thread Inner)). elim y [ None ↦ z | Some w ↦ w.1 ]) h in
      subst (λ (y : Thread Inner). FramesName e y.inner.rest) same g.0
  born_names a q t u _ g h = absurd (cc)

  core_names : (v u : Thread Inner) → Core v u → FramesName e v.inner.rest → FramesName e u.inner.rest
  core_names v u c h = subst (λ (i : Inner). FramesName e i.rest) (sym c.inner) h

  -- ---- events and records
  kind_names : (p : Path) (t : Thread Inner) (m : Move Inner) → MoveNames e m → KindNames e (kind_of p t m)
  kind_names p t (poke l q v i) h = h
  kind_names p t (peek l s b i) h = h
  kind_names p t (expect l s v i) h = h
  kind_names p t _ h = tt

  one_names : (r : Record) → IsPort e r.signal → All (λ (s : Record). IsPort e s.signal) (r ∷ [])
  one_names r h = All-cons (λ (s : Record). IsPort e s.signal) r [] h (All-nil (λ (s : Record). IsPort e s.signal))

  recorded_names : (time : ℕ) (p : Path) (t : Thread Inner) (m : Move Inner) (a : ℕ) → MoveNames e m → All (λ (r : Record). IsPort e r.signal) (recorded time p t m a)
  recorded_names time p t (peek l s b i) a h = go b
    where
      go : (b : Bool) → All (λ (r : Record). IsPort e r.signal) (cond b (record_of time p t l s a None ∷ []) [])
      go true = one_names (record_of time p t l s a None) h
      go false = All-nil (λ (r : Record). IsPort e r.signal)
  recorded_names time p t (expect l s v i) a h = go (nat_eq a v)
    where
      go : (b : Bool) → All (λ (r : Record). IsPort e r.signal) (cond b [] (record_of time p t l s a (Some v) ∷ []))
      go true = All-nil (λ (r : Record). IsPort e r.signal)
      go false = one_names (record_of time p t l s a (Some v)) h
  recorded_names time p t _ a h = All-nil (λ (r : Record). IsPort e r.signal)

-- ---- worlds of threads over a circuit, whose root names ports
module _ (e : Elab) (limit : ℕ) (fitted : (port raw : ℕ) → ℕ) (reads : (inputs registers : List ℕ) (signal : ℕ) → ℕ) (cone : (signal port : ℕ) → Bool) (limits : Limits)
    (edge sample : (inputs registers : List ℕ) → List ℕ) (ins regs : List ℕ) (body : Body) (root_names : BodyNames e body) where
  abbrev setting : Setting
  setting = record { model = threads_over limit fitted reads cone; limits = limits; edge = edge; sample = sample; inputs = ins; registers = regs; root = root_of body }

  -- what acts and edges keep
  pub record Named (w : World Inner) : Type 0 where
    pub threads : (p : Path) (t : Thread Inner) → map.get w.threads p ≡ Some t → FramesName e t.inner.rest
    pub events : All (λ (d : Event). KindNames e d.kind) w.log
    pub records : All (λ (r : Record). IsPort e r.signal) w.records

  first_named : Named (first_world setting)
  first_named = record {
    threads = λ p t h. subst (λ (y : Thread Inner). FramesName e y.inner.rest) (sym (only_root setting p t h)) (root_names, tt);
    events = All-nil (λ (d : Event). KindNames e d.kind);
    records = All-nil (λ (r : Record). IsPort e r.signal);
  }

  after_named : (w : World Inner) → Named w → (p : Path) (ta : Thread Inner) → map.get w.threads p ≡ Some ta → (m : Move Inner) → GoesOn e m → (x : ℕ) (q : Path) (u : Thread Inner) → Came w.threads p ta m x q u → FramesName e u.inner.rest
  after_named w N p ta h m g x q u (acted f) = subst (λ o. held e o) f (self_names e ta m x (is_there w.threads p m) (N.threads p ta h) g)
  after_named w N p ta h m g x q u (begun f) = born_names e p q ta u m g f
  after_named w N p ta h m g x q u (stayed v f c) = core_names e v u c (N.threads q v f)

  act_named : (w : World Inner) (p : Path) (a : Enabled w p) → Named w → Named (act_of setting.model w p (Some a.thread))
  act_named w p a N =
      let ta : Thread Inner = a.thread in
      let m : Move Inner = next limit ta.inner in
      let x : ℕ = answer setting.model w.inputs w.registers m in
      let n : Naming e m = moves_name e limit ta.inner (N.threads p ta a.here) in
      record {
        threads = λ q u h. after_named w N p ta a.here m n.behind x q u (came Inner w.threads p ta m x q u h);
        events = All-cons (λ (d : Event). KindNames e d.kind) (event_of p ta m) w.log (kind_names e p ta m n.now) N.events;
        records = All-append (λ (r : Record). IsPort e r.signal) (recorded w.time p ta m x) w.records (recorded_names e w.time p ta m x n.now) N.records;
      }

  before_named : (w : World Inner) → Named w → (q : Path) (u : Thread Inner) → Before w.threads q u → FramesName e u.inner.rest
  before_named w N q u b = core_names e b.old u b.core (N.threads q b.old b.here)

  edge_named : (w : World Inner) → Named w → Named (next_step setting w)
  edge_named w N = record {
    threads = λ q u h. before_named w N q u (before_edge Inner w.threads q u h);
    events = All-nil (λ (d : Event). KindNames e d.kind);
    records = N.records;
  }

  pub reached_named : (w : World Inner) → Reached setting w → Named w
  reached_named w r = reached_by_induction setting Named (record { first = first_named; act = act_named; edge = λ v h N. edge_named v N }) w r

-- WORLDS NAME PORTS
pub worlds_name_ports : WorldsNamePorts
worlds_name_ports e k limits t w r =
    let N = reached_named e most_local (fitted_to e) (number_at e) (in_cone e) limits (registers_after e) (port_numbers e (circuit_of e)) (zeros e) (zeros e) (test_body k.ports k.test) (bodies_name_ports e k t) w r in
    record { moves = λ p u h. (moves_name e most_local u.inner (N.threads p u h)).now; events = N.events; records = N.records }
