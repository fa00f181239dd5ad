-- Worlds that are reached are bounded.
use Rattle.std.proofs.Common.{◌≡◌, ℕ, suc, ◌+◌, ◌<◌, ◌≤◌, max, List, [], ◌∷◌, ◌++◌, length, length-append, Bool, true, false, cond, Option, Some, None, is_some, nat_eq, nat_le, nat_lt, slice_index_or, refl, sym, ap, subst, ◌∙◌, arith, leb-false, le_trans}
use Rattle.std.proofs.Math.Nat.{le-max_left, le-max_right}
use Rattle.std.proofs.lemmas.Bool.{ltb-false}
use Rattle.std.proofs.lemmas.List.{length-set}
use Rattle.std.proofs.lemmas.List.Elements.{All-nil, All-cons, All-append}
use Rattle.std.specs.List.{All, list_any}
use Rattle.std.specs.FinMap as map
use Rattle.net_core.specs.declared.tree.Elab.{Elab}
use Rattle.net_design.specs.Settling.{settled_at, kept_after}
use Rattle.bench_model.specs.Paths.{Path}
use Rattle.bench_model.specs.World.{Model, Move, Thread, World, Mode, Record, Enabled, act_of, answer, is_there, newborn, self_after, went, inputs_after, record_of, recorded, threads_after}
use Rattle.bench_model.specs.World.Move.{poke, peek, expect, fork, join, arrive, joinstep, spend, end}
use Rattle.bench_model.specs.World.Mode.{running, at_join, at_edges, at_joinstep, spent}
use Rattle.bench_model.specs.Settle.{Limits, Setting, Ending, fails_now, first_spent, limited, ended, or_spent, verdict, next_step}
use Rattle.bench_model.specs.Orders.{first_world}
use Rattle.bench_model.specs.TwoMoves.{Reached}
use Rattle.bench_reach.specs.Bounds.{ThreadBounded, Bounded, AtAnyTest}
use Rattle.bench_reach.proofs.Reaching.{reached_by_induction, room_by_induction}
use Rattle.bench_reach.proofs.Origins.{Core, Came, acted, begun, stayed, came, Before, before_edge, after_len, edge_len, only_root, first_len}

-- ---- the limits, where a time step doesn't end the run
record WithinLimits (l : Limits) (threads records actions time : ℕ) : Type 0 where
  threads_few : threads ≤ l.threads
  records_few : records ≤ l.records
  actions_few : actions ≤ l.run_actions
  time_below : suc time < l.time_steps

limited_none : (l : Limits) (t r a n : ℕ) → limited l t r a n ≡ None → WithinLimits l t r a n
limited_none l t r a n e = go (nat_lt l.threads t) (nat_lt l.records r) (nat_lt l.run_actions a) (nat_le l.time_steps (suc n)) refl refl refl refl e
  where
    go : (p q s u : Bool) → nat_lt l.threads t ≡ p → nat_lt l.records r ≡ q → nat_lt l.run_actions a ≡ s → nat_le l.time_steps (suc n) ≡ u
        → cond p (Some Ending.thread_limit) (cond q (Some Ending.record_limit) (cond s (Some Ending.action_limit) (cond u (Some Ending.time_limit) None))) ≡ None → WithinLimits l t r a n
    go true q s u f g h i k = absurd (cc)
    go false true s u f g h i k = absurd (cc)
    go false false true u f g h i k = absurd (cc)
    go false false false true f g h i k = absurd (cc)
    go false false false false f g h i k = record {
      threads_few = ltb-false l.threads t f;
      records_few = ltb-false l.records r g;
      actions_few = ltb-false l.run_actions a h;
      time_below = leb-false l.time_steps (suc n) i;
    }

goes_on : {I : Type 0} (l : Limits) (w : World I) → verdict l w ≡ None → WithinLimits l (map.len w.threads) (length w.records) w.actions w.time
goes_on l w e = go (list_any (fails_now w.time) w.records) (first_spent (map.entries w.threads)) (is_some (map.get w.threads [])) e
  where
    go : (b : Bool) (o : Option (ℕ × Path × ℕ)) (root : Bool)
        → cond b (Some Ending.failed) (or_spent o (ended root (limited l (map.len w.threads) (length w.records) w.actions w.time))) ≡ None → WithinLimits l (map.len w.threads) (length w.records) w.actions w.time
    go true o root h = absurd (cc)
    go false (Some x) root h = absurd (cc)
    go false None false h = absurd (cc)
    go false None true h = limited_none l (map.len w.threads) (length w.records) w.actions w.time h

-- ---- threads
module _ (I : Type 0) where
  abbrev held : ℕ → Option (Thread I) → Type 0
  held n None = Unit {0}
  held n (Some t) = ThreadBounded n t

  went_bounded : (n : ℕ) (t : Thread I) (i : I) (mode : Mode) (joined : Option ℕ) (fs : List ℕ) → length fs ≤ suc (length t.forked) → ThreadBounded n t → ThreadBounded (suc n) (went t i mode joined fs)
  went_bounded n t i mode joined fs le b = let f : length t.forked ≤ t.acts = b.forks in let g : t.acts ≤ n = b.acts in record { acts = omega arith; forks = omega arith }

  one_more : (fs : List ℕ) (r : ℕ) → length (fs ++ r ∷ []) ≤ suc (length fs)
  one_more fs r = omega (arith, length-append fs (r ∷ []))

  -- an act is one more
  self_bounded : (n : ℕ) (t : Thread I) (m : Move I) (x : ℕ) (b : Bool) → ThreadBounded n t → held (suc n) (self_after t m x b)
  self_bounded n t (poke l p v i) x b h = went_bounded n t (i x) running None t.forked (omega arith) h
  self_bounded n t (peek l s c i) x b h = went_bounded n t (i x) running None t.forked (omega arith) h
  self_bounded n t (expect l s v i) x b h = went_bounded n t i running None t.forked (omega arith) h
  self_bounded n t (fork l r c i) x b h = went_bounded n t i running None (t.forked ++ r ∷ []) (one_more t.forked r) h
  self_bounded n t (join l k i) x b h = went_bounded n t i (cond b (at_join k) running) (Some k) t.forked (omega arith) h
  self_bounded n t (arrive l k i) x b h = went_bounded n t i (at_edges k) None t.forked (omega arith) h
  self_bounded n t (joinstep l k i) x b h = went_bounded n t i (at_joinstep k) None t.forked (omega arith) h
  self_bounded n t (spend l) x b h = went_bounded n t t.inner (spent l) None t.forked (omega arith) h
  self_bounded n t end x b h = tt

  born_bounded : (n : ℕ) (a q : Path) (t u : Thread I) (m : Move I) → newborn a t m ≡ Some (q, u) → ThreadBounded n u
  born_bounded n a q t u (fork l r c i) e =
      let z : Thread I = record { region = r; mode = running; inner = c; forked = []; acts = 0; joined = None } in
      let same : z ≡ u = ap (λ (y : Option (Path × Thread I)). elim y [ None ↦ z | Some w ↦ w.1 ]) e in
      subst (λ (y : Thread I). ThreadBounded n y) same (record { acts = omega arith; forks = omega arith })
  born_bounded n a q t u _ e = absurd (cc)

  core_bounded : (n m : ℕ) (v u : Thread I) → n ≤ m → Core v u → ThreadBounded n v → ThreadBounded m u
  core_bounded n m v u le c b = let f : length v.forked ≤ v.acts = b.forks in let g : v.acts ≤ n = b.acts in record { acts = omega (arith, c.acts); forks = omega (arith, c.acts, ap length c.forked) }

-- ---- records
module _ (I : Type 0) (time : ℕ) (p : Path) (t : Thread I) where
  one_record : (r : Record) → r.time ≤ time → All (λ (s : Record). s.time ≤ time) (r ∷ [])
  one_record r le = All-cons (λ (s : Record). s.time ≤ time) r [] le (All-nil (λ (s : Record). s.time ≤ time))

  recorded_few : (m : Move I) (a : ℕ) → length (recorded time p t m a) ≤ 1
  recorded_few (peek l s b i) a = go b
    where
      go : (b : Bool) → length (cond b (record_of time p t l s a None ∷ []) []) ≤ 1
      go true = omega arith
      go false = omega arith
  recorded_few (expect l s v i) a = go (nat_eq a v)
    where
      go : (b : Bool) → length (cond b [] (record_of time p t l s a (Some v) ∷ [])) ≤ 1
      go true = omega arith
      go false = omega arith
  recorded_few _ a = omega arith

  recorded_now : (m : Move I) (a : ℕ) → All (λ (s : Record). s.time ≤ time) (recorded time p t m a)
  recorded_now (peek l s b i) a = go b
    where
      go : (b : Bool) → All (λ (s : Record). s.time ≤ time) (cond b (record_of time p t l s a None ∷ []) [])
      go true = one_record (record_of time p t l s a None) (omega arith)
      go false = All-nil (λ (s : Record). s.time ≤ time)
  recorded_now (expect l s v i) a = go (nat_eq a v)
    where
      go : (b : Bool) → All (λ (s : Record). s.time ≤ time) (cond b [] (record_of time p t l s a (Some v) ∷ []))
      go true = All-nil (λ (s : Record). s.time ≤ time)
      go false = one_record (record_of time p t l s a (Some v)) (omega arith)
  recorded_now _ a = All-nil (λ (s : Record). s.time ≤ time)

inputs_len : (M : Model) (ins : List ℕ) (m : Move M.Inner) → length (inputs_after M ins m) ≡ length ins
inputs_len M ins (poke l p v i) = length-set ins p (M.fitted p v)
inputs_len M ins _ = refl

-- ---- worlds

-- an edge leaves as many registers, where there are as many inputs and registers as at first
abbrev pub KeepsRegisters : Setting → Type 0
KeepsRegisters S = (ins regs : List ℕ) → length ins ≡ length S.inputs → length regs ≡ length S.registers → length (S.edge ins regs) ≡ length S.registers

module _ (S : Setting) (keeps : KeepsRegisters S) where
  -- what acts and edges keep
  record Within (w : World S.model.Inner) : Type 0 where
    each : (p : Path) (t : Thread S.model.Inner) → map.get w.threads p ≡ Some t → ThreadBounded w.actions t
    threads : map.len w.threads ≤ suc w.actions
    records : length w.records ≤ w.actions
    log : length w.log ≤ w.actions
    actions : w.actions ≤ S.limits.run_actions + length w.log
    threads_so_far : map.len w.threads ≤ max 1 S.limits.threads + length w.log
    records_so_far : length w.records ≤ S.limits.records + length w.log
    time : w.time < max 1 S.limits.time_steps
    samples : length w.samples ≡ w.time
    times : All (λ r. r.time ≤ w.time) w.records
    inputs : length w.inputs ≡ length S.inputs
    registers : length w.registers ≡ length S.registers

  first_within : Within (first_world S)
  first_within =
      let one : map.len (first_world S).threads ≤ 1 = first_len S in
      let many : 1 ≤ max 1 S.limits.threads = le-max_left 1 S.limits.threads in
      record {
        each = λ p t h. subst (λ (y : Thread S.model.Inner). ThreadBounded 0 y) (sym (only_root S p t h)) (record { acts = omega arith; forks = omega arith });
        threads = one;
        records = omega arith;
        log = omega arith;
        actions = omega arith;
        threads_so_far = omega arith;
        records_so_far = omega arith;
        time = le-max_left 1 S.limits.time_steps;
        samples = refl;
        times = All-nil (λ (r : Record). r.time ≤ 0);
        inputs = refl;
        registers = refl;
      }

  module _ (w : World S.model.Inner) (W : Within w) where
    after_each : (p : Path) (ta : Thread S.model.Inner) → map.get w.threads p ≡ Some ta → (m : Move S.model.Inner) (x : ℕ) (q : Path) (u : Thread S.model.Inner) → Came w.threads p ta m x q u → ThreadBounded (suc w.actions) u
    after_each p ta h m x q u (acted e) = subst (λ o. held S.model.Inner (suc w.actions) o) e (self_bounded S.model.Inner w.actions ta m x (is_there w.threads p m) (W.each p ta h))
    after_each p ta h m x q u (begun e) = born_bounded S.model.Inner (suc w.actions) p q ta u m e
    after_each p ta h m x q u (stayed v e c) = core_bounded S.model.Inner w.actions (suc w.actions) v u (omega arith) c (W.each q v e)

    act_within : (p : Path) (e : Enabled w p) → Within (act_of S.model w p (Some e.thread))
    act_within p e =
        let ta : Thread S.model.Inner = e.thread in
        let m : Move S.model.Inner = S.model.next ta.inner in
        let x : ℕ = answer S.model w.inputs w.registers m in
        let grown : map.len (threads_after w.threads p ta m x) ≤ suc (map.len w.threads) = after_len S.model.Inner w.threads p ta m x e.here in
        let few : length (recorded w.time p ta m x) ≤ 1 = recorded_few S.model.Inner w.time p ta m x in
        let sum : length (recorded w.time p ta m x ++ w.records) ≡ length (recorded w.time p ta m x) + length w.records = length-append (recorded w.time p ta m x) w.records in
        record {
          each = λ q u h. after_each p ta e.here m x q u (came S.model.Inner w.threads p ta m x q u h);
          threads = (let b : map.len w.threads ≤ suc w.actions = W.threads in omega arith);
          records = (let b : length w.records ≤ w.actions = W.records in omega arith);
          log = (let b : length w.log ≤ w.actions = W.log in omega arith);
          actions = (let b : w.actions ≤ S.limits.run_actions + length w.log = W.actions in omega arith);
          threads_so_far = (let b : map.len w.threads ≤ max 1 S.limits.threads + length w.log = W.threads_so_far in omega arith);
          records_so_far = (let b : length w.records ≤ S.limits.records + length w.log = W.records_so_far in omega arith);
          time = W.time;
          samples = W.samples;
          times = All-append (λ (r : Record). r.time ≤ w.time) (recorded w.time p ta m x) w.records (recorded_now S.model.Inner w.time p ta m x) W.times;
          inputs = inputs_len S.model w.inputs m ∙ W.inputs;
          registers = W.registers;
        }

    edge_each : (q : Path) (u : Thread S.model.Inner) → Before w.threads q u → ThreadBounded w.actions u
    edge_each q u b = core_bounded S.model.Inner w.actions w.actions b.old u (omega arith) b.core (W.each q b.old b.here)

    edge_within : verdict S.limits w ≡ None → Within (next_step S w)
    edge_within e =
        let l : WithinLimits S.limits (map.len w.threads) (length w.records) w.actions w.time = goes_on S.limits w e in
        let same : map.len (next_step S w).threads ≡ map.len w.threads = edge_len S.model.Inner w.threads in
        record {
          each = λ q u h. edge_each q u (before_edge S.model.Inner w.threads q u h);
          threads = subst (λ n. n ≤ suc w.actions) (sym same) W.threads;
          records = W.records;
          log = omega arith;
          actions = (let b : w.actions ≤ S.limits.run_actions = l.actions_few in omega arith);
          threads_so_far = (let b : map.len w.threads ≤ S.limits.threads = l.threads_few in let c : S.limits.threads ≤ max 1 S.limits.threads = le-max_right 1 S.limits.threads in omega arith);
          records_so_far = (let b : length w.records ≤ S.limits.records = l.records_few in omega arith);
          time = le_trans l.time_below (le-max_right 1 S.limits.time_steps);
          samples = ap suc W.samples;
          times = λ k d h. let b : (slice_index_or w.records k d).time ≤ w.time = W.times k d h in omega arith;
          inputs = W.inputs;
          registers = keeps w.inputs w.registers W.inputs W.registers;
        }

  -- WORLDS THAT ARE REACHED ARE BOUNDED
  pub worlds_bounded : (w : World S.model.Inner) → Reached S w → Bounded S w
  worlds_bounded w r =
      let W : Within w = reached_by_induction S Within (record { first = first_within; act = λ v p e h. act_within v h p e; edge = λ v e h. edge_within v h e }) w r in
      record {
        each = W.each;
        threads = W.threads;
        records = W.records;
        log = W.log;
        room = room_by_induction S w r;
        actions = W.actions;
        threads_so_far = W.threads_so_far;
        records_so_far = W.records_so_far;
        time = W.time;
        samples = W.samples;
        times = W.times;
        inputs = W.inputs;
        registers = W.registers;
      }

-- ---- at any test
kept_len : (e : Elab) (V : ℕ → ℕ) (x : ℕ) (regs : List ℕ) → length (kept_after e V x regs) ≡ length regs
kept_len e V x [] = refl
kept_len e V x (r ∷ rs) = ap suc (kept_len e V (x + 1) rs)

-- AN EDGE OF A CIRCUIT leaves as many registers
pub keeps_registers : AtAnyTest KeepsRegisters
keeps_registers e k limits ins regs i r = kept_len e (settled_at e ins regs) 0 regs ∙ r
