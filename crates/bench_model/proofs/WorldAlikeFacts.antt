-- Alike worlds behave alike.
use Rattle.std.proofs.Common.{◌≡◌, suc, List, ◌++◌, Option, Some, None, refl, sym, ap, ap₂, subst, ◌∙◌, IsPermutation}
use Rattle.std.specs.FinMap as map
use Rattle.std.proofs.lemmas.List.Sorted.{IsPermutation-refl, IsPermutation-sym, IsPermutation-trans, IsPermutation-append_right}
use Rattle.bench_model.specs.Paths.{Path}
use Rattle.bench_model.specs.World.{Model, Move, Thread, World, Record, Enabled, CleanAct, WorldAlike, act, act_of, answer, threads_after, inputs_after, recorded, event_of}
use Rattle.bench_model.proofs.LogFacts.{log_refl, log_sym, log_trans, log_push, no_conflict_alike}

module _ (I : Type 0) where
  pub world_refl : (w : World I) → WorldAlike w w
  world_refl w = record { inputs = refl; registers = refl; threads = refl; log = log_refl w.log; records = IsPermutation-refl w.records; samples = refl; time = refl; actions = refl }

  pub world_sym : (w v : World I) → WorldAlike w v → WorldAlike v w
  world_sym w v a = record {
    inputs = sym a.inputs;
    registers = sym a.registers;
    threads = sym a.threads;
    log = log_sym w.log v.log a.log;
    records = IsPermutation-sym w.records v.records a.records;
    samples = sym a.samples;
    time = sym a.time;
    actions = sym a.actions;
  }

  pub world_trans : (w v u : World I) → WorldAlike w v → WorldAlike v u → WorldAlike w u
  world_trans w v u a b = record {
    inputs = a.inputs ∙ b.inputs;
    registers = a.registers ∙ b.registers;
    threads = a.threads ∙ b.threads;
    log = log_trans w.log v.log u.log a.log b.log;
    records = IsPermutation-trans w.records v.records u.records a.records b.records;
    samples = a.samples ∙ b.samples;
    time = a.time ∙ b.time;
    actions = a.actions ∙ b.actions;
  }

  pub enabled_alike : (w v : World I) (p : Path) → WorldAlike w v → Enabled w p → Enabled v p
  enabled_alike w v p a e = record {
    thread = e.thread;
    here = ap (λ ts. map.get ts p) (sym a.threads) ∙ e.here;
    runs = e.runs;
    least = λ q u h r. e.least q u (ap (λ ts. map.get ts q) a.threads ∙ h) r;
  }

module _ (M : Model) where
  pub clean_alike : (w v : World M.Inner) (p : Path) → WorldAlike w v → CleanAct M w p → CleanAct M v p
  clean_alike w v p a c t h = no_conflict_alike M.cone w.log v.log (event_of p t (M.next t.inner)) a.log (c t (ap (λ ts. map.get ts p) a.threads ∙ h))

  permuted : (xs ys us vs : List Record) → xs ≡ ys → IsPermutation us vs → IsPermutation (xs ++ us) (ys ++ vs)
  permuted xs ys us vs e h = subst (λ zs. IsPermutation (xs ++ us) (zs ++ vs)) e (IsPermutation-append_right xs us vs h)

  act_of_alike : (w v : World M.Inner) (p : Path) (o : Option (Thread M.Inner)) → WorldAlike w v → WorldAlike (act_of M w p o) (act_of M v p o)
  act_of_alike w v p None a = a
  act_of_alike w v p (Some t) a =
      let m : Move M.Inner = M.next t.inner in
      let x : answer M w.inputs w.registers m ≡ answer M v.inputs v.registers m = ap₂ (λ i r. answer M i r m) a.inputs a.registers in
      record {
        inputs = ap (λ i. inputs_after M i m) a.inputs;
        registers = a.registers;
        threads = ap₂ (λ ts n. threads_after ts p t m n) a.threads x;
        log = log_push w.log v.log (event_of p t m) a.log;
        records = permuted (recorded w.time p t m (answer M w.inputs w.registers m)) (recorded v.time p t m (answer M v.inputs v.registers m)) w.records v.records (ap₂ (λ n k. recorded n p t m k) a.time x) a.records;
        samples = a.samples;
        time = a.time;
        actions = ap suc a.actions;
      }

  pub act_alike : (w v : World M.Inner) (p : Path) → WorldAlike w v → WorldAlike (act M w p) (act M v p)
  act_alike w v p a = subst (λ o. WorldAlike (act M w p) (act_of M v p o)) (ap (λ ts. map.get ts p) a.threads) (act_of_alike w v p (map.get w.threads p) a)
