-- The end of a time step: the verdict, the last sample and the next time step.
use Rattle.std.proofs.Common.{◌≡◌, ℕ, suc, List, [], ◌∷◌, ◌++◌, length, map, reverse, Bool, cond, ◌||◌, Option, Some, is_some, refl, sym, ap, ap₂, ◌∙◌}
use Rattle.std.specs.List.{list_any}
use Rattle.std.specs.FinMap as fin
use Rattle.std.proofs.lemmas.List.{reverse-append, length-reverse, length-map}
use Rattle.std.proofs.lemmas.List.Sorted.{IsPermutation-reverse, list_any-IsPermutation}
use Rattle.net_design.specs.Settling.{registers_after}
use Rattle.tl_threads.specs.Threads.{Inner}
use Rattle.tl_code.specs.Compiled.{Compiled}
use Rattle.bench_model.specs.Paths.{Path}
use Rattle.bench_model.specs.World.{World, Record}
use Rattle.bench_model.specs.Settle.{Limits, Ending, fails_now, or_spent, ended, limited, verdict}
use Rattle.bench_model.specs.Settle as settle
use Rattle.bench_model.specs.Settle.Ending.{failed}
use Rattle.bench_setting.specs.Settings.{circuit_of, port_numbers}
use Rattle.bench_run.specs.declared.observation.Observation.{Observation}
use Rattle.bench_run.specs.Told.{record_told}
use Rattle.bench_stands.specs.Laws.{SpentIsTold, CountIsTold, EdgeIsTold}
use Rattle.bench_stands.proofs.Told.{there_told}
use Rattle.bench_course.specs.Course.{CourseValue, fails_in}
use Rattle.bench_course.specs.Ending.{verdict_of}
use Rattle.bench_course.specs.Laws.{CourseStands, EndingIsVerdict}

-- ---- the verdict

fails_told : (time : ℕ) (xs : List Observation) → list_any (fails_in time) xs ≡ list_any (fails_now time) (map record_told xs)
fails_told time [] = refl
fails_told time (x ∷ xs) = ap (λ (b : Bool). fails_in time x || b) (fails_told time xs)

any_reversed : (test : Record → Bool) (rs : List Record) → list_any test (reverse rs) ≡ list_any test rs
any_reversed test rs = sym (list_any-IsPermutation test rs (reverse rs) (IsPermutation-reverse rs))

-- the verdict from what it looks at
abbrev judged : Limits → (failure : Bool) → (spent : Option (ℕ × Path × ℕ)) → (root : Bool) → (threads records actions time : ℕ) → Option Ending
judged l f s r n k a t = cond f (Some failed) (or_spent s (ended r (limited l n k a t)))

module _ (c : Compiled) (o : CourseValue) (w : World Inner) (s : CourseStands c o w) where
  same_failure : list_any (fails_in o.time) o.observations ≡ list_any (fails_now w.time) w.records
  same_failure =
      fails_told o.time o.observations ∙ ap (list_any (fails_now o.time)) s.records ∙ any_reversed (fails_now o.time) w.records
      ∙ ap (λ time. list_any (fails_now time) w.records) s.time

  same_root : is_some (fin.get o.threads []) ≡ is_some (fin.get w.threads [])
  same_root = there_told c [] (fin.get o.threads []) (fin.get w.threads []) (s.threads [])

  same_count : length o.observations ≡ length w.records
  same_count = sym (length-map o.observations record_told) ∙ ap length s.records ∙ length-reverse w.records

  same_verdict : SpentIsTold → CountIsTold → (l : Limits) → verdict_of l o ≡ verdict l w
  same_verdict spent count l =
      let f : Bool = list_any (fails_now w.time) w.records in
      let x : Option (ℕ × Path × ℕ) = settle.first_spent (fin.entries w.threads) in
      ap₂ (λ (b : Bool) (y : Option (ℕ × Path × ℕ)). judged l b y (is_some (fin.get o.threads [])) (fin.len o.threads) (length o.observations) o.actions o.time)
      same_failure (spent c o.threads w s.threads)
      ∙ ap₂ (λ (r : Bool) (n : ℕ). judged l f x r n (length o.observations) o.actions o.time) same_root (count c o.threads w s.threads)
      ∙ ap₂ (λ (n a : ℕ). judged l f x (is_some (fin.get w.threads [])) (fin.len w.threads) n a o.time) same_count s.actions
      ∙ ap (λ (n : ℕ). judged l f x (is_some (fin.get w.threads [])) (fin.len w.threads) (length w.records) w.actions n) s.time

  -- ---- the sample and the next time step

  same_samples : o.samples ++ port_numbers o.elab (circuit_of o.elab) o.inputs o.registers ∷ [] ≡ reverse (port_numbers o.elab (circuit_of o.elab) w.inputs w.registers ∷ w.samples)
  same_samples =
      ap₂ (λ (xs : List (List ℕ)) (row : List ℕ). xs ++ row ∷ []) s.samples (ap₂ (port_numbers o.elab (circuit_of o.elab)) s.inputs s.registers)
      ∙ sym (reverse-append (port_numbers o.elab (circuit_of o.elab) w.inputs w.registers ∷ []) w.samples)

pub ending_is_verdict : SpentIsTold → CountIsTold → EdgeIsTold → EndingIsVerdict
ending_is_verdict spent count edge k l c o w s = record {
  verdict = same_verdict c o w s spent count l;
  over = λ ending. record { records = s.records; samples = same_samples c o w s; time = s.time; actions = s.actions };
  next = record {
    inputs = s.inputs;
    registers = ap₂ (registers_after o.elab) s.inputs s.registers;
    threads = edge c o.threads w.threads s.threads;
    log = refl;
    records = s.records;
    samples = same_samples c o w s;
    time = ap suc s.time;
    actions = s.actions;
  };
}
