-- Worked examples: reports of runs that a reader can follow.
use Rattle.std.specs.Prelude.{ℕ, ◌≡◌, ◌-◌, ◌^◌, true, false, ◌++◌, List, [], ◌∷◌, codes}
use Rattle.net_core.specs.declared.tree.Elab.{Elab}
use Rattle.net_core.specs.Examples as circuits
use Rattle.net_core.specs.PathExamples.{two_ways}
use Rattle.bench_model.specs.Log.{Event}
use Rattle.bench_model.specs.Log.Kind.{pokes, peeks, expects}
use Rattle.bench_model.specs.World.{Record}
use Rattle.bench_model.specs.Settle.{Ending}
use Rattle.bench_model.specs.Settle.Ending.{failed, spent_at, finished, thread_limit, record_limit, action_limit, time_limit}
use Rattle.bench_model.specs.Orders.{Outcome, Result, conflict, step_limit, settles}
use Rattle.bench_model.specs.Examples.{event, peeked, failed_expect}
use Rattle.run_text.specs.Report.{report_text, number_text}

-- the inputs a and b of eight bits, and the output out, their sum; their numbers are 0, 1 and 2
abbrev pub adder : Elab
adder = circuits.adder 8 9

-- a run with so many actions
abbrev pub run : List Record → (actions : ℕ) → Outcome → Result
run records actions outcome = record { records = records; samples = []; actions = actions; outcome = outcome }

-- a run without records
abbrev pub ended : (time : ℕ) → Ending → Result
ended time ending = run [] 5 (settles time ending)

-- the threads /0 and /1 clash
abbrev pub clashed : (first second : Event) → Result
clashed first second = run [] 6 (conflict 0 first second)

-- the root thread peeks out and a, and /1 expects a number of out, all in time step 0; /0 peeks b in time step 1
abbrev pub seen : List Record
seen =
    peeked 0 0 [] 2 3 2 7 ∷ peeked 0 0 [] 3 4 0 3 ∷ failed_expect 0 0 (1 ∷ []) 0 5 2 7 8
    ∷ peeked 1 1 (0 ∷ []) 0 6 1 4 ∷ []

pub record ReportExamples : Type 0 where
  -- the records of two time steps, and how many there were
  pub of_a_finish : report_text adder (run (peeked 0 0 [] 2 3 2 7 ∷ peeked 1 0 [] 5 6 0 3 ∷ []) 7 (settles 1 finished)) false
      ≡ codes "circuit W\n" ++ (codes "0 / 3 peek out = 7\n" ++ (codes "1 / 6 peek a = 3\n"
      ++ codes "finished at 1 after 7 actions, 2 records\n"))
  pub of_a_failure : report_text adder (run seen 9 (settles 1 failed)) false
      ≡ codes "circuit W\n" ++ (codes "0 / 3 peek out = 7\n" ++ (codes "0 / 4 peek a = 3\n" ++ (codes "0 /1 5 expect out = 7 wanted 8\n"
      ++ (codes "1 /0 6 peek b = 4\n" ++ codes "failed at 1 after 9 actions, 4 records\n"))))
  -- a brief report has the failure alone, and counts all records
  pub of_a_failure_in_brief : report_text adder (run seen 9 (settles 1 failed)) true
      ≡ codes "circuit W\n" ++ (codes "0 /1 5 expect out = 7 wanted 8\n" ++ codes "failed at 1 after 9 actions, 4 records\n")
  -- of two pokes there is no chain
  pub of_two_pokes : report_text adder (clashed (event 0 (0 ∷ []) 1 (pokes 0)) (event 0 (1 ∷ []) 2 (pokes 0))) false
      ≡ codes "circuit W\n" ++ (codes "conflict at 0\n"
      ++ (codes "first /0 line 1 poke a\n" ++ codes "second /1 line 2 poke a\n"))
  -- the output reads the input
  pub of_a_read : report_text adder (clashed (event 0 (0 ∷ []) 1 (pokes 0)) (event 0 (1 ∷ []) 2 (peeks 2))) false
      ≡ codes "circuit W\n" ++ (codes "conflict at 0\n"
      ++ (codes "first /0 line 1 poke a\n" ++ codes "second /1 line 2 peek out through out > a\n"))
  -- the same by the root thread, before the poke
  pub of_an_earlier_read : report_text adder (clashed (event 0 [] 2 (expects 2)) (event 0 (0 ∷ []) 1 (pokes 0))) false
      ≡ codes "circuit W\n" ++ (codes "conflict at 0\n"
      ++ (codes "first / line 2 expect out through out > a\n" ++ codes "second /0 line 1 poke a\n"))
  -- the chain of an input to itself isn't printed
  pub of_a_read_of_the_input : report_text adder (clashed (event 0 (0 ∷ []) 1 (pokes 0)) (event 0 (1 ∷ []) 2 (peeks 0))) false
      ≡ codes "circuit W\n" ++ (codes "conflict at 0\n"
      ++ (codes "first /0 line 1 poke a\n" ++ codes "second /1 line 2 peek a\n"))
  -- of two chains of three signals the lesser one
  pub of_a_longer_chain : report_text two_ways (clashed (event 0 (0 ∷ []) 1 (pokes 0)) (event 0 (1 ∷ 0 ∷ []) 2 (peeks 1))) false
      ≡ codes "circuit T\n" ++ (codes "conflict at 0\n"
      ++ (codes "first /0 line 1 poke a\n" ++ codes "second /1/0 line 2 peek out through out > w > a\n"))
  -- the record of the time step of the conflict isn't printed
  pub of_a_late_conflict : report_text adder (run seen 9 (conflict 1 (event 0 (0 ∷ []) 7 (pokes 1)) (event 0 (1 ∷ []) 8 (pokes 1)))) false
      ≡ codes "circuit W\n" ++ (codes "0 / 3 peek out = 7\n" ++ (codes "0 / 4 peek a = 3\n" ++ (codes "0 /1 5 expect out = 7 wanted 8\n"
      ++ (codes "conflict at 1\n" ++ (codes "first /0 line 7 poke b\n" ++ codes "second /1 line 8 poke b\n")))))
  -- nor those of a time step that reached its limit
  pub of_the_step_limit : report_text adder (run seen 9 (step_limit 1)) false
      ≡ codes "circuit W\n" ++ (codes "0 / 3 peek out = 7\n" ++ (codes "0 / 4 peek a = 3\n" ++ (codes "0 /1 5 expect out = 7 wanted 8\n"
      ++ codes "limit step actions at 1\n")))
  pub of_a_spent_thread : report_text adder (ended 3 (spent_at (0 ∷ 2 ∷ []) 8)) false ≡ codes "circuit W\nspent at 3 by /0/2 line 8\n"
  pub of_the_thread_limit : report_text adder (ended 1 thread_limit) false ≡ codes "circuit W\nlimit threads at 1\n"
  pub of_the_record_limit : report_text adder (ended 2 record_limit) false ≡ codes "circuit W\nlimit records at 2\n"
  pub of_the_action_limit : report_text adder (ended 4 action_limit) false ≡ codes "circuit W\nlimit run actions at 4\n"
  pub of_the_time_limit : report_text adder (ended 65535 time_limit) false ≡ codes "circuit W\nlimit time steps at 65535\n"
  -- the same bits at a signed port and at an unsigned one
  pub of_minus_eight : number_text true (2 ^ 128 - 8) ≡ codes "-8"
  pub of_the_greatest : number_text true (2 ^ 127 - 1) ≡ codes "170141183460469231731687303715884105727"
  pub of_the_least : number_text true (2 ^ 127) ≡ codes "-170141183460469231731687303715884105728"
  pub of_unsigned : number_text false (2 ^ 128 - 8) ≡ codes "340282366920938463463374607431768211448"
