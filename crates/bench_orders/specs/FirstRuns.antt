-- WHAT THE ONE-THREAD ORDER GIVES.
use Rattle.std.specs.Prelude.{Option}
use Rattle.net_core.specs.declared.tree.Elab.{Elab}
use Rattle.tl_check.specs.Checked.{TestFor}
use Rattle.bench_model.specs.Settle.{Limits, Setting}
use Rattle.bench_model.specs.Orders.{Result, first_order, replay, run_of}
use Rattle.bench_setting.specs.Settings.{setting_of}

-- in a setting
abbrev pub given_first : Setting → Option Result
given_first S = run_of S (replay S (first_order S))

-- THE FIRST RUN: what the one-thread order of a test gives over a circuit, within limits
abbrev pub first_run : Elab → TestFor → Limits → Option Result
first_run e k l = given_first (setting_of e k l)
