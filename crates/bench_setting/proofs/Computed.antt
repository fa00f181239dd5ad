-- Runs over a circuit whose numbers, edges and cones are known, as they are computed.
use Rattle.std.proofs.Common.{◌≡◌, ◌∙◌, ℕ, List, ap}
use Rattle.net_core.specs.declared.tree.Elab.{Elab}
use Rattle.net_design.specs.Designs.{ports_of}
use Rattle.net_design.specs.Naming.{in_cone}
use Rattle.net_design.specs.Settling.{number_at, registers_after}
use Rattle.tl_ast.specs.declared.tree.TestStmt.{TestStmt}
use Rattle.tl_threads.specs.Bodies.{Body, test_body}
use Rattle.bench_model.specs.Paths.{Path}
use Rattle.bench_model.specs.Settle.{Setting}
use Rattle.bench_model.specs.Orders.{first_order, replay, run_of}
use Rattle.bench_model.specs.Examples.{few}
use Rattle.bench_model.proofs.Listed.{listed_run_of, listed_replay, listed_first, run_computed, first_computed}
use Rattle.bench_setting.specs.Settings.{Circuit, circuit_of, setting_over}
use Rattle.bench_setting.specs.Examples.{setting, given, given_by}

-- the circuit e is c
pub record Known (e : Elab) (c : Circuit) : Type 0 where
  pub number_is : (ins regs : List ℕ) (x : ℕ) → number_at e ins regs x ≡ c.number ins regs x
  pub edge_is : (ins regs : List ℕ) → registers_after e ins regs ≡ c.edge ins regs
  pub cone_is : (x p : ℕ) → in_cone e x p ≡ c.cone x p

-- a test and its body
pub record Laid (e : Elab) (test : List TestStmt) : Type 0 where
  pub body : Body
  pub is : test_body (ports_of e) (record { body = test }) ≡ body

module _ (e : Elab) (c : Circuit) (k : Known e c) (test : List TestStmt) (l : Laid e test) where
  circuit_known : circuit_of e ≡ c
  circuit_known = λ i. record {
    number = λ ins regs x. k.number_is ins regs x i;
    edge = λ ins regs. k.edge_is ins regs i;
    cone = λ x p. k.cone_is x p i;
  }

  abbrev known : Setting
  known = setting_over e c l.body few

  setting_known : setting e test ≡ known
  setting_known = λ i. setting_over e (circuit_known i) (l.is i) few

  pub order_computed : (order : List Path) → given_by e test order ≡ listed_run_of known (listed_replay known order)
  order_computed order = ap (λ (S : Setting). run_of S (replay S order)) setting_known ∙ run_computed known order

  pub computed : given e test ≡ listed_run_of known (listed_replay known (listed_first known))
  computed = ap (λ (S : Setting). run_of S (replay S (first_order S))) setting_known ∙ first_computed known
