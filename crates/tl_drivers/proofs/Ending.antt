-- What a core test asks for, of the statements that were found.
use Rattle.std.proofs.Common.{◌≡◌, true, List, None, sym, subst}
use Rattle.tl_ast.specs.declared.tree.TestStmt.{TestStmt}
use Rattle.tl_ast.specs.declared.tree.TestText.{TestText}
use Rattle.tl_check.specs.Walk.{Ports, test_rule}
use Rattle.tl_check.specs.CoreTests.{is_core}
use Rattle.tl_check.specs.Bounds.{TestBounds, CoreBounds}
use Rattle.tl_drivers.specs.Core.{core_body}
use Rattle.tl_drivers.specs.OwnNames.{leaves_drivers_handle}
use Rattle.tl_drivers.proofs.Sizes.{core_bounds}
use Rattle.tl_drivers.proofs.Undriven.{core_is_core}
use Rattle.tl_drivers.proofs.Keeping.{core_keeps}

module _ (given test : TestText) (ports : Ports) (found : List TestStmt) (is : test ≡ given) (e : found ≡ core_body test.body) where
  pub ends_kept : leaves_drivers_handle given ≡ true → test_rule test ports ≡ None → test_rule (record { body = found }) ports ≡ None
  ends_kept own rule =
      let free : leaves_drivers_handle test ≡ true = subst (λ t. leaves_drivers_handle t ≡ true) (sym is) own in
      subst (λ ss. test_rule (record { body = ss }) ports ≡ None) (sym e) (core_keeps ports test free rule)

  pub ends_core : is_core (record { body = found }) ≡ true
  ends_core = subst (λ ss. is_core (record { body = ss }) ≡ true) (sym e) (core_is_core test)

  pub ends_bounded : TestBounds test → CoreBounds (record { body = found })
  ends_bounded h = subst (λ ss. CoreBounds (record { body = ss })) (sym e) (core_bounds test h)
