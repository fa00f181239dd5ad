-- What names, flow and types give of an elaboration.
use Rattle.std.specs.Prelude.{ℕ, ◌≡◌, ◌<◌, true, false, [], length}
use Rattle.std.specs.List.{All}
use Rattle.net_core.specs.declared.tree.Elab.{Elab}
use Rattle.net_core.specs.Signals.{info, is_input, is_node}
use Rattle.net_core.specs.Values.{mentions}
use Rattle.net_core.specs.Body.{body_of}
use Rattle.net_core.specs.Widths.{sources}
use Rattle.net_core.specs.WidthRules.{uses}
use Rattle.net_core.specs.Formed.{made, is_signed, set_signals, count_of, in_scope}

-- the fields of `Formed` that speak of what is read and set, of scopes and of signs
pub record Typed (e : Elab) : Type 0 where
  pub read : All (λ u. (y : ℕ) → mentions u.expr y ≡ true → y < length e.signals) (uses (body_of e.body))
  pub set_below : All (λ x. x < length e.signals) (set_signals (body_of e.body))
  pub nodes_once : (x : ℕ) → x < length e.signals → is_node (info e.signals x).role ≡ true → count_of x (set_signals (body_of e.body)) ≡ 1
  pub inputs_kept : All (λ x. is_input (info e.signals x).role ≡ false) (set_signals (body_of e.body))
  pub scoped : in_scope [] (body_of e.body) ≡ true
  pub right : All (λ u. (made e.signals u.expr).right ≡ true) (uses (body_of e.body))
  pub one_sign : All (λ a. is_signed e.signals a.source ≡ (info e.signals a.sink).signed) (sources (body_of e.body))
  pub conditions : All (λ u. u.condition ≡ true → is_signed e.signals u.expr ≡ false) (uses (body_of e.body))
