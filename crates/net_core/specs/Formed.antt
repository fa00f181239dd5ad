-- What holds of an elaborated circuit: formed, and, once its widths are there, sized.
use Rattle.std.specs.Prelude.{ℕ, ◌+◌, ◌≡◌, ◌<◌, ◌≤◌, Bool, true, false, not, ◌&&◌, ◌||◌, ◌==◌, nat_eq, nat_le, if◌then◌else◌, List, [], ◌∷◌, ◌++◌, map, length, slice_index, slice_get, Option, Some, None, is_some}
use Rattle.std.specs.List.{All, list_all}
use Rattle.tb_base.specs.Row.{operand_count, number_count, signs_fit}
use Rattle.net_core.specs.declared.tree.SignalInfo.{SignalInfo}
use Rattle.net_core.specs.declared.tree.GroundExpr.{GroundExpr}
use Rattle.net_core.specs.declared.tree.GroundExpr.TheFolds.{fold-GroundExpr, map-GroundExpr}
use Rattle.net_core.specs.declared.tree.GroundExpr.TheOpen.{GroundExpr-F}
use Rattle.net_core.specs.declared.tree.GroundReset.{GroundReset}
use Rattle.net_core.specs.declared.tree.Elab.{Elab}
use Rattle.net_core.specs.Signals.{info, is_input, is_port, is_node, is_register, given_width}
use Rattle.net_core.specs.Shapes.{Shape, shape, shape_at, level_shape}
use Rattle.net_core.specs.Values.{mentions}
use Rattle.net_core.specs.Body.{Body, done, declare, set, when, body_of, whens, depth}
use Rattle.net_core.specs.Widths.{sources}
use Rattle.net_core.specs.WidthRules.{parts, uses, width_rule}

-- expressions

-- an expression's shape, and whether it and all its parts are made as they must be
pub record Made : Type 0 where
  pub shape : Shape
  pub right : Bool

-- of one sign, all of them
abbrev pub one_sign : Bool → List Shape → Bool
one_sign signed = list_all (λ s. if s.signed then signed else not signed)

abbrev pub width_fits : Option ℕ → Bool
width_fits None = true
width_fits (Some w) = nat_le w 128

-- operands and numbers as many as the row has and of its signs; items of one sign, and at least one; an index is unsigned;
-- only a signed literal is negative; a written width is at most 128
abbrev pub is_right : GroundExpr-F Shape → Bool
is_right (GroundExpr-F.Read s) = true
is_right (GroundExpr-F.Lit signed width negative n) = width_fits width && (signed || not negative)
is_right (GroundExpr-F.Apply op args nums) =
    (length args == operand_count op) && ((length nums == number_count op)
    && signs_fit op (shape_at args 0).signed (shape_at args 1).signed (shape_at args 2).signed)
is_right (GroundExpr-F.Select index items) =
    not index.signed && (not (length items == 0) && one_sign (shape_at items 0).signed items)
is_right (GroundExpr-F.IndexIs index place) = not index.signed

abbrev pub level_made : List SignalInfo → GroundExpr-F Made → Made
level_made signals x = record {
  shape = level_shape signals [] (map-GroundExpr Made Shape (λ m. m.shape) x);
  right = is_right (map-GroundExpr Made Shape (λ m. m.shape) x) && list_all (λ m. m.right) (parts x);
}

abbrev pub made : List SignalInfo → GroundExpr → Made
made signals = fold-GroundExpr Made (level_made signals)

abbrev pub is_signed : List SignalInfo → GroundExpr → Bool
is_signed signals e = (shape signals [] e).signed

-- statements

-- the signals that are declared, with their lines and resets
pub record Declared : Type 0 where
  pub signal : ℕ
  pub line : ℕ
  pub reset : Option GroundReset

abbrev pub declares : Body → List Declared
declares done = []
declares (declare x line reset rest) = record { signal = x; line = line; reset = reset } ∷ declares rest
declares (set line x e rest) = declares rest
declares (when line c taken other rest) = declares taken ++ (declares other ++ declares rest)

-- the lines of the declarations of x
abbrev pub lines_of : ℕ → List Declared → List ℕ
lines_of x [] = []
lines_of x (d ∷ ds) = if nat_eq x d.signal then d.line ∷ lines_of x ds else lines_of x ds

-- the signals that are declared before the first other statement
abbrev pub first_declared : Body → List ℕ
first_declared (declare x line reset rest) = x ∷ first_declared rest
first_declared _ = []

-- the sinks of connects and invalidations
abbrev pub set_signals : Body → List ℕ
set_signals done = []
set_signals (declare x line reset rest) = set_signals rest
set_signals (set line x e rest) = x ∷ set_signals rest
set_signals (when line c taken other rest) = set_signals taken ++ (set_signals other ++ set_signals rest)

abbrev pub count_of : ℕ → List ℕ → ℕ
count_of x [] = 0
count_of x (y ∷ ys) = (if nat_eq x y then 1 else 0) + count_of x ys

-- the body begins with a connect of x to an expression
abbrev pub begins_with_set : ℕ → Body → Bool
begins_with_set x (set line y (Some e) rest) = nat_eq x y
begins_with_set x _ = false

-- behind each declaration of a node stands at once its expression
abbrev pub nodes_follow : List SignalInfo → Body → Bool
nodes_follow signals done = true
nodes_follow signals (declare x line reset rest) =
    (not (is_node (info signals x).role) || begins_with_set x rest) && nodes_follow signals rest
nodes_follow signals (set line x e rest) = nodes_follow signals rest
nodes_follow signals (when line c taken other rest) =
    nodes_follow signals taken && (nodes_follow signals other && nodes_follow signals rest)

abbrev pub holds_number : List ℕ → ℕ → Bool
holds_number [] y = false
holds_number (x ∷ xs) y = nat_eq y x || holds_number xs y

-- each connect stands behind the declaration of its sink, in that block or in one inside
abbrev pub in_scope : List ℕ → Body → Bool
in_scope known done = true
in_scope known (declare x line reset rest) = in_scope (x ∷ known) rest
in_scope known (set line x e rest) = holds_number known x && in_scope known rest
in_scope known (when line c taken other rest) = in_scope known taken && (in_scope known other && in_scope known rest)

-- an elaborated circuit

pub record Formed (e : Elab) : Type 0 where
  -- numbers of signals
  pub few : length e.signals ≤ 65536
  pub read : All (λ u. (y : ℕ) → mentions u.expr y ≡ true → y < length e.signals) (uses (body_of e.body))
  pub set_below : All (λ x. x < length e.signals) (set_signals (body_of e.body))
  pub declared_below : All (λ d. d.signal < length e.signals) (declares (body_of e.body))
  -- each signal is declared once, on its line
  pub declared_once : (x : ℕ) → x < length e.signals → lines_of x (declares (body_of e.body)) ≡ (info e.signals x).line ∷ []
  -- the ports come first, are few and have names of their own; they are declared at the head of the body
  pub ports_first : (x y : ℕ) → x < y → y < length e.signals → is_port (info e.signals y).role ≡ true → is_port (info e.signals x).role ≡ true
  pub few_ports : (x : ℕ) → x < length e.signals → is_port (info e.signals x).role ≡ true → x < 256
  pub distinct : (x y : ℕ) → x < length e.signals → y < length e.signals
      → is_port (info e.signals x).role ≡ true → is_port (info e.signals y).role ≡ true
      → (info e.signals x).name ≡ (info e.signals y).name → x ≡ y
  pub ports_declared : (x : ℕ) → x < length e.signals → is_port (info e.signals x).role ≡ true
      → slice_get (first_declared (body_of e.body)) x ≡ Some x
  pub inputs_given : (x : ℕ) → x < length e.signals → is_input (info e.signals x).role ≡ true → is_some (info e.signals x).width ≡ true
  -- statements
  pub nodes_set : nodes_follow e.signals (body_of e.body) ≡ true
  pub nodes_once : (x : ℕ) → x < length e.signals → is_node (info e.signals x).role ≡ true → count_of x (set_signals (body_of e.body)) ≡ 1
  pub resets : All (λ d. is_some d.reset ≡ true → is_register (info e.signals d.signal).role ≡ true) (declares (body_of e.body))
  pub inputs_kept : All (λ x. is_input (info e.signals x).role ≡ false) (set_signals (body_of e.body))
  pub scoped : in_scope [] (body_of e.body) ≡ true
  -- expressions
  pub right : All (λ u. (made e.signals u.expr).right ≡ true) (uses (body_of e.body))
  pub one_sign : All (λ a. is_signed e.signals a.source ≡ (info e.signals a.sink).signed) (sources (body_of e.body))
  pub conditions : All (λ u. u.condition ≡ true → is_signed e.signals u.expr ≡ false) (uses (body_of e.body))
  pub narrow : All (λ i. width_fits i.width ≡ true) e.signals
  -- Whens
  pub nested : depth (body_of e.body) ≤ 320
  pub few_whens : whens (body_of e.body) ≤ 4194304

-- the widths that are given
abbrev pub given_widths : Elab → List ℕ
given_widths e = map given_width e.signals

pub record Sized (e : Elab) : Type 0 where
  pub formed : Formed e
  pub given : All (λ i. is_some i.width ≡ true) e.signals
  -- a node's width is its expression's
  pub nodes : All (λ a. is_node (info e.signals a.sink).role ≡ true
      → slice_index (given_widths e) a.sink ≡ (shape e.signals (given_widths e) a.source).width) (sources (body_of e.body))
  pub ruled : width_rule e (given_widths e) ≡ None

-- the same circuit, with these widths
abbrev pub with_width : SignalInfo → ℕ → SignalInfo
with_width i w = record i { width = Some w }

abbrev pub set_widths : List SignalInfo → List ℕ → List SignalInfo
set_widths [] w = []
set_widths (i ∷ is) w = with_width i (slice_index w 0) ∷ set_widths is (Rattle.std.specs.Prelude.drop 1 w)

abbrev pub with_widths : Elab → List ℕ → Elab
with_widths e w = record e { signals = set_widths e.signals w }
