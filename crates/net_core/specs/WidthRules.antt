-- The two rules on widths, as the lines that break them: a width above 128, and a number or a condition out of its range.
use Rattle.std.specs.Prelude.{ℕ, Bool, true, false, not, ◌&&◌, ◌||◌, ◌==◌, nat_lt, nat_le, if◌then◌else◌, min, List, [], ◌∷◌, ◌++◌, map, filter, Option, Some, None, slice_index}
use Rattle.tb_base.specs.Row.{in_range}
use Rattle.tb_base.specs.declared.op.Op.{Op}
use Rattle.tb_base.specs.declared.op.Op.TheVariants.{Mux}
use Rattle.net_core.specs.declared.tree.SignalInfo.{SignalInfo}
use Rattle.net_core.specs.declared.tree.GroundExpr.{GroundExpr}
use Rattle.net_core.specs.declared.tree.GroundExpr.TheFolds.{fold-GroundExpr, map-GroundExpr}
use Rattle.net_core.specs.declared.tree.GroundExpr.TheOpen.{GroundExpr-F}
use Rattle.net_core.specs.declared.tree.GroundReset.{GroundReset}
use Rattle.net_core.specs.declared.tree.Elab.{Elab}
use Rattle.net_core.specs.Shapes.{Shape, shape_at, level_shape, literal_width}
use Rattle.net_core.specs.Values.{any}
use Rattle.net_core.specs.Body.{Body, done, declare, set, when, body_of}

-- an expression's shape, and which rules it or a part of it breaks
pub record Judged : Type 0 where
  pub shape : Shape
  pub wide : Bool
  pub bad : Bool

abbrev pub parts : {A : Type 0} → GroundExpr-F A → List A
parts (GroundExpr-F.Read s) = []
parts (GroundExpr-F.Lit signed width negative n) = []
parts (GroundExpr-F.Apply op args nums) = args
parts (GroundExpr-F.Select index items) = index ∷ items
parts (GroundExpr-F.IndexIs index place) = index ∷ []

-- whether w bits hold the literal
abbrev pub holds_literal : (signed negative : Bool) → (n w : ℕ) → Bool
holds_literal signed negative n w = (n == 0) || nat_le (literal_width signed negative n) w

abbrev pub is_mux : Op → Bool
is_mux Mux = true
is_mux _ = false

-- a literal that its width doesn't hold, numbers out of range, or a mux condition wider than 1
abbrev pub is_out : GroundExpr-F Shape → Bool
is_out (GroundExpr-F.Lit signed (Some w) negative n) = not (holds_literal signed negative n w)
is_out (GroundExpr-F.Apply op args nums) =
    not (in_range op (shape_at args 0).width (slice_index nums 0) (slice_index nums 1))
    || (is_mux op && nat_lt 1 (shape_at args 0).width)
is_out _ = false

abbrev pub level_judged : List SignalInfo → List ℕ → GroundExpr-F Judged → Judged
level_judged signals w x = record {
  shape = level_shape signals w (map-GroundExpr Judged Shape (λ j. j.shape) x);
  wide = ((level_shape signals w (map-GroundExpr Judged Shape (λ j. j.shape) x)).width == 129) || any (map (λ j. j.wide) (parts x));
  bad = is_out (map-GroundExpr Judged Shape (λ j. j.shape) x) || any (map (λ j. j.bad) (parts x));
}

abbrev pub judged : List SignalInfo → List ℕ → GroundExpr → Judged
judged signals w = fold-GroundExpr Judged (level_judged signals w)

-- an expression of a statement, with the statement's line, and whether it is a condition or a reset
pub record Use : Type 0 where
  pub line : ℕ
  pub expr : GroundExpr
  pub condition : Bool

abbrev pub reset_uses : ℕ → Option GroundReset → List Use
reset_uses line None = []
reset_uses line (Some r) =
    record { line = line; expr = r.signal; condition = true } ∷ record { line = line; expr = r.init; condition = false } ∷ []

abbrev pub value_uses : ℕ → Option GroundExpr → List Use
value_uses line None = []
value_uses line (Some e) = record { line = line; expr = e; condition = false } ∷ []

-- the expressions of all statements
abbrev pub uses : Body → List Use
uses done = []
uses (declare x line reset rest) = reset_uses line reset ++ uses rest
uses (set line x e rest) = value_uses line e ++ uses rest
uses (when line c taken other rest) =
    record { line = line; expr = c; condition = true } ∷ (uses taken ++ (uses other ++ uses rest))

abbrev pub use_lines : (Use → Bool) → List Use → List ℕ
use_lines test us = map (λ u. u.line) (filter test us)

-- the lines of the signals whose width is 129
abbrev pub wide_signals : List SignalInfo → List ℕ → List ℕ
wide_signals [] w = []
wide_signals (i ∷ is) [] = []
wide_signals (i ∷ is) (n ∷ ns) = if n == 129 then i.line ∷ wide_signals is ns else wide_signals is ns

abbrev pub is_wide : List SignalInfo → List ℕ → Use → Bool
is_wide signals w u = (judged signals w u.expr).wide

abbrev pub is_bad : List SignalInfo → List ℕ → Use → Bool
is_bad signals w u =
    (judged signals w u.expr).bad || (u.condition && nat_lt 1 (judged signals w u.expr).shape.width)

-- a signal declared on that line, or an expression of a statement on that line, has width 129
abbrev pub too_wide_lines : Elab → List ℕ → List ℕ
too_wide_lines e w = wide_signals e.signals w ++ use_lines (is_wide e.signals w) (uses (body_of e.body))

-- an expression of a statement on that line is out of range, or a condition or reset there is wider than 1
abbrev pub bad_range_lines : Elab → List ℕ → List ℕ
bad_range_lines e w = use_lines (is_bad e.signals w) (uses (body_of e.body))

pub data WidthRule : Type 0 where
  too_wide : ℕ → WidthRule
  bad_range : ℕ → WidthRule

abbrev pub lesser : ℕ → Option ℕ → Option ℕ
lesser n None = Some n
lesser n (Some m) = Some (min n m)

abbrev pub least_line : List ℕ → Option ℕ
least_line [] = None
least_line (n ∷ ns) = lesser n (least_line ns)

-- on one line a width that is too wide comes first
abbrev pub first_rule : (wide bad : Option ℕ) → Option WidthRule
first_rule None None = None
first_rule (Some n) None = Some (too_wide n)
first_rule None (Some m) = Some (bad_range m)
first_rule (Some n) (Some m) = Some (if nat_le n m then too_wide n else bad_range m)

-- the least line that breaks a rule where `w` has the signals' widths
abbrev pub width_rule : Elab → List ℕ → Option WidthRule
width_rule e w = first_rule (least_line (too_wide_lines e w)) (least_line (bad_range_lines e w))
