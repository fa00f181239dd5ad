-- The parts that statements give and the nodes that expressions give, without building them.
use Rattle.std.specs.Prelude.{ℕ, ◌+◌, ◌*◌, Bool, true, false, not, Option, Some, None, List, [], ◌∷◌, ◌++◌, map, sum, length, slice_index_or, nat_eq, if◌then◌else◌}
use Rattle.tb_base.specs.Row.{row_signed}
use Rattle.tb_base.specs.declared.op.Op.{Op}
use Rattle.tb_base.specs.declared.op.Op.TheVariants.{Mux}
use Rattle.fir_ast.specs.declared.tree.Expr.{Expr}
use Rattle.fir_ast.specs.declared.tree.Expr.TheFolds.{fold-Expr}
use Rattle.fir_ast.specs.declared.tree.Expr.TheOpen.{Expr-F, Ident, Part, At, Index, Lit, Apply}
use Rattle.fir_ast.specs.declared.tree.ResetPair.{ResetPair}
use Rattle.fir_ast.specs.declared.tree.Module.{Module}
use Rattle.fir_check.specs.Types.{same}
use Rattle.fir_flat.specs.declared.kinds.Flow.{Flow}
use Rattle.fir_flat.specs.declared.kinds.Flow.TheVariants.{Free, Fixed}
use Rattle.fir_flat.specs.Shapes.{Shape, ground, clock, empty, field, vector, ports_shape, size, FieldPlace, field_named, element, elements, is_signed}
use Rattle.fir_flat.specs.Bodies.{Body, done, wire, node, reg, inst, connect, invalid, when, body_of}
use Rattle.fir_flat.specs.Values.{Bound, bound, bound_named, turned, may_be_driven, number}
use Rattle.fir_flat.specs.Modules.{module_at, unplaced, instance, targets_of, counted}

-- the number of ground parts that go against the type, or of those that go with it
abbrev pub facing : Bool → Shape → ℕ
facing against (ground signed width) = if against then 0 else 1
facing against clock = 0
facing against empty = 0
facing against (field flip name of rest) = facing (not (same against flip)) of + facing against rest
facing against (vector of n) = n * facing against of

-- an expression: its type, how it may be driven, the nodes of one ground part's value, and what it takes to drive one ground part:
-- so many connects or invalidations, and so many parts round them
pub record Measure : Type 0 where
  pub ty : Shape
  pub flow : Flow
  pub nodes : ℕ
  pub times : ℕ
  pub round : ℕ

abbrev pub result : Shape → ℕ → Measure
result ty nodes = record { ty = ty; flow = Fixed; nodes = nodes; times = 0; round = 0 }

abbrev pub no_measure : Measure
no_measure = result empty 1

abbrev pub part_measure : Shape → Flow → Measure → Measure
part_measure ty flow e = record { ty = ty; flow = flow; nodes = e.nodes; times = e.times; round = e.round }

abbrev pub field_measure : FieldPlace → Measure → Measure
field_measure f e = part_measure f.of (if f.flip then turned e.flow else e.flow) e

-- the copies of an element and, at a sink, a When on the index round each
abbrev pub index_measure : ℕ → Measure → Measure → Measure
index_measure n e index = record {
  ty = element e.ty;
  flow = e.flow;
  nodes = if nat_eq n 0 then 1 else 1 + (index.nodes + n * e.nodes);
  times = n * e.times;
  round = n * (2 + (index.nodes + e.round));
}

abbrev pub measure_at : ℕ → List Measure → Measure
measure_at k args = slice_index_or args k no_measure

abbrev pub applied_measure : Op → List Measure → Measure
applied_measure Mux args = result (measure_at 1 args).ty (1 + ((measure_at 0 args).nodes + ((measure_at 1 args).nodes + (measure_at 2 args).nodes)))
applied_measure op args = result (number (row_signed op (is_signed (measure_at 0 args).ty))) (1 + sum (map (λ a. a.nodes) args))

abbrev pub level_measure : List Bound → Expr-F Measure → Measure
level_measure known (Ident name) =
    record { ty = (bound_named name known).ty; flow = (bound_named name known).flow; nodes = 1; times = 1; round = 0 }
level_measure known (Part e name) = field_measure (field_named name e.ty) e
level_measure known (At e n) = part_measure (element e.ty) e.flow e
level_measure known (Index e index) = index_measure (elements e.ty) e index
level_measure known (Lit signed width negative n) = result (number signed) 1
level_measure known (Apply op args nums) = applied_measure op args

abbrev pub measure : List Bound → Expr → Measure
measure known = fold-Expr Measure (level_measure known)

-- the parts that drive one ground part, where the connect or invalidation has so many nodes
abbrev pub driven : Measure → ℕ → ℕ
driven e nodes = e.times * (1 + nodes) + e.round

abbrev pub connect_weight : Measure → Measure → ℕ
connect_weight sink e = facing false sink.ty * driven sink e.nodes + facing true sink.ty * driven e sink.nodes

-- the ground parts of a sink that an invalidation reaches
abbrev pub reached : Measure → ℕ
reached sink =
    (if may_be_driven sink.flow then facing false sink.ty else 0) + (if may_be_driven (turned sink.flow) then facing true sink.ty else 0)

abbrev pub reset_weight : List Bound → Option ResetPair → ℕ
reset_weight known None = 0
reset_weight known (Some r) = (measure known r.signal).nodes + (measure known r.init).nodes

-- the parts of a body and its instances; an instance's ports count where its module's do
abbrev pub body_weight : List Module → List Bound → Body → ℕ
body_weight modules known done = 0
body_weight modules known (wire line name t rest) = size t + body_weight modules (known ++ bound name t Free 0 ∷ []) rest
body_weight modules known (node line name e rest) =
    size (measure known e).ty * (2 + (measure known e).nodes) + body_weight modules (known ++ bound name (measure known e).ty Fixed 0 ∷ []) rest
body_weight modules known (reg line name t reset rest) =
    size t * (1 + reset_weight (known ++ bound name t Free 0 ∷ []) reset) + body_weight modules (known ++ bound name t Free 0 ∷ []) rest
body_weight modules known (inst line name target rest) = 1 + body_weight modules (known ++ instance modules name target 0 ∷ []) rest
body_weight modules known (connect line sink e rest) =
    connect_weight (measure known sink) (measure known e) + body_weight modules known rest
body_weight modules known (invalid line sink rest) =
    reached (measure known sink) * driven (measure known sink) 0 + body_weight modules known rest
body_weight modules known (when line cond taken other rest) =
    1 + ((measure known cond).nodes
    + (body_weight modules known taken + (body_weight modules known other + body_weight modules known rest)))

-- the parts of a module itself
abbrev pub own_weight : List Module → Module → ℕ
own_weight modules m = size (ports_shape m.ports) + body_weight modules (map unplaced m.ports) (body_of m.body)

-- the parts of an instance of a module, those of the instances in it among them
abbrev pub weight_in : List Module → ℕ → ℕ
weight_in modules = counted (λ place. own_weight modules (module_at modules place)) (targets_of modules) (length modules)
