-- What contracts see of the code's types and of the names that it knows.
use Rattle.std.specs.Prelude.{◌≡◌, ℕ, ◌+◌, ◌==◌, List, map, sum, if◌then◌else◌}
use Rattle.fir_flat.specs.declared.kinds.Kind.{Kind}
use Rattle.fir_flat.specs.declared.kinds.Kind.TheVariants.{Of, Numbered, Ports, Number, Empty}
use Rattle.fir_flat.specs.declared.kinds.Known.{Known}
use Rattle.fir_flat.specs.declared.kinds.Place.{Place}
use Rattle.fir_flat.specs.declared.weights.Weight.{Weight}
use Rattle.fir_flat.specs.declared.weights.Operands.{Operands}
use Rattle.fir_check.specs.Seen.{type_at}
use Rattle.fir_flat.specs.Counts.{cut}
use Rattle.fir_flat.specs.Shapes.{FieldPlace, Shape, empty, shape_of, ports_shape}
use Rattle.fir_flat.specs.Values.{Bound, bound, number}
use Rattle.fir_flat.specs.Measures.{Measure, measure_at}

abbrev pub kind_shape : Kind → Shape
kind_shape (Of t) = shape_of t.now
kind_shape (Numbered types n) = shape_of (type_at types.now n)
kind_shape (Ports ps) = ports_shape ps.now
kind_shape (Number signed) = number signed
kind_shape Empty = empty

abbrev pub bound_of : Known → Bound
bound_of k = bound k.name.now (kind_shape k.kind) k.flow k.first

-- the names that are known
abbrev pub seen : List Known → List Bound
seen known = map bound_of known

-- a field, counted up to one past the limit
pub record Finds (f : FieldPlace) (p : Place) : Type 0 where
  pub before : p.before ≡ cut f.before
  pub flip : p.flip ≡ f.flip
  pub of : kind_shape p.of ≡ f.of

-- an expression's measure, counted up to one past the limit
pub record Weighs (m : Measure) (w : Weight) : Type 0 where
  pub kind : kind_shape w.kind ≡ m.ty
  pub flow : w.flow ≡ m.flow
  pub nodes : w.nodes ≡ cut m.nodes
  pub times : w.times ≡ cut m.times
  pub round : w.round ≡ cut m.round

-- a declared name's measure
abbrev pub name_measure : Bound → Measure
name_measure b = record { ty = b.ty; flow = b.flow; nodes = 1; times = 1; round = 0 }

-- the operands of an operation: the first three, and the nodes of all
pub record Gathers (ms : List Measure) (o : Operands) : Type 0 where
  pub first : Weighs (measure_at 0 ms) o.first
  pub second : Weighs (measure_at 1 ms) o.second
  pub third : Weighs (measure_at 2 ms) o.third
  pub total : o.total ≡ cut (sum (map (λ m. m.nodes) ms))

abbrev pub with_operand : ℕ → Operands → Weight → Operands
with_operand k o w = record {
  first = if k == 0 then w else o.first;
  second = if k == 1 then w else o.second;
  third = if k == 2 then w else o.third;
  total = cut (o.total + w.nodes);
}
