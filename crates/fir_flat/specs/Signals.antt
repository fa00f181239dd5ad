-- What is declared, as contracts see it: the signals of a name, and instances.
use Rattle.std.specs.Prelude.{ℕ, Bool, true, not, if◌then◌else◌, None, List, ◌++◌, map}
use Rattle.fir_ast.specs.declared.tree.Port.{Port}
use Rattle.net_core.specs.declared.tree.SignalInfo.{SignalInfo}
use Rattle.fir_check.specs.Types.{same}
use Rattle.fir_flat.specs.declared.signals.Declared.{Declared}
use Rattle.fir_flat.specs.declared.signals.Entry.{Entry as OwnEntry}
use Rattle.fir_flat.specs.declared.signals.Entry.TheVariants.{Made as OwnMade, Instance as OwnInstance}
use Rattle.fir_flat.specs.declared.signals.Opening.{Opening}
use Rattle.fir_flat.specs.Shapes.{Shape, Leaf, leaves}
use Rattle.fir_flat.specs.Elaboration.{Entry, made, opened, Opened, port_role}

-- a ground part of a part that is flipped or not, and has a name
abbrev pub info_of : Declared → List ℕ → Bool → Leaf → SignalInfo
info_of d name flip l = record {
  name = name ++ l.suffix;
  role = if not (same flip l.against) then d.against else d.along;
  signed = l.signed;
  width = if d.written then l.width else None;
  line = d.line;
}

abbrev pub entry_of : Declared → List ℕ → Bool → Leaf → Entry
entry_of d name flip l = made (info_of d name flip l)

abbrev pub signals_of : Declared → List ℕ → Bool → Shape → List Entry
signals_of d name flip t = map (entry_of d name flip) (leaves t)

abbrev pub seen_opening : Opening → Opened
seen_opening o = record { target = o.target; first = o.first; prefix = o.prefix; top = o.top }

abbrev pub seen_entry : OwnEntry → Entry
seen_entry (OwnMade info) = made info
seen_entry (OwnInstance o) = opened (seen_opening o)

abbrev pub seen_entries : List OwnEntry → List Entry
seen_entries es = map seen_entry es

-- the signals of a port, of the main module or of an instance
abbrev pub port_declared : Bool → Port → Declared
port_declared top p = record { line = p.line; along = port_role top (not p.output); against = port_role top p.output; written = true }
