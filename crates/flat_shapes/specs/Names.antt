-- Names of ground parts: none stands twice.
use Rattle.std.specs.Prelude.{◌≡◌, ℕ, Bool, true, false, not, ◌&&◌, ◌||◌, ◌==◌, nat_le, List, [], ◌∷◌, ◌++◌, map, flat_map, length}
use Rattle.std.specs.List.{list_all}
use Rattle.fir_ast.specs.declared.tree.Port.{Port}
use Rattle.net_core.specs.declared.tree.SignalInfo.{SignalInfo}
use Rattle.fir_check.specs.Names.{is_among}
use Rattle.fir_check.specs.Types.{same}
use Rattle.fir_flat.specs.Shapes.{Shape, ground, clock, empty, field, vector, shape_of, ports_shape, size, Leaf, leaves}
use Rattle.flat_shapes.specs.Apart.{AllDiffer}
use Rattle.fir_flat.specs.Elaboration.{Opened, made, port_entries, port_role}

-- a byte that begins a suffix: a point or a bracket
abbrev pub begins_suffix : ℕ → Bool
begins_suffix b = b == 46 || b == 91

-- a name without such a byte
abbrev pub is_plain : List ℕ → Bool
is_plain name = list_all (λ b. not (begins_suffix b)) name

abbrev pub is_bundle : Shape → Bool
is_bundle empty = true
is_bundle (field flip name of rest) = true
is_bundle _ = false

-- the names of a bundle's fields
abbrev pub names : Shape → List (List ℕ)
names (field flip name of rest) = name ∷ names rest
names _ = []

-- names of fields are plain, those of one bundle differ, and a vector has no more elements than a text can ask for
abbrev pub is_told_apart : Shape → Bool
is_told_apart (ground signed width) = true
is_told_apart clock = true
is_told_apart empty = true
is_told_apart (field flip name of rest) =
    is_plain name && (not (is_among name (names rest)) && (is_told_apart of && (is_bundle rest && is_told_apart rest)))
is_told_apart (vector of n) = nat_le n 65536 && is_told_apart of

-- what stands behind the name, of each ground part
abbrev pub suffixes : Shape → List (List ℕ)
suffixes s = map (λ l. l.suffix) (leaves s)

-- the names of the ground parts of ports, in order
abbrev pub port_names : List Port → List (List ℕ)
port_names ports = flat_map (λ p. map (λ l. p.name ++ l.suffix) (leaves (shape_of p.ty))) ports

-- the signals of an instance's ports
abbrev pub port_info : Opened → Port → Leaf → SignalInfo
port_info o p l = record {
  name = (o.prefix ++ p.name) ++ l.suffix;
  role = port_role o.top (same p.output l.against);
  signed = l.signed;
  width = l.width;
  line = p.line;
}

abbrev pub port_infos : Opened → List Port → List SignalInfo
port_infos o ports = flat_map (λ p. map (port_info o p) (leaves (shape_of p.ty))) ports

pub record NamesDiffer : Type 0 where
  pub suffixes : (s : Shape) → is_told_apart s ≡ true → AllDiffer (suffixes s)
  pub ports : (ps : List Port) → is_told_apart (ports_shape ps) ≡ true → AllDiffer (port_names ps)
  pub count : (ps : List Port) → length (port_names ps) ≡ size (ports_shape ps)
  -- signals of the ports, in the same order
  pub entries : (o : Opened) (ps : List Port) → port_entries o ps ≡ map made (port_infos o ps)
  pub infos : (o : Opened) (ps : List Port) → map (λ i. i.name) (port_infos o ps) ≡ map (λ n. o.prefix ++ n) (port_names ps)
