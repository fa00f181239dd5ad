-- The elaboration of a circuit, and its counts.
use Rattle.std.specs.Prelude.{ℕ, suc, ◌+◌, Bool, true, false, not, Option, Some, None, List, [], ◌∷◌, ◌++◌, map, flat_map, length, sum, codes, slice_index, if◌then◌else◌, option_map}
use Rattle.std.specs.List.{range_with_len}
use Rattle.fir_ast.specs.declared.tree.ResetPair.{ResetPair}
use Rattle.fir_ast.specs.declared.tree.Port.{Port}
use Rattle.fir_ast.specs.declared.tree.Module.{Module}
use Rattle.fir_ast.specs.declared.tree.Circuit.{Circuit}
use Rattle.net_core.specs.declared.tree.Role.{Role}
use Rattle.net_core.specs.declared.tree.Role.TheVariants as role
use Rattle.net_core.specs.declared.tree.SignalInfo.{SignalInfo}
use Rattle.net_core.specs.declared.tree.GroundReset.{GroundReset}
use Rattle.net_core.specs.declared.tree.GroundExpr.{GroundExpr}
use Rattle.net_core.specs.declared.tree.GroundExpr.TheFolds.{fold-GroundExpr}
use Rattle.net_core.specs.declared.tree.GroundExpr.TheOpen.{GroundExpr-F}
use Rattle.net_core.specs.declared.tree.Ground.{Ground}
use Rattle.net_core.specs.declared.tree.Ground.TheVariants as out
use Rattle.net_core.specs.declared.tree.Ground.TheFolds.{fold-Ground}
use Rattle.net_core.specs.declared.tree.Ground.TheOpen.{Ground-F}
use Rattle.net_core.specs.declared.tree.Elab.{Elab}
use Rattle.fir_check.specs.Names.{kept}
use Rattle.fir_check.specs.Types.{same}
use Rattle.fir_flat.specs.declared.kinds.Flow.TheVariants.{Free, Fixed}
use Rattle.fir_flat.specs.Shapes.{Shape, shape_of, ports_shape, size, Leaf, leaves, partners}
use Rattle.fir_flat.specs.Bodies.{Body, done, wire, node, reg, inst, connect, invalid, when, body_of}
use Rattle.fir_flat.specs.Values.{Bound, bound, Value, signal, value, turned, may_be_driven}
use Rattle.fir_flat.specs.Modules.{over, module_at, place_of, ports_known, instance, taken_up, signals_in}

-- an instance: the place of its module, the number of its first signal, what stands in front of its names, and whether it is the
-- main module itself
pub record Opened : Type 0 where
  pub target : ℕ
  pub first : ℕ
  pub prefix : List ℕ
  pub top : Bool

-- what is declared, in text order: a signal, or an instance with all its signals
pub data Entry : Type 0 where
  made : SignalInfo → Entry
  opened : Opened → Entry

-- signals

abbrev pub leaf_entry : List ℕ → Role → ℕ → Leaf → Entry
leaf_entry name kind line l = made (record { name = name ++ l.suffix; role = kind; signed = l.signed; width = l.width; line = line })

-- a node has its expression's width, which isn't written
abbrev pub unwritten : Leaf → Leaf
unwritten l = record { suffix = l.suffix; against = l.against; signed = l.signed; width = None }

-- an input of the main module, flips counted, has the role Input, an output the role Output, a port of an instance the role Inner
abbrev pub port_role : Bool → Bool → Role
port_role true true = role.Input
port_role true false = role.Output
port_role false input = role.Inner

abbrev pub port_entry : Opened → Port → Leaf → Entry
port_entry o p l = leaf_entry (o.prefix ++ p.name) (port_role o.top (same p.output l.against)) p.line l

abbrev pub port_entries : Opened → List Port → List Entry
port_entries o ports = flat_map (λ p. map (port_entry o p) (leaves (shape_of p.ty))) ports

-- the names of an instance's signals begin with its own, and a point
abbrev pub opened_at : List ℕ → ℕ → ℕ → List ℕ → Opened
opened_at name target first prefix = record { target = target; first = first; prefix = prefix ++ (name ++ codes "."); top = false }

-- what a body declares, where its names have a prefix and its first signal a number
abbrev pub entries : List Module → List ℕ → List Bound → ℕ → Body → List Entry
entries modules prefix known next done = []
entries modules prefix known next (wire line name t rest) =
    map (leaf_entry (prefix ++ name) role.Inner line) (leaves t)
    ++ entries modules prefix (known ++ bound name t Free next ∷ []) (next + size t) rest
entries modules prefix known next (node line name e rest) =
    map (λ l. leaf_entry (prefix ++ name) role.Node line (unwritten l)) (leaves (value known e).ty)
    ++ entries modules prefix (known ++ bound name (value known e).ty Fixed next ∷ []) (next + size (value known e).ty) rest
entries modules prefix known next (reg line name t reset rest) =
    map (leaf_entry (prefix ++ name) role.Reg line) (leaves t)
    ++ entries modules prefix (known ++ bound name t Free next ∷ []) (next + size t) rest
entries modules prefix known next (inst line name target rest) =
    opened (opened_at name (place_of modules target) next prefix)
    ∷ entries modules prefix (known ++ instance modules name target next ∷ []) (next + signals_in modules (place_of modules target)) rest
entries modules prefix known next (connect line sink e rest) = entries modules prefix known next rest
entries modules prefix known next (invalid line sink rest) = entries modules prefix known next rest
entries modules prefix known next (when line cond taken other rest) =
    entries modules prefix known next taken
    ++ (entries modules prefix known (next + taken_up (signals_in modules) modules known taken) other
    ++ entries modules prefix known (next + taken_up (signals_in modules) modules known taken + taken_up (signals_in modules) modules known other) rest)

-- the number of the first signal behind the ports
abbrev pub behind_ports : Opened → List Port → ℕ
behind_ports o ports = o.first + size (ports_shape ports)

-- what a module declares: its ports, then its body's declarations
abbrev pub entries_at : List Module → Opened → Module → List Entry
entries_at modules o m =
    port_entries o m.ports ++ entries modules o.prefix (ports_known o.first m.ports) (behind_ports o m.ports) (body_of m.body)

abbrev pub entries_of : List Module → Opened → List Entry
entries_of modules o = entries_at modules o (module_at modules o.target)

abbrev pub entries_in : List Module → Entry → List Entry
entries_in modules (made info) = []
entries_in modules (opened o) = entries_of modules o

abbrev pub all_infos : Entry → List (List SignalInfo) → List SignalInfo
all_infos (made info) inner = info ∷ []
all_infos (opened o) inner = flat_map (λ infos. infos) inner

-- the signals of an entry
abbrev pub infos_of : List Module → Entry → List SignalInfo
infos_of modules = over (entries_in modules) all_infos [] (suc (length modules))

-- statements

abbrev pub declare : ℕ → ℕ → Option GroundReset → Ground
declare number line reset = out.Declare (signal number) line reset

-- a ground part of a port: the port's line, and whether it goes into the module
pub record PortLeaf : Type 0 where
  pub line : ℕ
  pub input : Bool

abbrev pub port_leaves : List Port → List PortLeaf
port_leaves ports = flat_map (λ p. map (λ l. record { line = p.line; input = same p.output l.against }) (leaves (shape_of p.ty))) ports

-- declarations of the ports that a test takes, of which the first has a number
abbrev pub declare_ports : (Bool → Bool) → ℕ → List PortLeaf → List Ground
declare_ports test number [] = []
declare_ports test number (p ∷ ps) = kept (test p.input) (declare number p.line None) (declare_ports test (suc number) ps)

-- an own body declares all ports of the main module, and those of an instance that it drives itself
abbrev pub declared_inside : Bool → Bool → Bool
declared_inside true input = true
declared_inside false input = not input

abbrev pub declare_all : ℕ → ℕ → ℕ → List Ground
declare_all line first n = map (λ k. declare k line None) (range_with_len first n)

abbrev pub node_part : ℕ → ℕ → Value → ℕ → List Ground
node_part line next v k = declare (next + k) line None ∷ out.Set line (signal (next + k)) (Some (v.part k)) ∷ []

-- the initial value of the register's k-th ground part is that of its counterpart
abbrev pub ground_reset : Shape → Value → Value → ℕ → GroundReset
ground_reset t sig init k = record { signal = sig.part 0; init = init.part (slice_index (partners t init.ty) k) }

-- the reset may name the register itself
abbrev pub reg_part : ℕ → ℕ → List Bound → Shape → Option ResetPair → ℕ → Ground
reg_part line next known t reset k =
    declare (next + k) line (option_map (λ r. ground_reset t (value known r.signal) (value known r.init) k) reset)

-- one connect of two ground parts: turned round where the part goes against the sink
abbrev pub connect_part : ℕ → Bool → Value → ℕ → Value → ℕ → List Ground
connect_part line against sink k v j = if against then v.drive line j (Some (sink.part k)) else sink.drive line k (Some (v.part j))

-- one connect per ground part, in the field order of the sink
abbrev pub connect_parts : ℕ → Value → Value → ℕ → List Leaf → List ℕ → List Ground
connect_parts line sink v k (l ∷ ls) (j ∷ js) = connect_part line l.against sink k v j ++ connect_parts line sink v (suc k) ls js
connect_parts line sink v k _ _ = []

-- an invalidation reaches those ground parts that may be driven
abbrev pub invalid_parts : ℕ → Value → ℕ → List Leaf → List Ground
invalid_parts line sink k [] = []
invalid_parts line sink k (l ∷ ls) =
    (if may_be_driven (if l.against then turned sink.flow else sink.flow) then sink.drive line k None else [])
    ++ invalid_parts line sink (suc k) ls

-- a body's own statements, where its first signal has a number. The ports of an instance that its parent drives are declared at
-- its place
abbrev pub grounds : List Module → List Bound → ℕ → Body → List Ground
grounds modules known next done = []
grounds modules known next (wire line name t rest) =
    declare_all line next (size t) ++ grounds modules (known ++ bound name t Free next ∷ []) (next + size t) rest
grounds modules known next (node line name e rest) =
    flat_map (node_part line next (value known e)) (range_with_len 0 (size (value known e).ty))
    ++ grounds modules (known ++ bound name (value known e).ty Fixed next ∷ []) (next + size (value known e).ty) rest
grounds modules known next (reg line name t reset rest) =
    map (reg_part line next (known ++ bound name t Free next ∷ []) t reset) (range_with_len 0 (size t))
    ++ grounds modules (known ++ bound name t Free next ∷ []) (next + size t) rest
grounds modules known next (inst line name target rest) =
    declare_ports (λ input. input) next (port_leaves (module_at modules (place_of modules target)).ports)
    ++ grounds modules (known ++ instance modules name target next ∷ []) (next + signals_in modules (place_of modules target)) rest
grounds modules known next (connect line sink e rest) =
    connect_parts line (value known sink) (value known e) 0
    (leaves (value known sink).ty) (partners (value known sink).ty (value known e).ty)
    ++ grounds modules known next rest
grounds modules known next (invalid line sink rest) =
    invalid_parts line (value known sink) 0 (leaves (value known sink).ty) ++ grounds modules known next rest
grounds modules known next (when line cond taken other rest) =
    out.When line ((value known cond).part 0)
    (grounds modules known next taken)
    (grounds modules known (next + taken_up (signals_in modules) modules known taken) other)
    ∷ grounds modules known (next + taken_up (signals_in modules) modules known taken + taken_up (signals_in modules) modules known other) rest

abbrev pub own_body : List Module → Opened → Module → List Ground
own_body modules o m =
    declare_ports (declared_inside o.top) o.first (port_leaves m.ports)
    ++ grounds modules (ports_known o.first m.ports) (behind_ports o m.ports) (body_of m.body)

-- the instances among what is declared
abbrev pub instances : List Entry → List Opened
instances [] = []
instances (made info ∷ es) = instances es
instances (opened o ∷ es) = o ∷ instances es

abbrev pub instances_of : List Module → Opened → List Opened
instances_of modules o = instances (entries_of modules o)

-- the list of a module: its own body, followed by the lists of its instances, which so stand outside of all Whens
abbrev pub list_of : List Module → Opened → List Ground
list_of modules =
    over (instances_of modules) (λ o lists. own_body modules o (module_at modules o.target) ++ flat_map (λ gs. gs) lists) [] (length modules)

-- how many instances lie in a module, at any depth
abbrev pub instances_in : List Module → Opened → ℕ
instances_in modules = over (instances_of modules) (λ o counts. length counts + sum counts) 0 (length modules)

-- the elaboration

abbrev pub main_place : Circuit → Opened
main_place c = record { target = place_of c.modules c.name; first = 0; prefix = []; top = true }

abbrev pub elab : Circuit → Elab
elab c = record { name = c.name; signals = infos_of c.modules (opened (main_place c)); body = list_of c.modules (main_place c) }

-- counts

abbrev pub node_level : GroundExpr-F ℕ → ℕ
node_level (GroundExpr-F.Read s) = 1
node_level (GroundExpr-F.Lit signed width negative n) = 1
node_level (GroundExpr-F.Apply op args nums) = 1 + sum args
node_level (GroundExpr-F.Select index items) = 1 + index + sum items
node_level (GroundExpr-F.IndexIs index place) = 1 + index

-- the nodes of an expression
abbrev pub nodes : GroundExpr → ℕ
nodes = fold-GroundExpr ℕ node_level

abbrev pub value_nodes : Option GroundExpr → ℕ
value_nodes None = 0
value_nodes (Some e) = nodes e

abbrev pub reset_nodes : Option GroundReset → ℕ
reset_nodes None = 0
reset_nodes (Some r) = nodes r.signal + nodes r.init

abbrev pub part_level : Ground-F ℕ → ℕ
part_level (Ground-F.Declare s line reset) = 1 + reset_nodes reset
part_level (Ground-F.Set line s e) = 1 + value_nodes e
part_level (Ground-F.When line cond taken other) = 1 + nodes cond + sum taken + sum other

-- a statement, the statements in it, and the nodes of their expressions
abbrev pub statement_parts : Ground → ℕ
statement_parts = fold-Ground ℕ part_level

-- the ground ports of the main module
abbrev pub ports : Circuit → ℕ
ports c = size (ports_shape (module_at c.modules (place_of c.modules c.name)).ports)

abbrev pub signals : Circuit → ℕ
signals c = length (elab c).signals

abbrev pub parts : Circuit → ℕ
parts c = instances_in c.modules (main_place c) + sum (map statement_parts (elab c).body)
