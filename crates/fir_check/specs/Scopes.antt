-- What names and expressions stand for at a statement of a module.
--
-- A name is declared for the rest of its block and the blocks inside. A module declares each name once: a second
-- declaration declares nothing, and its name means the first.
use Rattle.std.specs.Prelude.{ℕ, zero, suc, Bool, true, false, not, ◌&&◌, ◌||◌, if◌then◌else◌, Option, Some, None, List, [], ◌∷◌, ◌++◌, map, find, length, slice_get, option_map, option_and_then, bytes_eq}
use Rattle.std.specs.List.{list_any}
use Rattle.tb_base.specs.Row.{row_signed}
use Rattle.tb_base.specs.declared.op.Op.{Op}
use Rattle.tb_base.specs.declared.op.Op.TheVariants.{Mux}
use Rattle.fir_ast.specs.declared.tree.Ty.{Ty}
use Rattle.fir_ast.specs.declared.tree.Ty.TheVariants as ty
use Rattle.fir_ast.specs.declared.tree.Ty.TheViews.{roll-Field}
use Rattle.fir_ast.specs.declared.tree.Field.{Field}
use Rattle.fir_ast.specs.declared.tree.Expr.{Expr}
use Rattle.fir_ast.specs.declared.tree.Expr.TheFolds.{fold-Expr}
use Rattle.fir_ast.specs.declared.tree.Expr.TheOpen.{Expr-F, Ident, Part, At, Index, Lit, Apply}
use Rattle.fir_ast.specs.declared.tree.Stmt.{Stmt}
use Rattle.fir_ast.specs.declared.tree.Stmt.TheFolds.{fold-Stmt}
use Rattle.fir_ast.specs.declared.tree.Stmt.TheOpen.{Stmt-F, Wire, Node, Reg, Inst, Connect, Invalid, When, Skip, Verif}
use Rattle.fir_ast.specs.declared.tree.Port.{Port}
use Rattle.fir_ast.specs.declared.tree.Module.{Module}
use Rattle.fir_check.specs.declared.thing.Flow.{Flow}
use Rattle.fir_check.specs.declared.thing.Flow.TheVariants.{Free, Sink, Source, Fixed}
use Rattle.fir_check.specs.Names.{is_among, kept, firsts}
use Rattle.fir_check.specs.Types.{is_signed, field_named, vector_of}

-- flows: `Free` is a wire or register, `Sink` an output port or an instance's input, `Source` an input port or an instance's output,
-- `Fixed` a node, a literal or an operation

-- the flow of a flipped part
abbrev pub turned : Flow → Flow
turned Free = Free
turned Sink = Source
turned Source = Sink
turned Fixed = Fixed

abbrev pub may_be_driven : Flow → Bool
may_be_driven Free = true
may_be_driven Sink = true
may_be_driven Source = false
may_be_driven Fixed = false

-- what an expression stands for; `whole` says that it is an instance itself
pub record Thing : Type 0 where
  pub ty : Ty
  pub flow : Flow
  pub whole : Bool

abbrev pub thing : Ty → Flow → Thing
thing t flow = record { ty = t; flow = flow; whole = false }

-- a name that the module has declared so far, whether its block is still open, and what it stands for, if that is known
pub record Known : Type 0 where
  pub name : List ℕ
  pub open_here : Bool
  pub meaning : Option Thing

abbrev pub known_name : Known → List ℕ
known_name k = k.name

abbrev pub fresh : List ℕ → Option Thing → Known
fresh name meaning = record { name = name; open_here = true; meaning = meaning }

-- whether the module has declared the name, in a block that is open or not
abbrev pub is_declared : List ℕ → List Known → Bool
is_declared name known = is_among name (map known_name known)

-- the declaration that the name means here
abbrev pub visible : List ℕ → List Known → Option Known
visible name known = find (λ k. bytes_eq k.name name && k.open_here) known

-- a further declaration; none where the name is declared already
abbrev pub added : Known → List Known → List Known
added k known = if is_declared k.name known then known else known ++ k ∷ []

-- expressions

-- one level of an expression, with what stands in it
abbrev pub Level : Type 0
Level = Expr-F (Option Thing)

-- a literal's or a result's type, whose width the rules don't look at
abbrev pub number_type : Bool → Ty
number_type signed = if signed then ty.SInt None else ty.UInt None

-- whether an operand is an SInt
abbrev pub is_signed_thing : Option Thing → Bool
is_signed_thing None = false
is_signed_thing (Some t) = is_signed t.ty

-- the k-th operand
abbrev pub operand : ℕ → List (Option Thing) → Option Thing
operand k args = option_and_then (λ a. a) (slice_get args k)

-- an operation: a mux has the type of its first branch, any other the sign of its row
abbrev pub applied_thing : Op → List (Option Thing) → Option Thing
applied_thing Mux args = option_map (λ t. thing t.ty Fixed) (operand 1 args)
applied_thing op args = Some (thing (number_type (row_signed op (is_signed_thing (operand 0 args)))) Fixed)

-- a field, which goes against its bundle where it is flipped
abbrev pub field_thing : List ℕ → Thing → Option Thing
field_thing name t = option_map (λ f. thing f.of (if f.flip then turned t.flow else t.flow)) (field_named name t.ty)

abbrev pub element_thing : Thing → Option Thing
element_thing t = option_map (λ v. thing v.0 t.flow) (vector_of t.ty)

-- what a level stands for, if its names are known and its parts are there
abbrev pub level_thing : List Known → Level → Option Thing
level_thing known (Ident name) = option_and_then (λ k. k.meaning) (visible name known)
level_thing known (Part e name) = option_and_then (field_thing name) e
level_thing known (At e n) = option_and_then element_thing e
level_thing known (Index e index) = option_and_then element_thing e
level_thing known (Lit signed width negative n) = Some (thing (number_type signed) Fixed)
level_thing known (Apply op args nums) = applied_thing op args

-- an expression, judged: what it stands for, and whether some level of it breaks a rule
pub record Judged : Type 0 where
  pub meaning : Option Thing
  pub broken : Bool

-- a rule on one level of an expression
abbrev pub LevelRule : Type 0
LevelRule = List Known → Level → Bool

-- a level, from what the expressions in it are judged
abbrev pub level_of : Expr-F Judged → Level
level_of (Ident name) = Ident name
level_of (Part e name) = Part e.meaning name
level_of (At e n) = At e.meaning n
level_of (Index e index) = Index e.meaning index.meaning
level_of (Lit signed width negative n) = Lit signed width negative n
level_of (Apply op args nums) = Apply op (map (λ a. a.meaning) args) nums

abbrev pub broken_inside : Expr-F Judged → Bool
broken_inside (Ident name) = false
broken_inside (Part e name) = e.broken
broken_inside (At e n) = e.broken
broken_inside (Index e index) = e.broken || index.broken
broken_inside (Lit signed width negative n) = false
broken_inside (Apply op args nums) = list_any (λ a. a.broken) args

abbrev pub judged_at : LevelRule → List Known → Level → Bool → Judged
judged_at rule known level broken = record { meaning = level_thing known level; broken = rule known level || broken }

abbrev pub judged_level : LevelRule → List Known → Expr-F Judged → Judged
judged_level rule known e = judged_at rule known (level_of e) (broken_inside e)

abbrev pub judged : LevelRule → List Known → Expr → Judged
judged rule known = fold-Expr Judged (judged_level rule known)

-- whether some level of an expression breaks a rule on levels
abbrev pub somewhere : LevelRule → List Known → Expr → Bool
somewhere rule known e = (judged rule known e).broken

-- what an expression stands for
abbrev pub meaning_of : List Known → Expr → Option Thing
meaning_of known e = (judged (λ _ _. false) known e).meaning

-- declarations

abbrev pub module_name : Module → List ℕ
module_name m = m.name

abbrev pub port_name : Port → List ℕ
port_name p = p.name

-- the module of a name
abbrev pub module_named : List ℕ → List Module → Option Module
module_named name modules = find (λ m. bytes_eq m.name name) modules

-- a port as a field of an instance, an input flipped
abbrev pub port_field : Port → Field
port_field p = roll-Field (record { flip = not p.output; name = p.name; ty = p.ty })

-- an instance is a bundle of its module's ports, the inputs flipped
abbrev pub ports_type : Module → Ty
ports_type m = ty.Bundle (map port_field m.ports)

abbrev pub instance_thing : Module → Thing
instance_thing m = record { ty = ports_type m; flow = Source; whole = true }

abbrev pub port_known : Port → Known
port_known p = fresh p.name (Some (thing p.ty (if p.output then Sink else Source)))

-- the names that are declared before a module's body
abbrev pub ports_known : Module → List Known
ports_known m = map port_known (firsts port_name m.ports)

-- a wire or register
abbrev pub free_known : List ℕ → Ty → Known
free_known name t = fresh name (Some (thing t Free))

-- what a statement declares
abbrev pub declares : {A : Type 0} → List Module → List Known → Stmt-F A → Option Known
declares modules known (Wire _ name t) = Some (free_known name t)
declares modules known (Node _ name value) = Some (fresh name (option_map (λ v. thing v.ty Fixed) (meaning_of known value)))
declares modules known (Reg _ name t _ _) = Some (free_known name t)
declares modules known (Inst _ name target) = Some (fresh name (option_map instance_thing (module_named target modules)))
declares _ _ _ = None

abbrev pub with_declared : Option Known → List Known → List Known
with_declared None known = known
with_declared (Some k) known = added k known

-- statements

-- a name whose block has ended
abbrev pub hidden : Known → Known
hidden k = record { name = k.name; open_here = false; meaning = k.meaning }

-- the names past the first n are out of their block
abbrev pub hide : ℕ → List Known → List Known
hide n [] = []
hide zero (k ∷ ks) = hidden k ∷ hide zero ks
hide (suc n) (k ∷ ks) = k ∷ hide n ks

-- what is known after a part of a body, and the lines in it that break a rule
pub record Found : Type 0 where
  pub known : List Known
  pub lines : List ℕ

abbrev pub Walk : Type 0
Walk = List Known → Found

-- lines in front of those of a part
abbrev pub behind_lines : List ℕ → Found → Found
behind_lines lines f = record { known = f.known; lines = lines ++ f.lines }

-- one part after another
abbrev pub after : Found → Walk → Found
after a f = behind_lines a.lines (f a.known)

abbrev pub in_turn : List Walk → Walk
in_turn [] known = record { known = known; lines = [] }
in_turn (f ∷ fs) known = after (f known) (in_turn fs)

-- the first n names are those of the blocks outside: what else is known is hidden
abbrev pub leave : ℕ → Found → Found
leave n f = record { known = hide n f.known; lines = f.lines }

-- a block: what it declares is hidden behind it
abbrev pub in_block : List Walk → Walk
in_block fs known = leave (length known) (in_turn fs known)

-- a rule on one statement, at what is known in front of it
abbrev pub StmtRule : Type 0
StmtRule = List Known → Stmt-F Walk → Bool

abbrev pub line_of : {A : Type 0} → Stmt-F A → ℕ
line_of (Wire line _ _) = line
line_of (Node line _ _) = line
line_of (Reg line _ _ _ _) = line
line_of (Inst line _ _) = line
line_of (Connect line _ _) = line
line_of (Invalid line _) = line
line_of (When line _ _ _) = line
line_of (Skip line) = line
line_of (Verif line _ _ _ _ _) = line

-- the statement's blocks, or what it declares
abbrev pub behind : List Module → Stmt-F Walk → Walk
behind modules (When _ _ taken other) known = after (in_block taken known) (in_block other)
behind modules s known = record { known = with_declared (declares modules known s) known; lines = [] }

abbrev pub stmt_level : List Module → StmtRule → Stmt-F Walk → Walk
stmt_level modules rule s known = behind_lines (kept (rule known s) (line_of s) []) (behind modules s known)

abbrev pub stmt_found : List Module → StmtRule → Stmt → Walk
stmt_found modules rule = fold-Stmt Walk (stmt_level modules rule)

-- the lines of a module's statements that break a rule, at any depth
abbrev pub body_lines : List Module → StmtRule → Module → List ℕ
body_lines modules rule m = (in_turn (map (stmt_found modules rule) m.body) (ports_known m)).lines
