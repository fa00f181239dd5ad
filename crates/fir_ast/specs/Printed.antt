-- The printed form of a circuit.
--
-- One statement a line, with two spaces for each level of nesting. A space follows each comma, and one
-- stands on each side of `:` and `=`. Brackets have none inside, but for those round the fields of a bundle
-- that has any. Numbers are decimal. Strings stand as they were read. A line feed ends each line.
use Rattle.std.specs.Prelude.{ℕ, Bool, true, false, Option, Some, None, List, [], ◌∷◌, ◌++◌, map, take, drop, codes}
use Rattle.std.specs.List.{flat_map}
use Rattle.std.specs.Fmt.{decimal}
use Rattle.tb_base.specs.Joined.{joined}
use Rattle.tb_base.specs.Names.{op_name}
use Rattle.fir_ast.specs.declared.tree.Ty.{Ty}
use Rattle.fir_ast.specs.declared.tree.Ty.TheFolds.{fold-Ty, fold-Field}
use Rattle.fir_ast.specs.declared.tree.Ty.TheOpen.{Ty-F, Field-F, UInt, SInt, Clock, Reset, Bundle, Vector}
use Rattle.fir_ast.specs.declared.tree.Field.{Field}
use Rattle.fir_ast.specs.declared.tree.Expr.{Expr}
use Rattle.fir_ast.specs.declared.tree.Expr.TheFolds.{fold-Expr}
use Rattle.fir_ast.specs.declared.tree.Expr.TheOpen.{Expr-F, Ident, Part, At, Index, Lit, Apply}
use Rattle.fir_ast.specs.declared.tree.ResetPair.{ResetPair}
use Rattle.fir_ast.specs.declared.tree.VerifKind.{VerifKind}
use Rattle.fir_ast.specs.declared.tree.VerifKind.TheVariants.{Printf, Stop, Assert, Assume, Cover}
use Rattle.fir_ast.specs.declared.tree.Stmt.{Stmt}
use Rattle.fir_ast.specs.declared.tree.Stmt.TheFolds.{fold-Stmt}
use Rattle.fir_ast.specs.declared.tree.Stmt.TheOpen.{Stmt-F, Wire, Node, Reg, Inst, Connect, Invalid, When, Skip, Verif}
use Rattle.fir_ast.specs.declared.tree.Port.{Port}
use Rattle.fir_ast.specs.declared.tree.Module.{Module}
use Rattle.fir_ast.specs.declared.tree.Circuit.{Circuit}

-- texts with a comma and a space between each two
abbrev pub listed : List (List ℕ) → List ℕ
listed texts = joined (codes ", ") texts

-- a type

-- `<8>`, or nothing where no width is written
abbrev pub width_text : Option ℕ → List ℕ
width_text None = []
width_text (Some w) = codes "<" ++ (decimal w ++ codes ">")

-- `{ f, f }`, or `{}` where there is no field
abbrev pub bundle_text : List (List ℕ) → List ℕ
bundle_text [] = codes "{}"
bundle_text (f ∷ fs) = codes "{ " ++ (listed (f ∷ fs) ++ codes " }")

-- `flip ` in front of a flipped field
abbrev pub flip_text : Bool → List ℕ
flip_text true = codes "flip "
flip_text false = []

-- one level of a type, from the texts of the types and fields in it
abbrev pub type_level : Ty-F (List ℕ) (List ℕ) → List ℕ
type_level (UInt w) = codes "UInt" ++ width_text w
type_level (SInt w) = codes "SInt" ++ width_text w
type_level Clock = codes "Clock"
type_level Reset = codes "Reset"
type_level (Bundle fields) = bundle_text fields
type_level (Vector of n) = of ++ (codes "[" ++ (decimal n ++ codes "]"))

-- `name : T` or `flip name : T`
abbrev pub field_level : Field-F (List ℕ) (List ℕ) → List ℕ
field_level f = flip_text f.flip ++ (f.name ++ (codes " : " ++ f.ty))

-- the text of a type
abbrev pub type_text : Ty → List ℕ
type_text = fold-Ty (List ℕ) (List ℕ) type_level field_level

-- the text of a field
abbrev pub field_text : Field → List ℕ
field_text = fold-Field (List ℕ) (List ℕ) type_level field_level

-- an expression

-- `SInt` or `UInt`
abbrev pub sign_name : Bool → List ℕ
sign_name true = codes "SInt"
sign_name false = codes "UInt"

-- `-` in front of a negative magnitude
abbrev pub minus_text : Bool → List ℕ
minus_text true = codes "-"
minus_text false = []

-- `SInt<8>(-5)`
abbrev pub literal_text : Bool → Option ℕ → Bool → ℕ → List ℕ
literal_text signed width negative n = sign_name signed ++ (width_text width ++ (codes "(" ++ (minus_text negative ++ (decimal n ++ codes ")"))))

-- one level of an expression, from the texts of the expressions in it
abbrev pub expr_level : Expr-F (List ℕ) → List ℕ
expr_level (Ident name) = name
expr_level (Part e name) = e ++ (codes "." ++ name)
expr_level (At e n) = e ++ (codes "[" ++ (decimal n ++ codes "]"))
expr_level (Index e index) = e ++ (codes "[" ++ (index ++ codes "]"))
expr_level (Lit signed width negative n) = literal_text signed width negative n
expr_level (Apply op args nums) = op_name op ++ (codes "(" ++ (listed (args ++ map decimal nums) ++ codes ")"))

-- the text of an expression
abbrev pub expr_text : Expr → List ℕ
expr_text = fold-Expr (List ℕ) expr_level

-- the words of a statement

-- `wire name : T`
abbrev pub wire_words : List ℕ → Ty → List ℕ
wire_words name ty = codes "wire " ++ (name ++ (codes " : " ++ type_text ty))

-- `node name = E`
abbrev pub node_words : List ℕ → Expr → List ℕ
node_words name value = codes "node " ++ (name ++ (codes " = " ++ expr_text value))

-- `reg name : T, E`, or `regreset name : T, E, E, E` where it has a reset
abbrev pub reg_words : List ℕ → Ty → Expr → Option ResetPair → List ℕ
reg_words name ty clock None = codes "reg " ++ (name ++ (codes " : " ++ (type_text ty ++ (codes ", " ++ expr_text clock))))
reg_words name ty clock (Some r) =
    codes "regreset " ++ (name ++ (codes " : " ++ (type_text ty ++ (codes ", " ++ (expr_text clock
    ++ (codes ", " ++ (expr_text r.signal ++ (codes ", " ++ expr_text r.init))))))))

-- `inst name of target`
abbrev pub inst_words : List ℕ → List ℕ → List ℕ
inst_words name target = codes "inst " ++ (name ++ (codes " of " ++ target))

-- `connect S, E`
abbrev pub connect_words : Expr → Expr → List ℕ
connect_words sink value = codes "connect " ++ (expr_text sink ++ (codes ", " ++ expr_text value))

-- `invalidate S`
abbrev pub invalid_words : Expr → List ℕ
invalid_words sink = codes "invalidate " ++ expr_text sink

-- `when E :`
abbrev pub when_words : Expr → List ℕ
when_words cond = codes "when " ++ (expr_text cond ++ codes " :")

-- the first word of a verification statement
abbrev pub kind_name : VerifKind → List ℕ
kind_name Printf = codes "printf"
kind_name Stop = codes "stop"
kind_name Assert = codes "assert"
kind_name Assume = codes "assume"
kind_name Cover = codes "cover"

-- how many expressions stand in front of the string or number
abbrev pub operands_before : VerifKind → ℕ
operands_before Printf = 2
operands_before Stop = 2
operands_before _ = 3

-- the number of a `stop`, the string of the others in its quotes
abbrev pub message_text : VerifKind → ℕ → List ℕ → List ℕ
message_text Stop code text = decimal code
message_text _ code text = codes "\"" ++ (text ++ codes "\"")

-- ` : name` where there is a label
abbrev pub label_text : Option (List ℕ) → List ℕ
label_text None = []
label_text (Some name) = codes " : " ++ name

-- the operands in brackets, with the string or number in its place among the expressions
abbrev pub verif_operands : VerifKind → List Expr → ℕ → List ℕ → List (List ℕ)
verif_operands kind args code text =
    map expr_text (take (operands_before kind) args) ++ message_text kind code text ∷ map expr_text (drop (operands_before kind) args)

-- `printf(E, E, "s", E)`, `stop(E, E, n)`, `assert(E, E, E, "s", E)` and its kin, each with its label
abbrev pub verif_words : VerifKind → List Expr → ℕ → List ℕ → Option (List ℕ) → List ℕ
verif_words kind args code text label =
    kind_name kind ++ (codes "(" ++ (listed (verif_operands kind args code text) ++ (codes ")" ++ label_text label)))

-- lines

-- a line: its indentation, its words, a line feed
abbrev pub line_text : List ℕ → List ℕ → List ℕ
line_text indent words = indent ++ (words ++ 10 ∷ [])

-- the indentation one level deeper
abbrev pub deeper : List ℕ → List ℕ
deeper indent = indent ++ codes "  "

-- the lines of a block, from those of its statements, at an indentation
abbrev pub block_text : List (List ℕ → List ℕ) → List ℕ → List ℕ
block_text stmts indent = flat_map (λ stmt. stmt indent) stmts

-- the `else` of a `when`, where it has one
abbrev pub else_text : List (List ℕ → List ℕ) → List ℕ → List ℕ
else_text [] indent = []
else_text (s ∷ ss) indent = line_text indent (codes "else :") ++ block_text (s ∷ ss) (deeper indent)

-- one level of a statement at an indentation, from the lines of the statements in it
abbrev pub stmt_level : Stmt-F (List ℕ → List ℕ) → List ℕ → List ℕ
stmt_level (Wire _ name ty) indent = line_text indent (wire_words name ty)
stmt_level (Node _ name value) indent = line_text indent (node_words name value)
stmt_level (Reg _ name ty clock reset) indent = line_text indent (reg_words name ty clock reset)
stmt_level (Inst _ name target) indent = line_text indent (inst_words name target)
stmt_level (Connect _ sink value) indent = line_text indent (connect_words sink value)
stmt_level (Invalid _ sink) indent = line_text indent (invalid_words sink)
stmt_level (When _ cond taken other) indent =
    line_text indent (when_words cond) ++ (block_text taken (deeper indent) ++ else_text other indent)
stmt_level (Skip _) indent = line_text indent (codes "skip")
stmt_level (Verif _ kind args code text label) indent = line_text indent (verif_words kind args code text label)

-- the lines of a statement at an indentation
abbrev pub stmt_text : Stmt → List ℕ → List ℕ
stmt_text = fold-Stmt (List ℕ → List ℕ) stmt_level

-- the first word of a port
abbrev pub direction_name : Bool → List ℕ
direction_name true = codes "output "
direction_name false = codes "input "

-- `input name : T` or `output name : T`, with four spaces in front
abbrev pub port_text : Port → List ℕ
port_text p = line_text (codes "    ") (direction_name p.output ++ (p.name ++ (codes " : " ++ type_text p.ty)))

-- `module name :`, its ports, its statements
abbrev pub module_text : Module → List ℕ
module_text m =
    line_text (codes "  ") (codes "module " ++ (m.name ++ codes " :"))
    ++ (flat_map port_text m.ports ++ block_text (map stmt_text m.body) (codes "    "))

-- `circuit name :`, its modules
unfoldable pub printed : Circuit → List ℕ
printed c = line_text [] (codes "circuit " ++ (c.name ++ codes " :")) ++ flat_map module_text c.modules
