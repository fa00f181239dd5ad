-- Printed lines, as lists of tokens and spaces.
use Rattle.std.specs.Prelude.{ℕ, Bool, true, false, Option, Some, None, List, [], ◌∷◌, ◌++◌, map, take, drop, codes}
use Rattle.std.specs.List.{flat_map}
use Rattle.std.specs.Fmt.{decimal}
use Rattle.tb_base.specs.Names.{op_name}
use Rattle.text_grammar.specs.declared.item.Symbol.{Symbol}
use Rattle.text_grammar.specs.declared.item.Symbol.TheVariants as s
use Rattle.text_grammar.specs.declared.item.Token.{Token}
use Rattle.text_grammar.specs.declared.item.Token.TheVariants as token
use Rattle.fir_ast.specs.declared.tree.Ty.{Ty}
use Rattle.fir_ast.specs.declared.tree.Ty.TheFolds.{fold-Ty, fold-Field}
use Rattle.fir_ast.specs.declared.tree.Ty.TheOpen.{Ty-F, Field-F, UInt, SInt, Clock, Reset, Bundle, Vector}
use Rattle.fir_ast.specs.declared.tree.Field.{Field}
use Rattle.fir_ast.specs.declared.tree.Expr.{Expr}
use Rattle.fir_ast.specs.declared.tree.Expr.TheFolds.{fold-Expr}
use Rattle.fir_ast.specs.declared.tree.Expr.TheOpen.{Expr-F, Ident, Part, At, Index, Lit, Apply}
use Rattle.fir_ast.specs.declared.tree.ResetPair.{ResetPair}
use Rattle.fir_ast.specs.declared.tree.VerifKind.{VerifKind}
use Rattle.fir_ast.specs.declared.tree.VerifKind.TheVariants.{Stop}
use Rattle.fir_ast.specs.declared.tree.Stmt.{Stmt}
use Rattle.fir_ast.specs.declared.tree.Stmt.TheFolds.{fold-Stmt}
use Rattle.fir_ast.specs.declared.tree.Stmt.TheOpen.{Stmt-F, Wire, Node, Reg, Inst, Connect, Invalid, When, Skip, Verif}
use Rattle.fir_ast.specs.declared.tree.Port.{Port}
use Rattle.fir_ast.specs.declared.tree.Module.{Module}
use Rattle.fir_ast.specs.declared.tree.Circuit.{Circuit}
use Rattle.fir_ast.specs.Printed.{sign_name, kind_name, operands_before}

-- a token, or a space
abbrev pub Atom : Type 0
Atom = Option Token

-- the symbols that are printed
abbrev pub symbol_text : Symbol → List ℕ
symbol_text s.Less = codes "<"
symbol_text s.Greater = codes ">"
symbol_text s.OpenParen = codes "("
symbol_text s.CloseParen = codes ")"
symbol_text s.OpenBracket = codes "["
symbol_text s.CloseBracket = codes "]"
symbol_text s.OpenBrace = codes "{"
symbol_text s.CloseBrace = codes "}"
symbol_text s.Colon = codes ":"
symbol_text s.Comma = codes ","
symbol_text s.Dot = codes "."
symbol_text s.Equal = codes "="
symbol_text s.Minus = codes "-"
symbol_text _ = []

abbrev pub token_text : Token → List ℕ
token_text (token.Word w) = w
token_text (token.Number n) = decimal n
token_text (token.Text t) = codes "\"" ++ (t ++ codes "\"")
token_text (token.Symbol symbol) = symbol_text symbol
token_text _ = []

abbrev pub atom_text : Atom → List ℕ
atom_text None = codes " "
atom_text (Some t) = token_text t

-- the text of a line
abbrev pub text : List Atom → List ℕ
text [] = []
text (a ∷ rest) = atom_text a ++ text rest

abbrev pub space : Atom
space = None

abbrev pub word : List ℕ → Atom
word w = Some (token.Word w)

abbrev pub number : ℕ → Atom
number n = Some (token.Number n)

abbrev pub mark : Symbol → Atom
mark symbol = Some (token.Symbol symbol)

-- a comma and a space between each two
abbrev pub comma : List Atom
comma = mark s.Comma ∷ space ∷ []

abbrev pub listed_behind : List (List Atom) → List Atom
listed_behind [] = []
listed_behind (xs ∷ more) = mark s.Comma ∷ space ∷ (xs ++ listed_behind more)

abbrev pub listed : List (List Atom) → List Atom
listed [] = []
listed (xs ∷ more) = xs ++ listed_behind more

-- ` : `
abbrev pub colon : List Atom
colon = space ∷ mark s.Colon ∷ space ∷ []

-- ---- types

abbrev pub width_atoms : Option ℕ → List Atom
width_atoms None = []
width_atoms (Some w) = mark s.Less ∷ number w ∷ mark s.Greater ∷ []

abbrev pub bundle_atoms : List (List Atom) → List Atom
bundle_atoms [] = mark s.OpenBrace ∷ mark s.CloseBrace ∷ []
bundle_atoms (f ∷ fs) = mark s.OpenBrace ∷ space ∷ (listed (f ∷ fs) ++ space ∷ mark s.CloseBrace ∷ [])

abbrev pub flip_atoms : Bool → List Atom
flip_atoms true = word (codes "flip") ∷ space ∷ []
flip_atoms false = []

abbrev pub type_level : Ty-F (List Atom) (List Atom) → List Atom
type_level (UInt w) = word (codes "UInt") ∷ width_atoms w
type_level (SInt w) = word (codes "SInt") ∷ width_atoms w
type_level Clock = word (codes "Clock") ∷ []
type_level Reset = word (codes "Reset") ∷ []
type_level (Bundle fields) = bundle_atoms fields
type_level (Vector of n) = of ++ (mark s.OpenBracket ∷ number n ∷ mark s.CloseBracket ∷ [])

abbrev pub field_level : Field-F (List Atom) (List Atom) → List Atom
field_level f = flip_atoms f.flip ++ (word f.name ∷ (colon ++ f.ty))

abbrev pub type_atoms : Ty → List Atom
type_atoms = fold-Ty (List Atom) (List Atom) type_level field_level

abbrev pub field_atoms : Field → List Atom
field_atoms = fold-Field (List Atom) (List Atom) type_level field_level

-- ---- expressions

abbrev pub minus_atoms : Bool → List Atom
minus_atoms true = mark s.Minus ∷ []
minus_atoms false = []

abbrev pub literal_atoms : Bool → Option ℕ → Bool → ℕ → List Atom
literal_atoms signed width negative n = word (sign_name signed) ∷ (width_atoms width ++ (mark s.OpenParen ∷ (minus_atoms negative ++ (number n ∷ mark s.CloseParen ∷ []))))

abbrev pub number_atoms : ℕ → List Atom
number_atoms n = number n ∷ []

abbrev pub expr_level : Expr-F (List Atom) → List Atom
expr_level (Ident name) = word name ∷ []
expr_level (Part e name) = e ++ (mark s.Dot ∷ word name ∷ [])
expr_level (At e n) = e ++ (mark s.OpenBracket ∷ number n ∷ mark s.CloseBracket ∷ [])
expr_level (Index e index) = e ++ (mark s.OpenBracket ∷ (index ++ mark s.CloseBracket ∷ []))
expr_level (Lit signed width negative n) = literal_atoms signed width negative n
expr_level (Apply op args nums) = word (op_name op) ∷ mark s.OpenParen ∷ (listed (args ++ map number_atoms nums) ++ mark s.CloseParen ∷ [])

abbrev pub expr_atoms : Expr → List Atom
expr_atoms = fold-Expr (List Atom) expr_level

-- ---- statements, a line each

abbrev pub reg_atoms : List ℕ → Ty → Expr → Option ResetPair → List Atom
reg_atoms name ty clock None = word (codes "reg") ∷ space ∷ word name ∷ (colon ++ (type_atoms ty ++ (comma ++ expr_atoms clock)))
reg_atoms name ty clock (Some r) =
    word (codes "regreset") ∷ space ∷ word name ∷ (colon ++ (type_atoms ty ++ (comma ++ (expr_atoms clock ++ (comma ++ (expr_atoms r.signal ++ (comma ++ expr_atoms r.init)))))))

-- the number of a `stop`, the string of the others
abbrev pub message_atoms : VerifKind → ℕ → List ℕ → List Atom
message_atoms Stop code t = number code ∷ []
message_atoms _ code t = Some (token.Text t) ∷ []

abbrev pub label_atoms : Option (List ℕ) → List Atom
label_atoms None = []
label_atoms (Some name) = colon ++ word name ∷ []

abbrev pub operand_atoms : VerifKind → List Expr → ℕ → List ℕ → List (List Atom)
operand_atoms kind args code t = map expr_atoms (take (operands_before kind) args) ++ message_atoms kind code t ∷ map expr_atoms (drop (operands_before kind) args)

abbrev pub verif_atoms : VerifKind → List Expr → ℕ → List ℕ → Option (List ℕ) → List Atom
verif_atoms kind args code t label =
    word (kind_name kind) ∷ mark s.OpenParen ∷ (listed (operand_atoms kind args code t) ++ (mark s.CloseParen ∷ label_atoms label))

-- ---- lines

abbrev pub Line : Type 0
Line = List Atom

abbrev pub lines_text : List Line → List ℕ
lines_text lines = flat_map (λ line. text line ++ 10 ∷ []) lines

abbrev pub deeper : List Atom → List Atom
deeper indent = indent ++ (space ∷ space ∷ [])

abbrev pub block_lines : List (List Atom → List Line) → List Atom → List Line
block_lines stmts indent = flat_map (λ stmt. stmt indent) stmts

abbrev pub else_lines : List (List Atom → List Line) → List Atom → List Line
else_lines [] indent = []
else_lines (s1 ∷ more) indent = (indent ++ (word (codes "else") ∷ space ∷ mark s.Colon ∷ [])) ∷ block_lines (s1 ∷ more) (deeper indent)

abbrev pub stmt_level : Stmt-F (List Atom → List Line) → List Atom → List Line
stmt_level (Wire _ name ty) indent = (indent ++ (word (codes "wire") ∷ space ∷ word name ∷ (colon ++ type_atoms ty))) ∷ []
stmt_level (Node _ name value) indent = (indent ++ (word (codes "node") ∷ space ∷ word name ∷ space ∷ mark s.Equal ∷ space ∷ expr_atoms value)) ∷ []
stmt_level (Reg _ name ty clock reset) indent = (indent ++ reg_atoms name ty clock reset) ∷ []
stmt_level (Inst _ name target) indent = (indent ++ (word (codes "inst") ∷ space ∷ word name ∷ space ∷ word (codes "of") ∷ space ∷ word target ∷ [])) ∷ []
stmt_level (Connect _ sink value) indent = (indent ++ (word (codes "connect") ∷ space ∷ (expr_atoms sink ++ (comma ++ expr_atoms value)))) ∷ []
stmt_level (Invalid _ sink) indent = (indent ++ (word (codes "invalidate") ∷ space ∷ expr_atoms sink)) ∷ []
stmt_level (When _ cond taken other) indent =
    (indent ++ (word (codes "when") ∷ space ∷ (expr_atoms cond ++ (space ∷ mark s.Colon ∷ [])))) ∷ (block_lines taken (deeper indent) ++ else_lines other indent)
stmt_level (Skip _) indent = (indent ++ (word (codes "skip") ∷ [])) ∷ []
stmt_level (Verif _ kind args code t label) indent = (indent ++ verif_atoms kind args code t label) ∷ []

abbrev pub stmt_lines : Stmt → List Atom → List Line
stmt_lines = fold-Stmt (List Atom → List Line) stmt_level

-- so many spaces
abbrev pub two : List Atom
two = space ∷ space ∷ []

abbrev pub four : List Atom
four = space ∷ space ∷ space ∷ space ∷ []

abbrev pub direction_word : Bool → List ℕ
direction_word true = codes "output"
direction_word false = codes "input"

abbrev pub port_line : Port → Line
port_line p = four ++ (word (direction_word p.output) ∷ space ∷ word p.name ∷ (colon ++ type_atoms p.ty))

abbrev pub module_lines : Module → List Line
module_lines m =
    (two ++ (word (codes "module") ∷ space ∷ word m.name ∷ space ∷ mark s.Colon ∷ []))
    ∷ (map port_line m.ports ++ block_lines (map stmt_lines m.body) four)

-- the lines of a printed circuit
unfoldable pub circuit_lines : Circuit → List Line
circuit_lines c = (word (codes "circuit") ∷ space ∷ word c.name ∷ space ∷ mark s.Colon ∷ []) ∷ flat_map module_lines c.modules
