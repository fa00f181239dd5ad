-- The printed form of a test.
--
-- One statement a line, with two spaces for each level of nesting, and a line feed behind each line. A `{` ends its line. Its `}`
-- begins a line at the level of the block's statement, and ends that line or is followed there by ` else {`. One space stands
-- between two tokens, those round brackets and commas and behind a one-sided `-` too; none stands in front of `;`. A port stands as
-- its name. Numbers are decimal.
use Rattle.std.specs.Prelude.{ℕ, suc, max, nat_lt, Bool, true, false, Option, Some, None, List, [], ◌∷◌, ◌++◌, map, codes}
use Rattle.std.specs.List.{flat_map}
use Rattle.std.specs.Fmt.{decimal}
use Rattle.tb_base.specs.Joined.{led, joined}
use Rattle.tb_base.specs.declared.path.Region.{Region}
use Rattle.tb_base.specs.declared.path.Region.TheVariants.{Main, Monitor}
use Rattle.tl_ast.specs.declared.tree.TestExpr.{TestExpr}
use Rattle.tl_ast.specs.declared.tree.TestExpr.TheFolds.{fold-TestExpr}
use Rattle.tl_ast.specs.declared.tree.TestExpr.TheOpen.{TestExpr-F, Num, Var, Neg, Two}
use Rattle.tl_ast.specs.declared.tree.TestOp.{TestOp}
use Rattle.tl_ast.specs.declared.tree.TestOp.TheVariants.{Add, Sub, Mul, And, Or, Xor, Shl, Shr, Eq, Neq, Lt, Leq, Gt, Geq}
use Rattle.tl_ast.specs.declared.tree.DriverKind.{DriverKind}
use Rattle.tl_ast.specs.declared.tree.DriverKind.TheVariants.{Enqueue, EnqueueNow, EnqueueSeq, ExpectDequeue, ExpectDequeueNow, ExpectDequeueSeq, ExpectInvalid}
use Rattle.tl_ast.specs.declared.tree.TestStmt.{TestStmt}
use Rattle.tl_ast.specs.declared.tree.TestStmt.TheFolds.{fold-TestStmt}
use Rattle.tl_ast.specs.declared.tree.TestStmt.TheOpen.{TestStmt-F, Poke, Peek, Expect, Step, Let, Set, If, While, Repeat, Fork, Join, JoinStep, Driver, ResetFor}
use Rattle.tl_ast.specs.declared.tree.TestText.{TestText}

-- operators

abbrev pub op_text : TestOp → List ℕ
op_text Add = codes "+"
op_text Sub = codes "-"
op_text Mul = codes "*"
op_text And = codes "&"
op_text Or = codes "|"
op_text Xor = codes "^"
op_text Shl = codes "<<"
op_text Shr = codes ">>"
op_text Eq = codes "=="
op_text Neq = codes "!="
op_text Lt = codes "<"
op_text Leq = codes "<="
op_text Gt = codes ">"
op_text Geq = codes ">="

-- how tight an operator binds: comparisons loosest, `*` tightest
abbrev pub tightness : TestOp → ℕ
tightness Or = 1
tightness Xor = 2
tightness And = 3
tightness Shl = 4
tightness Shr = 4
tightness Add = 5
tightness Sub = 5
tightness Mul = 6
tightness _ = 0

-- An operand that is a two-sided operation stands in parentheses where its operator is looser than its place asks.

-- on the left: as tight as the operation's own, and no comparison under a comparison
abbrev pub left_asks : TestOp → ℕ
left_asks op = max 1 (tightness op)

-- on the right: tighter than the operation's own
abbrev pub right_asks : TestOp → ℕ
right_asks op = suc (tightness op)

-- under a one-sided `-`: tighter than any
abbrev pub minus_asks : ℕ
minus_asks = 7

-- expressions

abbrev pub opening : Bool → List ℕ
opening true = codes "( "
opening false = []

abbrev pub closing : Bool → List ℕ
closing true = codes " )"
closing false = []

-- one level of an expression, in a place that asks for this tightness, from the texts of its operands
abbrev pub expr_level : TestExpr-F (ℕ → List ℕ) → ℕ → List ℕ
expr_level (Num n) asked = decimal n
expr_level (Var name) asked = name
expr_level (Neg e) asked = codes "- " ++ e minus_asks
expr_level (Two op a b) asked =
    opening (nat_lt (tightness op) asked)
    ++ (a (left_asks op) ++ (codes " " ++ (op_text op ++ (codes " " ++ (b (right_asks op) ++ closing (nat_lt (tightness op) asked))))))

-- the text of an expression in a place that asks for a tightness
abbrev pub operand_text : TestExpr → ℕ → List ℕ
operand_text = fold-TestExpr (ℕ → List ℕ) expr_level

-- the text of a whole expression
abbrev pub expr_text : TestExpr → List ℕ
expr_text e = operand_text e 0

-- the words of a statement

-- `poke P = E`, `expect P == E` and their kin, with the word, the port or variable, and the sign
abbrev pub value_words : List ℕ → List ℕ → List ℕ → TestExpr → List ℕ
value_words word target sign value = word ++ (target ++ (sign ++ expr_text value))

-- ` into w` where a variable is set
abbrev pub into_text : Option (List ℕ) → List ℕ
into_text None = []
into_text (Some w) = codes " into " ++ w

-- `peek P` or `peek P into w`
abbrev pub peek_words : List ℕ → Option (List ℕ) → List ℕ
peek_words port into = codes "peek " ++ (port ++ into_text into)

-- the word of a region in front of a handle, where one is written
abbrev pub region_text : Option Region → List ℕ
region_text None = []
region_text (Some Main) = codes "main "
region_text (Some Monitor) = codes "monitor "

-- `fork w`, `fork main w` or `fork monitor w`
abbrev pub fork_words : Option Region → List ℕ → List ℕ
fork_words region handle = codes "fork " ++ (region_text region ++ handle)

abbrev pub kind_name : DriverKind → List ℕ
kind_name Enqueue = codes "enqueue"
kind_name EnqueueNow = codes "enqueueNow"
kind_name EnqueueSeq = codes "enqueueSeq"
kind_name ExpectDequeue = codes "expectDequeue"
kind_name ExpectDequeueNow = codes "expectDequeueNow"
kind_name ExpectDequeueSeq = codes "expectDequeueSeq"
kind_name ExpectInvalid = codes "expectInvalid"

-- `[ E , E ]`, or `[ ]` where there is none
abbrev pub listed : List (List ℕ) → List ℕ
listed [] = codes "[ ]"
listed (e ∷ es) = codes "[ " ++ (joined (codes " , ") (e ∷ es) ++ codes " ]")

-- the values behind a driver's port: a list where its kind has one, else each as it is
abbrev pub values_text : DriverKind → List (List ℕ) → List ℕ
values_text EnqueueSeq values = codes " " ++ listed values
values_text ExpectDequeueSeq values = codes " " ++ listed values
values_text _ values = led (codes " ") values

-- `enqueue P E`, `enqueueSeq P [ E , E ]`, `expectInvalid P` and their kin
abbrev pub driver_words : DriverKind → List ℕ → List TestExpr → List ℕ
driver_words kind port values = kind_name kind ++ (codes " " ++ (port ++ values_text kind (map expr_text values)))

-- lines

-- a statement without a block, on a line of its own
abbrev pub ended : List ℕ → List ℕ → List ℕ
ended indent words = indent ++ (words ++ (codes ";" ++ 10 ∷ []))

-- the line on which a block begins
abbrev pub opens : List ℕ → List ℕ → List ℕ
opens indent words = indent ++ (words ++ (codes " {" ++ 10 ∷ []))

-- the line on which it ends
abbrev pub closes : List ℕ → List ℕ
closes indent = indent ++ (codes "}" ++ 10 ∷ [])

-- the line on which one ends and another begins
abbrev pub turns : List ℕ → List ℕ
turns indent = indent ++ (codes "} else {" ++ 10 ∷ [])

-- the indentation one level deeper
abbrev pub deeper : List ℕ → List ℕ
deeper indent = indent ++ codes "  "

-- the lines of statements at an indentation
abbrev pub block_text : List (List ℕ → List ℕ) → List ℕ → List ℕ
block_text stmts indent = flat_map (λ stmt. stmt indent) stmts

-- a statement of these words and one block
abbrev pub braced : List ℕ → List ℕ → List (List ℕ → List ℕ) → List ℕ
braced indent words body = opens indent words ++ (block_text body (deeper indent) ++ closes indent)

-- the `else` block, where it has a statement
abbrev pub else_text : List (List ℕ → List ℕ) → List ℕ → List ℕ
else_text [] indent = []
else_text (s ∷ ss) indent = turns indent ++ block_text (s ∷ ss) (deeper indent)

-- `if E {`, its block, maybe `} else {` and that block, `}`
abbrev pub if_text : List ℕ → TestExpr → List (List ℕ → List ℕ) → List (List ℕ → List ℕ) → List ℕ
if_text indent cond taken other =
    opens indent (codes "if " ++ expr_text cond) ++ (block_text taken (deeper indent) ++ (else_text other indent ++ closes indent))

-- one level of a statement at an indentation, from the lines of the statements in it
abbrev pub stmt_level : TestStmt-F (List ℕ → List ℕ) → List ℕ → List ℕ
stmt_level (Poke _ port value) indent = ended indent (value_words (codes "poke ") port (codes " = ") value)
stmt_level (Peek _ port into) indent = ended indent (peek_words port into)
stmt_level (Expect _ port value) indent = ended indent (value_words (codes "expect ") port (codes " == ") value)
stmt_level (Step _ count) indent = ended indent (codes "step " ++ decimal count)
stmt_level (Let _ name value) indent = ended indent (value_words (codes "let ") name (codes " = ") value)
stmt_level (Set _ name value) indent = ended indent (value_words (codes "set ") name (codes " = ") value)
stmt_level (If _ cond taken other) indent = if_text indent cond taken other
stmt_level (While _ cond body) indent = braced indent (codes "while " ++ expr_text cond) body
stmt_level (Repeat _ count body) indent = braced indent (codes "repeat " ++ expr_text count) body
stmt_level (Fork _ region handle body) indent = braced indent (fork_words region handle) body
stmt_level (Join _ handle) indent = ended indent (codes "join " ++ handle)
stmt_level (JoinStep _ handle) indent = ended indent (codes "joinstep " ++ handle)
stmt_level (Driver _ kind port values) indent = ended indent (driver_words kind port values)
stmt_level (ResetFor _ count) indent = ended indent (codes "reset " ++ decimal count)

-- the lines of a statement at an indentation
abbrev pub stmt_text : TestStmt → List ℕ → List ℕ
stmt_text = fold-TestStmt (List ℕ → List ℕ) stmt_level

-- the text of a test
unfoldable pub printed_test : TestText → List ℕ
printed_test test = block_text (map stmt_text test.body) []
