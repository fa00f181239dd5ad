-- The rows of a circuit text that stand on one line: statements without a block, ports, and the heads of modules and of
-- the circuit. No word is reserved. A row is read on from its first word, by the next item alone; where the next item is
-- a name too, that name is taken as well. Each row takes its line's end.
use Rattle.std.specs.Prelude.{ℕ, Bool, true, false, ◌&&◌, ◌||◌, Option, Some, None, List, [], ◌∷◌, ◌++◌, codes}
use Rattle.std.specs.Str.{bytes_eq}
use Rattle.text_grammar.specs.declared.item.Item.{Item}
use Rattle.text_grammar.specs.declared.item.Token.{Token}
use Rattle.text_grammar.specs.declared.item.Token.TheVariants as token
use Rattle.text_grammar.specs.declared.item.Symbol.TheVariants as s
use Rattle.text_grammar.specs.declared.fault.Form.TheVariants.{Annotation}
use Rattle.text_grammar.specs.declared.fault.Kind.TheVariants.{Unsupported}
use Rattle.text_grammar.specs.Part.{Part, first, second, one, flag, both, after, either, pick, nothing, unless, many, cons}
use Rattle.text_grammar.specs.Terminals.{is_word, is_symbol, is_name, keyword, mark, name, number, deeper}
use Rattle.fir_ast.specs.Limits.{Limits}
use Rattle.fir_ast.specs.TypeGrammar.{ty}
use Rattle.fir_ast.specs.ExprGrammar.{expr, reference_from}
use Rattle.fir_ast.specs.declared.tree.Ty.{Ty}
use Rattle.fir_ast.specs.declared.tree.Expr.{Expr}
use Rattle.fir_ast.specs.declared.tree.Expr.TheOpen as layer
use Rattle.fir_ast.specs.declared.tree.Expr.TheOpen.{Expr-F}
use Rattle.fir_ast.specs.declared.tree.Expr.TheVariants as e
use Rattle.fir_ast.specs.declared.tree.Expr.TheViews.{out-Expr}
use Rattle.fir_ast.specs.declared.tree.Port.{Port}
use Rattle.fir_ast.specs.declared.tree.ResetPair.{ResetPair}
use Rattle.fir_ast.specs.declared.tree.Stmt.{Stmt}
use Rattle.fir_ast.specs.declared.tree.Stmt.TheVariants as stmt
use Rattle.fir_ast.specs.declared.tree.VerifKind.{VerifKind}
use Rattle.fir_ast.specs.declared.tree.VerifKind.TheVariants as kind

abbrev pub pair : {A B : Type 0} → A → B → A × B
pair a b = (a, b)

abbrev pub is : List ℕ → List ℕ → Bool
is w text = bytes_eq w text

-- the line's end behind a row whose value is there
unfoldable pub ended : {A : Type 0} → A → Part A
ended a = both second (mark s.LineEnd) (nothing a)

-- an expression and the comma behind it
unfoldable pub operand : Limits → Part Expr
operand l = both first (expr l) (mark s.Comma)

-- an expression and the line's end
unfoldable pub last : Limits → Part Expr
last l = both first (expr l) (mark s.LineEnd)

-- ---- sinks

-- `<= E`
unfoldable pub driven : Limits → ℕ → Expr → Part Stmt
driven l line sink = both (λ _ value. stmt.Connect line sink value) (mark s.LessEqual) (last l)

-- `invalid`, behind the word `is`
unfoldable pub invalidated : ℕ → Expr → Part Stmt
invalidated line sink = both second (keyword (codes "invalid")) (ended (stmt.Invalid line sink))

-- `is invalid`
unfoldable pub is_invalid : ℕ → Expr → Part Stmt
is_invalid line sink = both second (keyword (codes "is")) (invalidated line sink)

-- `<= E` or `is invalid`
unfoldable pub sink_end : Limits → ℕ → Expr → Part Stmt
sink_end l line sink = either (is_word (codes "is")) (is_invalid line sink) (driven l line sink)

-- a row of a sink that begins with the word w; every word may be a sink's name
unfoldable pub sink_row : Limits → ℕ → List ℕ → Part Stmt
sink_row l line w = after (reference_from l w) (sink_end l line)

-- whether a reference is a word without suffixes
abbrev pub is_plain_layer : Expr-F Expr → Bool
is_plain_layer (layer.Ident w) = true
is_plain_layer _ = false

abbrev pub is_plain : Expr → Bool
is_plain x = is_plain_layer (out-Expr x)

-- The same rows but for `w is invalid`: after a word that may have a name behind it, `is` was taken as that name.
unfoldable pub marked_end : Limits → ℕ → Expr → Part Stmt
marked_end l line sink = pick (is_plain sink) (driven l line sink) (sink_end l line sink)

unfoldable pub sink_marked : Limits → ℕ → List ℕ → Part Stmt
sink_marked l line w = after (reference_from l w) (marked_end l line)

-- ---- declarations, after their first word and the name

-- `: T`
unfoldable pub typed : Limits → Part Ty
typed l = both second (mark s.Colon) (ty l)

-- `: T,`
unfoldable pub typed_operand : Limits → Part Ty
typed_operand l = both first (typed l) (mark s.Comma)

-- `: T`, after `wire n`
unfoldable pub wire : Limits → ℕ → List ℕ → Part Stmt
wire l line n = both (λ t _. stmt.Wire line n t) (typed l) (mark s.LineEnd)

-- `= E`, after `node n`
unfoldable pub node : Limits → ℕ → List ℕ → Part Stmt
node l line n = both (λ _ value. stmt.Node line n value) (mark s.Equal) (last l)

-- `of m`, after `inst n`
unfoldable pub instance : ℕ → List ℕ → Part Stmt
instance line n = both second (keyword (codes "of")) (both (λ m _. stmt.Inst line n m) name (mark s.LineEnd))

abbrev pub reset_of : Expr → Expr → ResetPair
reset_of signal init = record { signal = signal; init = init }

-- `: T, E, E, E`, after `regreset n`
unfoldable pub register_reset : Limits → ℕ → List ℕ → Part Stmt
register_reset l line n =
    both (λ t r. stmt.Reg line n t r.0 (Some r.1)) (typed_operand l) (both pair (operand l) (both reset_of (operand l) (last l)))

-- `=> (E, E)`
unfoldable pub reset_pair : Limits → Part ResetPair
reset_pair l = both second (mark s.Arrow) (both second (mark s.OpenParen) (both reset_of (operand l) (both first (expr l) (mark s.CloseParen))))

-- A reset stands deeper than the column of its register: behind it on its line, or on a line below.
abbrev pub opens_reset : ℕ → Item → Bool
opens_reset column x = deeper column x && is_symbol s.OpenParen x

abbrev pub leads_reset : ℕ → Item → Bool
leads_reset column x = deeper column x && is_word (codes "reset") x

-- `(reset => (E, E))`
unfoldable pub reset_in_parens : Limits → ℕ → Part ResetPair
reset_in_parens l column = both second (flag (opens_reset column)) (both second (keyword (codes "reset")) (both first (reset_pair l) (mark s.CloseParen)))

-- `reset => (E, E)`
unfoldable pub reset_bare : Limits → ℕ → Part ResetPair
reset_bare l column = both second (flag (leads_reset column)) (reset_pair l)

unfoldable pub reset : Limits → ℕ → Part ResetPair
reset l column = either (opens_reset column) (reset_in_parens l column) (reset_bare l column)

-- either form, and the line's end
unfoldable pub reset_line : Limits → ℕ → Part ResetPair
reset_line l column = both first (reset l column) (mark s.LineEnd)

unfoldable pub reset_below : Limits → ℕ → Part ResetPair
reset_below l column = both second (mark s.LineEnd) (reset_line l column)

-- on the line of the register, or alone on a line below
unfoldable pub reset_place : Limits → ℕ → Part ResetPair
reset_place l column = either (is_symbol s.LineEnd) (reset_below l column) (reset_line l column)

abbrev pub some : {A B : Type 0} → A → B → Option B
some a b = Some b

-- `with : R`
unfoldable pub some_reset : Limits → ℕ → Part (Option ResetPair)
some_reset l column = both second (keyword (codes "with")) (both some (mark s.Colon) (reset_place l column))

abbrev pub no_reset : Part (Option ResetPair)
no_reset = ended None

-- `with : R` or nothing, and the line's end
unfoldable pub with_reset : Limits → ℕ → Part (Option ResetPair)
with_reset l column = either (is_word (codes "with")) (some_reset l column) no_reset

-- `: T, E`, and maybe a reset, after `reg n`
unfoldable pub register : Limits → ℕ → ℕ → List ℕ → Part Stmt
register l column line n = both (λ t r. stmt.Reg line n t r.0 r.1) (typed_operand l) (both pair (expr l) (with_reset l column))

-- ---- connect and invalidate, after their first word and the first word of the sink

-- `, E` behind the sink
unfoldable pub connected : Limits → ℕ → Expr → Part Stmt
connected l line sink = both (λ _ value. stmt.Connect line sink value) (mark s.Comma) (last l)

unfoldable pub connect : Limits → ℕ → List ℕ → Part Stmt
connect l line n = after (reference_from l n) (connected l line)

unfoldable pub dropped : ℕ → Expr → Part Stmt
dropped line sink = ended (stmt.Invalid line sink)

unfoldable pub invalidate : Limits → ℕ → List ℕ → Part Stmt
invalidate l line n = after (reference_from l n) (dropped line)

-- ---- rows that begin with two words

-- the words that may have a name behind them
abbrev pub leads_name : List ℕ → Bool
leads_name w =
    is w (codes "wire") || is w (codes "node") || is w (codes "reg") || is w (codes "regreset") || is w (codes "inst") || is w (codes "connect") || is w (codes "invalidate")

-- what follows such a word w and the name n
unfoldable pub named : Limits → ℕ → ℕ → List ℕ → List ℕ → Part Stmt
named l column line w n =
    pick (is w (codes "wire")) (wire l line n) (pick (is w (codes "node")) (node l line n) (pick (is w (codes "reg")) (register l column line n)
    (pick (is w (codes "regreset")) (register_reset l line n) (pick (is w (codes "inst")) (instance line n) (pick (is w (codes "connect")) (connect l line n) (invalidate l line n))))))

-- `is` is a name as any other, but `w is invalid` is a row of the sink w
unfoldable pub with_name : Limits → ℕ → ℕ → List ℕ → List ℕ → Part Stmt
with_name l column line w n =
    pick (is n (codes "is")) (either (is_word (codes "invalid")) (invalidated line (e.Ident w)) (named l column line w n)) (named l column line w n)

unfoldable pub name_row : Limits → ℕ → ℕ → List ℕ → Part Stmt
name_row l column line w = after name (with_name l column line w)

unfoldable pub two_words : Limits → ℕ → ℕ → List ℕ → Part Stmt
two_words l column line w = either is_name (name_row l column line w) (sink_marked l line w)

-- ---- verification

-- the bytes between the quotes of a string
abbrev pub token_text : Token → Option (List ℕ)
token_text (token.Text bytes) = Some bytes
token_text _ = None

unfoldable pub text_token : Part (List ℕ)
text_token = one (λ x. token_text x.token)

-- `: w`
unfoldable pub some_label : Part (Option (List ℕ))
some_label = both some (mark s.Colon) (both first name (mark s.LineEnd))

abbrev pub no_label : Part (Option (List ℕ))
no_label = ended None

-- `: w` or nothing, and the line's end
unfoldable pub label : Part (Option (List ℕ))
label = either (is_symbol s.Colon) some_label no_label

-- `)`, and maybe a label
unfoldable pub closes : Part (Option (List ℕ))
closes = both second (mark s.CloseParen) label

-- `, E`
unfoldable pub value : Limits → Part Expr
value l = both second (mark s.Comma) (expr l)

-- `E, E,`
unfoldable pub two_operands : Limits → Part (List Expr)
two_operands l = both (λ a b. a ∷ b ∷ []) (operand l) (operand l)

-- `E, E, E,`
unfoldable pub three_operands : Limits → Part (List Expr)
three_operands l = both cons (operand l) (two_operands l)

-- `"s", E ..)`, behind the expressions before
unfoldable pub told : Limits → ℕ → VerifKind → List Expr → Part Stmt
told l line which before =
    both (λ text r. stmt.Verif line which (before ++ r.0) 0 text r.1) text_token (both pair (many (is_symbol s.Comma) (value l)) closes)

-- `n)`, behind the expressions before
unfoldable pub stopped : ℕ → List Expr → Part Stmt
stopped line before = both (λ code name. stmt.Verif line kind.Stop before code [] name) number closes

abbrev pub verifies : List ℕ → Bool
verifies w = is w (codes "printf") || is w (codes "stop") || is w (codes "assert") || is w (codes "assume") || is w (codes "cover")

unfoldable pub printing : Limits → ℕ → Part Stmt
printing l line = after (two_operands l) (told l line kind.Printf)

unfoldable pub stopping : Limits → ℕ → Part Stmt
stopping l line = after (two_operands l) (stopped line)

unfoldable pub checked : Limits → ℕ → VerifKind → Part Stmt
checked l line which = after (three_operands l) (told l line which)

-- what stands in the parentheses behind such a word w
unfoldable pub arguments : Limits → ℕ → List ℕ → Part Stmt
arguments l line w =
    pick (is w (codes "printf")) (printing l line) (pick (is w (codes "stop")) (stopping l line)
    (pick (is w (codes "assert")) (checked l line kind.Assert) (pick (is w (codes "assume")) (checked l line kind.Assume) (checked l line kind.Cover))))

unfoldable pub verification : Limits → ℕ → List ℕ → Part Stmt
verification l line w = both second (mark s.OpenParen) (arguments l line w)

-- ---- statements

unfoldable pub skipped : ℕ → Part Stmt
skipped line = ended (stmt.Skip line)

-- Every statement but `when`, from its first word w on; it stands in this column and this line. A line that begins with
-- another word, `when` and `else` among them, is a row of a sink.
unfoldable pub row_from : Limits → ℕ → ℕ → List ℕ → Part Stmt
row_from l column line w =
    pick (leads_name w) (two_words l column line w) (pick (is w (codes "skip")) (either (is_symbol s.LineEnd) (skipped line) (sink_row l line w))
    (pick (verifies w) (either (is_symbol s.OpenParen) (verification l line w) (sink_row l line w)) (sink_row l line w)))

-- ---- ports

abbrev pub make_port : ℕ → Bool → List ℕ → Ty → Port
make_port line output n t = record { line = line; output = output; name = n; ty = t }

-- `: T` and the line's end, after `input n` or `output n`
unfoldable pub port : Limits → ℕ → Bool → List ℕ → Part Port
port l line output n = both (λ t _. make_port line output n t) (typed l) (mark s.LineEnd)

-- ---- heads

-- the name, the colon and the line's end, after `module`
unfoldable pub module_head : Part (List ℕ)
module_head = both first name (both second (mark s.Colon) (mark s.LineEnd))

abbrev pub no_annotation : Part (Unit {0})
no_annotation = unless (is_symbol s.Percent) (Unsupported Annotation)

-- the same after `circuit`, where an annotation may not follow
unfoldable pub circuit_head : Part (List ℕ)
circuit_head = both first name (both second (mark s.Colon) (both second no_annotation (mark s.LineEnd)))
