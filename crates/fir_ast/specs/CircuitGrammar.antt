-- The grammar of circuit texts above their rows: blocks, `when` and `else`, modules, the circuit.
--
-- No word is reserved, so a row of a sink that is called `else` may stand anywhere, and whether it is the branch of a `when`
-- shows in its second item. So that each line is read in one way, such rows are read together with the line above them.
use Rattle.std.specs.Prelude.{ℕ, zero, suc, Bool, true, false, ◌&&◌, ◌||◌, List, [], ◌∷◌, ◌++◌, Option, Some, None, codes}
use Rattle.std.specs.Str.{bytes_eq}
use Rattle.text_grammar.specs.declared.item.Item.{Item}
use Rattle.text_grammar.specs.declared.item.Symbol.TheVariants as s
use Rattle.text_grammar.specs.declared.fault.Form.TheVariants.{Connect}
use Rattle.text_grammar.specs.declared.fault.Kind.TheVariants.{HeadTooDeep, Unsupported}
use Rattle.text_grammar.specs.Part.{Part, first, second, cons, one, both, after, either, optional, pick, nothing, unless, stop, many, blames_head}
use Rattle.text_grammar.specs.Terminals.{deeper, is_word, is_symbol, is_name, keyword, mark, name, number}
use Rattle.fir_ast.specs.Limits.{Limits, limits}
use Rattle.fir_ast.specs.ExprGrammar.{expr, expr_from, reference_from}
use Rattle.fir_ast.specs.RowGrammar.{pair, sink_row, sink_marked, invalidated, row_from, port, module_head, circuit_head}
use Rattle.fir_ast.specs.Lines.{begins_line, is_else, is_line, line_word, first_word, else_word, indented, many_from}
use Rattle.fir_ast.specs.declared.tree.Circuit.{Circuit}
use Rattle.fir_ast.specs.declared.tree.Module.{Module}
use Rattle.fir_ast.specs.declared.tree.Port.{Port}
use Rattle.fir_ast.specs.declared.tree.Stmt.{Stmt}
use Rattle.fir_ast.specs.declared.tree.Stmt.TheVariants as stmt
use Rattle.fir_ast.specs.declared.tree.Expr.{Expr}
use Rattle.fir_ast.specs.declared.tree.Expr.TheVariants as e

-- how many blocks of `when` and `else` may be nested
abbrev pub block_limit : ℕ
block_limit = 256

-- ---- rows of a sink called `else`

unfoldable pub else_row : Limits → ℕ → Part Stmt
else_row l column = after (else_word column) (λ h. sink_row l h.0 h.1)

unfoldable pub else_rows : Limits → ℕ → Part (List Stmt)
else_rows l column = many (is_else column) (else_row l column)

-- a statement, and the rows of a sink called `else` behind it
abbrev pub Rows : Type 0
Rows = Stmt × List Stmt

unfoldable pub and_else_rows : Limits → ℕ → Part Stmt → Part Rows
and_else_rows l column p = both pair p (else_rows l column)

-- ---- statements

-- What stands behind `when`, from its condition on: its column, its line, the part of its condition.
abbrev pub Nested : Type 1
Nested = ℕ → ℕ → Part Expr → Part Rows

-- where `<-` does not follow, which is a connection of another kind
unfoldable pub no_connect : Part (Unit {0})
no_connect = unless (is_symbol s.LeftArrow) (Unsupported Connect)

-- what goes on with a condition `is`
abbrev pub goes_on_is : Item → Bool
goes_on_is x = (is_symbol s.Dot x || is_symbol s.OpenBracket x) || is_symbol s.Colon x

-- after w and n, the words `when` and `is`: a condition that begins with the name `is`, or `invalid`
unfoldable pub when_is : Limits → Nested → ℕ → ℕ → List ℕ → List ℕ → Part Rows
when_is l nested column line w n =
    both second no_connect
    (either goes_on_is (nested column line (reference_from l n)) (and_else_rows l column (invalidated line (e.Ident w))))

-- after the word `when` and another
unfoldable pub when_named : Limits → Nested → ℕ → ℕ → List ℕ → List ℕ → Part Rows
when_named l nested column line w n = pick (bytes_eq n (codes "is")) (when_is l nested column line w n) (nested column line (expr_from l n))

-- after the word `when`, which may be a sink's name
unfoldable pub when_from : Limits → Nested → ℕ → ℕ → List ℕ → Part Rows
when_from l nested column line w = either is_name (after name (when_named l nested column line w)) (and_else_rows l column (sink_marked l line w))

-- a statement after its first word
unfoldable pub statement : Limits → Nested → ℕ → ℕ → List ℕ → Part Rows
statement l nested column line w = pick (bytes_eq w (codes "when")) (when_from l nested column line w) (and_else_rows l column (row_from l column line w))

-- a statement at this column
unfoldable pub headed : Limits → Nested → ℕ → Part Rows
headed l nested column = after (first_word column) (λ h. statement l nested column h.0 h.1)

-- one that is too deep is faulty at its first word
unfoldable pub row : Limits → Nested → ℕ → Part Rows
row l nested column = blames_head (headed l nested column)

-- ---- blocks of statements

unfoldable pub first_row : Limits → Nested → ℕ → Part Rows
first_row l nested column = either (is_else column) (and_else_rows l column (else_row l column)) (row l nested column)

abbrev pub all_rows : List Rows → List Stmt
all_rows [] = []
all_rows (r ∷ more) = r.0 ∷ r.1 ++ all_rows more

abbrev pub rows_with : Rows → List Rows → List Stmt
rows_with r more = all_rows (r ∷ more)

unfoldable pub rows : Limits → Nested → ℕ → Part (List Stmt)
rows l nested column = both rows_with (first_row l nested column) (many (is_line column) (row l nested column))

-- at least one statement, deeper than the head at this column
unfoldable pub block : Limits → Nested → ℕ → Part (List Stmt)
block l nested column = indented column (rows l nested)

-- ---- `when` and `else`

-- `:` and the line's end
unfoldable pub opens : Part (Unit {0})
opens = both second (mark s.Colon) (mark s.LineEnd)

unfoldable pub opened_block : Limits → Nested → ℕ → Part (List Stmt)
opened_block l nested column = both second opens (block l nested column)

-- the block of an `else`, and the rows of a sink called `else` behind it
abbrev pub Branch : Type 0
Branch = List Stmt × List Stmt

-- an `else` whose block is one `when`
abbrev pub one_when : Rows → Branch
one_when r = (r.0 ∷ [], r.1)

unfoldable pub else_when : Limits → Nested → ℕ → ℕ → Part Branch
else_when l nested column line = both (λ _ r. one_when r) (keyword (codes "when")) (nested column line (expr l))

abbrev pub no_branch : Rows → Branch
no_branch r = ([], r.0 ∷ r.1)

unfoldable pub else_sink : Limits → ℕ → ℕ → List ℕ → Part Branch
else_sink l column line w = both (λ r more. no_branch (r, more)) (sink_row l line w) (else_rows l column)

unfoldable pub else_block : Limits → Nested → ℕ → Part Branch
else_block l nested column = both pair (opened_block l nested column) (else_rows l column)

-- after the first `else` behind the block of a `when`
unfoldable pub else_from : Limits → Nested → ℕ → ℕ → List ℕ → Part Branch
else_from l nested column line w =
    either (is_symbol s.Colon) (else_block l nested column)
    (either (is_word (codes "when")) (else_when l nested column line) (else_sink l column line w))

unfoldable pub else_headed : Limits → Nested → ℕ → Part Branch
else_headed l nested column = after (else_word column) (λ h. else_from l nested column h.0 h.1)

unfoldable pub else_line : Limits → Nested → ℕ → Part Branch
else_line l nested column = blames_head (else_headed l nested column)

unfoldable pub branch : Limits → Nested → ℕ → Part Branch
branch l nested column = optional (is_else column) ([], []) (else_line l nested column)

unfoldable pub branches : Limits → Nested → ℕ → Part (List Stmt × Branch)
branches l nested column = both pair (opened_block l nested column) (branch l nested column)

abbrev pub make_when : ℕ → Expr → List Stmt × Branch → Rows
make_when line cond b = (stmt.When line cond b.0 b.1.0, b.1.1)

-- a `when` from its condition on, whose blocks may hold such a nested one
unfoldable pub opened : Limits → Nested → Nested
opened l nested column line cond = both (make_when line) cond (branches l nested column)

-- so many blocks may still be nested here
unfoldable pub nested_within : Limits → ℕ → Nested
nested_within l zero column line cond = stop HeadTooDeep
nested_within l (suc depth) column line cond = opened l (nested_within l depth) column line cond

-- ---- the block of a module: ports, then statements

-- a port or none, and the statements that are read with the line
abbrev pub Line : Type 0
Line = Option Port × List Stmt

abbrev pub port_only : Port → List Stmt → Line
port_only p more = (Some p, more)

abbrev pub rows_only : Rows → Line
rows_only r = (None, r.0 ∷ r.1)

unfoldable pub no_port : Part Rows → Part Line
no_port p = both (λ r (u : Unit {0}). rows_only r) p (nothing tt)

abbrev pub is_output : List ℕ → Bool
is_output w = bytes_eq w (codes "output")

abbrev pub is_direction : List ℕ → Bool
is_direction w = bytes_eq w (codes "input") || is_output w

unfoldable pub port_line : Limits → ℕ → ℕ → List ℕ → List ℕ → Part Line
port_line l column line w n = both port_only (port l line (is_output w) n) (else_rows l column)

-- after w and n, where n is `is`: a port of that name, or `invalid`
unfoldable pub direction_is : Limits → ℕ → ℕ → List ℕ → List ℕ → Part Line
direction_is l column line w n = either (is_symbol s.Colon) (port_line l column line w n) (no_port (and_else_rows l column (invalidated line (e.Ident w))))

unfoldable pub direction_named : Limits → ℕ → ℕ → List ℕ → List ℕ → Part Line
direction_named l column line w n = pick (bytes_eq n (codes "is")) (direction_is l column line w n) (port_line l column line w n)

-- after `input` or `output`, which may be sinks' names
unfoldable pub direction : Limits → ℕ → ℕ → List ℕ → Part Line
direction l column line w = either is_name (after name (direction_named l column line w)) (no_port (and_else_rows l column (sink_marked l line w)))

-- a line after its first word; a port may stand there or not
unfoldable pub line_from : Limits → Nested → Bool → ℕ → ℕ → List ℕ → Part Line
line_from l nested ports column line w = pick (ports && is_direction w) (direction l column line w) (no_port (statement l nested column line w))

unfoldable pub line_headed : Limits → Nested → ℕ → Bool → Part Line
line_headed l nested column ports = after (first_word column) (λ h. line_from l nested ports column h.0 h.1)

unfoldable pub line : Limits → Nested → ℕ → Bool → Part Line
line l nested column ports = blames_head (line_headed l nested column ports)

unfoldable pub first_line : Limits → Nested → ℕ → Part Line
first_line l nested column = either (is_else column) (no_port (and_else_rows l column (else_row l column))) (line l nested column true)

-- ports may follow until a statement has come
abbrev pub only_port : Line → Bool
only_port (Some p, []) = true
only_port (Some p, r ∷ more) = false
only_port (None, more) = false

abbrev pub still_ports : Bool → Line → Bool
still_ports ports v = ports && only_port v

abbrev pub Body : Type 0
Body = List Port × List Stmt

abbrev pub with_line : Line → Body → Body
with_line (Some p, more) b = (p ∷ b.0, more ++ b.1)
with_line (None, more) b = (b.0, more ++ b.1)

abbrev pub all_lines : List Line → Body
all_lines [] = ([], [])
all_lines (v ∷ more) = with_line v (all_lines more)

unfoldable pub lines_behind : Limits → Nested → ℕ → Line → Part Body
lines_behind l nested column v = both (λ more (u : Unit {0}). all_lines (v ∷ more)) (many_from (is_line column) (line l nested column) still_ports (still_ports true v)) (nothing tt)

unfoldable pub lines : Limits → Nested → ℕ → Part Body
lines l nested column = after (first_line l nested column) (lines_behind l nested column)

-- it may be empty
unfoldable pub body : Limits → Nested → ℕ → Part Body
body l nested column = optional (deeper column) ([], []) (indented column (lines l nested))

-- ---- modules

abbrev pub is_module : ℕ → Item → Bool
is_module column x = begins_line column (codes "module") x || begins_line column (codes "public") x

unfoldable pub public_word : ℕ → Part ℕ
public_word column = both first (line_word column (codes "public")) (keyword (codes "module"))

-- `module` or `public module`; its value is the number of the line
unfoldable pub module_word : ℕ → Part ℕ
module_word column = either (begins_line column (codes "module")) (line_word column (codes "module")) (public_word column)

abbrev pub make_module : ℕ → List ℕ → Body → Module
make_module line w b = record { line = line; name = w; ports = b.0; body = b.1 }

unfoldable pub titled_module : Limits → Nested → ℕ → ℕ → Part Module
titled_module l nested column line = both (make_module line) module_head (body l nested column)

unfoldable pub one_module : Limits → Nested → ℕ → Part Module
one_module l nested column = after (module_word column) (titled_module l nested column)

unfoldable pub modules : Limits → Nested → ℕ → Part (List Module)
modules l nested column = both cons (one_module l nested column) (many (is_module column) (one_module l nested column))

-- ---- the circuit

-- `FIRRTL version n.n.n`, maybe
unfoldable pub version : Part (Unit {0})
version =
    both second (keyword (codes "FIRRTL")) (both second (keyword (codes "version"))
    (both second number (both second (mark s.Dot) (both second number (both second (mark s.Dot) (both second number (mark s.LineEnd)))))))

unfoldable pub preamble : Part (Unit {0})
preamble = optional (is_word (codes "FIRRTL")) tt version

abbrev pub place_if : Bool → ℕ → ℕ → Option (ℕ × ℕ)
place_if true n column = Some (n, column)
place_if false n column = None

-- the word `circuit`; its value is the number of its line, and its column
unfoldable pub circuit_word : Part (ℕ × ℕ)
circuit_word = one (λ x. place_if (is_word (codes "circuit") x) x.place.line x.place.column)

abbrev pub make_circuit : ℕ → List ℕ → List Module → Circuit
make_circuit line w all = record { line = line; name = w; modules = all }

unfoldable pub titled : Limits → Nested → ℕ × ℕ → Part Circuit
titled l nested p = both (make_circuit p.0) circuit_head (indented p.1 (modules l nested))

unfoldable pub circuit_text : Limits → Nested → Part Circuit
circuit_text l nested = both second preamble (after circuit_word (titled l nested))

-- A circuit within some limits, whose statements may nest so many blocks. No head is too deep but within a line, which is
-- refused at its own first word.
unfoldable pub circuit_within : Limits → ℕ → Part Circuit
circuit_within l depth = blames_head (circuit_text l (nested_within l depth))

-- a circuit within the limits of the language
abbrev pub circuit : Part Circuit
circuit = circuit_within limits block_limit
