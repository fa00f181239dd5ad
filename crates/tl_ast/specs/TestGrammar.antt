-- The grammar of test texts above their expressions: ports, statements, blocks, whole tests.
--
-- No word is reserved. Which statement it is shows in its first word, and no statement begins with `else`.
use Rattle.std.specs.Prelude.{ℕ, zero, suc, ◌==◌, ◌||◌, Bool, true, false, if◌then◌else◌, List, [], ◌∷◌, ◌++◌, Option, Some, None, codes}
use Rattle.std.specs.Fmt.{decimal}
use Rattle.std.specs.List.{find}
use Rattle.std.specs.Str.{bytes_eq}
use Rattle.tb_base.specs.declared.path.Region.{Region}
use Rattle.tb_base.specs.declared.path.Region.TheVariants.{Main, Monitor}
use Rattle.text_grammar.specs.declared.item.Item.{Item}
use Rattle.text_grammar.specs.declared.item.Token.{Token}
use Rattle.text_grammar.specs.declared.item.Token.TheVariants as token
use Rattle.text_grammar.specs.declared.item.Symbol.TheVariants as s
use Rattle.text_grammar.specs.declared.fault.Kind.TheVariants.{TooDeep}
use Rattle.text_grammar.specs.Part.{Part, kind_of, first, second, one_by, both, after, either, optional, nothing, stop, many}
use Rattle.text_grammar.specs.Terminals.{is_word, is_symbol, is_name, is_number, keyword, mark, name, number}
use Rattle.tl_ast.specs.Limits.{grow}
use Rattle.tl_ast.specs.Printed.{kind_name}
use Rattle.tl_ast.specs.ExprGrammar.{ExprLimits, expr_limits, Counted, is_some, expr, expr_from_number, other_expr}
use Rattle.tl_ast.specs.declared.words.StmtWord.{StmtWord}
use Rattle.tl_ast.specs.declared.listed.Listed.{Listed}
use Rattle.tl_ast.specs.declared.words.StmtWord.TheVariants as w
use Rattle.tl_ast.specs.declared.tree.TestExpr.{TestExpr}
use Rattle.tl_ast.specs.declared.tree.TestStmt.{TestStmt}
use Rattle.tl_ast.specs.declared.tree.TestStmt.TheVariants as stmt
use Rattle.tl_ast.specs.declared.tree.DriverKind.{DriverKind}
use Rattle.tl_ast.specs.declared.tree.DriverKind.TheVariants as kind
use Rattle.tl_ast.specs.declared.tree.TestText.{TestText}

pub record TestLimits : Type 0 where
  pub exprs : ExprLimits
  -- how many blocks may be nested
  pub blocks : ℕ
  -- how many forks may be nested, where a driver counts as one
  pub forks : ℕ

-- the limits of test texts
abbrev pub test_limits : TestLimits
test_limits = record { exprs = expr_limits; blocks = 32; forks = 8 }

-- ---- ports

-- `.w` and `[n]`, with what they add to the port's name
unfoldable pub field : Part (List ℕ)
field = both (λ (u : Unit {0}) w. codes "." ++ w) (mark s.Dot) name

unfoldable pub index : Part (List ℕ)
index = both (λ (u : Unit {0}) n. codes "[" ++ (decimal n ++ codes "]")) (mark s.OpenBracket) (both first number (mark s.CloseBracket))

abbrev pub is_suffix : Item → Bool
is_suffix x = is_symbol s.Dot x || is_symbol s.OpenBracket x

unfoldable pub suffix : Part (List ℕ)
suffix = either (is_symbol s.Dot) field index

-- a name with what is added to it
abbrev pub longer : List ℕ → List (List ℕ) → List ℕ
longer w [] = w
longer w (added ∷ more) = longer (w ++ added) more

unfoldable pub port : Part (List ℕ)
port = both longer name (many is_suffix suffix)

-- ---- a port with a list of expressions behind it

-- an expression after a comma
unfoldable pub further : ExprLimits → Part TestExpr
further l = both second (mark s.Comma) (expr l)

unfoldable pub furthers : ExprLimits → Part (List TestExpr)
furthers l = many (is_symbol s.Comma) (further l)

-- a number alone has no operator
abbrev pub alone_if : Bool → ℕ → List TestExpr → Option ℕ
alone_if true n [] = Some n
alone_if true n (x ∷ more) = None
alone_if false n more = None

abbrev pub from_number : List ℕ → ℕ → Counted → List TestExpr → Listed
from_number p n v more = record { name = p; values = v.0 ∷ more; alone = alone_if (v.1 == 0) n more }

abbrev pub from_other : List ℕ → List TestExpr → Listed
from_other p values = record { name = p; values = values; alone = None }

-- the list behind its `[`, by what stands there first
unfoldable pub no_values : List ℕ → Part Listed
no_values p = both (λ (u v : Unit {0}). from_other p []) (mark s.CloseBracket) (nothing tt)

unfoldable pub numbered_values : ExprLimits → List ℕ → ℕ → Part Listed
numbered_values l p n = both first (both (from_number p n) (expr_from_number l n) (furthers l)) (mark s.CloseBracket)

unfoldable pub other_values : ExprLimits → List ℕ → Part Listed
other_values l p = both first (both (λ x more. from_other p (x ∷ more)) (other_expr l) (furthers l)) (mark s.CloseBracket)

unfoldable pub values : ExprLimits → List ℕ → Part Listed
values l p = either (is_symbol s.CloseBracket) (no_values p) (either is_number (after number (numbered_values l p)) (other_values l p))

unfoldable pub bracket : ExprLimits → List ℕ → Part Listed
bracket l p = both second (mark s.OpenBracket) (values l p)

-- any number of `.w`, and a bracket
unfoldable pub fields : List ℕ → Part (List ℕ)
fields p = both longer (nothing p) (many (is_symbol s.Dot) field)

unfoldable pub listed_from : ExprLimits → List ℕ → Part Listed
listed_from l p = after (fields p) (bracket l)

-- a bracket that `.` or `[` follows was an index
abbrev pub with_index : Option ℕ → List ℕ → List ℕ
with_index None p = p
with_index (Some n) p = p ++ (codes "[" ++ (decimal n ++ codes "]"))

abbrev pub may_be_index : Listed → Bool
may_be_index v = is_some v.alone

unfoldable pub listed_further : ExprLimits → Listed → Part Listed
listed_further l v = listed_from l (with_index v.alone v.name)

unfoldable pub listed_behind : ExprLimits → Listed → Part Listed
listed_behind l v = grow may_be_index is_suffix (listed_further l) v

unfoldable pub listed : ExprLimits → Part Listed
listed l = after (after name (listed_from l)) (listed_behind l)

-- ---- the words that statements begin with

abbrev pub word_name : StmtWord → List ℕ
word_name w.Poke = codes "poke"
word_name w.Peek = codes "peek"
word_name w.Expect = codes "expect"
word_name w.Step = codes "step"
word_name w.Let = codes "let"
word_name w.Set = codes "set"
word_name w.If = codes "if"
word_name w.While = codes "while"
word_name w.Repeat = codes "repeat"
word_name w.Fork = codes "fork"
word_name w.Join = codes "join"
word_name w.JoinStep = codes "joinstep"
word_name w.Reset = codes "reset"
word_name (w.Driver k) = kind_name k

abbrev pub all_words : List StmtWord
all_words =
    w.Poke ∷ w.Peek ∷ w.Expect ∷ w.Step ∷ w.Let ∷ w.Set ∷ w.If ∷ w.While ∷ w.Repeat ∷ w.Fork ∷ w.Join ∷ w.JoinStep ∷ w.Reset
    ∷ w.Driver kind.Enqueue ∷ w.Driver kind.EnqueueNow ∷ w.Driver kind.EnqueueSeq
    ∷ w.Driver kind.ExpectDequeue ∷ w.Driver kind.ExpectDequeueNow ∷ w.Driver kind.ExpectDequeueSeq ∷ w.Driver kind.ExpectInvalid ∷ []

-- what statement a word begins, if it begins one
abbrev pub stmt_word : List ℕ → Option StmtWord
stmt_word text = find (λ word. bytes_eq (word_name word) text) all_words

abbrev pub token_stmt_word : Token → Option StmtWord
token_stmt_word (token.Word text) = stmt_word text
token_stmt_word _ = None

abbrev pub begins_stmt : Item → Bool
begins_stmt x = is_some (token_stmt_word x.token)

-- a fork, or a driver, which stands for one
abbrev pub is_forking : StmtWord → Bool
is_forking w.Fork = true
is_forking (w.Driver k) = true
is_forking _ = false

abbrev pub some_forking : Option StmtWord → Bool
some_forking None = false
some_forking (Some word) = is_forking word

-- whether this begins a fork where no fork may stand
abbrev pub too_many_forks : ℕ → Item → Bool
too_many_forks zero x = some_forking (token_stmt_word x.token)
too_many_forks (suc forks) x = false

-- a word that begins a statement, with its line
abbrev pub with_line : Bool → ℕ → Option StmtWord → Option (ℕ × StmtWord)
with_line too_many line None = None
with_line true line (Some word) = None
with_line false line (Some word) = Some (line, word)

-- the first word of a statement, where so many forks may still be nested
unfoldable pub first_word : ℕ → Part (ℕ × StmtWord)
first_word forks = one_by (λ x. if too_many_forks forks x then TooDeep else kind_of x) (λ x. with_line (too_many_forks forks x) x.place.line (token_stmt_word x.token))

-- ---- statements behind their first word

-- with the `;` behind it
unfoldable pub ended : {A : Type 0} → Part A → Part A
ended p = both first p (mark s.Semicolon)

-- `P = E;`, `w = E;` and `P == E;`
unfoldable pub poke : ExprLimits → ℕ → Part TestStmt
poke l line = both (λ p v. stmt.Poke line p v) port (both second (mark s.Equal) (ended (expr l)))

unfoldable pub expect : ExprLimits → ℕ → Part TestStmt
expect l line = both (λ p v. stmt.Expect line p v) port (both second (mark s.EqualEqual) (ended (expr l)))

unfoldable pub assigned : ExprLimits → Part TestExpr
assigned l = both second (mark s.Equal) (ended (expr l))

unfoldable pub let_row : ExprLimits → ℕ → Part TestStmt
let_row l line = both (λ n v. stmt.Let line n v) name (assigned l)

unfoldable pub set_row : ExprLimits → ℕ → Part TestStmt
set_row l line = both (λ n v. stmt.Set line n v) name (assigned l)

-- `P;` and `P into w;`
unfoldable pub into : Part (Option (List ℕ))
into = optional (is_word (codes "into")) None (both (λ (u : Unit {0}) n. Some n) (keyword (codes "into")) name)

unfoldable pub peek : ℕ → Part TestStmt
peek line = both (λ p n. stmt.Peek line p n) port (ended into)

-- `n;`
unfoldable pub step : ℕ → Part TestStmt
step line = both (λ n (u : Unit {0}). stmt.Step line n) number (mark s.Semicolon)

unfoldable pub reset : ℕ → Part TestStmt
reset line = both (λ n (u : Unit {0}). stmt.ResetFor line n) number (mark s.Semicolon)

-- `w;`
unfoldable pub join : ℕ → Part TestStmt
join line = both (λ n (u : Unit {0}). stmt.Join line n) name (mark s.Semicolon)

unfoldable pub join_step : ℕ → Part TestStmt
join_step line = both (λ n (u : Unit {0}). stmt.JoinStep line n) name (mark s.Semicolon)

-- drivers: of a list, of none, of one value
unfoldable pub list_driver : ExprLimits → ℕ → DriverKind → Part TestStmt
list_driver l line k = both (λ v (u : Unit {0}). stmt.Driver line k v.name v.values) (listed l) (mark s.Semicolon)

unfoldable pub bare_driver : ℕ → DriverKind → Part TestStmt
bare_driver line k = both (λ p (u : Unit {0}). stmt.Driver line k p []) port (mark s.Semicolon)

unfoldable pub value_driver : ExprLimits → ℕ → DriverKind → Part TestStmt
value_driver l line k = both (λ p v. stmt.Driver line k p (v ∷ [])) port (ended (expr l))

unfoldable pub driver : ExprLimits → ℕ → DriverKind → Part TestStmt
driver l line kind.Enqueue = value_driver l line kind.Enqueue
driver l line kind.EnqueueNow = value_driver l line kind.EnqueueNow
driver l line kind.EnqueueSeq = list_driver l line kind.EnqueueSeq
driver l line kind.ExpectDequeue = value_driver l line kind.ExpectDequeue
driver l line kind.ExpectDequeueNow = value_driver l line kind.ExpectDequeueNow
driver l line kind.ExpectDequeueSeq = list_driver l line kind.ExpectDequeueSeq
driver l line kind.ExpectInvalid = bare_driver line kind.ExpectInvalid

-- ---- statements with blocks

abbrev pub Body : Type 1
Body = Part (List TestStmt)

-- `E B`, and maybe `else B`
unfoldable pub else_block : Body → Body
else_block block = optional (is_word (codes "else")) [] (both second (keyword (codes "else")) block)

abbrev pub pair : {A B : Type 0} → A → B → A × B
pair a b = (a, b)

unfoldable pub if_row : ExprLimits → Body → ℕ → Part TestStmt
if_row l block line = both (λ c b. stmt.If line c b.0 b.1) (expr l) (both pair block (else_block block))

unfoldable pub while_row : ExprLimits → Body → ℕ → Part TestStmt
while_row l block line = both (λ c b. stmt.While line c b) (expr l) block

unfoldable pub repeat_row : ExprLimits → Body → ℕ → Part TestStmt
repeat_row l block line = both (λ c b. stmt.Repeat line c b) (expr l) block

-- `w B`, `main w B`, `monitor w B`; a handle may be called `main`
abbrev pub region_named : List ℕ → Option Region
region_named n = if bytes_eq n (codes "main") then Some Main else (if bytes_eq n (codes "monitor") then Some Monitor else None)

unfoldable pub forked : Body → ℕ → Option Region → List ℕ → Part TestStmt
forked block line region n = both (λ b (u : Unit {0}). stmt.Fork line region n b) block (nothing tt)

unfoldable pub fork_in : Body → ℕ → Option Region → List ℕ → Part TestStmt
fork_in block line None n = forked block line None n
fork_in block line (Some region) n = either is_name (after name (forked block line (Some region))) (forked block line None n)

unfoldable pub fork_row : Body → ℕ → Part TestStmt
fork_row block line = after name (λ n. fork_in block line (region_named n) n)

-- A statement behind its first word. `block` is its block, and `inner` that of a fork.
unfoldable pub row : ExprLimits → Body → Body → ℕ → StmtWord → Part TestStmt
row l block inner line w.Poke = poke l line
row l block inner line w.Peek = peek line
row l block inner line w.Expect = expect l line
row l block inner line w.Step = step line
row l block inner line w.Let = let_row l line
row l block inner line w.Set = set_row l line
row l block inner line w.If = if_row l block line
row l block inner line w.While = while_row l block line
row l block inner line w.Repeat = repeat_row l block line
row l block inner line w.Fork = fork_row inner line
row l block inner line w.Join = join line
row l block inner line w.JoinStep = join_step line
row l block inner line w.Reset = reset line
row l block inner line (w.Driver k) = driver l line k

-- ---- statements, blocks, tests

-- the block of a fork, where so many forks may be nested, this one included
unfoldable pub fork_block : (ℕ → Body) → ℕ → Body
fork_block block zero = stop TooDeep
fork_block block (suc forks) = block forks

unfoldable pub stmt_in : ExprLimits → (ℕ → Body) → ℕ → Part TestStmt
stmt_in l block forks = after (first_word forks) (λ h. row l (block forks) (fork_block block forks) h.0 h.1)

unfoldable pub stmts_in : ExprLimits → (ℕ → Body) → ℕ → Body
stmts_in l block forks = many begins_stmt (stmt_in l block forks)

-- the `{` of a block that is too deep
unfoldable pub no_brace : Part (Unit {0})
no_brace = one_by (λ x. if is_symbol s.OpenBrace x then TooDeep else kind_of x) (λ x. None)

-- `{`, statements, `}`, where so many blocks may be nested, this one included, and so many forks in it
unfoldable pub block_within : ExprLimits → ℕ → ℕ → Body
block_within l zero forks = both second no_brace (stop TooDeep)
block_within l (suc blocks) forks = both second (mark s.OpenBrace) (both first (stmts_in l (block_within l blocks) forks) (mark s.CloseBrace))

abbrev pub make_test : List TestStmt → TestText
make_test body = record { body = body }

-- a test within some limits
unfoldable pub test_within : TestLimits → Part TestText
test_within l = both (λ body (u : Unit {0}). make_test body) (stmts_in l.exprs (block_within l.exprs l.blocks) l.forks) (nothing tt)

-- a test within the limits of the language
abbrev pub test : Part TestText
test = test_within test_limits
