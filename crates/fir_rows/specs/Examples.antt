-- Worked examples: rows, each from its first word on, and what they are read as.
use Rattle.std.specs.Prelude.{◌≡◌, ℕ, true, Some, None, Ok, Err, List, [], ◌∷◌, ◌++◌, map, codes}
use Rattle.text_grammar.specs.declared.item.Item.{Item}
use Rattle.text_grammar.specs.declared.item.Token.{Token}
use Rattle.text_grammar.specs.declared.item.Token.TheVariants as token
use Rattle.text_grammar.specs.declared.item.Symbol.TheVariants as s
use Rattle.text_grammar.specs.declared.fault.Form.TheVariants as form
use Rattle.text_grammar.specs.declared.fault.Kind.TheVariants.{Syntax, Unsupported, NumberTooWide}
use Rattle.text_grammar.specs.Part.{Outcome}
use Rattle.fir_ast.specs.Limits.{limits}
use Rattle.fir_ast.specs.declared.tree.Ty.TheVariants as t
use Rattle.fir_ast.specs.declared.tree.Expr.{Expr}
use Rattle.fir_ast.specs.declared.tree.Expr.TheVariants as e
use Rattle.fir_ast.specs.declared.tree.Stmt.{Stmt}
use Rattle.fir_ast.specs.declared.tree.Stmt.TheVariants as stmt
use Rattle.fir_ast.specs.declared.tree.VerifKind.TheVariants as kind
use Rattle.fir_ast.specs.RowGrammar.{row_from, port, module_head, circuit_head}

-- ---- lines of tokens; of their places, rows look at columns alone

abbrev item : ℕ → Token → Item
item column what = record { place = record { line = 3; column = column }; token = what }

abbrev line : ℕ → List Token → List Item
line column tokens = map (item column) tokens ++ item column (token.Symbol s.LineEnd) ∷ []

abbrev word : List ℕ → Token
word bytes = token.Word bytes

abbrev comma : Token
comma = token.Symbol s.Comma

abbrev colon : Token
colon = token.Symbol s.Colon

abbrev equal : Token
equal = token.Symbol s.Equal

abbrev less_equal : Token
less_equal = token.Symbol s.LessEqual

abbrev open_paren : Token
open_paren = token.Symbol s.OpenParen

abbrev close_paren : Token
close_paren = token.Symbol s.CloseParen

abbrev dot : Token
dot = token.Symbol s.Dot

abbrev is : Token
is = word (codes "is")

abbrev invalid : Token
invalid = word (codes "invalid")

abbrev a : Token
a = word (codes "a")

abbrev b : Token
b = word (codes "b")

abbrev c : Token
c = word (codes "c")

abbrev uint : Token
uint = word (codes "UInt")

-- `(a, b)` behind `reset =>`
abbrev reset : List Token
reset = word (codes "reset") ∷ token.Symbol s.Arrow ∷ open_paren ∷ a ∷ comma ∷ b ∷ close_paren ∷ []

-- `r : UInt, c with :`
abbrev register : List Token
register = word (codes "r") ∷ colon ∷ uint ∷ comma ∷ c ∷ word (codes "with") ∷ colon ∷ []

-- ---- a row on line 3, in column 5, from its first word on; its other tokens stand in column 9

abbrev row : List ℕ → List Token → Outcome Stmt
row first tokens = (row_from limits 5 3 first).reads (line 9 tokens)

-- its reset on the line below, in this column
abbrev below : ℕ → List Token → Outcome Stmt
below column tokens = (row_from limits 5 3 (codes "reg")).reads (line 9 register ++ line column tokens)

abbrev ident : List ℕ → Expr
ident w = e.Ident w

abbrev registered : Stmt
registered = stmt.Reg 3 (codes "r") (t.UInt None) (ident (codes "c")) (Some (record { signal = ident (codes "a"); init = ident (codes "b") }))

-- what is read to the last line's end
abbrev read : Stmt → Outcome Stmt
read x = Ok (x, [])

pub record Declarations : Type 0 where
  pub wire : row (codes "wire") (a ∷ colon ∷ uint ∷ []) ≡ read (stmt.Wire 3 (codes "a") (t.UInt None))
  pub node : row (codes "node") (a ∷ equal ∷ b ∷ []) ≡ read (stmt.Node 3 (codes "a") (ident (codes "b")))
  pub instance : row (codes "inst") (a ∷ word (codes "of") ∷ b ∷ []) ≡ read (stmt.Inst 3 (codes "a") (codes "b"))
  pub plain_register : row (codes "reg") (word (codes "r") ∷ colon ∷ uint ∷ comma ∷ c ∷ []) ≡ read (stmt.Reg 3 (codes "r") (t.UInt None) (ident (codes "c")) None)
  -- one tree of five spellings
  pub register_with : row (codes "reg") (register ++ reset) ≡ read registered
  pub register_with_parens : row (codes "reg") (register ++ open_paren ∷ reset ++ close_paren ∷ []) ≡ read registered
  pub register_below : below 7 reset ≡ read registered
  pub register_below_in_parens : below 6 (open_paren ∷ reset ++ close_paren ∷ []) ≡ read registered
  pub register_at_once : row (codes "regreset") (word (codes "r") ∷ colon ∷ uint ∷ comma ∷ c ∷ comma ∷ a ∷ comma ∷ b ∷ []) ≡ read registered
  -- the line below must be deeper than the register, and has nothing else
  pub no_deeper : below 5 reset ≡ Err (Syntax, 8)
  pub no_deeper_in_parens : below 5 (open_paren ∷ reset ++ close_paren ∷ []) ≡ Err (Syntax, 10)
  pub nothing_below : (row_from limits 5 3 (codes "reg")).reads (line 9 register) ≡ Err (Syntax, 0)
  pub more_behind_reset : below 7 (reset ++ a ∷ []) ≡ Err (Syntax, 2)
  pub parenthesis_left_open : below 7 (open_paren ∷ reset) ≡ Err (Syntax, 1)

pub record Sinks : Type 0 where
  -- two spellings of one tree
  pub connect : row (codes "connect") (a ∷ comma ∷ b ∷ []) ≡ read (stmt.Connect 3 (ident (codes "a")) (ident (codes "b")))
  pub driven : row (codes "a") (less_equal ∷ b ∷ []) ≡ read (stmt.Connect 3 (ident (codes "a")) (ident (codes "b")))
  pub invalidate : row (codes "invalidate") (a ∷ []) ≡ read (stmt.Invalid 3 (ident (codes "a")))
  pub invalidated : row (codes "a") (is ∷ invalid ∷ []) ≡ read (stmt.Invalid 3 (ident (codes "a")))
  pub skip : row (codes "skip") [] ≡ read (stmt.Skip 3)
  -- a field, in a row of a sink and in one that begins with `connect`
  pub field_driven : row (codes "wire") (dot ∷ a ∷ less_equal ∷ b ∷ []) ≡ read (stmt.Connect 3 (e.Part (ident (codes "wire")) (codes "a")) (ident (codes "b")))
  pub field_invalid : row (codes "reg") (dot ∷ a ∷ is ∷ invalid ∷ []) ≡ read (stmt.Invalid 3 (e.Part (ident (codes "reg")) (codes "a")))
  pub field_connected : row (codes "connect") (is ∷ dot ∷ a ∷ comma ∷ b ∷ []) ≡ read (stmt.Connect 3 (e.Part (ident (codes "is")) (codes "a")) (ident (codes "b")))

-- the words of rows are names
pub record Names : Type 0 where
  pub node_driven : row (codes "node") (less_equal ∷ a ∷ []) ≡ read (stmt.Connect 3 (ident (codes "node")) (ident (codes "a")))
  pub node_invalid : row (codes "node") (is ∷ invalid ∷ []) ≡ read (stmt.Invalid 3 (ident (codes "node")))
  pub node_called_is : row (codes "node") (is ∷ equal ∷ a ∷ []) ≡ read (stmt.Node 3 (codes "is") (ident (codes "a")))
  pub node_called_invalid : row (codes "node") (invalid ∷ equal ∷ is ∷ []) ≡ read (stmt.Node 3 (codes "invalid") (ident (codes "is")))
  pub wire_called_is : row (codes "wire") (is ∷ colon ∷ uint ∷ []) ≡ read (stmt.Wire 3 (codes "is") (t.UInt None))
  pub instance_called_is : row (codes "inst") (is ∷ word (codes "of") ∷ a ∷ []) ≡ read (stmt.Inst 3 (codes "is") (codes "a"))
  pub register_invalid : row (codes "reg") (is ∷ invalid ∷ []) ≡ read (stmt.Invalid 3 (ident (codes "reg")))
  pub connect_invalid : row (codes "connect") (is ∷ invalid ∷ []) ≡ read (stmt.Invalid 3 (ident (codes "connect")))
  pub is_connected : row (codes "connect") (is ∷ comma ∷ a ∷ []) ≡ read (stmt.Connect 3 (ident (codes "is")) (ident (codes "a")))
  pub is_invalidated : row (codes "invalidate") (is ∷ []) ≡ read (stmt.Invalid 3 (ident (codes "is")))
  pub invalidate_invalid : row (codes "invalidate") (is ∷ invalid ∷ []) ≡ read (stmt.Invalid 3 (ident (codes "invalidate")))
  pub skip_driven : row (codes "skip") (less_equal ∷ a ∷ []) ≡ read (stmt.Connect 3 (ident (codes "skip")) (ident (codes "a")))
  pub stop_driven : row (codes "stop") (less_equal ∷ a ∷ []) ≡ read (stmt.Connect 3 (ident (codes "stop")) (ident (codes "a")))
  pub when_driven : row (codes "when") (less_equal ∷ a ∷ []) ≡ read (stmt.Connect 3 (ident (codes "when")) (ident (codes "a")))
  pub is_invalid : row (codes "is") (is ∷ invalid ∷ []) ≡ read (stmt.Invalid 3 (ident (codes "is")))

pub record Verification : Type 0 where
  pub printed : row (codes "printf") (open_paren ∷ c ∷ comma ∷ a ∷ comma ∷ token.Text (codes "%d") ∷ comma ∷ b ∷ comma ∷ a ∷ close_paren ∷ colon ∷ word (codes "p") ∷ [])
      ≡ read (stmt.Verif 3 kind.Printf (ident (codes "c") ∷ ident (codes "a") ∷ ident (codes "b") ∷ ident (codes "a") ∷ []) 0 (codes "%d") (Some (codes "p")))
  pub stopped : row (codes "stop") (open_paren ∷ c ∷ comma ∷ a ∷ comma ∷ token.Number 7 ∷ close_paren ∷ []) ≡ read (stmt.Verif 3 kind.Stop (ident (codes "c") ∷ ident (codes "a") ∷ []) 7 [] None)
  pub asserted : row (codes "assert") (open_paren ∷ c ∷ comma ∷ a ∷ comma ∷ b ∷ comma ∷ token.Text (codes "low") ∷ close_paren ∷ [])
      ≡ read (stmt.Verif 3 kind.Assert (ident (codes "c") ∷ ident (codes "a") ∷ ident (codes "b") ∷ []) 0 (codes "low") None)
  pub assumed : row (codes "assume") (open_paren ∷ c ∷ comma ∷ a ∷ comma ∷ b ∷ comma ∷ token.Text [] ∷ close_paren ∷ colon ∷ is ∷ [])
      ≡ read (stmt.Verif 3 kind.Assume (ident (codes "c") ∷ ident (codes "a") ∷ ident (codes "b") ∷ []) 0 [] (Some (codes "is")))
  pub covered : row (codes "cover") (open_paren ∷ c ∷ comma ∷ a ∷ comma ∷ b ∷ comma ∷ token.Text [] ∷ comma ∷ a ∷ close_paren ∷ [])
      ≡ read (stmt.Verif 3 kind.Cover (ident (codes "c") ∷ ident (codes "a") ∷ ident (codes "b") ∷ ident (codes "a") ∷ []) 0 [] None)
  -- the string's place, and a number's
  pub string_too_early : row (codes "assert") (open_paren ∷ c ∷ comma ∷ a ∷ comma ∷ token.Text [] ∷ close_paren ∷ []) ≡ Err (Syntax, 3)
  pub string_too_late : row (codes "printf") (open_paren ∷ c ∷ comma ∷ a ∷ comma ∷ b ∷ comma ∷ token.Text [] ∷ close_paren ∷ []) ≡ Err (Syntax, 5)
  pub number_too_wide : row (codes "stop") (open_paren ∷ c ∷ comma ∷ a ∷ comma ∷ token.TooWide ∷ close_paren ∷ []) ≡ Err (NumberTooWide, 3)
  pub label_without_word : row (codes "stop") (open_paren ∷ c ∷ comma ∷ a ∷ comma ∷ token.Number 0 ∷ close_paren ∷ colon ∷ []) ≡ Err (Syntax, 1)

-- the first faulty item: its kind, and how many items are left from it on
pub record Faults : Type 0 where
  pub word_alone : row (codes "a") [] ≡ Err (Syntax, 1)
  pub node_alone : row (codes "node") [] ≡ Err (Syntax, 1)
  pub name_alone : row (codes "node") (a ∷ []) ≡ Err (Syntax, 1)
  pub is_alone : row (codes "a") (is ∷ a ∷ []) ≡ Err (Syntax, 2)
  pub node_is : row (codes "node") (is ∷ a ∷ []) ≡ Err (Syntax, 2)
  pub another_word : row (codes "a") (b ∷ less_equal ∷ b ∷ []) ≡ Err (Syntax, 4)
  pub invalid_field : row (codes "connect") (is ∷ dot ∷ a ∷ invalid ∷ []) ≡ Err (Syntax, 2)
  pub more_behind : row (codes "skip") (a ∷ []) ≡ Err (Syntax, 2)
  pub more_behind_value : row (codes "node") (a ∷ equal ∷ b ∷ b ∷ []) ≡ Err (Syntax, 2)
  pub no_comma : row (codes "connect") (a ∷ less_equal ∷ b ∷ []) ≡ Err (Syntax, 3)
  -- a connection of another kind, behind every reference
  pub partly_driven : row (codes "a") (token.Symbol s.LeftArrow ∷ b ∷ []) ≡ Err (Unsupported form.Connect, 3)
  pub node_partly_driven : row (codes "node") (token.Symbol s.LeftArrow ∷ b ∷ []) ≡ Err (Unsupported form.Connect, 3)
  pub partly_connected : row (codes "connect") (a ∷ token.Symbol s.LeftArrow ∷ b ∷ []) ≡ Err (Unsupported form.Connect, 3)
  pub declared_partly : row (codes "node") (a ∷ token.Symbol s.LeftArrow ∷ b ∷ []) ≡ Err (Syntax, 3)

pub record Heads : Type 0 where
  pub output_line : (port limits 3 true (codes "a")).reads (line 9 (colon ∷ uint ∷ [])) ≡ Ok (record { line = 3; output = true; name = codes "a"; ty = t.UInt None }, [])
  pub module_line : module_head.reads (line 9 (a ∷ colon ∷ [])) ≡ Ok (codes "a", [])
  pub circuit_line : circuit_head.reads (line 9 (a ∷ colon ∷ [])) ≡ Ok (codes "a", [])
  pub annotation : circuit_head.reads (line 9 (a ∷ colon ∷ token.Symbol s.Percent ∷ [])) ≡ Err (Unsupported form.Annotation, 2)
  pub no_annotation_of_a_module : module_head.reads (line 9 (a ∷ colon ∷ token.Symbol s.Percent ∷ [])) ≡ Err (Syntax, 2)
