-- What is marked among the items of a line: forms that are known and not taken, and brackets past their limit.
use Rattle.std.specs.Prelude.{ℕ, ◌+◌, ◌-◌, nat_lt, if◌then◌else◌, ◌||◌, Bool, true, false, List, [], ◌∷◌, Option, Some, None, codes}
use Rattle.text_grammar.specs.declared.item.Item.{Item}
use Rattle.text_grammar.specs.declared.item.Symbol.{Symbol}
use Rattle.text_grammar.specs.declared.item.Symbol.TheVariants as s
use Rattle.text_grammar.specs.declared.item.Token.{Token}
use Rattle.text_grammar.specs.declared.item.Token.TheVariants as token
use Rattle.text_grammar.specs.declared.fault.Form.{Form}
use Rattle.text_grammar.specs.declared.fault.Form.TheVariants as form
use Rattle.text_grammar.specs.Terminals.{is_word, is_symbol, is_name}
use Rattle.fir_lex.specs.declared.mark.Bracket.{Bracket}
use Rattle.fir_lex.specs.declared.mark.Bracket.TheVariants.{Open, Close}

-- ---- forms

abbrev pub chosen : Bool → Form → Option Form
chosen true f = Some f
chosen false f = None

abbrev pub or_else : Option Form → Option Form → Option Form
or_else (Some f) other = Some f
or_else None other = other

-- operations, before `(`
abbrev pub operation : Item → Option Form
operation x = chosen (is_word (codes "asClock") x || is_word (codes "asAsyncReset") x || is_word (codes "validif") x) form.Operation

abbrev pub attach : Item → Option Form
attach x = chosen (is_word (codes "attach") x) form.Connect

-- what is declared, before its name
abbrev pub declared : Item → Option Form
declared x =
    or_else (chosen (is_word (codes "extmodule") x || is_word (codes "intmodule") x) form.ExternalModule)
    (or_else (chosen (is_word (codes "layer") x || is_word (codes "layerblock") x || is_word (codes "define") x || is_word (codes "propassign") x) form.Statement)
    (chosen (is_word (codes "mem") x || is_word (codes "cmem") x || is_word (codes "smem") x) form.Memory))

-- ports of memories, before `mport`
abbrev pub memory_port : Item → Option Form
memory_port x = chosen (is_word (codes "infer") x || is_word (codes "read") x || is_word (codes "write") x || is_word (codes "rdwr") x) form.Memory

-- The form of a line that begins with these two items. A word `is` behind the first one makes the line a row that is taken,
-- whatever the first word.
abbrev pub line_form : Item → Item → Option Form
line_form x y =
    if is_symbol s.OpenParen y then attach x
    else (if is_word (codes "is") y then None
    else (if is_word (codes "mport") y then or_else (memory_port x) (declared x) else (if is_name y then declared x else None)))

-- the form that begins at x, before y
abbrev pub form_of : Bool → Item → Item → Option Form
form_of first x y = or_else (if is_symbol s.OpenParen y then operation x else None) (if first then line_form x y else None)

abbrev pub unsupported : Option Form → Item → Item
unsupported None x = x
unsupported (Some f) x = record { place = x.place; token = token.Unsupported f }

-- the items of a line, its first or not, with forms marked at their first words
abbrev pub forms_marked : Bool → List Item → List Item
forms_marked first [] = []
forms_marked first (x ∷ []) = x ∷ []
forms_marked first (x ∷ y ∷ rest) = unsupported (form_of first x y) x ∷ forms_marked false (y ∷ rest)

-- ---- brackets

-- how many brackets may be open at once in a line
abbrev pub limit : ℕ
limit = 64

-- which brackets there are
abbrev pub symbol_bracket : Symbol → Option Bracket
symbol_bracket s.OpenParen = Some Open
symbol_bracket s.OpenBracket = Some Open
symbol_bracket s.OpenBrace = Some Open
symbol_bracket s.OpenEnumeration = Some Open
symbol_bracket s.CloseParen = Some Close
symbol_bracket s.CloseBracket = Some Close
symbol_bracket s.CloseBrace = Some Close
symbol_bracket _ = None

-- so many brackets are open, and a symbol follows: how many are open behind it, and its token
abbrev pub bracket_step : ℕ → Symbol → Option Bracket → ℕ × Token
bracket_step depth symbol (Some Open) = if nat_lt depth limit then (depth + 1, token.Symbol symbol) else (depth, token.TooDeep symbol)
bracket_step depth symbol (Some Close) = (depth - 1, token.Symbol symbol)
bracket_step depth symbol None = (depth, token.Symbol symbol)

abbrev pub token_step : ℕ → Token → ℕ × Token
token_step depth (token.Symbol symbol) = bracket_step depth symbol (symbol_bracket symbol)
token_step depth t = (depth, t)

-- The items behind so many open brackets, with each that passes the limit marked. One that passes it is not counted as open, and a
-- closing one counts for nothing where none is open.
abbrev pub brackets_marked : ℕ → List Item → List Item
brackets_marked depth [] = []
brackets_marked depth (x ∷ rest) = let step = token_step depth x.token in record { place = x.place; token = step.1 } ∷ brackets_marked step.0 rest

-- the items of a line, marked
unfoldable pub marked : List Item → List Item
marked items = brackets_marked 0 (forms_marked true items)
