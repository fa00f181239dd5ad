-- The grammar of types.
--
-- A type is `UInt` or `SInt`, either with a width in `<>` or without one, `Clock`, `Reset`, or a bundle `{ f, f }` of fields
-- `w : T` and `flip w : T`; then any number of lengths `[n]`, each of which makes a vector of what stands before it. No word is
-- reserved: a field may be called `flip`.
use Rattle.std.specs.Prelude.{ℕ, zero, suc, ◌==◌, Bool, true, false, if◌then◌else◌, List, [], ◌∷◌, Option, Some, None, Result, Ok, Err, codes}
use Rattle.std.specs.List.{list_any}
use Rattle.std.specs.Str.{bytes_eq}
use Rattle.text_grammar.specs.declared.item.Token.{Token}
use Rattle.text_grammar.specs.declared.item.Token.TheVariants as token
use Rattle.text_grammar.specs.declared.item.Symbol.{Symbol}
use Rattle.text_grammar.specs.declared.item.Symbol.TheVariants as s
use Rattle.text_grammar.specs.declared.fault.Kind.{Kind}
use Rattle.text_grammar.specs.declared.fault.Kind.TheVariants.{Syntax, TooDeep, Unsupported}
use Rattle.text_grammar.specs.declared.fault.Form.TheVariants as form
use Rattle.text_grammar.specs.Part.{Part, kind_of_token, second, both, after, either, optional, pick, many, cons, stop}
use Rattle.text_grammar.specs.Terminals.{code, is_word, is_symbol, is_name, keyword, mark, name}
use Rattle.fir_ast.specs.declared.tree.Ty.{Ty}
use Rattle.fir_ast.specs.declared.tree.Ty.TheVariants as t
use Rattle.fir_ast.specs.declared.tree.Ty.TheViews.{roll-Field}
use Rattle.fir_ast.specs.declared.tree.Field.{Field}
use Rattle.fir_ast.specs.Limits.{Limits, opened, grow_up_to, judged, number_up_to, greatest_width, greatest_length}

-- ---- one word, or a refusal

-- types that are known and not taken
abbrev pub unsupported_types : List (List ℕ)
unsupported_types =
    codes "Analog" ∷ codes "AsyncReset" ∷ codes "Probe" ∷ codes "RWProbe" ∷ codes "Integer" ∷ codes "String" ∷ codes "Bool" ∷ codes "Path" ∷ codes "List"
    ∷ codes "const" ∷ []

abbrev pub word_type : List ℕ → Result Ty Kind
word_type w =
    if bytes_eq w (codes "Clock") then Ok t.Clock
    else (if bytes_eq w (codes "Reset") then Ok t.Reset
    else (if list_any (bytes_eq w) unsupported_types then Err (Unsupported form.Type) else Err Syntax))

-- `{|` begins an enumeration, also where it is a bracket too many
abbrev pub enumeration_or : Symbol → Kind → Kind
enumeration_or a kind = if code a == code s.OpenEnumeration then Unsupported form.Enumeration else kind

-- a type of one word without a width
abbrev pub plain_type : Token → Result Ty Kind
plain_type (token.Word w) = word_type w
plain_type (token.Symbol a) = Err (enumeration_or a Syntax)
plain_type (token.TooDeep a) = Err (enumeration_or a TooDeep)
plain_type x = Err (kind_of_token x)

-- ---- widths and ground types

-- `<n>`
unfoldable pub width : Part (Option ℕ)
width = both second (mark s.Less) (both (λ n _. Some n) (number_up_to greatest_width) (mark s.Greater))

-- the word, and `<n>` or nothing
unfoldable pub sized : List ℕ → (Option ℕ → Ty) → Part Ty
sized word make = both (λ _ w. make w) (keyword word) (optional (is_symbol s.Less) None width)

-- ---- bundles, where `inside` is the type of a field

abbrev pub make_field : Bool → List ℕ → Ty → Field
make_field flip w of = roll-Field (record { flip = flip; name = w; ty = of })

-- `w : T`, after the w
unfoldable pub plain_field : Part Ty → List ℕ → Part Field
plain_field inside w = both (λ _ of. make_field false w of) (mark s.Colon) inside

-- `flip w : T`, after the word `flip`
unfoldable pub flipped_field : Part Ty → Part Field
flipped_field inside = both (λ w of. make_field true w of) name (both second (mark s.Colon) inside)

unfoldable pub field_after : Part Ty → List ℕ → Part Field
field_after inside w = pick (bytes_eq w (codes "flip")) (either is_name (flipped_field inside) (plain_field inside w)) (plain_field inside w)

unfoldable pub field : Part Ty → Part Field
field inside = after name (λ w. field_after inside w)

unfoldable pub further_field : Part Ty → Part Field
further_field inside = both second (mark s.Comma) (field inside)

unfoldable pub fields : Part Ty → Part (List Field)
fields inside = both cons (field inside) (many (is_symbol s.Comma) (further_field inside))

-- `{ f, f }`, or `{ }`
unfoldable pub bundle : Part Ty → Part Ty
bundle inside = both second (mark s.OpenBrace) (both (λ of _. t.Bundle of) (optional is_name [] (fields inside)) (mark s.CloseBrace))

-- ---- types, where so many braces may still be opened, and `inside` is a type in them

unfoldable pub base : ℕ → Part Ty → Part Ty
base brackets inside =
    either (is_word (codes "UInt")) (sized (codes "UInt") (λ w. t.UInt w))
    (either (is_word (codes "SInt")) (sized (codes "SInt") (λ w. t.SInt w))
    (either (is_symbol s.OpenBrace) (opened brackets (bundle inside))
    (judged plain_type)))

-- `[n]`
unfoldable pub vector : Ty → Part Ty
vector of = both second (mark s.OpenBracket) (both (λ n _. t.Vector of n) (number_up_to greatest_length) (mark s.CloseBracket))

unfoldable pub ty_in : ℕ → ℕ → Part Ty → Part Ty
ty_in suffixes brackets inside = after (base brackets inside) (λ of. grow_up_to suffixes (is_symbol s.OpenBracket) (λ e. vector e) of)

-- a type in braces, where so many may be opened, these included
unfoldable pub ty_inside : ℕ → ℕ → Part Ty
ty_inside suffixes zero = stop TooDeep
ty_inside suffixes (suc d) = ty_in suffixes d (ty_inside suffixes d)

unfoldable pub ty : Limits → Part Ty
ty l = ty_in l.suffixes l.brackets (ty_inside l.suffixes l.brackets)
