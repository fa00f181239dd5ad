-- What the grammar of circuits limits, and the ways to make a part that keep to a limit.
use Rattle.std.specs.Prelude.{ℕ, zero, suc, Bool, if◌then◌else◌, nat_le, Option, Some, None, Result, Ok, Err}
use Rattle.text_grammar.specs.declared.item.Item.{Item}
use Rattle.text_grammar.specs.declared.item.Token.{Token}
use Rattle.text_grammar.specs.declared.item.Token.TheVariants as token
use Rattle.text_grammar.specs.declared.fault.Kind.{Kind}
use Rattle.text_grammar.specs.declared.fault.Kind.TheVariants.{Syntax, NumberTooWide, TooDeep}
use Rattle.text_grammar.specs.Part.{Part, kind_of_token, one_by, nothing, after, either, stop}

pub record Limits : Type 0 where
  -- How many brackets may still be opened in a type or an expression. Counted are those that may hold types or expressions:
  -- braces, indices and the operands of operations. A text's limit on all open brackets of a line is kept in its items.
  pub brackets : ℕ
  -- how many suffixes a reference or a type may have
  pub suffixes : ℕ

-- the limits of circuit texts
abbrev pub limits : Limits
limits = record { brackets = 64; suffixes = 32 }

-- ---- depth and count

-- a part that begins with a bracket, where so many brackets may still be opened
unfoldable pub opened : {A : Type 0} → ℕ → Part A → Part A
opened zero p = stop TooDeep
opened (suc d) p = p

-- a value that grows by what follows it, at most so often; once more passes a limit
unfoldable pub grow_up_to : {A : Type 0} → ℕ → (Item → Bool) → (A → Part A) → A → Part A
grow_up_to zero begins grow a = either begins (stop TooDeep) (nothing a)
grow_up_to (suc n) begins grow a = either begins (after (grow a) (λ b. grow_up_to n begins grow b)) (nothing a)

-- ---- an item that its position judges

abbrev pub value_in : {A : Type 0} → Result A Kind → Option A
value_in (Ok a) = Some a
value_in (Err kind) = None

-- of a value this is not asked
abbrev pub kind_in : {A : Type 0} → Result A Kind → Kind
kind_in (Ok a) = Syntax
kind_in (Err kind) = kind

-- one item, by the value that its token has here, or by why it is refused here
unfoldable pub judged : {A : Type 0} → (Token → Result A Kind) → Part A
judged judge = one_by (λ x. kind_in (judge x.token)) (λ x. value_in (judge x.token))

-- a number of at most so much
abbrev pub number_at_most : ℕ → Token → Result ℕ Kind
number_at_most greatest (token.Number n) = if nat_le n greatest then Ok n else Err NumberTooWide
number_at_most greatest t = Err (kind_of_token t)

unfoldable pub number_up_to : ℕ → Part ℕ
number_up_to greatest = judged (number_at_most greatest)

-- a width in bits
abbrev pub greatest_width : ℕ
greatest_width = 128

-- how many elements a vector has
abbrev pub greatest_length : ℕ
greatest_length = 65536
