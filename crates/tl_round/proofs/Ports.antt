-- Ports, and ports with lists, are spelled again as they are printed.
use Rattle.std.proofs.Common.{◌≡◌, ℕ, ◌<◌, ◌≤◌, ◌^◌, Bool, true, List, [], ◌∷◌, ◌++◌, refl, sym, ◌∙◌, append_assoc, append-nil, subst, inl, inr}
use Rattle.std.specs.Prelude.{codes}
use Rattle.std.specs.Fmt.{decimal}
use Rattle.text_grammar.specs.declared.item.Item.{Item}
use Rattle.text_grammar.specs.declared.item.Symbol.TheVariants as s
use Rattle.text_grammar.specs.Part.{Part, first, either, many}
use Rattle.text_grammar.specs.Terminals.{is_symbol, mark, name, number}
use Rattle.tl_ast.specs.Printed.{expr_text}
use Rattle.tl_ast.specs.declared.tree.TestExpr.{TestExpr}
use Rattle.tl_ast.specs.ExprGrammar.{expr_limits, expr}
use Rattle.tl_ast.specs.TestGrammar.{field, index, is_suffix, suffix, longer, port}
use Rattle.tl_check.specs.Bounds.{operators}
use Rattle.tl_written.proofs.ExprsWritten.{gives_expr}
use Rattle.tl_round.proofs.Chunks.{Before, Line, says_cons, says_none, says_on, line_both, line_more, line_text}
use Rattle.tl_round.proofs.Tokens.{is_word_text, name_line, number_line, dot_line, open_bracket_line, close_bracket_line}
use Rattle.tl_round.proofs.Keeps.{Keeps, Any, any, Each, keeps_to, keeps_both, keeps_either, keeps_many, keeps_first}
use Rattle.tl_round.proofs.Depth.{Fine, keeps_name, keeps_number, keeps_expr}
use Rattle.tl_round.proofs.ExprLines.{line_as, expr_line}

-- ---- expressions

pub record Good (x : TestExpr) : Type 0 where
  pub fine : Fine 32 0 x
  pub few : operators x ≤ 64

pub keeps_good : Keeps Good (expr expr_limits)
keeps_good = record { keeps = λ ts x sound sp. (record { fine = keeps_expr.keeps ts x sound sp; few = gives_expr.gives ts x sp }) }

pub good_line : (x : TestExpr) → Good x → Line (expr expr_limits) true (expr_text x) x
good_line x h = expr_line x h.fine h.few

-- ---- suffixes

-- a suffix that is printed as it stands in the name, behind a token
pub record Suffixed (p : Part (List ℕ)) (added : List ℕ) : Type 0 where
  pub line : Line p true added added
  pub stop : (rest : List ℕ) → Before true (added ++ rest)

field_said : (w : List ℕ) → is_word_text w ≡ true → Suffixed field (codes "." ++ w)
unfolding field
field_said w h = record { line = line_both (λ u v. codes "." ++ v) dot_line (name_line w h) (λ rest k. tt); stop = λ rest. refl }

index_said : (n : ℕ) → n < 2 ^ 128 → Suffixed index (codes "[" ++ (decimal n ++ codes "]"))
unfolding index
index_said n h = record {
  line = line_more (line_both (λ u m. codes "[" ++ (decimal m ++ codes "]")) open_bracket_line
      (line_both first (number_line n h) close_bracket_line (λ rest k. refl)) (λ rest k. tt));
  stop = λ rest. refl;
}

pub keeps_field : Keeps (Suffixed field) field
unfolding field
keeps_field = keeps_both Any _ _ (mark s.Dot) name (any _) (λ u t. keeps_to _ _ name (λ w h. field_said w h) keeps_name)

keeps_index : Keeps (Suffixed index) index
unfolding index
keeps_index = keeps_both Any _ _ (mark s.OpenBracket) _ (any _)
    (λ u t. keeps_to (λ n. n < 2 ^ 128) _ _ (λ n h. index_said n h) (keeps_first (λ n. n < 2 ^ 128) number _ keeps_number))

keeps_suffix : Keeps (Suffixed suffix) suffix
unfolding suffix either
keeps_suffix = keeps_either (Suffixed suffix) (is_symbol s.Dot) field index
    (keeps_to (Suffixed field) _ field (λ w h. record { line = line_as suffix w (λ ts sp. inl sp) h.line; stop = h.stop }) keeps_field)
    (keeps_to (Suffixed index) _ index (λ w h. record { line = line_as suffix w (λ ts sp. inr sp) h.line; stop = h.stop }) keeps_index)

abbrev pub all_of : List (List ℕ) → List ℕ
all_of [] = []
all_of (t ∷ more) = t ++ all_of more

pub longer_is : (w : List ℕ) (all : List (List ℕ)) → longer w all ≡ w ++ all_of all
longer_is w [] = sym (append-nil w)
longer_is w (t ∷ more) = longer_is (w ++ t) more ∙ append_assoc w t (all_of more)

module _ (p : Part (List ℕ)) (begins : Item → Bool) where
  pub suffixes_stop : (all : List (List ℕ)) → Each (Suffixed p) all → (rest : List ℕ) → Before true rest → Before true (all_of all ++ rest)
  suffixes_stop [] h rest k = k
  suffixes_stop (t ∷ more) h rest k = subst (λ (z : List ℕ). Before true z) (sym (append_assoc t (all_of more) rest))
      (h.0.stop (all_of more ++ rest))

  pub suffixes_line : (all : List (List ℕ)) → Each (Suffixed p) all → Line (many begins p) true (all_of all) all
  suffixes_line [] h = line_more (λ q. says_none p begins q)
  suffixes_line (t ∷ more) h = λ q. says_cons begins (h.0.line q) (λ r e. says_on (suffixes_line more h.1 r) e)
      (λ rest k. suffixes_stop more h.1 rest k)

-- ---- ports

port_said : (w : List ℕ) (all : List (List ℕ)) → is_word_text w ≡ true → Each (Suffixed suffix) all → Line port true (longer w all)
    (longer w all)
unfolding port
port_said w all h k = line_text (sym (longer_is w all)) (line_both longer (name_line w h) (suffixes_line suffix is_suffix all k)
    (λ rest z. suffixes_stop suffix is_suffix all k rest z))

pub keeps_port : Keeps (λ p. Line port true p p) port
unfolding port
keeps_port = keeps_both (λ w. is_word_text w ≡ true) _ longer name _ keeps_name
    (λ w h. keeps_to (Each (Suffixed suffix)) _ _ (λ all k. port_said w all h k)
    (keeps_many (Suffixed suffix) suffix keeps_suffix is_suffix))
