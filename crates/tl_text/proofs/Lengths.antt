-- A test has at most as many statements as its text has items.
use Rattle.std.proofs.Common.{◌≡◌, ℕ, ◌≤◌, List, ◌++◌, length, Some, ap, arith, length-append}
use Rattle.text_grammar.specs.declared.item.Item.{Item}
use Rattle.text_grammar.specs.Part.{both, many, nothing}
use Rattle.text_grammar.proofs.Laws.{many_count}
use Rattle.tl_lex.specs.Lex.{items_of}
use Rattle.tl_ast.specs.ExprGrammar.{expr_limits}
use Rattle.tl_ast.specs.TestGrammar.{begins_stmt, stmt_in, stmts_in, block_within, test_within, test}
use Rattle.tl_ast.specs.declared.tree.TestText.{TestText}
use Rattle.tl_ast.specs.Tests.{spells_test, test_of}
use Rattle.tl_text.proofs.TestSteps.{stmt_begins}
use Rattle.tl_text.proofs.Texts.{found_spelled}

spelled_short : (ts : List Item) (x : TestText) → test.spells ts x → length x.body ≤ length ts
unfolding test_within both stmts_in many nothing
spelled_short ts x h =
    let count : length h.2 ≤ length h.0 = many_count begins_stmt (stmt_in expr_limits (block_within expr_limits 32) 8) (stmt_begins
    expr_limits (block_within expr_limits 32) 8) h.2 h.0 h.5 in
    let whole : length ts ≡ length (h.0 ++ h.1) = ap length h.4 in
    let body : length x.body ≡ length h.2 = ap (λ (t : TestText). length t.body) h.7 in
    omega (arith, count, whole, body, length-append h.0 h.1)

pub found_short : (text : List ℕ) (x : TestText) (n : ℕ) → test_of text ≡ Some x → length (items_of text) ≤ n → length x.body ≤ n
unfolding spells_test
found_short text x n h few =
    let short : length x.body ≤ length (items_of text) = spelled_short (items_of text) x (found_spelled text x h) in
    omega (arith, short, few)
