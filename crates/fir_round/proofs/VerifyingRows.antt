-- Verification statements, printed again.
use Rattle.std.proofs.Common.{◌≡◌, ℕ, true, false, List, [], ◌∷◌, ◌++◌, map, refl, ap, subst, ◌∙◌, append_assoc, arith}
use Rattle.std.specs.Prelude.{◌&&◌, Option, Some, None, codes}
use Rattle.std.specs.List.{list_all}
use Rattle.text_grammar.specs.declared.item.Symbol.TheVariants as s
use Rattle.text_grammar.specs.declared.item.Token.TheVariants as token
use Rattle.text_grammar.specs.Part.{Part, first, second, cons, both, after, either, many}
use Rattle.text_grammar.specs.Terminals as part
use Rattle.text_grammar.specs.Terminals.{is_symbol}
use Rattle.fir_ast.specs.Limits.{Limits}
use Rattle.fir_ast.specs.ExprGrammar.{expr}
use Rattle.fir_ast.specs.RowGrammar.{pair, some, operand, text_token, some_label, no_label, label, closes, value, two_operands, three_operands, told, stopped, printing, stopping, checked, arguments, verification, sink_row, row_from}
use Rattle.fir_ast.specs.Printed.{kind_name, operands_before}
use Rattle.fir_ast.specs.declared.tree.Expr.{Expr}
use Rattle.fir_ast.specs.declared.tree.VerifKind.{VerifKind}
use Rattle.fir_ast.specs.declared.tree.VerifKind.TheVariants as kind
use Rattle.fir_ast.specs.declared.tree.Stmt.{Stmt}
use Rattle.fir_ast.specs.declared.tree.Stmt.TheOpen as layer
use Rattle.fir_ast.specs.declared.tree.Stmt.TheVariants as stmt
use Rattle.fir_ast.specs.declared.tree.Stmt.TheVariants.{rolls-Verif}
use Rattle.fir_print_laws.specs.Atoms.{Atom, word, mark, number, space, listed_behind, expr_atoms, label_atoms, message_atoms, verif_atoms}
use Rattle.fir_print_laws.specs.Standing.{is_word_text, is_closed, no_feed}
use Rattle.fir_print_laws.specs.Printable.{is_number, label_fits, operand_fits}
use Rattle.fir_round.specs.Again.{ExprsAgain, RowAgain, leads_block}
use Rattle.fir_round.proofs.RowFolds.{row_again}
use Rattle.fir_round.proofs.RowSpelling.{Tells, Any, All, IsSmall, IsQuoted, mark_tells, name_tells, number_tells, text_tells, end_tells, ended_tells, both_tells, after_tells, either_tells, pick_tells, many_tells, Spelled, SpelledRow, spelled_mark, spelled_space, spelled_name, spelled_number, spelled_text, spelled_both, spelled_many, row_space, row_both, row_after, row_last, row_end, row_ended, row_left, row_right}
use Rattle.fir_round.proofs.RowParts.{GoodExpr, true_both, is_small, operand_good_fits, expr_tells, operand_tells}
use Rattle.fir_round.proofs.LineRows.{next_line}

-- ---- what stands behind the parentheses

abbrev IsLabel : Option (List ℕ) → Type 0
IsLabel name = label_fits name ≡ true

label_tells : (d : ℕ) → Tells d 0 label IsLabel
unfolding label some_label
label_tells d =
    either_tells d 0 (is_symbol s.Colon) some_label no_label IsLabel
    (both_tells d d 0 some (part.mark s.Colon) _ Any (λ n. is_word_text n ≡ true) IsLabel (mark_tells d s.Colon)
    (both_tells d d 0 first part.name (part.mark s.LineEnd) (λ n. is_word_text n ≡ true) Any (λ n. is_word_text n ≡ true) (name_tells d) (end_tells d) (λ n u h i. h)) (λ u n i h. h))
    (ended_tells d None IsLabel refl)

closes_tells : Tells 1 0 closes IsLabel
unfolding closes
closes_tells = both_tells 1 0 0 second (part.mark s.CloseParen) label Any IsLabel IsLabel (mark_tells 1 s.CloseParen) (label_tells 0) (λ u n i h. h)

label_row : (line : ℕ) (name : Option (List ℕ)) → SpelledRow line label (label_atoms name) name
unfolding label some_label
label_row line None = row_right line (is_symbol s.Colon) some_label no_label [] None (row_ended line None)
label_row line (Some n) =
    let named = row_space line _ (word n ∷ []) n (row_last line first part.name (part.mark s.LineEnd) (word n ∷ []) n tt (spelled_name line n) (row_end line)) in
    let marked = row_both line some (part.mark s.Colon) _ (mark s.Colon ∷ []) (space ∷ word n ∷ []) tt n (spelled_mark line s.Colon) named in
    row_space line label (mark s.Colon ∷ space ∷ word n ∷ []) (Some n) (row_left line (is_symbol s.Colon) some_label no_label (mark s.Colon ∷ space ∷ word n ∷ []) (Some n) marked)

closes_row : (line : ℕ) (name : Option (List ℕ)) → SpelledRow line closes (mark s.CloseParen ∷ label_atoms name) name
unfolding closes
closes_row line name = row_both line second (part.mark s.CloseParen) label (mark s.CloseParen ∷ []) (label_atoms name) tt name (spelled_mark line s.CloseParen) (label_row line name)

-- ---- the operands behind the string

values_tell : ExprsAgain → (l : Limits) → Tells 1 1 (many (is_symbol s.Comma) (value l)) (All (GoodExpr l 1))
unfolding value
values_tell again l =
    many_tells 1 (is_symbol s.Comma) (value l) (GoodExpr l 1)
    (both_tells 1 1 1 second (part.mark s.Comma) (expr l) Any (GoodExpr l 1) (GoodExpr l 1) (mark_tells 1 s.Comma) (expr_tells again l 1 (omega arith)) (λ u x i g. g))

value_spelled : (l : Limits) (line : ℕ) (x : Expr) → GoodExpr l 1 x → Spelled line (value l) (mark s.Comma ∷ space ∷ expr_atoms x) x
unfolding value
value_spelled l line x g = spelled_both line second (part.mark s.Comma) (expr l) (mark s.Comma ∷ []) (space ∷ expr_atoms x) tt x (spelled_mark line s.Comma) (spelled_space line (expr l) (expr_atoms x) x (g.again line))

values_spelled : (l : Limits) (line : ℕ) (xs : List Expr) → All (GoodExpr l 1) xs → Spelled line (many (is_symbol s.Comma) (value l)) (listed_behind (map expr_atoms xs)) xs
unfolding many
values_spelled l line [] g = record { spelled = λ column. refl }
values_spelled l line (x ∷ xs) g = spelled_many line (is_symbol s.Comma) (value l) (mark s.Comma ∷ space ∷ expr_atoms x) (listed_behind (map expr_atoms xs)) x xs (value_spelled l line x g.0) (values_spelled l line xs g.1)

values_fit : (l : Limits) (xs : List Expr) → All (GoodExpr l 1) xs → list_all operand_fits xs ≡ true
values_fit l [] g = refl
values_fit l (x ∷ xs) g = true_both (operand_fits x) (list_all operand_fits xs) (operand_good_fits l x g.0) (values_fit l xs g.1)

-- `"s", E ..)` and what stands behind it
told_row : (l : Limits) (line : ℕ) (which : VerifKind) (before more : List Expr) (t : List ℕ) (name : Option (List ℕ)) → All (GoodExpr l 1) more
    → SpelledRow line (told l line which before) (Some (token.Text t) ∷ (listed_behind (map expr_atoms more) ++ (mark s.CloseParen ∷ label_atoms name))) (stmt.Verif line which (before ++ more) 0 t name)
unfolding told
told_row l line which before more t name g =
    let values = listed_behind (map expr_atoms more) in
    let behind = row_both line pair (many (is_symbol s.Comma) (value l)) closes values (mark s.CloseParen ∷ label_atoms name) more name (values_spelled l line more g) (closes_row line name) in
    row_both line (λ text r. stmt.Verif line which (before ++ r.0) 0 text r.1) text_token (both pair (many (is_symbol s.Comma) (value l)) closes) (Some (token.Text t) ∷ []) (values ++ (mark s.CloseParen ∷ label_atoms name)) t (more, name) (spelled_text line t) behind

stopped_row : (line : ℕ) (before : List Expr) (code : ℕ) (name : Option (List ℕ)) → SpelledRow line (stopped line before) (number code ∷ mark s.CloseParen ∷ label_atoms name) (stmt.Verif line kind.Stop before code [] name)
unfolding stopped
stopped_row line before code name =
    row_both line (λ n v. stmt.Verif line kind.Stop before n [] v) part.number closes (number code ∷ []) (mark s.CloseParen ∷ label_atoms name) code name (spelled_number line code) (closes_row line name)

-- ---- the operands in front of it

abbrev Two : Limits → List Expr → Type 0
Two l (a ∷ b ∷ []) = GoodExpr l 1 a × GoodExpr l 1 b
Two l _ = ⊥

abbrev Three : Limits → List Expr → Type 0
Three l [] = ⊥
Three l (a ∷ more) = GoodExpr l 1 a × Two l more

two_tell : ExprsAgain → (l : Limits) → Tells 1 1 (two_operands l) (Two l)
unfolding two_operands
two_tell again l =
    both_tells 1 1 1 (λ a b. a ∷ b ∷ []) (operand l) (operand l) (GoodExpr l 1) (GoodExpr l 1) (Two l) (operand_tells again l 1 (omega arith)) (operand_tells again l 1 (omega arith)) (λ a b g h. (g, h))

three_tell : ExprsAgain → (l : Limits) → Tells 1 1 (three_operands l) (Three l)
unfolding three_operands
three_tell again l = both_tells 1 1 1 cons (operand l) (two_operands l) (GoodExpr l 1) (Two l) (Three l) (operand_tells again l 1 (omega arith)) (two_tell again l) (λ a more g h. (g, h))

operand_spelled : (l : Limits) (line : ℕ) (x : Expr) → GoodExpr l 1 x → Spelled line (operand l) (expr_atoms x ++ mark s.Comma ∷ []) x
unfolding operand
operand_spelled l line x g = spelled_both line first (expr l) (part.mark s.Comma) (expr_atoms x) (mark s.Comma ∷ []) x tt (g.again line) (spelled_mark line s.Comma)

two_spelled : (l : Limits) (line : ℕ) (a b : Expr) → GoodExpr l 1 a → GoodExpr l 1 b
    → Spelled line (two_operands l) ((expr_atoms a ++ mark s.Comma ∷ []) ++ (space ∷ (expr_atoms b ++ mark s.Comma ∷ []))) (a ∷ b ∷ [])
unfolding two_operands
two_spelled l line a b g h =
    let next = expr_atoms b ++ mark s.Comma ∷ [] in
    spelled_both line (λ x y. x ∷ y ∷ []) (operand l) (operand l) (expr_atoms a ++ mark s.Comma ∷ []) (space ∷ next) a b (operand_spelled l line a g) (spelled_space line (operand l) next b (operand_spelled l line b h))

three_spelled : (l : Limits) (line : ℕ) (a b c : Expr) → GoodExpr l 1 a → GoodExpr l 1 b → GoodExpr l 1 c
    → Spelled line (three_operands l) ((expr_atoms a ++ mark s.Comma ∷ []) ++ (space ∷ ((expr_atoms b ++ mark s.Comma ∷ []) ++ (space ∷ (expr_atoms c ++ mark s.Comma ∷ []))))) (a ∷ b ∷ c ∷ [])
unfolding three_operands
three_spelled l line a b c g h i =
    let next = (expr_atoms b ++ mark s.Comma ∷ []) ++ (space ∷ (expr_atoms c ++ mark s.Comma ∷ [])) in
    spelled_both line cons (operand l) (two_operands l) (expr_atoms a ++ mark s.Comma ∷ []) (space ∷ next) a (b ∷ c ∷ []) (operand_spelled l line a g) (spelled_space line (two_operands l) next (b ∷ c ∷ []) (two_spelled l line b c h i))

comma_moves : (xs ys : List Atom) → (xs ++ mark s.Comma ∷ []) ++ ys ≡ xs ++ (mark s.Comma ∷ ys)
comma_moves xs ys = append_assoc xs (mark s.Comma ∷ []) ys

two_move : (xs ys rest : List Atom) → ((xs ++ mark s.Comma ∷ []) ++ (space ∷ (ys ++ mark s.Comma ∷ []))) ++ rest ≡ xs ++ (mark s.Comma ∷ space ∷ (ys ++ (mark s.Comma ∷ rest)))
two_move xs ys rest =
    append_assoc (xs ++ mark s.Comma ∷ []) (space ∷ (ys ++ mark s.Comma ∷ [])) rest ∙ comma_moves xs (space ∷ ((ys ++ mark s.Comma ∷ []) ++ rest))
    ∙ ap (λ (z : List Atom). xs ++ (mark s.Comma ∷ space ∷ z)) (comma_moves ys rest)

three_move : (xs ys zs rest : List Atom)
    → ((xs ++ mark s.Comma ∷ []) ++ (space ∷ ((ys ++ mark s.Comma ∷ []) ++ (space ∷ (zs ++ mark s.Comma ∷ []))))) ++ rest
    ≡ xs ++ (mark s.Comma ∷ space ∷ (ys ++ (mark s.Comma ∷ space ∷ (zs ++ (mark s.Comma ∷ rest)))))
three_move xs ys zs rest =
    let next = (ys ++ mark s.Comma ∷ []) ++ (space ∷ (zs ++ mark s.Comma ∷ [])) in
    append_assoc (xs ++ mark s.Comma ∷ []) (space ∷ next) rest ∙ comma_moves xs (space ∷ (next ++ rest)) ∙ ap (λ (z : List Atom). xs ++ (mark s.Comma ∷ space ∷ z)) (two_move ys zs rest)

two_row : (l : Limits) (line : ℕ) (q : List Expr → Part Stmt) (a b : Expr) (rest : List Atom) (x : Stmt) → GoodExpr l 1 a → GoodExpr l 1 b → SpelledRow line (q (a ∷ b ∷ [])) rest x
    → SpelledRow line (after (two_operands l) q) (expr_atoms a ++ (mark s.Comma ∷ space ∷ (expr_atoms b ++ (mark s.Comma ∷ rest)))) x
two_row l line q a b rest x g h r =
    subst (λ (z : List Atom). SpelledRow line (after (two_operands l) q) z x) (two_move (expr_atoms a) (expr_atoms b) rest)
    (row_after line (two_operands l) q _ rest (a ∷ b ∷ []) x (two_spelled l line a b g h) r)

three_row : (l : Limits) (line : ℕ) (q : List Expr → Part Stmt) (a b c : Expr) (rest : List Atom) (x : Stmt) → GoodExpr l 1 a → GoodExpr l 1 b → GoodExpr l 1 c → SpelledRow line (q (a ∷ b ∷ c ∷ [])) rest x
    → SpelledRow line (after (three_operands l) q) (expr_atoms a ++ (mark s.Comma ∷ space ∷ (expr_atoms b ++ (mark s.Comma ∷ space ∷ (expr_atoms c ++ (mark s.Comma ∷ rest)))))) x
three_row l line q a b c rest x g h i r =
    subst (λ (z : List Atom). SpelledRow line (after (three_operands l) q) z x) (three_move (expr_atoms a) (expr_atoms b) (expr_atoms c) rest)
    (row_after line (three_operands l) q _ rest (a ∷ b ∷ c ∷ []) x (three_spelled l line a b c g h i) r)

-- the same as they are printed: the parenthesis stands behind the list
two_listed : (xs ys rest ends : List Atom) → (xs ++ (mark s.Comma ∷ space ∷ (ys ++ (mark s.Comma ∷ space ∷ rest)))) ++ ends ≡ xs ++ (mark s.Comma ∷ space ∷ (ys ++ (mark s.Comma ∷ space ∷ (rest ++ ends))))
two_listed xs ys rest ends =
    append_assoc xs (mark s.Comma ∷ space ∷ (ys ++ (mark s.Comma ∷ space ∷ rest))) ends
    ∙ ap (λ (z : List Atom). xs ++ (mark s.Comma ∷ space ∷ z)) (append_assoc ys (mark s.Comma ∷ space ∷ rest) ends)

three_listed : (xs ys zs rest ends : List Atom)
    → (xs ++ (mark s.Comma ∷ space ∷ (ys ++ (mark s.Comma ∷ space ∷ (zs ++ (mark s.Comma ∷ space ∷ rest)))))) ++ ends
    ≡ xs ++ (mark s.Comma ∷ space ∷ (ys ++ (mark s.Comma ∷ space ∷ (zs ++ (mark s.Comma ∷ space ∷ (rest ++ ends))))))
three_listed xs ys zs rest ends =
    append_assoc xs (mark s.Comma ∷ space ∷ (ys ++ (mark s.Comma ∷ space ∷ (zs ++ (mark s.Comma ∷ space ∷ rest))))) ends
    ∙ ap (λ (z : List Atom). xs ++ (mark s.Comma ∷ space ∷ z)) (two_listed ys zs rest ends)

-- ---- rows that begin with such a word

test_is : (args : List Expr) (code : ℕ) (t : List ℕ) (name : Option (List ℕ)) → list_all operand_fits args ≡ true → is_number code ≡ true → IsQuoted t → IsLabel name
    → (list_all operand_fits args && (is_number code && ((is_closed 34 t && no_feed t) && label_fits name))) ≡ true
test_is args code t name a c q h =
    let quoted = is_closed 34 t && no_feed t in
    true_both (list_all operand_fits args) (is_number code && (quoted && label_fits name)) a (true_both (is_number code) (quoted && label_fits name) c (true_both quoted (label_fits name) (true_both (is_closed 34 t) (no_feed t) q.0 q.1) h))

-- a row of the word w, which leads to this part
abbrev Leads : Limits → List ℕ → (ℕ → Part Stmt) → Type 0
Leads l w p = (column line : ℕ) (xs : List Atom) (x : Stmt) → SpelledRow line (p line) xs x → SpelledRow line (row_from l column line w) (mark s.OpenParen ∷ xs) x

opened_row : (l : Limits) (column line : ℕ) (w : List ℕ) (xs : List Atom) (x : Stmt) → SpelledRow line (arguments l line w) xs x
    → SpelledRow line (either (is_symbol s.OpenParen) (verification l line w) (sink_row l line w)) (mark s.OpenParen ∷ xs) x
unfolding verification
opened_row l column line w xs x h =
    row_left line (is_symbol s.OpenParen) (verification l line w) (sink_row l line w) (mark s.OpenParen ∷ xs) x
    (row_both line second (part.mark s.OpenParen) (arguments l line w) (mark s.OpenParen ∷ []) xs tt x (spelled_mark line s.OpenParen) h)

printf_leads : (l : Limits) → Leads l (codes "printf") (printing l)
unfolding row_from arguments
printf_leads l column line xs x h = opened_row l column line (codes "printf") xs x h

stop_leads : (l : Limits) → Leads l (codes "stop") (stopping l)
unfolding row_from arguments
stop_leads l column line xs x h = opened_row l column line (codes "stop") xs x h

assert_leads : (l : Limits) → Leads l (codes "assert") (λ line. checked l line kind.Assert)
unfolding row_from arguments
assert_leads l column line xs x h = opened_row l column line (codes "assert") xs x h

assume_leads : (l : Limits) → Leads l (codes "assume") (λ line. checked l line kind.Assume)
unfolding row_from arguments
assume_leads l column line xs x h = opened_row l column line (codes "assume") xs x h

cover_leads : (l : Limits) → Leads l (codes "cover") (λ line. checked l line kind.Cover)
unfolding row_from arguments
cover_leads l column line xs x h = opened_row l column line (codes "cover") xs x h

-- ---- the statements

printf_again : (l : Limits) (line : ℕ) (a b : Expr) (more : List Expr) (t : List ℕ) (name : Option (List ℕ)) → GoodExpr l 1 a → GoodExpr l 1 b → All (GoodExpr l 1) more → IsQuoted t → IsLabel name
    → RowAgain l (stmt.Verif line kind.Printf (a ∷ b ∷ more) 0 t name)
unfolding printing
printf_again l line a b more t name g h m q n =
    let args = a ∷ b ∷ more in
    let values = listed_behind (map expr_atoms more) in
    let ends = mark s.CloseParen ∷ label_atoms name in
    let rest = Some (token.Text t) ∷ (values ++ ends) in
    let inside = expr_atoms a ++ (mark s.Comma ∷ space ∷ (expr_atoms b ++ (mark s.Comma ∷ space ∷ rest))) in
    row_again l (layer.Verif line kind.Printf args 0 t name) (stmt.Verif line kind.Printf args 0 t name) (codes "printf") (mark s.OpenParen ∷ inside) (rolls-Verif line kind.Printf args 0 t name)
    (λ i. ap (λ (z : List Atom). (i ++ (word (codes "printf") ∷ mark s.OpenParen ∷ z)) ∷ []) (two_listed (expr_atoms a) (expr_atoms b) (Some (token.Text t) ∷ values) ends))
    (test_is args 0 t name (values_fit l args (g, (h, m))) refl q n) refl
    (λ at column place end. (printf_leads l column at inside (stmt.Verif at kind.Printf args 0 t name)
    (two_row l at (told l at kind.Printf) a b (space ∷ rest) (stmt.Verif at kind.Printf args 0 t name) g h
    (row_space at _ rest (stmt.Verif at kind.Printf args 0 t name) (told_row l at kind.Printf (a ∷ b ∷ []) more t name m)))).row place end)
    next_line

stop_again : (l : Limits) (line : ℕ) (a b : Expr) (code : ℕ) (name : Option (List ℕ)) → GoodExpr l 1 a → GoodExpr l 1 b → IsSmall code → IsLabel name
    → RowAgain l (stmt.Verif line kind.Stop (a ∷ b ∷ []) code [] name)
unfolding stopping
stop_again l line a b code name g h k n =
    let args = a ∷ b ∷ [] in
    let ends = mark s.CloseParen ∷ label_atoms name in
    let rest = number code ∷ ends in
    let inside = expr_atoms a ++ (mark s.Comma ∷ space ∷ (expr_atoms b ++ (mark s.Comma ∷ space ∷ rest))) in
    row_again l (layer.Verif line kind.Stop args code [] name) (stmt.Verif line kind.Stop args code [] name) (codes "stop") (mark s.OpenParen ∷ inside) (rolls-Verif line kind.Stop args code [] name)
    (λ i. ap (λ (z : List Atom). (i ++ (word (codes "stop") ∷ mark s.OpenParen ∷ z)) ∷ []) (two_listed (expr_atoms a) (expr_atoms b) (number code ∷ []) ends))
    (test_is args code [] name (values_fit l args (g, (h, tt))) (is_small code k) (refl, refl) n) refl
    (λ at column place end. (stop_leads l column at inside (stmt.Verif at kind.Stop args code [] name)
    (two_row l at (stopped at) a b (space ∷ rest) (stmt.Verif at kind.Stop args code [] name) g h
    (row_space at _ rest (stmt.Verif at kind.Stop args code [] name) (stopped_row at args code name)))).row place end)
    next_line

-- of one of the kinds that have three operands and a string
abbrev Checks : VerifKind → Type 0
Checks which = (operands_before which ≡ 3) × (leads_block (kind_name which) ≡ false) × ((t : List ℕ) → message_atoms which 0 t ≡ Some (token.Text t) ∷ [])

check_printed : (which : VerifKind) (a b c : Expr) (more : List Expr) (t : List ℕ) (name : Option (List ℕ)) → Checks which
    → verif_atoms which (a ∷ b ∷ c ∷ more) 0 t name
    ≡ word (kind_name which) ∷ mark s.OpenParen ∷ (expr_atoms a ++ (mark s.Comma ∷ space ∷ (expr_atoms b ++ (mark s.Comma ∷ space ∷ (expr_atoms c ++ (mark s.Comma ∷ space ∷ Some (token.Text t) ∷ (listed_behind (map expr_atoms more) ++ (mark s.CloseParen ∷ label_atoms name))))))))
check_printed which a b c more t name k =
    let three = k.0 in
    let text = k.2 t in
    rw (three, text) (ap (λ (z : List Atom). word (kind_name which) ∷ mark s.OpenParen ∷ z)
    (three_listed (expr_atoms a) (expr_atoms b) (expr_atoms c) (Some (token.Text t) ∷ listed_behind (map expr_atoms more)) (mark s.CloseParen ∷ label_atoms name)))

check_again : (l : Limits) (line : ℕ) (which : VerifKind) (a b c : Expr) (more : List Expr) (t : List ℕ) (name : Option (List ℕ)) → Checks which → Leads l (kind_name which) (λ at. checked l at which)
    → GoodExpr l 1 a → GoodExpr l 1 b → GoodExpr l 1 c → All (GoodExpr l 1) more → IsQuoted t → IsLabel name → RowAgain l (stmt.Verif line which (a ∷ b ∷ c ∷ more) 0 t name)
unfolding checked
check_again l line which a b c more t name k leads g h j m q n =
    let args = a ∷ b ∷ c ∷ more in
    let rest = Some (token.Text t) ∷ (listed_behind (map expr_atoms more) ++ (mark s.CloseParen ∷ label_atoms name)) in
    let inside = expr_atoms a ++ (mark s.Comma ∷ space ∷ (expr_atoms b ++ (mark s.Comma ∷ space ∷ (expr_atoms c ++ (mark s.Comma ∷ space ∷ rest))))) in
    row_again l (layer.Verif line which args 0 t name) (stmt.Verif line which args 0 t name) (kind_name which) (mark s.OpenParen ∷ inside) (rolls-Verif line which args 0 t name)
    (λ i. ap (λ (z : List Atom). (i ++ z) ∷ []) (check_printed which a b c more t name k))
    (test_is args 0 t name (values_fit l args (g, (h, (j, m)))) refl q n) k.1
    (λ at column place end. (leads column at inside (stmt.Verif at which args 0 t name)
    (three_row l at (told l at which) a b c (space ∷ rest) (stmt.Verif at which args 0 t name) g h j
    (row_space at _ rest (stmt.Verif at which args 0 t name) (told_row l at which (a ∷ b ∷ c ∷ []) more t name m)))).row place end)
    next_line

-- ---- what their spellings tell

told_tells : ExprsAgain → (l : Limits) (line : ℕ) (which : VerifKind) (before : List Expr)
    → ((more : List Expr) (t : List ℕ) (name : Option (List ℕ)) → All (GoodExpr l 1) more → IsQuoted t → IsLabel name → RowAgain l (stmt.Verif line which (before ++ more) 0 t name)) → Tells 1 0 (told l line which before) (RowAgain l)
unfolding told
told_tells again l line which before k =
    let Both : List Expr × Option (List ℕ) → Type 0 = λ r. All (GoodExpr l 1) r.0 × IsLabel r.1 in
    both_tells 1 1 0 (λ t r. stmt.Verif line which (before ++ r.0) 0 t r.1) text_token (both pair (many (is_symbol s.Comma) (value l)) closes) IsQuoted Both (RowAgain l) (text_tells 1)
    (both_tells 1 1 0 pair (many (is_symbol s.Comma) (value l)) closes (All (GoodExpr l 1)) IsLabel Both (values_tell again l) closes_tells (λ more name g n. (g, n)))
    (λ t r q g. k r.0 t r.1 g.0 q g.1)

told_two : ExprsAgain → (l : Limits) (line : ℕ) (before : List Expr) → Two l before → Tells 1 0 (told l line kind.Printf before) (RowAgain l)
told_two again l line [] g = absurd g
told_two again l line (a ∷ []) g = absurd g
told_two again l line (a ∷ b ∷ []) g = told_tells again l line kind.Printf (a ∷ b ∷ []) (λ more t name m q n. printf_again l line a b more t name g.0 g.1 m q n)
told_two again l line (a ∷ b ∷ c ∷ more) g = absurd g

stopped_two : (l : Limits) (line : ℕ) (before : List Expr) → Two l before → Tells 1 0 (stopped line before) (RowAgain l)
unfolding stopped
stopped_two l line [] g = absurd g
stopped_two l line (a ∷ []) g = absurd g
stopped_two l line (a ∷ b ∷ []) g =
    both_tells 1 1 0 (λ code name. stmt.Verif line kind.Stop (a ∷ b ∷ []) code [] name) part.number closes IsSmall IsLabel (RowAgain l) (number_tells 1) closes_tells (λ code name k n. stop_again l line a b code name g.0 g.1 k n)
stopped_two l line (a ∷ b ∷ c ∷ more) g = absurd g

told_three : ExprsAgain → (l : Limits) (line : ℕ) (which : VerifKind) → Checks which → Leads l (kind_name which) (λ at. checked l at which) → (before : List Expr) → Three l before → Tells 1 0 (told l line which before) (RowAgain l)
told_three again l line which k leads [] g = absurd g
told_three again l line which k leads (a ∷ []) g = absurd g.1
told_three again l line which k leads (a ∷ b ∷ []) g = absurd g.1
told_three again l line which k leads (a ∷ b ∷ c ∷ []) g =
    told_tells again l line which (a ∷ b ∷ c ∷ []) (λ more t name m q n. check_again l line which a b c more t name k leads g.0 g.1.0 g.1.1 m q n)
told_three again l line which k leads (a ∷ b ∷ c ∷ d ∷ more) g = absurd g.1

checked_tells : ExprsAgain → (l : Limits) (line : ℕ) (which : VerifKind) → Checks which → Leads l (kind_name which) (λ at. checked l at which) → Tells 1 0 (checked l line which) (RowAgain l)
unfolding checked
checked_tells again l line which k leads = after_tells 1 1 0 (three_operands l) (told l line which) (Three l) (RowAgain l) (three_tell again l) (told_three again l line which k leads)

pub verification_tells : ExprsAgain → (l : Limits) (line : ℕ) (w : List ℕ) → Tells 0 0 (verification l line w) (RowAgain l)
unfolding verification arguments printing stopping
verification_tells again l line w =
    both_tells 0 1 0 second (part.mark s.OpenParen) (arguments l line w) Any (RowAgain l) (RowAgain l) (mark_tells 0 s.OpenParen)
    (pick_tells 1 0 _ (printing l line) _ (RowAgain l) (after_tells 1 1 0 (two_operands l) (told l line kind.Printf) (Two l) (RowAgain l) (two_tell again l) (told_two again l line))
    (pick_tells 1 0 _ (stopping l line) _ (RowAgain l) (after_tells 1 1 0 (two_operands l) (stopped line) (Two l) (RowAgain l) (two_tell again l) (stopped_two l line))
    (pick_tells 1 0 _ (checked l line kind.Assert) _ (RowAgain l) (checked_tells again l line kind.Assert (refl, refl, λ t. refl) (assert_leads l))
    (pick_tells 1 0 _ (checked l line kind.Assume) (checked l line kind.Cover) (RowAgain l) (checked_tells again l line kind.Assume (refl, refl, λ t. refl) (assume_leads l))
    (checked_tells again l line kind.Cover (refl, refl, λ t. refl) (cover_leads l))))))
    (λ u x i r. r)
