-- The lines of a circuit that can be printed are cut into their own items.
use Rattle.std.proofs.Common.{◌≡◌, ℕ, zero, suc, ◌+◌, ◌≤◌, Bool, true, false, List, [], ◌∷◌, ◌++◌, length, take, drop, map, refl, sym, ap, ◌∙◌, arith, subst}
use Rattle.std.specs.Prelude.{◌&&◌, nat_le, Option, Some, None, codes}
use Rattle.std.specs.List.{list_all, flat_map}
use Rattle.std.proofs.lemmas.Bool.Decides.{nat_tests}
use Rattle.text_grammar.specs.declared.item.Symbol.TheVariants as s
use Rattle.text_grammar.specs.declared.item.Token.TheVariants as token
use Rattle.fir_lex.specs.Lines.{placed}
use Rattle.fir_lex.specs.Marks.{marked, brackets_marked}
use Rattle.fir_lex.specs.Lex.{items_of}
use Rattle.fir_ast.specs.declared.tree.Ty.{Ty}
use Rattle.fir_ast.specs.declared.tree.Expr.{Expr}
use Rattle.fir_ast.specs.declared.tree.ResetPair.{ResetPair}
use Rattle.fir_ast.specs.declared.tree.VerifKind.{VerifKind}
use Rattle.fir_ast.specs.declared.tree.VerifKind.TheVariants.{Printf, Stop, Assert, Assume, Cover}
use Rattle.fir_ast.specs.declared.tree.Stmt.{Stmt}
use Rattle.fir_ast.specs.declared.tree.Stmt.TheOpen.{Stmt-F, Wire, Node, Reg, Inst, Connect, Invalid, When, Skip, Verif}
use Rattle.fir_ast.specs.declared.tree.Stmt.TheViews.{roll-Stmt}
use Rattle.fir_ast.specs.declared.tree.Stmt.TheFolds.{fold-roll-Stmt, ind-Stmt, map-Stmt}
use Rattle.fir_ast.specs.declared.tree.Port.{Port}
use Rattle.fir_ast.specs.declared.tree.Module.{Module}
use Rattle.fir_ast.specs.declared.tree.Circuit.{Circuit}
use Rattle.fir_ast.specs.Printed.{printed, kind_name, operands_before}
use Rattle.fir_print_laws.specs.Atoms.{Atom, Line, text, word, mark, space, comma, colon, listed, type_atoms, expr_atoms, reg_atoms, message_atoms, label_atoms, operand_atoms, verif_atoms, deeper, two, four, block_lines, else_lines, stmt_level, stmt_lines, port_line, module_lines, circuit_lines, direction_word}
use Rattle.fir_print_laws.specs.Items.{items_at, printed_items}
use Rattle.fir_print_laws.specs.Standing.{Stands, Ends, IsLine, AreLines, is_word_text, is_closed, no_feed}
use Rattle.fir_print_laws.specs.Printable.{is_number, all_true, type_words, type_depth, type_fits, expr_words, expr_depth, expr_fits, operand_fits, reset_fits, label_fits, stmt_test, stmt_fits, port_fits, module_fits, is_printable}
use Rattle.fir_print_laws.proofs.LineMarks.{IsHead, calm, forms_are}
use Rattle.fir_print_laws.proofs.Phrases.{Inner, StartsQuiet, inner_none, inner_both, inner_less, inner_space, inner_word, inner_number, inner_mark, inner_text, inner_call, ends_both}
use Rattle.fir_print_laws.proofs.TreePhrases.{Phrase, AllInner, and_left, and_right, small, all_both, inner_listed, type_phrase}
use Rattle.fir_print_laws.proofs.ExprPhrases.{expr_phrase}
use Rattle.fir_print_laws.proofs.TextItems.{circuit_cut}

-- ---- first words

head_circuit : IsHead (codes "circuit")
head_circuit = record { operations = refl; attaches = λ l c. refl; declares = λ l c. refl; ports = λ l c. refl }

head_module : IsHead (codes "module")
head_module = record { operations = refl; attaches = λ l c. refl; declares = λ l c. refl; ports = λ l c. refl }

head_input : IsHead (codes "input")
head_input = record { operations = refl; attaches = λ l c. refl; declares = λ l c. refl; ports = λ l c. refl }

head_output : IsHead (codes "output")
head_output = record { operations = refl; attaches = λ l c. refl; declares = λ l c. refl; ports = λ l c. refl }

head_wire : IsHead (codes "wire")
head_wire = record { operations = refl; attaches = λ l c. refl; declares = λ l c. refl; ports = λ l c. refl }

head_node : IsHead (codes "node")
head_node = record { operations = refl; attaches = λ l c. refl; declares = λ l c. refl; ports = λ l c. refl }

head_reg : IsHead (codes "reg")
head_reg = record { operations = refl; attaches = λ l c. refl; declares = λ l c. refl; ports = λ l c. refl }

head_regreset : IsHead (codes "regreset")
head_regreset = record { operations = refl; attaches = λ l c. refl; declares = λ l c. refl; ports = λ l c. refl }

head_inst : IsHead (codes "inst")
head_inst = record { operations = refl; attaches = λ l c. refl; declares = λ l c. refl; ports = λ l c. refl }

head_connect : IsHead (codes "connect")
head_connect = record { operations = refl; attaches = λ l c. refl; declares = λ l c. refl; ports = λ l c. refl }

head_invalidate : IsHead (codes "invalidate")
head_invalidate = record { operations = refl; attaches = λ l c. refl; declares = λ l c. refl; ports = λ l c. refl }

head_when : IsHead (codes "when")
head_when = record { operations = refl; attaches = λ l c. refl; declares = λ l c. refl; ports = λ l c. refl }

head_else : IsHead (codes "else")
head_else = record { operations = refl; attaches = λ l c. refl; declares = λ l c. refl; ports = λ l c. refl }

head_skip : IsHead (codes "skip")
head_skip = record { operations = refl; attaches = λ l c. refl; declares = λ l c. refl; ports = λ l c. refl }

head_printf : IsHead (codes "printf")
head_printf = record { operations = refl; attaches = λ l c. refl; declares = λ l c. refl; ports = λ l c. refl }

head_stop : IsHead (codes "stop")
head_stop = record { operations = refl; attaches = λ l c. refl; declares = λ l c. refl; ports = λ l c. refl }

head_assert : IsHead (codes "assert")
head_assert = record { operations = refl; attaches = λ l c. refl; declares = λ l c. refl; ports = λ l c. refl }

head_assume : IsHead (codes "assume")
head_assume = record { operations = refl; attaches = λ l c. refl; declares = λ l c. refl; ports = λ l c. refl }

head_cover : IsHead (codes "cover")
head_cover = record { operations = refl; attaches = λ l c. refl; declares = λ l c. refl; ports = λ l c. refl }

-- ---- a line

abbrev Spaces : List Atom → Type 0
Spaces [] = Unit {0}
Spaces (None ∷ xs) = Spaces xs
Spaces (Some t ∷ xs) = ⊥

spaces_both : (xs ys : List Atom) → Spaces xs → Spaces ys → Spaces (xs ++ ys)
spaces_both [] ys h k = k
spaces_both (None ∷ xs) ys h k = spaces_both xs ys h k
spaces_both (Some t ∷ xs) ys h k = absurd h

stands_indented : (i ys : List Atom) → Spaces i → Stands ys [] → Stands (i ++ ys) []
stands_indented [] ys h k = k
stands_indented (None ∷ i) ys h k = stands_indented i ys h k
stands_indented (Some t ∷ i) ys h k = absurd h

items_indented : (i ys : List Atom) (line column : ℕ) → Spaces i → items_at line column (i ++ ys) ≡ items_at line (column + length i) ys
items_indented [] ys line column h = let e : column + 0 ≡ column = omega arith in rw e refl
items_indented (None ∷ i) ys line column h = let e : column + 1 + length i ≡ column + suc (length i) = omega arith in items_indented i ys line (column + 1) h ∙ ap (λ n. items_at line n ys) e
items_indented (Some t ∷ i) ys line column h = absurd h

unmarked_line : (k : ℕ) (w : List ℕ) (xs : List Atom) (line column at : ℕ) → IsHead w → k ≤ 64 → Inner k (word w ∷ xs) → marked (items_at line column (word w ∷ xs) ++ placed line at (token.Symbol s.LineEnd) ∷ []) ≡ items_at line column (word w ∷ xs) ++ placed line at (token.Symbol s.LineEnd) ∷ []
unfolding marked
unmarked_line k w xs line column at h le a =
    let end = placed line at (token.Symbol s.LineEnd) in
    let calm_behind : calm false xs ≡ true = ap (λ b. calm b xs) (sym h.operations) ∙ a.calms false in
    ap (brackets_marked 0) (forms_are w xs line column (column + length w) end h refl calm_behind) ∙ a.balanced 0 (omega (arith, le)) line column (end ∷ [])

is_line : (i : List Atom) (k : ℕ) (w : List ℕ) (xs : List Atom) → Spaces i → IsHead w → k ≤ 64 → Inner k (word w ∷ xs) → Ends (word w ∷ xs) → IsLine (i ++ (word w ∷ xs))
is_line i k w xs sp h le a e = record {
  stands = stands_indented i (word w ∷ xs) sp (a.stands [] refl);
  ends = ends_both i (word w ∷ xs) e;
  unmarked_items = λ line.
      let at = 1 + length (text (i ++ (word w ∷ xs))) in
      let same = ap (λ z. z ++ placed line at (token.Symbol s.LineEnd) ∷ []) (items_indented i (word w ∷ xs) line 1 sp) in
      ap marked same ∙ unmarked_line k w xs line (1 + length i) at h le a ∙ sym same;
}

are_both : (xs ys : List Line) → AreLines xs → AreLines ys → AreLines (xs ++ ys)
are_both [] ys h k = k
are_both (x ∷ xs) ys h k = (h.0, are_both xs ys h.1 k)

-- ---- parts of lines

within : (n m : ℕ) → nat_le n m ≡ true → n ≤ m
within n m h = grind (arith, nat_tests)

typed : (t : Ty) → type_fits t ≡ true → Phrase 64 (type_atoms t)
typed t h =
    let p = type_phrase t (and_left (type_words t) (nat_le (type_depth t) 64) h) in
    record { inner = inner_less (type_depth t) 64 (type_atoms t) (within (type_depth t) 64 (and_right (type_words t) (nat_le (type_depth t) 64) h)) p.inner; ends = p.ends }

valued : (e : Expr) → expr_fits e ≡ true → Phrase 64 (expr_atoms e)
valued e h =
    let p = expr_phrase e (and_left (expr_words e) (nat_le (expr_depth e) 64) h) in
    record { inner = inner_less (expr_depth e) 64 (expr_atoms e) (within (expr_depth e) 64 (and_right (expr_words e) (nat_le (expr_depth e) 64) h)) p.inner; ends = p.ends }

inner_colon : (k : ℕ) (xs : List Atom) → Inner k xs → Inner k (colon ++ xs)
inner_colon k xs a = inner_space k (mark s.Colon ∷ space ∷ xs) (inner_mark k s.Colon (space ∷ xs) (λ rest q. tt) refl (λ d. refl) (inner_space k xs a))

inner_comma : (k : ℕ) (xs : List Atom) → Inner k xs → Inner k (comma ++ xs)
inner_comma k xs a = inner_mark k s.Comma (space ∷ xs) (λ rest q. tt) refl (λ d. refl) (inner_space k xs a)

-- ` :`
inner_block : (k : ℕ) → Inner k (space ∷ mark s.Colon ∷ [])
inner_block k = inner_space k (mark s.Colon ∷ []) (inner_mark k s.Colon [] (λ rest q. tt) refl (λ d. refl) (inner_none k))

-- a word, a space, a name
inner_named : (w name : List ℕ) (xs : List Atom) → is_word_text w ≡ true → is_word_text name ≡ true → StartsQuiet xs → Inner 64 xs → Inner 64 (word w ∷ space ∷ word name ∷ xs)
inner_named w name xs h k q a = inner_word 64 w (space ∷ word name ∷ xs) h (λ rest r. refl) (inner_space 64 (word name ∷ xs) (inner_word 64 name xs k q a))

reg_line : (i : List Atom) (name : List ℕ) (ty : Ty) (clock : Expr) (reset : Option ResetPair) → Spaces i → is_word_text name ≡ true → type_fits ty ≡ true → expr_fits clock ≡ true → reset_fits reset ≡ true → IsLine (i ++ reg_atoms name ty clock reset)
reg_line i name ty clock None sp h t e r =
    let a = typed ty t in
    let b = valued clock e in
    let behind = inner_colon 64 (type_atoms ty ++ (comma ++ expr_atoms clock)) (inner_both 64 (type_atoms ty) (comma ++ expr_atoms clock) a.inner (inner_comma 64 (expr_atoms clock) b.inner) (λ rest q. refl)) in
    is_line i 64 (codes "reg") (space ∷ word name ∷ (colon ++ (type_atoms ty ++ (comma ++ expr_atoms clock)))) sp head_reg (omega arith)
    (inner_named (codes "reg") name (colon ++ (type_atoms ty ++ (comma ++ expr_atoms clock))) refl h (λ rest q. refl) behind)
    (ends_both (word (codes "reg") ∷ space ∷ word name ∷ colon) (type_atoms ty ++ (comma ++ expr_atoms clock)) (ends_both (type_atoms ty) (comma ++ expr_atoms clock) (ends_both comma (expr_atoms clock) b.ends)))
reg_line i name ty clock (Some p) sp h t e r =
    let a = typed ty t in
    let b = valued clock e in
    let c = valued p.signal (and_left (expr_fits p.signal) (expr_fits p.init) r) in
    let d = valued p.init (and_right (expr_fits p.signal) (expr_fits p.init) r) in
    let last = comma ++ expr_atoms p.init in
    let third = comma ++ (expr_atoms p.signal ++ last) in
    let second = comma ++ (expr_atoms clock ++ third) in
    let last_in = inner_comma 64 (expr_atoms p.init) d.inner in
    let third_in = inner_comma 64 (expr_atoms p.signal ++ last) (inner_both 64 (expr_atoms p.signal) last c.inner last_in (λ rest q. refl)) in
    let second_in = inner_comma 64 (expr_atoms clock ++ third) (inner_both 64 (expr_atoms clock) third b.inner third_in (λ rest q. refl)) in
    let behind = inner_colon 64 (type_atoms ty ++ second) (inner_both 64 (type_atoms ty) second a.inner second_in (λ rest q. refl)) in
    let last_end = ends_both comma (expr_atoms p.init) d.ends in
    let third_end = ends_both comma (expr_atoms p.signal ++ last) (ends_both (expr_atoms p.signal) last last_end) in
    let second_end = ends_both comma (expr_atoms clock ++ third) (ends_both (expr_atoms clock) third third_end) in
    is_line i 64 (codes "regreset") (space ∷ word name ∷ (colon ++ (type_atoms ty ++ second))) sp head_regreset (omega arith)
    (inner_named (codes "regreset") name (colon ++ (type_atoms ty ++ second)) refl h (λ rest q. refl) behind)
    (ends_both (word (codes "regreset") ∷ space ∷ word name ∷ colon) (type_atoms ty ++ second) (ends_both (type_atoms ty) second second_end))

-- ---- verification statements

all_taken : (n : ℕ) (es : List Expr) → list_all operand_fits es ≡ true → list_all operand_fits (take n es) ≡ true
all_taken zero es h = refl
all_taken (suc n) [] h = refl
all_taken (suc n) (e ∷ es) h =
    let a = and_left (operand_fits e) (list_all operand_fits es) h in
    let b = all_taken n es (and_right (operand_fits e) (list_all operand_fits es) h) in
    rw a b

all_dropped : (n : ℕ) (es : List Expr) → list_all operand_fits es ≡ true → list_all operand_fits (drop n es) ≡ true
all_dropped zero es h = h
all_dropped (suc n) [] h = refl
all_dropped (suc n) (e ∷ es) h = all_dropped n es (and_right (operand_fits e) (list_all operand_fits es) h)

all_operands : (es : List Expr) → list_all operand_fits es ≡ true → AllInner 63 (map expr_atoms es)
all_operands [] h = tt
all_operands (e ∷ es) h =
    let a = and_left (operand_fits e) (list_all operand_fits es) h in
    let p = expr_phrase e (and_left (expr_words e) (nat_le (expr_depth e) 63) a) in
    (inner_less (expr_depth e) 63 (expr_atoms e) (within (expr_depth e) 63 (and_right (expr_words e) (nat_le (expr_depth e) 63) a)) p.inner, all_operands es (and_right (operand_fits e) (list_all operand_fits es) h))

message_inner : (kind : VerifKind) (code : ℕ) (t : List ℕ) → is_number code ≡ true → (is_closed 34 t && no_feed t) ≡ true → Inner 63 (message_atoms kind code t)
message_inner Printf code t h k = inner_text 63 t [] (and_left (is_closed 34 t) (no_feed t) k) (and_right (is_closed 34 t) (no_feed t) k) (inner_none 63)
message_inner Stop code t h k = inner_number 63 code [] (small code h) (λ rest q. q) (inner_none 63)
message_inner Assert code t h k = inner_text 63 t [] (and_left (is_closed 34 t) (no_feed t) k) (and_right (is_closed 34 t) (no_feed t) k) (inner_none 63)
message_inner Assume code t h k = inner_text 63 t [] (and_left (is_closed 34 t) (no_feed t) k) (and_right (is_closed 34 t) (no_feed t) k) (inner_none 63)
message_inner Cover code t h k = inner_text 63 t [] (and_left (is_closed 34 t) (no_feed t) k) (and_right (is_closed 34 t) (no_feed t) k) (inner_none 63)

label_inner : (label : Option (List ℕ)) → label_fits label ≡ true → Inner 64 (label_atoms label)
label_inner None h = inner_none 64
label_inner (Some name) h = inner_colon 64 (word name ∷ []) (inner_word 64 name [] h (λ rest q. q) (inner_none 64))

label_ends : (label : Option (List ℕ)) → Ends (mark s.CloseParen ∷ label_atoms label)
label_ends None = tt
label_ends (Some name) = tt

kind_is_word : (kind : VerifKind) → is_word_text (kind_name kind) ≡ true
kind_is_word Printf = refl
kind_is_word Stop = refl
kind_is_word Assert = refl
kind_is_word Assume = refl
kind_is_word Cover = refl

kind_is_head : (kind : VerifKind) → IsHead (kind_name kind)
kind_is_head Printf = head_printf
kind_is_head Stop = head_stop
kind_is_head Assert = head_assert
kind_is_head Assume = head_assume
kind_is_head Cover = head_cover

verif_line : (i : List Atom) (kind : VerifKind) (args : List Expr) (code : ℕ) (t : List ℕ) (label : Option (List ℕ)) → Spaces i → list_all operand_fits args ≡ true → is_number code ≡ true → (is_closed 34 t && no_feed t) ≡ true → label_fits label ≡ true → IsLine (i ++ verif_atoms kind args code t label)
verif_line i kind args code t label sp h c m l =
    let n = operands_before kind in
    let front = map expr_atoms (take n args) in
    let back = map expr_atoms (drop n args) in
    let all = all_both 63 front (message_atoms kind code t ∷ back) (all_operands (take n args) (all_taken n args h)) (message_inner kind code t c m, all_operands (drop n args) (all_dropped n args h)) in
    is_line i 64 (kind_name kind) (mark s.OpenParen ∷ (listed (operand_atoms kind args code t) ++ (mark s.CloseParen ∷ label_atoms label))) sp (kind_is_head kind) (omega arith)
    (inner_call 63 (kind_name kind) (listed (operand_atoms kind args code t)) (label_atoms label) (kind_is_word kind) (kind_is_head kind).operations (inner_listed 63 (operand_atoms kind args code t) all) (label_inner label l))
    (ends_both (word (kind_name kind) ∷ mark s.OpenParen ∷ listed (operand_atoms kind args code t)) (mark s.CloseParen ∷ label_atoms label) (label_ends label))

-- ---- statements

abbrev IsStmtLines : Stmt → Type 0
IsStmtLines s1 = stmt_fits s1 ≡ true → (i : List Atom) → Spaces i → AreLines (stmt_lines s1 i)

abbrev With : Type 0
With = (s1 : Stmt) × IsStmtLines s1

block_are : (ss : List With) (i : List Atom) → Spaces i → all_true (map stmt_fits (map (λ e. e.0) ss)) ≡ true → AreLines (block_lines (map stmt_lines (map (λ e. e.0) ss)) i)
block_are [] i sp h = tt
block_are (s1 ∷ ss) i sp h =
    let rest = all_true (map stmt_fits (map (λ e. e.0) ss)) in
    are_both (stmt_lines s1.0 i) (block_lines (map stmt_lines (map (λ e. e.0) ss)) i) (s1.1 (and_left (stmt_fits s1.0) rest h) i sp) (block_are ss i sp (and_right (stmt_fits s1.0) rest h))

else_are : (ss : List With) (i : List Atom) → Spaces i → all_true (map stmt_fits (map (λ e. e.0) ss)) ≡ true → AreLines (else_lines (map stmt_lines (map (λ e. e.0) ss)) i)
else_are [] i sp h = tt
else_are (s1 ∷ ss) i sp h = (
  is_line i 64 (codes "else") (space ∷ mark s.Colon ∷ []) sp head_else (omega arith) (inner_word 64 (codes "else") (space ∷ mark s.Colon ∷ []) refl (λ rest q. refl) (inner_block 64)) tt,
  block_are (s1 ∷ ss) (deeper i) (spaces_both i two sp tt) h,
)

stmt_lines_level : (x : Stmt-F With) → stmt_test (map-Stmt Stmt Bool stmt_fits (map-Stmt With Stmt (λ e. e.0) x)) ≡ true → (i : List Atom) → Spaces i → AreLines (stmt_level (map-Stmt Stmt (List Atom → List Line) stmt_lines (map-Stmt With Stmt (λ e. e.0) x)) i)
stmt_lines_level (Wire _ name ty) h i sp =
    let a = typed ty (and_right (is_word_text name) (type_fits ty) h) in (
      is_line i 64 (codes "wire") (space ∷ word name ∷ (colon ++ type_atoms ty)) sp head_wire (omega arith)
          (inner_named (codes "wire") name (colon ++ type_atoms ty) refl (and_left (is_word_text name) (type_fits ty) h) (λ rest q. refl) (inner_colon 64 (type_atoms ty) a.inner))
          (ends_both (word (codes "wire") ∷ space ∷ word name ∷ colon) (type_atoms ty) a.ends),
      tt,
    )
stmt_lines_level (Node _ name value) h i sp =
    let a = valued value (and_right (is_word_text name) (expr_fits value) h) in
    let behind = inner_space 64 (mark s.Equal ∷ space ∷ expr_atoms value) (inner_mark 64 s.Equal (space ∷ expr_atoms value) (λ rest q. refl) refl (λ d. refl) (inner_space 64 (expr_atoms value) a.inner)) in (
      is_line i 64 (codes "node") (space ∷ word name ∷ space ∷ mark s.Equal ∷ space ∷ expr_atoms value) sp head_node (omega arith)
          (inner_named (codes "node") name (space ∷ mark s.Equal ∷ space ∷ expr_atoms value) refl (and_left (is_word_text name) (expr_fits value) h) (λ rest q. refl) behind)
          (ends_both (word (codes "node") ∷ space ∷ word name ∷ space ∷ mark s.Equal ∷ space ∷ []) (expr_atoms value) a.ends),
      tt,
    )
stmt_lines_level (Reg _ name ty clock reset) h i sp =
    let rest = type_fits ty && (expr_fits clock && reset_fits reset) in
    let more = and_right (is_word_text name) rest h in
    let last = and_right (type_fits ty) (expr_fits clock && reset_fits reset) more in
    (reg_line i name ty clock reset sp (and_left (is_word_text name) rest h) (and_left (type_fits ty) (expr_fits clock && reset_fits reset) more) (and_left (expr_fits clock) (reset_fits reset) last) (and_right (expr_fits clock) (reset_fits reset) last), tt)
stmt_lines_level (Inst _ name target) h i sp =
    let of = space ∷ word (codes "of") ∷ space ∷ word target ∷ [] in
    let behind = inner_space 64 (word (codes "of") ∷ space ∷ word target ∷ []) (inner_named (codes "of") target [] refl (and_right (is_word_text name) (is_word_text target) h) (λ rest q. q) (inner_none 64)) in
    (is_line i 64 (codes "inst") (space ∷ word name ∷ of) sp head_inst (omega arith) (inner_named (codes "inst") name of refl (and_left (is_word_text name) (is_word_text target) h) (λ rest q. refl) behind) tt, tt)
stmt_lines_level (Connect _ sink value) h i sp =
    let a = valued sink (and_left (expr_fits sink) (expr_fits value) h) in
    let b = valued value (and_right (expr_fits sink) (expr_fits value) h) in
    let rest = expr_atoms sink ++ (comma ++ expr_atoms value) in
    let behind = inner_both 64 (expr_atoms sink) (comma ++ expr_atoms value) a.inner (inner_comma 64 (expr_atoms value) b.inner) (λ r q. refl) in (
      is_line i 64 (codes "connect") (space ∷ rest) sp head_connect (omega arith) (inner_word 64 (codes "connect") (space ∷ rest) refl (λ r q. refl) (inner_space 64 rest behind))
          (ends_both (word (codes "connect") ∷ space ∷ []) rest (ends_both (expr_atoms sink) (comma ++ expr_atoms value) (ends_both comma (expr_atoms value) b.ends))),
      tt,
    )
stmt_lines_level (Invalid _ sink) h i sp =
    let a = valued sink h in (
      is_line i 64 (codes "invalidate") (space ∷ expr_atoms sink) sp head_invalidate (omega arith) (inner_word 64 (codes "invalidate") (space ∷ expr_atoms sink) refl (λ r q. refl) (inner_space 64 (expr_atoms sink) a.inner))
          (ends_both (word (codes "invalidate") ∷ space ∷ []) (expr_atoms sink) a.ends),
      tt,
    )
stmt_lines_level (When _ cond taken other) h i sp =
    let taken_fit = all_true (map stmt_fits (map (λ e. e.0) taken)) in
    let other_fit = all_true (map stmt_fits (map (λ e. e.0) other)) in
    let a = valued cond (and_left (expr_fits cond) (taken_fit && other_fit) h) in
    let more = and_right (expr_fits cond) (taken_fit && other_fit) h in
    let rest = expr_atoms cond ++ (space ∷ mark s.Colon ∷ []) in
    let behind = inner_both 64 (expr_atoms cond) (space ∷ mark s.Colon ∷ []) a.inner (inner_block 64) (λ r q. refl) in (
      is_line i 64 (codes "when") (space ∷ rest) sp head_when (omega arith) (inner_word 64 (codes "when") (space ∷ rest) refl (λ r q. refl) (inner_space 64 rest behind))
          (ends_both (word (codes "when") ∷ space ∷ []) rest (ends_both (expr_atoms cond) (space ∷ mark s.Colon ∷ []) tt)),
      are_both (block_lines (map stmt_lines (map (λ e. e.0) taken)) (deeper i)) (else_lines (map stmt_lines (map (λ e. e.0) other)) i)
          (block_are taken (deeper i) (spaces_both i two sp tt) (and_left taken_fit other_fit more)) (else_are other i sp (and_right taken_fit other_fit more)),
    )
stmt_lines_level (Skip _) h i sp = (is_line i 64 (codes "skip") [] sp head_skip (omega arith) (inner_word 64 (codes "skip") [] refl (λ r q. q) (inner_none 64)) tt, tt)
stmt_lines_level (Verif _ kind args code t label) h i sp =
    let words = is_closed 34 t && no_feed t in
    let more = and_right (list_all operand_fits args) (is_number code && (words && label_fits label)) h in
    let last = and_right (is_number code) (words && label_fits label) more in
    (verif_line i kind args code t label sp (and_left (list_all operand_fits args) (is_number code && (words && label_fits label)) h) (and_left (is_number code) (words && label_fits label) more) (and_left words (label_fits label) last) (and_right words (label_fits label) last), tt)

pub stmt_are : (s1 : Stmt) → stmt_fits s1 ≡ true → (i : List Atom) → Spaces i → AreLines (stmt_lines s1 i)
stmt_are = ind-Stmt IsStmtLines (λ x y is. subst (λ z. IsStmtLines (roll-Stmt z)) is (λ h i sp.
    let z = map-Stmt With Stmt (λ e. e.0) y in
    subst AreLines (ap (λ f. f i) (sym (fold-roll-Stmt (List Atom → List Line) stmt_level z))) (stmt_lines_level y (sym (fold-roll-Stmt Bool stmt_test z) ∙ h) i sp)))

-- ---- modules

body_are : (ss : List Stmt) (i : List Atom) → Spaces i → list_all stmt_fits ss ≡ true → AreLines (block_lines (map stmt_lines ss) i)
body_are [] i sp h = tt
body_are (s1 ∷ ss) i sp h = are_both (stmt_lines s1 i) (block_lines (map stmt_lines ss) i) (stmt_are s1 (and_left (stmt_fits s1) (list_all stmt_fits ss) h) i sp) (body_are ss i sp (and_right (stmt_fits s1) (list_all stmt_fits ss) h))

direction_is_word : (b : Bool) → is_word_text (direction_word b) ≡ true
direction_is_word true = refl
direction_is_word false = refl

direction_is_head : (b : Bool) → IsHead (direction_word b)
direction_is_head true = head_output
direction_is_head false = head_input

port_is_line : (p : Port) → port_fits p ≡ true → IsLine (port_line p)
port_is_line p h =
    let a = typed p.ty (and_right (is_word_text p.name) (type_fits p.ty) h) in
    is_line four 64 (direction_word p.output) (space ∷ word p.name ∷ (colon ++ type_atoms p.ty)) tt (direction_is_head p.output) (omega arith)
    (inner_named (direction_word p.output) p.name (colon ++ type_atoms p.ty) (direction_is_word p.output) (and_left (is_word_text p.name) (type_fits p.ty) h) (λ rest q. refl) (inner_colon 64 (type_atoms p.ty) a.inner))
    (ends_both (word (direction_word p.output) ∷ space ∷ word p.name ∷ colon) (type_atoms p.ty) a.ends)

ports_are : (ps : List Port) → list_all port_fits ps ≡ true → AreLines (map port_line ps)
ports_are [] h = tt
ports_are (p ∷ ps) h = (port_is_line p (and_left (port_fits p) (list_all port_fits ps) h), ports_are ps (and_right (port_fits p) (list_all port_fits ps) h))

module_are : (m : Module) → module_fits m ≡ true → AreLines (module_lines m)
module_are m h =
    let ports = list_all port_fits m.ports in
    let body = list_all stmt_fits m.body in
    let more = and_right (is_word_text m.name) (ports && body) h in (
      is_line two 64 (codes "module") (space ∷ word m.name ∷ space ∷ mark s.Colon ∷ []) tt head_module (omega arith)
          (inner_named (codes "module") m.name (space ∷ mark s.Colon ∷ []) refl (and_left (is_word_text m.name) (ports && body) h) (λ rest q. refl) (inner_block 64)) tt,
      are_both (map port_line m.ports) (block_lines (map stmt_lines m.body) four) (ports_are m.ports (and_left ports body more)) (body_are m.body four tt (and_right ports body more)),
    )

modules_are : (ms : List Module) → list_all module_fits ms ≡ true → AreLines (flat_map module_lines ms)
modules_are [] h = tt
modules_are (m ∷ ms) h = are_both (module_lines m) (flat_map module_lines ms) (module_are m (and_left (module_fits m) (list_all module_fits ms) h)) (modules_are ms (and_right (module_fits m) (list_all module_fits ms) h))

pub circuit_are : (c : Circuit) → is_printable c ≡ true → AreLines (circuit_lines c)
unfolding is_printable circuit_lines
circuit_are c h =
    let modules = list_all module_fits c.modules in (
      is_line [] 64 (codes "circuit") (space ∷ word c.name ∷ space ∷ mark s.Colon ∷ []) tt head_circuit (omega arith)
          (inner_named (codes "circuit") c.name (space ∷ mark s.Colon ∷ []) refl (and_left (is_word_text c.name) modules h) (λ rest q. refl) (inner_block 64)) tt,
      modules_are c.modules (and_right (is_word_text c.name) modules h),
    )

pub printable_cut : (c : Circuit) → is_printable c ≡ true → items_of (printed c) ≡ printed_items c
printable_cut c h = circuit_cut c (circuit_are c h)
