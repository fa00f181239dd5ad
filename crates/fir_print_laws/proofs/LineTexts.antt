-- The lines of a printed circuit have the printed form as their text.
use Rattle.std.proofs.Common.{◌≡◌, ℕ, Bool, true, false, List, [], ◌∷◌, ◌++◌, refl, sym, ap, ◌∙◌, append_assoc, append-nil, map, take, drop, subst}
use Rattle.std.specs.Prelude.{Option, Some, None, codes}
use Rattle.std.specs.List.{flat_map}
use Rattle.std.proofs.lemmas.List.Concat.{flat_map-append}
use Rattle.tb_base.specs.Joined.{joined}
use Rattle.text_grammar.specs.declared.item.Symbol.TheVariants as s
use Rattle.text_grammar.specs.declared.item.Token.TheVariants as token
use Rattle.fir_ast.specs.declared.tree.Ty.{Ty}
use Rattle.fir_ast.specs.declared.tree.Expr.{Expr}
use Rattle.fir_ast.specs.declared.tree.ResetPair.{ResetPair}
use Rattle.fir_ast.specs.declared.tree.VerifKind.{VerifKind}
use Rattle.fir_ast.specs.declared.tree.VerifKind.TheVariants.{Printf, Stop, Assert, Assume, Cover}
use Rattle.fir_ast.specs.declared.tree.Stmt.{Stmt}
use Rattle.fir_ast.specs.declared.tree.Stmt.TheOpen.{Stmt-F, Wire, Node, Reg, Inst, Connect, Invalid, When, Skip, Verif}
use Rattle.fir_ast.specs.declared.tree.Stmt.TheViews.{roll-Stmt}
use Rattle.fir_ast.specs.declared.tree.Stmt.TheFolds.{fold-roll-Stmt, ind-Stmt, map-Stmt}
use Rattle.fir_ast.specs.declared.tree.Port.{Port}
use Rattle.fir_ast.specs.declared.tree.Module.{Module}
use Rattle.fir_ast.specs.declared.tree.Circuit.{Circuit}
use Rattle.fir_ast.specs.Printed as printed
use Rattle.fir_print_laws.specs.Atoms as atoms
use Rattle.fir_print_laws.specs.Atoms.{Atom, Line, text, atom_text, word, number, mark, space, comma, colon, listed, type_atoms, expr_atoms, reg_atoms, message_atoms, label_atoms, operand_atoms, verif_atoms, lines_text, deeper, two, four, block_lines, else_lines, stmt_lines, port_line, module_lines, circuit_lines, direction_word}
use Rattle.fir_print_laws.proofs.Texts.{text-append, then, alone, listed_text, map-both, expr_is}
use Rattle.fir_print_laws.proofs.TypeTexts.{type_is}

-- a line and its line feed
line_first : (i ws : List Atom) (words : List ℕ) → words ≡ text ws → printed.line_text (text i) words ≡ text (i ++ ws) ++ 10 ∷ []
line_first i ws words p = ap (λ t. text i ++ (t ++ 10 ∷ [])) p ∙ sym (append_assoc (text i) (text ws) (10 ∷ [])) ∙ ap (λ t. t ++ 10 ∷ []) (sym (text-append i ws))

line_is : (i ws : List Atom) (words : List ℕ) → words ≡ text ws → printed.line_text (text i) words ≡ lines_text ((i ++ ws) ∷ [])
line_is i ws words p = line_first i ws words p ∙ sym (append-nil (text (i ++ ws) ++ 10 ∷ []))

lines-append : (xs ys : List Line) → lines_text (xs ++ ys) ≡ lines_text xs ++ lines_text ys
lines-append xs ys = flat_map-append (λ line. text line ++ 10 ∷ []) xs ys

-- ---- the words of lines

reg_is : (name : List ℕ) (ty : Ty) (clock : Expr) (reset : Option ResetPair) → printed.reg_words name ty clock reset ≡ text (reg_atoms name ty clock reset)
reg_is name ty clock None = ap (λ t. codes "reg " ++ (name ++ (codes " : " ++ t))) (then (type_atoms ty) (comma ++ expr_atoms clock) _ _ (type_is ty) (ap (λ t. codes ", " ++ t) (expr_is clock)))
reg_is name ty clock (Some r) =
    let init = ap (λ t. codes ", " ++ t) (expr_is r.init) in
    let signal = ap (λ t. codes ", " ++ t) (then (expr_atoms r.signal) (comma ++ expr_atoms r.init) _ _ (expr_is r.signal) init) in
    let by = ap (λ t. codes ", " ++ t) (then (expr_atoms clock) (comma ++ (expr_atoms r.signal ++ (comma ++ expr_atoms r.init))) _ _ (expr_is clock) signal) in
    ap (λ t. codes "regreset " ++ (name ++ (codes " : " ++ t))) (then (type_atoms ty) (comma ++ (expr_atoms clock ++ (comma ++ (expr_atoms r.signal ++ (comma ++ expr_atoms r.init))))) _ _ (type_is ty) by)

connect_is : (sink value : Expr) → printed.connect_words sink value ≡ text (word (codes "connect") ∷ space ∷ (expr_atoms sink ++ (comma ++ expr_atoms value)))
connect_is sink value = ap (λ t. codes "connect " ++ t) (then (expr_atoms sink) (comma ++ expr_atoms value) _ _ (expr_is sink) (ap (λ t. codes ", " ++ t) (expr_is value)))

when_is : (cond : Expr) → printed.when_words cond ≡ text (word (codes "when") ∷ space ∷ (expr_atoms cond ++ (space ∷ mark s.Colon ∷ [])))
when_is cond = ap (λ t. codes "when " ++ t) (then (expr_atoms cond) (space ∷ mark s.Colon ∷ []) _ (codes " :") (expr_is cond) refl)

inst_is : (name target : List ℕ) → printed.inst_words name target ≡ text (word (codes "inst") ∷ space ∷ word name ∷ space ∷ word (codes "of") ∷ space ∷ word target ∷ [])
inst_is name target = ap (λ t. codes "inst " ++ (name ++ (codes " of " ++ t))) (alone (word target))

exprs_are : (es : List Expr) → map printed.expr_text es ≡ map text (map expr_atoms es)
exprs_are [] = refl
exprs_are (e ∷ es) = ap (λ t. t ∷ map printed.expr_text es) (expr_is e) ∙ ap (λ z. text (expr_atoms e) ∷ z) (exprs_are es)

message_is : (kind : VerifKind) (code : ℕ) (t : List ℕ) → printed.message_text kind code t ≡ text (message_atoms kind code t)
message_is Printf code t = alone (Some (token.Text t))
message_is Stop code t = alone (number code)
message_is Assert code t = alone (Some (token.Text t))
message_is Assume code t = alone (Some (token.Text t))
message_is Cover code t = alone (Some (token.Text t))

label_is : (label : Option (List ℕ)) → printed.label_text label ≡ text (label_atoms label)
label_is None = refl
label_is (Some name) = ap (λ t. codes " : " ++ t) (alone (word name))

operands_are : (kind : VerifKind) (args : List Expr) (code : ℕ) (t : List ℕ) → printed.verif_operands kind args code t ≡ map text (operand_atoms kind args code t)
operands_are kind args code t =
    let front = take (printed.operands_before kind) args in
    let back = drop (printed.operands_before kind) args in
    ap (λ z. z ++ printed.message_text kind code t ∷ map printed.expr_text back) (exprs_are front)
    ∙ ap (λ z. map text (map expr_atoms front) ++ z ∷ map printed.expr_text back) (message_is kind code t)
    ∙ ap (λ z. map text (map expr_atoms front) ++ text (message_atoms kind code t) ∷ z) (exprs_are back)
    ∙ sym (map-both (map expr_atoms front) (message_atoms kind code t ∷ map expr_atoms back))

verif_is : (kind : VerifKind) (args : List Expr) (code : ℕ) (t : List ℕ) (label : Option (List ℕ)) → printed.verif_words kind args code t label ≡ text (verif_atoms kind args code t label)
verif_is kind args code t label =
    let list = ap (joined (codes ", ")) (operands_are kind args code t) ∙ listed_text (operand_atoms kind args code t) in
    ap (λ z. printed.kind_name kind ++ (codes "(" ++ z)) (then (listed (operand_atoms kind args code t)) (mark s.CloseParen ∷ label_atoms label) _ _ list (ap (λ z. codes ")" ++ z) (label_is label)))

-- ---- statements

abbrev IsStmtText : Stmt → Type 0
IsStmtText s1 = (i : List Atom) → printed.stmt_text s1 (text i) ≡ lines_text (stmt_lines s1 i)

abbrev With : Type 0
With = (s1 : Stmt) × IsStmtText s1

block_is : (ss : List With) (i : List Atom) → printed.block_text (map printed.stmt_text (map (λ e. e.0) ss)) (text i) ≡ lines_text (block_lines (map stmt_lines (map (λ e. e.0) ss)) i)
block_is [] i = refl
block_is (s1 ∷ ss) i =
    ap (λ z. z ++ printed.block_text (map printed.stmt_text (map (λ e. e.0) ss)) (text i)) (s1.1 i)
    ∙ ap (λ z. lines_text (stmt_lines s1.0 i) ++ z) (block_is ss i)
    ∙ sym (lines-append (stmt_lines s1.0 i) (block_lines (map stmt_lines (map (λ e. e.0) ss)) i))

deeper_block : (ss : List With) (i : List Atom) → printed.block_text (map printed.stmt_text (map (λ e. e.0) ss)) (printed.deeper (text i)) ≡ lines_text (block_lines (map stmt_lines (map (λ e. e.0) ss)) (deeper i))
deeper_block ss i = ap (λ z. printed.block_text (map printed.stmt_text (map (λ e. e.0) ss)) z) (sym (text-append i two)) ∙ block_is ss (deeper i)

else_is : (ss : List With) (i : List Atom) → printed.else_text (map printed.stmt_text (map (λ e. e.0) ss)) (text i) ≡ lines_text (else_lines (map stmt_lines (map (λ e. e.0) ss)) i)
else_is [] i = refl
else_is (s1 ∷ ss) i =
    let ws = word (codes "else") ∷ space ∷ mark s.Colon ∷ [] in
    ap (λ z. z ++ printed.block_text (map printed.stmt_text (map (λ e. e.0) (s1 ∷ ss))) (printed.deeper (text i))) (line_first i ws (codes "else :") refl)
    ∙ ap (λ z. (text (i ++ ws) ++ 10 ∷ []) ++ z) (deeper_block (s1 ∷ ss) i)

stmt_level_is : (x : Stmt-F With) (i : List Atom) → printed.stmt_level (map-Stmt Stmt (List ℕ → List ℕ) printed.stmt_text (map-Stmt With Stmt (λ e. e.0) x)) (text i)
    ≡ lines_text (atoms.stmt_level (map-Stmt Stmt (List Atom → List Line) stmt_lines (map-Stmt With Stmt (λ e. e.0) x)) i)
stmt_level_is (Wire _ name ty) i = line_is i _ _ (ap (λ t. codes "wire " ++ (name ++ (codes " : " ++ t))) (type_is ty))
stmt_level_is (Node _ name value) i = line_is i _ _ (ap (λ t. codes "node " ++ (name ++ (codes " = " ++ t))) (expr_is value))
stmt_level_is (Reg _ name ty clock reset) i = line_is i _ _ (reg_is name ty clock reset)
stmt_level_is (Inst _ name target) i = line_is i _ _ (inst_is name target)
stmt_level_is (Connect _ sink value) i = line_is i _ _ (connect_is sink value)
stmt_level_is (Invalid _ sink) i = line_is i _ _ (ap (λ t. codes "invalidate " ++ t) (expr_is sink))
stmt_level_is (When _ cond taken other) i =
    let ws = word (codes "when") ∷ space ∷ (expr_atoms cond ++ (space ∷ mark s.Colon ∷ [])) in
    let yes_lines = block_lines (map stmt_lines (map (λ e. e.0) taken)) (deeper i) in
    let no_lines = else_lines (map stmt_lines (map (λ e. e.0) other)) i in
    ap (λ z. z ++ (printed.block_text (map printed.stmt_text (map (λ e. e.0) taken)) (printed.deeper (text i)) ++ printed.else_text (map printed.stmt_text (map (λ e. e.0) other)) (text i))) (line_first i ws (printed.when_words cond) (when_is cond))
    ∙ ap (λ z. (text (i ++ ws) ++ 10 ∷ []) ++ (z ++ printed.else_text (map printed.stmt_text (map (λ e. e.0) other)) (text i))) (deeper_block taken i)
    ∙ ap (λ z. (text (i ++ ws) ++ 10 ∷ []) ++ (lines_text yes_lines ++ z)) (else_is other i)
    ∙ ap (λ z. (text (i ++ ws) ++ 10 ∷ []) ++ z) (sym (lines-append yes_lines no_lines))
stmt_level_is (Skip _) i = line_is i _ _ refl
stmt_level_is (Verif _ kind args code t label) i = line_is i _ _ (verif_is kind args code t label)

pub stmt_is : (s1 : Stmt) (i : List Atom) → printed.stmt_text s1 (text i) ≡ lines_text (stmt_lines s1 i)
stmt_is = ind-Stmt IsStmtText (λ x y is. subst (λ z. IsStmtText (roll-Stmt z)) is (λ i.
    ap (λ f. f (text i)) (fold-roll-Stmt (List ℕ → List ℕ) printed.stmt_level (map-Stmt With Stmt (λ e. e.0) y)) ∙ stmt_level_is y i
    ∙ ap (λ f. lines_text (f i)) (sym (fold-roll-Stmt (List Atom → List Line) atoms.stmt_level (map-Stmt With Stmt (λ e. e.0) y)))))

-- ---- modules

stmts_are : (ss : List Stmt) (i : List Atom) → printed.block_text (map printed.stmt_text ss) (text i) ≡ lines_text (block_lines (map stmt_lines ss) i)
stmts_are [] i = refl
stmts_are (s1 ∷ ss) i =
    ap (λ z. z ++ printed.block_text (map printed.stmt_text ss) (text i)) (stmt_is s1 i)
    ∙ ap (λ z. lines_text (stmt_lines s1 i) ++ z) (stmts_are ss i)
    ∙ sym (lines-append (stmt_lines s1 i) (block_lines (map stmt_lines ss) i))

direction_is : (b : Bool) (rest : List ℕ) → printed.direction_name b ++ rest ≡ direction_word b ++ (codes " " ++ rest)
direction_is true rest = refl
direction_is false rest = refl

port_is : (p : Port) → printed.port_text p ≡ text (port_line p) ++ 10 ∷ []
port_is p =
    line_first four (word (direction_word p.output) ∷ space ∷ word p.name ∷ (colon ++ type_atoms p.ty)) _
    (ap (λ t. printed.direction_name p.output ++ (p.name ++ (codes " : " ++ t))) (type_is p.ty) ∙ direction_is p.output (p.name ++ (codes " : " ++ text (type_atoms p.ty))))

ports_are : (ps : List Port) → flat_map printed.port_text ps ≡ lines_text (map port_line ps)
ports_are [] = refl
ports_are (p ∷ ps) = ap (λ z. z ++ flat_map printed.port_text ps) (port_is p) ∙ ap (λ z. (text (port_line p) ++ 10 ∷ []) ++ z) (ports_are ps)

module_is : (m : Module) → printed.module_text m ≡ lines_text (module_lines m)
module_is m =
    let ws = word (codes "module") ∷ space ∷ word m.name ∷ space ∷ mark s.Colon ∷ [] in
    let head = line_first two ws (codes "module " ++ (m.name ++ codes " :")) refl in
    ap (λ z. z ++ (flat_map printed.port_text m.ports ++ printed.block_text (map printed.stmt_text m.body) (codes "    "))) head
    ∙ ap (λ z. (text (two ++ ws) ++ 10 ∷ []) ++ (z ++ printed.block_text (map printed.stmt_text m.body) (codes "    "))) (ports_are m.ports)
    ∙ ap (λ z. (text (two ++ ws) ++ 10 ∷ []) ++ (lines_text (map port_line m.ports) ++ z)) (stmts_are m.body four)
    ∙ ap (λ z. (text (two ++ ws) ++ 10 ∷ []) ++ z) (sym (lines-append (map port_line m.ports) (block_lines (map stmt_lines m.body) four)))

modules_are : (ms : List Module) → flat_map printed.module_text ms ≡ lines_text (flat_map module_lines ms)
modules_are [] = refl
modules_are (m ∷ ms) =
    ap (λ z. z ++ flat_map printed.module_text ms) (module_is m) ∙ ap (λ z. lines_text (module_lines m) ++ z) (modules_are ms)
    ∙ sym (lines-append (module_lines m) (flat_map module_lines ms))

pub circuit_is : (c : Circuit) → printed.printed c ≡ lines_text (circuit_lines c)
unfolding printed.printed circuit_lines
circuit_is c =
    let ws = word (codes "circuit") ∷ space ∷ word c.name ∷ space ∷ mark s.Colon ∷ [] in
    ap (λ z. z ++ flat_map printed.module_text c.modules) (line_first [] ws (codes "circuit " ++ (c.name ++ codes " :")) refl)
    ∙ ap (λ z. (text ws ++ 10 ∷ []) ++ z) (modules_are c.modules)
