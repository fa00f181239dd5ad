-- A circuit with the lines of its printed form is the same circuit but for its lines, and printing does not ask for these.
use Rattle.std.proofs.Common.{◌≡◌, ℕ, suc, List, [], ◌∷◌, ◌++◌, map, refl, sym, ap, ◌∙◌, subst}
use Rattle.std.specs.Prelude.{codes}
use Rattle.std.specs.List.{flat_map}
use Rattle.text_grammar.specs.declared.item.Symbol.TheVariants as s
use Rattle.fir_ast.specs.Printed.{printed}
use Rattle.fir_ast.specs.declared.tree.Module.{Module}
use Rattle.fir_ast.specs.declared.tree.Port.{Port}
use Rattle.fir_ast.specs.declared.tree.Circuit.{Circuit}
use Rattle.fir_ast.specs.declared.tree.Stmt.{Stmt}
use Rattle.fir_ast.specs.declared.tree.Stmt.TheOpen.{Stmt-F, Wire, Node, Reg, Inst, Connect, Invalid, When, Skip, Verif}
use Rattle.fir_ast.specs.declared.tree.Stmt.TheVariants as stmt
use Rattle.fir_ast.specs.declared.tree.Stmt.TheVariants.{rolls-Wire, rolls-Node, rolls-Reg, rolls-Inst, rolls-Connect, rolls-Invalid, rolls-When, rolls-Skip, rolls-Verif}
use Rattle.fir_ast.specs.declared.tree.Stmt.TheViews.{roll-Stmt}
use Rattle.fir_ast.specs.declared.tree.Stmt.TheFolds.{fold-roll-Stmt, ind-Stmt, map-Stmt}
use Rattle.fir_print_laws.specs.Atoms.{Atom, Line, space, word, four, port_line, block_lines, else_lines, stmt_level, stmt_lines, module_lines, circuit_lines, lines_text}
use Rattle.fir_print_laws.specs.Atoms as atoms
use Rattle.fir_print_laws.proofs.LineTexts.{circuit_is}
use Rattle.fir_round.specs.Relined.{Placed, in_turn, behind_else, placed_level, stmt_placed, port_placed, module_placed, relined, unlined_level, stmt_unlined, port_unlined, module_unlined, unlined, SameButLines}

-- ---- only lines change

turn_same : {A B : Type 0} (f : A → Placed A) (g : A → B) → ((a : A) (line : ℕ) → g (f a line).0 ≡ g a) → (xs : List A) (line : ℕ) → map g (in_turn (map f xs) line).0 ≡ map g xs
turn_same f g same [] line = refl
turn_same f g same (x ∷ xs) line = ap (λ z. z ∷ map g (in_turn (map f xs) (f x line).1).0) (same x line) ∙ ap (λ z. g x ∷ z) (turn_same f g same xs (f x line).1)

module _ (B : Type 0) (to : B → Stmt) (same : (b : B) (line : ℕ) → stmt_unlined (stmt_placed (to b) line).0 ≡ stmt_unlined (to b)) where
  turn-blocks : (bs : List B) (line : ℕ) → map stmt_unlined (in_turn (map stmt_placed (map to bs)) line).0 ≡ map stmt_unlined (map to bs)
  turn-blocks [] line = refl
  turn-blocks (b ∷ bs) line =
      ap (λ z. z ∷ map stmt_unlined (in_turn (map stmt_placed (map to bs)) (stmt_placed (to b) line).1).0) (same b line)
      ∙ ap (λ z. stmt_unlined (to b) ∷ z) (turn-blocks bs (stmt_placed (to b) line).1)

  else-blocks : (bs : List B) (line : ℕ) → map stmt_unlined (behind_else (map stmt_placed (map to bs)) line).0 ≡ map stmt_unlined (map to bs)
  else-blocks [] line = refl
  else-blocks (b ∷ bs) line = turn-blocks (b ∷ bs) (suc line)

-- the statement without its line
unlined_roll : (x : Stmt-F Stmt) → stmt_unlined (roll-Stmt x) ≡ unlined_level (map-Stmt Stmt Stmt stmt_unlined x)
unlined_roll x = fold-roll-Stmt Stmt unlined_level x

abbrev IsSame : Stmt → Type 0
IsSame x = (line : ℕ) → stmt_unlined (stmt_placed x line).0 ≡ stmt_unlined x

abbrev With : Type 0
With = (x : Stmt) × IsSame x

abbrev given : With → Stmt
given w = w.0

rolled_same : (x : Stmt-F Stmt) (y : Stmt) → y ≡ roll-Stmt x → stmt_unlined y ≡ unlined_level (map-Stmt Stmt Stmt stmt_unlined x)
rolled_same x y e = ap stmt_unlined e ∙ unlined_roll x

level_same : (x : Stmt-F With) (line : ℕ) → stmt_unlined (placed_level (map-Stmt Stmt (Placed Stmt) stmt_placed (map-Stmt With Stmt given x)) line).0 ≡ unlined_level (map-Stmt Stmt Stmt stmt_unlined (map-Stmt With Stmt given x))
level_same (Wire old name ty) line = rolled_same (Wire line name ty) _ (sym (rolls-Wire line name ty))
level_same (Node old name value) line = rolled_same (Node line name value) _ (sym (rolls-Node line name value))
level_same (Reg old name ty clock reset) line = rolled_same (Reg line name ty clock reset) _ (sym (rolls-Reg line name ty clock reset))
level_same (Inst old name target) line = rolled_same (Inst line name target) _ (sym (rolls-Inst line name target))
level_same (Connect old sink value) line = rolled_same (Connect line sink value) _ (sym (rolls-Connect line sink value))
level_same (Invalid old sink) line = rolled_same (Invalid line sink) _ (sym (rolls-Invalid line sink))
level_same (When old cond taken other) line =
    let one = in_turn (map stmt_placed (map given taken)) (suc line) in
    let two = behind_else (map stmt_placed (map given other)) one.1 in
    rolled_same (When line cond one.0 two.0) _ (sym (rolls-When line cond one.0 two.0))
    ∙ ap (λ z. stmt.When 0 cond z (map stmt_unlined two.0)) (turn-blocks With given (λ b i. b.1 i) taken (suc line))
    ∙ ap (λ z. stmt.When 0 cond (map stmt_unlined (map given taken)) z) (else-blocks With given (λ b i. b.1 i) other one.1)
level_same (Skip old) line = rolled_same (Skip line) _ (sym (rolls-Skip line))
level_same (Verif old kind args code text label) line = rolled_same (Verif line kind args code text label) _ (sym (rolls-Verif line kind args code text label))

pub stmt_same : (x : Stmt) (line : ℕ) → stmt_unlined (stmt_placed x line).0 ≡ stmt_unlined x
stmt_same = ind-Stmt IsSame (λ x y is. subst (λ z. IsSame (roll-Stmt z)) is (λ line.
    let z = map-Stmt With Stmt given y in
    ap (λ f. stmt_unlined (f line).0) (fold-roll-Stmt (Placed Stmt) placed_level z) ∙ level_same y line ∙ sym (unlined_roll z)))

module_same : (m : Module) (line : ℕ) → module_unlined (module_placed m line).0 ≡ module_unlined m
module_same m line =
    let ports = in_turn (map port_placed m.ports) (suc line) in
    let body = in_turn (map stmt_placed m.body) ports.1 in
    ap (λ (z : List Port). record { line = 0; name = m.name; ports = z; body = map stmt_unlined body.0 }) (turn_same port_placed port_unlined (λ p i. refl) m.ports (suc line))
    ∙ ap (λ (z : List Stmt). record { line = 0; name = m.name; ports = map port_unlined m.ports; body = z }) (turn_same stmt_placed stmt_unlined stmt_same m.body ports.1)

pub only_lines : (c : Circuit) → SameButLines c (relined c)
unfolding SameButLines relined
only_lines c = ap (λ (z : List Module). record { line = 0; name = c.name; modules = z }) (sym (turn_same module_placed module_unlined module_same c.modules 2))

-- ---- printing does not ask for lines

abbrev IsPrinted : Stmt → Type 0
IsPrinted x = (i : List Atom) → stmt_lines (stmt_unlined x) i ≡ stmt_lines x i

module _ (B : Type 0) (to : B → Stmt) (same : (b : B) → IsPrinted (to b)) where
  same-block : (bs : List B) (i : List Atom) → block_lines (map stmt_lines (map stmt_unlined (map to bs))) i ≡ block_lines (map stmt_lines (map to bs)) i
  same-block [] i = refl
  same-block (b ∷ bs) i = ap (λ z. z ++ block_lines (map stmt_lines (map stmt_unlined (map to bs))) i) (same b i) ∙ ap (λ z. stmt_lines (to b) i ++ z) (same-block bs i)

  same-else : (bs : List B) (i : List Atom) → else_lines (map stmt_lines (map stmt_unlined (map to bs))) i ≡ else_lines (map stmt_lines (map to bs)) i
  same-else [] i = refl
  same-else (b ∷ bs) i = ap (λ z. (i ++ (word (codes "else") ∷ space ∷ atoms.mark s.Colon ∷ [])) ∷ z) (same-block (b ∷ bs) (atoms.deeper i))

abbrev WithPrinted : Type 0
WithPrinted = (x : Stmt) × IsPrinted x

abbrev told : WithPrinted → Stmt
told w = w.0

rolled_lines : (x : Stmt-F Stmt) (y : Stmt) (i : List Atom) → y ≡ roll-Stmt x → stmt_lines y i ≡ stmt_level (map-Stmt Stmt (List Atom → List Line) stmt_lines x) i
rolled_lines x y i e = ap (λ z. stmt_lines z i) e ∙ ap (λ f. f i) (fold-roll-Stmt (List Atom → List Line) stmt_level x)

level_printed : (x : Stmt-F WithPrinted) (i : List Atom) → stmt_lines (unlined_level (map-Stmt Stmt Stmt stmt_unlined (map-Stmt WithPrinted Stmt told x))) i ≡ stmt_level (map-Stmt Stmt (List Atom → List Line) stmt_lines (map-Stmt WithPrinted Stmt told x)) i
level_printed (Wire old name ty) i = rolled_lines (Wire 0 name ty) _ i (sym (rolls-Wire 0 name ty))
level_printed (Node old name value) i = rolled_lines (Node 0 name value) _ i (sym (rolls-Node 0 name value))
level_printed (Reg old name ty clock reset) i = rolled_lines (Reg 0 name ty clock reset) _ i (sym (rolls-Reg 0 name ty clock reset))
level_printed (Inst old name target) i = rolled_lines (Inst 0 name target) _ i (sym (rolls-Inst 0 name target))
level_printed (Connect old sink value) i = rolled_lines (Connect 0 sink value) _ i (sym (rolls-Connect 0 sink value))
level_printed (Invalid old sink) i = rolled_lines (Invalid 0 sink) _ i (sym (rolls-Invalid 0 sink))
level_printed (When old cond taken other) i =
    let one = map stmt_unlined (map told taken) in
    let two = map stmt_unlined (map told other) in
    let head = i ++ (word (codes "when") ∷ space ∷ (atoms.expr_atoms cond ++ (space ∷ atoms.mark s.Colon ∷ []))) in
    rolled_lines (When 0 cond one two) _ i (sym (rolls-When 0 cond one two))
    ∙ ap (λ z. head ∷ (z ++ else_lines (map stmt_lines two) i)) (same-block WithPrinted told (λ b. b.1) taken (atoms.deeper i))
    ∙ ap (λ z. head ∷ (block_lines (map stmt_lines (map told taken)) (atoms.deeper i) ++ z)) (same-else WithPrinted told (λ b. b.1) other i)
level_printed (Skip old) i = rolled_lines (Skip 0) _ i (sym (rolls-Skip 0))
level_printed (Verif old kind args code text label) i = rolled_lines (Verif 0 kind args code text label) _ i (sym (rolls-Verif 0 kind args code text label))

pub stmt_printed : (x : Stmt) (i : List Atom) → stmt_lines (stmt_unlined x) i ≡ stmt_lines x i
stmt_printed = ind-Stmt IsPrinted (λ x y is. subst (λ z. IsPrinted (roll-Stmt z)) is (λ i.
    let z = map-Stmt WithPrinted Stmt told y in
    ap (λ t. stmt_lines t i) (unlined_roll z) ∙ level_printed y i ∙ sym (ap (λ f. f i) (fold-roll-Stmt (List Atom → List Line) stmt_level z))))

body_printed : (xs : List Stmt) (i : List Atom) → block_lines (map stmt_lines (map stmt_unlined xs)) i ≡ block_lines (map stmt_lines xs) i
body_printed [] i = refl
body_printed (x ∷ xs) i = ap (λ z. z ++ block_lines (map stmt_lines (map stmt_unlined xs)) i) (stmt_printed x i) ∙ ap (λ z. stmt_lines x i ++ z) (body_printed xs i)

ports_printed : (ps : List Port) → map port_line (map port_unlined ps) ≡ map port_line ps
ports_printed [] = refl
ports_printed (p ∷ ps) = ap (λ z. port_line p ∷ z) (ports_printed ps)

module_printed : (m : Module) → module_lines (module_unlined m) ≡ module_lines m
module_printed m =
    let head = atoms.two ++ (word (codes "module") ∷ space ∷ word m.name ∷ space ∷ atoms.mark s.Colon ∷ []) in
    ap (λ z. head ∷ (z ++ block_lines (map stmt_lines (map stmt_unlined m.body)) four)) (ports_printed m.ports) ∙ ap (λ z. head ∷ (map port_line m.ports ++ z)) (body_printed m.body four)

modules_printed : (ms : List Module) → flat_map module_lines (map module_unlined ms) ≡ flat_map module_lines ms
modules_printed [] = refl
modules_printed (m ∷ ms) = ap (λ z. z ++ flat_map module_lines (map module_unlined ms)) (module_printed m) ∙ ap (λ z. module_lines m ++ z) (modules_printed ms)

unlined_lines : (c : Circuit) → circuit_lines (unlined c) ≡ circuit_lines c
unfolding circuit_lines
unlined_lines c = ap (λ z. (word (codes "circuit") ∷ space ∷ word c.name ∷ space ∷ atoms.mark s.Colon ∷ []) ∷ z) (modules_printed c.modules)

unlined_printed : (c : Circuit) → printed (unlined c) ≡ printed c
unlined_printed c = circuit_is (unlined c) ∙ ap lines_text (unlined_lines c) ∙ sym (circuit_is c)

pub same_printed : (c d : Circuit) → SameButLines c d → printed c ≡ printed d
unfolding SameButLines
same_printed c d e = sym (unlined_printed c) ∙ ap printed e ∙ unlined_printed d

pub relined_printed : (c : Circuit) → printed (relined c) ≡ printed c
relined_printed c = sym (same_printed c (relined c) (only_lines c))
