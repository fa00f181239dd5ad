-- Modules: what is spelled somewhere is spelled again as it is printed.
use Rattle.std.proofs.Common.{◌≡◌, ℕ, suc, ◌+◌, Bool, true, false, List, [], ◌∷◌, ◌++◌, length, map, refl, sym, ap, append-nil, subst, inl, inr}
use Rattle.std.specs.Prelude.{◌&&◌, Option, Some, None, codes}
use Rattle.std.specs.List.{flat_map, list_all}
use Rattle.std.specs.Str.{bytes_eq}
use Rattle.text_grammar.specs.declared.item.Item.{Item}
use Rattle.text_grammar.specs.declared.item.Symbol.TheVariants as s
use Rattle.text_grammar.specs.declared.item.Token.TheVariants as token
use Rattle.text_grammar.specs.Part.{Part, first, cons, one_by, both, after, either, pick, nothing, SpellsMany, many, blames_head, starts}
use Rattle.text_grammar.specs.Terminals.{deeper, column_of, is_symbol, is_name, keyword, name}
use Rattle.fir_lex.specs.Lines.{placed}
use Rattle.fir_ast.specs.Limits.{Limits}
use Rattle.fir_ast.specs.RowGrammar.{sink_marked, invalidated, port, module_head}
use Rattle.fir_ast.specs.Lines.{begins_line, is_else, is_line, line_word, leading_word, first_word, indented, SpellsFrom, many_from}
use Rattle.fir_ast.specs.CircuitGrammar as grammar
use Rattle.fir_ast.specs.CircuitGrammar.{Rows, Nested, Body, else_row, else_rows, and_else_rows, statement, port_only, rows_only, no_port, is_output, is_direction, direction_is, direction_named, direction, line_from, line_headed, first_line, still_ports, with_line, all_lines, lines_behind, lines, body, is_module, public_word, module_word, make_module, titled_module, one_module, modules}
use Rattle.fir_ast.specs.declared.tree.Expr.TheVariants as e
use Rattle.fir_ast.specs.declared.tree.Port.{Port}
use Rattle.fir_ast.specs.declared.tree.Module.{Module}
use Rattle.fir_ast.specs.declared.tree.Stmt.{Stmt}
use Rattle.fir_print_laws.specs.Atoms as atoms
use Rattle.fir_print_laws.specs.Atoms.{Atom, space, word, four, direction_word, port_line, block_lines, stmt_lines, module_lines}
use Rattle.fir_print_laws.specs.Standing.{is_word_text}
use Rattle.fir_print_laws.specs.Printable.{stmt_fits, port_fits, module_fits}
use Rattle.fir_round.specs.Relined.{in_turn, stmt_placed, port_placed, module_placed}
use Rattle.fir_round.specs.Again.{PortAgain, ExprsAgain, RowsAgain, row_items}
use Rattle.fir_round.proofs.Spaces.{spaces, Printed, printed_none, printed_both, at_behind, end_of, printed_line}
use Rattle.fir_round.proofs.Keeps.{Keeps, Any, Each, each_both, both_keeps, after_keeps, either_keeps, pick_keeps, nothing_keeps, blames_keeps, indented_keeps, many_keeps, from_keeps, keyword_keeps, line_word_keeps, name_keeps, leading_keeps}
use Rattle.fir_round.proofs.Blocks.{StmtAgain, RowsHold, NestedKeeps, each_row, pick_false, line_is, leads, else_row_keeps, else_rows_keeps, and_else_keeps, statement_keeps}

-- ---- what is read

abbrev PortHolds : Limits → Port → Type 0
PortHolds l p = (output : Bool) × (name : List ℕ) × PortAgain l output name p

abbrev SomeHolds : Limits → Option Port → Type 0
SomeHolds l None = Unit {0}
SomeHolds l (Some p) = PortHolds l p

-- a port or none, and statements
abbrev LineHolds : Limits → Nested → grammar.Line → Type 0
LineHolds l nested v = SomeHolds l v.0 × Each (StmtAgain l nested) v.1

abbrev BodyHolds : Limits → Nested → Body → Type 0
BodyHolds l nested b = Each (PortHolds l) b.0 × Each (StmtAgain l nested) b.1

lines_hold : (l : Limits) (nested : Nested) (vs : List grammar.Line) → Each (LineHolds l nested) vs → BodyHolds l nested (all_lines vs)
lines_hold l nested [] h = (tt, tt)
lines_hold l nested ((Some p, more) ∷ vs) h = let b = lines_hold l nested vs h.1 in ((h.0.0, b.0), each_both (StmtAgain l nested) more (all_lines vs).1 h.0.1 b.1)
lines_hold l nested ((None, more) ∷ vs) h = let b = lines_hold l nested vs h.1 in (b.0, each_both (StmtAgain l nested) more (all_lines vs).1 h.0.1 b.1)

module _ (l : Limits) (es : ExprsAgain) (rs : RowsAgain) (nested : Nested) (g : NestedKeeps l nested) where
  no_port_keeps : (p : Part Rows) → Keeps (RowsHold l nested) p → Keeps (LineHolds l nested) (no_port p)
  unfolding no_port
  no_port_keeps p h = both_keeps _ Any _ _ p (nothing tt) h (nothing_keeps Any tt tt) (λ r u k q. (tt, (k.0, each_row l nested r.1 k.1)))

  port_line_keeps : (c line : ℕ) (w n : List ℕ) → is_word_text n ≡ true → Keeps (LineHolds l nested) (grammar.port_line l c line w n)
  unfolding grammar.port_line
  port_line_keeps c line w n h =
      both_keeps (PortHolds l) _ _ port_only (port l line (is_output w) n) (else_rows l c) (record { keeps = λ ts p sound sp. (let r = rs.ports l line (is_output w) n ts p h sound sp in ((is_output w, n, r.0), r.1)) })
      (else_rows_keeps l es rs c) (λ p more k q. (k, each_row l nested more q))

  direction_is_keeps : (c line : ℕ) (w n : List ℕ) → is_word_text w ≡ true → is_word_text n ≡ true → Keeps (LineHolds l nested) (direction_is l c line w n)
  unfolding direction_is
  direction_is_keeps c line w n h k =
      either_keeps _ (is_symbol s.Colon) _ _ (port_line_keeps c line w n k)
      (no_port_keeps (and_else_rows l c (invalidated line (e.Ident w))) (and_else_keeps l es rs nested c (invalidated line (e.Ident w)) (record { keeps = rs.invalid l line w h })))

  direction_keeps : (c line : ℕ) (w : List ℕ) → is_word_text w ≡ true → Keeps (LineHolds l nested) (direction l c line w)
  unfolding direction direction_named
  direction_keeps c line w h =
      either_keeps _ is_name _ _
      (after_keeps _ _ name (direction_named l c line w) name_keeps (λ n k. pick_keeps _ (bytes_eq n (codes "is")) _ _ (λ q. direction_is_keeps c line w n h k) (λ q. port_line_keeps c line w n k)))
      (no_port_keeps (and_else_rows l c (sink_marked l line w)) (and_else_keeps l es rs nested c (sink_marked l line w) (record { keeps = rs.marked l line w h })))

  line_keeps : (c : ℕ) (ports : Bool) → Keeps (LineHolds l nested) (grammar.line l nested c ports)
  unfolding grammar.line line_headed line_from
  line_keeps c ports =
      blames_keeps _ _ (after_keeps _ _ (first_word c) (λ h. line_from l nested ports c h.0 h.1) (leading_keeps (is_line c))
      (λ h q. pick_keeps _ (ports && is_direction h.1) _ _ (λ k. direction_keeps c h.0 h.1 q) (λ k. no_port_keeps (statement l nested c h.0 h.1) (statement_keeps l es rs nested g c h.0 h.1 q))))

  first_line_keeps : (c : ℕ) → Keeps (LineHolds l nested) (first_line l nested c)
  unfolding first_line
  first_line_keeps c = either_keeps _ (is_else c) _ _ (no_port_keeps (and_else_rows l c (else_row l c)) (and_else_keeps l es rs nested c (else_row l c) (else_row_keeps l es rs c))) (line_keeps c true)

  lines_behind_keeps : (c : ℕ) (v : grammar.Line) → LineHolds l nested v → Keeps (BodyHolds l nested) (lines_behind l nested c v)
  unfolding lines_behind
  lines_behind_keeps c v h =
      both_keeps (Each (LineHolds l nested)) Any _ _ _ (nothing tt) (from_keeps _ (grammar.line l nested c) still_ports (line_keeps c) (is_line c) (still_ports true v)) (nothing_keeps Any tt tt)
      (λ more u k q. lines_hold l nested (v ∷ more) (h, k))

  lines_keeps : (c : ℕ) → Keeps (BodyHolds l nested) (lines l nested c)
  unfolding lines
  lines_keeps c = after_keeps _ _ (first_line l nested c) (lines_behind l nested c) (first_line_keeps c) (lines_behind_keeps c)

  pub body_keeps : (c : ℕ) → Keeps (BodyHolds l nested) (body l nested c)
  unfolding body
  body_keeps c = either_keeps _ (deeper c) _ _ (indented_keeps _ c (lines l nested) lines_keeps) (nothing_keeps _ ([], []) (tt, tt))

-- ---- the body of a module, where it is printed

abbrev Begun : List Item → List grammar.Line → Type 0
Begun items [] = Unit {0}
Begun items (v ∷ more) = (starts (deeper 3) items ≡ true) × (column_of items ≡ 5)

-- lines of a module, and the body that they spell
record LinesPlaced (l : Limits) (nested : Nested) (state : Bool) (line : ℕ) (all : List atoms.Line) (next : ℕ) (b : Body) : Type 0 where
  items : List Item
  values : List grammar.Line
  printed : Printed line all items next
  begun : Begun items values
  spelled : SpellsFrom (λ z. (grammar.line l nested 5 z).spells) still_ports state items values
  whole : all_lines values ≡ b

no_and : (state b : Bool) → b ≡ false → (state && b) ≡ false
no_and true b h = h
no_and false b h = refl

statement_spelled : (l : Limits) (nested : Nested) (state : Bool) (c i : ℕ) (w : List ℕ) (ts : List Item) (x : Stmt) → is_direction w ≡ false → (statement l nested c i w).spells ts (x, []) → (line_from l nested state c i w).spells ts (None, x ∷ [])
unfolding line_from no_port both nothing
statement_spelled l nested state c i w ts x d h = pick_false (state && is_direction w) _ _ ts (None, x ∷ []) (no_and state (is_direction w) d) (ts, [], (x, []), tt, sym (append-nil ts), h, (refl, refl), refl)

line_spelled : (l : Limits) (nested : Nested) (state : Bool) (c i : ℕ) (w : List ℕ) (ts : List Item) (v : grammar.Line) → bytes_eq w (codes "else") ≡ false → (line_from l nested state c i w).spells ts v
    → (grammar.line l nested c state).spells (placed i c (token.Word w) ∷ ts) v
unfolding grammar.line line_headed blames_head after leading_word one_by
line_spelled l nested state c i w ts v e h = (placed i c (token.Word w) ∷ [], ts, (i, w), refl, (placed i c (token.Word w), refl, leads (is_line c (placed i c (token.Word w))) i w (line_is c i w e)), h)

stmts_placed : (l : Limits) (nested : Nested) (xs : List Stmt) → Each (StmtAgain l nested) xs → (state : Bool) (i : ℕ)
    → LinesPlaced l nested state i (block_lines (map stmt_lines xs) four) (in_turn (map stmt_placed xs) i).1 ([], (in_turn (map stmt_placed xs) i).0)
stmts_placed l nested [] h state i = record { items = []; values = []; printed = printed_none i; begun = tt; spelled = refl; whole = refl }
stmts_placed l nested (x ∷ xs) h state i =
    let a = h.0.again i 4 in
    let new = (stmt_placed x i).0 in
    let mid = (stmt_placed x i).1 in
    let v : grammar.Line = (None, new ∷ []) in
    let b = stmts_placed l nested xs h.1 (still_ports state v) mid in
    let front = placed i 5 (token.Word h.0.first) ∷ a.rest in
    record {
      items = front ++ b.items;
      values = v ∷ b.values;
      printed = printed_both i mid (in_turn (map stmt_placed xs) mid).1 (stmt_lines x four) (block_lines (map stmt_lines xs) four) front b.items a.printed b.printed;
      begun = (refl, refl);
      spelled = (front, b.items, refl, line_spelled l nested state 5 i h.0.first a.rest v h.0.no_else (statement_spelled l nested state 5 i h.0.first a.rest new h.0.no_port a.spelled), b.spelled);
      whole = ap (λ (z : Body). with_line v z) b.whole;
    }

port_line_spelled : (l : Limits) (c i : ℕ) (w n : List ℕ) (ts : List Item) (p : Port) → (port l i (is_output w) n).spells ts p → (grammar.port_line l c i w n).spells ts (Some p, [])
unfolding grammar.port_line else_rows both many
port_line_spelled l c i w n ts p h = (ts, [], p, [], sym (append-nil ts), h, refl, refl)

named_spelled : (l : Limits) (c i : ℕ) (w n : List ℕ) (ts : List Item) (v : grammar.Line) (b : Bool) → (grammar.port_line l c i w n).spells ts v → (pick b (direction_is l c i w n) (grammar.port_line l c i w n)).spells ts v
unfolding direction_is either
named_spelled l c i w n ts v true h = inl h
named_spelled l c i w n ts v false h = h

direction_spelled : (l : Limits) (c i at : ℕ) (w n : List ℕ) (ts : List Item) (p : Port) → (port l i (is_output w) n).spells ts p → (direction l c i w).spells (placed i at (token.Word n) ∷ ts) (Some p, [])
unfolding direction direction_named either after name one_by
direction_spelled l c i at w n ts p h =
    inl (placed i at (token.Word n) ∷ [], ts, n, refl, (placed i at (token.Word n), refl, refl), named_spelled l c i w n ts (Some p, []) (bytes_eq n (codes "is")) (port_line_spelled l c i w n ts p h))

port_spelled : (l : Limits) (nested : Nested) (c i at : ℕ) (output : Bool) (n : List ℕ) (ts : List Item) (p : Port) → (port l i output n).spells ts p
    → (grammar.line l nested c true).spells (placed i c (token.Word (direction_word output)) ∷ placed i at (token.Word n) ∷ ts) (Some p, [])
unfolding line_from
port_spelled l nested c i at true n ts p h = line_spelled l nested true c i (codes "output") (placed i at (token.Word n) ∷ ts) (Some p, []) refl (direction_spelled l c i at (codes "output") n ts p h)
port_spelled l nested c i at false n ts p h = line_spelled l nested true c i (codes "input") (placed i at (token.Word n) ∷ ts) (Some p, []) refl (direction_spelled l c i at (codes "input") n ts p h)

abbrev body_placed : List Port → List Stmt → ℕ → Body × ℕ
body_placed ps xs i = (((in_turn (map port_placed ps) i).0, (in_turn (map stmt_placed xs) (in_turn (map port_placed ps) i).1).0), (in_turn (map stmt_placed xs) (in_turn (map port_placed ps) i).1).1)

ports_placed : (l : Limits) (nested : Nested) (ps : List Port) → Each (PortHolds l) ps → (xs : List Stmt) → Each (StmtAgain l nested) xs → (i : ℕ)
    → LinesPlaced l nested true i (map port_line ps ++ block_lines (map stmt_lines xs) four) (body_placed ps xs i).1 (body_placed ps xs i).0
ports_placed l nested [] h xs k i = stmts_placed l nested xs k true i
ports_placed l nested (p ∷ ps) h xs k i =
    let output = h.0.0 in
    let n = h.0.1 in
    let a = h.0.2 in
    let w = direction_word output in
    let new = (port_placed p i).0 in
    let v : grammar.Line = (Some new, []) in
    let b = ports_placed l nested ps h.1 xs k (suc i) in
    let rest = space ∷ word n ∷ a.behind in
    let at = at_behind 4 w in
    let end = end_of 4 w rest in
    let front = placed i 5 (token.Word w) ∷ row_items i at rest end in
    let more = map port_line ps ++ block_lines (map stmt_lines xs) four in
    record {
      items = front ++ b.items;
      values = v ∷ b.values;
      printed = printed_both i (suc i) (body_placed ps xs (suc i)).1 (port_line p ∷ []) more front b.items
          (subst (λ (z : atoms.Line). Printed i (z ∷ []) front (suc i)) (sym a.printed) (printed_line i 4 w rest)) b.printed;
      begun = (refl, refl);
      spelled = (front, b.items, refl, port_spelled l nested 5 i (at + 1) output n _ new (a.again i (at + 1 + length n) end), b.spelled);
      whole = ap (λ (z : Body). with_line v z) b.whole;
    }

lines_spelled : (l : Limits) (nested : Nested) (xs ys : List Item) (v : grammar.Line) (more : List grammar.Line) (b : Body) → (grammar.line l nested 5 true).spells xs v → SpellsFrom (λ z. (grammar.line l nested 5 z).spells) still_ports (still_ports true v) ys more → all_lines (v ∷ more) ≡ b → (lines l nested 5).spells (xs ++ ys) b
unfolding lines first_line lines_behind after either both nothing many_from
lines_spelled l nested xs ys v more b h k e = (xs, ys, v, refl, inr h, (ys, [], more, tt, sym (append-nil ys), k, (refl, refl), sym e))

body_spelled : (l : Limits) (nested : Nested) (items : List Item) (values : List grammar.Line) (b : Body) → Begun items values → SpellsFrom (λ z. (grammar.line l nested 5 z).spells) still_ports true items values → all_lines values ≡ b → (body l nested 3).spells items b
unfolding body either nothing indented
body_spelled l nested items [] b g sp e = inr (sp, sym e)
body_spelled l nested items (v ∷ more) b g sp e = inl (5, g.0, g.1, subst (λ (z : List Item). (lines l nested 5).spells z b) (sym sp.2) (lines_spelled l nested sp.0 sp.1 v more b sp.3 sp.4 e))

-- ---- modules

-- a name, the colon and the line's end
pub record TitleAgain (p : Part (List ℕ)) (name : List ℕ) : Type 0 where
  pub sound : is_word_text name ≡ true
  pub again : (line column end : ℕ) → p.spells (row_items line column (word name ∷ space ∷ atoms.mark s.Colon ∷ []) end) name

pub record ModulePlaced (l : Limits) (nested : Nested) (line : ℕ) (m : Module) : Type 0 where
  pub rest : List Item
  pub printed : Printed line (module_lines m) (placed line 3 (token.Word (codes "module")) ∷ rest) (module_placed m line).1
  pub spelled : (one_module l nested 3).spells (placed line 3 (token.Word (codes "module")) ∷ rest) (module_placed m line).0

-- a module is spelled again as it is printed
pub record ModuleAgain (l : Limits) (nested : Nested) (m : Module) : Type 0 where
  pub fits : module_fits m ≡ true
  pub again : (line : ℕ) → ModulePlaced l nested line m

ports_fit : (l : Limits) (ps : List Port) → Each (PortHolds l) ps → list_all port_fits ps ≡ true
ports_fit l [] h = refl
ports_fit l (p ∷ ps) h = let one = h.0.2.fits in let more = ports_fit l ps h.1 in rw (one, more) refl

stmts_fit : (l : Limits) (nested : Nested) (xs : List Stmt) → Each (StmtAgain l nested) xs → list_all stmt_fits xs ≡ true
stmts_fit l nested [] h = refl
stmts_fit l nested (x ∷ xs) h = let one = h.0.fits in let more = stmts_fit l nested xs h.1 in rw (one, more) refl

titled_spelled : (l : Limits) (nested : Nested) (line : ℕ) (w : List ℕ) (ts more : List Item) (b : Body) → module_head.spells ts w → (body l nested 3).spells more b → (titled_module l nested 3 line).spells (ts ++ more) (make_module line w b)
unfolding titled_module both
titled_spelled l nested line w ts more b h k = (ts, more, w, b, refl, h, k, refl)

module_spelled : (l : Limits) (nested : Nested) (line : ℕ) (ts : List Item) (m : Module) → (titled_module l nested 3 line).spells ts m → (one_module l nested 3).spells (placed line 3 (token.Word (codes "module")) ∷ ts) m
unfolding one_module module_word line_word after either one_by
module_spelled l nested line ts m h = (placed line 3 (token.Word (codes "module")) ∷ [], ts, line, refl, inl (placed line 3 (token.Word (codes "module")), refl, refl), h)

module_again : (l : Limits) (nested : Nested) (old : ℕ) (w : List ℕ) (b : Body) → TitleAgain module_head w → BodyHolds l nested b → ModuleAgain l nested (make_module old w b)
module_again l nested old w b h k = record {
  fits = (let a = h.sound in let c = ports_fit l b.0 k.0 in let d = stmts_fit l nested b.1 k.1 in rw (a, c, d) refl);
  again = λ line.
      let rest = space ∷ word w ∷ space ∷ atoms.mark s.Colon ∷ [] in
      let at = at_behind 2 (codes "module") in
      let end = end_of 2 (codes "module") rest in
      let front = row_items line at rest end in
      let inside = ports_placed l nested b.0 k.0 b.1 k.1 (suc line) in
      let new = body_placed b.0 b.1 (suc line) in
      record {
        rest = front ++ inside.items;
        printed = printed_both line (suc line) new.1 ((spaces 2 ++ (word (codes "module") ∷ rest)) ∷ []) (map port_line b.0 ++ block_lines (map stmt_lines b.1) four)
            (placed line 3 (token.Word (codes "module")) ∷ front) inside.items (printed_line line 2 (codes "module") rest) inside.printed;
        spelled = module_spelled l nested line (front ++ inside.items) _
            (titled_spelled l nested line w front inside.items new.0 (h.again line (at + 1) end) (body_spelled l nested inside.items inside.values new.0 inside.begun inside.spelled inside.whole));
      };
}

-- at least one module
abbrev pub ModulesHold : Limits → Nested → List Module → Type 0
ModulesHold l nested [] = ⊥
ModulesHold l nested (m ∷ more) = ModuleAgain l nested m × Each (ModuleAgain l nested) more

module _ (l : Limits) (es : ExprsAgain) (rs : RowsAgain) (nested : Nested) (g : NestedKeeps l nested) where
  module_word_keeps : (c : ℕ) → Keeps Any (module_word c)
  unfolding module_word public_word
  module_word_keeps c =
      either_keeps _ (begins_line c (codes "module")) _ _ (line_word_keeps c (codes "module"))
      (both_keeps Any Any Any first (line_word c (codes "public")) (keyword (codes "module")) (line_word_keeps c (codes "public")) (keyword_keeps (codes "module")) (λ a b k q. tt))

  head_keeps : Keeps (TitleAgain module_head) module_head
  head_keeps = record { keeps = λ ts w sound sp. (let r = rs.module_heads ts w sound sp in (record { sound = r.sound; again = r.again }, r.level)) }

  one_module_keeps : (c : ℕ) → Keeps (ModuleAgain l nested) (one_module l nested c)
  unfolding one_module titled_module
  one_module_keeps c =
      after_keeps Any _ (module_word c) (titled_module l nested c) (module_word_keeps c)
      (λ line u. both_keeps _ _ _ (make_module line) module_head (body l nested c) head_keeps (body_keeps l es rs nested g c) (λ w b k q. module_again l nested line w b k q))

  pub modules_keeps : (c : ℕ) → Keeps (ModulesHold l nested) (modules l nested c)
  unfolding modules
  modules_keeps c = both_keeps _ _ _ cons (one_module l nested c) _ (one_module_keeps c) (many_keeps _ (one_module l nested c) (one_module_keeps c) (is_module c)) (λ m more k q. (k, q))

-- ---- modules where they are printed

record ManyPlaced (l : Limits) (nested : Nested) (line : ℕ) (ms : List Module) : Type 0 where
  items : List Item
  printed : Printed line (flat_map module_lines ms) items (in_turn (map module_placed ms) line).1
  spelled : SpellsMany (one_module l nested 3).spells items (in_turn (map module_placed ms) line).0

many_placed : (l : Limits) (nested : Nested) (ms : List Module) → Each (ModuleAgain l nested) ms → (line : ℕ) → ManyPlaced l nested line ms
many_placed l nested [] h line = record { items = []; printed = printed_none line; spelled = refl }
many_placed l nested (m ∷ ms) h line =
    let a = h.0.again line in
    let mid = (module_placed m line).1 in
    let b = many_placed l nested ms h.1 mid in
    let front = placed line 3 (token.Word (codes "module")) ∷ a.rest in
    record {
      items = front ++ b.items;
      printed = printed_both line mid (in_turn (map module_placed ms) mid).1 (module_lines m) (flat_map module_lines ms) front b.items a.printed b.printed;
      spelled = (front, b.items, refl, a.spelled, b.spelled);
    }

-- the modules of a circuit, whose head stands in the first column
pub record ModulesPlaced (l : Limits) (nested : Nested) (line : ℕ) (ms : List Module) : Type 0 where
  pub items : List Item
  pub printed : Printed line (flat_map module_lines ms) items (in_turn (map module_placed ms) line).1
  pub spelled : (indented 1 (modules l nested)).spells items (in_turn (map module_placed ms) line).0

modules_spelled : (l : Limits) (nested : Nested) (c : ℕ) (ts more : List Item) (m : Module) (ms : List Module) → (one_module l nested c).spells ts m → SpellsMany (one_module l nested c).spells more ms → (modules l nested c).spells (ts ++ more) (m ∷ ms)
unfolding modules both many
modules_spelled l nested c ts more m ms h k = (ts, more, m, ms, refl, h, k, refl)

inside_spelled : (l : Limits) (nested : Nested) (line : ℕ) (w : List ℕ) (ts : List Item) (ms : List Module) → (modules l nested 3).spells (placed line 3 (token.Word w) ∷ ts) ms → (indented 1 (modules l nested)).spells (placed line 3 (token.Word w) ∷ ts) ms
unfolding indented
inside_spelled l nested line w ts ms h = (3, refl, refl, h)

pub modules_placed : (l : Limits) (nested : Nested) (m : Module) (ms : List Module) → ModuleAgain l nested m → Each (ModuleAgain l nested) ms → (line : ℕ) → ModulesPlaced l nested line (m ∷ ms)
modules_placed l nested m ms h k line =
    let a = h.again line in
    let mid = (module_placed m line).1 in
    let b = many_placed l nested ms k mid in
    let front = placed line 3 (token.Word (codes "module")) ∷ a.rest in
    record {
      items = front ++ b.items;
      printed = printed_both line mid (in_turn (map module_placed ms) mid).1 (module_lines m) (flat_map module_lines ms) front b.items a.printed b.printed;
      spelled = inside_spelled l nested line (codes "module") (a.rest ++ b.items) _ (modules_spelled l nested 3 front b.items _ _ a.spelled b.spelled);
    }
