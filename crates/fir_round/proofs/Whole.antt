-- A circuit is spelled again as it is printed.
use Rattle.std.proofs.Common.{◌≡◌, ℕ, ◌+◌, true, List, [], ◌∷◌, ◌++◌, map, refl, sym, subst, inr}
use Rattle.std.specs.Prelude.{codes}
use Rattle.std.specs.List.{flat_map, list_all}
use Rattle.text_grammar.specs.declared.item.Item.{Item}
use Rattle.text_grammar.specs.declared.item.Symbol.TheVariants as s
use Rattle.text_grammar.specs.declared.item.Token.TheVariants as token
use Rattle.text_grammar.specs.Part.{Part, second, one_by, both, after, either, nothing, blames_head}
use Rattle.text_grammar.specs.Terminals.{is_word, keyword, mark, number}
use Rattle.fir_lex.specs.Lines.{placed}
use Rattle.fir_lex.specs.Lex.{items_of}
use Rattle.fir_ast.specs.Limits.{Limits, limits}
use Rattle.fir_ast.specs.RowGrammar.{circuit_head}
use Rattle.fir_ast.specs.Lines.{indented}
use Rattle.fir_ast.specs.Printed.{printed}
use Rattle.fir_ast.specs.Circuits.{spells_circuit}
use Rattle.fir_ast.specs.CircuitGrammar.{Nested, nested_within, block_limit, modules, version, preamble, circuit_word, make_circuit, titled, circuit_text, circuit_within, circuit}
use Rattle.fir_ast.specs.declared.tree.Module.{Module}
use Rattle.fir_ast.specs.declared.tree.Circuit.{Circuit}
use Rattle.fir_print_laws.specs.Atoms as atoms
use Rattle.fir_print_laws.specs.Atoms.{space, word, module_lines, circuit_lines}
use Rattle.fir_print_laws.specs.Items.{printed_items}
use Rattle.fir_print_laws.specs.Printable.{module_fits, is_printable}
use Rattle.fir_print_laws.proofs.LinePhrases.{printable_cut}
use Rattle.fir_round.specs.Relined.{in_turn, module_placed, relined, SameButLines}
use Rattle.fir_round.specs.Sound.{Sound}
use Rattle.fir_round.specs.Again.{ItemsAreSound, ExprsAgain, RowsAgain, row_items}
use Rattle.fir_round.proofs.Spaces.{printed_both, at_behind, end_of, printed_line, printed_all}
use Rattle.fir_round.proofs.Keeps.{Keeps, Any, Each, both_keeps, after_keeps, either_keeps, nothing_keeps, blames_keeps, indented_keeps, dot_keeps, end_keeps, keyword_keeps, number_keeps, circuit_word_keeps}
use Rattle.fir_round.proofs.Blocks.{NestedKeeps, nested_keeps}
use Rattle.fir_round.proofs.Unlined.{only_lines}
use Rattle.fir_round.proofs.Modules.{TitleAgain, ModuleAgain, ModulesHold, modules_keeps, modules_placed}

-- ---- what is read

abbrev CircuitHolds : Limits → Nested → Circuit → Type 0
CircuitHolds l nested c = TitleAgain circuit_head c.name × ModulesHold l nested c.modules

version_keeps : Keeps Any version
unfolding version
version_keeps =
    twice (keyword (codes "FIRRTL")) _ (keyword_keeps (codes "FIRRTL")) (twice (keyword (codes "version")) _ (keyword_keeps (codes "version"))
    (twice number _ number_keeps (twice (mark s.Dot) _ dot_keeps (twice number _ number_keeps (twice (mark s.Dot) _ dot_keeps (twice number _ number_keeps end_keeps))))))
  where
    twice : {A B : Type 0} (p : Part A) (q : Part B) → Keeps Any p → Keeps Any q → Keeps Any (both second p q)
    twice p q h k = both_keeps Any Any Any second p q h k (λ a b x y. tt)

preamble_keeps : Keeps Any preamble
unfolding preamble
preamble_keeps = either_keeps Any (is_word (codes "FIRRTL")) version (nothing tt) version_keeps (nothing_keeps Any tt tt)

module _ (l : Limits) (es : ExprsAgain) (rs : RowsAgain) (nested : Nested) (g : NestedKeeps l nested) where
  head_keeps : Keeps (TitleAgain circuit_head) circuit_head
  head_keeps = record { keeps = λ ts w sound sp. (let r = rs.circuit_heads ts w sound sp in (record { sound = r.sound; again = r.again }, r.level)) }

  titled_keeps : (p : ℕ × ℕ) → Keeps (CircuitHolds l nested) (titled l nested p)
  unfolding titled
  titled_keeps p = both_keeps _ _ _ (make_circuit p.0) circuit_head _ head_keeps (indented_keeps _ p.1 (modules l nested) (modules_keeps l es rs nested g)) (λ w all k q. (k, q))

  text_keeps : Keeps (CircuitHolds l nested) (circuit_text l nested)
  unfolding circuit_text
  text_keeps = both_keeps Any _ _ second preamble _ preamble_keeps (after_keeps Any _ circuit_word (titled l nested) circuit_word_keeps (λ p u. titled_keeps p)) (λ a c k q. q)

within_keeps : (l : Limits) → ExprsAgain → RowsAgain → (depth : ℕ) → Keeps (CircuitHolds l (nested_within l depth)) (circuit_within l depth)
unfolding circuit_within
within_keeps l es rs depth = blames_keeps _ _ (text_keeps l es rs (nested_within l depth) (nested_keeps l es rs depth))

-- ---- the circuit where it is printed

all_fit : (l : Limits) (nested : Nested) (ms : List Module) → Each (ModuleAgain l nested) ms → list_all module_fits ms ≡ true
all_fit l nested [] h = refl
all_fit l nested (m ∷ ms) h = let one = h.0.fits in let more = all_fit l nested ms h.1 in rw (one, more) refl

titled_spelled : (l : Limits) (nested : Nested) (line : ℕ) (w : List ℕ) (ts more : List Item) (ms : List Module) → circuit_head.spells ts w → (indented 1 (modules l nested)).spells more ms → (titled l nested (line, 1)).spells (ts ++ more) (make_circuit line w ms)
unfolding titled both
titled_spelled l nested line w ts more ms h k = (ts, more, w, ms, refl, h, k, refl)

circuit_spelled : (l : Limits) (nested : Nested) (line : ℕ) (ts : List Item) (c : Circuit) → (titled l nested (line, 1)).spells ts c → (circuit_text l nested).spells (placed line 1 (token.Word (codes "circuit")) ∷ ts) c
unfolding circuit_text preamble circuit_word both after either nothing one_by
circuit_spelled l nested line ts c h =
    let x = placed line 1 (token.Word (codes "circuit")) in
    ([], x ∷ ts, tt, c, refl, inr (refl, refl), (x ∷ [], ts, (line, 1), refl, (x, refl, refl), h), refl)

record CircuitAgain (p : Part Circuit) (c : Circuit) : Type 0 where
  fits : is_printable c ≡ true
  spelled : p.spells (printed_items c) (relined c)

circuit_again : (l : Limits) (nested : Nested) (old : ℕ) (w : List ℕ) (m : Module) (ms : List Module) → TitleAgain circuit_head w → ModuleAgain l nested m → Each (ModuleAgain l nested) ms → CircuitAgain (circuit_text l nested) (make_circuit old w (m ∷ ms))
unfolding is_printable printed_items circuit_lines relined
circuit_again l nested old w m ms h hm hs =
    let rest = space ∷ word w ∷ space ∷ atoms.mark s.Colon ∷ [] in
    let at = at_behind 0 (codes "circuit") in
    let end = end_of 0 (codes "circuit") rest in
    let front = row_items 1 at rest end in
    let start = placed 1 1 (token.Word (codes "circuit")) in
    let all = modules_placed l nested m ms hm hs 2 in
    let next = (in_turn (map module_placed (m ∷ ms)) 2).1 in
    let lines = (word (codes "circuit") ∷ rest) ∷ flat_map module_lines (m ∷ ms) in
    let whole = printed_all 1 next lines (start ∷ (front ++ all.items))
    (printed_both 1 2 next ((word (codes "circuit") ∷ rest) ∷ []) (flat_map module_lines (m ∷ ms)) (start ∷ front) all.items (printed_line 1 0 (codes "circuit") rest) all.printed) in
    record {
      fits = (let a = h.sound in let b = hm.fits in let d = all_fit l nested ms hs in rw (a, b, d) refl);
      spelled = subst (λ (z : List Item). (circuit_text l nested).spells z (relined (make_circuit old w (m ∷ ms)))) (sym whole)
          (circuit_spelled l nested 1 (front ++ all.items) _ (titled_spelled l nested 1 w front all.items _ (h.again 1 (at + 1) end) all.spelled));
    }

held_again : (l : Limits) (nested : Nested) (old : ℕ) (w : List ℕ) (ms : List Module) → TitleAgain circuit_head w → ModulesHold l nested ms → CircuitAgain (circuit_text l nested) (make_circuit old w ms)
held_again l nested old w [] h k = absurd k
held_again l nested old w (m ∷ ms) h k = circuit_again l nested old w m ms h k.0 k.1

within_again : (l : Limits) → ExprsAgain → RowsAgain → (depth : ℕ) (ts : List Item) (c : Circuit) → Sound 0 ts → (circuit_within l depth).spells ts c → CircuitAgain (circuit_within l depth) c
unfolding circuit_within blames_head
within_again l es rs depth ts c sound sp =
    let r = (within_keeps l es rs depth).keeps ts c sound sp in
    let a = held_again l (nested_within l depth) c.line c.name c.modules r.0.0 r.0.1 in
    record { fits = a.fits; spelled = a.spelled }

-- where a text spells a circuit, its printed form can be cut into its items, and these spell it with its new lines
pub circuits_again : ItemsAreSound → ExprsAgain → RowsAgain → (text : List ℕ) (c : Circuit) → spells_circuit text c → (is_printable c ≡ true) × circuit.spells (printed_items c) (relined c)
unfolding spells_circuit
circuits_again items es rs text c h = let a = within_again limits es rs block_limit (items_of text) c (items text) h in (a.fits, a.spelled)

pub printed_again : ItemsAreSound → ExprsAgain → RowsAgain → (text : List ℕ) (c : Circuit) → spells_circuit text c → spells_circuit (printed c) (relined c)
unfolding spells_circuit
printed_again items es rs text c h =
    let a = circuits_again items es rs text c h in
    subst (λ (z : List Item). circuit.spells z (relined c)) (sym (printable_cut c a.0)) a.1

-- the whole round: what a text spells is printed and read as the same circuit but for its lines
pub round : ItemsAreSound → ExprsAgain → RowsAgain → (text : List ℕ) (c : Circuit) → spells_circuit text c → spells_circuit (printed c) (relined c) × SameButLines c (relined c)
round items es rs text c h = (printed_again items es rs text c h, only_lines c)
