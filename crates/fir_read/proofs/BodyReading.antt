-- How the code's steps read the block of a module, modules and the circuit.
use Rattle.std.proofs.Common.{◌≡◌, ℕ, zero, suc, ◌+◌, ◌-◌, ◌<◌, ◌≤◌, Bool, true, false, ◌||◌, List, [], ◌∷◌, ◌++◌, length, drop, Some, None, Ok, Err, refl, sym, ap, ◌∙◌, append_assoc, arith}
use Rattle.std.specs.Prelude.{codes}
use Rattle.std.proofs.lemmas.List.{append-nil}
use Rattle.text_grammar.specs.declared.item.Item.{Item}
use Rattle.text_grammar.specs.declared.fault.ReadError.{ReadError}
use Rattle.text_grammar.specs.declared.fault.ReadError.TheVariants as errors
use Rattle.text_grammar.specs.Part.{Outcome, Part, ◌>>=◌, Fails, kind_at, starts, one_by, both, nothing, many, many_at, cons, carried}
use Rattle.text_grammar.specs.Terminals.{is_word, column_of, line_of}
use Rattle.text_grammar.proofs.Reading.{gathered}
use Rattle.fir_ast.specs.Limits.{limits}
use Rattle.fir_ast.specs.Lines.{is_line, from_at, many_from}
use Rattle.fir_ast.specs.CircuitGrammar.{Nested, Line, Body, line, still_ports, all_lines, lines_behind, circuit_word}
use Rattle.fir_ast.specs.declared.tree.Port.{Port}
use Rattle.fir_ast.specs.declared.tree.Stmt.{Stmt}
use Rattle.fir_read.specs.Steps.{port_list}

pub either_begins : (f g : Item → Bool) (ts : List Item) → (starts f ts || starts g ts) ≡ starts (λ x. f x || g x) ts
either_begins f g [] = refl
either_begins f g (x ∷ rest) = refl

pub circuit_taken : (ts : List Item) → starts (is_word (codes "circuit")) ts ≡ true → circuit_word.reads ts ≡ Ok ((line_of ts, column_of ts), drop 1 ts)
unfolding circuit_word one_by
circuit_taken [] h = absurd cc
circuit_taken (x ∷ rest) h = rw h refl

pub circuit_refused : (ts : List Item) → starts (is_word (codes "circuit")) ts ≡ false → circuit_word.reads ts ≡ Err (kind_at ts, length ts)
unfolding circuit_word one_by
circuit_refused [] h = refl
circuit_refused (x ∷ rest) h = rw h refl

-- ---- a loop that gathers a list behind a first value

pub begun_with : {A : Type 0} (b : Item → Bool) (P : Part A) (front : List A) (a : A) (n : ℕ) (ts : List Item) → front ≡ a ∷ [] → n ≡ length ts → gathered front (many_at b P.reads (n - 0) ts) ≡ carried cons a ((many b P).reads ts)
unfolding many
begun_with b P front a n ts is e = let k : n - 0 ≡ length ts = omega arith in rw (k, is) (go a (many_at b P.reads (length ts) ts))
  where
    go : {A : Type 0} (a : A) (o : Outcome (List A)) → gathered (a ∷ []) o ≡ carried cons a o
    go a (Ok x) = refl
    go a (Err f) = refl

-- ---- the loop over the lines of a module's block

unfoldable pub add_lines : Body → List Line → Body
add_lines s more = (s.0 ++ (all_lines more).0, s.1 ++ (all_lines more).1)

pair_is : {A B : Type 0} (a a' : A) (b b' : B) → a ≡ a' → b ≡ b' → ◌≡◌ {A = A × B} (a, b) (a', b')
pair_is {A = A} {B = B} a a' b b' h k = ap (λ (x : A). let p : A × B = (x, b) in p) h ∙ ap (λ (y : B). let p : A × B = (a', y) in p) k

added : (s : Body) (v : Line) (more : List Line) → add_lines (s.0 ++ port_list v.0, s.1 ++ v.1) more ≡ add_lines s (v ∷ more)
unfolding add_lines
added s (Some p, rows) more = pair_is _ _ _ _ (append_assoc s.0 (p ∷ []) (all_lines more).0) (append_assoc s.1 rows (all_lines more).1)
added s (None, rows) more = pair_is _ _ _ _ (append_assoc s.0 [] (all_lines more).0) (append_assoc s.1 rows (all_lines more).1)

first_added : (v : Line) (more : List Line) → add_lines (port_list v.0, v.1) more ≡ all_lines (v ∷ more)
unfolding add_lines
first_added (Some p, rows) more = refl
first_added (None, rows) more = refl

body_none : (s : Body) → add_lines s [] ≡ s
unfolding add_lines
body_none s = pair_is _ _ _ _ (append-nil s.0) (append-nil s.1)

module _ (n : Nested) (c : ℕ) where
  lines_at : ℕ → Bool → List Item → Outcome (List Line)
  lines_at k f ts = from_at (is_line c) (λ z. (line limits n c z).reads) still_ports k f ts

  begun_same : (v : Line) (o : Outcome (List Line)) → carried add_lines (port_list v.0, v.1) o ≡ (o >>= λ x. Ok (all_lines (v ∷ x.0), x.1))
  begun_same v (Ok x) = ap (λ (z : Body). Ok (z, x.1)) (first_added v x.0)
  begun_same v (Err f) = refl

  pub body_begun : (ports : List Port) (rows : List Stmt) (v : Line) (f : Bool) (k : ℕ) (ts : List Item) → ports ≡ port_list v.0 → rows ≡ v.1 → f ≡ still_ports true v → k ≡ length ts
      → carried add_lines (ports, rows) (from_at (is_line c) (λ z. (line limits n c z).reads) still_ports (k - 0) f ts) ≡ (lines_behind limits n c v).reads ts
  unfolding lines_behind both nothing many_from lines_at
  body_begun ports rows v f k ts p r e len = let q : k - 0 ≡ length ts = omega arith in rw (q, p, r, e) (begun_same v (lines_at (length ts) (still_ports true v) ts))

  turn_is : (k i : ℕ) (f : Bool) (ts : List Item) → i < k → starts (is_line c) ts ≡ true
      → from_at (is_line c) (λ z. (line limits n c z).reads) still_ports (k - i) f ts ≡ ((line limits n c f).reads ts >>= λ x. from_at (is_line c) (λ z. (line limits n c z).reads) still_ports (k - (i + 1)) (still_ports f x.0) x.1 >>= λ y. Ok (x.0 ∷ y.0, y.1))
  unfolding from_at
  turn_is k i f ts lt h = let q : k - i ≡ suc (k - (i + 1)) = omega arith in rw (q, h) refl

  regroup : (s s' : Body) (v : Line) → s' ≡ (s.0 ++ port_list v.0, s.1 ++ v.1) → (o : Outcome (List Line)) → carried add_lines s (o >>= λ y. Ok (v ∷ y.0, y.1)) ≡ carried add_lines s' o
  regroup s s' v h (Ok x) = rw h (ap (λ (z : Body). Ok (z, x.1)) (sym (added s v x.0)))
  regroup s s' v h (Err f) = refl

  pub body_goes_on : (ports ports' : List Port) (rows rows' : List Stmt) (v : Line) (f f' : Bool) (k i : ℕ) (ts after : List Item) (total : Outcome Body) → ports' ≡ ports ++ port_list v.0 → rows' ≡ rows ++ v.1 → f' ≡ still_ports f v → i < k → starts (is_line c) ts ≡ true
      → (line limits n c f).reads ts ≡ Ok (v, after) → carried add_lines (ports, rows) (from_at (is_line c) (λ z. (line limits n c z).reads) still_ports (k - i) f ts) ≡ total
      → carried add_lines (ports', rows') (from_at (is_line c) (λ z. (line limits n c z).reads) still_ports (k - (i + 1)) f' after) ≡ total
  unfolding lines_at
  body_goes_on ports ports' rows rows' v f f' k i ts after total p r q lt h e so_far =
      let one : carried add_lines (ports, rows) (lines_at (k - i) f ts) ≡ carried add_lines (ports', rows') (lines_at (k - (i + 1)) f' after) = rw (turn_is k i f ts lt h, e, q) (regroup (ports, rows) (ports', rows') v (pair_is ports' (ports ++ port_list v.0) rows' (rows ++ v.1) p r) (lines_at (k - (i + 1)) (still_ports f v) after)) in
      sym one ∙ so_far

  pub body_breaks_off : (s : Body) (f : Bool) (k i : ℕ) (ts : List Item) (total : Outcome Body) (e : ReadError) → i < k → starts (is_line c) ts ≡ true → Fails ((line limits n c f).reads ts) e
      → carried add_lines s (from_at (is_line c) (λ z. (line limits n c z).reads) still_ports (k - i) f ts) ≡ total → Fails total e
  unfolding lines_at
  body_breaks_off s f k i ts total errors.Memory lt h e so_far = tt
  body_breaks_off s f k i ts total (errors.At kind left) lt h e so_far =
      let one : carried add_lines s (lines_at (k - i) f ts) ≡ Err (kind, left) = rw (turn_is k i f ts lt h, e) refl in
      sym so_far ∙ one

  stops_at : (k : ℕ) (f : Bool) (ts : List Item) → starts (is_line c) ts ≡ false → from_at (is_line c) (λ z. (line limits n c z).reads) still_ports k f ts ≡ Ok ([], ts)
  unfolding from_at
  stops_at zero f ts h = refl
  stops_at (suc k) f ts h = rw h refl

  pub body_done : (s : Body) (f : Bool) (k : ℕ) (ts : List Item) (total : Outcome Body) → starts (is_line c) ts ≡ false → carried add_lines s (from_at (is_line c) (λ z. (line limits n c z).reads) still_ports k f ts) ≡ total → total ≡ Ok (s, ts)
  unfolding lines_at
  body_done s f k ts total h so_far =
      let one : carried add_lines s (lines_at k f ts) ≡ Ok (add_lines s [], ts) = rw (stops_at k f ts h) refl in
      sym so_far ∙ one ∙ ap (λ (z : Body). Ok (z, ts)) (body_none s)

  out_of_turns : (k : ℕ) (f : Bool) (ts : List Item) → k ≡ 0 → from_at (is_line c) (λ z. (line limits n c z).reads) still_ports k f ts ≡ Ok ([], ts)
  unfolding from_at
  out_of_turns k f ts h = rw h refl

  pub body_out : (s : Body) (f : Bool) (k i : ℕ) (ts : List Item) (total : Outcome Body) → k ≤ i → carried add_lines s (from_at (is_line c) (λ z. (line limits n c z).reads) still_ports (k - i) f ts) ≡ total → total ≡ Ok (s, ts)
  unfolding lines_at
  body_out s f k i ts total le so_far =
      let one : carried add_lines s (lines_at (k - i) f ts) ≡ Ok (add_lines s [], ts) = rw (out_of_turns (k - i) f ts (omega arith)) refl in
      sym so_far ∙ one ∙ ap (λ (z : Body). Ok (z, ts)) (body_none s)
