-- The laws of circuits, over those of rows and expressions.
use Rattle.std.proofs.Common.{◌≡◌, ℕ, ◌<◌, ◌≤◌, false, ◌||◌, refl, arith, inl, inr}
use Rattle.text_grammar.specs.declared.item.Item.{Item}
use Rattle.text_grammar.specs.declared.item.Symbol.TheVariants as symbol
use Rattle.text_grammar.specs.Terminals.{is_symbol}
use Rattle.text_grammar.proofs.Laws.{All, Narrow, Same, Wider, IsRead, read_narrower}
use Rattle.text_grammar.proofs.Completions.{Fronted}
use Rattle.fir_ast.specs.Limits.{Limits}
use Rattle.fir_ast.specs.ExprGrammar.{is_suffix, expr, expr_from, reference_from}
use Rattle.fir_ast.specs.TypeGrammar.{ty}
use Rattle.fir_ast.specs.CircuitGrammar.{circuit_within}
use Rattle.fir_expr.proofs.ExprLaws as x
use Rattle.fir_expr.proofs.ExprLaws.{ty_more, reference_more, expr_more}
use Rattle.fir_rows.proofs.RowSteps as s
use Rattle.fir_rows.proofs.RowReads as r
use Rattle.fir_rows.proofs.RowFits as f
use Rattle.fir_rows.proofs.AfterReference.{goes_on, symbol_ends, bare_or_suffix}
use Rattle.fir_read.proofs.RowLaws.{Steps, Reading, Fronts}
use Rattle.fir_read.proofs.WordLaws.{or_none, or_false, fewer}
use Rattle.fir_read.proofs.Steps.{same_circuit, wider_circuit}
use Rattle.fir_read.proofs.Readings.{anything, within_read}
use Rattle.fir_read.proofs.CircuitFits.{circuit_fronted}

-- limits that are wider than these
pub record Below (l m : Limits) : Type 0 where
  pub brackets : l.brackets < m.brackets
  pub suffixes : l.suffixes < m.suffixes

same_rows : (l : Limits) → Steps All ⊥ l l
same_rows l =
    let e = x.same_steps l in
    let b = s.row_steps l l e in
    record {
      deep = λ h. h;
      expr = e.expr;
      expr_from = e.expr_from;
      reference_from = e.reference_from;
      sink_row = b.sink_row;
      sink_marked = b.sink_marked;
      row_from = b.row_from;
      port = b.port;
      invalidated = b.invalidated;
      module_head = b.module_head;
      circuit_head = b.circuit_head;
    }

wider_rows : (l m : Limits) → Below l m → Steps Narrow (Unit {0}) l m
wider_rows l m lt =
    let e = x.wider_steps l m lt.brackets lt.suffixes in
    let b = s.row_steps l m e in
    record {
      deep = λ h. absurd cc;
      expr = e.expr;
      expr_from = e.expr_from;
      reference_from = e.reference_from;
      sink_row = b.sink_row;
      sink_marked = b.sink_marked;
      row_from = b.row_from;
      port = b.port;
      invalidated = b.invalidated;
      module_head = b.module_head;
      circuit_head = b.circuit_head;
    }

-- what goes on with no expression goes on with no reference and no type
expr_ends : (y : Item) → goes_on y ≡ false → expr_more y ≡ false
expr_ends y h = h

reference_ends : (y : Item) → goes_on y ≡ false → reference_more y ≡ false
reference_ends y h = (or_false (is_suffix y || is_symbol symbol.LeftArrow y) (is_symbol symbol.OpenParen y || is_symbol symbol.Less y) h).0

type_ends : (y : Item) → goes_on y ≡ false → ty_more y ≡ false
type_ends y h =
    let p = or_false (is_suffix y || is_symbol symbol.LeftArrow y) (is_symbol symbol.OpenParen y || is_symbol symbol.Less y) h in
    let q = or_false (is_suffix y) (is_symbol symbol.LeftArrow y) p.0 in
    let b = or_false (is_symbol symbol.Dot y) (is_symbol symbol.OpenBracket y) q.0 in
    let n = or_false (is_symbol symbol.OpenParen y) (is_symbol symbol.Less y) p.1 in
    or_none (is_symbol symbol.OpenBracket y) (is_symbol symbol.Less y) b.1 n.1

reading : (l : Limits) → Reading l
reading l =
    let e : r.ExprReads l = record {
      ty = read_narrower (ty l) ty_more goes_on (fewer ty_more goes_on type_ends) (x.ty_read l);
      expr = read_narrower (expr l) expr_more goes_on (fewer expr_more goes_on expr_ends) (x.expr_read l);
      reference_from = λ w. read_narrower (reference_from l w) reference_more goes_on (fewer reference_more goes_on reference_ends) (x.reference_from_read l w);
    } in
    let b = r.row_reads l e in
    record {
      more = goes_on;
      colon_ends = symbol_ends symbol.Colon refl refl refl refl refl;
      expr = e.expr;
      expr_from = λ w. read_narrower (expr_from l w) expr_more goes_on (fewer expr_more goes_on expr_ends) (x.expr_from_read l w);
      reference_from = e.reference_from;
      suffixes = λ w ts a h. elim (bare_or_suffix l w ts a h) [ inl i ↦ inr i | inr i ↦ inl i.0 ];
      sink_row = b.sink_row;
      sink_no_colon = b.sink_no_colon;
      sink_no_when = b.sink_no_when;
      sink_marked = b.sink_marked;
      marked_no_name = b.marked_no_name;
      row_from = b.row_from;
      port = b.port;
      port_begins = b.port_begins;
      invalidated = b.invalidated;
      invalidated_begins = b.invalidated_begins;
      module_head = b.module_head;
      circuit_head = b.circuit_head;
    }

fronts : (l m : Limits) → l.brackets ≤ m.brackets → l.suffixes ≤ m.suffixes → Fronts l m
fronts l m h k =
    let e = x.fronts l m h k in
    let v = x.lives m in
    let ex : f.ExprFits l m = record {
      ty = record { fronted = e.ty; lives = v.ty };
      expr = record { fronted = e.expr; lives = v.expr };
      reference_from = λ w. record { fronted = e.reference_from w; lives = v.reference_from w };
    } in
    record { expr = ex.expr; expr_from = λ w. record { fronted = e.expr_from w; lives = v.expr_from w }; reference_from = ex.reference_from; rows = f.row_fits l m ex }

-- ---- circuits

pub same : (l : Limits) (d : ℕ) → Same (circuit_within l d)
same l d = same_circuit l d (same_rows l)

pub wider : (l m : Limits) (d d' : ℕ) → Below l m → d < d' → Wider (circuit_within l d) (circuit_within m d')
wider l m d d' b lt = wider_circuit l m (wider_rows l m b) d d' lt

pub read : (l : Limits) (d : ℕ) → IsRead (circuit_within l d) anything
read l d = within_read l (reading l) d

pub fronted : (l m : Limits) (d d' : ℕ) → Below l m → d < d' → Fronted (circuit_within l d) (circuit_within m d')
fronted l m d d' b lt = circuit_fronted l m (fronts l m (let q = b.brackets in omega (arith, q)) (let q = b.suffixes in omega (arith, q))) (wider_rows l m b) d d' lt
