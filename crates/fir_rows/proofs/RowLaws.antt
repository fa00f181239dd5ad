-- The laws that blocks use: of rows, ports and heads, for all limits.
use Rattle.std.proofs.Common.{◌≡◌, ℕ, ◌<◌, ◌≤◌, Bool, true, false, ◌||◌, List, [], ◌∷◌, refl}
use Rattle.text_grammar.specs.declared.item.Item.{Item}
use Rattle.text_grammar.specs.declared.item.Symbol.TheVariants as s
use Rattle.text_grammar.specs.Part.{starts}
use Rattle.text_grammar.specs.Terminals.{is_symbol}
use Rattle.text_grammar.proofs.Laws.{IsRead, All, Narrow, read_narrower}
use Rattle.fir_ast.specs.Limits.{Limits}
use Rattle.fir_ast.specs.TypeGrammar.{ty}
use Rattle.fir_ast.specs.ExprGrammar.{is_suffix, expr, reference_from}
use Rattle.fir_expr.proofs.ExprLaws.{same_steps, wider_steps, ty_more, reference_more, expr_more, ty_read, expr_read, reference_from_read, lives, fronts}
use Rattle.fir_rows.proofs.AfterReference.{goes_on, or_none}
pub use Rattle.fir_rows.proofs.Fits.{Fits}
pub use Rattle.fir_rows.proofs.RowSteps.{RowSteps}
use Rattle.fir_rows.proofs.RowSteps.{row_steps}
pub use Rattle.fir_rows.proofs.RowReads.{RowReads}
use Rattle.fir_rows.proofs.RowReads.{ExprReads, row_reads}
pub use Rattle.fir_rows.proofs.RowFits.{RowFits}
use Rattle.fir_rows.proofs.RowFits.{ExprFits, row_fits}

-- ---- what is read is spelled so, under the same limits and under wider ones

pub rows_same : (l : Limits) → RowSteps All ⊥ l l
rows_same l = row_steps l l (same_steps l)

pub rows_wider : (l m : Limits) → l.brackets < m.brackets → l.suffixes < m.suffixes → RowSteps Narrow (Unit {0}) l m
rows_wider l m deep long = row_steps l m (wider_steps l m deep long)

-- ---- what is spelled so is read

or_left_none : (p q : Bool) → (p || q) ≡ false → p ≡ false
or_left_none true q h = absurd cc
or_left_none false q h = refl

or_right_none : (p q : Bool) → (p || q) ≡ false → q ≡ false
or_right_none true q h = absurd cc
or_right_none false q h = h

-- a test that passes less
passes_less : (b m : Item → Bool) → ((x : Item) → m x ≡ false → b x ≡ false) → (r : List Item) → starts m r ≡ false → starts b r ≡ false
passes_less b m h [] i = i
passes_less b m h (x ∷ r) i = h x i

type_goes_on : (x : Item) → goes_on x ≡ false → ty_more x ≡ false
type_goes_on x h =
    let suffix : is_suffix x ≡ false = or_left_none (is_suffix x) (is_symbol s.LeftArrow x) (or_left_none (is_suffix x || is_symbol s.LeftArrow x) (is_symbol s.OpenParen x || is_symbol s.Less x) h) in
    or_none (is_symbol s.OpenBracket x) (is_symbol s.Less x) (or_right_none (is_symbol s.Dot x) (is_symbol s.OpenBracket x) suffix)
    (or_right_none (is_symbol s.OpenParen x) (is_symbol s.Less x) (or_right_none (is_suffix x || is_symbol s.LeftArrow x) (is_symbol s.OpenParen x || is_symbol s.Less x) h))

expr_reads : (l : Limits) → ExprReads l
expr_reads l = record {
  ty = read_narrower (ty l) ty_more goes_on (passes_less ty_more goes_on type_goes_on) (ty_read l);
  expr = expr_read l;
  reference_from = λ w. read_narrower (reference_from l w) reference_more goes_on
      (passes_less reference_more goes_on (λ x h. or_left_none (is_suffix x || is_symbol s.LeftArrow x) (is_symbol s.OpenParen x || is_symbol s.Less x) h)) (reference_from_read l w);
}

pub rows_read : (l : Limits) → RowReads l
rows_read l = row_reads l (expr_reads l)

-- ---- fronts, and that something is spelled, under the same limits and under wider ones

expr_fits : (l m : Limits) → l.brackets ≤ m.brackets → l.suffixes ≤ m.suffixes → ExprFits l m
expr_fits l m deep long =
    let f = fronts l m deep long in
    let v = lives m in
    record {
      ty = record { fronted = f.ty; lives = v.ty };
      expr = record { fronted = f.expr; lives = v.expr };
      reference_from = λ w. record { fronted = f.reference_from w; lives = v.reference_from w };
    }

pub rows_fit : (l m : Limits) → l.brackets ≤ m.brackets → l.suffixes ≤ m.suffixes → RowFits l m
rows_fit l m deep long = row_fits l m (expr_fits l m deep long)
