use Rattle.std.proofs.Common.{◌≡◌, ℕ, zero, suc, true, Some, refl}
use Rattle.std.proofs.Common.{arith}
use Rattle.std.specs.Prelude.{max}
use Rattle.fir_written.specs.Written.{is_written, is_written_stmt, is_written_expr, suffixes, block_depth}
use Rattle.fir_written.specs.Examples.{a, nested, long}
use Rattle.fir_written.proofs.Unrolled.{written_types, written_exprs, index_depths, written_stmts, block_depths}
use Rattle.fir_written.proofs.examples.the_written_circuits_work_out.Goals as goal

a_written : is_written_expr a ≡ true
a_written = simp (written_exprs) refl

nested_written : (n : ℕ) → is_written_stmt (nested n) ≡ true
nested_written zero = simp (written_stmts) refl
nested_written (suc n) = let e = nested_written n in simp (written_stmts, e, a_written) refl

max_none : (n : ℕ) → max n 0 ≡ n
max_none n = omega arith

nested_depth : (n : ℕ) → block_depth (nested n) ≡ n
nested_depth zero = simp (block_depths) refl
nested_depth (suc n) = let e = nested_depth n in simp (block_depths, e, max_none) refl

long_suffixes : (n : ℕ) → suffixes (long n) ≡ Some n
long_suffixes zero = simp (written_exprs) refl
long_suffixes (suc n) = let e = long_suffixes n in simp (written_exprs, e) refl

pub returns : goal.returns
unfolding is_written
returns c = record {
  circuits = record {
    empty = simp (written_types) refl;
    driven = simp (written_types, written_stmts, written_exprs, block_depths) refl;
    dotted = refl;
    digit = refl;
    no_module = refl;
    no_sink = simp (written_types, written_stmts, written_exprs, block_depths) refl;
  };
  types = record {
    largest = simp (written_types) refl;
    wide = simp (written_types) refl;
    long = simp (written_types) refl;
    index = simp (written_types) refl;
  };
  exprs = record {
    negative = simp (written_exprs) refl;
    unsigned = simp (written_exprs) refl;
    no_minus_zero = simp (written_exprs) refl;
    operands = simp (written_exprs) refl;
    numbers = simp (written_exprs) refl;
    no_number = simp (written_exprs) refl;
    behind = simp (written_exprs) refl;
    three = simp (written_exprs) refl;
    two = simp (index_depths) refl;
    longest = simp (written_exprs) refl;
    too_long = simp (written_exprs) refl;
  };
  blocks = record {
    deeper = simp (block_depths) refl;
    deepest = simp (written_types, nested_written, nested_depth) refl;
    too_deep = simp (written_types, nested_written, nested_depth) refl;
  };
}
