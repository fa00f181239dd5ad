-- The test that a text spells is one that a text of this length can write.
use Rattle.std.proofs.Common.{ℕ, ◌≤◌, List, length, arith}
use Rattle.tl_lex.specs.Lex.{items_of}
use Rattle.tl_lex.proofs.Going.{items_count}
use Rattle.tl_ast.specs.declared.tree.TestText.{TestText}
use Rattle.tl_ast.specs.Tests.{spells_test}
use Rattle.tl_check.specs.Bounds.{TestBounds}
use Rattle.tl_written.specs.Written.{WrittenBy, text_limit}
use Rattle.tl_written.proofs.BlocksWritten.{test_fits}

pub spelled_written : (text : List ℕ) (x : TestText) → spells_test text x → WrittenBy text x
unfolding spells_test
spelled_written text x sp =
    let h = test_fits (items_of text) x sp in
    let size = h.size in let blocks = h.blocks in let forks = h.forks in
    record {
      blocks = omega (arith, blocks);
      forks = omega (arith, forks);
      operators = h.short;
      size = omega (arith, size, items_count text);
    }

pub spelled_bounded : (text : List ℕ) (x : TestText) → length text ≤ text_limit → spells_test text x → TestBounds x
spelled_bounded text x short sp =
    let h = spelled_written text x sp in
    let size = h.size in
    record { blocks = h.blocks; forks = h.forks; operators = h.operators; size = omega (arith, size, short) }
