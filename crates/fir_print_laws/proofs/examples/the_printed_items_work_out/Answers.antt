use Rattle.std.proofs.Common.{refl}
use Rattle.std.specs.Fmt.{digits}
use Rattle.fir_print_laws.specs.Atoms.{circuit_lines}
use Rattle.fir_print_laws.specs.Items.{printed_items}
use Rattle.fir_print_laws.specs.Printable.{is_printable}
use Rattle.fir_print_laws.proofs.Rows.{lit_atoms, node_lines, uint_words, vector_words, bundle_words, field_words, uint_depth, vector_depth, bundle_depth, field_depth, ident_words, ident_depth, wire_fits, verif_fits}
use Rattle.fir_print_laws.proofs.examples.the_printed_items_work_out.Goals as goal

pub returns : goal.returns
unfolding digits circuit_lines printed_items is_printable
returns c = record {
  small = simp (node_lines, lit_atoms) refl;
  a_bundle = simp (wire_fits, bundle_words, field_words, vector_words, uint_words, bundle_depth, field_depth, vector_depth, uint_depth) refl;
  a_string = simp (verif_fits, ident_words, ident_depth) refl;
  no_word = refl;
  early_quote = simp (verif_fits, ident_words, ident_depth) refl;
  too_wide = simp (wire_fits, bundle_words, field_words, vector_words, uint_words, bundle_depth, field_depth, vector_depth, uint_depth) refl;
}
