use Rattle.std.proofs.Common.{refl}
use Rattle.std.specs.Fmt.{digits}
use Rattle.fir_ast.specs.Printed.{printed}
use Rattle.fir_ast.proofs.Rows.{uint_text, sint_text, vector_text, bundle_of_text, clock_text, field_of_text, ident_text, part_text, at_text, index_text, lit_text, apply_text, wire_text, node_text, inst_text, connect_text, invalid_text, reg_text, when_text, skip_text, verif_text}
use Rattle.fir_ast.proofs.examples.the_printed_form_works_out.Goals as goal

pub returns : goal.returns
unfolding digits printed
returns c = record {
  whole_circuit = simp (uint_text, ident_text, apply_text, connect_text) refl;
  signed_literal = simp (lit_text) refl;
  numbers_follow_operands = simp (ident_text, part_text, apply_text) refl;
  flipped_field = simp (uint_text, sint_text, vector_text, bundle_of_text, field_of_text) refl;
  no_field = simp (bundle_of_text) refl;
  plain_and_computed_index = simp (ident_text, at_text, index_text, lit_text) refl;
  wire = simp (sint_text, vector_text, wire_text) refl;
  node = simp (ident_text, node_text) refl;
  instance = simp inst_text refl;
  invalidated = simp (ident_text, part_text, invalid_text) refl;
  plain_register = simp (clock_text, ident_text, reg_text) refl;
  register_with_reset = simp (uint_text, ident_text, lit_text, reg_text) refl;
  both_branches = simp (ident_text, when_text, skip_text) refl;
  printed_value = simp (ident_text, verif_text) refl;
  labelled = simp (ident_text, verif_text) refl;
  stopped = simp (ident_text, verif_text) refl;
}
