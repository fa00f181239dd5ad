-- The bodies of the tests of the examples.
use Rattle.std.proofs.Common.{ℕ, List, Some, None, refl}
use Rattle.std.specs.Prelude.{codes}
use Rattle.tb_base.specs.declared.path.Region.TheVariants.{Main, Monitor}
use Rattle.net_core.specs.Examples.{s, delay}
use Rattle.tl_ast.specs.declared.tree.TestOp.TheVariants.{Add}
use Rattle.tl_threads.specs.Values.Expr.{number, variable, two}
use Rattle.tl_threads.specs.Bodies.Body.{nil, poke_port, peek_port, expect_port, step_by, let_var, fork_as, join_of}
use Rattle.tl_threads.proofs.Pieces.{laid_out}
use Rattle.bench_setting.proofs.Computed.{Laid}
use Rattle.bench_setting.specs.Examples.{sum, pokes_and_peek, reads_back, race, apart, joined, watched, fails, past_register}

abbrev h : List ℕ
h = codes "h"

abbrev v : List ℕ
v = codes "v"

abbrev pub pokes_and_peek_laid : Laid sum pokes_and_peek
pokes_and_peek_laid = record {
  body = poke_port 1 (s 0) (two Add (number 255) (number 4)) (poke_port 2 (s 1) (number 4) (peek_port 3 (s 2) None nil));
  is = simp laid_out refl;
}

abbrev pub reads_back_laid : Laid sum reads_back
reads_back_laid = record {
  body = let_var 1 v (number 0) (poke_port 2 (s 1) (number 4)
      (peek_port 3 (s 2) (Some v) (poke_port 4 (s 0) (two Add (variable v) (number 1)) (peek_port 5 (s 2) None nil))));
  is = simp laid_out refl;
}

abbrev pub race_laid : Laid sum race
race_laid = record { body = fork_as 1 Main h (poke_port 2 (s 0) (number 1) nil) (peek_port 3 (s 2) None nil); is = simp laid_out refl }

abbrev pub apart_laid : Laid sum apart
apart_laid = record { body = fork_as 1 Main h (poke_port 2 (s 0) (number 1) nil) (peek_port 3 (s 1) None nil); is = simp laid_out refl }

abbrev pub joined_laid : Laid sum joined
joined_laid = record {
  body = fork_as 1 Main h (poke_port 2 (s 0) (number 2) nil) (join_of 3 h (peek_port 4 (s 2) None nil));
  is = simp laid_out refl;
}

abbrev pub watched_laid : Laid sum watched
watched_laid = record {
  body = fork_as 1 Monitor h (peek_port 2 (s 2) None nil) (poke_port 3 (s 0) (number 4) nil);
  is = simp laid_out refl;
}

abbrev pub fails_laid : Laid sum fails
fails_laid = record {
  body = poke_port 1 (s 0) (number 1) (expect_port 2 (s 2) (number 2) (peek_port 3 (s 0) None nil));
  is = simp laid_out refl;
}

abbrev pub past_register_laid : Laid delay past_register
past_register_laid = record {
  body = fork_as 1 Main h (poke_port 2 (s 0) (number 9) nil) (peek_port 3 (s 2) None (step_by 4 1 (peek_port 5 (s 2) None nil)));
  is = simp laid_out refl;
}
