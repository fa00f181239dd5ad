use Rattle.std.proofs.Common.{rules}
use Rattle.std.proofs.lemmas.List.{take_rest}
use Rattle.fir_lex.proofs.Closing.{known_behind}
use Rattle.fir_lex.proofs.Going.{step_goes}
use Rattle.fir_lex.proofs.line.add_unmarked.Goals as goal

pub loop-rest-preserved : goal.loop-rest-preserved
loop-rest-preserved c =
    let p = c.first_piece-piece in
    let z = c.loop-rest.rest.now in
    let e = c.behind-before.ensures in (
      rw (take_rest z p.result.len) (step_goes _ _ _ _ _ _ _ _ z p.result _ p.ensures.value p.ensures.within.0 p.ensures.within.1 c.in_ok-add_piece.ensures e.front e.located c.loop-rest.invariant.0),
      search rules,
      rw (take_rest z p.result.len) (known_behind p.result.len _ z p.ensures.known),
    )

pub add_piece-requires-clause-known : goal.add_piece-requires-clause-known
add_piece-requires-clause-known c = let p = c.first_piece-piece in known_behind p.result.len _ c.loop-rest.rest.now p.ensures.known
