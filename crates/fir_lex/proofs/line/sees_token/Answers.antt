use Rattle.std.proofs.Common.{rules}
use Rattle.std.proofs.lemmas.List.{take_rest}
use Rattle.fir_lex.proofs.Closing.{known_behind}
use Rattle.fir_lex.proofs.Going.{sees_here, sees_none, sees_behind}
use Rattle.fir_lex.proofs.line.sees_token.Goals as goal

pub returns-then-is_token : goal.returns-then-is_token
returns-then-is_token c =
    let p = c.first_piece-class in
    sees_here _ _ c.loop-rest.rest.now p.result p.ensures.value p.ensures.within.0 p.ensures.within.1 (search rules) c.loop-rest.invariant.0

pub returns-then-not-is_looked_past : goal.returns-then-not-is_looked_past
returns-then-not-is_looked_past c =
    let p = c.first_piece-class in
    sees_none _ _ c.loop-rest.rest.now p.result p.ensures.value p.ensures.within.0 p.ensures.within.1 (search rules) (search rules) c.loop-rest.invariant.0

pub loop-rest-preserved : goal.loop-rest-preserved
loop-rest-preserved c =
    let p = c.first_piece-class in
    let z = c.loop-rest.rest.now in
    (rw (take_rest z p.result.len) (sees_behind _ _ z p.result p.ensures.value p.ensures.within.0 p.ensures.within.1 (search rules) (search rules) c.loop-rest.invariant.0), rw (take_rest z p.result.len) (known_behind p.result.len _ z p.ensures.known))
