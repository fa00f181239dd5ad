use Rattle.fir_check.specs.KnownSeen.{seen}
use Rattle.fir_check.specs.Walking.{head_of}
use Rattle.fir_check.proofs.Noted.{noted_told, no_news, on_ok}
use Rattle.fir_check.proofs.walk.note_stmt.Goals as goal

pub returns-then-not-is_news-clause-noted : goal.returns-then-not-is_news-clause-noted
returns-then-not-is_news-clause-noted c =
    on_ok c.declare.result _
    (no_news c.args.around.modules.now c.args.around.home.now (seen c.args.around.types.now c.args.scope.now) (head_of c.args.stmt.now) c.line_of-line.result c.args.best.now
    c.line_of-line.ensures (c.is_news.ensures c.if-not-is_news.true))

pub returns-clause-noted : goal.returns-clause-noted
returns-clause-noted c =
    noted_told c.args.around.modules.now c.args.around.home.now (seen c.args.around.types.now c.args.scope.now) (head_of c.args.stmt.now) c.in_ok-broken.broken c.line_of-line.result c.args.best.now c.note.new.best
    c.in_ok-broken.ensures.told c.line_of-line.ensures c.note.ensures
