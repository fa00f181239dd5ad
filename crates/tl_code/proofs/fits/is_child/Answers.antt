use Rattle.std.proofs.Common.{◌≡◌, ◌∙◌, ap, sym, bytes_eq}
use Rattle.tl_code.proofs.Children.{child_decided}
use Rattle.tl_code.proofs.fits.is_child.Goals as goal

pub returns-then-last-thread : goal.returns-then-last-thread
returns-then-last-thread c =
    child_decided c.args.thread.now.path c.args.thread.now.forks c.args.child.now c.in-Some.front.now c.in-Some.last.now c.eq.result
    (sym c.numbers.ensures.value ∙ c.in-Some.ensures.cases.0) c.if-last-thread.true
    (c.eq.ensures ∙ ap (bytes_eq c.in-Some.front.now) c.numbers-then-last-thread.ensures.value)
