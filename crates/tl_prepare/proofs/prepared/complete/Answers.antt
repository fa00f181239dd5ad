use Rattle.std.proofs.Common.{◌∙◌, ap, ⊎_elim}
use Rattle.tl_prepare.specs.Given.{newborn}
use Rattle.tl_prepare.proofs.Completing.{act_prepared, fork_prepared, no_jump, no_local, no_end}
use Rattle.tl_prepare.proofs.prepared.complete.Goals as goal

pub invariant_of-result : goal.invariant_of-result
invariant_of-result c = act_prepared c.args.thread.now c.in_ok-from.from c.in_ok-next-in-Acts.next c.in-Acts.act c.args.executed c.in_ok-from.ensures c.in-Acts.is c.in_ok-next-in-Acts.ensures c.requires.ran

pub returns-in_ok-next-in-Acts-clause-gives : goal.returns-in_ok-next-in-Acts-clause-gives
returns-in_ok-next-in-Acts-clause-gives c = act_prepared c.args.thread.now c.in_ok-from.from c.in_ok-next-in-Acts.next c.in-Acts.act c.args.executed c.in_ok-from.ensures c.in-Acts.is c.in_ok-next-in-Acts.ensures c.requires.ran

pub invariant_of-result-in-Forks : goal.invariant_of-result-in-Forks
invariant_of-result-in-Forks c =
    fork_prepared c.args.thread.now c.in_ok-from.from c.state_behind-next.result c.in_ok-begins-in-Forks.begins c.in-Forks.line c.in-Forks.begin c.in-Forks.region c.in-Forks.child c.args.executed c.in_ok-from.ensures c.in-Forks.is
    c.state_behind-next.ensures (c.in_ok-begins-in-Forks.ensures ∙ ap (λ p. newborn c.state_behind-next.result p c.in-Forks.region c.in-Forks.begin) c.copy-in-Forks.ensures) c.requires.ran

pub returns-in_ok-begins-in-Forks-clause-gives : goal.returns-in_ok-begins-in-Forks-clause-gives
returns-in_ok-begins-in-Forks-clause-gives c =
    fork_prepared c.args.thread.now c.in_ok-from.from c.state_behind-next.result c.in_ok-begins-in-Forks.begins c.in-Forks.line c.in-Forks.begin c.in-Forks.region c.in-Forks.child c.args.executed c.in_ok-from.ensures c.in-Forks.is
    c.state_behind-next.ensures (c.in_ok-begins-in-Forks.ensures ∙ ap (λ p. newborn c.state_behind-next.result p c.in-Forks.region c.in-Forks.begin) c.copy-in-Forks.ensures) c.requires.ran

pub unreachable-requires : goal.unreachable-requires
unreachable-requires c =
    ⊎_elim (λ e. no_jump c.args.thread.now c.args.executed e c.requires.ran)
    (λ r. ⊎_elim (λ e. no_local c.args.thread.now c.args.executed e c.requires.ran) (λ e. no_end c.args.thread.now c.args.executed e c.requires.ran) r) c.in-Jumped.is
