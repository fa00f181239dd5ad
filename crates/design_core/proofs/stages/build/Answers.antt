use Rattle.std.proofs.Common.{◌≡◌, ◌∙◌, sym, ap, subst, Err, Ok, arith, List, ℕ}
use Rattle.std.proofs.lemmas.Grind.{common_steps}
use Rattle.std.specs.Prelude.{IfErr, IfOk, Result}
use Rattle.fir_ast.specs.declared.tree.Circuit.{Circuit}
use Rattle.net_core.specs.declared.tree.Elab.{Elab}
use Rattle.design_core.specs.Built.{built, BuildRefusal, laid_out, measured}
use Rattle.design_core.specs.Refused.{Tells}
use Rattle.design_core.proofs.Told.{told_ruled, told_laid, told_measured, told_initialised, is_built, ok_through, err_through}
use Rattle.design_core.proofs.stages.build.Goals as goal

pub returns-in_err-checked-clause-fault : goal.returns-in_err-checked-clause-fault
returns-in_err-checked-clause-fault c =
    let k : c.from_residual-in_err-checked.result ≡ Err c.in_err-checked.field-0.0 = grind (arith, common_steps) in
    subst (λ r. IfErr r (λ f. Tells (built c.args.text.now) f)) (sym k)
    (told_ruled c.args.text.now c.in_ok-circuit.circuit c.in_err-checked.field-0.0 c.in_ok-circuit.ensures.found c.in_err-checked.ensures.fault)

pub returns-in_err-elab-clause-fault : goal.returns-in_err-elab-clause-fault
returns-in_err-elab-clause-fault c =
    let k : c.from_residual-in_err-elab.result ≡ Err c.in_err-elab.field-0.0 = grind (arith, common_steps) in
    subst (λ r. IfErr r (λ f. Tells (built c.args.text.now) f)) (sym k)
    (told_laid c.args.text.now c.in_ok-circuit.circuit c.in_err-elab.field-0.0 c.in_ok-circuit.ensures.found c.in_ok-checked.ensures.rule
    (subst (λ (q : Circuit). Tells (laid_out q) c.in_err-elab.field-0.0) c.in_ok-checked.ensures.kept c.in_err-elab.ensures.fault))

pub returns-in_err-sized-clause-fault : goal.returns-in_err-sized-clause-fault
returns-in_err-sized-clause-fault c =
    let k : c.from_residual-in_err-sized.result ≡ Err c.in_err-sized.field-0.0 = grind (arith, common_steps) in
    subst (λ r. IfErr r (λ f. Tells (built c.args.text.now) f)) (sym k)
    (told_measured c.args.text.now c.in_ok-circuit.circuit c.in_ok-elab.elab c.in_err-sized.field-0.0 c.in_ok-circuit.ensures.found c.in_ok-checked.ensures.rule
    (subst (λ (q : Circuit). laid_out q ≡ measured c.in_ok-elab.elab) c.in_ok-checked.ensures.kept c.in_ok-elab.ensures.found) c.in_err-sized.ensures.fault)

pub returns-clause-ok : goal.returns-clause-ok
returns-clause-ok c =
    let b = is_built c.args.text.now c.in_ok-circuit.circuit c.in_ok-elab.elab c.in_ok-sized.sized c.in_ok-circuit.ensures.found c.in_ok-checked.ensures.rule
    (subst (λ (q : Circuit). laid_out q ≡ measured c.in_ok-elab.elab) c.in_ok-checked.ensures.kept c.in_ok-elab.ensures.found) c.in_ok-sized.ensures.found in
    ok_through c.design_of.result _ _ (λ d h. b ∙ h) c.design_of.ensures.found

pub returns-clause-fault : goal.returns-clause-fault
returns-clause-fault c =
    err_through c.design_of.result _ _
    (λ f t. told_initialised c.args.text.now c.in_ok-circuit.circuit c.in_ok-elab.elab c.in_ok-sized.sized f c.in_ok-circuit.ensures.found c.in_ok-checked.ensures.rule
    (subst (λ (q : Circuit). laid_out q ≡ measured c.in_ok-elab.elab) c.in_ok-checked.ensures.kept c.in_ok-elab.ensures.found) c.in_ok-sized.ensures.found t)
    c.design_of.ensures.fault
