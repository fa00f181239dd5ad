-- What holds of the elaboration that is returned.
use Rattle.std.proofs.Common.{◌≡◌, sym, subst, IfOk, IfErr, Result, Ok, Err, None}
use Rattle.fir_ast.specs.declared.tree.Circuit.{Circuit}
use Rattle.net_core.specs.declared.tree.Elab.{Elab}
use Rattle.net_core.specs.Formed.{Formed}
use Rattle.fir_check.specs.Rules.{circuit_rule}
use Rattle.fir_flat.specs.declared.limits.FlatFault.{FlatFault}
use Rattle.fir_flat.specs.Elaboration.{elab}
use Rattle.fir_flat.specs.Limits.{Fits, Passes}
use Rattle.fir_written.specs.Written.{IsWritten}
use Rattle.fir_formed.proofs.Final.{formed}

pub formed_result : {E : Type 0} (r : Result Elab E) (c k : Circuit) → k ≡ c → circuit_rule k ≡ None → IsWritten c → IfOk r (λ e. e ≡ elab k) → IfOk r (λ e. Fits k) → IfOk r (λ e. Formed e)
formed_result (Ok e) c k same rule written is fits = subst Formed (sym is) (formed k rule (subst IsWritten (sym same) written) fits)
formed_result (Err f) c k same rule written is fits = tt

pub same_fault : {A : Type 0} (r : Result A FlatFault) (c k : Circuit) → k ≡ c → IfErr r (λ fault. Passes k fault) → IfErr r (λ fault. Passes c fault)
same_fault r c k same h = subst (λ (x : Circuit). IfErr r (λ fault. Passes x fault)) same h
