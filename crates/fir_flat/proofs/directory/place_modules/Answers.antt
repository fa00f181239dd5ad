use Rattle.std.proofs.Common.{◌≡◌, ◌∙◌, ℕ, ap, sym, drop, arith, subst}
use Rattle.fir_ast.specs.declared.tree.Module.{Module}
use Rattle.fir_flat.specs.Scopes.{GivesModules}
use Rattle.fir_flat.proofs.ScopeFacts.{modules_start, modules_next}
use Rattle.fir_flat.proofs.directory.place_modules.Goals as goal

pub loop-k-init : goal.loop-k-init
loop-k-init c = record { within = omega arith; given = modules_start c.args.modules.now c.new-places.result c.new-places.ensures }

pub loop-k-preserved : goal.loop-k-preserved
loop-k-preserved c =
    let w = c.loop-k.invariant.within in
    record {
      within = omega (arith, w);
      given =
          modules_next c.args.modules.now c.loop-k.k _ c.index-modules-k.result _ c.loop-k.places c.give.new.self (omega arith) (omega (arith, w)) c.index-modules-k.is
          (c.bytes.ensures ∙ ap (λ (m : Module). m.name) (sym c.index-modules-k.is)) c.in_ok-give.ensures.ok c.loop-k.invariant.given;
    }

pub returns : goal.returns
returns c =
    let z : c.loop-k.k ≡ 0 = omega arith in
    subst (λ (k : ℕ). GivesModules k (drop k c.args.modules.now) c.loop-k.places) z c.loop-k.invariant.given
