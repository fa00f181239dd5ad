use Rattle.std.proofs.Common.{List, ℕ, ◌≡◌, ◌∙◌, ap, ap₂}
use Rattle.fir_ast.specs.declared.tree.Module.{Module}
use Rattle.fir_flat.specs.Counts.{cut}
use Rattle.fir_flat.specs.Modules.{place_of, signals_in}
use Rattle.fir_flat.proofs.TreeCounts.{signals_counted}
use Rattle.fir_flat.proofs.limits.count_signals.Goals as goal

pub returns : goal.returns
returns c =
    let modules : c.args.modules.now ≡ c.args.circuit.now.modules = c.requires.modules in
    c.in_ok-signals.ensures
    ∙ ap₂ (λ (ms : List Module) (place : ℕ). cut (signals_in ms place)) modules
    (c.place_of-place.ensures ∙ ap₂ (λ (ms : List Module) (name : List ℕ). place_of ms name) modules c.bytes.ensures)
    ∙ ap cut (signals_counted c.requires.ranked.0 c.args.circuit.now c.requires.ranked.1)
