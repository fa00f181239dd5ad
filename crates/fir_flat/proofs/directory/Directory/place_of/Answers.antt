use Rattle.std.proofs.Common.{◌∙◌, ap, sym, length}
use Rattle.fir_flat.specs.Modules.{place_of}
use Rattle.fir_flat.proofs.ScopeFacts.{else_at, place_found}
use Rattle.fir_flat.proofs.directory.Directory.place_of.Goals as goal

pub returns-in-Some : goal.returns-in-Some
returns-in-Some c =
    ap (λ o. else_at o (length c.self.inside.modules.now)) (sym c.in-Some.is ∙ c.find.ensures)
    ∙ place_found c.args.name.now c.self.inside.modules.now c.self.inside.places c.self.invariant.given ∙ ap (λ ms. place_of ms c.args.name.now) c.self.view_is

pub returns-in-None : goal.returns-in-None
returns-in-None c =
    ap (λ o. else_at o (length c.self.inside.modules.now)) (sym c.in-None.is ∙ c.find.ensures)
    ∙ place_found c.args.name.now c.self.inside.modules.now c.self.inside.places c.self.invariant.given ∙ ap (λ ms. place_of ms c.args.name.now) c.self.view_is
