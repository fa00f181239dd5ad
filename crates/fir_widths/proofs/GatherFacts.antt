-- A body's connects and expressions, a statement at a time.
use Rattle.std.proofs.Common.{◌≡◌, ◌∙◌, sym, ap, subst, ℕ, ◌+◌, ◌<◌, List, [], ◌∷◌, ◌++◌, Option, refl, length, get_or, drop, drop-cons, add-one, append_assoc, append-nil}
use Rattle.net_core.specs.declared.ports.Signal.{Signal}
use Rattle.net_core.specs.declared.tree.GroundExpr.{GroundExpr}
use Rattle.net_core.specs.declared.tree.GroundReset.{GroundReset}
use Rattle.net_core.specs.declared.tree.Ground.{Ground}
use Rattle.net_core.specs.declared.tree.Ground.TheVariants.{Declare, Set, When}
use Rattle.net_core.specs.declared.tree.Ground.TheFolds.{fold-roll-Ground, ind-Ground, map-Ground}
use Rattle.net_core.specs.declared.tree.Ground.TheOpen as G
use Rattle.net_core.specs.Body.{Body, done, statement, level_body, block, body_of}
use Rattle.net_core.specs.Widths.{sources, initial, connected}
use Rattle.net_core.specs.WidthRules.{uses, reset_uses, value_uses}
use Rattle.net_core.proofs.Trees.{of_declare, of_set, of_when}

-- what a body has is what its first statement has, and then what the others have
abbrev Behind : {X : Type 0} → (Body → List X) → Ground → Type 0
Behind f g = (r : Body) → f (statement g r) ≡ f (statement g done) ++ f r

three : {X : Type 0} (a b c : List X) → a ++ (b ++ c) ≡ (a ++ (b ++ [])) ++ c
three a b c = sym (append_assoc a b c) ∙ ap (λ (t : List _). (a ++ t) ++ c) (sym (append-nil b))

level_sources : (x : G.Ground-F (Body → Body)) (r : Body) → sources (level_body x r) ≡ sources (level_body x done) ++ sources r
level_sources (G.Declare s line reset) r = ap (λ t. t ++ sources r) (sym (append-nil (initial s.0 reset)))
level_sources (G.Set line s e) r = ap (λ t. t ++ sources r) (sym (append-nil (connected s.0 e)))
level_sources (G.When line c taken other) r = three (sources (block taken done)) (sources (block other done)) (sources r)

level_uses : (x : G.Ground-F (Body → Body)) (r : Body) → uses (level_body x r) ≡ uses (level_body x done) ++ uses r
level_uses (G.Declare s line reset) r = ap (λ t. t ++ uses r) (sym (append-nil (reset_uses line reset)))
level_uses (G.Set line s e) r = ap (λ t. t ++ uses r) (sym (append-nil (value_uses line e)))
level_uses (G.When line c taken other) r =
    ap (λ t. record { line = line; expr = c; condition = Rattle.std.proofs.Common.true } ∷ t) (three (uses (block taken done)) (uses (block other done)) (uses r))

pub sources_behind : (g : Ground) → Behind sources g
sources_behind = ind-Ground (Behind sources) (λ x y is. λ r.
    subst (λ (f : Body → Body). sources (f r) ≡ sources (f done) ++ sources r) (sym (fold-roll-Ground (Body → Body) level_body x))
    (level_sources (map-Ground Ground (Body → Body) statement x) r))

pub uses_behind : (g : Ground) → Behind uses g
uses_behind = ind-Ground (Behind uses) (λ x y is. λ r.
    subst (λ (f : Body → Body). uses (f r) ≡ uses (f done) ++ uses r) (sym (fold-roll-Ground (Body → Body) level_body x))
    (level_uses (map-Ground Ground (Body → Body) statement x) r))

-- the loop: so far, and what is left
pub gather_next : {X : Type 0} (f : Body → List X) → ((g : Ground) (r : Body) → f (statement g r) ≡ f (statement g done) ++ f r)
    → (gs : List Ground) (i : ℕ) (g : Ground) (old new whole : List X) → i < length gs → g ≡ get_or gs i g
    → new ≡ old ++ f (body_of (g ∷ [])) → old ++ f (body_of (drop i gs)) ≡ whole → new ++ f (body_of (drop (i + 1) gs)) ≡ whole
gather_next {X = X} f behind gs i g old new whole h e n w =
    ap (λ (t : List X). t ++ f (body_of (drop (i + 1) gs))) n
    ∙ append_assoc old (f (body_of (g ∷ []))) (f (body_of (drop (i + 1) gs)))
    ∙ ap (λ (t : List X). old ++ t) (sym (behind g (body_of (drop (i + 1) gs))))
    ∙ ap (λ (t : List Ground). old ++ f (body_of t)) (sym first) ∙ w
  where
    first : drop i gs ≡ g ∷ drop (i + 1) gs
    first = rw (drop-cons gs i g, ← e, add-one i) refl

-- one statement
pub declare_sources : (g : Ground) (s : Signal) (line : ℕ) (r : Option GroundReset) → g ≡ Declare s line r → sources (body_of (g ∷ [])) ≡ initial s.0 r
declare_sources g s line r e = ap (λ (t : Ground). sources (body_of (t ∷ []))) e ∙ ap sources (of_declare s line r []) ∙ append-nil (initial s.0 r)

pub declare_uses : (g : Ground) (s : Signal) (line : ℕ) (r : Option GroundReset) → g ≡ Declare s line r → uses (body_of (g ∷ [])) ≡ reset_uses line r
declare_uses g s line r e = ap (λ (t : Ground). uses (body_of (t ∷ []))) e ∙ ap uses (of_declare s line r []) ∙ append-nil (reset_uses line r)

pub set_sources : (g : Ground) (line : ℕ) (s : Signal) (v : Option GroundExpr) → g ≡ Set line s v → sources (body_of (g ∷ [])) ≡ connected s.0 v
set_sources g line s v e = ap (λ (t : Ground). sources (body_of (t ∷ []))) e ∙ ap sources (of_set line s v []) ∙ append-nil (connected s.0 v)

pub set_uses : (g : Ground) (line : ℕ) (s : Signal) (v : Option GroundExpr) → g ≡ Set line s v → uses (body_of (g ∷ [])) ≡ value_uses line v
set_uses g line s v e = ap (λ (t : Ground). uses (body_of (t ∷ []))) e ∙ ap uses (of_set line s v []) ∙ append-nil (value_uses line v)

pub when_sources : (g : Ground) (line : ℕ) (c : GroundExpr) (t o : List Ground) → g ≡ When line c t o
    → sources (body_of (g ∷ [])) ≡ sources (body_of t) ++ sources (body_of o)
when_sources g line c t o e = ap (λ (x : Ground). sources (body_of (x ∷ []))) e ∙ ap sources (of_when line c t o [])
    ∙ ap (λ x. sources (body_of t) ++ x) (append-nil (sources (body_of o)))

pub when_uses : (g : Ground) (line : ℕ) (c : GroundExpr) (t o : List Ground) → g ≡ When line c t o
    → uses (body_of (g ∷ [])) ≡ record { line = line; expr = c; condition = Rattle.std.proofs.Common.true } ∷ (uses (body_of t) ++ uses (body_of o))
when_uses g line c t o e = ap (λ (x : Ground). uses (body_of (x ∷ []))) e ∙ ap uses (of_when line c t o [])
    ∙ ap (λ x. record { line = line; expr = c; condition = Rattle.std.proofs.Common.true } ∷ (uses (body_of t) ++ x)) (append-nil (uses (body_of o)))
