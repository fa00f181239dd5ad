-- Each When is a part.
use Rattle.std.proofs.Common.{◌≡◌, ◌+◌, ◌≤◌, sym, subst, ℕ, List, [], ◌∷◌, ◌++◌, map, sum, arith}
use Rattle.net_core.specs.declared.tree.Ground.{Ground}
use Rattle.net_core.specs.declared.tree.Ground.TheFolds.{fold-roll-Ground, ind-Ground, map-Ground}
use Rattle.net_core.specs.declared.tree.Ground.TheOpen as G
use Rattle.net_core.specs.declared.tree.Ground.TheViews.{roll-Ground}
use Rattle.net_core.specs.Body.{Body, done, statement, level_body, body_of, whens}
use Rattle.fir_flat.specs.Elaboration.{statement_parts, part_level}
use Rattle.fir_flat.proofs.Totals.{total, sum_total}
use Rattle.flat_places.proofs.Blocks.{whens_append}

abbrev Parted : Ground → Type 0
Parted g = whens (body_of (g ∷ [])) ≤ statement_parts g

-- a statement that has the property: what a level holds
abbrev With : Type 0
With = (g : Ground) × Parted g

abbrev plain : List With → List Ground
plain gs = map (λ g. g.0) gs

all_parted : (gs : List With) → whens (body_of (plain gs)) ≤ total statement_parts (plain gs)
all_parted [] = omega arith
all_parted (g ∷ gs) =
    let a : whens (body_of ((g.0 ∷ []) ++ plain gs)) ≡ whens (body_of (g.0 ∷ [])) + whens (body_of (plain gs)) = whens_append (g.0 ∷ []) (plain gs) in
    let h : whens (body_of (g.0 ∷ [])) ≤ statement_parts g.0 = g.1 in
    let t : whens (body_of (plain gs)) ≤ total statement_parts (plain gs) = all_parted gs in
    omega (arith, a, h, t)

level_parted : (y : G.Ground-F With)
    → whens (level_body (map-Ground Ground (Body → Body) statement (map-Ground With Ground (λ g. g.0) y)) done)
    ≤ part_level (map-Ground Ground ℕ statement_parts (map-Ground With Ground (λ g. g.0) y))
level_parted (G.Declare s line reset) = omega arith
level_parted (G.Set line s e) = omega arith
level_parted (G.When line c taken other) =
    let t : whens (body_of (plain taken)) ≤ total statement_parts (plain taken) = all_parted taken in
    let o : whens (body_of (plain other)) ≤ total statement_parts (plain other) = all_parted other in
    let u : sum (map statement_parts (plain taken)) ≡ total statement_parts (plain taken) = sum_total statement_parts (plain taken) in
    let v : sum (map statement_parts (plain other)) ≡ total statement_parts (plain other) = sum_total statement_parts (plain other) in
    omega (arith, t, o, u, v)

parted : (g : Ground) → Parted g
parted = ind-Ground Parted (λ x y is. subst (λ z. Parted (roll-Ground z)) is (
    subst (λ (f : Body → Body). whens (f done) ≤ statement_parts (roll-Ground (map-Ground With Ground (λ g. g.0) y)))
    (sym (fold-roll-Ground (Body → Body) level_body (map-Ground With Ground (λ g. g.0) y)))
    (subst (λ n. whens (level_body (map-Ground Ground (Body → Body) statement (map-Ground With Ground (λ g. g.0) y)) done) ≤ n)
    (sym (fold-roll-Ground ℕ part_level (map-Ground With Ground (λ g. g.0) y))) (level_parted y))))

pub whens_parts : (gs : List Ground) → whens (body_of gs) ≤ sum (map statement_parts gs)
whens_parts [] = omega arith
whens_parts (g ∷ gs) =
    let a : whens (body_of ((g ∷ []) ++ gs)) ≡ whens (body_of (g ∷ [])) + whens (body_of gs) = whens_append (g ∷ []) gs in
    let h : whens (body_of (g ∷ [])) ≤ statement_parts g = parted g in
    let t : whens (body_of gs) ≤ sum (map statement_parts gs) = whens_parts gs in
    let u : sum (map statement_parts (g ∷ gs)) ≡ total statement_parts (g ∷ gs) = sum_total statement_parts (g ∷ gs) in
    let v : sum (map statement_parts gs) ≡ total statement_parts gs = sum_total statement_parts gs in
    omega (arith, a, h, t, u, v)
