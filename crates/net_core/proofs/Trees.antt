-- The definitions by folds, an equation for each variant.
use Rattle.std.proofs.Common.{◌≡◌, ◌∙◌, sym, ap, ℕ, Bool, List, ◌∷◌, Option, map}
use Rattle.tb_base.specs.declared.op.Op.{Op}
use Rattle.net_core.specs.declared.ports.Signal.{Signal}
use Rattle.net_core.specs.declared.tree.GroundExpr.{GroundExpr}
use Rattle.net_core.specs.declared.tree.GroundExpr.TheVariants.{Read, Lit, Apply, Select, IndexIs, rolls-Read, rolls-Lit, rolls-Apply, rolls-Select, rolls-IndexIs}
use Rattle.net_core.specs.declared.tree.GroundExpr.TheFolds.{fold-GroundExpr, fold-roll-GroundExpr}
use Rattle.net_core.specs.declared.tree.GroundExpr.TheOpen as E
use Rattle.net_core.specs.declared.tree.GroundReset.{GroundReset}
use Rattle.net_core.specs.declared.tree.Ground.{Ground}
use Rattle.net_core.specs.declared.tree.Ground.TheVariants.{Declare, Set, When, rolls-Declare, rolls-Set, rolls-When}
use Rattle.net_core.specs.declared.tree.Ground.TheFolds.{fold-roll-Ground}
use Rattle.net_core.specs.declared.tree.Ground.TheOpen as G
use Rattle.net_core.specs.Body.{Body, declare, set, when, statement, level_body, body_of}

-- any fold over expressions

pub at_read : {A : Type 0} (level : E.GroundExpr-F A → A) (s : Signal) → fold-GroundExpr A level (Read s) ≡ level (E.Read s)
at_read {A = A} level s = ap (fold-GroundExpr A level) (sym (rolls-Read s)) ∙ fold-roll-GroundExpr A level (E.Read s)

pub at_lit : {A : Type 0} (level : E.GroundExpr-F A → A) (signed : Bool) (w : Option ℕ) (negative : Bool) (n : ℕ)
    → fold-GroundExpr A level (Lit signed w negative n) ≡ level (E.Lit signed w negative n)
at_lit {A = A} level signed w negative n =
    ap (fold-GroundExpr A level) (sym (rolls-Lit signed w negative n)) ∙ fold-roll-GroundExpr A level (E.Lit signed w negative n)

pub at_apply : {A : Type 0} (level : E.GroundExpr-F A → A) (op : Op) (args : List GroundExpr) (nums : List ℕ)
    → fold-GroundExpr A level (Apply op args nums) ≡ level (E.Apply op (map (fold-GroundExpr A level) args) nums)
at_apply {A = A} level op args nums =
    ap (fold-GroundExpr A level) (sym (rolls-Apply op args nums)) ∙ fold-roll-GroundExpr A level (E.Apply op args nums)

pub at_select : {A : Type 0} (level : E.GroundExpr-F A → A) (index : GroundExpr) (items : List GroundExpr)
    → fold-GroundExpr A level (Select index items) ≡ level (E.Select (fold-GroundExpr A level index) (map (fold-GroundExpr A level) items))
at_select {A = A} level index items =
    ap (fold-GroundExpr A level) (sym (rolls-Select index items)) ∙ fold-roll-GroundExpr A level (E.Select index items)

pub at_index_is : {A : Type 0} (level : E.GroundExpr-F A → A) (index : GroundExpr) (place : ℕ)
    → fold-GroundExpr A level (IndexIs index place) ≡ level (E.IndexIs (fold-GroundExpr A level index) place)
at_index_is {A = A} level index place =
    ap (fold-GroundExpr A level) (sym (rolls-IndexIs index place)) ∙ fold-roll-GroundExpr A level (E.IndexIs index place)

-- statements

pub of_declare : (x : Signal) (line : ℕ) (r : Option GroundReset) (gs : List Ground) → body_of (Declare x line r ∷ gs) ≡ declare x.0 line r (body_of gs)
of_declare x line r gs = ap (λ (f : Body → Body). f (body_of gs))
    (ap statement (sym (rolls-Declare x line r)) ∙ fold-roll-Ground (Body → Body) level_body (G.Declare x line r))

pub of_set : (line : ℕ) (x : Signal) (e : Option GroundExpr) (gs : List Ground) → body_of (Set line x e ∷ gs) ≡ set line x.0 e (body_of gs)
of_set line x e gs = ap (λ (f : Body → Body). f (body_of gs))
    (ap statement (sym (rolls-Set line x e)) ∙ fold-roll-Ground (Body → Body) level_body (G.Set line x e))

pub of_when : (line : ℕ) (c : GroundExpr) (t o gs : List Ground) → body_of (When line c t o ∷ gs) ≡ when line c (body_of t) (body_of o) (body_of gs)
of_when line c t o gs = ap (λ (f : Body → Body). f (body_of gs))
    (ap statement (sym (rolls-When line c t o)) ∙ fold-roll-Ground (Body → Body) level_body (G.When line c t o))
