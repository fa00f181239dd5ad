-- A block as one plain type: each statement is followed by the rest of its block.
use Rattle.std.specs.Prelude.{ℕ, ◌+◌, max, List, [], ◌∷◌, ◌++◌, Option, map}
use Rattle.net_core.specs.declared.tree.GroundExpr.{GroundExpr}
use Rattle.net_core.specs.declared.tree.GroundReset.{GroundReset}
use Rattle.net_core.specs.declared.tree.Ground.{Ground}
use Rattle.net_core.specs.declared.tree.Ground.TheFolds.{fold-Ground}
use Rattle.net_core.specs.declared.tree.Ground.TheOpen.{Ground-F}

-- declare: signal, line, reset, rest; set: line, sink, value, rest; when: line, condition, taken, other, rest
pub data Body : Type 0 where
  done : Body
  declare : ℕ → ℕ → Option GroundReset → Body → Body
  set : ℕ → ℕ → Option GroundExpr → Body → Body
  when : ℕ → GroundExpr → Body → Body → Body → Body

abbrev pub block : List (Body → Body) → Body → Body
block [] rest = rest
block (f ∷ fs) rest = f (block fs rest)

abbrev pub level_body : Ground-F (Body → Body) → Body → Body
level_body (Ground-F.Declare s line reset) rest = declare s.0 line reset rest
level_body (Ground-F.Set line s e) rest = set line s.0 e rest
level_body (Ground-F.When line c taken other) rest = when line c (block taken done) (block other done) rest

abbrev pub statement : Ground → Body → Body
statement = fold-Ground (Body → Body) level_body

abbrev pub body_of : List Ground → Body
body_of gs = block (map statement gs) done

-- the number of Whens
abbrev pub whens : Body → ℕ
whens done = 0
whens (declare x line reset rest) = whens rest
whens (set line x e rest) = whens rest
whens (when line c taken other rest) = 1 + whens taken + whens other + whens rest

-- how deep they are nested
abbrev pub depth : Body → ℕ
depth done = 0
depth (declare x line reset rest) = depth rest
depth (set line x e rest) = depth rest
depth (when line c taken other rest) = max (1 + max (depth taken) (depth other)) (depth rest)

-- the conditions in the order of the body
abbrev pub conditions : Body → List GroundExpr
conditions done = []
conditions (declare x line reset rest) = conditions rest
conditions (set line x e rest) = conditions rest
conditions (when line c taken other rest) = c ∷ (conditions taken ++ (conditions other ++ conditions rest))
