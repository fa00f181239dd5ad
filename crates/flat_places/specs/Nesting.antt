-- How deep the elaboration of a body nests.
use Rattle.std.specs.Prelude.{ℕ, suc, ◌+◌, ◌≤◌, max, List}
use Rattle.std.specs.List.{All}
use Rattle.fir_ast.specs.declared.tree.Module.{Module}
use Rattle.fir_ast.specs.declared.tree.Expr.{Expr}
use Rattle.fir_ast.specs.declared.tree.Expr.TheFolds.{fold-Expr}
use Rattle.fir_ast.specs.declared.tree.Expr.TheOpen.{Expr-F, Ident, Part, At, Index, Lit, Apply}
use Rattle.fir_flat.specs.Bodies.{Body, done, wire, node, reg, inst, connect, invalid, when, body_of}

-- one level of an expression
abbrev pub level_indices : Expr-F ℕ → ℕ
level_indices (Ident name) = 0
level_indices (Part e name) = e
level_indices (At e n) = e
level_indices (Index e index) = suc e
level_indices (Lit signed width negative n) = 0
level_indices (Apply op args nums) = 0

-- the computed indices of a reference, but for those inside its indices
abbrev pub indices : Expr → ℕ
indices = fold-Expr ℕ level_indices

-- the blocks of a body and, at each connect and invalidation, a When for each computed index
abbrev pub nesting : Body → ℕ
nesting done = 0
nesting (wire line name t rest) = nesting rest
nesting (node line name e rest) = nesting rest
nesting (reg line name t reset rest) = nesting rest
nesting (inst line name target rest) = nesting rest
nesting (connect line sink e rest) = max (max (indices sink) (indices e)) (nesting rest)
nesting (invalid line sink rest) = max (indices sink) (nesting rest)
nesting (when line cond taken other rest) = max (1 + max (nesting taken) (nesting other)) (nesting rest)

-- no module nests deeper than n
abbrev pub NestBelow : ℕ → List Module → Type 0
NestBelow n modules = All (λ m. nesting (body_of m.body) ≤ n) modules
