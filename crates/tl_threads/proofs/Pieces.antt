-- Each statement as a piece of a body, and each expression.
use Rattle.std.proofs.Common.{ℕ, Option, List, ◌≡◌, ap}
use Rattle.tb_base.specs.declared.path.Region.{Region}
use Rattle.tl_ast.specs.declared.tree.TestOp.{TestOp}
use Rattle.tl_ast.specs.declared.tree.DriverKind.{DriverKind}
use Rattle.tl_ast.specs.declared.tree.TestExpr.{TestExpr}
use Rattle.tl_ast.specs.declared.tree.TestExpr.TheVariants as e
use Rattle.tl_ast.specs.declared.tree.TestStmt.{TestStmt}
use Rattle.tl_ast.specs.declared.tree.TestStmt.TheVariants as s
use Rattle.tl_check.specs.Scopes.{child_region}
use Rattle.tl_check.specs.Walk.{Ports}
use Rattle.tl_check.proofs.Unrolled.{fold-Num, fold-Var, fold-Neg, fold-Two, fold-Poke, fold-Peek, fold-Expect, fold-Step, fold-Let, fold-Set, fold-If, fold-While, fold-Repeat, fold-Fork, fold-Join, fold-JoinStep, fold-Driver, fold-ResetFor}
use Rattle.tl_threads.specs.Values.{Name, Expr, level_expr, expr_of}
use Rattle.tl_threads.specs.Values.Expr.{number, variable, minus, two}
use Rattle.tl_threads.specs.Bodies.{Body, Piece, signal_of, level_piece, piece, body_of}
use Rattle.tl_threads.specs.Bodies.Body.{poke_port, peek_port, expect_port, step_by, let_var, if_true, while_true, repeat_by, fork_as, join_of, joinstep_of}

pub expr-Num : (n : ℕ) → expr_of (e.Num n) ≡ number n
expr-Num n = fold-Num Expr level_expr n

pub expr-Var : (x : Name) → expr_of (e.Var x) ≡ variable x
expr-Var x = fold-Var Expr level_expr x

pub expr-Neg : (a : TestExpr) → expr_of (e.Neg a) ≡ minus (expr_of a)
expr-Neg a = fold-Neg Expr level_expr a

pub expr-Two : (op : TestOp) (a b : TestExpr) → expr_of (e.Two op a b) ≡ two op (expr_of a) (expr_of b)
expr-Two op a b = fold-Two Expr level_expr op a b

module _ (ports : Ports) where
  pub piece-Poke : (l : ℕ) (p : Name) (a : TestExpr) (g : Region) (k : Body) → piece ports (s.Poke l p a) g k ≡ poke_port l (signal_of ports p) (expr_of a) k
  piece-Poke l p a g k = ap (λ f. f g k) (fold-Poke Piece (level_piece ports) l p a)

  pub piece-Peek : (l : ℕ) (p : Name) (into : Option Name) (g : Region) (k : Body) → piece ports (s.Peek l p into) g k ≡ peek_port l (signal_of ports p) into k
  piece-Peek l p into g k = ap (λ f. f g k) (fold-Peek Piece (level_piece ports) l p into)

  pub piece-Expect : (l : ℕ) (p : Name) (a : TestExpr) (g : Region) (k : Body) → piece ports (s.Expect l p a) g k ≡ expect_port l (signal_of ports p) (expr_of a) k
  piece-Expect l p a g k = ap (λ f. f g k) (fold-Expect Piece (level_piece ports) l p a)

  pub piece-Step : (l n : ℕ) (g : Region) (k : Body) → piece ports (s.Step l n) g k ≡ step_by l n k
  piece-Step l n g k = ap (λ f. f g k) (fold-Step Piece (level_piece ports) l n)

  pub piece-Let : (l : ℕ) (x : Name) (a : TestExpr) (g : Region) (k : Body) → piece ports (s.Let l x a) g k ≡ let_var l x (expr_of a) k
  piece-Let l x a g k = ap (λ f. f g k) (fold-Let Piece (level_piece ports) l x a)

  pub piece-Set : (l : ℕ) (x : Name) (a : TestExpr) (g : Region) (k : Body) → piece ports (s.Set l x a) g k ≡ let_var l x (expr_of a) k
  piece-Set l x a g k = ap (λ f. f g k) (fold-Set Piece (level_piece ports) l x a)

  pub piece-If : (l : ℕ) (a : TestExpr) (xs ys : List TestStmt) (g : Region) (k : Body) → piece ports (s.If l a xs ys) g k ≡ if_true l (expr_of a) (body_of ports g xs) (body_of ports g ys) k
  piece-If l a xs ys g k = ap (λ f. f g k) (fold-If Piece (level_piece ports) l a xs ys)

  pub piece-While : (l : ℕ) (a : TestExpr) (xs : List TestStmt) (g : Region) (k : Body) → piece ports (s.While l a xs) g k ≡ while_true l (expr_of a) (body_of ports g xs) k
  piece-While l a xs g k = ap (λ f. f g k) (fold-While Piece (level_piece ports) l a xs)

  pub piece-Repeat : (l : ℕ) (a : TestExpr) (xs : List TestStmt) (g : Region) (k : Body) → piece ports (s.Repeat l a xs) g k ≡ repeat_by l (expr_of a) (body_of ports g xs) k
  piece-Repeat l a xs g k = ap (λ f. f g k) (fold-Repeat Piece (level_piece ports) l a xs)

  pub piece-Fork : (l : ℕ) (w : Option Region) (h : Name) (xs : List TestStmt) (g : Region) (k : Body) → piece ports (s.Fork l w h xs) g k ≡ fork_as l (child_region g w) h (body_of ports (child_region g w) xs) k
  piece-Fork l w h xs g k = ap (λ f. f g k) (fold-Fork Piece (level_piece ports) l w h xs)

  pub piece-Join : (l : ℕ) (h : Name) (g : Region) (k : Body) → piece ports (s.Join l h) g k ≡ join_of l h k
  piece-Join l h g k = ap (λ f. f g k) (fold-Join Piece (level_piece ports) l h)

  pub piece-JoinStep : (l : ℕ) (h : Name) (g : Region) (k : Body) → piece ports (s.JoinStep l h) g k ≡ joinstep_of l h k
  piece-JoinStep l h g k = ap (λ f. f g k) (fold-JoinStep Piece (level_piece ports) l h)

  pub piece-Driver : (l : ℕ) (kind : DriverKind) (p : Name) (xs : List TestExpr) (g : Region) (k : Body) → piece ports (s.Driver l kind p xs) g k ≡ k
  piece-Driver l kind p xs g k = ap (λ f. f g k) (fold-Driver Piece (level_piece ports) l kind p xs)

  pub piece-ResetFor : (l n : ℕ) (g : Region) (k : Body) → piece ports (s.ResetFor l n) g k ≡ k
  piece-ResetFor l n g k = ap (λ f. f g k) (fold-ResetFor Piece (level_piece ports) l n)

-- pieces and expressions, each by its variant
pub ruleset laid_out = (expr-Num, expr-Var, expr-Neg, expr-Two, piece-Poke, piece-Peek, piece-Expect, piece-Step, piece-Let, piece-Set, piece-If, piece-While, piece-Repeat, piece-Fork, piece-Join, piece-JoinStep, piece-Driver, piece-ResetFor)
