-- The printed form of the tree, an equation for each variant.
use Rattle.std.proofs.Common.{◌≡◌, ℕ, List, ◌++◌, sym, ap, ◌∙◌, map}
use Rattle.std.specs.Prelude.{Option, nat_lt, codes}
use Rattle.std.specs.Fmt.{decimal}
use Rattle.tb_base.specs.declared.path.Region.{Region}
use Rattle.tl_ast.specs.declared.tree.TestOp.{TestOp}
use Rattle.tl_ast.specs.declared.tree.DriverKind.{DriverKind}
use Rattle.tl_ast.specs.declared.tree.TestExpr.{TestExpr}
use Rattle.tl_ast.specs.declared.tree.TestExpr.TheFolds.{fold-roll-TestExpr}
use Rattle.tl_ast.specs.declared.tree.TestExpr.TheOpen as E
use Rattle.tl_ast.specs.declared.tree.TestExpr.TheVariants.{Num, Var, Neg, Two, rolls-Num, rolls-Var, rolls-Neg, rolls-Two}
use Rattle.tl_ast.specs.declared.tree.TestStmt.{TestStmt}
use Rattle.tl_ast.specs.declared.tree.TestStmt.TheFolds.{fold-roll-TestStmt}
use Rattle.tl_ast.specs.declared.tree.TestStmt.TheOpen as S
use Rattle.tl_ast.specs.declared.tree.TestStmt.TheVariants.{Poke, Peek, Expect, Step, Let, Set, If, While, Repeat, Fork, Join, JoinStep, Driver, ResetFor, rolls-Poke, rolls-Peek, rolls-Expect, rolls-Step, rolls-Let, rolls-Set, rolls-If, rolls-While, rolls-Repeat, rolls-Fork, rolls-Join, rolls-JoinStep, rolls-Driver, rolls-ResetFor}
use Rattle.tl_ast.specs.Printed.{op_text, tightness, left_asks, right_asks, minus_asks, opening, closing, expr_level, operand_text, expr_text, value_words, peek_words, fork_words, driver_words, ended, braced, if_text, stmt_level, stmt_text}

-- expressions, in a place that asks for the tightness t

pub num_text : (n : ℕ) (t : ℕ) → operand_text (Num n) t ≡ decimal n
num_text n t = ap (λ e. operand_text e t) (sym (rolls-Num n)) ∙ ap (λ f. f t) (fold-roll-TestExpr (ℕ → List ℕ) expr_level (E.Num n))

pub var_text : (name : List ℕ) (t : ℕ) → operand_text (Var name) t ≡ name
var_text name t = ap (λ e. operand_text e t) (sym (rolls-Var name)) ∙ ap (λ f. f t) (fold-roll-TestExpr (ℕ → List ℕ) expr_level (E.Var name))

pub neg_text : (e : TestExpr) (t : ℕ) → operand_text (Neg e) t ≡ codes "- " ++ operand_text e minus_asks
neg_text e t = ap (λ e. operand_text e t) (sym (rolls-Neg e)) ∙ ap (λ f. f t) (fold-roll-TestExpr (ℕ → List ℕ) expr_level (E.Neg e))

pub two_text : (op : TestOp) (a : TestExpr) (b : TestExpr) (t : ℕ) → operand_text (Two op a b) t ≡ opening (nat_lt (tightness op) t) ++ (operand_text a (left_asks op) ++ (codes " " ++ (op_text op ++ (codes " " ++ (operand_text b (right_asks op) ++ closing (nat_lt (tightness op) t))))))
two_text op a b t = ap (λ e. operand_text e t) (sym (rolls-Two op a b)) ∙ ap (λ f. f t) (fold-roll-TestExpr (ℕ → List ℕ) expr_level (E.Two op a b))

-- statements, at the indentation i

pub poke_text : (l : ℕ) (port : List ℕ) (value : TestExpr) (i : List ℕ) → stmt_text (Poke l port value) i ≡ ended i (value_words (codes "poke ") port (codes " = ") value)
poke_text l port value i = ap (λ s. stmt_text s i) (sym (rolls-Poke l port value)) ∙ ap (λ f. f i) (fold-roll-TestStmt (List ℕ → List ℕ) stmt_level (S.Poke l port value))

pub peek_text : (l : ℕ) (port : List ℕ) (into : Option (List ℕ)) (i : List ℕ) → stmt_text (Peek l port into) i ≡ ended i (peek_words port into)
peek_text l port into i = ap (λ s. stmt_text s i) (sym (rolls-Peek l port into)) ∙ ap (λ f. f i) (fold-roll-TestStmt (List ℕ → List ℕ) stmt_level (S.Peek l port into))

pub expect_text : (l : ℕ) (port : List ℕ) (value : TestExpr) (i : List ℕ) → stmt_text (Expect l port value) i ≡ ended i (value_words (codes "expect ") port (codes " == ") value)
expect_text l port value i = ap (λ s. stmt_text s i) (sym (rolls-Expect l port value)) ∙ ap (λ f. f i) (fold-roll-TestStmt (List ℕ → List ℕ) stmt_level (S.Expect l port value))

pub step_text : (l : ℕ) (count : ℕ) (i : List ℕ) → stmt_text (Step l count) i ≡ ended i (codes "step " ++ decimal count)
step_text l count i = ap (λ s. stmt_text s i) (sym (rolls-Step l count)) ∙ ap (λ f. f i) (fold-roll-TestStmt (List ℕ → List ℕ) stmt_level (S.Step l count))

pub let_text : (l : ℕ) (name : List ℕ) (value : TestExpr) (i : List ℕ) → stmt_text (Let l name value) i ≡ ended i (value_words (codes "let ") name (codes " = ") value)
let_text l name value i = ap (λ s. stmt_text s i) (sym (rolls-Let l name value)) ∙ ap (λ f. f i) (fold-roll-TestStmt (List ℕ → List ℕ) stmt_level (S.Let l name value))

pub set_text : (l : ℕ) (name : List ℕ) (value : TestExpr) (i : List ℕ) → stmt_text (Set l name value) i ≡ ended i (value_words (codes "set ") name (codes " = ") value)
set_text l name value i = ap (λ s. stmt_text s i) (sym (rolls-Set l name value)) ∙ ap (λ f. f i) (fold-roll-TestStmt (List ℕ → List ℕ) stmt_level (S.Set l name value))

pub branches_text : (l : ℕ) (cond : TestExpr) (taken : List TestStmt) (other : List TestStmt) (i : List ℕ) → stmt_text (If l cond taken other) i ≡ if_text i cond (map stmt_text taken) (map stmt_text other)
branches_text l cond taken other i = ap (λ s. stmt_text s i) (sym (rolls-If l cond taken other)) ∙ ap (λ f. f i) (fold-roll-TestStmt (List ℕ → List ℕ) stmt_level (S.If l cond taken other))

pub while_text : (l : ℕ) (cond : TestExpr) (body : List TestStmt) (i : List ℕ) → stmt_text (While l cond body) i ≡ braced i (codes "while " ++ expr_text cond) (map stmt_text body)
while_text l cond body i = ap (λ s. stmt_text s i) (sym (rolls-While l cond body)) ∙ ap (λ f. f i) (fold-roll-TestStmt (List ℕ → List ℕ) stmt_level (S.While l cond body))

pub repeat_text : (l : ℕ) (count : TestExpr) (body : List TestStmt) (i : List ℕ) → stmt_text (Repeat l count body) i ≡ braced i (codes "repeat " ++ expr_text count) (map stmt_text body)
repeat_text l count body i = ap (λ s. stmt_text s i) (sym (rolls-Repeat l count body)) ∙ ap (λ f. f i) (fold-roll-TestStmt (List ℕ → List ℕ) stmt_level (S.Repeat l count body))

pub fork_text : (l : ℕ) (region : Option Region) (handle : List ℕ) (body : List TestStmt) (i : List ℕ) → stmt_text (Fork l region handle body) i ≡ braced i (fork_words region handle) (map stmt_text body)
fork_text l region handle body i = ap (λ s. stmt_text s i) (sym (rolls-Fork l region handle body)) ∙ ap (λ f. f i) (fold-roll-TestStmt (List ℕ → List ℕ) stmt_level (S.Fork l region handle body))

pub join_text : (l : ℕ) (handle : List ℕ) (i : List ℕ) → stmt_text (Join l handle) i ≡ ended i (codes "join " ++ handle)
join_text l handle i = ap (λ s. stmt_text s i) (sym (rolls-Join l handle)) ∙ ap (λ f. f i) (fold-roll-TestStmt (List ℕ → List ℕ) stmt_level (S.Join l handle))

pub joinstep_text : (l : ℕ) (handle : List ℕ) (i : List ℕ) → stmt_text (JoinStep l handle) i ≡ ended i (codes "joinstep " ++ handle)
joinstep_text l handle i = ap (λ s. stmt_text s i) (sym (rolls-JoinStep l handle)) ∙ ap (λ f. f i) (fold-roll-TestStmt (List ℕ → List ℕ) stmt_level (S.JoinStep l handle))

pub driver_text : (l : ℕ) (kind : DriverKind) (port : List ℕ) (values : List TestExpr) (i : List ℕ) → stmt_text (Driver l kind port values) i ≡ ended i (driver_words kind port values)
driver_text l kind port values i = ap (λ s. stmt_text s i) (sym (rolls-Driver l kind port values)) ∙ ap (λ f. f i) (fold-roll-TestStmt (List ℕ → List ℕ) stmt_level (S.Driver l kind port values))

pub reset_text : (l : ℕ) (count : ℕ) (i : List ℕ) → stmt_text (ResetFor l count) i ≡ ended i (codes "reset " ++ decimal count)
reset_text l count i = ap (λ s. stmt_text s i) (sym (rolls-ResetFor l count)) ∙ ap (λ f. f i) (fold-roll-TestStmt (List ℕ → List ℕ) stmt_level (S.ResetFor l count))
