-- One level of a statement or an expression, at each variant.
use Rattle.std.proofs.Common.{ℕ, Option, List, ◌≡◌, sym, ap, ◌∙◌, map}
use Rattle.tb_base.specs.declared.path.Region.{Region}
use Rattle.tl_ast.specs.declared.tree.TestOp.{TestOp}
use Rattle.tl_ast.specs.declared.tree.DriverKind.{DriverKind}
use Rattle.tl_ast.specs.declared.tree.TestExpr.{TestExpr}
use Rattle.tl_ast.specs.declared.tree.TestExpr.TheFolds.{fold-TestExpr, fold-roll-TestExpr}
use Rattle.tl_ast.specs.declared.tree.TestExpr.TheViews.{out-TestExpr, out-roll-TestExpr}
use Rattle.tl_ast.specs.declared.tree.TestExpr.TheOpen as E
use Rattle.tl_ast.specs.declared.tree.TestExpr.TheOpen.{TestExpr-F}
use Rattle.tl_ast.specs.declared.tree.TestExpr.TheVariants.{Num, Var, Neg, Two, rolls-Num, rolls-Var, rolls-Neg, rolls-Two}
use Rattle.tl_ast.specs.declared.tree.TestStmt.{TestStmt}
use Rattle.tl_ast.specs.declared.tree.TestStmt.TheFolds.{fold-TestStmt, fold-roll-TestStmt}
use Rattle.tl_ast.specs.declared.tree.TestStmt.TheViews.{out-TestStmt, out-roll-TestStmt}
use Rattle.tl_ast.specs.declared.tree.TestStmt.TheOpen as S
use Rattle.tl_ast.specs.declared.tree.TestStmt.TheOpen.{TestStmt-F}
use Rattle.tl_ast.specs.declared.tree.TestStmt.TheVariants.{Poke, Peek, Expect, Step, Let, Set, If, While, Repeat, Fork, Join, JoinStep, Driver, ResetFor, rolls-Poke, rolls-Peek, rolls-Expect, rolls-Step, rolls-Let, rolls-Set, rolls-If, rolls-While, rolls-Repeat, rolls-Fork, rolls-Join, rolls-JoinStep, rolls-Driver, rolls-ResetFor}

pub fold-Num : (A : Type 0) (f : TestExpr-F A → A) (n : ℕ) → fold-TestExpr A f (Num n) ≡ f (E.Num n)
fold-Num A f n = ap (fold-TestExpr A f) (sym (rolls-Num n)) ∙ fold-roll-TestExpr A f (E.Num n)

pub out-Num : (n : ℕ) → out-TestExpr (Num n) ≡ E.Num n
out-Num n = ap out-TestExpr (sym (rolls-Num n)) ∙ out-roll-TestExpr (E.Num n)

pub fold-Var : (A : Type 0) (f : TestExpr-F A → A) (name : List ℕ) → fold-TestExpr A f (Var name) ≡ f (E.Var name)
fold-Var A f name = ap (fold-TestExpr A f) (sym (rolls-Var name)) ∙ fold-roll-TestExpr A f (E.Var name)

pub out-Var : (name : List ℕ) → out-TestExpr (Var name) ≡ E.Var name
out-Var name = ap out-TestExpr (sym (rolls-Var name)) ∙ out-roll-TestExpr (E.Var name)

pub fold-Neg : (A : Type 0) (f : TestExpr-F A → A) (e : TestExpr) → fold-TestExpr A f (Neg e) ≡ f (E.Neg (fold-TestExpr A f e))
fold-Neg A f e = ap (fold-TestExpr A f) (sym (rolls-Neg e)) ∙ fold-roll-TestExpr A f (E.Neg e)

pub out-Neg : (e : TestExpr) → out-TestExpr (Neg e) ≡ E.Neg e
out-Neg e = ap out-TestExpr (sym (rolls-Neg e)) ∙ out-roll-TestExpr (E.Neg e)

pub fold-Two : (A : Type 0) (f : TestExpr-F A → A) (op : TestOp) (a : TestExpr) (b : TestExpr) → fold-TestExpr A f (Two op a b) ≡ f (E.Two op (fold-TestExpr A f a) (fold-TestExpr A f b))
fold-Two A f op a b = ap (fold-TestExpr A f) (sym (rolls-Two op a b)) ∙ fold-roll-TestExpr A f (E.Two op a b)

pub out-Two : (op : TestOp) (a : TestExpr) (b : TestExpr) → out-TestExpr (Two op a b) ≡ E.Two op a b
out-Two op a b = ap out-TestExpr (sym (rolls-Two op a b)) ∙ out-roll-TestExpr (E.Two op a b)

pub fold-Poke : (A : Type 0) (f : TestStmt-F A → A) (l : ℕ) (port : List ℕ) (value : TestExpr) → fold-TestStmt A f (Poke l port value) ≡ f (S.Poke l port value)
fold-Poke A f l port value = ap (fold-TestStmt A f) (sym (rolls-Poke l port value)) ∙ fold-roll-TestStmt A f (S.Poke l port value)

pub out-Poke : (l : ℕ) (port : List ℕ) (value : TestExpr) → out-TestStmt (Poke l port value) ≡ S.Poke l port value
out-Poke l port value = ap out-TestStmt (sym (rolls-Poke l port value)) ∙ out-roll-TestStmt (S.Poke l port value)

pub fold-Peek : (A : Type 0) (f : TestStmt-F A → A) (l : ℕ) (port : List ℕ) (into : Option (List ℕ)) → fold-TestStmt A f (Peek l port into) ≡ f (S.Peek l port into)
fold-Peek A f l port into = ap (fold-TestStmt A f) (sym (rolls-Peek l port into)) ∙ fold-roll-TestStmt A f (S.Peek l port into)

pub out-Peek : (l : ℕ) (port : List ℕ) (into : Option (List ℕ)) → out-TestStmt (Peek l port into) ≡ S.Peek l port into
out-Peek l port into = ap out-TestStmt (sym (rolls-Peek l port into)) ∙ out-roll-TestStmt (S.Peek l port into)

pub fold-Expect : (A : Type 0) (f : TestStmt-F A → A) (l : ℕ) (port : List ℕ) (value : TestExpr) → fold-TestStmt A f (Expect l port value) ≡ f (S.Expect l port value)
fold-Expect A f l port value = ap (fold-TestStmt A f) (sym (rolls-Expect l port value)) ∙ fold-roll-TestStmt A f (S.Expect l port value)

pub out-Expect : (l : ℕ) (port : List ℕ) (value : TestExpr) → out-TestStmt (Expect l port value) ≡ S.Expect l port value
out-Expect l port value = ap out-TestStmt (sym (rolls-Expect l port value)) ∙ out-roll-TestStmt (S.Expect l port value)

pub fold-Step : (A : Type 0) (f : TestStmt-F A → A) (l : ℕ) (count : ℕ) → fold-TestStmt A f (Step l count) ≡ f (S.Step l count)
fold-Step A f l count = ap (fold-TestStmt A f) (sym (rolls-Step l count)) ∙ fold-roll-TestStmt A f (S.Step l count)

pub out-Step : (l : ℕ) (count : ℕ) → out-TestStmt (Step l count) ≡ S.Step l count
out-Step l count = ap out-TestStmt (sym (rolls-Step l count)) ∙ out-roll-TestStmt (S.Step l count)

pub fold-Let : (A : Type 0) (f : TestStmt-F A → A) (l : ℕ) (name : List ℕ) (value : TestExpr) → fold-TestStmt A f (Let l name value) ≡ f (S.Let l name value)
fold-Let A f l name value = ap (fold-TestStmt A f) (sym (rolls-Let l name value)) ∙ fold-roll-TestStmt A f (S.Let l name value)

pub out-Let : (l : ℕ) (name : List ℕ) (value : TestExpr) → out-TestStmt (Let l name value) ≡ S.Let l name value
out-Let l name value = ap out-TestStmt (sym (rolls-Let l name value)) ∙ out-roll-TestStmt (S.Let l name value)

pub fold-Set : (A : Type 0) (f : TestStmt-F A → A) (l : ℕ) (name : List ℕ) (value : TestExpr) → fold-TestStmt A f (Set l name value) ≡ f (S.Set l name value)
fold-Set A f l name value = ap (fold-TestStmt A f) (sym (rolls-Set l name value)) ∙ fold-roll-TestStmt A f (S.Set l name value)

pub out-Set : (l : ℕ) (name : List ℕ) (value : TestExpr) → out-TestStmt (Set l name value) ≡ S.Set l name value
out-Set l name value = ap out-TestStmt (sym (rolls-Set l name value)) ∙ out-roll-TestStmt (S.Set l name value)

pub fold-If : (A : Type 0) (f : TestStmt-F A → A) (l : ℕ) (cond : TestExpr) (taken : List TestStmt) (other : List TestStmt) → fold-TestStmt A f (If l cond taken other) ≡ f (S.If l cond (map (fold-TestStmt A f) taken) (map (fold-TestStmt A f) other))
fold-If A f l cond taken other = ap (fold-TestStmt A f) (sym (rolls-If l cond taken other)) ∙ fold-roll-TestStmt A f (S.If l cond taken other)

pub out-If : (l : ℕ) (cond : TestExpr) (taken : List TestStmt) (other : List TestStmt) → out-TestStmt (If l cond taken other) ≡ S.If l cond taken other
out-If l cond taken other = ap out-TestStmt (sym (rolls-If l cond taken other)) ∙ out-roll-TestStmt (S.If l cond taken other)

pub fold-While : (A : Type 0) (f : TestStmt-F A → A) (l : ℕ) (cond : TestExpr) (body : List TestStmt) → fold-TestStmt A f (While l cond body) ≡ f (S.While l cond (map (fold-TestStmt A f) body))
fold-While A f l cond body = ap (fold-TestStmt A f) (sym (rolls-While l cond body)) ∙ fold-roll-TestStmt A f (S.While l cond body)

pub out-While : (l : ℕ) (cond : TestExpr) (body : List TestStmt) → out-TestStmt (While l cond body) ≡ S.While l cond body
out-While l cond body = ap out-TestStmt (sym (rolls-While l cond body)) ∙ out-roll-TestStmt (S.While l cond body)

pub fold-Repeat : (A : Type 0) (f : TestStmt-F A → A) (l : ℕ) (count : TestExpr) (body : List TestStmt) → fold-TestStmt A f (Repeat l count body) ≡ f (S.Repeat l count (map (fold-TestStmt A f) body))
fold-Repeat A f l count body = ap (fold-TestStmt A f) (sym (rolls-Repeat l count body)) ∙ fold-roll-TestStmt A f (S.Repeat l count body)

pub out-Repeat : (l : ℕ) (count : TestExpr) (body : List TestStmt) → out-TestStmt (Repeat l count body) ≡ S.Repeat l count body
out-Repeat l count body = ap out-TestStmt (sym (rolls-Repeat l count body)) ∙ out-roll-TestStmt (S.Repeat l count body)

pub fold-Fork : (A : Type 0) (f : TestStmt-F A → A) (l : ℕ) (region : Option Region) (handle : List ℕ) (body : List TestStmt) → fold-TestStmt A f (Fork l region handle body) ≡ f (S.Fork l region handle (map (fold-TestStmt A f) body))
fold-Fork A f l region handle body = ap (fold-TestStmt A f) (sym (rolls-Fork l region handle body)) ∙ fold-roll-TestStmt A f (S.Fork l region handle body)

pub out-Fork : (l : ℕ) (region : Option Region) (handle : List ℕ) (body : List TestStmt) → out-TestStmt (Fork l region handle body) ≡ S.Fork l region handle body
out-Fork l region handle body = ap out-TestStmt (sym (rolls-Fork l region handle body)) ∙ out-roll-TestStmt (S.Fork l region handle body)

pub fold-Join : (A : Type 0) (f : TestStmt-F A → A) (l : ℕ) (handle : List ℕ) → fold-TestStmt A f (Join l handle) ≡ f (S.Join l handle)
fold-Join A f l handle = ap (fold-TestStmt A f) (sym (rolls-Join l handle)) ∙ fold-roll-TestStmt A f (S.Join l handle)

pub out-Join : (l : ℕ) (handle : List ℕ) → out-TestStmt (Join l handle) ≡ S.Join l handle
out-Join l handle = ap out-TestStmt (sym (rolls-Join l handle)) ∙ out-roll-TestStmt (S.Join l handle)

pub fold-JoinStep : (A : Type 0) (f : TestStmt-F A → A) (l : ℕ) (handle : List ℕ) → fold-TestStmt A f (JoinStep l handle) ≡ f (S.JoinStep l handle)
fold-JoinStep A f l handle = ap (fold-TestStmt A f) (sym (rolls-JoinStep l handle)) ∙ fold-roll-TestStmt A f (S.JoinStep l handle)

pub out-JoinStep : (l : ℕ) (handle : List ℕ) → out-TestStmt (JoinStep l handle) ≡ S.JoinStep l handle
out-JoinStep l handle = ap out-TestStmt (sym (rolls-JoinStep l handle)) ∙ out-roll-TestStmt (S.JoinStep l handle)

pub fold-Driver : (A : Type 0) (f : TestStmt-F A → A) (l : ℕ) (kind : DriverKind) (port : List ℕ) (values : List TestExpr) → fold-TestStmt A f (Driver l kind port values) ≡ f (S.Driver l kind port values)
fold-Driver A f l kind port values = ap (fold-TestStmt A f) (sym (rolls-Driver l kind port values)) ∙ fold-roll-TestStmt A f (S.Driver l kind port values)

pub out-Driver : (l : ℕ) (kind : DriverKind) (port : List ℕ) (values : List TestExpr) → out-TestStmt (Driver l kind port values) ≡ S.Driver l kind port values
out-Driver l kind port values = ap out-TestStmt (sym (rolls-Driver l kind port values)) ∙ out-roll-TestStmt (S.Driver l kind port values)

pub fold-ResetFor : (A : Type 0) (f : TestStmt-F A → A) (l : ℕ) (count : ℕ) → fold-TestStmt A f (ResetFor l count) ≡ f (S.ResetFor l count)
fold-ResetFor A f l count = ap (fold-TestStmt A f) (sym (rolls-ResetFor l count)) ∙ fold-roll-TestStmt A f (S.ResetFor l count)

pub out-ResetFor : (l : ℕ) (count : ℕ) → out-TestStmt (ResetFor l count) ≡ S.ResetFor l count
out-ResetFor l count = ap out-TestStmt (sym (rolls-ResetFor l count)) ∙ out-roll-TestStmt (S.ResetFor l count)

-- each of them
pub ruleset unrolled = (fold-Num, fold-Var, fold-Neg, fold-Two, fold-Poke, fold-Peek, fold-Expect, fold-Step, fold-Let, fold-Set, fold-If, fold-While, fold-Repeat, fold-Fork, fold-Join, fold-JoinStep, fold-Driver, fold-ResetFor, out-Num, out-Var, out-Neg, out-Two, out-Poke, out-Peek, out-Expect, out-Step, out-Let, out-Set, out-If, out-While, out-Repeat, out-Fork, out-Join, out-JoinStep, out-Driver, out-ResetFor)
