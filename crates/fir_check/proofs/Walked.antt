-- A statement that was told of, and what stands behind it.
use Rattle.std.proofs.Common.{ℕ, ◌≡◌, Option, List, map, refl, sym, ap, ◌∙◌, subst}
use Rattle.fir_ast.specs.declared.tree.Module.{Module}
use Rattle.fir_ast.specs.declared.tree.Expr.{Expr}
use Rattle.fir_ast.specs.declared.tree.Stmt.{Stmt, map-Stmt}
use Rattle.fir_ast.specs.declared.tree.Stmt.TheVariants as stmt
use Rattle.fir_ast.specs.declared.tree.Stmt.TheViews.{roll-Stmt, out-Stmt, roll-out-Stmt, out-roll-Stmt}
use Rattle.fir_ast.specs.declared.tree.Stmt.TheVariants.{rolls-When}
use Rattle.fir_ast.specs.declared.tree.Stmt.TheOpen.{Stmt-F, Wire, Node, Reg, Inst, Connect, Invalid, When, Skip, Verif}
use Rattle.fir_check.specs.declared.best.Rule.{Rule}
use Rattle.fir_check.specs.declared.best.Rule.TheVariants.{NoMain, DoubleName, UnknownName, WrongKind, WrongFlow, ClockUse, InstanceCycle}
use Rattle.fir_check.specs.declared.broken.Broken.{Broken}
use Rattle.fir_check.specs.Scopes.{Known, Walk, behind, in_block, line_of, stmt_found}
use Rattle.fir_check.specs.Places.{lowered}
use Rattle.fir_check.specs.Walking.{stmt_rule, breaks, broken_lines_of, Walked, Told, idle, head_of, names_behind}
use Rattle.fir_check.proofs.Walks.{walked_stmt, walked_after}
use Rattle.fir_check.proofs.Heads.{head-When}

-- no rule looks at what stands in a statement
told_whatever : (modules : List Module) (m : Module) (k : List Known) (b : Broken) (f g : Stmt → Walk) (x : Stmt-F Stmt) → Told modules m k (map-Stmt Stmt Walk f x) b → Told modules m k (map-Stmt Stmt Walk g x) b
told_whatever modules m k b f g (Wire l n t) w = w
told_whatever modules m k b f g (Node l n e) w = w
told_whatever modules m k b f g (Reg l n t c r) w = w
told_whatever modules m k b f g (Inst l n t) w = w
told_whatever modules m k b f g (Connect l s e) w = w
told_whatever modules m k b f g (Invalid l s) w = w
told_whatever modules m k b f g (When l c xs ys) w = record { double = w.double; unknown = w.unknown; wrong = w.wrong; flow = w.flow; clock = w.clock }
told_whatever modules m k b f g (Skip l) w = w
told_whatever modules m k b f g (Verif l v args code text label) w = w

line_whatever : (f g : Stmt → Walk) (x : Stmt-F Stmt) → line_of (map-Stmt Stmt Walk f x) ≡ line_of (map-Stmt Stmt Walk g x)
line_whatever f g (Wire l n t) = refl
line_whatever f g (Node l n e) = refl
line_whatever f g (Reg l n t c r) = refl
line_whatever f g (Inst l n t) = refl
line_whatever f g (Connect l s e) = refl
line_whatever f g (Invalid l s) = refl
line_whatever f g (When l c xs ys) = refl
line_whatever f g (Skip l) = refl
line_whatever f g (Verif l v args code text label) = refl

pub told_rule : (modules : List Module) (m : Module) (k : List Known) (s : Stmt-F Walk) (b : Broken) (r : Rule) → Told modules m k s b → breaks b r ≡ stmt_rule modules m r k s
told_rule modules m k s b NoMain w = refl
told_rule modules m k s b DoubleName w = w.double
told_rule modules m k s b UnknownName w = w.unknown
told_rule modules m k s b WrongKind w = w.wrong
told_rule modules m k s b WrongFlow w = w.flow
told_rule modules m k s b ClockUse w = w.clock
told_rule modules m k s b InstanceCycle w = refl

-- a statement with what stands behind it
pub walked_told : (modules : List Module) (m : Module) (s : Stmt) (told : Broken) (line : ℕ) (k l : List Known) (a b c : Option ℕ) → Told modules m k (head_of s) told → line ≡ line_of (head_of s)
    → b ≡ lowered a (broken_lines_of told line) → Walked modules m (λ rule. behind modules (map-Stmt Stmt Walk (stmt_found modules rule) (out-Stmt s))) k b l c
    → Walked modules m (λ rule. stmt_found modules rule s) k a l c
walked_told modules m s told line k l a b c t n e w =
    subst (λ (x : Stmt). Walked modules m (λ rule. stmt_found modules rule x) k a l c) (roll-out-Stmt s)
    (walked_stmt modules m (out-Stmt s) told line k l a b c
    (λ r. told_rule modules m k _ told r (told_whatever modules m k told (λ _. idle) (stmt_found modules (stmt_rule modules m r)) (out-Stmt s) t))
    (λ rule. n ∙ line_whatever (λ _. idle) (stmt_found modules rule) (out-Stmt s)) e w)

-- what stands behind a `when` is its blocks
out_when : (s : Stmt) (l : ℕ) (c : Expr) (xs ys : List Stmt) → s ≡ stmt.When l c xs ys → out-Stmt s ≡ When l c xs ys
out_when s l c xs ys e = ap out-Stmt (e ∙ sym (rolls-When l c xs ys)) ∙ out-roll-Stmt (When l c xs ys)

pub walked_when : (modules : List Module) (m : Module) (s : Stmt) (l : ℕ) (c : Expr) (xs ys us vs : List Stmt) (told : Broken) (line : ℕ) (j k p q : List Known) (a b d e : Option ℕ)
    → s ≡ stmt.When l c xs ys → us ≡ xs → vs ≡ ys
    → Told modules m j (head_of s) told → line ≡ line_of (head_of s) → b ≡ lowered a (broken_lines_of told line) → k ≡ names_behind modules j (head_of s)
    → Walked modules m (λ rule. in_block (map (stmt_found modules rule) us)) k b p d → Walked modules m (λ rule. in_block (map (stmt_found modules rule) vs)) p d q e
    → Walked modules m (λ rule. stmt_found modules rule s) j a q e
walked_when modules m s l c xs ys us vs told line j k p q a b d e is u v t n o names w z =
    let same : k ≡ j = names ∙ ap (names_behind modules j) (ap head_of is ∙ head-When l c xs ys) in
    let first : Walked modules m (λ rule. in_block (map (stmt_found modules rule) xs)) j b p d =
    subst (λ (x : List Known). Walked modules m (λ rule. in_block (map (stmt_found modules rule) xs)) x b p d) same (subst (λ (x : List Stmt). Walked modules m (λ rule. in_block (map (stmt_found modules rule) x)) k b p d) u w) in
    let second : Walked modules m (λ rule. in_block (map (stmt_found modules rule) ys)) p d q e = subst (λ (x : List Stmt). Walked modules m (λ rule. in_block (map (stmt_found modules rule) x)) p d q e) v z in
    walked_told modules m s told line j q a b e t n o
    (subst (λ (x : Stmt-F Stmt). Walked modules m (λ rule. behind modules (map-Stmt Stmt Walk (stmt_found modules rule) x)) j b q e) (sym (out_when s l c xs ys is))
    (walked_after modules m (λ rule. in_block (map (stmt_found modules rule) xs)) (λ rule. in_block (map (stmt_found modules rule) ys)) j p q b d e first second))

-- no block stands in any other statement

leaf_behind : (modules : List Module) (m : Module) (x : Stmt-F Stmt) (j : List Known) (a : Option ℕ) → ((l : ℕ) (c : Expr) (xs ys : List Stmt) → x ≡ When l c xs ys → ⊥)
    → Walked modules m (λ rule. behind modules (map-Stmt Stmt Walk (stmt_found modules rule) x)) j a (names_behind modules j (map-Stmt Stmt Walk (λ _. idle) x)) a
leaf_behind modules m (Wire l n t) j a p = record { names = λ rule. refl; place = refl }
leaf_behind modules m (Node l n e) j a p = record { names = λ rule. refl; place = refl }
leaf_behind modules m (Reg l n t c r) j a p = record { names = λ rule. refl; place = refl }
leaf_behind modules m (Inst l n t) j a p = record { names = λ rule. refl; place = refl }
leaf_behind modules m (Connect l s e) j a p = record { names = λ rule. refl; place = refl }
leaf_behind modules m (Invalid l s) j a p = record { names = λ rule. refl; place = refl }
leaf_behind modules m (When l c xs ys) j a p = absurd (p l c xs ys refl)
leaf_behind modules m (Skip l) j a p = record { names = λ rule. refl; place = refl }
leaf_behind modules m (Verif l v args code text label) j a p = record { names = λ rule. refl; place = refl }

pub walked_leaf : (modules : List Module) (m : Module) (s : Stmt) (told : Broken) (line : ℕ) (j k : List Known) (a b : Option ℕ) → ((l : ℕ) (c : Expr) (xs ys : List Stmt) → s ≡ stmt.When l c xs ys → ⊥)
    → Told modules m j (head_of s) told → line ≡ line_of (head_of s) → b ≡ lowered a (broken_lines_of told line) → k ≡ names_behind modules j (head_of s)
    → Walked modules m (λ rule. stmt_found modules rule s) j a k b
walked_leaf modules m s told line j k a b none t n e names =
    walked_told modules m s told line j k a b b t n e
    (subst (λ (x : List Known). Walked modules m (λ rule. behind modules (map-Stmt Stmt Walk (stmt_found modules rule) (out-Stmt s))) j b x b) (sym names)
    (leaf_behind modules m (out-Stmt s) j b (λ l c xs ys q. none l c xs ys (sym (roll-out-Stmt s) ∙ ap roll-Stmt q ∙ rolls-When l c xs ys))))
