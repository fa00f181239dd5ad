-- Instructions that compare as equal are equal.
use Rattle.std.proofs.Common.{◌≡◌, ℕ, List, [], ◌∷◌, Bool, true, false, ◌&&◌, Some, None, nat_eq, refl, sym, ap, ap₂, ◌∙◌, eqb-true}
use Rattle.std.specs.Bool.{Decides}
use Rattle.std.specs.Cmp.Lexicographic.{pointwise}
use Rattle.tb_base.specs.declared.path.Region.{Region}
use Rattle.tb_base.specs.declared.path.Region.TheVariants.{Main, Monitor}
use Rattle.tb_base.specs.contracts.path.RegionPartialEq.TheImpl as region
use Rattle.net_core.specs.declared.ports.Signal.{Signal}
use Rattle.net_core.specs.contracts.ports.SignalPartialEq.TheImpl as signal
use Rattle.tl_ast.specs.declared.tree.TestOp.{TestOp}
use Rattle.tl_ast.specs.declared.tree.TestOp.TheVariants.{Add, Sub, Mul, And, Or, Xor, Shl, Shr, Eq, Neq, Lt, Leq, Gt, Geq}
use Rattle.tl_ast.specs.contracts.tree.TestOpPartialEq.TheImpl as op
use Rattle.tl_threads.specs.declared.code.Item.{Item}
use Rattle.tl_threads.specs.declared.code.Item.TheVariants.{Number, Slot, Negate, Apply}
use Rattle.tl_threads.specs.contracts.code.ItemPartialEq.TheImpl as item
use Rattle.tl_threads.specs.declared.code.Instr.{Instr}
use Rattle.tl_threads.specs.declared.code.Instr.TheVariants as i
use Rattle.tl_threads.specs.contracts.code.InstrPartialEq.TheImpl as instr
use Rattle.tl_threads.specs.contracts.code.InstrEq.TheImpl.Laws as instr_laws

and_parts : (a b : Bool) → (a && b) ≡ true → (a ≡ true) × (b ≡ true)
and_parts true b e = (refl, e)
and_parts false b e = absurd (cc)

apart : {A : Type 0} → false ≡ true → A
apart e = absurd (cc)

same_op : (a b : TestOp) → (op.ghosts).eq a b ≡ true → a ≡ b
same_op Add Add e = refl
same_op Sub Sub e = refl
same_op Mul Mul e = refl
same_op And And e = refl
same_op Or Or e = refl
same_op Xor Xor e = refl
same_op Shl Shl e = refl
same_op Shr Shr e = refl
same_op Eq Eq e = refl
same_op Neq Neq e = refl
same_op Lt Lt e = refl
same_op Leq Leq e = refl
same_op Gt Gt e = refl
same_op Geq Geq e = refl
same_op _ _ e = apart e

same_region : (a b : Region) → (region.ghosts).eq a b ≡ true → a ≡ b
same_region Main Main e = refl
same_region Monitor Monitor e = refl
same_region _ _ e = apart e

same_signal : (a b : Signal) → (signal.ghosts).eq a b ≡ true → a ≡ b
same_signal a b e = let t : nat_eq a.0 b.0 ≡ true = e in ap (λ (n : ℕ). record { 0 = n }) (eqb-true a.0 b.0 t)

same_item : (a b : Item) → (item.ghosts).eq a b ≡ true → a ≡ b
same_item (Number n) (Number m) e = let t : nat_eq n m ≡ true = e in ap Number (eqb-true n m t)
same_item (Slot n) (Slot m) e = let t : nat_eq n m ≡ true = e in ap Slot (eqb-true n m t)
same_item Negate Negate e = refl
same_item (Apply a) (Apply b) e = ap Apply (same_op a b e)
same_item _ _ e = apart e

same_items : (a b : List Item) → pointwise ((item.ghosts).eq) a b ≡ true → a ≡ b
same_items [] [] e = refl
same_items [] (y ∷ b) e = absurd (cc)
same_items (x ∷ a) [] e = absurd (cc)
same_items (x ∷ a) (y ∷ b) e = let p = and_parts ((item.ghosts).eq x y) (pointwise ((item.ghosts).eq) a b) e in ap₂ (λ z w. z ∷ w) (same_item x y p.0) (same_items a b p.1)

-- a number in front of other parts, and an operand in front of a place
numbered : (l m : ℕ) (b : Bool) → (nat_eq l m && b) ≡ true → (l ≡ m) × (b ≡ true)
numbered l m b e = let p = and_parts (nat_eq l m) b e in (eqb-true l m p.0, p.1)

items_then : (o r : List Item) (p q : ℕ) → (pointwise ((item.ghosts).eq) o r && nat_eq p q) ≡ true → (o ≡ r) × (p ≡ q)
items_then o r p q e = let t = and_parts (pointwise ((item.ghosts).eq) o r) (nat_eq p q) e in (same_items o r t.0, eqb-true p q t.1)

port_then : (p q : Signal) (b : Bool) → ((signal.ghosts).eq p q && b) ≡ true → (p ≡ q) × (b ≡ true)
port_then p q b e = let t = and_parts ((signal.ghosts).eq p q) b e in (same_signal p q t.0, t.1)

same_instr : (a b : Instr) → (instr.ghosts).eq a b ≡ true → a ≡ b
same_instr (i.Poke l p o) (i.Poke m q r) e =
    let t = numbered l m ((signal.ghosts).eq p q && pointwise ((item.ghosts).eq) o r) e in
    let u = port_then p q (pointwise ((item.ghosts).eq) o r) t.1 in
    let w : o ≡ r = same_items o r u.1 in cc
same_instr (i.Peek l p None) (i.Peek m q None) e =
    let t = numbered l m ((signal.ghosts).eq p q && true) e in let u = port_then p q true t.1 in cc
same_instr (i.Peek l p (Some x)) (i.Peek m q (Some y)) e =
    let t = numbered l m ((signal.ghosts).eq p q && nat_eq x y) e in let u = port_then p q (nat_eq x y) t.1 in let w : x ≡ y = eqb-true x y u.1 in cc
same_instr (i.Peek l p None) (i.Peek m q (Some y)) e =
    let t = numbered l m ((signal.ghosts).eq p q && false) e in let u = port_then p q false t.1 in absurd (cc)
same_instr (i.Peek l p (Some x)) (i.Peek m q None) e =
    let t = numbered l m ((signal.ghosts).eq p q && false) e in let u = port_then p q false t.1 in absurd (cc)
same_instr (i.Expect l p o) (i.Expect m q r) e =
    let t = numbered l m ((signal.ghosts).eq p q && pointwise ((item.ghosts).eq) o r) e in
    let u = port_then p q (pointwise ((item.ghosts).eq) o r) t.1 in
    let w : o ≡ r = same_items o r u.1 in cc
same_instr (i.Step l n) (i.Step m k) e = let t = numbered l m (nat_eq n k) e in let u : n ≡ k = eqb-true n k t.1 in cc
same_instr (i.Store l x o) (i.Store m y r) e =
    let t = numbered l m (nat_eq x y && pointwise ((item.ghosts).eq) o r) e in
    let u = numbered x y (pointwise ((item.ghosts).eq) o r) t.1 in
    let w : o ≡ r = same_items o r u.1 in cc
same_instr (i.Goto l) (i.Goto m) e = let t : nat_eq l m ≡ true = e in ap i.Goto (eqb-true l m t)
same_instr (i.Unless l o p) (i.Unless m r q) e =
    let t = numbered l m (pointwise ((item.ghosts).eq) o r && nat_eq p q) e in let u = items_then o r p q t.1 in cc
same_instr (i.Enter l o p) (i.Enter m r q) e =
    let t = numbered l m (pointwise ((item.ghosts).eq) o r && nat_eq p q) e in let u = items_then o r p q t.1 in cc
same_instr (i.Turn l o p) (i.Turn m r q) e =
    let t = numbered l m (pointwise ((item.ghosts).eq) o r && nat_eq p q) e in let u = items_then o r p q t.1 in cc
same_instr (i.Count l o p) (i.Count m r q) e =
    let t = numbered l m (pointwise ((item.ghosts).eq) o r && nat_eq p q) e in let u = items_then o r p q t.1 in cc
same_instr (i.Again l p) (i.Again m q) e = let t = numbered l m (nat_eq p q) e in let u : p ≡ q = eqb-true p q t.1 in cc
same_instr (i.Join l p) (i.Join m q) e = let t = numbered l m (nat_eq p q) e in let u : p ≡ q = eqb-true p q t.1 in cc
same_instr (i.JoinStep l p) (i.JoinStep m q) e = let t = numbered l m (nat_eq p q) e in let u : p ≡ q = eqb-true p q t.1 in cc
same_instr (i.Fork l g x p) (i.Fork m k y q) e =
    let t = numbered l m ((region.ghosts).eq g k && (nat_eq x y && nat_eq p q)) e in
    let u = and_parts ((region.ghosts).eq g k) (nat_eq x y && nat_eq p q) t.1 in
    let w : g ≡ k = same_region g k u.0 in
    let z = numbered x y (nat_eq p q) u.1 in
    let v : p ≡ q = eqb-true p q z.1 in cc
same_instr i.End i.End e = refl
same_instr _ _ e = apart e

-- AN INSTRUCTION EQUALS another where `==` says so, and only there
pub instr_decides : (a b : Instr) (r : Bool) → r ≡ (instr.ghosts).eq a b → Decides r (a ≡ b)
instr_decides a b r e = (λ t. same_instr a b (sym e ∙ t), λ s. e ∙ ap ((instr.ghosts).eq a) (sym s) ∙ (instr_laws.laws-law).refl a)
