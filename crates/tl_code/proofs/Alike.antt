-- Equal lists, and equal code.
use Rattle.std.proofs.Common.{◌≡◌, ℕ, zero, suc, ◌<◌, List, [], ◌∷◌, length, take, Option, Some, None, slice_get, refl, sym, ap, ◌∙◌, arith, Bool, true, ◌↔◌}
use Rattle.tl_threads.specs.Bodies.{test_body}
use Rattle.tl_threads.specs.Code.{test_code}
use Rattle.tl_threads.specs.Allowed.{most_vars, most_handles}
use Rattle.tl_check.specs.Checked.{TestFor}
use Rattle.tl_check.specs.Walk.{Ports}
use Rattle.tl_ast.specs.declared.tree.TestText.{TestText}
use Rattle.tl_code.specs.Compiled.{Compiled}
use Rattle.tl_code.specs.Codes.{IsCode, body_of_code}

-- the lists are of one length, and the first k items are the same
pub record SoFar {X : Type 0} (xs ys : List X) (k : ℕ) : Type 0 where
  pub long : length xs ≡ length ys
  pub same : take k xs ≡ take k ys

-- the lists are of one length, and each of the first k items is the same
pub record SoFarAt {X : Type 0} (xs ys : List X) (k : ℕ) : Type 0 where
  pub long : length xs ≡ length ys
  pub same : (j : ℕ) → j < k → slice_get xs j ≡ slice_get ys j

pub same_by_items : {X : Type 0} (xs ys : List X) → length xs ≡ length ys → ((j : ℕ) → j < length xs → slice_get xs j ≡ slice_get ys j) → xs ≡ ys
same_by_items [] [] l f = refl
same_by_items [] (y ∷ ys) l f = absurd (omega (arith, l))
same_by_items (x ∷ xs) [] l f = absurd (omega (arith, l))
same_by_items (x ∷ xs) (y ∷ ys) l f =
    let s : Some x ≡ Some y = f 0 (omega arith) in
    let e : x ≡ y = cc in
    let m : length xs ≡ length ys = omega (arith, l) in
    ap (λ z. z ∷ xs) e ∙ ap (λ l. y ∷ l) (same_by_items xs ys m (λ j lt. f (suc j) (omega arith)))

test_same : (t u : TestFor) → t.test ≡ u.test → t.ports ≡ u.ports → t ≡ u
test_same t u e d = ap (λ x. record t { test = x }) e ∙ ap (λ x. record t { test = u.test; ports = x }) d

-- code of one test is one code
pub same_code : (a b : Compiled) → IsCode a → IsCode b → a.test.test ≡ b.test.test → a.test.ports ≡ b.test.ports → a ≡ b
same_code a b i j e d =
    let t : a.test ≡ b.test = test_same a.test b.test e d in
    let k : body_of_code a ≡ body_of_code b = ap (λ t. test_body t.ports t.test) t in
    let p : a.placed ≡ b.placed = i.laid ∙ ap test_code k ∙ sym j.laid in
    let v : a.variables ≡ b.variables = i.variables ∙ ap (λ b. most_vars b []) k ∙ sym j.variables in
    let h : a.handles ≡ b.handles = i.handles ∙ ap (λ b. most_handles b []) k ∙ sym j.handles in
    ap (λ x. record a { test = x }) t ∙ ap (λ x. record a { test = b.test; placed = x }) p
    ∙ ap (λ x. record a { test = b.test; placed = b.placed; variables = x }) v
    ∙ ap (λ x. record a { test = b.test; placed = b.placed; variables = b.variables; handles = x }) h

-- the tests are the same, and the ports are compared
pub same_decided : (a b : Compiled) (t u : TestText) (p q : Ports) (r : Bool) → IsCode a → IsCode b → t ≡ a.test.test → u ≡ b.test.test → p ≡ a.test.ports → q ≡ b.test.ports
    → t ≡ u → (r ≡ true) ↔ (p ≡ q) → (r ≡ true) ↔ (a ≡ b)
same_decided a b t u p q r i j et eu ep eq e d =
    ((λ h. same_code a b i j (sym et ∙ e ∙ eu) (sym ep ∙ d.0 h ∙ eq)), (λ h. d.1 (ep ∙ ap (λ c. c.test.ports) h ∙ sym eq)))
