-- The number of an operand is that of its expression.
use Rattle.std.proofs.Common.{◌≡◌, ℕ, List, [], ◌∷◌, ◌++◌, append_assoc, refl, sym, ap, ◌∙◌, slice_index, unwrap_or}
use Rattle.tl_threads.specs.declared.code.Item.{Item}
use Rattle.tl_threads.specs.declared.code.Item.TheVariants.{Negate, Apply}
use Rattle.tl_threads.specs.Values.{Name, Numbers, Expr, value, number_of}
use Rattle.tl_threads.specs.Values.Expr.{number, variable, minus, two}
use Rattle.tl_threads.specs.Code.{slot, operand}
use Rattle.tl_threads.specs.Machine.{worked, taken}
use Rattle.tl_threads.specs.Stands.{Known, KnownIn, Agrees}

known_value : (names : List Name) (vars : Numbers) (locals : List ℕ) (x : Name) → Agrees names vars locals → Known names x → slice_index locals (slot x names) ≡ number_of vars x
known_value names vars locals x a (k, e) = ap (λ o. slice_index locals (unwrap_or o 0)) e ∙ sym (ap (λ o. unwrap_or o 0) (a x k e))

-- its items leave its number on the stack, whatever comes behind them
worked_operand : (names : List Name) (vars : Numbers) (locals : List ℕ) (e : Expr) → Agrees names vars locals → KnownIn names e → (rest : List Item) (stack : List ℕ)
    → worked locals (operand names e ++ rest) stack ≡ worked locals rest (value vars e ∷ stack)
worked_operand names vars locals (number n) a k rest stack = refl
worked_operand names vars locals (variable x) a k rest stack = ap (λ n. worked locals rest (n ∷ stack)) (known_value names vars locals x a k)
worked_operand names vars locals (minus e) a k rest stack =
    ap (λ is. worked locals is stack) (append_assoc (operand names e) (Negate ∷ []) rest) ∙ worked_operand names vars locals e a k (Negate ∷ rest) stack
worked_operand names vars locals (two op d e) a k rest stack =
    ap (λ is. worked locals is stack) (append_assoc (operand names d) (operand names e ++ Apply op ∷ []) rest)
    ∙ worked_operand names vars locals d a k.0 ((operand names e ++ Apply op ∷ []) ++ rest) stack
    ∙ ap (λ is. worked locals is (value vars d ∷ stack)) (append_assoc (operand names e) (Apply op ∷ []) rest)
    ∙ worked_operand names vars locals e a k.1 (Apply op ∷ rest) (value vars d ∷ stack)

-- AN OPERAND'S NUMBER is that of its expression, where its variables are known and the slots agree
pub operand_value : (names : List Name) (vars : Numbers) (locals : List ℕ) (e : Expr) → Agrees names vars locals → KnownIn names e → taken locals (operand names e) ≡ value vars e
operand_value names vars locals e a k =
    ap (λ is. slice_index (worked locals is []) 0) (sym (append_nil (operand names e))) ∙ ap (λ s. slice_index s 0) (worked_operand names vars locals e a k [] [])
  where
    append_nil : (is : List Item) → is ++ [] ≡ is
    append_nil [] = refl
    append_nil (i ∷ is) = ap (λ t. i ∷ t) (append_nil is)
