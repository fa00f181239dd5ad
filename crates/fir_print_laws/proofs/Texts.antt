-- The lines of a printed circuit have the printed form as their text.
use Rattle.std.proofs.Common.{◌≡◌, ℕ, Bool, true, false, List, [], ◌∷◌, ◌++◌, refl, sym, ap, ◌∙◌, append_assoc, append-nil, map, subst}
use Rattle.std.specs.Prelude.{Option, Some, None, codes}
use Rattle.std.specs.Fmt.{decimal}
use Rattle.tb_base.specs.Joined.{joined, led}
use Rattle.tb_base.specs.Names.{op_name}
use Rattle.text_grammar.specs.declared.item.Symbol.TheVariants as s
use Rattle.fir_ast.specs.declared.tree.Expr.{Expr}
use Rattle.fir_ast.specs.declared.tree.Expr.TheOpen.{Expr-F, Ident, Part, At, Index, Lit, Apply}
use Rattle.fir_ast.specs.declared.tree.Expr.TheViews.{roll-Expr}
use Rattle.fir_ast.specs.declared.tree.Expr.TheFolds.{fold-roll-Expr, ind-Expr, map-Expr}
use Rattle.fir_ast.specs.Printed as printed
use Rattle.fir_print_laws.specs.Atoms as atoms
use Rattle.fir_print_laws.specs.Atoms.{Atom, text, atom_text, word, number, mark, listed, listed_behind, number_atoms, expr_atoms, width_atoms, minus_atoms, literal_atoms}

pub text-append : (xs ys : List Atom) → text (xs ++ ys) ≡ text xs ++ text ys
text-append [] ys = refl
text-append (x ∷ xs) ys = ap (λ t. atom_text x ++ t) (text-append xs ys) ∙ sym (append_assoc (atom_text x) (text xs) (text ys))

-- a text, then others
pub then : (xs ys : List Atom) (one two : List ℕ) → one ≡ text xs → two ≡ text ys → one ++ two ≡ text (xs ++ ys)
then xs ys one two p q = ap (λ t. t ++ two) p ∙ ap (λ t. text xs ++ t) q ∙ sym (text-append xs ys)

-- one atom, then others
pub next : (x : Atom) (ys : List Atom) (two : List ℕ) → two ≡ text ys → atom_text x ++ two ≡ text (x ∷ ys)
next x ys two q = ap (λ t. atom_text x ++ t) q

pub alone : (x : Atom) → atom_text x ≡ text (x ∷ [])
alone x = sym (append-nil (atom_text x))

-- ---- lists

led_text : (ys : List (List Atom)) → led (codes ", ") (map text ys) ≡ text (listed_behind ys)
led_text [] = refl
led_text (y ∷ ys) = ap (λ t. codes ", " ++ t) (then y (listed_behind ys) (text y) (led (codes ", ") (map text ys)) refl (led_text ys))

pub listed_text : (ys : List (List Atom)) → joined (codes ", ") (map text ys) ≡ text (listed ys)
listed_text [] = refl
listed_text (y ∷ ys) = then y (listed_behind ys) (text y) (led (codes ", ") (map text ys)) refl (led_text ys)

pub numbers_text : (nums : List ℕ) → map decimal nums ≡ map text (map number_atoms nums)
numbers_text [] = refl
numbers_text (n ∷ nums) = ap (λ t. t ∷ map decimal nums) (alone (number n)) ∙ ap (λ z. text (number_atoms n) ∷ z) (numbers_text nums)

pub map-both : (xs ys : List (List Atom)) → map text (xs ++ ys) ≡ map text xs ++ map text ys
map-both [] ys = refl
map-both (x ∷ xs) ys = ap (λ z. text x ∷ z) (map-both xs ys)

-- ---- expressions

pub width_is : (w : Option ℕ) → printed.width_text w ≡ text (width_atoms w)
width_is None = refl
width_is (Some w) = next (mark s.Less) (number w ∷ mark s.Greater ∷ []) (decimal w ++ codes ">") refl

minus_is : (b : Bool) → printed.minus_text b ≡ text (minus_atoms b)
minus_is true = refl
minus_is false = refl

pub literal_is : (signed : Bool) (w : Option ℕ) (negative : Bool) (n : ℕ) → printed.literal_text signed w negative n ≡ text (literal_atoms signed w negative n)
literal_is signed w negative n =
    let last = then (minus_atoms negative) (number n ∷ mark s.CloseParen ∷ []) (printed.minus_text negative) (decimal n ++ codes ")") (minus_is negative) refl in
    ap (λ t. printed.sign_name signed ++ t) (then (width_atoms w) (mark s.OpenParen ∷ (minus_atoms negative ++ (number n ∷ mark s.CloseParen ∷ []))) (printed.width_text w) _ (width_is w) (ap (λ t. codes "(" ++ t) last))

abbrev IsExprText : Expr → Type 0
IsExprText e = printed.expr_text e ≡ text (expr_atoms e)

abbrev With : Type 0
With = (e : Expr) × IsExprText e

all_texts : (es : List With) → map printed.expr_text (map (λ e. e.0) es) ≡ map text (map expr_atoms (map (λ e. e.0) es))
all_texts [] = refl
all_texts (e ∷ es) = ap (λ t. t ∷ map printed.expr_text (map (λ d. d.0) es)) e.1 ∙ ap (λ z. text (expr_atoms e.0) ∷ z) (all_texts es)

expr_level_is : (x : Expr-F With) → printed.expr_level (map-Expr Expr (List ℕ) printed.expr_text (map-Expr With Expr (λ e. e.0) x)) ≡ text (atoms.expr_level (map-Expr Expr (List Atom) expr_atoms (map-Expr With Expr (λ e. e.0) x)))
expr_level_is (Ident name) = alone (word name)
expr_level_is (Part e name) = then (expr_atoms e.0) (mark s.Dot ∷ word name ∷ []) _ (codes "." ++ name) e.1 (ap (λ t. codes "." ++ t) (alone (word name)))
expr_level_is (At e n) = then (expr_atoms e.0) (mark s.OpenBracket ∷ number n ∷ mark s.CloseBracket ∷ []) _ (codes "[" ++ (decimal n ++ codes "]")) e.1 refl
expr_level_is (Index e index) =
    then (expr_atoms e.0) (mark s.OpenBracket ∷ (expr_atoms index.0 ++ mark s.CloseBracket ∷ [])) _ _ e.1 (ap (λ t. codes "[" ++ t) (then (expr_atoms index.0) (mark s.CloseBracket ∷ []) _ (codes "]") index.1 refl))
expr_level_is (Lit signed w negative n) = literal_is signed w negative n
expr_level_is (Apply op args nums) =
    let es = map (λ e. e.0) args in
    let operands = ap (λ z. z ++ map decimal nums) (all_texts args) ∙ ap (λ z. map text (map expr_atoms es) ++ z) (numbers_text nums) ∙ sym (map-both (map expr_atoms es) (map number_atoms nums)) in
    let list = ap (joined (codes ", ")) operands ∙ listed_text (map expr_atoms es ++ map number_atoms nums) in
    ap (λ t. op_name op ++ (codes "(" ++ t)) (then (listed (map expr_atoms es ++ map number_atoms nums)) (mark s.CloseParen ∷ []) _ (codes ")") list refl)

pub expr_is : (e : Expr) → printed.expr_text e ≡ text (expr_atoms e)
expr_is = ind-Expr IsExprText (λ x y is. subst (λ z. IsExprText (roll-Expr z)) is
    (fold-roll-Expr (List ℕ) printed.expr_level (map-Expr With Expr (λ e. e.0) y) ∙ expr_level_is y ∙ ap text (sym (fold-roll-Expr (List Atom) atoms.expr_level (map-Expr With Expr (λ e. e.0) y)))))
