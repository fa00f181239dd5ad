-- Nothing is marked on a printed line.
use Rattle.std.proofs.Common.{◌≡◌, ℕ, suc, ◌+◌, ◌-◌, ◌<◌, ◌≤◌, Bool, true, false, List, [], ◌∷◌, ◌++◌, length, refl, sym, ap, ◌∙◌, append_assoc, arith, length-append}
use Rattle.std.specs.Prelude.{◌&&◌, ◌||◌, not, nat_lt, Some, None, codes, if◌then◌else◌}
use Rattle.std.proofs.lemmas.Bool.Decides.{nat_tests}
use Rattle.text_grammar.specs.declared.item.Item.{Item}
use Rattle.text_grammar.specs.declared.item.Symbol.{Symbol}
use Rattle.text_grammar.specs.declared.item.Symbol.TheVariants as s
use Rattle.text_grammar.specs.declared.item.Token.{Token}
use Rattle.text_grammar.specs.declared.item.Token.TheVariants as token
use Rattle.text_grammar.specs.declared.fault.Form.TheVariants as form
use Rattle.text_grammar.specs.Terminals.{token_is_word, token_is_symbol, is_symbol, is_word, is_name, code}
use Rattle.fir_lex.specs.declared.mark.Bracket.TheVariants.{Open, Close}
use Rattle.fir_lex.specs.Lines.{placed}
use Rattle.fir_lex.specs.Marks.{forms_marked, line_form, operation, attach, declared, memory_port, unsupported, chosen, or_else, brackets_marked, token_step, bracket_step, symbol_bracket}
use Rattle.fir_print_laws.specs.Atoms.{Atom, text, token_text, mark}
use Rattle.fir_print_laws.specs.Items.{items_at}

-- ---- forms

abbrev pub is_operation : Token → Bool
is_operation t = token_is_word (codes "asClock") t || token_is_word (codes "asAsyncReset") t || token_is_word (codes "validif") t

abbrev pub is_paren : Token → Bool
is_paren t = token_is_symbol (code s.OpenParen) t

-- no bracket stands right behind the word of an operation that is marked, or behind such a word before these
abbrev pub calm : Bool → List Atom → Bool
calm before [] = true
calm before (None ∷ xs) = calm before xs
calm before (Some t ∷ xs) = not (before && is_paren t) && calm (is_operation t) xs

or_none : (a b : Bool) → not (a && b) ≡ true → or_else (if b then chosen a form.Operation else None) None ≡ None
or_none true true h = absurd cc
or_none true false h = refl
or_none false true h = refl
or_none false false h = refl

and_left : (a b : Bool) → (a && b) ≡ true → a ≡ true
and_left true b h = refl
and_left false b h = absurd cc

and_right : (a b : Bool) → (a && b) ≡ true → b ≡ true
and_right true b h = h
and_right false b h = absurd cc

forms_behind : (t : Token) (xs : List Atom) (line at column : ℕ) (end : Item) → is_symbol s.OpenParen end ≡ false → calm (is_operation t) xs ≡ true
    → forms_marked false (placed line at t ∷ (items_at line column xs ++ end ∷ [])) ≡ placed line at t ∷ (items_at line column xs ++ end ∷ [])
forms_behind t [] line at column end e h = rw e refl
forms_behind t (None ∷ xs) line at column end e h = forms_behind t xs line at (column + 1) end e h
forms_behind t (Some u ∷ xs) line at column end e h =
    let rest = items_at line (column + length (token_text u)) xs ++ end ∷ [] in
    let first = or_none (is_operation t) (is_paren u) (and_left (not (is_operation t && is_paren u)) (calm (is_operation u) xs) h) in
    let later = forms_behind u xs line column (column + length (token_text u)) end e (and_right (not (is_operation t && is_paren u)) (calm (is_operation u) xs) h) in
    ap (λ f. unsupported f (placed line at t) ∷ forms_marked false (placed line column u ∷ rest)) first ∙ ap (λ z. placed line at t ∷ z) later

-- a word with which no form of a line begins
pub record IsHead (w : List ℕ) : Type 0 where
  pub operations : is_operation (token.Word w) ≡ false
  pub attaches : (line at : ℕ) → attach (placed line at (token.Word w)) ≡ None
  pub declares : (line at : ℕ) → declared (placed line at (token.Word w)) ≡ None
  pub ports : (line at : ℕ) → memory_port (placed line at (token.Word w)) ≡ None

line_form_none : (w : List ℕ) (line at : ℕ) (y : Item) → IsHead w → line_form (placed line at (token.Word w)) y ≡ None
line_form_none w line at y h =
    let a = h.attaches line at in
    let d = h.declares line at in
    let p = h.ports line at in
    go (is_symbol s.OpenParen y) (is_word (codes "is") y) (is_word (codes "mport") y) (is_name y) a d p
  where
    go : (b1 b2 b3 b4 : Bool) → attach (placed line at (token.Word w)) ≡ None → declared (placed line at (token.Word w)) ≡ None → memory_port (placed line at (token.Word w)) ≡ None
        → (if b1 then attach (placed line at (token.Word w)) else (if b2 then None else (if b3 then or_else (memory_port (placed line at (token.Word w))) (declared (placed line at (token.Word w))) else (if b4 then declared (placed line at (token.Word w)) else None)))) ≡ None
    go true b2 b3 b4 a d p = a
    go false true b3 b4 a d p = refl
    go false false true b4 a d p = ap (λ f. or_else f (declared (placed line at (token.Word w)))) p ∙ d
    go false false false true a d p = d
    go false false false false a d p = refl

first_item : (w : List ℕ) (rest : List Item) (line at : ℕ) → IsHead w → forms_marked true (placed line at (token.Word w) ∷ rest) ≡ forms_marked false (placed line at (token.Word w) ∷ rest)
first_item w [] line at h = refl
first_item w (y ∷ rest) line at h =
    let x = placed line at (token.Word w) in
    let none = line_form_none w line at y h in
    ap (λ f. unsupported (or_else (if is_symbol s.OpenParen y then operation x else None) f) x ∷ forms_marked false (y ∷ rest)) none

pub forms_are : (w : List ℕ) (xs : List Atom) (line at column : ℕ) (end : Item) → IsHead w → is_symbol s.OpenParen end ≡ false → calm false xs ≡ true
    → forms_marked true (placed line at (token.Word w) ∷ (items_at line column xs ++ end ∷ [])) ≡ placed line at (token.Word w) ∷ (items_at line column xs ++ end ∷ [])
forms_are w xs line at column end h e k =
    first_item w (items_at line column xs ++ end ∷ []) line at h ∙ forms_behind (token.Word w) xs line at column end e (ap (λ b. calm b xs) h.operations ∙ k)

-- ---- brackets

-- the items of a phrase whose brackets are nested so deep are not marked, and leave as many brackets open as before
abbrev pub Balanced : ℕ → List Atom → Type 0
Balanced k xs = (d : ℕ) → d + k ≤ 64 → (line column : ℕ) (more : List Item) → brackets_marked d (items_at line column xs ++ more) ≡ items_at line column xs ++ brackets_marked d more

pub items-append : (xs ys : List Atom) (line column : ℕ) → items_at line column (xs ++ ys) ≡ items_at line column xs ++ items_at line (column + length (text xs)) ys
items-append [] ys line column = let e : column + 0 ≡ column = omega arith in rw e refl
items-append (None ∷ xs) ys line column =
    let size = length-append (codes " ") (text xs) in
    let e : column + 1 + length (text xs) ≡ column + length (text (None ∷ xs)) = omega (arith, size) in
    items-append xs ys line (column + 1) ∙ ap (λ n. items_at line (column + 1) xs ++ items_at line n ys) e
items-append (Some t ∷ xs) ys line column =
    let size = length-append (token_text t) (text xs) in
    let e : column + length (token_text t) + length (text xs) ≡ column + length (text (Some t ∷ xs)) = omega (arith, size) in
    ap (λ z. placed line column t ∷ z) (items-append xs ys line (column + length (token_text t)) ∙ ap (λ n. items_at line (column + length (token_text t)) xs ++ items_at line n ys) e)

pub balanced_none : (k : ℕ) → Balanced k []
balanced_none k d h line column more = refl

pub balanced_space : (k : ℕ) (xs : List Atom) → Balanced k xs → Balanced k (None ∷ xs)
balanced_space k xs b d h line column more = b d h line (column + 1) more

pub balanced_next : (k : ℕ) (t : Token) (xs : List Atom) → ((d : ℕ) → token_step d t ≡ (d, t)) → Balanced k xs → Balanced k (Some t ∷ xs)
balanced_next k t xs same b d h line column more =
    let at = column + length (token_text t) in
    ap (λ z. record { place = record { line = line; column = column }; token = z.1 } ∷ brackets_marked z.0 (items_at line at xs ++ more)) (same d)
    ∙ ap (λ z. placed line column t ∷ z) (b d h line at more)

pub balanced_both : (k : ℕ) (xs ys : List Atom) → Balanced k xs → Balanced k ys → Balanced k (xs ++ ys)
balanced_both k xs ys b c d h line column more =
    let at = column + length (text xs) in
    ap (λ z. brackets_marked d (z ++ more)) (items-append xs ys line column) ∙ ap (brackets_marked d) (append_assoc (items_at line column xs) (items_at line at ys) more)
    ∙ b d h line column (items_at line at ys ++ more) ∙ ap (λ z. items_at line column xs ++ z) (c d h line at more)
    ∙ sym (append_assoc (items_at line column xs) (items_at line at ys) (brackets_marked d more)) ∙ ap (λ z. z ++ brackets_marked d more) (sym (items-append xs ys line column))

pub balanced_less : (k m : ℕ) (xs : List Atom) → k ≤ m → Balanced k xs → Balanced m xs
balanced_less k m xs le b d h line column more = b d (omega (arith, h, le)) line column more

opened : (d : ℕ) (o : Symbol) → symbol_bracket o ≡ Some Open → d < 64 → token_step d (token.Symbol o) ≡ (d + 1, token.Symbol o)
opened d o e h = let lt : nat_lt d 64 ≡ true = grind (arith, nat_tests) in ap (bracket_step d o) e ∙ rw lt refl

-- a phrase in brackets, and what stands behind them
pub balanced_in : (k : ℕ) (o c : Symbol) (xs ys : List Atom) → symbol_bracket o ≡ Some Open → symbol_bracket c ≡ Some Close → Balanced k xs → Balanced (suc k) ys → Balanced (suc k) (mark o ∷ (xs ++ mark c ∷ ys))
balanced_in k o c xs ys e f b rest d h line column more =
    let at = column + length (token_text (token.Symbol o)) in
    let close = at + length (text xs) in
    let behind = close + length (token_text (token.Symbol c)) in
    let back : d + 1 - 1 ≡ d = omega arith in
    let inner = b (d + 1) (omega (arith, h)) line at (placed line close (token.Symbol c) ∷ (items_at line behind ys ++ more)) in
    let closing : brackets_marked (d + 1) (placed line close (token.Symbol c) ∷ (items_at line behind ys ++ more)) ≡ placed line close (token.Symbol c) ∷ brackets_marked d (items_at line behind ys ++ more) =
    ap (λ z. (let step = bracket_step (d + 1) c z in placed line close step.1 ∷ brackets_marked step.0 (items_at line behind ys ++ more))) f ∙ rw back refl in
    let split = items-append xs (mark c ∷ ys) line at in
    ap (λ z. placed line column z.1 ∷ brackets_marked z.0 (items_at line at (xs ++ mark c ∷ ys) ++ more)) (opened d o e (omega (arith, h)))
    ∙ ap (λ z. placed line column (token.Symbol o) ∷ z)
    (ap (λ z. brackets_marked (d + 1) (z ++ more)) split ∙ ap (brackets_marked (d + 1)) (append_assoc (items_at line at xs) (items_at line close (mark c ∷ ys)) more)
    ∙ inner ∙ ap (λ z. items_at line at xs ++ z) (closing ∙ ap (λ z. placed line close (token.Symbol c) ∷ z) (rest d h line behind more))
    ∙ sym (append_assoc (items_at line at xs) (items_at line close (mark c ∷ ys)) (brackets_marked d more)) ∙ ap (λ z. z ++ brackets_marked d more) (sym split))
