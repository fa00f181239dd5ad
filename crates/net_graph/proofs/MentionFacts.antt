-- What grows by what is mentioned.
use Rattle.std.proofs.Common.{◌≡◌, ◌∙◌, sym, ap, subst, ℕ, zero, suc, ◌+◌, ◌<◌, ◌≤◌, ⊎_elim, arith, Bool, true, false, List, [], ◌∷◌, ◌++◌, ◌||◌, nat_eq, Option, map, refl, drop, drop-cons, get_or, length, add-one}
use Rattle.tb_base.specs.declared.op.Op.{Op}
use Rattle.std.proofs.lemmas.Bool.{cases_eq}
use Rattle.std.proofs.lemmas.List.{get_or_past}
use Rattle.net_core.specs.Rules.{has}
use Rattle.net_core.specs.declared.tree.Equation.{Equation}
use Rattle.net_graph.specs.Graphs.{reads_in}
use Rattle.net_core.specs.declared.ports.Signal.{Signal}
use Rattle.net_core.specs.declared.tree.GroundExpr.{GroundExpr}
use Rattle.net_core.specs.declared.tree.GroundExpr.TheVariants.{Read, Lit, Apply, Select, IndexIs}
use Rattle.net_core.specs.declared.tree.Choice.{Choice}
use Rattle.net_core.specs.declared.tree.Choice.TheVariants.{Take, When, rolls-Take, rolls-When}
use Rattle.net_core.specs.declared.tree.Choice.TheFolds.{fold-roll-Choice, ind-Choice, map-Choice}
use Rattle.net_core.specs.declared.tree.Choice.TheOpen.{Choice-F}
use Rattle.net_core.specs.Values.{mentions, any, level_mentions}
use Rattle.net_core.specs.Last.{source_mentions}
use Rattle.net_core.specs.Nets.{Choices, nothing, take as take_one, branch, choices_of, choices_read, one_choice, level_choice, equation_reads, no_equation}
use Rattle.net_core.proofs.Trees.{at_read, at_lit, at_apply, at_select, at_index_is}
use Rattle.net_graph.specs.Mentions.{Grown}
use Rattle.net_graph.proofs.HasFacts.{has_append}

or_assoc : (a b c : Bool) → ((a || b) || c) ≡ (a || (b || c))
or_assoc true b c = refl
or_assoc false b c = refl

or_none : (a : Bool) → a ≡ (a || false)
or_none true = refl
or_none false = refl

pub grown_none : (xs : List ℕ) → Grown xs xs (λ y. false)
grown_none xs y = or_none (has xs y)

pub grown_by : (xs : List ℕ) (x : ℕ) → Grown xs (xs ++ x ∷ []) (λ y. nat_eq y x)
grown_by xs x y = has_append xs (x ∷ []) y ∙ ap (λ b. has xs y || b) (sym (or_none (nat_eq y x)))

pub grown_both : (xs ys zs : List ℕ) (p q : ℕ → Bool) → Grown xs ys p → Grown ys zs q → Grown xs zs (λ y. p y || q y)
grown_both xs ys zs p q g h y = h y ∙ ap (λ b. b || q y) (g y) ∙ or_assoc (has xs y) (p y) (q y)

pub grown_same : (xs ys : List ℕ) (p q : ℕ → Bool) → ((y : ℕ) → p y ≡ q y) → Grown xs ys p → Grown xs ys q
grown_same xs ys p q e g y = g y ∙ ap (λ b. has xs y || b) (e y)

-- expressions
pub in_read : (s : Signal) (y : ℕ) → nat_eq y s.0 ≡ mentions (Read s) y
in_read s y = sym (at_read (level_mentions y) s)

pub in_lit : (g : Bool) (w : Option ℕ) (n : Bool) (m y : ℕ) → false ≡ mentions (Lit g w n m) y
in_lit g w n m y = sym (at_lit (level_mentions y) g w n m)

pub in_apply : (op : Op) (args : List GroundExpr) (nums : List ℕ) (y : ℕ) → any (map (λ e. mentions e y) args) ≡ mentions (Apply op args nums) y
in_apply op args nums y = sym (at_apply (level_mentions y) op args nums)

pub in_select : (index : GroundExpr) (items : List GroundExpr) (y : ℕ) → (mentions index y || any (map (λ e. mentions e y) items)) ≡ mentions (Select index items) y
in_select index items y = sym (at_select (level_mentions y) index items)

pub in_index_is : (index : GroundExpr) (place y : ℕ) → mentions index y ≡ mentions (IndexIs index place) y
in_index_is index place y = sym (at_index_is (level_mentions y) index place)

any_next : (f : GroundExpr → Bool) (es : List GroundExpr) (i : ℕ) (e : GroundExpr) → i < length es → e ≡ get_or es i e
    → any (map f (drop i es)) ≡ (f e || any (map f (drop (i + 1) es)))
any_next f es i e h k =
    let n : drop i es ≡ e ∷ drop (i + 1) es = rw (drop-cons es i e, ← k, add-one i) refl in
    ap (λ (t : List GroundExpr). any (map f t)) n

-- what was found and what is still to come gives all
abbrev pub WillHave : List ℕ → (ℕ → Bool) → List ℕ → (ℕ → Bool) → Type 0
WillHave now rest first all = (y : ℕ) → (has now y || rest y) ≡ (has first y || all y)

pub exprs_next : (es : List GroundExpr) (i : ℕ) (e : GroundExpr) (first now after : List ℕ) → i < length es → e ≡ get_or es i e
    → WillHave now (λ y. any (map (λ c. mentions c y) (drop i es))) first (λ y. any (map (λ c. mentions c y) es))
    → Grown now after (mentions e)
    → WillHave after (λ y. any (map (λ c. mentions c y) (drop (i + 1) es))) first (λ y. any (map (λ c. mentions c y) es))
exprs_next es i e first now after h k w g y =
    ap (λ b. b || any (map (λ c. mentions c y) (drop (i + 1) es))) (g y)
    ∙ or_assoc (has now y) (mentions e y) (any (map (λ c. mentions c y) (drop (i + 1) es)))
    ∙ ap (λ b. has now y || b) (sym (any_next (λ c. mentions c y) es i e h k)) ∙ w y

-- choices
pub one_take : (e : Option GroundExpr) (r : Choices) → one_choice (Take e) r ≡ take_one e r
one_take e r = ap (λ (f : Choices → Choices). f r) (ap one_choice (sym (rolls-Take e)) ∙ fold-roll-Choice (Choices → Choices) level_choice (Choice-F.Take e))

pub one_when : (k : Signal) (t o : List Choice) (r : Choices) → one_choice (When k t o) r ≡ branch k.0 (choices_of t) (choices_of o) r
one_when k t o r = ap (λ (f : Choices → Choices). f r) (ap one_choice (sym (rolls-When k t o)) ∙ fold-roll-Choice (Choices → Choices) level_choice (Choice-F.When k t o))

pub in_take : (e : Option GroundExpr) (y : ℕ) → source_mentions e y ≡ choices_read (one_choice (Take e) nothing) y
in_take e y = or_none (source_mentions e y) ∙ sym (ap (λ c. choices_read c y) (one_take e nothing))

pub in_when : (k : Signal) (t o : List Choice) (y : ℕ)
    → (nat_eq y k.0 || (choices_read (choices_of t) y || choices_read (choices_of o) y)) ≡ choices_read (one_choice (When k t o) nothing) y
in_when k t o y =
    ap (λ b. nat_eq y k.0 || (choices_read (choices_of t) y || b)) (or_none (choices_read (choices_of o) y))
    ∙ sym (ap (λ c. choices_read c y) (one_when k t o nothing))

level_reads : (x : Choice-F (Choices → Choices)) (r : Choices) (y : ℕ) → choices_read (level_choice x r) y ≡ (choices_read (level_choice x nothing) y || choices_read r y)
level_reads (Choice-F.Take e) r y = ap (λ b. b || choices_read r y) (or_none (source_mentions e y))
level_reads (Choice-F.When k t o) r y = regroup (nat_eq y k.0) _ _ (choices_read r y)
  where
    regroup : (a b c d : Bool) → (a || (b || (c || d))) ≡ ((a || (b || (c || false))) || d)
    regroup true b c d = refl
    regroup false true c d = refl
    regroup false false true d = refl
    regroup false false false d = refl

abbrev First : Choice → Type 0
First c = (r : Choices) (y : ℕ) → choices_read (one_choice c r) y ≡ (choices_read (one_choice c nothing) y || choices_read r y)

first_reads : (c : Choice) → First c
first_reads = ind-Choice First (λ x y is. λ r z.
    subst (λ (f : Choices → Choices). choices_read (f r) z ≡ (choices_read (f nothing) z || choices_read r z)) (sym (fold-roll-Choice (Choices → Choices) level_choice x))
    (level_reads (map-Choice Choice (Choices → Choices) one_choice x) r z))

pub choices_next : (cs : List Choice) (i : ℕ) (c : Choice) (first now after : List ℕ) → i < length cs → c ≡ get_or cs i c
    → WillHave now (choices_read (choices_of (drop i cs))) first (choices_read (choices_of cs))
    → Grown now after (choices_read (one_choice c nothing))
    → WillHave after (choices_read (choices_of (drop (i + 1) cs))) first (choices_read (choices_of cs))
choices_next cs i c first now after h k w g y =
    let n : drop i cs ≡ c ∷ drop (i + 1) cs = rw (drop-cons cs i c, ← k, add-one i) refl in
    ap (λ b. b || choices_read (choices_of (drop (i + 1) cs)) y) (g y)
    ∙ or_assoc (has now y) (choices_read (one_choice c nothing) y) (choices_read (choices_of (drop (i + 1) cs)) y)
    ∙ ap (λ b. has now y || b) (sym (ap (λ (t : List Choice). choices_read (choices_of t) y) n ∙ first_reads c (choices_of (drop (i + 1) cs)) y))
    ∙ w y

-- lists one behind the other
at_old : {A : Type 0} (xs : List A) (y d : A) (i : ℕ) → i < length xs → get_or (xs ++ y ∷ []) i d ≡ get_or xs i d
at_old [] y d i h = absurd (omega arith)
at_old (x ∷ xs) y d zero h = refl
at_old (x ∷ xs) y d (suc i) h = at_old xs y d i (omega arith)

at_new : {A : Type 0} (xs : List A) (y d : A) → get_or (xs ++ y ∷ []) (length xs) d ≡ y
at_new [] y d = refl
at_new (x ∷ xs) y d = at_new xs y d

pub lists_more : (lists : List (List ℕ)) (list : List ℕ) (equations : List Equation) (i : ℕ) → length lists ≡ i
    → ((x y : ℕ) → x < i → reads_in lists x y ≡ equation_reads (get_or equations x no_equation) y)
    → Grown [] list (equation_reads (get_or equations i no_equation))
    → (x y : ℕ) → x < i + 1 → reads_in (lists ++ list ∷ []) x y ≡ equation_reads (get_or equations x no_equation) y
lists_more lists list equations i l h g x y b = ⊎_elim
    (λ e. subst (λ z. reads_in (lists ++ list ∷ []) z y ≡ equation_reads (get_or equations z no_equation) y) (sym e)
    (ap (λ (o : List ℕ). has o y) (subst (λ n. get_or (lists ++ list ∷ []) n [] ≡ list) l (at_new lists list [])) ∙ g y))
    (λ n. let k : x < i = less n in
    ap (λ (o : List ℕ). has o y) (at_old lists list [] x (subst (λ m. x < m) (sym l) k)) ∙ h x y k)
    (cases_eq x i)
  where
    less : (x ≡ i → ⊥) → x < i
    less n = omega (arith, b, n)

pub no_reads : (lists : List (List ℕ)) (equations : List Equation) (x y : ℕ) → length lists ≤ x → length equations ≤ x
    → reads_in lists x y ≡ equation_reads (get_or equations x no_equation) y
no_reads lists equations x y h k = ap (λ (o : List ℕ). has o y) (get_or_past lists x [] h) ∙ sym (ap (λ (e : Equation). equation_reads e y) (get_or_past equations x no_equation k))

pub when_grown : (first pushed taken after : List ℕ) (k : Signal) (t o ts os : List Choice) (c : Choice) → c ≡ When k t o → pushed ≡ first ++ k.0 ∷ [] → ts ≡ t → os ≡ o
    → Grown pushed taken (choices_read (choices_of ts)) → Grown taken after (choices_read (choices_of os)) → Grown first after (choices_read (one_choice c nothing))
when_grown first pushed taken after k t o ts os c e p et eo g h =
    subst (λ (d : Choice). Grown first after (choices_read (one_choice d nothing))) (sym e)
    (grown_same first after (λ y. nat_eq y k.0 || (choices_read (choices_of t) y || choices_read (choices_of o) y)) (choices_read (one_choice (When k t o) nothing)) (λ y. in_when k t o y)
    (grown_both first (first ++ k.0 ∷ []) after (λ y. nat_eq y k.0) (λ y. choices_read (choices_of t) y || choices_read (choices_of o) y) (grown_by first k.0)
    (grown_both (first ++ k.0 ∷ []) taken after (choices_read (choices_of t)) (choices_read (choices_of o))
    (subst (λ (q : List ℕ). Grown q taken (choices_read (choices_of t))) p (subst (λ (q : List Choice). Grown pushed taken (choices_read (choices_of q))) et g))
    (subst (λ (q : List Choice). Grown taken after (choices_read (choices_of q))) eo h))))
