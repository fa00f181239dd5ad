-- The lines of the instances that lie on cycles.
use Rattle.std.proofs.Common.{ℕ, ◌≡◌, Bool, true, false, cond, List, [], ◌∷◌, ◌++◌, map, flat_map, filter, length, refl, sym, ap, ◌∙◌}
use Rattle.fir_ast.specs.declared.tree.Stmt.{Stmt}
use Rattle.fir_ast.specs.declared.tree.Stmt.TheFolds.{fold-Stmt, fold-roll-Stmt, ind-Stmt}
use Rattle.fir_ast.specs.declared.tree.Stmt.TheOpen.{Stmt-F, Wire, Node, Reg, Inst, Connect, Invalid, When, Skip, Verif}
use Rattle.fir_ast.specs.declared.tree.Stmt.{map-Stmt}
use Rattle.fir_ast.specs.declared.tree.Module.{Module}
use Rattle.fir_check.specs.Names.{kept}
use Rattle.fir_check.specs.Scopes.{Known, Walk, stmt_found, stmt_level, in_turn, in_block, body_lines, ports_known}
use Rattle.fir_check.specs.Rules.{target_level, targets_in, contains, cycle_at}
use Rattle.fir_check.specs.Instances.{inst_level, insts_of, insts_in}

abbrev targets : Stmt → List (List ℕ)
targets = fold-Stmt (List (List ℕ)) target_level

map-append : {A B : Type 0} (f : A → B) (xs ys : List A) → map f (xs ++ ys) ≡ map f xs ++ map f ys
map-append f [] ys = refl
map-append f (x ∷ xs) ys = ap (λ t. f x ∷ t) (map-append f xs ys)

filter-append : {A : Type 0} (p : A → Bool) (xs ys : List A) → filter p (xs ++ ys) ≡ filter p xs ++ filter p ys
filter-append p [] ys = refl
filter-append p (x ∷ xs) ys = step (p x) (filter-append p xs ys)
  where
    step : (b : Bool) → filter p (xs ++ ys) ≡ filter p xs ++ filter p ys → cond b (x ∷ filter p (xs ++ ys)) (filter p (xs ++ ys)) ≡ cond b (x ∷ filter p xs) (filter p xs) ++ filter p ys
    step true e = ap (λ t. x ∷ t) e
    step false e = e

-- the names of the instances' modules

flat-same : {S : Type 0} (to : S → Stmt) (xs : List S) → ((e : S) → targets (to e) ≡ map (λ i. i.1) (insts_of (to e))) → flat_map (λ ts. ts) (map targets (map to xs)) ≡ map (λ i. i.1) (flat_map (λ is. is) (map insts_of (map to xs)))
flat-same to [] h = refl
flat-same to (x ∷ xs) h =
    ap (λ t. t ++ flat_map (λ ts. ts) (map targets (map to xs))) (h x)
    ∙ ap (λ t. map (λ i. i.1) (insts_of (to x)) ++ t) (flat-same to xs h)
    ∙ sym (map-append (λ i. i.1) (insts_of (to x)) (flat_map (λ is. is) (map insts_of (map to xs))))

targets-level : (S : Type 0) (to : S → Stmt) → ((e : S) → targets (to e) ≡ map (λ i. i.1) (insts_of (to e))) → (y : Stmt-F S)
    → target_level (map-Stmt Stmt (List (List ℕ)) targets (map-Stmt S Stmt to y)) ≡ map (λ i. i.1) (inst_level (map-Stmt Stmt (List (ℕ × List ℕ)) insts_of (map-Stmt S Stmt to y)))
targets-level S to h (Wire l n t) = refl
targets-level S to h (Node l n v) = refl
targets-level S to h (Reg l n t c r) = refl
targets-level S to h (Inst l n t) = refl
targets-level S to h (Connect l s v) = refl
targets-level S to h (Invalid l s) = refl
targets-level S to h (Skip l) = refl
targets-level S to h (Verif l k a c t n) = refl
targets-level S to h (When l c a b) =
    ap (λ t. t ++ flat_map (λ ts. ts) (map targets (map to b))) (flat-same to a h)
    ∙ ap (λ t. map (λ i. i.1) (flat_map (λ is. is) (map insts_of (map to a))) ++ t) (flat-same to b h)
    ∙ sym (map-append (λ i. i.1) (flat_map (λ is. is) (map insts_of (map to a))) (flat_map (λ is. is) (map insts_of (map to b))))

targets-named : (s : Stmt) → targets s ≡ map (λ i. i.1) (insts_of s)
targets-named s = ind-Stmt (λ x. targets x ≡ map (λ i. i.1) (insts_of x)) (λ x y e.
    fold-roll-Stmt (List (List ℕ)) target_level x
    ∙ ap (λ z. target_level (map-Stmt Stmt (List (List ℕ)) targets z)) (sym e)
    ∙ targets-level _ (λ z. z.0) (λ z. z.1) y
    ∙ ap (λ z. map (λ i. i.1) (inst_level (map-Stmt Stmt (List (ℕ × List ℕ)) insts_of z))) e
    ∙ sym (ap (map (λ i. i.1)) (fold-roll-Stmt (List (ℕ × List ℕ)) inst_level x))) s

all-named : (body : List Stmt) → flat_map targets body ≡ map (λ i. i.1) (flat_map insts_of body)
all-named [] = refl
all-named (s ∷ body) =
    ap (λ t. t ++ flat_map targets body) (targets-named s) ∙ ap (λ t. map (λ i. i.1) (insts_of s) ++ t) (all-named body)
    ∙ sym (map-append (λ i. i.1) (insts_of s) (flat_map insts_of body))

pub targets_named : (m : Module) → targets_in m ≡ map (λ i. i.1) (insts_in m)
targets_named m = all-named m.body

-- the lines of the instances on cycles

abbrev pub returning : List Module → Module → List (ℕ × List ℕ) → List ℕ
returning modules m insts = map (λ i. i.0) (filter (λ i. contains (length modules) modules i.1 m.name) insts)

abbrev found_in : List Module → Module → Stmt → Walk
found_in modules m = stmt_found modules (cycle_at modules m)

returning-append : (modules : List Module) (m : Module) (xs ys : List (ℕ × List ℕ)) → returning modules m (xs ++ ys) ≡ returning modules m xs ++ returning modules m ys
returning-append modules m xs ys =
    ap (map (λ i. i.0)) (filter-append (λ i. contains (length modules) modules i.1 m.name) xs ys)
    ∙ map-append (λ i. i.0) (filter (λ i. contains (length modules) modules i.1 m.name) xs) (filter (λ i. contains (length modules) modules i.1 m.name) ys)

turn-lines : {S : Type 0} (modules : List Module) (m : Module) (to : S → Stmt) (xs : List S) → ((e : S) (known : List Known) → (found_in modules m (to e) known).lines ≡ returning modules m (insts_of (to e))) → (known : List Known)
    → (in_turn (map (found_in modules m) (map to xs)) known).lines ≡ returning modules m (flat_map (λ is. is) (map insts_of (map to xs)))
turn-lines modules m to [] h known = refl
turn-lines modules m to (x ∷ xs) h known =
    ap (λ t. t ++ (in_turn (map (found_in modules m) (map to xs)) (found_in modules m (to x) known).known).lines) (h x known)
    ∙ ap (λ t. returning modules m (insts_of (to x)) ++ t) (turn-lines modules m to xs h (found_in modules m (to x) known).known)
    ∙ sym (returning-append modules m (insts_of (to x)) (flat_map (λ is. is) (map insts_of (map to xs))))

inst-line : (b : Bool) (l : ℕ) (t : List ℕ) → kept b l [] ++ [] ≡ map {A = ℕ × List ℕ} (λ i. i.0) (cond b ((l, t) ∷ []) [])
inst-line true l t = refl
inst-line false l t = refl

lines-level : (modules : List Module) (m : Module) (S : Type 0) (to : S → Stmt) → ((e : S) (known : List Known) → (found_in modules m (to e) known).lines ≡ returning modules m (insts_of (to e))) → (y : Stmt-F S) (known : List Known)
    → (stmt_level modules (cycle_at modules m) (map-Stmt Stmt Walk (found_in modules m) (map-Stmt S Stmt to y)) known).lines ≡ returning modules m (inst_level (map-Stmt Stmt (List (ℕ × List ℕ)) insts_of (map-Stmt S Stmt to y)))
lines-level modules m S to h (Wire l n t) known = refl
lines-level modules m S to h (Node l n v) known = refl
lines-level modules m S to h (Reg l n t c r) known = refl
lines-level modules m S to h (Inst l n t) known = inst-line (contains (length modules) modules t m.name) l t
lines-level modules m S to h (Connect l s v) known = refl
lines-level modules m S to h (Invalid l s) known = refl
lines-level modules m S to h (Skip l) known = refl
lines-level modules m S to h (Verif l k a c t n) known = refl
lines-level modules m S to h (When l c a b) known =
    let k : List Known = (in_block (map (found_in modules m) (map to a)) known).known in
    ap (λ t. t ++ (in_turn (map (found_in modules m) (map to b)) k).lines) (turn-lines modules m to a h known)
    ∙ ap (λ t. returning modules m (flat_map (λ is. is) (map insts_of (map to a))) ++ t) (turn-lines modules m to b h k)
    ∙ sym (returning-append modules m (flat_map (λ is. is) (map insts_of (map to a))) (flat_map (λ is. is) (map insts_of (map to b))))

stmt-lines : (modules : List Module) (m : Module) (s : Stmt) (known : List Known) → (found_in modules m s known).lines ≡ returning modules m (insts_of s)
stmt-lines modules m s = ind-Stmt (λ x. (known : List Known) → (found_in modules m x known).lines ≡ returning modules m (insts_of x)) (λ x y e known.
    ap (λ f. (f known).lines) (fold-roll-Stmt Walk (stmt_level modules (cycle_at modules m)) x)
    ∙ ap (λ z. (stmt_level modules (cycle_at modules m) (map-Stmt Stmt Walk (found_in modules m) z) known).lines) (sym e)
    ∙ lines-level modules m _ (λ z. z.0) (λ z. z.1) y known
    ∙ ap (λ z. returning modules m (inst_level (map-Stmt Stmt (List (ℕ × List ℕ)) insts_of z))) e
    ∙ sym (ap (returning modules m) (fold-roll-Stmt (List (ℕ × List ℕ)) inst_level x))) s

body-turn : (modules : List Module) (m : Module) (body : List Stmt) (known : List Known) → (in_turn (map (found_in modules m) body) known).lines ≡ returning modules m (flat_map insts_of body)
body-turn modules m [] known = refl
body-turn modules m (s ∷ body) known =
    ap (λ t. t ++ (in_turn (map (found_in modules m) body) (found_in modules m s known).known).lines) (stmt-lines modules m s known)
    ∙ ap (λ t. returning modules m (insts_of s) ++ t) (body-turn modules m body (found_in modules m s known).known)
    ∙ sym (returning-append modules m (insts_of s) (flat_map insts_of body))

-- the rule's lines in one module
pub cycle_body : (modules : List Module) (m : Module) → body_lines modules (cycle_at modules m) m ≡ returning modules m (insts_in m)
cycle_body modules m = body-turn modules m m.body (ports_known m)
