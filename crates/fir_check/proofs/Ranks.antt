-- A circuit that breaks no rule has a rank: the rank of a module counts the other modules that it contains.
use Rattle.std.proofs.Common.{ℕ, zero, suc, ◌≡◌, ◌+◌, ◌-◌, ◌<◌, ◌≤◌, Bool, true, false, cond, not, ◌||◌, nat_lt, nat_le, Option, Some, None, is_none, option_to_list, List, [], ◌∷◌, ◌++◌, map, flat_map, filter, find, length, get_or, bytes_eq, refl, sym, ap, subst, ◌∙◌, arith, append-nil}
use Rattle.std.specs.List.{AllByRecursion as Each, list_any}
use Rattle.std.proofs.lemmas.Bool.{lt-ltb, ltb-true, ltb-false}
use Rattle.std.proofs.lemmas.List.{get_or_past}
use Rattle.std.proofs.lemmas.List.Elements.{All-from_recursion}
use Rattle.fir_ast.specs.declared.tree.Stmt.{Stmt, map-Stmt}
use Rattle.fir_ast.specs.declared.tree.Stmt.TheFolds.{fold-Stmt, fold-roll-Stmt, ind-Stmt}
use Rattle.fir_ast.specs.declared.tree.Stmt.TheOpen.{Stmt-F, Wire, Node, Reg, Inst, Connect, Invalid, When, Skip, Verif}
use Rattle.fir_ast.specs.declared.tree.Module.{Module}
use Rattle.fir_ast.specs.declared.tree.Circuit.{Circuit}
use Rattle.fir_check.specs.declared.best.Rule.{Rule}
use Rattle.fir_check.specs.declared.best.Rule.TheVariants.{NoMain, DoubleName, UnknownName, InstanceCycle}
use Rattle.fir_check.specs.Names.{is_among, kept, repeated, seconds, first_ones, firsts}
use Rattle.fir_check.specs.Scopes.{Known, Walk, module_name, module_named, stmt_found, stmt_level, in_turn, in_block, body_lines, ports_known}
use Rattle.fir_check.specs.Rules.{target_level, targets_in, contains, cycle_at, unknown_at, earlier, first_break, broken_lines, all_rules, circuit_rule}
use Rattle.fir_check.specs.Instances.{insts_in}
use Rattle.fir_check.specs.Ranks.{no_module, module_at, place_of, targets_at, IsRanked}
use Rattle.fir_check.proofs.Tables.{names-equal, equal-names}
use Rattle.fir_check.proofs.Trails.{or-left, or-right}
use Rattle.fir_check.proofs.CycleLines.{targets_named, cycle_body}
use Rattle.fir_check.proofs.Returning.{passing, passing-length, passing-fewer, contained}

-- lists without items

record Empties {X : Type 0} (xs ys : List X) : Type 0 where
  left : xs ≡ []
  right : ys ≡ []

both-empty : {X : Type 0} (xs ys : List X) → xs ++ ys ≡ [] → Empties xs ys
both-empty [] ys e = record { left = refl; right = e }
both-empty (x ∷ xs) ys e = cc

map-empty : {X Y : Type 0} (f : X → Y) (xs : List X) → map f xs ≡ [] → xs ≡ []
map-empty f [] e = refl
map-empty f (x ∷ xs) e = cc

each-empty : {X Y : Type 0} (f : X → List Y) (xs : List X) → flat_map f xs ≡ [] → Each (λ x. f x ≡ []) xs
each-empty f [] e = tt
each-empty f (x ∷ xs) e = let b : Empties (f x) (flat_map f xs) = both-empty (f x) (flat_map f xs) e in (b.left, each-empty f xs b.right)

each-append : {X : Type 0} (P : X → Type 0) (xs ys : List X) → Each P xs → Each P ys → Each P (xs ++ ys)
each-append P [] ys a b = b
each-append P (x ∷ xs) ys a b = (a.0, each-append P xs ys a.1 b)

each-map : {X Y : Type 0} (P : X → Type 0) (f : Y → X) (ys : List Y) → Each (λ y. P (f y)) ys → Each P (map f ys)
each-map P f [] a = tt
each-map P f (y ∷ ys) a = (a.0, each-map P f ys a.1)

each-at : {X : Type 0} (P : X → Type 0) (xs : List X) (i : ℕ) (d : X) → Each P xs → i < length xs → P (get_or xs i d)
each-at P [] i d a h = absurd (omega arith)
each-at P (x ∷ xs) zero d a h = a.0
each-at P (x ∷ xs) (suc i) d a h = each-at P xs i d a.1 (omega arith)

-- no line breaks a rule

none-first : (bs : List (Rule × ℕ)) → first_break bs ≡ None → bs ≡ []
none-first [] e = refl
none-first (b ∷ bs) e = step (first_break bs) e
  where
    step : (o : Option (Rule × ℕ)) → earlier b o ≡ None → b ∷ bs ≡ []
    step None k = cc
    step (Some other) k = elim (nat_le b.1 other.1) as (λ t. cond t (Some b) (Some other) ≡ None → b ∷ bs ≡ []) [ true ↦ λ q. cc | false ↦ λ q. cc ] k

abbrev lines_of : Circuit → Rule → List (Rule × ℕ)
lines_of c rule = map (λ line. (rule, line)) (broken_lines rule c)

record Kept (c : Circuit) : Type 0 where
  main : broken_lines NoMain c ≡ []
  double : broken_lines DoubleName c ≡ []
  unknown : broken_lines UnknownName c ≡ []
  cycle : broken_lines InstanceCycle c ≡ []

kept-rules : (c : Circuit) → circuit_rule c ≡ None → Kept c
kept-rules c e =
    let a : Each (λ rule. lines_of c rule ≡ []) all_rules = each-empty (lines_of c) all_rules (none-first (flat_map (lines_of c) all_rules) e) in
    record {
      main = map-empty (λ line. (NoMain, line)) (broken_lines NoMain c) a.0;
      double = map-empty (λ line. (DoubleName, line)) (broken_lines DoubleName c) a.1.0;
      unknown = map-empty (λ line. (UnknownName, line)) (broken_lines UnknownName c) a.1.1.0;
      cycle = map-empty (λ line. (InstanceCycle, line)) (broken_lines InstanceCycle c) a.1.1.1.1.1.1.0;
    }

-- names that none has twice

record Apart {X : Type 0} (name_of : X → List ℕ) (earlier : List (List ℕ)) (x : X) (xs : List X) : Type 0 where
  here : is_among (name_of x) earlier ≡ false
  rest : repeated name_of (name_of x ∷ earlier) xs ≡ []

apart-head : {X : Type 0} (name_of : X → List ℕ) (earlier : List (List ℕ)) (x : X) (xs : List X) → repeated name_of earlier (x ∷ xs) ≡ [] → Apart name_of earlier x xs
apart-head name_of earlier x xs e = step (is_among (name_of x) earlier) refl e
  where
    step : (b : Bool) → is_among (name_of x) earlier ≡ b → kept b x (repeated name_of (name_of x ∷ earlier) xs) ≡ [] → Apart name_of earlier x xs
    step true f k = cc
    step false f k = record { here = f; rest = k }

all-first : {X : Type 0} (name_of : X → List ℕ) (earlier : List (List ℕ)) (xs : List X) → repeated name_of earlier xs ≡ [] → first_ones name_of earlier xs ≡ xs
all-first name_of earlier [] e = refl
all-first name_of earlier (x ∷ xs) e =
    let a : Apart name_of earlier x xs = apart-head name_of earlier x xs e in
    ap (λ b. kept (not b) x (first_ones name_of (name_of x ∷ earlier) xs)) a.here ∙ ap (λ t. x ∷ t) (all-first name_of (name_of x ∷ earlier) xs a.rest)

-- each item is what its name means
record Means (earlier : List (List ℕ)) (x : Module) (xs : List Module) : Type 0 where
  new : is_among x.name earlier ≡ false
  found : module_named x.name xs ≡ Some x

means-itself : (earlier : List (List ℕ)) (xs : List Module) (i : ℕ) (d : Module) → repeated module_name earlier xs ≡ [] → i < length xs → Means earlier (get_or xs i d) xs
means-itself earlier [] i d e h = absurd (omega arith)
means-itself earlier (x ∷ xs) zero d e h =
    let a : Apart module_name earlier x xs = apart-head module_name earlier x xs e in
    record { new = a.here; found = ap (λ b. cond b (Some x) (module_named x.name xs)) (equal-names x.name x.name refl) }
means-itself earlier (x ∷ xs) (suc i) d e h =
    let a : Apart module_name earlier x xs = apart-head module_name earlier x xs e in
    let y : Module = get_or xs i d in
    let m : Means (x.name ∷ earlier) y xs = means-itself (x.name ∷ earlier) xs i d a.rest (omega arith) in
    record {
      new = or-second (bytes_eq x.name y.name) (is_among y.name earlier) m.new;
      found = ap (λ b. cond b (Some x) (module_named y.name xs)) (or-first (bytes_eq x.name y.name) (is_among y.name earlier) m.new) ∙ m.found;
    }
  where
    or-first : (a b : Bool) → (a || b) ≡ false → a ≡ false
    or-first true b k = cc
    or-first false b k = refl

    or-second : (a b : Bool) → (a || b) ≡ false → b ≡ false
    or-second true b k = cc
    or-second false b k = k

-- the module of a name that is there stands at its place
record Placed (modules : List Module) (name : List ℕ) : Type 0 where
  low : place_of modules name < length modules
  is : module_named name modules ≡ Some (module_at modules (place_of modules name))

placed : (modules : List Module) (name : List ℕ) → is_none (module_named name modules) ≡ false → Placed modules name
placed [] name e = cc
placed (m ∷ modules) name e = step (bytes_eq m.name name) refl (λ k. placed modules name k) e
  where
    here : bytes_eq m.name name ≡ true → Placed (m ∷ modules) name
    here f =
        let k : place_of (m ∷ modules) name ≡ 0 = ap (λ b. cond b 0 (suc (place_of modules name))) f in
        record {
          low = omega arith;
          is = ap (λ b. cond b (Some m) (module_named name modules)) f ∙ ap (λ n. Some (module_at (m ∷ modules) n)) (sym k);
        }

    there : bytes_eq m.name name ≡ false → Placed modules name → Placed (m ∷ modules) name
    there f p =
        let k : place_of (m ∷ modules) name ≡ suc (place_of modules name) = ap (λ b. cond b 0 (suc (place_of modules name))) f in
        let l : place_of modules name < length modules = p.low in
        record {
          low = omega arith;
          is = ap (λ b. cond b (Some m) (module_named name modules)) f ∙ p.is ∙ ap (λ n. Some (module_at (m ∷ modules) n)) (sym k);
        }

    step : (b : Bool) → bytes_eq m.name name ≡ b → (is_none (module_named name modules) ≡ false → Placed modules name) → is_none (cond b (Some m) (module_named name modules)) ≡ false → Placed (m ∷ modules) name
    step true f r k = here f
    step false f r k = there f (r k)

passes-named : (modules : List Module) (name : List ℕ) (m : Module) → module_named name modules ≡ Some m → m.name ≡ name
passes-named [] name m e = cc
passes-named (x ∷ modules) name m e = step (bytes_eq x.name name) refl (λ k. passes-named modules name m k) e
  where
    step : (b : Bool) → bytes_eq x.name name ≡ b → (module_named name modules ≡ Some m → m.name ≡ name) → cond b (Some x) (module_named name modules) ≡ Some m → m.name ≡ name
    step true f r k = let w : x ≡ m = cc in ap (λ y. y.name) (sym w) ∙ names-equal x.name name f
    step false f r k = r k

-- the modules of instances are there

module _ (modules : List Module) where
  abbrev targets : Stmt → List (List ℕ)
  targets = fold-Stmt (List (List ℕ)) target_level

  abbrev IsThere : List ℕ → Type 0
  IsThere name = is_none (module_named name modules) ≡ false

  abbrev unknown_in : Stmt → Walk
  unknown_in = stmt_found modules (unknown_at modules)

  there-turn : {S : Type 0} (to : S → Stmt) (xs : List S) → ((e : S) (known : List Known) → (unknown_in (to e) known).lines ≡ [] → Each IsThere (targets (to e))) → (known : List Known)
      → (in_turn (map unknown_in (map to xs)) known).lines ≡ [] → Each IsThere (flat_map (λ ts. ts) (map targets (map to xs)))
  there-turn to [] h known e = tt
  there-turn to (x ∷ xs) h known e =
      let b = both-empty (unknown_in (to x) known).lines (in_turn (map unknown_in (map to xs)) (unknown_in (to x) known).known).lines e in
      each-append IsThere (targets (to x)) (flat_map (λ ts. ts) (map targets (map to xs))) (h x known b.left) (there-turn to xs h (unknown_in (to x) known).known b.right)

  there-inst : (l : ℕ) (name : List ℕ) (b : Bool) → is_none (module_named name modules) ≡ b → kept b l [] ++ [] ≡ [] → IsThere name
  there-inst l name true f k = cc
  there-inst l name false f k = f

  there-level : (S : Type 0) (to : S → Stmt) → ((e : S) (known : List Known) → (unknown_in (to e) known).lines ≡ [] → Each IsThere (targets (to e))) → (y : Stmt-F S) (known : List Known)
      → (stmt_level modules (unknown_at modules) (map-Stmt Stmt Walk unknown_in (map-Stmt S Stmt to y)) known).lines ≡ [] → Each IsThere (target_level (map-Stmt Stmt (List (List ℕ)) targets (map-Stmt S Stmt to y)))
  there-level S to h (Wire l n t) known e = tt
  there-level S to h (Node l n v) known e = tt
  there-level S to h (Reg l n t c r) known e = tt
  there-level S to h (Inst l n t) known e = (there-inst l t (is_none (module_named t modules)) refl e, tt)
  there-level S to h (Connect l s v) known e = tt
  there-level S to h (Invalid l s) known e = tt
  there-level S to h (Skip l) known e = tt
  there-level S to h (Verif l k a c t n) known e = tt
  there-level S to h (When l c a b) known e =
      let k : List Known = (in_block (map unknown_in (map to a)) known).known in
      let inner = both-empty (kept (unknown_at modules known (map-Stmt Stmt Walk unknown_in (map-Stmt S Stmt to (When l c a b)))) l []) _ e in
      let parts = both-empty (in_turn (map unknown_in (map to a)) known).lines (in_turn (map unknown_in (map to b)) k).lines inner.right in
      each-append IsThere (flat_map (λ ts. ts) (map targets (map to a))) (flat_map (λ ts. ts) (map targets (map to b))) (there-turn to a h known parts.left) (there-turn to b h k parts.right)

  there-stmt : (s : Stmt) (known : List Known) → (unknown_in s known).lines ≡ [] → Each IsThere (targets s)
  there-stmt s = ind-Stmt (λ x. (known : List Known) → (unknown_in x known).lines ≡ [] → Each IsThere (targets x)) (λ x y e known q.
      subst (Each IsThere) (ap (λ z. target_level (map-Stmt Stmt (List (List ℕ)) targets z)) e ∙ sym (fold-roll-Stmt (List (List ℕ)) target_level x))
      (there-level _ (λ z. z.0) (λ z. z.1) y known
      (ap (λ z. (stmt_level modules (unknown_at modules) (map-Stmt Stmt Walk unknown_in z) known).lines) e ∙ sym (ap (λ f. (f known).lines) (fold-roll-Stmt Walk (stmt_level modules (unknown_at modules)) x)) ∙ q))) s

  there-body : (body : List Stmt) (known : List Known) → (in_turn (map unknown_in body) known).lines ≡ [] → Each IsThere (flat_map targets body)
  there-body [] known e = tt
  there-body (s ∷ body) known e =
      let b = both-empty (unknown_in s known).lines (in_turn (map unknown_in body) (unknown_in s known).known).lines e in
      each-append IsThere (targets s) (flat_map targets body) (there-stmt s known b.left) (there-body body (unknown_in s known).known b.right)

  there-module : (m : Module) → body_lines modules (unknown_at modules) m ≡ [] → Each IsThere (targets_in m)
  there-module m e = there-body m.body (ports_known m) e

-- no instance returns

none-pass : {X Y : Type 0} (test : X → Bool) (f : X → Y) (xs : List X) → map f (filter test xs) ≡ [] → Each (λ x. test x ≡ false) xs
none-pass test f [] e = tt
none-pass test f (x ∷ xs) e = step (test x) refl (λ k. none-pass test f xs k) e
  where
    step : (b : Bool) → test x ≡ b → (map f (filter test xs) ≡ [] → Each (λ y. test y ≡ false) xs) → map f (cond b (x ∷ filter test xs) (filter test xs)) ≡ [] → (test x ≡ false) × Each (λ y. test y ≡ false) xs
    step true t r k = cc
    step false t r k = (t, r k)

abbrev IsBeside : List Module → Module → List ℕ → Type 0
IsBeside modules m name = contains (length modules) modules name m.name ≡ false

beside-module : (modules : List Module) (m : Module) → body_lines modules (cycle_at modules m) m ≡ [] → Each (IsBeside modules m) (targets_in m)
beside-module modules m e =
    subst (Each (IsBeside modules m)) (sym (targets_named m))
    (each-map (IsBeside modules m) (λ i. i.1) (insts_in m) (none-pass (λ i. contains (length modules) modules i.1 m.name) (λ i. i.0) (insts_in m) (sym (cycle_body modules m) ∙ e)))

-- how many modules a module contains, itself too

unfoldable inner : List Module → List ℕ → ℕ
inner modules name = passing (λ m. contains (length modules) modules name m.name) modules

passing-some : {X : Type 0} (f test : X → Bool) (xs : List X) (x : X) → find test xs ≡ Some x → f x ≡ true → 0 < passing f xs
unfolding passing
passing-some f test [] x e t = cc
passing-some f test (y ∷ xs) x e t = step (test y) (λ k. passing-some f test xs x k t) e
  where
    here : (b : Bool) → b ≡ true → 0 < cond b 1 0 + passing f xs
    here true k = omega arith
    here false k = cc

    step : (b : Bool) → (find test xs ≡ Some x → 0 < passing f xs) → cond b (Some y) (find test xs) ≡ Some x → 0 < cond (f y) 1 0 + passing f xs
    step true r k = let w : y ≡ x = cc in here (f y) (ap f w ∙ t)
    step false r k = let l : 0 < passing f xs = r k in omega arith

contains-itself : (n : ℕ) (modules : List Module) (name : List ℕ) → contains n modules name name ≡ true
contains-itself zero modules name = equal-names name name refl
contains-itself (suc n) modules name = or-left (bytes_eq name name) _ (equal-names name name refl)

-- what an instance's module contains the module of the instance contains too
contains-more : (modules : List Module) (m : Module) (t x : List ℕ) → module_named m.name modules ≡ Some m → ((f : List ℕ → Bool) → f t ≡ true → list_any f (targets_in m) ≡ true)
    → contains (length modules) modules t x ≡ true → contains (length modules) modules m.name x ≡ true
contains-more modules m t x e among h =
    contained modules x (suc (length modules)) m.name
    (or-right (bytes_eq m.name x) _
    (ap (λ o. list_any (λ u. contains (length modules) modules u x) (flat_map targets_in (option_to_list o))) e
    ∙ ap (list_any (λ u. contains (length modules) modules u x)) (append-nil (targets_in m))
    ∙ among (λ u. contains (length modules) modules u x) h))

-- and the module of the instance itself besides
fewer-inside : (modules : List Module) (m : Module) (t : List ℕ) → module_named m.name modules ≡ Some m → ((f : List ℕ → Bool) → f t ≡ true → list_any f (targets_in m) ≡ true)
    → IsBeside modules m t → inner modules t < inner modules m.name
unfolding inner
fewer-inside modules m t e among b =
    passing-fewer (λ x. contains (length modules) modules t x.name) (λ x. contains (length modules) modules m.name x.name) (λ x. bytes_eq x.name m.name) modules m
    (λ x. contains-more modules m t x.name e among) e b (contains-itself (length modules) modules m.name)

inner-low : (modules : List Module) (name : List ℕ) → inner modules name ≤ length modules
unfolding inner
inner-low modules name = passing-length (λ m. contains (length modules) modules name m.name) modules

inner-some : (modules : List Module) (m : Module) → module_named m.name modules ≡ Some m → 0 < inner modules m.name
unfolding inner
inner-some modules m e = passing-some (λ x. contains (length modules) modules m.name x.name) (λ x. bytes_eq x.name m.name) modules m e (contains-itself (length modules) modules m.name)

-- the rank of a module: how many others it contains
rank_of : List Module → ℕ → ℕ
rank_of modules place = cond (nat_lt place (length modules)) (inner modules (module_at modules place).name - 1) 0

rank-low : (modules : List Module) (place : ℕ) → 0 < length modules → rank_of modules place < length modules
unfolding rank_of
rank-low modules place h = step (nat_lt place (length modules)) (inner-low modules (module_at modules place).name)
  where
    step : (b : Bool) → inner modules (module_at modules place).name ≤ length modules → cond b (inner modules (module_at modules place).name - 1) 0 < length modules
    step true l = omega arith
    step false l = omega arith

rank-here : (modules : List Module) (place : ℕ) → place < length modules → rank_of modules place ≡ inner modules (module_at modules place).name - 1
unfolding rank_of
rank-here modules place h = ap (λ b. cond b (inner modules (module_at modules place).name - 1) 0) (lt-ltb place (length modules) h)

-- the rank falls along one instance
falls-one : (modules : List Module) (place : ℕ) (m : Module) (t : List ℕ) → rank_of modules place ≡ inner modules m.name - 1 → module_named m.name modules ≡ Some m
    → ((f : List ℕ → Bool) → f t ≡ true → list_any f (targets_in m) ≡ true) → IsThere modules t → IsBeside modules m t → rank_of modules (place_of modules t) < rank_of modules place
falls-one modules place m t r e among there beside =
    let p : Placed modules t = placed modules t there in
    let k : Module = module_at modules (place_of modules t) in
    let w : k.name ≡ t = passes-named modules t k p.is in
    let q : rank_of modules (place_of modules t) ≡ inner modules k.name - 1 = rank-here modules (place_of modules t) p.low in
    let s : 0 < inner modules k.name = inner-some modules k (ap (λ x. module_named x modules) w ∙ p.is) in
    let v : inner modules k.name ≡ inner modules t = ap (inner modules) w in
    let l : inner modules t < inner modules m.name = fewer-inside modules m t e among beside in
    omega arith

falls-all : (modules : List Module) (place : ℕ) (m : Module) → rank_of modules place ≡ inner modules m.name - 1 → module_named m.name modules ≡ Some m → (ts : List (List ℕ))
    → ((f : List ℕ → Bool) → list_any f ts ≡ true → list_any f (targets_in m) ≡ true) → Each (IsThere modules) ts → Each (IsBeside modules m) ts → Each (λ t. rank_of modules (place_of modules t) < rank_of modules place) ts
falls-all modules place m r e [] among there beside = tt
falls-all modules place m r e (t ∷ ts) among there beside = (
  falls-one modules place m t r e (λ f h. among f (or-left (f t) _ h)) there.0 beside.0,
  falls-all modules place m r e ts (λ f h. among f (or-right (f t) _ h)) there.1 beside.1,
)

all-low : (modules : List Module) (ts : List (List ℕ)) → Each (IsThere modules) ts → Each (λ t. place_of modules t < length modules) ts
all-low modules [] there = tt
all-low modules (t ∷ ts) there = ((placed modules t there.0).low, all-low modules ts there.1)

-- what is known of the module at a place, where none is of this name twice and no rule is broken
record Home (modules : List Module) (m : Module) : Type 0 where
  itself : module_named m.name modules ≡ Some m
  there : Each (IsThere modules) (targets_in m)
  beside : Each (IsBeside modules m) (targets_in m)

home-at : (c : Circuit) → Kept c → (place : ℕ) → place < length c.modules → Home c.modules (module_at c.modules place)
home-at c k place h =
    let twice : seconds module_name c.modules ≡ [] = map-empty (λ m. m.line) (seconds module_name c.modules) (both-empty (map (λ m. m.line) (seconds module_name c.modules)) _ k.double).left in
    let firsts_all : firsts module_name c.modules ≡ c.modules = all-first module_name [] c.modules twice in
    let cycles : flat_map (λ m. body_lines c.modules (cycle_at c.modules m) m) c.modules ≡ [] = ap (flat_map (λ m. body_lines c.modules (cycle_at c.modules m) m)) (sym firsts_all) ∙ k.cycle in
    record {
      itself = (means-itself [] c.modules place no_module twice h).found;
      there = there-module c.modules (module_at c.modules place)
          (each-at (λ m. body_lines c.modules (unknown_at c.modules) m ≡ []) c.modules place no_module (each-empty (λ m. body_lines c.modules (unknown_at c.modules) m) c.modules k.unknown) h);
      beside = beside-module c.modules (module_at c.modules place)
          (each-at (λ m. body_lines c.modules (cycle_at c.modules m) m ≡ []) c.modules place no_module (each-empty (λ m. body_lines c.modules (cycle_at c.modules m) m) c.modules cycles) h);
    }

-- no instance past the last module
past-all : (modules : List Module) (P : ℕ → Type 0) (place : ℕ) → nat_lt place (length modules) ≡ false → Each P (targets_at modules place)
past-all modules P place e =
    subst (λ m. Each P (map (place_of modules) (targets_in m))) (sym (get_or_past modules place no_module (ltb-false place (length modules) e))) tt

found-at : (c : Circuit) → Kept c → (place : ℕ) → Each (λ target. target < length c.modules) (targets_at c.modules place)
found-at c k place = step (nat_lt place (length c.modules)) refl
  where
    step : (b : Bool) → nat_lt place (length c.modules) ≡ b → Each (λ target. target < length c.modules) (targets_at c.modules place)
    step true e =
        let home : Home c.modules (module_at c.modules place) = home-at c k place (ltb-true place (length c.modules) e) in
        each-map (λ target. target < length c.modules) (place_of c.modules) (targets_in (module_at c.modules place)) (all-low c.modules (targets_in (module_at c.modules place)) home.there)
    step false e = past-all c.modules (λ target. target < length c.modules) place e

falls-at : (c : Circuit) → Kept c → (place : ℕ) → Each (λ target. rank_of c.modules target < rank_of c.modules place) (targets_at c.modules place)
falls-at c k place = step (nat_lt place (length c.modules)) refl
  where
    step : (b : Bool) → nat_lt place (length c.modules) ≡ b → Each (λ target. rank_of c.modules target < rank_of c.modules place) (targets_at c.modules place)
    step true e =
        let m : Module = module_at c.modules place in
        let h : place < length c.modules = ltb-true place (length c.modules) e in
        let home : Home c.modules m = home-at c k place h in
        each-map (λ target. rank_of c.modules target < rank_of c.modules place) (place_of c.modules) (targets_in m)
        (falls-all c.modules place m (rank-here c.modules place h) home.itself (targets_in m) (λ f q. q) home.there home.beside)
    step false e = past-all c.modules (λ target. rank_of c.modules target < rank_of c.modules place) place e

main-there : (c : Circuit) → Kept c → IsThere c.modules c.name
main-there c k = step (is_none (module_named c.name c.modules)) k.main
  where
    step : (b : Bool) → cond b (c.line ∷ []) [] ≡ [] → b ≡ false
    step true e = cc
    step false e = refl

pub ranked : (c : Circuit) → circuit_rule c ≡ None → IsRanked c
ranked c e =
    let k : Kept c = kept-rules c e in
    let main : place_of c.modules c.name < length c.modules = (placed c.modules c.name (main-there c k)).low in
    record {
      main = main;
      found = λ place. All-from_recursion (λ target. target < length c.modules) (targets_at c.modules place) (found-at c k place);
      rank = (
        rank_of c.modules,
        record {
          falls = λ place. All-from_recursion (λ target. rank_of c.modules target < rank_of c.modules place) (targets_at c.modules place) (falls-at c k place);
          low = λ place. rank-low c.modules place (omega arith);
        },
      );
    }
