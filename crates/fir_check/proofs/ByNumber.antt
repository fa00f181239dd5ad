-- Modules by their numbers: ways over numbers and containment by names say the same.
use Rattle.std.proofs.Common.{ℕ, zero, suc, ◌≡◌, ◌+◌, ◌<◌, Bool, true, false, cond, ◌||◌, nat_eq, Option, Some, None, option_map, option_to_list, List, [], ◌∷◌, map, flat_map, find, length, get_or, bytes_eq, refl, sym, ap, subst, ◌∙◌, arith, eqb-true, eq-eqb, append-nil, zero-add}
use Rattle.std.specs.List.{list_any, position_from, cons_option}
use Rattle.fir_ast.specs.declared.tree.Module.{Module}
use Rattle.fir_check.specs.declared.instances.Instance.{Instance}
use Rattle.fir_check.specs.Scopes.{module_named}
use Rattle.fir_check.specs.Rules.{targets_in, contains}
use Rattle.fir_check.specs.Tables.{number_named, NamesModules}
use Rattle.fir_check.specs.Instances.{insts_in, numbered, graph, kids_at, reaches, leads_so}
use Rattle.fir_check.proofs.Tables.{names-equal, equal-names, same-answer}
use Rattle.fir_check.proofs.Trails.{or-none}
use Rattle.fir_check.proofs.Returning.{contained}
use Rattle.fir_check.proofs.CycleLines.{targets_named}

-- the place of the first item that passes
pub record At {X : Type 0} (p : X → Bool) (i j : ℕ) (xs : List X) : Type 0 where
  pub item : X
  pub past : ℕ
  pub place : j ≡ i + past
  pub low : past < length xs
  pub is : item ≡ get_or xs past item
  pub first : find p xs ≡ Some item
  pub passes : p item ≡ true

pub at-position : {X : Type 0} (p : X → Bool) (i j : ℕ) (xs : List X) → position_from p i xs ≡ Some j → At p i j xs
at-position p i j [] e = cc
at-position p i j (x ∷ xs) e = step (p x) refl (λ k. at-position p (i + 1) j xs k) e
  where
    here : p x ≡ true → j ≡ i → At p i j (x ∷ xs)
    here t k = record { item = x; past = 0; place = omega arith; low = omega arith; is = refl; first = ap (λ b. cond b (Some x) (find p xs)) t; passes = t }

    there : p x ≡ false → At p (i + 1) j xs → At p i j (x ∷ xs)
    there t a = record {
      item = a.item;
      past = suc a.past;
      place = (let q : j ≡ i + 1 + a.past = a.place in omega arith);
      low = (let q : a.past < length xs = a.low in omega arith);
      is = a.is;
      first = ap (λ b. cond b (Some x) (find p xs)) t ∙ a.first;
      passes = a.passes;
    }

    step : (b : Bool) → p x ≡ b → (position_from p (i + 1) xs ≡ Some j → At p (i + 1) j xs) → cond b (Some i) (position_from p (i + 1) xs) ≡ Some j → At p i j (x ∷ xs)
    step true t f k = here t (let q : i ≡ j = cc in sym q)
    step false t f k = there t (f k)

-- the module of a number
pub record Numbered (modules : List Module) (table : List (List ℕ × ℕ)) (t : ℕ) (m : Module) : Type 0 where
  pub number : number_named m.name table ≡ Some t
  pub named : module_named m.name modules ≡ Some m
  pub low : t < length modules
  pub is : m ≡ get_or modules t m

pub record ByName (modules : List Module) (table : List (List ℕ × ℕ)) (t : ℕ) (q : List ℕ) : Type 0 where
  pub home : Module
  pub by : Numbered modules table t home
  pub name : home.name ≡ q

pub by_name : (modules : List Module) (table : List (List ℕ × ℕ)) (q : List ℕ) (t : ℕ) → NamesModules modules table → number_named q table ≡ Some t → ByName modules table t q
by_name modules table q t n e =
    let a : At (λ m. bytes_eq m.name q) 0 t modules = at-position (λ m. bytes_eq m.name q) 0 t modules (sym (n.each q) ∙ e) in
    let w : a.item.name ≡ q = names-equal a.item.name q a.passes in
    let z : a.past ≡ t = sym (zero-add a.past) ∙ sym a.place in
    record {
      home = a.item;
      by = record {
        number = ap (λ x. number_named x table) w ∙ e;
        named = ap (λ x. module_named x modules) w ∙ a.first;
        low = subst (λ x. x < length modules) z a.low;
        is = a.is ∙ ap (λ x. get_or modules x a.item) z;
      };
      name = w;
    }

kids-at : (table : List (List ℕ × ℕ)) (modules : List Module) (t : ℕ) (m : Module) → t < length modules → m ≡ get_or modules t m → kids_at (graph table modules) t ≡ numbered table (insts_in m)
kids-at table [] t m h e = absurd (omega arith)
kids-at table (x ∷ xs) zero m h e = ap (λ y. numbered table (insts_in y)) (sym e)
kids-at table (x ∷ xs) (suc t) m h e = kids-at table xs t m (omega arith) e

pub graph_kids : (modules : List Module) (table : List (List ℕ × ℕ)) (t : ℕ) (m : Module) → Numbered modules table t m → kids_at (graph table modules) t ≡ numbered table (insts_in m)
graph_kids modules table t m n = kids-at table modules t m n.low n.is

pub read-same : (modules : List Module) (t : ℕ) (m h : Module) → t < length modules → m ≡ get_or modules t m → h ≡ get_or modules t h → m ≡ h
read-same [] t m h l e f = absurd (omega arith)
read-same (x ∷ xs) zero m h l e f = e ∙ sym f
read-same (x ∷ xs) (suc t) m h l e f = read-same xs t m h (omega arith) e f

same-number : (modules : List Module) (table : List (List ℕ × ℕ)) (t k : ℕ) (m h : Module) → Numbered modules table t m → Numbered modules table k h → nat_eq t k ≡ bytes_eq m.name h.name
same-number modules table t k m h n o = same-answer (nat_eq t k) (bytes_eq m.name h.name)
    (λ e. equal-names m.name h.name (ap (λ x. x.name) (read-same modules t m h n.low n.is (o.is ∙ ap (λ x. get_or modules x h) (sym (eqb-true t k e))))))
    (λ e. (let q : Some t ≡ Some k = sym n.number ∙ ap (λ x. number_named x table) (names-equal m.name h.name e) ∙ o.number in let r : t ≡ k = cc in eq-eqb t k r))

-- a name without a number contains nothing else
none-named : (modules : List Module) (table : List (List ℕ × ℕ)) (q : List ℕ) → NamesModules modules table → number_named q table ≡ None → module_named q modules ≡ None
none-named modules table q n e = absent modules 0 (sym (n.each q) ∙ e)
  where
    absent : (ms : List Module) (i : ℕ) → position_from (λ m. bytes_eq m.name q) i ms ≡ None → find (λ m. bytes_eq m.name q) ms ≡ None
    absent [] i k = refl
    absent (m ∷ ms) i k = step (bytes_eq m.name q) (λ j. absent ms (i + 1) j) k
      where
        step : (b : Bool) → (position_from (λ x. bytes_eq x.name q) (i + 1) ms ≡ None → find (λ x. bytes_eq x.name q) ms ≡ None) → cond b (Some i) (position_from (λ x. bytes_eq x.name q) (i + 1) ms) ≡ None → cond b (Some m) (find (λ x. bytes_eq x.name q) ms) ≡ None
        step true f j = cc
        step false f j = f j

unlike : (modules : List Module) (table : List (List ℕ × ℕ)) (q : List ℕ) (k : ℕ) (h : Module) → number_named q table ≡ None → Numbered modules table k h → bytes_eq q h.name ≡ false
unlike modules table q k h e o = apart (bytes_eq q h.name) refl
  where
    apart : (b : Bool) → bytes_eq q h.name ≡ b → b ≡ false
    apart true f = let r : None ≡ Some k = sym e ∙ ap (λ x. number_named x table) (names-equal q h.name f) ∙ o.number in cc
    apart false f = refl

pub alone : (modules : List Module) (table : List (List ℕ × ℕ)) (q : List ℕ) (k : ℕ) (h : Module) → NamesModules modules table → number_named q table ≡ None → Numbered modules table k h → (n : ℕ) → contains n modules q h.name ≡ false
alone modules table q k h w e o zero = unlike modules table q k h e o
alone modules table q k h w e o (suc n) =
    or-none (bytes_eq q h.name) _ (unlike modules table q k h e o) (ap (λ m. list_any (λ t. contains n modules t h.name) (flat_map targets_in (option_to_list m))) (none-named modules table q w e))

pub ways_contain : (modules : List Module) (table : List (List ℕ × ℕ)) → NamesModules modules table → (n t k : ℕ) (m h : Module) → Numbered modules table t m → Numbered modules table k h
    → reaches n (graph table modules) t k ≡ contains n modules m.name h.name
ways_contain modules table w zero t k m h p o = same-number modules table t k m h p o
ways_contain modules table w (suc n) t k m h p o =
    ap (λ b. b || list_any (λ i. reaches n (graph table modules) i.target k) (kids_at (graph table modules) t)) (same-number modules table t k m h p o)
    ∙ ap (λ b. bytes_eq m.name h.name || b)
    (ap (list_any (λ i. reaches n (graph table modules) i.target k)) (graph_kids modules table t m p)
    ∙ each (λ u x q. ways_contain modules table w n u k x h q o) (insts_in m)
    ∙ ap (list_any (λ x. contains n modules x h.name)) (sym (targets_named m))
    ∙ ap (list_any (λ x. contains n modules x h.name)) (sym (append-nil (targets_in m)))
    ∙ ap (λ y. list_any (λ x. contains n modules x h.name) (flat_map targets_in (option_to_list y))) (sym p.named))
  where
    kid : ((u : ℕ) (x : Module) → Numbered modules table u x → reaches n (graph table modules) u k ≡ contains n modules x.name h.name) → (i : ℕ × List ℕ) (rest : List Instance) (o' : Option ℕ) → number_named i.1 table ≡ o'
        → list_any (λ j. reaches n (graph table modules) j.target k) (cons_option (option_map (λ u. record { line = i.0; target = u }) o') rest) ≡ (contains n modules i.1 h.name || list_any (λ j. reaches n (graph table modules) j.target k) rest)
    kid f i rest None e = sym (ap (λ b. b || list_any (λ j. reaches n (graph table modules) j.target k) rest) (alone modules table i.1 k h w e o n))
    kid f i rest (Some u) e =
        let b : ByName modules table u i.1 = by_name modules table i.1 u w e in
        ap (λ x. x || list_any (λ j. reaches n (graph table modules) j.target k) rest) (f u b.home b.by ∙ ap (λ x. contains n modules x h.name) b.name)

    each : ((u : ℕ) (x : Module) → Numbered modules table u x → reaches n (graph table modules) u k ≡ contains n modules x.name h.name) → (insts : List (ℕ × List ℕ))
        → list_any (λ i. reaches n (graph table modules) i.target k) (numbered table insts) ≡ list_any (λ x. contains n modules x h.name) (map (λ i. i.1) insts)
    each f [] = refl
    each f (i ∷ insts) = kid f i (numbered table insts) (number_named i.1 table) refl ∙ ap (λ b. contains n modules i.1 h.name || b) (each f insts)

-- what a search says is what the definition says
pub leads_contained : (modules : List Module) (table : List (List ℕ × ℕ)) → NamesModules modules table → (t k : ℕ) (m h : Module) → Numbered modules table t m → Numbered modules table k h
    → leads_so (contains (length modules) modules m.name h.name) (graph table modules) t k
leads_contained modules table w t k m h p o = step (contains (length modules) modules m.name h.name) refl
  where
    never : contains (length modules) modules m.name h.name ≡ false → (n : ℕ) (b : Bool) → contains n modules m.name h.name ≡ b → b ≡ false
    never e n true f = sym (contained modules h.name n m.name f) ∙ e
    never e n false f = refl

    step : (b : Bool) → contains (length modules) modules m.name h.name ≡ b → leads_so b (graph table modules) t k
    step true e = record { steps = length modules; way = ways_contain modules table w (length modules) t k m h p o ∙ e }
    step false e = record { none = λ n. ways_contain modules table w n t k m h p o ∙ never e n (contains n modules m.name h.name) refl }
