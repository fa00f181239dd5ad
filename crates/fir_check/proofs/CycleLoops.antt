-- Cycles of instances, noted one module after another.
use Rattle.std.proofs.Common.{ℕ, zero, suc, ◌≡◌, ◌+◌, ◌<◌, ◌≤◌, Bool, true, false, cond, not, ◌||◌, nat_eq, nat_lt, nat_le, Option, Some, None, option_map, List, [], ◌∷◌, ◌++◌, map, flat_map, filter, length, get_or, take, drop, bytes_eq, refl, sym, ap, subst, ◌∙◌, arith, eqb-true, eq-eqb, add-zero, zero-add, slice_index}
use Rattle.std.specs.List.{list_any, list_all, position_from, cons_option}
use Rattle.std.proofs.lemmas.List.{drop_all, take_more}
use Rattle.std.proofs.lemmas.Bool.{lt-ltb}
use Rattle.fir_ast.specs.declared.tree.Module.{Module}
use Rattle.fir_check.specs.declared.best.Rule.TheVariants.{InstanceCycle}
use Rattle.fir_check.specs.declared.instances.Instance.{Instance}
use Rattle.fir_check.specs.Names.{kept, is_among, first_ones}
use Rattle.fir_check.specs.Scopes.{module_name, body_lines}
use Rattle.fir_check.specs.Rules.{contains, cycle_at, cycle_lines}
use Rattle.fir_check.specs.Places.{place, least}
use Rattle.fir_check.specs.Tables.{number_named, is_number, NamesModules}
use Rattle.fir_check.specs.Instances.{insts_in, numbered, graph, kids_at, leads_so, EachTold, NotesReturning, NeverRises, Within}
use Rattle.fir_check.proofs.Least.{least-append, map-append}
use Rattle.fir_check.proofs.Doubles.{kept-places, next_item}
use Rattle.fir_check.proofs.Tables.{equal-names, SameNames}
use Rattle.fir_check.proofs.Trails.{and-both}
use Rattle.fir_check.proofs.ByNumber.{Numbered, ByName, by_name, leads_contained, alone, read-same, graph_kids}
use Rattle.fir_check.proofs.CycleLines.{returning, cycle_body}

-- no height at all rises nowhere
pub flat_heights : (heights : List ℕ) (kids : List (List Instance)) → heights ≡ [] → NeverRises heights kids
flat_heights heights kids e = record { each = λ a. ap (λ h. list_all (λ i. nat_le (slice_index h i.target) (slice_index h a)) (kids_at kids a)) e ∙ none (kids_at kids a) }
  where
    none : (insts : List Instance) → list_all (λ i. nat_le 0 0) insts ≡ true
    none [] = refl
    none (i ∷ insts) = none insts

-- the instances of one module

pub record InstsLeft (kids : List (List Instance)) (home : ℕ) (insts : List Instance) (k : ℕ) (best start : Option ℕ) : Type 0 where
  pub by : (returns : Instance → Bool) → EachTold returns kids home insts
      → least best (map (place InstanceCycle) (map (λ i. i.line) (filter returns (drop k insts)))) ≡ least start (map (place InstanceCycle) (map (λ i. i.line) (filter returns insts)))

told-at : (returns : Instance → Bool) (kids : List (List Instance)) (home : ℕ) (insts : List Instance) (k : ℕ) (d : Instance) → k < length insts → EachTold returns kids home insts → leads_so (returns (get_or insts k d)) kids (get_or insts k d).target home
told-at returns kids home [] k d h t = absurd (omega arith)
told-at returns kids home (i ∷ insts) zero d h t = t.0
told-at returns kids home (i ∷ insts) (suc k) d h t = told-at returns kids home insts k d (omega arith) t.1

filter-kept : {X : Type 0} (test : X → Bool) (x : X) (xs : List X) → filter test (x ∷ xs) ≡ kept (test x) x (filter test xs)
filter-kept test x xs = step (test x)
  where
    step : (b : Bool) → cond b (x ∷ filter test xs) (filter test xs) ≡ kept b x (filter test xs)
    step true = refl
    step false = refl

drop-at : {X : Type 0} (xs : List X) (k : ℕ) (d : X) → k < length xs → drop k xs ≡ get_or xs k d ∷ drop (k + 1) xs
drop-at [] k d h = absurd (omega arith)
drop-at (x ∷ xs) zero d h = refl
drop-at (x ∷ xs) (suc k) d h = drop-at xs k d (omega arith) ∙ ap (λ n. get_or xs k d ∷ drop n (x ∷ xs)) (let e : suc (k + 1) ≡ suc k + 1 = omega arith in e)

pub insts_next : (kids : List (List Instance)) (home : ℕ) (insts : List Instance) (k : ℕ) (d : Instance) (o p start : Option ℕ) → k < length insts
    → ((b : Bool) → leads_so b kids (get_or insts k d).target home → p ≡ least o (map (place InstanceCycle) (kept b (get_or insts k d).line [])))
    → InstsLeft kids home insts k o start → InstsLeft kids home insts (k + 1) p start
insts_next kids home insts k d o p start h f l = record {
  by = λ returns t.
      let x : Instance = get_or insts k d in
      ap (λ m. least m (map (place InstanceCycle) (map (λ i. i.line) (filter returns (drop (k + 1) insts))))) (f (returns x) (told-at returns kids home insts k d h t))
      ∙ sym (kept-places InstanceCycle (λ i. i.line) (returns x) x (filter returns (drop (k + 1) insts)) o)
      ∙ ap (λ ys. least o (map (place InstanceCycle) (map (λ i. i.line) ys))) (sym (filter-kept returns x (drop (k + 1) insts)) ∙ ap (filter returns) (sym (drop-at insts k d h)))
      ∙ l.by returns t;
}

pub insts_start : (kids : List (List Instance)) (home : ℕ) (insts : List Instance) (start : Option ℕ) → InstsLeft kids home insts 0 start start
insts_start kids home insts start = record { by = λ returns t. refl }

pub insts_end : (kids : List (List Instance)) (home : ℕ) (insts : List Instance) (k : ℕ) (best start : Option ℕ) → length insts ≤ k → insts ≡ kids_at kids home → InstsLeft kids home insts k best start → NotesReturning kids home start best
insts_end kids home insts k best start h e l = record {
  by = λ returns t.
      ap (λ ys. least best (map (place InstanceCycle) (map (λ i. i.line) (filter returns ys)))) (sym (drop_all k insts h))
      ∙ l.by returns (subst (λ ys. EachTold returns kids home ys) (sym e) t)
      ∙ ap (λ ys. least start (map (place InstanceCycle) (map (λ i. i.line) (filter returns ys)))) e;
}

-- the instances of the whole graph are within it

kid-low : (modules : List Module) (table : List (List ℕ × ℕ)) → NamesModules modules table → (insts : List (ℕ × List ℕ)) → list_all (λ i. nat_lt i.target (length modules)) (numbered table insts) ≡ true
kid-low modules table w [] = refl
kid-low modules table w (i ∷ insts) = step (number_named i.1 table) refl (kid-low modules table w insts)
  where
    step : (o : Option ℕ) → number_named i.1 table ≡ o → list_all (λ j. nat_lt j.target (length modules)) (numbered table insts) ≡ true
        → list_all (λ j. nat_lt j.target (length modules)) (cons_option (option_map (λ n. record { line = i.0; target = n }) o) (numbered table insts)) ≡ true
    step None e r = r
    step (Some t) e r = and-both (nat_lt t (length modules)) _ (lt-ltb t (length modules) (by_name modules table i.1 t w e).by.low) r

pub graph_within : (modules : List Module) (table : List (List ℕ × ℕ)) → NamesModules modules table → Within (length modules) (graph table modules)
graph_within modules table w = record { each = λ a. at modules a }
  where
    at : (ms : List Module) (a : ℕ) → list_all (λ i. nat_lt i.target (length modules)) (kids_at (graph table ms) a) ≡ true
    at [] a = refl
    at (m ∷ ms) zero = kid-low modules table w (insts_in m)
    at (m ∷ ms) (suc a) = at ms a

-- a module's instances on cycles

abbrev back : List Module → Module → Instance → Bool
back modules home i = contains (length modules) modules (get_or modules i.target home).name home.name

module-of : (modules : List Module) (t : ℕ) (m home : Module) → t < length modules → m ≡ get_or modules t m → get_or modules t home ≡ m
module-of [] t m home h e = absurd (omega arith)
module-of (x ∷ xs) zero m home h e = sym e
module-of (x ∷ xs) (suc t) m home h e = module-of xs t m home (omega arith) e

told : (modules : List Module) (table : List (List ℕ × ℕ)) → NamesModules modules table → (k : ℕ) (home : Module) → Numbered modules table k home → (insts : List (ℕ × List ℕ)) → EachTold (back modules home) (graph table modules) k (numbered table insts)
told modules table w k home o [] = tt
told modules table w k home o (i ∷ insts) = step (number_named i.1 table) refl (told modules table w k home o insts)
  where
    step : (n : Option ℕ) → number_named i.1 table ≡ n → EachTold (back modules home) (graph table modules) k (numbered table insts) → EachTold (back modules home) (graph table modules) k (cons_option (option_map (λ x. record { line = i.0; target = x }) n) (numbered table insts))
    step None e r = r
    step (Some t) e r =
        let b : ByName modules table t i.1 = by_name modules table i.1 t w e in
        let g : get_or modules t home ≡ b.home = module-of modules t b.home home b.by.low b.by.is in
        (subst (λ m. leads_so (contains (length modules) modules m.name home.name) (graph table modules) t k) (sym g) (leads_contained modules table w t k b.home home b.by o), r)

back-lines : (modules : List Module) (table : List (List ℕ × ℕ)) → NamesModules modules table → (k : ℕ) (home : Module) → Numbered modules table k home → (insts : List (ℕ × List ℕ)) → map (λ i. i.line) (filter (back modules home) (numbered table insts)) ≡ returning modules home insts
back-lines modules table w k home o [] = refl
back-lines modules table w k home o (i ∷ insts) = step (number_named i.1 table) refl (back-lines modules table w k home o insts)
  where
    lines-cond : (b : Bool) (t : ℕ) (xs : List Instance) (ys : List (ℕ × List ℕ)) → map (λ j. j.line) xs ≡ map (λ j. j.0) ys → map (λ j. j.line) (cond b ((record { line = i.0; target = t }) ∷ xs) xs) ≡ map (λ j. j.0) (cond b (i ∷ ys) ys)
    lines-cond true t xs ys e = ap (λ l. i.0 ∷ l) e
    lines-cond false t xs ys e = e

    step : (n : Option ℕ) → number_named i.1 table ≡ n → map (λ j. j.line) (filter (back modules home) (numbered table insts)) ≡ returning modules home insts
        → map (λ j. j.line) (filter (back modules home) (cons_option (option_map (λ x. record { line = i.0; target = x }) n) (numbered table insts))) ≡ returning modules home (i ∷ insts)
    step None e r = r ∙ sym (ap (λ b. map (λ j. j.0) (cond b (i ∷ filter (λ j. contains (length modules) modules j.1 home.name) insts) (filter (λ j. contains (length modules) modules j.1 home.name) insts))) (alone modules table i.1 k home w e o (length modules)))
    step (Some t) e r =
        let b : ByName modules table t i.1 = by_name modules table i.1 t w e in
        let g : get_or modules t home ≡ b.home = module-of modules t b.home home b.by.low b.by.is in
        ap (λ c. map (λ j. j.line) (cond c ((record { line = i.0; target = t }) ∷ filter (back modules home) (numbered table insts)) (filter (back modules home) (numbered table insts)))) (ap (λ m. contains (length modules) modules m.name home.name) g ∙ ap (λ x. contains (length modules) modules x home.name) b.name)
        ∙ lines-cond (contains (length modules) modules i.1 home.name) t _ _ r

pub cycle_noted : (modules : List Module) (table : List (List ℕ × ℕ)) → NamesModules modules table → (k : ℕ) (home : Module) (o p : Option ℕ) → Numbered modules table k home → NotesReturning (graph table modules) k o p
    → p ≡ least o (map (place InstanceCycle) (body_lines modules (cycle_at modules home) home))
cycle_noted modules table w k home o p n r =
    let e : kids_at (graph table modules) k ≡ numbered table (insts_in home) = graph_kids modules table k home n in
    r.by (back modules home) (subst (λ ys. EachTold (back modules home) (graph table modules) k ys) (sym e) (told modules table w k home n (insts_in home)))
    ∙ ap (λ ys. least o (map (place InstanceCycle) (map (λ i. i.line) (filter (back modules home) ys)))) e
    ∙ ap (λ ls. least o (map (place InstanceCycle) ls)) (back-lines modules table w k home n (insts_in home) ∙ sym (cycle_body modules home))

-- the first module of each name

first-at : {X : Type 0} (p : X → Bool) (i k : ℕ) (xs : List X) (x : X) → k < length xs → x ≡ get_or xs k x → p x ≡ true → is_number (i + k) (position_from p i xs) ≡ not (list_any p (take k xs))
first-at p i k [] x h e t = absurd (omega arith)
first-at p i zero (y ∷ ys) x h e t =
    ap (λ b. is_number (i + 0) (cond b (Some i) (position_from p (i + 1) ys))) (ap p (sym e) ∙ t) ∙ eq-eqb i (i + 0) (sym (add-zero i))
first-at p i (suc k) (y ∷ ys) x h e t = step (p y) (first-at p (i + 1) k ys x (omega arith) e t)
  where
    apart : (b : Bool) → nat_eq i (i + suc k) ≡ b → b ≡ false
    apart true q = let r : i ≡ i + suc k = eqb-true i (i + suc k) q in absurd (omega arith)
    apart false q = refl

    shift : i + 1 + k ≡ i + suc k
    shift = omega arith

    step : (b : Bool) → is_number (i + 1 + k) (position_from p (i + 1) ys) ≡ not (list_any p (take k ys)) → is_number (i + suc k) (cond b (Some i) (position_from p (i + 1) ys)) ≡ not (b || list_any p (take k ys))
    step true r = apart (nat_eq i (i + suc k)) refl
    step false r = ap (λ n. is_number n (position_from p (i + 1) ys)) (sym shift) ∙ r

among-map : (q : List ℕ) (ms : List Module) → is_among q (map module_name ms) ≡ list_any (λ m. bytes_eq m.name q) ms
among-map q [] = refl
among-map q (m ∷ ms) = ap (λ b. bytes_eq m.name q || b) (among-map q ms)

abbrev names_before : List Module → ℕ → List (List ℕ)
names_before modules k = map module_name (take k modules)

pub is_first : (modules : List Module) (table : List (List ℕ × ℕ)) (k : ℕ) (m : Module) → NamesModules modules table → k < length modules → m ≡ get_or modules k m
    → is_number k (number_named m.name table) ≡ not (is_among m.name (names_before modules k))
is_first modules table k m w h e =
    ap (is_number k) (w.each m.name)
    ∙ ap (λ n. is_number n (position_from (λ x. bytes_eq x.name m.name) 0 modules)) (sym (zero-add k))
    ∙ first-at (λ x. bytes_eq x.name m.name) 0 k modules m h e (equal-names m.name m.name refl)
    ∙ ap not (sym (among-map m.name (take k modules)))

first-same : {X : Type 0} (name_of : X → List ℕ) (xs ys : List (List ℕ)) (items : List X) → SameNames xs ys → first_ones name_of xs items ≡ first_ones name_of ys items
first-same name_of xs ys [] h = refl
first-same name_of xs ys (i ∷ items) h =
    ap (λ b. kept (not b) i (first_ones name_of (name_of i ∷ xs) items)) (h.each (name_of i))
    ∙ ap (λ t. kept (not (is_among (name_of i) ys)) i t) (first-same name_of (name_of i ∷ xs) (name_of i ∷ ys) items (record { each = λ q. ap (λ b. bytes_eq (name_of i) q || b) (h.each q) }))

among-last : (q x : List ℕ) (xs : List (List ℕ)) → is_among q (xs ++ x ∷ []) ≡ (bytes_eq x q || is_among q xs)
among-last q x [] = refl
among-last q x (y ∷ xs) = ap (λ b. bytes_eq y q || b) (among-last q x xs) ∙ turn (bytes_eq y q) (bytes_eq x q) (is_among q xs)
  where
    turn : (a b c : Bool) → (a || (b || c)) ≡ (b || (a || c))
    turn true true c = refl
    turn true false c = refl
    turn false b c = refl

before-next : (modules : List Module) (k : ℕ) (m : Module) → k < length modules → m ≡ get_or modules k m → SameNames (m.name ∷ names_before modules k) (names_before modules (k + 1))
before-next modules k m h e = record {
  each = λ q.
      sym (among-last q m.name (names_before modules k))
      ∙ ap (is_among q) (sym (names-last (take k modules)) ∙ ap (map module_name) (ap (λ y. take k modules ++ y ∷ []) e ∙ sym (take_more modules k m h)));
}
  where
    names-last : (ms : List Module) → map module_name (ms ++ m ∷ []) ≡ map module_name ms ++ m.name ∷ []
    names-last [] = refl
    names-last (x ∷ xs) = ap (λ t. x.name ∷ t) (names-last xs)

abbrev lines_from : List Module → ℕ → List ℕ
lines_from modules k = flat_map (λ m. body_lines modules (cycle_at modules m) m) (first_ones module_name (names_before modules k) (drop k modules))

-- what is left of the modules, from the k-th
pub record CyclesLeft (modules : List Module) (k : ℕ) (best start : Option ℕ) : Type 0 where
  pub noted : least best (map (place InstanceCycle) (lines_from modules k)) ≡ least start (map (place InstanceCycle) (cycle_lines modules))

pub cycles_start : (modules : List Module) (start : Option ℕ) → CyclesLeft modules 0 start start
cycles_start modules start = record { noted = refl }

lines-next : (modules : List Module) (k : ℕ) (m : Module) → k < length modules → m ≡ get_or modules k m
    → lines_from modules k ≡ flat_map (λ x. body_lines modules (cycle_at modules x) x) (kept (not (is_among m.name (names_before modules k))) m (first_ones module_name (names_before modules (k + 1)) (drop (k + 1) modules)))
lines-next modules k m h e =
    ap (λ ys. flat_map (λ x. body_lines modules (cycle_at modules x) x) (first_ones module_name (names_before modules k) ys)) (next_item modules k m h e)
    ∙ ap (λ t. flat_map (λ x. body_lines modules (cycle_at modules x) x) (kept (not (is_among m.name (names_before modules k))) m t)) (first-same module_name (m.name ∷ names_before modules k) (names_before modules (k + 1)) (drop (k + 1) modules) (before-next modules k m h e))

pub cycles_first : (modules : List Module) (table : List (List ℕ × ℕ)) (k : ℕ) (m : Module) (o p start : Option ℕ) → NamesModules modules table → k < length modules → m ≡ get_or modules k m
    → is_number k (number_named m.name table) ≡ true → p ≡ least o (map (place InstanceCycle) (body_lines modules (cycle_at modules m) m)) → CyclesLeft modules k o start → CyclesLeft modules (k + 1) p start
cycles_first modules table k m o p start w h e f q l =
    let own : List ℕ = body_lines modules (cycle_at modules m) m in
    let rest : List Module = first_ones module_name (names_before modules (k + 1)) (drop (k + 1) modules) in
    record {
      noted =
          ap (λ b. least b (map (place InstanceCycle) (lines_from modules (k + 1)))) q
          ∙ sym (least-append o (map (place InstanceCycle) own) (map (place InstanceCycle) (lines_from modules (k + 1))))
          ∙ ap (least o) (sym (map-append (place InstanceCycle) own (lines_from modules (k + 1))))
          ∙ ap (λ b. least o (map (place InstanceCycle) (flat_map (λ x. body_lines modules (cycle_at modules x) x) (kept b m rest)))) (sym f ∙ is_first modules table k m w h e)
          ∙ ap (λ ls. least o (map (place InstanceCycle) ls)) (sym (lines-next modules k m h e))
          ∙ l.noted;
    }

pub cycles_other : (modules : List Module) (table : List (List ℕ × ℕ)) (k : ℕ) (m : Module) (o start : Option ℕ) → NamesModules modules table → k < length modules → m ≡ get_or modules k m
    → is_number k (number_named m.name table) ≡ false → CyclesLeft modules k o start → CyclesLeft modules (k + 1) o start
cycles_other modules table k m o start w h e f l =
    let rest : List Module = first_ones module_name (names_before modules (k + 1)) (drop (k + 1) modules) in
    record {
      noted =
          ap (λ b. least o (map (place InstanceCycle) (flat_map (λ x. body_lines modules (cycle_at modules x) x) (kept b m rest)))) (sym f ∙ is_first modules table k m w h e)
          ∙ ap (λ ls. least o (map (place InstanceCycle) ls)) (sym (lines-next modules k m h e))
          ∙ l.noted;
    }

pub cycles_end : (modules : List Module) (k : ℕ) (best start : Option ℕ) → length modules ≤ k → CyclesLeft modules k best start → best ≡ least start (map (place InstanceCycle) (cycle_lines modules))
cycles_end modules k best start h l =
    ap (λ ys. least best (map (place InstanceCycle) (flat_map (λ m. body_lines modules (cycle_at modules m) m) (first_ones module_name (names_before modules k) ys)))) (sym (drop_all k modules h)) ∙ l.noted

-- a first module has its number
pub numbered_first : (modules : List Module) (table : List (List ℕ × ℕ)) (k : ℕ) (m : Module) → NamesModules modules table → k < length modules → m ≡ get_or modules k m → is_number k (number_named m.name table) ≡ true → Numbered modules table k m
numbered_first modules table k m w h e f = from (number_named m.name table) refl f
  where
    whole : number_named m.name table ≡ Some k → Numbered modules table k m
    whole q =
        let b : ByName modules table k m.name = by_name modules table m.name k w q in
        subst (λ x. Numbered modules table k x) (read-same modules k b.home m h b.by.is e) b.by

    from : (o : Option ℕ) → number_named m.name table ≡ o → is_number k o ≡ true → Numbered modules table k m
    from None q r = cc
    from (Some n) q r = whole (q ∙ ap Some (eqb-true n k r))

-- one module more
pub module_noted : (modules : List Module) (table : List (List ℕ × ℕ)) (kids : List (List Instance)) (k : ℕ) (m : Module) (o p start : Option ℕ) → NamesModules modules table → kids ≡ graph table modules → k < length modules → m ≡ get_or modules k m
    → is_number k (number_named m.name table) ≡ true → NotesReturning kids k o p → CyclesLeft modules k o start → CyclesLeft modules (k + 1) p start
module_noted modules table kids k m o p start w g h e f n l =
    cycles_first modules table k m o p start w h e f
    (cycle_noted modules table w k m o p (numbered_first modules table k m w h e f) (subst (λ x. NotesReturning x k o p) g n)) l

pub kids_within : (modules : List Module) (table : List (List ℕ × ℕ)) (kids : List (List Instance)) (n : ℕ) → NamesModules modules table → kids ≡ graph table modules → length kids ≡ n → Within n kids
kids_within modules table kids n w g e = subst (λ x. Within x kids) e (subst (λ x. Within (length kids) x) (sym g) (subst (λ x. Within x (graph table modules)) (sym (ap length g ∙ graph-long modules)) (graph_within modules table w)))
  where
    graph-long : (ms : List Module) → length (graph table ms) ≡ length ms
    graph-long [] = refl
    graph-long (m ∷ ms) = ap suc (graph-long ms)
