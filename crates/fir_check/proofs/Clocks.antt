-- The Clock inputs of modules, one after another.
use Rattle.std.proofs.Common.{ℕ, ◌≡◌, ◌+◌, ◌<◌, ◌≤◌, Bool, true, false, cond, not, ◌||◌, ◌&&◌, Option, None, Some, is_some, is_none, option_map, List, [], ◌∷◌, ◌++◌, map, filter, length, take, drop, get_or, refl, sym, ap, subst, ◌∙◌, append_assoc, append-nil}
use Rattle.std.specs.Prelude.{bytes_eq}
use Rattle.std.specs.List.{list_any}
use Rattle.std.proofs.lemmas.List.{drop_all, take_more}
use Rattle.std.specs.declared.vec.Vec.{Vec}
use Rattle.std.specs.declared.alloc.Global.{Global}
use Rattle.fir_ast.specs.declared.tree.Port.{Port}
use Rattle.fir_ast.specs.declared.tree.Module.{Module}
use Rattle.fir_check.specs.Names.{is_among, kept, first_ones, firsts}
use Rattle.fir_check.specs.Scopes.{port_name, module_named}
use Rattle.fir_check.specs.Rules.{is_clock_input, lacks_clock, some_is}
use Rattle.fir_check.specs.Driven.{DrivenBy, has_pair, misses, misses_one, clock_names, clock_inputs, names_seen, all_seen}
use Rattle.fir_check.specs.Tables.{number_named, with_name, NamesModules}
use Rattle.fir_check.proofs.ByNumber.{ByName, by_name}
use Rattle.fir_check.proofs.Doubles.{next_item}
use Rattle.fir_check.proofs.Names.{map_at, map_length}
use Rattle.fir_check.proofs.Named.{named_low, any_default}
use Rattle.fir_check.proofs.Pairs.{lacks_is}
use Rattle.fir_check.proofs.Tables.{SameNames, names_of, among_names, named-added}

abbrev Names : Type 0
Names = List (List ℕ)

abbrev Table : Type 0
Table = List (List ℕ × ℕ)

-- what came before counts only by its names
firsts-same : {X : Type 0} (name_of : X → List ℕ) (xs ys : Names) (items : List X) → SameNames xs ys → first_ones name_of xs items ≡ first_ones name_of ys items
firsts-same name_of xs ys [] h = refl
firsts-same name_of xs ys (i ∷ items) h =
    ap (λ b. kept (not b) i (first_ones name_of (name_of i ∷ xs) items)) (h.each (name_of i))
    ∙ ap (λ t. kept (not (is_among (name_of i) ys)) i t) (firsts-same name_of (name_of i ∷ xs) (name_of i ∷ ys) items (record { each = λ q. ap (λ b. bytes_eq (name_of i) q || b) (h.each q) }))

firsts-next : {X : Type 0} (name_of : X → List ℕ) (i : X) (items : List X) (n : ℕ) (table : Table)
    → first_ones name_of (names_of table) (i ∷ items) ≡ kept (not (is_some (number_named (name_of i) table))) i (first_ones name_of (names_of (with_name (name_of i) n table)) items)
firsts-next name_of i items n table =
    ap (λ b. kept (not b) i (first_ones name_of (name_of i ∷ names_of table) items)) (among_names (name_of i) table)
    ∙ ap (λ t. kept (not (is_some (number_named (name_of i) table))) i t) (firsts-same name_of _ _ items (record {
      each = λ q.
          ap (λ b. bytes_eq (name_of i) q || b) (among_names q table) ∙ sym (named-added q (name_of i) n table) ∙ sym (among_names q (with_name (name_of i) n table));
    }))

clocks-kept : (b : Bool) (x : Port) (rest : List Port) → clock_names (kept b x rest) ≡ kept (b && is_clock_input x) x.name [] ++ clock_names rest
clocks-kept false x rest = refl
clocks-kept true x rest = step (is_clock_input x)
  where
    step : (c : Bool) → map port_name (cond c (x ∷ filter is_clock_input rest) (filter is_clock_input rest)) ≡ kept c x.name [] ++ clock_names rest
    step true = refl
    step false = refl

none-is : (o : Option ℕ) → not (is_some o) ≡ is_none o
none-is None = refl
none-is (Some n) = refl

-- what is left of the ports, from the i-th
pub record ClocksLeft (ports : List Port) (i : ℕ) (table : Table) (found : Names) : Type 0 where
  pub whole : found ++ clock_names (first_ones port_name (names_of table) (drop i ports)) ≡ clock_names (firsts port_name ports)

pub clocks_start : (ports : List Port) (table : Table) (found : Names) → table ≡ [] → found ≡ [] → ClocksLeft ports 0 table found
clocks_start ports table found e f = record {
  whole = ap (λ t. found ++ clock_names (first_ones port_name (names_of t) ports)) e ∙ ap (λ t. t ++ clock_names (firsts port_name ports)) f;
}

pub clocks_next : (ports : List Port) (i : ℕ) (x : Port) (table after : Table) (found more : Names) (is_new : Bool)
    → i < length ports → x ≡ get_or ports i x → after ≡ with_name x.name i table → is_new ≡ is_none (number_named x.name table)
    → more ≡ found ++ kept (is_new && is_clock_input x) x.name [] → ClocksLeft ports i table found → ClocksLeft ports (i + 1) after more
clocks_next ports i x table after found more is_new h e a n q l =
    let rest : List Port = first_ones port_name (names_of (with_name x.name i table)) (drop (i + 1) ports) in
    record {
      whole =
          ap (λ t. more ++ clock_names (first_ones port_name (names_of t) (drop (i + 1) ports))) a
          ∙ ap (λ t. t ++ clock_names rest) q
          ∙ append_assoc found (kept (is_new && is_clock_input x) x.name []) (clock_names rest)
          ∙ ap (λ t. found ++ t)
          (sym (clocks-kept is_new x rest) ∙ ap (λ b. clock_names (kept b x rest)) (n ∙ sym (none-is (number_named x.name table)))
          ∙ ap clock_names (sym (firsts-next port_name x (drop (i + 1) ports) i table) ∙ ap (first_ones port_name (names_of table)) (sym (next_item ports i x h e))))
          ∙ l.whole;
    }

pub clocks_end : (ports : List Port) (i : ℕ) (table : Table) (found : Names) → length ports ≤ i → ClocksLeft ports i table found → found ≡ clock_names (firsts port_name ports)
clocks_end ports i table found h l = sym (append-nil found) ∙ ap (λ ys. found ++ clock_names (first_ones port_name (names_of table) ys)) (sym (drop_all i ports h)) ∙ l.whole

map_last : {X Y : Type 0} (f : X → Y) (xs : List X) (x : X) → map f (xs ++ x ∷ []) ≡ map f xs ++ f x ∷ []
map_last f [] x = refl
map_last f (y ∷ ys) x = ap (λ t. f y ∷ t) (map_last f ys x)

-- the modules from the i-th on
pub modules_more : (modules : List Module) (i : ℕ) (m : Module) (all : List (Vec (Vec ℕ Global) Global)) (v : Vec (Vec ℕ Global) Global)
    → i < length modules → m ≡ get_or modules i m → names_seen v ≡ clock_inputs m
    → all_seen all ≡ map clock_inputs (take i modules) → all_seen (all ++ v ∷ []) ≡ map clock_inputs (take (i + 1) modules)
modules_more modules i m all v h e p q =
    map_last names_seen all v ∙ ap (λ t. t ++ names_seen v ∷ []) q ∙ ap (λ y. map clock_inputs (take i modules) ++ y ∷ []) p
    ∙ sym (map_last clock_inputs (take i modules) m) ∙ ap (map clock_inputs) (ap (λ y. take i modules ++ y ∷ []) e ∙ sym (take_more modules i m h))

-- the Clock inputs of the module of a name, by the number that a table gives it
pub clocks_low : (modules : List Module) (table : Table) (all : List (Vec (Vec ℕ Global) Global)) (q : List ℕ) (k : ℕ) → NamesModules modules table
    → all_seen all ≡ map clock_inputs modules → number_named q table ≡ Some k → k < length all
clocks_low modules table all q k n t e =
    subst (λ l. k < l) (sym (sym (map_length names_seen all) ∙ ap length t ∙ map_length clock_inputs modules)) (named_low modules table q k n e)

pub clocks_at : (modules : List Module) (table : Table) (all : List (Vec (Vec ℕ Global) Global)) (q : List ℕ) (k : ℕ) (d : Vec (Vec ℕ Global) Global) → NamesModules modules table
    → all_seen all ≡ map clock_inputs modules → number_named q table ≡ Some k → Some (names_seen (get_or all k d)) ≡ option_map clock_inputs (module_named q modules)
clocks_at modules table all q k d n t e =
    let p : Vec (Vec ℕ Global) Global = get_or all k d in
    let b : ByName modules table k q = by_name modules table q k n e in
    let l : k < length all = clocks_low modules table all q k n t e in
    ap Some
    (sym (map_at names_seen all k p [] l (any_default all k d p l)) ∙ ap (λ z. get_or z k []) t ∙ map_at clock_inputs modules k b.home [] b.by.low b.by.is)
    ∙ ap (option_map clock_inputs) (sym b.by.named ∙ ap (λ z. module_named z modules) b.name)

-- a Clock input that isn't driven

any_clocks : (ps : List (List ℕ × List ℕ)) (i : List ℕ) (xs : List Port) → misses_one ps i (clock_names xs) ≡ list_any (misses ps i) xs
any_clocks ps i [] = refl
any_clocks ps i (x ∷ xs) = step (is_clock_input x) (any_clocks ps i xs)
  where
    step : (c : Bool) → misses_one ps i (clock_names xs) ≡ list_any (misses ps i) xs
        → misses_one ps i (map port_name (cond c (x ∷ filter is_clock_input xs) (filter is_clock_input xs))) ≡ (c && not (has_pair i x.name ps)) || list_any (misses ps i) xs
    step true e = ap (λ b. not (has_pair i x.name ps) || b) e
    step false e = e

pub clocks_missed : (home target : Module) (i : List ℕ) (ps : List (List ℕ × List ℕ)) → DrivenBy home ps
    → misses_one ps i (clock_inputs target) ≡ lacks_clock home i target
clocks_missed home target i ps d = any_clocks ps i (firsts port_name target.ports) ∙ lacks_is home target i ps d

pub clocks_lacked : {S : Type 0} (f : S → Names) (home : Module) (i : List ℕ) (ps : List (List ℕ × List ℕ)) (o : Option S) (s : S) (m : Option Module) → DrivenBy home ps
    → option_map f o ≡ option_map clock_inputs m → o ≡ Some s → misses_one ps i (f s) ≡ some_is (lacks_clock home i) m
clocks_lacked f home i ps o s m d e is = step m (sym (ap (option_map f) is) ∙ e)
  where
    step : (n : Option Module) → Some (f s) ≡ option_map clock_inputs n → misses_one ps i (f s) ≡ some_is (lacks_clock home i) n
    step None q = cc
    step (Some target) q = let r : f s ≡ clock_inputs target = cc in ap (misses_one ps i) r ∙ clocks_missed home target i ps d
