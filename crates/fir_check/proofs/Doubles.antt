-- Names that came before, noted one after another.
use Rattle.std.proofs.Common.{ℕ, suc, ◌≡◌, ◌+◌, ◌<◌, ◌≤◌, Bool, true, false, not, Option, Some, None, is_some, is_none, List, [], ◌∷◌, map, length, drop, get_or, refl, sym, ap, ◌∙◌, add-one, drop-cons}
use Rattle.std.proofs.lemmas.List.{drop_all}
use Rattle.fir_ast.specs.declared.tree.Module.{Module}
use Rattle.fir_check.specs.declared.best.Rule.{Rule}
use Rattle.fir_check.specs.declared.best.Rule.TheVariants.{DoubleName}
use Rattle.fir_check.specs.Names.{kept, repeated, seconds}
use Rattle.fir_check.specs.Scopes.{module_name}
use Rattle.fir_check.specs.Places.{place, least}
use Rattle.fir_check.specs.Tables.{number_named, with_name, NamesModules}
use Rattle.fir_check.proofs.Least.{lower-least}
use Rattle.fir_check.proofs.Tables.{names_of, repeated-next, with_items, names_modules}

-- an item in front of others, noted first
pub kept-places : {X : Type 0} (r : Rule) (line_of : X → ℕ) (b : Bool) (x : X) (rest : List X) (o : Option ℕ)
    → least o (map (place r) (map line_of (kept b x rest))) ≡ least (least o (map (place r) (kept b (line_of x) []))) (map (place r) (map line_of rest))
kept-places r line_of true x rest o = lower-least (place r (line_of x)) o (map (place r) (map line_of rest))
kept-places r line_of false x rest o = refl

pub next_item : {X : Type 0} (xs : List X) (i : ℕ) (x : X) → i < length xs → x ≡ get_or xs i x → drop i xs ≡ x ∷ drop (i + 1) xs
next_item xs i x h e = drop-cons xs i x h ∙ ap (λ y. y ∷ drop (suc i) xs) (sym e) ∙ ap (λ n. x ∷ drop n xs) (sym (add-one i))

abbrev pub double_places : {X : Type 0} → (X → List ℕ) → (X → ℕ) → List (List ℕ × ℕ) → List X → List ℕ
double_places name_of line_of table xs = map (place DoubleName) (map line_of (repeated name_of (names_of table) xs))

pub doubles_next : {X : Type 0} (name_of : X → List ℕ) (line_of : X → ℕ) (x : X) (rest : List X) (n : ℕ) (table after : List (List ℕ × ℕ)) (o p : Option ℕ) (is_new : Bool)
    → after ≡ with_name (name_of x) n table → is_new ≡ is_none (number_named (name_of x) table) → p ≡ least o (map (place DoubleName) (kept (not is_new) (line_of x) []))
    → least p (double_places name_of line_of after rest) ≡ least o (double_places name_of line_of table (x ∷ rest))
doubles_next name_of line_of x rest n table after o p is_new a e q =
    ap (λ t. least p (double_places name_of line_of t rest)) a
    ∙ ap (λ m. least m others) (q ∙ ap (λ b. least o (map (place DoubleName) (kept b (line_of x) []))) (ap not e ∙ turned (number_named (name_of x) table)))
    ∙ sym (kept-places DoubleName line_of (is_some (number_named (name_of x) table)) x (repeated name_of (names_of (with_name (name_of x) n table)) rest) o)
    ∙ ap (λ ys. least o (map (place DoubleName) (map line_of ys))) (sym (repeated-next name_of x rest n table))
  where
    others : List ℕ
    others = double_places name_of line_of (with_name (name_of x) n table) rest

    turned : (m : Option ℕ) → not (is_none m) ≡ is_some m
    turned None = refl
    turned (Some y) = refl

-- what is left of the modules, from the i-th
pub record ModulesLeft (ms : List Module) (i : ℕ) (table : List (List ℕ × ℕ)) (best start : Option ℕ) : Type 0 where
  pub named : with_items module_name i table (drop i ms) ≡ with_items module_name 0 [] ms
  pub noted : least best (double_places module_name (λ m. m.line) table (drop i ms)) ≡ least start (map (place DoubleName) (map (λ m. m.line) (seconds module_name ms)))

pub modules_next : (ms : List Module) (i : ℕ) (m : Module) (table after : List (List ℕ × ℕ)) (o p start : Option ℕ) (is_new : Bool)
    → i < length ms → m ≡ get_or ms i m
    → after ≡ with_name m.name i table → is_new ≡ is_none (number_named m.name table) → p ≡ least o (map (place DoubleName) (kept (not is_new) m.line []))
    → ModulesLeft ms i table o start → ModulesLeft ms (i + 1) after p start
unfolding with_items
modules_next ms i m table after o p start is_new h e a n q l =
    let d : drop i ms ≡ m ∷ drop (i + 1) ms = next_item ms i m h e in
    record {
      named = ap (λ t. with_items module_name (i + 1) t (drop (i + 1) ms)) a ∙ ap (λ ys. with_items module_name i table ys) (sym d) ∙ l.named;
      noted = doubles_next module_name (λ x. x.line) m (drop (i + 1) ms) i table after o p is_new a n q ∙ ap (λ ys. least o (double_places module_name (λ x. x.line) table ys)) (sym d) ∙ l.noted;
    }

pub modules_end : (ms : List Module) (i : ℕ) (table : List (List ℕ × ℕ)) (best start : Option ℕ) → length ms ≤ i → ModulesLeft ms i table best start
    → (NamesModules ms table) × (best ≡ least start (map (place DoubleName) (map (λ m. m.line) (seconds module_name ms))))
unfolding with_items
modules_end ms i table best start h l =
    let d : drop i ms ≡ [] = drop_all i ms h in
    (names_modules ms table (ap (λ ys. with_items module_name i table ys) (sym d) ∙ l.named), ap (λ ys. least best (double_places module_name (λ m. m.line) table ys)) (sym d) ∙ l.noted)

pub modules_start : (ms : List Module) (table : List (List ℕ × ℕ)) (start : Option ℕ) → table ≡ [] → ModulesLeft ms 0 table start start
modules_start ms table start e = record {
  named = ap (λ t. with_items module_name 0 t ms) e;
  noted = ap (λ t. least start (double_places module_name (λ m. m.line) t ms)) e;
}
