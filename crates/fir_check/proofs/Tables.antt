-- Tables of names, and items whose name came before.
use Rattle.std.proofs.Common.{ℕ, suc, ◌≡◌, ◌+◌, ◌<◌, ◌≤◌, Bool, true, false, cond, ◌||◌, Option, Some, None, is_some, List, [], ◌∷◌, ◌++◌, map, length, drop, get_or, bytes_eq, nat_eq, refl, sym, ap, ◌∙◌, add-one, drop-cons, Result, Ok, Err, OnOk, is_err}
use Rattle.std.specs.List.{position_from}
use Rattle.std.proofs.lemmas.List.{drop_all}
use Rattle.std.proofs.lemmas.Slice.Eq.{bytes_eq-Decides}
use Rattle.indexmap.specs.IndexMap.{insert_entry}
use Rattle.std.specs.declared.vec.Vec.{Vec}
use Rattle.std.specs.declared.alloc.Global.{Global}
use Rattle.std.specs.Map.{lookup}
use Rattle.std.specs.Cmp.Lexicographic.{pointwise}
use Rattle.fir_ast.specs.declared.tree.Module.{Module}
use Rattle.fir_ast.specs.declared.tree.Field.{Field}
use Rattle.fir_check.specs.Names.{is_among, kept, repeated}
use Rattle.fir_check.specs.Fields.{field_name}
use Rattle.fir_check.specs.Scopes.{module_name}
use Rattle.fir_check.specs.Tables.{entries_seen, number_named, with_name, NamesModules, NamesFields}

-- tests on names

pub names-equal : (a b : List ℕ) → bytes_eq a b ≡ true → a ≡ b
names-equal a b e = (bytes_eq-Decides a b).0 e

pub equal-names : (a b : List ℕ) → a ≡ b → bytes_eq a b ≡ true
equal-names a b e = (bytes_eq-Decides a b).1 e

pub same-answer : (x y : Bool) → (x ≡ true → y ≡ true) → (y ≡ true → x ≡ true) → x ≡ y
same-answer true y f g = sym (f refl)
same-answer false true f g = g refl
same-answer false false f g = refl

pub names-turned : (a b : List ℕ) → bytes_eq a b ≡ bytes_eq b a
names-turned a b = same-answer (bytes_eq a b) (bytes_eq b a) (λ e. equal-names b a (sym (names-equal a b e))) (λ e. equal-names a b (sym (names-equal b a e)))

-- a map of bytes as a table

pub looked_up : (name : List ℕ) (es : List (Vec ℕ Global × ℕ)) → lookup (λ k. pointwise nat_eq name k.items) es ≡ number_named name (entries_seen es)
looked_up name [] = refl
looked_up name (e ∷ es) = ap (λ r. cond (pointwise nat_eq name e.0.items) (Some e.1) r) (looked_up name es)

pub inserted : (name : Vec ℕ Global) (number : ℕ) (es : List (Vec ℕ Global × ℕ)) → is_some (number_named name.items (entries_seen es)) ≡ false → entries_seen (insert_entry (λ a b. pointwise nat_eq a.items b.items) es name number) ≡ entries_seen es ++ (name.items, number) ∷ []
inserted name number [] h = refl
inserted name number (e ∷ es) h = step (pointwise nat_eq name.items e.0.items) (inserted name number es) h
  where
    step : (b : Bool) → (is_some (number_named name.items (entries_seen es)) ≡ false → entries_seen (insert_entry (λ a b. pointwise nat_eq a.items b.items) es name number) ≡ entries_seen es ++ (name.items, number) ∷ []) → is_some (cond b (Some e.1) (number_named name.items (entries_seen es))) ≡ false → entries_seen (cond b ((e.0, number) ∷ es) (e ∷ insert_entry (λ a b. pointwise nat_eq a.items b.items) es name number)) ≡ (e.0.items, e.1) ∷ (entries_seen es ++ (name.items, number) ∷ [])
    step true r h = cc
    step false r h = ap (λ t. (e.0.items, e.1) ∷ t) (r h)

pub at_ok : {T E : Type 0} (r : Result T E) (P : Type 0) → is_err r ≡ false → OnOk r P → P
at_ok (Ok x) P e p = p
at_ok (Err x) P e p = cc

pub added : (own : Vec ℕ Global) (number : ℕ) (es : List (Vec ℕ Global × ℕ)) (name : List ℕ) (table : List (List ℕ × ℕ)) → own.items ≡ name → entries_seen es ≡ table → is_some (number_named name table) ≡ false
    → entries_seen (insert_entry (λ a b. pointwise nat_eq a.items b.items) es own number) ≡ with_name name number table
added own number es name table e t h =
    inserted own number es (ap (λ x. is_some (number_named x (entries_seen es))) e ∙ ap (λ x. is_some (number_named name x)) t ∙ h)
    ∙ ap (λ x. x ++ (own.items, number) ∷ []) t ∙ ap (λ x. table ++ (x, number) ∷ []) e
    ∙ sym (ap (λ b. cond b table (table ++ (name, number) ∷ [])) h)

-- the names of a table

abbrev pub names_of : List (List ℕ × ℕ) → List (List ℕ)
names_of table = map (λ e. e.0) table

pub among_names : (q : List ℕ) (table : List (List ℕ × ℕ)) → is_among q (names_of table) ≡ is_some (number_named q table)
among_names q [] = refl
among_names q (e ∷ es) =
    ap (λ b. b || is_among q (names_of es)) (names-turned e.0 q)
    ∙ ap (λ b. bytes_eq q e.0 || b) (among_names q es)
    ∙ step (bytes_eq q e.0) (number_named q es)
  where
    step : (b : Bool) (o : Option ℕ) → (b || is_some o) ≡ is_some (cond b (Some e.1) o)
    step true o = refl
    step false o = refl

named-last : (q name : List ℕ) (n : ℕ) (table : List (List ℕ × ℕ)) → is_some (number_named q (table ++ (name, n) ∷ [])) ≡ (bytes_eq name q || is_some (number_named q table))
named-last q name n [] = ap (λ b. is_some (cond b (Some n) None)) (names-turned q name) ∙ step (bytes_eq name q)
  where
    step : (b : Bool) → is_some (cond b (Some n) None) ≡ (b || false)
    step true = refl
    step false = refl
named-last q name n (e ∷ es) = step (bytes_eq q e.0) (bytes_eq name q) _ _ (named-last q name n es)
  where
    step : (b c : Bool) (o p : Option ℕ) → is_some p ≡ (c || is_some o) → is_some (cond b (Some e.1) p) ≡ (c || is_some (cond b (Some e.1) o))
    step true true o p h = refl
    step true false o p h = refl
    step false c o p h = h

-- a further name is known from then on
pub named-added : (q name : List ℕ) (n : ℕ) (table : List (List ℕ × ℕ)) → is_some (number_named q (with_name name n table)) ≡ (bytes_eq name q || is_some (number_named q table))
named-added q name n table = step (is_some (number_named name table)) refl
  where
    there : is_some (number_named name table) ≡ true → (b : Bool) → bytes_eq name q ≡ b → is_some (number_named q table) ≡ (b || is_some (number_named q table))
    there h true e = sym (ap (λ x. is_some (number_named x table)) (names-equal name q e)) ∙ h
    there h false e = refl

    step : (b : Bool) → is_some (number_named name table) ≡ b → is_some (number_named q (cond b table (table ++ (name, n) ∷ []))) ≡ (bytes_eq name q || is_some (number_named q table))
    step true h = there h (bytes_eq name q) refl
    step false h = named-last q name n table

-- what came before counts only by its names

pub record SameNames (xs ys : List (List ℕ)) : Type 0 where
  pub each : (q : List ℕ) → is_among q xs ≡ is_among q ys

pub repeated-same : {X : Type 0} (name_of : X → List ℕ) (xs ys : List (List ℕ)) (items : List X) → SameNames xs ys → repeated name_of xs items ≡ repeated name_of ys items
repeated-same name_of xs ys [] h = refl
repeated-same name_of xs ys (i ∷ items) h =
    ap (λ b. kept b i (repeated name_of (name_of i ∷ xs) items)) (h.each (name_of i))
    ∙ ap (λ t. kept (is_among (name_of i) ys) i t) (repeated-same name_of (name_of i ∷ xs) (name_of i ∷ ys) items (record { each = λ q. ap (λ b. bytes_eq (name_of i) q || b) (h.each q) }))

-- one item more, with a table of the names that came before
pub repeated-next : {X : Type 0} (name_of : X → List ℕ) (i : X) (items : List X) (n : ℕ) (table : List (List ℕ × ℕ))
    → repeated name_of (names_of table) (i ∷ items) ≡ kept (is_some (number_named (name_of i) table)) i (repeated name_of (names_of (with_name (name_of i) n table)) items)
repeated-next name_of i items n table =
    ap (λ b. kept b i (repeated name_of (name_of i ∷ names_of table) items)) (among_names (name_of i) table)
    ∙ ap (λ t. kept (is_some (number_named (name_of i) table)) i t) (repeated-same name_of _ _ items (record {
      each = λ q.
          ap (λ b. bytes_eq (name_of i) q || b) (among_names q table) ∙ sym (named-added q (name_of i) n table) ∙ sym (among_names q (with_name (name_of i) n table));
    }))

-- the table of a list of items

unfoldable pub with_items : {X : Type 0} → (X → List ℕ) → ℕ → List (List ℕ × ℕ) → List X → List (List ℕ × ℕ)
with_items name_of n table [] = table
with_items name_of n table (x ∷ xs) = with_items name_of (n + 1) (with_name (name_of x) n table) xs

abbrev or_else : Option ℕ → Option ℕ → Option ℕ
or_else None p = p
or_else (Some x) p = Some x

number-last : (q name : List ℕ) (n : ℕ) (table : List (List ℕ × ℕ)) → number_named q (table ++ (name, n) ∷ []) ≡ or_else (number_named q table) (cond (bytes_eq name q) (Some n) None)
number-last q name n [] = ap (λ b. cond b (Some n) None) (names-turned q name)
number-last q name n (e ∷ es) = step (bytes_eq q e.0) _ _ _ (number-last q name n es)
  where
    step : (b : Bool) (o p r : Option ℕ) → p ≡ or_else o r → cond b (Some e.1) p ≡ or_else (cond b (Some e.1) o) r
    step true o p r h = refl
    step false o p r h = h

number-added : (q name : List ℕ) (n : ℕ) (table : List (List ℕ × ℕ)) → number_named q (with_name name n table) ≡ or_else (number_named q table) (cond (bytes_eq name q) (Some n) None)
number-added q name n table = step (is_some (number_named name table)) refl
  where
    known : (o r : Option ℕ) → is_some o ≡ true → o ≡ or_else o r
    known None r h = cc
    known (Some x) r h = refl

    unknown : (o : Option ℕ) → o ≡ or_else o None
    unknown None = refl
    unknown (Some x) = refl

    there : is_some (number_named name table) ≡ true → (b : Bool) → bytes_eq name q ≡ b → number_named q table ≡ or_else (number_named q table) (cond b (Some n) None)
    there h true e = known (number_named q table) (Some n) (sym (ap (λ x. is_some (number_named x table)) (names-equal name q e)) ∙ h)
    there h false e = unknown (number_named q table)

    step : (b : Bool) → is_some (number_named name table) ≡ b → number_named q (cond b table (table ++ (name, n) ∷ [])) ≡ or_else (number_named q table) (cond (bytes_eq name q) (Some n) None)
    step true h = there h (bytes_eq name q) refl
    step false h = number-last q name n table

number-items : {X : Type 0} (name_of : X → List ℕ) (q : List ℕ) (n : ℕ) (table : List (List ℕ × ℕ)) (xs : List X) → number_named q (with_items name_of n table xs) ≡ or_else (number_named q table) (position_from (λ x. bytes_eq (name_of x) q) n xs)
unfolding with_items
number-items name_of q n table [] = none (number_named q table)
  where
    none : (o : Option ℕ) → o ≡ or_else o None
    none None = refl
    none (Some x) = refl
number-items name_of q n table (x ∷ xs) =
    number-items name_of q (n + 1) (with_name (name_of x) n table) xs
    ∙ ap (λ o. or_else o (position_from (λ y. bytes_eq (name_of y) q) (n + 1) xs)) (number-added q (name_of x) n table)
    ∙ step (number_named q table) (bytes_eq (name_of x) q) (position_from (λ y. bytes_eq (name_of y) q) (n + 1) xs)
  where
    step : (o : Option ℕ) (b : Bool) (p : Option ℕ) → or_else (or_else o (cond b (Some n) None)) p ≡ or_else o (cond b (Some n) p)
    step (Some y) b p = refl
    step None true p = refl
    step None false p = refl

pub names_modules : (ms : List Module) (table : List (List ℕ × ℕ)) → table ≡ with_items module_name 0 [] ms → NamesModules ms table
names_modules ms table e = record { each = λ q. ap (number_named q) e ∙ number-items module_name q 0 [] ms }

-- what is left of the fields, from the i-th
pub record FieldsLeft (fields : List Field) (i : ℕ) (table : List (List ℕ × ℕ)) : Type 0 where
  pub named : with_items field_name i table (drop i fields) ≡ with_items field_name 0 [] fields

pub fields_start : (fields : List Field) (table : List (List ℕ × ℕ)) → table ≡ [] → FieldsLeft fields 0 table
fields_start fields table e = record { named = ap (λ t. with_items field_name 0 t fields) e }

pub fields_next : (fields : List Field) (i : ℕ) (f : Field) (table after : List (List ℕ × ℕ)) (n : List ℕ) → i < length fields → f ≡ get_or fields i f → n ≡ field_name f → after ≡ with_name n i table → FieldsLeft fields i table → FieldsLeft fields (i + 1) after
unfolding with_items
fields_next fields i f table after n h e p a l = record {
  named = ap (λ t. with_items field_name (i + 1) t (drop (i + 1) fields)) (a ∙ ap (λ m. with_name m i table) p)
      ∙ ap (λ ys. with_items field_name i table ys) (sym (drop-cons fields i f h ∙ ap (λ y. y ∷ drop (suc i) fields) (sym e) ∙ ap (λ k. f ∷ drop k fields) (sym (add-one i)))) ∙ l.named;
}

pub fields_end : (fields : List Field) (i : ℕ) (table : List (List ℕ × ℕ)) → length fields ≤ i → FieldsLeft fields i table → NamesFields fields table
unfolding with_items
fields_end fields i table h l = record {
  each = λ q. ap (number_named q) (ap (λ ys. with_items field_name i table ys) (sym (drop_all i fields h)) ∙ l.named) ∙ number-items field_name q 0 [] fields;
}
