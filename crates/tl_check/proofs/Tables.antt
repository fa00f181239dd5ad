-- Maps and sets of names as contracts see them.
use Rattle.std.proofs.Common.{ℕ, ◌≡◌, Bool, true, false, cond, ◌||◌, Some, is_some, List, [], ◌∷◌, ◌++◌, map, take, nat_eq, refl, sym, ap, ◌∙◌}
use Rattle.std.specs.List.{list_any}
use Rattle.std.proofs.lemmas.List.{take-map}
use Rattle.indexmap.specs.IndexMap.{insert_entry}
use Rattle.indexmap.specs.IndexSet.{insert_key}
use Rattle.std.specs.declared.vec.Vec.{Vec}
use Rattle.std.specs.declared.alloc.Global.{Global}
use Rattle.std.specs.Map.{lookup}
use Rattle.std.specs.Cmp.Lexicographic.{pointwise}
use Rattle.tl_check.specs.Scopes.{is_among, with_variable, handle_named, is_handle, with_handle}
use Rattle.tl_check.specs.Seen.{entries_seen}

-- sets

pub contained : (name : List ℕ) (ks : List (Vec ℕ Global)) → list_any (λ k. pointwise nat_eq name k.items) ks ≡ is_among name (map (λ k. k.items) ks)
contained name [] = refl
contained name (k ∷ ks) = ap (λ r. pointwise nat_eq name k.items || r) (contained name ks)

items_behind : (ks : List (Vec ℕ Global)) (k : Vec ℕ Global) → map (λ x. x.items) (ks ++ k ∷ []) ≡ map (λ x. x.items) ks ++ k.items ∷ []
items_behind [] k = refl
items_behind (x ∷ xs) k = ap (λ t. x.items ∷ t) (items_behind xs k)

pub variable_added : (own : Vec ℕ Global) (ks : List (Vec ℕ Global)) (name : List ℕ) (names : List (List ℕ)) → own.items ≡ name → map (λ k. k.items) ks ≡ names
    → map (λ k. k.items) (insert_key (λ a b. pointwise nat_eq a.items b.items) ks own) ≡ with_variable name names
variable_added own ks name names e t =
    by (list_any (λ b. pointwise nat_eq own.items b.items) ks) refl
    ∙ ap (λ n. with_variable n (map (λ k. k.items) ks)) e ∙ ap (with_variable name) t
  where
    by : (b : Bool) → list_any (λ b. pointwise nat_eq own.items b.items) ks ≡ b
        → map (λ k. k.items) (cond (list_any (λ b. pointwise nat_eq own.items b.items) ks) ks (ks ++ own ∷ [])) ≡ with_variable own.items (map (λ k. k.items) ks)
    by true h =
        ap (λ c. map (λ k. k.items) (cond c ks (ks ++ own ∷ []))) h
        ∙ sym (ap (λ c. cond c (map (λ k. k.items) ks) (map (λ k. k.items) ks ++ own.items ∷ [])) (sym (contained own.items ks) ∙ h))
    by false h =
        ap (λ c. map (λ k. k.items) (cond c ks (ks ++ own ∷ []))) h ∙ items_behind ks own
        ∙ sym (ap (λ c. cond c (map (λ k. k.items) ks) (map (λ k. k.items) ks ++ own.items ∷ [])) (sym (contained own.items ks) ∙ h))

pub variable_there : (name : List ℕ) (names : List (List ℕ)) → is_among name names ≡ true → with_variable name names ≡ names
variable_there name names h = ap (λ c. cond c names (names ++ name ∷ [])) h

pub names_taken : (n : ℕ) (ks ls : List (Vec ℕ Global)) (names : List (List ℕ)) → ls ≡ take n ks → map (λ k. k.items) ks ≡ names → map (λ k. k.items) ls ≡ take n names
names_taken n ks ls names e t = ap (map (λ k. k.items)) e ∙ sym (take-map (λ k. k.items) n ks) ∙ ap (take n) t

-- maps

pub looked_up : (name : List ℕ) (es : List (Vec ℕ Global × Bool)) → lookup (λ k. pointwise nat_eq name k.items) es ≡ handle_named name (entries_seen es)
looked_up name [] = refl
looked_up name (e ∷ es) = ap (λ r. cond (pointwise nat_eq name e.0.items) (Some e.1) r) (looked_up name es)

inserted : (name : Vec ℕ Global) (watches : Bool) (es : List (Vec ℕ Global × Bool)) → is_handle name.items (entries_seen es) ≡ false → entries_seen (insert_entry (λ a b. pointwise nat_eq a.items b.items) es name watches) ≡ entries_seen es ++ (name.items, watches) ∷ []
inserted name watches [] h = refl
inserted name watches (e ∷ es) h = step (pointwise nat_eq name.items e.0.items) (inserted name watches es) h
  where
    step : (b : Bool) → (is_handle name.items (entries_seen es) ≡ false → entries_seen (insert_entry (λ a b. pointwise nat_eq a.items b.items) es name watches) ≡ entries_seen es ++ (name.items, watches) ∷ []) → is_some (cond b (Some e.1) (handle_named name.items (entries_seen es))) ≡ false → entries_seen (cond b ((e.0, watches) ∷ es) (e ∷ insert_entry (λ a b. pointwise nat_eq a.items b.items) es name watches)) ≡ (e.0.items, e.1) ∷ (entries_seen es ++ (name.items, watches) ∷ [])
    step true r h = cc
    step false r h = ap (λ t. (e.0.items, e.1) ∷ t) (r h)

pub handle_added : (own : Vec ℕ Global) (watches : Bool) (es : List (Vec ℕ Global × Bool)) (name : List ℕ) (table : List (List ℕ × Bool)) → own.items ≡ name → entries_seen es ≡ table → is_handle name table ≡ false
    → entries_seen (insert_entry (λ a b. pointwise nat_eq a.items b.items) es own watches) ≡ with_handle name watches table
handle_added own watches es name table e t h =
    inserted own watches es (ap (λ x. is_handle x (entries_seen es)) e ∙ ap (λ x. is_handle name x) t ∙ h)
    ∙ ap (λ x. x ++ (own.items, watches) ∷ []) t ∙ ap (λ x. table ++ (x, watches) ∷ []) e
    ∙ sym (ap (λ b. cond b table (table ++ (name, watches) ∷ [])) h)

pub handles_taken : (n : ℕ) (es fs : List (Vec ℕ Global × Bool)) (handles : List (List ℕ × Bool)) → fs ≡ take n es → entries_seen es ≡ handles → entries_seen fs ≡ take n handles
handles_taken n es fs handles e t = ap entries_seen e ∙ sym (take-map (λ e. (e.0.items, e.1)) n es) ∙ ap (take n) t
