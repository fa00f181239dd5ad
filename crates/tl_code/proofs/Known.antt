-- Names in a set, and their slots.
use Rattle.std.proofs.Common.{ℕ, zero, suc, ◌≡◌, ◌+◌, ◌<◌, ◌≤◌, Bool, true, false, cond, not, ◌||◌, Option, Some, None, option_map, is_some, unwrap_or, List, [], ◌∷◌, ◌++◌, map, take, length, length-append, bytes_eq, nat_eq, nat_lt, refl, sym, ap, ◌∙◌, arith}
use Rattle.std.specs.List.{list_any, position, position_or_len}
use Rattle.std.proofs.lemmas.List.{take-map}
use Rattle.std.proofs.lemmas.Bool.Decides.{nat_tests}
use Rattle.std.specs.declared.vec.Vec.{Vec}
use Rattle.std.specs.declared.alloc.Global.{Global}
use Rattle.std.specs.Cmp.Lexicographic.{pointwise}
use Rattle.indexmap.specs.IndexSet.{insert_key}
use Rattle.tl_threads.specs.Values.{Name}
use Rattle.tl_threads.specs.Code.{slot_found, slot, grown, with_name}
use Rattle.tl_threads.proofs.NameFacts.{name_self}
pub use Rattle.tl_threads.proofs.NameFacts.{find_below}

abbrev pub shown : List (Vec ℕ Global) → List Name
shown ks = map (λ k. k.items) ks

-- where a name stands

later : (m n : ℕ) → cond (nat_lt (1 + m) (suc n)) (Some (1 + m)) None ≡ option_map (λ k. suc k) (cond (nat_lt m n) (Some m) None)
later m n = grind (arith, nat_tests)

first : (n : ℕ) → cond (nat_lt 0 (suc n)) (Some 0) None ≡ Some zero
first n = grind (arith, nat_tests)

pub found : (name : Name) (ks : List (Vec ℕ Global)) → position (λ k. pointwise nat_eq name k.items) ks ≡ slot_found name (shown ks)
found name [] = refl
found name (k ∷ ks) = by (pointwise nat_eq name k.items) (found name ks)
  where
    by : (b : Bool) → position (λ k. pointwise nat_eq name k.items) ks ≡ slot_found name (shown ks)
        → cond (nat_lt (cond (not b) (1 + position_or_len (λ k. pointwise nat_eq name k.items) ks) 0) (suc (length ks))) (Some (cond (not b) (1 + position_or_len (λ k. pointwise nat_eq name k.items) ks) 0)) None
        ≡ cond b (Some zero) (option_map (λ k. suc k) (slot_found name (shown ks)))
    by true r = first (length ks)
    by false r = later (position_or_len (λ k. pointwise nat_eq name k.items) ks) (length ks) ∙ ap (option_map (λ k. suc k)) r

-- a name that isn't known is in no set of these

not_later : (o : Option ℕ) → option_map (λ k. suc k) o ≡ None → o ≡ None
not_later None e = refl
not_later (Some k) e = cc

pub not_in : (name : Name) (ks : List (Vec ℕ Global)) → slot_found name (shown ks) ≡ None → list_any (λ k. pointwise nat_eq name k.items) ks ≡ false
not_in name [] e = refl
not_in name (k ∷ ks) e = by (pointwise nat_eq name k.items) (not_in name ks) e
  where
    by : (b : Bool) → (slot_found name (shown ks) ≡ None → list_any (λ k. pointwise nat_eq name k.items) ks ≡ false) → cond b (Some zero) (option_map (λ k. suc k) (slot_found name (shown ks))) ≡ None → b || list_any (λ k. pointwise nat_eq name k.items) ks ≡ false
    by true r e = cc
    by false r e = r (not_later (slot_found name (shown ks)) e)

-- names that become known

behind : (ks : List (Vec ℕ Global)) (k : Vec ℕ Global) → shown (ks ++ k ∷ []) ≡ shown ks ++ k.items ∷ []
behind [] k = refl
behind (x ∷ xs) k = ap (λ t. x.items ∷ t) (behind xs k)

pub is_new : (o : Option ℕ) → is_some o ≡ false → o ≡ None
is_new None e = refl
is_new (Some k) e = cc

pub is_known : (name : Name) (names : List Name) → is_some (slot_found name names) ≡ true → names ≡ with_name names name
is_known name names e = by (slot_found name names) e
  where
    by : (o : Option ℕ) → is_some o ≡ true → names ≡ grown names name o
    by None e = cc
    by (Some k) e = refl

unknown_added : (name : Name) (names : List Name) → slot_found name names ≡ None → with_name names name ≡ names ++ name ∷ []
unknown_added name names e = ap (grown names name) e

pub added : (own : Vec ℕ Global) (ks : List (Vec ℕ Global)) (name : Name) (names : List Name) → own.items ≡ name → shown ks ≡ names → slot_found name names ≡ None
    → shown (insert_key (λ a b. pointwise nat_eq a.items b.items) ks own) ≡ with_name names name
added own ks name names e t h =
    ap (λ b. shown (cond b ks (ks ++ own ∷ []))) (not_in own.items ks (ap (λ n. slot_found n (shown ks)) e ∙ ap (slot_found name) t ∙ h))
    ∙ behind ks own ∙ ap (λ n. shown ks ++ n ∷ []) e ∙ ap (λ ns. ns ++ name ∷ []) t ∙ sym (unknown_added name names h)

pub known_added : (name : Name) (names : List Name) (k : ℕ) → slot_found name names ≡ Some k → with_name names name ≡ names
known_added name names k e = ap (grown names name) e

-- the slot of a name once it is known

pub slot_of_known : (name : Name) (names : List Name) (k : ℕ) → slot_found name names ≡ Some k → k ≡ slot name (with_name names name)
slot_of_known name names k e = sym (ap (slot name) (known_added name names k e) ∙ ap (λ o. unwrap_or o 0) e)

pub last : (name : Name) (names : List Name) → slot_found name names ≡ None → slot_found name (names ++ name ∷ []) ≡ Some (length names)
last name [] e = ap (λ b. cond b (Some zero) (option_map (λ k. suc k) (slot_found name []))) (name_self name)
last name (x ∷ xs) e = by (bytes_eq name x) (last name xs) e
  where
    by : (b : Bool) → (slot_found name xs ≡ None → slot_found name (xs ++ name ∷ []) ≡ Some (length xs)) → cond b (Some zero) (option_map (λ k. suc k) (slot_found name xs)) ≡ None
        → cond b (Some zero) (option_map (λ k. suc k) (slot_found name (xs ++ name ∷ []))) ≡ Some (suc (length xs))
    by true r e = cc
    by false r e = ap (option_map (λ k. suc k)) (r (not_later (slot_found name xs) e))

pub slot_of_new : (name : Name) (names : List Name) → slot_found name names ≡ None → length names ≡ slot name (with_name names name)
slot_of_new name names e = sym (ap (slot name) (unknown_added name names e) ∙ ap (λ o. unwrap_or o 0) (last name names e))

length_grown : (names : List Name) (name : Name) (o : Option ℕ) → length (grown names name o) ≤ length names + 1
length_grown names name None = omega (arith, length-append names (name ∷ []))
length_grown names name (Some k) = omega arith

pub length_with : (names : List Name) (name : Name) → length (with_name names name) ≤ length names + 1
length_with names name = length_grown names name (slot_found name names)

-- a block has ended

pub kept : (n : ℕ) (ks ls : List (Vec ℕ Global)) (names : List Name) → ls ≡ take n ks → shown ks ≡ names → shown ls ≡ take n names
kept n ks ls names e t = ap shown e ∙ sym (take-map (λ k. k.items) n ks) ∙ ap (take n) t
