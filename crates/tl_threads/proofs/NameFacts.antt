-- Names and their slots.
use Rattle.std.proofs.Common.{◌≡◌, ◌⊎◌, ℕ, zero, suc, ◌<◌, ◌≤◌, List, [], ◌∷◌, ◌++◌, length, length-append, Bool, true, false, cond, Option, Some, None, option_map, refl, sym, ap, ◌∙◌, inl, inr, ⊎_elim, arith, slice_index, slice_set, slice_get, unwrap_or}
use Rattle.std.specs.Str.{bytes_eq}
use Rattle.std.specs.Cmp.Lexicographic.{nat_list_cmp_total}
use Rattle.std.specs.FinMap as map
use Rattle.std.proofs.lemmas.Slice.Eq.{bytes_eq-Decides}
use Rattle.std.proofs.lemmas.Map.Text.{is_eq-slice_cmp}
use Rattle.std.proofs.lemmas.List.{get_or-set_other}
use Rattle.std.proofs.lemmas.Grind.{get_or-set_at}
use Rattle.tl_threads.specs.Values.{Name, Numbers, name_cmp}
use Rattle.tl_threads.specs.Code.{slot_found, slot, grown, with_name}
use Rattle.tl_threads.specs.Stands.{Within, Known, Agrees, Names, Once, name_at}

-- ---- names

pub same_name : (a b : Name) → bytes_eq a b ≡ true → a ≡ b
same_name a b e = (bytes_eq-Decides a b).0 e

pub name_self : (a : Name) → bytes_eq a a ≡ true
name_self a = (bytes_eq-Decides a a).1 refl

not_true : (b : Bool) → (b ≡ true → ⊥) → b ≡ false
not_true true f = absurd (f refl)
not_true false f = refl

pub other_name : (a b : Name) → (a ≡ b → ⊥) → bytes_eq a b ≡ false
other_name a b ne = not_true (bytes_eq a b) (λ e. ne (same_name a b e))

pub differ : (a b : Name) → bytes_eq a b ≡ false → a ≡ b → ⊥
differ a b t e = let u : bytes_eq a b ≡ true = (bytes_eq-Decides a b).1 e in let w : true ≡ false = sym u ∙ t in absurd (cc)

-- ---- slots

pub within_refl : (xs : List Name) → Within xs xs
within_refl xs n k e = e

pub within_trans : (xs ys zs : List Name) → Within xs ys → Within ys zs → Within xs zs
within_trans xs ys zs f g n k e = g n k (f n k e)

suc_some : (o : Option ℕ) (k : ℕ) → option_map (λ j. suc j) o ≡ Some k → (j : ℕ) × (o ≡ Some j) × (k ≡ suc j)
suc_some None k e = absurd (cc)
suc_some (Some j) k e = (j, refl, cc)

pub record FoundFirst (n x : Name) (k : ℕ) : Type 0 where
  pub same : n ≡ x
  pub zero_is : k ≡ zero

pub record FoundLater (n x : Name) (k : ℕ) (xs : List Name) : Type 0 where
  pub other : bytes_eq n x ≡ false
  pub less : ℕ
  pub found : slot_found n xs ≡ Some less
  pub suc_is : k ≡ suc less

pub find_cases : (n x : Name) (xs : List Name) (k : ℕ) → slot_found n (x ∷ xs) ≡ Some k → FoundFirst n x k ⊎ FoundLater n x k xs
find_cases n x xs k e = go (bytes_eq n x) refl
  where
    go : (b : Bool) → bytes_eq n x ≡ b → FoundFirst n x k ⊎ FoundLater n x k xs
    go true t =
        let i : Some zero ≡ Some k = ap (λ b. cond b (Some zero) (option_map (λ j. suc j) (slot_found n xs))) (sym t) ∙ e in
        inl (record { same = same_name n x t; zero_is = cc })
    go false t =
        let s = suc_some (slot_found n xs) k (ap (λ b. cond b (Some zero) (option_map (λ j. suc j) (slot_found n xs))) (sym t) ∙ e) in
        inr (record { other = t; less = s.0; found = s.1; suc_is = s.2 })

find_first : (n x : Name) (xs : List Name) → n ≡ x → slot_found n (x ∷ xs) ≡ Some zero
find_first n x xs e = ap (λ b. cond b (Some zero) (option_map (λ j. suc j) (slot_found n xs))) ((bytes_eq-Decides n x).1 e)

find_later : (n x : Name) (xs : List Name) (k : ℕ) → bytes_eq n x ≡ false → slot_found n xs ≡ Some k → slot_found n (x ∷ xs) ≡ Some (suc k)
find_later n x xs k t f = ap (λ b. cond b (Some zero) (option_map (λ j. suc j) (slot_found n xs))) t ∙ ap (λ o. option_map (λ j. suc j) o) f

pub find_below : (n : Name) (xs : List Name) (k : ℕ) → slot_found n xs ≡ Some k → k < length xs
find_below n [] k e = absurd (cc)
find_below n (x ∷ xs) k e =
    ⊎_elim
    (λ f. let j : k ≡ zero = f.zero_is in omega arith)
    (λ f. let b = find_below n xs f.less f.found in let q : k ≡ suc f.less = f.suc_is in omega arith)
    (find_cases n x xs k e)

-- the name in a slot
pub find_name_at : (n : Name) (xs : List Name) (k : ℕ) → slot_found n xs ≡ Some k → name_at xs k ≡ n
find_name_at n [] k e = absurd (cc)
find_name_at n (x ∷ xs) k e =
    ⊎_elim
    (λ f. ap (name_at (x ∷ xs)) f.zero_is ∙ sym f.same)
    (λ f. ap (name_at (x ∷ xs)) f.suc_is ∙ find_name_at n xs f.less f.found)
    (find_cases n x xs k e)

pub one_name : (n m : Name) (xs : List Name) (k : ℕ) → slot_found n xs ≡ Some k → slot_found m xs ≡ Some k → n ≡ m
one_name n m xs k e d = sym (find_name_at n xs k e) ∙ find_name_at m xs k d

find_append : (n : Name) (xs : List Name) (m : Name) (k : ℕ) → slot_found n xs ≡ Some k → slot_found n (xs ++ m ∷ []) ≡ Some k
find_append n [] m k e = absurd (cc)
find_append n (x ∷ xs) m k e =
    ⊎_elim
    (λ f. find_first n x (xs ++ m ∷ []) f.same ∙ ap Some (sym f.zero_is))
    (λ f. find_later n x (xs ++ m ∷ []) f.less f.other (find_append n xs m f.less f.found) ∙ ap Some (sym f.suc_is))
    (find_cases n x xs k e)

none_later : (n x : Name) (xs : List Name) → slot_found n (x ∷ xs) ≡ None → (bytes_eq n x ≡ false) × (slot_found n xs ≡ None)
none_later n x xs e = go (bytes_eq n x) refl (slot_found n xs) refl
  where
    go : (b : Bool) → bytes_eq n x ≡ b → (o : Option ℕ) → slot_found n xs ≡ o → (bytes_eq n x ≡ false) × (slot_found n xs ≡ None)
    go true t o f = absurd (let i : Some zero ≡ None = ap (λ b. cond b (Some zero) (option_map (λ j. suc j) (slot_found n xs))) (sym t) ∙ e in cc)
    go false t None f = (t, f)
    go false t (Some j) f = absurd (let i : Some (suc j) ≡ None = sym (find_later n x xs j t f) ∙ e in cc)

find_last : (n : Name) (xs : List Name) → slot_found n xs ≡ None → slot_found n (xs ++ n ∷ []) ≡ Some (length xs)
find_last n [] e = find_first n n [] refl
find_last n (x ∷ xs) e = let s = none_later n x xs e in find_later n x (xs ++ n ∷ []) (length xs) s.0 (find_last n xs s.1)

-- another name is known behind a new one only if it was before
find_back : (n m : Name) (xs : List Name) (k : ℕ) → (n ≡ m → ⊥) → slot_found n (xs ++ m ∷ []) ≡ Some k → slot_found n xs ≡ Some k
find_back n m [] k ne e = absurd (let i : None ≡ Some k = ap (λ b. cond b (Some zero) None) (sym (other_name n m ne)) ∙ e in cc)
find_back n m (x ∷ xs) k ne e =
    ⊎_elim
    (λ f. find_first n x xs f.same ∙ ap Some (sym f.zero_is))
    (λ f. find_later n x xs f.less f.other (find_back n m xs f.less ne f.found) ∙ ap Some (sym f.suc_is))
    (find_cases n x (xs ++ m ∷ []) k e)

grown_within : (xs : List Name) (n : Name) (o : Option ℕ) → Within xs (grown xs n o)
grown_within xs n None m k e = find_append m xs n k e
grown_within xs n (Some j) m k e = e

-- what was known is known, at the same slot
pub with_within : (xs : List Name) (n : Name) → Within xs (with_name xs n)
with_within xs n = grown_within xs n (slot_found n xs)

grown_known : (xs : List Name) (n : Name) (o : Option ℕ) → slot_found n xs ≡ o → slot_found n (grown xs n o) ≡ Some (slot n (grown xs n o))
grown_known xs n None e = find_last n xs e ∙ ap (λ o. Some (unwrap_or o 0)) (sym (find_last n xs e))
grown_known xs n (Some j) e = e ∙ ap (λ o. Some (unwrap_or o 0)) (sym e)

-- the new name is known
pub with_known : (xs : List Name) (n : Name) → slot_found n (with_name xs n) ≡ Some (slot n (with_name xs n))
with_known xs n = grown_known xs n (slot_found n xs) refl

grown_back : (xs : List Name) (n m : Name) (k : ℕ) (o : Option ℕ) → (m ≡ n → ⊥) → slot_found m (grown xs n o) ≡ Some k → slot_found m xs ≡ Some k
grown_back xs n m k None ne e = find_back m n xs k ne e
grown_back xs n m k (Some j) ne e = e

pub with_back : (xs : List Name) (n m : Name) (k : ℕ) → (m ≡ n → ⊥) → slot_found m (with_name xs n) ≡ Some k → slot_found m xs ≡ Some k
with_back xs n m k ne e = grown_back xs n m k (slot_found n xs) ne e

pub with_slot : (xs : List Name) (n : Name) (v : ℕ) → length (with_name xs n) ≤ v → slot n (with_name xs n) < v
with_slot xs n v le = let b = find_below n (with_name xs n) (slot n (with_name xs n)) (with_known xs n) in omega arith

pub with_length : (xs : List Name) (n : Name) → length xs ≤ length (with_name xs n)
with_length xs n = go (slot_found n xs)
  where
    go : (o : Option ℕ) → length xs ≤ length (grown xs n o)
    go None = omega (arith, length-append xs (n ∷ []))
    go (Some k) = omega arith

pub known_slot : (xs : List Name) (n : Name) → Known xs n → slot_found n xs ≡ Some (slot n xs)
known_slot xs n (k, e) = e ∙ ap (λ o. Some (unwrap_or o 0)) (sym e)

-- ---- no name stands twice

pub once_empty : Once []
once_empty k lt = absurd (omega arith)

at_front : (xs : List Name) (n : Name) (k : ℕ) → k < length xs → name_at (xs ++ n ∷ []) k ≡ name_at xs k
at_front [] n k lt = absurd (omega arith)
at_front (x ∷ xs) n zero lt = refl
at_front (x ∷ xs) n (suc k) lt = at_front xs n k (omega arith)

at_last : (xs : List Name) (n : Name) → name_at (xs ++ n ∷ []) (length xs) ≡ n
at_last [] n = refl
at_last (x ∷ xs) n = at_last xs n

once_grown : (xs : List Name) (n : Name) (o : Option ℕ) → slot_found n xs ≡ o → Once xs → Once (grown xs n o)
once_grown xs n (Some j) e once k lt = once k lt
once_grown xs n None e once k lt = ⊎_elim below last (split k (length xs) (omega (arith, length-append xs (n ∷ []))))
  where
    split : (a b : ℕ) → a < suc b → (a < b) ⊎ (a ≡ b)
    split zero zero l = inr refl
    split zero (suc b) l = inl (omega arith)
    split (suc a) zero l = absurd (omega arith)
    split (suc a) (suc b) l = ⊎_elim (λ p. inl (omega arith)) (λ p. inr (omega arith)) (split a b (omega arith))

    below : k < length xs → slot_found (name_at (xs ++ n ∷ []) k) (xs ++ n ∷ []) ≡ Some k
    below l = ap (λ x. slot_found x (xs ++ n ∷ [])) (at_front xs n k l) ∙ find_append (name_at xs k) xs n k (once k l)

    last : k ≡ length xs → slot_found (name_at (xs ++ n ∷ []) k) (xs ++ n ∷ []) ≡ Some k
    last l = ap (λ j. slot_found (name_at (xs ++ n ∷ []) j) (xs ++ n ∷ [])) l ∙ ap (λ x. slot_found x (xs ++ n ∷ [])) (at_last xs n) ∙ find_last n xs e ∙ ap Some (sym l)

pub once_with : (xs : List Name) (n : Name) → Once xs → Once (with_name xs n)
once_with xs n once = once_grown xs n (slot_found n xs) refl once

-- ---- maps and slots after a write

pub get_insert : (m : Numbers) (n : Name) (x : ℕ) (r : Name) → map.get (map.insert m n x) r ≡ cond (bytes_eq r n) (Some x) (map.get m r)
get_insert m n x r = map.get-insert nat_list_cmp_total m n x r ∙ ap (λ b. cond b (Some x) (map.get m r)) (is_eq-slice_cmp r n)

pub get_same : (m : Numbers) (n : Name) (x : ℕ) → map.get (map.insert m n x) n ≡ Some x
get_same m n x = get_insert m n x n ∙ ap (λ b. cond b (Some x) (map.get m n)) (name_self n)

pub get_other : (m : Numbers) (n : Name) (x : ℕ) (r : Name) → (r ≡ n → ⊥) → map.get (map.insert m n x) r ≡ map.get m r
get_other m n x r ne = get_insert m n x r ∙ ap (λ b. cond b (Some x) (map.get m r)) (other_name r n ne)

pub get_none : (r : Name) → map.get (map.empty {X = ℕ} {R = name_cmp}) r ≡ None
get_none r = map.get-empty name_cmp r

-- look-ups that compute
pub ruleset looked_up = (get_insert, get_none)

-- a number goes into the slot of a name that is known or new
pub agrees_set : (vs : List Name) (m : Numbers) (ls : List ℕ) (n : Name) (x : ℕ) → length (with_name vs n) ≤ length ls → Agrees vs m ls
    → Agrees (with_name vs n) (map.insert m n x) (slice_set ls (slot n (with_name vs n)) x)
agrees_set vs m ls n x le a r k e = go (bytes_eq r n) refl
  where
    go : (b : Bool) → bytes_eq r n ≡ b → map.get (map.insert m n x) r ≡ Some (slice_index (slice_set ls (slot n (with_name vs n)) x) k)
    go true t =
        let i : r ≡ n = same_name r n t in
        let f : Some k ≡ Some (slot n (with_name vs n)) = sym e ∙ ap (λ z. slot_found z (with_name vs n)) i ∙ with_known vs n in
        let g : k ≡ slot n (with_name vs n) = cc in
        ap (map.get (map.insert m n x)) i ∙ get_same m n x ∙ ap Some (sym (get_or-set_at ls (slot n (with_name vs n)) k x 0 g (with_slot vs n (length ls) le)))
    go false t =
        let ne : r ≡ n → ⊥ = differ r n t in
        let apart : k ≡ slot n (with_name vs n) → ⊥ = λ i. ne (one_name r n (with_name vs n) k e (with_known vs n ∙ ap Some (sym i))) in
        get_other m n x r ne ∙ a r k (with_back vs n r k ne e) ∙ ap Some (sym (get_or-set_other ls (slot n (with_name vs n)) k x 0 apart))

-- a number goes into the slot of a known name
pub agrees_known : (vs : List Name) (m : Numbers) (ls : List ℕ) (n : Name) (x : ℕ) → Known vs n → slot n vs < length ls → Agrees vs m ls
    → Agrees vs (map.insert m n x) (slice_set ls (slot n vs) x)
agrees_known vs m ls n x kn lt a r k e = go (bytes_eq r n) refl
  where
    here : slot_found n vs ≡ Some (slot n vs)
    here = known_slot vs n kn

    go : (b : Bool) → bytes_eq r n ≡ b → map.get (map.insert m n x) r ≡ Some (slice_index (slice_set ls (slot n vs) x) k)
    go true t =
        let i : r ≡ n = same_name r n t in
        let f : Some k ≡ Some (slot n vs) = sym e ∙ ap (λ z. slot_found z vs) i ∙ here in
        let g : k ≡ slot n vs = cc in
        ap (map.get (map.insert m n x)) i ∙ get_same m n x ∙ ap Some (sym (get_or-set_at ls (slot n vs) k x 0 g lt))
    go false t =
        let ne : r ≡ n → ⊥ = differ r n t in
        let apart : k ≡ slot n vs → ⊥ = λ i. ne (one_name r n vs k e (here ∙ ap Some (sym i))) in
        get_other m n x r ne ∙ a r k e ∙ ap Some (sym (get_or-set_other ls (slot n vs) k x 0 apart))

get_set_same : (xs : List (Option ℕ)) (k : ℕ) (o : Option ℕ) → k < length xs → slice_get (slice_set xs k o) k ≡ Some o
get_set_same [] k o lt = absurd (omega arith)
get_set_same (x ∷ xs) zero o lt = refl
get_set_same (x ∷ xs) (suc k) o lt = get_set_same xs k o (omega arith)

get_set_other : (xs : List (Option ℕ)) (k j : ℕ) (o : Option ℕ) → (j ≡ k → ⊥) → slice_get (slice_set xs k o) j ≡ slice_get xs j
get_set_other [] k j o ne = refl
get_set_other (x ∷ xs) zero zero o ne = absurd (ne refl)
get_set_other (x ∷ xs) zero (suc j) o ne = refl
get_set_other (x ∷ xs) (suc k) zero o ne = refl
get_set_other (x ∷ xs) (suc k) (suc j) o ne = get_set_other xs k j o (λ e. ne (ap (λ n. suc n) e))

-- a child goes into the slot of a handle
pub names_set : (hs : List Name) (m : Numbers) (xs : List (Option ℕ)) (n : Name) (x : ℕ) → length (with_name hs n) ≤ length xs → Names hs m xs
    → Names (with_name hs n) (map.insert m n x) (slice_set xs (slot n (with_name hs n)) (Some x))
names_set hs m xs n x le a r k e = go (bytes_eq r n) refl
  where
    go : (b : Bool) → bytes_eq r n ≡ b → (j : ℕ) × (map.get (map.insert m n x) r ≡ Some j) × (slice_get (slice_set xs (slot n (with_name hs n)) (Some x)) k ≡ Some (Some j))
    go true t =
        let i : r ≡ n = same_name r n t in
        let f : Some k ≡ Some (slot n (with_name hs n)) = sym e ∙ ap (λ z. slot_found z (with_name hs n)) i ∙ with_known hs n in
        let g : k ≡ slot n (with_name hs n) = cc in
        (x, ap (map.get (map.insert m n x)) i ∙ get_same m n x, ap (slice_get (slice_set xs (slot n (with_name hs n)) (Some x))) g ∙ get_set_same xs (slot n (with_name hs n)) (Some x) (with_slot hs n (length xs) le))
    go false t =
        let ne : r ≡ n → ⊥ = differ r n t in
        let apart : k ≡ slot n (with_name hs n) → ⊥ = λ i. ne (one_name r n (with_name hs n) k e (with_known hs n ∙ ap Some (sym i))) in
        let o = a r k (with_back hs n r k ne e) in
        (o.0, get_other m n x r ne ∙ o.1, get_set_other xs (slot n (with_name hs n)) k (Some x) apart ∙ o.2)
