-- Names that stand twice, as a map of the names so far finds them.
use Rattle.std.proofs.Common.{ℕ, suc, Bool, true, false, not, ◌||◌, ◌≡◌, ◌+◌, ◌<◌, ◌==◌, cond, List, [], ◌∷◌, ◌++◌, length, map, drop, get_or, refl, sym, ap, ◌∙◌, add-one, drop-cons}
use Rattle.std.specs.Prelude.{bytes_eq}
use Rattle.std.specs.List.{list_any}
use Rattle.std.specs.declared.vec.Vec.{Vec}
use Rattle.std.specs.declared.alloc.Global.{Global}
use Rattle.std.proofs.Math.Dec.{eqb-suc-zero}
use Rattle.fir_ast.specs.declared.tree.Field.{Field}
use Rattle.fir_ast.specs.declared.tree.Ty.TheVariants as ty
use Rattle.fir_check.specs.Names.{is_among, kept, repeated, seconds}
use Rattle.fir_check.specs.Types.{Slot, slot, slot_name, repeat_level, repeats_field}
use Rattle.fir_check.specs.Fields.{field_name, field_type, repeats_name}
use Rattle.fir_check.specs.KnownSeen.{key_name}
use Rattle.fir_check.proofs.Names.{bytes_turned}
use Rattle.fir_check.proofs.Unrolled.{fold-Bundle}
use Rattle.fir_check.proofs.Bundles.{folded, fold_field, map_same, any_map}

-- one of these fields has the name of an earlier one or one of these names
abbrev pub repeats_past : List (List ℕ) → List Field → Bool
repeats_past earlier fields = not (length (repeated field_name earlier fields) == 0)

-- what the map of the names so far tells
pub among_keys : (n : List ℕ) (ks : List (Vec ℕ Global)) → list_any (λ k. bytes_eq n k.items) ks ≡ is_among n (map key_name ks)
among_keys n [] = refl
among_keys n (k ∷ ks) = ap (λ b. b || list_any (λ m. bytes_eq n m.items) ks) (bytes_turned n k.items) ∙ ap (λ b. bytes_eq k.items n || b) (among_keys n ks)

repeats_cons : (e : List (List ℕ)) (x : Field) (xs : List Field) → repeats_past e (x ∷ xs) ≡ is_among (field_name x) e || repeats_past (field_name x ∷ e) xs
repeats_cons e x xs = by (is_among (field_name x) e)
  where
    by : (b : Bool) → not (length (kept b x (repeated field_name (field_name x ∷ e) xs)) == 0) ≡ b || repeats_past (field_name x ∷ e) xs
    by true = ap not (eqb-suc-zero (length (repeated field_name (field_name x ∷ e) xs)))
    by false = refl

-- the order of the earlier names doesn't matter
repeats_same : (e f : List (List ℕ)) → ((n : List ℕ) → is_among n e ≡ is_among n f) → (xs : List Field) → repeats_past e xs ≡ repeats_past f xs
repeats_same e f h [] = refl
repeats_same e f h (x ∷ xs) =
    repeats_cons e x xs
    ∙ ap (λ b. b || repeats_past (field_name x ∷ e) xs) (h (field_name x))
    ∙ ap (λ b. is_among (field_name x) f || b) (repeats_same (field_name x ∷ e) (field_name x ∷ f) (λ n. ap (λ b. bytes_eq (field_name x) n || b) (h n)) xs)
    ∙ sym (repeats_cons f x xs)

or_assoc : (a b c : Bool) → (a || b) || c ≡ a || (b || c)
or_assoc true b c = refl
or_assoc false b c = refl

or_swap : (a b : Bool) → a || b ≡ b || a
or_swap true true = refl
or_swap true false = refl
or_swap false true = refl
or_swap false false = refl

pub among_last : (n m : List ℕ) (ks : List (Vec ℕ Global)) (k : Vec ℕ Global) → k.items ≡ m → is_among n (map key_name (ks ++ k ∷ [])) ≡ bytes_eq m n || is_among n (map key_name ks)
among_last n m [] k e = ap (λ i. bytes_eq i n || false) e
among_last n m (j ∷ ks) k e =
    ap (λ b. bytes_eq j.items n || b) (among_last n m ks k e)
    ∙ sym (or_assoc (bytes_eq j.items n) (bytes_eq m n) (is_among n (map key_name ks)))
    ∙ ap (λ b. b || is_among n (map key_name ks)) (or_swap (bytes_eq j.items n) (bytes_eq m n))
    ∙ or_assoc (bytes_eq m n) (bytes_eq j.items n) (is_among n (map key_name ks))

-- the rest of the fields from the k-th
rest_cons : (e : List (List ℕ)) (xs : List Field) (k : ℕ) (x : Field) → k < length xs → x ≡ get_or xs k x
    → repeats_past e (drop k xs) ≡ is_among (field_name x) e || repeats_past (field_name x ∷ e) (drop (k + 1) xs)
rest_cons e xs k x w q =
    ap (repeats_past e) (drop-cons xs k x w ∙ ap (λ y. y ∷ drop (suc k) xs) (sym q))
    ∙ repeats_cons e x (drop (suc k) xs)
    ∙ ap (λ n. is_among (field_name x) e || repeats_past (field_name x ∷ e) (drop n xs)) (sym (add-one k))

pub repeats_found : (ks : List (Vec ℕ Global)) (xs : List Field) (k : ℕ) (x : Field) (whole : Bool) → k < length xs → x ≡ get_or xs k x
    → is_among (field_name x) (map key_name ks) ≡ true → repeats_past (map key_name ks) (drop k xs) ≡ whole → true ≡ whole
repeats_found ks xs k x whole w q a e =
    sym (ap (λ b. b || repeats_past (field_name x ∷ map key_name ks) (drop (k + 1) xs)) a) ∙ sym (rest_cons (map key_name ks) xs k x w q) ∙ e

pub repeats_step : (ks : List (Vec ℕ Global)) (xs : List Field) (k : ℕ) (x : Field) (key : Vec ℕ Global) (whole : Bool) → k < length xs → x ≡ get_or xs k x
    → is_among (field_name x) (map key_name ks) ≡ false → key.items ≡ field_name x → repeats_past (map key_name ks) (drop k xs) ≡ whole
    → repeats_past (map key_name (ks ++ key ∷ [])) (drop (k + 1) xs) ≡ whole
repeats_step ks xs k x key whole w q a p e =
    repeats_same (map key_name (ks ++ key ∷ [])) (field_name x ∷ map key_name ks) (λ n. among_last n (field_name x) ks key p) (drop (k + 1) xs)
    ∙ sym (ap (λ b. b || repeats_past (field_name x ∷ map key_name ks) (drop (k + 1) xs)) a) ∙ sym (rest_cons (map key_name ks) xs k x w q) ∙ e

repeats_map : (h : Field → Slot Bool) → ((x : Field) → slot_name (h x) ≡ field_name x) → (e : List (List ℕ)) (xs : List Field)
    → length (repeated slot_name e (map h xs)) ≡ length (repeated field_name e xs)
repeats_map h p e [] = refl
repeats_map h p e (x ∷ xs) =
    ap (λ n. length (kept (is_among n e) (h x) (repeated slot_name (n ∷ e) (map h xs)))) (p x)
    ∙ by (is_among (field_name x) e) (repeats_map h p (field_name x ∷ e) xs)
  where
    by : (b : Bool) → length (repeated slot_name (field_name x ∷ e) (map h xs)) ≡ length (repeated field_name (field_name x ∷ e) xs)
        → length (kept b (h x) (repeated slot_name (field_name x ∷ e) (map h xs))) ≡ length (kept b x (repeated field_name (field_name x ∷ e) xs))
    by true i = ap suc i
    by false i = i

pub bundle_repeats : (fields : List Field) → repeats_field (ty.Bundle fields) ≡ repeats_name fields || list_any (λ f. repeats_field (field_type f)) fields
bundle_repeats fields =
    fold-Bundle Bool (Slot Bool) repeat_level slot fields
    ∙ ap (λ xs. not (length (seconds slot_name xs) == 0) || list_any (λ (f : Slot Bool). f.of) xs) (map_same _ (folded repeats_field) (fold_field Bool repeat_level) fields)
    ∙ ap (λ n. not (n == 0) || list_any (λ (f : Slot Bool). f.of) (map (folded repeats_field) fields)) (repeats_map (folded repeats_field) (λ x. refl) [] fields)
    ∙ ap (λ b. repeats_name fields || b) (any_map (λ (f : Slot Bool). f.of) (folded repeats_field) fields)

pub key_among : (n : List ℕ) (v : Vec ℕ Global) (ks : List (Vec ℕ Global)) (b : Bool) → v.items ≡ n → b ≡ not (list_any (λ k. bytes_eq v.items k.items) ks)
    → is_among n (map key_name ks) ≡ not b
key_among n v ks b e p =
    ap (λ m. is_among m (map key_name ks)) (sym e) ∙ sym (among_keys v.items ks) ∙ twice (list_any (λ k. bytes_eq v.items k.items) ks) ∙ sym (ap not p)
  where
    twice : (a : Bool) → a ≡ not (not a)
    twice true = refl
    twice false = refl

-- a new key goes last
pub key_last : (ks js : List (Vec ℕ Global)) (v : Vec ℕ Global) → list_any (λ k. bytes_eq v.items k.items) ks ≡ false
    → js ≡ cond (list_any (λ k. bytes_eq v.items k.items) ks) ks (ks ++ v ∷ []) → js ≡ ks ++ v ∷ []
key_last ks js v e p = p ∙ ap (λ b. cond b ks (ks ++ v ∷ [])) e

not_true : (a : Bool) → true ≡ not a → a ≡ false
not_true true e = e
not_true false e = refl

-- the loop over the fields, where the name is new
pub repeats_next : (ks js : List (Vec ℕ Global)) (xs : List Field) (k : ℕ) (x : Field) (v : Vec ℕ Global) (b whole : Bool) → k < length xs → x ≡ get_or xs k x
    → v.items ≡ field_name x → b ≡ not (list_any (λ k. bytes_eq v.items k.items) ks) → b ≡ true
    → js ≡ cond (list_any (λ k. bytes_eq v.items k.items) ks) ks (ks ++ v ∷ []) → repeats_past (map key_name ks) (drop k xs) ≡ whole
    → repeats_past (map key_name js) (drop (k + 1) xs) ≡ whole
repeats_next ks js xs k x v b whole w q e p t j i =
    ap (λ l. repeats_past (map key_name l) (drop (k + 1) xs)) (key_last ks js v (not_true (list_any (λ k. bytes_eq v.items k.items) ks) (sym t ∙ p)) j)
    ∙ repeats_step ks xs k x v whole w q (key_among (field_name x) v ks b e p ∙ ap not t) e i
