-- The rows of a table of types.
use Rattle.std.proofs.Common.{ℕ, zero, suc, ◌≡◌, ◌<◌, ◌≤◌, Bool, true, false, All, None, Some, option_map, List, [], ◌∷◌, ◌++◌, map, length, get_or, refl, sym, ap, ◌∙◌, subst, arith, zero-add}
use Rattle.std.specs.Prelude.{bytes_eq}
use Rattle.std.specs.List.{position_from}
use Rattle.std.proofs.lemmas.List.{length-append}
use Rattle.std.proofs.lemmas.List.Elements.{All-nil, All-cons, All-get_or, All-append, All-weaker}
use Rattle.fir_ast.specs.declared.tree.Ty.{Ty}
use Rattle.fir_ast.specs.declared.tree.Ty.TheVariants as ty
use Rattle.fir_ast.specs.declared.tree.Field.{Field}
use Rattle.fir_check.specs.declared.type_table.TypeRow.{TypeRow}
use Rattle.fir_check.specs.Types.{Slot, field_named, vector_of, vector_at, same_shape}
use Rattle.fir_check.specs.Fields.{field_flip, field_name, field_type, named_slot}
use Rattle.fir_check.specs.Scopes.{number_type}
use Rattle.fir_check.specs.Seen.{type_at}
use Rattle.fir_check.specs.TypeRows.{list_at, list_of, parts_at, parts_of, IsRow, types_seen, AreRows, slot_seen, slot_pair, element_seen}
use Rattle.fir_check.proofs.ByNumber.{At, at-position}
use Rattle.fir_check.proofs.Names.{map_at, map_length, find_map}
use Rattle.fir_check.proofs.Named.{not_found, any_default}
use Rattle.fir_check.proofs.Alike.{shape_euclid, shape_self}
use Rattle.fir_check.proofs.Numbering.{type_kept, types_kept, at_end}
use Rattle.fir_check.proofs.Shapes.{slot_of, bundle_named}
use Rattle.fir_check.proofs.Unrolled.{out-Bundle, out-Vector, out-UInt, out-SInt}

-- rows at numbers

pub row_type : (rows : List TypeRow) (n : ℕ) (r : TypeRow) → n < length rows → r ≡ get_or rows n r → r.ty.now ≡ type_at (types_seen rows) n
row_type rows n r h e = sym (map_at (λ (x : TypeRow). x.ty.now) rows n r (ty.UInt None) h e)

pub row_first : (rows : List TypeRow) (r : TypeRow) → AreRows rows → r ≡ get_or rows 0 r → r.ty.now ≡ ty.UInt None
row_first [] r a e = cc
row_first (x ∷ xs) r a e = ap (λ (y : TypeRow). y.ty.now) e ∙ head_same x.ty.now (types_seen xs) a.first
  where
    first_of : List Ty → Ty
    first_of [] = ty.UInt None
    first_of (t ∷ ts) = t

    head_same : (t : Ty) (ts : List Ty) → t ∷ ts ≡ number_type false ∷ number_type true ∷ a.others → t ≡ ty.UInt None
    head_same t ts q = ap first_of q

pub past_last : (T : List Ty) (n : ℕ) → length T ≤ n → type_at T n ≡ ty.UInt None
past_last [] n h = refl
past_last (t ∷ T) zero h = absurd (omega arith)
past_last (t ∷ T) (suc n) h = past_last T n (omega arith)

pub row_past : (rows : List TypeRow) (n : ℕ) (r : TypeRow) → AreRows rows → length rows ≤ n → r ≡ get_or rows 0 r → r.ty.now ≡ type_at (types_seen rows) n
row_past rows n r a h e = row_first rows r a e ∙ sym (past_last (types_seen rows) n (omega (arith, h, map_length (λ (x : TypeRow). x.ty.now) rows)))

pub some_rows : (rows : List TypeRow) → AreRows rows → 0 < length rows
some_rows rows a = let l : length (types_seen rows) ≡ suc (suc (length a.others)) = ap length a.first in omega (arith, l, map_length (λ (x : TypeRow). x.ty.now) rows)

pub row_right : (rows : List TypeRow) (n : ℕ) (r : TypeRow) → AreRows rows → n < length rows → r ≡ get_or rows n r → IsRow (types_seen rows) r
row_right rows n r a h e = subst (IsRow (types_seen rows)) (sym e) (All-get_or (IsRow (types_seen rows)) rows n r h a.each)

pub signed_at : (rows : List TypeRow) → AreRows rows → type_at (types_seen rows) 1 ≡ number_type true
signed_at rows a = ap (λ T. type_at T 1) a.first

pub unsigned_at : (rows : List TypeRow) → AreRows rows → type_at (types_seen rows) 0 ≡ number_type false
unsigned_at rows a = ap (λ T. type_at T 0) a.first

-- rows that are added

seen_last : (rows : List TypeRow) (r : TypeRow) → types_seen (rows ++ r ∷ []) ≡ types_seen rows ++ r.ty.now ∷ []
seen_last [] r = refl
seen_last (x ∷ xs) r = ap (λ t. x.ty.now ∷ t) (seen_last xs r)

row_kept : (T new : List Ty) (r : TypeRow) → IsRow T r → IsRow (T ++ new) r
row_kept T new r i = record {
  flips = i.flips;
  clocks = i.clocks;
  against = i.against;
  named = i.named;
  low = All-weaker (λ n. n < length T) (λ n. n < length (T ++ new)) (λ n l. omega (arith, l, length-append T new)) r.parts.items i.low;
  parts = types_kept T new r.parts.items i.low ∙ i.parts;
  known = (let h : r.shape < length T = i.known in omega (arith, h, length-append T new));
  like = ap (same_shape r.ty.now) (type_kept T new r.shape i.known) ∙ i.like;
}

-- a row that is right once its own type stands there too

pub rows_last : (rows more : List TypeRow) (r : TypeRow) → AreRows rows → IsRow (types_seen rows ++ r.ty.now ∷ []) r → more ≡ rows ++ r ∷ [] → AreRows more
rows_last rows more r a i e =
    subst AreRows (sym e) (record {
      others = a.others ++ r.ty.now ∷ [];
      first = seen_last rows r ∙ ap (λ t. t ++ r.ty.now ∷ []) a.first;
      each = subst (λ T. All (IsRow T) (rows ++ r ∷ [])) (sym (seen_last rows r))
          (All-append (IsRow (types_seen rows ++ r.ty.now ∷ [])) rows (r ∷ [])
          (All-weaker (IsRow (types_seen rows)) (IsRow (types_seen rows ++ r.ty.now ∷ [])) (row_kept (types_seen rows) (r.ty.now ∷ [])) rows a.each)
          (All-cons (IsRow (types_seen rows ++ r.ty.now ∷ [])) r [] i (All-nil (IsRow (types_seen rows ++ r.ty.now ∷ [])))));
    })

-- the number of a shape, confirmed

pub confirmed_old : (T : List Ty) (t : Ty) (n : ℕ) → n < length T → same_shape t (type_at T n) ≡ true → same_shape t (type_at (T ++ t ∷ []) n) ≡ true
confirmed_old T t n h e = ap (same_shape t) (type_kept T (t ∷ []) n h) ∙ e

pub confirmed_new : (T : List Ty) (t : Ty) (n : ℕ) → n ≡ length T → same_shape t (type_at (T ++ t ∷ []) n) ≡ true
confirmed_new T t n e = ap (λ k. same_shape t (type_at (T ++ t ∷ []) k)) e ∙ ap (same_shape t) (at_end T t) ∙ shape_self t

pub low_last : (T : List Ty) (t : Ty) (n : ℕ) → n ≤ length T → n < length (T ++ t ∷ [])
low_last T t n h = omega (arith, h, length-append T (t ∷ []))

-- two rows of one shape
pub alike : (T : List Ty) (r s : TypeRow) (t u : Ty) → IsRow T r → IsRow T s → r.ty.now ≡ t → s.ty.now ≡ u → r.shape ≡ s.shape → same_shape t u ≡ true
alike T r s t u i j p q e =
    ap (λ x. same_shape x u) (sym p) ∙ ap (same_shape r.ty.now) (sym q) ∙ shape_euclid r.ty.now s.ty.now (type_at T r.shape) i.like (ap (λ n. same_shape s.ty.now (type_at T n)) e ∙ j.like)

-- a row that was made for a type
pub row_made : (T : List Ty) (r : TypeRow) (t : Ty) (parts : List ℕ) (n : ℕ)
    → ((types : List Ty) → All (λ k. k < length types) parts → map (type_at types) parts ≡ parts_of t → n < length types → same_shape t (type_at types n) ≡ true → IsRow types r)
    → r.ty.now ≡ t → All (λ k. k < length T) parts → map (type_at T) parts ≡ parts_of t → n < length (T ++ t ∷ []) → same_shape t (type_at (T ++ t ∷ []) n) ≡ true
    → IsRow (T ++ r.ty.now ∷ []) r
row_made T r t parts n f e low p h l =
    subst (λ x. IsRow (T ++ x ∷ []) r) (sym e)
    (f (T ++ t ∷ []) (All-weaker (λ k. k < length T) (λ k. k < length (T ++ t ∷ [])) (λ k w. omega (arith, w, length-append T (t ∷ []))) parts low) (types_kept T (t ∷ []) parts low ∙ p) h l)

pub types_last : (rows more : List TypeRow) (r : TypeRow) (t : Ty) (T : List Ty) → more ≡ rows ++ r ∷ [] → r.ty.now ≡ t → types_seen rows ≡ T → types_seen more ≡ T ++ t ∷ []
types_last rows more r t T e q v = ap types_seen e ∙ seen_last rows r ∙ ap (λ x. x ++ r.ty.now ∷ []) v ∙ ap (λ x. T ++ x ∷ []) q

number_parts : (b : Bool) → [] ≡ parts_of (number_type b)
number_parts true = sym (ap parts_at (out-SInt None))
number_parts false = sym (ap parts_at (out-UInt None))

pub two_rows : (rows : List TypeRow) (r s : TypeRow) (t u : Ty) → rows ≡ r ∷ s ∷ [] → r.ty.now ≡ t → s.ty.now ≡ u → t ≡ number_type false → u ≡ number_type true
    → ((types : List Ty) → All (λ k. k < length types) [] → map (type_at types) [] ≡ parts_of t → 0 < length types → same_shape t (type_at types 0) ≡ true → IsRow types r)
    → ((types : List Ty) → All (λ k. k < length types) [] → map (type_at types) [] ≡ parts_of u → 1 < length types → same_shape u (type_at types 1) ≡ true → IsRow types s) → AreRows rows
two_rows rows r s t u e p q v w f g =
    let T : List Ty = types_seen (r ∷ s ∷ []) in
    subst AreRows (sym e) (record {
      others = [];
      first = ap (λ x. x ∷ s.ty.now ∷ []) (p ∙ v) ∙ ap (λ x. number_type false ∷ x ∷ []) (q ∙ w);
      each = All-cons (IsRow T) r (s ∷ [])
          (f T (All-nil (λ k. k < 2)) (number_parts false ∙ ap parts_of (sym v)) (omega arith) (ap (same_shape t) p ∙ shape_self t))
          (All-cons (IsRow T) s []
          (g T (All-nil (λ k. k < 2)) (number_parts true ∙ ap parts_of (sym w)) (omega arith) (ap (same_shape u) q ∙ shape_self u))
          (All-nil (IsRow T)));
    })

-- fields and elements

pub bundle_parts : (fields : List Field) → parts_of (ty.Bundle fields) ≡ map field_type fields
bundle_parts fields = ap parts_at (out-Bundle fields)

pub vector_parts : (t : Ty) (n : ℕ) → parts_of (ty.Vector t n) ≡ t ∷ []
vector_parts t n = ap parts_at (out-Vector t n)

pub bundle_list : (fields : List Field) → list_of (ty.Bundle fields) ≡ fields
bundle_list fields = ap list_at (out-Bundle fields)

pub placed_none : (fields : List Field) (name : List ℕ) → position_from (λ f. bytes_eq (field_name f) name) 0 fields ≡ None → named_slot name fields ≡ None
placed_none fields name e = find_map (λ (s : Slot Ty). bytes_eq s.name name) slot_of fields ∙ ap (option_map slot_of) (not_found (λ f. bytes_eq (field_name f) name) 0 fields e)

-- the field at the place that was found
pub record Placed (fields : List Field) (name : List ℕ) (k : ℕ) : Type 0 where
  pub low : k < length fields
  pub slot : (f : Field) → f ≡ get_or fields k f → named_slot name fields ≡ Some (slot_of f)

pub placed : (fields : List Field) (name : List ℕ) (k : ℕ) → position_from (λ f. bytes_eq (field_name f) name) 0 fields ≡ Some k → Placed fields name k
placed fields name k e =
    let a : At (λ f. bytes_eq (field_name f) name) 0 k fields = at-position (λ f. bytes_eq (field_name f) name) 0 k fields e in
    let z : a.past ≡ k = sym (zero-add a.past) ∙ sym a.place in
    let l : k < length fields = subst (λ x. x < length fields) z a.low in
    record {
      low = l;
      slot = λ f i.
          find_map (λ (s : Slot Ty). bytes_eq s.name name) slot_of fields ∙ ap (option_map slot_of) a.first
          ∙ ap (λ x. Some (slot_of x)) (a.is ∙ ap (λ x. get_or fields x a.item) z ∙ any_default fields k a.item f l ∙ sym i);
    }

part_type : (T : List Ty) (parts : List ℕ) (fields : List Field) (k d : ℕ) (f : Field) → map (type_at T) parts ≡ map field_type fields → k < length fields → f ≡ get_or fields k f
    → type_at T (get_or parts k d) ≡ field_type f
part_type T parts fields k d f e h i =
    let l : k < length parts = omega (arith, h, map_length (type_at T) parts, map_length field_type fields, ap length e) in
    sym (map_at (type_at T) parts k (get_or parts k d) (ty.UInt None) l (any_default parts k d (get_or parts k d) l)) ∙ ap (λ x. get_or x k (ty.UInt None)) e ∙ map_at field_type fields k f (ty.UInt None) h i

pub parts_low : (T : List Ty) (r : TypeRow) (fields : List Field) (k : ℕ) → IsRow T r → r.ty.now ≡ ty.Bundle fields → k < length fields → k < length r.parts.items
parts_low T r fields k i e h =
    omega (arith, h, map_length (type_at T) r.parts.items, map_length field_type fields, ap length (i.parts ∙ ap parts_of e ∙ bundle_parts fields))

pub field_found : (T : List Ty) (r : TypeRow) (t : Ty) (fields : List Field) (name : List ℕ) (k d : ℕ) (f : Field) → IsRow T r → r.ty.now ≡ t → r.ty.now ≡ ty.Bundle fields
    → position_from (λ x. bytes_eq (field_name x) name) 0 fields ≡ Some k → f ≡ get_or fields k f
    → Some (slot_seen T (field_flip f, get_or r.parts.items k d)) ≡ option_map slot_pair (field_named name t)
field_found T r t fields name k d f i v e n q =
    let a : Placed fields name k = placed fields name k n in
    let s : type_at T (get_or r.parts.items k d) ≡ field_type f = part_type T r.parts.items fields k d f (i.parts ∙ ap parts_of e ∙ bundle_parts fields) a.low q in
    ap (λ x. Some (field_flip f, x)) s
    ∙ sym (ap (option_map slot_pair) (ap (field_named name) (sym v ∙ e) ∙ bundle_named name fields ∙ a.slot f q))

pub field_missing : (t : Ty) (fields : List Field) (name : List ℕ) → t ≡ ty.Bundle fields → position_from (λ x. bytes_eq (field_name x) name) 0 fields ≡ None
    → None ≡ option_map slot_pair (field_named name t)
field_missing t fields name e n = sym (ap (option_map slot_pair) (ap (field_named name) e ∙ bundle_named name fields ∙ placed_none fields name n))

pub element_low : (T : List Ty) (r : TypeRow) (of : Ty) (n : ℕ) → IsRow T r → r.ty.now ≡ ty.Vector of n → 0 < length r.parts.items
element_low T r of n i e = omega (arith, map_length (type_at T) r.parts.items, ap length (i.parts ∙ ap parts_of e ∙ vector_parts of n))

pub element_found : (T : List Ty) (r : TypeRow) (t of : Ty) (n d : ℕ) → IsRow T r → r.ty.now ≡ t → r.ty.now ≡ ty.Vector of n
    → Some (element_seen T (get_or r.parts.items 0 d, n)) ≡ vector_of t
element_found T r t of n d i v e =
    let p : ℕ = get_or r.parts.items 0 d in
    let l : 0 < length r.parts.items = element_low T r of n i e in
    let s : type_at T p ≡ of =
    sym (map_at (type_at T) r.parts.items 0 p (ty.UInt None) l (any_default r.parts.items 0 d p l)) ∙ ap (λ x. get_or x 0 (ty.UInt None)) (i.parts ∙ ap parts_of e ∙ vector_parts of n) in
    ap (λ x. Some (x, n)) s ∙ sym (ap vector_of (sym v ∙ e) ∙ ap vector_at (out-Vector of n))
