-- The rows of the types that a circuit declares.
use Rattle.std.proofs.Common.{ℕ, zero, suc, ◌≡◌, ◌<◌, ◌≤◌, ◌∙◌, None, List, [], ◌∷◌, ◌++◌, ◌+◌, take, length, get_or, refl, sym, ap, subst, arith, add-one}
use Rattle.std.proofs.Math.Seq.{take-suc}
use Rattle.std.proofs.lemmas.List.{map-append}
use Rattle.std.proofs.lemmas.List.Elements.{All-get_or}
use Rattle.fir_ast.specs.declared.tree.Ty.{Ty}
use Rattle.fir_ast.specs.declared.tree.Ty.TheVariants as ty
use Rattle.fir_check.specs.Seen.{type_at}
use Rattle.fir_check.proofs.Names.{map_at, map_length}
use Rattle.fir_flat.specs.declared.types.Row.{Row}
use Rattle.fir_flat.specs.declared.type_list.Listed.{Listed}
use Rattle.fir_flat.specs.Fields.{types_listed}
use Rattle.fir_flat.specs.Types.{IsRow, row_types, AreRows}

pub listed_type : (listed : List Listed) (n : ℕ) (l : Listed) → n < length listed → l ≡ get_or listed n l → type_at (types_listed listed) n ≡ l.ty.now
listed_type listed n l h e = map_at (λ (x : Listed). x.ty.now) listed n l (ty.UInt None) h e

pub row_type : (types : List Ty) (rows : List Row) (p r : Row) (n : ℕ) → AreRows types rows p → n < length rows → r ≡ get_or rows n r → r.ty.now ≡ type_at types n
row_type types rows p r n a h e = sym (map_at (λ (x : Row). x.ty.now) rows n r (ty.UInt None) h e) ∙ ap (λ ts. type_at ts n) a.same

pub row_right : (types : List Ty) (rows : List Row) (p r : Row) (n : ℕ) → AreRows types rows p → n < length rows → r ≡ get_or rows n r → IsRow types r
row_right types rows p r n a h e = subst (IsRow types) (sym e) (All-get_or (IsRow types) rows n r h a.each)

past_last : (T : List Ty) (n : ℕ) → length T ≤ n → type_at T n ≡ ty.UInt None
past_last [] n h = refl
past_last (t ∷ T) zero h = absurd (omega arith)
past_last (t ∷ T) (suc n) h = past_last T n (omega arith)

pub row_past : (types : List Ty) (rows : List Row) (p : Row) (n : ℕ) → AreRows types rows p → length rows ≤ n → p.ty.now ≡ type_at types n
row_past types rows p n a h =
    let l : length types ≡ length (row_types rows) = sym (ap length a.same) in
    a.plain ∙ sym (past_last types n (omega (arith, h, l, map_length (λ (x : Row). x.ty.now) rows)))

-- a row for a further listed type
pub rows_more : (listed : List Listed) (rows : List Row) (r : Row) (i : ℕ) (one : Listed) → row_types rows ≡ types_listed (take i listed) → i < length listed
    → one ≡ get_or listed i one → r.ty.now ≡ one.ty.now → row_types (rows ++ r ∷ []) ≡ types_listed (take (i + 1) listed)
rows_more listed rows r i one e h is t =
    map-append (λ (x : Row). x.ty.now) rows (r ∷ []) ∙ ap (λ ts. ts ++ r.ty.now ∷ []) e ∙ ap (λ (y : Ty). types_listed (take i listed) ++ y ∷ []) (t ∙ ap (λ (l : Listed). l.ty.now) is)
    ∙ sym (map-append (λ (x : Listed). x.ty.now) (take i listed) (get_or listed i one ∷ []))
    ∙ ap types_listed (sym (take-suc listed i one h)) ∙ ap (λ n. types_listed (take n listed)) (sym (add-one i))
