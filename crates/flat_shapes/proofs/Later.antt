-- Names that stand before: a list in which no name is repeated.
use Rattle.std.proofs.Common.{ℕ, ◌≡◌, ◌∙◌, ◌==◌, Bool, true, false, not, ◌||◌, List, [], ◌∷◌, length, map, refl, sym, ap, ap₂}
use Rattle.std.specs.Prelude.{bytes_eq}
use Rattle.std.proofs.Math.Dec.{eqb-suc-zero}
use Rattle.fir_ast.specs.declared.tree.Field.{Field}
use Rattle.fir_check.specs.Names.{is_among, kept, repeated}
use Rattle.fir_check.specs.Fields.{field_name}
use Rattle.fir_check.proofs.Names.{differ_among, bytes_turned, or_true}
use Rattle.flat_shapes.proofs.Tests.{never}

abbrev pub repeats_past : List (List ℕ) → List Field → Bool
repeats_past e fs = not (length (repeated field_name e fs) == 0)

pub kept_first : (b : Bool) (f : Field) (rest : List Field) → not (length (kept b f rest) == 0) ≡ false → (b ≡ false) × (not (length rest == 0) ≡ false)
kept_first true f rest h = never (sym h ∙ ap not (eqb-suc-zero (length rest)))
kept_first false f rest h = (refl, h)

-- a name that stood before stands nowhere behind
pub none_later : (n : List ℕ) (e : List (List ℕ)) (fs : List Field) → is_among n e ≡ true → repeats_past e fs ≡ false → is_among n (map field_name fs) ≡ false
none_later n e [] a h = refl
none_later n e (f ∷ fs) a h =
    let k : (is_among (field_name f) e ≡ false) × (repeats_past (field_name f ∷ e) fs ≡ false) =
    kept_first (is_among (field_name f) e) f (repeated field_name (field_name f ∷ e) fs) h in
    ap₂ (λ x y. x || y) (bytes_turned (field_name f) n ∙ differ_among n (field_name f) e a k.0)
    (none_later n (field_name f ∷ e) fs (ap (λ b. bytes_eq (field_name f) n || b) a ∙ or_true (bytes_eq (field_name f) n)) k.1)
