-- What is known of an expression from what is known of its parts.
use Rattle.std.specs.Prelude.{ℕ, Bool, false, not, ◌&&◌, ◌||◌, ◌==◌, nat_lt, max, min, if◌then◌else◌, List, [], ◌∷◌, map, Option, Some, None, unwrap_or}
use Rattle.tb_base.specs.Row.{in_range, row_signed, leading, width_of}
use Rattle.tb_base.specs.declared.op.Op.{Op}
use Rattle.net_core.specs.Shapes.{Shape, shape_at, widths, greatest, literal_width}
use Rattle.net_core.specs.Values.{any}
use Rattle.fir_widths.specs.declared.shape.Judged.{Judged as CodeJudged}
use Rattle.fir_widths.specs.declared.shape.Summary.{Summary}
use Rattle.net_core.specs.WidthRules.{Judged, is_mux, holds_literal}

-- a judgement of the code
abbrev pub seen : CodeJudged → Judged
seen j = record { shape = j.shape; wide = j.wide; bad = j.bad }

abbrev pub shapes : List Judged → List Shape
shapes js = map (λ j. j.shape) js

-- of a list of parts: the shapes of the first three, the greatest width, and whether some part breaks a rule
abbrev pub summary : List Judged → Summary
summary js = record {
  first = shape_at (shapes js) 0;
  second = shape_at (shapes js) 1;
  third = shape_at (shapes js) 2;
  widest = greatest (widths (shapes js));
  wide = any (map (λ j. j.wide) js);
  bad = any (map (λ j. j.bad) js);
}

-- the same, with one part more behind k others
abbrev pub noted : ℕ → Judged → Summary → Summary
noted k j s = record {
  first = if k == 0 then j.shape else s.first;
  second = if k == 1 then j.shape else s.second;
  third = if k == 2 then j.shape else s.third;
  widest = max s.widest j.shape.width;
  wide = s.wide || j.wide;
  bad = s.bad || j.bad;
}

abbrev pub judged_by : Shape → (wide bad : Bool) → Judged
judged_by s wide bad = record { shape = s; wide = (s.width == 129) || wide; bad = bad }

abbrev pub literal_out : (signed : Bool) → Option ℕ → (negative : Bool) → ℕ → Bool
literal_out signed None negative n = false
literal_out signed (Some w) negative n = not (holds_literal signed negative n w)

abbrev pub judged_literal : (signed : Bool) → Option ℕ → (negative : Bool) → ℕ → Judged
judged_literal signed width negative n =
    judged_by (record { signed = signed; width = min 129 (unwrap_or width (literal_width signed negative n)) }) false
    (literal_out signed width negative n)

abbrev pub judged_apply : Op → Summary → ℕ → ℕ → Judged
judged_apply op s n m = judged_by
    (record {
      signed = row_signed op (leading op s.first.signed s.second.signed);
      width = width_of op s.first.signed (s.first.width ∷ s.second.width ∷ s.third.width ∷ []) (n ∷ m ∷ []);
    })
    s.wide
    ((not (in_range op s.first.width n m) || (is_mux op && nat_lt 1 s.first.width)) || s.bad)

abbrev pub judged_select : Judged → Summary → Judged
judged_select index s = judged_by (record { signed = s.first.signed; width = min 129 s.widest }) (index.wide || s.wide) (index.bad || s.bad)

abbrev pub judged_place : Judged → Judged
judged_place index = judged_by (record { signed = false; width = 1 }) index.wide index.bad
