-- An expression judged by the three rules on levels at once, and the operands of an operation one after another.
use Rattle.std.specs.Prelude.{◌≡◌, ◌==◌, ℕ, Bool, false, not, ◌||◌, ◌&&◌, if◌then◌else◌, Option, Some, List, option_map, map, drop, is_some}
use Rattle.std.specs.List.{list_any, list_all}
use Rattle.tb_base.specs.Row.{row_signed, signs_fit}
use Rattle.tb_base.specs.declared.op.Op.{Op}
use Rattle.tb_base.specs.declared.op.Op.TheVariants.{Mux}
use Rattle.fir_ast.specs.declared.tree.Ty.{Ty}
use Rattle.fir_ast.specs.declared.tree.Expr.{Expr}
use Rattle.fir_check.specs.declared.exprs.Judgement.{Judgement}
use Rattle.fir_check.specs.declared.exprs.Operands.{Operands}
use Rattle.fir_check.specs.Scopes.{Thing, thing, Known, LevelRule, Judged, judged, operand, meaning_of, number_type, is_signed_thing}
use Rattle.fir_check.specs.declared.thing.Flow.TheVariants.{Fixed}
use Rattle.fir_check.specs.Rules.{fails, differ, is_condition, is_branch, is_operand, has_no_clock, unknown_level, wrong_level, clock_level}
use Rattle.fir_check.specs.Seen.{meant}

-- no level breaks this rule
abbrev pub no_rule : LevelRule
no_rule known level = false

abbrev pub verdict : Option Thing → Bool → Judged
verdict meaning broken = record { meaning = meaning; broken = broken }

abbrev pub meaning_seen : (T : List Ty) → Judgement → Option Thing
meaning_seen T j = option_map (meant T) j.meaning

abbrev pub is_broken : LevelRule → List Known → Expr → Bool
is_broken rule known e = (judged rule known e).broken

abbrev pub meaning_under : LevelRule → List Known → Expr → Option Thing
meaning_under rule known e = (judged rule known e).meaning

-- what a judgement says of an expression, where something in front of it may be of the wrong kind already
pub record Judges (T : List Ty) (known : List Known) (before : Bool) (e : Expr) (j : Judgement) : Type 0 where
  pub meaning : judged no_rule known e ≡ verdict (meaning_seen T j) false
  pub unknown : judged unknown_level known e ≡ verdict (meaning_seen T j) j.unknown
  pub wrong : j.wrong ≡ is_broken wrong_level known e || before
  pub clock : judged clock_level known e ≡ verdict (meaning_seen T j) j.clock
  -- this rule judges the expression to stand for the same
  pub under_wrong : meaning_under wrong_level known e ≡ meaning_seen T j

-- what is gathered of operands: of the first three what they stand for, of all what breaks a rule, where something in front of them
-- may be of the wrong kind already
pub record Gathers (T : List Ty) (known : List Known) (before : Bool) (es : List Expr) (o : Operands) : Type 0 where
  pub first : option_map (meant T) o.first ≡ operand 0 (map (meaning_of known) es)
  pub second : option_map (meant T) o.second ≡ operand 1 (map (meaning_of known) es)
  pub third : option_map (meant T) o.third ≡ operand 2 (map (meaning_of known) es)
  pub all_known : o.all_known ≡ list_all is_some (map (meaning_of known) es)
  pub unfit : o.unfit ≡ list_any (fails is_operand) (map (meaning_of known) es)
  pub clocked : o.clocked ≡ list_any (fails has_no_clock) (drop 1 (map (meaning_of known) es))
  pub unknown : o.unknown ≡ list_any (is_broken unknown_level known) es
  pub wrong : o.wrong ≡ list_any (is_broken wrong_level known) es || before
  pub clock : o.clock ≡ list_any (is_broken clock_level known) es
  pub sound : list_any (is_broken no_rule known) es ≡ false
  -- each rule judges the operands to stand for the same
  pub under_unknown : map (meaning_under unknown_level known) es ≡ map (meaning_of known) es
  pub under_wrong : map (meaning_under wrong_level known) es ≡ map (meaning_of known) es
  pub under_clock : map (meaning_under clock_level known) es ≡ map (meaning_of known) es

-- what is gathered, with the operand at place k besides
abbrev pub with_operand : (T : List Ty) → ℕ → Operands → Judgement → Operands
with_operand T k o j = record {
  first = if k == 0 then j.meaning else o.first;
  second = if k == 1 then j.meaning else o.second;
  third = if k == 2 then j.meaning else o.third;
  all_known = o.all_known && is_some j.meaning;
  unfit = o.unfit || fails is_operand (meaning_seen T j);
  clocked = o.clocked || (not (k == 0) && fails has_no_clock (meaning_seen T j));
  unknown = o.unknown || j.unknown;
  wrong = o.wrong || j.wrong;
  clock = o.clock || j.clock;
}

-- what an operation stands for, from what its first two operands do
abbrev pub applied_given : Op → Option Thing → Option Thing → Option Thing
applied_given Mux a b = option_map (λ t. thing t.ty Fixed) b
applied_given op a b = Some (thing (number_type (row_signed op (is_signed_thing a))) Fixed)

abbrev pub wrong_mux : Option Thing → Option Thing → Option Thing → Bool
wrong_mux a b c = fails is_condition a || (fails is_branch b || (fails is_branch c || differ b c))

abbrev pub misfit : Op → Option Thing → Option Thing → Option Thing → Bool
misfit op a b c = not (signs_fit op (is_signed_thing a) (is_signed_thing b) (is_signed_thing c))

-- wrong operands, from what is gathered of them
abbrev pub wrong_given : (T : List Ty) → Op → Operands → Bool
wrong_given T Mux o = wrong_mux (option_map (meant T) o.first) (option_map (meant T) o.second) (option_map (meant T) o.third)
wrong_given T op o = o.unfit || (o.all_known && misfit op (option_map (meant T) o.first) (option_map (meant T) o.second) (option_map (meant T) o.third))

-- a Clock behind the first operand breaks a rule in a mux alone
abbrev pub clock_given : Op → Bool → Bool
clock_given Mux clocked = clocked
clock_given op clocked = false
