-- One walk over a body for all rules on statements at once.
use Rattle.std.specs.Prelude.{ℕ, ◌≡◌, Bool, false, Option, List, [], map, flat_map, drop, not, ◌||◌, ◌&&◌, ◌==◌, nat_lt, nat_le, option_map}
use Rattle.std.specs.List.{list_any}
use Rattle.fir_ast.specs.declared.tree.Ty.{Ty}
use Rattle.fir_ast.specs.declared.tree.Expr.{Expr}
use Rattle.fir_ast.specs.declared.tree.ResetPair.{ResetPair}
use Rattle.fir_ast.specs.declared.tree.VerifKind.{VerifKind}
use Rattle.fir_ast.specs.declared.tree.Stmt.{Stmt, map-Stmt}
use Rattle.fir_ast.specs.declared.tree.Stmt.TheViews.{out-Stmt}
use Rattle.fir_ast.specs.declared.tree.Stmt.TheOpen.{Stmt-F}
use Rattle.fir_ast.specs.Printed.{operands_before}
use Rattle.fir_ast.specs.declared.tree.Module.{Module}
use Rattle.fir_check.specs.declared.best.Rule.{Rule}
use Rattle.fir_check.specs.declared.best.Rule.TheVariants.{NoMain, DoubleName, UnknownName, WrongKind, WrongFlow, ClockUse, InstanceCycle}
use Rattle.fir_check.specs.declared.broken.Broken.{Broken}
use Rattle.fir_check.specs.declared.judged.Resets.{Resets}
use Rattle.fir_check.specs.declared.judged.Args.{Args}
use Rattle.fir_check.specs.declared.exprs.Judgement.{Judgement}
use Rattle.fir_check.specs.Seen.{meant}
use Rattle.fir_check.specs.Types.{is_ground}
use Rattle.fir_check.specs.Names.{kept}
use Rattle.fir_check.specs.Scopes.{Thing, Known, Walk, StmtRule, somewhere, meaning_of, body_lines, declares, with_declared, line_of}
use Rattle.fir_check.specs.Rules.{double_at, unknown_at, wrong_at, flow_at, clock_at, reset_uses, unknown_level, wrong_level, clock_level, wrong_reset, clock_in_reset, wrong_verif, fails, has_no_clock, is_value, is_condition}
use Rattle.fir_check.specs.Places.{lowered}

-- each rule on a statement of a module; two rules say nothing of single statements
abbrev pub stmt_rule : List Module → Module → Rule → StmtRule
stmt_rule modules m DoubleName = double_at
stmt_rule modules m UnknownName = unknown_at modules
stmt_rule modules m WrongKind = wrong_at modules
stmt_rule modules m WrongFlow = flow_at
stmt_rule modules m ClockUse = clock_at modules m
stmt_rule modules m NoMain = λ _ _. false
stmt_rule modules m InstanceCycle = λ _ _. false

-- whether a statement breaks a rule, of what is told of it
abbrev pub breaks : Broken → Rule → Bool
breaks b DoubleName = b.double
breaks b UnknownName = b.unknown
breaks b WrongKind = b.wrong
breaks b WrongFlow = b.flow
breaks b ClockUse = b.clock
breaks b _ = false

-- the line of a statement, for each rule that it breaks
abbrev pub broken_lines_of : Broken → ℕ → Rule → List ℕ
broken_lines_of b line rule = kept (breaks b rule) line []

-- a part was walked through: whatever the rule, these names are known behind it; and the least place is told, over the lines
-- in it that break a rule
pub record Walked (modules : List Module) (m : Module) (walk : StmtRule → Walk) (known : List Known) (best : Option ℕ) (known_behind : List Known) (best_behind : Option ℕ) : Type 0 where
  pub names : (rule : StmtRule) → known_behind ≡ (walk rule known).known
  pub place : best_behind ≡ lowered best (λ rule. (walk (stmt_rule modules m rule) known).lines)

-- nothing is walked through
abbrev pub idle : Walk
idle known = record { known = known; lines = [] }

-- a statement itself, without what stands in it
abbrev pub head_of : Stmt → Stmt-F Walk
head_of s = map-Stmt Stmt Walk (λ _. idle) (out-Stmt s)

-- what is told of a statement: which rules it breaks
pub record Told (modules : List Module) (m : Module) (known : List Known) (s : Stmt-F Walk) (b : Broken) : Type 0 where
  pub double : b.double ≡ double_at known s
  pub unknown : b.unknown ≡ unknown_at modules known s
  pub wrong : b.wrong ≡ wrong_at modules known s
  pub flow : b.flow ≡ flow_at known s
  pub clock : b.clock ≡ clock_at modules m known s

-- the line of a statement, for each rule that it breaks itself
abbrev pub stmt_breaks : List Module → Module → List Known → Stmt-F Walk → Rule → List ℕ
stmt_breaks modules m known s rule = kept (stmt_rule modules m rule known s) (line_of s) []

-- which rules the expressions of a reset break
pub record ResetTold (known : List Known) (t : Ty) (reset : Option ResetPair) (r : Resets) : Type 0 where
  pub unknown : r.unknown ≡ list_any (λ u. somewhere unknown_level u.known u.expr) (reset_uses known reset)
  pub wrong : r.wrong ≡ list_any (λ u. somewhere wrong_level u.known u.expr) (reset_uses known reset)
  pub clock : r.clock ≡ list_any (λ u. somewhere clock_level u.known u.expr) (reset_uses known reset)
  pub unfit : r.unfit ≡ wrong_reset known t reset
  pub clocked : r.clocked ≡ clock_in_reset known reset

-- which rules the expressions of a verification statement break
pub record ArgsTold (kind : VerifKind) (known : List Known) (args : List Expr) (a : Args) : Type 0 where
  pub unknown : a.unknown ≡ list_any (somewhere unknown_level known) args
  pub wrong : a.wrong ≡ list_any (somewhere wrong_level known) args
  pub clock : a.clock ≡ list_any (somewhere clock_level known) args
  pub unfit : a.unfit ≡ wrong_verif kind (map (meaning_of known) args)
  pub clocked : a.clocked ≡ list_any (λ e. fails has_no_clock (meaning_of known e)) (drop (operands_before kind) args)

-- the lines of a module's statements that break each rule on statements
abbrev pub body_breaks : List Module → Module → Rule → List ℕ
body_breaks modules m rule = body_lines modules (stmt_rule modules m rule) m

-- what is known behind a statement itself
abbrev pub names_behind : List Module → List Known → Stmt-F Walk → List Known
names_behind modules known s = with_declared (declares modules known s) known

-- those of all modules
abbrev pub all_body_breaks : List Module → Rule → List ℕ
all_body_breaks modules rule = flat_map (λ m. body_breaks modules m rule) modules

-- an expression at place k may not stand there, where so many stand in front of the string
abbrev pub misplaced : ℕ → ℕ → Option Thing → Bool
misplaced k before m =
    (k == 0 && fails is_value m)
    || ((not (k == 0) && (nat_lt k before && fails is_condition m)) || (nat_le before k && fails (λ t. is_ground t.ty) m))

-- what is told of expressions, with the one at place k besides
abbrev pub with_arg : (T : List Ty) → ℕ → ℕ → Args → Judgement → Args
with_arg T k before a j = record {
  unknown = a.unknown || j.unknown;
  wrong = a.wrong || j.wrong;
  clock = a.clock || j.clock;
  unfit = a.unfit || misplaced k before (option_map (meant T) j.meaning);
  clocked = a.clocked || (nat_le before k && fails has_no_clock (option_map (meant T) j.meaning));
}
