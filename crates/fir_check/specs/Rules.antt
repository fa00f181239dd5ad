-- The seven rules, each as the lines that break it, and `circuit_rule`, the least of these lines.
--
-- A rule says nothing of an expression whose meaning isn't known: the rule on unknown names speaks of it.
use Rattle.std.specs.Prelude.{ℕ, zero, suc, Bool, false, not, ◌&&◌, ◌||◌, nat_lt, nat_le, if◌then◌else◌, Option, Some, None, is_some, is_none, List, [], ◌∷◌, ◌++◌, map, flat_map, filter, take, drop, length, bytes_eq, option_to_list}
use Rattle.std.specs.List.{list_any, list_all}
use Rattle.tb_base.specs.Row.{signs_fit}
use Rattle.tb_base.specs.declared.op.Op.{Op}
use Rattle.tb_base.specs.declared.op.Op.TheVariants.{Mux}
use Rattle.fir_ast.specs.declared.tree.Ty.{Ty}
use Rattle.fir_ast.specs.declared.tree.Expr.{Expr}
use Rattle.fir_ast.specs.declared.tree.Expr.TheViews.{out-Expr}
use Rattle.fir_ast.specs.declared.tree.Expr.TheOpen.{Expr-F, Ident, Part, At, Index, Apply}
use Rattle.fir_ast.specs.declared.tree.ResetPair.{ResetPair}
use Rattle.fir_ast.specs.declared.tree.VerifKind.{VerifKind}
use Rattle.fir_ast.specs.declared.tree.Stmt.TheFolds.{fold-Stmt}
use Rattle.fir_ast.specs.declared.tree.Stmt.TheOpen.{Stmt-F, Wire, Node, Reg, Inst, Connect, Invalid, When, Verif}
use Rattle.fir_ast.specs.declared.tree.Port.{Port}
use Rattle.fir_ast.specs.declared.tree.Module.{Module}
use Rattle.fir_ast.specs.declared.tree.Circuit.{Circuit}
use Rattle.fir_ast.specs.Printed.{operands_before}
use Rattle.fir_check.specs.declared.best.Rule.{Rule}
use Rattle.fir_check.specs.declared.best.Rule.TheVariants.{NoMain, DoubleName, UnknownName, WrongKind, WrongFlow, ClockUse, InstanceCycle}
use Rattle.fir_check.specs.Names.{seconds, firsts}
use Rattle.fir_check.specs.Types.{is_ground, is_clock, is_uint, is_unsigned, is_bundle, field_named, vector_of, repeats_field, has_flip, holds_clock, same, leaves, same_shape}
use Rattle.fir_check.specs.Scopes.{turned, may_be_driven, Thing, Known, is_declared, visible, added, free_known, LevelRule, operand, is_signed_thing, somewhere, meaning_of, module_name, port_name, module_named, Walk, StmtRule, body_lines}

-- the main module has the circuit's name
abbrev pub main_of : Circuit → Option Module
main_of c = module_named c.name c.modules

-- the lines of those items at which a test gives true
abbrev pub port_lines : (Port → Bool) → List Port → List ℕ
port_lines test ports = map (λ p. p.line) (filter test ports)

-- the lines of the statements of all modules that break a rule
abbrev pub stmt_lines : (Module → StmtRule) → Circuit → List ℕ
stmt_lines rule c = flat_map (λ m. body_lines c.modules (rule m) m) c.modules

-- no main module

-- no module has the circuit's name
abbrev pub no_main_lines : Circuit → List ℕ
no_main_lines c = if is_none (main_of c) then c.line ∷ [] else []

-- double names

-- the name that a statement declares
abbrev pub name_of : {A : Type 0} → Stmt-F A → Option (List ℕ)
name_of (Wire _ name _) = Some name
name_of (Node _ name _) = Some name
name_of (Reg _ name _ _ _) = Some name
name_of (Inst _ name _) = Some name
name_of _ = None

-- the type that is written in a statement
abbrev pub type_in : {A : Type 0} → Stmt-F A → Option Ty
type_in (Wire _ _ t) = Some t
type_in (Reg _ _ t _ _) = Some t
type_in _ = None

-- a test of what may be absent
abbrev pub some_is : {X : Type 0} → (X → Bool) → Option X → Bool
some_is test None = false
some_is test (Some x) = test x

-- a statement declares a name a second time in its module, or its type has two fields of one name
abbrev pub double_at : StmtRule
double_at known s = some_is (λ name. is_declared name known) (name_of s) || some_is repeats_field (type_in s)

-- a module's name, a declared name within one module or a field within one bundle is used a second time
abbrev pub double_name_lines : Circuit → List ℕ
double_name_lines c =
    map (λ m. m.line) (seconds module_name c.modules)
    ++ (flat_map (λ m. map (λ p. p.line) (seconds port_name m.ports) ++ port_lines (λ p. repeats_field p.ty) m.ports) c.modules
    ++ stmt_lines (λ _. double_at) c)

-- unknown names

-- an expression of a statement, with the names that are known where it stands
pub record Use : Type 0 where
  pub known : List Known
  pub expr : Expr

abbrev pub use_at : List Known → Expr → Use
use_at known e = record { known = known; expr = e }

-- the reset of a register may name the register itself
abbrev pub reset_uses : List Known → Option ResetPair → List Use
reset_uses known None = []
reset_uses known (Some r) = use_at known r.signal ∷ use_at known r.init ∷ []

-- the expressions of a statement itself, sinks too
abbrev pub uses : List Module → List Known → Stmt-F Walk → List Use
uses modules known (Node _ _ value) = use_at known value ∷ []
uses modules known (Reg line name t clock reset) =
    use_at known clock ∷ reset_uses (added (free_known name t) known) reset
uses modules known (Connect _ sink value) = use_at known sink ∷ use_at known value ∷ []
uses modules known (Invalid _ sink) = use_at known sink ∷ []
uses modules known (When _ cond _ _) = use_at known cond ∷ []
uses modules known (Verif _ _ args _ _ _) = map (use_at known) args
uses modules known _ = []

-- some level of some expression of a statement breaks a rule on levels
abbrev pub in_some_use : List Module → LevelRule → StmtRule
in_some_use modules rule known s = list_any (λ u. somewhere rule u.known u.expr) (uses modules known s)

-- a bundle has no such field
abbrev pub lacks_field : List ℕ → Option Thing → Bool
lacks_field name None = false
lacks_field name (Some t) = is_bundle t.ty && is_none (field_named name t.ty)

-- a name isn't declared earlier in the same or an enclosing block, or a bundle has no such field
abbrev pub unknown_level : LevelRule
unknown_level known (Ident name) = is_none (visible name known)
unknown_level known (Part e name) = lacks_field name e
unknown_level known _ = false

-- an instance's module isn't there
abbrev pub unknown_target : List Module → Stmt-F Walk → Bool
unknown_target modules (Inst _ _ target) = is_none (module_named target modules)
unknown_target modules _ = false

abbrev pub unknown_at : List Module → StmtRule
unknown_at modules known s = in_some_use modules unknown_level known s || unknown_target modules s

abbrev pub unknown_name_lines : Circuit → List ℕ
unknown_name_lines c = stmt_lines (λ _. unknown_at c.modules) c

-- wrong kinds

-- what an expression stands for is known, and isn't so
abbrev pub fails : (Thing → Bool) → Option Thing → Bool
fails test None = false
fails test (Some t) = not (test t)

abbrev pub is_condition : Thing → Bool
is_condition t = is_unsigned t.ty

abbrev pub is_operand : Thing → Bool
is_operand t = is_ground t.ty && not (is_clock t.ty)

-- a value, not an instance as a whole
abbrev pub is_value : Thing → Bool
is_value t = not t.whole

-- a branch of a mux may be an aggregate
abbrev pub is_branch : Thing → Bool
is_branch t = is_value t && (not (is_clock t.ty) && not (has_flip t.ty))

-- both are known, and have different shapes
abbrev pub differ : Option Thing → Option Thing → Bool
differ (Some a) (Some b) = not (same_shape a.ty b.ty)
differ _ _ = false

-- all operands are known, and their signs don't fit the row
abbrev pub signs_differ : Op → List (Option Thing) → Bool
signs_differ op args =
    list_all is_some args
    && not (signs_fit op (is_signed_thing (operand 0 args)) (is_signed_thing (operand 1 args)) (is_signed_thing (operand 2 args)))

abbrev pub wrong_operands : Op → List (Option Thing) → Bool
wrong_operands Mux args =
    fails is_condition (operand 0 args)
    || (fails is_branch (operand 1 args) || (fails is_branch (operand 2 args) || differ (operand 1 args) (operand 2 args)))
wrong_operands op args = list_any (fails is_operand) args || signs_differ op args

-- a plain index is below the length of a vector
abbrev pub has_element : ℕ → Thing → Bool
has_element n t = some_is (λ v. nat_lt n v.1) (vector_of t.ty)

-- an index of no vector, or a dynamic index that is no UInt
abbrev pub wrong_index : Option Thing → Option Thing → Bool
wrong_index e index = fails (λ t. is_some (vector_of t.ty)) e || fails (λ t. is_uint t.ty) index

-- a field of no bundle, an index of no vector or past its length, a dynamic index that is no UInt, or a wrong operand
abbrev pub wrong_level : LevelRule
wrong_level known (Part e name) = fails (λ t. is_bundle t.ty) e
wrong_level known (At e n) = fails (has_element n) e
wrong_level known (Index e index) = wrong_index e index
wrong_level known (Apply op args nums) = wrong_operands op args
wrong_level known _ = false

-- the signal of a reset is a condition, its initial value has the register's shape
abbrev pub wrong_pair : Ty → Option Thing → Option Thing → Bool
wrong_pair t signal init = fails is_condition signal || fails (λ i. is_value i && same_shape i.ty t) init

abbrev pub wrong_reset : List Known → Ty → Option ResetPair → Bool
wrong_reset known t None = false
wrong_reset known t (Some r) = wrong_pair t (meaning_of known r.signal) (meaning_of known r.init)

-- the operands between a verification statement's clock and its string are conditions, those behind it ground
abbrev pub wrong_verif : VerifKind → List (Option Thing) → Bool
wrong_verif kind args =
    list_any (fails is_value) (take 1 args)
    || (list_any (fails is_condition) (drop 1 (take (operands_before kind) args))
    || list_any (fails (λ t. is_ground t.ty)) (drop (operands_before kind) args))

abbrev pub wrong_stmt : List Module → List Known → Stmt-F Walk → Bool
wrong_stmt modules known (Node _ _ value) = fails (λ v. is_value v && not (has_flip v.ty)) (meaning_of known value)
wrong_stmt modules known (Reg line name t clock reset) =
    has_flip t || wrong_reset (added (free_known name t) known) t reset
wrong_stmt modules known (Connect _ sink value) =
    fails is_value (meaning_of known value) || differ (meaning_of known sink) (meaning_of known value)
wrong_stmt modules known (When _ cond _ _) = fails is_condition (meaning_of known cond)
wrong_stmt modules known (Verif _ kind args _ _ _) = wrong_verif kind (map (meaning_of known) args)
wrong_stmt modules known _ = false

abbrev pub wrong_at : List Module → StmtRule
wrong_at modules known s = in_some_use modules wrong_level known s || wrong_stmt modules known s

-- a ground part of the port is an input, flips counted, and is a UInt or SInt without width
abbrev pub has_unsized_input : Port → Bool
has_unsized_input p = list_any (λ l. same p.output l.against && l.unsized) (leaves p.ty)

abbrev pub wrong_kind_lines : Circuit → List ℕ
wrong_kind_lines c =
    flat_map (λ m. port_lines has_unsized_input m.ports) (option_to_list (main_of c)) ++ stmt_lines (λ _. wrong_at c.modules) c

-- wrong flows

-- a connect drives the flipped ground parts of its source: those may be driven
abbrev pub gives_back : Thing → Bool
gives_back t = may_be_driven (turned t.flow) || not (list_any (λ l. l.against) (leaves t.ty))

-- a sink may be driven, and is no whole instance
abbrev pub is_sink : Thing → Bool
is_sink t = may_be_driven t.flow && is_value t

-- an invalidation drives what is ground; of an aggregate it reaches those parts that may be driven
abbrev pub is_invalid_sink : Thing → Bool
is_invalid_sink t = is_value t && (may_be_driven t.flow || not (is_ground t.ty))

-- what is driven is an input port, a node, an instance's output, a literal, an operation or an instance as a whole
abbrev pub flow_at : StmtRule
flow_at known (Connect _ sink value) = fails is_sink (meaning_of known sink) || fails gives_back (meaning_of known value)
flow_at known (Invalid _ sink) = fails is_invalid_sink (meaning_of known sink)
flow_at known _ = false

abbrev pub wrong_flow_lines : Circuit → List ℕ
wrong_flow_lines c = stmt_lines (λ _. flow_at) c

-- uses of clocks

abbrev pub is_clock_input : Port → Bool
is_clock_input p = not p.output && is_clock p.ty

-- a Clock stands elsewhere than as the whole type of an input port
abbrev pub misplaces_clock : Port → Bool
misplaces_clock p = holds_clock p.ty && not (is_clock_input p)

abbrev pub has_no_clock : Thing → Bool
has_no_clock t = not (holds_clock t.ty)

-- a branch of a mux has a Clock in it
abbrev pub clock_level : LevelRule
clock_level known (Apply Mux args nums) = list_any (fails has_no_clock) (drop 1 args)
clock_level known _ = false

-- the sinks of the connects in a statement
abbrev pub sink_level : Stmt-F (List Expr) → List Expr
sink_level (Connect _ sink _) = sink ∷ []
sink_level (When _ _ taken other) = flat_map (λ es. es) taken ++ flat_map (λ es. es) other
sink_level _ = []

abbrev pub sinks_in : Module → List Expr
sinks_in m = flat_map (fold-Stmt (List Expr) sink_level) m.body

-- the expression is the name
abbrev pub is_name : {A : Type 0} → List ℕ → Expr-F A → Bool
is_name name (Ident other) = bytes_eq other name
is_name name _ = false

-- the expression is the port of the instance
abbrev pub is_port_of : List ℕ → List ℕ → Expr-F Expr → Bool
is_port_of instance port (Part e name) = is_name instance (out-Expr e) && bytes_eq name port
is_port_of instance port _ = false

-- a Clock input of the instance is the sink of no connect of the module
abbrev pub lacks_clock : Module → List ℕ → Module → Bool
lacks_clock m instance target =
    list_any (λ p. is_clock_input p && not (list_any (λ sink. is_port_of instance p.name (out-Expr sink)) (sinks_in m))) (firsts port_name target.ports)

-- the register's initial value has a Clock in it
abbrev pub clock_in_reset : List Known → Option ResetPair → Bool
clock_in_reset known None = false
clock_in_reset known (Some r) = fails has_no_clock (meaning_of known r.init)

-- a Clock is used in another way than as the clock of a register or of a verification statement or as both sides of a connect,
-- a register's clock is none, or an instance lacks a clock
abbrev pub clock_stmt : List Module → Module → List Known → Stmt-F Walk → Bool
clock_stmt modules m known (Wire _ _ t) = holds_clock t
clock_stmt modules m known (Node _ _ value) = fails has_no_clock (meaning_of known value)
clock_stmt modules m known (Reg line name t clock reset) =
    holds_clock t
    || (fails (λ c. is_clock c.ty) (meaning_of known clock)
    || clock_in_reset (added (free_known name t) known) reset)
clock_stmt modules m known (Inst _ name target) = some_is (lacks_clock m name) (module_named target modules)
clock_stmt modules m known (Invalid _ sink) = fails has_no_clock (meaning_of known sink)
clock_stmt modules m known (Verif _ kind args _ _ _) = list_any (λ e. fails has_no_clock (meaning_of known e)) (drop (operands_before kind) args)
clock_stmt modules m known _ = false

abbrev pub clock_at : List Module → Module → StmtRule
clock_at modules m known s = in_some_use modules clock_level known s || clock_stmt modules m known s

-- the main module's Clock inputs behind the first
abbrev pub second_clocks : Module → List ℕ
second_clocks m = drop 1 (port_lines is_clock_input m.ports)

abbrev pub clock_use_lines : Circuit → List ℕ
clock_use_lines c =
    flat_map (λ m. port_lines misplaces_clock m.ports) c.modules
    ++ (flat_map second_clocks (option_to_list (main_of c)) ++ stmt_lines (clock_at c.modules) c)

-- cycles of instances

-- the modules of the instances in a statement
abbrev pub target_level : Stmt-F (List (List ℕ)) → List (List ℕ)
target_level (Inst _ _ target) = target ∷ []
target_level (When _ _ taken other) = flat_map (λ ts. ts) taken ++ flat_map (λ ts. ts) other
target_level _ = []

-- the modules of a module's instances
abbrev pub targets_in : Module → List (List ℕ)
targets_in m = flat_map (fold-Stmt (List (List ℕ)) target_level) m.body

abbrev pub targets_of : List Module → List ℕ → List (List ℕ)
targets_of modules name = flat_map targets_in (option_to_list (module_named name modules))

-- the module of the first name is that of the second, or contains it, at most n instances deep
abbrev pub contains : ℕ → List Module → List ℕ → List ℕ → Bool
contains zero modules outer inner = bytes_eq outer inner
contains (suc n) modules outer inner = bytes_eq outer inner || list_any (λ t. contains n modules t inner) (targets_of modules outer)

-- the instance's module contains the module that the instance lies in. A way through more modules than there are
-- passes one of them twice
abbrev pub cycle_at : List Module → Module → StmtRule
cycle_at modules m known (Inst _ _ target) = contains (length modules) modules target m.name
cycle_at modules m known _ = false

-- a module whose name an earlier one has is contained in none
abbrev pub cycle_lines : List Module → List ℕ
cycle_lines modules = flat_map (λ m. body_lines modules (cycle_at modules m) m) (firsts module_name modules)

abbrev pub instance_cycle_lines : Circuit → List ℕ
instance_cycle_lines c = cycle_lines c.modules

-- all rules

-- the lines that break a rule
abbrev pub broken_lines : Rule → Circuit → List ℕ
broken_lines NoMain = no_main_lines
broken_lines DoubleName = double_name_lines
broken_lines UnknownName = unknown_name_lines
broken_lines WrongKind = wrong_kind_lines
broken_lines WrongFlow = wrong_flow_lines
broken_lines ClockUse = clock_use_lines
broken_lines InstanceCycle = instance_cycle_lines

-- the rules, in the order in which they are answered
abbrev pub all_rules : List Rule
all_rules = NoMain ∷ DoubleName ∷ UnknownName ∷ WrongKind ∷ WrongFlow ∷ ClockUse ∷ InstanceCycle ∷ []

-- the first of those breaks whose line is least
abbrev pub earlier : Rule × ℕ → Option (Rule × ℕ) → Option (Rule × ℕ)
earlier b None = Some b
earlier b (Some other) = if nat_le b.1 other.1 then Some b else Some other

abbrev pub first_break : List (Rule × ℕ) → Option (Rule × ℕ)
first_break [] = None
first_break (b ∷ bs) = earlier b (first_break bs)

-- the least line that breaks a rule, with the first rule that it breaks
abbrev pub circuit_rule : Circuit → Option (Rule × ℕ)
circuit_rule c = first_break (flat_map (λ rule. map (λ line. (rule, line)) (broken_lines rule c)) all_rules)
