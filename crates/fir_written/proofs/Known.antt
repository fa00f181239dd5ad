-- What is known of a written circuit, form by form: names without a dot and without a bracket, few indices, shallow blocks.
use Rattle.std.proofs.Common.{◌≡◌, ◌≤◌, ◌<◌, ℕ, suc, Bool, true, false, List, [], ◌∷◌, refl, sym, ap, ◌∙◌, subst, arith}
use Rattle.std.specs.Prelude.{◌^◌, ◌&&◌, ◌||◌, ◌==◌, not, nat_lt, nat_le, length, Option, Some, None, map}
use Rattle.std.specs.List.{list_all, list_any}
use Rattle.std.proofs.lemmas.Bool.{and_parts, lt-ltb, ltb-true, leb-true, eqb-true}
use Rattle.std.proofs.Math.Nat.{le-max_left, le-max_right}
use Rattle.tb_base.specs.declared.op.Op.{Op}
use Rattle.tb_base.specs.Row.{operand_count, number_count}
use Rattle.text_grammar.specs.Lex.{begins_word, is_in}
use Rattle.text_grammar.specs.declared.lex.Class.TheVariants as run_of
use Rattle.fir_ast.specs.declared.tree.Ty.{Ty}
use Rattle.fir_ast.specs.declared.tree.Ty.TheVariants as ty
use Rattle.fir_ast.specs.declared.tree.Expr.{Expr}
use Rattle.fir_ast.specs.declared.tree.Expr.TheVariants as e
use Rattle.fir_ast.specs.declared.tree.Expr.TheVariants.{rolls-Ident, rolls-Part, rolls-At, rolls-Index, rolls-Lit, rolls-Apply}
use Rattle.fir_ast.specs.declared.tree.Expr.TheOpen.{Expr-F, Ident, Part, At, Index, Lit, Apply}
use Rattle.fir_ast.specs.declared.tree.Expr.TheViews.{roll-Expr}
use Rattle.fir_ast.specs.declared.tree.Expr.TheFolds.{ind-Expr, map-Expr}
use Rattle.fir_ast.specs.declared.tree.ResetPair.{ResetPair}
use Rattle.fir_ast.specs.declared.tree.Stmt.{Stmt}
use Rattle.fir_ast.specs.declared.tree.Stmt.TheVariants as stmt
use Rattle.fir_ast.specs.declared.tree.VerifKind.{VerifKind}
use Rattle.fir_ast.specs.declared.tree.Port.{Port}
use Rattle.fir_ast.specs.declared.tree.Module.{Module}
use Rattle.fir_ast.specs.declared.tree.Circuit.{Circuit}
use Rattle.fir_ast.specs.Limits.{limits, greatest_width, greatest_length}
use Rattle.fir_ast.specs.CircuitGrammar.{block_limit}
use Rattle.fir_ast.specs.Printed.{operands_before}
use Rattle.fir_print_laws.specs.Standing.{is_word_text}
use Rattle.fir_print_laws.specs.Printable.{is_number}
use Rattle.fir_written.specs.Written.{is_written_width, is_written_type, goes_on, one_more, is_written_number, is_written_expr, suffixes, is_some, is_written_sink, index_depth, is_written_reset, is_written_label, is_written_stmt, block_depth, depth_of_all, is_written_port, is_written_module, is_written, IsWritten}
use Rattle.fir_written.proofs.Unrolled.{written_uint, written_sint, written_vector, written_part, written_at, written_index, written_lit, written_apply, suffixes_ident, suffixes_part, suffixes_at, suffixes_index, suffixes_lit, suffixes_apply, index_ident, index_part, index_at, index_index, index_lit, index_apply, written_wire, written_node, written_reg, written_inst, written_connect, written_invalid, written_when, written_verif, depth_when}

-- ---- words

differs : (test : ℕ → Bool) (x b : ℕ) → test x ≡ true → test b ≡ false → (x == b) ≡ false
differs test x b has lacks = go (x == b) refl
  where
    go : (c : Bool) → (x == b) ≡ c → c ≡ false
    go true h = let same : x ≡ b = eqb-true x b h in absurd (let bad : true ≡ false = sym has ∙ ap test same ∙ lacks in cc)
    go false h = refl

all_differ : (test : ℕ → Bool) (b : ℕ) → test b ≡ false → (w : List ℕ) → list_all test w ≡ true → list_any (λ x. x == b) w ≡ false
all_differ test b lacks [] h = refl
all_differ test b lacks (x ∷ w) h = let two = and_parts (test x) (list_all test w) h in let one = differs test x b two.0 lacks in let more = all_differ test b lacks w two.1 in rw (one, more) refl

-- a byte that no word has is in none
pub word_without : (b : ℕ) → begins_word b ≡ false → is_in run_of.Word b ≡ false → (w : List ℕ) → is_word_text w ≡ true → list_any (λ x. x == b) w ≡ false
word_without b start inner [] h = absurd cc
word_without b start inner (x ∷ w) h =
    let two = and_parts (begins_word x) (list_all (is_in run_of.Word) w) h in
    let one = differs begins_word x b two.0 start in
    let more = all_differ (is_in run_of.Word) b inner w two.1 in
    rw (one, more) refl

-- no `.` (46) and no `[` (91)
pub no_dot : (w : List ℕ) → is_word_text w ≡ true → list_any (λ x. x == 46) w ≡ false
no_dot = word_without 46 refl refl

pub no_bracket : (w : List ℕ) → is_word_text w ≡ true → list_any (λ x. x == 91) w ≡ false
no_bracket = word_without 91 refl refl

pub not_empty : (w : List ℕ) → is_word_text w ≡ true → nat_lt 0 (length w) ≡ true
not_empty [] h = absurd cc
not_empty (x ∷ w) h = lt-ltb 0 (length (x ∷ w)) (omega arith)

-- ---- widths and types

pub width_most : (w : ℕ) → is_written_width (Some w) ≡ true → w ≤ 128
width_most w h = leb-true w greatest_width h

pub uint_parts : (w : Option ℕ) → is_written_type (ty.UInt w) ≡ true → is_written_width w ≡ true
uint_parts w h = sym (written_uint w) ∙ h

pub sint_parts : (w : Option ℕ) → is_written_type (ty.SInt w) ≡ true → is_written_width w ≡ true
sint_parts w h = sym (written_sint w) ∙ h

pub vector_parts : (of : Ty) (n : ℕ) → is_written_type (ty.Vector of n) ≡ true → (is_written_type of ≡ true) × (n ≤ 65536)
vector_parts of n h = let two = and_parts (is_written_type of) (nat_le n greatest_length) (sym (written_vector of n) ∙ h) in (two.0, leb-true n greatest_length two.1)

-- ---- expressions

pub number_below : (n : ℕ) → is_number n ≡ true → n < 2 ^ 128
number_below n h = ltb-true n (2 ^ 128) h

pub record LitParts (signed : Bool) (w : Option ℕ) (negative : Bool) (n : ℕ) : Type 0 where
  pub width : is_written_width w ≡ true
  pub below : n < 2 ^ 128
  pub signs : negative ≡ true → signed ≡ true
  pub some : negative ≡ true → 0 < n

signs_of : (signed negative some : Bool) → (not negative || (signed && some)) ≡ true → negative ≡ true → (signed ≡ true) × (some ≡ true)
signs_of true true true h k = (refl, refl)
signs_of true true false h k = absurd cc
signs_of false true some h k = absurd cc
signs_of signed false some h k = absurd cc

pub lit_parts : (signed : Bool) (w : Option ℕ) (negative : Bool) (n : ℕ) → is_written_expr (e.Lit signed w negative n) ≡ true → LitParts signed w negative n
lit_parts signed w negative n h =
    let two = and_parts (is_written_width w) (is_written_number signed negative n) (sym (written_lit signed w negative n) ∙ h) in
    let three = and_parts (is_number n) (not negative || (signed && nat_lt 0 n)) two.1 in
    record {
      width = two.0;
      below = number_below n three.0;
      signs = λ k. (signs_of signed negative (nat_lt 0 n) three.1 k).0;
      some = λ k. ltb-true 0 n (signs_of signed negative (nat_lt 0 n) three.1 k).1;
    }

pub part_parts : (x : Expr) (name : List ℕ) → is_written_expr (e.Part x name) ≡ true → (is_written_expr x ≡ true) × (is_word_text name ≡ true)
part_parts x name h = let two = and_parts (is_written_expr x) _ (sym (written_part x name) ∙ h) in (two.0, (and_parts (is_word_text name) (goes_on (suffixes x)) two.1).0)

pub at_parts : (x : Expr) (n : ℕ) → is_written_expr (e.At x n) ≡ true → (is_written_expr x ≡ true) × (n < 2 ^ 128)
at_parts x n h = let two = and_parts (is_written_expr x) _ (sym (written_at x n) ∙ h) in (two.0, number_below n (and_parts (is_number n) (goes_on (suffixes x)) two.1).0)

pub index_parts : (x i : Expr) → is_written_expr (e.Index x i) ≡ true → (is_written_expr x ≡ true) × (is_written_expr i ≡ true)
index_parts x i h = let two = and_parts (is_written_expr x) _ (sym (written_index x i) ∙ h) in (two.0, (and_parts (is_written_expr i) (goes_on (suffixes x)) two.1).0)

pub record ApplyParts (op : Op) (args : List Expr) (nums : List ℕ) : Type 0 where
  pub operands : list_all is_written_expr args ≡ true
  pub as_many : length args ≡ operand_count op
  pub numbers : list_all is_number nums ≡ true
  pub as_many_numbers : length nums ≡ number_count op

pub apply_parts : (op : Op) (args : List Expr) (nums : List ℕ) → is_written_expr (e.Apply op args nums) ≡ true → ApplyParts op args nums
apply_parts op args nums h =
    let two = and_parts (list_all is_written_expr args) _ (sym (written_apply op args nums) ∙ h) in
    let three = and_parts (length args == operand_count op) _ two.1 in
    let four = and_parts (list_all is_number nums) (length nums == number_count op) three.1 in
    record { operands = two.0; as_many = eqb-true (length args) (operand_count op) three.0; numbers = four.0; as_many_numbers = eqb-true (length nums) (number_count op) four.1 }

pub sink_parts : (x : Expr) → is_written_sink x ≡ true → is_written_expr x ≡ true
sink_parts x h = (and_parts (is_written_expr x) (is_some (suffixes x)) h).0

-- as many indices as suffixes at most, and of these at most 32
abbrev count_of : Option ℕ → ℕ
count_of None = 0
count_of (Some n) = n

abbrev Few : Expr → Type 0
Few x = is_written_expr x ≡ true → (index_depth x ≤ count_of (suffixes x)) × (count_of (suffixes x) ≤ limits.suffixes)

abbrev With : Type 0
With = (x : Expr) × Few x

one_further : (o : Option ℕ) (d : ℕ) → goes_on o ≡ true → d ≤ count_of o → (suc d ≤ count_of (one_more o)) × (count_of (one_more o) ≤ limits.suffixes)
one_further None d h le = absurd cc
one_further (Some n) d h le = let less = ltb-true n limits.suffixes h in (omega (arith, le), omega (arith, less))

few_behind : (x y : Expr) (test : Bool) → is_written_expr y ≡ (is_written_expr x && (test && goes_on (suffixes x))) → suffixes y ≡ one_more (suffixes x) → index_depth y ≤ suc (index_depth x) → Few x → Few y
few_behind x y test is more deep few h =
    let two = and_parts (is_written_expr x) (test && goes_on (suffixes x)) (sym is ∙ h) in
    let goes = (and_parts test (goes_on (suffixes x)) two.1).1 in
    let next = one_further (suffixes x) (index_depth x) goes (few two.0).0 in
    let a = next.0 in
    subst (λ (o : Option ℕ). (index_depth y ≤ count_of o) × (count_of o ≤ limits.suffixes)) (sym more) (omega (arith, deep, a), next.1)

few_none : (y : Expr) → index_depth y ≡ 0 → (o : Option ℕ) → suffixes y ≡ o → count_of o ≡ 0 → Few y
few_none y none o is zeroed h = subst (λ (o : Option ℕ). (index_depth y ≤ count_of o) × (count_of o ≤ limits.suffixes)) (sym is) (omega (arith, none), omega (arith, zeroed))

few_level : (y : Expr-F With) → Few (roll-Expr (map-Expr With Expr (λ x. x.0) y))
few_level (Ident name) = subst Few (sym (rolls-Ident name)) (few_none (e.Ident name) (index_ident name) (Some 0) (suffixes_ident name) refl)
few_level (Part x name) =
    subst Few (sym (rolls-Part x.0 name)) (few_behind x.0 (e.Part x.0 name) (is_word_text name) (written_part x.0 name) (suffixes_part x.0 name) (let is = index_part x.0 name in omega (arith, is)) x.1)
few_level (At x n) =
    subst Few (sym (rolls-At x.0 n)) (few_behind x.0 (e.At x.0 n) (is_number n) (written_at x.0 n) (suffixes_at x.0 n) (let is = index_at x.0 n in omega (arith, is)) x.1)
few_level (Index x i) =
    subst Few (sym (rolls-Index x.0 i.0)) (few_behind x.0 (e.Index x.0 i.0) (is_written_expr i.0) (written_index x.0 i.0) (suffixes_index x.0 i.0) (let is = index_index x.0 i.0 in omega (arith, is)) x.1)
few_level (Lit signed w negative n) =
    subst Few (sym (rolls-Lit signed w negative n)) (few_none (e.Lit signed w negative n) (index_lit signed w negative n) None (suffixes_lit signed w negative n) refl)
few_level (Apply op args nums) =
    let es = map (λ (x : With). x.0) args in
    subst Few (sym (rolls-Apply op es nums)) (few_none (e.Apply op es nums) (index_apply op es nums) None (suffixes_apply op es nums) refl)

few : (x : Expr) → Few x
few = ind-Expr Few (λ x y is. subst (λ z. Few (roll-Expr z)) is (few_level y))

-- at most 32 computed indices stand on the way down a reference
pub few_indices : (x : Expr) → is_written_expr x ≡ true → index_depth x ≤ 32
few_indices x h = let two = few x h in let a = two.0 in let b = two.1 in omega (arith, a, b)

-- ---- statements

pub wire_parts : (line : ℕ) (name : List ℕ) (t : Ty) → is_written_stmt (stmt.Wire line name t) ≡ true → (is_word_text name ≡ true) × (is_written_type t ≡ true)
wire_parts line name t h = and_parts (is_word_text name) (is_written_type t) (sym (written_wire line name t) ∙ h)

pub node_parts : (line : ℕ) (name : List ℕ) (value : Expr) → is_written_stmt (stmt.Node line name value) ≡ true → (is_word_text name ≡ true) × (is_written_expr value ≡ true)
node_parts line name value h = and_parts (is_word_text name) (is_written_expr value) (sym (written_node line name value) ∙ h)

pub record RegParts (name : List ℕ) (t : Ty) (clock : Expr) (reset : Option ResetPair) : Type 0 where
  pub named : is_word_text name ≡ true
  pub typed : is_written_type t ≡ true
  pub clocked : is_written_expr clock ≡ true
  pub resets : is_written_reset reset ≡ true

pub reg_parts : (line : ℕ) (name : List ℕ) (t : Ty) (clock : Expr) (reset : Option ResetPair) → is_written_stmt (stmt.Reg line name t clock reset) ≡ true → RegParts name t clock reset
reg_parts line name t clock reset h =
    let two = and_parts (is_word_text name) _ (sym (written_reg line name t clock reset) ∙ h) in
    let three = and_parts (is_written_type t) _ two.1 in
    let four = and_parts (is_written_expr clock) (is_written_reset reset) three.1 in
    record { named = two.0; typed = three.0; clocked = four.0; resets = four.1 }

pub reset_parts : (r : ResetPair) → is_written_reset (Some r) ≡ true → (is_written_expr r.signal ≡ true) × (is_written_expr r.init ≡ true)
reset_parts r h = and_parts (is_written_expr r.signal) (is_written_expr r.init) h

pub inst_parts : (line : ℕ) (name target : List ℕ) → is_written_stmt (stmt.Inst line name target) ≡ true → (is_word_text name ≡ true) × (is_word_text target ≡ true)
inst_parts line name target h = and_parts (is_word_text name) (is_word_text target) (sym (written_inst line name target) ∙ h)

pub connect_parts : (line : ℕ) (sink value : Expr) → is_written_stmt (stmt.Connect line sink value) ≡ true → (is_written_sink sink ≡ true) × (is_written_expr value ≡ true)
connect_parts line sink value h = and_parts (is_written_sink sink) (is_written_expr value) (sym (written_connect line sink value) ∙ h)

pub invalid_parts : (line : ℕ) (sink : Expr) → is_written_stmt (stmt.Invalid line sink) ≡ true → is_written_sink sink ≡ true
invalid_parts line sink h = sym (written_invalid line sink) ∙ h

pub record WhenParts (cond : Expr) (taken other : List Stmt) : Type 0 where
  pub condition : is_written_expr cond ≡ true
  pub block : list_all is_written_stmt taken ≡ true
  pub other_block : list_all is_written_stmt other ≡ true

pub when_parts : (line : ℕ) (cond : Expr) (taken other : List Stmt) → is_written_stmt (stmt.When line cond taken other) ≡ true → WhenParts cond taken other
when_parts line cond taken other h =
    let two = and_parts (is_written_expr cond) _ (sym (written_when line cond taken other) ∙ h) in
    let three = and_parts (list_all is_written_stmt taken) (list_all is_written_stmt other) two.1 in
    record { condition = two.0; block = three.0; other_block = three.1 }

pub record VerifParts (kind : VerifKind) (args : List Expr) (code : ℕ) (label : Option (List ℕ)) : Type 0 where
  pub operands : list_all is_written_expr args ≡ true
  pub enough : operands_before kind ≤ length args
  pub below : code < 2 ^ 128
  pub labelled : is_written_label label ≡ true

pub verif_parts : (line : ℕ) (kind : VerifKind) (args : List Expr) (code : ℕ) (text : List ℕ) (label : Option (List ℕ)) → is_written_stmt (stmt.Verif line kind args code text label) ≡ true → VerifParts kind args code label
verif_parts line kind args code text label h =
    let two = and_parts (list_all is_written_expr args) _ (sym (written_verif line kind args code text label) ∙ h) in
    let three = and_parts (nat_le (operands_before kind) (length args)) _ two.1 in
    let four = and_parts (is_number code) (is_written_label label) three.1 in
    record { operands = two.0; enough = leb-true (operands_before kind) (length args) three.0; below = number_below code four.0; labelled = four.1 }

-- ---- blocks

-- the blocks of a `when` are less deep than it
pub when_deep : (d line : ℕ) (cond : Expr) (taken other : List Stmt) → block_depth (stmt.When line cond taken other) ≤ suc d → (depth_of_all taken ≤ d) × (depth_of_all other ≤ d)
when_deep d line cond taken other h =
    let is = depth_when line cond taken other in
    let a = le-max_left (depth_of_all taken) (depth_of_all other) in
    let b = le-max_right (depth_of_all taken) (depth_of_all other) in
    (omega (arith, h, is, a), omega (arith, h, is, b))

pub when_not_flat : (line : ℕ) (cond : Expr) (taken other : List Stmt) → block_depth (stmt.When line cond taken other) ≤ 0 → ⊥
when_not_flat line cond taken other h = let is = depth_when line cond taken other in omega (arith, h, is)

pub all_deep : (d : ℕ) (x : Stmt) (xs : List Stmt) → depth_of_all (x ∷ xs) ≤ d → (block_depth x ≤ d) × (depth_of_all xs ≤ d)
all_deep d x xs h =
    let a = le-max_left (block_depth x) (depth_of_all xs) in
    let b = le-max_right (block_depth x) (depth_of_all xs) in
    (omega (arith, h, a), omega (arith, h, b))

-- ---- modules and circuits

-- of a list of which each passes: the first, and the others
pub all_parts : {A : Type 0} (test : A → Bool) (x : A) (xs : List A) → list_all test (x ∷ xs) ≡ true → (test x ≡ true) × (list_all test xs ≡ true)
all_parts test x xs h = and_parts (test x) (list_all test xs) h

pub port_parts : (p : Port) → is_written_port p ≡ true → (is_word_text p.name ≡ true) × (is_written_type p.ty ≡ true)
port_parts p h = and_parts (is_word_text p.name) (is_written_type p.ty) h

pub record ModuleParts (m : Module) : Type 0 where
  pub named : is_word_text m.name ≡ true
  pub ports : list_all is_written_port m.ports ≡ true
  pub body : list_all is_written_stmt m.body ≡ true
  pub deep : depth_of_all m.body ≤ 256

pub module_parts : (m : Module) → is_written_module m ≡ true → ModuleParts m
module_parts m h =
    let two = and_parts (is_word_text m.name) _ h in
    let three = and_parts (list_all is_written_port m.ports) _ two.1 in
    let four = and_parts (list_all is_written_stmt m.body) (nat_le (depth_of_all m.body) block_limit) three.1 in
    record { named = two.0; ports = three.0; body = four.0; deep = leb-true (depth_of_all m.body) block_limit four.1 }

pub record CircuitParts (c : Circuit) : Type 0 where
  pub named : is_word_text c.name ≡ true
  pub some : 0 < length c.modules
  pub modules : list_all is_written_module c.modules ≡ true

pub circuit_parts : (c : Circuit) → IsWritten c → CircuitParts c
unfolding is_written
circuit_parts c h =
    let two = and_parts (is_word_text c.name) _ h in
    let three = and_parts (nat_lt 0 (length c.modules)) (list_all is_written_module c.modules) two.1 in
    record { named = two.0; some = ltb-true 0 (length c.modules) three.0; modules = three.1 }
