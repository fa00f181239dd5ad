-- Statements that break no rule, one after another.
use Rattle.std.proofs.Common.{◌≡◌, ◌∙◌, sym, ap, ap₂, subst, ℕ, zero, ◌+◌, ◌-◌, ◌<◌, ◌≤◌, Bool, true, false, not, ◌&&◌, ◌||◌, List, [], ◌∷◌, ◌++◌, Option, Some, None, is_none, option_map, cond, refl, length, arith, map, append_assoc, append-nil, slice_index}
use Rattle.std.specs.List.{range_with_len, flat_map, list_any}
use Rattle.fir_ast.specs.declared.tree.Ty.{Ty}
use Rattle.fir_ast.specs.declared.tree.Expr.{Expr}
use Rattle.fir_ast.specs.declared.tree.Module.{Module}
use Rattle.fir_ast.specs.declared.tree.ResetPair.{ResetPair}
use Rattle.fir_ast.specs.declared.tree.Stmt.{Stmt, map-Stmt}
use Rattle.fir_ast.specs.declared.tree.Stmt.TheFolds.{fold-Stmt, fold-roll-Stmt, ind-Stmt}
use Rattle.fir_ast.specs.declared.tree.Stmt.TheOpen.{Stmt-F, Wire, Node, Reg, Inst, Connect, Invalid, When, Skip, Verif}
use Rattle.fir_ast.specs.declared.tree.Stmt.TheViews.{roll-Stmt}
use Rattle.net_core.specs.declared.tree.SignalInfo.{SignalInfo}
use Rattle.net_core.specs.declared.tree.Role.{Role}
use Rattle.net_core.specs.declared.tree.Role.TheVariants as role
use Rattle.net_core.specs.declared.tree.Ground.{Ground}
use Rattle.net_core.specs.declared.tree.Ground.TheVariants as out
use Rattle.net_core.specs.Signals.{info, is_input, is_node}
use Rattle.net_core.specs.Formed.{holds_number}
use Rattle.fir_check.specs.Names.{kept}
use Rattle.fir_check.specs.Types.{repeats_field, same_shape}
use Rattle.fir_check.specs.Scopes.{Thing, thing, Known, Walk, StmtRule, fresh, is_declared, added, free_known, meaning_of, module_named, ports_type, instance_thing, somewhere, stmt_level, stmt_found, in_turn, in_block, hide, may_be_driven as may_drive}
use Rattle.fir_check.specs.Rules.{double_at, unknown_at, unknown_level, wrong_at, wrong_level, wrong_reset, flow_at, fails, differ, is_condition, is_sink, is_value, gives_back, in_some_use}
use Rattle.fir_check.proofs.Names.{or_left, or_right}
use Rattle.fir_formed.proofs.Flows.{Free, Fixed, free_way, fixed_way, free_like, fixed_like, source_like}
use Rattle.fir_flat.specs.Shapes.{Shape, shape_of, ports_shape, size, leaves, partners}
use Rattle.fir_flat.specs.Bodies.{Body, done, wire, node, reg, inst, connect, invalid, when, block, level_body, statement, body_of}
use Rattle.fir_flat.specs.Values.{Bound, bound, Value, value, leaf_signed, may_be_driven}
use Rattle.fir_flat.specs.Modules.{module_at, place_of, instance, taken_up, signals_in}
use Rattle.fir_flat.specs.Elaboration.{declare, port_leaves, declare_ports, declare_all, node_part, ground_reset, reg_part, connect_parts, invalid_parts, grounds}
use Rattle.fir_formed.proofs.Tests.{and_left, and_right, not_false, all_true, Empties, both_empty, named_place}
use Rattle.fir_formed.proofs.Fair.{Fit, FitReset, Leads, leads_nothing, leads_append, leads_when, leads_declare, leads_node}
use Rattle.fir_formed.proofs.Good.{Sound, leaf_against, facing}
use Rattle.fir_formed.proofs.Agree.{Agree, agree_more, agree_added, agree_hidden}
use Rattle.fir_formed.proofs.Needed.{Pair, ShapeLaws}
use Rattle.fir_formed.proofs.Typing.{spelt, Clean, Meant, meant, condition_fit}
use Rattle.fir_formed.proofs.Driving.{connect_leads, invalid_leads}
use Rattle.fir_formed.proofs.Declaring.{upto, within_upto, holds_upto, lists_lead, items_lead, after_ports, within_ports, ports_lead}
use Rattle.fir_formed.proofs.Laid.{InfoAt, Holds, PortsLaid, Laid}
use Rattle.fir_formed.proofs.Porting.{ports_open, ports_plain, instance_sound}
use Rattle.fir_check.specs.Rules.{reset_uses}
use Rattle.fir_check.specs.Types.{has_flip}

-- what a text can write, as far as typing needs it

abbrev pub spelt_reset : Option ResetPair → Bool
spelt_reset None = true
spelt_reset (Some r) = spelt r.signal && spelt r.init

abbrev pub spelt_stmt_level : Stmt-F Bool → Bool
spelt_stmt_level (Node _ _ value) = spelt value
spelt_stmt_level (Reg _ _ _ _ reset) = spelt_reset reset
spelt_stmt_level (Connect _ sink value) = spelt sink && spelt value
spelt_stmt_level (Invalid _ sink) = spelt sink
spelt_stmt_level (When _ cond taken other) = spelt cond && (all_true taken && all_true other)
spelt_stmt_level _ = true

abbrev pub spelt_stmt : Stmt → Bool
spelt_stmt = fold-Stmt Bool spelt_stmt_level

abbrev pub spelt_all : List Stmt → Bool
spelt_all ss = all_true (map spelt_stmt ss)

-- lists without items

not_kept : (b : Bool) (line : ℕ) → kept b line [] ≡ [] → b ≡ false
not_kept true line e = cc
not_kept false line e = refl

-- ground parts that are declared

-- of a wire, a node or a register
placed_at : (S : List SignalInfo) (t : Shape) (kind : Role) (first i : ℕ) → Holds S t kind first → first ≤ i → i < first + size t → (info S i).role ≡ kind
placed_at S t kind first i h l m =
    let e : first + (i - first) ≡ i = omega arith in
    subst (λ j. (info S j).role ≡ kind) e (h (i - first) (omega arith)).role

free_sound : (S : List SignalInfo) (scope : List ℕ) (name : List ℕ) (t : Shape) (kind : Role) (first : ℕ) → is_input kind ≡ false → is_node kind ≡ false → Holds S t kind first
    → ((k : ℕ) → k < size t → holds_number scope (first + k) ≡ true) → Sound S scope (bound name t Free first)
free_sound S scope name t kind first i n h d k l = record {
  below = (h k l).below;
  signed = (h k l).signed;
  settable = λ m. record { kept = ap is_input (h k l).role ∙ i; plain = ap is_node (h k l).role ∙ n; there = d k l };
}

fixed_sound : (S : List SignalInfo) (scope : List ℕ) (name : List ℕ) (t : Shape) (kind : Role) (first : ℕ) → Holds S t kind first → Sound S scope (bound name t Fixed first)
fixed_sound S scope name t kind first h k l = record {
  below = (h k l).below;
  signed = (h k l).signed;
  settable = λ m. absurd (never (leaf_against t k) m);
} where
  never : (a : Bool) → may_be_driven (facing a Fixed) ≡ true → ⊥
  never true e = cc
  never false e = cc

-- one statement, or several, in front of any rest

pub record Goes (S : List SignalInfo) (modules : List Module) (known after : List Known) (bounds : List Bound) (scope : List ℕ) (next : ℕ) (f : Body → Body) : Type 0 where
  pub extra : List Known
  pub longer : after ≡ known ++ extra
  pub more_bounds : List Bound
  pub more_scope : List ℕ
  pub more_next : ℕ
  pub new : List Ground
  pub writes : (rest : Body) → grounds modules bounds next (f rest) ≡ new ++ grounds modules more_bounds more_next rest
  pub lies : (rest : Body) → Laid S modules bounds next (f rest) → Laid S modules more_bounds more_next rest
  pub leads : Leads S scope more_scope new
  pub agree : Agree S more_scope after more_bounds

-- what is known behind a statement is the same under each rule

module _ (modules : List Module) where
  abbrev found : StmtRule → Stmt → Walk
  found rule = stmt_found modules rule

  abbrev SameKnown : StmtRule → Stmt → Type 0
  SameKnown rule s = (known : List Known) → (found rule s known).known ≡ (found double_at s known).known

  turn_same : (rule : StmtRule) (A : Type 0) (to : A → Stmt) (xs : List A) → ((x : A) → SameKnown rule (to x)) → (known : List Known)
      → (in_turn (map (found rule) (map to xs)) known).known ≡ (in_turn (map (found double_at) (map to xs)) known).known
  turn_same rule A to [] h known = refl
  turn_same rule A to (x ∷ xs) h known =
      ap (λ k. (in_turn (map (found rule) (map to xs)) k).known) (h x known) ∙ turn_same rule A to xs h (found double_at (to x) known).known

  level_same : (rule : StmtRule) (A : Type 0) (to : A → Stmt) → ((x : A) → SameKnown rule (to x)) → (y : Stmt-F A) (known : List Known)
      → (stmt_level modules rule (map-Stmt Stmt Walk (found rule) (map-Stmt A Stmt to y)) known).known
      ≡ (stmt_level modules double_at (map-Stmt Stmt Walk (found double_at) (map-Stmt A Stmt to y)) known).known
  level_same rule A to h (Wire l n t) known = refl
  level_same rule A to h (Node l n v) known = refl
  level_same rule A to h (Reg l n t c r) known = refl
  level_same rule A to h (Inst l n t) known = refl
  level_same rule A to h (Connect l s v) known = refl
  level_same rule A to h (Invalid l s) known = refl
  level_same rule A to h (Skip l) known = refl
  level_same rule A to h (Verif l k a c t n) known = refl
  level_same rule A to h (When l c a b) known =
      let e : (in_block (map (found rule) (map to a)) known).known ≡ (in_block (map (found double_at) (map to a)) known).known = ap (hide (length known)) (turn_same rule A to a h known) in
      ap (λ k. (in_block (map (found rule) (map to b)) k).known) e
      ∙ ap (hide (length (in_block (map (found double_at) (map to a)) known).known)) (turn_same rule A to b h (in_block (map (found double_at) (map to a)) known).known)

  pub same_known : (rule : StmtRule) (s : Stmt) → SameKnown rule s
  same_known rule s = ind-Stmt (SameKnown rule) (λ x y e known.
      ap (λ f. (f known).known) (fold-roll-Stmt Walk (stmt_level modules rule) x)
      ∙ subst (λ z. (stmt_level modules rule (map-Stmt Stmt Walk (found rule) z) known).known ≡ (stmt_level modules double_at (map-Stmt Stmt Walk (found double_at) z) known).known) e
      (level_same rule _ (λ z. z.0) (λ z. z.1) y known)
      ∙ sym (ap (λ f. (f known).known) (fold-roll-Stmt Walk (stmt_level modules double_at) x))) s

-- a statement that breaks no rule
pub record Clear (modules : List Module) (walk : StmtRule → Walk) (known : List Known) : Type 0 where
  pub double : (walk double_at known).lines ≡ []
  pub unknown : (walk (unknown_at modules) known).lines ≡ []
  pub wrong : (walk (wrong_at modules) known).lines ≡ []
  pub flow : (walk flow_at known).lines ≡ []

record Both (modules : List Module) (u v : StmtRule → Walk) (known after : List Known) : Type 0 where
  first : Clear modules u known
  second : Clear modules v after

module _ (laws : ShapeLaws) (modules : List Module) (S : List SignalInfo)
    (ports : (m : Module) (name : List ℕ) → module_named name modules ≡ Some m → (shape_of (ports_type m) ≡ ports_shape m.ports) × (repeats_field (ports_type m) ≡ false)) where
  abbrev Step : (known after : List Known) (bounds : List Bound) (scope : List ℕ) (next : ℕ) (f : Body → Body) → Type 0
  Step known after bounds scope next f = Goes S modules known after bounds scope next f

  -- a name that is new
  added_extra : (k : Known) (known : List Known) → is_declared k.name known ≡ false → added k known ≡ known ++ k ∷ []
  added_extra k known e = ap (λ b. cond b known (known ++ k ∷ [])) e

  -- an expression of a statement
  clean : (known : List Known) (e : Expr) → somewhere unknown_level known e ≡ false → somewhere wrong_level known e ≡ false → spelt e ≡ true → Clean known e
  clean known e u w s = record { unknown = u; wrong = w; spelt = s }

  wire_goes : (known : List Known) (bounds : List Bound) (scope : List ℕ) (next line : ℕ) (name : List ℕ) (t : Ty) → Agree S scope known bounds
      → is_declared name known ≡ false → repeats_field t ≡ false → Holds S (shape_of t) role.Inner next
      → Step known (added (free_known name t) known) bounds scope next (wire line name (shape_of t))
  wire_goes known bounds scope next line name t agree new plain holds =
      let after : List ℕ = upto (λ k. k) next (size (shape_of t)) scope in
      record {
        extra = free_known name t ∷ [];
        longer = added_extra (free_known name t) known new;
        more_bounds = bounds ++ bound name (shape_of t) Free next ∷ [];
        more_scope = after;
        more_next = next + size (shape_of t);
        new = declare_all line next (size (shape_of t));
        writes = λ rest. refl;
        lies = λ rest h. h.1;
        leads = items_lead S (λ k. k) (λ k. declare k line None) next (size (shape_of t)) scope (λ i s l m.
            leads_declare S s i line None (ap is_node (placed_at S (shape_of t) role.Inner next i holds l m)) tt);
        agree = agree_added S after known bounds name (thing t free_way) (bound name (shape_of t) Free next) (agree_more S scope after known bounds (within_upto (λ k. k) next (size (shape_of t)) scope) agree) new
            (record { ty = refl; flow = free_like; plain = plain; sound = free_sound S after name (shape_of t) role.Inner next refl refl holds (λ k l. holds_upto (λ j. j) next (size (shape_of t)) scope (next + k) (omega arith) (omega arith)) }) refl;
      }

  node_goes : (known : List Known) (bounds : List Bound) (scope : List ℕ) (next line : ℕ) (name : List ℕ) (e : Expr) → Agree S scope known bounds
      → is_declared name known ≡ false → Meant S scope known bounds e → Holds S (value bounds e).ty role.Node next
      → Step known (added (fresh name (option_map (λ v. thing v.ty fixed_way) (meaning_of known e))) known) bounds scope next (node line name e)
  node_goes known bounds scope next line name e agree new m holds =
      let v : Value = value bounds e in
      let after : List ℕ = upto (λ k. next + k) 0 (size v.ty) scope in
      let is : added (fresh name (option_map (λ v. thing v.ty fixed_way) (meaning_of known e))) known ≡ added (fresh name (Some (thing m.thing.ty fixed_way))) known
      = ap (λ (o : Option Thing). added (fresh name (option_map (λ v. thing v.ty fixed_way) o)) known) m.is in
      subst (λ k. Step known k bounds scope next (node line name e)) (sym is) (record {
        extra = fresh name (Some (thing m.thing.ty fixed_way)) ∷ [];
        longer = added_extra (fresh name (Some (thing m.thing.ty fixed_way))) known new;
        more_bounds = bounds ++ bound name v.ty Fixed next ∷ [];
        more_scope = after;
        more_next = next + size v.ty;
        new = flat_map (node_part line next v) (range_with_len 0 (size v.ty));
        writes = λ rest. refl;
        lies = λ rest h. h.1;
        leads = lists_lead S (λ k. next + k) (node_part line next v) 0 (size v.ty) scope (λ i s l k.
            let h : InfoAt S (next + i) role.Node (leaf_signed v.ty i) = holds i (omega arith) in
            leads_node S s (next + i) line (v.part i) h.below (ap is_input h.role) (subst (λ b. Fit S b (v.part i)) (sym h.signed) (m.stands.good.fit i (omega arith))));
        agree = agree_added S after known bounds name (thing m.thing.ty fixed_way) (bound name v.ty Fixed next) (agree_more S scope after known bounds (within_upto (λ k. next + k) 0 (size v.ty) scope) agree) new
            (record { ty = m.stands.ty; flow = fixed_like; plain = m.stands.plain; sound = fixed_sound S after name v.ty role.Node next holds }) refl;
      })

  -- a register's reset, ground part by ground part
  reset_fits : (known : List Known) (bounds : List Bound) (scope : List ℕ) (t : Ty) (reset : Option ResetPair) → Agree S scope known bounds → repeats_field t ≡ false
      → list_any (λ u. somewhere unknown_level u.known u.expr) (reset_uses known reset) ≡ false
      → list_any (λ u. somewhere wrong_level u.known u.expr) (reset_uses known reset) ≡ false
      → wrong_reset known t reset ≡ false → spelt_reset reset ≡ true
      → (k : ℕ) → k < size (shape_of t)
      → FitReset S (leaf_signed (shape_of t) k) (option_map (λ (r : ResetPair). ground_reset (shape_of t) (value bounds r.signal) (value bounds r.init) k) reset)
  reset_fits known bounds scope t None agree plain u w x s k l = tt
  reset_fits known bounds scope t (Some r) agree plain u w x s k l =
      let a : Meant S scope known bounds r.signal = meant laws S scope known bounds agree r.signal (clean known r.signal (or_left (somewhere unknown_level known r.signal) _ u) (or_left (somewhere wrong_level known r.signal) _ w) (and_left (spelt r.signal) (spelt r.init) s)) in
      let b : Meant S scope known bounds r.init = meant laws S scope known bounds agree r.init (clean known r.init (or_left (somewhere unknown_level known r.init) false (or_right (somewhere unknown_level known r.signal) _ u)) (or_left (somewhere wrong_level known r.init) false (or_right (somewhere wrong_level known r.signal) _ w)) (and_right (spelt r.signal) (spelt r.init) s)) in
      let c : not (is_condition a.thing) ≡ false = sym (ap (fails is_condition) a.is) ∙ or_left (fails is_condition (meaning_of known r.signal)) _ x in
      let d : not (is_value b.thing && same_shape b.thing.ty t) ≡ false = sym (ap (fails (λ i. is_value i && same_shape i.ty t)) b.is) ∙ or_right (fails is_condition (meaning_of known r.signal)) _ x in
      let e : same_shape b.thing.ty t ≡ true = and_right (is_value b.thing) (same_shape b.thing.ty t) (not_false (is_value b.thing && same_shape b.thing.ty t) d) in
      let p : Pair (shape_of t) (shape_of b.thing.ty) k = laws.pairs t b.thing.ty plain b.stands.plain (laws.turned b.thing.ty t b.stands.plain plain e) k l in
      let q : Pair (shape_of t) (value bounds r.init).ty k = subst (λ (y : Shape). Pair (shape_of t) y k) (sym b.stands.ty) p in
      record {
        signal = condition_fit laws S scope a.thing (value bounds r.signal) a.stands (not_false (is_condition a.thing) c);
        init = subst (λ y. Fit S y ((value bounds r.init).part (slice_index (partners (shape_of t) (value bounds r.init).ty) k))) q.signed (b.stands.good.fit (slice_index (partners (shape_of t) (value bounds r.init).ty) k) q.low);
      }

  reg_goes : (known : List Known) (bounds : List Bound) (scope : List ℕ) (next line : ℕ) (name : List ℕ) (t : Ty) (reset : Option ResetPair) → Agree S scope known bounds
      → is_declared name known ≡ false → repeats_field t ≡ false → Holds S (shape_of t) role.Reg next
      → list_any (λ u. somewhere unknown_level u.known u.expr) (reset_uses (added (free_known name t) known) reset) ≡ false
      → list_any (λ u. somewhere wrong_level u.known u.expr) (reset_uses (added (free_known name t) known) reset) ≡ false
      → wrong_reset (added (free_known name t) known) t reset ≡ false → spelt_reset reset ≡ true
      → Step known (added (free_known name t) known) bounds scope next (reg line name (shape_of t) reset)
  reg_goes known bounds scope next line name t reset agree new plain holds u w x s =
      let after : List ℕ = upto (λ k. next + k) 0 (size (shape_of t)) scope in
      let more : List Bound = bounds ++ bound name (shape_of t) Free next ∷ [] in
      let a : Agree S after (added (free_known name t) known) more = agree_added S after known bounds name (thing t free_way) (bound name (shape_of t) Free next) (agree_more S scope after known bounds (within_upto (λ k. next + k) 0 (size (shape_of t)) scope) agree) new
      (record { ty = refl; flow = free_like; plain = plain; sound = free_sound S after name (shape_of t) role.Reg next refl refl holds (λ k l. holds_upto (λ j. next + j) 0 (size (shape_of t)) scope k (omega arith) (omega arith)) }) refl in
      record {
        extra = free_known name t ∷ [];
        longer = added_extra (free_known name t) known new;
        more_bounds = more;
        more_scope = after;
        more_next = next + size (shape_of t);
        new = map (reg_part line next more (shape_of t) reset) (range_with_len 0 (size (shape_of t)));
        writes = λ rest. refl;
        lies = λ rest h. h.1;
        leads = items_lead S (λ k. next + k) (reg_part line next more (shape_of t) reset) 0 (size (shape_of t)) scope (λ i s2 l k.
            let h : InfoAt S (next + i) role.Reg (leaf_signed (shape_of t) i) = holds i (omega arith) in
            leads_declare S s2 (next + i) line (option_map (λ (r : ResetPair). ground_reset (shape_of t) (value more r.signal) (value more r.init) i) reset) (ap is_node h.role)
            (subst (λ b. FitReset S b (option_map (λ (r : ResetPair). ground_reset (shape_of t) (value more r.signal) (value more r.init) i) reset)) (sym h.signed)
            (reset_fits (added (free_known name t) known) more after t reset a plain u w x s i (omega arith))));
        agree = a;
      }

  inst_goes : (known : List Known) (bounds : List Bound) (scope : List ℕ) (next line : ℕ) (name target : List ℕ) (m : Module) → Agree S scope known bounds
      → is_declared name known ≡ false → module_named target modules ≡ Some m → PortsLaid S false next (module_at modules (place_of modules target)).ports
      → Step known (added (fresh name (option_map instance_thing (module_named target modules))) known) bounds scope next (inst line name target)
  inst_goes known bounds scope next line name target m agree new there laid =
      let here : Module = module_at modules (place_of modules target) in
      let same : here ≡ m = named_place modules target m there in
      let after : List ℕ = after_ports (λ input. input) next (port_leaves here.ports) scope in
      let is : added (fresh name (option_map instance_thing (module_named target modules))) known ≡ added (fresh name (Some (instance_thing m))) known
      = ap (λ (o : Option Module). added (fresh name (option_map instance_thing o)) known) there in
      let shape : ports_shape here.ports ≡ shape_of (ports_type m) = ap (λ (x : Module). ports_shape x.ports) same ∙ sym (ports m target there).0 in
      subst (λ k. Step known k bounds scope next (inst line name target)) (sym is) (record {
        extra = fresh name (Some (instance_thing m)) ∷ [];
        longer = added_extra (fresh name (Some (instance_thing m))) known new;
        more_bounds = bounds ++ instance modules name target next ∷ [];
        more_scope = after;
        more_next = next + signals_in modules (place_of modules target);
        new = declare_ports (λ input. input) next (port_leaves here.ports);
        writes = λ rest. refl;
        lies = λ rest h. h.1;
        leads = ports_lead S (λ input. input) next (port_leaves here.ports) scope (ports_plain S false next here.ports laid);
        agree = agree_added S after known bounds name (instance_thing m) (instance modules name target next) (agree_more S scope after known bounds (within_ports (λ input. input) next (port_leaves here.ports) scope) agree) new
            (record {
              ty = shape;
              flow = source_like;
              plain = (ports m target there).1;
              sound = λ k l. instance_sound S after next here.ports laid (ports_open (λ input. input) next here.ports scope) k (next + k) refl l;
            }) refl;
      })

  nothing_goes : (known : List Known) (bounds : List Bound) (scope : List ℕ) (next : ℕ) → Agree S scope known bounds → Step known known bounds scope next (λ rest. rest)
  nothing_goes known bounds scope next agree = record {
    extra = [];
    longer = sym (append-nil known);
    more_bounds = bounds;
    more_scope = scope;
    more_next = next;
    new = [];
    writes = λ rest. refl;
    lies = λ rest h. h;
    leads = leads_nothing S scope;
    agree = agree;
  }

  -- statements that declare nothing
  plain_goes : (known : List Known) (bounds : List Bound) (scope : List ℕ) (next : ℕ) (f : Body → Body) (new : List Ground) → Agree S scope known bounds
      → ((rest : Body) → grounds modules bounds next (f rest) ≡ new ++ grounds modules bounds next rest) → ((rest : Body) → Laid S modules bounds next (f rest) → Laid S modules bounds next rest)
      → Leads S scope scope new → Step known known bounds scope next f
  plain_goes known bounds scope next f new agree w l leads = record {
    extra = [];
    longer = sym (append-nil known);
    more_bounds = bounds;
    more_scope = scope;
    more_next = next;
    new = new;
    writes = w;
    lies = l;
    leads = leads;
    agree = agree;
  }

  connect_goes : (known : List Known) (bounds : List Bound) (scope : List ℕ) (next line : ℕ) (sink e : Expr) → Agree S scope known bounds → Meant S scope known bounds sink → Meant S scope known bounds e
      → (fails is_sink (meaning_of known sink) || fails gives_back (meaning_of known e)) ≡ false → differ (meaning_of known sink) (meaning_of known e) ≡ false
      → Step known known bounds scope next (connect line sink e)
  connect_goes known bounds scope next line sink e agree a b f d =
      let x : not (is_sink a.thing) ≡ false = sym (ap (fails is_sink) a.is) ∙ or_left (fails is_sink (meaning_of known sink)) _ f in
      let y : not (gives_back b.thing) ≡ false = sym (ap (fails gives_back) b.is) ∙ or_right (fails is_sink (meaning_of known sink)) _ f in
      let z : not (same_shape a.thing.ty b.thing.ty) ≡ false = sym (ap₂ differ a.is b.is) ∙ d in
      plain_goes known bounds scope next (connect line sink e) (connect_parts line (value bounds sink) (value bounds e) 0 (leaves (value bounds sink).ty) (partners (value bounds sink).ty (value bounds e).ty)) agree (λ rest. refl) (λ rest h. h)
      (connect_leads laws S scope line a.thing b.thing (value bounds sink) (value bounds e) a.stands b.stands
      (and_left (may_drive a.thing.flow) (is_value a.thing) (not_false (is_sink a.thing) x)) (not_false (gives_back b.thing) y) (not_false (same_shape a.thing.ty b.thing.ty) z))

  invalid_goes : (known : List Known) (bounds : List Bound) (scope : List ℕ) (next line : ℕ) (sink : Expr) → Agree S scope known bounds → Meant S scope known bounds sink
      → Step known known bounds scope next (invalid line sink)
  invalid_goes known bounds scope next line sink agree a =
      plain_goes known bounds scope next (invalid line sink) (invalid_parts line (value bounds sink) 0 (leaves (value bounds sink).ty)) agree (λ rest. refl) (λ rest h. h)
      (invalid_leads S scope line (value bounds sink) a.stands.good)

  -- one after another
  then_goes : (known middle after : List Known) (bounds : List Bound) (scope : List ℕ) (next : ℕ) (f g : Body → Body) (a : Step known middle bounds scope next f)
      → Step middle after a.more_bounds a.more_scope a.more_next g → Step known after bounds scope next (λ rest. f (g rest))
  then_goes known middle after bounds scope next f g a b = record {
    extra = a.extra ++ b.extra;
    longer = b.longer ∙ ap (λ k. k ++ b.extra) a.longer ∙ append_assoc known a.extra b.extra;
    more_bounds = b.more_bounds;
    more_scope = b.more_scope;
    more_next = b.more_next;
    new = a.new ++ b.new;
    writes = λ rest. a.writes (g rest) ∙ ap (λ xs. a.new ++ xs) (b.writes rest) ∙ sym (append_assoc a.new b.new (grounds modules b.more_bounds b.more_next rest));
    lies = λ rest h. b.lies rest (a.lies (g rest) h);
    leads = leads_append S scope a.more_scope b.more_scope a.new b.new a.leads b.leads;
    agree = b.agree;
  }

  abbrev Goal : Stmt → Type 0
  Goal s = (known : List Known) (bounds : List Bound) (scope : List ℕ) (next : ℕ) (rest : Body) → Clear modules (λ rule. stmt_found modules rule s) known → spelt_stmt s ≡ true
      → Agree S scope known bounds → Laid S modules bounds next (statement s rest) → Step known (stmt_found modules double_at s known).known bounds scope next (statement s)

  -- a walk through the first of several statements, and through the others
  first_clear : (s : Stmt) (ss : List Stmt) (known : List Known) → Clear modules (λ rule. in_turn (map (stmt_found modules rule) (s ∷ ss))) known
      → Both modules (λ rule. stmt_found modules rule s) (λ rule. in_turn (map (stmt_found modules rule) ss)) known (stmt_found modules double_at s known).known
  first_clear s ss known c =
      let parts : (rule : StmtRule) → (in_turn (map (stmt_found modules rule) (s ∷ ss)) known).lines ≡ []
      → Empties (stmt_found modules rule s known).lines (in_turn (map (stmt_found modules rule) ss) (stmt_found modules double_at s known).known).lines
      = λ rule e. subst (λ k. Empties (stmt_found modules rule s known).lines (in_turn (map (stmt_found modules rule) ss) k).lines) (same_known modules rule s known)
      (both_empty (stmt_found modules rule s known).lines (in_turn (map (stmt_found modules rule) ss) (stmt_found modules rule s known).known).lines e) in
      record {
        first = record { double = (parts double_at c.double).left; unknown = (parts (unknown_at modules) c.unknown).left; wrong = (parts (wrong_at modules) c.wrong).left; flow = (parts flow_at c.flow).left };
        second = record { double = (parts double_at c.double).right; unknown = (parts (unknown_at modules) c.unknown).right; wrong = (parts (wrong_at modules) c.wrong).right; flow = (parts flow_at c.flow).right };
      }

  list_goes : (A : Type 0) (to : A → Stmt) (xs : List A) → ((x : A) → Goal (to x)) → (known : List Known) (bounds : List Bound) (scope : List ℕ) (next : ℕ) (rest : Body)
      → Clear modules (λ rule. in_turn (map (stmt_found modules rule) (map to xs))) known → spelt_all (map to xs) ≡ true → Agree S scope known bounds
      → Laid S modules bounds next (block (map statement (map to xs)) rest)
      → Step known (in_turn (map (stmt_found modules double_at) (map to xs)) known).known bounds scope next (block (map statement (map to xs)))
  list_goes A to [] h known bounds scope next rest c s agree laid = nothing_goes known bounds scope next agree
  list_goes A to (x ∷ xs) h known bounds scope next rest c s agree laid =
      let k : List Known = (stmt_found modules double_at (to x) known).known in
      let b : Both modules (λ rule. stmt_found modules rule (to x)) (λ rule. in_turn (map (stmt_found modules rule) (map to xs))) known k = first_clear (to x) (map to xs) known c in
      let a : Step known k bounds scope next (statement (to x)) = h x known bounds scope next (block (map statement (map to xs)) rest) b.first (and_left (spelt_stmt (to x)) (spelt_all (map to xs)) s) agree laid in
      then_goes known k (in_turn (map (stmt_found modules double_at) (map to xs)) k).known bounds scope next (statement (to x)) (block (map statement (map to xs))) a
      (list_goes A to xs h k a.more_bounds a.more_scope a.more_next rest b.second (and_right (spelt_stmt (to x)) (spelt_all (map to xs)) s) a.agree (a.lies (block (map statement (map to xs)) rest) laid))

  -- a statement with blocks

  hide_behind : (known extra : List Known) → hide (length known) (known ++ extra) ≡ known ++ hide zero extra
  hide_behind [] extra = refl
  hide_behind (k ∷ known) extra = ap (λ ks. k ∷ ks) (hide_behind known extra)

  lines_false : (b : Bool) (line : ℕ) (ls : List ℕ) → kept b line [] ++ ls ≡ [] → b ≡ false
  lines_false b line ls e = not_kept b line (both_empty (kept b line []) ls e).left

  inner_lines : (b : Bool) (line : ℕ) (ls : List ℕ) → kept b line [] ++ ls ≡ [] → ls ≡ []
  inner_lines b line ls e = (both_empty (kept b line []) ls e).right

  -- both blocks are clear
  blocks_clear : (xs ys : List Stmt) (b : StmtRule → Bool) (line : ℕ) (known : List Known)
      → Clear modules (λ rule k. record { known = []; lines = kept (b rule) line [] ++ ((in_turn (map (stmt_found modules rule) xs) k).lines ++ (in_turn (map (stmt_found modules rule) ys) (in_block (map (stmt_found modules rule) xs) k).known).lines) }) known
      → Both modules (λ rule. in_turn (map (stmt_found modules rule) xs)) (λ rule. in_turn (map (stmt_found modules rule) ys)) known (in_block (map (stmt_found modules double_at) xs) known).known
  blocks_clear xs ys b line known c =
      let plain : (rule : StmtRule) (zs : List Stmt) (k : List Known) → (in_turn (map (stmt_found modules rule) zs) k).known ≡ (in_turn (map (stmt_found modules double_at) zs) k).known
      = λ rule zs k. turn_plain rule zs k in
      let parts : (rule : StmtRule) → kept (b rule) line [] ++ ((in_turn (map (stmt_found modules rule) xs) known).lines ++ (in_turn (map (stmt_found modules rule) ys) (in_block (map (stmt_found modules rule) xs) known).known).lines) ≡ []
      → Empties (in_turn (map (stmt_found modules rule) xs) known).lines (in_turn (map (stmt_found modules rule) ys) (in_block (map (stmt_found modules double_at) xs) known).known).lines
      = λ rule e. subst (λ k. Empties (in_turn (map (stmt_found modules rule) xs) known).lines (in_turn (map (stmt_found modules rule) ys) k).lines) (ap (hide (length known)) (plain rule xs known))
      (both_empty (in_turn (map (stmt_found modules rule) xs) known).lines (in_turn (map (stmt_found modules rule) ys) (in_block (map (stmt_found modules rule) xs) known).known).lines (inner_lines (b rule) line _ e)) in
      record {
        first = record { double = (parts double_at c.double).left; unknown = (parts (unknown_at modules) c.unknown).left; wrong = (parts (wrong_at modules) c.wrong).left; flow = (parts flow_at c.flow).left };
        second = record { double = (parts double_at c.double).right; unknown = (parts (unknown_at modules) c.unknown).right; wrong = (parts (wrong_at modules) c.wrong).right; flow = (parts flow_at c.flow).right };
      }
    where
      turn_plain : (rule : StmtRule) (zs : List Stmt) (k : List Known) → (in_turn (map (stmt_found modules rule) zs) k).known ≡ (in_turn (map (stmt_found modules double_at) zs) k).known
      turn_plain rule [] k = refl
      turn_plain rule (z ∷ zs) k = ap (λ j. (in_turn (map (stmt_found modules rule) zs) j).known) (same_known modules rule z k) ∙ turn_plain rule zs (stmt_found modules double_at z k).known

  -- a whole block
  whole_block : (known after : List Known) (bounds : List Bound) (scope : List ℕ) (next : ℕ) (f : Body → Body) (a : Step known after bounds scope next f)
      → Leads S scope a.more_scope (grounds modules bounds next (f done))
  whole_block known after bounds scope next f a = subst (Leads S scope a.more_scope) (sym (a.writes done ∙ append-nil a.new)) a.leads

  when_goes : (known ka kb : List Known) (bounds : List Bound) (scope : List ℕ) (next line : ℕ) (cond : Expr) (f g : Body → Body) → Agree S scope known bounds
      → Fit S false ((value bounds cond).part 0) → Step known ka bounds scope next f
      → Step (hide (length known) ka) kb bounds scope (next + taken_up (signals_in modules) modules bounds (f done)) g
      → Step known (hide (length (hide (length known) ka)) kb) bounds scope next (when line cond (f done) (g done))
  when_goes known ka kb bounds scope next line cond f g agree fit a b =
      let first : hide (length known) ka ≡ known ++ hide zero a.extra = ap (hide (length known)) a.longer ∙ hide_behind known a.extra in
      let second : hide (length (hide (length known) ka)) kb ≡ hide (length known) ka ++ hide zero b.extra = ap (hide (length (hide (length known) ka))) b.longer ∙ hide_behind (hide (length known) ka) b.extra in
      record {
        extra = hide zero a.extra ++ hide zero b.extra;
        longer = second ∙ ap (λ k. k ++ hide zero b.extra) first ∙ append_assoc known (hide zero a.extra) (hide zero b.extra);
        more_bounds = bounds;
        more_scope = scope;
        more_next = next + taken_up (signals_in modules) modules bounds (f done) + taken_up (signals_in modules) modules bounds (g done);
        new = out.When line ((value bounds cond).part 0) (grounds modules bounds next (f done)) (grounds modules bounds (next + taken_up (signals_in modules) modules bounds (f done)) (g done)) ∷ [];
        writes = λ rest. refl;
        lies = λ rest h. h.1.1;
        leads = leads_when S scope a.more_scope b.more_scope line ((value bounds cond).part 0) (grounds modules bounds next (f done)) (grounds modules bounds (next + taken_up (signals_in modules) modules bounds (f done)) (g done)) fit
            (whole_block known ka bounds scope next f a) (whole_block (hide (length known) ka) kb bounds scope (next + taken_up (signals_in modules) modules bounds (f done)) g b);
        agree = hidden_twice;
      }
    where
      one : Agree S scope (hide (length known) ka) bounds
      one = subst (λ k. Agree S scope (hide (length known) k) bounds) (sym a.longer) (agree_hidden S scope known a.extra bounds agree)

      hidden_twice : Agree S scope (hide (length (hide (length known) ka)) kb) bounds
      hidden_twice = subst (λ k. Agree S scope (hide (length (hide (length known) ka)) k) bounds) (sym b.longer) (agree_hidden S scope (hide (length known) ka) b.extra bounds one)

  -- what is expected of an expression of a statement
  meant_at : (known : List Known) (bounds : List Bound) (scope : List ℕ) → Agree S scope known bounds → (e : Expr) → somewhere unknown_level known e ≡ false → somewhere wrong_level known e ≡ false → spelt e ≡ true
      → Meant S scope known bounds e
  meant_at known bounds scope agree e u w s = meant laws S scope known bounds agree e (clean known e u w s)

  some_module : (o : Option Module) → is_none o ≡ false → (m : Module) × (o ≡ Some m)
  some_module None e = cc
  some_module (Some m) e = (m, refl)

  level_goes : (A : Type 0) (to : A → Stmt) → ((x : A) → Goal (to x)) → (y : Stmt-F A) (known : List Known) (bounds : List Bound) (scope : List ℕ) (next : ℕ) (rest : Body)
      → Clear modules (λ rule. stmt_level modules rule (map-Stmt Stmt Walk (stmt_found modules rule) (map-Stmt A Stmt to y))) known
      → spelt_stmt_level (map-Stmt Stmt Bool spelt_stmt (map-Stmt A Stmt to y)) ≡ true → Agree S scope known bounds
      → Laid S modules bounds next (level_body (map-Stmt Stmt (Body → Body) statement (map-Stmt A Stmt to y)) rest)
      → Step known (stmt_level modules double_at (map-Stmt Stmt Walk (stmt_found modules double_at) (map-Stmt A Stmt to y)) known).known bounds scope next
      (level_body (map-Stmt Stmt (Body → Body) statement (map-Stmt A Stmt to y)))
  level_goes A to h (Wire l n t) known bounds scope next rest c s agree laid =
      let d : (is_declared n known || repeats_field t) ≡ false = lines_false _ l [] c.double in
      wire_goes known bounds scope next l n t agree (or_left (is_declared n known) (repeats_field t) d) (or_right (is_declared n known) (repeats_field t) d) laid.0
  level_goes A to h (Node l n e) known bounds scope next rest c s agree laid =
      let d : (is_declared n known || false) ≡ false = lines_false _ l [] c.double in
      let u : ((somewhere unknown_level known e || false) || false) ≡ false = lines_false _ l [] c.unknown in
      let w = lines_false (wrong_at modules known (Node l n e)) l [] c.wrong in
      let m : Meant S scope known bounds e = meant_at known bounds scope agree e (or_left _ false (or_left _ false u)) (or_left (somewhere wrong_level known e) false (or_left (somewhere wrong_level known e || false) _ w)) s in
      node_goes known bounds scope next l n e agree (or_left (is_declared n known) false d) m laid.0
  level_goes A to h (Reg l n t k r) known bounds scope next rest c s agree laid =
      let d : (is_declared n known || repeats_field t) ≡ false = lines_false _ l [] c.double in
      let more : List Known = added (free_known n t) known in
      let u = lines_false (unknown_at modules known (Reg l n t k r)) l [] c.unknown in
      let w = lines_false (wrong_at modules known (Reg l n t k r)) l [] c.wrong in
      let uses_u = or_right (somewhere unknown_level known k) _ (or_left (in_some_use modules unknown_level known (Reg l n t k r)) _ u) in
      let uses_w = or_right (somewhere wrong_level known k) _ (or_left (in_some_use modules wrong_level known (Reg l n t k r)) _ w) in
      let x = or_right (has_flip t) _ (or_right (in_some_use modules wrong_level known (Reg l n t k r)) _ w) in
      reg_goes known bounds scope next l n t r agree (or_left (is_declared n known) (repeats_field t) d) (or_right (is_declared n known) (repeats_field t) d) laid.0 uses_u uses_w x s
  level_goes A to h (Inst l n t) known bounds scope next rest c s agree laid =
      let d : (is_declared n known || false) ≡ false = lines_false _ l [] c.double in
      let u : (false || is_none (module_named t modules)) ≡ false = lines_false _ l [] c.unknown in
      let m : (m : Module) × (module_named t modules ≡ Some m) = some_module (module_named t modules) u in
      inst_goes known bounds scope next l n t m.0 agree (or_left (is_declared n known) false d) m.1 laid.0
  level_goes A to h (Connect l sink e) known bounds scope next rest c s agree laid =
      let u = lines_false (unknown_at modules known (Connect l sink e)) l [] c.unknown in
      let w = lines_false (wrong_at modules known (Connect l sink e)) l [] c.wrong in
      let f = lines_false (flow_at known (Connect l sink e)) l [] c.flow in
      let uses_u = or_left (in_some_use modules unknown_level known (Connect l sink e)) false u in
      let uses_w = or_left (in_some_use modules wrong_level known (Connect l sink e)) _ w in
      let a : Meant S scope known bounds sink = meant_at known bounds scope agree sink (or_left (somewhere unknown_level known sink) _ uses_u) (or_left (somewhere wrong_level known sink) _ uses_w) (and_left (spelt sink) (spelt e) s) in
      let b : Meant S scope known bounds e = meant_at known bounds scope agree e (or_left (somewhere unknown_level known e) false (or_right (somewhere unknown_level known sink) _ uses_u))
      (or_left (somewhere wrong_level known e) false (or_right (somewhere wrong_level known sink) _ uses_w)) (and_right (spelt sink) (spelt e) s) in
      connect_goes known bounds scope next l sink e agree a b f (or_right (fails is_value (meaning_of known e)) _ (or_right (in_some_use modules wrong_level known (Connect l sink e)) _ w))
  level_goes A to h (Invalid l sink) known bounds scope next rest c s agree laid =
      let u = lines_false (unknown_at modules known (Invalid l sink)) l [] c.unknown in
      let w = lines_false (wrong_at modules known (Invalid l sink)) l [] c.wrong in
      let uses_u = or_left (in_some_use modules unknown_level known (Invalid l sink)) false u in
      let uses_w = or_left (in_some_use modules wrong_level known (Invalid l sink)) _ w in
      invalid_goes known bounds scope next l sink agree (meant_at known bounds scope agree sink (or_left (somewhere unknown_level known sink) false uses_u) (or_left (somewhere wrong_level known sink) false uses_w) s)
  level_goes A to h (Skip l) known bounds scope next rest c s agree laid = nothing_goes known bounds scope next agree
  level_goes A to h (Verif l k a code t n) known bounds scope next rest c s agree laid = nothing_goes known bounds scope next agree
  level_goes A to h (When l e xs ys) known bounds scope next rest c s agree laid =
      let level : Stmt-F Stmt = When l e (map to xs) (map to ys) in
      let u = lines_false (unknown_at modules known (map-Stmt Stmt Walk (stmt_found modules (unknown_at modules)) level)) l _ c.unknown in
      let w = lines_false (wrong_at modules known (map-Stmt Stmt Walk (stmt_found modules (wrong_at modules)) level)) l _ c.wrong in
      let uses_u = or_left (in_some_use modules unknown_level known (map-Stmt Stmt Walk (stmt_found modules (unknown_at modules)) level)) false u in
      let uses_w = or_left (in_some_use modules wrong_level known (map-Stmt Stmt Walk (stmt_found modules (wrong_at modules)) level)) _ w in
      let m : Meant S scope known bounds e = meant_at known bounds scope agree e (or_left (somewhere unknown_level known e) false uses_u) (or_left (somewhere wrong_level known e) false uses_w) (and_left (spelt e) _ s) in
      let cond : not (is_condition m.thing) ≡ false = sym (ap (fails is_condition) m.is) ∙ or_right (in_some_use modules wrong_level known (map-Stmt Stmt Walk (stmt_found modules (wrong_at modules)) level)) _ w in
      let fit : Fit S false ((value bounds e).part 0) = condition_fit laws S scope m.thing (value bounds e) m.stands (not_false (is_condition m.thing) cond) in
      let b : Both modules (λ rule. in_turn (map (stmt_found modules rule) (map to xs))) (λ rule. in_turn (map (stmt_found modules rule) (map to ys))) known (in_block (map (stmt_found modules double_at) (map to xs)) known).known
      = blocks_clear (map to xs) (map to ys) (λ rule. rule known (map-Stmt Stmt Walk (stmt_found modules rule) level)) l known
      (record { double = c.double; unknown = c.unknown; wrong = c.wrong; flow = c.flow }) in
      let spelt_both = and_right (spelt e) _ s in
      let ka : List Known = (in_turn (map (stmt_found modules double_at) (map to xs)) known).known in
      let f : Step known ka bounds scope next (block (map statement (map to xs))) = list_goes A to xs h known bounds scope next done b.first (and_left (spelt_all (map to xs)) _ spelt_both) agree laid.0 in
      let one : Agree S scope (hide (length known) ka) bounds = subst (λ k. Agree S scope (hide (length known) k) bounds) (sym f.longer) (agree_hidden S scope known f.extra bounds agree) in
      when_goes known ka (in_turn (map (stmt_found modules double_at) (map to ys)) (hide (length known) ka)).known bounds scope next l e (block (map statement (map to xs))) (block (map statement (map to ys))) agree fit f
      (list_goes A to ys h (hide (length known) ka) bounds scope (next + taken_up (signals_in modules) modules bounds (block (map statement (map to xs)) done)) done b.second (and_right (spelt_all (map to xs)) _ spelt_both) one laid.1.0)

  goal_is : (z : Stmt-F Stmt) → ((known : List Known) (bounds : List Bound) (scope : List ℕ) (next : ℕ) (rest : Body)
      → Clear modules (λ rule. stmt_level modules rule (map-Stmt Stmt Walk (stmt_found modules rule) z)) known → spelt_stmt_level (map-Stmt Stmt Bool spelt_stmt z) ≡ true → Agree S scope known bounds
      → Laid S modules bounds next (level_body (map-Stmt Stmt (Body → Body) statement z) rest)
      → Step known (stmt_level modules double_at (map-Stmt Stmt Walk (stmt_found modules double_at) z) known).known bounds scope next (level_body (map-Stmt Stmt (Body → Body) statement z)))
      → Goal (roll-Stmt z)
  goal_is z h known bounds scope next rest c s agree laid =
      let e : (rule : StmtRule) → stmt_found modules rule (roll-Stmt z) ≡ stmt_level modules rule (map-Stmt Stmt Walk (stmt_found modules rule) z) = λ rule. fold-roll-Stmt Walk (stmt_level modules rule) z in
      let f : statement (roll-Stmt z) ≡ level_body (map-Stmt Stmt (Body → Body) statement z) = fold-roll-Stmt (Body → Body) level_body z in
      let k : (stmt_found modules double_at (roll-Stmt z) known).known ≡ (stmt_level modules double_at (map-Stmt Stmt Walk (stmt_found modules double_at) z) known).known = ap (λ (w : Walk). (w known).known) (e double_at) in
      let g = h known bounds scope next rest
      (record {
        double = sym (ap (λ (w : Walk). (w known).lines) (e double_at)) ∙ c.double;
        unknown = sym (ap (λ (w : Walk). (w known).lines) (e (unknown_at modules))) ∙ c.unknown;
        wrong = sym (ap (λ (w : Walk). (w known).lines) (e (wrong_at modules))) ∙ c.wrong;
        flow = sym (ap (λ (w : Walk). (w known).lines) (e flow_at)) ∙ c.flow;
      })
      (sym (fold-roll-Stmt Bool spelt_stmt_level z) ∙ s) agree (subst (λ (q : Body → Body). Laid S modules bounds next (q rest)) f laid) in
      subst (λ (q : Body → Body). Step known (stmt_found modules double_at (roll-Stmt z) known).known bounds scope next q) (sym f)
      (subst (λ (after : List Known). Step known after bounds scope next (level_body (map-Stmt Stmt (Body → Body) statement z))) (sym k) g)

  pub stmt_goes : (s : Stmt) → Goal s
  stmt_goes s = ind-Stmt Goal (λ x y e. subst (λ z. Goal (roll-Stmt z)) e (goal_is (map-Stmt _ Stmt (λ z. z.0) y) (level_goes _ (λ z. z.0) (λ z. z.1) y))) s

  pub body_goes : (ss : List Stmt) (known : List Known) (bounds : List Bound) (scope : List ℕ) (next : ℕ) → Clear modules (λ rule. in_turn (map (stmt_found modules rule) ss)) known
      → spelt_all ss ≡ true → Agree S scope known bounds → Laid S modules bounds next (body_of ss)
      → (after : List ℕ) × Leads S scope after (grounds modules bounds next (body_of ss))
  body_goes ss known bounds scope next c s agree laid =
      let same : map (λ (x : Stmt). x) ss ≡ ss = plain_map ss in
      let a : Step known (in_turn (map (stmt_found modules double_at) ss) known).known bounds scope next (block (map statement ss))
      = subst (λ (zs : List Stmt). Step known (in_turn (map (stmt_found modules double_at) zs) known).known bounds scope next (block (map statement zs))) same
      (list_goes Stmt (λ x. x) ss stmt_goes known bounds scope next done
      (subst (λ (zs : List Stmt). Clear modules (λ rule. in_turn (map (stmt_found modules rule) zs)) known) (sym same) c)
      (subst (λ (zs : List Stmt). spelt_all zs ≡ true) (sym same) s) agree (subst (λ (zs : List Stmt). Laid S modules bounds next (body_of zs)) (sym same) laid)) in
      (a.more_scope, whole_block known _ bounds scope next (block (map statement ss)) a)
    where
      plain_map : (zs : List Stmt) → map (λ (x : Stmt). x) zs ≡ zs
      plain_map [] = refl
      plain_map (z ∷ zs) = ap (λ t. z ∷ t) (plain_map zs)
