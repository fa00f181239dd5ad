-- An instance's own statements, in a circuit that breaks no rule.
use Rattle.std.proofs.Common.{◌≡◌, ◌∙◌, sym, ap, ap₂, subst, ℕ, zero, suc, ◌+◌, Bool, true, false, not, ◌||◌, List, [], ◌∷◌, ◌++◌, Some, cond, refl, map, bytes_eq, append_assoc, append-nil, if◌then◌else◌}
use Rattle.std.specs.List.{AllByRecursion as Each}
use Rattle.fir_ast.specs.declared.tree.Port.{Port}
use Rattle.fir_ast.specs.declared.tree.Module.{Module}
use Rattle.net_core.specs.declared.tree.SignalInfo.{SignalInfo}
use Rattle.net_core.specs.declared.tree.Ground.{Ground}
use Rattle.net_core.specs.Body.{Body as Statements, block, statement}
use Rattle.fir_check.specs.Names.{is_among, kept, repeated, seconds, first_ones}
use Rattle.fir_check.specs.Scopes.{Thing, thing, Known, fresh, is_declared, port_known, port_name, module_named, ports_known as names_of_ports, stmt_found, in_turn, turned as turned_way}
use Rattle.fir_check.specs.Rules.{earlier}
use Rattle.fir_check.proofs.Names.{or_left, or_right}
use Rattle.fir_formed.proofs.Flows.{Sink, Source, Like, source_way, source_like, sink_like}
use Rattle.fir_flat.specs.Shapes.{shape_of, size}
use Rattle.fir_flat.specs.Bodies.{body_of}
use Rattle.fir_flat.specs.Values.{Bound, bound}
use Rattle.fir_flat.specs.Modules.{no_module, module_at, ports_known}
use Rattle.fir_flat.specs.Elaboration.{Opened, port_leaves, declare_ports, declared_inside, grounds, behind_ports, own_body}
use Rattle.fir_formed.proofs.Fair.{Fair, Even, fair_more, Leads, leads_append}
use Rattle.fir_formed.proofs.Agree.{Agree, agree_nothing, agree_last}
use Rattle.fir_formed.proofs.Needed.{PlainPorts, ShapeLaws}
use Rattle.fir_formed.proofs.Declaring.{after_ports, ports_lead}
use Rattle.fir_formed.proofs.Laid.{PortsLaid, LaidAt}
use Rattle.fir_formed.proofs.Porting.{PortsOpen, ports_open, ports_plain, port_sound}
use Rattle.fir_formed.proofs.Steps.{spelt_all, Clear, body_goes}

-- what is known of ports

flow_same : (output : Bool) → Like (if output then turned_way source_way else source_way) (if output then Sink else Source)
flow_same true = sink_like
flow_same false = source_like

-- no name of these is one of the earlier ones
record Apart (earlier : List (List ℕ)) (p : Port) (ps : List Port) : Type 0 where
  here : is_among p.name earlier ≡ false
  rest : repeated port_name (p.name ∷ earlier) ps ≡ []

apart : (earlier : List (List ℕ)) (p : Port) (ps : List Port) → repeated port_name earlier (p ∷ ps) ≡ [] → Apart earlier p ps
apart earlier p ps e = step (is_among p.name earlier) refl e
  where
    step : (b : Bool) → is_among p.name earlier ≡ b → kept b p (repeated port_name (p.name ∷ earlier) ps) ≡ [] → Apart earlier p ps
    step true f k = cc
    step false f k = record { here = f; rest = k }

all_first : (earlier : List (List ℕ)) (ps : List Port) → repeated port_name earlier ps ≡ [] → first_ones port_name earlier ps ≡ ps
all_first earlier [] e = refl
all_first earlier (p ∷ ps) e =
    let a : Apart earlier p ps = apart earlier p ps e in
    ap (λ b. kept (not b) p (first_ones port_name (p.name ∷ earlier) ps)) a.here ∙ ap (λ t. p ∷ t) (all_first (p.name ∷ earlier) ps a.rest)

declared_last : (n : List ℕ) (known : List Known) (k : Known) → is_declared n known ≡ false → bytes_eq k.name n ≡ false → is_declared n (known ++ k ∷ []) ≡ false
declared_last n [] k e f = ap (λ b. b || false) f
declared_last n (j ∷ known) k e f = ap₂ (λ a b. a || b) (or_left (bytes_eq j.name n) _ e) (declared_last n known k (or_right (bytes_eq j.name n) _ e) f)

agree_ports : (S : List SignalInfo) (top : Bool) (scope : List ℕ) (next : ℕ) (ps : List Port) (known : List Known) (bounds : List Bound) (earlier : List (List ℕ))
    → Agree S scope known bounds → ((n : List ℕ) → is_among n earlier ≡ false → is_declared n known ≡ false) → repeated port_name earlier ps ≡ [] → PlainPorts ps
    → PortsLaid S top next ps → PortsOpen scope (declared_inside top) next ps → Agree S scope (known ++ map port_known ps) (bounds ++ ports_known next ps)
agree_ports S top scope next [] known bounds earlier agree names twice plain laid shown =
    subst (λ k. Agree S scope k (bounds ++ [])) (sym (append-nil known)) (subst (Agree S scope known) (sym (append-nil bounds)) agree)
agree_ports S top scope next (p ∷ ps) known bounds earlier agree names twice plain laid shown =
    let a : Apart earlier p ps = apart earlier p ps twice in
    let b : Bound = bound p.name (shape_of p.ty) (if p.output then Sink else Source) next in
    let t : Thing = thing p.ty (if p.output then turned_way source_way else source_way) in
    let one : Agree S scope (known ++ fresh p.name (Some t) ∷ []) (bounds ++ b ∷ []) =
    agree_last S scope known bounds p.name t b agree (names p.name a.here)
    (record { ty = refl; flow = flow_same p.output; plain = plain.0; sound = port_sound S top scope next p laid.0 shown.0 }) refl in
    let all : Agree S scope ((known ++ fresh p.name (Some t) ∷ []) ++ map port_known ps) ((bounds ++ b ∷ []) ++ ports_known (next + size (shape_of p.ty)) ps) =
    agree_ports S top scope (next + size (shape_of p.ty)) ps (known ++ fresh p.name (Some t) ∷ []) (bounds ++ b ∷ []) (p.name ∷ earlier) one
    (λ n e. declared_last n known (fresh p.name (Some t)) (names n (or_right (bytes_eq p.name n) _ e)) (or_left (bytes_eq p.name n) _ e)) a.rest plain.1 laid.1 shown.1 in
    subst (λ k. Agree S scope k (bounds ++ (b ∷ ports_known (next + size (shape_of p.ty)) ps))) (append_assoc known (fresh p.name (Some t) ∷ []) (map port_known ps))
    (subst (Agree S scope ((known ++ fresh p.name (Some t) ∷ []) ++ map port_known ps)) (append_assoc bounds (b ∷ []) (ports_known (next + size (shape_of p.ty)) ps)) all)

-- a module that breaks no rule
pub record Tidy (modules : List Module) (m : Module) : Type 0 where
  pub twice : seconds port_name m.ports ≡ []
  pub plain : PlainPorts m.ports
  pub clear : Clear modules (λ rule. in_turn (map (stmt_found modules rule) m.body)) (names_of_ports m)
  pub spelt : spelt_all m.body ≡ true

pub each_found : (P : Module → Type 0) (name : List ℕ) (ms : List Module) (m : Module) → Each P ms → module_named name ms ≡ Some m → P m
each_found P name [] m h e = cc
each_found P name (x ∷ ms) m h e = step (bytes_eq x.name name) (each_found P name ms m h.1) e
  where
    step : (b : Bool) → (module_named name ms ≡ Some m → P m) → cond b (Some x) (module_named name ms) ≡ Some m → P m
    step true r k = let w : x ≡ m = cc in subst P w h.0
    step false r k = r k

pub each_at : (P : Module → Type 0) (ms : List Module) (i : ℕ) → P no_module → Each P ms → P (module_at ms i)
each_at P [] zero n h = n
each_at P [] (suc i) n h = n
each_at P (x ∷ ms) zero n h = h.0
each_at P (x ∷ ms) (suc i) n h = each_at P ms i n h.1

-- what stands past the last module
pub tidy_nothing : (modules : List Module) → Tidy modules no_module
tidy_nothing modules = record { twice = refl; plain = tt; clear = record { double = refl; unknown = refl; wrong = refl; flow = refl }; spelt = refl }

-- statements that may stand in front of any that are fair
pub record Joins (S : List SignalInfo) (gs : List Ground) : Type 0 where
  pub fair : (rest : Statements) → Fair S [] rest → Fair S [] (block (map statement gs) rest)
  pub even : (rest : Statements) → Even S rest → Even S (block (map statement gs) rest)

joins : (S : List SignalInfo) (after : List ℕ) (gs : List Ground) → Leads S [] after gs → Joins S gs
joins S after gs l = record {
  fair = λ rest f. l.fair rest (fair_more S [] after rest (λ y e. cc) f);
  even = l.even;
}

pub own_joins : ShapeLaws → (modules : List Module) (S : List SignalInfo) → Each (Tidy modules) modules → (o : Opened) → LaidAt S modules o → Joins S (own_body modules o (module_at modules o.target))
own_joins laws modules S tidy o laid =
    let m : Module = module_at modules o.target in
    let t : Tidy modules m = each_at (Tidy modules) modules o.target (tidy_nothing modules) tidy in
    let scope : List ℕ = after_ports (declared_inside o.top) o.first (port_leaves m.ports) [] in
    let first : Leads S [] scope (declare_ports (declared_inside o.top) o.first (port_leaves m.ports)) = ports_lead S (declared_inside o.top) o.first (port_leaves m.ports) [] (ports_plain S o.top o.first m.ports laid.ports) in
    let all : Agree S scope (map port_known m.ports) (ports_known o.first m.ports) =
    agree_ports S o.top scope o.first m.ports [] [] [] (agree_nothing S scope) (λ n e. refl) t.twice t.plain laid.ports (ports_open (declared_inside o.top) o.first m.ports []) in
    let agree : Agree S scope (names_of_ports m) (ports_known o.first m.ports) = subst (λ (ps : List Port). Agree S scope (map port_known ps) (ports_known o.first m.ports)) (sym (all_first [] m.ports t.twice)) all in
    let second : (after : List ℕ) × Leads S scope after (grounds modules (ports_known o.first m.ports) (behind_ports o m.ports) (body_of m.body)) =
    body_goes laws modules S (λ n name e. let u : Tidy modules n = each_found (Tidy modules) name modules n tidy e in (laws.ports n, laws.plain_ports n u.twice u.plain))
    m.body (names_of_ports m) (ports_known o.first m.ports) scope (behind_ports o m.ports) t.clear t.spelt agree laid.body in
    joins S second.0 (own_body modules o m)
    (leads_append S [] scope second.0 (declare_ports (declared_inside o.top) o.first (port_leaves m.ports)) (grounds modules (ports_known o.first m.ports) (behind_ports o m.ports) (body_of m.body)) first second.1)
