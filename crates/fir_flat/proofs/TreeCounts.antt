-- The signals and parts of an elaboration are those that are counted without building it.
use Rattle.std.proofs.Common.{◌≡◌, ◌∙◌, ◌+◌, ◌<◌, sym, ap, ap₂, ℕ, zero, suc, Bool, true, false, List, [], ◌∷◌, ◌++◌, refl, map, sum, length, arith, length-append, subst, All, map-id}
use Rattle.std.specs.List.{flat_map}
use Rattle.std.proofs.lemmas.List.{length-map}
use Rattle.fir_ast.specs.declared.tree.Module.{Module}
use Rattle.fir_ast.specs.declared.tree.Circuit.{Circuit}
use Rattle.fir_ast.specs.declared.tree.Port.{Port}
use Rattle.net_core.specs.declared.tree.SignalInfo.{SignalInfo}
use Rattle.net_core.specs.declared.tree.Ground.{Ground}
use Rattle.fir_check.specs.Types.{same}
use Rattle.fir_flat.specs.Shapes.{shape_of, ports_shape, size, leaves}
use Rattle.fir_flat.specs.Bodies.{body_of}
use Rattle.fir_flat.specs.Modules.{over, counted, module_at, place_of, targets, targets_of, ports_known, unplaced, own_signals}
use Rattle.fir_flat.specs.Measures.{own_weight, body_weight}
use Rattle.fir_flat.specs.Elaboration.{Entry, made, opened, Opened, opened_at, port_entries, behind_ports, entries, entries_of, entries_in, all_infos, instances, instances_of, PortLeaf, port_leaves, declare_ports, declared_inside, grounds, own_body, statement_parts, main_place, elab, signals, parts}
use Rattle.fir_flat.specs.Limits.{IsRanked, signal_count, part_count}
use Rattle.fir_flat.proofs.LeafCounts.{leaves_counted}
use Rattle.fir_flat.proofs.Totals.{total, sum_total, total-append, total-add, total-same, length-total, total-total}
use Rattle.fir_flat.proofs.Unnumbered.{ports-alike}
use Rattle.fir_flat.proofs.LeafFacing.{one_if}
use Rattle.fir_flat.proofs.BodyCounts.{is_made, signals_made, ports_made, body_made, ports_open_nothing, body_opened, parts_in, taken_ports, declared_parts, inputs_at, body_parts}

abbrev pub target : Opened → ℕ
target o = o.target

-- the instances in an instance are those of its module
each_opened : {A : Type 0} (f : Opened → A) (g : ℕ → A) → ((name : List ℕ) (target first : ℕ) (prefix : List ℕ) → f (opened_at name target first prefix) ≡ g target)
    → (modules : List Module) (o : Opened) → map f (instances_of modules o) ≡ map g (targets_of modules o.target)
each_opened f g h modules o =
    let m : Module = module_at modules o.target in
    ap (map f) (ports_open_nothing o m.ports (entries modules o.prefix (ports_known o.first m.ports) (behind_ports o m.ports) (body_of m.body)))
    ∙ body_opened _ f g h modules o.prefix (ports_known o.first m.ports) (behind_ports o m.ports) (body_of m.body)

pub targets_are : (modules : List Module) (o : Opened) → map target (instances_of modules o) ≡ targets_of modules o.target
targets_are modules o = each_opened target (λ t. t) (λ name t first prefix. refl) modules o ∙ map-id (targets_of modules o.target)

-- signals

own_made : (modules : List Module) (o : Opened) → signals_made (entries_of modules o) ≡ own_signals modules (module_at modules o.target)
own_made modules o =
    let m : Module = module_at modules o.target in
    let es : List Entry = entries modules o.prefix (ports_known o.first m.ports) (behind_ports o m.ports) (body_of m.body) in
    let a : signals_made (port_entries o m.ports ++ es) ≡ signals_made (port_entries o m.ports) + signals_made es = total-append is_made (port_entries o m.ports) es in
    a ∙ ap₂ (λ x y. x + y) (ports_made o m.ports)
    (body_made modules o.prefix (ports_known o.first m.ports) (map unplaced m.ports) (ports-alike o.first m.ports) (behind_ports o m.ports) (body_of m.body))

-- the lengths of the lists of entries: 1 for a signal
entries_total : (f : Entry → ℕ) → ((info : SignalInfo) → f (made info) ≡ 1) → (es : List Entry)
    → total f es ≡ signals_made es + total (λ o. f (opened o)) (instances es)
entries_total f h [] = refl
entries_total f h (made info ∷ es) =
    let e : f (made info) ≡ 1 = h info in
    let t : total f es ≡ signals_made es + total (λ o. f (opened o)) (instances es) = entries_total f h es in
    omega (arith, e, t)
entries_total f h (opened o ∷ es) =
    let t : total f es ≡ signals_made es + total (λ o. f (opened o)) (instances es) = entries_total f h es in
    omega (arith, t)

abbrev infos : List Module → ℕ → Entry → List SignalInfo
infos modules depth = over (entries_in modules) all_infos [] depth

abbrev inner_signals : List Module → ℕ → ℕ → ℕ
inner_signals modules depth = counted (λ place. own_signals modules (module_at modules place)) (targets_of modules) depth

signals_at : (modules : List Module) (rank : ℕ → ℕ) → ((place : ℕ) → All (λ t. rank t < rank place) (targets_of modules place))
    → (depth : ℕ) (o : Opened) → rank o.target < depth → length (infos modules (suc depth) (opened o)) ≡ inner_signals modules depth o.target
unfolding over
signals_at modules rank falls zero o low = absurd (omega arith)
signals_at modules rank falls (suc depth) o low =
    let es : List Entry = entries_of modules o in
    let a : length (flat_map (λ xs. xs) (map (infos modules (suc depth)) es)) ≡ total (λ e. length (infos modules (suc depth) e)) es
    = length-total (infos modules (suc depth)) es in
    let b : total (λ e. length (infos modules (suc depth) e)) es
    ≡ signals_made es + total (λ p. length (infos modules (suc depth) (opened p))) (instances es)
    = entries_total (λ e. length (infos modules (suc depth) e)) (λ info. refl) es in
    let low_targets : All (λ t. rank t < rank o.target) (map target (instances es))
    = subst (All (λ t. rank t < rank o.target)) (sym (targets_are modules o)) (falls o.target) in
    let c : total (λ p. length (infos modules (suc depth) (opened p))) (instances es) ≡ total (inner_signals modules depth) (map target (instances es))
    = total-same (λ t. rank t < rank o.target) target (λ p. length (infos modules (suc depth) (opened p))) (inner_signals modules depth)
    (λ p h. signals_at modules rank falls depth p (omega arith)) (instances es) low_targets in
    let d : total (inner_signals modules depth) (map target (instances es)) ≡ sum (map (inner_signals modules depth) (targets_of modules o.target))
    = ap (total (inner_signals modules depth)) (targets_are modules o) ∙ sym (sum_total (inner_signals modules depth) (targets_of modules o.target)) in
    a ∙ b ∙ ap₂ (λ x y. x + y) (own_made modules o) (c ∙ d)

pub signals_counted : (rank : ℕ → ℕ) (c : Circuit) → IsRanked rank c → signal_count c ≡ signals c
signals_counted rank c r = sym (signals_at c.modules rank r.falls (length c.modules) (main_place c) (r.low (place_of c.modules c.name)))

-- parts

taken_of_ports : (test : Bool → Bool) (ps : List PortLeaf) → (other : Bool → Bool) → ((b : Bool) → one_if (test b) + one_if (other b) ≡ 1)
    → taken_ports test ps + taken_ports other ps ≡ length ps
taken_of_ports test [] other h = refl
taken_of_ports test (p ∷ ps) other h =
    let e : one_if (test p.input) + one_if (other p.input) ≡ 1 = h p.input in
    let t : taken_ports test ps + taken_ports other ps ≡ length ps = taken_of_ports test ps other h in
    omega (arith, e, t)

ports_counted : (ports : List Port) → length (port_leaves ports) ≡ size (ports_shape ports)
ports_counted [] = refl
ports_counted (p ∷ ps) =
    let own : List PortLeaf = map (λ l. record { line = p.line; input = same p.output l.against }) (leaves (shape_of p.ty)) in
    let a : length (own ++ port_leaves ps) ≡ length own + length (port_leaves ps) = length-append own (port_leaves ps) in
    let e : length own ≡ length (leaves (shape_of p.ty)) = length-map (leaves (shape_of p.ty)) (λ l. record { line = p.line; input = same p.output l.against }) in
    let f : length (leaves (shape_of p.ty)) ≡ size (shape_of p.ty) = leaves_counted (shape_of p.ty) in
    let t : length (port_leaves ps) ≡ size (ports_shape ps) = ports_counted ps in
    omega (arith, a, e, f, t)

-- the ports that an instance's parent declares
abbrev declared_outside : Bool → Bool → Bool
declared_outside true input = false
declared_outside false input = input

once : (top b : Bool) → one_if (declared_inside top b) + one_if (declared_outside top b) ≡ 1
once true true = refl
once true false = refl
once false true = refl
once false false = refl

abbrev outside_ports : List Module → Opened → ℕ
outside_ports modules o = taken_ports (declared_outside o.top) (port_leaves (module_at modules o.target).ports)

own_parts : (modules : List Module) (o : Opened)
    → parts_in (own_body modules o (module_at modules o.target)) + length (targets_of modules o.target) + outside_ports modules o
    ≡ own_weight modules (module_at modules o.target) + total (inputs_at modules) (targets_of modules o.target)
own_parts modules o =
    let m : Module = module_at modules o.target in
    let ds : List Ground = declare_ports (declared_inside o.top) o.first (port_leaves m.ports) in
    let gs : List Ground = grounds modules (ports_known o.first m.ports) (behind_ports o m.ports) (body_of m.body) in
    let a : parts_in (ds ++ gs) ≡ parts_in ds + parts_in gs = total-append statement_parts ds gs in
    let d : parts_in ds ≡ taken_ports (declared_inside o.top) (port_leaves m.ports) = declared_parts (declared_inside o.top) o.first (port_leaves m.ports) in
    let s : taken_ports (declared_inside o.top) (port_leaves m.ports) + taken_ports (declared_outside o.top) (port_leaves m.ports) ≡ length (port_leaves m.ports)
    = taken_of_ports (declared_inside o.top) (port_leaves m.ports) (declared_outside o.top) (once o.top) in
    let n : length (port_leaves m.ports) ≡ size (ports_shape m.ports) = ports_counted m.ports in
    let b : parts_in gs + length (targets modules (body_of m.body))
    ≡ body_weight modules (map unplaced m.ports) (body_of m.body) + total (inputs_at modules) (targets modules (body_of m.body))
    = body_parts modules (ports_known o.first m.ports) (map unplaced m.ports) (ports-alike o.first m.ports) (behind_ports o m.ports) (body_of m.body) in
    omega (arith, a, d, s, n, b)

abbrev lists : List Module → ℕ → Opened → List Ground
lists modules = over (instances_of modules) (λ o inner. own_body modules o (module_at modules o.target) ++ flat_map (λ gs. gs) inner) []

abbrev opened_in : List Module → ℕ → Opened → ℕ
opened_in modules = over (instances_of modules) (λ o counts. length counts + sum counts) 0

abbrev inner_weight : List Module → ℕ → ℕ → ℕ
inner_weight modules depth = counted (λ place. own_weight modules (module_at modules place)) (targets_of modules) depth

-- what is counted of one instance: the instances in it, and its parts
abbrev counted_in : List Module → ℕ → Opened → ℕ
counted_in modules depth o = opened_in modules depth o + parts_in (lists modules depth o)

outside_inputs : (modules : List Module) (o : Opened) → total (outside_ports modules) (instances_of modules o) ≡ total (inputs_at modules) (targets_of modules o.target)
outside_inputs modules o =
    sym (sum_total (outside_ports modules) (instances_of modules o))
    ∙ ap sum (each_opened (outside_ports modules) (inputs_at modules) (λ name t first prefix. refl) modules o)
    ∙ sum_total (inputs_at modules) (targets_of modules o.target)

parts_at : (modules : List Module) (rank : ℕ → ℕ) → ((place : ℕ) → All (λ t. rank t < rank place) (targets_of modules place))
    → (depth : ℕ) (o : Opened) → rank o.target < depth → counted_in modules depth o + outside_ports modules o ≡ inner_weight modules depth o.target
unfolding over
parts_at modules rank falls zero o low = absurd (omega arith)
parts_at modules rank falls (suc depth) o low =
    let os : List Opened = instances_of modules o in
    let n : length (map (opened_in modules depth) os) ≡ length (targets_of modules o.target)
    = length-map os (opened_in modules depth) ∙ sym (length-map os target) ∙ ap length (targets_are modules o) in
    let s : sum (map (opened_in modules depth) os) ≡ total (opened_in modules depth) os = sum_total (opened_in modules depth) os in
    let a : parts_in (own_body modules o (module_at modules o.target) ++ flat_map (λ gs. gs) (map (lists modules depth) os))
    ≡ parts_in (own_body modules o (module_at modules o.target)) + parts_in (flat_map (λ gs. gs) (map (lists modules depth) os))
    = total-append statement_parts (own_body modules o (module_at modules o.target)) (flat_map (λ gs. gs) (map (lists modules depth) os)) in
    let b : parts_in (flat_map (λ gs. gs) (map (lists modules depth) os)) ≡ total (λ p. parts_in (lists modules depth p)) os
    = total-total statement_parts (lists modules depth) os in
    let own : parts_in (own_body modules o (module_at modules o.target)) + length (targets_of modules o.target) + outside_ports modules o
    ≡ own_weight modules (module_at modules o.target) + total (inputs_at modules) (targets_of modules o.target)
    = own_parts modules o in
    let i : total (outside_ports modules) os ≡ total (inputs_at modules) (targets_of modules o.target) = outside_inputs modules o in
    let low_targets : All (λ t. rank t < rank o.target) (map target os)
    = subst (All (λ t. rank t < rank o.target)) (sym (targets_are modules o)) (falls o.target) in
    let c : total (λ p. counted_in modules depth p + outside_ports modules p) os ≡ total (inner_weight modules depth) (map target os)
    = total-same (λ t. rank t < rank o.target) target (λ p. counted_in modules depth p + outside_ports modules p) (inner_weight modules depth)
    (λ p h. parts_at modules rank falls depth p (omega arith)) os low_targets in
    let d : total (inner_weight modules depth) (map target os) ≡ sum (map (inner_weight modules depth) (targets_of modules o.target))
    = ap (total (inner_weight modules depth)) (targets_are modules o) ∙ sym (sum_total (inner_weight modules depth) (targets_of modules o.target)) in
    let e : total (λ p. counted_in modules depth p + outside_ports modules p) os ≡ total (counted_in modules depth) os + total (outside_ports modules) os
    = total-add (counted_in modules depth) (outside_ports modules) (λ p. counted_in modules depth p + outside_ports modules p) (λ p. refl) os in
    let f : total (counted_in modules depth) os ≡ total (opened_in modules depth) os + total (λ p. parts_in (lists modules depth p)) os
    = total-add (opened_in modules depth) (λ p. parts_in (lists modules depth p)) (counted_in modules depth) (λ p. refl) os in
    omega (arith, n, s, a, b, own, i, c, d, e, f)

none_outside : (ps : List PortLeaf) → taken_ports (declared_outside true) ps ≡ 0
none_outside [] = refl
none_outside (p ∷ ps) = let t : taken_ports (declared_outside true) ps ≡ 0 = none_outside ps in omega (arith, t)

pub parts_counted : (rank : ℕ → ℕ) (c : Circuit) → IsRanked rank c → part_count c ≡ parts c
parts_counted rank c r =
    let a : counted_in c.modules (length c.modules) (main_place c) + outside_ports c.modules (main_place c) ≡ part_count c
    = parts_at c.modules rank r.falls (length c.modules) (main_place c) (r.low (place_of c.modules c.name)) in
    let b : outside_ports c.modules (main_place c) ≡ 0 = none_outside (port_leaves (module_at c.modules (place_of c.modules c.name)).ports) in
    let s : sum (map statement_parts (elab c).body) ≡ parts_in (elab c).body = sum_total statement_parts (elab c).body in
    omega (arith, a, b, s)
