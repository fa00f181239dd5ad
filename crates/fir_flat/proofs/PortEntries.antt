-- The signals of ports, and what an instance declares itself.
use Rattle.std.proofs.Common.{◌≡◌, ◌+◌, ◌<◌, ◌∙◌, sym, ap, ap₂, ℕ, Bool, true, false, not, if◌then◌else◌, List, ◌++◌, length, get_or, drop, map, refl}
use Rattle.std.proofs.Math.Path.{fun_ext}
use Rattle.fir_ast.specs.declared.tree.Port.{Port}
use Rattle.fir_ast.specs.declared.tree.Module.{Module}
use Rattle.fir_ast.specs.declared.tree.Stmt.{Stmt}
use Rattle.net_core.specs.declared.tree.Role.{Role}
use Rattle.fir_check.specs.Types.{same}
use Rattle.fir_flat.specs.Shapes.{Shape, shape_of, ports_shape, size, Leaf, leaves}
use Rattle.fir_flat.specs.Bodies.{body_of}
use Rattle.fir_flat.specs.Values.{Bound}
use Rattle.fir_flat.specs.Modules.{module_at, ports_known}
use Rattle.fir_flat.specs.Elaboration.{Entry, made, Opened, port_role, port_entry, port_entries, entries, entries_of}
use Rattle.fir_flat.specs.Signals.{signals_of, port_declared}
use Rattle.fir_flat.proofs.PartFacts.{written_more, next_dropped}

role_of : (top output against : Bool) → (if not (same false against) then port_role top output else port_role top (not output)) ≡ port_role top (same output against)
role_of top true true = refl
role_of top true false = refl
role_of top false true = refl
role_of top false false = refl

abbrev entry_as : List ℕ → ℕ → Leaf → Role → Entry
entry_as name line l r = made (record { name = name ++ l.suffix; role = r; signed = l.signed; width = l.width; line = line })

port_signals : (o : Opened) (p : Port) (t : Shape) → signals_of (port_declared o.top p) (o.prefix ++ p.name) false t ≡ map (port_entry o p) (leaves t)
port_signals o p t =
    ap (λ (f : Leaf → Entry). map f (leaves t)) (fun_ext (λ (l : Leaf). ap (entry_as (o.prefix ++ p.name) p.line l) (role_of o.top p.output l.against)))

pub port_entries_more : (o : Opened) (ps : List Port) (i : ℕ) (p : Port) (old new whole : List Entry) → i < length ps → p ≡ get_or ps i p
    → new ≡ old ++ signals_of (port_declared o.top p) (o.prefix ++ p.name) false (shape_of p.ty)
    → old ++ port_entries o (drop i ps) ≡ whole
    → new ++ port_entries o (drop (i + 1) ps) ≡ whole
port_entries_more o ps i p old new whole h is e inv =
    written_more old new (map (port_entry o p) (leaves (shape_of p.ty))) (port_entries o (drop (i + 1) ps)) whole
    (e ∙ ap (λ xs. old ++ xs) (port_signals o p (shape_of p.ty)))
    (ap (λ xs. old ++ xs) (sym (ap (port_entries o) (next_dropped ps i p h is))) ∙ inv)

pub own_listed : (modules : List Module) (o : Opened) (ps : List Port) (stmts : List Stmt) (known : List Bound) (next : ℕ) (front all : List Entry)
    → ps ≡ (module_at modules o.target).ports → stmts ≡ (module_at modules o.target).body
    → front ≡ port_entries o ps → known ≡ ports_known o.first ps → next ≡ o.first + size (ports_shape ps)
    → all ≡ front ++ entries modules o.prefix known next (body_of stmts)
    → all ≡ entries_of modules o
own_listed modules o ps stmts known next front all ep es ef ek en e =
    e ∙ ap (λ xs. xs ++ entries modules o.prefix known next (body_of stmts)) ef
    ∙ ap₂ (λ (ks : List Bound) (n : ℕ). port_entries o ps ++ entries modules o.prefix ks n (body_of stmts)) ek en
    ∙ ap₂ (λ (qs : List Port) (ss : List Stmt). port_entries o qs ++ entries modules o.prefix (ports_known o.first qs) (o.first + size (ports_shape qs)) (body_of ss)) ep es
