-- Of a circuit that breaks no rule each module is tidy.
use Rattle.std.proofs.Common.{◌≡◌, ℕ, Bool, true, false, List, [], ◌∷◌, ◌++◌, Option, Some, None, cond, refl, map, flat_map, filter, nat_le}
use Rattle.std.specs.List.{AllByRecursion as Each}
use Rattle.fir_ast.specs.declared.tree.Port.{Port}
use Rattle.fir_ast.specs.declared.tree.Module.{Module}
use Rattle.fir_ast.specs.declared.tree.Circuit.{Circuit}
use Rattle.fir_check.specs.declared.best.Rule.{Rule}
use Rattle.fir_check.specs.declared.best.Rule.TheVariants.{NoMain, DoubleName, UnknownName, WrongKind, WrongFlow, ClockUse}
use Rattle.fir_check.specs.Names.{seconds}
use Rattle.fir_check.specs.Types.{repeats_field}
use Rattle.fir_check.specs.Scopes.{port_name, module_name, body_lines}
use Rattle.fir_check.specs.Rules.{double_at, unknown_at, wrong_at, flow_at, port_lines, earlier, first_break, broken_lines, all_rules, circuit_rule, stmt_lines, has_unsized_input, main_of}
use Rattle.fir_formed.proofs.Tests.{Empties, both_empty, map_empty}
use Rattle.fir_formed.proofs.Needed.{PlainPorts}
use Rattle.fir_formed.proofs.Steps.{spelt_all}
use Rattle.fir_formed.proofs.Own.{Tidy}
use Rattle.std.specs.Prelude.{option_to_list}

each_empty : {X Y : Type 0} (f : X → List Y) (xs : List X) → flat_map f xs ≡ [] → Each (λ x. f x ≡ []) xs
each_empty f [] e = tt
each_empty f (x ∷ xs) e = let b : Empties (f x) (flat_map f xs) = both_empty (f x) (flat_map f xs) e in (b.left, each_empty f xs b.right)

none_first : (bs : List (Rule × ℕ)) → first_break bs ≡ None → bs ≡ []
none_first [] e = refl
none_first (b ∷ bs) e = step (first_break bs) e
  where
    step : (o : Option (Rule × ℕ)) → earlier b o ≡ None → b ∷ bs ≡ []
    step None k = cc
    step (Some other) k = elim (nat_le b.1 other.1) as (λ t. cond t (Some b) (Some other) ≡ None → b ∷ bs ≡ []) [ true ↦ λ q. cc | false ↦ λ q. cc ] k

abbrev lines_of : Circuit → Rule → List (Rule × ℕ)
lines_of c rule = map (λ line. (rule, line)) (broken_lines rule c)

pub record Keeps (c : Circuit) : Type 0 where
  pub main : broken_lines NoMain c ≡ []
  pub double : broken_lines DoubleName c ≡ []
  pub unknown : broken_lines UnknownName c ≡ []
  pub wrong : broken_lines WrongKind c ≡ []
  pub flow : broken_lines WrongFlow c ≡ []
  pub clock : broken_lines ClockUse c ≡ []

pub keeps : (c : Circuit) → circuit_rule c ≡ None → Keeps c
keeps c e =
    let a : Each (λ rule. lines_of c rule ≡ []) all_rules = each_empty (lines_of c) all_rules (none_first (flat_map (lines_of c) all_rules) e) in
    record {
      main = map_empty (λ line. (NoMain, line)) (broken_lines NoMain c) a.0;
      double = map_empty (λ line. (DoubleName, line)) (broken_lines DoubleName c) a.1.0;
      unknown = map_empty (λ line. (UnknownName, line)) (broken_lines UnknownName c) a.1.1.0;
      wrong = map_empty (λ line. (WrongKind, line)) (broken_lines WrongKind c) a.1.1.1.0;
      flow = map_empty (λ line. (WrongFlow, line)) (broken_lines WrongFlow c) a.1.1.1.1.0;
      clock = map_empty (λ line. (ClockUse, line)) (broken_lines ClockUse c) a.1.1.1.1.1.0;
    }

pub plain_ports : (ps : List Port) → port_lines (λ p. repeats_field p.ty) ps ≡ [] → PlainPorts ps
plain_ports [] e = tt
plain_ports (p ∷ ps) e = step (repeats_field p.ty) refl e (plain_ports ps)
  where
    step : (b : Bool) → repeats_field p.ty ≡ b → map (λ (q : Port). q.line) (cond b (p ∷ filter (λ (q : Port). repeats_field q.ty) ps) (filter (λ (q : Port). repeats_field q.ty) ps)) ≡ []
        → (port_lines (λ q. repeats_field q.ty) ps ≡ [] → PlainPorts ps) → PlainPorts (p ∷ ps)
    step true q k r = cc
    step false q k r = (q, r k)

all_tidy : (modules ms : List Module)
    → Each (λ m. map (λ (p : Port). p.line) (seconds port_name m.ports) ++ port_lines (λ p. repeats_field p.ty) m.ports ≡ []) ms
    → Each (λ m. body_lines modules double_at m ≡ []) ms → Each (λ m. body_lines modules (unknown_at modules) m ≡ []) ms
    → Each (λ m. body_lines modules (wrong_at modules) m ≡ []) ms → Each (λ m. body_lines modules flow_at m ≡ []) ms
    → Each (λ m. spelt_all m.body ≡ true) ms → Each (Tidy modules) ms
all_tidy modules [] p d u w f s = tt
all_tidy modules (m ∷ ms) p d u w f s =
    let b : Empties (map (λ (p : Port). p.line) (seconds port_name m.ports)) (port_lines (λ p. repeats_field p.ty) m.ports) = both_empty (map (λ (p : Port). p.line) (seconds port_name m.ports)) (port_lines (λ p. repeats_field p.ty) m.ports) p.0 in (
      record {
        twice = map_empty (λ (p : Port). p.line) (seconds port_name m.ports) b.left;
        plain = plain_ports m.ports b.right;
        clear = record { double = d.0; unknown = u.0; wrong = w.0; flow = f.0 };
        spelt = s.0;
      },
      all_tidy modules ms p.1 d.1 u.1 w.1 f.1 s.1,
    )

pub tidy : (c : Circuit) → Keeps c → Each (λ m. spelt_all m.body ≡ true) c.modules → Each (Tidy c.modules) c.modules
tidy c k s =
    let ports_of : Module → List ℕ = λ m. map (λ (p : Port). p.line) (seconds port_name m.ports) ++ port_lines (λ p. repeats_field p.ty) m.ports in
    let rest = (both_empty (map (λ (m : Module). m.line) (seconds module_name c.modules)) (flat_map ports_of c.modules ++ stmt_lines (λ m. double_at) c) k.double).right in
    let parts = both_empty (flat_map ports_of c.modules) (stmt_lines (λ m. double_at) c) rest in
    let wrong = (both_empty (flat_map (λ (m : Module). port_lines has_unsized_input m.ports) (option_to_list (main_of c))) (stmt_lines (λ m. wrong_at c.modules) c) k.wrong).right in
    all_tidy c.modules c.modules (each_empty ports_of c.modules parts.left) (each_empty (λ m. body_lines c.modules double_at m) c.modules parts.right)
    (each_empty (λ m. body_lines c.modules (unknown_at c.modules) m) c.modules k.unknown) (each_empty (λ m. body_lines c.modules (wrong_at c.modules) m) c.modules wrong)
    (each_empty (λ m. body_lines c.modules flow_at m) c.modules k.flow) s
