-- The ports of a module as a bundle without repeated names.
use Rattle.std.proofs.Common.{ℕ, suc, ◌≡◌, ◌∙◌, ◌==◌, Bool, true, false, not, ◌||◌, cond, List, [], ◌∷◌, length, map, refl, sym, ap, ap₂}
use Rattle.std.specs.Prelude.{filter}
use Rattle.std.proofs.Math.Dec.{eqb-suc-zero}
use Rattle.std.specs.List.{list_any}
use Rattle.std.proofs.lemmas.List.{length-map}
use Rattle.fir_ast.specs.declared.tree.Ty.{Ty}
use Rattle.fir_ast.specs.declared.tree.Ty.TheOpen.{Field-F}
use Rattle.fir_ast.specs.declared.tree.Ty.TheViews.{out-roll-Field}
use Rattle.fir_ast.specs.declared.tree.Field.{Field}
use Rattle.fir_ast.specs.declared.tree.Port.{Port}
use Rattle.fir_ast.specs.declared.tree.Module.{Module}
use Rattle.fir_check.specs.Names.{is_among, kept, repeated, seconds}
use Rattle.fir_check.specs.Types.{repeats_field}
use Rattle.fir_check.specs.Scopes.{port_name, port_field, ports_type}
use Rattle.fir_check.specs.Rules.{port_lines}
use Rattle.fir_check.specs.Fields.{field_name, field_type}
use Rattle.fir_check.proofs.Repeats.{bundle_repeats}
use Rattle.fir_check.proofs.Bundles.{any_map, any_same}
use Rattle.flat_shapes.proofs.Tests.{never}

abbrev pub port_parts : Port → Field-F Ty Field
port_parts p = record { flip = not p.output; name = p.name; ty = p.ty }

pub port_field_name : (p : Port) → field_name (port_field p) ≡ p.name
port_field_name p = ap (λ f. f.name) (out-roll-Field (port_parts p))

pub port_field_type : (p : Port) → field_type (port_field p) ≡ p.ty
port_field_type p = ap (λ f. f.ty) (out-roll-Field (port_parts p))

repeated_map : {X Y : Type 0} (g : X → Y) (nx : X → List ℕ) (ny : Y → List ℕ) → ((x : X) → ny (g x) ≡ nx x) → (e : List (List ℕ)) (xs : List X)
    → length (repeated ny e (map g xs)) ≡ length (repeated nx e xs)
repeated_map g nx ny h e [] = refl
repeated_map g nx ny h e (x ∷ xs) =
    ap (λ n. length (kept (is_among n e) (g x) (repeated ny (n ∷ e) (map g xs)))) (h x)
    ∙ by (is_among (nx x) e) (repeated_map g nx ny h (nx x ∷ e) xs)
  where
    by : (b : Bool) → length (repeated ny (nx x ∷ e) (map g xs)) ≡ length (repeated nx (nx x ∷ e) xs)
        → length (kept b (g x) (repeated ny (nx x ∷ e) (map g xs))) ≡ length (kept b x (repeated nx (nx x ∷ e) xs))
    by true i = ap suc i
    by false i = i

-- a test that no port passes
pub none_filtered : (test : Port → Bool) (ps : List Port) → port_lines test ps ≡ [] → list_any test ps ≡ false
none_filtered test [] h = refl
none_filtered test (p ∷ ps) h = by (test p) h (none_filtered test ps)
  where
    by : (b : Bool) → map (λ (q : Port). q.line) (cond b (p ∷ filter test ps) (filter test ps)) ≡ [] → (port_lines test ps ≡ [] → list_any test ps ≡ false) → b || list_any test ps ≡ false
    by true h i = never (sym (eqb-suc-zero (length (map (λ (q : Port). q.line) (filter test ps)))) ∙ ap (λ xs. length xs == 0) h)
    by false h i = i h

pub ports_plain : (m : Module) → length (seconds port_name m.ports) ≡ 0 → list_any (λ p. repeats_field p.ty) m.ports ≡ false → repeats_field (ports_type m) ≡ false
ports_plain m s r =
    bundle_repeats (map port_field m.ports)
    ∙ ap₂ (λ a b. a || b)
    (ap (λ n. not (n == 0)) (repeated_map port_field port_name field_name port_field_name [] m.ports ∙ s))
    (any_map (λ f. repeats_field (field_type f)) port_field m.ports
    ∙ any_same (λ p. repeats_field (field_type (port_field p))) (λ p. repeats_field p.ty) (λ p. ap repeats_field (port_field_type p)) m.ports
    ∙ r)

-- as the rule on double names finds no line
pub ports_once : (m : Module) → map (λ (p : Port). p.line) (seconds port_name m.ports) ≡ [] → port_lines (λ p. repeats_field p.ty) m.ports ≡ []
    → repeats_field (ports_type m) ≡ false
ports_once m s r =
    ports_plain m (sym (length-map (seconds port_name m.ports) (λ (p : Port). p.line)) ∙ ap length s) (none_filtered (λ p. repeats_field p.ty) m.ports r)
