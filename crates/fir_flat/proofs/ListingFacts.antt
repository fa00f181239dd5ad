-- What one statement declares, in front of any rest.
use Rattle.std.proofs.Common.{◌≡◌, ◌+◌, ◌∙◌, sym, ap, ap₂, ℕ, Bool, true, false, not, if◌then◌else◌, Option, None, List, [], ◌∷◌, ◌++◌, map, subst, refl, arith, append_assoc, OnOk, Result}
use Rattle.tb_base.specs.declared.memory.Memory.{Memory}
use Rattle.fir_flat.specs.declared.kinds.Flow.{Flow}
use Rattle.fir_flat.specs.declared.signals.Declared.{Declared}
use Rattle.std.proofs.Math.Path.{fun_ext}
use Rattle.fir_ast.specs.declared.tree.Expr.{Expr}
use Rattle.fir_ast.specs.declared.tree.Ty.{Ty}
use Rattle.fir_ast.specs.declared.tree.ResetPair.{ResetPair}
use Rattle.fir_ast.specs.declared.tree.Module.{Module}
use Rattle.fir_ast.specs.declared.tree.Stmt.{Stmt}
use Rattle.fir_ast.specs.declared.tree.Stmt.TheVariants as stmt
use Rattle.net_core.specs.declared.tree.Role.{Role}
use Rattle.net_core.specs.declared.tree.Role.TheVariants as role
use Rattle.fir_check.specs.Types.{same}
use Rattle.fir_flat.specs.declared.kinds.Flow.TheVariants.{Free, Fixed}
use Rattle.fir_flat.specs.declared.kinds.Known.{Known}
use Rattle.fir_flat.specs.declared.listing.Listed.{Listed}
use Rattle.fir_flat.specs.Shapes.{Shape, shape_of, size, Leaf, leaves}
use Rattle.fir_flat.specs.Bodies.{Body, wire, node, reg, inst, connect, invalid, statement}
use Rattle.fir_flat.specs.Values.{Bound, bound, value}
use Rattle.fir_flat.specs.Modules.{signals_in, place_of, instance}
use Rattle.fir_flat.specs.Elaboration.{Entry, made, opened, opened_at, entries, leaf_entry, unwritten}
use Rattle.fir_flat.specs.Kinds.{seen}
use Rattle.fir_flat.specs.Signals.{signals_of, seen_entries}
use Rattle.fir_flat.specs.Writing.{taken_by}
use Rattle.fir_flat.specs.Listing.{Declares, Lists, one_role}
use Rattle.fir_flat.proofs.Unnumbered.{unnumbered, more-alike}
use Rattle.fir_flat.proofs.Moved.{whole, body-Node, body-Inst, body-Connect, body-Invalid}
use Rattle.fir_flat.proofs.WritingFacts.{taken-alike, body-Wire, body-Reg}

abbrev entry_with : List ℕ → ℕ → Leaf → Role → Option ℕ → Entry
entry_with name line l kind width = made (record { name = name ++ l.suffix; role = kind; signed = l.signed; width = width; line = line })

either : (b : Bool) (r : Role) → (if b then r else r) ≡ r
either true r = refl
either false r = refl

pub written_entries : (line : ℕ) (kind : Role) (name : List ℕ) (t : Shape) → signals_of (one_role line kind true) name false t ≡ map (leaf_entry name kind line) (leaves t)
written_entries line kind name t =
    ap (λ (f : Leaf → Entry). map f (leaves t)) (fun_ext (λ (l : Leaf). ap (λ (r : Role). entry_with name line l r l.width) (either (not (same false l.against)) kind)))

pub unwritten_entries : (line : ℕ) (kind : Role) (name : List ℕ) (t : Shape)
    → signals_of (one_role line kind false) name false t ≡ map (λ l. leaf_entry name kind line (unwritten l)) (leaves t)
unwritten_entries line kind name t =
    ap (λ (f : Leaf → Entry). map f (leaves t)) (fun_ext (λ (l : Leaf). ap (λ (r : Role). entry_with name line l r None) (either (not (same false l.against)) kind)))

-- a statement that is `g` in front of any rest, and declares a name
lists_adds : (modules : List Module) (prefix : List ℕ) (s g : Body → Body) (known after : List Known) (t u : Listed) (b : Bound) (new : List Entry) (n : ℕ)
    → Declares known after t u b new n
    → ((rest : Body) → s rest ≡ g rest)
    → ((rest : Body) → entries modules prefix (seen known) t.next (g rest) ≡ new ++ entries modules prefix (seen known ++ b ∷ []) (t.next + n) rest)
    → ((rest : Body) → taken_by modules (seen known) (g rest) ≡ n + taken_by modules (seen known ++ unnumbered b ∷ []) rest)
    → Lists modules prefix s known after t u
lists_adds modules prefix s g known after t u b new n a is gr tk = record {
  entries = λ rest.
      ap (λ z. seen_entries t.entries.items ++ entries modules prefix (seen known) t.next z) (is rest) ∙ ap (λ x. seen_entries t.entries.items ++ x) (gr rest)
      ∙ sym (append_assoc (seen_entries t.entries.items) new (entries modules prefix (seen known ++ b ∷ []) (t.next + n) rest))
      ∙ ap (λ x. x ++ entries modules prefix (seen known ++ b ∷ []) (t.next + n) rest) (sym a.entries)
      ∙ ap₂ (λ (ks : List Bound) (m : ℕ). seen_entries u.entries.items ++ entries modules prefix ks m rest) (sym a.names) (sym a.next);
  next = λ rest.
      let x : taken_by modules (seen known) (s rest) ≡ n + taken_by modules (seen known ++ unnumbered b ∷ []) rest
      = ap (taken_by modules (seen known)) (is rest) ∙ tk rest in
      let y : taken_by modules (seen known ++ unnumbered b ∷ []) rest ≡ taken_by modules (seen known ++ b ∷ []) rest
      = taken-alike (signals_in modules) modules (seen known ++ unnumbered b ∷ []) (seen known ++ b ∷ []) (more-alike (seen known) (seen known) (unnumbered b) b refl refl) rest in
      let z : taken_by modules (seen known ++ b ∷ []) rest ≡ taken_by modules (seen after) rest = ap (λ (ks : List Bound). taken_by modules ks rest) (sym a.names) in
      let e : u.next ≡ t.next + n = a.next in
      omega (arith, x, y, z, e);
  kept = a.kept;
}

pub lists_wire : (modules : List Module) (prefix : List ℕ) (s : Stmt) (l : ℕ) (name : List ℕ) (ty : Ty) (known after : List Known) (t u : Listed) → s ≡ stmt.Wire l name ty
    → Declares known after t u (bound name (shape_of ty) Free t.next) (signals_of (one_role l role.Inner true) (prefix ++ name) false (shape_of ty)) (size (shape_of ty))
    → Lists modules prefix (statement s) known after t u
lists_wire modules prefix s l name ty known after t u is a =
    lists_adds modules prefix (statement s) (wire l name (shape_of ty)) known after t u _ _ _ a (λ rest. ap (λ x. statement x rest) is ∙ body-Wire l name ty rest)
    (λ rest. ap (λ (es : List Entry). es ++ entries modules prefix (seen known ++ bound name (shape_of ty) Free t.next ∷ []) (t.next + size (shape_of ty)) rest)
    (sym (written_entries l role.Inner (prefix ++ name) (shape_of ty)))) (λ rest. refl)

pub lists_node : (modules : List Module) (prefix : List ℕ) (s : Stmt) (l : ℕ) (name : List ℕ) (e : Expr) (known after : List Known) (t u : Listed) → s ≡ stmt.Node l name e
    → Declares known after t u (bound name (value (seen known) e).ty Fixed t.next) (signals_of (one_role l role.Node false) (prefix ++ name) false (value (seen known) e).ty)
    (size (value (seen known) e).ty)
    → Lists modules prefix (statement s) known after t u
lists_node modules prefix s l name e known after t u is a =
    lists_adds modules prefix (statement s) (node l name e) known after t u _ _ _ a (λ rest. ap (λ x. statement x rest) is ∙ body-Node l name e rest)
    (λ rest. ap (λ (es : List Entry). es ++ entries modules prefix (seen known ++ bound name (value (seen known) e).ty Fixed t.next ∷ []) (t.next + size (value (seen known) e).ty) rest)
    (sym (unwritten_entries l role.Node (prefix ++ name) (value (seen known) e).ty))) (λ rest. refl)

pub lists_register : (modules : List Module) (prefix : List ℕ) (s : Stmt) (l : ℕ) (name : List ℕ) (ty : Ty) (c : Expr) (r : Option ResetPair) (known after : List Known) (t u : Listed)
    → s ≡ stmt.Reg l name ty c r
    → Declares known after t u (bound name (shape_of ty) Free t.next) (signals_of (one_role l role.Reg true) (prefix ++ name) false (shape_of ty)) (size (shape_of ty))
    → Lists modules prefix (statement s) known after t u
lists_register modules prefix s l name ty c r known after t u is a =
    lists_adds modules prefix (statement s) (reg l name (shape_of ty) r) known after t u _ _ _ a (λ rest. ap (λ x. statement x rest) is ∙ body-Reg l name ty c r rest)
    (λ rest. ap (λ (es : List Entry). es ++ entries modules prefix (seen known ++ bound name (shape_of ty) Free t.next ∷ []) (t.next + size (shape_of ty)) rest)
    (sym (written_entries l role.Reg (prefix ++ name) (shape_of ty)))) (λ rest. refl)

pub lists_instance : (modules : List Module) (prefix : List ℕ) (s : Stmt) (l : ℕ) (name target : List ℕ) (known after : List Known) (t u : Listed) → s ≡ stmt.Inst l name target
    → Declares known after t u (instance modules name target t.next) (opened (opened_at name (place_of modules target) t.next prefix) ∷ []) (signals_in modules (place_of modules target))
    → Lists modules prefix (statement s) known after t u
lists_instance modules prefix s l name target known after t u is a =
    lists_adds modules prefix (statement s) (inst l name target) known after t u _ _ _ a (λ rest. ap (λ x. statement x rest) is ∙ body-Inst l name target rest)
    (λ rest. refl) (λ rest. refl)

-- a statement that declares nothing
pub lists_nothing : (modules : List Module) (prefix : List ℕ) (s g : Body → Body) (known : List Known) (t : Listed) → ((rest : Body) → s rest ≡ g rest)
    → ((rest : Body) → entries modules prefix (seen known) t.next (g rest) ≡ entries modules prefix (seen known) t.next rest)
    → ((rest : Body) → taken_by modules (seen known) (g rest) ≡ taken_by modules (seen known) rest)
    → Lists modules prefix s known known t t
lists_nothing modules prefix s g known t is gr tk = record {
  entries = λ rest. ap (λ z. seen_entries t.entries.items ++ entries modules prefix (seen known) t.next z) (is rest) ∙ ap (λ x. seen_entries t.entries.items ++ x) (gr rest);
  next = λ rest. ap (λ n. t.next + n) (ap (taken_by modules (seen known)) (is rest) ∙ tk rest);
  kept = whole known;
}

pub lists_connect : (modules : List Module) (prefix : List ℕ) (s : Stmt) (l : ℕ) (sink e : Expr) (known : List Known) (t : Listed) → s ≡ stmt.Connect l sink e
    → Lists modules prefix (statement s) known known t t
lists_connect modules prefix s l sink e known t is =
    lists_nothing modules prefix (statement s) (connect l sink e) known t (λ rest. ap (λ x. statement x rest) is ∙ body-Connect l sink e rest) (λ rest. refl) (λ rest. refl)

pub lists_invalid : (modules : List Module) (prefix : List ℕ) (s : Stmt) (l : ℕ) (sink : Expr) (known : List Known) (t : Listed) → s ≡ stmt.Invalid l sink
    → Lists modules prefix (statement s) known known t t
lists_invalid modules prefix s l sink known t is =
    lists_nothing modules prefix (statement s) (invalid l sink) known t (λ rest. ap (λ x. statement x rest) is ∙ body-Invalid l sink rest) (λ rest. refl) (λ rest. refl)

pub lists_skipped : (modules : List Module) (prefix : List ℕ) (s : Stmt) (known : List Known) (t : Listed) → ((rest : Body) → statement s rest ≡ rest)
    → Lists modules prefix (statement s) known known t t
lists_skipped modules prefix s known t is = lists_nothing modules prefix (statement s) (λ rest. rest) known t is (λ rest. refl) (λ rest. refl)

-- the same declaration in other words
pub named_same : (r : Result (Unit {0}) Memory) (known after : List Known) (t u : Listed) (prefix : List ℕ) (d e : Declared) (m n : List ℕ) (k j : Shape) (f : Flow)
    → d ≡ e → m ≡ n → k ≡ j
    → OnOk r (Declares known after t u (bound m k f t.next) (signals_of d (prefix ++ m) false k) (size k))
    → OnOk r (Declares known after t u (bound n j f t.next) (signals_of e (prefix ++ n) false j) (size j))
named_same r known after t u prefix d e m n k j f ed en ek h =
    subst (λ (x : Declared). OnOk r (Declares known after t u (bound n j f t.next) (signals_of x (prefix ++ n) false j) (size j))) ed
    (subst (λ (x : List ℕ). OnOk r (Declares known after t u (bound x j f t.next) (signals_of d (prefix ++ x) false j) (size j))) en
    (subst (λ (x : Shape). OnOk r (Declares known after t u (bound m x f t.next) (signals_of d (prefix ++ m) false x) (size x))) ek h))
