-- The names of a module's ports, one after another.
use Rattle.std.proofs.Common.{ℕ, ◌≡◌, ◌+◌, ◌<◌, ◌≤◌, Bool, true, false, not, ◌||◌, List, [], ◌∷◌, ◌++◌, map, length, take, get_or, refl, sym, ap, ◌∙◌, add-one, append_assoc, if◌then◌else◌}
use Rattle.std.specs.Prelude.{bytes_eq}
use Rattle.std.proofs.Math.Seq.{take-suc}
use Rattle.fir_ast.specs.declared.tree.Port.{Port}
use Rattle.fir_check.specs.Names.{is_among, kept, firsts}
use Rattle.fir_check.specs.Scopes.{Known, is_declared, added, known_name, port_name, port_known}
use Rattle.fir_check.proofs.Firsts.{from, from_next, from_end, before, before_among}
use Rattle.fir_check.proofs.Names.{bytes_same, or_false, or_true}

or_assoc : (a b c : Bool) → (a || b) || c ≡ a || (b || c)
or_assoc true b c = refl
or_assoc false b c = refl

among_last : (n m : List ℕ) (names : List (List ℕ)) → is_among n (names ++ m ∷ []) ≡ is_among n names || bytes_eq m n
among_last n m [] = or_false (bytes_eq m n)
among_last n m (x ∷ xs) = ap (λ b. bytes_eq x n || b) (among_last n m xs) ∙ sym (or_assoc (bytes_eq x n) (is_among n xs) (bytes_eq m n))

-- a name that is among them already
among_old : (n m : List ℕ) (names : List (List ℕ)) → is_among m names ≡ true → is_among n names ≡ is_among n names || bytes_eq m n
among_old n m names h = step (bytes_eq m n) refl
  where
    step : (t : Bool) → bytes_eq m n ≡ t → is_among n names ≡ is_among n names || t
    step false e = sym (or_false (is_among n names))
    step true e = ap (λ x. is_among x names) (sym (bytes_same m n e)) ∙ h ∙ sym (or_true (is_among n names))

map_last : {X Y : Type 0} (f : X → Y) (xs : List X) (x : X) → map f (xs ++ x ∷ []) ≡ map f xs ++ f x ∷ []
map_last f [] x = refl
map_last f (y ∷ ys) x = ap (λ t. f y ∷ t) (map_last f ys x)

-- the ports in front of the i-th are declared, and those from there on are to come
pub record PortsLeft (ports : List Port) (i : ℕ) (known : List Known) : Type 0 where
  pub names : (n : List ℕ) → is_declared n known ≡ is_among n (map port_name (take i ports))
  pub whole : known ++ map port_known (from port_name [] ports i) ≡ map port_known (firsts port_name ports)

pub ports_start : (ports : List Port) (known : List Known) → known ≡ [] → PortsLeft ports 0 known
ports_start ports known e = record { names = λ n. ap (is_declared n) e ∙ none n ports; whole = ap (λ x. x ++ map port_known (firsts port_name ports)) e }
  where
    none : (n : List ℕ) (xs : List Port) → false ≡ is_among n (map port_name (take 0 xs))
    none n [] = refl
    none n (x ∷ xs) = refl

pub ports_next : (ports : List Port) (i : ℕ) (p : Port) (known after : List Known) → i < length ports → p ≡ get_or ports i p → after ≡ added (port_known p) known
    → PortsLeft ports i known → PortsLeft ports (i + 1) after
ports_next ports i p known after h e a l =
    let q : is_declared p.name known ≡ is_among p.name (before port_name [] ports i) = l.names p.name ∙ sym (before_among port_name p.name [] ports i ∙ or_false (is_among p.name (map port_name (take i ports)))) in
    let t : take (i + 1) ports ≡ take i ports ++ p ∷ [] = ap (λ n. take n ports) (add-one i) ∙ take-suc ports i p h ∙ ap (λ x. take i ports ++ x ∷ []) (sym e) in
    let f : from port_name [] ports i ≡ kept (not (is_among p.name (before port_name [] ports i))) p (from port_name [] ports (i + 1)) =
    from_next port_name [] ports i p h e ∙ ap (λ n. kept (not (is_among p.name (before port_name [] ports i))) p (from port_name [] ports n)) (sym (add-one i)) in
    record {
      names = λ n.
          ap (is_declared n) a ∙ step n (is_declared p.name known) refl
          ∙ ap (λ b. b || bytes_eq p.name n) (l.names n) ∙ sym (among_last n p.name (map port_name (take i ports)))
          ∙ ap (is_among n) (sym (map_last port_name (take i ports) p)) ∙ ap (λ x. is_among n (map port_name x)) (sym t);
      whole = ap (λ x. x ++ map port_known (from port_name [] ports (i + 1))) a ∙ more (is_declared p.name known)
          ∙ ap (λ b. known ++ map port_known (kept (not b) p (from port_name [] ports (i + 1)))) q ∙ ap (λ x. known ++ map port_known x) (sym f) ∙ l.whole;
    }
  where
    step : (n : List ℕ) (b : Bool) → is_declared p.name known ≡ b → is_declared n (if b then known else known ++ port_known p ∷ []) ≡ is_declared n known || bytes_eq p.name n
    step n true w = among_old n p.name (map known_name known) w
    step n false w = ap (is_among n) (map_last known_name known (port_known p)) ∙ among_last n p.name (map known_name known)

    more : (b : Bool) → (if b then known else known ++ port_known p ∷ []) ++ map port_known (from port_name [] ports (i + 1)) ≡ known ++ map port_known (kept (not b) p (from port_name [] ports (i + 1)))
    more true = refl
    more false = append_assoc known (port_known p ∷ []) (map port_known (from port_name [] ports (i + 1)))

pub ports_end : (ports : List Port) (i : ℕ) (known : List Known) → length ports ≤ i → PortsLeft ports i known → known ≡ map port_known (firsts port_name ports)
ports_end ports i known h l = sym (none known) ∙ ap (λ x. known ++ map port_known x) (sym (from_end port_name [] ports i h)) ∙ l.whole
  where
    none : (xs : List Known) → xs ++ [] ≡ xs
    none [] = refl
    none (x ∷ xs) = ap (λ t. x ∷ t) (none xs)
