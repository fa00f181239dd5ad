-- The ports of instances that are gathered from a body.
use Rattle.std.proofs.Common.{ℕ, ◌≡◌, ◌+◌, ◌<◌, ◌≤◌, Bool, true, false, cond, not, ◌&&◌, ◌||◌, List, [], ◌∷◌, ◌++◌, map, length, drop, get_or, refl, sym, ap, ◌∙◌}
use Rattle.std.specs.Prelude.{flat_map, bytes_eq}
use Rattle.std.specs.List.{list_any}
use Rattle.std.proofs.lemmas.List.{drop_all}
use Rattle.fir_ast.specs.declared.tree.Expr.{Expr}
use Rattle.fir_ast.specs.declared.tree.Stmt.{Stmt}
use Rattle.fir_ast.specs.declared.tree.Stmt.TheVariants.{When, rolls-When}
use Rattle.fir_ast.specs.declared.tree.Stmt.TheFolds.{fold-roll-Stmt}
use Rattle.fir_ast.specs.declared.tree.Stmt.TheOpen.{When as F-When}
use Rattle.fir_ast.specs.declared.tree.Module.{Module}
use Rattle.fir_check.specs.declared.sinks.PortOf.{PortOf}
use Rattle.fir_check.specs.Names.{firsts}
use Rattle.fir_check.specs.Scopes.{port_name}
use Rattle.fir_check.specs.Rules.{sink_level, lacks_clock, is_clock_input}
use Rattle.fir_check.specs.Driven.{sinks_of, is_pair, has_pair, is_sunk, GainsPair, GainsPorts, DrivenBy, misses}
use Rattle.fir_ast.specs.declared.tree.Port.{Port}
use Rattle.fir_check.proofs.Doubles.{next_item}
use Rattle.fir_check.proofs.Gathered.{flat-map-id}
use Rattle.fir_check.proofs.Names.{bytes_same, bytes_turned, or_false, or_true}
use Rattle.fir_check.proofs.Bundles.{any_map, any_same}

abbrev Pairs : Type 0
Pairs = List (List ℕ × List ℕ)

abbrev pub pair_of : PortOf → List ℕ × List ℕ
pair_of p = (p.instance.items, p.port.items)

-- the stored key is this one
abbrev same_key : PortOf → PortOf → Bool
same_key v k = bytes_eq v.instance.items k.instance.items && bytes_eq v.port.items k.port.items

or_assoc : (a b c : Bool) → (a || b) || c ≡ a || (b || c)
or_assoc true b c = refl
or_assoc false b c = refl

any_append : {X : Type 0} (p : X → Bool) (xs ys : List X) → list_any p (xs ++ ys) ≡ list_any p xs || list_any p ys
any_append p [] ys = refl
any_append p (x ∷ xs) ys = ap (λ b. p x || b) (any_append p xs ys) ∙ sym (or_assoc (p x) (list_any p xs) (list_any p ys))

map_append : {X Y : Type 0} (f : X → Y) (xs ys : List X) → map f (xs ++ ys) ≡ map f xs ++ map f ys
map_append f [] ys = refl
map_append f (x ∷ xs) ys = ap (λ t. f x ∷ t) (map_append f xs ys)

pub key_pairs : (v : PortOf) (ks : List PortOf) (i p : List ℕ) (ps : Pairs) → v.instance.items ≡ i → v.port.items ≡ p → map pair_of ks ≡ ps
    → list_any (same_key v) ks ≡ has_pair i p ps
key_pairs v ks i p ps e f g =
    sym (any_map (is_pair v.instance.items v.port.items) pair_of ks)
    ∙ ap (λ x. has_pair x v.port.items (map pair_of ks)) e ∙ ap (λ x. has_pair i x (map pair_of ks)) f ∙ ap (has_pair i p) g

both_true : (a b : Bool) → (a && b) ≡ true → (a ≡ true) × (b ≡ true)
both_true true true e = (refl, refl)
both_true true false e = cc
both_true false b e = cc

-- a pair that is there already
covered : (i p a b : List ℕ) (ps : Pairs) → has_pair i p ps ≡ true → has_pair a b ps ≡ has_pair a b ps || (bytes_eq i a && bytes_eq p b)
covered i p a b ps h = step (bytes_eq i a && bytes_eq p b) refl
  where
    step : (t : Bool) → (bytes_eq i a && bytes_eq p b) ≡ t → has_pair a b ps ≡ has_pair a b ps || t
    step false e = sym (or_false (has_pair a b ps))
    step true e =
        let q = both_true (bytes_eq i a) (bytes_eq p b) e in
        ap (λ x. has_pair x b ps) (sym (bytes_same i a q.0)) ∙ ap (λ x. has_pair i x ps) (sym (bytes_same p b q.1)) ∙ h ∙ sym (or_true (has_pair a b ps))

pair_last : (i p a b : List ℕ) (ps : Pairs) → has_pair a b (ps ++ (i, p) ∷ []) ≡ has_pair a b ps || (bytes_eq i a && bytes_eq p b)
pair_last i p a b ps =
    any_append (is_pair a b) ps ((i, p) ∷ [])
    ∙ ap (λ x. has_pair a b ps || x) (or_false (bytes_eq a i && bytes_eq b p) ∙ ap (λ x. x && bytes_eq b p) (bytes_turned a i) ∙ ap (λ x. bytes_eq i a && x) (bytes_turned b p))

pub pair_added : (v : PortOf) (ks js : List PortOf) (i p : List ℕ) (ps : Pairs) → v.instance.items ≡ i → v.port.items ≡ p → map pair_of ks ≡ ps
    → js ≡ cond (list_any (same_key v) ks) ks (ks ++ v ∷ []) → GainsPair i p ps (map pair_of js)
pair_added v ks js i p ps e f g h = record { each = λ a b. ap (λ x. has_pair a b (map pair_of x)) h ∙ step a b (list_any (same_key v) ks) (key_pairs v ks i p ps e f g) }
  where
    step : (a b : List ℕ) (t : Bool) → t ≡ has_pair i p ps → has_pair a b (map pair_of (cond t ks (ks ++ v ∷ []))) ≡ has_pair a b ps || (bytes_eq i a && bytes_eq p b)
    step a b true q = ap (has_pair a b) g ∙ covered i p a b ps (sym q)
    step a b false q =
        ap (has_pair a b) (map_append pair_of ks (v ∷ []) ∙ ap (λ x. x ++ pair_of v ∷ []) g ∙ ap (λ x. ps ++ (x, v.port.items) ∷ []) e ∙ ap (λ x. ps ++ (i, x) ∷ []) f)
        ∙ pair_last i p a b ps

-- statements

pub sinks_when : (l : ℕ) (c : Expr) (a b : List Stmt) → sinks_of (When l c a b) ≡ flat_map sinks_of a ++ flat_map sinks_of b
sinks_when l c a b =
    ap sinks_of (sym (rolls-When l c a b)) ∙ fold-roll-Stmt (List Expr) sink_level (F-When l c a b)
    ∙ ap (λ t. t ++ flat_map (λ is. is) (map sinks_of b)) (flat-map-id sinks_of a)
    ∙ ap (λ t. flat_map sinks_of a ++ t) (flat-map-id sinks_of b)

sunk_append : (i p : List ℕ) (xs ys : List Expr) → is_sunk i p (xs ++ ys) ≡ is_sunk i p xs || is_sunk i p ys
sunk_append i p xs ys = any_append _ xs ys

pub sinks_blocks : (s : Stmt) (l : ℕ) (c : Expr) (a b xs ys : List Stmt) (o m n : Pairs) → s ≡ When l c a b → xs ≡ a → ys ≡ b
    → GainsPorts (flat_map sinks_of xs) o m → GainsPorts (flat_map sinks_of ys) m n → GainsPorts (sinks_of s) o n
sinks_blocks s l c a b xs ys o m n e f g p q = record {
  each = λ i r.
      q.each i r ∙ ap (λ t. t || is_sunk i r (flat_map sinks_of ys)) (p.each i r)
      ∙ or_assoc (has_pair i r o) (is_sunk i r (flat_map sinks_of xs)) (is_sunk i r (flat_map sinks_of ys))
      ∙ ap (λ t. has_pair i r o || t) (sym (sunk_append i r (flat_map sinks_of xs) (flat_map sinks_of ys))
      ∙ ap (λ t. is_sunk i r (flat_map sinks_of t ++ flat_map sinks_of ys)) f ∙ ap (λ t. is_sunk i r (flat_map sinks_of a ++ flat_map sinks_of t)) g
      ∙ ap (is_sunk i r) (sym (sinks_when l c a b)) ∙ ap (λ t. is_sunk i r (sinks_of t)) (sym e));
}

pub record SinksLeft (body : List Stmt) (k : ℕ) (found start : Pairs) : Type 0 where
  pub whole : (i p : List ℕ) → has_pair i p found || is_sunk i p (flat_map sinks_of (drop k body)) ≡ has_pair i p start || is_sunk i p (flat_map sinks_of body)

pub sinks_next : (body : List Stmt) (k : ℕ) (s : Stmt) (found more start : Pairs) → k < length body → s ≡ get_or body k s → GainsPorts (sinks_of s) found more
    → SinksLeft body k found start → SinksLeft body (k + 1) more start
sinks_next body k s found more start h e g l = record {
  whole = λ i p.
      ap (λ t. t || is_sunk i p (flat_map sinks_of (drop (k + 1) body))) (g.each i p)
      ∙ or_assoc (has_pair i p found) (is_sunk i p (sinks_of s)) (is_sunk i p (flat_map sinks_of (drop (k + 1) body)))
      ∙ ap (λ t. has_pair i p found || t) (sym (sunk_append i p (sinks_of s) (flat_map sinks_of (drop (k + 1) body))) ∙ ap (λ t. is_sunk i p (flat_map sinks_of t)) (sym (next_item body k s h e)))
      ∙ l.whole i p;
}

pub sinks_end : (body : List Stmt) (k : ℕ) (found start : Pairs) → length body ≤ k → SinksLeft body k found start → GainsPorts (flat_map sinks_of body) start found
sinks_end body k found start h l = record {
  each = λ i p. sym (or_false (has_pair i p found)) ∙ ap (λ t. has_pair i p found || is_sunk i p (flat_map sinks_of t)) (sym (drop_all k body h)) ∙ l.whole i p;
}

-- instances

pub lacks_is : (home target : Module) (i : List ℕ) (ps : Pairs) → DrivenBy home ps → list_any (misses ps i) (firsts port_name target.ports) ≡ lacks_clock home i target
lacks_is home target i ps d = any_same _ _ (λ p. ap (λ b. is_clock_input p && not b) (d.each i p.name)) (firsts port_name target.ports)

pub missed : (ps : Pairs) (i n : List ℕ) (x : Port) (a h : Bool) → a ≡ is_clock_input x → h ≡ has_pair i n ps → n ≡ x.name → (a && not h) ≡ misses ps i x
missed ps i n x a h e f g = ap (λ t. t && not h) e ∙ ap (λ t. is_clock_input x && not t) (f ∙ ap (λ t. has_pair i t ps) g)
