-- The names of a type's ground parts differ.
use Rattle.std.specs.Prelude.{nat_le}
use Rattle.std.proofs.Common.{bytes_eq, ℕ, zero, suc, ◌≡◌, ◌+◌, ◌<◌, ◌≤◌, ◌^◌, ◌∙◌, Bool, true, not, ◌&&◌, ◌||◌, List, [], ◌∷◌, ◌++◌, length, map, refl, sym, ap, ap₂, subst, arith, append_assoc, leb-true}
use Rattle.std.specs.List.{range_with_len, flat_map}
use Rattle.std.proofs.lemmas.List.{map-append, length-map, append_cancel_left}
use Rattle.fir_check.specs.Names.{is_among}
use Rattle.fir_check.proofs.Names.{bytes_self, or_true}
use Rattle.fir_ast.specs.declared.tree.Port.{Port}
use Rattle.net_core.specs.declared.tree.SignalInfo.{SignalInfo}
use Rattle.fir_flat.specs.Shapes.{Shape, ground, clock, empty, field, vector, shape_of, ports_shape, size, Leaf, leaves, in_field, in_element}
use Rattle.fir_flat.specs.Elaboration.{Opened, made, port_entries, port_entry}
use Rattle.fir_flat.proofs.LeafCounts.{leaves_counted}
use Rattle.fir_flat.proofs.Ranges.{map_map}
use Rattle.flat_shapes.specs.Names.{begins_suffix, is_plain, is_bundle, names, is_told_apart, suffixes, port_names, port_info, port_infos, NamesDiffer}
use Rattle.flat_shapes.proofs.Apart.{Every, every_append, every_map, every_weaker, every_flat, always, IsNot, Apart, apart_append, apart_map, apart_from_map, cross, differ, Ended, cut, rest_same, behind_number, same_number}
use Rattle.flat_shapes.proofs.Tests.{never, and_left, and_right}

-- suffixes

abbrev is_ended : List ℕ → Bool
is_ended [] = true
is_ended (b ∷ bs) = begins_suffix b

abbrev behind_name : List ℕ → List ℕ → List ℕ
behind_name name e = 46 ∷ (name ++ e)

suffixes_field : (flip : Bool) (name : List ℕ) (s rest : Shape) → suffixes (field flip name s rest) ≡ map (behind_name name) (suffixes s) ++ suffixes rest
suffixes_field flip name s rest =
    map-append (λ (l : Leaf). l.suffix) (map (in_field flip name) (leaves s)) (leaves rest)
    ∙ ap (λ xs. xs ++ suffixes rest) (map_map (λ (l : Leaf). l.suffix) (in_field flip name) (leaves s) ∙ sym (map_map (behind_name name) (λ (l : Leaf). l.suffix) (leaves s)))

map_flat : {X Y Z : Type 0} (f : Y → Z) (g : X → List Y) (h : X → List Z) → ((x : X) → map f (g x) ≡ h x) → (xs : List X) → map f (flat_map g xs) ≡ flat_map h xs
map_flat f g h e [] = refl
map_flat f g h e (x ∷ xs) = map-append f (g x) (flat_map g xs) ∙ ap₂ (λ a b. a ++ b) (e x) (map_flat f g h e xs)

abbrev numbered : List (List ℕ) → ℕ → List (List ℕ)
numbered es k = map (behind_number k) es

suffixes_vector : (s : Shape) (n : ℕ) → suffixes (vector s n) ≡ flat_map (numbered (suffixes s)) (range_with_len 0 n)
suffixes_vector s n =
    map_flat (λ (l : Leaf). l.suffix) (λ k. map (in_element k) (leaves s)) (numbered (suffixes s))
    (λ k. map_map (λ (l : Leaf). l.suffix) (in_element k) (leaves s) ∙ sym (map_map (behind_number k) (λ (l : Leaf). l.suffix) (leaves s)))
    (range_with_len 0 n)

abbrev IsEnded : List ℕ → Type 0
IsEnded e = is_ended e ≡ true

all_ended : (s : Shape) → Every IsEnded (suffixes s)
all_ended (ground signed width) = (refl, tt)
all_ended clock = tt
all_ended empty = tt
all_ended (field flip name of rest) =
    subst (Every IsEnded) (sym (suffixes_field flip name of rest))
    (every_append IsEnded (map (behind_name name) (suffixes of)) (suffixes rest)
    (every_map (λ e. Unit {0}) IsEnded (behind_name name) (λ e t. refl) (suffixes of) (always (λ e. Unit {0}) (λ e. tt) (suffixes of)))
    (all_ended rest))
all_ended (vector of n) =
    subst (Every IsEnded) (sym (suffixes_vector of n))
    (every_flat IsEnded (numbered (suffixes of))
    (λ k. every_map (λ e. Unit {0}) IsEnded (behind_number k) (λ e t. refl) (suffixes of) (always (λ e. Unit {0}) (λ e. tt) (suffixes of)))
    (range_with_len 0 n))

-- a suffix in a bundle begins with the name of a field
pub record Begun (among : List (List ℕ)) (x : List ℕ) : Type 0 where
  pub name : List ℕ
  pub behind : List ℕ
  pub is : x ≡ behind_name name behind
  pub known : is_among name among ≡ true
  pub plain : is_plain name ≡ true
  pub ended : is_ended behind ≡ true

module _ (flip : Bool) (name : List ℕ) (of rest : Shape) (h : is_told_apart (field flip name of rest) ≡ true) where
  name_plain : is_plain name ≡ true
  name_plain = and_left (is_plain name) (not (is_among name (names rest)) && (is_told_apart of && (is_bundle rest && is_told_apart rest))) h

  others : (not (is_among name (names rest)) && (is_told_apart of && (is_bundle rest && is_told_apart rest))) ≡ true
  others = and_right (is_plain name) (not (is_among name (names rest)) && (is_told_apart of && (is_bundle rest && is_told_apart rest))) h

  name_new : not (is_among name (names rest)) ≡ true
  name_new = and_left (not (is_among name (names rest))) (is_told_apart of && (is_bundle rest && is_told_apart rest)) others

  parts_told : (is_told_apart of && (is_bundle rest && is_told_apart rest)) ≡ true
  parts_told = and_right (not (is_among name (names rest))) (is_told_apart of && (is_bundle rest && is_told_apart rest)) others

  of_told : is_told_apart of ≡ true
  of_told = and_left (is_told_apart of) (is_bundle rest && is_told_apart rest) parts_told

  behind_told : (is_bundle rest && is_told_apart rest) ≡ true
  behind_told = and_right (is_told_apart of) (is_bundle rest && is_told_apart rest) parts_told

  rest_bundle : is_bundle rest ≡ true
  rest_bundle = and_left (is_bundle rest) (is_told_apart rest) behind_told

  rest_told : is_told_apart rest ≡ true
  rest_told = and_right (is_bundle rest) (is_told_apart rest) behind_told

begun_by : (s : Shape) → is_bundle s ≡ true → is_told_apart s ≡ true → Every (Begun (names s)) (suffixes s)
begun_by (ground signed width) b h = never b
begun_by clock b h = never b
begun_by empty b h = tt
begun_by (field flip name of rest) b h =
    subst (Every (Begun (name ∷ names rest))) (sym (suffixes_field flip name of rest))
    (every_append (Begun (name ∷ names rest)) (map (behind_name name) (suffixes of)) (suffixes rest)
    (every_map IsEnded (Begun (name ∷ names rest)) (behind_name name)
    (λ e t. record {
      name = name;
      behind = e;
      is = refl;
      known = ap (λ c. c || is_among name (names rest)) (bytes_self name);
      plain = name_plain flip name of rest h;
      ended = t;
    })
    (suffixes of) (all_ended of))
    (every_weaker (Begun (names rest)) (Begun (name ∷ names rest)) more (suffixes rest)
    (begun_by rest (rest_bundle flip name of rest h) (rest_told flip name of rest h))))
  where
    more : (x : List ℕ) → Begun (names rest) x → Begun (name ∷ names rest) x
    more x r = record {
      name = r.name;
      behind = r.behind;
      is = r.is;
      known = ap (λ c. bytes_eq name r.name || c) r.known ∙ or_true (bytes_eq name r.name);
      plain = r.plain;
      ended = r.ended;
    }
begun_by (vector of n) b h = never b

abbrev BehindName : List ℕ → List ℕ → Type 0
BehindName name x = (e : List ℕ) × (x ≡ behind_name name e) × (is_ended e ≡ true)

ended_as : (e : List ℕ) → is_ended e ≡ true → Ended begins_suffix e ≡ true
ended_as [] h = refl
ended_as (b ∷ bs) h = h

other_name : (name : List ℕ) (known : List (List ℕ)) → is_plain name ≡ true → not (is_among name known) ≡ true
    → (x y : List ℕ) → BehindName name x → Begun known y → IsNot x y
other_name name known p n x y a b e =
    let h : name ++ a.0 ≡ b.name ++ b.behind = rest_same 46 46 (name ++ a.0) (b.name ++ b.behind) (sym a.1 ∙ e ∙ b.is) in
    let c : (name ≡ b.name) × (a.0 ≡ b.behind) = cut begins_suffix name b.name a.0 b.behind p b.plain (ended_as a.0 a.2) (ended_as b.behind b.ended) h in
    never (sym (ap not (ap (λ m. is_among m known) c.0 ∙ b.known)) ∙ n)

abbrev FromOn : ℕ → ℕ → List ℕ → Type 0
FromOn a n x = (k : ℕ) × (e : List ℕ) × (a ≤ k) × (k < n) × (x ≡ behind_number k e)

from_on : (es : List (List ℕ)) (n m a : ℕ) → a + m ≤ n → Every (FromOn a n) (flat_map (numbered es) (range_with_len a m))
from_on es n zero a l = tt
from_on es n (suc m) a l =
    every_append (FromOn a n) (numbered es a) (flat_map (numbered es) (range_with_len (a + 1) m))
    (every_map (λ e. Unit {0}) (FromOn a n) (behind_number a) (λ e t. (a, e, omega arith, omega (arith, l), refl)) es (always (λ e. Unit {0}) (λ e. tt) es))
    (every_weaker (FromOn (a + 1) n) (FromOn a n) (λ x r. (r.0, r.1, omega (arith, r.2), r.3, r.4)) (flat_map (numbered es) (range_with_len (a + 1) m))
    (from_on es n m (a + 1) (omega (arith, l))))

abbrev NumberedAt : ℕ → List ℕ → Type 0
NumberedAt k x = (e : List ℕ) × (x ≡ behind_number k e)

numbers_apart : (es : List (List ℕ)) (n m a : ℕ) → n ≤ 65536 → a + m ≤ n → Apart es → Apart (flat_map (numbered es) (range_with_len a m))
numbers_apart es n zero a w l h = tt
numbers_apart es n (suc m) a w l h =
    let low : a < 2 ^ 64 = omega (arith, w, l) in
    apart_append (numbered es a) (flat_map (numbered es) (range_with_len (a + 1) m))
    (apart_map (behind_number a) (λ x y e. (same_number a a x y low low e).1) es h)
    (numbers_apart es n m (a + 1) w (omega (arith, l)) h)
    (cross (NumberedAt a) (FromOn (a + 1) n)
    (λ x y p q e. let s : a ≡ q.0 = (same_number a q.0 p.0 q.1 low (omega (arith, w, q.3)) (sym p.1 ∙ e ∙ q.4)).0 in omega (arith, s, q.2))
    (numbered es a) (flat_map (numbered es) (range_with_len (a + 1) m))
    (every_map (λ e. Unit {0}) (NumberedAt a) (behind_number a) (λ e t. (e, refl)) es (always (λ e. Unit {0}) (λ e. tt) es))
    (from_on es n m (a + 1) (omega (arith, l))))

pub suffixes_apart : (s : Shape) → is_told_apart s ≡ true → Apart (suffixes s)
suffixes_apart (ground signed width) h = (tt, tt)
suffixes_apart clock h = tt
suffixes_apart empty h = tt
suffixes_apart (field flip name of rest) h =
    subst Apart (sym (suffixes_field flip name of rest))
    (apart_append (map (behind_name name) (suffixes of)) (suffixes rest)
    (apart_map (behind_name name) (λ x y e. append_cancel_left name x y (rest_same 46 46 (name ++ x) (name ++ y) e)) (suffixes of)
    (suffixes_apart of (of_told flip name of rest h)))
    (suffixes_apart rest (rest_told flip name of rest h))
    (cross (BehindName name) (Begun (names rest))
    (other_name name (names rest) (name_plain flip name of rest h) (name_new flip name of rest h))
    (map (behind_name name) (suffixes of)) (suffixes rest)
    (every_map IsEnded (BehindName name) (behind_name name) (λ e t. (e, refl, t)) (suffixes of) (all_ended of))
    (begun_by rest (rest_bundle flip name of rest h) (rest_told flip name of rest h))))
suffixes_apart (vector of n) h =
    subst Apart (sym (suffixes_vector of n))
    (numbers_apart (suffixes of) n n 0 (leb-true n 65536 (and_left (nat_le n 65536) (is_told_apart of) h)) (omega arith)
    (suffixes_apart of (and_right (nat_le n 65536) (is_told_apart of) h)))

-- ports

ports_suffixes : (ps : List Port) → suffixes (ports_shape ps) ≡ map (λ n. 46 ∷ n) (port_names ps)
ports_suffixes [] = refl
ports_suffixes (p ∷ ps) =
    suffixes_field (not p.output) p.name (shape_of p.ty) (ports_shape ps)
    ∙ ap₂ (λ a b. a ++ b)
    (map_map (behind_name p.name) (λ (l : Leaf). l.suffix) (leaves (shape_of p.ty)) ∙ sym (map_map (λ n. 46 ∷ n) (λ (l : Leaf). p.name ++ l.suffix) (leaves (shape_of p.ty))))
    (ports_suffixes ps)
    ∙ sym (map-append (λ n. 46 ∷ n) (map (λ (l : Leaf). p.name ++ l.suffix) (leaves (shape_of p.ty))) (port_names ps))

pub port_names_apart : (ps : List Port) → is_told_apart (ports_shape ps) ≡ true → Apart (port_names ps)
port_names_apart ps h = apart_from_map (λ n. 46 ∷ n) (port_names ps) (subst Apart (ports_suffixes ps) (suffixes_apart (ports_shape ps) h))

pub port_names_counted : (ps : List Port) → length (port_names ps) ≡ size (ports_shape ps)
port_names_counted ps =
    sym (length-map (port_names ps) (λ n. 46 ∷ n)) ∙ ap length (sym (ports_suffixes ps)) ∙ length-map (leaves (ports_shape ps)) (λ (l : Leaf). l.suffix)
    ∙ leaves_counted (ports_shape ps)

pub port_entries_made : (o : Opened) (ps : List Port) → port_entries o ps ≡ map made (port_infos o ps)
port_entries_made o ps =
    sym (map_flat made (λ p. map (port_info o p) (leaves (shape_of p.ty))) (λ p. map (port_entry o p) (leaves (shape_of p.ty)))
    (λ p. map_map made (port_info o p) (leaves (shape_of p.ty))) ps)

pub port_infos_named : (o : Opened) (ps : List Port) → map (λ (i : SignalInfo). i.name) (port_infos o ps) ≡ map (λ n. o.prefix ++ n) (port_names ps)
port_infos_named o ps =
    map_flat (λ (i : SignalInfo). i.name) (λ p. map (port_info o p) (leaves (shape_of p.ty))) own
    (λ p. map_map (λ (i : SignalInfo). i.name) (port_info o p) (leaves (shape_of p.ty))) ps
    ∙ sym (map_flat (λ n. o.prefix ++ n) (λ p. map (λ (l : Leaf). p.name ++ l.suffix) (leaves (shape_of p.ty))) own
    (λ p. map_map (λ n. o.prefix ++ n) (λ (l : Leaf). p.name ++ l.suffix) (leaves (shape_of p.ty)) ∙ same_names p (leaves (shape_of p.ty))) ps)
  where
    own : Port → List (List ℕ)
    own p = map (λ (l : Leaf). (o.prefix ++ p.name) ++ l.suffix) (leaves (shape_of p.ty))

    same_names : (p : Port) (ls : List Leaf) → map (λ (l : Leaf). o.prefix ++ (p.name ++ l.suffix)) ls ≡ map (λ (l : Leaf). (o.prefix ++ p.name) ++ l.suffix) ls
    same_names p [] = refl
    same_names p (l ∷ ls) = ap₂ (λ x xs. x ∷ xs) (sym (append_assoc o.prefix p.name l.suffix)) (same_names p ls)

pub names_differ : NamesDiffer
names_differ = record {
  suffixes = λ s h. differ (suffixes s) (suffixes_apart s h);
  ports = λ ps h. differ (port_names ps) (port_names_apart ps h);
  count = port_names_counted;
  entries = port_entries_made;
  infos = port_infos_named;
}
