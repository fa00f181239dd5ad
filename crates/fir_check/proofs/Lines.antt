-- Ports, noted one after another.
use Rattle.std.proofs.Common.{ℕ, ◌≡◌, ◌+◌, ◌<◌, ◌≤◌, Bool, true, false, cond, not, ◌||◌, ◌&&◌, Option, is_none, List, [], ◌∷◌, ◌++◌, map, filter, length, drop, get_or, refl, sym, ap, ◌∙◌}
use Rattle.std.proofs.lemmas.List.{drop_all}
use Rattle.fir_ast.specs.declared.tree.Port.{Port}
use Rattle.fir_check.specs.declared.best.Rule.{Rule}
use Rattle.fir_check.specs.declared.best.Rule.TheVariants.{DoubleName, WrongKind, ClockUse}
use Rattle.fir_check.specs.Names.{kept, seconds}
use Rattle.fir_check.specs.Types.{repeats_field}
use Rattle.fir_check.specs.Scopes.{port_name}
use Rattle.fir_check.specs.Rules.{port_lines, misplaces_clock, is_clock_input, has_unsized_input}
use Rattle.fir_check.specs.Places.{place, least, lowered}
use Rattle.fir_check.specs.Ports.{port_breaks, main_breaks}
use Rattle.fir_check.specs.Tables.{number_named, with_name}
use Rattle.fir_check.proofs.Least.{lower-least, least-append, least-swap, map-append}
use Rattle.fir_check.proofs.Doubles.{kept-places, next_item, double_places, doubles_next}

-- what is left of the ports, from the i-th
pub record PortsLeft (r : Rule) (test : Port → Bool) (ports : List Port) (i : ℕ) (best start : Option ℕ) : Type 0 where
  pub noted : least best (map (place r) (port_lines test (drop i ports))) ≡ least start (map (place r) (port_lines test ports))

filter-kept : {X : Type 0} (test : X → Bool) (x : X) (xs : List X) → filter test (x ∷ xs) ≡ kept (test x) x (filter test xs)
filter-kept test x xs = step (test x)
  where
    step : (b : Bool) → cond b (x ∷ filter test xs) (filter test xs) ≡ kept b x (filter test xs)
    step true = refl
    step false = refl

pub ports_next : (r : Rule) (test : Port → Bool) (ports : List Port) (i : ℕ) (x : Port) (o p start : Option ℕ) (b : Bool)
    → i < length ports → x ≡ get_or ports i x → b ≡ test x → p ≡ least o (map (place r) (kept b x.line [])) → PortsLeft r test ports i o start → PortsLeft r test ports (i + 1) p start
ports_next r test ports i x o p start b h e t q l =
    let rest : List Port = filter test (drop (i + 1) ports) in
    record {
      noted =
          ap (λ m. least m (map (place r) (map (λ y. y.line) rest))) (q ∙ ap (λ c. least o (map (place r) (kept c x.line []))) t)
          ∙ sym (kept-places r (λ y. y.line) (test x) x rest o)
          ∙ ap (λ ys. least o (map (place r) (map (λ y. y.line) ys))) (sym (filter-kept test x (drop (i + 1) ports)) ∙ ap (filter test) (sym (next_item ports i x h e)))
          ∙ l.noted;
    }

pub ports_end : (r : Rule) (test : Port → Bool) (ports : List Port) (i : ℕ) (best start : Option ℕ) → length ports ≤ i → PortsLeft r test ports i best start → best ≡ least start (map (place r) (port_lines test ports))
ports_end r test ports i best start h l = ap (λ ys. least best (map (place r) (port_lines test ys))) (sym (drop_all i ports h)) ∙ l.noted

-- names of ports

pub record NamesLeft (ports : List Port) (i : ℕ) (table : List (List ℕ × ℕ)) (best start : Option ℕ) : Type 0 where
  pub noted : least best (double_places port_name (λ p. p.line) table (drop i ports)) ≡ least start (map (place DoubleName) (map (λ p. p.line) (seconds port_name ports)))

pub names_start : (ports : List Port) (table : List (List ℕ × ℕ)) (start : Option ℕ) → table ≡ [] → NamesLeft ports 0 table start start
names_start ports table start e = record { noted = ap (λ t. least start (double_places port_name (λ p. p.line) t ports)) e }

pub names_next : (ports : List Port) (i : ℕ) (x : Port) (table after : List (List ℕ × ℕ)) (o p start : Option ℕ) (is_new : Bool)
    → i < length ports → x ≡ get_or ports i x → after ≡ with_name x.name i table → is_new ≡ is_none (number_named x.name table) → p ≡ least o (map (place DoubleName) (kept (not is_new) x.line []))
    → NamesLeft ports i table o start → NamesLeft ports (i + 1) after p start
names_next ports i x table after o p start is_new h e a n q l = record {
  noted = doubles_next port_name (λ y. y.line) x (drop (i + 1) ports) i table after o p is_new a n q
      ∙ ap (λ ys. least o (double_places port_name (λ y. y.line) table ys)) (sym (next_item ports i x h e)) ∙ l.noted;
}

pub names_end : (ports : List Port) (i : ℕ) (table : List (List ℕ × ℕ)) (best start : Option ℕ) → length ports ≤ i → NamesLeft ports i table best start → best ≡ least start (map (place DoubleName) (map (λ p. p.line) (seconds port_name ports)))
names_end ports i table best start h l = ap (λ ys. least best (double_places port_name (λ p. p.line) table ys)) (sym (drop_all i ports h)) ∙ l.noted

-- the second clock and those behind it

abbrev behind_first : Bool → List ℕ → List ℕ
behind_first true lines = lines
behind_first false lines = drop 1 lines

pub record ClocksLeft (ports : List Port) (i : ℕ) (seen : Bool) (best start : Option ℕ) : Type 0 where
  pub noted : least best (map (place ClockUse) (behind_first seen (port_lines is_clock_input (drop i ports)))) ≡ least start (map (place ClockUse) (drop 1 (port_lines is_clock_input ports)))

clock-step : (seen clock : Bool) (line : ℕ) (rest : List ℕ) (o : Option ℕ)
    → least (least o (map (place ClockUse) (kept (seen && clock) line []))) (map (place ClockUse) (behind_first (seen || clock) rest)) ≡ least o (map (place ClockUse) (behind_first seen (kept clock line rest)))
clock-step true true line rest o = sym (lower-least (place ClockUse line) o (map (place ClockUse) rest))
clock-step true false line rest o = refl
clock-step false true line rest o = refl
clock-step false false line rest o = refl

line-kept : (b : Bool) (x : Port) (xs : List Port) → map (λ y. y.line) (kept b x xs) ≡ kept b x.line (map (λ y. y.line) xs)
line-kept true x xs = refl
line-kept false x xs = refl

pub clocks_next : (ports : List Port) (i : ℕ) (x : Port) (seen after clock : Bool) (o p start : Option ℕ)
    → i < length ports → x ≡ get_or ports i x → clock ≡ is_clock_input x → after ≡ (seen || clock) → p ≡ least o (map (place ClockUse) (kept (seen && clock) x.line []))
    → ClocksLeft ports i seen o start → ClocksLeft ports (i + 1) after p start
clocks_next ports i x seen after clock o p start h e t a q l =
    let rest : List ℕ = port_lines is_clock_input (drop (i + 1) ports) in
    record {
      noted =
          ap (λ m. least m (map (place ClockUse) (behind_first after rest))) q
          ∙ ap (λ s. least (least o (map (place ClockUse) (kept (seen && clock) x.line []))) (map (place ClockUse) (behind_first s rest))) a
          ∙ clock-step seen clock x.line rest o
          ∙ ap (λ b. least o (map (place ClockUse) (behind_first seen (kept b x.line rest)))) t
          ∙ ap (λ ys. least o (map (place ClockUse) (behind_first seen ys)))
          (sym (line-kept (is_clock_input x) x (filter is_clock_input (drop (i + 1) ports))) ∙ ap (map (λ y. y.line)) (sym (filter-kept is_clock_input x (drop (i + 1) ports)) ∙ ap (filter is_clock_input) (sym (next_item ports i x h e))))
          ∙ l.noted;
    }

pub clocks_end : (ports : List Port) (i : ℕ) (seen : Bool) (best start : Option ℕ) → length ports ≤ i → ClocksLeft ports i seen best start → best ≡ least start (map (place ClockUse) (drop 1 (port_lines is_clock_input ports)))
clocks_end ports i seen best start h l =
    none seen ∙ ap (λ ys. least best (map (place ClockUse) (behind_first seen (port_lines is_clock_input ys)))) (sym (drop_all i ports h)) ∙ l.noted
  where
    none : (s : Bool) → best ≡ least best (map (place ClockUse) (behind_first s []))
    none true = refl
    none false = refl

-- together

pub ports_together : (ports : List Port) (o a b d : Option ℕ)
    → a ≡ least o (map (place DoubleName) (map (λ p. p.line) (seconds port_name ports))) → b ≡ least a (map (place DoubleName) (port_lines (λ p. repeats_field p.ty) ports))
    → d ≡ least b (map (place ClockUse) (port_lines misplaces_clock ports)) → d ≡ lowered o (port_breaks ports)
ports_together ports o a b d p q r =
    let xs : List ℕ = map (λ y. y.line) (seconds port_name ports) in
    let ys : List ℕ = port_lines (λ y. repeats_field y.ty) ports in
    r ∙ ap (λ m. least m (map (place ClockUse) (port_lines misplaces_clock ports))) (q ∙ ap (λ m. least m (map (place DoubleName) ys)) p ∙ sym (least-append o (map (place DoubleName) xs) (map (place DoubleName) ys)) ∙ ap (least o) (sym (map-append (place DoubleName) xs ys)))
    ∙ least-swap o (map (place DoubleName) (xs ++ ys)) (map (place ClockUse) (port_lines misplaces_clock ports))

pub main_together : (ports : List Port) (o a b : Option ℕ)
    → a ≡ least o (map (place WrongKind) (port_lines has_unsized_input ports)) → b ≡ least a (map (place ClockUse) (drop 1 (port_lines is_clock_input ports))) → b ≡ lowered o (main_breaks ports)
main_together ports o a b p q =
    q ∙ ap (λ m. least m (map (place ClockUse) (drop 1 (port_lines is_clock_input ports)))) p
    ∙ least-swap o (map (place WrongKind) (port_lines has_unsized_input ports)) (map (place ClockUse) (drop 1 (port_lines is_clock_input ports)))
