-- How the lines of a summary grow, a port at a time.
use Rattle.std.proofs.Common.{◌≡◌, ℕ, zero, suc, ◌+◌, ◌<◌, Bool, true, false, ◌&&◌, if◌then◌else◌, List, [], ◌∷◌, ◌++◌, length, map, take, Option, Some, None, is_none, refl, ap, sym, ◌∙◌, subst, arith, append_assoc, append-nil, add-one}
use Rattle.std.specs.Prelude.{slice_get, codes}
use Rattle.std.specs.List.{filter, flat_map, count_by}
use Rattle.std.specs.Option.{option_map_or, option_and_then}
use Rattle.std.proofs.lemmas.Grind.{flat_map-append}
use Rattle.net_core.specs.declared.ports.PortInfo.{PortInfo}
use Rattle.net_core.specs.declared.tree.Elab.{Elab}
use Rattle.net_core.specs.declared.tree.SignalInfo.{SignalInfo}
use Rattle.net_core.specs.Ports.{port_entry, ports_from}
use Rattle.net_core.specs.Signals.{info, is_input, is_port, is_register}
use Rattle.net_design.specs.Designs.{ports_of}
use Rattle.net_design.specs.Naming.{in_cone}
use Rattle.out_text.specs.Summary.{from_text, port_text, count_text, counts_text}
use Rattle.out_text.specs.Steps.{IsPortOf, next_text, input_of, input_at, line_at}

-- a port of the table is that of a signal

record Listed (k : ℕ) (signals : List SignalInfo) (p : PortInfo) : Type 0 where
  pub place : ℕ
  pub within : place < length signals
  pub number : p.signal.0 ≡ k + place
  pub input : p.input ≡ is_input (info signals place).role

one_further : (k : ℕ) (i : SignalInfo) (signals : List SignalInfo) (p : PortInfo) → Listed (k + 1) signals p → Listed k (i ∷ signals) p
one_further k i signals p h =
    let number : p.signal.0 ≡ k + 1 + h.place = h.number in
    let within : h.place < length signals = h.within in
    record { place = suc h.place; within = omega arith; number = omega arith; input = h.input }

listed_by : (k : ℕ) (i : SignalInfo) (signals : List SignalInfo) (n : ℕ) (p : List ℕ × PortInfo) (port : Bool)
    → ((m : ℕ) → slice_get (ports_from (k + 1) signals) m ≡ Some p → Listed (k + 1) signals p.1)
    → slice_get (if port then port_entry k i ∷ ports_from (k + 1) signals else ports_from (k + 1) signals) n ≡ Some p → Listed k (i ∷ signals) p.1
listed_by k i signals zero p true further h =
    let is : port_entry k i ≡ p = cc in
    subst (λ (q : List ℕ × PortInfo). Listed k (i ∷ signals) q.1) is (record { place = 0; within = omega arith; number = omega arith; input = refl })
listed_by k i signals (suc n) p true further h = one_further k i signals p.1 (further n h)
listed_by k i signals n p false further h = one_further k i signals p.1 (further n h)

listed : (k : ℕ) (signals : List SignalInfo) (n : ℕ) (p : List ℕ × PortInfo) → slice_get (ports_from k signals) n ≡ Some p → Listed k signals p.1
listed k [] n p h = absurd cc
listed k (i ∷ signals) n p h = listed_by k i signals n p (is_port i.role) (λ m. listed (k + 1) signals m p) h

pub port_listed : (e : Elab) (ports : List (List ℕ × PortInfo)) (k : ℕ) (p : List ℕ × PortInfo) → ports ≡ ports_of e → Some p ≡ slice_get ports k → IsPortOf e p.1
port_listed e ports k p is h =
    let found : Listed 0 e.signals p.1 = listed 0 e.signals k p (ap (λ (ps : List (List ℕ × PortInfo)). slice_get ps k) (sym is) ∙ sym h) in
    let number : p.1.signal.0 ≡ 0 + found.place = found.number in
    let within : found.place < length e.signals = found.within in
    let at : found.place ≡ p.1.signal.0 = omega arith in
    record { signal = omega arith; input = found.input ∙ ap (λ x. is_input (info e.signals x).role) at }

-- the lines of the ports

pub lines_more : {X : Type 0} (f : X → List ℕ) (xs : List X) (k : ℕ) → flat_map f (take (suc k) xs) ≡ flat_map f (take k xs) ++ option_map_or f (slice_get xs k) []
lines_more f [] zero = refl
lines_more f [] (suc k) = refl
lines_more f (x ∷ xs) zero = append-nil (f x)
lines_more f (x ∷ xs) (suc k) = ap (λ (l : List ℕ). f x ++ l) (lines_more f xs k) ∙ sym (append_assoc (f x) (flat_map f (take k xs)) (option_map_or f (slice_get xs k) []))

-- the names of a cone

abbrev pub names_to : Elab → ℕ → ℕ → List (List ℕ)
names_to e x k = map (λ p. p.0) (filter (λ p. p.1.input && in_cone e x p.1.signal.0) (take k (ports_of e)))

abbrev listed_name : Option (List ℕ) → List (List ℕ)
listed_name None = []
listed_name (Some name) = name ∷ []

abbrev names_in : Elab → ℕ → List (List ℕ × PortInfo) → List (List ℕ)
names_in e x ps = map (λ p. p.0) (filter (λ p. p.1.input && in_cone e x p.1.signal.0) ps)

first_name : (e : Elab) (x : ℕ) (p : List ℕ × PortInfo) (t : Bool) → map (λ (q : List ℕ × PortInfo). q.0) (if t then p ∷ [] else []) ≡ listed_name (if t then Some p.0 else None)
first_name e x p true = refl
first_name e x p false = refl

keeps_name : (p : List ℕ × PortInfo) (t : Bool) (ps qs : List (List ℕ × PortInfo)) (more : List (List ℕ))
    → map (λ (q : List ℕ × PortInfo). q.0) ps ≡ map (λ (q : List ℕ × PortInfo). q.0) qs ++ more
    → map (λ (q : List ℕ × PortInfo). q.0) (if t then p ∷ ps else ps) ≡ map (λ (q : List ℕ × PortInfo). q.0) (if t then p ∷ qs else qs) ++ more
keeps_name p true ps qs more h = ap (λ (l : List (List ℕ)). p.0 ∷ l) h
keeps_name p false ps qs more h = h

names_more : (e : Elab) (x : ℕ) (ps : List (List ℕ × PortInfo)) (k : ℕ)
    → names_in e x (take (suc k) ps) ≡ names_in e x (take k ps) ++ listed_name (option_and_then (input_of e x) (slice_get ps k))
names_more e x [] zero = refl
names_more e x [] (suc k) = refl
names_more e x (p ∷ ps) zero = first_name e x p (p.1.input && in_cone e x p.1.signal.0)
names_more e x (p ∷ ps) (suc k) =
    keeps_name p (p.1.input && in_cone e x p.1.signal.0) (filter (λ p. p.1.input && in_cone e x p.1.signal.0) (take (suc k) ps))
    (filter (λ p. p.1.input && in_cone e x p.1.signal.0) (take k ps)) (listed_name (option_and_then (input_of e x) (slice_get ps k))) (names_more e x ps k)

-- the text of so many names

abbrev pub none_of : List (List ℕ) → Bool
none_of [] = true
none_of (n ∷ ns) = false

text_more : (names : List (List ℕ)) (o : Option (List ℕ)) → from_text (names ++ listed_name o) ≡ from_text names ++ next_text (none_of names) o
text_more names None = ap from_text (append-nil names) ∙ sym (append-nil (from_text names))
text_more [] (Some name) = ap (λ (l : List ℕ). codes " from" ++ l) (append-nil (codes " " ++ name))
text_more (n ∷ ns) (Some name) =
    ap (λ (l : List ℕ). codes " from" ++ l) (flat_map-append (λ (m : List ℕ). codes " " ++ m) (n ∷ ns) (name ∷ []))
    ∙ ap (λ (l : List ℕ). codes " from" ++ (flat_map (λ (m : List ℕ). codes " " ++ m) (n ∷ ns) ++ l)) (append-nil (codes " " ++ name))
    ∙ sym (append_assoc (codes " from") (flat_map (λ (m : List ℕ). codes " " ++ m) (n ∷ ns)) (codes " " ++ name))

none_more : (names : List (List ℕ)) (o : Option (List ℕ)) → none_of (names ++ listed_name o) ≡ (none_of names && is_none o)
none_more [] None = refl
none_more [] (Some name) = refl
none_more (n ∷ ns) o = refl

-- so many ports were looked at

pub record NamesPut (e : Elab) (x k : ℕ) (before text : List ℕ) (is_first : Bool) : Type 0 where
  pub text_is : text ≡ before ++ from_text (names_to e x k)
  pub first_is : is_first ≡ none_of (names_to e x k)

pub names_put : (e : Elab) (x k : ℕ) (before text next : List ℕ) (is_first still : Bool) → NamesPut e x k before text is_first
    → next ≡ text ++ next_text is_first (input_at e x k) → still ≡ (is_first && is_none (input_at e x k)) → NamesPut e x (k + 1) before next still
names_put e x k before text next is_first still h n s = rw add-one (record {
  text_is =
      n ∙ ap (λ (l : List ℕ). l ++ next_text is_first (input_at e x k)) h.text_is
      ∙ append_assoc before (from_text (names_to e x k)) (next_text is_first (input_at e x k))
      ∙ ap (λ (b : Bool). before ++ (from_text (names_to e x k) ++ next_text b (input_at e x k))) h.first_is
      ∙ ap (λ (l : List ℕ). before ++ l) (sym (text_more (names_to e x k) (input_at e x k)))
      ∙ ap (λ (ns : List (List ℕ)). before ++ from_text ns) (sym (names_more e x (ports_of e) k));
  first_is =
      s ∙ ap (λ (b : Bool). b && is_none (input_at e x k)) h.first_is ∙ sym (none_more (names_to e x k) (input_at e x k))
      ∙ ap none_of (sym (names_more e x (ports_of e) k));
})

pub lines_put : (e : Elab) (k : ℕ) (before text next : List ℕ) → text ≡ before ++ flat_map (port_text e) (take k (ports_of e))
    → next ≡ text ++ line_at e k → next ≡ before ++ flat_map (port_text e) (take (k + 1) (ports_of e))
lines_put e k before text next h n = rw add-one (
    n ∙ ap (λ (l : List ℕ). l ++ line_at e k) h ∙ append_assoc before (flat_map (port_text e) (take k (ports_of e))) (line_at e k)
    ∙ ap (λ (l : List ℕ). before ++ l) (sym (lines_more (port_text e) (ports_of e) k)))

-- the line of the counts

appended : (o a b c d x y z n : List ℕ) → a ≡ o ++ x → b ≡ a ++ y → c ≡ b ++ z → d ≡ c ++ n → d ≡ o ++ (x ++ (y ++ (z ++ n)))
appended o a b c d x y z n h i j k =
    k ∙ ap (λ (l : List ℕ). l ++ n) j ∙ append_assoc b z n
    ∙ ap (λ (l : List ℕ). l ++ (z ++ n)) i ∙ append_assoc a y (z ++ n)
    ∙ ap (λ (l : List ℕ). l ++ (y ++ (z ++ n))) h ∙ append_assoc o x (y ++ (z ++ n))

pub counts_put : (e : Elab) (signals : List SignalInfo) (ports registers : ℕ) (o a b c d : List ℕ)
    → signals ≡ e.signals → ports ≡ length (ports_of e) → registers ≡ count_by (λ (i : SignalInfo). is_register i.role) signals
    → a ≡ o ++ count_text (codes "ports ") ports → b ≡ a ++ count_text (codes " signals ") (length signals)
    → c ≡ b ++ count_text (codes " registers ") registers → d ≡ c ++ codes "\n" → d ≡ o ++ counts_text e
counts_put e signals ports registers o a b c d s p r h i j k =
    let of_registers : registers ≡ count_by (λ (i : SignalInfo). is_register i.role) e.signals = r ∙ ap (count_by (λ (i : SignalInfo). is_register i.role)) s in
    appended o a b c d (count_text (codes "ports ") (length (ports_of e))) (count_text (codes " signals ") (length e.signals))
    (count_text (codes " registers ") (count_by (λ (i : SignalInfo). is_register i.role) e.signals)) (codes "\n")
    (h ∙ ap (λ n. o ++ count_text (codes "ports ") n) p) (i ∙ ap (λ (is : List SignalInfo). a ++ count_text (codes " signals ") (length is)) s)
    (j ∙ ap (λ n. b ++ count_text (codes " registers ") n) of_registers) k
