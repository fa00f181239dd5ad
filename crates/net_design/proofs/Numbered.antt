-- The net of a circuit is one whose signals are numbered, and its inputs are few.
use Rattle.std.proofs.Common.{◌≡◌, ◌∙◌, sym, ap, subst, ℕ, zero, suc, ◌+◌, ◌<◌, ◌≤◌, ◌^◌, true, false, Option, None, Some, List, [], ◌∷◌, ◌++◌, ◌⊎◌, inl, inr, ⊎_elim, refl, arith, length, length-append, map, get_or}
use Rattle.std.proofs.lemmas.Grind.{common_steps}
use Rattle.std.proofs.lemmas.List.{get_or_past, length-map}
use Rattle.net_core.specs.declared.tree.SignalInfo.{SignalInfo}
use Rattle.net_core.specs.declared.tree.Role.{Role}
use Rattle.net_core.specs.declared.tree.Role.TheVariants.{Input, Output, Inner, Node, Reg}
use Rattle.net_core.specs.declared.tree.GroundExpr.{GroundExpr}
use Rattle.net_core.specs.declared.tree.GroundReset.{GroundReset}
use Rattle.net_core.specs.declared.tree.Elab.{Elab}
use Rattle.net_core.specs.declared.tree.Net.{Net}
use Rattle.net_core.specs.declared.tree.Equation.{Equation}
use Rattle.net_core.specs.Signals.{info, no_info, is_input, is_port, is_register}
use Rattle.net_core.specs.Body.{body_of, conditions, whens}
use Rattle.net_core.specs.Last.{reset_of}
use Rattle.net_core.specs.Formed.{Formed, Sized}
use Rattle.net_core.specs.Nets.{net_reads, equation, equation_reads, no_equation}
use Rattle.net_resolve.specs.Resolved.{NetOf, asked, condition_signal, reset_signal, resets_from}
use Rattle.net_resolve.proofs.BodyCounts.{length-conditions}
use Rattle.net_graph.specs.NetGraphs.{IsNumbered}
use Rattle.net_graph.specs.Reaching.{input_at}
use Rattle.net_graph.proofs.SearchFacts.{before_or_past}

-- ---- how many conditions there are
at_most_one : (role : Role) (r : Option GroundReset) → length (reset_signal role r) ≤ 1
at_most_one Reg (Some r) = omega arith
at_most_one Reg None = omega arith
at_most_one Input r = omega arith
at_most_one Output r = omega arith
at_most_one Inner r = omega arith
at_most_one Node r = omega arith

few_resets : (resets : ℕ → Option GroundReset) (x : ℕ) (is : List SignalInfo) → length (resets_from resets x is) ≤ length is
few_resets resets x [] = omega arith
few_resets resets x (i ∷ is) =
    omega (arith, length-append (reset_signal i.role (resets x)) (resets_from resets (x + 1) is), at_most_one i.role (resets x), few_resets resets (x + 1) is)

few_asked : (e : Elab) → Formed e → length (asked e) ≤ 4194304 + 65536
few_asked e f =
    omega (
      arith,
      length-append (conditions (body_of e.body)) (resets_from (λ x. reset_of x (body_of e.body)) 0 e.signals),
      length-conditions (body_of e.body),
      few_resets (λ x. reset_of x (body_of e.body)) 0 e.signals,
      f.few_whens,
      f.few,
    )

signals_count : (e : Elab) (m : Net) → NetOf e m → length m.signals ≡ length e.signals + length (asked e)
signals_count e m n =
    ap (λ (s : List SignalInfo). length s) n.signals
    ∙ length-append e.signals (map (λ c. condition_signal) (asked e))
    ∙ ap (λ k. length e.signals + k) (length-map (asked e) (λ c. condition_signal))

-- ---- the signals of the circuit are the first ones
info_front : (xs ys : List SignalInfo) (x : ℕ) → x < length xs → info (xs ++ ys) x ≡ info xs x
info_front (i ∷ xs) ys zero h = refl
info_front (i ∷ xs) ys (suc x) h = info_front xs ys x (omega (arith, h))
info_front [] ys x h = absurd (omega (arith, h))

info_back : (xs : List SignalInfo) (cs : List GroundExpr) (x : ℕ) → length xs ≤ x → is_input (info (xs ++ map (λ c. condition_signal) cs) x).role ≡ false
info_back [] [] x h = refl
info_back [] (c ∷ cs) zero h = refl
info_back [] (c ∷ cs) (suc x) h = info_back [] cs x (omega arith)
info_back (i ∷ xs) cs zero h = absurd (omega (arith, h))
info_back (i ∷ xs) cs (suc x) h = info_back xs cs x (omega (arith, h))

pub same_info : (e : Elab) (m : Net) → NetOf e m → (x : ℕ) → x < length e.signals → info m.signals x ≡ info e.signals x
same_info e m n x h = ap (λ (s : List SignalInfo). info s x) n.signals ∙ info_front e.signals (map (λ c. condition_signal) (asked e)) x h

pub signal_of_net : (e : Elab) (m : Net) → NetOf e m → (x : ℕ) → x < length e.signals → x < length m.signals
signal_of_net e m n x h = omega (arith, h, signals_count e m n)

is_port_too : (role : Role) → is_input role ≡ true → is_port role ≡ true
is_port_too Input h = refl
is_port_too Output h = cc
is_port_too Inner h = cc
is_port_too Node h = cc
is_port_too Reg h = cc

-- an input of the net is one of the circuit
pub input_below : (e : Elab) (m : Net) → NetOf e m → (p : ℕ) → input_at m p ≡ true → p < length e.signals
input_below e m n p i = ⊎_elim (λ h. h)
    (λ h. absurd (let k : input_at m p ≡ false = ap (λ (s : List SignalInfo). is_input (info s p).role) n.signals ∙ info_back e.signals (asked e) p h in cc))
    (before_or_past p (length e.signals))

pub few_inputs : (e : Elab) (m : Net) → Formed e → NetOf e m → (p : ℕ) → input_at m p ≡ true → p < 256
few_inputs e m f n p i =
    let h = input_below e m n p i in
    f.few_ports p h (is_port_too (info e.signals p).role (sym (ap (λ (s : SignalInfo). is_input s.role) (same_info e m n p h)) ∙ i))

-- ---- what is read
none_past : (m : Net) (x y : ℕ) → length m.equations ≤ x → net_reads m x y ≡ false
none_past m x y h = ap (λ (q : Equation). equation_reads q y) (get_or_past m.equations x no_equation h)

reader_is : (e : Elab) (m : Net) → NetOf e m → (x y : ℕ) → net_reads m x y ≡ true → x < length m.signals
reader_is e m n x y r = ⊎_elim (λ h. h)
    (λ h. absurd (let k = none_past m x y (subst (λ q. q ≤ x) (sym n.equations) h) in cc))
    (before_or_past x (length m.signals))

pub numbered : (e : Elab) (m : Net) → Formed e → NetOf e m → IsNumbered m
numbered e m f n = record {
  equations = n.equations;
  few = omega (arith, signals_count e m n, few_asked e f, f.few);
  own = omega (arith, signals_count e m n, n.own);
  within = λ x y r. n.within x y (reader_is e m n x y r) r;
  conditions = λ c y h r. subst (λ q. y < q) (sym n.own) (n.conditions_read c y (subst (λ q. q ≤ c) n.own h) (reader_is e m n c y r) r);
}
