-- The net of a sized circuit fits the engine, and so does an order of its signals.
use Rattle.std.proofs.Common.{◌≡◌, ◌∙◌, sym, ap, subst, ℕ, zero, suc, ◌<◌, ◌≤◌, true, ◌&&◌, List, [], ◌∷◌, ◌++◌, Option, Some, None, refl, map, length, arith}
use Rattle.std.specs.Prelude.{unwrap_or}
use Rattle.std.specs.List.{All, Contains}
use Rattle.std.proofs.lemmas.Bool.{or_parts, leb-true}
use Rattle.std.proofs.lemmas.List.{get_or_append_left}
use Rattle.std.proofs.lemmas.List.Elements.{All-head, All-tail, All-append, All-map, All-contains}
use Rattle.net_core.specs.declared.tree.SignalInfo.{SignalInfo}
use Rattle.net_core.specs.declared.tree.GroundExpr.{GroundExpr}
use Rattle.net_core.specs.declared.tree.Equation.{Equation}
use Rattle.net_core.specs.declared.tree.Equation.TheVariants.{Input, Comb, Reg}
use Rattle.net_core.specs.declared.tree.Elab.{Elab}
use Rattle.net_core.specs.declared.tree.Net.{Net}
use Rattle.net_core.specs.Signals.{info, no_info, given_width}
use Rattle.net_core.specs.Values.{mentions}
use Rattle.net_core.specs.Body.{body_of}
use Rattle.net_core.specs.Nets.{Choices, nothing, take, branch, choices_of, equation, net_reads}
use Rattle.net_core.specs.WidthRules.{Use, uses}
use Rattle.net_core.specs.Formed.{Sized, width_fits}
use Rattle.net_core.proofs.FormedFacts.{All-left, All-right}
use Rattle.net_resolve.specs.Resolved.{NetOf, asked, condition_signal}
use Rattle.net_resolve.specs.Sources.{circuit_expressions, choice_expressions, equation_expressions, of_source}
use Rattle.net_resolve.proofs.Sound.{none_wide, none_bad}
use Rattle.net_graph.specs.Graphs as graphs
use Rattle.net_graph.specs.Graphs.{IsOrder}
use Rattle.sim_plain.specs.Words.{InWidths, held, source_fits, choices_fit}
use Rattle.sim_plain.specs.Ready.{Fits, Follows, InOrder, equation_fits}
use Rattle.sim_plain.proofs.Fitting.{Sound, sound_fits, alike, both}

abbrev Held : List SignalInfo → (ℕ → ℕ) → GroundExpr → Type 0
Held signals V u = (held signals V u).fits ≡ true

source_holds : (signals : List SignalInfo) (V : ℕ → ℕ) (e : Option GroundExpr) → All (Held signals V) (of_source e) → source_fits signals V e ≡ true
source_holds signals V None h = refl
source_holds signals V (Some e) h = All-head (Held signals V) e [] h

choices_hold : (signals : List SignalInfo) (V : ℕ → ℕ) (c : Choices) → All (Held signals V) (choice_expressions c) → choices_fit signals V c ≡ true
choices_hold signals V nothing h = refl
choices_hold signals V (take e rest) h =
    both (source_fits signals V e) (choices_fit signals V rest)
    (source_holds signals V e (All-left (Held signals V) (of_source e) (choice_expressions rest) h))
    (choices_hold signals V rest (All-right (Held signals V) (of_source e) (choice_expressions rest) h))
choices_hold signals V (branch k t o rest) h =
    let P = Held signals V in
    let u = All-right P (choice_expressions t) (choice_expressions o ++ choice_expressions rest) h in
    both (choices_fit signals V t && choices_fit signals V o) (choices_fit signals V rest)
    (both (choices_fit signals V t) (choices_fit signals V o)
    (choices_hold signals V t (All-left P (choice_expressions t) (choice_expressions o ++ choice_expressions rest) h))
    (choices_hold signals V o (All-left P (choice_expressions o) (choice_expressions rest) u)))
    (choices_hold signals V rest (All-right P (choice_expressions o) (choice_expressions rest) u))

equation_holds : (signals : List SignalInfo) (V : ℕ → ℕ) (q : Equation) → All (Held signals V) (equation_expressions q) → equation_fits signals V q ≡ true
equation_holds signals V Input h = refl
equation_holds signals V (Comb choices) h = choices_hold signals V (choices_of choices) h
equation_holds signals V (Reg next) h = choices_hold signals V (choices_of next) h

-- a sound expression over the circuit's signals
abbrev Right : Elab → GroundExpr → Type 0
Right e g = Sound e.signals g × ((y : ℕ) → mentions g y ≡ true → y < length e.signals)

all_right : (e : Elab) → Sized e → All (λ (u : Use). Right e u.expr) (uses (body_of e.body))
all_right e s k d l = (
  record { right = s.formed.right k d l; thin = none_wide e s k d l; good = (or_parts _ _ (none_bad e s k d l)).0 },
  s.formed.read k d l,
)

right : (e : Elab) → Sized e → (g : GroundExpr) → Contains (circuit_expressions e) g → Right e g
right e s g h = All-contains (Right e) (circuit_expressions e) g (All-map (Right e) (λ (u : Use). u.expr) (uses (body_of e.body)) (all_right e s)) h

info_own : (e : Elab) (net : Net) → NetOf e net → (y : ℕ) → y < length e.signals → info net.signals y ≡ info e.signals y
info_own e net n y l =
    ap (λ (is : List SignalInfo). info is y) n.signals ∙ get_or_append_left e.signals (map (λ c. condition_signal) (asked e)) no_info y l

right_holds : (e : Elab) (net : Net) → NetOf e net → (V : ℕ → ℕ) (g : GroundExpr) → Right e g → Held net.signals V g
right_holds e net n V g r =
    ap (λ (h : Rattle.sim_plain.specs.Words.Held). h.fits) (alike net.signals e.signals V g (λ y m. info_own e net n y (r.1 y m))) ∙ sound_fits e.signals V g r.0

abbrev Narrow : SignalInfo → Type 0
Narrow i = width_fits i.width ≡ true

narrow_width : (w : Option ℕ) → width_fits w ≡ true → unwrap_or w 0 ≤ 128
narrow_width None h = omega arith
narrow_width (Some w) h = leb-true w 128 h

narrow_at : (is : List SignalInfo) → All Narrow is → (x : ℕ) → given_width (info is x) ≤ 128
narrow_at [] h zero = omega arith
narrow_at [] h (suc x) = omega arith
narrow_at (i ∷ is) h zero = narrow_width i.width (All-head Narrow i is h)
narrow_at (i ∷ is) h (suc x) = narrow_at is (All-tail Narrow i is h) x

all_narrow : (e : Elab) (net : Net) → Sized e → NetOf e net → All Narrow net.signals
all_narrow e net s n =
    subst (All Narrow) (sym n.signals)
    (All-append Narrow e.signals (map (λ c. condition_signal) (asked e)) s.formed.narrow
    (All-map Narrow (λ (c : GroundExpr). condition_signal) (asked e) (λ k d l. refl)))

pub sized_nets_fit : (e : Elab) (net : Net) → Sized e → NetOf e net → Fits net
sized_nets_fit e net s n = record {
  equations = n.equations;
  narrow = narrow_at net.signals (all_narrow e net s n);
  held = λ V i x l. equation_holds net.signals V (equation net x) (λ k d m. right_holds e net n V _ (right e s _ (n.sources x l k d m)));
}

follows_as : (net : Net) (seen xs : List ℕ) → graphs.Follows (net_reads net) seen xs → Follows net seen xs
follows_as net seen [] h = tt
follows_as net seen (x ∷ xs) h = (h.0, h.1, follows_as net (x ∷ seen) xs h.2)

pub in_order : (net : Net) (order : List ℕ) → IsOrder (net_reads net) (length net.signals) order → InOrder net order
in_order net order o = record { follows = follows_as net [] order o.follows; all = o.all; own = o.own }
