-- All parts of a circuit, one after another.
use Rattle.std.proofs.Common.{ℕ, ◌≡◌, ◌+◌, ◌<◌, ◌≤◌, Option, None, Some, List, [], ◌∷◌, ◌++◌, map, length, drop, get_or, refl, sym, ap, ◌∙◌}
use Rattle.std.specs.Prelude.{flat_map, option_to_list}
use Rattle.std.proofs.lemmas.List.{drop_all}
use Rattle.fir_ast.specs.declared.tree.Port.{Port}
use Rattle.fir_ast.specs.declared.tree.Module.{Module}
use Rattle.fir_ast.specs.declared.tree.Circuit.{Circuit}
use Rattle.fir_check.specs.declared.best.Rule.{Rule}
use Rattle.fir_check.specs.declared.best.Rule.TheVariants.{NoMain, DoubleName, UnknownName, WrongKind, WrongFlow, ClockUse, InstanceCycle}
use Rattle.fir_check.specs.Names.{seconds}
use Rattle.fir_check.specs.Scopes.{module_name, module_named}
use Rattle.fir_check.specs.Rules.{no_main_lines, cycle_lines, broken_lines}
use Rattle.fir_check.specs.Places.{place, least, lowered}
use Rattle.fir_check.specs.Ports.{all_port_breaks, main_breaks, named_breaks}
use Rattle.fir_check.specs.Walking.{all_body_breaks}
use Rattle.fir_check.proofs.Never.{never_body}
use Rattle.fir_check.proofs.Least.{lowered-both, lowered-same}
use Rattle.fir_check.proofs.Doubles.{next_item}

abbrev pub Lines : Type 0
Lines = Module → Rule → List ℕ

abbrev pub all_of : Lines → List Module → Rule → List ℕ
all_of f modules rule = flat_map (λ m. f m rule) modules

-- what is left of the modules, from the i-th
pub record ModulesLeft (f : Lines) (modules : List Module) (i : ℕ) (best start : Option ℕ) : Type 0 where
  pub whole : (b : Option ℕ) → b ≡ lowered best (all_of f (drop i modules)) → b ≡ lowered start (all_of f modules)

pub modules_start : (f : Lines) (modules : List Module) (start : Option ℕ) → ModulesLeft f modules 0 start start
modules_start f modules start = record { whole = λ b e. e }

pub modules_next : (f : Lines) (modules : List Module) (i : ℕ) (m : Module) (o p start : Option ℕ) → i < length modules → m ≡ get_or modules i m → p ≡ lowered o (f m)
    → ModulesLeft f modules i o start → ModulesLeft f modules (i + 1) p start
modules_next f modules i m o p start h e q l = record {
  whole = λ b w. l.whole b (lowered-same o b (λ r. f m r ++ all_of f (drop (i + 1) modules) r) (all_of f (drop i modules)) (lowered-both o p b (f m) (all_of f (drop (i + 1) modules)) q w)
      (λ r. ap (λ xs. all_of f xs r) (sym (next_item modules i m h e))));
}

none_left : (o : Option ℕ) → o ≡ lowered o (λ r. [])
none_left o = refl

pub modules_end : (f : Lines) (modules : List Module) (i : ℕ) (best start : Option ℕ) → length modules ≤ i → ModulesLeft f modules i best start → best ≡ lowered start (all_of f modules)
modules_end f modules i best start h l = l.whole best (lowered-same best best (λ r. []) (all_of f (drop i modules)) (none_left best) (λ r. ap (λ xs. all_of f xs r) (sym (drop_all i modules h))))

-- the lines of one rule
abbrev only_main : List ℕ → Rule → List ℕ
only_main lines NoMain = lines
only_main lines _ = []

abbrev only_double : List ℕ → Rule → List ℕ
only_double lines DoubleName = lines
only_double lines _ = []

abbrev only_cycle : List ℕ → Rule → List ℕ
only_cycle lines InstanceCycle = lines
only_cycle lines _ = []

append_none : (xs : List ℕ) → xs ++ [] ≡ xs
append_none [] = refl
append_none (x ∷ xs) = ap (λ t. x ∷ t) (append_none xs)

append_assoc : (xs ys zs : List ℕ) → (xs ++ ys) ++ zs ≡ xs ++ (ys ++ zs)
append_assoc [] ys zs = refl
append_assoc (x ∷ xs) ys zs = ap (λ t. x ∷ t) (append_assoc xs ys zs)

nothing_of : {X : Type 0} (xs : List X) → flat_map {A = ℕ} (λ x. []) xs ≡ []
nothing_of [] = refl
nothing_of (x ∷ xs) = nothing_of xs

all_nothing : (f : Module → List ℕ) → ((m : Module) → f m ≡ []) → (ms : List Module) → flat_map f ms ≡ []
all_nothing f h [] = refl
all_nothing f h (m ∷ ms) = ap (λ t. t ++ flat_map f ms) (h m) ∙ all_nothing f h ms

-- a rule's lines, in the order in which the parts are gone through
abbrev parts_of : Circuit → Rule → List ℕ
parts_of c r =
    ((((only_main (no_main_lines c) r ++ only_double (map (λ m. m.line) (seconds module_name c.modules)) r) ++ all_port_breaks c.modules r) ++ named_breaks (module_named c.name c.modules) r)
    ++ all_body_breaks c.modules r) ++ only_cycle (cycle_lines c.modules) r

-- what is empty goes
gone : (xs ys : List ℕ) → ys ≡ [] → xs ++ ys ≡ xs
gone xs ys e = ap (λ t. xs ++ t) e ∙ append_none xs

first_gone : (xs ys : List ℕ) → xs ≡ [] → xs ++ ys ≡ ys
first_gone xs ys e = ap (λ t. t ++ ys) e

each_rule : (c : Circuit) (r : Rule) → parts_of c r ≡ broken_lines r c
each_rule c NoMain =
    append_none _
    ∙ gone _ (all_body_breaks c.modules NoMain) (all_nothing _ (λ m. never_body c.modules m) c.modules)
    ∙ gone _ (named_breaks (module_named c.name c.modules) NoMain) (nothing_of (option_to_list (module_named c.name c.modules)))
    ∙ gone _ (all_port_breaks c.modules NoMain) (nothing_of c.modules)
    ∙ append_none _
each_rule c DoubleName =
    append_none _
    ∙ ap (λ t. t ++ all_body_breaks c.modules DoubleName) (gone _ (named_breaks (module_named c.name c.modules) DoubleName) (nothing_of (option_to_list (module_named c.name c.modules))))
    ∙ append_assoc (map (λ m. m.line) (seconds module_name c.modules)) (all_port_breaks c.modules DoubleName) (all_body_breaks c.modules DoubleName)
each_rule c UnknownName =
    append_none _
    ∙ ap (λ t. t ++ all_body_breaks c.modules UnknownName) (gone _ (named_breaks (module_named c.name c.modules) UnknownName) (nothing_of (option_to_list (module_named c.name c.modules))) ∙ nothing_of c.modules)
each_rule c WrongKind =
    append_none _
    ∙ ap (λ t. (t ++ named_breaks (module_named c.name c.modules) WrongKind) ++ all_body_breaks c.modules WrongKind) (nothing_of c.modules)
each_rule c WrongFlow =
    append_none _
    ∙ ap (λ t. t ++ all_body_breaks c.modules WrongFlow) (gone _ (named_breaks (module_named c.name c.modules) WrongFlow) (nothing_of (option_to_list (module_named c.name c.modules))) ∙ nothing_of c.modules)
each_rule c ClockUse =
    append_none _
    ∙ append_assoc (all_port_breaks c.modules ClockUse) (named_breaks (module_named c.name c.modules) ClockUse) (all_body_breaks c.modules ClockUse)
each_rule c InstanceCycle =
    first_gone _ (cycle_lines c.modules)
    (gone _ (all_body_breaks c.modules InstanceCycle) (all_nothing _ (λ m. never_body c.modules m) c.modules)
    ∙ gone _ (named_breaks (module_named c.name c.modules) InstanceCycle) (nothing_of (option_to_list (module_named c.name c.modules)))
    ∙ nothing_of c.modules)

pub together : (c : Circuit) (o a b d e f g : Option ℕ) → o ≡ None
    → a ≡ least o (map (place NoMain) (no_main_lines c)) → b ≡ least a (map (place DoubleName) (map (λ m. m.line) (seconds module_name c.modules))) → d ≡ lowered b (all_port_breaks c.modules)
    → e ≡ lowered d (named_breaks (module_named c.name c.modules)) → f ≡ lowered e (all_body_breaks c.modules) → g ≡ least f (map (place InstanceCycle) (cycle_lines c.modules))
    → g ≡ lowered None (λ rule. broken_lines rule c)
together c o a b d e f g n p q r s t u =
    let f1 : Rule → List ℕ = only_main (no_main_lines c) in
    let f2 : Rule → List ℕ = only_double (map (λ m. m.line) (seconds module_name c.modules)) in
    let f3 : Rule → List ℕ = all_port_breaks c.modules in
    let f4 : Rule → List ℕ = named_breaks (module_named c.name c.modules) in
    let f5 : Rule → List ℕ = all_body_breaks c.modules in
    let f6 : Rule → List ℕ = only_cycle (cycle_lines c.modules) in
    lowered-same None g (λ rule. parts_of c rule) (λ rule. broken_lines rule c)
    (lowered-both None f g (λ x. (((f1 x ++ f2 x) ++ f3 x) ++ f4 x) ++ f5 x) f6
    (lowered-both None e f (λ x. ((f1 x ++ f2 x) ++ f3 x) ++ f4 x) f5
    (lowered-both None d e (λ x. (f1 x ++ f2 x) ++ f3 x) f4
    (lowered-both None b d (λ x. f1 x ++ f2 x) f3
    (lowered-both None a b f1 f2 (p ∙ ap (λ x. lowered x f1) n) q) r) s) t) u)
    (each_rule c)

-- the main module's ports
pub main_noted : (o b : Option ℕ) (ports : List Port) (m : Module) (main : Option Module) → Some m ≡ main → ports ≡ m.ports → b ≡ lowered o (main_breaks ports) → b ≡ lowered o (named_breaks main)
main_noted o b ports m main n e q =
    lowered-same o b (main_breaks ports) (named_breaks main) q (λ r. ap (λ x. main_breaks x r) e ∙ sym (append_none (main_breaks m.ports r)) ∙ ap (λ x. named_breaks x r) n)

pub no_main_noted : (o : Option ℕ) (main : Option Module) → main ≡ None → o ≡ lowered o (named_breaks main)
no_main_noted o main e = lowered-same o o (λ r. []) (named_breaks main) (none_left o) (λ r. ap (λ x. named_breaks x r) (sym e))

-- the same, from the list of modules and the name that were read out of the circuit
pub together_at : (c : Circuit) (ms : List Module) (name : List ℕ) (o a b d e f g : Option ℕ) → ms ≡ c.modules → name ≡ c.name → o ≡ None
    → a ≡ least o (map (place NoMain) (no_main_lines c)) → b ≡ least a (map (place DoubleName) (map (λ m. m.line) (seconds module_name ms))) → d ≡ lowered b (all_port_breaks ms)
    → e ≡ lowered d (named_breaks (module_named name ms)) → f ≡ lowered e (all_body_breaks ms) → g ≡ least f (map (place InstanceCycle) (cycle_lines ms))
    → g ≡ lowered None (λ rule. broken_lines rule c)
together_at c ms name o a b d e f g i j n p q r s t u =
    together c o a b d e f g n p
    (q ∙ ap (λ x. least a (map (place DoubleName) (map (λ m. m.line) (seconds module_name x)))) i)
    (r ∙ ap (λ x. lowered b (all_port_breaks x)) i)
    (s ∙ ap (λ x. lowered d (named_breaks (module_named x ms))) j ∙ ap (λ x. lowered d (named_breaks (module_named c.name x))) i)
    (t ∙ ap (λ x. lowered e (all_body_breaks x)) i)
    (u ∙ ap (λ x. least f (map (place InstanceCycle) (cycle_lines x))) i)
