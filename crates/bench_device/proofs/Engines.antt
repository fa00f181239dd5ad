-- How an engine's lists stand for the circuit's inputs and registers.
use Rattle.std.proofs.Common.{◌≡◌, ℕ, zero, suc, ◌+◌, ◌<◌, ◌≤◌, ◌%◌, ◌^◌, Bool, true, false, nat_eq, if◌then◌else◌, List, [], ◌∷◌, length, length-append, map, replicate, refl, ap, ap₂, sym, ◌∙◌, subst, arith}
use Rattle.std.specs.Prelude.{slice_index, slice_set}
use Rattle.std.proofs.Math.Nat.{mod-lt}
use Rattle.std.proofs.Math.Seq.{take-set-lt}
use Rattle.std.proofs.lemmas.Bool.{eqb-true, eqb-false}
use Rattle.std.proofs.lemmas.List.{get_or-take, get_or-set_same, get_or-set_other, get_or_append_left, length-replicate, length-set, length-take-le, take-replicate}
use Rattle.std.proofs.lemmas.Nat.{pow_pos}
use Rattle.tb_base.specs.Word.{Word, value_of, low_bits}
use Rattle.net_core.specs.declared.tree.Elab.{Elab}
use Rattle.net_core.specs.declared.tree.Net.{Net}
use Rattle.net_core.specs.declared.tree.SignalInfo.{SignalInfo}
use Rattle.net_core.specs.Engines.{ShowsSettled, AfterEdge, IsInputOf, next_values}
use Rattle.net_core.specs.Settled.{edge}
use Rattle.net_core.specs.Signals.{info, no_info, given_width, is_input, is_register}
use Rattle.net_resolve.specs.Resolved.{InWidth, asked, condition_signal}
use Rattle.net_design.specs.Designs.{DesignValue, Runs, IsInput}
use Rattle.net_design.specs.Settling.{settled_at, settled_value, kept_after, registers_after, number_at}
use Rattle.net_design.proofs.Showing.{At, shown_value, shown_edge, edge_below}
use Rattle.bench_setting.specs.Settings.{zeros, fitted_to}
use Rattle.bench_device.specs.Device.{DeviceValue, EngineValue, IsDevice, device_of, shown}

-- the signals of the circuit are among those of its net

fewer : (e : Elab) (net : Net) → Runs e net → length e.signals ≤ length net.signals
fewer e net h =
    let all : length net.signals ≡ length e.signals + length (map (λ c. condition_signal) (asked e)) = ap length h.net.signals ∙ length-append e.signals (map (λ c. condition_signal) (asked e)) in
    omega arith

same_info : (e : Elab) (net : Net) (x : ℕ) → Runs e net → x < length e.signals → info net.signals x ≡ info e.signals x
same_info e net x h l =
    ap (λ (is : List SignalInfo). info is x) h.net.signals ∙ get_or_append_left e.signals (map (λ c. condition_signal) (asked e)) no_info x l

-- the lists of the circuit, cut off the engine's

at_shown : (e : Elab) (xs : List ℕ) (x : ℕ) → x < length e.signals → slice_index (shown e xs) x ≡ slice_index xs x
at_shown e xs x l = get_or-take (length e.signals) xs x 0 l

abbrev ins_of : Elab → EngineValue → ℕ → ℕ
ins_of e r x = slice_index (shown e r.inputs) x

abbrev regs_of : Elab → EngineValue → ℕ → ℕ
regs_of e r x = slice_index (shown e r.registers) x

agrees : (e : Elab) (r : EngineValue) → At e r.inputs r.registers (ins_of e r) (regs_of e r)
agrees e r = record { inputs_at = λ x l. sym (at_shown e r.inputs x l); registers_at = λ x l. sym (at_shown e r.registers x l) }

widths_shown : (d : DesignValue) (r : EngineValue) → IsDevice d r → InWidth d.elab (ins_of d.elab r) (regs_of d.elab r)
widths_shown d r h x l = (
  (λ role. subst (λ n. n < 2 ^ given_width (info d.elab.signals x)) (sym (at_shown d.elab r.inputs x l)) ((h.widths x l).0 role)),
  (λ role. subst (λ n. n < 2 ^ given_width (info d.elab.signals x)) (sym (at_shown d.elab r.registers x l)) ((h.widths x l).1 role)),
)

abbrev with_lists : DeviceValue → List ℕ → List ℕ → DeviceValue
with_lists v ins regs = record { elab = v.elab; net = v.net; inputs = ins; registers = regs }

-- at the start

pub record Starts (d : DesignValue) (r : EngineValue) : Type 0 where
  pub net : r.net ≡ d.net
  pub inputs : r.inputs ≡ replicate (length d.net.signals) 0
  pub registers : r.registers ≡ replicate (length d.net.signals) 0

zero_below : (n x w : ℕ) → slice_index (replicate n 0) x < 2 ^ w
zero_below zero x w = pow_pos w
zero_below (suc n) zero w = pow_pos w
zero_below (suc n) (suc x) w = zero_below n x w

all_zero : (r : List ℕ) (n x w : ℕ) → r ≡ replicate n 0 → slice_index r x < 2 ^ w
all_zero r n x w h = subst (λ (xs : List ℕ). slice_index xs x < 2 ^ w) (sym h) (zero_below n x w)

pub first_device : (d : DesignValue) (r : EngineValue) → Runs d.elab d.net → Starts d r → IsDevice d r
first_device d r h s = record {
  runs = h;
  net = s.net;
  inputs = ap length s.inputs ∙ length-replicate (length d.net.signals) 0;
  registers = ap length s.registers ∙ length-replicate (length d.net.signals) 0;
  widths = λ x l. (
    (λ role. all_zero r.inputs (length d.net.signals) x (given_width (info d.elab.signals x)) s.inputs),
    (λ role. all_zero r.registers (length d.net.signals) x (given_width (info d.elab.signals x)) s.registers),
  );
}

zeros_shown : (d : DesignValue) (xs : List ℕ) → Runs d.elab d.net → xs ≡ replicate (length d.net.signals) 0 → shown d.elab xs ≡ zeros d.elab
zeros_shown d xs h e = ap (shown d.elab) e ∙ take-replicate (length d.elab.signals) (length d.net.signals) 0 (fewer d.elab d.net h)

pub first_shown : (d : DesignValue) (r : EngineValue) → Runs d.elab d.net → Starts d r
    → device_of d r ≡ record { elab = d.elab; net = d.net; inputs = zeros d.elab; registers = zeros d.elab }
first_shown d r h s = ap₂ (λ (ins regs : List ℕ). with_lists (device_of d r) ins regs) (zeros_shown d r.inputs h s.inputs) (zeros_shown d r.registers h s.registers)

-- a value

pub signal_of : (d : DesignValue) (r : EngineValue) (v : DeviceValue) (x : ℕ) → IsDevice d r → device_of d r ≡ v → x < length v.elab.signals → x < length r.net.signals
signal_of d r v x h e l =
    let own : x < length d.elab.signals = subst (λ (u : DeviceValue). x < length u.elab.signals) (sym e) l in
    let few : length d.elab.signals ≤ length d.net.signals = fewer d.elab d.net h.runs in
    subst (λ (n : Net). x < length n.signals) (sym h.net) (omega arith)

pub number_shown : (d : DesignValue) (r : EngineValue) (v : DeviceValue) (x : ℕ) (word : Word) → IsDevice d r → device_of d r ≡ v → x < length v.elab.signals
    → ShowsSettled r.net r.inputs r.registers x word → low_bits 128 (value_of word) ≡ number_at v.elab v.inputs v.registers x
number_shown d r v x word h e l s =
    let own : x < length d.elab.signals = subst (λ (u : DeviceValue). x < length u.elab.signals) (sym e) l in
    let settled : ShowsSettled d.net r.inputs r.registers x word = subst (λ (n : Net). ShowsSettled n r.inputs r.registers x word) h.net s in
    ap (λ (w : Word). low_bits 128 (value_of w))
    (shown_value d.elab d.net h.runs r.inputs r.registers (ins_of d.elab r) (regs_of d.elab r) (agrees d.elab r) (widths_shown d r h) x word own settled)
    ∙ ap (λ (u : DeviceValue). number_at u.elab u.inputs u.registers x) e

-- another engine value with the same parts
pub record Stays (r r2 : EngineValue) : Type 0 where
  pub net : r2.net ≡ r.net
  pub inputs : r2.inputs ≡ r.inputs
  pub registers : r2.registers ≡ r.registers

same_value : (r r2 : EngineValue) → Stays r r2 → r ≡ r2
same_value r r2 s =
    ap (λ (n : Net). let u : EngineValue = record { net = n; inputs = r.inputs; registers = r.registers } in u) (sym s.net)
    ∙ ap₂ (λ (ins regs : List ℕ). let u : EngineValue = record { net = r2.net; inputs = ins; registers = regs } in u) (sym s.inputs) (sym s.registers)

pub same_device : (d : DesignValue) (r r2 : EngineValue) → IsDevice d r → Stays r r2 → IsDevice d r2
same_device d r r2 h s = subst (λ (u : EngineValue). IsDevice d u) (same_value r r2 s) h

pub same_shown : (d : DesignValue) (r r2 : EngineValue) (v : DeviceValue) → device_of d r ≡ v → Stays r r2 → device_of d r2 ≡ v
same_shown d r r2 v e s = ap (device_of d) (sym (same_value r r2 s)) ∙ e

-- a poke

pub is_input_of : (d : DesignValue) (r : EngineValue) (v : DeviceValue) (x : ℕ) → IsDevice d r → device_of d r ≡ v → IsInput v.elab x → IsInputOf r.net x
is_input_of d r v x h e i =
    let own : IsInput d.elab x = subst (λ (u : DeviceValue). IsInput u.elab x) (sym e) i in
    let few : length d.elab.signals ≤ length d.net.signals = fewer d.elab d.net h.runs in
    let l : x < length d.elab.signals = own.signal in
    let same : info d.net.signals x ≡ info d.elab.signals x = same_info d.elab d.net x h.runs l in
    let of_net : IsInputOf d.net x = record { signal = omega arith; input = ap (λ (s : SignalInfo). is_input s.role) same ∙ own.input } in
    subst (λ (n : Net). IsInputOf n x) (sym h.net) of_net

set_within : (xs : List ℕ) (x y v b : ℕ) (t : Bool) → nat_eq y x ≡ t → x < length xs → (y ≡ x → v < b) → slice_index xs y < b → slice_index (slice_set xs x v) y < b
set_within xs x y v b true e l small old =
    let same : y ≡ x = eqb-true y x e in
    subst (λ z. slice_index (slice_set xs x v) z < b) (sym same) (subst (λ n. n < b) (sym (get_or-set_same xs x v 0 l)) (small same))
set_within xs x y v b false e l small old =
    subst (λ n. n < b) (sym (get_or-set_other xs x y v 0 (eqb-false y x e))) old

pub record Pokes (r r2 : EngineValue) (x raw : ℕ) : Type 0 where
  pub net : r2.net ≡ r.net
  pub inputs : r2.inputs ≡ slice_set r.inputs x (raw % 2 ^ given_width (info r.net.signals x))
  pub registers : r2.registers ≡ r.registers

bits_of : (d : DesignValue) (r : EngineValue) (x : ℕ) → IsDevice d r → x < length d.elab.signals → given_width (info r.net.signals x) ≡ given_width (info d.elab.signals x)
bits_of d r x h l = ap (λ (n : Net). given_width (info n.signals x)) h.net ∙ ap given_width (same_info d.elab d.net x h.runs l)

set_list : (d : DesignValue) (r r2 : EngineValue) (x raw : ℕ) → IsDevice d r → x < length d.elab.signals → Pokes r r2 x raw
    → r2.inputs ≡ slice_set r.inputs x (fitted_to d.elab x raw)
set_list d r r2 x raw h l p = p.inputs ∙ ap (λ w. slice_set r.inputs x (raw % 2 ^ w)) (bits_of d r x h l)

fitted_below : (e : Elab) (x raw : ℕ) → fitted_to e x raw < 2 ^ given_width (info e.signals x)
fitted_below e x raw = mod-lt raw (pow_pos (given_width (info e.signals x)))

pub poked_device : (d : DesignValue) (r r2 : EngineValue) (v : DeviceValue) (x raw : ℕ) → IsDevice d r → device_of d r ≡ v
    → IsInput v.elab x → Pokes r r2 x raw → IsDevice d r2
poked_device d r r2 v x raw h e i p =
    let own : IsInput d.elab x = subst (λ (u : DeviceValue). IsInput u.elab x) (sym e) i in
    let l : x < length d.elab.signals = own.signal in
    let few : length d.elab.signals ≤ length d.net.signals = fewer d.elab d.net h.runs in
    let places : length r.inputs ≡ length d.net.signals = h.inputs in
    let set : r2.inputs ≡ slice_set r.inputs x (fitted_to d.elab x raw) = set_list d r r2 x raw h l p in
    record {
      runs = h.runs;
      net = p.net ∙ h.net;
      inputs = ap length set ∙ length-set r.inputs x (fitted_to d.elab x raw) ∙ h.inputs;
      registers = ap length p.registers ∙ h.registers;
      widths = λ y m. (
        (λ given. subst (λ (xs : List ℕ). slice_index xs y < 2 ^ given_width (info d.elab.signals y)) (sym set)
            (set_within r.inputs x y (fitted_to d.elab x raw) (2 ^ given_width (info d.elab.signals y)) (nat_eq y x) refl (omega arith)
            (λ same. subst (λ z. fitted_to d.elab x raw < 2 ^ given_width (info d.elab.signals z)) (sym same) (fitted_below d.elab x raw)) ((h.widths y m).0 given))),
        (λ kept. subst (λ (xs : List ℕ). slice_index xs y < 2 ^ given_width (info d.elab.signals y)) (sym p.registers) ((h.widths y m).1 kept)),
      );
    }

pub poke_shown : (d : DesignValue) (r r2 : EngineValue) (v : DeviceValue) (x raw : ℕ) → IsDevice d r → device_of d r ≡ v
    → IsInput v.elab x → Pokes r r2 x raw
    → device_of d r2 ≡ record v { inputs = slice_set v.inputs x (fitted_to v.elab x raw) }
poke_shown d r r2 v x raw h e i p =
    let own : IsInput d.elab x = subst (λ (u : DeviceValue). IsInput u.elab x) (sym e) i in
    let l : x < length d.elab.signals = own.signal in
    let set : shown d.elab r2.inputs ≡ slice_set (shown d.elab r.inputs) x (fitted_to d.elab x raw) =
    ap (shown d.elab) (set_list d r r2 x raw h l p) ∙ take-set-lt (length d.elab.signals) r.inputs x (fitted_to d.elab x raw) l in
    ap₂ (λ (ins regs : List ℕ). with_lists (device_of d r) ins regs) set (ap (shown d.elab) p.registers)
    ∙ ap (λ (u : DeviceValue). let w : DeviceValue = record u { inputs = slice_set u.inputs x (fitted_to u.elab x raw) } in w) e

-- an edge

abbrev kept_or : Elab → (ℕ → ℕ) → ℕ → ℕ → ℕ
kept_or e V x r = if is_register (info e.signals x).role then edge e V x r else r

kept_by_places : (e : Elab) (V : ℕ → ℕ) (x : ℕ) (rs bs : List ℕ) → length bs ≡ length rs
    → ((k : ℕ) → k < length rs → slice_index bs k ≡ kept_or e V (x + k) (slice_index rs k)) → bs ≡ kept_after e V x rs
kept_by_places e V x [] [] same h = refl
kept_by_places e V x [] (b ∷ bs) same h = absurd (omega (arith, same))
kept_by_places e V x (r ∷ rs) [] same h = absurd (omega (arith, same))
kept_by_places e V x (r ∷ rs) (b ∷ bs) same h =
    let here : x + 0 ≡ x = omega arith in
    let first : b ≡ kept_or e V x r = subst (λ y. b ≡ kept_or e V y r) here (h 0 (omega arith)) in
    let rest : bs ≡ kept_after e V (x + 1) rs = kept_by_places e V (x + 1) rs bs (omega (arith, same))
    (λ k l. let next : x + suc k ≡ (x + 1) + k = omega arith in
    subst (λ y. slice_index bs k ≡ kept_or e V y (slice_index rs k)) next (h (suc k) (omega arith))) in
    ap (λ (c : ℕ). c ∷ bs) first ∙ ap (λ (cs : List ℕ). kept_or e V x r ∷ cs) rest

next_length : (net : Net) (V : ℕ → ℕ) (x : ℕ) (rs : List ℕ) → length (next_values net V x rs) ≡ length rs
next_length net V x [] = refl
next_length net V x (r ∷ rs) = ap suc (next_length net V (x + 1) rs)

pub record Edges (r r2 : EngineValue) : Type 0 where
  pub net : r2.net ≡ r.net
  pub inputs : r2.inputs ≡ r.inputs
  pub registers : AfterEdge r.net r.inputs r.registers r2.registers

edge_length : (net : Net) (ins regs after : List ℕ) → AfterEdge net ins regs after → length after ≡ length regs
edge_length net ins regs after (V, settled, is) = ap length is ∙ next_length net V 0 regs

at_edge : (d : DesignValue) (r r2 : EngineValue) → IsDevice d r → Edges r r2 → (x : ℕ) → x < length d.elab.signals
    → slice_index r2.registers x ≡ kept_or d.elab (settled_value d.elab (ins_of d.elab r) (regs_of d.elab r)) x (regs_of d.elab r x)
at_edge d r r2 h s x l =
    let after : AfterEdge d.net r.inputs r.registers r2.registers = subst (λ (n : Net). AfterEdge n r.inputs r.registers r2.registers) h.net s.registers in
    shown_edge d.elab d.net h.runs r.inputs r.registers r2.registers (ins_of d.elab r) (regs_of d.elab r) (agrees d.elab r) (widths_shown d r h) h.registers after x l

-- a register's next value is within its width
within_after : (d : DesignValue) (r r2 : EngineValue) → IsDevice d r → Edges r r2 → (x : ℕ) → x < length d.elab.signals
    → is_register (info d.elab.signals x).role ≡ true → slice_index r2.registers x < 2 ^ given_width (info d.elab.signals x)
within_after d r r2 h s x l role =
    let V : ℕ → ℕ = settled_value d.elab (ins_of d.elab r) (regs_of d.elab r) in
    let next : slice_index r2.registers x ≡ edge d.elab V x (regs_of d.elab r x) =
    at_edge d r r2 h s x l ∙ ap (λ (t : Bool). if t then edge d.elab V x (regs_of d.elab r x) else regs_of d.elab r x) role in
    subst (λ n. n < 2 ^ given_width (info d.elab.signals x)) (sym next) (edge_below d.elab V x (regs_of d.elab r x) ((widths_shown d r h x l).1 role))

pub edge_device : (d : DesignValue) (r r2 : EngineValue) → IsDevice d r → Edges r r2 → IsDevice d r2
edge_device d r r2 h s = record {
  runs = h.runs;
  net = s.net ∙ h.net;
  inputs = ap length s.inputs ∙ h.inputs;
  registers = edge_length r.net r.inputs r.registers r2.registers s.registers ∙ h.registers;
  widths = λ x l. (
    (λ given. subst (λ (xs : List ℕ). slice_index xs x < 2 ^ given_width (info d.elab.signals x)) (sym s.inputs) ((h.widths x l).0 given)),
    (λ kept. within_after d r r2 h s x l kept),
  );
}

pub edge_shown : (d : DesignValue) (r r2 : EngineValue) (v : DeviceValue) → IsDevice d r → device_of d r ≡ v → Edges r r2
    → device_of d r2 ≡ record v { registers = registers_after v.elab v.inputs v.registers }
edge_shown d r r2 v h e s =
    let few : length d.elab.signals ≤ length d.net.signals = fewer d.elab d.net h.runs in
    let places : length r.registers ≡ length d.net.signals = h.registers in
    let places2 : length r2.registers ≡ length r.registers = edge_length r.net r.inputs r.registers r2.registers s.registers in
    let long : length (shown d.elab r.registers) ≡ length d.elab.signals = length-take-le (length d.elab.signals) r.registers (omega arith) in
    let long2 : length (shown d.elab r2.registers) ≡ length d.elab.signals = length-take-le (length d.elab.signals) r2.registers (omega arith) in
    let after : shown d.elab r2.registers ≡ registers_after d.elab (shown d.elab r.inputs) (shown d.elab r.registers) =
    kept_by_places d.elab (settled_at d.elab (shown d.elab r.inputs) (shown d.elab r.registers)) 0 (shown d.elab r.registers) (shown d.elab r2.registers) (long2 ∙ sym long)
    (λ k l. let m : k < length d.elab.signals = omega (arith, l, long) in
    let none : k ≡ 0 + k = omega arith in
    at_shown d.elab r2.registers k m ∙ subst (λ y. slice_index r2.registers k ≡ kept_or d.elab (settled_at d.elab (shown d.elab r.inputs) (shown d.elab r.registers)) y (regs_of d.elab r k)) none (at_edge d r r2 h s k m)) in
    ap₂ (λ (ins regs : List ℕ). with_lists (device_of d r) ins regs) (ap (shown d.elab) s.inputs) after
    ∙ ap (λ (u : DeviceValue). let w : DeviceValue = record u { registers = registers_after u.elab u.inputs u.registers } in w) e
