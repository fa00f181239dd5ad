-- The rows that a sample fills: one number for each port.
use Rattle.std.proofs.Common.{◌≡◌, ◌∙◌, refl, sym, ap, subst, ℕ, zero, suc, ◌+◌, ◌<◌, ◌≤◌, Bool, true, false, cond, List, [], ◌∷◌, ◌++◌, length, map, take, arith, get_or}
use Rattle.std.specs.Prelude.{Option, Some, None, slice_get, option_map}
use Rattle.std.proofs.lemmas.List.{length-map, take_more, take_all}
use Rattle.std.proofs.lemmas.Option.{slice_get-map, slice_get_within, get_or_from_slice_get}
use Rattle.net_core.specs.declared.ports.PortInfo.{PortInfo}
use Rattle.net_core.specs.declared.ports.Signal.{Signal}
use Rattle.net_core.specs.declared.tree.Elab.{Elab}
use Rattle.net_core.specs.declared.tree.SignalInfo.{SignalInfo}
use Rattle.net_core.specs.Ports.{ports_from, port_entry}
use Rattle.net_core.specs.Signals.{is_port}
use Rattle.net_design.specs.Designs.{DesignValue, ports_of}
use Rattle.net_design.specs.Settling.{number_at}
use Rattle.bench_setting.specs.Settings.{circuit_of, port_numbers}
use Rattle.bench_device.specs.Device.{DeviceValue, EngineValue, device_of}
use Rattle.bench_device.specs.Ports.{port_signals}

abbrev Port : Type 0
Port = List ℕ × PortInfo

-- ---- each port is a signal of the circuit

from_part : (t : Bool) (x : ℕ) (i : SignalInfo) (rest : List Port) (n k : ℕ) (port : Port) → ((j : ℕ) → slice_get rest j ≡ Some port → port.1.signal.0 < (x + 1) + n)
    → slice_get (cond t (port_entry x i ∷ rest) rest) k ≡ Some port → port.1.signal.0 < x + suc n
from_part false x i rest n k port more h = let l : port.1.signal.0 < (x + 1) + n = more k h in omega arith
from_part true x i rest n zero port more h =
    let same : port_entry x i ≡ port = cc in
    subst (λ (p : Port). p.1.signal.0 < x + suc n) same (omega arith)
from_part true x i rest n (suc k) port more h = let l : port.1.signal.0 < (x + 1) + n = more k h in omega arith

within_from : (x : ℕ) (is : List SignalInfo) (k : ℕ) (port : Port) → slice_get (ports_from x is) k ≡ Some port → port.1.signal.0 < x + length is
within_from x [] k port h = absurd (cc)
within_from x (i ∷ is) k port h = from_part (is_port i.role) x i (ports_from (x + 1) is) (length is) k port (λ j g. within_from (x + 1) is j port g) h

pub record IsPort (e : Elab) (k : ℕ) (s : Signal) : Type 0 where
  pub signal : slice_get (port_signals e) k ≡ Some s
  pub within : s.0 < length e.signals

port_at : (e : Elab) (k : ℕ) (port : Port) → slice_get (ports_of e) k ≡ Some port → IsPort e k port.1.signal
port_at e k port h =
    let l : port.1.signal.0 < 0 + length e.signals = within_from 0 e.signals k port h in
    record {
      signal = slice_get-map (λ (p : Port). p.1.signal) (ports_of e) k ∙ ap (λ (o : Option Port). option_map (λ (p : Port). p.1.signal) o) h;
      within = omega arith;
    }

pub port_of : (d : DesignValue) (r : EngineValue) (v : DeviceValue) (ps : List Port) (k : ℕ) (port : Port) → device_of d r ≡ v → ps ≡ ports_of d.elab
    → Some port ≡ slice_get ps k → IsPort v.elab k port.1.signal
port_of d r v ps k port e is h =
    subst (λ (u : DeviceValue). IsPort u.elab k port.1.signal) e
    (port_at d.elab k port (ap (λ (qs : List Port). slice_get qs k) (sym is) ∙ sym h))

pub port_there : (d : DesignValue) (r : EngineValue) (v : DeviceValue) (ps : List Port) (k : ℕ) → device_of d r ≡ v → ps ≡ ports_of d.elab
    → None ≡ slice_get ps k → k < length (ports_of v.elab) → ⊥
port_there d r v ps k e is h l =
    let own : k < length ps = subst (λ (qs : List Port). k < length qs) (sym is) (subst (λ (u : DeviceValue). k < length (ports_of u.elab)) (sym e) l) in
    none_within ps k own (sym h)
  where
    none_within : (qs : List Port) (j : ℕ) → j < length qs → slice_get qs j ≡ None → ⊥
    none_within [] j m g = omega arith
    none_within (q ∷ qs) zero m g = cc
    none_within (q ∷ qs) (suc j) m g = none_within qs j (omega arith) g

-- ---- a row of numbers

abbrev row_of : DeviceValue → List ℕ
row_of v = port_numbers v.elab (circuit_of v.elab) v.inputs v.registers

number_of : (v : DeviceValue) (o : Option Port) (s : Signal) → option_map (λ (p : Port). p.1.signal) o ≡ Some s
    → option_map (λ (p : Port). number_at v.elab v.inputs v.registers p.1.signal.0) o ≡ Some (number_at v.elab v.inputs v.registers s.0)
number_of v None s h = absurd (cc)
number_of v (Some p) s h =
    let same : p.1.signal ≡ s = cc in
    ap (λ (t : Signal). Some (number_at v.elab v.inputs v.registers t.0)) same

number_in_row : (v : DeviceValue) (k : ℕ) (s : Signal) → slice_get (port_signals v.elab) k ≡ Some s → slice_get (row_of v) k ≡ Some (number_at v.elab v.inputs v.registers s.0)
number_in_row v k s h =
    slice_get-map (λ (p : Port). number_at v.elab v.inputs v.registers p.1.signal.0) (ports_of v.elab) k
    ∙ number_of v (slice_get (ports_of v.elab) k) s (sym (slice_get-map (λ (p : Port). p.1.signal) (ports_of v.elab) k) ∙ h)

-- the device is as it was, the numbers of the first k ports stand in the row, and the row has the room that it had
pub record Filled (v now : DeviceValue) (items : List ℕ) (len capacity room k : ℕ) : Type 0 where
  pub same : now ≡ v
  pub numbers : items ≡ take k (row_of v)
  pub count : len ≡ k
  pub kept : capacity ≡ room

pub filled_more : (v now after : DeviceValue) (items more : List ℕ) (len capacity room k : ℕ) (s : Signal) (n len2 capacity2 : ℕ) → Filled v now items len capacity room k
    → slice_get (port_signals now.elab) k ≡ Some s → n ≡ number_at now.elab now.inputs now.registers s.0 → after ≡ now
    → more ≡ items ++ n ∷ [] → len2 ≡ len + 1 → capacity2 ≡ capacity → Filled v after more len2 capacity2 room (k + 1)
filled_more v now after items more len capacity room k s n len2 capacity2 f port number same put longer kept =
    let port2 : slice_get (port_signals v.elab) k ≡ Some s = subst (λ (u : DeviceValue). slice_get (port_signals u.elab) k ≡ Some s) f.same port in
    let number2 : n ≡ number_at v.elab v.inputs v.registers s.0 = number ∙ ap (λ (u : DeviceValue). number_at u.elab u.inputs u.registers s.0) f.same in
    let here : slice_get (row_of v) k ≡ Some (number_at v.elab v.inputs v.registers s.0) = number_in_row v k s port2 in
    let next : take (k + 1) (row_of v) ≡ take k (row_of v) ++ get_or (row_of v) k 0 ∷ [] = take_more (row_of v) k 0 (slice_get_within (row_of v) k (number_at v.elab v.inputs v.registers s.0) here) in
    let is : get_or (row_of v) k 0 ≡ n = get_or_from_slice_get (row_of v) k (number_at v.elab v.inputs v.registers s.0) 0 here ∙ sym number2 in
    record {
      same = same ∙ f.same;
      numbers = put ∙ ap (λ (xs : List ℕ). xs ++ n ∷ []) f.numbers ∙ sym (next ∙ ap (λ (m : ℕ). take k (row_of v) ++ m ∷ []) is);
      count = longer ∙ ap (λ (m : ℕ). m + 1) f.count;
      kept = kept ∙ f.kept;
    }

pub filled_all : (v now : DeviceValue) (items : List ℕ) (len capacity room k : ℕ) → Filled v now items len capacity room k → length (ports_of v.elab) ≤ k → items ≡ row_of v
filled_all v now items len capacity room k f l =
    f.numbers ∙ take_all k (row_of v) (subst (λ n. n ≤ k) (sym (length-map (ports_of v.elab) (λ (p : Port). number_at v.elab v.inputs v.registers p.1.signal.0))) l)
