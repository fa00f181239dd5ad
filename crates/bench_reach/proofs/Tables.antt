-- The ports that are found in the table of a circuit.
use Rattle.std.proofs.Common.{◌≡◌, ℕ, suc, ◌+◌, ◌<◌, Bool, true, false, not, if◌then◌else◌, List, [], ◌∷◌, length, Option, Some, None, refl, sym, ap, subst, ◌∙◌, arith, slice_get}
use Rattle.std.specs.Str.{bytes_eq}
use Rattle.net_core.specs.declared.ports.PortInfo.{PortInfo}
use Rattle.net_core.specs.declared.tree.Elab.{Elab}
use Rattle.net_core.specs.declared.tree.SignalInfo.{SignalInfo}
use Rattle.net_core.specs.Ports.{port_named, port_entry, ports_from}
use Rattle.net_core.specs.Signals.{info, is_input, is_port}
use Rattle.net_design.specs.Designs.{IsInput, ports_of}
use Rattle.tl_check.specs.Values.{is_missing, goes}
use Rattle.tl_threads.specs.Bodies.{signal_of, signal_found}
use Rattle.bench_reach.specs.Naming.{IsPort}

-- the port is that of one of the signals, which are numbered from k on, and stands in the table
record Found (k : ℕ) (signals : List SignalInfo) (table : List (List ℕ × PortInfo)) (p : PortInfo) : Type 0 where
  place : ℕ
  within : place < length signals
  number : p.signal.0 ≡ k + place
  input : p.input ≡ is_input (info signals place).role
  spot : ℕ
  entry : List ℕ × PortInfo
  listed : slice_get table spot ≡ Some entry
  same : entry.1 ≡ p

found_behind : (k : ℕ) (i : SignalInfo) (signals : List SignalInfo) (p : PortInfo) (port : Bool) → Found (k + 1) signals (ports_from (k + 1) signals) p
    → Found k (i ∷ signals) (if port then port_entry k i ∷ ports_from (k + 1) signals else ports_from (k + 1) signals) p
found_behind k i signals p true f =
    let n : p.signal.0 ≡ k + 1 + f.place = f.number in
    let w : f.place < length signals = f.within in
    record { place = suc f.place; within = omega arith; number = omega arith; input = f.input; spot = suc f.spot; entry = f.entry; listed = f.listed; same = f.same }
found_behind k i signals p false f =
    let n : p.signal.0 ≡ k + 1 + f.place = f.number in
    let w : f.place < length signals = f.within in
    record { place = suc f.place; within = omega arith; number = omega arith; input = f.input; spot = f.spot; entry = f.entry; listed = f.listed; same = f.same }

found_first : (k : ℕ) (i : SignalInfo) (signals : List SignalInfo) (p : PortInfo) (same : Bool) (rest : Option PortInfo)
    → (rest ≡ Some p → Found k (i ∷ signals) (port_entry k i ∷ ports_from (k + 1) signals) p) → (if same then Some (port_entry k i).1 else rest) ≡ Some p
    → Found k (i ∷ signals) (port_entry k i ∷ ports_from (k + 1) signals) p
found_first k i signals p true rest f h =
    let is : (port_entry k i).1 ≡ p = cc in
    subst (λ (q : PortInfo). Found k (i ∷ signals) (port_entry k i ∷ ports_from (k + 1) signals) q) is (record {
      place = 0;
      within = omega arith;
      number = omega arith;
      input = refl;
      spot = 0;
      entry = port_entry k i;
      listed = refl;
      same = refl;
    })
found_first k i signals p false rest f h = f h

found : (name : List ℕ) (k : ℕ) (signals : List SignalInfo) (p : PortInfo) → port_named name (ports_from k signals) ≡ Some p → Found k signals (ports_from k signals) p
found name k [] p h = absurd (cc)
found name k (i ∷ signals) p h = go (is_port i.role) h (λ e. found name (k + 1) signals p e)
  where
    go : (port : Bool) → port_named name (if port then port_entry k i ∷ ports_from (k + 1) signals else ports_from (k + 1) signals) ≡ Some p
        → (port_named name (ports_from (k + 1) signals) ≡ Some p → Found (k + 1) signals (ports_from (k + 1) signals) p)
        → Found k (i ∷ signals) (if port then port_entry k i ∷ ports_from (k + 1) signals else ports_from (k + 1) signals) p
    go true e f = found_first k i signals p (bytes_eq name i.name) (port_named name (ports_from (k + 1) signals)) (λ g. found_behind k i signals p true (f g)) e
    go false e f = found_behind k i signals p false (f e)

module _ (e : Elab) where
  port_of : (p : PortInfo) → Found 0 e.signals (ports_of e) p → IsPort e p.signal.0
  port_of p f =
      let n : p.signal.0 ≡ 0 + f.place = f.number in
      let w : f.place < length e.signals = f.within in
      record { signal = omega arith; place = f.spot; entry = f.entry; listed = f.listed; number = ap (λ (q : PortInfo). q.signal.0) f.same }

  input_of : (p : PortInfo) → Found 0 e.signals (ports_of e) p → p.input ≡ true → IsInput e p.signal.0
  input_of p f t =
      let n : p.signal.0 ≡ 0 + f.place = f.number in
      let w : f.place < length e.signals = f.within in
      let at : p.signal.0 ≡ f.place = omega arith in
      record { signal = omega arith; input = ap (λ x. is_input (info e.signals x).role) at ∙ sym f.input ∙ t }

  -- A NAME THAT ISN'T MISSING is that of a port
  pub names_port : (name : List ℕ) → is_missing (port_named name (ports_of e)) ≡ false → IsPort e (signal_of (ports_of e) name).0
  names_port name h = go (port_named name (ports_of e)) refl h
    where
      go : (o : Option PortInfo) → port_named name (ports_of e) ≡ o → is_missing o ≡ false → IsPort e (signal_found o).0
      go None g i = absurd (cc)
      go (Some p) g i = port_of p (found name 0 e.signals p g)

  -- and of an input, where it doesn't go out
  pub names_input : (name : List ℕ) → is_missing (port_named name (ports_of e)) ≡ false → goes false (port_named name (ports_of e)) ≡ false → IsInput e (signal_of (ports_of e) name).0
  names_input name h j = go (port_named name (ports_of e)) refl h j
    where
      goes_in : (b : Bool) → not b ≡ false → b ≡ true
      goes_in true i = refl
      goes_in false i = absurd (cc)

      go : (o : Option PortInfo) → port_named name (ports_of e) ≡ o → is_missing o ≡ false → goes false o ≡ false → IsInput e (signal_found o).0
      go None g i k = absurd (cc)
      go (Some p) g i k = input_of p (found name 0 e.signals p g) (goes_in p.input k)
