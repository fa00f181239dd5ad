-- The summary of a circuit, line by line. Each line ends with a line feed.
use Rattle.std.specs.Prelude.{ℕ, ◌&&◌, if◌then◌else◌, List, [], ◌∷◌, ◌++◌, length, map, codes, flat_map, filter, count_by}
use Rattle.std.specs.Fmt.{decimal}
use Rattle.net_core.specs.declared.ports.PortInfo.{PortInfo}
use Rattle.net_core.specs.declared.tree.Elab.{Elab}
use Rattle.net_core.specs.declared.tree.SignalInfo.{SignalInfo}
use Rattle.net_core.specs.Signals.{is_register}
use Rattle.net_design.specs.Designs.{ports_of}
use Rattle.net_design.specs.Naming.{in_cone}

-- `UInt<8>`
abbrev pub type_text : PortInfo → List ℕ
type_text port = (if port.signed then codes "SInt<" else codes "UInt<") ++ (decimal port.width ++ codes ">")

-- the names of the inputs on which the signal x depends within a cycle, in signal order
abbrev pub cone_names : Elab → ℕ → List (List ℕ)
cone_names e x = map (λ p. p.0) (filter (λ p. p.1.input && in_cone e x p.1.signal.0) (ports_of e))

-- ` from a b`, and nothing where there are none
abbrev pub from_text : List (List ℕ) → List ℕ
from_text [] = []
from_text (name ∷ names) = codes " from" ++ flat_map (λ n. codes " " ++ n) (name ∷ names)

-- what stands behind a port's type: an output's inputs
abbrev pub cone_text : Elab → PortInfo → List ℕ
cone_text e port = if port.input then [] else from_text (cone_names e port.signal.0)

-- the line of a port: `input a UInt<8>`, or `output out UInt<9> from a b`
abbrev pub port_text : Elab → List ℕ × PortInfo → List ℕ
port_text e p =
    (if p.1.input then codes "input " else codes "output ")
    ++ (p.0 ++ (codes " " ++ (type_text p.1 ++ (cone_text e p.1 ++ codes "\n"))))

abbrev pub count_text : List ℕ → ℕ → List ℕ
count_text word n = word ++ decimal n

-- the line of the counts: `ports 3 signals 3 registers 0`
abbrev pub counts_text : Elab → List ℕ
counts_text e =
    count_text (codes "ports ") (length (ports_of e)) ++ (count_text (codes " signals ") (length e.signals)
    ++ (count_text (codes " registers ") (count_by (λ (i : SignalInfo). is_register i.role) e.signals) ++ codes "\n"))

-- the whole summary: the circuit's name, the counts, the ports in order
unfoldable pub summary_text : Elab → List ℕ
summary_text e = codes "circuit " ++ (e.name ++ (codes "\n" ++ (counts_text e ++ flat_map (port_text e) (ports_of e))))
