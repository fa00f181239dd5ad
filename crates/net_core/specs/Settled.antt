-- Settled valuations of an elaborated circuit, and its edge.
use Rattle.std.specs.Prelude.{◌≡◌, ℕ, ◌<◌, Option, Some, None, unwrap_or, if◌then◌else◌, length}
use Rattle.tb_base.specs.Word.{Word, low_bits, value_of}
use Rattle.tb_base.specs.Row.{no_word}
use Rattle.net_core.specs.declared.tree.Elab.{Elab}
use Rattle.net_core.specs.declared.tree.SignalInfo.{SignalInfo}
use Rattle.net_core.specs.declared.tree.GroundReset.{GroundReset}
use Rattle.net_core.specs.declared.tree.Role.{Role}
use Rattle.net_core.specs.declared.tree.Role.TheVariants.{Input, Output, Inner, Node, Reg}
use Rattle.net_core.specs.Signals.{info, given_width}
use Rattle.net_core.specs.Values.{value}
use Rattle.net_core.specs.Body.{body_of}
use Rattle.net_core.specs.Last.{own, reset_of, last, holds}

-- the bits of a signal that gets the value: cut to its width, or extended by the value's sign
abbrev pub fitted : SignalInfo → Word → ℕ
fitted i word = low_bits (given_width i) (value_of word)

-- the last connect to x whose conditions hold under V
abbrev pub last_connect : Elab → (ℕ → ℕ) → ℕ → Option Word
last_connect e V x = last e.signals V x (own x (body_of e.body)) None

-- an input and a register have their given values; each other signal has another
abbrev pub by_role : Role → ℕ → ℕ → ℕ → ℕ
by_role Input i r v = i
by_role Reg i r v = r
by_role Output i r v = v
by_role Inner i r v = v
by_role Node i r v = v

-- what x is to have under V: the value of its last connect, fitted. A signal without one has 0, and a node's is its expression
abbrev pub rule : Elab → (ℕ → ℕ) → (ℕ → ℕ) → ℕ → (ℕ → ℕ) → ℕ
rule e ins regs x V =
    by_role (info e.signals x).role (ins x) (regs x) (fitted (info e.signals x) (unwrap_or (last_connect e V x) no_word))

-- V gives each signal what it is to have under V itself, where `ins` has the inputs and `regs` the registers
abbrev pub Settled : Elab → (ℕ → ℕ) → (ℕ → ℕ) → (ℕ → ℕ) → Type 0
Settled e ins regs V = (x : ℕ) → x < length e.signals → V x ≡ rule e ins regs x V

-- the value of the last connect, or the old value where there is none
abbrev pub connected : SignalInfo → Option Word → ℕ → ℕ
connected i None old = old
connected i (Some word) old = fitted i word

-- where the reset holds, the initial value in place of v
abbrev pub reset_to : Elab → (ℕ → ℕ) → ℕ → Option GroundReset → ℕ → ℕ
reset_to e V x None v = v
reset_to e V x (Some r) v = if holds e.signals r.signal V then fitted (info e.signals x) (value e.signals r.init V) else v

-- the register x after an edge under the settled V, where `old` is its value before
abbrev pub edge : Elab → (ℕ → ℕ) → ℕ → ℕ → ℕ
edge e V x old =
    reset_to e V x (reset_of x (body_of e.body)) (connected (info e.signals x) (last_connect e V x) old)
