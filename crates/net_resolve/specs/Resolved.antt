-- The net of an elaborated circuit: its conditions have signals of their own, and it means the same.
use Rattle.std.specs.Prelude.{◌≡◌, ◌↔◌, ℕ, ◌+◌, ◌<◌, ◌≤◌, ◌^◌, true, false, List, [], ◌∷◌, ◌++◌, Option, Some, is_some, map, length}
use Rattle.std.specs.List.{All, Contains}
use Rattle.net_core.specs.declared.tree.SignalInfo.{SignalInfo}
use Rattle.net_core.specs.declared.tree.Role.{Role}
use Rattle.net_core.specs.declared.tree.Role.TheVariants.{Input, Node, Reg}
use Rattle.net_core.specs.declared.tree.GroundExpr.{GroundExpr}
use Rattle.net_core.specs.declared.tree.GroundReset.{GroundReset}
use Rattle.net_core.specs.declared.tree.Elab.{Elab}
use Rattle.net_core.specs.declared.tree.Net.{Net}
use Rattle.net_core.specs.declared.tree.Equation.{Equation}
use Rattle.net_core.specs.declared.tree.Equation.TheVariants as equation
use Rattle.net_core.specs.Signals.{info, given_width, is_input, is_register}
use Rattle.net_core.specs.Values.{value}
use Rattle.net_core.specs.Body.{body_of, conditions}
use Rattle.net_core.specs.Last.{reset_of}
use Rattle.net_core.specs.Settled.{Settled, edge}
use Rattle.net_core.specs.Depends.{reads_of}
use Rattle.net_core.specs.Nets.{MeetsNet, net_reads, next_value}
use Rattle.net_core.specs.Nets as nets
use Rattle.net_resolve.specs.Sources.{circuit_expressions, equation_expressions}

-- something holds of each expression and its number, where n is the number of the first
abbrev pub Each : (ℕ → GroundExpr → Type 0) → ℕ → List GroundExpr → Type 0
Each P n [] = Unit {0}
Each P n (c ∷ cs) = P n c × Each P (n + 1) cs

-- the reset of a register
abbrev pub reset_signal : Role → Option GroundReset → List GroundExpr
reset_signal Reg (Some r) = r.signal ∷ []
reset_signal _ _ = []

-- those of the signals from x on
abbrev pub resets_from : (ℕ → Option GroundReset) → ℕ → List SignalInfo → List GroundExpr
resets_from resets x [] = []
resets_from resets x (i ∷ is) = reset_signal i.role (resets x) ++ resets_from resets (x + 1) is

-- the conditions of the Whens in the order of the body, then the resets in the order of the registers
abbrev pub asked : Elab → List GroundExpr
asked e = conditions (body_of e.body) ++ resets_from (λ x. reset_of x (body_of e.body)) 0 e.signals

-- the signal of a condition
abbrev pub condition_signal : SignalInfo
condition_signal = record { name = []; role = Node; signed = false; width = Some 1; line = 0 }

-- each condition signal has its condition's value
abbrev pub Conditions : Elab → (ℕ → ℕ) → Type 0
Conditions e V = Each (λ k c. V k ≡ (value e.signals c V).raw) (length e.signals) (asked e)

-- inputs and registers have no more bits than their widths say
abbrev pub InWidth : Elab → (ins regs : ℕ → ℕ) → Type 0
InWidth e ins regs = (x : ℕ) → x < length e.signals
    → (is_input (info e.signals x).role ≡ true → ins x < 2 ^ given_width (info e.signals x))
    × (is_register (info e.signals x).role ≡ true → regs x < 2 ^ given_width (info e.signals x))

-- x reads y directly, or over a condition signal
pub data ReadsOver (net : Net) (x y : ℕ) : Type 0 where
  directly : net_reads net x y ≡ true → ReadsOver net x y
  over : (k : ℕ) → net.own ≤ k → net_reads net x k ≡ true → net_reads net k y ≡ true → ReadsOver net x y

-- an equation of the kind that the role asks for
abbrev pub HasKind : Role → Equation → Type 0
HasKind Input q = q ≡ equation.Input
HasKind Reg q = (next : _) × (q ≡ equation.Reg next)
HasKind _ q = (choices : _) × (q ≡ equation.Comb choices)

pub record NetOf (e : Elab) (net : Net) : Type 0 where
  -- the circuit's signals, then the conditions'
  pub own : net.own ≡ length e.signals
  pub signals : net.signals ≡ e.signals ++ map (λ c. condition_signal) (asked e)
  pub given : All (λ i. is_some i.width ≡ true) net.signals
  -- an equation for each
  pub equations : length net.equations ≡ length net.signals
  pub kinds : (x : ℕ) → x < length net.signals → HasKind (info net.signals x).role (nets.equation net x)
  -- whatever expression stands in one stands in the circuit
  pub sources : (x : ℕ) → x < length net.signals → All (Contains (circuit_expressions e)) (equation_expressions (nets.equation net x))
  -- a valuation meets them exactly where it is settled and the conditions' signals have their values
  pub meets : (ins regs V : ℕ → ℕ) → InWidth e ins regs → MeetsNet net ins regs V ↔ (Settled e ins regs V × Conditions e V)
  -- at the edge each register gets what the circuit says
  pub next : (V : ℕ → ℕ) → Conditions e V → (x old : ℕ) → x < length e.signals → is_register (info e.signals x).role ≡ true
      → next_value net x V old ≡ edge e V x old
  -- each of the circuit's signals reads in it what it reads
  pub reads : (x y : ℕ) → x < length e.signals → y < length e.signals → ReadsOver net x y ↔ (reads_of e x y ≡ true)
  -- a condition's signal reads signals of the circuit, and whatever is read is a signal of the net
  pub conditions_read : (k y : ℕ) → length e.signals ≤ k → k < length net.signals → net_reads net k y ≡ true → y < length e.signals
  pub within : (x y : ℕ) → x < length net.signals → net_reads net x y ≡ true → y < length net.signals
