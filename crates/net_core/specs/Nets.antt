-- Nets: lists of choices, what they give and read, and what it is to meet a net's equations.
use Rattle.std.specs.Prelude.{◌≡◌, ℕ, ◌<◌, Bool, true, false, List, [], ◌∷◌, Option, Some, None, unwrap_or, ◌||◌, ◌&&◌, nat_eq, if◌then◌else◌, map, length, slice_index_or}
use Rattle.tb_base.specs.Word.{Word}
use Rattle.tb_base.specs.Row.{no_word}
use Rattle.net_core.specs.declared.tree.SignalInfo.{SignalInfo}
use Rattle.net_core.specs.declared.tree.GroundExpr.{GroundExpr}
use Rattle.net_core.specs.declared.tree.Choice.{Choice}
use Rattle.net_core.specs.declared.tree.Choice.TheFolds.{fold-Choice}
use Rattle.net_core.specs.declared.tree.Choice.TheOpen.{Choice-F}
use Rattle.net_core.specs.declared.tree.Equation.{Equation}
use Rattle.net_core.specs.declared.tree.Equation.TheVariants.{Input, Comb, Reg}
use Rattle.net_core.specs.declared.tree.Net.{Net}
use Rattle.net_core.specs.Signals.{info}
use Rattle.net_core.specs.Last.{source, source_mentions}
use Rattle.net_core.specs.Settled.{fitted, connected}

-- a list of choices as one plain type: each is followed by the rest of its list
pub data Choices : Type 0 where
  nothing : Choices
  take : Option GroundExpr → Choices → Choices
  branch : ℕ → Choices → Choices → Choices → Choices

abbrev pub chain : List (Choices → Choices) → Choices → Choices
chain [] rest = rest
chain (f ∷ fs) rest = f (chain fs rest)

abbrev pub level_choice : Choice-F (Choices → Choices) → Choices → Choices
level_choice (Choice-F.Take e) rest = take e rest
level_choice (Choice-F.When k taken other) rest = branch k.0 (chain taken nothing) (chain other nothing) rest

abbrev pub one_choice : Choice → Choices → Choices
one_choice = fold-Choice (Choices → Choices) level_choice

abbrev pub choices_of : List Choice → Choices
choices_of cs = chain (map one_choice cs) nothing

-- the value of the last Take all of whose Whens hold, or what was before
abbrev pub chosen : List SignalInfo → (ℕ → ℕ) → Choices → Option Word → Option Word
chosen signals V nothing before = before
chosen signals V (take e rest) before = chosen signals V rest (Some (source signals e V))
chosen signals V (branch k taken other rest) before =
    chosen signals V rest (if nat_eq (V k) 1 then chosen signals V taken before else chosen signals V other before)

-- there is a choice on each branch
abbrev pub full : Choices → Bool
full nothing = false
full (take e rest) = true
full (branch k taken other rest) = (full taken && full other) || full rest

-- whether y stands in the choices, as a condition or in a value
abbrev pub choices_read : Choices → ℕ → Bool
choices_read nothing y = false
choices_read (take e rest) y = source_mentions e y || choices_read rest y
choices_read (branch k taken other rest) y =
    nat_eq y k || (choices_read taken y || (choices_read other y || choices_read rest y))

abbrev pub no_equation : Equation
no_equation = Input

abbrev pub equation : Net → ℕ → Equation
equation net x = slice_index_or net.equations x no_equation

-- what x is to have under V by its equation. An input and a register are given
abbrev pub by_equation : Equation → List SignalInfo → ℕ → (ins regs : ℕ → ℕ) → (ℕ → ℕ) → ℕ
by_equation Input signals x ins regs V = ins x
by_equation (Comb choices) signals x ins regs V =
    fitted (info signals x) (unwrap_or (chosen signals V (choices_of choices) None) no_word)
by_equation (Reg next) signals x ins regs V = regs x

-- V meets the equations of the net, where `ins` has the inputs and `regs` the registers
abbrev pub MeetsNet : Net → (ins regs : ℕ → ℕ) → (ℕ → ℕ) → Type 0
MeetsNet net ins regs V = (x : ℕ) → x < length net.signals → V x ≡ by_equation (equation net x) net.signals x ins regs V

-- whether x reads y within a cycle. An input and a register read nothing
abbrev pub equation_reads : Equation → ℕ → Bool
equation_reads Input y = false
equation_reads (Comb choices) y = choices_read (choices_of choices) y
equation_reads (Reg next) y = false

abbrev pub net_reads : Net → ℕ → ℕ → Bool
net_reads net x y = equation_reads (equation net x) y

-- the value of x after an edge under V: a register's next value, or its old one where no choice holds
abbrev pub next_by : Equation → List SignalInfo → ℕ → (ℕ → ℕ) → ℕ → ℕ
next_by Input signals x V old = old
next_by (Comb choices) signals x V old = old
next_by (Reg next) signals x V old = connected (info signals x) (chosen signals V (choices_of next) None) old

abbrev pub next_value : Net → ℕ → (ℕ → ℕ) → ℕ → ℕ
next_value net x V old = next_by (equation net x) net.signals x V old
