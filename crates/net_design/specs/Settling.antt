-- The settled values of a circuit as functions of its inputs and registers, and what an edge leaves.
use Rattle.std.specs.Prelude.{ℕ, zero, suc, ◌+◌, List, [], ◌∷◌, length, slice_index, if◌then◌else◌}
use Rattle.tb_base.specs.Word.{value_of, low_bits}
use Rattle.net_core.specs.declared.tree.Elab.{Elab}
use Rattle.net_core.specs.Signals.{info, is_register}
use Rattle.net_core.specs.Values.{word_of}
use Rattle.net_core.specs.Settled.{rule, edge}

-- what each signal has after some rounds. At first each has 0, and in a round it gets what it is to have under what all had before
abbrev pub rounds : Elab → (ins regs : ℕ → ℕ) → ℕ → ℕ → ℕ
rounds e ins regs zero x = 0
rounds e ins regs (suc n) x = rule e ins regs x (rounds e ins regs n)

-- the settled value of each signal, its bits: what it has after as many rounds as there are signals
abbrev pub settled_value : Elab → (ins regs : ℕ → ℕ) → ℕ → ℕ
settled_value e ins regs = rounds e ins regs (length e.signals)

-- the same, where two lists have the inputs and the registers at the places of their signals
abbrev pub settled_at : Elab → (ins regs : List ℕ) → ℕ → ℕ
settled_at e ins regs = settled_value e (λ x. slice_index ins x) (λ x. slice_index regs x)

-- the number of a signal: its settled value, extended to 128 bits by its sign
abbrev pub number_at : Elab → (ins regs : List ℕ) → ℕ → ℕ
number_at e ins regs x = low_bits 128 (value_of (word_of (info e.signals x) (settled_at e ins regs x)))

-- what the signals from x on keep over an edge under V: a register its next value, any other what it has
abbrev pub kept_after : Elab → (ℕ → ℕ) → ℕ → List ℕ → List ℕ
kept_after e V x [] = []
kept_after e V x (r ∷ rs) = (if is_register (info e.signals x).role then edge e V x r else r) ∷ kept_after e V (x + 1) rs

-- the registers after an edge
abbrev pub registers_after : Elab → (ins regs : List ℕ) → List ℕ
registers_after e ins regs = kept_after e (settled_at e ins regs) 0 regs
