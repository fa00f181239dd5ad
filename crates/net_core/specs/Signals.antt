-- What is known of the signal of a number.
use Rattle.std.specs.Prelude.{ℕ, Bool, true, false, List, [], Some, slice_index_or, unwrap_or}
use Rattle.net_core.specs.declared.tree.SignalInfo.{SignalInfo}
use Rattle.net_core.specs.declared.tree.Role.{Role}
use Rattle.net_core.specs.declared.tree.Role.TheVariants.{Input, Output, Inner, Node, Reg}

-- of a signal that is not there
abbrev pub no_info : SignalInfo
no_info = record { name = []; role = Inner; signed = false; width = Some 0; line = 0 }

abbrev pub info : List SignalInfo → ℕ → SignalInfo
info signals x = slice_index_or signals x no_info

-- its width, and 0 where none is given
abbrev pub given_width : SignalInfo → ℕ
given_width i = unwrap_or i.width 0

abbrev pub is_input : Role → Bool
is_input Input = true
is_input _ = false

abbrev pub is_node : Role → Bool
is_node Node = true
is_node _ = false

abbrev pub is_register : Role → Bool
is_register Reg = true
is_register _ = false

-- a port of the main module
abbrev pub is_port : Role → Bool
is_port Input = true
is_port Output = true
is_port _ = false

-- within a cycle its value is kept: it is given from outside, or holds until the edge
abbrev pub is_kept : Role → Bool
is_kept Input = true
is_kept Reg = true
is_kept _ = false
