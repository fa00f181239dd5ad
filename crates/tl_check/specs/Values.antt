-- Numbers that a port holds, variables that an expression uses, and ready-valid ports.
use Rattle.std.specs.Prelude.{ℕ, ◌-◌, ◌^◌, Bool, true, false, not, ◌&&◌, ◌||◌, if◌then◌else◌, nat_lt, nat_le, nat_eq, Option, Some, None, List, ◌++◌, codes}
use Rattle.std.specs.List.{list_any}
use Rattle.net_core.specs.declared.ports.PortInfo.{PortInfo}
use Rattle.net_core.specs.Ports.{port_named}
use Rattle.tl_ast.specs.declared.tree.DriverKind.{DriverKind}
use Rattle.tl_ast.specs.declared.tree.DriverKind.TheVariants.{Enqueue, EnqueueNow, EnqueueSeq, ExpectDequeue, ExpectDequeueNow, ExpectDequeueSeq, ExpectInvalid}
use Rattle.tl_ast.specs.declared.tree.TestExpr.{TestExpr}
use Rattle.tl_ast.specs.declared.tree.TestExpr.TheFolds.{fold-TestExpr}
use Rattle.tl_ast.specs.declared.tree.TestExpr.TheViews.{out-TestExpr}
use Rattle.tl_ast.specs.declared.tree.TestExpr.TheOpen.{TestExpr-F, Num, Var, Neg, Two}
use Rattle.tl_check.specs.Scopes.{is_among}

-- literals

-- how many numbers from 0 on a port of w bits holds: 2 ^ w, with a sign half of them; with no bits 0 alone
abbrev pub numbers_held : Bool → ℕ → ℕ
numbers_held signed w = if signed then 2 ^ (w - 1) else 2 ^ w

-- whether the port holds n
abbrev pub holds : PortInfo → ℕ → Bool
holds p n = nat_lt n (numbers_held p.signed p.width)

-- whether it holds `-` and n: with a sign it does down to -2 ^ (w - 1); with no bits 0 alone
abbrev pub holds_minus : PortInfo → ℕ → Bool
holds_minus p n = p.signed && nat_le n (if nat_eq p.width 0 then 0 else 2 ^ (p.width - 1))

abbrev pub minus_too_wide : PortInfo → TestExpr-F TestExpr → Bool
minus_too_wide p (Num n) = not (holds_minus p n)
minus_too_wide p _ = false

abbrev pub literal_too_wide : PortInfo → TestExpr-F TestExpr → Bool
literal_too_wide p (Num n) = not (holds p n)
literal_too_wide p (Neg e) = minus_too_wide p (out-TestExpr e)
literal_too_wide p _ = false

-- whether it is a literal, or `-` and a literal, that the port doesn't hold
abbrev pub is_too_wide : PortInfo → TestExpr → Bool
is_too_wide p e = literal_too_wide p (out-TestExpr e)

-- the same of one of these, where the port is there
abbrev pub some_too_wide : Option PortInfo → List TestExpr → Bool
some_too_wide None es = false
some_too_wide (Some p) es = list_any (is_too_wide p) es

-- variables

abbrev pub unknown_level : List (List ℕ) → TestExpr-F Bool → Bool
unknown_level variables (Num n) = false
unknown_level variables (Var name) = not (is_among name variables)
unknown_level variables (Neg e) = e
unknown_level variables (Two op a b) = a || b

-- whether an expression uses a variable that isn't one of these
abbrev pub uses_unknown : List (List ℕ) → TestExpr → Bool
uses_unknown variables = fold-TestExpr Bool (unknown_level variables)

-- the same of a variable that is set, if one is
abbrev pub sets_unknown : List (List ℕ) → Option (List ℕ) → Bool
sets_unknown variables None = false
sets_unknown variables (Some name) = not (is_among name variables)

-- ports

abbrev pub is_missing : Option PortInfo → Bool
is_missing None = true
is_missing (Some p) = false

-- whether the port is there and goes in, or goes out
abbrev pub goes : Bool → Option PortInfo → Bool
goes input None = false
goes input (Some p) = if input then p.input else not p.input

-- whether it is besides a UInt of one bit
abbrev pub is_bit : Bool → Option PortInfo → Bool
is_bit input None = false
is_bit input (Some p) = goes input (Some p) && (not p.signed && nat_eq p.width 1)

-- the ports of a ready-valid port

abbrev pub ready_port : List ℕ → List ℕ
ready_port port = port ++ codes ".ready"

abbrev pub valid_port : List ℕ → List ℕ
valid_port port = port ++ codes ".valid"

abbrev pub bits_port : List ℕ → List ℕ
bits_port port = port ++ codes ".bits"

-- whether the driver gives values to the circuit
abbrev pub enqueues : DriverKind → Bool
enqueues Enqueue = true
enqueues EnqueueNow = true
enqueues EnqueueSeq = true
enqueues ExpectDequeue = false
enqueues ExpectDequeueNow = false
enqueues ExpectDequeueSeq = false
enqueues ExpectInvalid = false

-- One that does drives valid and bits, and watches ready. One that doesn't drives ready, and watches valid and bits. Ready and valid
-- are UInts of one bit.
abbrev pub is_ready_valid : DriverKind → List ℕ → List (List ℕ × PortInfo) → Bool
is_ready_valid kind port ports =
    is_bit (not (enqueues kind)) (port_named (ready_port port) ports)
    && (is_bit (enqueues kind) (port_named (valid_port port) ports) && goes (enqueues kind) (port_named (bits_port port) ports))
