-- The operations' names.
use Rattle.std.specs.Prelude.{ℕ, List, [], ◌∷◌, codes, Option}
use Rattle.std.specs.List.{find}
use Rattle.std.specs.Str.{bytes_eq}
use Rattle.tb_base.specs.declared.op.Op.{Op}
use Rattle.tb_base.specs.declared.op.Op.TheVariants.{Add, Sub, Mul, Div, Rem, Lt, Leq, Gt, Geq, Eq, Neq, Pad, AsUInt, AsSInt, Shl, Shr, Dshl, Dshr, Cvt, Neg, Not, And, Or, Xor, Andr, Orr, Xorr, Cat, Bits, Head, Tail, Mux}

-- the word by which a circuit's text calls the operation
abbrev pub op_name : Op → List ℕ
op_name Add = codes "add"
op_name Sub = codes "sub"
op_name Mul = codes "mul"
op_name Div = codes "div"
op_name Rem = codes "rem"
op_name Lt = codes "lt"
op_name Leq = codes "leq"
op_name Gt = codes "gt"
op_name Geq = codes "geq"
op_name Eq = codes "eq"
op_name Neq = codes "neq"
op_name Pad = codes "pad"
op_name AsUInt = codes "asUInt"
op_name AsSInt = codes "asSInt"
op_name Shl = codes "shl"
op_name Shr = codes "shr"
op_name Dshl = codes "dshl"
op_name Dshr = codes "dshr"
op_name Cvt = codes "cvt"
op_name Neg = codes "neg"
op_name Not = codes "not"
op_name And = codes "and"
op_name Or = codes "or"
op_name Xor = codes "xor"
op_name Andr = codes "andr"
op_name Orr = codes "orr"
op_name Xorr = codes "xorr"
op_name Cat = codes "cat"
op_name Bits = codes "bits"
op_name Head = codes "head"
op_name Tail = codes "tail"
op_name Mux = codes "mux"

-- every operation, in the order of the table
abbrev pub all_ops : List Op
all_ops =
    Add ∷ Sub ∷ Mul ∷ Div ∷ Rem ∷ Lt ∷ Leq ∷ Gt ∷ Geq ∷ Eq ∷ Neq ∷ Pad ∷ AsUInt ∷ AsSInt ∷ Shl ∷ Shr ∷ Dshl ∷ Dshr ∷ Cvt ∷ Neg ∷ Not ∷ And ∷ Or
    ∷ Xor ∷ Andr ∷ Orr ∷ Xorr ∷ Cat ∷ Bits ∷ Head ∷ Tail ∷ Mux ∷ []

-- the operation that a text names, if it names one
abbrev pub op_named : List ℕ → Option Op
op_named text = find (λ op. bytes_eq (op_name op) text) all_ops
