-- What the ground parts of an expression are worth, a variant at a time.
use Rattle.std.proofs.Common.{ℕ, Bool, Option, List, map, ◌≡◌, ◌∙◌, sym, ap}
use Rattle.tb_base.specs.declared.op.Op.{Op}
use Rattle.fir_flat.specs.declared.worth.Worth.{Worth}
use Rattle.fir_flat.specs.declared.worth.Worth.TheVariants as worth
use Rattle.fir_flat.specs.declared.worth.Worth.TheVariants.{rolls-Named, rolls-Behind, rolls-Indexed, rolls-Missing, rolls-BySign, rolls-Lit, rolls-Chosen, rolls-Applied}
use Rattle.fir_flat.specs.declared.worth.Worth.TheFolds.{fold-roll-Worth}
use Rattle.fir_flat.specs.declared.worth.Worth.TheOpen.{Named, Behind, Indexed, Missing, BySign, Lit, Chosen, Applied}
use Rattle.fir_flat.specs.Worths.{Ends, level_ends, ends_of}

pub ends-Named : (first : ℕ) → ends_of (worth.Named first) ≡ level_ends (Named first)
ends-Named first = ap ends_of (sym (rolls-Named first)) ∙ fold-roll-Worth Ends level_ends (Named first)

pub ends-Behind : (before : ℕ) (of : Worth) → ends_of (worth.Behind before of) ≡ level_ends (Behind before (ends_of of))
ends-Behind before of = ap ends_of (sym (rolls-Behind before of)) ∙ fold-roll-Worth Ends level_ends (Behind before of)

pub ends-Indexed : (of index : Worth) (size count : ℕ)
    → ends_of (worth.Indexed of index size count) ≡ level_ends (Indexed (ends_of of) (ends_of index) size count)
ends-Indexed of index size count = ap ends_of (sym (rolls-Indexed of index size count)) ∙ fold-roll-Worth Ends level_ends (Indexed of index size count)

pub ends-Missing : ends_of worth.Missing ≡ level_ends Missing
ends-Missing = ap ends_of (sym rolls-Missing) ∙ fold-roll-Worth Ends level_ends Missing

pub ends-BySign : (of : Worth) (signs : List Bool) → ends_of (worth.BySign of signs) ≡ level_ends (BySign (ends_of of) signs)
ends-BySign of signs = ap ends_of (sym (rolls-BySign of signs)) ∙ fold-roll-Worth Ends level_ends (BySign of signs)

pub ends-Lit : (signed : Bool) (width : Option ℕ) (negative : Bool) (n : ℕ)
    → ends_of (worth.Lit signed width negative n) ≡ level_ends (Lit signed width negative n)
ends-Lit signed width negative n =
    ap ends_of (sym (rolls-Lit signed width negative n)) ∙ fold-roll-Worth Ends level_ends (Lit signed width negative n)

pub ends-Chosen : (cond taken other : Worth) (partners nums : List ℕ)
    → ends_of (worth.Chosen cond taken other partners nums) ≡ level_ends (Chosen (ends_of cond) (ends_of taken) (ends_of other) partners nums)
ends-Chosen cond taken other partners nums =
    ap ends_of (sym (rolls-Chosen cond taken other partners nums)) ∙ fold-roll-Worth Ends level_ends (Chosen cond taken other partners nums)

pub ends-Applied : (op : Op) (args : List Worth) (nums : List ℕ)
    → ends_of (worth.Applied op args nums) ≡ level_ends (Applied op (map ends_of args) nums)
ends-Applied op args nums = ap ends_of (sym (rolls-Applied op args nums)) ∙ fold-roll-Worth Ends level_ends (Applied op args nums)

pub ruleset endings = (ends-Named, ends-Behind, ends-Indexed, ends-Missing, ends-BySign, ends-Lit, ends-Chosen, ends-Applied)
