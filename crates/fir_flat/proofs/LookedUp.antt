-- What is looked up, a form of expression at a time.
use Rattle.std.proofs.Common.{ℕ, zero, suc, ◌≡◌, ◌<◌, ◌≤◌, ◌∙◌, Bool, false, Option, List, [], ◌∷◌, map, length, get_or, arith, refl, sym, ap, ap₂, subst, IfOk, Result}
use Rattle.std.specs.Prelude.{IsErrAnd}
use Rattle.std.proofs.lemmas.Result.{err_from_is_err_and}
use Rattle.tb_base.specs.declared.memory.Memory.{Memory}
use Rattle.tb_base.specs.declared.op.Op.{Op}
use Rattle.tb_base.specs.declared.op.Op.TheVariants.{Mux}
use Rattle.fir_ast.specs.declared.tree.Expr.{Expr}
use Rattle.fir_ast.specs.declared.tree.Expr.TheVariants as expr
use Rattle.net_core.specs.declared.tree.GroundExpr.TheVariants as to
use Rattle.fir_flat.specs.declared.kinds.Flow.TheVariants.{Fixed}
use Rattle.fir_flat.specs.declared.kinds.Kind.TheVariants.{Empty}
use Rattle.fir_flat.specs.declared.worth.Worth.TheVariants as worth
use Rattle.fir_flat.specs.declared.resolve.Reference.{Reference}
use Rattle.fir_flat.specs.Values.{Bound, Value, value, named, bound_named, field_of, element_of, indexed, chosen, applied, operand, no_value, computed, number}
use Rattle.fir_flat.specs.Resolving.{Refers, plain_value}
use Rattle.fir_flat.proofs.ResolveFacts.{value-Ident, value-Part, value-At, value-Index, value-Lit, value-Apply, plain}

refers_as : (v w : Value) (r : Reference) → v ≡ w → Refers w r → Refers v r
refers_as v w r is h = subst (λ (u : Value). Refers u r) (sym is) h

looked_up_as : (v w : Value) (r : Result Reference Memory) → v ≡ w → IfOk r (Refers w) → IfOk r (Refers v)
looked_up_as v w r is h = subst (λ (u : Value). IfOk r (Refers u)) (sym is) h

pub name_looked_up : (known : List Bound) (e : Expr) (name bytes : List ℕ) (b : Bound) (r : Reference) → e ≡ expr.Ident name → bytes ≡ name
    → b ≡ bound_named bytes known → Refers (named b) r → Refers (value known e) r
name_looked_up known e name bytes b r is eb found h =
    refers_as (value known e) (named b) r
    (ap (value known) is ∙ value-Ident known name ∙ ap (λ (n : List ℕ). named (bound_named n known)) (sym eb) ∙ ap named (sym found)) h

pub field_looked_up : (known : List Bound) (e of got : Expr) (name bytes : List ℕ) (r : Result Reference Memory) → e ≡ expr.Part of name → got ≡ of → bytes ≡ name
    → IfOk r (Refers (field_of bytes (value known got))) → IfOk r (Refers (value known e))
field_looked_up known e of got name bytes r is eg eb h =
    looked_up_as (value known e) (field_of bytes (value known got)) r
    (ap (value known) is ∙ value-Part known of name ∙ ap₂ (λ (n : List ℕ) (x : Expr). field_of n (value known x)) (sym eb) (sym eg)) h

pub named_field_looked_up : (known : List Bound) (e of got : Expr) (name bytes bundle words : List ℕ) (r : Result Reference Memory) → e ≡ expr.Part of name → got ≡ of
    → got ≡ expr.Ident bundle → words ≡ bundle → bytes ≡ name → IfOk r (Refers (field_of bytes (named (bound_named words known)))) → IfOk r (Refers (value known e))
named_field_looked_up known e of got name bytes bundle words r is eg inner ew eb h =
    field_looked_up known e of got name bytes r is eg eb
    (looked_up_as (field_of bytes (value known got)) (field_of bytes (named (bound_named words known))) r
    (ap (λ (v : Value). field_of bytes v)
    (ap (value known) inner ∙ value-Ident known bundle ∙ ap (λ (n : List ℕ). named (bound_named n known)) (sym ew))) h)

pub element_looked_up : (known : List Bound) (e of got : Expr) (n : ℕ) (r : Result Reference Memory) → e ≡ expr.At of n → got ≡ of
    → IfOk r (Refers (element_of n (value known got))) → IfOk r (Refers (value known e))
element_looked_up known e of got n r is eg h =
    looked_up_as (value known e) (element_of n (value known got)) r
    (ap (value known) is ∙ value-At known of n ∙ ap (λ (x : Expr). element_of n (value known x)) (sym eg)) h

pub index_looked_up : (known : List Bound) (e of got index place : Expr) (r : Result Reference Memory) → e ≡ expr.Index of index → got ≡ of → place ≡ index
    → IfOk r (Refers (indexed (value known got) (value known place))) → IfOk r (Refers (value known e))
index_looked_up known e of got index place r is eg ep h =
    looked_up_as (value known e) (indexed (value known got) (value known place)) r
    (ap (value known) is ∙ value-Index known of index ∙ ap₂ (λ (x y : Expr). indexed (value known x) (value known y)) (sym eg) (sym ep)) h

pub literal_looked_up : (known : List Bound) (e : Expr) (signed : Bool) (width : Option ℕ) (negative : Bool) (n : ℕ) (r : Reference)
    → e ≡ expr.Lit signed width negative n → Refers (computed (number signed) (λ k. to.Lit signed width negative n)) r → Refers (value known e) r
literal_looked_up known e signed width negative n r is h =
    refers_as (value known e) (computed (number signed) (λ k. to.Lit signed width negative n)) r
    (ap (value known) is ∙ value-Lit known signed width negative n) h

applied_as : (known : List Bound) (e : Expr) (op : Op) (args given : List Expr) (nums copied : List ℕ) → e ≡ expr.Apply op args nums → given ≡ args → copied ≡ nums
    → value known e ≡ applied op (map (value known) given) copied
applied_as known e op args given nums copied is eg en =
    ap (value known) is ∙ value-Apply known op args nums ∙ ap₂ (λ (xs : List Expr) (ns : List ℕ). applied op (map (value known) xs) ns) (sym eg) (sym en)

pub mux_looked_up : (known : List Bound) (e : Expr) (op : Op) (args given : List Expr) (nums copied : List ℕ) (r : Result Reference Memory)
    → e ≡ expr.Apply op args nums → op ≡ Mux → given ≡ args → copied ≡ nums
    → IfOk r (Refers (chosen (operand 0 (map (value known) given)) (operand 1 (map (value known) given)) (operand 2 (map (value known) given)) copied))
    → IfOk r (Refers (value known e))
mux_looked_up known e op args given nums copied r is mux eg en h =
    looked_up_as (value known e) (applied Mux (map (value known) given) copied) r
    (applied_as known e op args given nums copied is eg en ∙ ap (λ (o : Op). applied o (map (value known) given) copied) mux) h

pub operation_looked_up : (known : List Bound) (e : Expr) (op : Op) (args given : List Expr) (nums copied : List ℕ) (r : Reference) → e ≡ expr.Apply op args nums
    → (op ≡ Mux → ⊥) → given ≡ args → copied ≡ nums → Refers (plain_value op (map (value known) given) copied) r → Refers (value known e) r
operation_looked_up known e op args given nums copied r is other eg en h =
    refers_as (value known e) (plain_value op (map (value known) given) copied) r
    (applied_as known e op args given nums copied is eg en ∙ plain op (map (value known) given) copied other) h

-- operands

operand_of : (f : Expr → Value) (xs : List Expr) (k : ℕ) (x : Expr) → k < length xs → x ≡ get_or xs k x → operand k (map f xs) ≡ f x
operand_of f [] k x l e = absurd (omega (arith, l))
operand_of f (y ∷ ys) zero x l e = ap f (sym e)
operand_of f (y ∷ ys) (suc k) x l e = operand_of f ys k x (omega (arith, l)) e

pub operand_looked_up : (f : Expr → Value) (xs : List Expr) (k : ℕ) (x : Expr) (r : Result Reference Memory) → k < length xs → x ≡ get_or xs k x
    → IfOk r (Refers (f x)) → IfOk r (Refers (operand k (map f xs)))
operand_looked_up f xs k x r l e h = looked_up_as (operand k (map f xs)) (f x) r (operand_of f xs k x l e) h

no_operand : (f : Expr → Value) (xs : List Expr) (k : ℕ) → length xs ≤ k → operand k (map f xs) ≡ no_value
no_operand f [] k l = refl
no_operand f (x ∷ xs) zero l = absurd (omega (arith, l))
no_operand f (x ∷ xs) (suc k) l = no_operand f xs k (omega (arith, l))

-- what an expression has no operand for has no ground part
pub refers_none : (f : Expr → Value) (xs : List Expr) (k : ℕ) → length xs ≤ k
    → Refers (operand k (map f xs)) (record { kind = Empty; flow = Fixed; worth = worth.Missing; absent = false })
refers_none f xs k l = refers_as (operand k (map f xs)) no_value (record { kind = Empty; flow = Fixed; worth = worth.Missing; absent = false }) (no_operand f xs k l) (record {
  ty = refl;
  flow = refl;
  part = λ j m. absurd (omega (arith, m));
  drive = λ line j given m. absurd (omega (arith, m refl));
})

-- what failed refers to nothing
pub refused : (r : Result Reference Memory) (Q : Memory → Type 0) (P : Reference → Type 0) → IsErrAnd r Q → IfOk r P
refused r Q P h = let p = err_from_is_err_and r h in rw p.1 tt
