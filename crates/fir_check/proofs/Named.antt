-- The module of a name and the field of a name, by the number that a table gives it.
use Rattle.std.proofs.Common.{ℕ, zero, suc, arith, ◌≡◌, ◌+◌, ◌<◌, Bool, true, false, cond, None, Some, option_map, List, [], ◌∷◌, length, map, get_or, refl, sym, ap, ◌∙◌, subst, zero-add}
use Rattle.std.specs.Prelude.{find, bytes_eq}
use Rattle.std.specs.List.{position_from}
use Rattle.fir_ast.specs.declared.tree.Ty.{Ty}
use Rattle.fir_ast.specs.declared.tree.Ty.TheVariants as ty
use Rattle.fir_ast.specs.declared.tree.Field.{Field}
use Rattle.fir_check.specs.declared.thing.Thing.{Thing as NumberedThing}
use Rattle.fir_check.specs.Seen.{type_at, meant}
use Rattle.fir_ast.specs.declared.tree.Module.{Module}
use Rattle.std.proofs.lemmas.Option.{slice_get-get_or}
use Rattle.fir_check.specs.declared.thing.Flow.TheVariants.{Source}
use Rattle.fir_check.specs.Scopes.{instance_thing, module_named, ports_type}
use Rattle.fir_check.specs.Types.{Slot}
use Rattle.fir_check.specs.Fields.{field_name, named_slot}
use Rattle.fir_check.specs.Tables.{number_named, NamesModules, NamesFields}
use Rattle.fir_check.proofs.ByNumber.{At, at-position, ByName, by_name}
use Rattle.fir_check.proofs.Names.{map_at, map_length, find_map}
use Rattle.fir_check.proofs.Shapes.{slot_of}

pub not_found : {X : Type 0} (p : X → Bool) (i : ℕ) (xs : List X) → position_from p i xs ≡ None → find p xs ≡ None
not_found p i [] e = refl
not_found p i (x ∷ xs) e = step (p x) e (not_found p (i + 1) xs)
  where
    step : (b : Bool) → cond b (Some i) (position_from p (i + 1) xs) ≡ None → (position_from p (i + 1) xs ≡ None → find p xs ≡ None) → cond b (Some x) (find p xs) ≡ None
    step true q f = cc
    step false q f = f q

pub named_none : (modules : List Module) (table : List (List ℕ × ℕ)) (q : List ℕ) → NamesModules modules table → number_named q table ≡ None → module_named q modules ≡ None
named_none modules table q n e = not_found (λ m. bytes_eq m.name q) 0 modules (sym (n.each q) ∙ e)

pub named_low : (modules : List Module) (table : List (List ℕ × ℕ)) (q : List ℕ) (k : ℕ) → NamesModules modules table → number_named q table ≡ Some k → k < length modules
named_low modules table q k n e = (by_name modules table q k n e).by.low

-- the types of instances stand in the order of the modules
pub instances_low : (modules : List Module) (table : List (List ℕ × ℕ)) (T : List Ty) (instances : List ℕ) (q : List ℕ) (k : ℕ) → NamesModules modules table
    → map (type_at T) instances ≡ map ports_type modules → number_named q table ≡ Some k → k < length instances
instances_low modules table T instances q k n t e =
    subst (λ l. k < l) (sym (sym (map_length (type_at T) instances) ∙ ap length t ∙ map_length ports_type modules)) (named_low modules table q k n e)

-- what a look-up in the list of modules gives
pub module_at : (modules : List Module) (table : List (List ℕ × ℕ)) (q : List ℕ) (k : ℕ) (d : Module) → NamesModules modules table → number_named q table ≡ Some k
    → Some (get_or modules k d) ≡ module_named q modules
module_at modules table q k d n e =
    let b : ByName modules table k q = by_name modules table q k n e in
    sym (slice_get-get_or modules k d b.by.low) ∙ slice_get-get_or modules k b.home b.by.low ∙ ap Some (sym b.by.is) ∙ sym b.by.named ∙ ap (λ x. module_named x modules) b.name

pub any_default : {X : Type 0} (xs : List X) (n : ℕ) (d e : X) → n < length xs → get_or xs n d ≡ get_or xs n e
any_default [] n d c h = absurd (omega arith)
any_default (x ∷ xs) zero d c h = refl
any_default (x ∷ xs) (suc n) d c h = any_default xs n d c (omega arith)

-- what an instance of that module stands for
pub instance_at : (modules : List Module) (table : List (List ℕ × ℕ)) (T : List Ty) (instances : List ℕ) (q : List ℕ) (k d : ℕ) (x : NumberedThing) → NamesModules modules table
    → map (type_at T) instances ≡ map ports_type modules → number_named q table ≡ Some k → x ≡ record { number = get_or instances k d; flow = Source; whole = true }
    → Some (meant T x) ≡ option_map instance_thing (module_named q modules)
instance_at modules table T instances q k d x n t e w =
    let p : ℕ = get_or instances k d in
    let b : ByName modules table k q = by_name modules table q k n e in
    let l : k < length instances = instances_low modules table T instances q k n t e in
    let y : type_at T p ≡ ports_type b.home =
    sym (map_at (type_at T) instances k p (ty.UInt None) l (any_default instances k d p l)) ∙ ap (λ z. get_or z k (ty.UInt None)) t ∙ map_at ports_type modules k b.home (ty.UInt None) b.by.low b.by.is in
    ap (λ z. Some (meant T z)) w ∙ ap (λ z. Some (record { ty = z; flow = Source; whole = true })) y
    ∙ ap (option_map instance_thing) (sym b.by.named ∙ ap (λ z. module_named z modules) b.name)

-- the field of a name, by the number that a table gives it

pub field_none : (fields : List Field) (table : List (List ℕ × ℕ)) (q : List ℕ) → NamesFields fields table → number_named q table ≡ None → named_slot q fields ≡ None
field_none fields table q n e =
    find_map (λ (s : Slot Ty). bytes_eq s.name q) slot_of fields
    ∙ ap (option_map slot_of) (not_found (λ f. bytes_eq (field_name f) q) 0 fields (sym (n.each q) ∙ e))

record FieldAt (fields : List Field) (q : List ℕ) (k : ℕ) : Type 0 where
  low : k < length fields
  item : Field
  is : item ≡ get_or fields k item
  first : named_slot q fields ≡ Some (slot_of item)

field-at : (fields : List Field) (table : List (List ℕ × ℕ)) (q : List ℕ) (k : ℕ) → NamesFields fields table → number_named q table ≡ Some k → FieldAt fields q k
field-at fields table q k n e =
    let a : At (λ f. bytes_eq (field_name f) q) 0 k fields = at-position (λ f. bytes_eq (field_name f) q) 0 k fields (sym (n.each q) ∙ e) in
    let z : a.past ≡ k = sym (zero-add a.past) ∙ sym a.place in
    record {
      low = subst (λ x. x < length fields) z a.low;
      item = a.item;
      is = a.is ∙ ap (λ x. get_or fields x a.item) z;
      first = find_map (λ (s : Slot Ty). bytes_eq s.name q) slot_of fields ∙ ap (option_map slot_of) a.first;
    }

pub field_low : (fields : List Field) (table : List (List ℕ × ℕ)) (q : List ℕ) (k : ℕ) → NamesFields fields table → number_named q table ≡ Some k → k < length fields
field_low fields table q k n e = (field-at fields table q k n e).low

pub field_at : (fields : List Field) (table : List (List ℕ × ℕ)) (q : List ℕ) (k : ℕ) (d : Field) → NamesFields fields table → number_named q table ≡ Some k
    → Some (slot_of (get_or fields k d)) ≡ named_slot q fields
field_at fields table q k d n e =
    let f : FieldAt fields q k = field-at fields table q k n e in
    ap (option_map slot_of) (sym (slice_get-get_or fields k d f.low) ∙ slice_get-get_or fields k f.item f.low ∙ ap Some (sym f.is)) ∙ sym f.first
