-- Ways to make a part: what grows by what follows it, and what keeps to a limit.
use Rattle.std.specs.Prelude.{ℕ, zero, suc, nat_le, ◌&&◌, ◌≡◌, ◌⊎◌, Bool, true, false, if◌then◌else◌, List, [], ◌∷◌, ◌++◌, length, Option, Some, None, Ok}
use Rattle.text_grammar.specs.declared.item.Item.{Item}
use Rattle.text_grammar.specs.declared.fault.Kind.TheVariants.{TooDeep}
use Rattle.text_grammar.specs.Part.{Part, Outcome, ◌>>=◌, starts, nothing, pick, stop}

-- ---- a value that grows by what follows it, as often as it may

-- from a value to another, by way of the values between
abbrev pub Grows : {A : Type 0} → (A → Bool) → (A → List Item → A → Type 0) → A → List A → List Item → A → Type 0
Grows may spells a [] ts c = (ts ≡ []) × (c ≡ a)
Grows may spells a (b ∷ more) ts c = (xs ys : List Item) × (ts ≡ xs ++ ys) × (may a ≡ true) × spells a xs b × Grows may spells b more ys c

-- the number bounds the turns; each turn takes an item, so the count of items is enough
unfoldable pub grow_at : {A : Type 0} → (A → Bool) → (Item → Bool) → (A → List Item → Outcome A) → ℕ → A → List Item → Outcome A
grow_at may begins reads zero a ts = Ok (a, ts)
grow_at may begins reads (suc n) a ts = if may a && starts begins ts then (reads a ts >>= λ x. grow_at may begins reads n x.0 x.1) else Ok (a, ts)

-- `may` says which values may grow, and `begins` which items begin what they grow by
unfoldable pub grow : {A : Type 0} → (A → Bool) → (Item → Bool) → (A → Part A) → A → Part A
grow {A = A} may begins p a = record {
  spells = λ ts c. (path : List A) × Grows may (λ b. (p b).spells) a path ts c;
  fronts = λ ts. (xs ys : List Item) × (path : List A) × (b : A) × (ts ≡ xs ++ ys) × Grows may (λ c. (p c).spells) a path xs b × ((ys ≡ []) ⊎ ((may b ≡ true) × (p b).fronts ys));
  passes = λ k front rest. (xs ys : List Item) × (path : List A) × (b : A) × (front ≡ xs ++ ys) × Grows may (λ c. (p c).spells) a path xs b × (may b ≡ true) × (p b).passes k ys rest;
  reads = λ ts. grow_at may begins (λ b. (p b).reads) (length ts) a ts;
}

abbrev pub always : {A : Type 0} → A → Bool
always a = true

-- ---- a count that has a limit, or none

abbrev pub is_full : Option ℕ → ℕ → Bool
is_full None count = false
is_full (Some most) count = nat_le most count

-- whether there is room for one more behind so many; if not, it is faulty
unfoldable pub room : Option ℕ → ℕ → Part (Unit {0})
room most count = pick (is_full most count) (stop TooDeep) (nothing tt)
