-- Ways over instances and the definition of containment: both say the same.
use Rattle.std.proofs.Common.{ℕ, zero, suc, ◌≡◌, ◌+◌, ◌<◌, ◌≤◌, Bool, true, false, cond, ◌||◌, nat_eq, nat_le, Option, Some, None, option_to_list, List, [], ◌∷◌, map, flat_map, find, length, bytes_eq, refl, sym, ap, subst, ◌∙◌, ◌⊎◌, inl, inr, arith, eqb-true, slice_index}
use Rattle.std.specs.List.{list_any, list_all}
use Rattle.std.proofs.lemmas.Bool.{leb-true, leb-false}
use Rattle.fir_ast.specs.declared.tree.Module.{Module}
use Rattle.fir_check.specs.declared.best.Rule.TheVariants.{InstanceCycle}
use Rattle.fir_check.specs.declared.instances.Instance.{Instance}
use Rattle.fir_check.specs.Names.{kept}
use Rattle.fir_check.specs.Scopes.{module_named}
use Rattle.fir_check.specs.Rules.{targets_in, targets_of, contains}
use Rattle.fir_check.specs.Places.{place, least}
use Rattle.fir_check.specs.Instances.{kids_at, reaches, Parts, leads_so, NeverRises}
use Rattle.fir_check.proofs.Tables.{names-equal}
use Rattle.fir_check.proofs.Trails.{or-left, or-none, any-step, and-left, and-right}
use Rattle.std.proofs.Common.{add-zero, zero-add}

-- no way leads up

pub falls-parts : (heights : List ℕ) (kids : List (List Instance)) (a b : ℕ) → NeverRises heights kids → slice_index heights a < slice_index heights b → Parts kids a b
falls-parts heights kids a b r h = record { none = λ n. lower-none n a h }
  where
    apart : (x : ℕ) → slice_index heights x < slice_index heights b → nat_eq x b ≡ false
    apart x l = elim (nat_eq x b) as (λ e. nat_eq x b ≡ e → e ≡ false) [ true ↦ λ e. (let q : slice_index heights x ≡ slice_index heights b = ap (slice_index heights) (eqb-true x b e) in absurd (omega arith)) | false ↦ λ e. refl ] refl

    none-of : (n x : ℕ) → slice_index heights x < slice_index heights b → ((y : ℕ) → slice_index heights y < slice_index heights b → reaches n kids y b ≡ false)
        → (insts : List Instance) → list_all (λ i. nat_le (slice_index heights i.target) (slice_index heights x)) insts ≡ true → list_any (λ i. reaches n kids i.target b) insts ≡ false
    none-of n x l f [] m = refl
    none-of n x l f (i ∷ insts) m =
        or-none (reaches n kids i.target b) _
        (f i.target (let q : slice_index heights i.target ≤ slice_index heights x = leb-true _ _ (and-left (nat_le (slice_index heights i.target) (slice_index heights x)) _ m) in omega arith))
        (none-of n x l f insts (and-right (nat_le (slice_index heights i.target) (slice_index heights x)) _ m))

    lower-none : (n x : ℕ) → slice_index heights x < slice_index heights b → reaches n kids x b ≡ false
    lower-none zero x l = apart x l
    lower-none (suc n) x l = or-none (nat_eq x b) _ (apart x l) (none-of n x l (λ y m. lower-none n y m) (kids_at kids x) (r.each x))

pub parts-note : (kids : List (List Instance)) (a b : ℕ) (o : Option ℕ) (line : ℕ) → Parts kids a b → (c : Bool) → leads_so c kids a b → o ≡ least o (map (place InstanceCycle) (kept c line []))
parts-note kids a b o line p true l = let w : reaches l.steps kids a b ≡ true = l.way in let v : reaches l.steps kids a b ≡ false = p.none l.steps in cc
parts-note kids a b o line p false l = refl

-- one answer alone
pub leads-once : (kids : List (List Instance)) (a b : ℕ) (c d : Bool) → leads_so c kids a b → leads_so d kids a b → c ≡ d
leads-once kids a b true true l m = refl
leads-once kids a b true false l m = let w : reaches l.steps kids a b ≡ true = l.way in let v : reaches l.steps kids a b ≡ false = m.none l.steps in cc
leads-once kids a b false true l m = let w : reaches m.steps kids a b ≡ true = m.way in let v : reaches m.steps kids a b ≡ false = l.none m.steps in cc
leads-once kids a b false false l m = refl

or-false : (x : Bool) → (x || false) ≡ x
or-false true = refl
or-false false = refl

-- containment at more and more depth

any-true : {X : Type 0} (f g : X → Bool) (xs : List X) → ((x : X) → f x ≡ true → g x ≡ true) → list_any f xs ≡ true → list_any g xs ≡ true
any-true f g [] h m = m
any-true f g (x ∷ xs) h m = any-step (f x) (g x) _ _ (h x) (any-true f g xs h) m

any-same : {X : Type 0} (f g : X → Bool) (xs : List X) → ((x : X) → f x ≡ g x) → list_any f xs ≡ list_any g xs
any-same f g [] h = refl
any-same f g (x ∷ xs) h = ap (λ b. b || list_any f xs) (h x) ∙ ap (λ b. g x || b) (any-same f g xs h)

deeper : (modules : List Module) (inner : List ℕ) (n : ℕ) (outer : List ℕ) → contains n modules outer inner ≡ true → contains (suc n) modules outer inner ≡ true
deeper modules inner zero outer h = or-left (bytes_eq outer inner) _ h
deeper modules inner (suc n) outer h = any-step (bytes_eq outer inner) (bytes_eq outer inner) _ _ (λ e. e) (any-true (λ t. contains n modules t inner) (λ t. contains (suc n) modules t inner) (targets_of modules outer) (λ t. deeper modules inner n t)) h

-- no further depth adds anything
pub record Settled (modules : List Module) (inner : List ℕ) (n : ℕ) : Type 0 where
  pub each : (outer : List ℕ) → contains (suc n) modules outer inner ≡ contains n modules outer inner

settled-next : (modules : List Module) (inner : List ℕ) (n : ℕ) → Settled modules inner n → Settled modules inner (suc n)
settled-next modules inner n s = record { each = λ outer. ap (λ b. bytes_eq outer inner || b) (any-same (λ t. contains (suc n) modules t inner) (λ t. contains n modules t inner) (targets_of modules outer) s.each) }

-- how many pass a test
unfoldable pub passing : {X : Type 0} → (X → Bool) → List X → ℕ
passing f [] = 0
passing f (x ∷ xs) = cond (f x) 1 0 + passing f xs

pub passing-length : {X : Type 0} (f : X → Bool) (xs : List X) → passing f xs ≤ length xs
unfolding passing
passing-length f [] = omega arith
passing-length f (x ∷ xs) = step (f x) (passing-length f xs)
  where
    step : (b : Bool) → passing f xs ≤ length xs → cond b 1 0 + passing f xs ≤ suc (length xs)
    step true m = omega arith
    step false m = omega arith

-- a test that only becomes true, over a list
passing-more : {X : Type 0} (f g : X → Bool) (xs : List X) → ((x : X) → f x ≡ true → g x ≡ true) → passing f xs ≤ passing g xs
unfolding passing
passing-more f g [] h = omega arith
passing-more f g (x ∷ xs) h = step (f x) (g x) (h x) (passing-more f g xs h)
  where
    step : (b c : Bool) → (b ≡ true → c ≡ true) → passing f xs ≤ passing g xs → cond b 1 0 + passing f xs ≤ cond c 1 0 + passing g xs
    step true true k m = omega arith
    step true false k m = let e : false ≡ true = k refl in cc
    step false true k m = omega arith
    step false false k m = omega arith

SameOn : {X : Type 0} → (X → Bool) → (X → Bool) → List X → Type 0
SameOn f g [] = Unit {0}
SameOn f g (x ∷ xs) = (f x ≡ g x) × SameOn f g xs

passing-same : {X : Type 0} (f g : X → Bool) (xs : List X) → ((x : X) → f x ≡ true → g x ≡ true) → passing g xs ≤ passing f xs → SameOn f g xs
unfolding passing SameOn
passing-same f g [] h e = tt
passing-same f g (x ∷ xs) h e = step (f x) (g x) refl refl (passing-same f g xs h) (passing-more f g xs h) e
  where
    step : (b c : Bool) → f x ≡ b → g x ≡ c → (passing g xs ≤ passing f xs → SameOn f g xs) → passing f xs ≤ passing g xs → cond c 1 0 + passing g xs ≤ cond b 1 0 + passing f xs → (f x ≡ g x) × SameOn f g xs
    step true true p q r m e = (p ∙ sym q, r (omega arith))
    step true false p q r m e = let k : g x ≡ true = h x p in cc
    step false true p q r m e = absurd (omega arith)
    step false false p q r m e = (p ∙ sym q, r (omega arith))

same-found : {X : Type 0} (f g : X → Bool) (test : X → Bool) (xs : List X) (x : X) → SameOn f g xs → find test xs ≡ Some x → (f x ≡ g x) × (test x ≡ true)
unfolding SameOn
same-found f g test [] x s e = cc
same-found f g test (y ∷ xs) x s e = step (λ k. same-found f g test xs x s.1 k) (test y) refl e
  where
    step : (find test xs ≡ Some x → (f x ≡ g x) × (test x ≡ true)) → (b : Bool) → test y ≡ b → cond b (Some y) (find test xs) ≡ Some x → (f x ≡ g x) × (test x ≡ true)
    step r true t k = let w : y ≡ x = cc in (ap f (sym w) ∙ s.0 ∙ ap g w, ap test (sym w) ∙ t)
    step r false t k = r k

-- a test that becomes true of some item
pub passing-fewer : {X : Type 0} (f g : X → Bool) (test : X → Bool) (xs : List X) (x : X) → ((y : X) → f y ≡ true → g y ≡ true) → find test xs ≡ Some x → f x ≡ false → g x ≡ true → passing f xs < passing g xs
passing-fewer f g test xs x h e p q = step (nat_le (passing g xs) (passing f xs)) refl
  where
    step : (b : Bool) → nat_le (passing g xs) (passing f xs) ≡ b → passing f xs < passing g xs
    step true k = let w : f x ≡ g x = (same-found f g test xs x (passing-same f g xs h (leb-true _ _ k)) e).0 in cc
    step false k = leb-false _ _ k

-- where a further depth adds no module, it adds nothing
settled-by : (modules : List Module) (inner : List ℕ) (n : ℕ) → SameOn (λ m. contains n modules m.name inner) (λ m. contains (suc n) modules m.name inner) modules → Settled modules inner n
settled-by modules inner n s = record { each = λ outer. step outer (module_named outer modules) refl }
  where
    alone : (k : ℕ) (outer : List ℕ) → module_named outer modules ≡ None → contains k modules outer inner ≡ bytes_eq outer inner
    alone zero outer e = refl
    alone (suc k) outer e = ap (λ o. bytes_eq outer inner || list_any (λ t. contains k modules t inner) (flat_map targets_in (option_to_list o))) e ∙ or-false (bytes_eq outer inner)

    step : (outer : List ℕ) (o : Option Module) → module_named outer modules ≡ o → contains (suc n) modules outer inner ≡ contains n modules outer inner
    step outer None e = alone (suc n) outer e ∙ sym (alone n outer e)
    step outer (Some m) e =
        let f = same-found (λ x. contains n modules x.name inner) (λ x. contains (suc n) modules x.name inner) (λ x. bytes_eq x.name outer) modules m s e in
        let w : m.name ≡ outer = names-equal m.name outer f.1 in
        sym (ap (λ x. contains (suc n) modules x inner) w) ∙ sym f.0 ∙ ap (λ x. contains n modules x inner) w

-- after as many steps as there are modules nothing is added
settled-or-many : (modules : List Module) (inner : List ℕ) (n : ℕ) → Settled modules inner n ⊎ (n ≤ passing (λ m. contains n modules m.name inner) modules)
settled-or-many modules inner zero = inr (omega arith)
settled-or-many modules inner (suc n) = elim (settled-or-many modules inner n) [ inl s ↦ inl (settled-next modules inner n s) | inr h ↦ step h (nat_le (passing (λ m. contains (suc n) modules m.name inner) modules) (passing (λ m. contains n modules m.name inner) modules)) refl ]
  where
    step : n ≤ passing (λ m. contains n modules m.name inner) modules → (b : Bool) → nat_le (passing (λ m. contains (suc n) modules m.name inner) modules) (passing (λ m. contains n modules m.name inner) modules) ≡ b
        → Settled modules inner (suc n) ⊎ (suc n ≤ passing (λ m. contains (suc n) modules m.name inner) modules)
    step h true e = inl (settled-next modules inner n (settled-by modules inner n (passing-same (λ m. contains n modules m.name inner) (λ m. contains (suc n) modules m.name inner) modules (λ m. deeper modules inner n m.name) (leb-true _ _ e))))
    step h false e = inr (let q : passing (λ m. contains n modules m.name inner) modules < passing (λ m. contains (suc n) modules m.name inner) modules = leb-false _ _ e in omega arith)

pub settled : (modules : List Module) (inner : List ℕ) → Settled modules inner (length modules)
settled modules inner = elim (settled-or-many modules inner (length modules)) [
  | inl s ↦ s
  | inr h ↦ settled-by modules inner (length modules) (passing-same (λ m. contains (length modules) modules m.name inner) (λ m. contains (suc (length modules)) modules m.name inner) modules (λ m. deeper modules inner (length modules) m.name)
      (let q : passing (λ m. contains (suc (length modules)) modules m.name inner) modules ≤ length modules = passing-length (λ m. contains (suc (length modules)) modules m.name inner) modules in omega arith))
]

record Stays (modules : List Module) (inner : List ℕ) (k : ℕ) : Type 0 where
  same : (outer : List ℕ) → contains (k + length modules) modules outer inner ≡ contains (length modules) modules outer inner
  more : Settled modules inner (k + length modules)

stays : (modules : List Module) (inner : List ℕ) (k : ℕ) → Stays modules inner k
stays modules inner zero = record {
  same = λ outer. ap (λ n. contains n modules outer inner) (zero-add (length modules));
  more = subst (λ n. Settled modules inner n) (sym (zero-add (length modules))) (settled modules inner);
}
stays modules inner (suc k) =
    let s : Stays modules inner k = stays modules inner k in
    let e : suc (k + length modules) ≡ suc k + length modules = omega arith in
    record {
      same = λ outer. ap (λ n. contains n modules outer inner) (sym e) ∙ s.more.each outer ∙ s.same outer;
      more = subst (λ n. Settled modules inner n) e (settled-next modules inner (k + length modules) s.more);
    }

deeper-by : (modules : List Module) (inner : List ℕ) (k n : ℕ) (outer : List ℕ) → contains n modules outer inner ≡ true → contains (n + k) modules outer inner ≡ true
deeper-by modules inner zero n outer h = ap (λ x. contains x modules outer inner) (add-zero n) ∙ h
deeper-by modules inner (suc k) n outer h = ap (λ x. contains x modules outer inner) (let e : n + suc k ≡ suc (n + k) = omega arith in e) ∙ deeper modules inner (n + k) outer (deeper-by modules inner k n outer h)

-- a way through more modules than there are passes one of them twice
pub contained : (modules : List Module) (inner : List ℕ) (n : ℕ) (outer : List ℕ) → contains n modules outer inner ≡ true → contains (length modules) modules outer inner ≡ true
contained modules inner n outer h = sym ((stays modules inner n).same outer) ∙ deeper-by modules inner (length modules) n outer h
