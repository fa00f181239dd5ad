-- Tests that tell what a signal reaches, its chains, and the loop that is named.
use Rattle.std.proofs.Common.{◌≡◌, ◌≢◌, ◌∙◌, sym, ap, subst, ℕ, zero, suc, ◌<◌, ◌≤◌, Bool, true, false, not, ◌&&◌, ◌||◌, List, [], ◌∷◌, nat_eq, refl, ⊎_elim, length, arith}
use Rattle.std.specs.List.{list_all}
use Rattle.std.specs.declared.cmp.Ordering.{Ordering}
use Rattle.std.specs.declared.cmp.Ordering.TheVariants.{Less, Equal, Greater}
use Rattle.std.specs.Ordering.{nat_cmp}
use Rattle.std.specs.Cmp.Lexicographic.{slice_cmp}
use Rattle.std.proofs.lemmas.Bool.{and_parts, eq-eqb, eqb-true, cases_lt}
use Rattle.net_core.specs.declared.tree.Elab.{Elab}
use Rattle.net_core.specs.declared.tree.SignalInfo.{SignalInfo}
use Rattle.net_core.specs.Signals.{info, is_input}
use Rattle.net_core.specs.Body.{Body, body_of}
use Rattle.net_core.specs.Depends.{reads_of, Reaches, itself, by, InCone, Leads, NotAfter, IsChain, IsLoopFrom, IsNamedLoop}
use Rattle.net_core.specs.Rules.{has}
use Rattle.net_core.proofs.ReadLists.{reads_from, reads_listed}
use Rattle.net_core.proofs.Decided.{up_to, below, has_passes, then_, shut}

-- what a signal of the list reads is in the list
abbrev pub is_closed : List SignalInfo → Body → List ℕ → Bool
is_closed signals b xs = list_all (λ x. list_all (λ y. has xs y) (reads_from signals b x)) xs

step_in : (e : Elab) (b : Body) → body_of e.body ≡ b → (xs : List ℕ) → is_closed e.signals b xs ≡ true
    → (x y : ℕ) → reads_of e x y ≡ true → has xs x ≡ true → has xs y ≡ true
step_in e b h xs t x y r m =
    has_passes (λ z. has xs z) (reads_from e.signals b x) y
    (has_passes (λ z. list_all (λ w. has xs w) (reads_from e.signals b z)) xs x t m) (sym (reads_listed e b h x y) ∙ r)

reached_in : (e : Elab) (b : Body) → body_of e.body ≡ b → (xs : List ℕ) → is_closed e.signals b xs ≡ true
    → (p x : ℕ) → Reaches e p x → has xs x ≡ true → has xs p ≡ true
reached_in e b h xs t p x itself m = m
reached_in e b h xs t p x (by _ y r k) m = reached_in e b h xs t p y k (step_in e b h xs t x y r m)

-- the inputs of the cone of x are among those of a list of signals that is closed
pub cone_by : (e : Elab) (b : Body) → body_of e.body ≡ b → (x : ℕ) (xs ys : List ℕ) → is_closed e.signals b xs ≡ true → has xs x ≡ true
    → list_all (λ z. not (is_input (info e.signals z).role) || has ys z) xs ≡ true → (p : ℕ) → InCone e x p → has ys p ≡ true
cone_by e b h x xs ys t m k p c =
    then_ (is_input (info e.signals p).role) (has ys p)
    (has_passes (λ z. not (is_input (info e.signals z).role) || has ys z) xs p k (reached_in e b h xs t p x c.reached m))
    (ap is_input c.input)

-- lists of signals of which each reads the next
abbrev pub leads : List SignalInfo → Body → ℕ → ℕ → List ℕ → Bool
leads signals b x p [] = false
leads signals b x p (y ∷ []) = nat_eq y x && nat_eq y p
leads signals b x p (y ∷ z ∷ zs) = nat_eq y x && (has (reads_from signals b y) z && leads signals b z p (z ∷ zs))

pub leads_by : (e : Elab) (b : Body) → body_of e.body ≡ b → (x p : ℕ) (ys : List ℕ) → leads e.signals b x p ys ≡ true → Leads e x p ys
leads_by e b h x p [] t = cc
leads_by e b h x p (y ∷ []) t = let a = and_parts (nat_eq y x) (nat_eq y p) t in (eqb-true y x a.0, eqb-true y p a.1)
leads_by e b h x p (y ∷ z ∷ zs) t =
    let a = and_parts (nat_eq y x) _ t in
    let c = and_parts (has (reads_from e.signals b y) z) _ a.1 in
    (eqb-true y x a.0, reads_listed e b h y z ∙ c.0, leads_by e b h z p (z ∷ zs) c.1)

-- a test of all lists of n + 1 signals that begin at x and of which each reads the next
abbrev pub all_walks : (ℕ → List ℕ) → ℕ → ℕ → (List ℕ → Bool) → Bool
all_walks reads zero x test = test (x ∷ [])
all_walks reads (suc n) x test = list_all (λ y. all_walks reads n y (λ ys. test (x ∷ ys))) (reads x)

pub walk_passes : (e : Elab) (b : Body) → body_of e.body ≡ b → (n x p : ℕ) (test : List ℕ → Bool)
    → all_walks (reads_from e.signals b) n x test ≡ true → (ys : List ℕ) → Leads e x p ys → length ys ≡ suc n → test ys ≡ true
walk_passes e b h n x p test t [] l k = absurd l
walk_passes e b h zero x p test t (y ∷ []) l k = rw l.0 t
walk_passes e b h zero x p test t (y ∷ z ∷ zs) l k = cc
walk_passes e b h (suc n) x p test t (y ∷ []) l k = cc
walk_passes e b h (suc n) x p test t (y ∷ z ∷ zs) l k =
    let r : has (reads_from e.signals b x) z ≡ true = sym (reads_listed e b h x z) ∙ subst (λ w. reads_of e w z ≡ true) l.0 l.1 in
    let a = has_passes (λ w. all_walks (reads_from e.signals b) n w (λ ys. test (x ∷ ys))) (reads_from e.signals b x) z t r in
    rw l.0 (walk_passes e b h n z p (λ ys. test (x ∷ ys)) a (z ∷ zs) l.2 (shorter k))
  where
    shorter : length (y ∷ z ∷ zs) ≡ suc (suc n) → length (z ∷ zs) ≡ suc n
    shorter j = omega arith

abbrev pub ends_with : (ℕ → Bool) → List ℕ → Bool
ends_with test [] = false
ends_with test (y ∷ []) = test y
ends_with test (y ∷ z ∷ zs) = ends_with test (z ∷ zs)

end_of : (e : Elab) (x p : ℕ) (test : ℕ → Bool) → test p ≡ true → (ys : List ℕ) → Leads e x p ys → ends_with test ys ≡ true
end_of e x p test t [] l = absurd l
end_of e x p test t (y ∷ []) l = rw l.1 t
end_of e x p test t (y ∷ z ∷ zs) l = end_of e z p test t (z ∷ zs) l.2

abbrev is_after : Ordering → Bool
is_after Less = false
is_after Equal = false
is_after Greater = true

not_after : (o : Ordering) → not (is_after o) ≡ true → o ≢ Greater
not_after Less h = λ e. cc
not_after Equal h = λ e. cc
not_after Greater h = cc

-- no shorter list begins at x and ends with the test, and none as long that is less
abbrev pub is_shortest : (ℕ → List ℕ) → ℕ → (ℕ → Bool) → ℕ → Bool
is_shortest reads x test n = up_to n (λ k. all_walks reads k x (λ ys. not (ends_with test ys)))

abbrev pub is_first : (ℕ → List ℕ) → ℕ → (ℕ → Bool) → List ℕ → ℕ → Bool
is_first reads x test xs n = all_walks reads n x (λ ys. not (ends_with test ys) || not (is_after (slice_cmp nat_cmp xs ys)))

shortest_by : (e : Elab) (b : Body) → body_of e.body ≡ b → (x : ℕ) (test : ℕ → Bool) (n : ℕ) → is_shortest (reads_from e.signals b) x test n ≡ true
    → (p : ℕ) → test p ≡ true → (ys : List ℕ) → Leads e x p ys → suc n ≤ length ys
shortest_by e b h x test n t p m [] l = absurd l
shortest_by e b h x test n t p m (y ∷ ys) l = ⊎_elim (λ s. absurd (short s)) (λ s. long s) (cases_lt (length ys) n)
  where
    long : n ≤ length ys → suc n ≤ length (y ∷ ys)
    long s = omega arith

    apart : (c : Bool) → not c ≡ true → c ≡ true → ⊥
    apart true g i = cc
    apart false g i = cc

    short : length ys < n → ⊥
    short s = apart (ends_with test (y ∷ ys))
        (walk_passes e b h (length ys) x p (λ zs. not (ends_with test zs)) (below n _ t (length ys) s) (y ∷ ys) l refl)
        (end_of e x p test m (y ∷ ys) l)

first_by : (e : Elab) (b : Body) → body_of e.body ≡ b → (x : ℕ) (test : ℕ → Bool) (xs : List ℕ) (n : ℕ) → is_first (reads_from e.signals b) x test xs n ≡ true
    → (p : ℕ) → test p ≡ true → (ys : List ℕ) → Leads e x p ys → length ys ≡ suc n → NotAfter xs ys
first_by e b h x test xs n t p m ys l k =
    not_after (slice_cmp nat_cmp xs ys) (then_ _ _
    (walk_passes e b h n x p (λ zs. not (ends_with test zs) || not (is_after (slice_cmp nat_cmp xs zs))) t ys l k)
    (end_of e x p test m ys l))

pub chain_by : (e : Elab) (b : Body) → body_of e.body ≡ b → (x p : ℕ) (xs : List ℕ) (n : ℕ) → length xs ≡ suc n → leads e.signals b x p xs ≡ true
    → is_shortest (reads_from e.signals b) x (λ y. nat_eq y p) n ≡ true → is_first (reads_from e.signals b) x (λ y. nat_eq y p) xs n ≡ true
    → IsChain e x p xs
chain_by e b h x p xs n k l s f = record {
  leads = leads_by e b h x p xs l;
  shortest = λ ys m. rw k (shortest_by e b h x (λ y. nat_eq y p) n s p (eq-eqb p p refl) ys m);
  least = λ ys m i. first_by e b h x (λ y. nat_eq y p) xs n f p (eq-eqb p p refl) ys m (i ∙ k);
}

-- no loop begins at y: a closed list has what y reaches, and nothing in it reads y
abbrev pub is_apart : List SignalInfo → Body → List ℕ → ℕ → Bool
is_apart signals b xs y = is_closed signals b xs && (has xs y && list_all (λ z. not (has (reads_from signals b z) y)) xs)

lead_in : (e : Elab) (b : Body) → body_of e.body ≡ b → (xs : List ℕ) → is_closed e.signals b xs ≡ true
    → (p x : ℕ) (ys : List ℕ) → Leads e x p ys → has xs x ≡ true → has xs p ≡ true
lead_in e b h xs t p x [] l m = absurd l
lead_in e b h xs t p x (y ∷ []) l m = subst (λ z. has xs z ≡ true) (sym l.0 ∙ l.1) m
lead_in e b h xs t p x (y ∷ z ∷ zs) l m = lead_in e b h xs t p z (z ∷ zs) l.2 (step_in e b h xs t y z l.1 (subst (λ w. has xs w ≡ true) (sym l.0) m))

none_from : (e : Elab) (b : Body) → body_of e.body ≡ b → (xs : List ℕ) (y : ℕ) → is_apart e.signals b xs y ≡ true → (ys : List ℕ) → IsLoopFrom e y ys → ⊥
none_from e b h xs y t ys l =
    let a = and_parts (is_closed e.signals b xs) _ t in
    let c = and_parts (has xs y) _ a.1 in
    let m = lead_in e b h xs a.0 l.0 y ys l.1 c.0 in
    let n = shut _ (has_passes (λ z. not (has (reads_from e.signals b z) y)) xs l.0 c.1 m) in
    let r : has (reads_from e.signals b l.0) y ≡ true = sym (reads_listed e b h l.0 y) ∙ l.2 in
    both _ n r
  where
    both : (c : Bool) → c ≡ false → c ≡ true → ⊥
    both true i j = cc
    both false i j = cc

-- `reached` gives for each signal below x a closed list of what it reaches; p is the last of the loop
pub loop_by : (e : Elab) (b : Body) → body_of e.body ≡ b → (x p : ℕ) (xs : List ℕ) (n : ℕ) → length xs ≡ suc n → leads e.signals b x p xs ≡ true
    → has (reads_from e.signals b p) x ≡ true → (reached : ℕ → List ℕ) → up_to x (λ y. is_apart e.signals b (reached y) y) ≡ true
    → is_shortest (reads_from e.signals b) x (λ y. has (reads_from e.signals b y) x) n ≡ true
    → is_first (reads_from e.signals b) x (λ y. has (reads_from e.signals b y) x) xs n ≡ true
    → IsNamedLoop e x xs
loop_by e b h x p xs n k l r reached u s f = record {
  loop = (p, leads_by e b h x p xs l, reads_listed e b h p x ∙ r);
  first = λ y ys m. ⊎_elim (λ o. absurd (none_from e b h (reached y) y (below x _ u y o) ys m)) (λ o. o) (cases_lt y x);
  shortest = λ ys m. rw k (shortest_by e b h x (λ y. has (reads_from e.signals b y) x) n s m.0 (sym (reads_listed e b h m.0 x) ∙ m.2) ys m.1);
  least = λ ys m i. first_by e b h x (λ y. has (reads_from e.signals b y) x) xs n f m.0 (sym (reads_listed e b h m.0 x) ∙ m.2) ys m.1 (i ∙ k);
}
