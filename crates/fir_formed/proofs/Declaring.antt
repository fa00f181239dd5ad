-- Declarations: the signals that they bring.
use Rattle.std.proofs.Common.{◌≡◌, ◌∙◌, sym, ap, subst, ℕ, zero, suc, ◌+◌, ◌<◌, ◌≤◌, Bool, true, false, ◌||◌, List, [], ◌∷◌, None, refl, length, arith, map, nat_eq, slice_index_or, if◌then◌else◌}
use Rattle.std.specs.List.{range_with_len, flat_map}
use Rattle.std.proofs.lemmas.Bool.{eq-eqb, eqb-true, eqb-false}
use Rattle.net_core.specs.declared.tree.SignalInfo.{SignalInfo}
use Rattle.net_core.specs.declared.tree.Ground.{Ground}
use Rattle.net_core.specs.Signals.{info, is_node}
use Rattle.net_core.specs.Formed.{holds_number}
use Rattle.fir_check.specs.Names.{kept}
use Rattle.fir_check.proofs.Names.{or_true}
use Rattle.fir_flat.specs.Elaboration.{declare, PortLeaf, declare_ports}
use Rattle.fir_formed.proofs.Fair.{Within, Leads, leads_nothing, leads_append, leads_declare}

-- the signals with the numbers of a range, in front of others
abbrev pub upto : (ℕ → ℕ) → ℕ → ℕ → List ℕ → List ℕ
upto number a zero scope = scope
upto number a (suc n) scope = upto number (a + 1) n (number a ∷ scope)

holds_first : (x : ℕ) (s : List ℕ) → holds_number (x ∷ s) x ≡ true
holds_first x s = ap (λ b. b || holds_number s x) (eq-eqb x x refl)

within_cons : (x : ℕ) (s : List ℕ) → Within s (x ∷ s)
within_cons x s y e = ap (λ b. nat_eq y x || b) e ∙ or_true (nat_eq y x)

pub within_upto : (number : ℕ → ℕ) (a n : ℕ) (s : List ℕ) → Within s (upto number a n s)
within_upto number a zero s = λ y e. e
within_upto number a (suc n) s = λ y e. within_upto number (a + 1) n (number a ∷ s) y (within_cons (number a) s y e)

pub holds_upto : (number : ℕ → ℕ) (a n : ℕ) (s : List ℕ) (i : ℕ) → a ≤ i → i < a + n → holds_number (upto number a n s) (number i) ≡ true
holds_upto number a zero s i l m = absurd (omega arith)
holds_upto number a (suc n) s i l m =
    step (nat_eq i a) refl (λ p. holds_upto number (a + 1) n (number a ∷ s) i p (omega arith))
  where
    step : (b : Bool) → nat_eq i a ≡ b → (a + 1 ≤ i → holds_number (upto number (a + 1) n (number a ∷ s)) (number i) ≡ true) → holds_number (upto number (a + 1) n (number a ∷ s)) (number i) ≡ true
    step true e h =
        let q : i ≡ a = eqb-true i a e in
        within_upto number (a + 1) n (number a ∷ s) (number i) (subst (λ j. holds_number (number a ∷ s) (number j) ≡ true) (sym q) (holds_first (number a) s))
    step false e h =
        let ne : i ≡ a → ⊥ = eqb-false i a e in
        h (omega (arith, ne))

-- each of a range brings its signal

pub lists_lead : (S : List SignalInfo) (number : ℕ → ℕ) (f : ℕ → List Ground) (a n : ℕ) (s : List ℕ)
    → ((i : ℕ) (t : List ℕ) → a ≤ i → i < a + n → Leads S t (number i ∷ t) (f i)) → Leads S s (upto number a n s) (flat_map f (range_with_len a n))
lists_lead S number f a zero s h = leads_nothing S s
lists_lead S number f a (suc n) s h =
    leads_append S s (number a ∷ s) (upto number (a + 1) n (number a ∷ s)) (f a) (flat_map f (range_with_len (a + 1) n)) (h a s (omega arith) (omega arith))
    (lists_lead S number f (a + 1) n (number a ∷ s) (λ i t l m. h i t (omega arith) (omega arith)))

pub items_lead : (S : List SignalInfo) (number : ℕ → ℕ) (f : ℕ → Ground) (a n : ℕ) (s : List ℕ)
    → ((i : ℕ) (t : List ℕ) → a ≤ i → i < a + n → Leads S t (number i ∷ t) (f i ∷ [])) → Leads S s (upto number a n s) (map f (range_with_len a n))
items_lead S number f a zero s h = leads_nothing S s
items_lead S number f a (suc n) s h =
    leads_append S s (number a ∷ s) (upto number (a + 1) n (number a ∷ s)) (f a ∷ []) (map f (range_with_len (a + 1) n)) (h a s (omega arith) (omega arith))
    (items_lead S number f (a + 1) n (number a ∷ s) (λ i t l m. h i t (omega arith) (omega arith)))

-- ports

abbrev pub after_ports : (Bool → Bool) → ℕ → List PortLeaf → List ℕ → List ℕ
after_ports test number [] s = s
after_ports test number (p ∷ ps) s = after_ports test (suc number) ps (if test p.input then number ∷ s else s)

within_kept : (b : Bool) (x : ℕ) (s : List ℕ) → Within s (if b then x ∷ s else s)
within_kept true x s = within_cons x s
within_kept false x s = λ y e. e

pub within_ports : (test : Bool → Bool) (number : ℕ) (ps : List PortLeaf) (s : List ℕ) → Within s (after_ports test number ps s)
within_ports test number [] s = λ y e. e
within_ports test number (p ∷ ps) s = λ y e. within_ports test (suc number) ps (if test p.input then number ∷ s else s) y (within_kept (test p.input) number s y e)

pub ports_lead : (S : List SignalInfo) (test : Bool → Bool) (number : ℕ) (ps : List PortLeaf) (s : List ℕ)
    → ((i x : ℕ) → x ≡ number + i → i < length ps → is_node (info S x).role ≡ false) → Leads S s (after_ports test number ps s) (declare_ports test number ps)
ports_lead S test number [] s h = leads_nothing S s
ports_lead S test number (p ∷ ps) s h =
    step (test p.input) (ports_lead S test (suc number) ps (if test p.input then number ∷ s else s) (λ i x e l. h (suc i) x (omega arith) (omega arith)))
  where
    step : (b : Bool) → Leads S (if b then number ∷ s else s) (after_ports test (suc number) ps (if b then number ∷ s else s)) (declare_ports test (suc number) ps)
        → Leads S s (after_ports test (suc number) ps (if b then number ∷ s else s)) (kept b (declare number p.line None) (declare_ports test (suc number) ps))
    step true r =
        leads_append S s (number ∷ s) (after_ports test (suc number) ps (number ∷ s)) (declare number p.line None ∷ []) (declare_ports test (suc number) ps)
        (leads_declare S s number p.line None (h 0 number (omega arith) (omega arith)) tt) r
    step false r = r

pub holds_ports : (test : Bool → Bool) (number : ℕ) (ps : List PortLeaf) (s : List ℕ) (i x : ℕ) (d : PortLeaf) → x ≡ number + i → i < length ps
    → test (slice_index_or ps i d).input ≡ true → holds_number (after_ports test number ps s) x ≡ true
holds_ports test number [] s i x d e l t = absurd (omega arith)
holds_ports test number (p ∷ ps) s zero x d e l t =
    within_ports test (suc number) ps (if test p.input then number ∷ s else s) x
    (subst (λ b. holds_number (if b then number ∷ s else s) x ≡ true) (sym t) (let q : x ≡ number = omega arith in subst (λ y. holds_number (number ∷ s) y ≡ true) (sym q) (holds_first number s)))
holds_ports test number (p ∷ ps) s (suc i) x d e l t = holds_ports test (suc number) ps (if test p.input then number ∷ s else s) i x d (omega arith) (omega arith) t
