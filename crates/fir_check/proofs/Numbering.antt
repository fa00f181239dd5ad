-- The numbers of types: adding types to a table, and going along the numbers.
use Rattle.std.proofs.Common.{ℕ, zero, suc, ◌≡◌, ◌+◌, ◌<◌, ◌≤◌, All, Option, List, [], ◌∷◌, ◌++◌, map, flat_map, length, take, drop, get_or, refl, sym, ap, ◌∙◌, subst, arith, append_assoc, append-nil, zero-add}
use Rattle.std.proofs.lemmas.List.{drop_all, take_more, length-append}
use Rattle.std.proofs.lemmas.List.Elements.{All-nil, All-cons, All-head, All-tail, All-append, All-weaker}
use Rattle.fir_ast.specs.declared.tree.Ty.{Ty}
use Rattle.fir_ast.specs.declared.tree.Expr.{Expr}
use Rattle.fir_ast.specs.declared.tree.ResetPair.{ResetPair}
use Rattle.fir_ast.specs.declared.tree.Field.{Field}
use Rattle.fir_ast.specs.declared.tree.Stmt.{Stmt, map-Stmt}
use Rattle.fir_ast.specs.declared.tree.Stmt.TheVariants as stmt
use Rattle.fir_ast.specs.declared.tree.Stmt.TheVariants.{rolls-Wire, rolls-Reg, rolls-When}
use Rattle.fir_ast.specs.declared.tree.Stmt.TheViews.{roll-Stmt, out-Stmt, roll-out-Stmt, out-roll-Stmt}
use Rattle.fir_ast.specs.declared.tree.Stmt.TheFolds.{fold-roll-Stmt}
use Rattle.fir_ast.specs.declared.tree.Stmt.TheOpen.{Stmt-F, Wire, Node, Reg, Inst, Connect, Invalid, When, Skip, Verif}
use Rattle.fir_check.specs.Scopes.{Walk}
use Rattle.fir_check.specs.Walking.{idle, head_of}
use Rattle.fir_check.specs.Seen.{type_at}
use Rattle.fir_check.specs.Fields.{field_type}
use Rattle.fir_check.specs.Numbers.{own_types, types_level, types_of, ComesNext, Added, Gains}
use Rattle.fir_check.proofs.Doubles.{next_item}
use Rattle.fir_check.proofs.Gathered.{flat-map-id, flat-map-append}

map-append : {X Y : Type 0} (f : X → Y) (xs ys : List X) → map f (xs ++ ys) ≡ map f xs ++ map f ys
map-append f [] ys = refl
map-append f (x ∷ xs) ys = ap (λ t. f x ∷ t) (map-append f xs ys)

-- types that were added

low_more : (n m : ℕ) (ns : List ℕ) → n ≤ m → All (λ k. k < n) ns → All (λ k. k < m) ns
low_more n m ns h a = All-weaker (λ k. k < n) (λ k. k < m) (λ k l. omega (arith, h, l)) ns a

pub type_kept : (T new : List Ty) (n : ℕ) → n < length T → type_at (T ++ new) n ≡ type_at T n
type_kept [] new n h = absurd (omega arith)
type_kept (t ∷ T) new zero h = refl
type_kept (t ∷ T) new (suc n) h = type_kept T new n (omega arith)

pub types_kept : (T new : List Ty) (ns : List ℕ) → All (λ k. k < length T) ns → map (type_at (T ++ new)) ns ≡ map (type_at T) ns
types_kept T new [] a = refl
types_kept T new (n ∷ ns) a =
    ap (λ t. t ∷ map (type_at (T ++ new)) ns) (type_kept T new n (All-head (λ k. k < length T) n ns a))
    ∙ ap (λ ts. type_at T n ∷ ts) (types_kept T new ns (All-tail (λ k. k < length T) n ns a))

pub added_none : (T : List Ty) → Added T T [] []
added_none T = record { new = []; grown = sym (append-nil T); low = All-nil (λ n. n < length T); is = refl }

pub added_both : (T U V ts us : List Ty) (ns ms : List ℕ) → Added T U ts ns → Added U V us ms → Added T V (ts ++ us) (ns ++ ms)
added_both T U V ts us ns ms p q = record {
  new = p.new ++ q.new;
  grown = q.grown ∙ ap (λ x. x ++ q.new) p.grown ∙ append_assoc T p.new q.new;
  low = All-append (λ n. n < length V) ns ms (low_more (length U) (length V) ns (omega (arith, ap length q.grown, length-append U q.new)) p.low) q.low;
  is = map-append (type_at V) ns ms
      ∙ ap (λ x. x ++ map (type_at V) ms) (ap (λ x. map (type_at x) ns) q.grown ∙ types_kept U q.new ns p.low ∙ p.is)
      ∙ ap (λ x. ts ++ x) q.is;
}

-- a field's type more
pub added_next : (fields : List Field) (k : ℕ) (f : Field) (T U V : List Ty) (ns ms : List ℕ) (n : ℕ) → k < length fields → f ≡ get_or fields k f → Added U V (field_type f ∷ []) (n ∷ []) → ms ≡ ns ++ n ∷ []
    → Added T U (map field_type (take k fields)) ns → Added T V (map field_type (take (k + 1) fields)) ms
added_next fields k f T U V ns ms n h e q m p =
    subst (λ x. Added T V (map field_type (take (k + 1) fields)) x) (sym m)
    (subst (λ ts. Added T V ts (ns ++ n ∷ [])) (sym (ap (map field_type) (take_more fields k f h ∙ ap (λ y. take k fields ++ y ∷ []) (sym e)) ∙ map-append field_type (take k fields) (f ∷ [])))
    (added_both T U V (map field_type (take k fields)) (field_type f ∷ []) ns (n ∷ []) p q))

-- the same types at numbers that were given out before
pub added_keeps : (T U V ts us : List Ty) (ns ms : List ℕ) → Added T U ts ns → Added U V us ms → map (type_at V) ns ≡ ts
added_keeps T U V ts us ns ms p q = ap (λ x. map (type_at x) ns) q.grown ∙ types_kept U q.new ns p.low ∙ p.is

pub at_end : (T : List Ty) (t : Ty) → type_at (T ++ t ∷ []) (length T) ≡ t
at_end [] t = refl
at_end (x ∷ T) t = at_end T t

-- a type behind the types in it
pub added_last : (T U V us : List Ty) (t : Ty) (ms : List ℕ) (n : ℕ) → Added T U us ms → V ≡ U ++ t ∷ [] → n ≡ length U → Added T V (t ∷ []) (n ∷ [])
added_last T U V us t ms n p e q = record {
  new = p.new ++ t ∷ [];
  grown = e ∙ ap (λ x. x ++ t ∷ []) p.grown ∙ append_assoc T p.new (t ∷ []);
  low = All-cons (λ k. k < length V) n [] (omega (arith, ap length e, length-append U (t ∷ []), q)) (All-nil (λ k. k < length V));
  is = ap (λ x. x ∷ []) (ap (λ x. type_at x n) e ∙ ap (type_at (U ++ t ∷ [])) q ∙ at_end U t);
}

pub gains_none : (T : List Ty) (a : List ℕ) → Gains T T [] a a
gains_none T a = record { last = []; list = sym (append-nil a); added = added_none T }

pub gains_one : (T U : List Ty) (t : Ty) (n : ℕ) (a b : List ℕ) → Added T U (t ∷ []) (n ∷ []) → b ≡ a ++ n ∷ [] → Gains T U (t ∷ []) a b
gains_one T U t n a b p e = record { last = n ∷ []; list = e; added = p }

pub gains_both : (T U V ts us : List Ty) (a b c : List ℕ) → Gains T U ts a b → Gains U V us b c → Gains T V (ts ++ us) a c
gains_both T U V ts us a b c p q = record {
  last = p.last ++ q.last;
  list = q.list ∙ ap (λ x. x ++ q.last) p.list ∙ append_assoc a p.last q.last;
  added = added_both T U V ts us p.last q.last p.added q.added;
}

pub gains_as : (T U ts us : List Ty) (a b : List ℕ) → ts ≡ us → Gains T U ts a b → Gains T U us a b
gains_as T U ts us a b e g = subst (λ x. Gains T U x a b) e g

pub gains_all : (T U ts : List Ty) (b : List ℕ) → Gains T U ts [] b → Added T U ts b
gains_all T U ts b g = subst (λ x. Added T U ts x) (sym g.list) g.added

-- an item more
flat_more : {X : Type 0} (f : X → List Ty) (xs : List X) (i : ℕ) (x : X) → i < length xs → x ≡ get_or xs i x → flat_map f (take (i + 1) xs) ≡ flat_map f (take i xs) ++ f x
flat_more f xs i x h e =
    ap (flat_map f) (take_more xs i x h ∙ ap (λ y. take i xs ++ y ∷ []) (sym e))
    ∙ flat-map-append f (take i xs) (x ∷ []) ∙ ap (λ t. flat_map f (take i xs) ++ t) (append-nil (f x))

pub take_zero : {X : Type 0} (xs : List X) → take 0 xs ≡ []
take_zero [] = refl
take_zero (x ∷ xs) = refl

pub gains_start : {X : Type 0} (f : X → List Ty) (xs : List X) (T : List Ty) (a : List ℕ) → Gains T T (flat_map f (take 0 xs)) a a
gains_start f xs T a = gains_as T T [] (flat_map f (take 0 xs)) a a (sym (ap (flat_map f) (take_zero xs))) (gains_none T a)

pub gains_next : {X : Type 0} (f : X → List Ty) (xs : List X) (i : ℕ) (x : X) (T U V : List Ty) (a b c : List ℕ) → i < length xs → x ≡ get_or xs i x
    → Gains U V (f x) b c → Gains T U (flat_map f (take i xs)) a b → Gains T V (flat_map f (take (i + 1) xs)) a c
gains_next f xs i x T U V a b c h e q p =
    gains_as T V (flat_map f (take i xs) ++ f x) (flat_map f (take (i + 1) xs)) a c (sym (flat_more f xs i x h e)) (gains_both T U V (flat_map f (take i xs)) (f x) a b c p q)

pub gains_end : {X : Type 0} (f : X → List Ty) (xs : List X) (i : ℕ) (T U : List Ty) (a b : List ℕ) → length xs ≤ i → Gains T U (flat_map f (take i xs)) a b → Gains T U (flat_map f xs) a b
gains_end f xs i T U a b h g = gains_as T U (flat_map f (take i xs)) (flat_map f xs) a b (ap (flat_map f) (taken xs i h)) g
  where
    taken : {X : Type 0} (ys : List X) (k : ℕ) → length ys ≤ k → take k ys ≡ ys
    taken [] zero l = refl
    taken [] (suc k) l = refl
    taken (y ∷ ys) zero l = absurd (omega arith)
    taken (y ∷ ys) (suc k) l = ap (λ t. y ∷ t) (taken ys k (omega arith))

pub one_each : (ts : List Ty) → flat_map (λ (t : Ty). t ∷ []) ts ≡ ts
one_each [] = refl
one_each (t ∷ ts) = ap (λ x. t ∷ x) (one_each ts)

-- the types in a statement

pub types_when : (l : ℕ) (c : Expr) (a b : List Stmt) → types_of (stmt.When l c a b) ≡ flat_map types_of a ++ flat_map types_of b
types_when l c a b =
    ap types_of (sym (rolls-When l c a b)) ∙ fold-roll-Stmt (List Ty) types_level (When l c a b)
    ∙ ap (λ t. t ++ flat_map (λ ts. ts) (map types_of b)) (flat-map-id types_of a)
    ∙ ap (λ t. flat_map types_of a ++ t) (flat-map-id types_of b)

pub gains_when : (s : Stmt) (l : ℕ) (c : Expr) (xs ys us vs : List Stmt) (T U V : List Ty) (a b d : List ℕ) → s ≡ stmt.When l c xs ys → us ≡ xs → vs ≡ ys
    → Gains T U (flat_map types_of us) a b → Gains U V (flat_map types_of vs) b d → Gains T V (types_of s) a d
gains_when s l c xs ys us vs T U V a b d e u v p q =
    gains_as T V (flat_map types_of us ++ flat_map types_of vs) (types_of s) a d
    (ap (λ x. flat_map types_of x ++ flat_map types_of vs) u ∙ ap (λ x. flat_map types_of xs ++ flat_map types_of x) v ∙ sym (ap types_of e ∙ types_when l c xs ys))
    (gains_both T U V (flat_map types_of us) (flat_map types_of vs) a b d p q)

-- those in a statement's blocks
abbrev inner_at : Stmt-F Stmt → List Ty
inner_at (When _ _ taken other) = flat_map types_of taken ++ flat_map types_of other
inner_at _ = []

abbrev inner : Stmt → List Ty
inner s = inner_at (out-Stmt s)

split_at : (x : Stmt-F Stmt) → types_level (map-Stmt Stmt (List Ty) types_of x) ≡ own_types (map-Stmt Stmt Walk (λ _. idle) x) ++ inner_at x
split_at (Wire l n t) = refl
split_at (Node l n e) = refl
split_at (Reg l n t c r) = refl
split_at (Inst l n t) = refl
split_at (Connect l s e) = refl
split_at (Invalid l s) = refl
split_at (When l c xs ys) = ap (λ t. t ++ flat_map (λ ts. ts) (map types_of ys)) (flat-map-id types_of xs) ∙ ap (λ t. flat_map types_of xs ++ t) (flat-map-id types_of ys)
split_at (Skip l) = refl
split_at (Verif l v args code text label) = refl

split : (s : Stmt) → types_of s ≡ own_types (head_of s) ++ inner s
split s = ap types_of (sym (roll-out-Stmt s)) ∙ fold-roll-Stmt (List Ty) types_level (out-Stmt s) ∙ split_at (out-Stmt s)

none_inside : (x : Stmt-F Stmt) → ((l : ℕ) (c : Expr) (xs ys : List Stmt) → x ≡ When l c xs ys → ⊥) → inner_at x ≡ []
none_inside (Wire l n t) p = refl
none_inside (Node l n e) p = refl
none_inside (Reg l n t c r) p = refl
none_inside (Inst l n t) p = refl
none_inside (Connect l s e) p = refl
none_inside (Invalid l s) p = refl
none_inside (When l c xs ys) p = absurd (p l c xs ys refl)
none_inside (Skip l) p = refl
none_inside (Verif l v args code text label) p = refl

pub types_wire : (s : Stmt) (l : ℕ) (n : List ℕ) (t : Ty) → s ≡ stmt.Wire l n t → types_of s ≡ t ∷ []
types_wire s l n t e = ap types_of (e ∙ sym (rolls-Wire l n t)) ∙ fold-roll-Stmt (List Ty) types_level (Wire l n t)

pub types_reg : (s : Stmt) (l : ℕ) (n : List ℕ) (t : Ty) (c : Expr) (r : Option ResetPair) → s ≡ stmt.Reg l n t c r → types_of s ≡ t ∷ []
types_reg s l n t c r e = ap types_of (e ∙ sym (rolls-Reg l n t c r)) ∙ fold-roll-Stmt (List Ty) types_level (Reg l n t c r)

no_types : (x : Stmt-F Stmt) → ((l : ℕ) (n : List ℕ) (t : Ty) → x ≡ Wire l n t → ⊥) → ((l : ℕ) (n : List ℕ) (t : Ty) (c : Expr) (r : Option ResetPair) → x ≡ Reg l n t c r → ⊥)
    → ((l : ℕ) (c : Expr) (xs ys : List Stmt) → x ≡ When l c xs ys → ⊥) → types_level (map-Stmt Stmt (List Ty) types_of x) ≡ []
no_types (Wire l n t) p q r = absurd (p l n t refl)
no_types (Node l n e) p q r = refl
no_types (Reg l n t c k) p q r = absurd (q l n t c k refl)
no_types (Inst l n t) p q r = refl
no_types (Connect l s e) p q r = refl
no_types (Invalid l s) p q r = refl
no_types (When l c xs ys) p q r = absurd (r l c xs ys refl)
no_types (Skip l) p q r = refl
no_types (Verif l v args code text label) p q r = refl

pub types_none : (s : Stmt) → ((l : ℕ) (n : List ℕ) (t : Ty) → s ≡ stmt.Wire l n t → ⊥) → ((l : ℕ) (n : List ℕ) (t : Ty) (c : Expr) (r : Option ResetPair) → s ≡ stmt.Reg l n t c r → ⊥)
    → ((l : ℕ) (c : Expr) (xs ys : List Stmt) → s ≡ stmt.When l c xs ys → ⊥) → types_of s ≡ []
types_none s p q r =
    ap types_of (sym (roll-out-Stmt s)) ∙ fold-roll-Stmt (List Ty) types_level (out-Stmt s)
    ∙ no_types (out-Stmt s) (λ l n t e. p l n t (sym (roll-out-Stmt s) ∙ ap roll-Stmt e ∙ rolls-Wire l n t)) (λ l n t c k e. q l n t c k (sym (roll-out-Stmt s) ∙ ap roll-Stmt e ∙ rolls-Reg l n t c k))
    (λ l c xs ys e. r l c xs ys (sym (roll-out-Stmt s) ∙ ap roll-Stmt e ∙ rolls-When l c xs ys))

-- going along the numbers

pub comes_first : (T : List Ty) (ns : List ℕ) (n : ℕ) (ts us : List Ty) → ComesNext T ns n (ts ++ us) → ComesNext T ns n ts
comes_first T ns n ts us c = record { others = us ++ c.others; is = c.is ∙ append_assoc ts us c.others }

drop_none : (k : ℕ) → drop {A = ℕ} k [] ≡ []
drop_none zero = refl
drop_none (suc k) = refl

drop_along : (k : ℕ) (xs : List ℕ) (n : ℕ) → drop (n + k) xs ≡ drop k (drop n xs)
drop_along k xs zero = ap (λ m. drop m xs) (zero-add k)
drop_along k [] (suc n) = drop_none (suc n + k) ∙ sym (drop_none k)
drop_along k (x ∷ xs) (suc n) = let e : suc n + k ≡ suc (n + k) = omega arith in ap (λ m. drop m (x ∷ xs)) e ∙ drop_along k xs n

drop_map : {X Y : Type 0} (f : X → Y) (k : ℕ) (xs : List X) → map f (drop k xs) ≡ drop k (map f xs)
drop_map f zero xs = refl
drop_map f (suc k) [] = refl
drop_map f (suc k) (x ∷ xs) = drop_map f k xs

drop_front : (ts us : List Ty) → drop (length ts) (ts ++ us) ≡ us
drop_front [] us = refl
drop_front (t ∷ ts) us = drop_front ts us

pub comes_then : (T : List Ty) (ns : List ℕ) (n m : ℕ) (ts us : List Ty) → ComesNext T ns n (ts ++ us) → m ≡ n + length ts → ComesNext T ns m us
comes_then T ns n m ts us c e = record {
  others = c.others;
  is = ap (λ k. map (type_at T) (drop k ns)) e ∙ ap (map (type_at T)) (drop_along (length ts) ns n) ∙ drop_map (type_at T) (length ts) (drop n ns)
      ∙ ap (drop (length ts)) (c.is ∙ append_assoc ts us c.others) ∙ drop_front ts (us ++ c.others);
}

pub comes_as : (T : List Ty) (ns : List ℕ) (n : ℕ) (ts us : List Ty) → ts ≡ us → ComesNext T ns n ts → ComesNext T ns n us
comes_as T ns n ts us e c = subst (λ x. ComesNext T ns n x) e c

pub comes_start : (S T ts : List Ty) (ns : List ℕ) → Added S T ts ns → ComesNext T ns 0 ts
comes_start S T ts ns a = record { others = []; is = a.is ∙ sym (append-nil ts) }

here_low : (f : ℕ → Ty) (ns : List ℕ) (n : ℕ) (t : Ty) (ts : List Ty) → map f (drop n ns) ≡ t ∷ ts → n < length ns
here_low f [] zero t ts e = cc
here_low f [] (suc n) t ts e = cc
here_low f (x ∷ ns) zero t ts e = omega arith
here_low f (x ∷ ns) (suc n) t ts e = let h : n < length ns = here_low f ns n t ts e in omega (arith, h)

pub comes_low : (T : List Ty) (ns : List ℕ) (n : ℕ) (t : Ty) → ComesNext T ns n (t ∷ []) → n < length ns
comes_low T ns n t c = here_low (type_at T) ns n t c.others c.is

here_is : (f : ℕ → Ty) (ns : List ℕ) (n : ℕ) (d : ℕ) (t : Ty) (ts : List Ty) → map f (drop n ns) ≡ t ∷ ts → f (get_or ns n d) ≡ t
here_is f [] zero d t ts e = cc
here_is f [] (suc n) d t ts e = cc
here_is f (x ∷ ns) zero d t ts e = same (f x) t (map f ns) ts e
  where
    same : (a b : Ty) (us vs : List Ty) → a ∷ us ≡ b ∷ vs → a ≡ b
    same a b us vs q = ap first q
      where
        first : List Ty → Ty
        first [] = a
        first (z ∷ zs) = z
here_is f (x ∷ ns) (suc n) d t ts e = here_is f ns n d t ts e

pub comes_is : (T : List Ty) (ns : List ℕ) (n d : ℕ) (t : Ty) → ComesNext T ns n (t ∷ []) → type_at T (get_or ns n d) ≡ t
comes_is T ns n d t c = here_is (type_at T) ns n d t c.others c.is

-- a statement itself, then its blocks

pub own_comes : (T : List Ty) (ns : List ℕ) (n : ℕ) (s : Stmt) → ComesNext T ns n (types_of s) → ComesNext T ns n (own_types (head_of s))
own_comes T ns n s c = comes_first T ns n (own_types (head_of s)) (inner s) (comes_as T ns n (types_of s) (own_types (head_of s) ++ inner s) (split s) c)

inner_when : (s : Stmt) (l : ℕ) (c : Expr) (xs ys : List Stmt) → s ≡ stmt.When l c xs ys → inner s ≡ flat_map types_of xs ++ flat_map types_of ys
inner_when s l c xs ys e = ap inner_at (ap out-Stmt (e ∙ sym (rolls-When l c xs ys)) ∙ out-roll-Stmt (When l c xs ys))

own_when : (s : Stmt) (l : ℕ) (c : Expr) (xs ys : List Stmt) → s ≡ stmt.When l c xs ys → own_types (head_of s) ≡ []
own_when s l c xs ys e = ap (λ x. own_types (map-Stmt Stmt Walk (λ _. idle) x)) (ap out-Stmt (e ∙ sym (rolls-When l c xs ys)) ∙ out-roll-Stmt (When l c xs ys))

-- the blocks of a `when`
pub first_comes : (T : List Ty) (ns : List ℕ) (n m : ℕ) (s : Stmt) (l : ℕ) (c : Expr) (xs ys us : List Stmt) → s ≡ stmt.When l c xs ys → us ≡ xs → m ≡ n + length (own_types (head_of s))
    → ComesNext T ns n (types_of s) → ComesNext T ns m (flat_map types_of us)
first_comes T ns n m s l c xs ys us e u q h =
    comes_as T ns m (flat_map types_of xs) (flat_map types_of us) (ap (flat_map types_of) (sym u))
    (comes_first T ns m (flat_map types_of xs) (flat_map types_of ys) (comes_as T ns m (inner s) (flat_map types_of xs ++ flat_map types_of ys) (inner_when s l c xs ys e)
    (comes_then T ns n m (own_types (head_of s)) (inner s) (comes_as T ns n (types_of s) (own_types (head_of s) ++ inner s) (split s) h) q)))

pub second_comes : (T : List Ty) (ns : List ℕ) (n m k : ℕ) (s : Stmt) (l : ℕ) (c : Expr) (xs ys us vs : List Stmt) → s ≡ stmt.When l c xs ys → us ≡ xs → vs ≡ ys → m ≡ n + length (own_types (head_of s))
    → k ≡ m + length (flat_map types_of us) → ComesNext T ns n (types_of s) → ComesNext T ns k (flat_map types_of vs)
second_comes T ns n m k s l c xs ys us vs e u v q r h =
    comes_as T ns k (flat_map types_of ys) (flat_map types_of vs) (ap (flat_map types_of) (sym v))
    (comes_then T ns m k (flat_map types_of xs) (flat_map types_of ys) (comes_as T ns m (inner s) (flat_map types_of xs ++ flat_map types_of ys) (inner_when s l c xs ys e)
    (comes_then T ns n m (own_types (head_of s)) (inner s) (comes_as T ns n (types_of s) (own_types (head_of s) ++ inner s) (split s) h) q))
    (r ∙ ap (λ x. m + length (flat_map types_of x)) u))

pub count_when : (n m k j : ℕ) (s : Stmt) (l : ℕ) (c : Expr) (xs ys us vs : List Stmt) → s ≡ stmt.When l c xs ys → us ≡ xs → vs ≡ ys → m ≡ n + length (own_types (head_of s))
    → k ≡ m + length (flat_map types_of us) → j ≡ k + length (flat_map types_of vs) → j ≡ n + length (types_of s)
count_when n m k j s l c xs ys us vs e u v q r w =
    let a : length (types_of s) ≡ length (flat_map types_of xs ++ flat_map types_of ys) = ap (λ x. length (types_of x)) e ∙ ap length (types_when l c xs ys) in
    let b : length (flat_map types_of xs ++ flat_map types_of ys) ≡ length (flat_map types_of xs) + length (flat_map types_of ys) = length-append (flat_map types_of xs) (flat_map types_of ys) in
    let o : length (own_types (head_of s)) ≡ 0 = ap length (own_when s l c xs ys e) in
    let x : length (flat_map types_of us) ≡ length (flat_map types_of xs) = ap (λ t. length (flat_map types_of t)) u in
    let y : length (flat_map types_of vs) ≡ length (flat_map types_of ys) = ap (λ t. length (flat_map types_of t)) v in
    omega (arith, a, b, o, x, y, q, r, w)

pub count_leaf : (n m : ℕ) (s : Stmt) → ((l : ℕ) (c : Expr) (xs ys : List Stmt) → s ≡ stmt.When l c xs ys → ⊥) → m ≡ n + length (own_types (head_of s)) → m ≡ n + length (types_of s)
count_leaf n m s p q =
    let i : inner s ≡ [] = none_inside (out-Stmt s) (λ l c xs ys e. p l c xs ys (sym (roll-out-Stmt s) ∙ ap roll-Stmt e ∙ rolls-When l c xs ys)) in
    q ∙ ap (λ x. n + length x) (sym (append-nil (own_types (head_of s))) ∙ ap (λ x. own_types (head_of s) ++ x) (sym i) ∙ sym (split s))

-- what is left of a list, from its i-th item

pub record NumbersLeft {X : Type 0} (f : X → List Ty) (xs : List X) (i : ℕ) (T : List Ty) (ns : List ℕ) (n start : ℕ) : Type 0 where
  pub comes : ComesNext T ns n (flat_map f (drop i xs))
  pub count : n + length (flat_map f (drop i xs)) ≡ start + length (flat_map f xs)

pub left_start : {X : Type 0} (f : X → List Ty) (xs : List X) (T : List Ty) (ns : List ℕ) (n : ℕ) → ComesNext T ns n (flat_map f xs) → NumbersLeft f xs 0 T ns n n
left_start f xs T ns n c = record { comes = c; count = refl }

pub left_here : {X : Type 0} (f : X → List Ty) (xs : List X) (i : ℕ) (x : X) (T : List Ty) (ns : List ℕ) (n start : ℕ) → i < length xs → x ≡ get_or xs i x → NumbersLeft f xs i T ns n start → ComesNext T ns n (f x)
left_here f xs i x T ns n start h e l =
    comes_first T ns n (f x) (flat_map f (drop (i + 1) xs)) (comes_as T ns n (flat_map f (drop i xs)) (f x ++ flat_map f (drop (i + 1) xs)) (ap (flat_map f) (next_item xs i x h e)) l.comes)

pub left_next : {X : Type 0} (f : X → List Ty) (xs : List X) (i : ℕ) (x : X) (T : List Ty) (ns : List ℕ) (n m start : ℕ) → i < length xs → x ≡ get_or xs i x → m ≡ n + length (f x)
    → NumbersLeft f xs i T ns n start → NumbersLeft f xs (i + 1) T ns m start
left_next f xs i x T ns n m start h e q l =
    let d : flat_map f (drop i xs) ≡ f x ++ flat_map f (drop (i + 1) xs) = ap (flat_map f) (next_item xs i x h e) in
    record {
      comes = comes_then T ns n m (f x) (flat_map f (drop (i + 1) xs)) (comes_as T ns n (flat_map f (drop i xs)) (f x ++ flat_map f (drop (i + 1) xs)) d l.comes) q;
      count = (let a : length (flat_map f (drop i xs)) ≡ length (f x) + length (flat_map f (drop (i + 1) xs)) = ap length d ∙ length-append (f x) (flat_map f (drop (i + 1) xs)) in omega (arith, a, q, l.count));
    }

pub left_end : {X : Type 0} (f : X → List Ty) (xs : List X) (i : ℕ) (T : List Ty) (ns : List ℕ) (n start : ℕ) → length xs ≤ i → NumbersLeft f xs i T ns n start → n ≡ start + length (flat_map f xs)
left_end f xs i T ns n start h l =
    let a : length (flat_map f (drop i xs)) ≡ 0 = ap (λ ys. length (flat_map f ys)) (drop_all i xs h) in omega (arith, a, l.count)
