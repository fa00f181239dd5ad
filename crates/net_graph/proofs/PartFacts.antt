-- Along a walk the part never rises.
use Rattle.std.proofs.Common.{◌≡◌, sym, subst, ℕ, zero, suc, ◌+◌, ◌<◌, ◌≤◌, true, List, [], ◌∷◌, arith, ⊎_elim, length, take, get_or}
use Rattle.std.proofs.lemmas.Bool.{cases_eq}
use Rattle.net_core.specs.Rules.{has}
use Rattle.net_graph.specs.Graphs.{reads_in}
use Rattle.net_graph.specs.Loops.{Leads, IsLoopFrom}
use Rattle.net_graph.specs.Falling.{Reads}
use Rattle.net_graph.specs.Parts.{part_of, NeverRises}
use Rattle.net_graph.proofs.HasFacts.{has_take}

part_kept : (lists : List (List ℕ)) (parts : List ℕ) → NeverRises lists parts → (x : ℕ) (ys : List ℕ) (p : ℕ) → Leads (Reads lists) x ys p → part_of parts p ≤ part_of parts x
part_kept lists parts n x [] p l = subst (λ q. part_of parts q ≤ part_of parts x) l (omega arith)
part_kept lists parts n x (y ∷ ys) p l =
    let a : part_of parts l.1 ≤ part_of parts x = n x l.1 l.2 in
    let b : part_of parts p ≤ part_of parts l.1 = part_kept lists parts n l.1 ys p l.3 in
    omega (arith, a, b)

-- what reads only lower parts is on no loop
pub no_loop_falling : (lists : List (List ℕ)) (parts : List ℕ) (x highest : ℕ) → NeverRises lists parts → ((y : ℕ) → has (get_or lists x []) y ≡ true → part_of parts y ≤ highest)
    → highest < part_of parts x → (other : List ℕ) → IsLoopFrom (Reads lists) x other → ⊥
no_loop_falling lists parts x highest n h f other l = go other l.some l.leads
  where
    go : (ys : List ℕ) → 0 < length ys → Leads (Reads lists) x ys x → ⊥
    go [] s k = absurd (omega (arith, s))
    go (y ∷ ys) s k =
        let a : part_of parts k.1 ≤ highest = h k.1 k.2 in
        let b : part_of parts x ≤ part_of parts k.1 = part_kept lists parts n k.1 ys x k.3 in
        absurd (omega (arith, a, b, f))

abbrev pub AtMost : (parts list : List ℕ) → ℕ → Type 0
AtMost parts list highest = (y : ℕ) → has list y ≡ true → part_of parts y ≤ highest

pub at_most_more : (parts list : List ℕ) (i before after : ℕ) → i < length list → AtMost parts (take i list) before → before ≤ after → part_of parts (get_or list i 0) ≤ after
    → AtMost parts (take (i + 1) list) after
at_most_more parts list i before after h m b p y k = ⊎_elim
    (λ a. le (m y a))
    (λ e. subst (λ z. part_of parts z ≤ after) (sym e) p)
    (has_take list i 0 y h k)
  where
    le : part_of parts y ≤ before → part_of parts y ≤ after
    le q = omega (arith, b, q)

-- no read before place n rises
abbrev pub FallsBelow : (lists : List (List ℕ)) (parts : List ℕ) → ℕ → Type 0
FallsBelow lists parts n = (x y : ℕ) → x < n → reads_in lists x y ≡ true → part_of parts y ≤ part_of parts x

pub falls_more : (lists : List (List ℕ)) (parts : List ℕ) (n highest : ℕ) → FallsBelow lists parts n → ((y : ℕ) → has (get_or lists n []) y ≡ true → part_of parts y ≤ highest)
    → highest ≤ part_of parts n → FallsBelow lists parts (n + 1)
falls_more lists parts n highest f h b x y l r = ⊎_elim (λ e. here x e y r) (λ o. f x y (less x l o) r) (cases_eq x n)
  where
    here : (x : ℕ) → x ≡ n → (y : ℕ) → reads_in lists x y ≡ true → part_of parts y ≤ part_of parts x
    here x e y r = subst (λ z. part_of parts y ≤ part_of parts z) (sym e) (let a : part_of parts y ≤ highest = h y (subst (λ z. reads_in lists z y ≡ true) e r) in omega (arith, a, b))

    less : (x : ℕ) → x < n + 1 → (x ≡ n → ⊥) → x < n
    less x s o = omega (arith, s, o)

pub falls_all : (lists : List (List ℕ)) (parts : List ℕ) (n : ℕ) → length lists ≤ n → FallsBelow lists parts n → NeverRises lists parts
falls_all lists parts n h f x y r = f x y (let q : x < length lists = listed lists x y r in omega (arith, q, h)) r
  where
    listed : (ls : List (List ℕ)) (x z : ℕ) → reads_in ls x z ≡ true → x < length ls
    listed [] x z r = absurd cc
    listed (a ∷ rest) zero z r = omega arith
    listed (a ∷ rest) (suc x) z r = let q : x < length rest = listed rest x z r in omega (arith, q)

-- where nothing has a part
pub never_empty : (lists : List (List ℕ)) (parts : List ℕ) → parts ≡ [] → NeverRises lists parts
never_empty lists parts e x y r = subst (λ (q : List ℕ). part_of q y ≤ part_of q x) (sym e) (omega arith)
