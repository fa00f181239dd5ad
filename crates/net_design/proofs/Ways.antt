-- What the circuit's signals read in the net is what they read in the circuit: loops, chains and cones are the same.
use Rattle.std.proofs.Common.{◌≡◌, ◌∙◌, sym, ap, subst, ℕ, zero, suc, ◌+◌, ◌<◌, ◌≤◌, true, false, List, [], ◌∷◌, ◌++◌, ◌⊎◌, inl, inr, ⊎_elim, refl, arith, length, length-append}
use Rattle.std.proofs.lemmas.Grind.{common_steps}
use Rattle.net_core.specs.declared.tree.Elab.{Elab}
use Rattle.net_core.specs.declared.tree.Net.{Net}
use Rattle.net_core.specs.declared.tree.Role.{Role}
use Rattle.net_core.specs.declared.tree.Role.TheVariants.{Input, Output, Inner, Node, Reg}
use Rattle.net_core.specs.Signals.{info, is_input}
use Rattle.net_core.specs.Formed.{Formed}
use Rattle.net_core.specs.Nets.{net_reads}
use Rattle.net_core.specs.Depends as circuit
use Rattle.net_core.specs.Depends.{reads_of, Reaches, itself, by, InCone, Loops, ends, goes, NoLoop}
use Rattle.net_core.proofs.FormedFacts.{within}
use Rattle.net_core.proofs.Decided.{reader_below}
use Rattle.net_resolve.specs.Resolved.{NetOf}
use Rattle.net_resolve.specs.Resolved as resolved
use Rattle.net_graph.specs.Loops.{Leads, IsLoopFrom, NoLoops, IsNamedLoop, IsNamedChain, IsChainOf}
use Rattle.net_graph.specs.NetGraphs.{OwnReads, ReadsOver}
use Rattle.net_graph.specs.Reaching.{Reached, itself as there, by as over, input_at}
use Rattle.net_graph.proofs.OwnFacts.{named_map, chain_map, loop_map}
use Rattle.net_graph.proofs.ConeFacts.{reached_leads}
use Rattle.net_graph.proofs.SearchFacts.{before_or_past}
use Rattle.net_design.proofs.Numbered.{numbered, same_info, input_below}

-- the graph of the circuit
abbrev pub Reads : Elab → ℕ → ℕ → Type 0
Reads e x y = reads_of e x y ≡ true

pub own_to : (e : Elab) (m : Net) → NetOf e m → (x y : ℕ) → OwnReads m x y → Reads e x y
own_to e m n x y r =
    (n.reads x y (subst (λ q. x < q) n.own r.reader) (subst (λ q. y < q) n.own r.read)).0
    (⊎_elim (λ h. resolved.directly h) (λ c. resolved.over c.0 c.1 c.2 c.3) r.way)

pub own_from : (e : Elab) (m : Net) → Formed e → NetOf e m → (x y : ℕ) → Reads e x y → OwnReads m x y
own_from e m f n x y r =
    let hx : x < length e.signals = reader_below e f x y r in
    let hy : y < length e.signals = within e f x y r in
    record {
      reader = subst (λ q. x < q) (sym n.own) hx;
      read = subst (λ q. y < q) (sym n.own) hy;
      way = way_of ((n.reads x y hx hy).1 r);
    }
  where
    way_of : resolved.ReadsOver m x y → (net_reads m x y ≡ true) ⊎ ((c : ℕ) × (m.own ≤ c) × (net_reads m x c ≡ true) × (net_reads m c y ≡ true))
    way_of (resolved.directly h) = inl h
    way_of (resolved.over k h a b) = inr (k, h, a, b)

-- ---- lists in which each reads the next
pub leads_on : (e : Elab) (x p q : ℕ) (xs : List ℕ) → circuit.Leads e x p xs → Reads e p q → Leads (Reads e) x xs q
leads_on e x p q [] l r = elim l [ ]
leads_on e x p q (y ∷ []) l r = (l.0, q, subst (λ o. reads_of e o q ≡ true) (sym l.1 ∙ l.0) r, refl)
leads_on e x p q (y ∷ z ∷ zs) l r = (l.0, z, subst (λ o. reads_of e o z ≡ true) l.0 l.1, leads_on e z p q (z ∷ zs) l.2 r)

abbrev LeadsBefore : Elab → ℕ → ℕ → List ℕ → Type 0
LeadsBefore e x q xs = (p : ℕ) × circuit.Leads e x p xs × Reads e p q

pub leads_before : (e : Elab) (x q y : ℕ) (ys : List ℕ) → Leads (Reads e) x (y ∷ ys) q → LeadsBefore e x q (y ∷ ys)
leads_before e x q y [] l = (x, (l.0, l.0), subst (λ o. reads_of e x o ≡ true) l.3 l.2)
leads_before e x q y (w ∷ ws) l =
    let b : LeadsBefore e l.1 q (w ∷ ws) = leads_before e l.1 q w ws l.3 in
    let h : w ≡ l.1 = l.3.0 in
    let r : reads_of e y w ≡ true = subst (λ o. reads_of e o w ≡ true) (sym l.0) (subst (λ o. reads_of e x o ≡ true) (sym h) l.2) in
    (b.0, (l.0, r, subst (λ o. circuit.Leads e o b.0 (w ∷ ws)) (sym h) b.1), b.2)

pub loop_to : (e : Elab) (x : ℕ) (xs : List ℕ) → IsLoopFrom (Reads e) x xs → circuit.IsLoopFrom e x xs
loop_to e x [] l = absurd (let h = l.some in omega (arith, h))
loop_to e x (y ∷ ys) l = leads_before e x x y ys l.leads

some_signals : (e : Elab) (x p : ℕ) (xs : List ℕ) → circuit.Leads e x p xs → 0 < length xs
some_signals e x p [] l = elim l [ ]
some_signals e x p (y ∷ ys) l = omega arith

pub loop_from : (e : Elab) (x : ℕ) (xs : List ℕ) → circuit.IsLoopFrom e x xs → IsLoopFrom (Reads e) x xs
loop_from e x xs l = record { some = some_signals e x l.0 xs l.1; leads = leads_on e x l.0 x xs l.1 l.2 }

-- the loop that is named in the net is the circuit's
pub named_to : (e : Elab) (m : Net) → Formed e → NetOf e m → (x : ℕ) (xs : List ℕ) → IsNamedLoop (OwnReads m) x xs → circuit.IsNamedLoop e x xs
named_to e m f n x xs l =
    let g = named_map (OwnReads m) (Reads e) (own_to e m n) (own_from e m f n) x xs l in
    record {
      loop = loop_to e x xs g.is_loop;
      first = λ y ys o. g.first y ys (loop_from e y ys o);
      shortest = λ ys o. g.shortest ys (loop_from e x ys o);
      least = λ ys o h. g.least ys (loop_from e x ys o) h;
    }

-- without a loop of the net there is none of the circuit
loop_list : (e : Elab) (p x : ℕ) → Loops e p x → (xs : List ℕ) × (0 < length xs) × Leads (Reads e) x xs p
loop_list e p x (ends z r) = (x ∷ [], omega arith, (refl, p, r, refl))
loop_list e p x (goes z y r t) = let b = loop_list e p y t in (x ∷ b.0, omega arith, (refl, y, r, b.2))

pub no_loop : (e : Elab) (m : Net) → Formed e → NetOf e m → NoLoops (OwnReads m) → NoLoop e
no_loop e m f n none x t =
    let b = loop_list e x x t in
    none x b.0 (loop_map (Reads e) (OwnReads m) (own_from e m f n) x b.0 (record { some = b.1; leads = b.2 }))

-- ---- chains
pub chain_list : (e : Elab) (x p : ℕ) (above : List ℕ) → Leads (Reads e) x above p → circuit.Leads e x p (above ++ p ∷ [])
chain_list e x p [] l = (sym l, refl)
chain_list e x p (y ∷ []) l = (l.0, subst (λ o. reads_of e o p ≡ true) (sym l.0) (subst (λ o. reads_of e x o ≡ true) l.3 l.2), (refl, refl))
chain_list e x p (y ∷ w ∷ ws) l =
    let h : w ≡ l.1 = l.3.0 in
    let r : reads_of e y w ≡ true = subst (λ o. reads_of e o w ≡ true) (sym l.0) (subst (λ o. reads_of e x o ≡ true) (sym h) l.2) in
    (l.0, r, subst (λ o. circuit.Leads e o p ((w ∷ ws) ++ p ∷ [])) (sym h) (chain_list e l.1 p (w ∷ ws) l.3))

pub chain_above : (e : Elab) (x p : ℕ) (xs : List ℕ) → circuit.Leads e x p xs → IsChainOf (Reads e) x p xs
chain_above e x p [] l = elim l [ ]
chain_above e x p (y ∷ []) l = ([], sym l.0 ∙ l.1, ap (λ o. o ∷ []) l.1)
chain_above e x p (y ∷ z ∷ zs) l =
    let b : IsChainOf (Reads e) z p (z ∷ zs) = chain_above e z p (z ∷ zs) l.2 in
    (y ∷ b.0, (l.0, z, subst (λ o. reads_of e o z ≡ true) l.0 l.1, b.1), ap (λ (o : List ℕ). y ∷ o) b.2)

pub chain_to : (e : Elab) (m : Net) → Formed e → NetOf e m → (x p : ℕ) (xs : List ℕ) → IsNamedChain (OwnReads m) x p xs → circuit.IsChain e x p xs
chain_to e m f n x p xs l =
    let g = chain_map (OwnReads m) (Reads e) (own_to e m n) (own_from e m f n) x p xs l in
    let c = g.is_chain in
    record {
      leads = subst (λ (o : List ℕ). circuit.Leads e x p o) (sym c.2) (chain_list e x p c.0 c.1);
      shortest = λ ys o. g.shortest ys (chain_above e x p ys o);
      least = λ ys o h. g.least ys (chain_above e x p ys o) h;
    }

-- ---- cones
reaches_list : (e : Elab) (x p : ℕ) (xs : List ℕ) → Leads (Reads e) x xs p → Reaches e p x
reaches_list e x p [] l = subst (λ o. Reaches e p o) (sym l) itself
reaches_list e x p (y ∷ ys) l = by x l.1 l.2 (reaches_list e l.1 p ys l.3)

own_list : (e : Elab) (m : Net) → NetOf e m → (x p : ℕ) (xs : List ℕ) → Leads (OwnReads m) x xs p → Leads (Reads e) x xs p
own_list e m n x p [] l = l
own_list e m n x p (y ∷ ys) l = (l.0, l.1, own_to e m n x l.1 l.2, own_list e m n l.1 p ys l.3)

pub reached_to : (e : Elab) (m : Net) → Formed e → NetOf e m → (x p : ℕ) → x < length e.signals → p < length e.signals
    → Reached (net_reads m) p x → Reaches e p x
reached_to e m f n x p hx hp t =
    let b = reached_leads (net_reads m) m.own (numbered e m f n).conditions p x (subst (λ q. p < q) (sym n.own) hp) (subst (λ q. x < q) (sym n.own) hx) t in
    reaches_list e x p b.0 (own_list e m n x p b.0 b.1)

pub reached_from : (e : Elab) (m : Net) → Formed e → NetOf e m → (p x : ℕ) → Reaches e p x → Reached (net_reads m) p x
reached_from e m f n p x itself = there
reached_from e m f n p x (by z y r t) =
    ⊎_elim (λ h. over x y h (reached_from e m f n p y t))
    (λ c. over x c.0 c.2 (over c.0 y c.3 (reached_from e m f n p y t)))
    (own_from e m f n x y r).way
