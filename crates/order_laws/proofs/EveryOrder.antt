-- Where one order of a machine ends clean, every order does, and all end alike.
use Rattle.std.proofs.Common.{◌≡◌, ⊎_elim, ℕ, zero, suc, ◌+◌, List, [], ◌∷◌, length, refl, sym, ap, subst, arith}
use Rattle.order_laws.specs.System.{System, Laws, Quiet, Permitted, AllClean, after, Left}

module _ (S : System) (L : Laws S) where
  -- alike states have the same number of actions left, with the same end
  pub left_alike : (n : ℕ) (s s' t : S.State) → S.Alike s s' → Left S n s t → Left S n s' t
  left_alike zero s s' t e (quiet, same) =
      (λ a h. quiet a (L.alike_enabled s' s a (L.alike_sym s s' e) h), L.alike_trans s' s t (L.alike_sym s s' e) same)
  left_alike (suc n) s s' t e (a, h, c, rest) =
      (a, L.alike_enabled s s' a e h, L.alike_clean s s' a e h c, left_alike n (S.act s a) (S.act s' a) t (L.alike_act s s' a e h c) rest)

  -- each state that a permitted order reaches is possible
  pub possible_after : (o : List S.Actor) (s : S.State) → S.Possible s → Permitted S s o → S.Possible (after S s o)
  possible_after [] s p ok = p
  possible_after (a ∷ o) s p (h, ok) = possible_after o (S.act s a) (L.possible_act s a p h) ok

  -- what is said of the act of one enabled actor
  pub record Next (n : ℕ) (s t : S.State) (q : S.Actor) : Type 0 where
    pub clean : S.Clean s q
    pub less : ℕ
    pub is_less : n ≡ suc less
    pub left : Left S less (S.act s q) t

  -- the two acts exchanged
  swapped : (n : ℕ) (s t : S.State) (a q : S.Actor) → S.Possible s → (a ≡ q → ⊥) → S.Enabled s a → S.Enabled s q → S.Clean s a → Next n (S.act s a) t q → Next (suc n) s t q
  swapped n s t a q p ne ha hq ca next =
      let cq : S.Clean s q = L.exchange_now s a q p ne ha hq ca next.clean in
      record {
        clean = cq;
        less = n;
        is_less = refl;
        left = subst (λ k. Left S k (S.act s q) t) (sym next.is_less) (
          a,
          L.stays s q a p (λ e. ne (sym e)) hq ha cq,
          L.exchange_then s a q p ne ha hq ca next.clean,
          left_alike next.less (S.act (S.act s a) q) (S.act (S.act s q) a) t (L.exchange_alike s a q p ne ha hq ca next.clean) next.left,
        );
      }

  -- THE INDUCTION. Where s has n actions left, the act of any enabled actor is clean and leaves one fewer, with the same end
  pub next_of : (n : ℕ) (s t : S.State) → S.Possible s → Left S n s t → (q : S.Actor) → S.Enabled s q → Next n s t q
  next_of zero s t p (quiet, same) q h = absurd (quiet q h)
  next_of (suc n) s t p (a, ha, ca, rest) q hq =
      ⊎_elim
      (λ e. subst (λ x. Next (suc n) s t x) e (record { clean = ca; less = n; is_less = refl; left = rest }))
      (λ ne. swapped n s t a q p ne ha hq ca (next_of n (S.act s a) t (L.possible_act s a p ha) rest q (L.stays s a q p ne ha hq ca)))
      (L.same a q)

  -- what is said of an order, whole or cut short
  pub record Every (n : ℕ) (s t : S.State) (order : List S.Actor) : Type 0 where
    pub clean : AllClean S s order
    pub less : ℕ
    pub count : length order + less ≡ n
    pub left : Left S less (after S s order) t
    pub possible : S.Possible (after S s order)

  -- THE THEOREM. Where s has n actions left, each permitted order is clean, has at most n actions, and leaves the others, with the same end
  pub every_order : (order : List S.Actor) (n : ℕ) (s t : S.State) → S.Possible s → Left S n s t → Permitted S s order → Every n s t order
  every_order [] n s t p left ok = record { clean = tt; less = n; count = omega arith; left = left; possible = p }
  every_order (a ∷ order) n s t p left (h, ok) =
      let next : Next n s t a = next_of n s t p left a h in
      let more : Every next.less (S.act s a) t order = every_order order next.less (S.act s a) t (L.possible_act s a p h) next.left ok in
      record {
        clean = (next.clean, more.clean);
        less = more.less;
        count = omega (arith, more.count, next.is_less);
        left = more.left;
        possible = more.possible;
      }

  none_left : (n : ℕ) (s t : S.State) → Quiet S s → Left S n s t → (n ≡ 0) × S.Alike s t
  none_left zero s t quiet (_, same) = (refl, same)
  none_left (suc n) s t quiet (a, h, c, rest) = absurd (quiet a h)

  -- where the order is whole, it has n actions and ends like t
  pub whole_order : (order : List S.Actor) (n : ℕ) (s t : S.State) → S.Possible s → Left S n s t → Permitted S s order → Quiet S (after S s order) →
      (length order ≡ n) × S.Alike (after S s order) t
  whole_order order n s t p left ok quiet =
      let every : Every n s t order = every_order order n s t p left ok in
      let none : (every.less ≡ 0) × S.Alike (after S s order) t = none_left every.less (after S s order) t quiet every.left in
      (omega (arith, every.count, none.0), none.1)

  -- what goes on from s to a quiet state
  pub record Rest (n : ℕ) (s t : S.State) : Type 0 where
    pub order : List S.Actor
    pub permitted : Permitted S s order
    pub clean : AllClean S s order
    pub quiet : Quiet S (after S s order)
    pub same : S.Alike (after S s order) t
    pub count : length order ≡ n

  pub rest_of : (n : ℕ) (s t : S.State) → Left S n s t → Rest n s t
  rest_of zero s t (quiet, same) = record { order = []; permitted = tt; clean = tt; quiet = quiet; same = same; count = refl }
  rest_of (suc n) s t (a, h, c, left) =
      let rest : Rest n (S.act s a) t = rest_of n (S.act s a) t left in
      record { order = a ∷ rest.order; permitted = (h, rest.permitted); clean = (c, rest.clean); quiet = rest.quiet; same = rest.same; count = ap suc rest.count }

  -- a whole clean order shows how many actions are left
  pub left_of : (order : List S.Actor) (s : S.State) → Permitted S s order → AllClean S s order → Quiet S (after S s order) → Left S (length order) s (after S s order)
  left_of [] s ok clean quiet = (quiet, L.alike_refl s)
  left_of (a ∷ order) s (h, ok) (c, clean) quiet = (a, h, c, left_of order (S.act s a) ok clean quiet)

  -- two whole orders, of which one is clean
  pub two_orders : (o o' : List S.Actor) (s : S.State) → S.Possible s → Permitted S s o → AllClean S s o → Quiet S (after S s o) →
      Permitted S s o' → Quiet S (after S s o') → (length o' ≡ length o) × S.Alike (after S s o') (after S s o)
  two_orders o o' s p ok clean quiet ok' quiet' = whole_order o' (length o) s (after S s o) p (left_of o s ok clean quiet) ok' quiet'
