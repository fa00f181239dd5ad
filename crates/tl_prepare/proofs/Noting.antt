-- Instructions that were read.
use Rattle.std.proofs.Common.{◌≡◌, ℕ, ◌+◌, ◌<◌, ◌≤◌, List, [], ◌∷◌, ◌++◌, length, get_or, take, Option, Some, sym, ap, subst, ◌∙◌, arith}
use Rattle.std.proofs.lemmas.List.{take_all, get_or-take, length-append, length-take}
use Rattle.std.proofs.lemmas.List.Quantifiers.{all_pairs_push}
use Rattle.tl_threads.specs.declared.code.Instr.{Instr}
use Rattle.tl_threads.specs.Machine.{Code}
use Rattle.tl_code.specs.declared.state.Fetched.{Fetched}
use Rattle.tl_prepare.specs.Listed.{ByPlace, IsAt, IsGap}
use Rattle.tl_prepare.specs.Runs.{HoldsAll, NotesMore, NotesSame, AreHeld, CanNote}
use Rattle.tl_prepare.proofs.Holding.{all_held}

held_push : (f : Code) (xs : List Fetched) (e : Fetched) → HoldsAll f (xs ++ e ∷ []) → HoldsAll f xs × (f e.pc ≡ Some e.instr)
held_push f [] e h = (tt, h.0)
held_push f (x ∷ xs) e h = let r = held_push f xs e h.1 in ((h.0, r.0), r.1)

push_held : (f : Code) (xs : List Fetched) (e : Fetched) → HoldsAll f xs → f e.pc ≡ Some e.instr → HoldsAll f (xs ++ e ∷ [])
push_held f [] e h i = (i, tt)
push_held f (x ∷ xs) e h i = (h.0, push_held f xs e h.1 i)

pub one_instr : (i j : Instr) → ◌≡◌ {A = Option Instr} (Some i) (Some j) → i ≡ j
one_instr i j e = cc

-- ---- what is noted

-- it was noted before
pub notes_there : (xs : List Fetched) (pc k : ℕ) (i : Instr) → IsAt xs pc k → CanNote xs pc i → NotesMore xs xs pc i
notes_there xs pc k i (lt, p) (g, h, j) f =
    let d : Fetched = record { pc = pc; instr = i } in
    let there : (c : Code) → HoldsAll c xs → c pc ≡ Some (get_or xs k d).instr = λ c h. ap c (sym (p d)) ∙ all_held c xs h k d lt in
    let same : (get_or xs k d).instr ≡ i = one_instr (get_or xs k d).instr i (sym (there g h) ∙ j) in
    ((λ h. (h, there f h ∙ ap (λ i. Some i) same)), λ h. h.0)

pub notes_push : (xs ys : List Fetched) (pc : ℕ) (i j : Instr) → ys ≡ xs ++ record { pc = pc; instr = j } ∷ [] → j ≡ i → NotesMore xs ys pc i
notes_push xs ys pc i j e d f = (
  (λ h. let b = held_push f xs (record { pc = pc; instr = j }) (subst (λ l. HoldsAll f l) e h) in (b.0, b.1 ∙ ap (λ i. Some i) d)),
  (λ h. subst (λ l. HoldsAll f l) (sym e) (push_held f xs (record { pc = pc; instr = j }) h.0 (h.1 ∙ ap (λ i. Some i) (sym d)))),
)

-- what has the same as what was noted
pub notes_same : (xs ys zs : List Fetched) (pc : ℕ) (i : Instr) → NotesMore xs ys pc i → NotesSame ys zs → NotesMore xs zs pc i
notes_same xs ys zs pc i m s f = ((λ h. (m f).0 ((s f).0 h)), λ h. (s f).1 ((m f).1 h))

pub held_more : (xs ys : List Fetched) (pc : ℕ) (i : Instr) → CanNote xs pc i → NotesMore xs ys pc i → AreHeld ys
held_more xs ys pc i (g, h, j) m = (g, (m g).1 (h, j))

-- ---- the part that is sorted

module _ (xs : List Fetched) (n : ℕ) (le : n ≤ length xs) where
  length_front : length (take n xs) ≡ n
  length_front = omega (arith, length-take n xs)

  -- a place that is found in it is one of the list
  pub at_front : (pc k : ℕ) → IsAt (take n xs) pc k → IsAt xs pc k
  at_front pc k (lt, p) = let kn : k < n = omega (arith, length_front) in (omega arith, λ d. ap (λ x. x.pc) (sym (get_or-take n xs k d kn)) ∙ p d)

  -- the gap behind the whole list is behind its last place
  pub front_grows : (ys : List Fetched) (e : Fetched) (gap : ℕ) → ys ≡ xs ++ e ∷ [] → ByPlace (take n xs) → IsGap (take n xs) e.pc gap → gap ≡ length xs → (n + 1 ≤ length ys) × ByPlace (take (n + 1) ys)
  front_grows ys e gap is b g whole =
      let l : length ys ≡ length xs + 1 = ap length is ∙ length-append xs (e ∷ []) in
      let all : n ≡ length xs = omega (arith, g.0, length_front) in
      let w : take n xs ≡ xs = take_all n xs (omega arith) in
      let p : ByPlace (xs ++ e ∷ []) =
      all_pairs_push (λ x y. x.pc < y.pc) xs e (subst ByPlace w b) (λ k d lt. subst (λ (zs : List Fetched). (get_or zs k d).pc < e.pc) w (g.1 k d (omega arith))) in
      (omega arith, subst ByPlace (sym (take_all (n + 1) ys (omega arith) ∙ is)) p)

pub whole_front : (xs : List Fetched) (n : ℕ) → length xs ≤ n → ByPlace (take n xs) → ByPlace xs
whole_front xs n le b = subst ByPlace (take_all n xs le) b
