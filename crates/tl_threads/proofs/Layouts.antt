-- Where the pieces of code stand.
use Rattle.std.proofs.Common.{◌≡◌, ℕ, suc, ◌+◌, List, [], ◌∷◌, ◌++◌, length, length-append, Some, refl, sym, subst, ◌∙◌, inl, arith}
use Rattle.tl_threads.specs.declared.code.Placed.{Placed}
use Rattle.tl_threads.specs.declared.code.Instr.TheVariants as instr
use Rattle.tl_threads.specs.Threads.{Frame}
use Rattle.tl_threads.specs.Threads.Frame.{block, turn, again}
use Rattle.tl_threads.specs.Bodies.{Body}
use Rattle.tl_threads.specs.Code.{Scope, at, block_code, framed, choice}
use Rattle.tl_threads.specs.Stands.{Places, HasAt, Outer, Laid, Continues}
use Rattle.tl_threads.proofs.NameFacts.{within_refl, within_trans}

pub outer_refl : (c : Scope) → Outer c c
outer_refl c = record { vars = within_refl c.vars; handles = within_refl c.handles; depth = refl; region = refl }

pub outer_trans : (a b c : Scope) → Outer a b → Outer b c → Outer a c
outer_trans a b c x y = record {
  vars = within_trans a.vars b.vars c.vars x.vars y.vars;
  handles = within_trans a.handles b.handles c.handles x.handles y.handles;
  depth = x.depth ∙ y.depth;
  region = x.region ∙ y.region;
}

pub has_front : (f : Places) (pc : ℕ) (a b : List Placed) → HasAt f pc (a ++ b) → HasAt f pc a
has_front f pc [] b h = tt
has_front f pc (i ∷ a) b h = (h.0, has_front f (suc pc) a b h.1)

pub has_back : (f : Places) (pc : ℕ) (a b : List Placed) → HasAt f pc (a ++ b) → HasAt f (pc + length a) b
has_back f pc [] b h = let e : pc ≡ pc + 0 = omega arith in subst (λ n. HasAt f n b) e h
has_back f pc (i ∷ a) b h = let e : suc pc + length a ≡ pc + length (i ∷ a) = omega arith in subst (λ n. HasAt f n b) e (has_back f (suc pc) a b h.1)

-- the pieces of a framed body
pub record Framed (f : Places) (pc : ℕ) (head : ℕ → Placed) (body : ℕ → List Placed) (foot : ℕ → Placed) (k : ℕ → List Placed) : Type 0 where
  pub out : ℕ
  pub foot_at : ℕ
  pub foot_is : foot_at ≡ suc pc + length (body (suc pc))
  pub out_is : out ≡ suc foot_at
  pub at_head : f pc ≡ Some (head out)
  pub at_body : HasAt f (suc pc) (body (suc pc))
  pub at_foot : f foot_at ≡ Some (foot (suc pc))
  pub at_rest : HasAt f out (k out)
  pub ends : out + length (k out) ≡ pc + length (framed head body foot k pc)

pub framed_parts : (f : Places) (pc : ℕ) (head : ℕ → Placed) (body : ℕ → List Placed) (foot : ℕ → Placed) (k : ℕ → List Placed) → HasAt f pc (framed head body foot k pc) → Framed f pc head body foot k
framed_parts f pc head body foot k h =
    let n : ℕ = suc pc + length (body (suc pc)) in
    let tail = has_back f (suc pc) (body (suc pc)) (foot (suc pc) ∷ k (suc n)) h.1 in
    record {
      out = suc (suc pc + length (body (suc pc)));
      foot_at = suc pc + length (body (suc pc));
      foot_is = refl;
      out_is = refl;
      at_head = h.0;
      at_body = has_front f (suc pc) (body (suc pc)) (foot (suc pc) ∷ k (suc n)) h.1;
      at_foot = tail.0;
      at_rest = tail.1;
      ends = omega (arith, length-append (body (suc pc)) (foot (suc pc) ∷ k (suc (suc pc + length (body (suc pc))))));
    }

pub choice_ends : (p : ℕ) (xs ys zs : List Placed) (y : Placed) → suc (suc p + length xs) + length ys + length zs ≡ p + suc (length (xs ++ (y ∷ (ys ++ zs))))
choice_ends p xs ys zs y = omega (arith, length-append xs (y ∷ (ys ++ zs)), length-append ys zs)

pub framed_ends : (p : ℕ) (xs zs : List Placed) (y : Placed) → suc (suc p + length xs) + length zs ≡ p + suc (length (xs ++ (y ∷ zs)))
framed_ends p xs zs y = omega (arith, length-append xs (y ∷ zs))

-- the pieces of a choice
pub record Choice (f : Places) (pc : ℕ) (c : Scope) (head : ℕ → Placed) (a b k : ℕ → List Placed) : Type 0 where
  pub goto_at : ℕ
  pub other : ℕ
  pub out : ℕ
  pub goto_is : goto_at ≡ suc pc + length (a (suc pc))
  pub other_is : other ≡ suc goto_at
  pub out_is : out ≡ other + length (b other)
  pub at_head : f pc ≡ Some (head other)
  pub at_first : HasAt f (suc pc) (a (suc pc))
  pub at_goto : f goto_at ≡ Some (at c (instr.Goto out))
  pub at_second : HasAt f other (b other)
  pub at_rest : HasAt f out (k out)
  pub ends : out + length (k out) ≡ pc + length (choice c head a b k pc)

pub choice_parts : (f : Places) (pc : ℕ) (c : Scope) (head : ℕ → Placed) (a b k : ℕ → List Placed) → HasAt f pc (choice c head a b k pc) → Choice f pc c head a b k
choice_parts f pc c head a b k h =
    let g : ℕ = suc pc + length (a (suc pc)) in
    let o : ℕ = suc g in
    let q : ℕ = o + length (b o) in
    let rest : List Placed = at c (instr.Goto q) ∷ (b o ++ k q) in
    let tail = has_back f (suc pc) (a (suc pc)) rest h.1 in
    record {
      goto_at = suc pc + length (a (suc pc));
      other = suc (suc pc + length (a (suc pc)));
      out = suc (suc pc + length (a (suc pc))) + length (b (suc (suc pc + length (a (suc pc)))));
      goto_is = refl;
      other_is = refl;
      out_is = refl;
      at_head = h.0;
      at_first = has_front f (suc pc) (a (suc pc)) rest h.1;
      at_goto = tail.0;
      at_second = has_front f o (b o) (k q) tail.1;
      at_rest = has_back f o (b o) (k q) tail.1;
      ends = choice_ends pc (a (suc pc)) (b o) (k q) (at c (instr.Goto q));
    }

-- the same continuation under a scope that knows more
pub continues_in : (v h : ℕ) (f : Places) (c o : Scope) (q : ℕ) (fs : List Frame) (loops : List ℕ) → Outer c o → Continues v h f c q fs loops → Continues v h f o q fs loops
continues_in v h f c o q [] loops w (d, e) = (d, record { outer = outer_trans d c o e.outer w; here = e.here; once = e.once; open_loops = e.open_loops; counts = e.counts })
continues_in v h f c o q (block b ∷ fs) loops w (r, d, j, y, l, k) = (r, d, j, outer_trans d c o y w, l, k)
continues_in v h f c o q (turn l e a ∷ fs) loops w (back, d, t, k) = (back, d, record { outer = outer_trans d c o t.outer w; here = t.here; known = t.known; body = t.body; foot = t.foot }, k)
continues_in v h f c o q (again l n a ∷ fs) loops w (back, d, rest, t, k) = (back, d, rest, record { outer = outer_trans d c o t.outer w; counts = t.counts; here = t.here; body = t.body; foot = t.foot }, k)

-- the rest of a block, in a scope that may know more
pub then_block : (v h : ℕ) (f : Places) (o p : Scope) (pc q : ℕ) (k : Body) (fs : List Frame) (loops : List ℕ) → Laid v h f p pc k loops → Outer o p → pc + length (block_code k p pc) ≡ q → Continues v h f o q fs loops → Continues v h f p pc (block k ∷ fs) loops
then_block v h f o p pc q k fs loops l w e c =
    (pc, p, inl refl, outer_refl p, l, subst (λ r. Continues v h f p r fs loops) (sym e) (continues_in v h f o p q fs loops w c))

-- one instruction, and what follows it in the same scope
pub past : (pc : ℕ) (xs : List Placed) (x : Placed) → suc pc + length xs ≡ pc + length (x ∷ xs)
past pc xs x = omega arith
