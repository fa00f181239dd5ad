-- No place of code stands deeper than forks are nested in its test.
use Rattle.std.proofs.Common.{◌≡◌, ℕ, zero, suc, ◌+◌, ◌≤◌, max, List, [], ◌∷◌, ◌++◌, length, map, Option, Some, None, slice_get, refl, sym, ap, subst, ◌∙◌, arith}
use Rattle.tb_base.specs.declared.path.Region.{Region}
use Rattle.tb_base.specs.declared.path.Region.TheVariants.{Main}
use Rattle.tl_ast.specs.declared.tree.TestStmt.{TestStmt}
use Rattle.tl_ast.specs.declared.tree.TestStmt.TheFolds.{fold-roll-TestStmt, ind-TestStmt, map-TestStmt}
use Rattle.tl_ast.specs.declared.tree.TestStmt.TheViews.{roll-TestStmt}
use Rattle.tl_ast.specs.declared.tree.TestStmt.TheOpen as S
use Rattle.tl_ast.specs.declared.tree.TestStmt.TheOpen.{TestStmt-F}
use Rattle.tl_ast.specs.declared.tree.TestText.{TestText}
use Rattle.tl_check.specs.Bounds.{greatest, forks_level, nested_forks}
use Rattle.tl_check.specs.Scopes.{child_region}
use Rattle.tl_check.specs.Walk.{Ports}
use Rattle.tl_threads.specs.declared.code.Placed.{Placed}
use Rattle.tl_threads.specs.declared.code.Instr.TheVariants as instr
use Rattle.tl_threads.specs.Bodies.{Body, Piece, chain, level_piece, piece, test_body}
use Rattle.tl_threads.specs.Bodies.Body.{nil, poke_port, peek_port, expect_port, step_by, let_var, if_true, while_true, repeat_by, fork_as, join_of, joinstep_of}
use Rattle.tl_threads.specs.Code.{Scope, at, with_var, with_handle, deeper, child_scope, first_scope, block_code, test_code}

-- how deep forks are nested in a body
abbrev pub forks_in : Body → ℕ
forks_in nil = 0
forks_in (poke_port l p e k) = forks_in k
forks_in (peek_port l p into k) = forks_in k
forks_in (expect_port l p e k) = forks_in k
forks_in (step_by l n k) = forks_in k
forks_in (let_var l x e k) = forks_in k
forks_in (if_true l e a b k) = max (max (forks_in a) (forks_in b)) (forks_in k)
forks_in (while_true l e a k) = max (forks_in a) (forks_in k)
forks_in (repeat_by l e a k) = max (forks_in a) (forks_in k)
forks_in (fork_as l g h a k) = max (suc (forks_in a)) (forks_in k)
forks_in (join_of l h k) = forks_in k
forks_in (joinstep_of l h k) = forks_in k

-- ---- code

abbrev pub Within : ℕ → List Placed → Type 0
Within n [] = Unit {0}
Within n (x ∷ xs) = (x.depth ≤ n) × Within n xs

within_append : (n : ℕ) (xs ys : List Placed) → Within n xs → Within n ys → Within n (xs ++ ys)
within_append n [] ys a b = b
within_append n (x ∷ xs) ys a b = (a.0, within_append n xs ys a.1 b)

pub within_at : (n : ℕ) (xs : List Placed) → Within n xs → (k : ℕ) (x : Placed) → slice_get xs k ≡ Some x → x.depth ≤ n
within_at n [] w k x e = absurd (cc)
within_at n (y ∷ ys) w zero x e = let d : y ≡ x = cc in subst (λ (z : Placed). z.depth ≤ n) d w.0
within_at n (y ∷ ys) w (suc k) x e = within_at n ys w.1 k x e

block_within : (n : ℕ) (b : Body) (c : Scope) (pc : ℕ) → c.depth + forks_in b ≤ n → Within n (block_code b c pc)
block_within n nil c pc h = tt
block_within n (poke_port l p e k) c pc h = (omega arith, block_within n k c (suc pc) (omega arith))
block_within n (peek_port l p into k) c pc h = (omega arith, block_within n k c (suc pc) (omega arith))
block_within n (expect_port l p e k) c pc h = (omega arith, block_within n k c (suc pc) (omega arith))
block_within n (step_by l m k) c pc h = (omega arith, block_within n k c (suc pc) (omega arith))
block_within n (let_var l x e k) c pc h = (omega arith, block_within n k (with_var x c) (suc pc) (omega arith))
block_within n (if_true l e a b k) c pc h = (
  omega arith,
  within_append n (block_code a c (suc pc)) _ (block_within n a c (suc pc) (omega arith))
      (omega arith, within_append n (block_code b c _) _ (block_within n b c _ (omega arith)) (block_within n k c _ (omega arith))),
)
block_within n (while_true l e a k) c pc h =
    (omega arith, within_append n (block_code a c (suc pc)) _ (block_within n a c (suc pc) (omega arith)) (omega arith, block_within n k c _ (omega arith)))
block_within n (repeat_by l e a k) c pc h =
    (omega arith, within_append n (block_code a (deeper c) (suc pc)) _ (block_within n a (deeper c) (suc pc) (omega arith)) (omega arith, block_within n k c _ (omega arith)))
block_within n (fork_as l g x a k) c pc h = (
  omega arith,
  within_append n (block_code a (child_scope g c) (suc pc)) _ (block_within n a (child_scope g c) (suc pc) (omega arith))
      (omega arith, block_within n k (with_handle x c) _ (omega arith)),
)
block_within n (join_of l x k) c pc h = (omega arith, block_within n k c (suc pc) (omega arith))
block_within n (joinstep_of l x k) c pc h = (omega arith, block_within n k c (suc pc) (omega arith))

pub code_within : (n : ℕ) (b : Body) → forks_in b ≤ n → Within n (test_code b)
code_within n b h = within_append n (block_code b first_scope 0) (at first_scope instr.End ∷ []) (block_within n b first_scope 0 (omega arith)) (omega arith, tt)

-- ---- tests

module _ (ports : Ports) where
  abbrev NoDeeper : TestStmt → Type 0
  NoDeeper s = (g : Region) (k : Body) → forks_in (piece ports s g k) ≤ max (nested_forks s) (forks_in k)

  abbrev With : Type 0
  With = (s : TestStmt) × NoDeeper s

  abbrev stmts_of : List With → List TestStmt
  stmts_of ts = map (λ t. t.0) ts

  chain_deep : (ts : List With) (g : Region) (k : Body) → forks_in (chain (map (piece ports) (stmts_of ts)) g k) ≤ max (greatest (map nested_forks (stmts_of ts))) (forks_in k)
  chain_deep [] g k = omega arith
  chain_deep (t ∷ ts) g k = omega (arith, t.1 g (chain (map (piece ports) (stmts_of ts)) g k), chain_deep ts g k)

  abbrev pieces_at : TestStmt-F With → TestStmt-F Piece
  pieces_at y = map-TestStmt TestStmt Piece (piece ports) (map-TestStmt With TestStmt (λ t. t.0) y)

  abbrev depths_at : TestStmt-F With → TestStmt-F ℕ
  depths_at y = map-TestStmt TestStmt ℕ nested_forks (map-TestStmt With TestStmt (λ t. t.0) y)

  level_deep : (y : TestStmt-F With) (g : Region) (k : Body) → forks_in (level_piece ports (pieces_at y) g k) ≤ max (forks_level (depths_at y)) (forks_in k)
  level_deep (S.Poke l p e) g k = omega arith
  level_deep (S.Peek l p into) g k = omega arith
  level_deep (S.Expect l p e) g k = omega arith
  level_deep (S.Step l count) g k = omega arith
  level_deep (S.Let l x e) g k = omega arith
  level_deep (S.Set l x e) g k = omega arith
  level_deep (S.If l e ts os) g k = omega (arith, chain_deep ts g nil, chain_deep os g nil)
  level_deep (S.While l e ts) g k = omega (arith, chain_deep ts g nil)
  level_deep (S.Repeat l e ts) g k = omega (arith, chain_deep ts g nil)
  level_deep (S.Fork l written x ts) g k = omega (arith, chain_deep ts (child_region g written) nil)
  level_deep (S.Join l x) g k = omega arith
  level_deep (S.JoinStep l x) g k = omega arith
  level_deep (S.Driver l kind p values) g k = omega arith
  level_deep (S.ResetFor l count) g k = omega arith

  stmt_deep : (s : TestStmt) → NoDeeper s
  stmt_deep = ind-TestStmt NoDeeper (λ x y is. subst (λ z. NoDeeper (roll-TestStmt z)) is (λ g k.
      let d : nested_forks (roll-TestStmt (map-TestStmt With TestStmt (λ t. t.0) y)) ≡ forks_level (depths_at y) = fold-roll-TestStmt ℕ forks_level (map-TestStmt With TestStmt (λ t. t.0) y) in
      let q : piece ports (roll-TestStmt (map-TestStmt With TestStmt (λ t. t.0) y)) ≡ level_piece ports (pieces_at y) = fold-roll-TestStmt Piece (level_piece ports) (map-TestStmt With TestStmt (λ t. t.0) y) in
      subst (λ (n : ℕ). forks_in (piece ports (roll-TestStmt (map-TestStmt With TestStmt (λ t. t.0) y)) g k) ≤ max n (forks_in k)) (sym d)
      (subst (λ (p : Piece). forks_in (p g k) ≤ max (forks_level (depths_at y)) (forks_in k)) (sym q) (level_deep y g k))))

  stmts_deep : (ss : List TestStmt) (g : Region) (k : Body) → forks_in (chain (map (piece ports) ss) g k) ≤ max (greatest (map nested_forks ss)) (forks_in k)
  stmts_deep [] g k = omega arith
  stmts_deep (s ∷ ss) g k = omega (arith, stmt_deep s g (chain (map (piece ports) ss) g k), stmts_deep ss g k)

  pub test_within : (test : TestText) (n : ℕ) → greatest (map nested_forks test.body) ≤ n → Within n (test_code (test_body ports test))
  test_within test n h = code_within n (test_body ports test) (omega (arith, stmts_deep test.body Main nil))
