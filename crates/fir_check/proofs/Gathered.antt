-- The instances in a body, one after another.
use Rattle.std.proofs.Common.{ℕ, ◌≡◌, ◌+◌, ◌<◌, ◌≤◌, Option, Some, None, option_map, List, [], ◌∷◌, ◌++◌, map, flat_map, length, drop, get_or, refl, sym, ap, ◌∙◌, append_assoc, append-nil, take}
use Rattle.std.proofs.lemmas.List.{drop_all, take_more}
use Rattle.std.specs.declared.vec.Vec.{Vec}
use Rattle.std.specs.declared.alloc.Global.{Global}
use Rattle.fir_ast.specs.declared.tree.Module.{Module}
use Rattle.std.specs.List.{cons_option}
use Rattle.fir_ast.specs.declared.tree.Expr.{Expr}
use Rattle.fir_ast.specs.declared.tree.Stmt.{Stmt}
use Rattle.fir_ast.specs.declared.tree.Stmt.TheViews.{When}
use Rattle.fir_ast.specs.declared.tree.Stmt.TheVariants.{rolls-When}
use Rattle.fir_ast.specs.declared.tree.Stmt.TheFolds.{fold-roll-Stmt}
use Rattle.fir_ast.specs.declared.tree.Stmt.TheOpen.{When as F-When}
use Rattle.fir_check.specs.declared.instances.Instance.{Instance}
use Rattle.fir_check.specs.Tables.{number_named}
use Rattle.fir_check.specs.Instances.{inst_level, insts_of, insts_in, numbered, graph, kids_seen}
use Rattle.fir_check.proofs.Doubles.{next_item}

pub flat-map-id : {X A : Type 0} (f : X → List A) (xs : List X) → flat_map (λ ys. ys) (map f xs) ≡ flat_map f xs
flat-map-id f [] = refl
flat-map-id f (x ∷ xs) = ap (λ t. f x ++ t) (flat-map-id f xs)

pub flat-map-append : {X A : Type 0} (f : X → List A) (xs ys : List X) → flat_map f (xs ++ ys) ≡ flat_map f xs ++ flat_map f ys
flat-map-append f [] ys = refl
flat-map-append f (x ∷ xs) ys = ap (λ t. f x ++ t) (flat-map-append f xs ys) ∙ sym (append_assoc (f x) (flat_map f xs) (flat_map f ys))

pub insts_when : (l : ℕ) (c : Expr) (a b : List Stmt) → insts_of (When l c a b) ≡ flat_map insts_of a ++ flat_map insts_of b
insts_when l c a b =
    ap insts_of (sym (rolls-When l c a b)) ∙ fold-roll-Stmt (List (ℕ × List ℕ)) inst_level (F-When l c a b)
    ∙ ap (λ t. t ++ flat_map (λ is. is) (map insts_of b)) (flat-map-id insts_of a)
    ∙ ap (λ t. flat_map insts_of a ++ t) (flat-map-id insts_of b)

cons-append : {X : Type 0} (o : Option X) (xs ys : List X) → cons_option o (xs ++ ys) ≡ cons_option o xs ++ ys
cons-append None xs ys = refl
cons-append (Some x) xs ys = refl

pub numbered-append : (table : List (List ℕ × ℕ)) (xs ys : List (ℕ × List ℕ)) → numbered table (xs ++ ys) ≡ numbered table xs ++ numbered table ys
numbered-append table [] ys = refl
numbered-append table (x ∷ xs) ys =
    ap (cons_option (option_map (λ n. record { line = x.0; target = n }) (number_named x.1 table))) (numbered-append table xs ys)
    ∙ cons-append (option_map (λ n. record { line = x.0; target = n }) (number_named x.1 table)) (numbered table xs) (numbered table ys)

pub two_blocks : (table : List (List ℕ × ℕ)) (l : ℕ) (c : Expr) (a b xs ys : List Stmt) (o m n : List Instance) → xs ≡ a → ys ≡ b
    → m ≡ o ++ numbered table (flat_map insts_of xs) → n ≡ m ++ numbered table (flat_map insts_of ys) → n ≡ o ++ numbered table (insts_of (When l c a b))
two_blocks table l c a b xs ys o m n e f p q =
    q ∙ ap (λ t. t ++ numbered table (flat_map insts_of ys)) p ∙ append_assoc o (numbered table (flat_map insts_of xs)) (numbered table (flat_map insts_of ys))
    ∙ ap (λ t. o ++ (numbered table (flat_map insts_of t) ++ numbered table (flat_map insts_of ys))) e
    ∙ ap (λ t. o ++ (numbered table (flat_map insts_of a) ++ numbered table (flat_map insts_of t))) f
    ∙ ap (λ t. o ++ t) (sym (numbered-append table (flat_map insts_of a) (flat_map insts_of b)) ∙ ap (numbered table) (sym (insts_when l c a b)))

-- what is left of a body, from its i-th statement
pub record StmtsLeft (table : List (List ℕ × ℕ)) (body : List Stmt) (i : ℕ) (found start : List Instance) : Type 0 where
  pub whole : found ++ numbered table (flat_map insts_of (drop i body)) ≡ start ++ numbered table (flat_map insts_of body)

pub stmts_next : (table : List (List ℕ × ℕ)) (body : List Stmt) (i : ℕ) (s : Stmt) (found more start : List Instance)
    → i < length body → s ≡ get_or body i s → more ≡ found ++ numbered table (insts_of s) → StmtsLeft table body i found start → StmtsLeft table body (i + 1) more start
stmts_next table body i s found more start h e p l =
    let rest : List (ℕ × List ℕ) = flat_map insts_of (drop (i + 1) body) in
    record {
      whole =
          ap (λ t. t ++ numbered table rest) p ∙ append_assoc found (numbered table (insts_of s)) (numbered table rest)
          ∙ ap (λ t. found ++ t) (sym (numbered-append table (insts_of s) rest))
          ∙ ap (λ ys. found ++ numbered table (flat_map insts_of ys)) (sym (next_item body i s h e))
          ∙ l.whole;
    }

pub stmts_end : (table : List (List ℕ × ℕ)) (body : List Stmt) (i : ℕ) (found start : List Instance) → length body ≤ i → StmtsLeft table body i found start → found ≡ start ++ numbered table (flat_map insts_of body)
stmts_end table body i found start h l = sym (append-nil found) ∙ ap (λ ys. found ++ numbered table (flat_map insts_of ys)) (sym (drop_all i body h)) ∙ l.whole

-- the instances of the modules from the i-th on
pub graphs_next : (table : List (List ℕ × ℕ)) (modules : List Module) (i : ℕ) (m : Module) (kids : List (Vec Instance Global)) (v : Vec Instance Global)
    → i < length modules → m ≡ get_or modules i m → v.items ≡ numbered table (insts_in m)
    → kids_seen kids ≡ graph table (take i modules) → kids_seen (kids ++ v ∷ []) ≡ graph table (take (i + 1) modules)
graphs_next table modules i m kids v h e p q =
    seen kids ∙ ap (λ t. t ++ v.items ∷ []) q ∙ ap (λ y. graph table (take i modules) ++ y ∷ []) p
    ∙ sym (last (take i modules)) ∙ ap (graph table) (ap (λ y. take i modules ++ y ∷ []) e ∙ sym (take_more modules i m h))
  where
    seen : (ks : List (Vec Instance Global)) → kids_seen (ks ++ v ∷ []) ≡ kids_seen ks ++ v.items ∷ []
    seen [] = refl
    seen (k ∷ ks) = ap (λ t. k.items ∷ t) (seen ks)

    last : (ms : List Module) → graph table (ms ++ m ∷ []) ≡ graph table ms ++ numbered table (insts_in m) ∷ []
    last [] = refl
    last (x ∷ xs) = ap (λ t. numbered table (insts_in x) ∷ t) (last xs)
