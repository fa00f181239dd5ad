-- The ranks of a checked circuit's modules, in the elaboration's words.
use Rattle.std.proofs.Common.{◌≡◌, ◌∙◌, sym, ap, ap₂, subst, ℕ, suc, ◌<◌, List, [], ◌∷◌, ◌++◌, cond, refl, map, flat_map, length, bytes_eq, append_assoc, append-nil}
use Rattle.std.specs.List.{All}
use Rattle.std.proofs.lemmas.List.{map-append}
use Rattle.fir_ast.specs.declared.tree.Module.{Module}
use Rattle.fir_ast.specs.declared.tree.Circuit.{Circuit}
use Rattle.fir_ast.specs.declared.tree.Stmt.{Stmt, map-Stmt}
use Rattle.fir_ast.specs.declared.tree.Stmt.TheFolds.{fold-Stmt, fold-roll-Stmt, ind-Stmt}
use Rattle.fir_ast.specs.declared.tree.Stmt.TheOpen.{Stmt-F, Wire, Node, Reg, Inst, Connect, Invalid, When, Skip, Verif}
use Rattle.fir_check.specs.Rules.{target_level}
use Rattle.fir_check.specs.Ranks.{place_of as checked_place, IsRanked as CheckedIsRanked}
use Rattle.fir_flat.specs.Bodies.{Body, done, block, level_body, statement, body_of}
use Rattle.fir_flat.specs.Modules.{module_at, place_of, targets, targets_of, Ranked}

same_place : (modules : List Module) (name : List ℕ) → checked_place modules name ≡ place_of modules name
same_place [] name = refl
same_place (m ∷ modules) name = ap (λ n. cond (bytes_eq m.name name) 0 (suc n)) (same_place modules name)

module _ (modules : List Module) where
  abbrev names : Stmt → List (List ℕ)
  names = fold-Stmt (List (List ℕ)) target_level

  abbrev places : List (List ℕ) → List ℕ
  places ns = map (checked_place modules) ns

  abbrev Same : Stmt → Type 0
  Same s = (rest : Body) → targets modules (statement s rest) ≡ places (names s) ++ targets modules rest

  list_same : (A : Type 0) (to : A → Stmt) (xs : List A) → ((x : A) → Same (to x)) → (rest : Body)
      → targets modules (block (map statement (map to xs)) rest) ≡ places (flat_map (λ ts. ts) (map names (map to xs))) ++ targets modules rest
  list_same A to [] h rest = refl
  list_same A to (x ∷ xs) h rest =
      h x (block (map statement (map to xs)) rest)
      ∙ ap (λ ts. places (names (to x)) ++ ts) (list_same A to xs h rest)
      ∙ sym (append_assoc (places (names (to x))) (places (flat_map (λ ts. ts) (map names (map to xs)))) (targets modules rest))
      ∙ ap (λ ts. ts ++ targets modules rest) (sym (map-append (checked_place modules) (names (to x)) (flat_map (λ ts. ts) (map names (map to xs)))))

  level_targets : (A : Type 0) (to : A → Stmt) → ((x : A) → Same (to x)) → (y : Stmt-F A) (rest : Body)
      → targets modules (level_body (map-Stmt Stmt (Body → Body) statement (map-Stmt A Stmt to y)) rest)
      ≡ places (target_level (map-Stmt Stmt (List (List ℕ)) names (map-Stmt A Stmt to y))) ++ targets modules rest
  level_targets A to h (Wire l n t) rest = refl
  level_targets A to h (Node l n v) rest = refl
  level_targets A to h (Reg l n t c r) rest = refl
  level_targets A to h (Inst l n t) rest = ap (λ p. p ∷ targets modules rest) (sym (same_place modules t))
  level_targets A to h (Connect l s v) rest = refl
  level_targets A to h (Invalid l s) rest = refl
  level_targets A to h (Skip l) rest = refl
  level_targets A to h (Verif l k a c t n) rest = refl
  level_targets A to h (When l c xs ys) rest =
      let first : List (List ℕ) = flat_map (λ ts. ts) (map names (map to xs)) in
      let second : List (List ℕ) = flat_map (λ ts. ts) (map names (map to ys)) in
      ap₂ (λ s t. s ++ (t ++ targets modules rest)) (list_same A to xs h done ∙ append-nil (places first)) (list_same A to ys h done ∙ append-nil (places second))
      ∙ sym (append_assoc (places first) (places second) (targets modules rest))
      ∙ ap (λ ts. ts ++ targets modules rest) (sym (map-append (checked_place modules) first second))

  same_targets : (s : Stmt) → Same s
  same_targets s = ind-Stmt Same (λ x y e rest.
      ap (λ (f : Body → Body). targets modules (f rest)) (fold-roll-Stmt (Body → Body) level_body x)
      ∙ subst (λ z. targets modules (level_body (map-Stmt Stmt (Body → Body) statement z) rest) ≡ places (target_level (map-Stmt Stmt (List (List ℕ)) names z)) ++ targets modules rest) e
      (level_targets _ (λ z. z.0) (λ z. z.1) y rest)
      ∙ ap (λ ts. places ts ++ targets modules rest) (sym (fold-roll-Stmt (List (List ℕ)) target_level x))) s

  body_targets : (ss : List Stmt) → targets modules (body_of ss) ≡ places (flat_map names ss)
  body_targets [] = refl
  body_targets (s ∷ ss) =
      same_targets s (body_of ss) ∙ ap (λ ts. places (names s) ++ ts) (body_targets ss) ∙ sym (map-append (checked_place modules) (names s) (flat_map names ss))

pub ranked : (c : Circuit) → CheckedIsRanked c → (rank : ℕ → ℕ) × Ranked rank (targets_of c.modules) (length c.modules)
ranked c k = (
  k.rank.0,
  record {
    falls = λ place. subst (All (λ target. k.rank.0 target < k.rank.0 place)) (sym (body_targets c.modules (module_at c.modules place).body)) (k.rank.1.falls place);
    low = k.rank.1.low;
  },
)

pub main_there : (c : Circuit) → CheckedIsRanked c → place_of c.modules c.name < length c.modules
main_there c k = subst (λ p. p < length c.modules) (same_place c.modules c.name) k.main
