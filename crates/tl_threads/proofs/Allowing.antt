-- What the rules of tests say of a body.
use Rattle.std.proofs.Common.{◌≡◌, ℕ, suc, List, [], ◌∷◌, ◌++◌, Bool, true, false, not, cond, ◌||◌, Option, Some, None, is_some, option_map, refl, sym, ap, subst, ◌∙◌}
use Rattle.std.specs.Str.{bytes_eq}
use Rattle.std.proofs.lemmas.Bool.{or_parts}
use Rattle.tl_ast.specs.declared.tree.TestExpr.{TestExpr}
use Rattle.tl_ast.specs.declared.tree.TestExpr.TheFolds.{fold-roll-TestExpr, ind-TestExpr, map-TestExpr}
use Rattle.tl_ast.specs.declared.tree.TestExpr.TheViews.{roll-TestExpr}
use Rattle.tl_ast.specs.declared.tree.TestExpr.TheOpen as E
use Rattle.tl_ast.specs.declared.tree.TestExpr.TheOpen.{TestExpr-F}
use Rattle.tl_check.specs.Scopes.{is_among, with_variable, handle_named, with_handle}
use Rattle.tl_check.specs.Values.{unknown_level, uses_unknown}
use Rattle.tl_threads.specs.Values.{Name, Expr, level_expr, expr_of}
use Rattle.tl_threads.specs.Code.{slot_found, grown, with_name}
use Rattle.tl_threads.specs.Stands.{Known, KnownIn}
use Rattle.tl_threads.specs.Allowed.{Handles, names_of}

-- ---- names, as the rules know them and as the code does

pub among_found : (n : Name) (xs : List Name) → is_among n xs ≡ is_some (slot_found n xs)
among_found n [] = refl
among_found n (x ∷ xs) = go (bytes_eq n x) (among_found n xs)
  where
    go : (b : Bool) → is_among n xs ≡ is_some (slot_found n xs) → (b || is_among n xs) ≡ is_some (cond b (Some 0) (option_map (λ k. suc k) (slot_found n xs)))
    go true h = refl
    go false h = h ∙ mapped (slot_found n xs)
      where
        mapped : (o : Option ℕ) → is_some o ≡ is_some (option_map (λ k. suc k) o)
        mapped None = refl
        mapped (Some k) = refl

known_some : (o : Option ℕ) → is_some o ≡ true → (k : ℕ) × (o ≡ Some k)
known_some None e = absurd (cc)
known_some (Some k) e = (k, refl)

pub among_known : (n : Name) (xs : List Name) → is_among n xs ≡ true → Known xs n
among_known n xs e = known_some (slot_found n xs) (sym (among_found n xs) ∙ e)

pub not_false : (b : Bool) → not b ≡ false → b ≡ true
not_false true e = refl
not_false false e = absurd (cc)

pub with_same : (n : Name) (xs : List Name) → with_variable n xs ≡ with_name xs n
with_same n xs = ap (λ b. cond b xs (xs ++ n ∷ [])) (among_found n xs) ∙ go (slot_found n xs)
  where
    go : (o : Option ℕ) → cond (is_some o) xs (xs ++ n ∷ []) ≡ grown xs n o
    go None = refl
    go (Some k) = refl

pub handle_found : (n : Name) (hs : Handles) → is_some (handle_named n hs) ≡ is_some (slot_found n (names_of hs))
handle_found n [] = refl
handle_found n (h ∷ hs) = go (bytes_eq n h.0) (handle_found n hs)
  where
    go : (b : Bool) → is_some (handle_named n hs) ≡ is_some (slot_found n (names_of hs)) → is_some (cond b (Some h.1) (handle_named n hs)) ≡ is_some (cond b (Some 0) (option_map (λ k. suc k) (slot_found n (names_of hs))))
    go true e = refl
    go false e = e ∙ mapped (slot_found n (names_of hs))
      where
        mapped : (o : Option ℕ) → is_some o ≡ is_some (option_map (λ k. suc k) o)
        mapped None = refl
        mapped (Some k) = refl

pub handle_known : (n : Name) (hs : Handles) (b : Bool) → handle_named n hs ≡ Some b → Known (names_of hs) n
handle_known n hs b e = known_some (slot_found n (names_of hs)) (sym (handle_found n hs) ∙ ap is_some e)

pub names_with : (n : Name) (w : Bool) (hs : Handles) → names_of (with_handle n w hs) ≡ with_name (names_of hs) n
names_with n w hs = ap (λ b. names_of (cond b hs (hs ++ (n, w) ∷ []))) (handle_found n hs) ∙ go (slot_found n (names_of hs))
  where
    behind : (xs : Handles) → names_of (xs ++ (n, w) ∷ []) ≡ names_of xs ++ n ∷ []
    behind [] = refl
    behind (x ∷ xs) = ap (λ t. x.0 ∷ t) (behind xs)

    go : (o : Option ℕ) → names_of (cond (is_some o) hs (hs ++ (n, w) ∷ [])) ≡ grown (names_of hs) n o
    go None = behind hs
    go (Some k) = refl

-- ---- expressions

abbrev KnownThere : List Name → TestExpr → Type 0
KnownThere vars e = uses_unknown vars e ≡ false → KnownIn vars (expr_of e)

abbrev WithKnown : List Name → Type 0
WithKnown vars = (e : TestExpr) × KnownThere vars e

level_known : (vars : List Name) (y : TestExpr-F (WithKnown vars)) → unknown_level vars (map-TestExpr TestExpr Bool (uses_unknown vars) (map-TestExpr (WithKnown vars) TestExpr (λ e. e.0) y)) ≡ false
    → KnownIn vars (level_expr (map-TestExpr TestExpr Expr expr_of (map-TestExpr (WithKnown vars) TestExpr (λ e. e.0) y)))
level_known vars (E.Num n) h = tt
level_known vars (E.Var x) h = among_known x vars (not_false (is_among x vars) h)
level_known vars (E.Neg e) h = e.1 h
level_known vars (E.Two op a b) h = let p = or_parts (uses_unknown vars a.0) (uses_unknown vars b.0) h in (a.1 p.0, b.1 p.1)

pub expr_known : (vars : List Name) (e : TestExpr) → uses_unknown vars e ≡ false → KnownIn vars (expr_of e)
expr_known vars = ind-TestExpr (KnownThere vars) (λ x y is. subst (λ z. KnownThere vars (roll-TestExpr z)) is (λ h.
    subst (λ z. KnownIn vars z) (sym (fold-roll-TestExpr Expr level_expr (map-TestExpr (WithKnown vars) TestExpr (λ e. e.0) y)))
    (level_known vars y (sym (fold-roll-TestExpr Bool (unknown_level vars) (map-TestExpr (WithKnown vars) TestExpr (λ e. e.0) y)) ∙ h))))
