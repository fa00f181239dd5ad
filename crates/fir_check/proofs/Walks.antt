-- Walks over a body, one part after another.
use Rattle.std.proofs.Common.{ℕ, ◌≡◌, ◌+◌, ◌<◌, ◌≤◌, Option, List, [], ◌++◌, map, length, drop, get_or, refl, sym, ap, subst, ◌∙◌}
use Rattle.std.proofs.lemmas.List.{drop_all}
use Rattle.fir_ast.specs.declared.tree.Stmt.{Stmt, map-Stmt}
use Rattle.fir_ast.specs.declared.tree.Stmt.TheViews.{roll-Stmt}
use Rattle.fir_ast.specs.declared.tree.Stmt.TheFolds.{fold-roll-Stmt}
use Rattle.fir_ast.specs.declared.tree.Stmt.TheOpen.{Stmt-F}
use Rattle.fir_ast.specs.declared.tree.Module.{Module}
use Rattle.fir_check.specs.declared.best.Rule.{Rule}
use Rattle.fir_check.specs.declared.broken.Broken.{Broken}
use Rattle.fir_check.specs.Names.{kept}
use Rattle.fir_check.specs.Scopes.{Known, Walk, StmtRule, after, behind, hide, in_turn, in_block, line_of, stmt_level, stmt_found}
use Rattle.fir_check.specs.declared.best.Rule.TheVariants.{DoubleName, UnknownName, WrongKind, WrongFlow, ClockUse}
use Rattle.fir_check.specs.Places.{place, least, lowered}
use Rattle.fir_check.specs.Walking.{stmt_rule, breaks, broken_lines_of, Walked}
use Rattle.fir_check.proofs.Least.{lowered-both, lowered-same}
use Rattle.fir_check.proofs.Doubles.{next_item}

abbrev pub then_walk : (StmtRule → Walk) → (StmtRule → Walk) → StmtRule → Walk
then_walk u v rule known = after (u rule known) (v rule)

pub walked_after : (modules : List Module) (m : Module) (u v : StmtRule → Walk) (j k l : List Known) (a b c : Option ℕ) → Walked modules m u j a k b → Walked modules m v k b l c → Walked modules m (then_walk u v) j a l c
walked_after modules m u v j k l a b c p q = record {
  names = λ rule. q.names rule ∙ ap (λ x. (v rule x).known) (p.names rule);
  place = lowered-same a c (λ r. (u (stmt_rule modules m r) j).lines ++ (v (stmt_rule modules m r) k).lines) (λ r. (then_walk u v (stmt_rule modules m r) j).lines)
      (lowered-both a b c (λ r. (u (stmt_rule modules m r) j).lines) (λ r. (v (stmt_rule modules m r) k).lines) p.place q.place)
      (λ r. ap (λ x. (u (stmt_rule modules m r) j).lines ++ (v (stmt_rule modules m r) x).lines) (p.names (stmt_rule modules m r)));
}

-- nothing more to walk through
pub walked_nothing : (modules : List Module) (m : Module) (k : List Known) (b : Option ℕ) → Walked modules m (λ rule. in_turn []) k b k b
walked_nothing modules m k b = record { names = λ rule. refl; place = refl }

-- the end of a block hides its names
pub walked_block : (modules : List Module) (m : Module) (body : List Stmt) (j k l : List Known) (a b : Option ℕ) → l ≡ hide (length j) k
    → Walked modules m (λ rule. in_turn (map (stmt_found modules rule) body)) j a k b → Walked modules m (λ rule. in_block (map (stmt_found modules rule) body)) j a l b
walked_block modules m body j k l a b e p = record { names = λ rule. e ∙ ap (hide (length j)) (p.names rule); place = p.place }

-- what is left of a body, from its i-th statement: what walks through the rest walks through the whole
pub record BodyLeft (modules : List Module) (m : Module) (body : List Stmt) (i : ℕ) (k : List Known) (b : Option ℕ) (start : List Known) (best : Option ℕ) : Type 0 where
  pub whole : (l : List Known) (c : Option ℕ) → Walked modules m (λ rule. in_turn (map (stmt_found modules rule) (drop i body))) k b l c → Walked modules m (λ rule. in_turn (map (stmt_found modules rule) body)) start best l c

pub body_start : (modules : List Module) (m : Module) (body : List Stmt) (start : List Known) (best : Option ℕ) → BodyLeft modules m body 0 start best start best
body_start modules m body start best = record { whole = λ l c w. w }

pub body_next : (modules : List Module) (m : Module) (body : List Stmt) (i : ℕ) (s : Stmt) (k l start : List Known) (b c best : Option ℕ) → i < length body → s ≡ get_or body i s
    → Walked modules m (λ rule. stmt_found modules rule s) k b l c → BodyLeft modules m body i k b start best → BodyLeft modules m body (i + 1) l c start best
body_next modules m body i s k l start b c best h e w left = record {
  whole = λ x y rest.
      left.whole x y (subst (λ ys. Walked modules m (λ rule. in_turn (map (stmt_found modules rule) ys)) k b x y) (sym (next_item body i s h e))
      (walked_after modules m (λ rule. stmt_found modules rule s) (λ rule. in_turn (map (stmt_found modules rule) (drop (i + 1) body))) k l x b c y w rest));
}

pub body_end : (modules : List Module) (m : Module) (body : List Stmt) (i : ℕ) (k start : List Known) (b best : Option ℕ) → length body ≤ i → BodyLeft modules m body i k b start best
    → Walked modules m (λ rule. in_turn (map (stmt_found modules rule) body)) start best k b
body_end modules m body i k start b best h left =
    left.whole k b (subst (λ ys. Walked modules m (λ rule. in_turn (map (stmt_found modules rule) ys)) k b k b) (sym (drop_all i body h)) (walked_nothing modules m k b))

-- a statement itself, in front of what stands behind it
pub walked_head : (modules : List Module) (m : Module) (x : Stmt-F Stmt) (told : Broken) (line : ℕ) (k : List Known) (a b : Option ℕ)
    → ((r : Rule) → breaks told r ≡ stmt_rule modules m r k (map-Stmt Stmt Walk (stmt_found modules (stmt_rule modules m r)) x))
    → ((rule : StmtRule) → line ≡ line_of (map-Stmt Stmt Walk (stmt_found modules rule) x))
    → b ≡ lowered a (broken_lines_of told line)
    → Walked modules m (λ rule known. record { known = known; lines = kept (rule known (map-Stmt Stmt Walk (stmt_found modules rule) x)) (line_of (map-Stmt Stmt Walk (stmt_found modules rule) x)) [] }) k a k b
walked_head modules m x told line k a b t l e = record {
  names = λ rule. refl;
  place = lowered-same a b (broken_lines_of told line) (λ r. kept (stmt_rule modules m r k (map-Stmt Stmt Walk (stmt_found modules (stmt_rule modules m r)) x)) (line_of (map-Stmt Stmt Walk (stmt_found modules (stmt_rule modules m r)) x)) []) e
      (λ r. ap (λ y. kept y line []) (t r) ∙ ap (λ y. kept (stmt_rule modules m r k (map-Stmt Stmt Walk (stmt_found modules (stmt_rule modules m r)) x)) y []) (l (stmt_rule modules m r)));
}

pub walked_stmt : (modules : List Module) (m : Module) (x : Stmt-F Stmt) (told : Broken) (line : ℕ) (k l : List Known) (a b c : Option ℕ)
    → ((r : Rule) → breaks told r ≡ stmt_rule modules m r k (map-Stmt Stmt Walk (stmt_found modules (stmt_rule modules m r)) x))
    → ((rule : StmtRule) → line ≡ line_of (map-Stmt Stmt Walk (stmt_found modules rule) x))
    → b ≡ lowered a (broken_lines_of told line)
    → Walked modules m (λ rule. behind modules (map-Stmt Stmt Walk (stmt_found modules rule) x)) k b l c
    → Walked modules m (λ rule. stmt_found modules rule (roll-Stmt x)) k a l c
walked_stmt modules m x told line k l a b c t n e w =
    let whole : Walked modules m (λ rule. stmt_level modules rule (map-Stmt Stmt Walk (stmt_found modules rule) x)) k a l c =
    walked_after modules m (λ rule known. record { known = known; lines = kept (rule known (map-Stmt Stmt Walk (stmt_found modules rule) x)) (line_of (map-Stmt Stmt Walk (stmt_found modules rule) x)) [] }) (λ rule. behind modules (map-Stmt Stmt Walk (stmt_found modules rule) x)) k k l a b c
    (walked_head modules m x told line k a b t n e) w in
    record {
      names = λ rule. whole.names rule ∙ ap (λ f. (f k).known) (sym (fold-roll-Stmt Walk (stmt_level modules rule) x));
      place = lowered-same a c (λ r. (stmt_level modules (stmt_rule modules m r) (map-Stmt Stmt Walk (stmt_found modules (stmt_rule modules m r)) x) k).lines) (λ r. (stmt_found modules (stmt_rule modules m r) (roll-Stmt x) k).lines) whole.place
          (λ r. ap (λ f. (f k).lines) (sym (fold-roll-Stmt Walk (stmt_level modules (stmt_rule modules m r)) x)));
    }

-- five rules, noted from the last on
pub five_noted : (told : Broken) (line : ℕ) (o a b d e f : Option ℕ)
    → a ≡ least o (map (place ClockUse) (kept told.clock line [])) → b ≡ least a (map (place WrongFlow) (kept told.flow line [])) → d ≡ least b (map (place WrongKind) (kept told.wrong line []))
    → e ≡ least d (map (place UnknownName) (kept told.unknown line [])) → f ≡ least e (map (place DoubleName) (kept told.double line [])) → f ≡ lowered o (broken_lines_of told line)
five_noted told line o a b d e f p q r s t =
    t ∙ ap (λ x. least x (map (place DoubleName) (kept told.double line [])))
    (s ∙ ap (λ x. least x (map (place UnknownName) (kept told.unknown line [])))
    (r ∙ ap (λ x. least x (map (place WrongKind) (kept told.wrong line [])))
    (q ∙ ap (λ x. least x (map (place WrongFlow) (kept told.flow line []))) p)))
