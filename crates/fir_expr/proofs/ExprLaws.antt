-- The laws that rows use: of types, references and expressions, for all limits.
use Rattle.std.proofs.Common.{◌≡◌, ℕ, ◌<◌, ◌≤◌, Bool, true, false, List, arith}
use Rattle.text_grammar.specs.declared.item.Item.{Item}
use Rattle.text_grammar.specs.declared.fault.Kind.{Kind}
use Rattle.text_grammar.specs.Part.{starts}
use Rattle.text_grammar.specs.Terminals.{is_name, name}
use Rattle.text_grammar.proofs.Laws.{Step, IsRead, Begins, Avoids, Lives, All, Narrow, closed, after_step, after_read_closed, after_begins}
use Rattle.text_grammar.proofs.Items.{name_step, name_read}
use Rattle.text_grammar.proofs.Completions.{Fronted}
use Rattle.fir_ast.specs.Limits.{Limits}
use Rattle.fir_ast.specs.TypeGrammar.{ty, ty_inside}
use Rattle.fir_ast.specs.ExprGrammar.{is_suffix, expr_in, reference_in, expr_inside, reference_from, reference, expr_from, expr}
use Rattle.fir_expr.proofs.Apart.{name_begins}
use Rattle.fir_expr.proofs.Growth.{after_lives}
pub use Rattle.fir_expr.proofs.TypeLaws.{ty_more, begins_type}
use Rattle.fir_expr.proofs.TypeLaws.{ty_in_same, ty_in_wider, ty_inside_same, ty_inside_wider, ty_in_read, ty_inside_read, ty_in_begins, ty_in_lives}
pub use Rattle.fir_expr.proofs.ExprParts.{reference_more, expr_more}
use Rattle.fir_expr.proofs.ExprParts.{reference_in_same, expr_in_same, reference_in_wider, expr_in_wider, expr_inside_same, expr_inside_wider, reference_in_read, reference_in_avoids, expr_in_read, expr_in_avoids, expr_inside_read, expr_inside_begins, reference_in_lives, expr_in_lives, name_lives}
use Rattle.fir_expr.proofs.Fronts.{ty_fronted, reference_in_fronted, expr_in_fronted, expr_inside_fronted, expr_inside_lives, named_fronted}

-- ---- what is read is spelled so, under the same limits and under wider ones

pub record ExprSteps (E : Kind → Type 0) (L : Type 0) (l m : Limits) : Type 0 where
  pub ty : Step E L (ty l) (ty m)
  pub expr : Step E L (expr l) (expr m)
  pub expr_from : (w : List ℕ) → Step E L (expr_from l w) (expr_from m w)
  pub reference : Step E L (reference l) (reference m)
  pub reference_from : (w : List ℕ) → Step E L (reference_from l w) (reference_from m w)

pub same_steps : (l : Limits) → ExprSteps All ⊥ l l
unfolding ty expr expr_from reference reference_from
same_steps l =
    let from = expr_in_same l.suffixes l.brackets (expr_inside l.suffixes l.brackets) (expr_inside_same l.suffixes l.brackets) in
    let named = reference_in_same l.suffixes l.brackets (expr_inside l.suffixes l.brackets) (expr_inside_same l.suffixes l.brackets) in
    record {
      ty = ty_in_same l.suffixes l.brackets (ty_inside l.suffixes l.brackets) (ty_inside_same l.suffixes l.brackets);
      expr_from = from;
      expr = after_step name name _ _ name_step from;
      reference_from = named;
      reference = after_step name name _ _ name_step named;
    }

pub wider_steps : (l m : Limits) → l.brackets < m.brackets → l.suffixes < m.suffixes → ExprSteps Narrow (Unit {0}) l m
unfolding ty expr expr_from reference reference_from
wider_steps l m deep long =
    let inner = expr_inside_wider l.suffixes m.suffixes l.brackets m.brackets long deep in
    let from = expr_in_wider l.suffixes m.suffixes l.brackets m.brackets (expr_inside l.suffixes l.brackets) (expr_inside m.suffixes m.brackets) long deep inner in
    let named = reference_in_wider l.suffixes m.suffixes l.brackets m.brackets (expr_inside l.suffixes l.brackets) (expr_inside m.suffixes m.brackets) long deep inner in
    record {
      ty = ty_in_wider l.suffixes m.suffixes l.brackets m.brackets (ty_inside l.suffixes l.brackets) (ty_inside m.suffixes m.brackets) long deep (ty_inside_wider l.suffixes m.suffixes l.brackets m.brackets long deep);
      expr_from = from;
      expr = after_step name name _ _ name_step from;
      reference_from = named;
      reference = after_step name name _ _ name_step named;
    }

-- ---- what is spelled so is read: what may go on with each part, and with what it begins

pub ty_read : (l : Limits) → IsRead (ty l) ty_more
unfolding ty
ty_read l = ty_in_read (ty_inside l.suffixes l.brackets) (ty_inside_read l.suffixes l.brackets) l.brackets l.suffixes

pub reference_from_read : (l : Limits) (w : List ℕ) → IsRead (reference_from l w) reference_more
unfolding reference_from
reference_from_read l w = reference_in_read (expr_inside l.suffixes l.brackets) (expr_inside_read l.suffixes l.brackets) (expr_inside_begins l.suffixes l.brackets) l.brackets l.suffixes w

pub reference_read : (l : Limits) → IsRead (reference l) reference_more
unfolding reference
reference_read l = after_read_closed name (λ w. reference_from l w) reference_more (name_read closed) (reference_from_read l)

pub expr_from_read : (l : Limits) (w : List ℕ) → IsRead (expr_from l w) expr_more
unfolding expr_from
expr_from_read l w = expr_in_read (expr_inside l.suffixes l.brackets) (expr_inside_read l.suffixes l.brackets) (expr_inside_begins l.suffixes l.brackets) l.brackets l.suffixes w

pub expr_read : (l : Limits) → IsRead (expr l) expr_more
unfolding expr
expr_read l = after_read_closed name (λ w. expr_from l w) expr_more (name_read closed) (expr_from_read l)

pub ty_begins : (l : Limits) → Begins (ty l) begins_type
unfolding ty
ty_begins l = ty_in_begins (ty_inside l.suffixes l.brackets) (ty_inside_read l.suffixes l.brackets) l.brackets l.suffixes

pub reference_begins : (l : Limits) → Begins (reference l) is_name
unfolding reference
reference_begins l = after_begins name (λ w. reference_from l w) is_name name_begins

pub expr_begins : (l : Limits) → Begins (expr l) is_name
unfolding expr
expr_begins l = after_begins name (λ w. expr_from l w) is_name name_begins

-- neither what goes on with the first word nor what follows it is in c
pub reference_from_avoids : (l : Limits) (w : List ℕ) (c m : Item → Bool) → ((x : Item) → is_suffix x ≡ true → c x ≡ false) → ((r : List Item) → starts m r ≡ false → starts c r ≡ false) → Avoids (reference_from l w) c m
unfolding reference_from
reference_from_avoids l w c m apart rest = reference_in_avoids (expr_inside l.suffixes l.brackets) (expr_inside_read l.suffixes l.brackets) (expr_inside_begins l.suffixes l.brackets) l.brackets l.suffixes w c m apart rest

pub expr_from_avoids : (l : Limits) (w : List ℕ) (c m : Item → Bool) → ((x : Item) → expr_more x ≡ true → c x ≡ false) → ((r : List Item) → starts m r ≡ false → starts c r ≡ false) → Avoids (expr_from l w) c m
unfolding expr_from
expr_from_avoids l w c m apart rest = expr_in_avoids (expr_inside l.suffixes l.brackets) (expr_inside_read l.suffixes l.brackets) (expr_inside_begins l.suffixes l.brackets) l.brackets l.suffixes w c m apart rest

-- ---- something spells each of them

pub record ExprLives (l : Limits) : Type 0 where
  pub ty : Lives (ty l)
  pub expr : Lives (expr l)
  pub expr_from : (w : List ℕ) → Lives (expr_from l w)
  pub reference : Lives (reference l)
  pub reference_from : (w : List ℕ) → Lives (reference_from l w)

pub lives : (l : Limits) → ExprLives l
unfolding ty expr expr_from reference reference_from
lives l =
    let from = expr_in_lives l.suffixes l.brackets (expr_inside l.suffixes l.brackets) in
    let named = reference_in_lives l.suffixes l.brackets (expr_inside l.suffixes l.brackets) in
    record {
      ty = ty_in_lives l.suffixes l.brackets (ty_inside l.suffixes l.brackets);
      expr_from = from;
      expr = after_lives name (λ w. expr_in l.suffixes l.brackets (expr_inside l.suffixes l.brackets) w) name_lives from;
      reference_from = named;
      reference = after_lives name (λ w. reference_in l.suffixes l.brackets (expr_inside l.suffixes l.brackets) w) name_lives named;
    }

-- ---- fronts, under the same limits and under wider ones

pub record ExprFronts (l m : Limits) : Type 0 where
  pub ty : Fronted (ty l) (ty m)
  pub expr : Fronted (expr l) (expr m)
  pub expr_from : (w : List ℕ) → Fronted (expr_from l w) (expr_from m w)
  pub reference : Fronted (reference l) (reference m)
  pub reference_from : (w : List ℕ) → Fronted (reference_from l w) (reference_from m w)

pub fronts : (l m : Limits) → l.brackets ≤ m.brackets → l.suffixes ≤ m.suffixes → ExprFronts l m
unfolding ty expr expr_from reference reference_from
fronts l m deep long =
    let inner = expr_inside_fronted l.suffixes m.suffixes l.brackets m.brackets long deep in
    let live : 0 < l.brackets → Lives (expr_inside m.suffixes m.brackets) = λ p. expr_inside_lives m.suffixes m.brackets (omega (arith, p, deep)) in
    let from = expr_in_fronted l.suffixes m.suffixes l.brackets m.brackets (expr_inside l.suffixes l.brackets) (expr_inside m.suffixes m.brackets) long deep inner live in
    let named = reference_in_fronted l.suffixes m.suffixes l.brackets m.brackets (expr_inside l.suffixes l.brackets) (expr_inside m.suffixes m.brackets) long deep inner live in
    record {
      ty = ty_fronted l.suffixes m.suffixes l.brackets m.brackets long deep;
      expr_from = from;
      expr = named_fronted _ _ from (expr_in_lives m.suffixes m.brackets (expr_inside m.suffixes m.brackets));
      reference_from = named;
      reference = named_fronted _ _ named (reference_in_lives m.suffixes m.brackets (expr_inside m.suffixes m.brackets));
    }
