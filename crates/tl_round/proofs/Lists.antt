-- Ports with lists of values are spelled again as they are printed.
use Rattle.std.proofs.Common.{◌≡◌, ℕ, ◌+◌, ◌<◌, ◌^◌, Bool, true, false, List, [], ◌∷◌, ◌++◌, map, refl, sym, ap, ◌∙◌, append_assoc, append-nil, subst, inl, inr}
use Rattle.std.specs.Prelude.{◌==◌, Option, Some, None, codes}
use Rattle.std.specs.Fmt.{decimal}
use Rattle.tb_base.specs.declared.place.Place.{Place}
use Rattle.tb_base.specs.Joined.{led, joined}
use Rattle.text_grammar.specs.declared.item.Item.{Item}
use Rattle.text_grammar.specs.declared.item.Symbol.TheVariants as s
use Rattle.text_grammar.specs.Part.{Part, first, second, both, after, either, nothing}
use Rattle.text_grammar.specs.Terminals.{is_symbol, is_number, mark, name, number}
use Rattle.tl_ast.specs.Printed as printed
use Rattle.tl_ast.specs.Printed.{expr_text}
use Rattle.tl_ast.specs.Limits.{grow}
use Rattle.tl_ast.specs.declared.tree.TestExpr.{TestExpr}
use Rattle.tl_ast.specs.declared.tree.TestExpr.TheVariants as e
use Rattle.tl_ast.specs.declared.listed.Listed.{Listed}
use Rattle.tl_ast.specs.ExprGrammar.{expr_limits, Counted, is_some, compared, literal, operand, expr_in, expr_behind, parens, uncounted, expr_from_number, other_expr}
use Rattle.tl_ast.specs.TestGrammar.{field, is_suffix, longer, further, furthers, alone_if, from_number, from_other, no_values, numbered_values, other_values, values, bracket, fields, listed_from, with_index, may_be_index, listed_further, listed_behind, listed}
use Rattle.tl_check.specs.Bounds.{operators}
use Rattle.tl_written.proofs.ExprsWritten.{gives_from_number, gives_other_expr}
use Rattle.tl_round.proofs.Chunks.{Before, Line, Says, says_join, after_join, says_cons, says_none, says_on, says_as, says_text, says_nothing, behind_join, join_as, space_chunk, nothing_chunk, line_both, line_after, line_spaced, line_more, line_end}
use Rattle.tl_round.proofs.Tokens.{is_word_text, name_line, number_line, comma_line, open_bracket_line, close_bracket_line}
use Rattle.tl_round.proofs.Keeps.{Keeps, Any, any, Each, keeps_to, keeps_both, keeps_after, keeps_either, keeps_nothing, keeps_many, keeps_grow, keeps_second, keeps_first}
use Rattle.tl_round.proofs.Depth.{keeps_name, keeps_number, keeps_from_number, keeps_other_expr}
use Rattle.tl_round.proofs.ExprSpelling.{grows_more, behind_none}
use Rattle.tl_round.proofs.ExprLines.{line_as, whole_line}
use Rattle.tl_round.proofs.Ports.{Good, good_line, keeps_good, Suffixed, keeps_field, all_of, longer_is, suffixes_stop, suffixes_line}

-- ---- what is read

record Kept (p : List ℕ) (v : Listed) : Type 0 where
  name : v.name ≡ p
  values : Each Good v.values
  alone : (n : ℕ) → v.alone ≡ Some n → n < 2 ^ 128

kept_other : (p : List ℕ) (xs : List TestExpr) → Each Good xs → Kept p (from_other p xs)
kept_other p xs h = record { name = refl; values = h; alone = λ n e. absurd cc }

alone_is : (x : Bool) (n m : ℕ) (more : List TestExpr) → alone_if x n more ≡ Some m → n ≡ m
alone_is true n m [] h = cc
alone_is true n m (x ∷ more) h = absurd cc
alone_is false n m more h = absurd cc

kept_number : (p : List ℕ) (n : ℕ) (v : Counted) (more : List TestExpr) → n < 2 ^ 128 → Good v.0 → Each Good more
    → Kept p (from_number p n v more)
kept_number p n v more small h k = record {
  name = refl;
  values = (h, k);
  alone = λ m e. subst (λ (z : ℕ). z < 2 ^ 128) (alone_is (v.1 == 0) n m more e) small;
}

keeps_furthers : Keeps (Each Good) (furthers expr_limits)
unfolding furthers further
keeps_furthers = keeps_many Good _ (keeps_second Good (mark s.Comma) _ keeps_good) (is_symbol s.Comma)

keeps_good_from_number : (n : ℕ) → n < 2 ^ 128 → Keeps (λ v. Good v.0) (expr_from_number expr_limits n)
keeps_good_from_number n h = record {
  keeps = λ ts x sound sp.
      (record { fine = (keeps_from_number n h).keeps ts x sound sp; few = (gives_from_number n).gives ts x sp });
}

keeps_good_other : Keeps Good (other_expr expr_limits)
keeps_good_other = record {
  keeps = λ ts x sound sp.
      (record { fine = keeps_other_expr.keeps ts x sound sp; few = gives_other_expr.gives ts x sp });
}

module _ (p : List ℕ) where
  keeps_no_values : Keeps (Kept p) (no_values p)
  unfolding no_values
  keeps_no_values = keeps_both Any (Kept p) _ (mark s.CloseBracket) (nothing tt) (any _)
      (λ u t. keeps_to Any _ _ (λ v z. kept_other p [] tt) (any (nothing tt)))

  keeps_numbered : (n : ℕ) → n < 2 ^ 128 → Keeps (Kept p) (numbered_values expr_limits p n)
  unfolding numbered_values
  keeps_numbered n h = keeps_first (Kept p) _ (mark s.CloseBracket)
      (keeps_both (λ v. Good v.0) (Kept p) (from_number p n) _ _ (keeps_good_from_number n h)
      (λ v k. keeps_to (Each Good) _ _ (λ more r. kept_number p n v more h k r) keeps_furthers))

  keeps_other : Keeps (Kept p) (other_values expr_limits p)
  unfolding other_values
  keeps_other = keeps_first (Kept p) _ (mark s.CloseBracket)
      (keeps_both Good (Kept p) (λ x more. from_other p (x ∷ more)) _ _ keeps_good_other
      (λ x k. keeps_to (Each Good) _ _ (λ more r. kept_other p (x ∷ more) (k, r)) keeps_furthers))

  keeps_values : Keeps (Kept p) (values expr_limits p)
  unfolding values
  keeps_values = keeps_either (Kept p) (is_symbol s.CloseBracket) _ _ keeps_no_values
      (keeps_either (Kept p) is_number _ _ (keeps_after (λ n. n < 2 ^ 128) (Kept p) number _ keeps_number
      (λ n h. keeps_numbered n h)) keeps_other)

  keeps_bracket : Keeps (Kept p) (bracket expr_limits p)
  unfolding bracket
  keeps_bracket = keeps_second (Kept p) (mark s.OpenBracket) _ keeps_values

-- ---- what is printed: a port with values, and maybe a number that stood alone

pub record SaysListed (P : Part Listed) (t : List ℕ) (name : List ℕ) (values : List TestExpr) (K : Option ℕ → Type 0) (p : Place)
    (line : ℕ) : Type 0 where
  pub alone : Option ℕ
  pub kept : K alone
  pub says : Says P false t (record { name = name; values = values; alone = alone }) p line

abbrev pub LineListed : Part Listed → List ℕ → List ℕ → List TestExpr → (Option ℕ → Type 0) → Type 0
LineListed P t name values K = (p : Place) → SaysListed P t name values K p p.line

-- the same items spell another part
listed_as : {P : Part Listed} (Q : Part Listed) {t name : List ℕ} {values : List TestExpr} {K : Option ℕ → Type 0}
    → ((alone : Option ℕ) (ts : List Item) → P.spells ts (record { name = name; values = values; alone = alone })
    → Q.spells ts (record { name = name; values = values; alone = alone }))
    → LineListed P t name values K → LineListed Q t name values K
listed_as Q go h p = let r = h p in record { alone = r.alone; kept = r.kept; says = says_as (λ ts sp. go r.alone ts sp) r.says }

listed_second : {A : Type 0} (P : Part A) (Q : Part Listed) {x : Bool} {t u name : List ℕ} {a : A} {values : List TestExpr}
    {K : Option ℕ → Type 0} → Line P x t a → LineListed Q u name values K
    → ((rest : List ℕ) → Before x (u ++ rest)) → LineListed (both second P Q) (t ++ u) name values K
listed_second P Q h k seam p =
    let one = h p in
    let r = k one.chunk.end in
    record { alone = r.alone; kept = r.kept; says = says_join second one (says_on r.says one.chunk.on) (λ rest e. seam rest) }

listed_after : {A : Type 0} (P : Part A) (Q : A → Part Listed) {x : Bool} {t u name : List ℕ} {a : A} {values : List TestExpr}
    {K : Option ℕ → Type 0} → Line P x t a → LineListed (Q a) u name values K
    → ((rest : List ℕ) → Before x (u ++ rest)) → LineListed (after P Q) (t ++ u) name values K
listed_after P Q h k seam p =
    let one = h p in
    let r = k one.chunk.end in
    record { alone = r.alone; kept = r.kept; says = after_join Q one (says_on r.says one.chunk.on) (λ rest e. seam rest) }

listed_spaced : {P : Part Listed} {t name : List ℕ} {values : List TestExpr} {K : Option ℕ → Type 0} → LineListed P t name values K
    → LineListed P (32 ∷ t) name values K
listed_spaced h p =
    let c = space_chunk p in
    let r = h c.end in
    record { alone = r.alone; kept = r.kept; says = behind_join c (says_on r.says c.on) }

listed_text : {P : Part Listed} {t u name : List ℕ} {values : List TestExpr} {K : Option ℕ → Type 0} → t ≡ u → LineListed P t name values K
    → LineListed P u name values K
listed_text e h p = let r = h p in record { alone = r.alone; kept = r.kept; says = says_text e r.says }

line_listed : {P : Part Listed} {t name : List ℕ} {values : List TestExpr} (K : Option ℕ → Type 0) (alone : Option ℕ) → K alone
    → Line P false t (record { name = name; values = values; alone = alone }) → LineListed P t name values K
line_listed K alone k h p = record { alone = alone; kept = k; says = h p }

-- whatever stood alone
abbrev pub Free : Option ℕ → Type 0
Free alone = Unit {0}

-- ---- lists of expressions

led_before : (xs : List TestExpr) (rest : List ℕ) → Before true rest → Before true (led (codes " , ") (map expr_text xs) ++ rest)
led_before [] rest k = k
led_before (x ∷ xs) rest k = refl

further_line : (x : TestExpr) → Good x → Line (further expr_limits) true (codes " , " ++ expr_text x) x
unfolding further
further_line x h = line_spaced (line_both second comma_line (line_spaced (good_line x h)) (λ rest k. tt))

furthers_line : (xs : List TestExpr) → Each Good xs → Line (furthers expr_limits) true (led (codes " , ") (map expr_text xs)) xs
unfolding furthers
furthers_line [] h = line_more (λ q. says_none (further expr_limits) (is_symbol s.Comma) q)
furthers_line (x ∷ xs) h = λ q. says_cons (is_symbol s.Comma) (further_line x h.0 q) (λ r e. says_on (furthers_line xs h.1 r) e)
    (λ rest k. led_before xs rest k)

abbrev inner : ℕ → Part Counted
inner = parens (Some 64) 32

abbrev joint : Part (Counted × List TestExpr)
joint = both (λ v more. (v, more)) (expr_in (Some 64) inner 0) (furthers expr_limits)

joint_line : (x : TestExpr) (xs : List TestExpr) → Good x → Each Good xs
    → Line (both first joint (mark s.CloseBracket)) false (joined (codes " , ") (map expr_text (x ∷ xs)) ++ codes " ]")
    ((x, 0 + operators x), xs)
joint_line x xs h k =
    line_both first (line_both (λ v more. (v, more)) (whole_line x h.fine h.few) (furthers_line xs k) (λ rest z. led_before xs rest z))
    (line_spaced close_bracket_line) (λ rest z. refl)

-- how a list is spelled shows in its first item
record ValuesSpelled (p : List ℕ) (ts : List Item) (v : Counted) (xs : List TestExpr) : Type 0 where
  alone : Option ℕ
  spelled : (values expr_limits p).spells ts (record { name = p; values = v.0 ∷ xs; alone = alone })

values_spelled : (p : List ℕ) (ts : List Item) (v : Counted) (xs : List TestExpr) → (both first joint (mark s.CloseBracket)).spells ts
    (v, xs) → ValuesSpelled p ts v xs
unfolding values either both after numbered_values other_values expr_in operand literal expr_from_number other_expr uncounted nothing
values_spelled p ts v xs sp =
    let list = sp.5 in
    let whole = list.5 in
    let same : (list.2, list.3) ≡ (v, xs) = sym (sp.7 ∙ list.7) in
    subst (λ (z : Counted × List TestExpr). ValuesSpelled p ts z.0 z.1) same (elim whole.4 [
      | inl number ↦ (
          let start : whole.0 ≡ number.0 = number.4 ∙ ap (λ (z : List Item). number.0 ++ z) number.6.0 ∙ append-nil number.0 in
          let front : list.0 ≡ number.0 ++ whole.1 = whole.3 ∙ ap (λ (z : List Item). z ++ whole.1) start in
          let all : ts ≡ number.0 ++ ((whole.1 ++ list.1) ++ sp.1) =
          sp.4 ∙ ap (λ (z : List Item). z ++ sp.1) (list.4 ∙ ap (λ (z : List Item). z ++ list.1) front
          ∙ append_assoc number.0 whole.1 list.1) ∙ append_assoc number.0 (whole.1 ++ list.1) sp.1 in
          let behind = subst (λ (z : Counted). (expr_behind (Some 64) inner z).spells whole.1 list.2) number.7 whole.5 in
          record {
            alone = alone_if (list.2.1 == 0) number.2 list.3;
            spelled = inr (inl (
              number.0,
              (whole.1 ++ list.1) ++ sp.1,
              number.2,
              all,
              number.5,
              (
                whole.1 ++ list.1,
                sp.1,
                from_number p number.2 list.2 list.3,
                tt,
                refl,
                (whole.1, list.1, list.2, list.3, refl, behind, list.6, refl),
                sp.6,
                refl,
              ),
            ));
          })
      | inr other ↦ record {
        alone = None;
        spelled = inr (inr (
          sp.0,
          sp.1,
          from_other p (list.2.0 ∷ list.3),
          tt,
          sp.4,
          (
            list.0,
            list.1,
            list.2.0,
            list.3,
            list.4,
            (
              list.0,
              [],
              list.2,
              tt,
              sym (append-nil list.0),
              (whole.0, whole.1, whole.2, whole.3, other, whole.5),
              (refl, refl),
              refl,
            ),
            list.6,
            refl,
          ),
          sp.6,
          refl,
        ));
      }
    ])

-- ---- brackets

values_line : (p : List ℕ) (x : TestExpr) (xs : List TestExpr) → Good x → Each Good xs → LineListed (values expr_limits p)
    (joined (codes " , ") (map expr_text (x ∷ xs)) ++ codes " ]") p (x ∷ xs) Free
values_line p x xs h k q =
    let r = joint_line x xs h k q in
    let found = values_spelled p r.items (x, 0 + operators x) xs r.spelled in
    record { alone = found.alone; kept = tt; says = record { items = r.items; chunk = r.chunk; spelled = found.spelled } }

none_line : (p : List ℕ) → Line (values expr_limits p) false (codes "]") (from_other p [])
unfolding values either no_values
none_line p = line_as (values expr_limits p) (from_other p []) (λ ts sp. inl sp)
    (line_end {b = tt {0}} (λ (u v : Unit {0}). from_other p []) close_bracket_line)

bracket_line : (p : List ℕ) (xs : List TestExpr) → Each Good xs → LineListed (bracket expr_limits p)
    (printed.listed (map expr_text xs)) p xs Free
unfolding bracket
bracket_line p [] h = listed_second (mark s.OpenBracket) (values expr_limits p) open_bracket_line
    (listed_spaced (line_listed Free None tt (none_line p))) (λ rest. tt)
bracket_line p (x ∷ xs) h = listed_second (mark s.OpenBracket) (values expr_limits p) open_bracket_line
    (listed_spaced (values_line p x xs h.0 h.1)) (λ rest. tt)

no_behind : (n : ℕ) → Line (expr_from_number expr_limits n) false [] (e.Num n, 0)
unfolding expr_from_number expr_behind compared after either nothing
no_behind n p = record {
  items = [];
  chunk = nothing_chunk p;
  spelled = (
    [],
    [],
    (e.Num n, 0),
    refl,
    behind_none (Some 64) inner 6
        (e.Num n, 0),
    inr (refl, refl),
  );
}

numbered_line : (p : List ℕ) (n : ℕ) → Line (numbered_values expr_limits p n) false (codes "]") (from_number p n (e.Num n, 0) [])
unfolding numbered_values furthers
numbered_line p n = line_both first (line_both (from_number p n) (no_behind n) (λ q. says_none (further expr_limits) (is_symbol s.Comma) q)
    (λ rest k. tt)) close_bracket_line (λ rest k. tt)

index_values : (p : List ℕ) (n : ℕ) → n < 2 ^ 128 → Line (values expr_limits p) false (decimal n ++ codes "]")
    (from_number p n (e.Num n, 0) [])
unfolding values either
index_values p n h = line_as (values expr_limits p) (from_number p n (e.Num n, 0) []) (λ ts sp. inr (inl sp))
    (line_after (numbered_values expr_limits p) (number_line n h) (numbered_line p n) (λ rest k. refl))

index_line : (p : List ℕ) (n : ℕ) → n < 2 ^ 128 → LineListed (bracket expr_limits p) (codes "[" ++ (decimal n ++ codes "]")) p
    (e.Num n ∷ []) (λ a. a ≡ Some n)
unfolding bracket
index_line p n h = listed_second (mark s.OpenBracket) (values expr_limits p) open_bracket_line
    (line_listed (λ a. a ≡ Some n) (Some n) refl (index_values p n h)) (λ rest. tt)

-- ---- what stands in front of the fields and the bracket

-- a number that stood alone, where it is asked
abbrev pub Stood : Option ℕ → Option ℕ → Type 0
Stood None alone = Unit {0}
Stood (Some n) alone = alone ≡ Some n

pub record Lead (p : List ℕ) : Type 0 where
  pub go : (u name : List ℕ) (values : List TestExpr) (asked : Option ℕ) → ((rest : List ℕ) → Before true (u ++ rest))
      → LineListed (listed_from expr_limits p) u name values (Stood asked) → LineListed (listed expr_limits) (p ++ u) name values
      (Stood asked)

lead_name : (w : List ℕ) → is_word_text w ≡ true → Lead w
unfolding listed listed_behind after grow
lead_name w h = record {
  go = λ u name values asked stop line. listed_as (listed expr_limits)
      (λ alone ts sp. (ts, [], _, sym (append-nil ts), sp, ([], (refl, refl))))
      (listed_after Rattle.text_grammar.specs.Terminals.name (listed_from expr_limits) (name_line w h) line stop);
}

grown_spelled : (v w : Listed) (ts us : List Item) → may_be_index v ≡ true → (listed expr_limits).spells ts v
    → (listed_further expr_limits v).spells us w → (listed expr_limits).spells (ts ++ us) w
unfolding listed listed_behind after grow
grown_spelled v w ts us may sp further =
    let all : ts ++ us ≡ sp.0 ++ (sp.1 ++ us) = ap (λ (z : List Item). z ++ us) sp.3 ∙ append_assoc sp.0 sp.1 us in
    (sp.0, sp.1 ++ us, sp.2, all, sp.4, (sp.5.0 ++ w ∷ [], grows_more may_be_index _ sp.5.0 sp.2 v w sp.1 us sp.5.1 may further))

lead_index : (p : List ℕ) (n : ℕ) (xs : List TestExpr) → LineListed (listed expr_limits) (with_index (Some n) p) p xs (λ a. a ≡ Some n)
    → Lead (with_index (Some n) p)
unfolding listed_further
lead_index p n xs h = record {
  go = λ u name values asked stop line q.
      let one = h q in
      let two = line one.says.chunk.end in
      let v : Listed = record { name = p; values = xs; alone = one.alone } in
      let may : may_be_index v ≡ true = ap (λ a. may_be_index (record { name = p; values = xs; alone = a })) one.kept in
      record {
        alone = two.alone;
        kept = two.kept;
        says = join_as (listed expr_limits) (record { name = name; values = values; alone = two.alone }) one.says
            (says_on two.says one.says.chunk.on) (λ rest k. tt)
            (λ ts us sp further. grown_spelled v _ ts us may sp
            (subst (λ a. (listed_from expr_limits (with_index a p)).spells us
            (record { name = name; values = values; alone = two.alone })) (sym one.kept) further));
      };
}

-- ---- all

pub record Grown (v : Listed) : Type 0 where
  pub final : LineListed (listed expr_limits) (v.name ++ (32 ∷ printed.listed (map expr_text v.values))) v.name v.values Free
  pub lead : may_be_index v ≡ true → Lead (with_index v.alone v.name)

fields_line : (p : List ℕ) (added : List (List ℕ)) → Each (Suffixed field) added → Line (fields p) true (all_of added) (longer p added)
unfolding fields
fields_line p added h = line_both longer (λ q. says_nothing p q) (suffixes_line field (is_symbol s.Dot) added h) (λ rest k. tt)

fields_stop : (added : List (List ℕ)) (z : List ℕ) → Each (Suffixed field) added → ((rest : List ℕ) → Before true (z ++ rest))
    → (rest : List ℕ) → Before true ((all_of added ++ z) ++ rest)
fields_stop added z h stop rest =
    subst (λ (y : List ℕ). Before true y) (sym (append_assoc (all_of added) z rest))
    (suffixes_stop field (is_symbol s.Dot) added h (z ++ rest) (stop rest))

module _ (p : List ℕ) (lead : Lead p) (added : List (List ℕ)) (h : Each (Suffixed field) added) where
  -- the fields, and a bracket behind them
  behind_fields : (z : List ℕ) (values : List TestExpr) (asked : Option ℕ) → ((rest : List ℕ) → Before true (z ++ rest))
      → LineListed (bracket expr_limits (longer p added)) z (longer p added) values (Stood asked)
      → LineListed (listed expr_limits) (longer p added ++ z) (longer p added) values (Stood asked)
  unfolding listed_from
  behind_fields z values asked stop line =
      let text : p ++ (all_of added ++ z) ≡ longer p added ++ z = sym (append_assoc p (all_of added) z) ∙ ap (λ (y : List ℕ). y ++ z)
      (sym (longer_is p added)) in
      listed_text text (lead.go (all_of added ++ z) (longer p added) values asked (fields_stop added z h stop)
      (listed_after (fields p) (bracket expr_limits) (fields_line p added h) line (λ rest. stop rest)))

  index_lead : (alone : Option ℕ) → ((n : ℕ) → alone ≡ Some n → n < 2 ^ 128) → is_some alone ≡ true
      → Lead (with_index alone (longer p added))
  index_lead None bound may = absurd cc
  index_lead (Some n) bound may =
      lead_index (longer p added) n (e.Num n ∷ []) (behind_fields (codes "[" ++ (decimal n ++ codes "]")) (e.Num n ∷ []) (Some n)
      (λ rest. refl) (index_line (longer p added) n (bound n refl)))

  grown : (v : Listed) → Kept (longer p added) v → Grown v
  grown v k = subst (λ (z : List ℕ). Grown (record { name = z; values = v.values; alone = v.alone })) (sym k.name) (record {
    final = behind_fields (32 ∷ printed.listed (map expr_text v.values)) v.values None (λ rest. refl)
        (listed_spaced (bracket_line (longer p added) v.values k.values));
    lead = λ may. index_lead v.alone k.alone may;
  })

record Fields (p : List ℕ) (q : List ℕ) : Type 0 where
  added : List (List ℕ)
  each : Each (Suffixed field) added
  is : q ≡ longer p added

keeps_fields : (p : List ℕ) → Keeps (Fields p) (fields p)
unfolding fields
keeps_fields p = keeps_both (λ z. z ≡ p) (Fields p) longer (nothing p) _ (keeps_nothing _ p refl)
    (λ z e. keeps_to (Each (Suffixed field)) _ _ (λ all k. record { added = all; each = k; is = ap (λ y. longer y all) e })
    (keeps_many (Suffixed field) field keeps_field (is_symbol s.Dot)))

keeps_listed_from : (p : List ℕ) → Lead p → Keeps Grown (listed_from expr_limits p)
unfolding listed_from
keeps_listed_from p lead = keeps_after (Fields p) Grown (fields p) (bracket expr_limits) (keeps_fields p)
    (λ q f. keeps_to (Kept q) Grown _ (λ v k. grown p lead f.added f.each v (subst (λ z. Kept z v) f.is k)) (keeps_bracket q))

pub keeps_listed : Keeps Grown (listed expr_limits)
unfolding listed listed_behind listed_further
keeps_listed = keeps_after Grown Grown _ _
    (keeps_after (λ w. is_word_text w ≡ true) Grown name _ keeps_name (λ w h. keeps_listed_from w (lead_name w h)))
    (λ v g. keeps_grow Grown may_be_index (listed_further expr_limits) (λ a may k. keeps_listed_from (with_index a.alone a.name)
    (k.lead may)) is_suffix v g)
