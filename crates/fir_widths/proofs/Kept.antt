-- Setting the widths changes nothing else: a formed circuit stays formed.
use Rattle.std.proofs.Common.{◌≡◌, ◌∙◌, sym, ap, subst, ℕ, zero, suc, ◌<◌, ◌≤◌, min, Bool, true, not, ◌&&◌, ◌||◌, ◌==◌, nat_lt, List, [], ◌∷◌, ◌++◌, map, drop, length, get_or, refl, arith, cond, Option, Some, is_some}
use Rattle.std.specs.Prelude.{slice_index}
use Rattle.std.specs.List.{All, list_all}
use Rattle.std.proofs.Math.Path.{fun_ext}
use Rattle.std.proofs.lemmas.Bool.{le-leb}
use Rattle.std.proofs.lemmas.List.Elements.{All-nil, All-cons}
use Rattle.net_core.specs.declared.tree.Elab.{Elab}
use Rattle.net_core.specs.declared.tree.SignalInfo.{SignalInfo}
use Rattle.net_core.specs.declared.tree.Role.{Role}
use Rattle.net_core.specs.declared.tree.GroundExpr.{GroundExpr}
use Rattle.net_core.specs.declared.tree.GroundExpr.TheFolds.{fold-GroundExpr, map-GroundExpr}
use Rattle.net_core.specs.declared.tree.GroundExpr.TheOpen as E
use Rattle.net_core.specs.Signals.{info, is_input, is_port, is_node, is_register, given_width}
use Rattle.net_core.specs.Shapes.{Shape, level_shape, shape}
use Rattle.net_core.specs.Values.{any}
use Rattle.net_core.specs.Body.{Body, done, declare, set, when, body_of}
use Rattle.net_core.specs.Widths.{sources}
use Rattle.net_core.specs.WidthRules.{Judged, Use, parts, is_out, level_judged, judged, wide_signals, use_lines, uses, least_line, first_rule, width_rule, WidthRule}
use Rattle.net_core.specs.Formed.{Made, is_right, level_made, made, declares, set_signals, begins_with_set, nodes_follow, width_fits, Formed, with_width, set_widths, with_widths}
use Rattle.fir_widths.proofs.Setting.{behind}

-- ---- signals
pub length-set_widths : (is : List SignalInfo) (v : List ℕ) → length (set_widths is v) ≡ length is
length-set_widths [] v = refl
length-set_widths (i ∷ is) v = ap suc (length-set_widths is (drop 1 v))

pub role_set : (is : List SignalInfo) (v : List ℕ) (x : ℕ) → (info (set_widths is v) x).role ≡ (info is x).role
role_set [] v x = refl
role_set (i ∷ is) v zero = refl
role_set (i ∷ is) v (suc x) = role_set is (drop 1 v) x

pub signed_set : (is : List SignalInfo) (v : List ℕ) (x : ℕ) → (info (set_widths is v) x).signed ≡ (info is x).signed
signed_set [] v x = refl
signed_set (i ∷ is) v zero = refl
signed_set (i ∷ is) v (suc x) = signed_set is (drop 1 v) x

name_set : (is : List SignalInfo) (v : List ℕ) (x : ℕ) → (info (set_widths is v) x).name ≡ (info is x).name
name_set [] v x = refl
name_set (i ∷ is) v zero = refl
name_set (i ∷ is) v (suc x) = name_set is (drop 1 v) x

line_set : (is : List SignalInfo) (v : List ℕ) (x : ℕ) → (info (set_widths is v) x).line ≡ (info is x).line
line_set [] v x = refl
line_set (i ∷ is) v zero = refl
line_set (i ∷ is) v (suc x) = line_set is (drop 1 v) x

width_set : (is : List SignalInfo) (v : List ℕ) (x : ℕ) → x < length is → (info (set_widths is v) x).width ≡ Some (slice_index v x)
width_set [] v x h = absurd (omega (arith, h))
width_set (i ∷ is) v zero h = refl
width_set (i ∷ is) v (suc x) h = width_set is (drop 1 v) x (less h) ∙ ap (λ (n : ℕ). Some n) (behind v x)
  where
    less : suc x < suc (length is) → x < length is
    less p = omega (arith, p)

pub given_set : (is : List SignalInfo) (v : List ℕ) → length v ≡ length is → map given_width (set_widths is v) ≡ v
given_set [] [] h = refl
given_set [] (n ∷ v) h = absurd (omega (arith, h))
given_set (i ∷ is) [] h = absurd (omega (arith, h))
given_set (i ∷ is) (n ∷ v) h = ap (λ (ns : List ℕ). n ∷ ns) (given_set is v (less h))
  where
    less : suc (length v) ≡ suc (length is) → length v ≡ length is
    less p = omega (arith, p)

-- each has a width
pub all_given : (is : List SignalInfo) (v : List ℕ) → All (λ i. is_some i.width ≡ true) (set_widths is v)
all_given [] v = All-nil (λ i. is_some i.width ≡ true)
all_given (i ∷ is) v =
    All-cons (λ i. is_some i.width ≡ true) (with_width i (slice_index v 0)) (set_widths is (drop 1 v)) refl (all_given is (drop 1 v))

narrow_set : (is : List SignalInfo) (v : List ℕ) → ((x : ℕ) → x < length is → slice_index v x ≤ 128) → All (λ i. width_fits i.width ≡ true) (set_widths is v)
narrow_set [] v h = All-nil (λ i. width_fits i.width ≡ true)
narrow_set (i ∷ is) v h =
    All-cons (λ i. width_fits i.width ≡ true) (with_width i (slice_index v 0)) (set_widths is (drop 1 v)) (le-leb (slice_index v 0) 128 (h 0 first))
    (narrow_set is (drop 1 v) (λ x l. subst (λ n. n ≤ 128) (sym (behind v x)) (h (suc x) (more x l))))
  where
    first : 0 < suc (length is)
    first = omega arith

    more : (x : ℕ) → x < length is → suc x < suc (length is)
    more x l = omega (arith, l)

-- ---- expressions
level_shape_set : (is : List SignalInfo) (v w : List ℕ) (x : E.GroundExpr-F Shape) → level_shape (set_widths is v) w x ≡ level_shape is w x
level_shape_set is v w (E.Read s) =
    let f : Bool → Shape = λ b. record { signed = b; width = min 129 (slice_index w s.0) } in ap f (signed_set is v s.0)
level_shape_set is v w (E.Lit sign width negative n) = refl
level_shape_set is v w (E.Apply op args nums) = refl
level_shape_set is v w (E.Select index items) = refl
level_shape_set is v w (E.IndexIs index place) = refl

pub shape_set : (is : List SignalInfo) (v w : List ℕ) → shape (set_widths is v) w ≡ shape is w
shape_set is v w = ap (λ (f : E.GroundExpr-F Shape → Shape). fold-GroundExpr Shape f) (fun_ext (level_shape_set is v w))

level_made_set : (is : List SignalInfo) (v : List ℕ) (x : E.GroundExpr-F Made) → level_made (set_widths is v) x ≡ level_made is x
level_made_set is v x =
    let f : Shape → Made = λ s. record { shape = s; right = is_right (map-GroundExpr Made Shape (λ m. m.shape) x) && list_all (λ m. m.right) (parts x) } in
    ap f (level_shape_set is v [] (map-GroundExpr Made Shape (λ m. m.shape) x))

made_set : (is : List SignalInfo) (v : List ℕ) → made (set_widths is v) ≡ made is
made_set is v = ap (λ (f : E.GroundExpr-F Made → Made). fold-GroundExpr Made f) (fun_ext (level_made_set is v))

level_judged_set : (is : List SignalInfo) (v w : List ℕ) (x : E.GroundExpr-F Judged) → level_judged (set_widths is v) w x ≡ level_judged is w x
level_judged_set is v w x =
    let f : Shape → Judged = λ s. record {
      shape = s;
      wide = (s.width == 129) || any (map (λ j. j.wide) (parts x));
      bad = is_out (map-GroundExpr Judged Shape (λ j. j.shape) x) || any (map (λ j. j.bad) (parts x));
    } in
    ap f (level_shape_set is v w (map-GroundExpr Judged Shape (λ j. j.shape) x))

judged_set : (is : List SignalInfo) (v w : List ℕ) → judged (set_widths is v) w ≡ judged is w
judged_set is v w = ap (λ (f : E.GroundExpr-F Judged → Judged). fold-GroundExpr Judged f) (fun_ext (level_judged_set is v w))

-- ---- the rules on widths
wide_set : (is : List SignalInfo) (v w : List ℕ) → wide_signals (set_widths is v) w ≡ wide_signals is w
wide_set [] v w = refl
wide_set (i ∷ is) v [] = refl
wide_set (i ∷ is) v (n ∷ w) = ap (λ (ls : List ℕ). cond (n == 129) (i.line ∷ ls) ls) (wide_set is (drop 1 v) w)

-- the rule, from the lines of wide signals and from how expressions are judged
abbrev rule_by : List Use → List ℕ → (GroundExpr → Judged) → Option WidthRule
rule_by us lines f = first_rule
    (least_line (lines ++ use_lines (λ u. (f u.expr).wide) us))
    (least_line (use_lines (λ u. (f u.expr).bad || (u.condition && nat_lt 1 (f u.expr).shape.width)) us))

pub rule_set : (e : Elab) (v w : List ℕ) → width_rule (with_widths e v) w ≡ width_rule e w
rule_set e v w =
    ap (λ (ls : List ℕ). rule_by (uses (body_of e.body)) ls (judged (set_widths e.signals v) w)) (wide_set e.signals v w)
    ∙ ap (λ (f : GroundExpr → Judged). rule_by (uses (body_of e.body)) (wide_signals e.signals w) f) (judged_set e.signals v w)

-- ---- statements
follow_set : (is : List SignalInfo) (v : List ℕ) (b : Body) → nodes_follow (set_widths is v) b ≡ nodes_follow is b
follow_set is v done = refl
follow_set is v (declare x line reset rest) =
    ap (λ (r : Role). (not (is_node r) || begins_with_set x rest) && nodes_follow (set_widths is v) rest) (role_set is v x)
    ∙ ap (λ t. (not (is_node (info is x).role) || begins_with_set x rest) && t) (follow_set is v rest)
follow_set is v (set line x e rest) = follow_set is v rest
follow_set is v (when line c taken other rest) =
    ap (λ t. t && (nodes_follow (set_widths is v) other && nodes_follow (set_widths is v) rest)) (follow_set is v taken)
    ∙ ap (λ t. nodes_follow is taken && (t && nodes_follow (set_widths is v) rest)) (follow_set is v other)
    ∙ ap (λ t. nodes_follow is taken && (nodes_follow is other && t)) (follow_set is v rest)

pub formed_set : (e : Elab) (v : List ℕ) → ((x : ℕ) → x < length e.signals → slice_index v x ≤ 128) → Formed e → Formed (with_widths e v)
formed_set e v low f = record {
  few = subst (λ n. n ≤ 65536) (sym long) f.few;
  read = λ k d l y m. up y (f.read k d l y m);
  set_below = λ k d l. up _ (f.set_below k d l);
  declared_below = λ k d l. up _ (f.declared_below k d l);
  declared_once = λ x h. f.declared_once x (down x h) ∙ ap (λ (n : ℕ). n ∷ []) (sym (line_set e.signals v x));
  ports_first = λ x y h l p. port x ∙ f.ports_first x y h (down y l) (sym (port y) ∙ p);
  few_ports = λ x h p. f.few_ports x (down x h) (sym (port x) ∙ p);
  distinct = λ x y h l p q n. f.distinct x y (down x h) (down y l) (sym (port x) ∙ p) (sym (port y) ∙ q)
      (sym (name_set e.signals v x) ∙ n ∙ name_set e.signals v y);
  ports_declared = λ x h p. f.ports_declared x (down x h) (sym (port x) ∙ p);
  inputs_given = λ x h p. ap (λ (o : Option ℕ). is_some o) (width_set e.signals v x (down x h));
  nodes_set = follow_set e.signals v (body_of e.body) ∙ f.nodes_set;
  nodes_once = λ x h p. f.nodes_once x (down x h) (sym (ap is_node (role_set e.signals v x)) ∙ p);
  resets = λ k d l p. ap is_register (role_set e.signals v (get_or (declares (body_of e.body)) k d).signal) ∙ f.resets k d l p;
  inputs_kept = λ k d l. ap is_input (role_set e.signals v (get_or (set_signals (body_of e.body)) k d)) ∙ f.inputs_kept k d l;
  scoped = f.scoped;
  right = λ k d l. ap (λ (g : GroundExpr → Made). (g (get_or (uses (body_of e.body)) k d).expr).right) (made_set e.signals v) ∙ f.right k d l;
  one_sign = λ k d l. ap (λ (g : GroundExpr → Shape). (g (get_or (sources (body_of e.body)) k d).source).signed) (shape_set e.signals v [])
      ∙ f.one_sign k d l ∙ sym (signed_set e.signals v (get_or (sources (body_of e.body)) k d).sink);
  conditions = λ k d l p. ap (λ (g : GroundExpr → Shape). (g (get_or (uses (body_of e.body)) k d).expr).signed) (shape_set e.signals v [])
      ∙ f.conditions k d l p;
  narrow = narrow_set e.signals v low;
  nested = f.nested;
  few_whens = f.few_whens;
}
  where
    long : length (set_widths e.signals v) ≡ length e.signals
    long = length-set_widths e.signals v

    up : (x : ℕ) → x < length e.signals → x < length (set_widths e.signals v)
    up x h = subst (λ n. x < n) (sym long) h

    down : (x : ℕ) → x < length (set_widths e.signals v) → x < length e.signals
    down x h = subst (λ n. x < n) long h

    port : (x : ℕ) → is_port (info (set_widths e.signals v) x).role ≡ is_port (info e.signals x).role
    port x = ap is_port (role_set e.signals v x)
