use Rattle.std.proofs.Common.{◌≡◌, ◌∙◌, subst, ℕ, zero, suc, ◌+◌, ◌-◌, ◌≤◌, min, max, true, List, [], ◌∷◌, refl, arith}
use Rattle.std.specs.Prelude.{slice_index}
use Rattle.std.specs.List.{All}
use Rattle.std.specs.Int.Count.{count_leading_zeros}
use Rattle.tb_base.specs.declared.op.Op.TheVariants.{Add, Tail}
use Rattle.net_core.specs.declared.tree.Elab.{Elab}
use Rattle.net_core.specs.declared.tree.GroundExpr.{GroundExpr}
use Rattle.net_core.specs.declared.tree.GroundExpr.TheVariants.{Apply}
use Rattle.net_core.specs.WidthRules.{is_wide}
use Rattle.net_core.specs.Formed.{Sized, with_widths}
use Rattle.net_core.specs.Body.{body_of}
use Rattle.net_core.specs.Signals.{info}
use Rattle.net_core.specs.Shapes.{shape}
use Rattle.net_core.specs.Widths.{Asked, sources, is_free, Meets, Below, IsLeast}
use Rattle.net_core.specs.Examples.{r, one_bit, grower}
use Rattle.net_core.specs.LeastExamples.{sum_wire, around, counter}
use Rattle.net_core.proofs.Decided.{formed_by, sized_by, meets_by}
use Rattle.net_core.proofs.Trees.{of_declare, of_set, at_read, at_lit, at_apply}
use Rattle.net_core.proofs.examples.the_least_widths_work_out.Goals as goal

none_less : (n : ℕ) → 0 ≤ n
none_less n = omega arith

-- what the source at a place asks for
abbrev Asks : Elab → List ℕ → Asked → Type 0
Asks e v a = is_free (info e.signals a.sink) ≡ true → (shape e.signals v a.source).width ≤ slice_index v a.sink

no_source : Asked
no_source = record { sink = 0; source = r 0 }

-- the width of a sum of signals, and of a signal and a literal of one bit
abbrev sum_width : ℕ → ℕ → ℕ
sum_width a b = min 129 (max (min 129 a) (min 129 b) + 1)

-- a sum of inputs

sum_sources : (n : ℕ) → sources (body_of (sum_wire n).body) ≡ record { sink = 2; source = Apply Add (r 0 ∷ r 1 ∷ []) [] } ∷ []
sum_sources n = simp (of_declare, of_set) refl

sum_shape : (n : ℕ) (v : List ℕ) → (shape (sum_wire n).signals v (Apply Add (r 0 ∷ r 1 ∷ []) [])).width ≡ sum_width (slice_index v 0) (slice_index v 1)
sum_shape n v = simp (at_read, at_apply) refl

sum_least : (n k : ℕ) → sum_width n n ≡ k → (v : List ℕ) → Meets (sum_wire n) v → Below (n ∷ n ∷ k ∷ []) v
sum_least n k s v m = record { each = each }
  where
    a : slice_index v 0 ≡ n
    a = m.written 0 (omega arith) refl

    b : slice_index v 1 ≡ n
    b = m.written 1 (omega arith) refl

    asked : (shape (sum_wire n).signals v (Apply Add (r 0 ∷ r 1 ∷ []) [])).width ≤ slice_index v 2
    asked = subst (All (Asks (sum_wire n) v)) (sum_sources n) m.wide 0 no_source (omega arith) refl

    wide : k ≤ slice_index v 2
    wide = subst (λ w. w ≤ slice_index v 2) (sum_shape n v ∙ rw (a, b) s) asked

    each : (x : ℕ) → slice_index (n ∷ n ∷ k ∷ []) x ≤ slice_index v x
    each zero = omega (arith, a)
    each (suc zero) = omega (arith, b)
    each (suc (suc zero)) = wide
    each (suc (suc (suc x))) = none_less (slice_index v (suc (suc (suc x))))

sum : IsLeast (sum_wire 8) (8 ∷ 8 ∷ 9 ∷ [])
sum = record {
  long = refl;
  meets = meets_by (sum_wire 8) (body_of (sum_wire 8).body) refl (8 ∷ 8 ∷ 9 ∷ []) refl (simp (of_declare, of_set, at_read, at_apply) refl);
  least = λ v l m. sum_least 8 9 refl v m;
}

wide_sum : IsLeast (sum_wire 128) (128 ∷ 128 ∷ 129 ∷ [])
wide_sum = record {
  long = refl;
  meets = meets_by (sum_wire 128) (body_of (sum_wire 128).body) refl (128 ∷ 128 ∷ 129 ∷ []) refl (simp (of_declare, of_set, at_read, at_apply) refl);
  least = λ v l m. sum_least 128 129 refl v m;
}

-- connects in a loop

around_sources : sources (body_of around.body)
    ≡ record { sink = 1; source = r 2 } ∷ record { sink = 2; source = r 1 } ∷ record { sink = 1; source = r 0 } ∷ []
around_sources = simp (of_declare, of_set) refl

read_shape : (e : Elab) (v : List ℕ) (k : ℕ) → (shape e.signals v (r k)).width ≡ min 129 (slice_index v k)
read_shape e v k = simp at_read refl

eight_on : (a b : ℕ) → min 129 a ≤ b → 8 ≤ a → 8 ≤ b
eight_on a b h l = omega arith

around_least : (v : List ℕ) → Meets around v → Below (8 ∷ 8 ∷ 8 ∷ []) v
around_least v m = record { each = each }
  where
    asks : All (Asks around v) (record { sink = 1; source = r 2 } ∷ record { sink = 2; source = r 1 } ∷ record { sink = 1; source = r 0 } ∷ [])
    asks = subst (All (Asks around v)) around_sources m.wide

    a : slice_index v 0 ≡ 8
    a = m.written 0 (omega arith) refl

    x : 8 ≤ slice_index v 1
    x = eight_on (slice_index v 0) (slice_index v 1) (subst (λ w. w ≤ slice_index v 1) (read_shape around v 0) (asks 2 no_source (omega arith) refl)) (omega (arith, a))

    y : 8 ≤ slice_index v 2
    y = eight_on (slice_index v 1) (slice_index v 2) (subst (λ w. w ≤ slice_index v 2) (read_shape around v 1) (asks 1 no_source (omega arith) refl)) x

    each : (k : ℕ) → slice_index (8 ∷ 8 ∷ 8 ∷ []) k ≤ slice_index v k
    each zero = omega (arith, a)
    each (suc zero) = x
    each (suc (suc zero)) = y
    each (suc (suc (suc k))) = none_less (slice_index v (suc (suc (suc k))))

loop : IsLeast around (8 ∷ 8 ∷ 8 ∷ [])
loop = record {
  long = refl;
  meets = meets_by around (body_of around.body) refl (8 ∷ 8 ∷ 8 ∷ []) refl (simp (of_declare, of_set, at_read) refl);
  least = λ v l m. around_least v m;
}

-- registers that read themselves

abbrev next : ℕ → GroundExpr
next k = Apply Add (r k ∷ one_bit 1 ∷ []) []

counter_sources : sources (body_of counter.body) ≡ record { sink = 0; source = Apply Tail (next 0 ∷ []) (1 ∷ []) } ∷ []
counter_sources = simp (of_declare, of_set) refl

counter_shape : (v : List ℕ) → (shape counter.signals v (Apply Tail (next 0 ∷ []) (1 ∷ []))).width ≡ min 129 (sum_width (slice_index v 0) 1 - 1)
counter_shape v = simp (at_read, at_lit, at_apply) refl

one_at_least : (n : ℕ) → min 129 (sum_width n 1 - 1) ≤ n → 1 ≤ n
one_at_least n h = omega arith

counter_least : (v : List ℕ) → Meets counter v → Below (1 ∷ []) v
counter_least v m = record { each = each }
  where
    asked : (shape counter.signals v (Apply Tail (next 0 ∷ []) (1 ∷ []))).width ≤ slice_index v 0
    asked = subst (All (Asks counter v)) counter_sources m.wide 0 no_source (omega arith) refl

    each : (x : ℕ) → slice_index (1 ∷ []) x ≤ slice_index v x
    each zero = one_at_least (slice_index v 0) (subst (λ w. w ≤ slice_index v 0) (counter_shape v) asked)
    each (suc x) = none_less (slice_index v (suc x))

grower_sources : sources (body_of grower.body) ≡ record { sink = 1; source = next 1 } ∷ record { sink = 0; source = r 1 } ∷ []
grower_sources = simp (of_declare, of_set) refl

grower_shape : (v : List ℕ) → (shape grower.signals v (next 1)).width ≡ sum_width (slice_index v 1) 1
grower_shape v = simp (at_read, at_lit, at_apply) refl

no_end : (n : ℕ) → sum_width n 1 ≤ n → 129 ≤ n
no_end n h = omega arith

grower_least : (v : List ℕ) → Meets grower v → Below (8 ∷ 129 ∷ []) v
grower_least v m = record { each = each }
  where
    asked : (shape grower.signals v (next 1)).width ≤ slice_index v 1
    asked = subst (All (Asks grower v)) grower_sources m.wide 0 no_source (omega arith) refl

    a : slice_index v 0 ≡ 8
    a = m.written 0 (omega arith) refl

    each : (x : ℕ) → slice_index (8 ∷ 129 ∷ []) x ≤ slice_index v x
    each zero = omega (arith, a)
    each (suc zero) = no_end (slice_index v 1) (subst (λ w. w ≤ slice_index v 1) (grower_shape v) asked)
    each (suc (suc x)) = none_less (slice_index v (suc (suc x)))

sum_sized : Sized (with_widths (sum_wire 8) (8 ∷ 8 ∷ 9 ∷ []))
sum_sized = sized_by (with_widths (sum_wire 8) (8 ∷ 8 ∷ 9 ∷ [])) (body_of (with_widths (sum_wire 8) (8 ∷ 8 ∷ 9 ∷ [])).body) refl
    (formed_by (with_widths (sum_wire 8) (8 ∷ 8 ∷ 9 ∷ [])) (body_of (with_widths (sum_wire 8) (8 ∷ 8 ∷ 9 ∷ [])).body) refl (simp (of_declare, of_set, at_read, at_apply) refl))
    refl (simp (of_declare, of_set) refl) (simp (of_declare, of_set, is_wide, at_read, at_apply) refl)

loop_sized : Sized (with_widths around (8 ∷ 8 ∷ 8 ∷ []))
loop_sized = sized_by (with_widths around (8 ∷ 8 ∷ 8 ∷ [])) (body_of (with_widths around (8 ∷ 8 ∷ 8 ∷ [])).body) refl
    (formed_by (with_widths around (8 ∷ 8 ∷ 8 ∷ [])) (body_of (with_widths around (8 ∷ 8 ∷ 8 ∷ [])).body) refl (simp (of_declare, of_set, at_read) refl))
    refl (simp (of_declare, of_set) refl) (simp (of_declare, of_set, is_wide, at_read) refl)

counter_sized : Sized (with_widths counter (1 ∷ []))
unfolding count_leading_zeros
counter_sized = sized_by (with_widths counter (1 ∷ [])) (body_of (with_widths counter (1 ∷ [])).body) refl
    (formed_by (with_widths counter (1 ∷ [])) (body_of (with_widths counter (1 ∷ [])).body) refl (simp (of_declare, of_set, at_read, at_lit, at_apply) refl))
    refl (simp (of_declare, of_set) refl) (simp (of_declare, of_set, is_wide, at_read, at_lit, at_apply) refl)

pub returns : goal.returns
unfolding count_leading_zeros
returns c = record {
  sum_sized = sum_sized;
  loop_sized = loop_sized;
  counter_sized = counter_sized;
  sum = sum;
  sum_fits = simp (of_declare, of_set, is_wide, at_read, at_apply) refl;
  wide_sum = wide_sum;
  too_wide_sum = simp (of_declare, of_set, is_wide, at_read, at_apply) refl;
  loop = loop;
  counts = record {
    long = refl;
    meets = meets_by counter (body_of counter.body) refl (1 ∷ []) refl (simp (of_declare, of_set, at_read, at_lit, at_apply) refl);
    least = λ v l m. counter_least v m;
  };
  fits = simp (of_declare, of_set, is_wide, at_read, at_lit, at_apply) refl;
  without = record {
    long = refl;
    meets = meets_by grower (body_of grower.body) refl (8 ∷ 129 ∷ []) refl (simp (of_declare, of_set, at_read, at_lit, at_apply) refl);
    least = λ v l m. grower_least v m;
  };
  told = simp (of_declare, of_set, is_wide, at_read, at_lit, at_apply) refl;
}
