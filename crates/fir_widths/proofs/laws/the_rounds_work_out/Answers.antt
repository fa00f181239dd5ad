use Rattle.std.proofs.Common.{◌≡◌, sym, subst, ℕ, zero, suc, ◌≤◌, min, true, List, [], ◌∷◌, refl, arith}
use Rattle.std.specs.Prelude.{slice_index}
use Rattle.std.specs.List.{All}
use Rattle.net_core.specs.Body.{body_of}
use Rattle.net_core.specs.Signals.{info}
use Rattle.net_core.specs.Shapes.{shape}
use Rattle.net_core.specs.Widths.{Asked, sources, is_free, Meets, Below, IsLeast}
use Rattle.net_core.specs.Examples.{r, grower}
use Rattle.net_core.specs.LeastExamples.{sum_wire, around, counter}
use Rattle.net_core.proofs.Decided.{meets_by}
use Rattle.net_core.proofs.Trees.{of_declare, of_set, at_read}
use Rattle.fir_widths.specs.FoundExamples.{chain}
use Rattle.fir_widths.proofs.Found.{least_one}
use Rattle.fir_widths.proofs.laws.the_rounds_work_out.Goals as goal

none_less : (n : ℕ) → 0 ≤ n
none_less n = omega arith

-- what the source at a place asks for
abbrev Asks : List ℕ → Asked → Type 0
Asks v a = is_free (info chain.signals a.sink) ≡ true → (shape chain.signals v a.source).width ≤ slice_index v a.sink

abbrev links : List Asked
links = record { sink = 3; source = r 2 } ∷ record { sink = 2; source = r 1 } ∷ record { sink = 1; source = r 0 } ∷ []

chain_sources : sources (body_of chain.body) ≡ links
chain_sources = simp (of_declare, of_set) refl

read_shape : (v : List ℕ) (k : ℕ) → (shape chain.signals v (r k)).width ≡ min 129 (slice_index v k)
read_shape v k = simp at_read refl

eight_on : (a b : ℕ) → min 129 a ≤ b → 8 ≤ a → 8 ≤ b
eight_on a b h l = omega arith

chain_below : (v : List ℕ) → Meets chain v → Below (8 ∷ 8 ∷ 8 ∷ 8 ∷ []) v
chain_below v m = record { each = each }
  where
    asks : All (Asks v) links
    asks = subst (All (Asks v)) chain_sources m.wide

    a : slice_index v 0 ≡ 8
    a = m.written 0 (omega arith) refl

    link : (k : ℕ) (n : ℕ) → (shape chain.signals v (r k)).width ≤ slice_index v n → 8 ≤ slice_index v k → 8 ≤ slice_index v n
    link k n h l = eight_on (slice_index v k) (slice_index v n) (subst (λ w. w ≤ slice_index v n) (read_shape v k) h) l

    no_source : Asked
    no_source = record { sink = 0; source = r 0 }

    x : 8 ≤ slice_index v 1
    x = link 0 1 (asks 2 no_source (omega arith) refl) (omega (arith, a))

    y : 8 ≤ slice_index v 2
    y = link 1 2 (asks 1 no_source (omega arith) refl) x

    z : 8 ≤ slice_index v 3
    z = link 2 3 (asks 0 no_source (omega arith) refl) y

    each : (k : ℕ) → slice_index (8 ∷ 8 ∷ 8 ∷ 8 ∷ []) k ≤ slice_index v k
    each zero = omega (arith, a)
    each (suc zero) = x
    each (suc (suc zero)) = y
    each (suc (suc (suc zero))) = z
    each (suc (suc (suc (suc k)))) = none_less (slice_index v (suc (suc (suc (suc k)))))

chain_least : IsLeast chain (8 ∷ 8 ∷ 8 ∷ 8 ∷ [])
chain_least = record {
  long = refl;
  meets = meets_by chain (body_of chain.body) refl (8 ∷ 8 ∷ 8 ∷ 8 ∷ []) refl (simp (of_declare, of_set, at_read) refl);
  least = λ v l m. chain_below v m;
}

pub returns : goal.returns
returns c = record {
  sum = sym (least_one (sum_wire 8) _ c.the_least_widths_work_out.ensures.sum);
  against = sym (least_one chain _ chain_least);
  loop = sym (least_one around _ c.the_least_widths_work_out.ensures.loop);
  counts = sym (least_one counter _ c.the_least_widths_work_out.ensures.counts);
  without = sym (least_one grower _ c.the_least_widths_work_out.ensures.without);
}
