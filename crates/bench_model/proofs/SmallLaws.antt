-- The small tests and circuits meet the laws of a setting.
use Rattle.std.proofs.Common.{◌≡◌, ℕ, ◌+◌, List, [], ◌∷◌, false, refl, sym, ap, ap₂, slice_set, nat_eq, get_or-set_other}
use Rattle.std.specs.List.{list_any}
use Rattle.std.proofs.lemmas.Bool.{or_parts, eqb-false}
use Rattle.bench_model.specs.World.{ModelLaws, FitsMove}
use Rattle.bench_model.specs.Settle.{Limits, SettingLaws}
use Rattle.bench_model.specs.Small.{Circuit, Test, done, poke_then, peek_then, expect_then, fork_then, join_then, joinstep_then, step_then, stuck, next, Respects, sum_of, parts_of, model, setting}

sum_apart : (ins ps : List ℕ) (p v : ℕ) → list_any (nat_eq p) ps ≡ false → sum_of (slice_set ins p v) ps ≡ sum_of ins ps
sum_apart ins [] p v h = refl
sum_apart ins (q ∷ ps) p v h =
    let f = or_parts (nat_eq p q) (list_any (nat_eq p) ps) h in
    ap₂ (λ x y. x + y) (get_or-set_other ins p q v 0 (λ e. eqb-false p q f.0 (sym e))) (sum_apart ins ps p v f.1)

next_fits : (c : Circuit) (r : ℕ) (forked : List ℕ) (k : Test) → Respects r forked k → FitsMove (model c) r forked (next k)
next_fits c r forked done h = tt
next_fits c r forked (poke_then l p v k) h = λ a. h
next_fits c r forked (peek_then l s k) h = λ a. h
next_fits c r forked (expect_then l s w k) h = h
next_fits c r forked (fork_then l q b k) h = h
next_fits c r forked (join_then l n k) h = h
next_fits c r forked (joinstep_then l n k) h = h
next_fits c r forked (step_then l n k) h = h
next_fits c r forked (stuck l) h = tt

model_laws : (c : Circuit) → ModelLaws (model c)
model_laws c = record {
  value_apart = λ ins regs s p v h. ap (λ x. x + sum_of regs (parts_of c s).1) (sum_apart ins (parts_of c s).0 p v h);
  fits_next = next_fits c;
}

pub small_laws : (c : Circuit) (l : Limits) (k : Test) → Respects 0 [] k → SettingLaws (setting c l k)
small_laws c l k h = record { model = model_laws c; root = h }
