-- States and the threads that they stand for.
use Rattle.std.proofs.Common.{◌≡◌, ℕ, zero, suc, ◌<◌, ◌≤◌, List, [], ◌∷◌, ◌++◌, length, map, reverse, replicate, Option, Some, None, option_map, slice_get, refl, sym, ap, subst, ◌∙◌, arith}
use Rattle.std.proofs.lemmas.List.{length-map, length-reverse}
use Rattle.std.proofs.lemmas.Option.{slice_get-map}
use Rattle.tb_base.specs.declared.path.Region.TheVariants.{Main}
use Rattle.tl_threads.specs.declared.code.Placed.{Placed}
use Rattle.tl_threads.specs.Allowed.{RulesStand}
use Rattle.tl_threads.specs.Bodies.{Body}
use Rattle.tl_threads.specs.Code.{test_code}
use Rattle.tl_threads.specs.Fits.{FitsPlace, FitsCode, CodeOf, StandsFits, FitsStands, RootStands, root_core}
use Rattle.tl_threads.specs.Machine.{Core}
use Rattle.tl_threads.specs.Stands.{Places, HasAt, Stands}
use Rattle.tl_threads.specs.Threads.{Inner, root_of}
use Rattle.tl_code.specs.declared.state.ThreadState.{ThreadState}
use Rattle.tl_code.specs.Compiled.{Compiled}
use Rattle.tl_code.specs.Codes.{IsCode, FitsAt, Fits, body_of_code, places, child_number, core_of, root_state}
use Rattle.tl_code.specs.Laws.{PlacesStand, FittingStands, RootStateStands, StandingFits, RootOwnsChildren}
use Rattle.tl_code.proofs.First.{has_behind, some_within}

pub places_stand : RulesStand → PlacesStand
places_stand rules c is =
    rules c.test.ports c.test.test is.rule c.variables c.handles (places c) (omega (arith, is.variables)) (omega (arith, is.handles))
    (has_behind [] (test_code (body_of_code c)) c.placed 0 refl is.laid)

-- a handle's slot in the machine has the child's number
child_there : (handles : List (Option (List ℕ))) (k : ℕ) (child : List ℕ) → slice_get handles k ≡ Some (Some child)
    → slice_get (map (option_map child_number) handles) k ≡ Some (Some (child_number child))
child_there handles k child e = slice_get-map (option_map child_number) handles k ∙ ap (option_map (option_map child_number)) e

pub fits_place : (c : Compiled) (s : ThreadState) (x : Placed) → FitsAt x c s → FitsPlace c.variables c.handles x (length s.path) s.region (core_of s)
fits_place c s x f = record {
  same_depth = f.path;
  same_region = f.region;
  locals_len = f.locals;
  handles_len = length-map s.handles (option_map child_number) ∙ f.slots;
  children = λ k lt. let n = f.children k lt in (child_number n.0, child_there s.handles k n.0 n.1);
  counts = length-reverse s.loops ∙ f.loops;
}

pub fitting_stands : PlacesStand → FitsStands → FittingStands
fitting_stands stand fits c s is f =
    fits c.variables c.handles (places c) (body_of_code c) (stand c is) (length s.path) s.region (core_of s)
    (omega (arith, some_within c.placed s.pc f.0 f.1, ap length is.laid))
    (f.0, f.1, fits_place c s f.0 f.2)

no_children : (n : ℕ) → map (option_map child_number) (replicate n None) ≡ replicate n None
no_children zero = refl
no_children (suc n) = ap (λ hs. None ∷ hs) (no_children n)

pub root_stands : PlacesStand → RootStands → RootStateStands
root_stands stand root c is =
    subst (λ hs. Stands c.variables c.handles (places c) 0 Main (record { pc = 0; locals = replicate c.variables 0; handles = hs; loops = []; forks = 0 }) (root_of (body_of_code c)))
    (sym (no_children c.handles)) (root c.variables c.handles (places c) (body_of_code c) (stand c is))

-- the child whose number a slot has in the machine
child_of_number : (o : Option (Option (List ℕ))) (j : ℕ) → option_map (option_map child_number) o ≡ Some (Some j) → (child : List ℕ) × (o ≡ Some (Some child))
child_of_number None j e = absurd (cc)
child_of_number (Some None) j e = absurd (cc)
child_of_number (Some (Some child)) j e = (child, refl)

pub standing_fits : StandsFits → StandingFits
standing_fits fits c s i st own joined acts few =
    let f = fits c.variables c.handles (places c) (length s.path) s.region (core_of s) i st in (
      f.0,
      f.1,
      record {
        path = f.2.same_depth;
        region = f.2.same_region;
        locals = f.2.locals_len;
        slots = sym (length-map s.handles (option_map child_number)) ∙ f.2.handles_len;
        children = λ k lt.
            let n = f.2.children k lt in
            let h = child_of_number (slice_get s.handles k) n.0 (sym (slice_get-map (option_map child_number) s.handles k) ∙ n.1) in
            (h.0, h.1, own k h.0 h.1);
        joined = joined;
        loops = sym (length-reverse s.loops) ∙ f.2.counts;
        acts = acts;
        forks = few;
      },
    )

no_child_there : (n k : ℕ) (child : List ℕ) → slice_get (replicate n None) k ≡ Some (Some child) → ⊥
no_child_there zero k child e = absurd (cc)
no_child_there (suc n) zero child e = absurd (cc)
no_child_there (suc n) (suc k) child e = no_child_there n k child e

pub root_owns_children : RootOwnsChildren
root_owns_children c k child e = absurd (no_child_there c.handles k child e)
