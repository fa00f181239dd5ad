-- A state that fits code isn't stuck.
use Rattle.std.proofs.Common.{◌≡◌, ℕ, suc, ◌<◌, List, length, Some, None, sym, subst, arith}
use Rattle.tb_base.specs.declared.path.Region.{Region}
use Rattle.bench_model.specs.World.{Move}
use Rattle.bench_model.specs.World.Move.{poke, peek, expect, fork, join, arrive, joinstep, spend, end}
use Rattle.tl_threads.specs.declared.code.Placed.{Placed}
use Rattle.tl_threads.specs.Fits.{StandsFits}
use Rattle.tl_threads.specs.Laws.{CodeRefines}
use Rattle.tl_threads.specs.Machine.{Core, Did}
use Rattle.tl_threads.specs.Stands.{Fulfils, born}
use Rattle.tl_threads.specs.Threads.{Inner, next}
use Rattle.tl_code.specs.declared.state.ThreadState.{ThreadState}
use Rattle.tl_code.specs.Compiled.{Compiled}
use Rattle.tl_code.specs.Codes.{IsCode, Fits, places, core_of}
use Rattle.tl_code.specs.Laws.{FittingStands}
use Rattle.tl_prepare.specs.Runs.{code_at, Works}
use Rattle.tl_prepare.specs.Given.{most_local}

no_child : (d : Did) (begin : ℕ) (A : Type 0) → d.child ≡ None → d.child ≡ Some begin → A
no_child d begin A n e = absurd (cc)

fork_room : StandsFits → (c : Compiled) (depth : ℕ) (g : Region) (d : Did) (m : Move Inner) (begin : ℕ) → IsCode c → Fulfils c.variables c.handles (places c) depth g d m → d.child ≡ Some begin → depth < 8
fork_room fits c depth g d (poke l p x i) begin is f e = no_child d begin (depth < 8) f.0.1 e
fork_room fits c depth g d (peek l p shown i) begin is f e = no_child d begin (depth < 8) f.only.1 e
fork_room fits c depth g d (expect l p x i) begin is f e = no_child d begin (depth < 8) f.0.1 e
fork_room fits c depth g d (fork l r k i) begin is f e =
    let x = fits c.variables c.handles (places c) (suc depth) f.child_region (born c.handles f.pc d.core) k f.newborn in
    omega (arith, is.shallow f.pc x.0 x.1, x.2.same_depth)
fork_room fits c depth g d (join l k i) begin is f e = no_child d begin (depth < 8) f.0.1 e
fork_room fits c depth g d (arrive l n i) begin is f e = no_child d begin (depth < 8) f.0.1 e
fork_room fits c depth g d (joinstep l k i) begin is f e = no_child d begin (depth < 8) f.0.1 e
fork_room fits c depth g d (spend l) begin is f e = no_child d begin (depth < 8) f.1 e
fork_room fits c depth g d end begin is f e = no_child d begin (depth < 8) f.1 e

pub fitting_works : FittingStands → CodeRefines → StandsFits → (c : Compiled) (s : ThreadState) → IsCode c → Fits c s → Works most_local (code_at c.placed) 0 s.path (core_of s)
fitting_works stands refines fits c s is f =
    let i = stands c s is f in
    let d = refines c.variables c.handles (places c) most_local (length s.path) s.region (core_of s) i.0 i.1 in
    record {
      count = d.count;
      done = d.done;
      ran = d.ran;
      room = λ begin e. fork_room fits c (length s.path) s.region d.done (next most_local i.0) begin is d.fulfils e;
    }

pub start_works : (code codd : List Placed) (path qath : List ℕ) (s t : Core) → codd ≡ code → qath ≡ path → t ≡ s → Works most_local (code_at code) 0 path s → Works most_local (code_at codd) 0 qath t
start_works code codd path qath s t a e d w =
    subst (λ (c : List Placed). Works most_local (code_at c) 0 qath t) (sym a)
    (subst (λ (p : List ℕ). Works most_local (code_at code) 0 p t) (sym e) (subst (λ (s : Core). Works most_local (code_at code) 0 path s) (sym d) w))
