-- The table, as the code changes it.
use Rattle.std.proofs.Common.{◌≡◌, ℕ, Bool, true, false, cond, Option, Some, None, is_some, refl, ap, ◌∙◌}
use Rattle.std.specs.FinMap as map
use Rattle.bench_model.specs.Paths.{Path, is_path}
use Rattle.tl_code.specs.declared.state.ThreadState.{ThreadState}
use Rattle.tl_prepare.specs.declared.act.Act.{Act}
use Rattle.tl_prepare.specs.declared.act.Act.TheVariants as act
use Rattle.bench_threads.specs.Shelves.{Threads}
use Rattle.bench_threads.specs.Tables.{started}
use Rattle.bench_acts.specs.Behind.{with_number, is_read}
use Rattle.bench_acts.specs.Observations.{observed}
use Rattle.bench_acts.specs.After.{birth, after}
use Rattle.bench_acts.specs.Laws.{OthersReadNothing}
use Rattle.bench_acts.proofs.Tables.{get_birth}

-- a number that is read leaves the path
pub keeps_path : (n : ThreadState) (a : Act) (x : ℕ) → (with_number n a x).path ≡ n.path
keeps_path n (act.Poke l p raw) x = refl
keeps_path n (act.Peek l p None) x = refl
keeps_path n (act.Peek l p (Some slot)) x = refl
keeps_path n (act.Expect l p wanted) x = refl
keeps_path n (act.Fork l ch) x = refl
keeps_path n (act.Join l ch) x = refl
keeps_path n (act.Arrive l edges) x = refl
keeps_path n (act.JoinStep l ch) x = refl
keeps_path n (act.Spend l) x = refl
keeps_path n act.End x = refl

-- a thread that is there is there beside a child that begins
there_beside : (ts : Threads) (o : Option ThreadState) (p : Path) → is_some (map.get ts p) ≡ true → is_some (map.get (birth ts o) p) ≡ true
there_beside ts None p h = h
there_beside ts (Some s) p h = ap is_some (get_birth ts (Some s) p) ∙ go (is_path p s.path)
  where
    go : (b : Bool) → is_some (cond b (Some (started s)) (map.get ts p)) ≡ true
    go true = refl
    go false = h

pub may_replace : (ts mid : Threads) (o : Option ThreadState) (n m : ThreadState) (a : Act) (x : ℕ) → is_some (map.get ts n.path) ≡ true → mid ≡ birth ts o → m ≡ with_number n a x
    → is_some (map.get mid m.path) ≡ true
may_replace ts mid o n m a x h i j =
    ap (λ t. is_some (map.get t m.path)) i ∙ ap (λ (s : ThreadState). is_some (map.get (birth ts o) s.path)) j
    ∙ ap (λ p. is_some (map.get (birth ts o) p)) (keeps_path n a x) ∙ there_beside ts o n.path h

-- ---- acts that read nothing

same_behind : (ts : Threads) (o : Option ThreadState) (n : ThreadState) (a : Act) (x y : ℕ) → is_read a ≡ false → after ts a n o x ≡ after ts a n o y
same_behind ts o n (act.Poke l p raw) x y e = refl
same_behind ts o n (act.Peek l p into) x y e = absurd (cc)
same_behind ts o n (act.Expect l p wanted) x y e = absurd (cc)
same_behind ts o n (act.Fork l ch) x y e = refl
same_behind ts o n (act.Join l ch) x y e = refl
same_behind ts o n (act.Arrive l edges) x y e = refl
same_behind ts o n (act.JoinStep l ch) x y e = refl
same_behind ts o n (act.Spend l) x y e = refl
same_behind ts o n act.End x y e = refl

same_seen : (s : ThreadState) (a : Act) (time x y : ℕ) → is_read a ≡ false → observed time s a x ≡ observed time s a y
same_seen s (act.Poke l p raw) time x y e = refl
same_seen s (act.Peek l p into) time x y e = absurd (cc)
same_seen s (act.Expect l p wanted) time x y e = absurd (cc)
same_seen s (act.Fork l ch) time x y e = refl
same_seen s (act.Join l ch) time x y e = refl
same_seen s (act.Arrive l edges) time x y e = refl
same_seen s (act.JoinStep l ch) time x y e = refl
same_seen s (act.Spend l) time x y e = refl
same_seen s act.End time x y e = refl

pub others_read_nothing : OthersReadNothing
others_read_nothing ts w time x y e = (same_behind ts w.child w.next w.act x y e, same_seen w.from w.act time x y e)
