-- What is proved of settling.
use Rattle.std.specs.Prelude.{◌≡◌, ◌⊎◌, Option, Some, None}
use mathlib.Core.Logic.{inl, inr}
use Rattle.tl_check.specs.Checked.{TestFor}
use Rattle.tl_threads.specs.Threads.{Inner}
use Rattle.tl_code.specs.Compiled.{Compiled}
use Rattle.bench_model.specs.World.{World}
use Rattle.bench_model.specs.Settle.{Limits, Ending, Finish, settle}
use Rattle.bench_setting.specs.Settings.{setting_of}
use Rattle.bench_course.specs.Course.{CourseValue}
use Rattle.bench_course.specs.Laws.{CourseStands, FinishStands}
use Rattle.bench_settle.specs.Settling.{settled}

-- the settled course stands for what settling the world gives: the next world in which somebody may act, or what the run gives, with its end
abbrev pub SettledAs : Compiled → CourseValue → Option Ending → World Inner ⊎ Finish → Type 0
SettledAs c o None (inl w) = CourseStands c o w
SettledAs c o (Some ending) (inr f) = FinishStands o f × (ending ≡ f.ending)
SettledAs c o None (inr f) = ⊥
SettledAs c o (Some ending) (inl w) = ⊥

-- SETTLING IS THAT OF THE WORLD for which the course stands
abbrev pub SettlingIsTold : Type 0
SettlingIsTold = (k : TestFor) (l : Limits) (c : Compiled) (o : CourseValue) (w : World Inner) → CourseStands c o w
    → SettledAs c (settled l o).course (settled l o).ending (settle (setting_of o.elab k l) w)
