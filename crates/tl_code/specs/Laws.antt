-- What is proved of code and of the states that fit it.
use Rattle.std.specs.Prelude.{◌<◌, length}
use Rattle.tb_base.specs.declared.path.Region.TheVariants.{Main}
use Rattle.tl_threads.specs.Fits.{CodeOf}
use Rattle.tl_threads.specs.Threads.{Inner, root_of}
use Rattle.tl_threads.specs.Stands.{Stands}
use Rattle.tl_code.specs.declared.state.ThreadState.{ThreadState}
use Rattle.tl_code.specs.Compiled.{Compiled}
use Rattle.tl_code.specs.Codes.{IsCode, IsJoined, OwnChildren, Fits, body_of_code, places, core_of, root_state}

-- a state stands for a thread under some code
abbrev pub StandsUnder : Compiled → ThreadState → Inner → Type 0
StandsUnder c s i = Stands c.variables c.handles (places c) (length s.path) s.region (core_of s) i

-- the places of code stand for threads of its test
abbrev pub PlacesStand : Type 0
PlacesStand = (c : Compiled) → IsCode c → CodeOf c.variables c.handles (places c) (body_of_code c)

-- A STATE THAT FITS ITS CODE STANDS FOR A THREAD
abbrev pub FittingStands : Type 0
FittingStands = (c : Compiled) (s : ThreadState) → IsCode c → Fits c s → (i : Inner) × StandsUnder c s i

-- the state at the beginning stands for the root thread
abbrev pub RootStateStands : Type 0
RootStateStands = (c : Compiled) → IsCode c → StandsUnder c (root_state c) (root_of (body_of_code c))

-- a state that stands for a thread fits, where its children are its own and its counts are small
abbrev pub StandingFits : Type 0
StandingFits = (c : Compiled) (s : ThreadState) (i : Inner) → StandsUnder c s i → OwnChildren s → IsJoined s s.joined
    → s.acts < 4294967295 → s.forks < 4294967295 → Fits c s

-- the root thread has no children at the beginning
abbrev pub RootOwnsChildren : Type 0
RootOwnsChildren = (c : Compiled) → OwnChildren (root_state c)
