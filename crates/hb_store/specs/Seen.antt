-- What contracts see of a store.
use Rattle.std.specs.Prelude.{List}
use Rattle.hb_disk.specs.declared.traits.Device.{Ghosts}
use Rattle.hb_pool.specs.Frames.{Use}
use Rattle.hb_store.specs.Held.{StoreHeld}
use Rattle.hb_store.specs.States.{StoreState}
use Rattle.hb_store.specs.declared.store.Store.{Store}

-- what it holds in memory: its state, and the order of use of its pages
abbrev pub held_by : {D : Type 0} {g : Ghosts D} → Store D g → StoreHeld
held_by st = st.memory

abbrev pub seen_as : {D : Type 0} {g : Ghosts D} → Store D g → StoreState
seen_as st = st.memory.state

abbrev pub uses_of : {D : Type 0} {g : Ghosts D} → Store D g → List Use
uses_of st = st.memory.uses

-- its disk
abbrev pub disk_of : {D : Type 0} {g : Ghosts D} → Store D g → D
disk_of st = st.disk
