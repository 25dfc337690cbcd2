-- What the calls of a device did, at a bound `D: Device`, as clauses outside the trait cite it: the trait is one argument.
use Rattle.std.specs.Prelude.{ℕ, List, Result}
use Rattle.iq_outside.specs.declared.device.Device.{Ghosts}
use Rattle.iq_outside.specs.Devices.{Seen, seen, GoesOn, StopsSame, StopsBut, Settled, Counts, Reads, Writes, Resizes, Syncs}

-- what is seen of a device
abbrev pub view : {D : Type 0} → Ghosts D → D → Seen
view g = seen g.blocks g.faults g.tells g.clock g.image g.whole

-- time goes on: what a stop at an earlier moment may have left, and what was whole then, stays the same
abbrev pub KeepsPast : {D : Type 0} → Ghosts D → D → D → Type 0
KeepsPast g old new = GoesOn (view g old) (view g new)

-- what a stop meanwhile may leave, a stop before could have left too
abbrev pub AddsNone : {D : Type 0} → Ghosts D → D → D → Type 0
AddsNone g old new = StopsSame (view g old) (view g new)

-- what a stop meanwhile may leave differs in one place from what a stop before could have left
abbrev pub AddsAt : {D : Type 0} → Ghosts D → ℕ → D → D → Type 0
AddsAt g at old new = StopsBut at (view g old) (view g new)

-- a stop now leaves what a read gives, and nothing else
abbrev pub IsSettled : {D : Type 0} → Ghosts D → D → Type 0
IsSettled g now = Settled (view g now)

-- a call of count
abbrev pub HasCounted : {D E : Type 0} → Ghosts D → Result ℕ E → D → D → Type 0
HasCounted g result old new = Counts result (view g old) (view g new)

-- a call of read
abbrev pub HasRead : {D T E : Type 0} → Ghosts D → ℕ → List ℕ → Result T E → D → D → Type 0
HasRead g at into result old new = Reads at into result (view g old) (view g new)

-- a call of write
abbrev pub HasWritten : {D T E : Type 0} → Ghosts D → ℕ → List ℕ → Result T E → D → D → Type 0
HasWritten g at block result old new = Writes at block result (view g old) (view g new)

-- a call of resize
abbrev pub HasResized : {D T E : Type 0} → Ghosts D → ℕ → Result T E → D → D → Type 0
HasResized g n result old new = Resizes n result (view g old) (view g new)

-- a call of sync
abbrev pub HasSynced : {D T E : Type 0} → Ghosts D → Result T E → D → D → Type 0
HasSynced g result old new = Syncs result (view g old) (view g new)
