-- The program's streams as it begins and as it ends.
use Rattle.std.specs.Prelude.{ℕ, List, Option, ◌≡◌}
use Rattle.std.specs.Io.KnownBytes.{IsAtEnd}
use Rattle.iq_outside.specs.declared.source.Source.{Ghosts as Sources}
use Rattle.iq_outside.specs.declared.sink.Sink.{Ghosts as Sinks}

-- what was to come and still is, where that is told, and the counts of faults
pub record Input : Type 0 where
  pub left : Option (List ℕ)
  pub left_now : Option (List ℕ)
  pub first : ℕ
  pub last : ℕ

-- what was written and now is, where that is told, and the counts of faults
pub record Output : Type 0 where
  pub written : Option (List ℕ)
  pub written_now : Option (List ℕ)
  pub first : ℕ
  pub last : ℕ

-- a source as it was and is
abbrev pub input : {I : Type 0} → Sources I → I → I → Input
input g old new = record { left = g.left old; left_now = g.left new; first = g.faults old; last = g.faults new }

-- a sink as it was and is
abbrev pub output : {O : Type 0} → Sinks O → O → O → Output
output g old new = record { written = g.written old; written_now = g.written new; first = g.faults old; last = g.faults new }

-- the source was read to its end, and no read failed
pub record IsReadWhole (i : Input) : Type 0 where
  pub at_end : IsAtEnd i.left_now
  pub calm : i.last ≡ i.first

-- no call of the source was made that took anything or failed
pub record IsUntouched (i : Input) : Type 0 where
  pub same : i.left_now ≡ i.left
  pub calm : i.last ≡ i.first

-- nothing was written, and no write failed
pub record IsUnwritten (o : Output) : Type 0 where
  pub same : o.written_now ≡ o.written
  pub calm : o.last ≡ o.first
