-- The two sides of a test.
use Rattle.std.specs.Prelude.{Bool, true, false}
use Rattle.iq_truth.specs.declared.truth.Side.{Side}
use Rattle.iq_truth.specs.declared.truth.Side.TheVariants as side
use Rattle.iq_truth.specs.declared.truth.Truth.{Truth}
use Rattle.iq_truth.specs.declared.truth.Truth.TheVariants as truth

-- whether a row of which the test says this is on the side: never where it is unknown
abbrev pub is_on : Side → Truth → Bool
is_on side.True truth.False = false
is_on side.True truth.Unknown = false
is_on side.True truth.True = true
is_on side.False truth.False = true
is_on side.False truth.Unknown = false
is_on side.False truth.True = false
