-- What a stop leaves of a block.
use Rattle.std.specs.Prelude.{ℕ, List, ◌++◌, take, drop}
use Rattle.iq_outside.specs.declared.pick.Pick.{Pick}
use Rattle.iq_outside.specs.declared.pick.Pick.TheVariants.{Old, New, Torn}

-- its old bytes, its new bytes, or the first 512 new and the others old
abbrev pub picked : Pick → List ℕ → List ℕ → List ℕ
picked Old now old = old
picked New now old = now
picked Torn now old = take 512 now ++ drop 512 old
