use Rattle.std.proofs.Common.{◌≡◌, ◌++◌, take}
use Rattle.std.specs.Prelude.{flat_map}
use Rattle.std.specs.String.{string_bytes}
use Rattle.iq_render.specs.Replies.{version_line}
use Rattle.iq_render.proofs.replies.push_versions.Given as goal

abbrev pub invariant-loop-version : goal.invariant-loop-version
invariant-loop-version l = string_bytes l.out ≡ string_bytes l.fn.out ++ flat_map (version_line l.nodes) (take l.version-index l.versions)
