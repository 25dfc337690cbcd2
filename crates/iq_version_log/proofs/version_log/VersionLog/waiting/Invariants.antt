use Rattle.std.proofs.Common.{◌≡◌, ◌+◌, drop, length}
use Rattle.iq_version_log.specs.Versions.{dropped_in}
use Rattle.iq_version_log.proofs.version_log.VersionLog.waiting.Given as goal

abbrev pub invariant-loop-version : goal.invariant-loop-version
invariant-loop-version l = l.count + length (dropped_in (drop l.version-index l.behind)) ≡ length (dropped_in l.behind)
