use Rattle.std.proofs.Common.{◌≡◌, drop}
use Rattle.iq_free_list.specs.FreeList.{put_all}
use Rattle.iq_version_log.specs.Versions.{dropped_in}
use Rattle.iq_version_log.proofs.version_log.give_dropped.Given as goal

abbrev pub invariant-loop-version : goal.invariant-loop-version
invariant-loop-version l =
    (l.free.count ≡ l.fn.free.count)
    × (put_all (dropped_in (drop l.version-index l.versions)) l.free.blocks ≡ put_all (dropped_in l.versions) l.fn.free.blocks)
