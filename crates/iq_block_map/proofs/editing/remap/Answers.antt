use Rattle.std.proofs.Common.{refl, arith, ◌≡◌, []}
use Rattle.std.proofs.lemmas.List.{nil_from_length}
use Rattle.iq_block_map.proofs.PutLemmas.{put_none, looked_same, told_same}
use Rattle.iq_block_map.proofs.TopLemmas.{remap_none}
use Rattle.iq_block_map.proofs.ReachedLemmas.{remapped}
use Rattle.iq_block_map.proofs.editing.remap.Goals as goal

pub returns-then-is_untouched-clause-put : goal.returns-then-is_untouched-clause-put
returns-then-is_untouched-clause-put g c = put_none _ _ _ _ (looked_same _ _)

pub returns-then-is_untouched-clause-ok : goal.returns-then-is_untouched-clause-ok
returns-then-is_untouched-clause-ok g c = record {
  read = λ some. absurd (omega arith);
  remapped = λ all now xs stands told_now.
      let no_changed : c.args.changed.now ≡ [] = nil_from_length c.args.changed.now (omega arith) in
      let no_added : c.args.added.now ≡ [] = nil_from_length c.args.added.now (omega arith) in
      rw (no_changed, no_added) (remapped all now c.args.old c.args.old xs _ _ _
      (remap_none all now c.args.old xs _ (told_same _ _ now all refl told_now stands.is) c.requires.object.few stands.pages)
      c.requires.object.few c.requires.object.above c.requires.spare.distinct stands.apart stands.pages);
}
