use Rattle.std.proofs.Common.{◌≡◌, ◌<◌, ◌^◌, ◌++◌, Ok, length, take}
use Rattle.std.specs.List.{All}
use Rattle.iq_block_map.specs.Refs.{WhereTold}
use Rattle.iq_block_map.specs.Takers.{AreSpare}
use Rattle.iq_block_map.specs.Writing.{HasPut}
use Rattle.iq_descriptors.specs.Stored.{pages_in}
use Rattle.iq_descriptors.proofs.writing.put_others.Given as goal

abbrev pub invariant-loop-page : goal.invariant-loop-page
invariant-loop-page g l = record {
  put : HasPut g.D.Device (g.T.Taker.left l.fn.space) (g.T.Taker.left l.space) l.fn.disk l.disk;
  spare : AreSpare (g.D.Device.blocks l.disk) (g.T.Taker.left l.space);
  left : g.T.Taker.left l.fn.space ≡ l.others ++ g.T.Taker.left l.space;
  size : length l.others ≡ l.page-index;
  fits : All (λ b. b < 2 ^ 32) l.others;
  pages : WhereTold (g.D.Device.blocks l.disk) (λ all. pages_in all l.others ≡ Ok (take l.page-index l.pages));
}
