use Rattle.std.proofs.Common.{◌-◌, ◌+◌, arith, length}
use Rattle.iq_root.proofs.PageLemmas.{IsDone-put}
use Rattle.iq_root.proofs.pages.put.Goals as goal

pub returns : goal.returns
returns c done start =
    IsDone-put c.args.at (c.args.at + length c.args.bytes.now - c.args.at) done c.args.page.now c.args.bytes.now _ start
    c.copy_from_slice.ensures.after (omega arith)
