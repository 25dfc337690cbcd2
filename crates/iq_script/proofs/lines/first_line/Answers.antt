use Rattle.std.proofs.Common.{◌≤◌, length}
use Rattle.std.specs.List.{prefix_len}
use Rattle.iq_script.proofs.LineLaws.{is_no_lf, first_is, all_is}
use Rattle.iq_script.proofs.lines.first_line.Goals as goal

pub returns-then-len-bytes-clause-cut : goal.returns-then-len-bytes-clause-cut
returns-then-len-bytes-clause-cut c =
    rw (c.split_at.ensures.front, c.split_at.ensures.back, c.text_len-len.ensures.value) (first_is c.args.bytes.now c.requires)

pub returns-else-len-bytes-clause-cut : goal.returns-else-len-bytes-clause-cut
returns-else-len-bytes-clause-cut c =
    let long : length c.args.bytes.now ≤ prefix_len is_no_lf c.args.bytes.now = rw (← c.text_len-len.ensures.value) c.if-len-bytes.false in
    all_is c.args.bytes.now c.requires long
