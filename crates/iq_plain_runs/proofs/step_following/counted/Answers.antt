use Rattle.std.proofs.Common.{rules, ◌≡◌, ◌+◌}
use Rattle.iq_plain_runs.proofs.NextStep.{space_next}
use Rattle.iq_plain_runs.proofs.step_following.counted.Goals as goal

pub returns : goal.returns
returns c =
    let all : c.in_ok-free.free + 4 ≡ c.args.state.now.blocks = search rules in
    space_next _ _ _ c.requires all
