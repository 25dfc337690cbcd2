use Rattle.std.proofs.Common.{rules}
use Rattle.iq_script_order.specs.Fixed.{IsCertain}
use Rattle.iq_plain_runs.proofs.NextStep.{refused_step}
use Rattle.iq_plain_runs.proofs.step_following.refused.Goals as goal

pub returns-then-is_certain : goal.returns-then-is_certain
returns-then-is_certain c = let certain : IsCertain c.args.cause = search rules in refused_step _ _ _ _ c.requires.at c.requires.first certain
