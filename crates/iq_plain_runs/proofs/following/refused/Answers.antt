use Rattle.std.proofs.Common.{rules}
use Rattle.iq_script_order.specs.Fixed.{IsCertain}
use Rattle.iq_plain_runs.proofs.Next.{refused_next}
use Rattle.iq_plain_runs.proofs.following.refused.Goals as goal

pub returns-then-is_certain : goal.returns-then-is_certain
returns-then-is_certain c = let certain : IsCertain c.args.cause = search rules in refused_next _ _ _ _ _ _ c.requires.at c.requires.open_still c.requires.first certain
