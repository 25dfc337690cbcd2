use Rattle.std.proofs.Common.{◌≤◌, length, arith}
use Rattle.iq_script.proofs.Places.{token_within}
use Rattle.iq_script.proofs.pieces.colon_behind.Goals as goal

pub returns-then-is_colon-clause-within : goal.returns-then-is_colon-clause-within
returns-then-is_colon-clause-within c =
    let before : c.args.from ≤ length c.args.text.now = omega (arith, c.in-Some.ensures.1, c.in-Some.ensures.2) in
    token_within c.args.text.now c.args.from c.in-Some.field-0.token _ before c.in-Some.ensures.0
