use Rattle.std.proofs.Common.{ap, ◌∙◌, List, length, arith}
use Rattle.std.specs.List.{fold}
use Rattle.std.proofs.lemmas.List.{take_all}
use Rattle.iq_world.specs.declared.worlds.WorldRun.{WorldRun}
use Rattle.iq_world.specs.World.{node_at}
use Rattle.iq_world.proofs.Lows.{lower, floor_is}
use Rattle.iq_world.proofs.worlds.World.floor.Goals as goal

pub returns : goal.returns
returns c =
    let w = c.args.self.now in
    let n = c.args.node in
    c.loop-run.invariant ∙ ap (λ (rs : List WorldRun). fold (lower n) (node_at w n).position rs) (take_all c.loop-run.run-index w.runs (omega (arith, ap (λ (rs : List WorldRun). length rs) c.as_slice-run-items.ensures)))
    ∙ floor_is n (node_at w n).position w.runs
