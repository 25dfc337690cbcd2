use Rattle.std.proofs.Common.{◌≡◌, take}
use Rattle.iq_replay.specs.Changes.{without_report}
use Rattle.iq_plain_state.proofs.reports.without_report.Given as goal

abbrev pub invariant-loop-report : goal.invariant-loop-report
invariant-loop-report l = l.kept.items ≡ without_report l.number (take l.report-index l.bag)
