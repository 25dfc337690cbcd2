use Rattle.std.proofs.Common.{◌≡◌}
use Rattle.iq_plain_runs.proofs.course.PlainCourse.session_line.Given as goal

abbrev pub invariant-loop : goal.invariant-loop
invariant-loop l = l.course.first ≡ l.fn.self.first
