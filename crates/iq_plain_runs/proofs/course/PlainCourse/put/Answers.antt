use Rattle.std.proofs.Common.{rules, ◌≡◌, ◌≤◌}
use Rattle.iq_plain_runs.specs.Courses.{IsNextOf}
use Rattle.iq_plain_runs.proofs.Comes.{course_came}
use Rattle.iq_plain_runs.proofs.course.PlainCourse.put.Goals as goal

pub invariant_of-result : goal.invariant_of-result
invariant_of-result c =
    let state_is : c.self.inside.state ≡ c.args.self.state = search rules in
    let next : IsNextOf c.self.inside.state c.args.l c.args.entry = rw state_is c.requires in
    let above : c.self.inside.low ≤ c.args.l = search rules in
    rw (c.in_ok-change.ensures, c.in_ok-push.ensures.ok) (course_came _ _ _ _ _ _ c.self.invariant next above)
