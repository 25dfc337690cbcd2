use Rattle.std.proofs.Common.{rules, ◌≡◌, Some}
use Rattle.iq_replay.specs.Lines.{first_running}
use Rattle.iq_plain_runs.proofs.Comes.{course_closed}
use Rattle.iq_plain_runs.proofs.course.PlainCourse.put_close.Goals as goal

pub invariant_of-result : goal.invariant_of-result
invariant_of-result c =
    let state_is : c.self.inside.state ≡ c.args.self.state = search rules in
    let first : first_running 0 c.self.inside.state.sessions ≡ Some c.args.s = rw state_is c.requires in
    rw (c.in_ok-change.ensures, c.in_ok-push.ensures.ok) (course_closed _ _ _ _ _ c.self.invariant first)
