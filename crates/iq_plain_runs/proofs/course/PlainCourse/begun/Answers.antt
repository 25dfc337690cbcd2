use Rattle.iq_plain_runs.proofs.Comes.{course_begun}
use Rattle.iq_plain_runs.proofs.course.PlainCourse.begun.Goals as goal

pub invariant_of-result : goal.invariant_of-result
invariant_of-result c = rw (c.of.ensures, c.new.ensures) (course_begun c.args.state)
