-- A step as the plain program keeps it.
use Rattle.iq_opening.specs.Tables.{coded}
use Rattle.iq_opening.specs.Steps.{Step}
use Rattle.iq_plain_opening.specs.declared.steps.Ask.{Ask}
use Rattle.iq_plain_opening.specs.declared.steps.Ask.TheVariants.{Visit, VisitMap, Table}

-- the step that asks this
abbrev pub step_of : Ask → Step
step_of (Visit holder at kind) = Step.visit holder at kind
step_of (VisitMap holder at level used) = Step.visit_map holder at level used
step_of (Table head before) = Step.table coded head before
