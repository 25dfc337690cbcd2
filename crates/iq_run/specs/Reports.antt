-- What the program tells of an end: its status, and a line for standard error.
use Rattle.std.specs.Prelude.{◌≡◌, ◌⊎◌, ℕ, List, [], ◌++◌, codes}
use Rattle.std.specs.Fmt.{decimal}
use Rattle.iq_outside.specs.Faults.{RoseWithin}
use Rattle.iq_outside.specs.Streams.{Grows}
use Rattle.iq_outside.specs.Whole.{GrowsByFront}
use Rattle.iq_script.specs.Faults.{fault_text}
use Rattle.iq_script.specs.declared.faults.ScriptRefusal.{ScriptRefusal}
use Rattle.iq_script.specs.declared.faults.ScriptRefusal.TheVariants as refusals
use Rattle.iq_run.specs.Streams.{Output}
use Rattle.iq_run.specs.declared.ends.EndCause.{EndCause}
use Rattle.iq_run.specs.declared.ends.EndCause.TheVariants as ends

-- the end that a refused script leads to
abbrev pub end_of : ScriptRefusal → EndCause
end_of (refusals.ScriptFault line cause) = ends.ScriptFault line cause
end_of refusals.NoMemory = ends.NoMemory

-- the exit status of each end
abbrev pub status_of : EndCause → ℕ
status_of ends.Done = 0
status_of ends.Usage = 2
status_of (ends.ScriptFault line cause) = 3
status_of (ends.ReadFault before after) = 6
status_of (ends.OutFault before after) = 7
status_of ends.NoMemory = 8
status_of ends.TooLong = 9

-- two counts of faults
abbrev pub counts_text : ℕ → ℕ → List ℕ
counts_text before after = decimal before ++ codes " " ++ decimal after

-- the line that is printed for an end; there is none where all was done
abbrev pub report_text : EndCause → List ℕ
report_text ends.Done = []
report_text ends.Usage = codes "usage: iqmux STORE format --blocks N | step | threads [--seed N] | make [--seed N] [--rows N]\n"
report_text (ends.ScriptFault line cause) = codes "iqmux: line " ++ decimal line ++ codes " " ++ fault_text cause ++ codes "\n"
report_text (ends.ReadFault before after) = codes "iqmux: read fault " ++ counts_text before after ++ codes "\n"
report_text (ends.OutFault before after) = codes "iqmux: write fault " ++ counts_text before after ++ codes "\n"
report_text ends.NoMemory = codes "iqmux: no memory\n"
report_text ends.TooLong = codes "iqmux: too long\n"

-- Standard error has the line of the end that was met, and the status is its own; or it has a front of that line, its count
-- of faults rose, and the status is that of a failed output. Where the output itself had failed the status is that in any case.
abbrev pub IsReported : EndCause → ℕ → Output → Type 0
IsReported met status err =
    ((status ≡ status_of met) × Grows (report_text met) err.written err.written_now)
    ⊎ ((status ≡ 7) × GrowsByFront (report_text met) err.written err.written_now × ((x : ℕ) × (y : ℕ) × RoseWithin err.first x y err.last))
