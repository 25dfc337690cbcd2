-- How the program ends: what each end says of the words, the script, the output and the counts of faults.
use Rattle.std.specs.Prelude.{◌≡◌, ◌+◌, ◌≤◌, ◌<◌, ◌⊎◌, ℕ, List, Option, Some, length}
use Rattle.iq_model.specs.declared.scripts.Script.{Script}
use Rattle.iq_outside.specs.Faults.{RoseWithin}
use Rattle.iq_outside.specs.Whole.{IsLongerThan, TakesAtMost, TakesExactly}
use Rattle.iq_script.specs.Scripts.{IsRunScriptOf, IsRefused}
use Rattle.iq_script.specs.declared.faults.LineFault.{LineFault}
use Rattle.iq_script.specs.declared.scripts.TheConstants.{MOST_BYTES}
use Rattle.iq_run.specs.declared.ends.EndCause.{EndCause}
use Rattle.iq_run.specs.declared.ends.EndCause.TheVariants as ends
use Rattle.iq_run.specs.Words.{IsStepCommand}
use Rattle.iq_run.specs.Streams.{Input, Output, IsReadWhole, IsUntouched, IsUnwritten}
use Rattle.iq_run.specs.Runs.{WroteTranscript, WroteFront}
use Rattle.iq_run.specs.Reports.{IsReported}

-- where the source tells what was to come, that was this script, which is run, and not too long
pub record IsScriptFrom (left : Option (List ℕ)) (script : Script) : Type 0 where
  pub is : (bytes : List ℕ) → left ≡ Some bytes → IsRunScriptOf bytes script
  pub short : (bytes : List ℕ) → left ≡ Some bytes → length bytes ≤ MOST_BYTES

-- where the source tells what was to come, that line is the first that is faulty, for this cause, or, where none is, the first that
-- isn't run today; and the script isn't too long
pub record IsFaultFrom (left : Option (List ℕ)) (line : ℕ) (cause : LineFault) : Type 0 where
  pub is : (bytes : List ℕ) → left ≡ Some bytes → IsRefused bytes line cause
  pub short : (bytes : List ℕ) → left ≡ Some bytes → length bytes ≤ MOST_BYTES

-- why no script was read: its first faulty line, a fault of the source, too many bytes, or want of memory
abbrev pub IsUnread : Input → EndCause → Type 0
IsUnread i ends.Done = ⊥
IsUnread i ends.Usage = ⊥
IsUnread i (ends.ScriptFault line cause) = IsFaultFrom i.left line cause
IsUnread i (ends.ReadFault before after) = RoseWithin i.first before after i.last
IsUnread i (ends.OutFault before after) = ⊥
IsUnread i ends.NoMemory = Unit {0}
IsUnread i ends.TooLong = IsLongerThan MOST_BYTES i.left

-- at most so many bytes were read, and no read failed
pub record IsReadUpTo (most : ℕ) (i : Input) : Type 0 where
  pub took : TakesAtMost most i.left i.left_now
  pub calm : i.last ≡ i.first

-- so many bytes were read, and no read failed
pub record IsReadOf (count : ℕ) (i : Input) : Type 0 where
  pub took : TakesExactly count i.left i.left_now
  pub calm : i.last ≡ i.first

-- How much was read at each end: all of the script, nothing of it where the words are wrong, one byte past the longest
-- script where it is too long, and never more than the longest script before a fault.
abbrev pub HasRead : EndCause → Input → Type 0
HasRead ends.Done i = IsReadWhole i
HasRead ends.Usage i = IsUntouched i
HasRead (ends.ScriptFault line cause) i = IsReadWhole i
HasRead (ends.ReadFault before after) i = TakesAtMost MOST_BYTES i.left i.left_now
HasRead (ends.OutFault before after) i = IsReadWhole i
HasRead ends.NoMemory i = IsReadUpTo MOST_BYTES i
HasRead ends.TooLong i = IsReadOf (MOST_BYTES + 1) i

-- nothing was written to the output, and no script was read for this cause
pub record EndsUnread (words : List (List ℕ)) (i : Input) (o : Output) (cause : EndCause) : Type 0 where
  pub command : IsStepCommand words
  pub unread : IsUnread i cause
  pub nothing : IsUnwritten o

-- the words aren't of the grammar, and nothing was written
pub record EndsUsage (words : List (List ℕ)) (o : Output) : Type 0 where
  pub command : ¬ (IsStepCommand words)
  pub nothing : IsUnwritten o

-- the script's transcript was written
pub record EndsDone (words : List (List ℕ)) (i : Input) (o : Output) : Type 0 where
  pub command : IsStepCommand words
  pub script : Script
  pub read : IsScriptFrom i.left script
  pub wrote : WroteTranscript script o

-- a front of the script's transcript was written
pub record EndsWriting (words : List (List ℕ)) (i : Input) (o : Output) (before after : ℕ) : Type 0 where
  pub command : IsStepCommand words
  pub script : Script
  pub read : IsScriptFrom i.left script
  pub wrote : WroteFront script o before after

-- what each end that is met says
abbrev pub IsMet : List (List ℕ) → Input → Output → EndCause → Type 0
IsMet words i o ends.Done = EndsDone words i o
IsMet words i o ends.Usage = EndsUsage words o
IsMet words i o (ends.ScriptFault line cause) = EndsUnread words i o (ends.ScriptFault line cause)
IsMet words i o (ends.ReadFault before after) = EndsUnread words i o (ends.ReadFault before after)
IsMet words i o (ends.OutFault before after) = EndsWriting words i o before after
IsMet words i o ends.NoMemory = EndsUnread words i o ends.NoMemory
IsMet words i o ends.TooLong = EndsUnread words i o ends.TooLong

-- The program's promise: the end that it met has its cause, as much was read as that end says, and standard error and the
-- status tell it.
pub record HasEnded (words : List (List ℕ)) (status : ℕ) (i : Input) (o err : Output) : Type 0 where
  pub met : EndCause
  pub cause : IsMet words i o met
  pub read : HasRead met i
  pub reported : IsReported met status err

-- no call of a source or a sink failed meanwhile: the count is as before, and not at its last value
pub record IsSteady (first last : ℕ) : Type 0 where
  pub same : last ≡ first
  pub before_last : first < 18446744073709551615

-- no call of the three streams failed
pub record AreSteady (i : Input) (o err : Output) : Type 0 where
  pub source : IsSteady i.first i.last
  pub sink : IsSteady o.first o.last
  pub errors : IsSteady err.first err.last

-- the source tells that it gives this script, which isn't too long
pub record Gives (i : Input) (bytes : List ℕ) (script : Script) : Type 0 where
  pub told : i.left ≡ Some bytes
  pub is : IsRunScriptOf bytes script
  pub short : length bytes ≤ MOST_BYTES

-- What follows: with words of the grammar, a script that is run and told and not too long, and no count that rose, all
-- was done, or memory was wanting.
abbrev pub IsComplete : List (List ℕ) → ℕ → Input → Output → Output → Type 0
IsComplete words status i o err =
    IsStepCommand words → (bytes : List ℕ) (script : Script) → Gives i bytes script → AreSteady i o err → (status ≡ 0) ⊎ (status ≡ 8)
