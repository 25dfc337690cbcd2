-- What a run of a script writes.
use Rattle.std.specs.Prelude.{◌≡◌, ℕ, List, ◌++◌, All, Some, map}
use Rattle.iq_base.specs.declared.refusals.Census.{Census}
use Rattle.iq_history.specs.State.{HistoryState}
use Rattle.iq_history.specs.declared.entries.Entry.{Entry}
use Rattle.iq_model.specs.declared.scripts.Line.{Line}
use Rattle.iq_model.specs.declared.scripts.Script.{Script}
use Rattle.iq_model.specs.declared.replies.Reply.{Reply}
use Rattle.iq_replay.specs.Histories.{IsWhole, replay, replies}
use Rattle.iq_control.specs.Opened.{names_of_nodes, names_of_sessions}
use Rattle.iq_outside.specs.Faults.{RoseWithin}
use Rattle.iq_outside.specs.Streams.{Grows}
use Rattle.iq_outside.specs.Whole.{GrowsByFront}
use Rattle.iq_render.specs.Placed.{IsPlacedSaid}
use Rattle.iq_render.specs.Whole.{transcript_text}
use Rattle.iq_plex.specs.declared.plex.Plex.{Plex}
use Rattle.iq_plex.specs.Standing.{first_of, IsBetween}
use Rattle.iq_run.specs.Streams.{Output, IsUnwritten}
use Rattle.iq_run.specs.declared.ends.EndCause.{EndCause}
use Rattle.iq_run.specs.declared.ends.EndCause.TheVariants as ends

-- no block is counted while tables are in memory
abbrev pub no_blocks : Census
no_blocks = record { free = 0; reserved = 0; private = 0; reached = 0; waiting = 0 }

-- these entries under the script's names
abbrev pub history_of : Script → List Entry → HistoryState
history_of script es = record { nodes = names_of_nodes script; sessions = names_of_sessions script; entries = es; room = 0 }

-- The bytes are the transcript of one legal history of all lines of the script, from no tables: each line's reply, in the lines'
-- order, the entries, and the census.
pub record IsTranscript (script : Script) (bytes : List ℕ) : Type 0 where
  pub entries : List Entry
  pub answers : List Reply
  pub whole : IsWhole (first_of script) entries
  pub each : replies (replay (first_of script) entries) script.lines ≡ map Some answers
  pub bytes_are : bytes ≡ transcript_text answers (history_of script entries) no_blocks

-- the transcript was written whole, and no write failed
pub record WroteTranscript (script : Script) (o : Output) : Type 0 where
  pub bytes : List ℕ
  pub transcript : IsTranscript script bytes
  pub wrote : Grows bytes o.written o.written_now
  pub calm : o.last ≡ o.first

-- a front of it was written, but not all, and the sink's count of faults rose so
pub record WroteFront (script : Script) (o : Output) (before after : ℕ) : Type 0 where
  pub bytes : List ℕ
  pub transcript : IsTranscript script bytes
  pub wrote : GrowsByFront bytes o.written o.written_now
  pub rose : RoseWithin o.first before after o.last

-- how a run of a script ends: its transcript is written, or a front of it at a fault of the sink, or nothing for want of memory
abbrev pub EndsRun : Script → Output → EndCause → Type 0
EndsRun script o ends.Done = WroteTranscript script o
EndsRun script o ends.Usage = ⊥
EndsRun script o (ends.ScriptFault line cause) = ⊥
EndsRun script o (ends.ReadFault before after) = ⊥
EndsRun script o (ends.OutFault before after) = WroteFront script o before after
EndsRun script o ends.NoMemory = IsUnwritten o
EndsRun script o ends.TooLong = ⊥

-- the numbers of lines, and of the lines that are answered
abbrev pub numbers_of : List Line → List ℕ
numbers_of lines = map (λ (line : Line). line.number) lines

abbrev pub answered_by : List Reply → List ℕ
answered_by rs = map (λ (r : Reply). r.line) rs

-- of some lines those before the ones that are left were run, each with its reply
pub record RunsLines (old : Plex) (lines left : List Line) (rs : List Reply) (new : Plex) : Type 0 where
  pub same_script : new.control.script ≡ old.control.script
  pub between : IsBetween new left rs
  pub answered : answered_by rs ++ numbers_of left ≡ numbers_of lines
  pub placed : All (λ (r : Reply). IsPlacedSaid 1 1 r.said) rs
