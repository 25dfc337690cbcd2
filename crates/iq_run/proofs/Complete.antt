-- Where nothing failed, all was done, or memory was wanting.
use Rattle.std.proofs.Common.{◌≡◌, ℕ, List, refl, sym, ◌∙◌, arith, inl, inr}
use Rattle.iq_outside.specs.Faults.{RoseWithin}
use Rattle.iq_script.proofs.ScriptLaws.{run_or_refused}
use Rattle.iq_run.specs.declared.ends.EndCause.{EndCause}
use Rattle.iq_run.specs.declared.ends.EndCause.TheVariants as ends
use Rattle.iq_model.specs.declared.scripts.Script.{Script}
use Rattle.iq_script.specs.declared.scripts.TheConstants.{MOST_BYTES}
use Rattle.iq_run.specs.Streams.{Input, Output, IsReadWhole}
use Rattle.iq_run.specs.Runs.{EndsRun}
use Rattle.iq_run.specs.Reports.{status_of, IsReported}
use Rattle.iq_run.specs.Ends.{IsMet, IsSteady, IsComplete, IsReadUpTo, HasRead}

-- a count that stood still rose between no two numbers
no_rise : (first x y last : ℕ) → IsSteady first last → RoseWithin first x y last → ⊥
no_rise first x y last steady rose =
    let same = steady.same in let low = steady.before_last in let a = rose.since in let b = rose.risen in let c = rose.until in omega arith

-- so the status is that of what was met
own_status : (met : EndCause) (status : ℕ) (err : Output) → IsSteady err.first err.last → IsReported met status err → (n : ℕ) → n ≡ status_of met → status ≡ n
own_status met status err steady (inl h) n is = h.0 ∙ sym is
own_status met status err steady (inr h) n is = absurd (no_rise err.first h.2.0 h.2.1 err.last steady h.2.2)

-- a script that is run was read
pub read_of_run : (script : Script) (i : Input) (o : Output) (cause : EndCause) → IsReadWhole i → IsReadUpTo MOST_BYTES i → EndsRun script o cause → HasRead cause i
read_of_run script i o ends.Done whole up_to ran = whole
read_of_run script i o ends.Usage whole up_to ran = absurd ran
read_of_run script i o (ends.ScriptFault line cause) whole up_to ran = absurd ran
read_of_run script i o (ends.ReadFault before after) whole up_to ran = absurd ran
read_of_run script i o (ends.OutFault before after) whole up_to ran = whole
read_of_run script i o ends.NoMemory whole up_to ran = up_to
read_of_run script i o ends.TooLong whole up_to ran = absurd ran

pub complete_of : (words : List (List ℕ)) (status : ℕ) (i : Input) (o err : Output) (met : EndCause) → IsMet words i o met → IsReported met status err → IsComplete words status i o err
complete_of words status i o err ends.Done met reported = λ command bytes script gives steady. inl (own_status ends.Done status err steady.errors reported 0 refl)
complete_of words status i o err ends.Usage met reported = λ command bytes script gives steady. absurd (met.command command)
complete_of words status i o err (ends.ScriptFault line cause) met reported = λ command bytes script gives steady.
    absurd (run_or_refused bytes script line cause gives.is (met.unread.is bytes gives.told))
complete_of words status i o err (ends.ReadFault before after) met reported = λ command bytes script gives steady.
    absurd (no_rise i.first before after i.last steady.source met.unread)
complete_of words status i o err (ends.OutFault before after) met reported = λ command bytes script gives steady.
    absurd (no_rise o.first before after o.last steady.sink met.wrote.rose)
complete_of words status i o err ends.NoMemory met reported = λ command bytes script gives steady. inr (own_status ends.NoMemory status err steady.errors reported 8 refl)
complete_of words status i o err ends.TooLong met reported = λ command bytes script gives steady.
    let long = met.unread bytes gives.told in let short = gives.short in absurd (omega arith)
