-- Reading the lines of a script one by one.
use Rattle.std.proofs.Common.{◌≡◌, ℕ, zero, suc, ◌+◌, ◌-◌, ◌<◌, ◌≤◌, List, [], ◌∷◌, length, refl, sym, subst, arith, inl, inr}
use Rattle.iq_script.specs.declared.faults.LineFault.{LineFault}
use Rattle.iq_script.specs.declared.reading.Reading.{Reading}
use Rattle.iq_script.specs.Lines.{lines_of, text_of, is_doing}
use Rattle.iq_script.specs.Putting.{on}
use Rattle.std.specs.Prelude.{true}
use Rattle.iq_script.specs.Scripts.{start, Leads, IsFault, LeadTo, Stops, IsBounded, IsFirstFault}
use Rattle.iq_script.proofs.Kept.{IsKept, line_kept, data_kept, start_kept, kept_bounded}

-- The lines so far, up to this number, lead to this reading, and so many lines of data are still to come: what the rest leads to
-- the whole leads to, and where the rest stops the whole stops.
pub record IsSoFar (bytes rest : List ℕ) (number data_lines : ℕ) (r : Reading) : Type 0 where
  pub leads : (end : Reading) → LeadTo (number + 1) data_lines (lines_of rest) r end → LeadTo 1 0 (lines_of bytes) start end
  pub stops : (at : ℕ) (cause : LineFault) → Stops (number + 1) data_lines (lines_of rest) r at cause → IsFirstFault bytes at cause
  pub left : number + length rest ≤ length bytes
  pub kept : IsKept r (number + 1)

pub begins : (bytes : List ℕ) → IsSoFar bytes bytes 0 0 start
begins bytes = record { leads = λ end h. h; stops = λ at cause h. h; left = omega arith; kept = start_kept }

pub passes : (bytes rest line behind : List ℕ) (number d : ℕ) (r : Reading) → lines_of rest ≡ line ∷ lines_of behind → length behind < length rest
    → 0 < d → IsSoFar bytes rest number d r → IsSoFar bytes behind (number + 1) (d - 1) r
passes bytes rest line behind number zero r cut less some h = absurd (omega arith)
passes bytes rest line behind number (suc d) r cut less some h =
    let left : number + length rest ≤ length bytes = h.left in
    let one : suc d - 1 ≡ d = omega arith in
    rw one (record {
      leads = λ end lead. h.leads end (subst (λ (ls : List (List ℕ)). LeadTo (number + 1) (suc d) ls r end) (sym cut) lead);
      stops = λ at cause stop. h.stops at cause (subst (λ (ls : List (List ℕ)). Stops (number + 1) (suc d) ls r at cause) (sym cut) stop);
      left = omega arith;
      kept = data_kept r (number + 1) h.kept;
    })

pub goes_on : (bytes rest line behind : List ℕ) (number d n : ℕ) (old new : Reading) → lines_of rest ≡ line ∷ lines_of behind → length behind < length rest
    → d ≤ 0 → Leads (number + 1) line (lines_of behind) old (on new n) → IsSoFar bytes rest number d old → IsSoFar bytes behind (number + 1) n new
goes_on bytes rest line behind number (suc d) n old new cut less none lead h = absurd (omega arith)
goes_on bytes rest line behind number zero n old new cut less none lead h =
    let left : number + length rest ≤ length bytes = h.left in
    record {
      leads = λ end more. h.leads end (subst (λ (ls : List (List ℕ)). LeadTo (number + 1) 0 ls old end) (sym cut) (on new n, lead, more));
      stops = λ at cause stop. h.stops at cause (subst (λ (ls : List (List ℕ)). Stops (number + 1) 0 ls old at cause) (sym cut) (inr (on new n, lead, stop)));
      left = omega arith;
      kept = line_kept (number + 1) line (lines_of behind) old (on new n) lead h.kept;
    }

pub stopped : (bytes rest line behind : List ℕ) (number d : ℕ) (old : Reading) (cause : LineFault) → lines_of rest ≡ line ∷ lines_of behind → d ≤ 0
    → (is_doing (text_of line) ≡ true) × IsFault cause (number + 1) (text_of line) (lines_of behind) old → IsSoFar bytes rest number d old → IsFirstFault bytes (number + 1) cause
stopped bytes rest line behind number (suc d) old cause cut none fault h = absurd (omega arith)
stopped bytes rest line behind number zero old cause cut none fault h =
    h.stops (number + 1) cause (subst (λ (ls : List (List ℕ)). Stops (number + 1) 0 ls old (number + 1) cause) (sym cut) (inl (refl, fault.0, fault.1)))

pub ended : (bytes rest : List ℕ) (number d : ℕ) (r : Reading) → rest ≡ [] → IsSoFar bytes rest number d r → LeadTo 1 0 (lines_of bytes) start r
ended bytes rest number d r none h = h.leads r (subst (λ (x : List ℕ). LeadTo (number + 1) d (lines_of x) r r) (sym none) refl)

pub bounded : (bytes rest : List ℕ) (number d : ℕ) (r : Reading) → IsSoFar bytes rest number d r → IsBounded r
bounded bytes rest number d r h = kept_bounded r (number + 1) h.kept
