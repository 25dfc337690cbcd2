-- A legal history's commits are numbered without a gap.
use Rattle.std.specs.Prelude.{◌≡◌, refl, ℕ, ◌+◌, List, [], ◌∷◌, Some, None, length}
use Rattle.std.specs.List.{range_with_len}
use Rattle.std.proofs.Common.{arith, ap}
use Rattle.iq_history.specs.declared.entries.Entry.{Entry}
use Rattle.iq_history.specs.declared.entries.Entry.TheVariants as entries
use Rattle.iq_replay.specs.State.{State}
use Rattle.iq_replay.specs.Lines.{CanCommit}
use Rattle.iq_replay.specs.Entries.{IsPossible, change}
use Rattle.iq_replay.specs.Histories.{replay, IsLegal}
use Rattle.iq_replay.specs.Laws.{commits_in}
use Rattle.iq_replay.proofs.Lines.{OfLine-found}

-- the numbers that follow a commit, so many of them
pub record AreNext (latest now : ℕ) (commits : List ℕ) : Type 0 where
  pub numbers : commits ≡ range_with_len (latest + 1) (length commits)
  pub latest_is : now ≡ latest + length commits

pub commit_number : (s : State) (place l c : ℕ) → IsPossible s (entries.Commit place l c) → c ≡ s.latest + 1
unfolding IsPossible
commit_number s place l c h = (OfLine-found s place l (CanCommit s c) h).holds.number

AreNext-more : (s : State) (e : Entry) (now : ℕ) (es : List Entry) → IsPossible s e → AreNext (change s e).latest now (commits_in es) → AreNext s.latest now (commits_in (e ∷ es))
unfolding change
AreNext-more s (entries.Refused None l cause) now es h behind = behind
AreNext-more s (entries.Refused (Some place) l cause) now es h behind = behind
AreNext-more s (entries.Commit place l c) now es h behind =
    record { numbers = rw (commit_number s place l c h) (ap (λ (cs : List ℕ). (s.latest + 1) ∷ cs) behind.numbers); latest_is = omega (arith, behind.latest_is) }
AreNext-more s other now es h behind = behind

pub AreNext-replay : (s : State) (es : List Entry) → IsLegal s es → AreNext s.latest (replay s es).latest (commits_in es)
unfolding IsLegal replay
AreNext-replay s [] h = record { numbers = refl; latest_is = omega arith }
AreNext-replay s (e ∷ es) h = AreNext-more s e (replay (change s e) es).latest es h.0 (AreNext-replay (change s e) es h.1)
