-- Commits of legal histories: numbered without a gap, and kept once they were made.
use Rattle.std.specs.Prelude.{◌≡◌, ◌≢◌, ◌≤◌, ◌<◌, ◌⊎◌, refl, ℕ, ◌+◌, zero, suc, true, false, List, [], ◌∷◌, ◌++◌, Some, None, nat_eq, length}
use Rattle.std.specs.List.{slice_get}
use Rattle.std.proofs.Common.{◌∙◌, arith, length-append, inl, inr}
use Rattle.std.proofs.lemmas.Bool.{ne_eqb}
use Rattle.std.proofs.lemmas.Bool.Decides.{eqb_tells}
use Rattle.iq_history.specs.declared.entries.Entry.{Entry}
use Rattle.iq_history.specs.declared.entries.Entry.TheVariants as entries
use Rattle.iq_replay.specs.State.{State}
use Rattle.iq_replay.specs.Commits.{database_of}
use Rattle.iq_replay.specs.Entries.{change}
use Rattle.iq_replay.specs.Histories.{replay}

-- the commits before the latest are as many as its number
pub record IsCounted (s : State) : Type 0 where
  pub count : length s.older ≡ s.latest

pub IsCounted-change : (s : State) (e : Entry) → IsCounted s → IsCounted (change s e)
unfolding change
IsCounted-change s (entries.Refused None l cause) h = record { count = h.count }
IsCounted-change s (entries.Refused (Some place) l cause) h = record { count = h.count }
IsCounted-change s (entries.Commit place l c) h = record { count = omega (arith, length-append s.older (s.newest ∷ []), h.count) }
IsCounted-change s other h = record { count = h.count }

slice_get-front : {X : Type 0} (xs : List X) (x : X) (i : ℕ) → i < length xs → slice_get (xs ++ x ∷ []) i ≡ slice_get xs i
slice_get-front [] x i h = absurd (omega (arith, h))
slice_get-front (y ∷ ys) x zero h = refl
slice_get-front (y ∷ ys) x (suc i) h = slice_get-front ys x i (omega arith)

slice_get-last : {X : Type 0} (xs : List X) (x : X) (i : ℕ) → i ≡ length xs → slice_get (xs ++ x ∷ []) i ≡ Some x
slice_get-last [] x zero h = refl
slice_get-last [] x (suc i) h = absurd (omega (arith, h))
slice_get-last (y ∷ ys) x zero h = absurd (omega (arith, h))
slice_get-last (y ∷ ys) x (suc i) h = slice_get-last ys x i (omega arith)

-- no entry changes the tables of a commit that was made
pub database_of-change : (s : State) (e : Entry) (c : ℕ) → IsCounted s → c ≤ s.latest → database_of (change s e) c ≡ database_of s c
unfolding change
database_of-change s (entries.Refused None l cause) c h below = refl
database_of-change s (entries.Refused (Some place) l cause) c h below = refl
database_of-change s (entries.Commit place l d) c h below = at_commit (eqb_tells c s.latest)
  where
    at_commit : ((nat_eq c s.latest ≡ true) × (c ≡ s.latest)) ⊎ ((nat_eq c s.latest ≡ false) × (c ≢ s.latest)) → database_of (change s (entries.Commit place l d)) c ≡ database_of s c
    at_commit (inl p) = simp (ne_eqb c (s.latest + 1) (omega arith), p.0, slice_get-last s.older s.newest c (omega (arith, h.count, p.1))) refl
    at_commit (inr p) = simp (ne_eqb c (s.latest + 1) (omega arith), p.0, slice_get-front s.older s.newest c (omega (arith, h.count, p.1))) refl
database_of-change s other c h below = refl

pub IsCounted-replay : (s : State) (es : List Entry) → IsCounted s → IsCounted (replay s es)
unfolding replay
IsCounted-replay s [] h = h
IsCounted-replay s (e ∷ es) h = IsCounted-replay (change s e) es (IsCounted-change s e h)

latest-rises : (s : State) (e : Entry) → s.latest ≤ (change s e).latest
unfolding change
latest-rises s (entries.Refused None l cause) = omega arith
latest-rises s (entries.Refused (Some place) l cause) = omega arith
latest-rises s (entries.Commit place l c) = omega arith
latest-rises s other = omega arith

-- a commit that was made keeps its tables, whatever entries come
pub database_of-replay : (s : State) (es : List Entry) (c : ℕ) → IsCounted s → c ≤ s.latest → database_of (replay s es) c ≡ database_of s c
unfolding replay
database_of-replay s [] c h low = refl
database_of-replay s (e ∷ es) c h low =
    database_of-replay (change s e) es c (IsCounted-change s e h) (omega (arith, low, latest-rises s e)) ∙ database_of-change s e c h low
