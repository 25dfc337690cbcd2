-- A session without tables and answers changes as the session does.
use Rattle.std.specs.Prelude.{◌≡◌, refl, ⊤, ℕ, zero, suc, Bool, true, false, List, [], ◌∷◌, Some, map, drop, if◌then◌else◌}
use Rattle.std.specs.List.{slice_get}
use Rattle.std.specs.Option.{option_map}
use Rattle.std.proofs.Common.{ap, append-nil}
use Rattle.iq_base.specs.Shorts.{Name}
use Rattle.iq_base.specs.declared.refusals.Refusal.{Refusal}
use Rattle.iq_ast.specs.declared.statements.Statement.{Statement}
use Rattle.iq_ast.specs.declared.statements.Statement.TheVariants as statements
use Rattle.iq_model.specs.declared.replies.Said.{Said}
use Rattle.iq_statements.specs.Tables.{Database}
use Rattle.iq_statements.specs.Statements.{creates, Begins}
use Rattle.iq_conditions.specs.Servers.{same_name}
use Rattle.iq_replay.specs.State.{Session, done, Standing, idle, lost, running, Run, Save, changed_at}
use Rattle.iq_replay.specs.Causes.{tells_lost}
use Rattle.iq_replay.specs.Changes.{begins, locks_more, takes_effect, took_effect, took_own, took_for_all, refused, commits, ends, rolls_back, ends_line, ends_run, works, saves_as, back_to, release_to, saves_from, after_refusal}
use Rattle.iq_sessions.specs.Bare.{bare_session, bare_standing, bare_run, bare_save, bare_work}
use Rattle.iq_sessions.specs.Changes as bare
use Rattle.iq_control.specs.Asked.{is_own}

-- LISTS

pub map_changed : (n : ℕ) (f g : Session → Session) (ss : List Session) → ((session : Session) → slice_get ss n ≡ Some session → bare_session (f session) ≡ g (bare_session session))
    → map bare_session (changed_at n f ss) ≡ changed_at n g (map bare_session ss)
map_changed n f g [] same = refl
map_changed zero f g (s ∷ ss) same = rw (same s refl) refl
map_changed (suc n) f g (s ∷ ss) same = ap (λ xs. bare_session s ∷ xs) (map_changed n f g ss same)

pub get_bare : (n : ℕ) (ss : List Session) → slice_get (map bare_session ss) n ≡ option_map bare_session (slice_get ss n)
get_bare n [] = refl
get_bare zero (s ∷ ss) = refl
get_bare (suc n) (s ∷ ss) = get_bare n ss

-- LINES

pub bare_lock : (names : List Name) (session : Session) → bare_session (locks_more names session) ≡ locks_more names (bare_session session)
bare_lock names session = by_standing session.standing
  where
    by_standing : (standing : Standing) → bare_session (locks_more names (record session { standing = standing })) ≡ locks_more names (bare_session (record session { standing = standing }))
    by_standing idle = refl
    by_standing lost = refl
    by_standing (running run) = refl

bare_after : (cause : Refusal) (standing : Standing) → bare_standing (after_refusal cause standing) ≡ after_refusal cause (bare_standing standing)
bare_after cause idle = refl
bare_after cause lost = by_told (tells_lost cause)
  where
    by_told : (b : Bool) → bare_standing (if b then idle else lost) ≡ (if b then idle else lost)
    by_told true = refl
    by_told false = refl
bare_after cause (running run) = by_own run.own
  where
    by_own : (b : Bool) → bare_standing (if b then idle else running (record run { now = run.start })) ≡ (if b then idle else running (record (bare_run run) { now = bare_work run.start }))
    by_own true = refl
    by_own false = refl

pub bare_refused : (l : ℕ) (cause : Refusal) (session : Session) → bare_session (refused l cause session) ≡ bare.refuses cause (bare_session session)
bare_refused l cause session = rw (bare_after cause session.standing) refl

pub bare_ends : (l : ℕ) (session : Session) → bare_session (ends l session) ≡ bare.ends_both (bare_session session)
bare_ends l session = refl

pub bare_rolls : (l : ℕ) (session : Session) → bare_session (rolls_back (suc l) session) ≡ bare.ends_both (bare_session session)
bare_rolls l session = refl

pub bare_rolls_at_end : (session : Session) → bare_session (rolls_back zero session) ≡ ends_run (bare_session session)
bare_rolls_at_end session = refl

pub bare_commits : (l c : ℕ) (session : Session) → bare_session (commits l c session) ≡ bare.ends_both (bare_session session)
bare_commits l c session = refl

pub bare_begins : (statement : Statement) (l c : ℕ) (db : Database) (session : Session) → Begins statement → bare_session (begins (Some statement) l c db session) ≡ bare.begins_at (is_own statement) c (bare_session session)
bare_begins (statements.Write write) l c db session h = refl
bare_begins (statements.Select select) l c db session h = refl
bare_begins statements.Begin l c db session h = refl
bare_begins statements.Commit l c db session h = absurd h
bare_begins statements.Rollback l c db session h = absurd h
bare_begins (statements.Savepoint name) l c db session h = absurd h
bare_begins (statements.BackTo name) l c db session h = absurd h
bare_begins (statements.Release name) l c db session h = absurd h
bare_begins statements.Sync l c db session h = absurd h

-- EFFECTS

-- in a transaction of the session's nothing is created
abbrev pub CreatesAlone : Standing → List Name → Type 0
CreatesAlone idle names = ⊤
CreatesAlone lost names = ⊤
CreatesAlone (running run) names = run.own ≡ false → names ≡ []

bare_take_in : (own : Bool) (statement : Statement) (l : ℕ) (run : Run) (session : Session) → (own ≡ false → creates statement ≡ [])
    → bare_session (if own then took_own statement run session else took_for_all statement l run session)
    ≡ (if own then record (bare_session session) { standing = running (bare.creates_more (creates statement) (bare_run run)); stage = done } else bare.ends_line (record (bare_session session) { standing = running (bare.keeps_work (bare_run run)) }))
bare_take_in true statement l run session alone = refl
bare_take_in false statement l run session alone = rw (alone refl) (simp append-nil refl)

pub bare_takes : (statement : Statement) (l : ℕ) (session : Session) → CreatesAlone session.standing (creates statement)
    → bare_session (takes_effect (Some statement) l session) ≡ bare.takes (creates statement) (bare_session session)
bare_takes statement l session alone = by_standing session.standing alone
  where
    by_standing : (standing : Standing) → CreatesAlone standing (creates statement) → bare_session (took_effect statement l standing session) ≡ bare.took (creates statement) (bare_standing standing) (bare_session session)
    by_standing idle alone = refl
    by_standing lost alone = refl
    by_standing (running run) alone = bare_take_in run.own statement l run session alone

-- SAVEPOINTS

bare_from : (name : Name) (ss : List Save) → map bare_save (saves_from name ss) ≡ saves_from name (map bare_save ss)
bare_from name [] = refl
bare_from name (s ∷ ss) = by_name (same_name s.name name) refl (bare_from name ss)
  where
    by_name : (b : Bool) → same_name s.name name ≡ b → map bare_save (saves_from name ss) ≡ saves_from name (map bare_save ss) → map bare_save (saves_from name (s ∷ ss)) ≡ saves_from name (map bare_save (s ∷ ss))
    by_name true q more = rw (q) refl
    by_name false q more = rw (q) more

drop_map : (ss : List Save) → map bare_save (drop 1 ss) ≡ drop 1 (map bare_save ss)
drop_map [] = refl
drop_map (s ∷ ss) = refl

pub bare_saves : (l : ℕ) (what : Said) (name : Name) (session : Session) → bare_session (ends_line l what (works (saves_as name) session)) ≡ bare.saves name (bare_session session)
bare_saves l what name session = by_standing session.standing
  where
    by_standing : (standing : Standing) → bare_session (ends_line l what (works (saves_as name) (record session { standing = standing }))) ≡ bare.saves name (bare_session (record session { standing = standing }))
    by_standing idle = refl
    by_standing lost = refl
    by_standing (running run) = refl

pub bare_back : (l : ℕ) (what : Said) (name : Name) (session : Session) → bare_session (ends_line l what (works (back_to name) session)) ≡ bare.goes_back name (bare_session session)
bare_back l what name session = by_standing session.standing
  where
    by_standing : (standing : Standing) → bare_session (ends_line l what (works (back_to name) (record session { standing = standing }))) ≡ bare.goes_back name (bare_session (record session { standing = standing }))
    by_standing idle = refl
    by_standing lost = refl
    by_standing (running run) = rw (← bare_from name run.saves) refl

pub bare_release : (l : ℕ) (what : Said) (name : Name) (session : Session) → bare_session (ends_line l what (works (release_to name) session)) ≡ bare.releases name (bare_session session)
bare_release l what name session = by_standing session.standing
  where
    by_standing : (standing : Standing) → bare_session (ends_line l what (works (release_to name) (record session { standing = standing }))) ≡ bare.releases name (bare_session (record session { standing = standing }))
    by_standing idle = refl
    by_standing lost = refl
    by_standing (running run) = rw (← bare_from name run.saves, ← drop_map (saves_from name run.saves)) refl
