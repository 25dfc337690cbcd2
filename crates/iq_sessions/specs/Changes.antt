-- What an entry changes in a session without tables and answers.
use Rattle.std.specs.Prelude.{ℕ, Bool, true, false, List, [], ◌++◌, drop, if◌then◌else◌}
use Rattle.iq_base.specs.Shorts.{Name}
use Rattle.iq_base.specs.declared.refusals.Refusal.{Refusal}
use Rattle.iq_replay.specs.State.{Session, fresh, done, Standing, idle, lost, running, Run}
use Rattle.iq_replay.specs.Changes.{ends_run, works, begin_run, begins_own, after_refusal, saves_as, saves_from, release_to}

-- the session goes on with its next line
abbrev pub ends_line : Session → Session
ends_line session = record session { stage = fresh; left = drop 1 session.left }

-- the transaction that begins is the session's; the line is BEGIN TRANSACTION, which ends
abbrev pub begins_for_all : ℕ → Session → Session
begins_for_all c session = ends_line (record session { standing = running (begin_run false c []) })

-- a transaction begins at a commit, the line's own or the session's
abbrev pub begins_at : Bool → ℕ → Session → Session
begins_at true c session = begins_own c [] session
begins_at false c session = begins_for_all c session

-- the transaction created names more
abbrev pub creates_more : List Name → Run → Run
creates_more names run = record run { now = record (run.now) { created = run.now.created ++ names } }

-- the line's work stays, whatever refuses a later line
abbrev pub keeps_work : Run → Run
keeps_work run = record run { start = run.now }

-- A statement took effect: in a transaction of its own the line waits for its commit, in the session's it ends.
abbrev pub took_in : List Name → Run → Session → Session
took_in names run session =
    if run.own then record session { standing = running (creates_more names run); stage = done }
    else ends_line (record session { standing = running (keeps_work run) })

abbrev pub took : List Name → Standing → Session → Session
took names idle session = session
took names lost session = session
took names (running run) session = took_in names run session

abbrev pub takes : List Name → Session → Session
takes names session = took names session.standing session

-- the line is refused
abbrev pub refuses : Refusal → Session → Session
refuses cause session = ends_line (record session { standing = after_refusal cause session.standing })

-- the line ends, and with it the transaction
abbrev pub ends_both : Session → Session
ends_both session = ends_line (ends_run session)

-- savepoints; names that are held stay
abbrev pub saves : Name → Session → Session
saves name session = ends_line (works (saves_as name) session)

abbrev pub back_to : Name → Run → Run
back_to name run = record run { saves = saves_from name run.saves; start = run.now }

abbrev pub goes_back : Name → Session → Session
goes_back name session = ends_line (works (back_to name) session)

abbrev pub releases : Name → Session → Session
releases name session = ends_line (works (release_to name) session)
