-- What a change leaves alone: constants, commits, reports, and the sessions whose entry it isn't.
use Rattle.std.specs.Prelude.{◌≡◌, ◌≢◌, refl, ℕ, false, List, Option, Some, None}
use Rattle.std.specs.List.{slice_get}
use Rattle.std.proofs.lemmas.Option.{slice_get-map}
use Rattle.std.proofs.Common.{ap, sym}
use Rattle.std.proofs.lemmas.Bool.{ne_eqb}
use Rattle.iq_history.specs.declared.entries.Entry.{Entry}
use Rattle.iq_history.specs.declared.entries.Entry.TheVariants as entries
use Rattle.iq_replay.specs.State.{State, Session, Node, Report, moved_to}
use Rattle.iq_replay.specs.Nodes.{report_of}
use Rattle.iq_replay.specs.Changes.{loses, nodes_at, nodes_taking, taken_up}
use Rattle.iq_replay.specs.Entries.{change}
use Rattle.iq_replay.specs.Laws.{commit_in, is_of_report, node_of, report_node, node_changed, IsOther, HasSameConstants, HasSameCommits, HasSameReports}
use Rattle.iq_replay.proofs.Places.{slice_get-others}

pub constants-change : (s : State) (e : Entry) → HasSameConstants s (change s e)
unfolding change
constants-change s (entries.Refused None l cause) = record { blocks = refl; told = refl }
constants-change s (entries.Refused (Some place) l cause) = record { blocks = refl; told = refl }
constants-change s other = record { blocks = refl; told = refl }

pub commits-change : (s : State) (e : Entry) → commit_in e ≡ None → HasSameCommits s (change s e)
unfolding change
commits-change s (entries.Refused None l cause) h = record { latest = refl; newest = refl; older = refl; wrote = refl }
commits-change s (entries.Refused (Some place) l cause) h = record { latest = refl; newest = refl; older = refl; wrote = refl }
commits-change s (entries.Commit place l c) h = cc h
commits-change s other h = record { latest = refl; newest = refl; older = refl; wrote = refl }

-- a session of another node keeps its transaction
loses-other : (n : ℕ) (session : Session) → n ≢ session.node → loses n session ≡ session
loses-other n session h = rw (ne_eqb session.node n (λ q. h (sym q))) refl

pub session-change : (s : State) (e : Entry) (place : ℕ) (session : Session) → slice_get s.sessions place ≡ Some session → IsOther place session e
    → slice_get (change s e).sessions place ≡ Some session
unfolding change
session-change s (entries.Begin p l c) place session is h = rw (slice_get-others p place _ s.sessions (λ q. h.elsewhere (ap Some q))) is
session-change s (entries.Lock p l names) place session is h = rw (slice_get-others p place _ s.sessions (λ q. h.elsewhere (ap Some q))) is
session-change s (entries.Done p l) place session is h = rw (slice_get-others p place _ s.sessions (λ q. h.elsewhere (ap Some q))) is
session-change s (entries.Refused None l cause) place session is h = is
session-change s (entries.Refused (Some p) l cause) place session is h = rw (slice_get-others p place _ s.sessions (λ q. h.elsewhere (ap Some q))) is
session-change s (entries.Commit p l c) place session is h = rw (slice_get-others p place _ s.sessions (λ q. h.elsewhere (ap Some q))) is
session-change s (entries.End p l) place session is h = rw (slice_get-others p place _ s.sessions (λ q. h.elsewhere (ap Some q))) is
session-change s (entries.Rollback p l) place session is h = rw (slice_get-others p place _ s.sessions (λ q. h.elsewhere (ap Some q))) is
session-change s (entries.Halt p l c before after) place session is h = rw (slice_get-others p place _ s.sessions (λ q. h.elsewhere (ap Some q))) is
session-change s (entries.Savepoint p l name) place session is h = rw (slice_get-others p place _ s.sessions (λ q. h.elsewhere (ap Some q))) is
session-change s (entries.Back p l name) place session is h = rw (slice_get-others p place _ s.sessions (λ q. h.elsewhere (ap Some q))) is
session-change s (entries.Release p l name) place session is h = rw (slice_get-others p place _ s.sessions (λ q. h.elsewhere (ap Some q))) is
session-change s (entries.Sync p l c) place session is h = rw (slice_get-others p place _ s.sessions (λ q. h.elsewhere (ap Some q))) is
session-change s (entries.Restart n l incarnation) place session is h = simp (slice_get-map (loses n) s.sessions place, is) (ap Some (loses-other n session (λ q. h.spared (ap Some q))))
session-change s (entries.Exclude n l incarnation) place session is h = simp (slice_get-map (loses n) s.sessions place, is) (ap Some (loses-other n session (λ q. h.spared (ap Some q))))
session-change s other place session is h = is

pub reports-change : (s : State) (e : Entry) → is_of_report e ≡ false → HasSameReports s (change s e)
unfolding change
reports-change s (entries.Refused None l cause) h = record { bag = refl; next = refl; base = refl }
reports-change s (entries.Refused (Some place) l cause) h = record { bag = refl; next = refl; base = refl }
reports-change s (entries.Send n l number floor) h = cc h
reports-change s (entries.Lose l number) h = cc h
reports-change s (entries.Take l number horizon freed) h = cc h
reports-change s (entries.Own n l horizon freed) h = cc h
reports-change s other h = record { bag = refl; next = refl; base = refl }

-- a node stays that isn't the one of the session, or of the report
nodes_at-other : (session : Option Session) (c n : ℕ) (nodes : List Node) → node_of session ≢ Some n → slice_get (nodes_at session c nodes) n ≡ slice_get nodes n
nodes_at-other None c n nodes h = refl
nodes_at-other (Some session) c n nodes h = slice_get-others session.node n (moved_to c) nodes (λ q. h (ap Some q))

nodes_taking-other : (report : Option Report) (n : ℕ) (nodes : List Node) → report_node report ≢ Some n → slice_get (nodes_taking report nodes) n ≡ slice_get nodes n
nodes_taking-other None n nodes h = refl
nodes_taking-other (Some report) n nodes h = slice_get-others report.node n (taken_up report.floor) nodes (λ q. h (ap Some q))

pub node-change : (s : State) (e : Entry) (n : ℕ) → node_changed s e ≢ Some n → slice_get (change s e).nodes n ≡ slice_get s.nodes n
unfolding change
node-change s (entries.Refused None l cause) n h = refl
node-change s (entries.Refused (Some place) l cause) n h = refl
node-change s (entries.Commit place l c) n h = nodes_at-other (slice_get s.sessions place) c n s.nodes h
node-change s (entries.Sync place l c) n h = nodes_at-other (slice_get s.sessions place) c n s.nodes h
node-change s (entries.Apply m l c) n h = slice_get-others m n _ s.nodes (λ q. h (ap Some q))
node-change s (entries.Take l number horizon freed) n h = nodes_taking-other (report_of number s.bag) n s.nodes h
node-change s (entries.Restart m l incarnation) n h = slice_get-others m n _ s.nodes (λ q. h (ap Some q))
node-change s (entries.Exclude m l incarnation) n h = slice_get-others m n _ s.nodes (λ q. h (ap Some q))
node-change s (entries.Include m l c) n h = slice_get-others m n _ s.nodes (λ q. h (ap Some q))
node-change s other n h = refl
