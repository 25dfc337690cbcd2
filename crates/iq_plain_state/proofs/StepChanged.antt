-- What an entry of a step changes, as the state's methods say it.
use Rattle.std.specs.Prelude.{◌≡◌, refl, ℕ, ◌+◌, ◌++◌, [], ◌∷◌, None}
use Rattle.iq_base.specs.declared.refusals.Census.{Census}
use Rattle.iq_base.specs.declared.refusals.Refusal.{Refusal}
use Rattle.iq_history.specs.declared.entries.Entry.TheVariants as entries
use Rattle.iq_model.specs.declared.answers.Sent.TheVariants as sent
use Rattle.iq_model.specs.declared.replies.Said.TheVariants as said
use Rattle.iq_replay.specs.State.{State, with_node, moved_to}
use Rattle.iq_replay.specs.Nodes.{report_of}
use Rattle.iq_replay.specs.Said.{versions_of}
use Rattle.iq_replay.specs.Changes.{with_lost, restarted, excluded, included, without_report, with_taken, with_base, step_ends}
use Rattle.iq_replay.specs.Entries.{change}

pub change_refused : (s : State) (l : ℕ) (cause : Refusal) → change s (entries.Refused None l cause) ≡ step_ends l (said.Refused cause) s
unfolding change
change_refused s l cause = refl

pub change_apply : (s : State) (n l c : ℕ) → change s (entries.Apply n l c) ≡ step_ends l (said.Applied c) (with_node n (moved_to c) s)
unfolding change
change_apply s n l c = refl

pub change_send : (s : State) (n l number floor : ℕ) → change s (entries.Send n l number floor)
    ≡ step_ends l (said.Sent (sent.Bagged number floor)) (record s { bag = s.bag ++ record { number = number; node = n; floor = floor } ∷ []; next = number + 1 })
unfolding change
change_send s n l number floor = refl

pub change_lose : (s : State) (l number : ℕ) → change s (entries.Lose l number) ≡ step_ends l (said.Lost number) (record s { bag = without_report number s.bag })
unfolding change
change_lose s l number = refl

pub change_take : (s : State) (l number horizon freed : ℕ) → change s (entries.Take l number horizon freed)
    ≡ step_ends l (said.Taken (record { horizon = horizon; freed = freed })) (with_base horizon (with_taken (report_of number s.bag) s))
unfolding change
change_take s l number horizon freed = refl

pub change_own : (s : State) (n l horizon freed : ℕ) → change s (entries.Own n l horizon freed) ≡ step_ends l (said.Sent (sent.Own horizon freed)) (with_base horizon s)
unfolding change
change_own s n l horizon freed = refl

pub change_restart : (s : State) (n l incarnation : ℕ) → change s (entries.Restart n l incarnation)
    ≡ step_ends l (said.Restarted incarnation) (with_lost n (with_node n (restarted s.latest incarnation) s))
unfolding change
change_restart s n l incarnation = refl

pub change_exclude : (s : State) (n l incarnation : ℕ) → change s (entries.Exclude n l incarnation)
    ≡ step_ends l (said.Excluded incarnation) (with_lost n (with_node n (excluded incarnation) s))
unfolding change
change_exclude s n l incarnation = refl

pub change_include : (s : State) (n l c : ℕ) → change s (entries.Include n l c) ≡ step_ends l (said.Included c) (with_node n (included c) s)
unfolding change
change_include s n l c = refl

pub change_space : (s : State) (l : ℕ) (census : Census) → change s (entries.Space l census) ≡ step_ends l (said.Space census) s
unfolding change
change_space s l census = refl

pub change_versions : (s : State) (l : ℕ) → change s (entries.Versions l) ≡ step_ends l (said.Versions (versions_of s)) s
unfolding change
change_versions s l = refl
