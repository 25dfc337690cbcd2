-- Steps of a line one after the other.
use Rattle.std.specs.Prelude.{◌≡◌, refl, true, List, [], ◌∷◌, ◌++◌, Option, Some, None}
use Rattle.std.proofs.Common.{ap, sym, ◌∙◌, subst}
use Rattle.iq_ast.specs.declared.statements.Statement.{Statement}
use Rattle.iq_model.specs.declared.replies.Reply.{Reply}
use Rattle.iq_model.specs.declared.replies.Said.{Said}
use Rattle.iq_model.specs.declared.scripts.Line.{Line}
use Rattle.iq_replay.specs.State.{Session, Standing, idle, running, Run, Stage, fresh, Node}
use Rattle.iq_replay.specs.Refusals.{lost_refusal}
use Rattle.iq_sessions.specs.Bare.{bare_session, bare_run}
use Rattle.std.specs.List.{slice_get}
use Rattle.iq_control.specs.Asked.{early_checks, IsAdmitted}
use Rattle.iq_statements.specs.Checks.{first_refusal}
use Rattle.iq_plex.specs.declared.plex.Plex.{Plex}
use Rattle.iq_plex.specs.Standing.{session_at, IsAt, IsBetween, EndsLine}
use Rattle.iq_plex.specs.Doing.{GoesOn, Ends}
use Rattle.iq_plex.proofs.Sessions.{same_session}

-- STEPS

pub goes_nowhere : (p : Plex) → GoesOn p p
goes_nowhere p = record { same_script = refl; at = λ standing stage told left replies is. record { standing = standing; stage = stage; told = told; at = is } }

pub goes_twice : (a b c : Plex) → GoesOn a b → GoesOn b c → GoesOn a c
goes_twice a b c f g = record {
  same_script = g.same_script ∙ f.same_script;
  at = λ standing stage told left replies is. let w = f.at standing stage told left replies is in g.at w.standing w.stage w.told left replies w.at;
}

pub goes_ends : (a b c : Plex) (reply : Reply) → GoesOn a b → Ends b reply c → Ends a reply c
goes_ends a b c reply f g = record {
  same_script = g.same_script ∙ f.same_script;
  at = λ standing stage told line rest replies is. let w = f.at standing stage told (line ∷ rest) replies is in g.at w.standing w.stage w.told line rest replies w.at;
}

pub ends_line : (a b : Plex) (reply : Reply) → Ends a reply b → EndsLine a reply b
ends_line a b reply f = record { same_script = f.same_script; at = λ line rest replies h. f.at idle fresh None line rest replies h.at }

-- from one place of a line to another
pub goes_from : (p q : Plex) (s s' : Standing) (g g' : Stage) (t t' : Option Said) (left : List Line) (replies : List Reply) → q.control.script ≡ p.control.script → IsAt p.control (session_at s g t left replies) → IsAt q.control (session_at s' g' t' left replies)
    → GoesOn p q
goes_from p q s s' g g' t t' left replies script from to = record {
  same_script = script;
  at = λ standing stage told left' replies' is.
      let same : session_at s g t left replies ≡ session_at standing stage told left' replies' = same_session p.control _ _ from is in
      let lines : left ≡ left' = ap (λ (x : Session). x.left) same in
      let answers : replies ≡ replies' = ap (λ (x : Session). x.replies) same in
      record { standing = s'; stage = g'; told = t'; at = subst (λ (rs : List Reply). IsAt q.control (session_at s' g' t' left' rs)) answers (subst (λ (ls : List Line). IsAt q.control (session_at s' g' t' ls replies)) lines to) };
}

-- from a place of a line to its end
pub ends_from : (p q : Plex) (s : Standing) (g : Stage) (t : Option Said) (line : Line) (rest : List Line) (replies : List Reply) (reply : Reply) → q.control.script ≡ p.control.script → IsAt p.control (session_at s g t (line ∷ rest) replies)
    → IsBetween q rest (replies ++ reply ∷ []) → Ends p reply q
ends_from p q s g t line rest replies reply script from to = record {
  same_script = script;
  at = λ standing stage told line' rest' replies' is.
      let same : session_at s g t (line ∷ rest) replies ≡ session_at standing stage told (line' ∷ rest') replies' = same_session p.control _ _ from is in
      let lines : line ∷ rest ≡ line' ∷ rest' = ap (λ (x : Session). x.left) same in
      let behind : rest ≡ rest' = cc lines in
      let answers : replies ≡ replies' = ap (λ (x : Session). x.replies) same in
      subst (λ (rs : List Reply). IsBetween q rest' (rs ++ reply ∷ [])) answers (subst (λ (ls : List Line). IsBetween q ls (replies ++ reply ∷ [])) behind to);
}

-- TESTS BEFORE A LINE'S OWN

nothing_lost : (node : Option Node) → lost_refusal node idle ≡ None
nothing_lost None = refl
nothing_lost (Some node) = refl

nothing_running : (node : Option Node) (run : Run) → lost_refusal node (running run) ≡ None
nothing_running None run = refl
nothing_running (Some node) run = refl

-- in a transaction of the line's own they are those of a session without one
pub early_alone : (nodes : List Node) (run : Run) (stage : Stage) (told : Option Said) (left : List Line) (replies : List Reply) (st : Statement) → run.own ≡ true
    → early_checks nodes (bare_session (session_at (running run) stage told left replies)) st ≡ early_checks nodes (session_at idle fresh None [] []) st
early_alone nodes run stage told left replies st own = rw (nothing_lost (slice_get nodes 0), nothing_running (slice_get nodes 0) (bare_run run), own) refl

pub admitted_alone : (nodes : List Node) (run : Run) (stage : Stage) (told : Option Said) (left : List Line) (replies : List Reply) (st : Statement) → run.own ≡ true
    → IsAdmitted nodes (session_at idle fresh None [] []) st → IsAdmitted nodes (bare_session (session_at (running run) stage told left replies)) st
admitted_alone nodes run stage told left replies st own h = ap first_refusal (early_alone nodes run stage told left replies st own) ∙ h

pub admitted_within : (nodes : List Node) (run : Run) (stage : Stage) (told : Option Said) (left : List Line) (replies : List Reply) (st : Statement) → run.own ≡ true
    → IsAdmitted nodes (bare_session (session_at (running run) stage told left replies)) st → IsAdmitted nodes (session_at idle fresh None [] []) st
admitted_within nodes run stage told left replies st own h = ap first_refusal (sym (early_alone nodes run stage told left replies st own)) ∙ h
