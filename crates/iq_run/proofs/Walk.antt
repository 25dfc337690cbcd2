-- The lines of a script in their order.
use Rattle.std.proofs.Common.{◌≡◌, ℕ, zero, suc, ◌+◌, ◌<◌, ◌≤◌, length, get_or, append_assoc, add-one, drop-cons, arith, List, [], ◌∷◌, ◌++◌, refl, sym, ◌∙◌, ap, subst, Some, None, drop, map}
use Rattle.std.specs.Prelude.{⊤}
use Rattle.std.specs.List.{AllByRecursion}
use Rattle.std.proofs.lemmas.List.Elements.{All-push}
use Rattle.std.proofs.lemmas.Bool.{eq-eqb, ne_eqb}
use Rattle.iq_history.specs.State.{HistoryState}
use Rattle.iq_model.specs.declared.scripts.Line.{Line}
use Rattle.iq_model.specs.declared.scripts.Script.{Script}
use Rattle.iq_model.specs.declared.replies.Reply.{Reply}
use Rattle.iq_model.specs.Scripts.{IsRunnable, IsRunnableLine, Ascend}
use Rattle.iq_replay.specs.State.{State, Session, idle, fresh}
use Rattle.iq_replay.specs.Histories.{AllEnded, replay, replies, reply_in, replies_of}
use Rattle.iq_control.specs.Opened.{IsHistoryOf}
use Rattle.iq_render.specs.Placed.{IsPlacedSaid, ArePlacedReplies}
use Rattle.iq_render.specs.Whole.{transcript_text}
use Rattle.iq_plex.specs.declared.plex.Plex.{Plex}
use Rattle.iq_plex.specs.Standing.{first_of, state_of, session_at, IsBetween, IsNext, IsAttached, EndsLine}
use Rattle.iq_run.specs.Runs.{RunsLines, IsTranscript, history_of, no_blocks, numbers_of, answered_by}

-- ONE LINE MORE

-- what is left from a place on is the line there, and what is left behind it
here_left : (lines : List Line) (i : ℕ) (line : Line) → line ≡ get_or lines i line → i < length lines → drop i lines ≡ line ∷ drop (i + 1) lines
here_left lines i line is lt = rw (add-one, drop-cons lines i line) (ap (λ (l : Line). l ∷ drop (suc i) lines) (sym is))

pub next_line : (first p : Plex) (lines : List Line) (i : ℕ) (line : Line) (rs : List Reply) → line ≡ get_or lines i line → i < length lines → RunsLines first lines (drop i lines) rs p → IsNext p line
next_line first p lines i line rs is lt runs = record {
  rest = drop (i + 1) lines;
  replies = rs;
  between = subst (λ (left : List Line). IsBetween p left rs) (here_left lines i line is lt) runs.between;
}

pub run_more : (first p q : Plex) (lines : List Line) (i : ℕ) (line : Line) (reply : Reply) (rs : List Reply) → line ≡ get_or lines i line → i < length lines
    → RunsLines first lines (drop i lines) rs p → EndsLine p reply q → reply.line ≡ line.number → IsPlacedSaid 1 1 reply.said → RunsLines first lines (drop (i + 1) lines) (rs ++ reply ∷ []) q
run_more first p q lines i line reply rs is lt runs ends number placed =
    let here = here_left lines i line is lt in
    record {
      same_script = ends.same_script ∙ runs.same_script;
      between = ends.at line (drop (i + 1) lines) rs (subst (λ (left : List Line). IsBetween p left rs) here runs.between);
      answered = rw (pushed rs, number) (append_assoc (answered_by rs) (line.number ∷ []) (numbers_of (drop (i + 1) lines)) ∙ ap (λ (left : List Line). answered_by rs ++ numbers_of left) (sym here) ∙ runs.answered);
      placed = All-push (λ (r : Reply). IsPlacedSaid 1 1 r.said) rs reply runs.placed placed;
    }
  where
    pushed : (xs : List Reply) → answered_by (xs ++ reply ∷ []) ≡ answered_by xs ++ reply.line ∷ []
    pushed [] = refl
    pushed (x ∷ xs) = ap (λ (ns : List ℕ). x.line ∷ ns) (pushed xs)

-- what is left behind a place of lines that are run is run
pub grammar_more : (lines : List Line) (i : ℕ) → i < length lines → AllByRecursion IsRunnableLine (drop i lines) → AllByRecursion IsRunnableLine (drop (i + 1) lines)
grammar_more lines zero lt all = first lines lt all
  where
    first : (lines : List Line) → 0 < length lines → AllByRecursion IsRunnableLine lines → AllByRecursion IsRunnableLine (drop 1 lines)
    first [] lt all = absurd (omega arith)
    first (l ∷ ls) lt all = all.1
grammar_more [] (suc i) lt all = absurd (omega arith)
grammar_more (l ∷ ls) (suc i) lt all =
    let same : suc i + 1 ≡ suc (i + 1) = omega arith in
    subst (λ (n : ℕ). AllByRecursion IsRunnableLine (drop n (l ∷ ls))) (sym same) (grammar_more ls i (omega arith) all)

-- EACH LINE'S REPLY

-- each of some replies answers a line up to this one
abbrev AreUpTo : ℕ → List Reply → Type 0
AreUpTo low [] = ⊤
AreUpTo low (r ∷ rs) = (r.line ≤ low) × AreUpTo low rs

up_to_more : (low high : ℕ) (rs : List Reply) (r : Reply) → low < high → r.line ≡ high → AreUpTo low rs → AreUpTo high (rs ++ r ∷ [])
up_to_more low high [] r lt is up = (omega (arith, is), tt)
up_to_more low high (x ∷ xs) r lt is up = (omega (arith, up.0), up_to_more low high xs r lt is up.1)

-- a line's reply stands behind those of smaller lines
found_behind : (low n : ℕ) (before : List Reply) (r : Reply) (rest : List Reply) → AreUpTo low before → low < n → r.line ≡ n → reply_in n (before ++ r ∷ rest) ≡ Some r
found_behind low n [] r rest up lt is = rw (is, eq-eqb n n refl) refl
found_behind low n (x ∷ xs) r rest up lt is =
    rw (ne_eqb x.line n (λ same. omega (arith, up.0, lt, same))) (found_behind low n xs r rest up.1 lt is)

each_behind : (s : State) (low : ℕ) (lines : List Line) (before rs : List Reply) → replies_of s (Some 0) ≡ before ++ rs → AreUpTo low before → Ascend low lines → AllByRecursion IsRunnableLine lines → answered_by rs ≡ numbers_of lines
    → replies s lines ≡ map Some rs
unfolding replies
each_behind s low [] before [] all up order runnable same = refl
each_behind s low [] before (r ∷ rs) all up order runnable same = cc same
each_behind s low (line ∷ lines) before [] all up order runnable same = cc same
each_behind s low (line ∷ lines) before (r ∷ rs) all up order runnable same =
    let number : r.line ≡ line.number = cc same in
    let others : answered_by rs ≡ numbers_of lines = cc same in
    let here : reply_in line.number (replies_of s line.session) ≡ Some r = rw (runnable.0.session, all) (found_behind low line.number before r rs up order.0 number) in
    let further = each_behind s line.number lines (before ++ r ∷ []) rs (all ∙ sym (append_assoc before (r ∷ []) rs)) (up_to_more low line.number before r order.0 number up) order.1 runnable.1 others in
    rw (here, further) refl

-- THE TRANSCRIPT

append_nil : (xs : List ℕ) → xs ++ [] ≡ xs
append_nil [] = refl
append_nil (x ∷ xs) = ap (λ ys. x ∷ ys) (append_nil xs)

all_ended : (sessions : List Session) (rs : List Reply) → sessions ≡ session_at idle fresh None [] rs ∷ [] → AllEnded sessions
all_ended sessions rs is = rw is (record { no_line = refl; no_run = tt }, tt)

pub is_transcript : (script : Script) (first p : Plex) (rs : List Reply) (history : HistoryState) (bytes : List ℕ) → IsRunnable script → IsAttached script first → RunsLines first script.lines [] rs p → IsHistoryOf p.control history
    → bytes ≡ transcript_text rs history no_blocks → IsTranscript script bytes
is_transcript script first p rs history bytes h attached runs named is =
    let script_is : p.control.script ≡ script = runs.same_script ∙ attached.same_script in
    let state : state_of p.control ≡ replay (first_of script) p.control.entries = ap (λ (s : Script). replay (first_of s) p.control.entries) script_is in
    let there = runs.between.at in
    record {
      entries = p.control.entries;
      answers = rs;
      whole = rw (← script_is) (record {
        legal = runs.between.follows.legal;
        sessions = all_ended (state_of p.control).sessions rs there;
        steps = runs.between.no_step;
      });
      each = rw (← state) (each_behind (state_of p.control) 0 script.lines [] rs (rw there refl) tt h.numbers h.each (sym (append_nil (answered_by rs)) ∙ runs.answered));
      bytes_are = is ∙ text_of rs history (history_of script p.control.entries) (named.names.nodes ∙ ap (λ (s : Script). (history_of s p.control.entries).nodes) script_is) (named.names.sessions ∙ ap (λ (s : Script). (history_of s p.control.entries).sessions) script_is) named.entries;
    }
  where
    text_of : (rs : List Reply) (a b : HistoryState) → a.nodes ≡ b.nodes → a.sessions ≡ b.sessions → a.entries ≡ b.entries → transcript_text rs a no_blocks ≡ transcript_text rs b no_blocks
    text_of rs a b nodes sessions entries = rw (nodes, sessions, entries) refl

-- the script's one node and one session are those that replies name
pub placed_replies : (script : Script) (first p : Plex) (rs : List Reply) (history : HistoryState) → IsRunnable script → IsAttached script first → RunsLines first script.lines [] rs p → IsHistoryOf p.control history → ArePlacedReplies rs history
placed_replies script first p rs history h attached runs named =
    let script_is : p.control.script ≡ script = runs.same_script ∙ attached.same_script in
    rw (named.names.nodes, named.names.sessions, script_is, h.nodes, h.sessions) runs.placed
