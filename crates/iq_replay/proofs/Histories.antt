-- Histories that are put together: their state, and whether they are legal.
use Rattle.std.specs.Prelude.{◌≡◌, ◌||◌, refl, ℕ, true, nat_le, List, [], ◌∷◌, ◌++◌}
use Rattle.iq_history.specs.declared.entries.Entry.{Entry}
use Rattle.iq_replay.specs.State.{State}
use Rattle.iq_replay.specs.Entries.{IsPossible, change}
use Rattle.iq_replay.specs.Histories.{replay, IsLegal, IsInOrder, closes, line_of, low_after}
use Rattle.iq_replay.specs.Laws.{low_behind}

pub replay-append : (s : State) (es fs : List Entry) → replay s (es ++ fs) ≡ replay (replay s es) fs
unfolding replay
replay-append s [] fs = refl
replay-append s (e ∷ es) fs = replay-append (change s e) es fs

pub replay-push : (s : State) (es : List Entry) (e : Entry) → replay s (es ++ e ∷ []) ≡ change (replay s es) e
unfolding replay
replay-push s [] e = refl
replay-push s (f ∷ es) e = replay-push (change s f) es e

pub IsLegal-append : (s : State) (es fs : List Entry) → IsLegal s es → IsLegal (replay s es) fs → IsLegal s (es ++ fs)
unfolding replay IsLegal
IsLegal-append s [] fs h k = k
IsLegal-append s (e ∷ es) fs h k = (h.0, IsLegal-append (change s e) es fs h.1 k)

pub IsLegal-front : (s : State) (es fs : List Entry) → IsLegal s (es ++ fs) → IsLegal s es
unfolding IsLegal
IsLegal-front s [] fs h = tt
IsLegal-front s (e ∷ es) fs h = (h.0, IsLegal-front (change s e) es fs h.1)

pub IsLegal-rest : (s : State) (es fs : List Entry) → IsLegal s (es ++ fs) → IsLegal (replay s es) fs
unfolding replay IsLegal
IsLegal-rest s [] fs h = h
IsLegal-rest s (e ∷ es) fs h = IsLegal-rest (change s e) es fs h.1

pub IsLegal-push : (s : State) (es : List Entry) (e : Entry) → IsLegal s es → IsPossible (replay s es) e → IsLegal s (es ++ e ∷ [])
unfolding replay IsLegal
IsLegal-push s [] e h p = (p, tt)
IsLegal-push s (f ∷ es) e h p = (h.0, IsLegal-push (change s f) es e h.1 p)

pub IsInOrder-push : (low : ℕ) (es : List Entry) (e : Entry) → IsInOrder low es → (closes e || nat_le (low_behind low es) (line_of e)) ≡ true → IsInOrder low (es ++ e ∷ [])
IsInOrder-push low [] e h p = (p, tt)
IsInOrder-push low (f ∷ es) e h p = (h.0, IsInOrder-push (low_after low f) es e h.1 p)
