-- A history as contracts see it, and what its calls leave of it.
use Rattle.std.specs.Prelude.{◌≡◌, ℕ, ◌+◌, ◌≤◌, ◌<◌, ◌^◌, List, [], ◌∷◌, ◌++◌, length, All}
use Rattle.iq_history.specs.declared.entries.Entry.{Entry}
use Rattle.iq_history.specs.Placed.{IsPlaced}

-- the declared names of nodes and of sessions, the entries in their order, and how many more can be put without memory
pub record HistoryState : Type 0 where
  pub nodes : List (List ℕ)
  pub sessions : List (List ℕ)
  pub entries : List Entry
  pub room : ℕ

-- every entry names declared nodes and sessions alone
abbrev pub ArePlaced : List (List ℕ) → List (List ℕ) → List Entry → Type 0
ArePlaced nodes sessions entries = All (λ (e : Entry). IsPlaced (length nodes) (length sessions) e) entries

-- a history of these names without entries
pub record IsBegun (nodes sessions : List (List ℕ)) (new : HistoryState) : Type 0 where
  pub nodes_are : new.nodes ≡ nodes
  pub sessions_are : new.sessions ≡ sessions
  pub no_entries : new.entries ≡ []

-- the names and the entries are the same, and no room is lost
pub record HasSameEntries (old new : HistoryState) : Type 0 where
  pub same_nodes : new.nodes ≡ old.nodes
  pub same_sessions : new.sessions ≡ old.sessions
  pub same_entries : new.entries ≡ old.entries
  pub room_stays : old.room ≤ new.room

-- one more entry stands at the end, the names are the same, and at most one place of room is used
pub record IsPushed (old : HistoryState) (entry : Entry) (new : HistoryState) : Type 0 where
  pub same_nodes : new.nodes ≡ old.nodes
  pub same_sessions : new.sessions ≡ old.sessions
  pub one_more : new.entries ≡ old.entries ++ entry ∷ []
  pub room_used : old.room ≤ new.room + 1
  pub fits : length new.entries < 2 ^ 64
