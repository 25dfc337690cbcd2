-- The transcript of a run and its parts.
use Rattle.std.specs.Prelude.{ℕ, List, ◌++◌, codes, length, flat_map}
use Rattle.iq_base.specs.declared.refusals.Census.{Census}
use Rattle.iq_history.specs.State.{HistoryState}
use Rattle.iq_model.specs.declared.replies.Reply.{Reply}
use Rattle.iq_render.specs.Values.{line, then_number}
use Rattle.iq_render.specs.Replies.{census_words, reply_text}
use Rattle.iq_render.specs.Entries.{numbered_lines}

-- the replies in their order
abbrev pub replies_text : List Reply → HistoryState → List ℕ
replies_text replies history = flat_map (reply_text history.nodes history.sessions) replies

-- how many entries there are, and the entries, numbered from 1
abbrev pub entries_text : HistoryState → List ℕ
entries_text history = line (codes "history" ++ then_number (length history.entries)) ++ numbered_lines history.nodes history.sessions 1 history.entries

-- the last line: where the blocks are
abbrev pub census_line : Census → List ℕ
census_line census = line (codes "census" ++ census_words census)

-- the history and the last line
abbrev pub history_text : HistoryState → Census → List ℕ
history_text history census = entries_text history ++ census_line census

-- the whole: the replies, the history and the last line
abbrev pub transcript_text : List Reply → HistoryState → Census → List ℕ
transcript_text replies history census = replies_text replies history ++ history_text history census

-- the whole without the history
abbrev pub summary_text : List Reply → HistoryState → Census → List ℕ
summary_text replies history census = replies_text replies history ++ census_line census
