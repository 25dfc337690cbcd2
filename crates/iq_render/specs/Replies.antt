-- How a reply is printed: the line, what is said of it, and its rows.
use Rattle.std.specs.Prelude.{ℕ, Bool, true, false, List, [], ◌∷◌, ◌++◌, Option, Some, None, codes, length, flat_map}
use Rattle.std.specs.Fmt.{decimal}
use Rattle.iq_model.specs.declared.answers.Answer.{Answer}
use Rattle.iq_model.specs.declared.answers.Answer.TheVariants.{Rows, Plan}
use Rattle.iq_model.specs.declared.answers.NodeVersion.{NodeVersion}
use Rattle.iq_model.specs.declared.answers.Sent.{Sent}
use Rattle.iq_model.specs.declared.answers.Sent.TheVariants.{Bagged, Own}
use Rattle.iq_base.specs.declared.refusals.Census.{Census}
use Rattle.iq_model.specs.declared.replies.Reply.{Reply}
use Rattle.iq_model.specs.declared.replies.Said.{Said}
use Rattle.iq_model.specs.declared.replies.Said.TheVariants.{Created, Dropped, Inserted, Deleted, Updated, Begun, Committed, Ended, RolledBack, Saved, BackTo, Released, Synced, Applied, Lost, Taken, Restarted, Excluded, Included, Space, Refused, Answer as Answers, Sent as Sends, Versions as Tells}
use Rattle.iq_render.specs.Values.{line, name_at, then_name, then_number, row_line}
use Rattle.iq_render.specs.Refusals.{refusal_text}

-- the number under which an autocommit line is committed
abbrev pub commit_text : Option ℕ → List ℕ
commit_text None = []
commit_text (Some commit) = codes " commit" ++ then_number commit

-- the horizon, and how many blocks were freed up to it
abbrev pub freed_text : ℕ → ℕ → List ℕ
freed_text horizon freed = codes "horizon" ++ then_number horizon ++ codes " freed" ++ then_number freed

-- the five numbers of a census, each after its word
abbrev pub census_words : Census → List ℕ
census_words census = codes " free" ++ then_number census.free ++ codes " reserved" ++ then_number census.reserved ++ codes " private" ++ then_number census.private ++ codes " reached" ++ then_number census.reached ++ codes " waiting" ++ then_number census.waiting

-- how many rows follow, of a table or of a plan
abbrev pub answer_text : Answer → List ℕ
answer_text (Rows rows) = codes "rows" ++ then_number (length rows)
answer_text (Plan texts) = codes "plan" ++ then_number (length texts)

-- a report in the bag under a number, or the coordinator's, which is taken at once
abbrev pub sent_text : Sent → List ℕ
sent_text (Bagged number floor) = codes "sent" ++ then_number number ++ codes " floor" ++ then_number floor
sent_text (Own horizon freed) = freed_text horizon freed

-- the latest commit, and the horizon last used for freeing
abbrev pub latest_text : ℕ → ℕ → List ℕ
latest_text latest horizon = codes "versions" ++ (codes " latest" ++ then_number latest) ++ (codes " horizon" ++ then_number horizon)

-- what is said of a line
abbrev pub said_text : List (List ℕ) → Said → List ℕ
said_text sessions (Created commit) = codes "created" ++ commit_text commit
said_text sessions (Dropped commit) = codes "dropped" ++ commit_text commit
said_text sessions (Inserted rows commit) = codes "inserted" ++ then_number rows ++ commit_text commit
said_text sessions (Deleted rows commit) = codes "deleted" ++ then_number rows ++ commit_text commit
said_text sessions (Updated rows commit) = codes "updated" ++ then_number rows ++ commit_text commit
said_text sessions (Answers answer) = answer_text answer
said_text sessions (Begun commit) = codes "begun" ++ then_number commit
said_text sessions (Committed commit) = codes "committed" ++ then_number commit
said_text sessions Ended = codes "ended"
said_text sessions RolledBack = codes "rolled back"
said_text sessions (Saved name) = codes "savepoint" ++ then_name name
said_text sessions (BackTo name) = codes "back to" ++ then_name name
said_text sessions (Released name) = codes "released" ++ then_name name
said_text sessions (Synced commit) = codes "synced" ++ then_number commit
said_text sessions (Applied commit) = codes "applied" ++ then_number commit
said_text sessions (Sends sent) = sent_text sent
said_text sessions (Lost number) = codes "lost" ++ then_number number
said_text sessions (Taken freed) = freed_text freed.horizon freed.freed
said_text sessions (Restarted incarnation) = codes "restarted" ++ then_number incarnation
said_text sessions (Excluded incarnation) = codes "excluded" ++ then_number incarnation
said_text sessions (Included commit) = codes "included" ++ then_number commit
said_text sessions (Space census) = codes "space" ++ census_words census
said_text sessions (Tells versions) = latest_text versions.latest versions.horizon
said_text sessions (Refused cause) = codes "refused" ++ then_name (refusal_text sessions cause)

-- a row of a plan, after two spaces
abbrev pub plan_line : List ℕ → List ℕ
plan_line text = line (codes "  " ++ text)

-- the numbers that are told of one node, each after its word
abbrev pub version_numbers : NodeVersion → List ℕ
version_numbers version = codes " position" ++ then_number version.position ++ codes " floor" ++ then_number version.floor ++ codes " taken" ++ then_number version.taken ++ codes " incarnation" ++ then_number version.incarnation

-- a word behind the numbers of a node that is excluded
abbrev pub excluded_text : Bool → List ℕ
excluded_text true = codes " excluded"
excluded_text false = []

-- what is told of one node, after two spaces
abbrev pub version_line : List (List ℕ) → NodeVersion → List ℕ
version_line nodes version =
    line (codes " " ++ then_name (name_at nodes version.node) ++ version_numbers version ++ excluded_text version.excluded)

-- the rows of an answer
abbrev pub answer_lines : Answer → List ℕ
answer_lines (Rows rows) = flat_map row_line rows
answer_lines (Plan texts) = flat_map plan_line texts

-- the rows that follow what is said
abbrev pub said_lines : List (List ℕ) → Said → List ℕ
said_lines nodes (Answers answer) = answer_lines answer
said_lines nodes (Tells versions) = flat_map (version_line nodes) versions.nodes
said_lines nodes _ = []

-- a reply: the number of its line, what is said, and the rows
abbrev pub reply_text : List (List ℕ) → List (List ℕ) → Reply → List ℕ
reply_text nodes sessions reply = line (codes "@" ++ decimal reply.line ++ codes " " ++ said_text sessions reply.said) ++ said_lines nodes reply.said
