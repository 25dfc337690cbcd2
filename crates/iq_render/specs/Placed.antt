-- Which places of nodes and sessions replies name: each below the count of the history's names of its kind.
use Rattle.std.specs.Prelude.{ℕ, ◌<◌, List, length, All}
use Rattle.iq_model.specs.declared.answers.NodeVersion.{NodeVersion}
use Rattle.iq_history.specs.Placed.{IsPlacedRefusal}
use Rattle.iq_history.specs.State.{HistoryState}
use Rattle.iq_model.specs.declared.replies.Reply.{Reply}
use Rattle.iq_model.specs.declared.replies.Said.{Said}
use Rattle.iq_model.specs.declared.replies.Said.TheVariants.{Versions, Refused}

-- the nodes that are told of are declared
abbrev pub ArePlacedVersions : ℕ → List NodeVersion → Type 0
ArePlacedVersions nodes versions = All (λ (version : NodeVersion). version.node < nodes) versions

-- what is told of nodes names declared ones
abbrev pub IsPlacedTold : ℕ → Said → Type 0
IsPlacedTold nodes (Versions versions) = ArePlacedVersions nodes versions.nodes
IsPlacedTold nodes _ = Unit {0}

-- why a line is refused names declared sessions
abbrev pub IsPlacedRefused : ℕ → Said → Type 0
IsPlacedRefused sessions (Refused cause) = IsPlacedRefusal sessions cause
IsPlacedRefused sessions _ = Unit {0}

-- what is said names declared nodes and sessions alone
abbrev pub IsPlacedSaid : ℕ → ℕ → Said → Type 0
IsPlacedSaid nodes sessions said = IsPlacedTold nodes said × IsPlacedRefused sessions said

-- each reply does so, at the names of the history
abbrev pub ArePlacedReplies : List Reply → HistoryState → Type 0
ArePlacedReplies replies history = All (λ (reply : Reply). IsPlacedSaid (length history.nodes) (length history.sessions) reply.said) replies
