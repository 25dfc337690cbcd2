-- What VERSIONS tells of one node.
use Rattle.std.specs.Prelude.{ℕ}
use Rattle.iq_model.specs.declared.answers.NodeVersion.{NodeVersion}
use Rattle.iq_replay.specs.State.{State, Node}
use Rattle.iq_replay.specs.Nodes.{node_position, floor_of, taken_of}

abbrev pub version_at : State → ℕ → Node → NodeVersion
version_at s n node =
    record {
      node = n;
      position = node_position s.latest node;
      floor = floor_of s n node;
      taken = taken_of s n node;
      incarnation = node.incarnation;
      excluded = node.excluded;
    }
