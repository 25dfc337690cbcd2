use Rattle.std.specs.String.{string_bytes}
use Rattle.iq_run.proofs.Walk.{is_transcript, placed_replies}
use Rattle.iq_run.proofs.runs.transcript_of.Goals as goal

pub run_lines-requires-clause-between : goal.run_lines-requires-clause-between
run_lines-requires-clause-between c = rw c.as_slice.ensures c.in_ok-plex.ensures.between

pub transcript-requires : goal.transcript-requires
transcript-requires c =
    rw c.as_slice-2.ensures.value
    (placed_replies c.args.script.now c.in_ok-plex.plex c.run_lines.new.plex c.in_ok-replies.replies.items c.history.result.now c.requires c.in_ok-plex.ensures (rw c.as_slice.ensures at c.in_ok-replies.ensures) c.history.ensures)

pub returns : goal.returns
returns c =
    is_transcript c.args.script.now c.in_ok-plex.plex c.run_lines.new.plex c.in_ok-replies.replies.items c.history.result.now (string_bytes c.in_ok-text.text) c.requires c.in_ok-plex.ensures (rw c.as_slice.ensures at c.in_ok-replies.ensures) c.history.ensures
    (rw (c.as_slice-2.ensures.value, c.no_blocks.ensures) at c.in_ok-text.ensures)
