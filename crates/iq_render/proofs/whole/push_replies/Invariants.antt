use Rattle.std.proofs.Common.{◌≡◌, ◌++◌, take}
use Rattle.std.specs.Prelude.{flat_map}
use Rattle.std.specs.String.{string_bytes}
use Rattle.iq_render.specs.Replies.{reply_text}
use Rattle.iq_render.proofs.whole.push_replies.Given as goal

abbrev pub invariant-loop-reply : goal.invariant-loop-reply
invariant-loop-reply l = string_bytes l.out ≡ string_bytes l.fn.out ++ flat_map (reply_text l.nodes l.sessions) (take l.reply-index l.replies)
