-- Each of the three replies is placed.
use Rattle.std.proofs.Common.{length, ◌∷◌, []}
use Rattle.std.proofs.lemmas.List.Elements.{All-cons, All-nil}
use Rattle.iq_model.specs.declared.replies.Reply.{Reply}
use Rattle.iq_render.specs.Placed.{IsPlacedSaid}
use Rattle.iq_render_tests.proofs.runs.prints.Goals as goal

pub prints_parts-requires : goal.prints_parts-requires
prints_parts-requires g c =
    let P : Reply → Type 0 = λ (reply : Reply). IsPlacedSaid (length c.args.history.now.nodes) (length c.args.history.now.sessions) reply.said in
    All-cons P c.args.first (c.args.second ∷ c.args.third ∷ []) c.requires.first (All-cons P c.args.second (c.args.third ∷ []) c.requires.second (All-cons P c.args.third [] c.requires.third (All-nil P)))
