use Rattle.std.proofs.Common.{◌<◌, length, sym, ap₂, ◌∙◌, arith}
use Rattle.std.proofs.lemmas.List.{get_or_read}
use Rattle.iq_hg_leaves.proofs.Joined.{list_long, list_at, pair}
use Rattle.iq_hg_leaves.proofs.entries.Entries.get.Goals as goal

pub returns : goal.returns
returns c =
    let within : c.args.i < length c.self.inside.rows.items = omega (arith, list_long _ _ _ c.self.invariant c.self.view_is, c.requires) in
    ap₂ pair c.get.ensures (get_or_read c.self.inside.rows.items _ _ within c.index.ensures 0) ∙ sym (list_at _ _ _ c.self.invariant c.self.view_is c.args.i c.requires)
