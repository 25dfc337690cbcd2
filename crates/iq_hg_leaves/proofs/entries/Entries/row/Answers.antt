use Rattle.std.proofs.Common.{◌<◌, length, sym, ap, ◌∙◌, arith}
use Rattle.std.proofs.lemmas.List.{get_or_read}
use Rattle.iq_hg_leaves.specs.declared.entries.Entry.{Entry}
use Rattle.iq_hg_leaves.proofs.Joined.{list_long, list_at}
use Rattle.iq_hg_leaves.proofs.entries.Entries.row.Goals as goal

pub returns : goal.returns
returns c =
    let within : c.args.i < length c.self.inside.rows.items = omega (arith, list_long _ _ _ c.self.invariant c.self.view_is, c.requires) in
    get_or_read c.self.inside.rows.items _ _ within c.index.ensures 0 ∙ sym (ap (λ (e : Entry). e.row) (list_at _ _ _ c.self.invariant c.self.view_is c.args.i c.requires))
