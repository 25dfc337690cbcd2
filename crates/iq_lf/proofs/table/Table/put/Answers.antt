use Rattle.std.proofs.Common.{◌≡◌, ◌<◌, ◌/◌, ◌∙◌, ℕ, List, [], length, ap, arith}
use Rattle.std.proofs.lemmas.List.{get_or_default}
use Rattle.iq_cells.specs.Codes.{code_in}
use Rattle.iq_pieces.specs.Objects.{page_at}
use Rattle.iq_lf.proofs.EntryLaws.{sets_entry, keeps_others}
use Rattle.iq_lf.proofs.table.Table.put.Goals as goal

pub returns-clause-here : goal.returns-clause-here
returns-clause-here c =
    let k = c.args.k in
    let pages = c.args.self.now.pages.items in
    let there : k / 252 < length pages = omega (arith, c.requires.within) in
    let value : c.index_mut.result.now ≡ page_at (k / 252) pages = c.index_mut.ensures.value ∙ get_or_default pages (k / 252) _ [] there in
    sets_entry k c.args.number pages c.put_number.new.page c.requires.within c.put_number.ensures.here (λ j n. c.put_number.ensures.others j n ∙ ap (λ (p : List ℕ). code_in 4 p j) value)

pub returns-clause-kept : goal.returns-clause-kept
returns-clause-kept c = λ told kept. keeps_others c.args.k told c.args.self.now.pages.items c.put_number.new.page c.args.self.now.changed.items (omega (arith, c.requires.within, c.requires.long)) kept
