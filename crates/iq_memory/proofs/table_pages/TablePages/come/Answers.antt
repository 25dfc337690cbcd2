use Rattle.std.proofs.Common.{◌≡◌, List, ap, subst, sym, ◌∙◌}
use Rattle.std.specs.Prelude.{insert, remove}
use Rattle.iq_database.specs.Standing.{coming_at}
use Rattle.iq_memory.specs.declared.sure_pages.SurePages.{SurePages}
use Rattle.iq_memory.specs.Told.{told_in}
use Rattle.iq_memory.proofs.Moving.{came}
use Rattle.iq_memory.proofs.table_pages.TablePages.come.Goals as goal

pub returns : goal.returns
returns c = λ object less.
    let ts = c.args.self.now.tables.items in
    let put : c.insert.new.self.items ≡ insert (remove ts 63) c.args.place c.new.result = (rw c.unwrap.ensures at c.insert.ensures.items) ∙ ap (λ (xs : List SurePages). insert xs c.args.place c.new.result) c.remove.ensures.items in
    subst (λ (xs : List SurePages). told_in xs object ≡ coming_at c.args.place (told_in ts) object) (sym put) (came ts c.args.place c.new.result c.args.self.now.full c.if-place-ge-MOST_TABLES.false c.new.ensures object less)
