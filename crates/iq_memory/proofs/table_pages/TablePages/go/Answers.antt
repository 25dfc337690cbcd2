use Rattle.std.proofs.Common.{◌≡◌, List, [], ◌∷◌, ◌++◌, ap, subst, sym, ◌∙◌}
use Rattle.std.specs.Prelude.{remove}
use Rattle.iq_database.specs.Standing.{going_at}
use Rattle.iq_memory.specs.declared.sure_pages.SurePages.{SurePages}
use Rattle.iq_memory.specs.Told.{told_in}
use Rattle.iq_memory.proofs.Moving.{went}
use Rattle.iq_memory.proofs.table_pages.TablePages.go.Goals as goal

pub returns : goal.returns
returns c = λ object less.
    let ts = c.args.self.now.tables.items in
    let put : c.push.new.self.items ≡ remove ts c.args.place ++ c.new.result ∷ [] = (rw c.unwrap.ensures at c.push.ensures.items) ∙ ap (λ (xs : List SurePages). xs ++ c.new.result ∷ []) c.remove.ensures.items in
    subst (λ (xs : List SurePages). told_in xs object ≡ going_at c.args.place (told_in ts) object) (sym put) (went ts c.args.place c.new.result c.args.self.now.full c.requires object less)
