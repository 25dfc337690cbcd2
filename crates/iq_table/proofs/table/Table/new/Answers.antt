use Rattle.std.proofs.Common.{◌≡◌, List, map, take, ap, sym, ◌∙◌, subst, arith}
use Rattle.std.proofs.lemmas.List.{take_all}
use Rattle.iq_base.specs.declared.descriptors.ColumnPart.{ColumnPart}
use Rattle.iq_table.specs.Places.{new_part}
use Rattle.iq_table.specs.Calls.{IsUnused}
use Rattle.iq_table.proofs.Making.{unused_new}
use Rattle.iq_table.proofs.table.Table.new.Goals as goal

pub returns-clause-unused : goal.returns-clause-unused
returns-clause-unused c =
    let columns = c.args.columns.now in
    let u = unused_new c.args.name columns in
    let all : take c.loop-column.column-index columns ≡ columns = take_all c.loop-column.column-index columns (omega (arith, c.loop-column-test.false, c.loop-column.auto.column-index-end)) in
    let put : c.from_vec.result ≡ map new_part columns = c.from_vec.ensures ∙ c.loop-column.invariant ∙ ap (map new_part) all in
    subst (λ (parts : List ColumnPart). IsUnused (record { name = c.args.name; slots = 0; existence = c.no_ref.result; columns = parts; indexes = c.new.result })) (sym put)
    (record { slots = u.slots; distinct = u.distinct; forms = u.forms })
