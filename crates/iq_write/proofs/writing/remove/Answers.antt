use Rattle.std.proofs.Common.{◌<◌, length, List, sym, ◌∙◌, ap, subst}
use Rattle.iq_base.specs.declared.descriptors.Descriptor.{Descriptor}
use Rattle.iq_database.specs.LookUps.{place_from}
use Rattle.iq_write.proofs.Tests.{drop_missing, drop_known}
use Rattle.iq_write.proofs.Changes.{remove_tells, remove_stands}
use Rattle.iq_write.proofs.Lists.{plain_remove}
use Rattle.iq_write.proofs.writing.remove.Goals as goal

pub returns-in_default-clause-cause : goal.returns-in_default-clause-cause
returns-in_default-clause-cause c =
    let there = ap (place_from 0 c.args.name.now) (sym c.as_slice.ensures.value) ∙ sym c.place_of.ensures.place ∙ c.in_default.is in
    rw c.again.ensures (drop_missing c.args.name.now c.args.tables.now.items there)

pub returns-clause-ok : goal.returns-clause-ok
returns-clause-ok c =
    let there = ap (place_from 0 c.args.name.now) (sym c.as_slice.ensures.value) ∙ sym c.place_of.ensures.place ∙ c.in-Some.is in
    rw c.remove.ensures.items
    (record {
      granted = drop_known c.args.name.now c.args.tables.now.items c.in-Some.place there;
      tells = λ db m. remove_tells c.args.name.now c.args.tables.now.items c.in-Some.place db there c.requires.tables.tables.distinct m;
      stands = λ told db m. rw there (remove_stands c.args.name.now c.args.tables.now.items c.in-Some.place there c.requires.tables.tables.distinct told db m);
    })

pub returns-clause-few : goal.returns-clause-few
returns-clause-few c = rw c.remove.ensures.items (plain_remove c.args.tables.now.items c.in-Some.place (subst (λ (xs : List Descriptor). c.in-Some.place < length xs) c.as_slice.ensures.value (rw c.in-Some.is at c.place_of.ensures.within)) c.requires.tables)
