use Rattle.std.proofs.Common.{◌≡◌, ℕ, Bool, List, Option, length, map, sym, ◌∙◌, ap, ap₂, subst}
use Rattle.std.specs.Prelude.{◌&&◌}
use Rattle.std.proofs.lemmas.Simd.{length-zip2}
use Rattle.iq_pages.specs.Pages.{Pages}
use Rattle.iq_bitmap.specs.Bits.{both}
use Rattle.iq_table.specs.Table.{TableStands}
use Rattle.iq_database.specs.Standing.{slot_rows, slot_bits}
use Rattle.iq_predicate.proofs.Chosen.{found_there}
use Rattle.iq_predicate.proofs.finding.found.Goals as goal

pub returns-clause-long : goal.returns-clause-long
returns-clause-long g c = ap length c.and_with.ensures ∙ length-zip2 (λ a b. a && b) c.in_ok-bits.bits c.in_ok-alive.alive (c.in_ok-bits.ensures.long ∙ sym c.in_ok-alive.ensures.long) ∙ c.in_ok-bits.ensures.long

pub returns-clause-rows : goal.returns-clause-rows
returns-clause-rows g c = λ t stands.
    let told = g.S.PageSource.told c.args.source.now in
    let told' = g.S.PageSource.told c.tested.new.source in
    let table = c.args.table.now in
    let there : TableStands told' table.place table.parts (slot_rows t) (slot_bits t) =
    subst (λ (pages : ℕ → Option Pages). TableStands pages table.place table.parts (slot_rows t) (slot_bits t)) (λ i object. sym (c.tested.ensures.reads.kept.told object) i) stands.holds in
    c.and_with.ensures
    ∙ ap₂ both (c.in_ok-bits.ensures.rows t stands) (c.in_ok-alive.ensures.alive (slot_rows t) (slot_bits t) there)
    ∙ found_there t.columns c.args.side c.args.test.now t.slots
