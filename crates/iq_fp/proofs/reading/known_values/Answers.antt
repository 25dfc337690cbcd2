use Rattle.std.proofs.Common.{◌≡◌, ap, sym, ◌∙◌, length}
use Rattle.std.proofs.lemmas.List.{length-map}
use Rattle.iq_base.specs.Cells.{cell}
use Rattle.iq_cells.specs.Packed.{Column}
use Rattle.iq_fp.proofs.Readings.{known_are}
use Rattle.iq_fp.proofs.reading.known_values.Goals as goal

pub returns-clause-known : goal.returns-clause-known
returns-clause-known g c = λ values stands.
    let base : c.new-known.result.kind ≡ c.args.fp.now.kind = ap (λ (column : Column). column.kind) c.new-known.ensures in
    let form = c.read.ensures.form in
    let kind : c.read.new.into.kind ≡ c.args.fp.now.kind = cc in
    let long : length c.read.new.into.values ≡ c.args.fp.now.distinct = sym (length-map c.read.new.into.values (cell c.read.new.into.kind)) ∙ c.in_ok-read.ensures.long in
    known_are c.args.fp.now (g.S.PageSource.told c.args.source.now) values c.read.new.into.values stands
    (rw kind at c.have_cells.ensures) long (rw (kind, base) at c.in_ok-read.ensures.first)
