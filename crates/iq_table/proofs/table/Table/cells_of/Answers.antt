use Rattle.std.proofs.Common.{◌≡◌, ◌<◌, [], true, length, ap, ◌∙◌, subst}
use Rattle.std.proofs.lemmas.List.{get_or_read}
use Rattle.std.specs.Prelude.{IfErr}
use Rattle.iq_base.specs.declared.values.Kind.TheVariants.{Int}
use Rattle.iq_pages.specs.PageCalls.{view}
use Rattle.iq_fp.specs.declared.fp.Fp.{Fp}
use Rattle.iq_fp.specs.Calls.{HasReadCause}
use Rattle.iq_table.specs.Places.{new_part, part_at, fp_of, fp_at}
use Rattle.iq_table.proofs.table.Table.cells_of.Goals as goal

pub returns-clause-cause : goal.returns-clause-cause
returns-clause-cause g c =
    let columns = c.args.self.now.parts.columns in
    let k = c.args.c in
    let none = new_part (record { name = []; kind = Int; null = true }) in
    let within : k < length c.as_slice.result.now = rw c.as_slice.ensures c.requires.column in
    let part_is : c.index-as_slice-c.result ≡ part_at k columns = get_or_read c.as_slice.result.now k c.index-as_slice-c.result within c.index-as_slice-c.is none ∙ ap (part_at k) c.as_slice.ensures in
    let fp_is : c.fp_of-fp.result ≡ fp_at c.args.self.now.place c.args.self.now.parts k = c.fp_of-fp.ensures ∙ ap (fp_of c.args.self.now.place c.args.self.now.parts.slots k) part_is in
    subst (λ (fp : Fp). IfErr c.cells_of.result (HasReadCause fp (view g.S.PageSource c.args.source.now) (view g.S.PageSource c.cells_of.new.source))) fp_is c.cells_of.ensures.cause
