use Rattle.std.proofs.Common.{◌≡◌, Some, map, subst, ap, sym, ◌∙◌, ⊎_elim}
use Rattle.std.proofs.lemmas.Result.{IfOk-weaker, IfErr-weaker}
use Rattle.iq_ast.specs.declared.conditions.Test.{Test}
use Rattle.iq_ast.specs.declared.conditions.Test.TheVariants as tests
use Rattle.iq_fp.specs.declared.fp.Fp.{Fp}
use Rattle.iq_fp.specs.Scans.{AreRowsOn}
use Rattle.iq_pages.specs.PageCalls.{view}
use Rattle.iq_predicate.specs.Found.{AreNamed, on_test}
use Rattle.iq_predicate.proofs.Chosen.{one_name, one_named, rows_of_one, rows_of_two, column_cause, columns_cause}
use Rattle.iq_predicate.proofs.finding.tested.Goals as goal

pub returns-in-Compare-clause-rows : goal.returns-in-Compare-clause-rows
returns-in-Compare-clause-rows g c =
    let is : one_name c.args.test.now ≡ Some c.in-Compare.column =
    ⊎_elim (λ h. ap one_name h.2) (λ more. ⊎_elim (λ h. ap one_name h.3) (λ more. ⊎_elim (λ h. ap one_name h.2) (λ h. ap one_name h.1) more) more) c.in-Compare.is in
    let told = g.S.PageSource.told c.args.source.now in
    IfOk-weaker c.scan.result _ _
    (λ bits rows. λ t stands. rows_of_one c.args.table.now c.args.columns.now told c.args.side c.args.test.now c.in-Compare.column bits t c.requires.columns is c.requires.named
    (subst (λ (fp : Fp). AreRowsOn fp told c.args.side c.args.test.now bits) c.column_of.ensures rows) stands)
    c.scan.ensures.rows

pub returns-in-Columns-clause-rows : goal.returns-in-Columns-clause-rows
returns-in-Columns-clause-rows g c =
    let told = g.S.PageSource.told c.args.source.now in
    let test = tests.Columns c.in-Columns.left c.in-Columns.op c.in-Columns.right in
    IfOk-weaker c.scan_pair.result _ _
    (λ bits rows. λ t stands.
    rows_of_two c.args.table.now c.args.columns.now told c.args.side c.in-Columns.left c.in-Columns.op c.in-Columns.right bits t c.requires.columns (subst (AreNamed c.args.columns.now) c.in-Columns.is c.requires.named)
    (rw (sym c.column_of-left.ensures, sym c.column_of-right.ensures) rows) stands
    ∙ ap (λ (of : Test). map (on_test t.columns c.args.side of) t.slots) (sym c.in-Columns.is))
    c.scan_pair.ensures.rows

pub returns-in-Columns-clause-cause : goal.returns-in-Columns-clause-cause
returns-in-Columns-clause-cause g c =
    IfErr-weaker c.scan_pair.result _ _
    (λ fault cause.
    columns_cause c.args.table.now c.args.columns.now c.in-Columns.left c.in-Columns.op c.in-Columns.right (view g.S.PageSource c.args.source.now) (view g.S.PageSource c.scan_pair.new.source) fault c.requires.columns (subst (AreNamed c.args.columns.now) c.in-Columns.is c.requires.named)
    (rw (sym c.column_of-left.ensures, sym c.column_of-right.ensures) cause))
    c.scan_pair.ensures.cause

pub returns-in-Compare-clause-cause : goal.returns-in-Compare-clause-cause
returns-in-Compare-clause-cause g c =
    let is : one_name c.args.test.now ≡ Some c.in-Compare.column =
    ⊎_elim (λ h. ap one_name h.2) (λ more. ⊎_elim (λ h. ap one_name h.3) (λ more. ⊎_elim (λ h. ap one_name h.2) (λ h. ap one_name h.1) more) more) c.in-Compare.is in
    let place = one_named c.args.columns.now c.args.test.now c.in-Compare.column is c.requires.named in
    IfErr-weaker c.scan.result _ _
    (λ fault cause. column_cause c.args.table.now c.args.columns.now c.in-Compare.column place.0 (view g.S.PageSource c.args.source.now) (view g.S.PageSource c.scan.new.source) fault c.requires.columns place.1 (rw (sym c.column_of.ensures) cause))
    c.scan.ensures.cause
