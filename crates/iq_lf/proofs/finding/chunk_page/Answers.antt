use Rattle.std.proofs.Common.{◌<◌, ◌+◌, ◌*◌, ◌∙◌, List, Bool, false, Option, length, get_or, sym, ap, subst, arith}
use Rattle.std.proofs.lemmas.List.{length-replicate, get_or-replicate}
use Rattle.std.proofs.lemmas.Result.{err_from_is_err_and}
use Rattle.iq_pages.specs.PageCalls.{view}
use Rattle.iq_pages.specs.Pages.{Pages}
use Rattle.iq_pieces.proofs.Counting.{reads_none, reads_on}
use Rattle.iq_chunks.proofs.PageRows.{chunk_whole}
use Rattle.iq_lf.specs.Stands.{entries_in}
use Rattle.iq_lf.specs.Steps.{AddsEntry}
use Rattle.iq_lf.proofs.FindLaws.{found_none, found_beside, found_hit, found_all, entry_cause}
use Rattle.iq_lf.proofs.finding.chunk_page.Goals as goal

pub loop-v-init : goal.loop-v-init
loop-v-init g c = record {
  one = ap length c.in_ok-one.ensures ∙ length-replicate 8064 false;
  long = ap length c.in_ok-rows.ensures ∙ length-replicate 8064 false;
  rows = found_none c.args.lf.now (g.S.PageSource.told c.args.source.now) c.args.hits.now c.args.chunk c.in_ok-rows.rows c.requires.null (λ i less. ap (λ (bits : List Bool). get_or bits i false) c.in_ok-rows.ensures ∙ get_or-replicate 8064 i false false less);
  reads = reads_none 0 _;
}

pub loop-v-preserved-then-not-hits-v : goal.loop-v-preserved-then-not-hits-v
loop-v-preserved-then-not-hits-v g c = record {
  one = c.loop-v.invariant.one;
  long = c.loop-v.invariant.long;
  rows = found_beside c.loop-v.v c.args.lf.now (g.S.PageSource.told c.args.source.now) c.args.hits.now c.args.chunk c.loop-v.rows c.if-not-hits-v.true c.loop-v.invariant.rows;
  reads = reads_on c.loop-v.v 0 (c.loop-v.v + 1) _ _ _ (omega arith) c.loop-v.invariant.reads (reads_none 0 _);
}

pub returns-in_err-add_entry-clause-reads : goal.returns-in_err-add_entry-clause-reads
returns-in_err-add_entry-clause-reads g c = reads_on c.loop-v.v 1 c.args.lf.now.distinct _ _ _ (omega arith) c.loop-v.invariant.reads c.add_entry.ensures.reads

pub returns-in_err-add_entry-clause-cause : goal.returns-in_err-add_entry-clause-cause
returns-in_err-add_entry-clause-cause g c =
    let lf = c.args.lf.now in
    let p = err_from_is_err_and c.from_residual-in_err-add_entry.result c.from_residual-in_err-add_entry.ensures.1 in
    let below : c.loop-v.v < lf.distinct = omega arith in
    let within : 33 * c.loop-v.v + c.args.chunk < entries_in lf = omega (arith, below, c.requires.chunk) in
    rw (p.1, p.2) (entry_cause lf (33 * c.loop-v.v + c.args.chunk) c.entry-named.result (view g.S.PageSource c.args.source.now) (view g.S.PageSource c.loop-v.source) (view g.S.PageSource c.add_entry.new.source) c.in_err-add_entry.field-0.0 c.loop-v.invariant.reads.kept c.loop-v.invariant.reads.later within
    (λ values stands. sym (c.requires.entries values stands c.loop-v.v c.args.chunk below c.requires.chunk c.if-not-hits-v.false) ∙ sym c.entry-named.ensures) c.in_err-add_entry.ensures.cause)

pub loop-v-preserved : goal.loop-v-preserved
loop-v-preserved g c =
    let lf = c.args.lf.now in
    let told = g.S.PageSource.told c.args.source.now in
    let below : c.loop-v.v < lf.distinct = omega arith in
    let adds : AddsEntry c.entry-named.result (told lf.third) c.loop-v.rows c.add_entry.new.rows = subst (λ (o : Option Pages). AddsEntry c.entry-named.result o c.loop-v.rows c.add_entry.new.rows) (c.loop-v.invariant.reads.kept.told lf.third) c.in_ok-add_entry.ensures.ok in
    record {
      one = c.add_entry.ensures.one;
      long = c.add_entry.ensures.rows;
      rows = found_hit c.loop-v.v lf told c.args.hits.now c.args.chunk c.entry-named.result c.args.entries.now c.loop-v.rows c.add_entry.new.rows below c.requires.chunk c.if-not-hits-v.false c.loop-v.invariant.long (sym c.entry-named.ensures) c.requires.entries adds c.loop-v.invariant.rows;
      reads = reads_on c.loop-v.v 1 (c.loop-v.v + 1) _ _ _ (omega arith) c.loop-v.invariant.reads c.add_entry.ensures.reads;
    }

pub returns-clause-rows : goal.returns-clause-rows
returns-clause-rows g c = found_all c.args.lf.now (g.S.PageSource.told c.args.source.now) c.args.hits.now c.args.chunk c.loop-v.v c.loop-v.rows c.store_page.new.into c.requires.null c.loop-v.invariant.long (omega arith) (c.store_page.ensures ∙ chunk_whole c.loop-v.rows c.loop-v.invariant.long) c.loop-v.invariant.rows
