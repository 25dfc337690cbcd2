use Rattle.std.proofs.Common.{◌+◌, ℕ, max, sym, ap, arith}
use Rattle.iq_base.specs.Cells.{width}
use Rattle.iq_pieces.specs.Counts.{pages_for}
use Rattle.iq_pieces.proofs.Counting.{reads_on}
use Rattle.iq_fp.specs.declared.fp.Fp.{Fp}
use Rattle.iq_fp.specs.Forms.{code_width}
use Rattle.iq_fp.specs.Calls.{pages_read}
use Rattle.iq_fp.proofs.Growth.{planned_there}
use Rattle.iq_fp.proofs.fp.Fp.plan.Goals as goal

pub returns-clause-plan : goal.returns-clause-plan
returns-clause-plan g c =
    let self = c.args.self.now in
    let grown : Fp = record self { slots = self.slots + c.len.result; distinct = self.distinct + c.in_ok-values.values.fresh } in
    let kept = c.planned_values.ensures.reads.kept.told in
    record {
      more = c.in_ok-values.values.more.items;
      slots = ap (λ (n : ℕ). self.slots + n) c.len.ensures;
      numbered = c.in_ok-values.ensures.numbered;
      codes = planned_there self grown (g.S.PageSource.told c.planned_values.new.source) (g.S.PageSource.told c.args.source.now) _ _ _ (sym (kept self.codes)) (sym (kept self.values)) c.in_ok-planned.ensures.codes;
    }

pub returns-clause-reads : goal.returns-clause-reads
returns-clause-reads g c =
    let self = c.args.self.now in
    reads_on (pages_for (width self.kind) self.distinct) (max 1 (pages_for (code_width self.distinct) self.slots)) (pages_read self) _ _ _ (omega arith) c.planned_values.ensures.reads c.planned_codes.ensures.reads
