use Rattle.iq_lf.proofs.TableLaws.{saves_all, saves_step}
use Rattle.std.proofs.Common.{◌<◌, ◌+◌, ◌∙◌, List, Bool, true, false, length, get_or, sym, ap, arith}
use Rattle.std.proofs.lemmas.List.{get_or_default}
use Rattle.iq_pages.specs.Pages.{Pages}
use Rattle.iq_pieces.specs.Objects.{page_at}
use Rattle.iq_pieces.proofs.Counting.{others_on, counts_up}
use Rattle.iq_lf.proofs.table.Table.save.Goals as goal

pub returns-clause-ok : goal.returns-clause-ok
returns-clause-ok g c = saves_all c.loop-p.p c.args.self.now.pages.items c.args.self.now.changed.items _ _ (omega arith) c.loop-p.invariant.saves

pub loop-p-preserved : goal.loop-p-preserved
loop-p-preserved g c =
    let inv = c.loop-p.invariant in
    let p = c.loop-p.p in
    let pages = c.args.self.now.pages.items in
    let changed = c.args.self.now.changed.items in
    let less : p < length pages = omega (arith, ap length c.as_slice-pages.ensures.value) in
    record {
      saves = saves_step p pages changed _ _ _ _ _ less (get_or_default changed p true false (omega (arith, less, c.requires.long)) ∙ ap (λ (cs : List Bool). get_or cs p false) (sym c.as_slice-changed.ensures.value))
          (ap (λ (ps : Pages). page_at p ps) (sym c.as_slice-pages.ensures.value)) inv.saves c.in_ok-save_where.ensures.ok;
      others = others_on c.args.object _ _ _ inv.others c.save_where.ensures.others;
      reads = c.save_where.ensures.reads ∙ inv.reads;
      written = counts_up p 1 (p + 1) _ _ _ (omega arith) inv.written c.save_where.ensures.written;
      later = omega (arith, inv.later, c.save_where.ensures.later);
    }
