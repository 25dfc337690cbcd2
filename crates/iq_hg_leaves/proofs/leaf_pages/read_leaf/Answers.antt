use Rattle.std.proofs.Common.{◌≡◌, ◌<◌, ◌≤◌, length, ◌*◌, ◌+◌, ◌/◌, ◌∙◌, ap, sym, subst, ℕ, arith}
use Rattle.iq_base.specs.declared.values.Kind.{Kind}
use Rattle.iq_base.specs.Cells.{width}
use Rattle.std.proofs.lemmas.List.Elements.{All-get_or}
use Rattle.iq_hg_leaves.specs.Entries.{EntryList, IsEntry, entry_at}
use Rattle.iq_hg_leaves.proofs.OnlyLeaf.{number_same, few}
use Rattle.iq_hg_leaves.proofs.PageBytes.{leaf_read, entries_read, leaf_entry, leaf_count}
use Rattle.iq_hg_leaves.proofs.leaf_pages.read_leaf.Goals as goal

pub push-requires : goal.push-requires
push-requires c = subst (λ (k : Kind). IsEntry k c.in-Some.entry) (sym c.loop-i.invariant.kind) c.in-Some.ensures.entry

pub returns-clause-leaf : goal.returns-clause-leaf
returns-clause-leaf c = leaf_read c.args.kind c.args.page.now c.number_at-next.result c.number_at-count.result _ c.loop-i.entries.entries (omega arith) c.number_at-count.ensures c.number_at-next.ensures c.loop-i.invariant.read c.loop-i.invariant.each
    (subst (λ (w : ℕ). c.number_at-count.result ≤ 1000 / (w + 4)) c.width-wide.ensures.value c.if-count-wide.false) (omega arith)

pub loop-i-preserved : goal.loop-i-preserved
loop-i-preserved c =
    let next = entries_read c.args.kind c.args.page.now c.loop-i.entries.entries c.push.new.self.entries c.in-Some.entry (c.width-wide.result + 4) c.loop-i.i (omega arith) c.loop-i.invariant.long c.loop-i.invariant.read c.loop-i.invariant.each (ap (λ (l : EntryList). l.entries) c.in_ok-push-in-Some.ensures) c.in-Some.ensures.entry c.in-Some.ensures.bytes in
    record { kind = ap (λ (l : EntryList). l.kind) c.in_ok-push-in-Some.ensures ∙ c.loop-i.invariant.kind; long = next.0; read = next.1; each = next.2 }

pub returns-in-None-clause-bad : goal.returns-in-None-clause-bad
returns-in-None-clause-bad c = λ next es p.
    let count : c.number_at-count.result ≡ length es = number_same c.number_at-count.result (length es) (omega arith) (few c.args.kind (length es) p.fits) (c.number_at-count.ensures ∙ leaf_count c.args.kind c.args.page.now next es p) in
    let there : c.loop-i.i < length es = omega (arith, c.loop-i-test.true, count) in
    let place : 8 + c.loop-i.i * (c.width-wide.result + 4) ≡ 8 + c.loop-i.i * (width c.args.kind + 4) = ap (λ (w : ℕ). 8 + c.loop-i.i * (w + 4)) c.width-wide.ensures.value in
    c.in-None.ensures.bad (entry_at c.loop-i.i es) (All-get_or (IsEntry c.args.kind) es c.loop-i.i _ there p.each) (leaf_entry c.args.kind c.args.page.now next es c.loop-i.i _ p there place)
