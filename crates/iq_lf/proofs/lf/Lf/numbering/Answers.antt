use Rattle.std.proofs.Common.{◌≡◌, ◌<◌, ◌/◌, ◌∷◌, ◌∙◌, ℕ, inl, refl, sym, ap, arith}
use Rattle.std.proofs.lemmas.Grind.{rows}
use Rattle.std.proofs.lemmas.Result.{err_from_is_err_and}
use Rattle.iq_base.specs.Cells.{width}
use Rattle.iq_base.specs.declared.values.Value.TheVariants.{Null}
use Rattle.iq_pages.specs.PageCalls.{view}
use Rattle.iq_numbering.specs.Numbers.{IsNumbered, HasNumbered}
use Rattle.iq_pieces.specs.Counts.{per_page}
use Rattle.iq_lf.proofs.Readings.{stands_still}
use Rattle.iq_lf.proofs.NumberLaws.{found_are, codes_below, too_many, repeat_cause, short_cause}
use Rattle.iq_lf.proofs.lf.Lf.numbering.Goals as goal

pub returns-then-have-len-clause-cause : goal.returns-then-have-len-clause-cause
returns-then-have-len-clause-cause g c =
    let lf = c.args.self.now in
    let per : 1008 / c.width-per.result ≡ per_page (width lf.kind) = ap (λ (n : ℕ). 1008 / n) c.width-per.ensures.value in
    let positive : 0 < 1008 / c.width-per.result = grind (arith, rows) in
    let long : c.len.result ≡ lf.distinct = c.len.ensures ∙ c.in_ok-read.ensures.long in
    let less : c.pages-have.result < lf.distinct / per_page (width lf.kind) = rw (← per, ← long) c.if-have-len.true in
    rw c.bad_first.ensures (
      inl refl,
      (λ values stands. short_cause lf (g.S.PageSource.told c.read_known.new.source) c.pages-have.result (omega (arith, per, positive)) c.pages-have.ensures.told less values
          (stands_still lf (g.S.PageSource.told c.args.source.now) (g.S.PageSource.told c.read_known.new.source) values (c.read_known.ensures.reads.kept.told lf.first) (c.read_known.ensures.reads.kept.told lf.second) (c.read_known.ensures.reads.kept.told lf.third) stands)),
    )

pub returns-in_err-known-clause-cause : goal.returns-in_err-known-clause-cause
returns-in_err-known-clause-cause g c =
    let p = err_from_is_err_and c.from_residual-in_err-known.result c.from_residual-in_err-known.ensures.1 in
    rw (p.1, p.2) (repeat_cause c.args.self.now (view g.S.PageSource c.args.source.now) (view g.S.PageSource c.read_known.new.source) c.in_ok-read.read.values c.in_err-known.field-0.0 c.in_ok-read.ensures.known c.in_err-known.ensures.cause)

pub returns-then-len-numbered-gt-MOST_DISTINCT-clause-cause : goal.returns-then-len-numbered-gt-MOST_DISTINCT-clause-cause
returns-then-len-numbered-gt-MOST_DISTINCT-clause-cause g c =
    let read = c.in_ok-read.read.values in
    let n : HasNumbered (Null ∷ read) c.args.cells.now.values c.in_ok-numbered.numbered.new c.in_ok-numbered.numbered.codes.items = rw c.in_ok-known.ensures.values at c.in_ok-numbered.ensures.ok in
    too_many c.args.self.now (g.S.PageSource.told c.args.source.now) read c.args.cells.now.values c.in_ok-numbered.numbered.new c.in_ok-numbered.numbered.codes.items c.in_ok-read.ensures.long c.in_ok-read.ensures.known n (omega (arith, c.if-len-numbered-gt-MOST_DISTINCT.true, c.len-2.ensures))

pub returns-clause-few : goal.returns-clause-few
returns-clause-few g c =
    let f = found_are c.in_ok-known.known.values c.args.cells.now.values c.in_ok-fresh.fresh.values _ c.in_ok-numbered.numbered.new c.in_ok-numbered.numbered.codes.items (sym c.len-3.ensures) c.in_ok-numbered.ensures.ok (rw c.deref.ensures.value at c.in_ok-fresh.ensures.ok) in
    omega (arith, f.1, c.if-len-numbered-gt-MOST_DISTINCT.false, c.len-2.ensures, c.in_ok-read.ensures.long)

pub returns-clause-below : goal.returns-clause-below
returns-clause-below g c =
    let read = c.in_ok-read.read.values in
    let f = found_are c.in_ok-known.known.values c.args.cells.now.values c.in_ok-fresh.fresh.values _ c.in_ok-numbered.numbered.new c.in_ok-numbered.numbered.codes.items (sym c.len-3.ensures) c.in_ok-numbered.ensures.ok (rw c.deref.ensures.value at c.in_ok-fresh.ensures.ok) in
    let n : IsNumbered (Null ∷ read) c.args.cells.now.values c.in_ok-fresh.fresh.values c.in_ok-numbered.numbered.codes.items = rw c.in_ok-known.ensures.values at f.0 in
    rw (← c.in_ok-read.ensures.long) (codes_below read c.args.cells.now.values c.in_ok-fresh.fresh.values c.in_ok-numbered.numbered.codes.items n)

pub returns-clause-numbered : goal.returns-clause-numbered
returns-clause-numbered g c =
    let lf = c.args.self.now in
    let read = c.in_ok-read.read.values in
    let f = found_are c.in_ok-known.known.values c.args.cells.now.values c.in_ok-fresh.fresh.values _ c.in_ok-numbered.numbered.new c.in_ok-numbered.numbered.codes.items (sym c.len-3.ensures) c.in_ok-numbered.ensures.ok (rw c.deref.ensures.value at c.in_ok-fresh.ensures.ok) in
    let n : IsNumbered (Null ∷ read) c.args.cells.now.values c.in_ok-fresh.fresh.values c.in_ok-numbered.numbered.codes.items = rw c.in_ok-known.ensures.values at f.0 in
    let kind : c.in_ok-fresh.fresh.kind ≡ lf.kind = c.in_ok-fresh.ensures.kind ∙ c.requires.kind in
    record {
      known = read;
      long = c.in_ok-read.ensures.long;
      known_are = c.in_ok-read.ensures.known;
      of_kind = rw kind at c.have_cells.ensures;
      numbered = n;
      begins = rw (c.in_ok-read.ensures.kind, c.in_ok-read.ensures.long) at c.last_page-last.ensures;
    }

pub returns-clause-reached : goal.returns-clause-reached
returns-clause-reached g c =
    let lf = c.args.self.now in
    let per : 1008 / c.width-per.result ≡ per_page (width lf.kind) = ap (λ (n : ℕ). 1008 / n) c.width-per.ensures.value in
    let long : c.len.result ≡ lf.distinct = c.len.ensures ∙ c.in_ok-read.ensures.long in
    let same : g.S.PageSource.counts c.read_known.new.source lf.first ≡ g.S.PageSource.counts c.args.source.now lf.first = c.read_known.ensures.reads.kept.counts lf.first in
    rw (← per, ← long, ← same, ← c.pages-have.ensures.count) (omega (arith, c.if-have-len.false))
