use Rattle.std.proofs.Common.{[], sym, ap, ◌∙◌, ◌≡◌, ◌<◌, ◌+◌, ◌*◌, ◌/◌, ◌%◌, length, refl, arith}
use Rattle.std.proofs.lemmas.List.{get_or_default}
use Rattle.std.proofs.lemmas.Nat.{mod_below}
use Rattle.std.proofs.lemmas.Result.{err_from_is_err_and, on_ok_weaker}
use Rattle.iq_pages.specs.PageCalls.{view}
use Rattle.iq_chunks.specs.Chunks.{chunks_for}
use Rattle.iq_planes.specs.Planes.{plane_at}
use Rattle.iq_planes.proofs.PlaneReads.{read_cause}
use Rattle.iq_planes.proofs.Growth.{old_page, new_page, BeginsPage, begins_empty, begins_read, saves_next, saves_longer}
use Rattle.iq_planes.proofs.appending.extend.Goals as goal
use Rattle.iq_planes.proofs.appending.extend.Goals.{then-start-len+in_ok-read_page, else-start-len}

pub returns-in_err-read_page-clause-full : goal.returns-in_err-read_page-clause-full
returns-in_err-read_page-clause-full g c =
    let old : c.args.at < length c.args.more.now * chunks_for c.args.len = old_page (length c.args.more.now) c.args.len c.args.at c.requires.some c.if-start-len.true in
    λ past. absurd (omega (arith, old, past))

pub returns-in_err-read_page-clause-cause : goal.returns-in_err-read_page-clause-cause
returns-in_err-read_page-clause-cause g c =
    let p = err_from_is_err_and c.from_residual.result c.from_residual.ensures.1 in
    rw (p.1, p.2) (read_cause c.args.object (length c.args.more.now) c.args.len c.args.at (view g.S.PageSource c.args.sink.now) (view g.S.PageSource c.args.sink.now) (view g.S.PageSource c.read_page.new.source) c.in_err-read_page.field-0.0 (record { told = λ o. refl; counts = λ o. refl }) (omega arith) (old_page (length c.args.more.now) c.args.len c.args.at c.requires.some c.if-start-len.true) c.in_err-read_page.ensures.names c.in_err-read_page.ensures.cause)

pub put_in_page-requires-clause-there : goal.put_in_page-requires-clause-there
put_in_page-requires-clause-there g c =
    let k = length c.args.more.now in
    let plane : plane_at (c.args.at % k) c.args.more.now ≡ c.index-more-at.result = get_or_default c.args.more.now (c.args.at % k) [] c.index-more-at.result (mod_below c.args.at k c.requires.some) ∙ sym c.index-more-at.is in
    let long : length c.index-more-at.result ≡ c.args.n = ap length (sym plane) ∙ c.requires.planes.long (c.args.at % k) (mod_below c.args.at k c.requires.some) in
    let begins : c.args.at / k * 8064 < c.args.len + c.args.n = new_page k (c.args.len + c.args.n) c.args.at c.requires.some c.requires.within in
    omega (arith, long, c.max-from.ensures, c.min-to.ensures, begins)

pub returns-in_err-put_in_page-clause-full : goal.returns-in_err-put_in_page-clause-full
returns-in_err-put_in_page-clause-full g c = λ past. elim c.if-start-len.branch [
  | then-start-len+in_ok-read_page w ↦ (
      let old : c.args.at < length c.args.more.now * chunks_for c.args.len = old_page (length c.args.more.now) c.args.len c.args.at c.requires.some w.if-start-len.true in
      absurd (omega (arith, old, past)))
  | else-start-len w ↦ rw w.sink-is refl
]

pub returns-clause-ok : goal.returns-clause-ok
returns-clause-ok g c =
    let told = g.S.PageSource.told c.args.sink.now c.args.object in
    let k = length c.args.more.now in
    let more = c.args.more.now in
    let begins : BeginsPage k c.args.len c.args.n c.args.at more told c.if-start-len.page = elim c.if-start-len.branch [
      | then-start-len+in_ok-read_page w ↦ rw w.page-is (begins_read k c.args.len c.args.n c.args.at more told w.read_page.new.into (old_page k c.args.len c.args.at c.requires.some w.if-start-len.true) w.in_ok-read_page.ensures.ok)
      | else-start-len w ↦ begins_empty k c.args.len c.args.n c.args.at more told _ c.requires.some (omega (arith, w.if-start-len.false)) w.page-is
    ] in
    let same : g.S.PageSource.told c.if-start-len.sink c.args.object ≡ told = elim c.if-start-len.branch [
      | then-start-len+in_ok-read_page w ↦ rw w.sink-is (w.read_page.ensures.reads.kept.told c.args.object)
      | else-start-len w ↦ rw w.sink-is refl
    ] in
    let plane : plane_at (c.args.at % k) more ≡ c.index-more-at.result = get_or_default more (c.args.at % k) [] c.index-more-at.result (mod_below c.args.at k c.requires.some) ∙ sym c.index-more-at.is in
    on_ok_weaker c.save_page.result
    (λ saves. saves_next k c.args.len c.args.n c.args.at more told _ c.if-start-len.page c.put_in_page.new.page c.requires.some c.requires.planes c.requires.from c.requires.within begins
    (rw (plane, ← c.max-from.ensures, ← c.min-to.ensures) c.in_ok-put_in_page.ensures)
    (rw same at saves))
    c.save_page.ensures.ok

pub returns-clause-full : goal.returns-clause-full
returns-clause-full g c = λ past. c.save_page.ensures.reads ∙ elim c.if-start-len.branch [
  | then-start-len+in_ok-read_page w ↦ (
      let old : c.args.at < length c.args.more.now * chunks_for c.args.len = old_page (length c.args.more.now) c.args.len c.args.at c.requires.some w.if-start-len.true in
      absurd (omega (arith, old, past)))
  | else-start-len w ↦ rw w.sink-is refl
]

pub returns-clause-longer : goal.returns-clause-longer
returns-clause-longer g c =
    let told = g.S.PageSource.told c.args.sink.now c.args.object in
    let same : g.S.PageSource.told c.if-start-len.sink c.args.object ≡ told = elim c.if-start-len.branch [
      | then-start-len+in_ok-read_page w ↦ rw w.sink-is (w.read_page.ensures.reads.kept.told c.args.object)
      | else-start-len w ↦ rw w.sink-is refl
    ] in
    on_ok_weaker c.save_page.result (λ saves. saves_longer c.args.at c.put_in_page.new.page told _ (rw same at saves)) c.save_page.ensures.ok
