use Rattle.std.proofs.Common.{◌/◌, refl, arith}
use Rattle.iq_bitmap.proofs.FirstBit.{find_from, pass_from, found_after, missed_after}
use Rattle.iq_bitmap.proofs.words.first_set.Goals as goal

pub returns-then-rest-ne0-clause-found : goal.returns-then-rest-ne0-clause-found
returns-then-rest-ne0-clause-found c = let fits = c.type_inv.words (c.args.from / 64) in find_from c.args.words.now c.args.from _ refl fits.fits (omega arith)

pub returns-clause-found : goal.returns-clause-found
returns-clause-found c =
    let passed = pass_from c.args.words.now c.args.from _ refl c.if-rest-ne0.false in
    found_after c.args.words.now c.args.from _ c.first_set_word.result passed (omega arith) c.first_set_word.ensures.found

pub returns-clause-none : goal.returns-clause-none
returns-clause-none c =
    let passed = pass_from c.args.words.now c.args.from _ refl c.if-rest-ne0.false in
    missed_after c.args.words.now c.args.from _ c.first_set_word.result passed c.first_set_word.ensures.none
