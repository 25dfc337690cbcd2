use Rattle.std.proofs.Common.{◌*◌, refl, arith}
use Rattle.iq_bitmap.proofs.FirstBit.{find_word, extend, no_words, pass_zero, pass_all}
use Rattle.iq_bitmap.proofs.words.first_set_word.Goals as goal

pub loop-k-init : goal.loop-k-init
loop-k-init c = no_words c.args.words.now _

pub loop-k-preserved : goal.loop-k-preserved
loop-k-preserved c = pass_zero c.args.words.now (c.args.at * 64) c.loop-k.k c.if-words-k-ne0.false c.loop-k.invariant

pub returns-then-words-k-ne0-clause-found : goal.returns-then-words-k-ne0-clause-found
returns-then-words-k-ne0-clause-found c =
    let fits = c.type_inv.words c.loop-k.k in
    extend c.args.words.now (c.args.at * 64) (c.loop-k.k * 64) _ c.loop-k.invariant (omega arith)
    (find_word c.args.words.now c.loop-k.k _ refl fits.fits (omega arith))

pub returns-clause-none : goal.returns-clause-none
returns-clause-none c = pass_all c.args.words.now (c.args.at * 64) (c.loop-k.k * 64) (omega arith) c.loop-k.invariant
