use Rattle.std.proofs.Common.{ℕ, ◌-◌, ◌*◌, ◌≡◌, length, drop, replicate, take, ap, subst, ◌∙◌, arith}
use Rattle.std.proofs.lemmas.List.{length-drop, length-take-le}
use Rattle.iq_bitmap.proofs.PageBytes.{HasBytes, no_bytes, store_more, store_rest, bits_stored}
use Rattle.iq_bitmap.proofs.page_words.store_words.Goals as goal

pub loop-k-init : goal.loop-k-init
loop-k-init c = no_bytes c.args.words.now c.args.at _

pub loop-k-preserved : goal.loop-k-preserved
loop-k-preserved c = store_more c.args.words.now c.args.at c.loop-k.page c.put_word.new.page c.loop-k.k (omega arith) c.put_word.ensures c.loop-k.invariant

pub returns : goal.returns
returns c =
    let front = c.min-count.result * 8 in
    let back = 1008 - front in
    let long : length (take back (drop front c.loop-k.page)) ≡ back = length-take-le back (drop front c.loop-k.page) (omega (arith, length-drop front c.loop-k.page)) in
    let zeros = c.fill.ensures.after (λ y e. e) ∙ ap (λ (n : ℕ). replicate {A = ℕ} n 0) long in
    let same : c.loop-k.k ≡ c.min-count.result = omega arith in
    let done = subst (λ (k : ℕ). HasBytes c.args.words.now c.args.at c.loop-k.page (k * 8)) same c.loop-k.invariant in
    let stored = store_rest c.args.words.now c.args.at c.loop-k.page c.fill.new.self 1008 front back (omega arith) (omega arith) zeros (λ b h l. omega arith) done in
    λ i h. bits_stored c.args.words.now c.args.at _ 1008 i stored (omega arith)
