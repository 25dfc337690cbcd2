use Rattle.std.proofs.Common.{ℕ, List, Bool, ◌<◌, ◌^◌, ◌≡◌, ◌∙◌, ap, subst, get_or, sum_by, count_by, count_ones, arith}
use Rattle.std.proofs.lemmas.List.Sums.{count_by-le-length}
use Rattle.iq_bitmap.proofs.BitLists.{length_seen}
use Rattle.iq_bitmap.proofs.Counted.{ones_of_bits}
use Rattle.iq_bitmap.proofs.bitmap.Bitmap.count.Goals as goal

pub ones_of-requires : goal.ones_of-requires
ones_of-requires c = omega (arith, c.self.inside.words.ok.0, c.self.invariant.enough, c.self.invariant.short, c.deref.ensures.len)

counted : (c : goal.After-ones_of) → c.ones_of.result ≡ count_by (λ (on : Bool). on) c.args.self.now
counted c =
    let fit = subst (λ (ws : List ℕ). (k : ℕ) → get_or ws k 0 < 2 ^ 64) c.deref.ensures.value c.ones_of.ensures.fit in
    c.ones_of.ensures.value ∙ ap (sum_by count_ones) c.deref.ensures.value
    ∙ ones_of_bits c.self.inside.words.items c.self.inside.len fit c.self.invariant ∙ ap (count_by (λ (on : Bool). on)) c.self.view_is

pub overflow_cast-result : goal.overflow_cast-result
overflow_cast-result c = record { fits = omega (arith, counted c, count_by-le-length (λ (on : Bool). on) c.args.self.now, length_seen 64 _ _ _ c.self.view_is, c.self.invariant.short) }

pub returns : goal.returns
returns c = counted c
