use Rattle.std.proofs.Common.{ℕ, ◌<◌, ◌/◌, set, ap, ◌∙◌, arith}
use Rattle.std.proofs.lemmas.List.{get_or_read}
use Rattle.std.specs.Int.{bit_at}
use Rattle.iq_bitmap.proofs.BitLists.{length_seen, word_within}
use Rattle.iq_bitmap.proofs.OneBit.{Writes, bits_of-set, set_tight}
use Rattle.iq_bitmap.proofs.bitmap.Bitmap.set.Goals as goal

pub index-requires : goal.index-requires
index-requires c = omega (arith, length_seen 64 _ _ _ c.self.view_is, c.self.inside.words.ok.0, c.self.invariant.enough)

pub index_mut-requires : goal.index_mut-requires
index_mut-requires c = omega (arith, length_seen 64 _ _ _ c.self.view_is, c.self.inside.words.ok.0, c.self.invariant.enough)

within : (c : goal.After-self-1) → c.args.row < c.self.inside.len
within c = omega (arith, length_seen 64 _ _ _ c.self.view_is)

writes : (c : goal.After-self-1) → Writes c.self.inside.words.items c.args.row c.with_bit.result c.args.on
writes c =
    let there = word_within c.self.inside.words.items c.self.inside.len c.args.row c.self.invariant.enough (within c) in
    record {
      within = there;
      here = c.with_bit.ensures.here;
      others = λ j h apart. c.with_bit.ensures.others j h apart ∙ ap (λ (x : ℕ). bit_at x j) (get_or_read c.self.inside.words.items (c.args.row / 64) c.index.result.now there c.index.ensures 0);
    }

pub invariant_of-self : goal.invariant_of-self
invariant_of-self c = set_tight c.self.inside.words.items c.self.inside.len c.args.row c.with_bit.result c.args.on (within c) (writes c) c.self.invariant

pub returns : goal.returns
returns c =
    bits_of-set c.self.inside.words.items c.self.inside.len c.args.row c.with_bit.result c.args.on (within c) (writes c)
    ∙ ap (λ bits. set bits c.args.row c.args.on) c.self.view_is
