use Rattle.std.proofs.Common.{ℕ, List, subst, arith}
use Rattle.iq_bitmap.proofs.BitLists.{length_seen}
use Rattle.iq_bitmap.specs.Words.{IsFirstBit, HasNoBitFrom}
use Rattle.iq_bitmap.proofs.NextSet.{next_seen, none_seen, also_for_none}
use Rattle.iq_bitmap.proofs.bitmap.Bitmap.next.Goals as goal

pub returns-in_err-row-clause-none : goal.returns-in_err-row-clause-none
returns-in_err-row-clause-none c =
    let none = subst (λ (ws : List ℕ). HasNoBitFrom ws c.args.from) c.deref.ensures.value c.in_err-row.ensures.none in
    also_for_none c.from_residual.result _ (none_seen c.self.inside.words.items c.self.inside.len c.args.self.now c.args.from c.self.invariant c.self.view_is none)

pub returns-clause-found : goal.returns-clause-found
returns-clause-found c =
    let found = subst (λ (ws : List ℕ). IsFirstBit ws c.args.from c.in_ok-row.row) c.deref.ensures.value c.in_ok-row.ensures.found in
    next_seen c.self.inside.words.items c.self.inside.len c.args.self.now c.args.from c.in_ok-row.row c.self.invariant c.self.view_is found

pub returns-in_err-row-clause-short : goal.returns-in_err-row-clause-short
returns-in_err-row-clause-short c = omega (arith, length_seen 64 _ _ _ c.self.view_is, c.self.invariant.short)

pub returns-clause-short : goal.returns-clause-short
returns-clause-short c = omega (arith, length_seen 64 _ _ _ c.self.view_is, c.self.invariant.short)
