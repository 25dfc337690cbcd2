-- Blocks that come one after the other.
use Rattle.std.proofs.Common.{arith, ◌≡◌, ◌≤◌, ◌++◌, [], ◌∷◌, ℕ, zero, suc, List, length, take, drop, ap, sym, ◌∙◌}
use Rattle.std.proofs.lemmas.List.{append_assoc, length-drop}
use Rattle.iq_txn.specs.Txns.{TxnState, TakesBlocks}

-- the next of a list: what is left, what came, and that it was there
pub record IsNext (blocks : List ℕ) (came n b : ℕ) (rest : List ℕ) : Type 0 where
  pub left : rest ≡ drop n blocks
  pub more : take n blocks ≡ take came blocks ++ b ∷ []
  pub within : n ≤ length blocks

pub is_next : (blocks : List ℕ) (came b : ℕ) (rest : List ℕ) → drop came blocks ≡ b ∷ rest → IsNext blocks came (suc came) b rest
is_next [] zero b rest e = cc
is_next [] (suc came) b rest e = cc
is_next (x ∷ blocks) zero b rest e = record { left = cc; more = cc; within = omega arith }
is_next (x ∷ blocks) (suc came) b rest e =
    let next : IsNext blocks came (suc came) b rest = is_next blocks came b rest e in
    record { left = next.left; more = ap (λ (ys : List ℕ). x ∷ ys) next.more; within = omega (arith, next.within) }

-- the same by another name of the place behind
pub is_next_at : (blocks : List ℕ) (came n b : ℕ) (rest : List ℕ) → n ≡ suc came → drop came blocks ≡ b ∷ rest → IsNext blocks came n b rest
is_next_at blocks came n b rest e is =
    let next : IsNext blocks came (suc came) b rest = is_next blocks came b rest is in
    record {
      left = next.left ∙ ap (λ (k : ℕ). drop k blocks) (sym e);
      more = ap (λ (k : ℕ). take k blocks) e ∙ next.more;
      within = omega (arith, e, next.within);
    }

-- none is next: all came
pub all_came : (blocks : List ℕ) (came : ℕ) → came ≤ length blocks → drop came blocks ≡ [] → length blocks ≡ came
all_came blocks came within none = omega (arith, within, length-drop came blocks, ap (λ (ys : List ℕ). length ys) none)

-- a block more was taken
pub takes_more : (blocks : List ℕ) (b : ℕ) (old mid new : TxnState) → TakesBlocks blocks old mid → TakesBlocks (b ∷ []) mid new → TakesBlocks (blocks ++ b ∷ []) old new
takes_more blocks b old mid new before after = record {
  heads = after.heads ∙ before.heads;
  private = record {
    items = after.private.items ∙ ap (λ (ys : List ℕ). ys ++ b ∷ []) before.private.items ∙ append_assoc old.private.items blocks (b ∷ []);
    holds = omega (arith, before.private.holds, after.private.holds);
  };
  wasted = after.wasted ∙ before.wasted;
  dropped = after.dropped ∙ before.dropped;
}
