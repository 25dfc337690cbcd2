-- What notes owe to a shared state and to one another.

module _ {N S : Type 0} (agrees : N → S → Type 0) (apart : N → N → Type 0) where
  -- the parts l and r of a divided note agree with the state, and are apart from each other and from all that n was apart from
  pub record IsDivided (n l r : N) (s : S) : Type 0 where
    pub left_agrees : agrees l s
    pub right_agrees : agrees r s
    pub halves : apart l r
    pub left_apart : (k : N) → apart n k → apart l k
    pub right_apart : (k : N) → apart n k → apart r k

  -- a turn from s to t that leaves m in the place of n: m agrees, and every note apart from n is apart from m, and still agrees if it did
  pub record IsTurn (may : N → S → S → N → Type 0) (n m : N) (s t : S) : Type 0 where
    pub allowed : may n s t m
    pub agree : agrees m t
    pub others_apart : (k : N) → apart n k → apart m k
    pub others_agree : (k : N) → apart n k → agrees k s → agrees k t
