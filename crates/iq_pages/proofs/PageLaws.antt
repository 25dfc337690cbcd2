-- What two calls on pages, one after the other, have done together.
use Rattle.std.proofs.Common.{◌≤◌, ℕ, ◌+◌, Option, Some, None, arith}
use Rattle.iq_outside.specs.Faults.{RoseWithin}
use Rattle.iq_pages.specs.Pages.{CountsMore}

-- so many more were counted, and then so many more
pub counts_on : (m n : ℕ) (before between after : Option ℕ) → CountsMore m before between → CountsMore n between after → CountsMore (m + n) before after
counts_on m n before between None p q = tt
counts_on m n before None (Some c) p q = absurd q
counts_on m n None (Some b) (Some c) p q = absurd p
counts_on m n (Some a) (Some b) (Some c) p q = omega arith

-- nothing was counted
pub counts_none : (count : Option ℕ) → CountsMore 0 count count
counts_none None = tt
counts_none (Some n) = omega arith

-- a count that rose later on rose since an earlier reading, and until a later one
pub rose_since : (first before after x y : ℕ) → first ≤ before → RoseWithin before x y after → RoseWithin first x y after
rose_since first before after x y l h = record { since = omega (arith, h.since); risen = h.risen; until = h.until }

pub rose_until : (first after last x y : ℕ) → after ≤ last → RoseWithin first x y after → RoseWithin first x y last
rose_until first after last x y l h = record { since = h.since; risen = h.risen; until = omega (arith, h.until) }
