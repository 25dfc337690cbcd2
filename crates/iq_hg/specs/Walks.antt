-- Walking from leaf to leaf, and what is done on the way.
use Rattle.std.specs.Prelude.{◌≡◌, ◌<◌, ◌≤◌, ℕ, ◌+◌, ◌*◌, ◌/◌, Bool, true, false, not, ◌&&◌, ◌||◌, if◌then◌else◌, List, Option, length, replicate}
use Rattle.std.specs.List.{All, sum_by}
use Rattle.iq_base.specs.declared.values.Value.{Value}
use Rattle.iq_pages.specs.Pages.{Pages, Seen}
use Rattle.iq_pieces.specs.Counts.{OnlyReads}
use Rattle.iq_hg_leaves.specs.Entries.{entries_from}
use Rattle.iq_truth.specs.Comparisons.{is_null}
use Rattle.iq_hg_leaves.specs.declared.entries.Entry.{Entry}
use Rattle.iq_hg_leaves.specs.Leaves.{Leaf, entries_of}
use Rattle.iq_hg.specs.declared.hg.Hg.{Hg}
use Rattle.iq_hg.specs.declared.wanted.Wanted.{Wanted}
use Rattle.iq_hg.specs.Bounds.{is_wanted, is_before, is_past}
use Rattle.iq_hg.specs.Stands.{Stands, IsAt, marked}

-- the leaf on a page is one from which on all is that is wanted: what lies before it stands before that, and nothing that lies behind it does
pub record StartsAt (wanted : Wanted) (leaves : List Leaf) (page : ℕ) : Type 0 where
  pub at : IsAt leaves page
  pub before : All (λ (entry : Entry). is_before wanted entry.value ≡ true) (entries_of at.xs)
  pub behind : All (λ (entry : Entry). is_before wanted entry.value ≡ false) (entries_of at.ys)

-- so it is whatever values the index stands for
abbrev pub Starts : Hg → (ℕ → Option Pages) → Wanted → ℕ → Type 0
Starts hg told wanted page = (values : List Value) (st : Stands hg told values) → StartsAt wanted st.leaves page

-- 1 where the value of an entry stands neither before nor behind what is wanted
abbrev pub one_within : Wanted → Entry → ℕ
one_within wanted entry = if is_before wanted entry.value || is_past wanted entry.value then 0 else 1

-- whatever values the index stands for, at most so many pages were read, and half as many more as there are entries neither before nor
-- behind what is wanted
abbrev pub ReadsFew : Hg → (ℕ → Option Pages) → Wanted → ℕ → Seen → Seen → Type 0
ReadsFew hg told wanted n before after = (values : List Value) → Stands hg told values → OnlyReads (n + sum_by (one_within wanted) (entries_from 0 values) / 2) before after

-- after k leaves the one on a page comes next, and all wanted rows before it are set; each leaf but the first had two entries or more that stand
-- neither before nor behind what is wanted
pub record Reached (wanted : Wanted) (leaves : List Leaf) (slots k page : ℕ) (bits : List Bool) : Type 0 where
  pub at : IsAt leaves page
  pub enough : k ≤ length at.xs
  pub marked_are : bits ≡ marked wanted (replicate slots false) (entries_of at.xs)
  pub counted : 2 * k ≤ sum_by (one_within wanted) (entries_of at.xs) + 2
  pub own : 0 < k → All (λ (entry : Entry). is_before wanted entry.value ≡ false) at.leaf.entries
  pub ahead : All (λ (entry : Entry). is_before wanted entry.value ≡ false) (entries_of at.ys)

abbrev pub Reaches : Hg → (ℕ → Option Pages) → Wanted → ℕ → ℕ → List Bool → Type 0
Reaches hg told wanted k page bits = (values : List Value) (st : Stands hg told values) → Reached wanted st.leaves hg.slots k page bits

-- whether a value is one that is wanted; NULL never is
abbrev pub is_chosen : Wanted → Value → Bool
is_chosen wanted v = not (is_null v) && is_wanted wanted v
