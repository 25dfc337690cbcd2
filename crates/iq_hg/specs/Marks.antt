-- The rows of wanted entries, set one after the other.
use Rattle.std.specs.Prelude.{◌≡◌, ◌<◌, ◌≤◌, ℕ, Bool, true, false, List, length, take}
use Rattle.std.specs.List.{All}
use Rattle.iq_hg_leaves.specs.declared.entries.Entry.{Entry}
use Rattle.iq_hg_leaves.specs.Entries.{entry_at}
use Rattle.iq_hg.specs.declared.wanted.Wanted.{Wanted}
use Rattle.iq_hg.specs.Bounds.{is_past}
use Rattle.iq_hg.specs.Stands.{marked}

-- the first n entries of a list were looked at, none of which stands behind what is wanted; the next one, if there is one, does
pub record Marks (wanted : Wanted) (entries : List Entry) (n : ℕ) (old new : List Bool) : Type 0 where
  pub most : n ≤ length entries
  pub marked_are : new ≡ marked wanted old (take n entries)
  pub live : All (λ (entry : Entry). is_past wanted entry.value ≡ false) (take n entries)
  pub end : n < length entries → is_past wanted (entry_at n entries).value ≡ true
