-- Entries stay placed as they are put at the end.
use Rattle.std.proofs.Common.{ℕ, List, [], ◌∷◌, ◌++◌, length, rules}
use Rattle.std.proofs.lemmas.List.Elements.{All-append}
use Rattle.iq_history.specs.declared.entries.Entry.{Entry}
use Rattle.iq_history.specs.Placed.{IsPlaced}
use Rattle.iq_history.specs.State.{ArePlaced}

-- one entry more, placed like the others
pub ArePlaced-push : (nodes sessions : List (List ℕ)) (entries : List Entry) (entry : Entry) → ArePlaced nodes sessions entries → IsPlaced (length nodes) (length sessions) entry → ArePlaced nodes sessions (entries ++ entry ∷ [])
ArePlaced-push nodes sessions entries entry all one =
    All-append (λ (e : Entry). IsPlaced (length nodes) (length sessions) e) entries (entry ∷ []) all (search rules)
