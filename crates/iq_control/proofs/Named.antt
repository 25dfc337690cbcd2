-- Savepoints by their names alone.
use Rattle.std.specs.Prelude.{◌≡◌, refl, ℕ, Bool, true, false, not, List, [], ◌∷◌, map, is_none, nat_le, length}
use Rattle.std.proofs.Common.{ap}
use Rattle.std.proofs.lemmas.List.{length-map}
use Rattle.iq_base.specs.Shorts.{Name}
use Rattle.iq_conditions.specs.Servers.{same_name}
use Rattle.iq_replay.specs.Refusals.{save_named, most_saves}
use Rattle.iq_sessions.specs.Kept.{save_of}
use Rattle.iq_sessions.specs.Saves.{has_save}

pub full_names : (names : List Name) → nat_le most_saves (length (map save_of names)) ≡ nat_le 16 (length names)
full_names names = ap (λ (n : ℕ). nat_le 16 n) (length-map names save_of)

pub named_names : (names : List Name) (name : Name) → is_none (save_named (map save_of names) name) ≡ not (has_save name names)
named_names [] name = refl
named_names (n ∷ names) name = by_name (same_name n name) refl (named_names names name)
  where
    by_name : (b : Bool) → same_name n name ≡ b → is_none (save_named (map save_of names) name) ≡ not (has_save name names) → is_none (save_named (map save_of (n ∷ names)) name) ≡ not (has_save name (n ∷ names))
    by_name true q more = rw (q) refl
    by_name false q more = rw (q) more
