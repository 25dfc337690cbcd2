-- Lists.
use Rattle.std.proofs.Common.{◌≡◌, List, [], ◌∷◌, ◌++◌, refl, ap}
use Rattle.iq_grammar.specs.Draft.{change_last}

pub change_last_end : {A : Type 0} (f : A → A) (xs : List A) (x : A) → change_last f (xs ++ x ∷ []) ≡ xs ++ f x ∷ []
change_last_end f [] x = refl
change_last_end f (y ∷ []) x = refl
change_last_end f (y ∷ z ∷ zs) x = ap (λ (l : List _). y ∷ l) (change_last_end f (z ∷ zs) x)
