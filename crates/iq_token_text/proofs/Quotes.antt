-- Doubled quotes, from one quote to the next.
use Rattle.std.proofs.Common.{◌≡◌, ◌≢◌, ℕ, suc, ◌<◌, List, [], ◌∷◌, ◌++◌, length, get_or, arith, refl}
use Rattle.std.specs.Prelude.{flat_map}
use Rattle.std.proofs.lemmas.Grind.{common_steps, flat_map-append}
use Rattle.iq_token_text.specs.Texts.{quoted_byte}

-- no byte is a quote
abbrev pub HasNoQuote : List ℕ → Type 0
HasNoQuote bytes = (i : ℕ) → i < length bytes → get_or bytes i 0 ≢ 39

-- any other byte stands once
quoted_other : (byte : ℕ) → byte ≢ 39 → quoted_byte byte ≡ byte ∷ []
quoted_other byte other = grind (arith, common_steps)

-- a text without a quote stays
pub doubled_without : (bytes : List ℕ) → HasNoQuote bytes → flat_map quoted_byte bytes ≡ bytes
doubled_without [] none = refl
doubled_without (byte ∷ bytes) none =
    let here : quoted_byte byte ≡ byte ∷ [] = quoted_other byte (none 0 (omega arith)) in
    let there : flat_map quoted_byte bytes ≡ bytes = doubled_without bytes (λ i low. none (suc i) (omega arith)) in
    rw (here, there) refl

-- up to the first quote a text stays, and that quote stands twice
pub doubled_split : (whole front back : List ℕ) → whole ≡ front ++ 39 ∷ back → HasNoQuote front → flat_map quoted_byte whole ≡ front ++ 39 ∷ 39 ∷ flat_map quoted_byte back
doubled_split whole front back split none =
    rw (split, flat_map-append, doubled_without front none) refl
