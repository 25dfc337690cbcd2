-- The words with marks are the reserved words.
use Rattle.std.proofs.Common.{◌≡◌, ℕ, Bool, true, false, ◌||◌, cond, List, [], ◌∷◌, map, Option, Some, None, ◌↔◌, refl, subst}
use Rattle.std.specs.Prelude.{nat_eq}
use Rattle.std.specs.Cmp.Lexicographic.{pointwise}
use Rattle.iq_ast.specs.Words.{is_among, is_reserved, reserved as the_words}
use Rattle.iq_tokens.specs.declared.words.TheConstants.{WORDS}
use Rattle.iq_tokens.specs.declared.tokens.Mark.{Mark}
use Rattle.iq_tokens.specs.Tokens.{lookup, reserved}

abbrev words_of : List (List ℕ × Mark) → List (List ℕ)
words_of [] = []
words_of (k ∷ ks) = k.0 ∷ words_of ks

none_step : (b : Bool) (m : Mark) (o : Option Mark) (c : Bool) → ((o ≡ None) ↔ (c ≡ false)) → (cond b (Some m) o ≡ None) ↔ (b || c ≡ false)
none_step true m o c others = (λ h. absurd cc, λ h. absurd cc)
none_step false m o c others = others

lookup_none : (table : List (List ℕ × Mark)) (word : List ℕ) → (lookup table word ≡ None) ↔ (is_among (words_of table) word ≡ false)
lookup_none [] word = (λ h. refl, λ h. refl)
lookup_none (k ∷ ks) word = none_step (pointwise nat_eq k.0 word) k.1 (lookup ks word) (is_among (words_of ks) word) (lookup_none ks word)

same_words : words_of (map (λ k. (k.0.now, k.1)) WORDS) ≡ the_words
unfolding the_words
same_words = refl

-- a word is a name exactly where it isn't reserved
pub no_mark : (word : List ℕ) → (reserved word ≡ None) ↔ (is_reserved word ≡ false)
unfolding reserved is_reserved
no_mark word = subst (λ (ws : List (List ℕ)). (lookup (map (λ k. (k.0.now, k.1)) WORDS) word ≡ None) ↔ (is_among ws word ≡ false)) same_words (lookup_none (map (λ k. (k.0.now, k.1)) WORDS) word)
