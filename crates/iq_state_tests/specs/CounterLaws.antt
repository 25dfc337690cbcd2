-- The laws of a counter's notes, which its `impl` cites.
use Rattle.std.specs.Prelude.{◌≡◌, ℕ, suc, ◌≤◌, Bool, true, false, cond, List, [], ◌∷◌, filter}
use Rattle.std.proofs.Common.{sym, refl, ap, ◌∙◌, subst, true≢false, le_of_lt, le_of_eq, lt_irrefl, le-leb, leb-true, eqb-true}
use Rattle.iq_state_tests.specs.declared.counter.Added.{Added}
use Rattle.iq_state_tests.specs.declared.counter.Names.{Names}
use Rattle.iq_state_tests.specs.declared.counter.Names.TheVariants.{Nobody, One, From}
use Rattle.iq_state_tests.specs.declared.counter.Mine.{Mine}
use Rattle.iq_state_tests.specs.Counter.{speaks_for, added_by, rest_of, least_of, left_note, right_note, Knows, ShareNoName}
use Rattle.iq_turnstile.specs.Notes.{IsDivided}

skipped : {X : Type 0} (x : X) (zs : List X) (b : Bool) → (b ≡ true → false ≡ true) → zs ≡ cond b (x ∷ zs) zs
skipped x zs true h = absurd (true≢false (sym (h refl)))
skipped x zs false h = refl

one_more : {X : Type 0} (q : X → Bool) (x : X) (ys zs : List X) (a : Bool) → (q x ≡ true → a ≡ true) → filter q ys ≡ zs → filter q (cond a (x ∷ ys) ys) ≡ cond (q x) (x ∷ zs) zs
one_more {X} q x ys zs true h e = ap (λ (l : List X). cond (q x) (x ∷ l) l) e
one_more q x ys zs false h e = e ∙ skipped x zs (q x) h

-- a filter of what a weaker one keeps
filter_within : {X : Type 0} (p q : X → Bool) → ((x : X) → q x ≡ true → p x ≡ true) → (xs : List X) → filter q (filter p xs) ≡ filter q xs
filter_within p q within [] = refl
filter_within p q within (x ∷ xs) = one_more q x (filter p xs) (filter q xs) (p x) (within x) (filter_within p q within xs)

rest_within : (names : Names) (x : ℕ) → speaks_for (rest_of names) x ≡ true → speaks_for names x ≡ true
rest_within Nobody x h = h
rest_within (One a) x h = absurd (true≢false (sym h))
rest_within (From a) x h = le-leb a x (le_of_lt (leb-true (suc a) x h))

least_within : (names : Names) (x : ℕ) → speaks_for (least_of names) x ≡ true → speaks_for names x ≡ true
least_within Nobody x h = h
least_within (One a) x h = h
least_within (From a) x h = le-leb a x (le_of_eq (eqb-true a x h))

never_both : (names : Names) (x : ℕ) → speaks_for (rest_of names) x ≡ true → speaks_for (least_of names) x ≡ true → ⊥
never_both Nobody x h k = true≢false (sym h)
never_both (One a) x h k = true≢false (sym h)
never_both (From a) x h k = let same : x ≡ a = sym (eqb-true a x k) in let P : ℕ → Type 0 = λ y. suc a ≤ y in lt_irrefl a (subst P same (leb-true (suc a) x h))

-- a part of a note knows its part of the history
part_knows : (names part : Names) (added history : List Added) → ((x : ℕ) → speaks_for part x ≡ true → speaks_for names x ≡ true) → added_by names history ≡ added → added_by part history ≡ added_by part added
part_knows names part added history within knows =
    sym (filter_within (λ (e : Added). speaks_for names e.by) (λ (e : Added). speaks_for part e.by) (λ e. within e.by) history) ∙ ap (added_by part) knows

pub share_both_ways : (n m : Mine) → ShareNoName n m → ShareNoName m n
share_both_ways n m h x a b = h x b a

pub divides_names : (n : Mine) (history : List Added) → Knows n history → IsDivided Knows ShareNoName n (left_note n) (right_note n) history
divides_names n history knows = record {
  left_agrees = part_knows n.names (rest_of n.names) n.added history (rest_within n.names) knows;
  right_agrees = part_knows n.names (least_of n.names) n.added history (least_within n.names) knows;
  halves = never_both n.names;
  left_apart = λ k apart x a b. apart x (rest_within n.names x a) b;
  right_apart = λ k apart x a b. apart x (least_within n.names x a) b;
}
