-- The pages of an object in a list of objects, by the place of the first object of its number.
use Rattle.std.proofs.Common.{◌≡◌, ◌≢◌, ℕ, zero, suc, ◌<◌, true, false, List, [], ◌∷◌, ◌++◌, length, slice_index_or, slice_set, refl, arith, eq-eqb, eqb-true, nat_eq, if◌then◌else◌}
use Rattle.std.proofs.lemmas.Bool.Decides.{nat_tests}
use Rattle.iq_pages.specs.declared.memory_objects.Object.{Object}
use Rattle.iq_pages.specs.MemoryPages.{pages_in, IsPlaceOf, IsMissing}

-- a number is not another than its own
not_at : (n number other : ℕ) → nat_eq n number ≡ true → other ≢ number → nat_eq n other ≡ false
not_at n number other e h = grind (arith, nat_tests)

-- the object at a place is the first of that number
record IsFirst (objects : List Object) (number i : ℕ) (d : Object) : Type 0 where
  within : i < length objects
  here : nat_eq (slice_index_or objects i d).number number ≡ true
  before : (k : ℕ) → k < i → nat_eq (slice_index_or objects k d).number number ≡ false

-- no object has that number
abbrev pub IsAbsent : List Object → ℕ → Type 0
IsAbsent objects number = (k : ℕ) (d : Object) → k < length objects → nat_eq (slice_index_or objects k d).number number ≡ false

-- the same of the list behind the first
next : (o : Object) (os : List Object) (number i : ℕ) (d : Object) → IsFirst (o ∷ os) number (suc i) d → IsFirst os number i d
next o os number i d f = record { within = omega (arith, f.within); here = f.here; before = λ k h. f.before (suc k) (omega arith) }

-- its pages are those of the number
pages_at : (objects : List Object) (number i : ℕ) (d : Object) → IsFirst objects number i d → pages_in objects number ≡ (slice_index_or objects i d).pages.items
pages_at [] number i d f = absurd (omega (arith, f.within))
pages_at (o ∷ os) number zero d f = rw f.here refl
pages_at (o ∷ os) number (suc i) d f = rw (f.before 0 (omega arith)) (pages_at os number i d (next o os number i d f))

-- where another object of that number stands in its place, the pages are that one's
pages_at-set : (objects : List Object) (number i : ℕ) (d o : Object) → IsFirst objects number i d → nat_eq o.number number ≡ true → pages_in (slice_set objects i o) number ≡ o.pages.items
pages_at-set [] number i d o f e = absurd (omega (arith, f.within))
pages_at-set (p ∷ ps) number zero d o f e = rw e refl
pages_at-set (p ∷ ps) number (suc i) d o f e = rw (f.before 0 (omega arith)) (pages_at-set ps number i d o (next p ps number i d f) e)

-- where an object of that number takes the place of one of that number, the pages of another number stay
pages_elsewhere : (objects : List Object) (number other i : ℕ) (d o : Object) → nat_eq (slice_index_or objects i d).number number ≡ true → nat_eq o.number number ≡ true → other ≢ number → pages_in (slice_set objects i o) other ≡ pages_in objects other
pages_elsewhere [] number other i d o h e n = refl
pages_elsewhere (p ∷ ps) number other zero d o h e n = rw (not_at p.number number other h n, not_at o.number number other e n) refl
pages_elsewhere (p ∷ ps) number other (suc i) d o h e n =
    elim (nat_eq p.number other) as (λ b. (if b then p.pages.items else pages_in (slice_set ps i o) other) ≡ (if b then p.pages.items else pages_in ps other)) [ true ↦ refl | false ↦ pages_elsewhere ps number other i d o h e n ]

-- where no object has the number, it has no pages
pages_absent : (objects : List Object) (number : ℕ) → IsAbsent objects number → pages_in objects number ≡ []
pages_absent [] number f = refl
pages_absent (o ∷ os) number f = rw (f 0 o (omega arith)) (pages_absent os number (λ k d h. f (suc k) d (omega arith)))

-- and an object of that number that is added has its pages
added_here : (objects : List Object) (number : ℕ) (o : Object) → IsAbsent objects number → nat_eq o.number number ≡ true → pages_in (objects ++ o ∷ []) number ≡ o.pages.items
added_here [] number o f e = rw e refl
added_here (p ∷ ps) number o f e = rw (f 0 p (omega arith)) (added_here ps number o (λ k d h. f (suc k) d (omega arith)) e)

-- while those of another number stay
added_elsewhere : (objects : List Object) (number other : ℕ) (o : Object) → nat_eq o.number number ≡ true → other ≢ number → pages_in (objects ++ o ∷ []) other ≡ pages_in objects other
added_elsewhere [] number other o e n = rw (not_at o.number number other e n) refl
added_elsewhere (p ∷ ps) number other o e n =
    elim (nat_eq p.number other) as (λ b. (if b then p.pages.items else pages_in (ps ++ o ∷ []) other) ≡ (if b then p.pages.items else pages_in ps other)) [ true ↦ refl | false ↦ added_elsewhere ps number other o e n ]

-- a number that no object has is missing
pub missing_is : (objects : List Object) (number : ℕ) → IsAbsent objects number → IsMissing objects number
missing_is objects number f = record {
  none = pages_absent objects number f;
  added = λ object is. record {
    here = added_here objects number object f (eq-eqb _ _ is);
    others = λ other n. added_elsewhere objects number other object (eq-eqb _ _ is) n;
  };
}

-- the first object of a number is its place
pub place_is : (objects : List Object) (number i : ℕ) → i < length objects → ((d : Object) → nat_eq (slice_index_or objects i d).number number ≡ true) → ((k : ℕ) (d : Object) → k < i → nat_eq (slice_index_or objects k d).number number ≡ false) → IsPlaceOf objects number i
place_is objects number i h e f =
    let first : (d : Object) → IsFirst objects number i d = λ d. record { within = h; here = e d; before = λ k l. f k d l } in
    record {
      within = h;
      number_is = λ d. eqb-true _ _ (e d);
      pages_are = λ d. pages_at objects number i d (first d);
      changed = λ object is. record {
        here = pages_at-set objects number i object object (first object) (eq-eqb _ _ is);
        others = λ other n. pages_elsewhere objects number other i object object (e object) (eq-eqb _ _ is) n;
      };
    }

-- where one object is another of its number and its pages, each number has the pages that it had
pub pages_traded : (xs ys : List Object) (o p : Object) (number : ℕ) → o.number ≡ p.number → o.pages.items ≡ p.pages.items → pages_in (xs ++ o ∷ ys) number ≡ pages_in (xs ++ p ∷ ys) number
pages_traded [] ys o p number e f = rw (e, f) refl
pages_traded (x ∷ xs) ys o p number e f =
    elim (nat_eq x.number number) as (λ b. (if b then x.pages.items else pages_in (xs ++ o ∷ ys) number) ≡ (if b then x.pages.items else pages_in (xs ++ p ∷ ys) number)) [ true ↦ refl | false ↦ pages_traded xs ys o p number e f ]
