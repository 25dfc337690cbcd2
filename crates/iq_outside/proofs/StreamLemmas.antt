-- Taking and growing, one step after another.
use Rattle.std.specs.Prelude.{◌≡◌, ℕ, ◌+◌, ◌<◌, List, [], ◌++◌, length, take, drop, min, Option, Some, None, Ok}
use Rattle.std.specs.Io.KnownBytes.{Keeps, IsAtEnd}
use Rattle.std.proofs.Common.{sym, ap, ◌∙◌, append-nil, arith, length-append, length-drop}
use Rattle.std.proofs.KnownBytes.{Consumes-nil, Consumes-trans, Appends-nil, Appends-trans, Keeps-trans}
use Rattle.std.proofs.lemmas.List.{take-append-drop, drop-drop, drop_all}
use Rattle.std.proofs.Math.Seq.{take-add}
use Rattle.iq_outside.specs.Streams.{Takes, Grows, ReadsFront}
use Rattle.iq_outside.specs.Whole.{IsAllOf}

-- at first nothing was taken
pub Takes-nil : (a : Option (List ℕ)) → Takes [] a a
Takes-nil = Consumes-nil

-- one taking after another
pub Takes-Takes : (xs ys : List ℕ) (a b c : Option (List ℕ)) → Takes xs a b → Takes ys b c → Takes (xs ++ ys) a c
Takes-Takes xs ys a b c = Consumes-trans a b c xs ys

-- taking from a list in memory
pub Takes-drop : (xs ys : List ℕ) (k n : ℕ) → take n ys ≡ take n (drop k xs) → Takes (take n ys) (Some (drop k xs)) (Some (drop (k + n) xs))
Takes-drop xs ys k n same =
    sym (take-append-drop n (drop k xs)) ∙ ap (λ (t : List ℕ). t ++ drop n (drop k xs)) (sym same) ∙ ap (λ (t : List ℕ). take n ys ++ t) (drop-drop n k xs)

-- a source in memory gives as many bytes as there are and as the buffer holds
pub reads-drop : {E : Type 0} (xs old new : List ℕ) (k n a b : ℕ) → n ≡ min (length (drop k xs)) (length old)
    → take n new ≡ take n (drop k xs) → b ≡ a → ReadsFront {E = E} (Ok n) old new (Some (drop k xs)) (Some (drop (k + n) xs)) a b
reads-drop xs old new k n a b count same calm = record {
  within = omega (arith, count);
  taken = Takes-drop xs new k n same;
  ends = λ some none. drop_all (k + n) xs (omega (arith, count, some, none, length-drop k xs));
  unchanged = tt;
  calm = calm;
  counts = record { later = omega arith; failed = tt };
}

-- what was taken up to the end is all that was to come
pub all-Takes : (bytes : List ℕ) (before now : Option (List ℕ)) → Takes bytes before now → IsAtEnd now → IsAllOf bytes before
all-Takes bytes None now taken at_end left told = cc
all-Takes bytes (Some was) None taken at_end left told = absurd taken
all-Takes bytes (Some was) (Some rest) taken at_end left told =
    let same : left ≡ was = cc in same ∙ taken ∙ ap (λ (t : List ℕ). bytes ++ t) at_end ∙ append-nil bytes

-- no more is taken than was to come
pub more-Takes : (most : ℕ) (bytes : List ℕ) (before now : Option (List ℕ)) → Takes bytes before now → most < length bytes
    → (left : List ℕ) → before ≡ Some left → most < length left
more-Takes most bytes None now taken more left told = cc
more-Takes most bytes (Some was) None taken more left told = absurd taken
more-Takes most bytes (Some was) (Some rest) taken more left told =
    let same : left ≡ was = cc in
    let parts : left ≡ bytes ++ rest = same ∙ taken in omega (arith, ap length parts, length-append bytes rest)

-- at first nothing was written
pub Grows-nil : (a : Option (List ℕ)) → Grows [] a a
Grows-nil = Appends-nil

-- one write more of the same bytes
pub Grows-take : (n m : ℕ) (bytes : List ℕ) (a b c : Option (List ℕ)) → Grows (take n bytes) a b → Grows (take m (drop n bytes)) b c → Grows (take (n + m) bytes) a c
Grows-take n m bytes a b c first next = rw (take-add n m bytes) (Appends-trans a b c (take n bytes) (take m (drop n bytes)) first next)

-- what was kept, and then grew by nothing, was kept
pub Keeps-grown : (a b c : Option (List ℕ)) → Keeps a b → Grows [] b c → Keeps a c
Keeps-grown a None c kept grown = Keeps-trans a None c kept tt
Keeps-grown a (Some x) None kept grown = absurd grown
Keeps-grown a (Some x) (Some y) kept grown = Keeps-trans a (Some x) (Some y) kept (grown ∙ append-nil x)

-- what was kept, and then taken from or grown, was taken from or grown
pub Takes-kept : (bytes : List ℕ) (a b c : Option (List ℕ)) → Keeps a b → Takes bytes b c → Takes bytes a c
Takes-kept bytes None b c kept taken = tt
Takes-kept bytes (Some x) None c kept taken = absurd kept
Takes-kept bytes (Some x) (Some y) None kept taken = absurd taken
Takes-kept bytes (Some x) (Some y) (Some z) kept taken = sym kept ∙ taken

pub Grows-kept : (bytes : List ℕ) (a b c : Option (List ℕ)) → Keeps a b → Grows bytes b c → Grows bytes a c
Grows-kept bytes None b c kept grown = tt
Grows-kept bytes (Some x) None c kept grown = absurd kept
Grows-kept bytes (Some x) (Some y) None kept grown = absurd grown
Grows-kept bytes (Some x) (Some y) (Some z) kept grown = grown ∙ ap (λ (t : List ℕ). t ++ bytes) kept
