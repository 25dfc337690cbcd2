-- Pages that memory keeps, and which calls on them fail.
use Rattle.std.specs.Prelude.{◌≡◌, ◌<◌, ℕ, ◌+◌, ◌-◌, ◌^◌, min, ◌≢◌, Bool, length, slice_index_or, slice_set, List, [], ◌∷◌, ◌++◌, Option, Some, None, nat_eq, nat_lt, if◌then◌else◌, Result, false, IsTrue, IsErrOf, IfErr}
use Rattle.iq_pages.specs.declared.memory_objects.Object.{Object}
use Rattle.iq_pages.specs.declared.page_faults.PageFault.{PageFault}
use Rattle.iq_pages.specs.declared.page_faults.PageFault.TheVariants.{Failed, NoMemory}
use Rattle.iq_outside.specs.Calls.{Plan, is_listed, after_call}
use Rattle.iq_pages.specs.Pages.{Pages}

-- the pages of the object of that number; an object that was never made has none
abbrev pub pages_in : List Object → ℕ → Pages
pages_in [] number = []
pages_in (object ∷ others) number = if nat_eq object.number number then object.pages.items else pages_in others number

-- one number's pages are changed, and those of every other number are as before
pub record ChangesPages (number : ℕ) (pages : Pages) (before after : List Object) : Type 0 where
  pub here : pages_in after number ≡ pages
  pub others : (other : ℕ) → other ≢ number → pages_in after other ≡ pages_in before other

-- at this place stands the object of that number, and changing it changes its pages alone
pub record IsPlaceOf (objects : List Object) (number place : ℕ) : Type 0 where
  pub within : place < length objects
  pub number_is : (d : Object) → (slice_index_or objects place d).number ≡ number
  pub pages_are : (d : Object) → pages_in objects number ≡ (slice_index_or objects place d).pages.items
  pub changed : (object : Object) → object.number ≡ number → ChangesPages number object.pages.items objects (slice_set objects place object)

-- no object has that number, and adding one changes its pages alone
pub record IsMissing (objects : List Object) (number : ℕ) : Type 0 where
  pub none : pages_in objects number ≡ []
  pub added : (object : Object) → object.number ≡ number → ChangesPages number object.pages.items objects (objects ++ object ∷ [])

-- a call is counted, fails where it is listed, and elsewhere only for want of memory
pub record FollowsPlan (result : Result (Unit {0}) PageFault) (before after : Plan) : Type 0 where
  pub counted : after ≡ after_call before
  pub listed : IsTrue (is_listed before) → IsErrOf result (Failed before.faults after.faults)
  pub others : is_listed before ≡ false → IfErr result (λ fault. fault ≡ NoMemory)

-- how many pages were read or written, as long as a u64 can count it
abbrev pub told_count : ℕ → Option ℕ
told_count count = if nat_lt count (2 ^ 64 - 1) then Some count else None
