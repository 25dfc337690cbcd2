-- How reading a whole source and writing a whole piece end.
use Rattle.std.specs.Prelude.{◌≡◌, ℕ, ◌+◌, ◌<◌, ◌≤◌, List, ◌++◌, length, take, codes, Option, Some}
use Rattle.std.specs.Fmt.{decimal}
use Rattle.iq_outside.specs.Faults.{RoseWithin}
use Rattle.iq_outside.specs.Streams.{Takes, Grows}
use Rattle.iq_outside.specs.declared.reading.ReadFault.{ReadFault}
use Rattle.iq_outside.specs.declared.reading.ReadFault.TheVariants.{Fault, TooLong, NoMemory}

-- some bytes came, at most so many
abbrev pub TakesAtMost : ℕ → Option (List ℕ) → Option (List ℕ) → Type 0
TakesAtMost most before now = (bytes : List ℕ) × (length bytes ≤ most) × Takes bytes before now

-- so many bytes came
abbrev pub TakesExactly : ℕ → Option (List ℕ) → Option (List ℕ) → Type 0
TakesExactly count before now = (bytes : List ℕ) × (length bytes ≡ count) × Takes bytes before now

-- what had come when a whole read gave up: one byte too many where it was too long, and else no more than the most
abbrev pub CameBefore : ReadFault → ℕ → Option (List ℕ) → Option (List ℕ) → Type 0
CameBefore (Fault x y) most before now = TakesAtMost most before now
CameBefore TooLong most before now = TakesExactly (most + 1) before now
CameBefore NoMemory most before now = TakesAtMost most before now

-- a fault tells two numbers between which the count rose meanwhile; else no call failed
abbrev pub HasCause : ReadFault → ℕ → ℕ → Type 0
HasCause (Fault before after) first last = RoseWithin first before after last
HasCause TooLong first last = last ≡ first
HasCause NoMemory first last = last ≡ first

-- what a whole read that gave up says
abbrev pub read_fault_text : ReadFault → List ℕ
read_fault_text (Fault before after) = codes "a read failed: " ++ decimal before ++ codes " to " ++ decimal after
read_fault_text TooLong = codes "the input is too long"
read_fault_text NoMemory = codes "no memory"

-- the source told what was to come, and this is all of it
abbrev pub IsAllOf : List ℕ → Option (List ℕ) → Type 0
IsAllOf bytes before = (left : List ℕ) → before ≡ Some left → left ≡ bytes

-- where the source told what was to come, it was more than so many bytes
abbrev pub IsLongerThan : ℕ → Option (List ℕ) → Type 0
IsLongerThan most before = (left : List ℕ) → before ≡ Some left → most < length left

-- some front of the bytes was written, and not all of them
abbrev pub GrowsByFront : List ℕ → Option (List ℕ) → Option (List ℕ) → Type 0
GrowsByFront bytes before now = (n : ℕ) × (n < length bytes) × Grows (take n bytes) before now
