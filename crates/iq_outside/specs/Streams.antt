-- What one call of a source or a sink did, as its caller sees it. What a stream tells are known bytes, as std's readers and
-- writers have them: where nothing was told, nothing is said.
use Rattle.std.specs.Prelude.{◌≡◌, ℕ, ◌<◌, ◌≤◌, List, length, take, Option, Result, OnOk, OnErr, IfOk}
use Rattle.std.specs.Io.KnownBytes.{Keeps, Consumes, Appends, IsAtEnd}
use Rattle.iq_outside.specs.Faults.{CountsFaults}

-- where it was told what was to come, that was these bytes, and then what is still to come
abbrev pub Takes : List ℕ → Option (List ℕ) → Option (List ℕ) → Type 0
Takes bytes before now = Consumes before now bytes

-- where it was told what is written, it grew by these bytes
abbrev pub Grows : List ℕ → Option (List ℕ) → Option (List ℕ) → Type 0
Grows bytes before now = Appends before now bytes

-- a read: at Ok n the first n bytes of the buffer are the next ones, and 0 means the end; at Failed nothing was taken. No
-- fault is counted at Ok.
pub record ReadsFront {E : Type 0} (result : Result ℕ E) (old new : List ℕ) (before now : Option (List ℕ)) (faults_before faults_now : ℕ) : Type 0 where
  pub within : IfOk result (λ n. n ≤ length old)
  pub taken : IfOk result (λ n. Takes (take n new) before now)
  pub ends : IfOk result (λ n. 0 < length old → n ≡ 0 → IsAtEnd now)
  pub unchanged : OnErr result (Keeps before now)
  pub calm : OnOk result (faults_now ≡ faults_before)
  pub counts : CountsFaults result faults_before faults_now

-- a write: at Ok n the first n bytes of the piece are written, at least one if there is one; at Failed none. No fault is
-- counted at Ok.
pub record WritesFront {E : Type 0} (result : Result ℕ E) (from : List ℕ) (before now : Option (List ℕ)) (faults_before faults_now : ℕ) : Type 0 where
  pub within : IfOk result (λ n. n ≤ length from)
  pub some : IfOk result (λ n. 0 < length from → 0 < n)
  pub grown : IfOk result (λ n. Grows (take n from) before now)
  pub unchanged : OnErr result (Keeps before now)
  pub calm : OnOk result (faults_now ≡ faults_before)
  pub counts : CountsFaults result faults_before faults_now
