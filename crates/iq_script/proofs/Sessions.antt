-- One line more for a session.
use Rattle.std.proofs.Common.{◌≡◌, ℕ, zero, suc, ◌+◌, ◌<◌, ◌≤◌, min, List, [], ◌∷◌, length, set, get_or, refl, ap, ◌∙◌, arith}
use Rattle.iq_base.specs.declared.nodes.SessionSpec.{SessionSpec}
use Rattle.iq_script.specs.Putting.{counted_at}

pub counted_past : (place : ℕ) (sessions : List SessionSpec) → length sessions ≤ place → sessions ≡ counted_at place sessions
counted_past place [] past = refl
counted_past zero (s ∷ ss) past = absurd (omega arith)
counted_past (suc place) (s ∷ ss) past = ap (λ (xs : List SessionSpec). s ∷ xs) (counted_past place ss (omega arith))

-- the count is set one higher where the session stands
pub counted_set : (place : ℕ) (sessions : List SessionSpec) (a b : SessionSpec) (n : ℕ) → place < length sessions → a ≡ get_or sessions place a → b ≡ get_or sessions place b
    → n ≡ min (b.lines + 1) 4294967295 → set sessions place (record { name = a.name; node = a.node; lines = n }) ≡ counted_at place sessions
counted_set place [] a b n less ea eb en = absurd (omega arith)
counted_set zero (s ∷ ss) a b n less ea eb en =
    let lines = en ∙ ap (λ (x : SessionSpec). min (x.lines + 1) 4294967295) eb in
    λ i. record { name = (ea i).name; node = (ea i).node; lines = lines i } ∷ ss
counted_set (suc place) (s ∷ ss) a b n less ea eb en = ap (λ (xs : List SessionSpec). s ∷ xs) (counted_set place ss a b n (omega arith) ea eb en)
