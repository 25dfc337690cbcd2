-- The lines that are left.
use Rattle.std.specs.Prelude.{◌≡◌, ◌≢◌, ◌≤◌, refl, ℕ, zero, suc, ◌+◌, List, [], ◌∷◌, drop, length}
use Rattle.std.proofs.Common.{arith, ap, add-one}
use Rattle.iq_replay.specs.Asked.{IsOpen}
use Rattle.iq_sessions.specs.declared.session.LineStage.{LineStage}
use Rattle.iq_sessions.specs.declared.session.LineStage.TheVariants as stages
use Rattle.iq_sessions.specs.declared.session.TransactionState.{TransactionState}
use Rattle.iq_sessions.specs.Kept.{IsClear, HasNotCreated, stage_of}

drop_suc : {X : Type 0} (n : ℕ) (xs : List X) → drop (suc n) xs ≡ drop 1 (drop n xs)
drop_suc zero xs = refl
drop_suc (suc n) [] = refl
drop_suc (suc n) (x ∷ xs) = drop_suc n xs

pub drop_more : {X : Type 0} (n : ℕ) (xs : List X) → drop (n + 1) xs ≡ drop 1 (drop n xs)
drop_more n xs = rw add-one (drop_suc n xs)

drop_none : {X : Type 0} (n : ℕ) (xs : List X) → n ≤ length xs → drop n xs ≡ [] → n ≡ length xs
drop_none zero [] h k = refl
drop_none (suc n) [] h k = absurd (omega (arith, h))
drop_none zero (x ∷ xs) h k = cc k
drop_none (suc n) (x ∷ xs) h k = ap suc (drop_none n xs (omega (arith, h)) k)

pub drop_some : {X : Type 0} (n : ℕ) (xs : List X) → n ≤ length xs → n ≢ length xs → drop n xs ≢ []
drop_some n xs h k = λ q. k (drop_none n xs h q)

pub clear_open : (stage : LineStage) (transaction : TransactionState) → IsClear stage transaction → IsOpen (stage_of stage) → HasNotCreated transaction
clear_open stages.Fresh transaction clear h = clear
clear_open stages.Begun transaction clear h = clear
clear_open stages.Locked transaction clear h = clear
clear_open stages.Done transaction clear h = absurd h
