-- Even parts are neither too long nor too short.
use Rattle.std.proofs.Common.{◌≡◌, ◌<◌, ◌≤◌, ℕ, ◌+◌, ◌-◌, ◌*◌, ◌/◌, ◌%◌, inl, inr, ap, arith}
use Rattle.std.proofs.Math.Nat.{mul-le-mul_left, mul-le-mul_right, mul_comm, div-add-mod}
use Rattle.std.proofs.lemmas.Bool.{cases_lt}
use Rattle.std.specs.Int.{div_ceil}
use Rattle.std.proofs.lemmas.Grind.{div_ceil_times}
use Rattle.iq_hg_leaves.specs.Leaves.{half}
use Rattle.iq_hg_leaves.specs.Cuts.{IsCuttable}

-- after s of the rest went to one of m + 1 parts, with r over
cut_rest : (q parts m s r : ℕ) → r < m + 1 → IsCuttable q parts (m + 1) (s * (m + 1) + r) → IsCuttable q parts m (s * m + r)
cut_rest q parts m s r small c =
    let one : 1 ≤ s = elim (cases_lt s 1) [ inl none ↦ (let zero : s * (m + 1) ≤ 0 * (m + 1) = mul-le-mul_right (m + 1) (omega arith) in absurd (omega (arith, c.some))) | inr some ↦ some ] in
    let up : 1 * m ≤ s * m = mul-le-mul_right m one in
    record {
      some = omega arith;
      most = elim (cases_lt s q) [
        | inl less ↦ (let room : (s + 1) * m ≤ q * m = mul-le-mul_right m (omega arith) in omega arith)
        | inr full ↦ (let room : q * m ≤ s * m = mul-le-mul_right m full in
            elim (cases_lt q s) [
              | inl over ↦ (let too : (q + 1) * (m + 1) ≤ s * (m + 1) = mul-le-mul_right (m + 1) (omega arith) in absurd (omega (arith, c.most)))
              | inr same ↦ (let e : s ≡ q = omega arith in let e' : s * m ≡ q * m = ap (λ k. k * m) e in omega (arith, c.most))
            ])
      ];
      least = λ many. (let h = half q in
          elim (cases_lt s h) [
            | inl less ↦ (let low : (s + 1) * (m + 1) ≤ h * (m + 1) = mul-le-mul_right (m + 1) (omega arith) in absurd (omega (arith, c.least many)))
            | inr enough ↦ (let high : h * m ≤ s * m = mul-le-mul_right m enough in omega arith)
          ]);
    }

-- the rest after the next part
pub next_rest : (q parts left rest : ℕ) → 0 < left → IsCuttable q parts left rest → IsCuttable q parts (left - 1) (rest - rest / left)
next_rest q parts left rest some c =
    let s = rest / left in
    let r = rest % left in
    let whole : left * s + r ≡ rest = div-add-mod rest left in
    let swap : left * s ≡ s * left = mul_comm left s in
    let up : (left - 1) + 1 ≡ left = omega arith in
    let parts_of : s * ((left - 1) + 1) + r ≡ rest = rw up (omega arith) in
    let after : s * (left - 1) + r ≡ rest - s = omega arith in
    let small : r < (left - 1) + 1 = omega arith in
    let before : IsCuttable q parts ((left - 1) + 1) (s * ((left - 1) + 1) + r) = rw (parts_of, up) c in
    rw after at (cut_rest q parts (left - 1) s r small before)

-- as many parts as are needed
pub all_parts : (n q k : ℕ) → 0 < n → 0 < q → k ≡ div_ceil n q → IsCuttable q k k n
all_parts n q k some room is =
    let times = div_ceil_times n q room in
    let enough : n ≤ k * q = rw is times.0 in
    let few : k * q < n + q = rw is times.1 in
    let swap : k * q ≡ q * k = mul_comm k q in
    let each : k * 1 ≤ k * q = mul-le-mul_left k room in
    record {
      some = elim (cases_lt n k) [
        | inl more ↦ (let a : (k - 1) * 1 ≤ (k - 1) * q = mul-le-mul_left (k - 1) room in
            let up : (k - 1) + 1 ≡ k = omega arith in
            let b : ((k - 1) + 1) * q ≡ k * q = ap (λ j. j * q) up in absurd (omega arith))
        | inr less ↦ less
      ];
      most = omega arith;
      least = λ many. (let h = half q in
          let up : (k - 2) + 2 ≡ k = omega arith in
          let b : ((k - 2) + 2) * q ≡ k * q = ap (λ j. j * q) up in
          let a : (k - 2) * 1 ≤ (k - 2) * q = mul-le-mul_left (k - 2) room in
          let twice : (2 * h) * k ≤ (q + 1) * k = mul-le-mul_right k (omega arith) in
          omega arith);
    }

-- and these are some
pub parts_some : (n q k : ℕ) → 0 < n → IsCuttable q k k n → 0 < k
parts_some n q k some c = elim (cases_lt k 1) [
  | inl none ↦ (let e : k ≡ 0 = omega arith in let z : q * k ≡ q * 0 = ap (λ j. q * j) e in absurd (omega (arith, c.most)))
  | inr one ↦ omega arith
]
