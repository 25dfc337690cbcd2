use Rattle.std.proofs.Common.{◌≡◌, length, ◌<◌, ◌≤◌, ◌^◌, arith}
use Rattle.iq_literals.specs.Packed.{values_bytes}
use Rattle.iq_literals.proofs.Firsts.{row_step}
use Rattle.iq_literals.proofs.tuples.RowCursor.next.Goals as goal

pub count_in-size-requires-clause-is : goal.count_in-size-requires-clause-is
count_in-size-requires-clause-is c =
    let few : length c.self.inside.bytes.now < 2 ^ 63 = omega (arith, c.self.told) in
    let packed = rw c.in_ok-first.ensures.cases.0 at c.self.invariant in
    (length (values_bytes c.in_ok-first.first.now.value), (row_step _ _ _ packed few).count)

pub invariant_of-result : goal.invariant_of-result
invariant_of-result c =
    let few : length c.self.inside.bytes.now < 2 ^ 63 = omega (arith, c.self.told) in
    let packed = rw c.in_ok-first.ensures.cases.0 at c.self.invariant in
    let is = row_step _ _ _ packed few in
    let count : c.count_in-size.result ≡ length (values_bytes c.in_ok-first.first.now.value) = cc (c.count_in-size.ensures, is.count) in
    let within : c.count_in-size.result ≤ length c.split_at.result.1.now = rw (c.split_at.ensures.back, c.size_in.ensures, count) is.within in
    (rw (c.of.ensures, c.split_at-2.ensures.front, c.split_at.ensures.back, c.size_in.ensures, count) is.front, omega (arith, few, within, c.split_at-2.ensures.front_len, c.split_at.ensures.back_len))

pub invariant_of-self : goal.invariant_of-self
invariant_of-self c =
    let few : length c.self.inside.bytes.now < 2 ^ 63 = omega (arith, c.self.told) in
    let packed = rw c.in_ok-first.ensures.cases.0 at c.self.invariant in
    let is = row_step _ _ _ packed few in
    let count : c.count_in-size.result ≡ length (values_bytes c.in_ok-first.first.now.value) = cc (c.count_in-size.ensures, is.count) in
    rw (c.split_at-2.ensures.back, c.split_at.ensures.back, c.size_in.ensures, count) is.rest
