use Rattle.std.proofs.Common.{◌∙◌, ap, length, ◌/◌, ◌≤◌, ℕ, List, arith}
use Rattle.std.specs.Global.{Vec}
use Rattle.iq_catalog.proofs.Loops.{some_counted, few_counted}
use Rattle.iq_catalog.proofs.Wholes.{length-descriptor_bytes, few_pages}
use Rattle.iq_catalog.proofs.writing.put.Goals as goal

pub cut-requires : goal.cut-requires
cut-requires c =
    let size = ap length (c.as_slice-bytes.ensures.value ∙ c.in_ok-all.ensures) in
    omega (arith, size, length-descriptor_bytes c.args.table.now)

pub returns-clause-some : goal.returns-clause-some
returns-clause-some c =
    let size = ap length (c.as_slice-bytes.ensures.value ∙ c.in_ok-all.ensures) in
    let some : 1 ≤ length c.as_slice-bytes.result.now / 1008 = omega (arith, size, (few_pages c.args.table.now c.requires).some) in
    some_counted (λ (p : Vec (List ℕ)). length p.items) c.cut.result (length c.as_slice-bytes.result.now / 1008) c.cut.ensures.count some

pub returns-clause-few : goal.returns-clause-few
returns-clause-few c =
    let size = ap length (c.as_slice-bytes.ensures.value ∙ c.in_ok-all.ensures) in
    let few : length c.as_slice-bytes.result.now / 1008 ≤ 4 = omega (arith, size, (few_pages c.args.table.now c.requires).few) in
    few_counted (λ (p : Vec (List ℕ)). length p.items) c.cut.result (length c.as_slice-bytes.result.now / 1008) c.cut.ensures.count few
