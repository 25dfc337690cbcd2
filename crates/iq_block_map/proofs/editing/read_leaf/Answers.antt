use Rattle.std.proofs.Common.{arith, ◌≡◌, false, nat_eq}
use Rattle.std.proofs.lemmas.Bool.{ne_eqb}
use Rattle.iq_block_map.proofs.ReadLemmas.{read_cause}
use Rattle.iq_block_map.proofs.editing.read_leaf.Goals as goal

pub returns-clause-cause : goal.returns-clause-cause
returns-clause-cause g c =
    let some : nat_eq c.args.leaf.used 0 ≡ false = ne_eqb c.args.leaf.used 0 (omega arith) in
    read_cause _ _ c.read_map.result _ _ _ (λ b all bad. (bad.0, rw some bad.1)) c.read_map.ensures.cause
