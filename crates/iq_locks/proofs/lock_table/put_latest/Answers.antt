use Rattle.std.proofs.Common.{rules, ◌≡◌, ◌≤◌, ◌<◌, ◌∙◌, length, ◌++◌, [], ◌∷◌, true, slice_index_or, slice_set}
use Rattle.iq_locks.specs.Locked.{same_name, with_latest}
use Rattle.iq_locks.proofs.Tables.{set-at, latest-end}
use Rattle.iq_locks.proofs.lock_table.put_latest.Goals as goal

pub returns-then-eq : goal.returns-then-eq
returns-then-eq c =
    let within : c.loop-at.at < length c.args.wrote.now.items = search rules in
    let named : same_name c.index-as_slice-at.result.name c.args.row.name ≡ true = search rules in
    let here : slice_index_or c.args.wrote.now.items c.loop-at.at c.index-as_slice-at.result ≡ c.index-as_slice-at.result = search rules in
    let same : same_name (slice_index_or c.args.wrote.now.items c.loop-at.at c.index-as_slice-at.result).name c.args.row.name ≡ true = rw here named in
    let put : with_latest c.args.row.name c.args.row.commit c.args.wrote.now.items ≡ slice_set c.args.wrote.now.items c.loop-at.at c.args.row =
    c.loop-at.invariant.2 ∙ set-at c.args.row c.args.wrote.now.items c.loop-at.at c.index-as_slice-at.result within same in
    record { items = search (rules, put); holds = search rules }

pub returns : goal.returns
returns c =
    let done : length c.args.wrote.now.items ≤ c.loop-at.at = search rules in
    let put : with_latest c.args.row.name c.args.row.commit c.args.wrote.now.items ≡ c.args.wrote.now.items ++ c.args.row ∷ [] =
    c.loop-at.invariant.2 ∙ latest-end c.args.row c.args.wrote.now.items c.loop-at.at done in
    record { items = search (rules, put); holds = search rules }
