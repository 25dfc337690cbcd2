use Rattle.std.proofs.Common.{rules, arith, sym, ap, subst, inl, inr, ◌≡◌, ◌∙◌, ◌<◌, ◌≤◌, ◌^◌, Ok, length, take, false}
use Rattle.std.specs.List.{All}
use Rattle.std.proofs.lemmas.Bool.{cases_lt}
use Rattle.iq_block_map.specs.Objects.{leaf_count, leaves_of, listed}
use Rattle.iq_block_map.proofs.NamedLemmas.{listed_names}
use Rattle.iq_objects.specs.Open.{Held, leaves_in}
use Rattle.iq_objects.proofs.OpenLemmas.{opened_is, opened_settled, opened_ref, leaves_read, leaves_size, leaves_four}
use Rattle.iq_objects.proofs.open_object.OpenObject.open.Goals as goal

pub invariant_of-result : goal.invariant_of-result
invariant_of-result g c =
    let object = c.args.object in
    let long : length c.in_ok-named.named ≡ 252 = search rules in
    let leaves : c.put_leaves.new.list.items ≡ leaves_in object c.in_ok-named.named = c.put_leaves.ensures in
    let size = c.in_ok-read_leaves.ensures.size in
    let fours : All (λ a. 4 ≤ a) (leaves_in object c.in_ok-named.named)
    = leaves_four object c.in_ok-named.named c.requires.object.few long c.requires.object.above c.in_ok-named.ensures.places.above in
    record {
      few = omega (arith, size, c.requires.object.few);
      size = ap length leaves ∙ leaves_size object c.in_ok-named.named c.requires.object.few long ∙ ap leaf_count (sym size);
      pages_above = c.in_ok-read_leaves.ensures.above;
      leaves_above = rw leaves (λ k d within some. fours k d within);
      top_above = λ some. elim (cases_lt 252 object.pages) [
        | inl many ↦ (let four = c.requires.object.above (omega (arith, many)) in omega (arith, four, c.top_of.ensures.high many))
        | inr less ↦ absurd (omega (arith, some, c.top_of.ensures.low less))
      ];
      low = λ less. c.top_of.ensures.low (omega (arith, less, size));
    }

pub returns-clause-ok : goal.returns-clause-ok
returns-clause-ok g c = λ all told.
    let object = c.args.object in
    let o : Held = record { pages = c.read_leaves.new.into.items; leaves = c.put_leaves.new.list.items; top = c.top_of.result; lost = c.new.result.items } in
    let long : length c.in_ok-named.named ≡ 252 = search rules in
    let counted = c.in_ok-count.ensures.looked.unchanged ∙ told in
    let fits : length all < 2 ^ 32 = omega (arith, c.in_ok-count.ensures.count all told, c.in_ok-count.ensures.fits) in
    let read : leaves_of all object ≡ Ok (take (leaf_count object.pages) c.in_ok-named.named) = c.in_ok-named.ensures.ok all counted in
    let leaves : take (leaf_count object.pages) c.in_ok-named.named ≡ c.put_leaves.new.list.items = leaves_read object c.in_ok-named.named all read ∙ sym c.put_leaves.ensures in
    let named : listed false all object.pages (take (leaf_count object.pages) c.in_ok-named.named) ≡ Ok c.read_leaves.new.into.items
    = c.in_ok-read_leaves.ensures.ok all (c.in_ok-named.ensures.looked.unchanged ∙ counted) in
    opened_is object o all fits c.requires.object.few c.requires.object.above (λ some. c.requires.object.below some all told)
    (read ∙ ap Ok leaves) (ap (listed false all object.pages) (sym leaves) ∙ named) c.in_ok-read_leaves.ensures.size
    (ap length c.put_leaves.ensures ∙ leaves_size object c.in_ok-named.named c.requires.object.few long) c.top_of.ensures.high c.top_of.ensures.low c.new.ensures

pub returns-clause-settled : goal.returns-clause-settled
returns-clause-settled g c =
    let object = c.args.object in
    let o : Held = record { pages = c.read_leaves.new.into.items; leaves = c.put_leaves.new.list.items; top = c.top_of.result; lost = c.new.result.items } in
    let long : length c.in_ok-named.named ≡ 252 = search rules in
    let fours : All (λ a. 4 ≤ a) (leaves_in object c.in_ok-named.named)
    = leaves_four object c.in_ok-named.named c.requires.object.few long c.requires.object.above c.in_ok-named.ensures.places.above in
    opened_settled object o c.in_ok-read_leaves.ensures.size c.requires.object.above (subst (All (λ a. 4 ≤ a)) (sym c.put_leaves.ensures) fours) c.top_of.ensures.high

pub returns-clause-root : goal.returns-clause-root
returns-clause-root g c = λ some.
    let object = c.args.object in
    let o : Held = record { pages = c.read_leaves.new.into.items; leaves = c.put_leaves.new.list.items; top = c.top_of.result; lost = c.new.result.items } in
    opened_ref object o c.in_ok-named.named c.in_ok-read_leaves.ensures.size c.put_leaves.ensures c.top_of.ensures.high some

pub returns-clause-inside : goal.returns-clause-inside
returns-clause-inside g c = λ all told.
    let object = c.args.object in
    let counted = c.in_ok-count.ensures.looked.unchanged ∙ told in
    listed_names all object.pages (take (leaf_count object.pages) c.in_ok-named.named) c.read_leaves.new.into.items
    (c.in_ok-read_leaves.ensures.ok all (c.in_ok-named.ensures.looked.unchanged ∙ counted))
