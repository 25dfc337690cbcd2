use Rattle.std.proofs.Common.{◌≡◌, List, ap, sym, subst, length, map, rules, arith}
use Rattle.std.specs.List.{All}
use Rattle.std.specs.List.Sorted.{IsPermutation}
use Rattle.std.proofs.lemmas.List.{length-map}
use Rattle.std.proofs.lemmas.List.Sorted.{All-permutation, IsPermutation-map, length_permutation}
use Rattle.std.proofs.lemmas.Result.{IfOk-weaker}
use Rattle.iq_hg_leaves.specs.declared.entries.Entry.{Entry}
use Rattle.iq_hg_leaves.specs.declared.spots.Spot.{Spot}
use Rattle.iq_hg_leaves.specs.Entries.{EntryList, entries_from}
use Rattle.iq_hg_leaves.specs.Order.{AreInOrder}
use Rattle.iq_hg_leaves.specs.Spots.{entry_of}
use Rattle.iq_hg_leaves.proofs.SpotLaws.{spots_in_order, entries_few}
use Rattle.iq_hg_leaves.proofs.sorting.sorted.Goals as goal

pub listed-requires-clause-few : goal.listed-requires-clause-few
listed-requires-clause-few c =
    omega (arith, ap length c.deref.ensures.value, length_permutation _ _ c.sort_by.ensures.permutation, length-map c.in_ok-spots.spots.items entry_of, ap length c.in_ok-spots.ensures.all, entries_few c.args.first c.args.cells.now.values, c.requires)

pub listed-requires-clause-same : goal.listed-requires-clause-same
listed-requires-clause-same c =
    let P = λ (spot : Spot). spot.cells.now.kind ≡ c.args.cells.now.kind in
    subst (All P) (sym c.deref.ensures.value) (All-permutation P _ _ c.sort_by.ensures.permutation c.in_ok-spots.ensures.same)

pub returns-clause-all : goal.returns-clause-all
returns-clause-all c =
    let all : IsPermutation (entries_from c.args.first c.args.cells.now.values) (map entry_of c.deref.result.now) =
    subst (λ (es : List Entry). IsPermutation es (map entry_of c.deref.result.now)) c.in_ok-spots.ensures.all
    (subst (λ (xs : List Spot). IsPermutation (map entry_of c.in_ok-spots.spots.items) (map entry_of xs)) (sym c.deref.ensures.value) (IsPermutation-map entry_of _ _ c.sort_by.ensures.permutation)) in
    IfOk-weaker c.listed.result _ _ (λ list is. subst (IsPermutation (entries_from c.args.first c.args.cells.now.values)) (sym (ap (λ (l : EntryList). l.entries) is)) all) c.listed.ensures

pub returns-clause-in_order : goal.returns-clause-in_order
returns-clause-in_order c =
    let sorted : AreInOrder (map entry_of c.deref.result.now) = subst (λ (xs : List Spot). AreInOrder (map entry_of xs)) (sym c.deref.ensures.value) (spots_in_order _ c.in_ok-sort_by.ensures.sorted (λ a r q k. search rules)) in
    IfOk-weaker c.listed.result _ _ (λ list is. subst AreInOrder (sym (ap (λ (l : EntryList). l.entries) is)) sorted) c.listed.ensures
