-- Values and rows, side by side.
use Rattle.std.proofs.Common.{◌≡◌, ◌≢◌, ◌<◌, ℕ, zero, suc, List, [], ◌∷◌, ◌++◌, length, get_or, sym, ap, ◌∙◌, refl, subst, arith}
use Rattle.std.specs.List.{All}
use Rattle.std.specs.Ordering.{ordering_then, nat_cmp}
use Rattle.std.specs.declared.cmp.Ordering.{Ordering}
use Rattle.std.proofs.lemmas.List.{length-append}
use Rattle.std.proofs.lemmas.List.Elements.{All-push, All-get_or}
use Rattle.iq_base.specs.declared.values.Kind.{Kind}
use Rattle.iq_base.specs.declared.values.Value.{Value}
use Rattle.iq_base.specs.declared.values.Value.TheVariants.{Null}
use Rattle.iq_cells.specs.Packed.{Column, value_at, with_more}
use Rattle.iq_cells.specs.Orders.{value_order}
use Rattle.iq_hg_leaves.specs.declared.entries.Entry.{Entry}
use Rattle.iq_hg_leaves.specs.Entries.{EntryList, IsEntry, joined, entries_in, AreJoined, entry_at, with_entry}
use Rattle.iq_hg_leaves.specs.Order.{entry_cmp}

abbrev pub pair : Value → ℕ → Entry
pair v r = record { value = v; row = r }

pub joined-long : (vs : List Value) (rs : List ℕ) → length vs ≡ length rs → length (joined vs rs) ≡ length rs
joined-long [] [] e = refl
joined-long [] (r ∷ rs) e = absurd (omega arith)
joined-long (v ∷ vs) [] e = absurd (omega arith)
joined-long (v ∷ vs) (r ∷ rs) e = let rest = joined-long vs rs (omega arith) in omega arith

pub joined-at : (vs : List Value) (rs : List ℕ) (i : ℕ) → length vs ≡ length rs → i < length rs → entry_at i (joined vs rs) ≡ pair (value_at i vs) (get_or rs i 0)
joined-at vs [] i e h = absurd (omega arith)
joined-at [] (r ∷ rs) i e h = absurd (omega arith)
joined-at (v ∷ vs) (r ∷ rs) zero e h = refl
joined-at (v ∷ vs) (r ∷ rs) (suc i) e h = joined-at vs rs i (omega arith) (omega arith)

pub joined-push : (vs : List Value) (rs : List ℕ) (v : Value) (r : ℕ) → length vs ≡ length rs → joined (vs ++ v ∷ []) (rs ++ r ∷ []) ≡ joined vs rs ++ pair v r ∷ []
joined-push [] [] v r e = refl
joined-push [] (s ∷ rs) v r e = absurd (omega arith)
joined-push (w ∷ vs) [] v r e = absurd (omega arith)
joined-push (w ∷ vs) (s ∷ rs) v r e = ap (λ (es : List Entry). pair w s ∷ es) (joined-push vs rs v r (omega arith))

-- how two entries compare, by their parts
pub cmp_is : (e f : Entry) (o r : Ordering) (v w : Value) (a b : ℕ) → e ≡ pair v a → f ≡ pair w b → o ≡ value_order v w → r ≡ ordering_then o (nat_cmp a b) → r ≡ entry_cmp e f
unfolding entry_cmp
cmp_is e f o r v w a b p q is res = res ∙ ap (λ (x : Ordering). ordering_then x (nat_cmp a b)) is ∙ ap (λ (x : Entry). entry_cmp x (pair w b)) (sym p) ∙ ap (λ (x : Entry). entry_cmp e x) (sym q)

module _ (column : Column) (rows : List ℕ) (list : EntryList) (ok : AreJoined column rows) (is : entries_in column rows ≡ list) where
  pub list_kind : column.kind ≡ list.kind
  list_kind = ap (λ (l : EntryList). l.kind) is

  pub list_long : length rows ≡ length list.entries
  list_long = sym (joined-long column.values rows ok.long) ∙ ap (λ (l : EntryList). length l.entries) is

  pub list_values : length column.values ≡ length list.entries
  list_values = ok.long ∙ list_long

  pub list_at : (i : ℕ) → i < length list.entries → entry_at i list.entries ≡ pair (value_at i column.values) (get_or rows i 0)
  list_at i h = ap (λ (l : EntryList). entry_at i l.entries) (sym is) ∙ joined-at column.values rows i ok.long (omega (arith, list_long))

  pub list_each : All (IsEntry list.kind) list.entries
  list_each = subst (λ (l : EntryList). All (IsEntry l.kind) l.entries) is ok.each

  -- what is put at the end of both
  pub list_push : (v : Value) (r : ℕ) (column' : Column) (rows' : List ℕ) → IsEntry list.kind (pair v r) → column' ≡ with_more column (v ∷ []) → rows' ≡ rows ++ r ∷ [] → AreJoined column' rows' × (entries_in column' rows' ≡ with_entry list (pair v r))
  list_push v r column' rows' p cs rs =
      let join = joined-push column.values rows v r ok.long in
      let p' : IsEntry column.kind (pair v r) = subst (λ (k : Kind). IsEntry k (pair v r)) (sym list_kind) p in
      let more : AreJoined (with_more column (v ∷ [])) (rows ++ r ∷ []) = record {
        long = omega (arith, ok.long, length-append column.values (v ∷ []), length-append rows (r ∷ []));
        each = subst (All (IsEntry column.kind)) (sym join) (All-push (IsEntry column.kind) (joined column.values rows) (pair v r) ok.each p');
      } in (
        subst (λ (k : Column). AreJoined k rows') (sym cs) (subst (λ (xs : List ℕ). AreJoined (with_more column (v ∷ [])) xs) (sym rs) more),
        ap (λ (k : Column). entries_in k rows') cs ∙ ap (λ (xs : List ℕ). entries_in (with_more column (v ∷ [])) xs) rs
            ∙ ap (λ (es : List Entry). record { kind = column.kind; entries = es }) join ∙ ap (λ (l : EntryList). with_entry l (pair v r)) is,
      )

  pub list_filled : (i : ℕ) → i < length list.entries → value_at i column.values ≢ Null
  list_filled i h =
      let within : i < length (joined column.values rows) = omega (arith, joined-long column.values rows ok.long, list_long) in
      let here : IsEntry column.kind (entry_at i (joined column.values rows)) = All-get_or (IsEntry column.kind) (joined column.values rows) i _ within ok.each in
      (subst (IsEntry column.kind) (joined-at column.values rows i ok.long (omega (arith, list_long))) here).filled
