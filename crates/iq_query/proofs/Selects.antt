-- A query over one table is one over all.
use Rattle.std.proofs.Common.{◌≡◌, ◌<◌, ℕ, List, Option, Some, None, Result, Ok, Err, ◌⊎◌, inl, inr, refl, sym, ◌∙◌, ap, get_or, length}
use Rattle.std.specs.Prelude.{IfOk, OnOk}
use Rattle.iq_base.specs.declared.descriptors.Descriptor.{Descriptor}
use Rattle.iq_base.specs.declared.refusals.Refusal.{Refusal}
use Rattle.iq_base.specs.declared.refusals.Refusal.TheVariants as refusals
use Rattle.iq_ast.specs.declared.statements.Select.{Select}
use Rattle.iq_pages.specs.Pages.{Pages, Seen}
use Rattle.iq_model.specs.declared.answers.Answer.{Answer}
use Rattle.iq_statements.specs.Checks.{first_refusal}
use Rattle.iq_statements.specs.Named.{on_table, select_checks, query_checks}
use Rattle.iq_statements.specs.Tables.{Table}
use Rattle.iq_statements.specs.Answers.{answer, answer_at}
use Rattle.iq_database.specs.Standing.{Describes, OfDescribed, OfStanding, OfTableAt}
use Rattle.iq_database.specs.LookUps.{place_from}
use Rattle.iq_database.proofs.At.{of_described, of_standing, missing, got_there}
use Rattle.iq_query.specs.Calls.{pages_at, pages_found, pages_needed, IsUnread, HasQueryCause}

pub none_there : (select : Select) (ds : List Descriptor) (before after : Seen) → place_from 0 select.table ds ≡ None → HasQueryCause ds select before after (refusals.NoTable select.table)
none_there select ds before after place =
    inl (missing select.table ds (λ (o : Option Table). first_refusal (on_table select.table o (select_checks select)) ≡ Some (refusals.NoTable select.table)) place refl)

pub granted_there : (select : Select) (ds : List Descriptor) (i : ℕ) (at : Descriptor) → place_from 0 select.table ds ≡ Some i → at ≡ get_or ds i at → ((t : Table) → Describes at t → first_refusal (select_checks select t) ≡ None)
    → OfDescribed ds (λ db. first_refusal (query_checks select db) ≡ None)
granted_there select ds i at place is h = of_described select.table ds i at (λ (o : Option Table). first_refusal (on_table select.table o (select_checks select)) ≡ None) place is h

pub answered_there : (select : Select) (told : ℕ → Option Pages) (ds : List Descriptor) (i : ℕ) (at : Descriptor) (a : Answer) → place_from 0 select.table ds ≡ Some i → at ≡ get_or ds i at → OfTableAt told i at (λ t. a ≡ answer_at (Some t) select)
    → OfStanding told ds (λ db. a ≡ answer select db)
answered_there select told ds i at a place is h = of_standing told select.table ds i at (λ (o : Option Table). a ≡ answer_at o select) place is h

pub needed_there : (select : Select) (ds : List Descriptor) (i : ℕ) (at : Descriptor) → place_from 0 select.table ds ≡ Some i → i < length ds → at ≡ get_or ds i at → pages_at select i (Some at) ≡ pages_needed ds select
needed_there select ds i at place less is = ap (pages_at select i) (sym (got_there ds i at less is)) ∙ ap (pages_found select ds) (sym place)

pub refused_there : (select : Select) (ds : List Descriptor) (i : ℕ) (at : Descriptor) (before after : Seen) (cause : Refusal) → place_from 0 select.table ds ≡ Some i → i < length ds → at ≡ get_or ds i at
    → ((t : Table) → Describes at t → first_refusal (select_checks select t) ≡ Some cause) ⊎ IsUnread i at before after cause ⊎ (cause ≡ refusals.NoMemory) → HasQueryCause ds select before after cause
refused_there select ds i at before after cause place less is (inl found) =
    inl (of_described select.table ds i at (λ (o : Option Table). first_refusal (on_table select.table o (select_checks select)) ≡ Some cause) place is found)
refused_there select ds i at before after cause place less is (inr (inl unread)) = inr (inl (record { place = i; table = at; there = got_there ds i at less is; unread = unread }))
refused_there select ds i at before after cause place less is (inr (inr memory)) = inr (inr memory)

pub if_ok : {A E : Type 0} (P Q : A → Type 0) (r : Result A E) → ((x : A) → P x → Q x) → IfOk r P → IfOk r Q
if_ok P Q (Ok x) f p = f x p
if_ok P Q (Err e) f p = tt

pub on_ok : {A E : Type 0} (P Q : Type 0) (r : Result A E) → (P → Q) → OnOk r P → OnOk r Q
on_ok P Q (Ok x) f p = f p
on_ok P Q (Err e) f p = tt
