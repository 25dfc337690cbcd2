-- A fact of the table at a place is one of the table that a look-up of its name finds.
use Rattle.std.proofs.Common.{◌≡◌, ◌<◌, ℕ, List, Option, Some, None, sym, ◌∙◌, ap, subst, arith, get_or, length}
use Rattle.std.specs.List.{slice_get}
use Rattle.std.proofs.lemmas.Option.{get_or_from_slice_get, slice_get-get_or}
use Rattle.iq_base.specs.Shorts.{Name}
use Rattle.iq_base.specs.declared.descriptors.Descriptor.{Descriptor}
use Rattle.iq_pages.specs.Pages.{Pages}
use Rattle.iq_statements.specs.Tables.{Table, Database, table_of}
use Rattle.iq_database.specs.Standing.{Match, Describes, StandsAt, OfDescribed, OfStanding, OfTableAt}
use Rattle.iq_database.specs.LookUps.{place_from}
use Rattle.iq_database.proofs.LookUps.{GoesByName, found, none_found}

-- the descriptor at a place is the one that was read there
pub read_there : (ds : List Descriptor) (i : ℕ) (d at : Descriptor) → slice_get ds i ≡ Some d → at ≡ get_or ds i at → d ≡ at
read_there ds i d at got is = sym (is ∙ get_or_from_slice_get ds i d at got)

pub describes_name : GoesByName (λ (place : ℕ) (d : Descriptor) (t : Table). Describes d t)
describes_name place d t h = h.name_is

pub stands_name : (told : ℕ → Option Pages) → GoesByName (StandsAt told)
stands_name told place d t h = h.describes.name_is

-- the table of a name, with what its descriptor goes
pub found_at : (R : ℕ → Descriptor → Table → Type 0) → GoesByName R → (name : Name) (ds : List Descriptor) (db : Database) (i : ℕ) (at : Descriptor) → place_from 0 name ds ≡ Some i → at ≡ get_or ds i at
    → Match R 0 ds db → (t : Table) × (table_of name db ≡ Some t) × R i at t
found_at R by name ds db i at place is m =
    let f = found R by 0 name ds db i 0 (place ∙ ap Some (omega arith)) m in
    (f.table, f.table_is, subst (λ (d : Descriptor). R i d f.table) (read_there ds i f.descriptor at f.descriptor_is is) (subst (λ (q : ℕ). R q f.descriptor f.table) (omega arith) f.goes))

pub of_described : (name : Name) (ds : List Descriptor) (i : ℕ) (at : Descriptor) (Q : Option Table → Type 0) → place_from 0 name ds ≡ Some i → at ≡ get_or ds i at → ((t : Table) → Describes at t → Q (Some t)) → OfDescribed ds (λ db. Q (table_of name db))
of_described name ds i at Q place is h = λ db m.
    let f = found_at (λ (place : ℕ) (d : Descriptor) (t : Table). Describes d t) describes_name name ds db i at place is m in
    subst Q (sym f.1) (h f.0 f.2)

pub of_standing : (told : ℕ → Option Pages) (name : Name) (ds : List Descriptor) (i : ℕ) (at : Descriptor) (Q : Option Table → Type 0) → place_from 0 name ds ≡ Some i → at ≡ get_or ds i at → OfTableAt told i at (λ t. Q (Some t)) → OfStanding told ds (λ db. Q (table_of name db))
of_standing told name ds i at Q place is h = λ db m.
    let f = found_at (StandsAt told) (stands_name told) name ds db i at place is m in
    subst Q (sym f.1) (h f.0 f.2)

-- where no descriptor has the name, no table has
pub missing : (name : Name) (ds : List Descriptor) (Q : Option Table → Type 0) → place_from 0 name ds ≡ None → Q None → OfDescribed ds (λ db. Q (table_of name db))
missing name ds Q place h = λ db m. subst Q (sym (none_found (λ (place : ℕ) (d : Descriptor) (t : Table). Describes d t) describes_name 0 0 name ds db place m)) h

-- the descriptor at a place is found there
pub got_there : (ds : List Descriptor) (i : ℕ) (at : Descriptor) → i < length ds → at ≡ get_or ds i at → slice_get ds i ≡ Some at
got_there ds i at less is = slice_get-get_or ds i at less ∙ ap Some (sym is)
