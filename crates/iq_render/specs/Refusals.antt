-- How a refusal is printed: its name and then its fields, separated by single spaces. Sessions go by their names.
use Rattle.std.specs.Prelude.{ℕ, List, ◌∷◌, ◌++◌, codes}
use Rattle.iq_base.specs.declared.refusals.Census.{Census}
use Rattle.iq_base.specs.declared.refusals.FieldCause.{FieldCause}
use Rattle.iq_base.specs.declared.refusals.FieldCause.TheVariants.{Count, NotNumber, NotText, Range, NotUtf8, NullRefused as NullField, TextTooLong as LongField}
use Rattle.iq_base.specs.declared.refusals.Refusal.{Refusal}
use Rattle.iq_base.specs.declared.refusals.Refusal.TheVariants.{Lost, Excluded, InTransaction, NoTransaction, NoSavepoint, TooManySavepoints, DdlInTransaction, ReadOnly, NoTable, TableExists, NoColumn, NoIndex, IndexExists, CatalogFull, TypeMismatch, NotGrouped, NullRefused, TextTooLong, BadRow, Halted, Locked, Later, TableFull, IndexUnfit, TooManyDistinct, NoSpace, StoreFault, BadPage, NoNode, IsCoordinator, NotExcluded, NoReport, AtEnd, NoMemory}
use Rattle.iq_render.specs.Values.{name_at, then_name, then_number}

-- what is wrong with a value, by its name
abbrev pub field_cause_text : FieldCause → List ℕ
field_cause_text Count = codes "Count"
field_cause_text NotNumber = codes "NotNumber"
field_cause_text NotText = codes "NotText"
field_cause_text Range = codes "Range"
field_cause_text NullField = codes "NullRefused"
field_cause_text LongField = codes "TextTooLong"
field_cause_text NotUtf8 = codes "NotUtf8"

-- the five numbers of a census, each after a space: free, reserved, private, reached and waiting
abbrev pub census_numbers : Census → List ℕ
census_numbers census = then_number census.free ++ then_number census.reserved ++ then_number census.private ++ then_number census.reached ++ then_number census.waiting

-- the name and the fields of a refusal, at the declared names of sessions
abbrev pub refusal_text : List (List ℕ) → Refusal → List ℕ
refusal_text sessions (Lost incarnation) = codes "Lost" ++ then_number incarnation
refusal_text sessions (Excluded node) = codes "Excluded" ++ then_name node
refusal_text sessions InTransaction = codes "InTransaction"
refusal_text sessions NoTransaction = codes "NoTransaction"
refusal_text sessions (NoSavepoint name) = codes "NoSavepoint" ++ then_name name
refusal_text sessions TooManySavepoints = codes "TooManySavepoints"
refusal_text sessions DdlInTransaction = codes "DdlInTransaction"
refusal_text sessions (ReadOnly node) = codes "ReadOnly" ++ then_name node
refusal_text sessions (NoTable name) = codes "NoTable" ++ then_name name
refusal_text sessions (TableExists name) = codes "TableExists" ++ then_name name
refusal_text sessions (NoColumn name) = codes "NoColumn" ++ then_name name
refusal_text sessions (NoIndex name) = codes "NoIndex" ++ then_name name
refusal_text sessions (IndexExists name) = codes "IndexExists" ++ then_name name
refusal_text sessions CatalogFull = codes "CatalogFull"
refusal_text sessions (TypeMismatch column) = codes "TypeMismatch" ++ then_name column
refusal_text sessions (NotGrouped column) = codes "NotGrouped" ++ then_name column
refusal_text sessions (NullRefused column) = codes "NullRefused" ++ then_name column
refusal_text sessions (TextTooLong column) = codes "TextTooLong" ++ then_name column
refusal_text sessions (BadRow row field cause) = codes "BadRow" ++ then_number row ++ then_number field ++ then_name (field_cause_text cause)
refusal_text sessions (Halted commit) = codes "Halted" ++ then_number commit
refusal_text sessions (Locked table session) = codes "Locked" ++ then_name table ++ then_name (name_at sessions session)
refusal_text sessions (Later table commit) = codes "Later" ++ then_name table ++ then_number commit
refusal_text sessions (TableFull limit) = codes "TableFull" ++ then_number limit
refusal_text sessions (IndexUnfit column) = codes "IndexUnfit" ++ then_name column
refusal_text sessions (TooManyDistinct index distinct) = codes "TooManyDistinct" ++ then_name index ++ then_number distinct
refusal_text sessions (NoSpace census) = codes "NoSpace" ++ census_numbers census
refusal_text sessions (StoreFault before after) = codes "StoreFault" ++ then_number before ++ then_number after
refusal_text sessions (BadPage object page) = codes "BadPage" ++ then_number object ++ then_number page
refusal_text sessions (NoNode name) = codes "NoNode" ++ then_name name
refusal_text sessions (IsCoordinator name) = codes "IsCoordinator" ++ then_name name
refusal_text sessions (NotExcluded node) = codes "NotExcluded" ++ then_name node
refusal_text sessions (NoReport number) = codes "NoReport" ++ then_number number
refusal_text sessions (AtEnd commit) = codes "AtEnd" ++ then_number commit
refusal_text sessions NoMemory = codes "NoMemory"
