-- The text of a descriptor as bytes. Numbers of 4 bytes have the lowest byte first; a name is its length, its bytes, and zeros up to
-- 30 of them.
use Rattle.std.specs.Prelude.{ℕ, Bool, true, false, List, ◌∷◌, ◌++◌, length, flat_map, Option, Some, None}
use Rattle.iq_base.specs.Cells.{padded}
use Rattle.iq_base.specs.Limits.{text_length}
use Rattle.iq_base.specs.declared.values.Kind.{Kind}
use Rattle.iq_base.specs.declared.values.Kind.TheVariants.{Int, Big, Varchar}
use Rattle.iq_base.specs.declared.schemas.IndexKind.{IndexKind}
use Rattle.iq_base.specs.declared.schemas.IndexKind.TheVariants.{Lf, Hg, Hng, Cmp}
use Rattle.iq_base.specs.declared.refs.Ref.{Ref}
use Rattle.iq_base.specs.declared.descriptors.ColumnPart.{ColumnPart}
use Rattle.iq_base.specs.declared.descriptors.IndexPart.{IndexPart}
use Rattle.iq_base.specs.declared.descriptors.Descriptor.{Descriptor}
use Rattle.iq_block_store.specs.Frames.{bytes_of}

-- a name: 31 bytes
unfoldable pub name_text : List ℕ → List ℕ
name_text name = padded 30 name

-- a reference: its root and its pages
unfoldable pub ref_text : Ref → List ℕ
ref_text object = bytes_of object.root ++ bytes_of object.pages

-- what a column holds
abbrev pub kind_code : Kind → ℕ
kind_code Int = 1
kind_code Big = 2
kind_code (Varchar n) = 3

-- whether NULL may stand in a column
abbrev pub null_code : Bool → ℕ
null_code false = 0
null_code true = 1

-- the kind of an index
abbrev pub index_code : IndexKind → ℕ
index_code Lf = 1
index_code Hg = 2
index_code Hng = 3
index_code Cmp = 4

-- the second column of an index, if there is one
abbrev pub second_code : Option ℕ → ℕ
second_code None = 255
second_code (Some column) = column

-- a column: 55 bytes
unfoldable pub column_text : ColumnPart → List ℕ
column_text c =
    name_text c.name ++ (kind_code c.kind ∷ text_length c.kind ∷ null_code c.null ∷ c.form
    ∷ (bytes_of c.distinct ++ (ref_text c.cells ++ ref_text c.values)))

-- an index: 62 bytes
unfoldable pub index_text : IndexPart → List ℕ
index_text i =
    name_text i.spec.name ++ (index_code i.spec.kind ∷ i.spec.column ∷ second_code i.spec.second
    ∷ (bytes_of i.distinct ++ (ref_text i.first ++ (ref_text i.second ++ ref_text i.third))))

-- what stands before the columns: 45 bytes
unfoldable pub head_text : Descriptor → List ℕ
head_text t =
    name_text t.name ++ (length t.columns ∷ length t.indexes ∷ (bytes_of t.slots ++ ref_text t.existence))

-- the whole text: the head, the columns, and the indexes in order of creation
unfoldable pub descriptor_text : Descriptor → List ℕ
descriptor_text t = head_text t ++ (flat_map column_text t.columns ++ flat_map index_text t.indexes)
