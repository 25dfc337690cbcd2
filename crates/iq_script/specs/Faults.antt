-- What is wrong with a line, as it is printed: its name, and the place or the name that shows it.
use Rattle.std.specs.Prelude.{ℕ, List, [], ◌++◌, codes}
use Rattle.std.specs.Fmt.{decimal}
use Rattle.iq_script.specs.declared.faults.LineFault.{LineFault}
use Rattle.iq_script.specs.declared.faults.LineFault.TheVariants.{TooManyLines, NotUtf8, Syntax, LateDeclaration, NoCoordinator, SecondCoordinator, NodeTwice, TooManyNodes, SessionTwice, UnknownNode, TooManySessions, UnknownSession, ShortLoad, Unbuilt}
use Rattle.iq_script.specs.declared.faults.FaultField.{FaultField}
use Rattle.iq_script.specs.declared.faults.FaultField.TheVariants as fields

-- the fault's name
abbrev pub name_text : LineFault → List ℕ
name_text TooManyLines = codes "TooManyLines"
name_text NotUtf8 = codes "NotUtf8"
name_text (Syntax place) = codes "Syntax"
name_text LateDeclaration = codes "LateDeclaration"
name_text NoCoordinator = codes "NoCoordinator"
name_text SecondCoordinator = codes "SecondCoordinator"
name_text (NodeTwice name) = codes "NodeTwice"
name_text TooManyNodes = codes "TooManyNodes"
name_text (SessionTwice name) = codes "SessionTwice"
name_text (UnknownNode name) = codes "UnknownNode"
name_text TooManySessions = codes "TooManySessions"
name_text (UnknownSession name) = codes "UnknownSession"
name_text ShortLoad = codes "ShortLoad"
name_text Unbuilt = codes "Unbuilt"

-- what it names
abbrev pub field_of : LineFault → FaultField
field_of TooManyLines = fields.Nothing
field_of NotUtf8 = fields.Nothing
field_of (Syntax place) = fields.Place place
field_of LateDeclaration = fields.Nothing
field_of NoCoordinator = fields.Nothing
field_of SecondCoordinator = fields.Nothing
field_of (NodeTwice name) = fields.Named name
field_of TooManyNodes = fields.Nothing
field_of (SessionTwice name) = fields.Named name
field_of (UnknownNode name) = fields.Named name
field_of TooManySessions = fields.Nothing
field_of (UnknownSession name) = fields.Named name
field_of ShortLoad = fields.Nothing
field_of Unbuilt = fields.Nothing

-- a blank, and the place in decimal digits or the name
abbrev pub field_text : FaultField → List ℕ
field_text fields.Nothing = []
field_text (fields.Place place) = codes " " ++ decimal place
field_text (fields.Named name) = codes " " ++ name

-- the fault as it is printed
abbrev pub fault_text : LineFault → List ℕ
fault_text fault = name_text fault ++ field_text (field_of fault)
