-- The directive that a draft is, and the texts that spell one.
use Rattle.std.specs.Prelude.{◌≡◌, ℕ, Bool, List, length, is_some, Result, Ok, Err, ⊤}
use Rattle.iq_base.specs.declared.nodes.NodeKind.{NodeKind}
use Rattle.iq_base.specs.declared.nodes.NodeKind.TheVariants as kind
use Rattle.iq_tokens.specs.declared.tokens.Lexeme.{Lexeme}
use Rattle.iq_tokens.specs.Kinds.{kind_of}
use Rattle.iq_tokens.specs.Tokens.{tokens_of, lexemes}
use Rattle.iq_grammar.specs.declared.grammar.Part.TheVariants as part
use Rattle.iq_grammar.specs.Grammar.{beginning, lines}
use Rattle.iq_grammar.specs.declared.faults.ParseFault.{ParseFault}
use Rattle.iq_grammar.specs.declared.faults.ParseFault.TheVariants.{Syntax, NoMemory}
use Rattle.iq_grammar.specs.declared.directives.Directive.{Directive}
use Rattle.iq_grammar.specs.declared.directives.Directive.TheVariants.{Node, Session, Apply, Report, Lose, Take, Restart, Exclude, Include, Space, Versions}
use Rattle.iq_grammar.specs.declared.grammar.Order.{Order}
use Rattle.iq_grammar.specs.declared.grammar.Order.TheVariants as order
use Rattle.iq_grammar.specs.declared.draft.Draft.{Draft}
use Rattle.iq_grammar.specs.Draft.{empty}
use Rattle.iq_grammar.specs.Reading.{directive, Spells, IsFault}

abbrev pub the_node : List ℕ → NodeKind → Directive
the_node name kind = Node name kind

abbrev pub order_of : Order → Draft → Directive
order_of order.Coordinator d = the_node d.name kind.Coordinator
order_of order.Writer d = the_node d.name kind.Writer
order_of order.Reader d = the_node d.name kind.Reader
order_of order.Session d = Session d.name d.table
order_of order.Apply d = Apply d.name
order_of order.Report d = Report d.name
order_of order.Lose d = Lose d.count
order_of order.Take d = Take d.count
order_of order.Restart d = Restart d.name
order_of order.Exclude d = Exclude d.name
order_of order.Include d = Include d.name
order_of order.Space d = Space
order_of order.Versions d = Versions

unfoldable pub directive_of : Draft → Directive
directive_of d = order_of d.directive d

-- whether a token begins a directive
abbrev pub directs : Lexeme → Bool
directs l = is_some (beginning (kind_of l) (lines part.Directive))

-- the tokens spell the directive
pub record AreTokensOf (ls : List Lexeme) (given : Directive) : Type 0 where
  pub draft : Draft
  pub spelled : Spells empty directive ls draft
  pub is : directive_of draft ≡ given

-- the text spells the directive
abbrev pub IsDirectiveOf : List ℕ → Directive → Type 0
IsDirectiveOf text given = AreTokensOf (lexemes (tokens_of text)) given

-- the fault of a text that begins as a directive does is at this place, from 1
abbrev pub IsDirectiveFault : List ℕ → ℕ → Type 0
IsDirectiveFault text place = IsFault (length text) empty directive (tokens_of text) place

-- what a function returned is the directive, unless memory is wanting
abbrev pub Directs : Directive → Result Directive ParseFault → Type 0
Directs given (Ok other) = other ≡ given
Directs given (Err (Syntax place)) = ⊥
Directs given (Err NoMemory) = ⊤
