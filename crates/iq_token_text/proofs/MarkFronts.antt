-- The token at the front of a printed mark.
use Rattle.std.proofs.Common.{◌≡◌, ℕ, true, false, List, [], ◌∷◌, length, map, Option, Some, refl, ap, ◌∙◌, nat_lt, slice_index}
use Rattle.std.specs.List.{list_all}
use Rattle.std.specs.Char.{is_ascii_digit, to_ascii_lowercase}
use Rattle.iq_tokens.specs.declared.tokens.Mark.{Mark}
use Rattle.iq_tokens.specs.declared.tokens.Mark.TheVariants as mark
use Rattle.iq_tokens.specs.declared.tokens.Lexeme.TheVariants as lexeme
use Rattle.iq_tokens.specs.Tokens.{is_space, is_word_byte, reserved, named, front, front_of, symbol_at, pair, single}
use Rattle.iq_token_text.specs.Texts.{mark_text}
use Rattle.iq_token_text.proofs.WordFronts.{Ends, IsFront, first_word}

-- a word of a mark
word_mark : (m : Mark) (b : ℕ) (w rest : List ℕ) → is_ascii_digit b ≡ false → list_all is_word_byte (b ∷ w) ≡ true → reserved (map to_ascii_lowercase (b ∷ w)) ≡ Some m
    → nat_lt 30 (length (b ∷ w)) ≡ false → Ends rest → IsFront (lexeme.Mark m) (b ∷ w) rest
word_mark m b w rest digit all is short ends = first_word (lexeme.Mark m) b w rest digit all short ends (ap (λ (o : Option Mark). named o (map to_ascii_lowercase (b ∷ w))) is)

-- a symbol of one byte
symbol : (m : Mark) (b : ℕ) (rest : List ℕ) → is_space b ≡ false → front_of (b ∷ rest) ≡ symbol_at (b ∷ rest) b (slice_index rest 0)
    → symbol_at (b ∷ rest) b (slice_index rest 0) ≡ front (lexeme.Mark m) 1 → IsFront (lexeme.Mark m) (b ∷ []) rest
symbol m b rest solid here is = record { first = b; more = []; is = refl; solid = solid; front = here ∙ is }

pub mark_front : (m : Mark) (rest : List ℕ) → (m ≡ mark.Other → ⊥) → (m ≡ mark.Bad → ⊥) → Ends rest → IsFront (lexeme.Mark m) (mark_text m) rest
unfolding mark_text reserved front_of symbol_at pair single
mark_front mark.Alter rest other bad ends = word_mark mark.Alter _ _ rest refl refl refl refl ends
mark_front mark.And rest other bad ends = word_mark mark.And _ _ rest refl refl refl refl ends
mark_front mark.Apply rest other bad ends = word_mark mark.Apply _ _ rest refl refl refl refl ends
mark_front mark.Asc rest other bad ends = word_mark mark.Asc _ _ rest refl refl refl refl ends
mark_front mark.Begin rest other bad ends = word_mark mark.Begin _ _ rest refl refl refl refl ends
mark_front mark.Between rest other bad ends = word_mark mark.Between _ _ rest refl refl refl refl ends
mark_front mark.Bigint rest other bad ends = word_mark mark.Bigint _ _ rest refl refl refl refl ends
mark_front mark.By rest other bad ends = word_mark mark.By _ _ rest refl refl refl refl ends
mark_front mark.Cmp rest other bad ends = word_mark mark.Cmp _ _ rest refl refl refl refl ends
mark_front mark.Commit rest other bad ends = word_mark mark.Commit _ _ rest refl refl refl refl ends
mark_front mark.Coordinator rest other bad ends = word_mark mark.Coordinator _ _ rest refl refl refl refl ends
mark_front mark.Count rest other bad ends = word_mark mark.Count _ _ rest refl refl refl refl ends
mark_front mark.Create rest other bad ends = word_mark mark.Create _ _ rest refl refl refl refl ends
mark_front mark.Delete rest other bad ends = word_mark mark.Delete _ _ rest refl refl refl refl ends
mark_front mark.Desc rest other bad ends = word_mark mark.Desc _ _ rest refl refl refl refl ends
mark_front mark.Drop rest other bad ends = word_mark mark.Drop _ _ rest refl refl refl refl ends
mark_front mark.Excluded rest other bad ends = word_mark mark.Excluded _ _ rest refl refl refl refl ends
mark_front mark.Explain rest other bad ends = word_mark mark.Explain _ _ rest refl refl refl refl ends
mark_front mark.From rest other bad ends = word_mark mark.From _ _ rest refl refl refl refl ends
mark_front mark.Group rest other bad ends = word_mark mark.Group _ _ rest refl refl refl refl ends
mark_front mark.Hg rest other bad ends = word_mark mark.Hg _ _ rest refl refl refl refl ends
mark_front mark.Hng rest other bad ends = word_mark mark.Hng _ _ rest refl refl refl refl ends
mark_front mark.In rest other bad ends = word_mark mark.In _ _ rest refl refl refl refl ends
mark_front mark.Included rest other bad ends = word_mark mark.Included _ _ rest refl refl refl refl ends
mark_front mark.Index rest other bad ends = word_mark mark.Index _ _ rest refl refl refl refl ends
mark_front mark.Insert rest other bad ends = word_mark mark.Insert _ _ rest refl refl refl refl ends
mark_front mark.Int rest other bad ends = word_mark mark.Int _ _ rest refl refl refl refl ends
mark_front mark.Into rest other bad ends = word_mark mark.Into _ _ rest refl refl refl refl ends
mark_front mark.Is rest other bad ends = word_mark mark.Is _ _ rest refl refl refl refl ends
mark_front mark.Lf rest other bad ends = word_mark mark.Lf _ _ rest refl refl refl refl ends
mark_front mark.Load rest other bad ends = word_mark mark.Load _ _ rest refl refl refl refl ends
mark_front mark.Lose rest other bad ends = word_mark mark.Lose _ _ rest refl refl refl refl ends
mark_front mark.Max rest other bad ends = word_mark mark.Max _ _ rest refl refl refl refl ends
mark_front mark.Min rest other bad ends = word_mark mark.Min _ _ rest refl refl refl refl ends
mark_front mark.Multiplex rest other bad ends = word_mark mark.Multiplex _ _ rest refl refl refl refl ends
mark_front mark.Node rest other bad ends = word_mark mark.Node _ _ rest refl refl refl refl ends
mark_front mark.Not rest other bad ends = word_mark mark.Not _ _ rest refl refl refl refl ends
mark_front mark.Null rest other bad ends = word_mark mark.Null _ _ rest refl refl refl refl ends
mark_front mark.On rest other bad ends = word_mark mark.On _ _ rest refl refl refl refl ends
mark_front mark.Or rest other bad ends = word_mark mark.Or _ _ rest refl refl refl refl ends
mark_front mark.Order rest other bad ends = word_mark mark.Order _ _ rest refl refl refl refl ends
mark_front mark.Reader rest other bad ends = word_mark mark.Reader _ _ rest refl refl refl refl ends
mark_front mark.Release rest other bad ends = word_mark mark.Release _ _ rest refl refl refl refl ends
mark_front mark.Report rest other bad ends = word_mark mark.Report _ _ rest refl refl refl refl ends
mark_front mark.Restart rest other bad ends = word_mark mark.Restart _ _ rest refl refl refl refl ends
mark_front mark.Rollback rest other bad ends = word_mark mark.Rollback _ _ rest refl refl refl refl ends
mark_front mark.Rows rest other bad ends = word_mark mark.Rows _ _ rest refl refl refl refl ends
mark_front mark.Savepoint rest other bad ends = word_mark mark.Savepoint _ _ rest refl refl refl refl ends
mark_front mark.Select rest other bad ends = word_mark mark.Select _ _ rest refl refl refl refl ends
mark_front mark.Server rest other bad ends = word_mark mark.Server _ _ rest refl refl refl refl ends
mark_front mark.Session rest other bad ends = word_mark mark.Session _ _ rest refl refl refl refl ends
mark_front mark.Set rest other bad ends = word_mark mark.Set _ _ rest refl refl refl refl ends
mark_front mark.Space rest other bad ends = word_mark mark.Space _ _ rest refl refl refl refl ends
mark_front mark.Status rest other bad ends = word_mark mark.Status _ _ rest refl refl refl refl ends
mark_front mark.Sum rest other bad ends = word_mark mark.Sum _ _ rest refl refl refl refl ends
mark_front mark.Sync rest other bad ends = word_mark mark.Sync _ _ rest refl refl refl refl ends
mark_front mark.Table rest other bad ends = word_mark mark.Table _ _ rest refl refl refl refl ends
mark_front mark.Take rest other bad ends = word_mark mark.Take _ _ rest refl refl refl refl ends
mark_front mark.To rest other bad ends = word_mark mark.To _ _ rest refl refl refl refl ends
mark_front mark.Transaction rest other bad ends = word_mark mark.Transaction _ _ rest refl refl refl refl ends
mark_front mark.Update rest other bad ends = word_mark mark.Update _ _ rest refl refl refl refl ends
mark_front mark.Values rest other bad ends = word_mark mark.Values _ _ rest refl refl refl refl ends
mark_front mark.Varchar rest other bad ends = word_mark mark.Varchar _ _ rest refl refl refl refl ends
mark_front mark.Versions rest other bad ends = word_mark mark.Versions _ _ rest refl refl refl refl ends
mark_front mark.Where rest other bad ends = word_mark mark.Where _ _ rest refl refl refl refl ends
mark_front mark.Writer rest other bad ends = word_mark mark.Writer _ _ rest refl refl refl refl ends
mark_front mark.Open rest other bad ends = symbol mark.Open 40 rest refl refl refl
mark_front mark.Close rest other bad ends = symbol mark.Close 41 rest refl refl refl
mark_front mark.Comma rest other bad ends = symbol mark.Comma 44 rest refl refl refl
mark_front mark.Star rest other bad ends = symbol mark.Star 42 rest refl refl refl
mark_front mark.Dot rest other bad ends = symbol mark.Dot 46 rest refl refl refl
mark_front mark.Semicolon rest other bad ends = symbol mark.Semicolon 59 rest refl refl refl
mark_front mark.Colon rest other bad ends = symbol mark.Colon 58 rest refl refl refl
mark_front mark.Equal rest other bad ends = symbol mark.Equal 61 rest refl refl refl
mark_front mark.Less rest other bad ends = symbol mark.Less 60 rest refl refl (rw (ends.no_equal, ends.no_more) refl)
mark_front mark.More rest other bad ends = symbol mark.More 62 rest refl refl (rw ends.no_equal refl)
mark_front mark.Differs rest other bad ends = record { first = 60; more = 62 ∷ []; is = refl; solid = refl; front = refl }
mark_front mark.AtMost rest other bad ends = record { first = 60; more = 61 ∷ []; is = refl; solid = refl; front = refl }
mark_front mark.AtLeast rest other bad ends = record { first = 62; more = 61 ∷ []; is = refl; solid = refl; front = refl }
mark_front mark.Other rest other bad ends = absurd (other refl)
mark_front mark.Bad rest other bad ends = absurd (bad refl)

-- behind a bracket and a dot anything may stand
pub open_front : (rest : List ℕ) → IsFront (lexeme.Mark mark.Open) (mark_text mark.Open) rest
unfolding mark_text front_of symbol_at pair single
open_front rest = symbol mark.Open 40 rest refl refl refl

pub dot_front : (rest : List ℕ) → IsFront (lexeme.Mark mark.Dot) (mark_text mark.Dot) rest
unfolding mark_text front_of symbol_at pair single
dot_front rest = symbol mark.Dot 46 rest refl refl refl
