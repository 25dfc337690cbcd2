use Rattle.std.proofs.Common.{map}
use Rattle.std.specs.Char.{to_ascii_lowercase}
use Rattle.std.specs.Str.{IsAscii}
use Rattle.std.proofs.lemmas.Str.{IsUtf8-from_ascii}
use Rattle.std.proofs.lemmas.Str.Ascii.{IsAscii-map, lowercase_ascii}
use Rattle.iq_tokens.proofs.lexer.lowered.Goals as goal

pub returns-in-Err-clause-some : goal.returns-in-Err-clause-some
returns-in-Err-clause-some c =
    let lower : IsAscii (map to_ascii_lowercase c.args.word.now) = IsAscii-map to_ascii_lowercase c.args.word.now lowercase_ascii c.requires in
    let ascii : IsAscii c.make_ascii_lowercase.new.self = rw (c.make_ascii_lowercase.ensures.after, c.copy_from_slice.ensures.after) lower in
    absurd (c.in-Err.ensures.cases.0 (IsUtf8-from_ascii _ ascii))
