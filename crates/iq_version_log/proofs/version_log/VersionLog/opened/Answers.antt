use Rattle.std.proofs.Common.{rules, refl}
use Rattle.iq_version_log.proofs.version_log.VersionLog.opened.Goals as goal

pub returns : goal.returns
returns c = record { first = record { names = c.args.names; heads = c.args.heads; dropped = c.new.result }; base = refl; versions = search rules; names_are = refl; heads_are = refl; none = c.new.ensures }
