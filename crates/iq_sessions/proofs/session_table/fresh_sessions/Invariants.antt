use Rattle.std.proofs.Common.{◌≡◌, ◌++◌, drop}
use Rattle.iq_sessions.specs.Table.{AreCounted, fresh_kepts}
use Rattle.iq_sessions.proofs.session_table.fresh_sessions.Given as goal

abbrev pub invariant-loop-place : goal.invariant-loop-place
invariant-loop-place l = record {
  made : l.sessions.items ++ fresh_kepts l.script l.place (drop l.place l.specs) ≡ fresh_kepts l.script 0 l.specs;
  counted : AreCounted l.place l.script.lines (drop l.place l.specs);
}
