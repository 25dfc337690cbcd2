use Rattle.std.proofs.Common.{◌≡◌, ◌≤◌, ℕ, length}
use Rattle.std.specs.Prelude.{map}
use Rattle.std.specs.Option.{option_map}
use Rattle.std.specs.List.{range_with_len, sum_by}
use Rattle.iq_pages.specs.PageCalls.{view}
use Rattle.iq_pages.specs.Pages.{CountsMore}
use Rattle.iq_pieces.specs.Counts.{CountsUpTo, KeepsOthers}
use Rattle.iq_chunks.specs.Chunks.{hit_in}
use Rattle.iq_chunks.proofs.ChunkClears.{ClearsTo}
use Rattle.iq_chunks.proofs.clearing.clear_bits.Given as goal

abbrev pub invariant-loop-chunk : goal.invariant-loop-chunk
invariant-loop-chunk g l = record {
  cleared : ClearsTo l.chunk l.found (g.S.PageSource.told l.fn.sink l.object) (g.S.PageSource.told l.sink l.object);
  long : option_map length (g.S.PageSource.told l.sink l.object) ≡ option_map length (g.S.PageSource.told l.fn.sink l.object);
  others : KeepsOthers l.object (view g.S.PageSource l.fn.sink) (view g.S.PageSource l.sink);
  reads : CountsUpTo (sum_by (λ (pages : ℕ). pages) (map (hit_in l.found) (range_with_len 0 l.chunk))) (g.S.PageSource.reads l.fn.sink) (g.S.PageSource.reads l.sink);
  written : CountsMore (sum_by (λ (pages : ℕ). pages) (map (hit_in l.found) (range_with_len 0 l.chunk))) (g.S.PageSource.writes l.fn.sink) (g.S.PageSource.writes l.sink);
  later : g.S.PageSource.faults l.fn.sink ≤ g.S.PageSource.faults l.sink;
}
