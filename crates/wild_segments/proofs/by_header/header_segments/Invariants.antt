use Rattle.std.proofs.Common.{◌≡◌, ◌≤◌, ◌++◌, drop, length, map}
use Rattle.wild_segments.specs.Holding.{header_segment}
use Rattle.wild_segments.proofs.by_header.header_segments.Given as goal

abbrev pub invariant-loop-header : goal.invariant-loop-header
invariant-loop-header l =
    record {
      all : l.segments ++ map (header_segment l.members) (drop l.header-index l.headers) ≡ map (header_segment l.members) l.headers;
      room : length l.segments ≤ 256;
    }
