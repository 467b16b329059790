use Rattle.std.proofs.Common.{◌≡◌, ◌*◌, ◌^◌, ◌<◌, take}
use Rattle.protocol.specs.Events.{from_eight}
use Rattle.protocol.proofs.from_eight.Given as goal

abbrev pub invariant-loop-byte : goal.invariant-loop-byte
invariant-loop-byte l = (l.number ≡ from_eight 0 (take l.byte-index l.bytes)) × (l.number < 2 ^ (8 * l.byte-index))
