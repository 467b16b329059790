use Rattle.std.proofs.Common.{◌+◌, ◌*◌, ◌<◌, ◌≤◌, ◌≡◌, length}
use Rattle.std.specs.Slice.Iter.{chunks_rest, chunks_size}
use Rattle.inspection.proofs.tour.Tour.look_on.Given as goal

abbrev pub invariant-loop-page : goal.invariant-loop-page
invariant-loop-page l =
    (chunks_size l.page-iterator ≡ 512) × (length (chunks_rest l.page-iterator) ≤ length l.fn.pages)
    × (0 < length (chunks_rest l.page-iterator) → 512 * l.self.seen + length (chunks_rest l.page-iterator) ≤ 512 * l.initial.self.seen + length l.fn.pages)
