use Rattle.std.proofs.Common.{◌≡◌, ◌+◌, ◌-◌, ◌<◌, ◌≤◌, true, false, length, take}
use Rattle.reader.specs.Front.{begins}
use Rattle.reader.proofs.failure.longest_front.Given as goal

abbrev pub invariant-loop-low : goal.invariant-loop-low
invariant-loop-low l = (l.low ≤ l.high) × (l.high ≤ length l.typed) × (begins (take l.low l.typed) ≡ true) × (l.high < length l.typed → begins (take (l.high + 1) l.typed) ≡ false)

abbrev pub decreases-loop-low : goal.decreases-loop-low
decreases-loop-low l = l.high - l.low
