use Rattle.lines.proofs.Found.{find_gives}
use Rattle.lines.proofs.Packing.{length-slots}
use Rattle.lines.specs.Slots.{slots}
use Rattle.lines.proofs.find.next_on.Goals as goal
use Rattle.std.proofs.lemmas.List.{length-take}
use Rattle.std.proofs.iter.runs.Sources.{ranges, range_runs}
use Rattle.std.proofs.Common.{◌≡◌, ◌-◌, ◌/◌, ◌^◌, ◌≤◌, ◌<◌, ℕ, None, Some, get_or, length, take, rules}

pub returns : goal.returns
returns c =
    let p = c.find.ensures.runs.0 in
    let up = range_runs p p.seen in
    let from = c.args.from in
    let end = c.max-end.result in
    let xs = slots c.args.dir.now in
    let none : c.find.result ≡ None → (k : ℕ) → from ≤ k → k < end → get_or xs k 0 / 2 ^ 20 ≡ c.args.tape → ⊥ =
    λ e k l h q. let at = up.3 (k - c.args.from) in search (rules, ranges, length-slots) in
    let some : (x : ℕ) → c.find.result ≡ Some x → (k : ℕ) → from ≤ k → k < x → get_or xs k 0 / 2 ^ 20 ≡ c.args.tape → ⊥ =
    λ x e k l h q. let at = up.3 (k - c.args.from) in search (rules, ranges, length-slots) in
    let hit : (x : ℕ) → c.find.result ≡ Some x → (from ≤ x) × ((x < end) × (get_or xs x 0 / 2 ^ 20 ≡ c.args.tape)) =
    λ x e. search (rules, ranges, length-slots) in
    let low : from ≤ end = search (rules, length-slots) in
    let high : length (take c.args.to xs) ≤ end = search (rules, length-slots, length-take) in
    let inside : from < end → (end ≤ c.args.to) × (end ≤ length xs) = λ h. search (rules, length-slots) in
    find_gives c.args.tape from c.args.to end c.unwrap_or.result xs c.find.result c.unwrap_or.ensures low high inside none some hit
