-- What is looked at before anything is put on, case by case. Assumes nothing.
use Rattle.std.proofs.Common.{◌≡◌, ℕ, ◌+◌, ◌≤◌, Bool, true, false, ltb, List, length, take, sym, ap, ◌∙◌, arith}
use Rattle.std.proofs.lemmas.List.{length-map, length-take}
use Rattle.plain.specs.Pattern.{pick}
use Rattle.journal.specs.Small as small
use Rattle.journal.specs.Small.{updated}
use Rattle.commands.specs.Smalls.{smalls_weight}
use Rattle.commands.specs.Turn.{too_heavy}
use Rattle.engine.specs.Machine as machine
use Rattle.engine.specs.Machine.{threshold}
use Rattle.memory.specs.declared.registers.Registers.{Registers}
use Rattle.memory.specs.Abstract.{small_of, name_of, house_of}
use Rattle.memory.specs.Sections.{low, name_in}
use Rattle.memory.proofs.Parted.{length_part}
use Rattle.commits.specs.Acts.{Made}
use Rattle.commits.specs.Putting.{start_pass}
use Rattle.commits.specs.Rows.{refuses}
use Rattle.compaction.specs.Carry.{carry, begin_other}
use Rattle.execution.specs.Walk.{need, quota_of, with_quota, prepare, weigh}

-- the comparison, from the numbers that are added up
pub room_compared : (r : Registers) (m : List ℕ) (u : small.News) (b : Bool) (before after : ℕ) → u ≡ machine.news_of (house_of r m)
    → before ≡ smalls_weight (small_of r.kept m) → after ≡ smalls_weight (updated u (small_of r.kept m)) → b ≡ too_heavy r.tapes.room before after
    → b ≡ machine.no_room (house_of r m)
unfolding house_of
room_compared r m u b before after e eb ea q =
    let s = small_of r.kept m in
    q ∙ (λ i. too_heavy r.tapes.room (eb i) (ea i)) ∙ ap (λ v. too_heavy r.tapes.room (smalls_weight s) (smalls_weight (updated v s))) e

module _ (r : Registers) (m : List ℕ) where
  pub weigh_full : true ≡ machine.no_room (house_of r m) → refuses 8 r m ≡ weigh r m
  unfolding weigh
  weigh_full e = ap (λ b. pick b (refuses 8 r m) (prepare r m)) e

  pub weigh_roomy : false ≡ machine.no_room (house_of r m) → prepare r m ≡ weigh r m
  unfolding weigh
  weigh_roomy e = ap (λ b. pick b (refuses 8 r m) (prepare r m)) e

  abbrev full : Made
  full = pick (ltb (threshold r.tapes.room) (r.tapes.used + need r m)) (begin_other (quota_of r) false r m) (start_pass false r m)

  pub prepare-busy : (q : ℕ) → q ≡ quota_of r → r.tapes.busy ≡ true → carry (with_quota q false r) m ≡ prepare r m
  unfolding prepare
  prepare-busy q e t = ap (λ n. carry (with_quota n false r) m) e ∙ ap (λ b. pick b (carry (with_quota (quota_of r) false r) m) full) (sym t)

  pub prepare_full : (q : ℕ) → q ≡ quota_of r → r.tapes.busy ≡ false → true ≡ ltb (threshold r.tapes.room) (r.tapes.used + need r m)
      → begin_other q false r m ≡ prepare r m
  unfolding prepare
  prepare_full q e t f =
      ap (λ n. begin_other n false r m) e ∙ ap (λ b. pick b (begin_other (quota_of r) false r m) (start_pass false r m)) f
      ∙ ap (λ b. pick b (carry (with_quota (quota_of r) false r) m) full) (sym t)

  pub prepare_roomy : r.tapes.busy ≡ false → false ≡ ltb (threshold r.tapes.room) (r.tapes.used + need r m) → start_pass false r m ≡ prepare r m
  unfolding prepare
  prepare_roomy t f =
      ap (λ b. pick b (begin_other (quota_of r) false r m) (start_pass false r m)) f ∙ ap (λ b. pick b (carry (with_quota (quota_of r) false r) m) full) (sym t)

pub name-long : (n : ℕ) (m : List ℕ) → length m ≡ 262144 → n ≤ 64 → length (name_of n m) ≡ n
unfolding name_of
name-long n m h g = let l = length_part 4416 64 m (omega arith) in length-map (take n (name_in m)) low ∙ length-take n (name_in m) ∙ omega arith
