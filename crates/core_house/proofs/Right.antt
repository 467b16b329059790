-- The house is right: its memory keeps the machine's state, so that it does what the plain house does. Assumes nothing.
use Rattle.std.proofs.Common.{◌≡◌, ℕ, zero, suc, Bool, true, false, eqb, List, length, replicate, sym, refl, ap, ◌∙◌, subst, arith}
use lib.ListN.{length-replicate}
use Rattle.std.proofs.lemmas.Bool.{eq-eqb, eqb-true}
use Rattle.plain.specs.Pattern.{pick, every}
use Rattle.plain.specs.House.{core}
use Rattle.plain.specs.Run.{Event, refused, Steady}
use Rattle.plain.specs.Promise.{Whole}
use Rattle.journal.proofs.Machine.{Keeps}
use Rattle.engine.specs.State.{House, starting}
use Rattle.engine.specs.Fits.{Fits}
use Rattle.engine.specs.Machine as engine
use Rattle.records.specs.Checked.{checked_record_of}
use Rattle.engine.proofs.Pages.{codec_checked}
use Rattle.engine.proofs.Sound.{engine-whole}
use Rattle.memory.specs.Registers.{loaded, stored}
use Rattle.memory.specs.Abstract.{house_of}
use Rattle.memory.proofs.Houses.{house-stored, house-zeros}
use Rattle.memory.proofs.Steadiness.{Kept, kept_same, kept_then, kept-stored}
use Rattle.commits.specs.Acts.{Made}
use Rattle.refinement.proofs.Same.{Safe, Same}
use Rattle.refinement.proofs.Cells.{Cells, cells_stay}
use Rattle.core_house.specs.Machine.{answers, zeros}
use Rattle.core_house.specs.Entry.{stepped, own}
use Rattle.core_house.proofs.Tamed.{tame_of, bounded-loaded}
use Rattle.core_house.proofs.Answers.{answers_safe, answers-same}

pub zeros-long : length zeros ≡ 262144
unfolding zeros
zeros-long = length-replicate {A = ℕ} 262144 0

-- a step of a memory of its own length
pub own_steps : (m : List ℕ) (ev : Event) → length m ≡ 262144 → own.step m ev ≡ stepped (answers (loaded m) m ev)
unfolding own
own_steps m ev h = ap (λ b. pick b (stepped (answers (loaded m) m ev)) (record { memory = m; act = refused 0 })) (eq-eqb _ _ h)

-- STEADY
all_zero : (n : ℕ) → every (λ x. eqb x 0) (replicate n 0) ≡ true
all_zero zero = refl
all_zero (suc n) = all_zero n

taken_kept : (m : List ℕ) (ev : Event) → length m ≡ 262144 → Kept m (stepped (answers (loaded m) m ev)).memory
taken_kept m ev h =
    let s = answers_safe (loaded m) m h (bounded-loaded m) ev in
    kept_then s.kept (kept-stored (answers (loaded m) m ev).registers (answers (loaded m) m ev).memory (let l = s.kept.long in omega arith))

step_kept : (m : List ℕ) (ev : Event) → Kept m (own.step m ev).memory
unfolding own
step_kept m ev = go (eqb (length m) 262144) refl
  where
    go : (b : Bool) → eqb (length m) 262144 ≡ b → Kept m (pick b (stepped (answers (loaded m) m ev)) (record { memory = m; act = refused 0 })).memory
    go true e = taken_kept m ev (eqb-true _ _ e)
    go false e = kept_same m

pub own_steady : Steady own
unfolding Steady own zeros
own_steady = (omega (arith, zeros-long), all_zero 262144, λ m ev. ((step_kept m ev).long, (step_kept m ev).small))

-- ITS MEMORY KEEPS THE MACHINE'S STATE
pub record Rep (m : List ℕ) (x : House) : Type 0 where
  pub long : length m ≡ 262144
  pub cells : Cells x
  pub is : Fits x → x ≡ house_of (loaded m) m

module _ (m : List ℕ) (x : House) (ev : Event) (f : Fits x) (g : Fits (engine.answers_by checked_record_of x ev).state) (q : Rep m x) where
  abbrev d : Made
  d = answers (loaded m) m ev

  safe : Safe m d
  safe = answers_safe (loaded m) m q.long (bounded-loaded m) ev

  same : Same d (engine.answers_by checked_record_of x ev)
  same =
      let e = q.is f in
      subst (λ y. Same d (engine.answers_by checked_record_of y ev)) (sym e)
      (answers-same (loaded m) m q.long (bounded-loaded m) (subst Fits e f) ev (subst Cells e q.cells) (subst (λ y. Fits (engine.answers_by checked_record_of y ev).state) e g))

  act_same : (own.step m ev).act ≡ (engine.answers_by checked_record_of x ev).act
  act_same = ap (λ s. s.act) (own_steps m ev q.long) ∙ same.act

  rep_still : Rep (own.step m ev).memory (engine.answers_by checked_record_of x ev).state
  rep_still =
      let e : (own.step m ev).memory ≡ stored d.registers d.memory = ap (λ s. s.memory) (own_steps m ev q.long) in
      subst (λ n. Rep n (engine.answers_by checked_record_of x ev).state) (sym e)
      (record {
        long = (taken_kept m ev q.long).long ∙ q.long;
        cells = cells_stay x ev q.cells;
        is = λ k. sym same.state ∙ sym (house-stored d.registers d.memory (tame_of d.registers d.memory safe.bounded (subst Fits (sym same.state) k)));
      })

zeros-house : house_of (loaded zeros) zeros ≡ starting 0
unfolding zeros
zeros-house = house-zeros

pub own_keeps : Keeps (engine.machine_by checked_record_of) Fits own Rep
unfolding engine.machine_by own
own_keeps = record {
  at_start = record { long = zeros-long; cells = tt; is = λ f. sym zeros-house };
  same_act = λ m x ev ok good rep. act_same m x ev ok good rep;
  still = λ m x ev ok good rep. rep_still m x ev ok good rep;
}

-- THE MAIN PROMISE
pub own_right : Whole core own
unfolding codec_checked
own_right = engine-whole codec_checked own Rep own_keeps own_steady
