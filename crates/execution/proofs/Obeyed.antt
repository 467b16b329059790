-- A command that was typed, case by case. Assumes nothing.
use Rattle.std.proofs.Common.{◌≡◌, ℕ, ◌<◌, ◌≤◌, Bool, true, false, ltb, leb, ◌⊎◌, List, [], ◌∷◌, length, sym, refl, ap, ◌∙◌, inl, inr, arith}
use Rattle.std.proofs.lemmas.Bool.{leb-true}
use Rattle.plain.specs.Pattern.{pick, added_up}
use Rattle.plain.specs.Command.{Simple, Command, plain, reads}
use Rattle.commands.specs.Resolve.{Checked}
use Rattle.commands.specs.Plan.{Plan, Slot, look_up, decide, sizes}
use Rattle.commands.specs.Turn.{lines_given, name_given, given_of}
use Rattle.commands.specs.Held.{ReadsFew}
use Rattle.commands.specs.declared.plan.Update.{Update}
use Rattle.commands.specs.declared.plan.Update.TheVariants as update
use Rattle.commands.proofs.Readings.{reads_few}
use Rattle.engine.specs.Machine as machine
use Rattle.engine.specs.Machine.{walks, went_at_once}
use Rattle.memory.specs.declared.registers.Registers.{Registers}
use Rattle.memory.specs.Registers.{Tame}
use Rattle.memory.specs.Abstract.{small_of, files_of, house_of}
use Rattle.commits.specs.Bounds.{Wide, WidePlan, Loose}
use Rattle.commits.specs.Rows.{finish}
use Rattle.execution.specs.Plans.{plan_code}
use Rattle.execution.specs.Walk.{walk_on}
use Rattle.execution.specs.Obey.{few_of, typed_text, begun, by_decision, do_plan, command, obey_one, obey}
use Rattle.execution.proofs.Loosened.{tame_loose, loose-job, loose-walking, loose-putting}

-- THE REGISTERS at the beginning
few_bound : (most n : ℕ) → few_of most n ≤ most
few_bound most n = by (leb n most) refl
  where
    by : (b : Bool) → leb n most ≡ b → pick b n 0 ≤ most
    by true e = leb-true n most e
    by false e = omega arith

went_bound : (p : Plan) (r : Registers) (m : List ℕ) → r.kept.weight < 4294967296 → Wide (went_at_once p (small_of r.kept m))
went_bound p r m h = by (walks p.walk) (ltb p.after p.upto)
  where
    by : (a b : Bool) → Wide (pick a 0 (pick b r.kept.weight 0))
    by true b = omega arith
    by false true = omega arith
    by false false = omega arith

pub begun-loose : (c : Simple) (size : ℕ) (p : Plan) (r : Registers) (m : List ℕ) → Tame r → WidePlan (plan_code p) → size < 4294967296 → Loose (begun c size p r m)
begun-loose c size p r m t w h =
    loose-job _ _ w (few_bound 64 (length (name_given c.deed))) (omega arith) (few_bound 65536 (length (typed_text c)))
    (loose-walking _ _ w.after (omega arith) (went_bound p r m t.kept.weight) (omega arith) (loose-putting _ r (omega arith) (omega arith) (tame_loose r t)))

-- WHAT IS DONE
pub plan-nothing : (u : Update) (r : Registers) (m : List ℕ) → u ≡ update.Nothing → finish r m ≡ do_plan u r m
unfolding do_plan
plan-nothing u r m e = ap (λ x. do_plan x r m) (sym e)

pub plan-walks : (u : Update) (r : Registers) (m : List ℕ) → (u ≡ update.Current) ⊎ ((u ≡ update.Text) ⊎ ((i : ℕ) × (u ≡ update.File i))) → walk_on r m ≡ do_plan u r m
unfolding do_plan
plan-walks u r m (inl e) = ap (λ x. do_plan x r m) (sym e)
plan-walks u r m (inr (inl e)) = ap (λ x. do_plan x r m) (sym e)
plan-walks u r m (inr (inr e)) = ap (λ x. do_plan x r m) (sym e.1)

-- the decision, from the numbers that it is made of
pub command_by : (c : Simple) (r : Registers) (m : List ℕ) (x : Checked Plan) (f : Slot) (offset : ℕ) → f ≡ look_up (name_given c.deed) 0 0 (files_of r.kept.files m)
    → offset ≡ added_up (λ e. e.lines) (files_of r.kept.files m) → x ≡ decide (sizes r.kept.count r.kept.current offset) f (given_of c.deed) c
    → by_decision c x r m ≡ command c r m
unfolding command house_of
command_by c r m x f offset e g q =
    ap (λ y. by_decision c y r m) (q ∙ (λ i. decide (sizes r.kept.count r.kept.current (g i)) (e i) (given_of c.deed) c))

pub slot-size : (c : Simple) (r : Registers) (m : List ℕ) (f : Slot) → f ≡ look_up (name_given c.deed) 0 0 (files_of r.kept.files m)
    → f.size ≡ (machine.slot_for (house_of r m) c).size
unfolding house_of
slot-size c r m f e = ap (λ x. x.size) e

-- WHAT WAS TYPED
pub obey_by : (text : List ℕ) (cs : List Command) (r : Registers) (m : List ℕ) → cs ≡ reads text → obey_one cs r m ≡ obey text r m
unfolding obey
obey_by text cs r m e = ap (λ x. obey_one x r m) e

pub given_few : (text : List ℕ) (c : Simple) → plain c ∷ [] ≡ reads text → length (lines_given c.deed) < 4294967296
unfolding ReadsFew
given_few text c e = let r = reads_few text (plain c) (sym e) in let a = r.0 in let b = r.1 in omega arith
