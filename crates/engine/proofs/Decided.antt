-- How a command that can be planned comes out, and how it is weighed. Assumes nothing.
use Rattle.std.proofs.Common.{◌≡◌, ℕ, suc, ◌+◌, ◌*◌, ◌≤◌, Bool, true, false, List, [], length, sym, refl, ap, ◌∙◌, subst, inl, inr}
use Rattle.plain.specs.Pattern.{pick}
use Rattle.plain.specs.Command.{Deed, Simple}
use Rattle.plain.specs.House.{Plain}
use Rattle.plain.specs.Device.{Device}
use Rattle.journal.proofs.Machine.{after_did}
use Rattle.commands.specs.Kept.{Kept, kept_weight, lines_size, fit_lines}
use Rattle.commands.specs.Resolve.{Checked, Bounds}
use Rattle.commands.specs.Plan.{sizes, look_up, decide, Plan, same_as_before}
use Rattle.commands.specs.Turn as turn
use Rattle.commands.specs.Turn.{KeptTurn, kept_no, carried_out, within_room, lines_given, name_given, given_of, slot_in, walked, more_rows, new_lines_of, kept_after, rows_of}
use Rattle.commands.specs.Smalls.{smalls_of}
use Rattle.commands.specs.Held.{Held, AsPlanned}
use Rattle.commands.proofs.Typed.{no_turn}
use Rattle.engine.specs.State.{House, Job}
use Rattle.engine.specs.Fits.{Fits}
use Rattle.engine.specs.Machine as machine
use Rattle.engine.specs.Packing.{lines_records}
use Rattle.engine.specs.Machine.{Does, text_at, quota_by, quota_of, need, prepare, weigh, decision, slot_for, refuses}
use Rattle.engine.proofs.Facts.{Codec, Rest}
use Rattle.engine.proofs.Course.{Course, Leads, On-course, chosen}
use Rattle.engine.proofs.Finish.{rest_small}
use Rattle.engine.proofs.Fetching.{text_starts}
use Rattle.engine.proofs.PlanSums.{JobPlan, size_of}
use Rattle.engine.proofs.Prepare.{prepare_leads}
use Rattle.engine.proofs.Weighing.{refuse_leads, job_for, room_same, brings, sized}

-- THE TURN of a command that can be planned: how it comes out
pub data Outcome (R : ℕ) (k : Kept) (d : Deed) (p : Plan) (u : KeptTurn) : Type 0 where
  too_long : turn.too_long p.walk (walked k p) ≡ true → u ≡ kept_no 7 k → Outcome R k d p u
  full : turn.too_long p.walk (walked k p) ≡ false → turn.no_room R k (kept_after k p d) ≡ true → u ≡ kept_no 8 k → Outcome R k d p u
  done : turn.too_long p.walk (walked k p) ≡ false → turn.no_room R k (kept_after k p d) ≡ false → u ≡ record { reply = 0; shows = rows_of k p; next = kept_after k p d } → Outcome R k d p u

pub outcome : (R : ℕ) (k : Kept) (d : Deed) (p : Plan) → Outcome R k d p (within_room R k (carried_out k p d))
outcome R k d p = by (turn.too_long p.walk (walked k p)) refl
  where
    all_done : KeptTurn
    all_done = record { reply = 0; shows = rows_of k p; next = kept_after k p d }

    room : (b : Bool) → turn.too_long p.walk (walked k p) ≡ false → turn.no_room R k (kept_after k p d) ≡ b → Outcome R k d p (pick b (kept_no 8 k) (record { reply = 0; shows = rows_of k p; next = kept_after k p d }))
    room true f e = full f e refl
    room false f e = done f e refl

    by : (b : Bool) → turn.too_long p.walk (walked k p) ≡ b → Outcome R k d p (within_room R k (pick b (kept_no 7 k) (record { reply = 0; shows = rows_of k p; next = kept_after k p d })))
    by true e = too_long e (no_turn R 7 k)
    by false e = room (turn.no_room R k (kept_after k p d)) e refl

-- the machine decides as what is kept does
pub slot_same : (k : Kept) (c : Simple) (x : House) → x.store.small ≡ smalls_of k → slot_for x c ≡ slot_in k (name_given c.deed)
slot_same k c x s = ap (λ z. look_up (name_given c.deed) 0 0 z.files) s

pub decides : (k : Kept) (c : Simple) (x : House) → x.store.small ≡ smalls_of k → decision x c ≡ turn.decision k c
decides k c x s =
    (λ i. decide (sizes (s i).count (s i).current (text_at (s i))) (look_up (name_given c.deed) 0 0 (s i).files) (given_of c.deed) c)
    ∙ ap (λ o. decide (sizes (length k.text) k.at o) (slot_in k (name_given c.deed)) (given_of c.deed) c) (text_starts k)

-- WEIGHING, in a course that comes out so
module _ (codec : Codec) (R n : ℕ) (most : R ≤ 1048576) {w : Plain} {t : List ℕ} (C : Course R w t) (k : Kept) (held : Held w k) (light : kept_weight k ≤ 32 * R)
    (d : Deed) (p : Plan) (A : AsPlanned k p d) (r : Checked Bounds) (P : JobPlan k r d p)
  where
    abbrev Weighed : House → Device → Type 0
    Weighed y v = Rest codec R v y k × Fits y × (y.job ≡ job_for k d p) × (y.walking.went ≡ lines_size (walked k p))

    weigh-chosen : (y : House) (v : Device) (ss : List (List ℕ)) (s : ℕ) (b : Bool) → Weighed y v → turn.no_room R k (kept_after k p d) ≡ b →
        Leads codec R n C (after_did v ss s (pick b (refuses 8 y) (prepare y))) → Leads codec R n C (after_did v ss s (weigh y))
    weigh-chosen y v ss s b h e g =
        let q = rest_small codec h.0 in
        chosen (λ (z : Does). Leads codec R n C (after_did v ss s z)) (machine.no_room y) b (refuses 8 y) (prepare y) (room_same k d p A R y r P q.machine-room q.small h.2 h.3 ∙ e) g

    pub weigh_full : (y : House) {v : Device} {ss : List (List ℕ)} {s j : ℕ} → Weighed y v → turn.no_room R k (kept_after k p d) ≡ true → 8 ≡ C.reply → C.kept ≡ k → On-course codec R n C ss [] s j →
        Leads codec R n C (after_did v ss s (weigh y))
    weigh_full y {v} {ss} {s} h e q same o = weigh-chosen y v ss s true h e (refuse_leads codec R n C 8 y refl q (subst (λ z. Rest codec R v y z) (sym same) h.0) h.1 o)

    pub weigh-done : (y : House) {v : Device} {ss : List (List ℕ)} {s : ℕ} → Weighed y v → turn.no_room R k (kept_after k p d) ≡ false → 0 ≡ C.reply → C.kept ≡ kept_after k p d →
        fit_lines (new_lines_of k p (lines_given d)) ≡ true → length (new_lines_of k p (lines_given d)) ≤ 65536 → (p.update ≡ same_as_before → ⊥) →
        On-course codec R n C ss (more_rows p.rows k.files) s (130 + 6 * quota_by p.splice.source (size_of p) + 2 * suc (lines_records (new_lines_of k p (lines_given d)))) →
        Leads codec R n C (after_did v ss s (weigh y))
    weigh-done y {v} {ss} {s} h e q same fit few changes o =
        let g = rest_small codec h.0 in
        let light₁ : kept_weight (kept_after k p d) ≤ 32 * R = subst (λ z. kept_weight z ≤ 32 * R) same C.light in
        let b = brings R most k held.sound light d p A y r C.kept P g.small h.2 h.3 same C.held.sound C.light fit few in
        let z = sized R most k held.sound light d p A y r P h.2 light₁ in
        let rows_are : more_rows p.rows k.files ≡ more_rows p.rows C.kept.files = elim P.rows [ inl a ↦ absurd (changes a) | inr a ↦ a k.files C.kept.files ] in
        let o₁ : On-course codec R n C ss (more_rows p.rows C.kept.files) s (130 + 6 * quota_by p.splice.source (size_of p) + 2 * suc (lines_records (new_lines_of k p (lines_given d)))) =
        subst (λ m. On-course codec R n C ss m s (130 + 6 * quota_by p.splice.source (size_of p) + 2 * suc (lines_records (new_lines_of k p (lines_given d))))) rows_are o in
        let o₂ : On-course codec R n C ss (more_rows y.job.plan.rows C.kept.files) s (130 + 6 * quota_of y + 2 * need y) =
        subst (λ (j : Job). On-course codec R n C ss (more_rows j.plan.rows C.kept.files) s (130 + 6 * quota_by j.plan.splice.source (size_of j.plan) + 2 * suc (lines_records j.lines))) (sym h.2) o₁ in
        weigh-chosen y v ss s false h e (prepare_leads codec R n C k held light y h.0 h.1 z b o₂ q)
