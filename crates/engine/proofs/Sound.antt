-- The machine is sound: it wakes up, obeys and rests as the plain house does. Assumes nothing.
use Rattle.std.proofs.Common.{◌≡◌, ℕ, ◌+◌, ◌-◌, ◌*◌, ◌≤◌, Bool, true, false, ◌&&◌, eqb, ltb, leb, List, [], ◌∷◌, length, sym, refl, ap, ◌∙◌, subst, arith}
use Rattle.plain.specs.Pattern.{pick, or}
use Rattle.plain.specs.Command.{Address, Range, Deed, append, insert, change, delete, join, move, copy, mark, print, number, where_is, swap, go_to, undo, redo, save, edit, load, files, bad, Simple, Command, plain, all_lines, reads}
use Rattle.plain.specs.House.{Plain, core}
use Rattle.plain.specs.Device.{Device, Page}
use Rattle.plain.specs.Run.{Engine, Event, said, refusal_end, Steady}
use Rattle.plain.specs.Promise.{May, Whole}
use Rattle.journal.specs.Log.{Rec}
use Rattle.journal.specs.Small.{News}
use Rattle.journal.proofs.Machine.{going, is_going, after_did, Keeps, Idle-kept, SoundMachine, sound-engine}
use Rattle.journal.proofs.Whole.{whole}
use Rattle.commands.specs.Kept.{Kept, kept_weight}
use Rattle.commands.specs.Resolve.{Checked, good, refused, then, check, Bounds, bounds, base_plain, counted, resolve_plain, in_order, resolve_range, default_bounds, command_bounds, there}
use Rattle.commands.specs.Plan as plan
use Rattle.commands.specs.Plan.{Plan, Sizes, Slot, Given, decide, decide_deed, known}
use Rattle.commands.specs.Turn as turn
use Rattle.commands.specs.Turn.{KeptTurn, kept_no, kept_turn, kept_does, within_room, room_turn, name_given, given_of, sizes_of, slot_in}
use Rattle.commands.specs.Held.{Held, BeginsAlike, typed_turn}
use Rattle.commands.proofs.Granted.{begins_alike}
use Rattle.commands.proofs.Readings.{reads_one}
use Rattle.commands.proofs.Typed.{no_turn}
use Rattle.engine.specs.State.{House}
use Rattle.engine.specs.Fits.{Fits}
use Rattle.engine.specs.Machine.{machine_by, answers_by, obey, by_decision, refuses}
use Rattle.engine.proofs.Facts.{Codec, Off, Rest, Idle}
use Rattle.engine.proofs.Course.{Course, Leads, On-course, stops}
use Rattle.engine.proofs.Courses.{course, turn-then}
use Rattle.engine.proofs.Fetching.{safe_rest}
use Rattle.engine.proofs.Finish.{rest_small}
use Rattle.engine.proofs.Weighing.{refuse_leads}
use Rattle.engine.proofs.Obeys.{planned-leads}
use Rattle.engine.proofs.Decided.{decides}
use Rattle.engine.proofs.Wake.{wakes, rests, off_first}

-- EVERY REFUSAL has a number that ends a command
abbrev Named : {A : Type 0} → Checked A → Type 0
Named (good a) = Unit {0}
Named (refused m) = refusal_end m ≡ m

check_named : {A : Type 0} (b : Bool) (m : ℕ) (x : Checked A) → refusal_end m ≡ m → Named x → Named (check b m x)
check_named true m x e h = h
check_named false m x e h = e

then_named : {A B : Type 0} (x : Checked A) (f : A → Checked B) → Named x → ((a : A) → Named (f a)) → Named (then x f)
then_named (good a) f h g = g a
then_named (refused m) f h g = h

pick-named : {A : Type 0} (b : Bool) (x y : Checked A) → Named x → Named y → Named (pick b x y)
pick-named true x y h g = h
pick-named false x y h g = g

address_named : (count at : ℕ) (a : Address) → Named (resolve_plain count at a)
unfolding resolve_plain
address_named count at a =
    then_named (base_plain count at a) (counted count a)
    (pick-named (eqb a.kind 0) (good at) _ tt (pick-named (eqb a.kind 1) (good count) _ tt (pick-named (eqb a.kind 2) (good a.number) (refused 2) tt refl)))
    (λ m. check_named (leb a.back (m + a.on) && leb (m + a.on - a.back) count) 4 (good (m + a.on - a.back)) refl tt)

order_named : (a b : ℕ) → Named (in_order a b)
order_named a b = check_named (leb a b) 4 (good (bounds a b)) refl tt

range_named : (count at : ℕ) (r : Range) (b : Bounds) → Named (resolve_range count at r b)
unfolding resolve_range
range_named count at r b =
    pick-named (eqb r.kind 0) (good b) _ tt
    (pick-named (eqb r.kind 1) (then (resolve_plain count at r.first) one) _ (then_named (resolve_plain count at r.first) one (address_named count at r.first) (λ m. tt))
    (pick-named (eqb r.kind 2) (then (resolve_plain count at r.first) comma) _ (then_named (resolve_plain count at r.first) comma (address_named count at r.first) (λ m. second m at))
    (pick-named (eqb r.kind 3) (then (resolve_plain count at r.first) semicolon) (good (bounds 1 count)) (then_named (resolve_plain count at r.first) semicolon (address_named count at r.first) (λ m. second m m))
    tt)))
  where
    one : ℕ → Checked Bounds
    one m = good (bounds m m)

    to_second : ℕ → ℕ → Checked Bounds
    to_second m here = then (resolve_plain count here r.second) (λ i. in_order m i)

    comma : ℕ → Checked Bounds
    comma m = to_second m at

    semicolon : ℕ → Checked Bounds
    semicolon m = to_second m m

    second : (m here : ℕ) → Named (to_second m here)
    second m here = then_named (resolve_plain count here r.second) (λ i. in_order m i) (address_named count here r.second) (λ i. order_named m i)

deed_named : (s : Sizes) (f : Slot) (g : Given) (r : Checked Bounds) (d : Deed) → Named r → Named (decide_deed s f g r d)
unfolding decide_deed
deed_named s f g r (append ls) h = then_named r (λ b. plan.decide_append s g b) h (λ b. check_named g.short 7 (check (leb b.last s.count) 4 (good (plan.append_plan s g b))) refl (check_named (leb b.last s.count) 4 (good (plan.append_plan s g b)) refl tt))
deed_named s f g r (insert ls) h = then_named r (λ b. plan.decide_insert s g b) h (λ b. check_named g.short 7 (check (leb b.last s.count) 4 (good (plan.insert_plan s g b))) refl (check_named (leb b.last s.count) 4 (good (plan.insert_plan s g b)) refl tt))
deed_named s f g r (change ls) h = then_named r (λ b. plan.decide_change s g b) h (λ b. check_named g.short 7 (check (there s.count b) 4 (good (plan.change_plan s g b))) refl (check_named (there s.count b) 4 (good (plan.change_plan s g b)) refl tt))
deed_named s f g r delete h = then_named r (λ b. plan.decide_delete s b) h (λ b. check_named (there s.count b) 4 (good (plan.delete_plan s b)) refl tt)
deed_named s f g r join h = then_named r (λ b. plan.decide_join s b) h (λ b. check_named (there s.count b) 4 (good (plan.join_plan s b)) refl tt)
deed_named s f g r (move a) h = refl
deed_named s f g r (copy a) h = refl
deed_named s f g r (mark c) h = refl
deed_named s f g r print h = then_named r (λ b. plan.decide_show s plan.show b) h (λ b. check_named (there s.count b) 4 (good (plan.show_plan s plan.show (b.first - 1) b.last)) refl tt)
deed_named s f g r number h = then_named r (λ b. plan.decide_show s plan.show_numbered b) h (λ b. check_named (there s.count b) 4 (good (plan.show_plan s plan.show_numbered (b.first - 1) b.last)) refl tt)
deed_named s f g r where_is h = then_named r (λ b. plan.decide_where s b) h (λ b. check_named (leb b.last s.count) 4 (good (plan.say_plan s (plan.a_number b.last))) refl tt)
deed_named s f g r (swap p q i) h = refl
deed_named s f g r go_to h = then_named r (λ b. plan.decide_go s b) h (λ b. check_named (leb 1 b.last && leb b.last s.count) 4 (good (plan.show_plan s plan.show (b.last - 1) b.last)) refl tt)
deed_named s f g r undo h = refl
deed_named s f g r redo h = refl
deed_named s f g r (save n) h =
    check_named (or f.found (ltb f.place 64)) 7 (then r (λ b. check (plan.writable s.count b) 4 (good (plan.file_plan s f (b.first - 1) b.last)))) refl
    (then_named r (λ b. check (plan.writable s.count b) 4 (good (plan.file_plan s f (b.first - 1) b.last))) h (λ b. check_named (plan.writable s.count b) 4 (good (plan.file_plan s f (b.first - 1) b.last)) refl tt))
deed_named s f g r (edit n) h = check_named f.found 3 (good (plan.edit_plan s f)) refl tt
deed_named s f g r (load n) h = refl
deed_named s f g r files h = tt
deed_named s f g r bad h = refl

decision_named : (k : Kept) (c : Simple) → Named (turn.decision k c)
unfolding decide
decision_named k c =
    let r = command_bounds (length k.text) k.at c in
    check_named (known c) 2 (decide_deed (sizes_of k) (slot_in k (name_given c.deed)) (given_of c.deed) r c.deed) refl
    (deed_named (sizes_of k) (slot_in k (name_given c.deed)) (given_of c.deed) r c.deed (range_named (length k.text) k.at c.range (default_bounds (length k.text) k.at c.deed)))

-- A COMMAND
module _ (codec : Codec) (R n : ℕ) (most : R ≤ 1048576) (w : Plain) (k : Kept) (t : List ℕ) (held : Held w k) (light : kept_weight k ≤ 32 * R) (x : House) (d : Device) (rest : Rest codec R d x k) (fits : Fits x) where
  abbrev C : Course R w t
  C = course R w k t held light

  -- refused at once
  at_once : (m : ℕ) → refusal_end m ≡ m → turn-then R w k t held light ≡ kept_no m k → Leads codec R n C (after_did d [] 0 (refuses m x))
  at_once m e q =
      let o : On-course codec R n C [] [] 0 0 = record { rows = sym (ap (λ z. z.shows) q); count = omega arith } in
      refuse_leads codec R n C m x e (sym (ap (λ z. z.reply) q)) (subst (λ z. Rest codec R d x z) (sym (ap (λ z. z.next) q)) rest) fits o

  decided : (c : Simple) (y : Checked Plan) → reads t ≡ plain c ∷ [] → turn.decision k c ≡ y → Leads codec R n C (after_did d [] 0 (by_decision c y x))
  unfolding kept_turn
  decided c (good p) e q = planned-leads codec R n most w k t held light c p e q x d rest fits
  decided c (refused m) e q =
      at_once m (subst Named q (decision_named k c)) (ap (typed_turn R k) e ∙ ap (λ z. within_room R k (kept_does k c.deed z)) q ∙ no_turn R m k)

  obeyed : (cs : List Command) → length cs ≤ 1 → reads t ≡ cs → Leads codec R n C (after_did d [] 0 (obey cs x))
  unfolding kept_turn
  obeyed [] l e = at_once 1 refl (ap (typed_turn R k) e)
  obeyed (plain c ∷ []) l e =
      subst (λ y. Leads codec R n C (after_did d [] 0 (by_decision c y x))) (sym (decides k c x (rest_small codec rest).small)) (decided c (turn.decision k c) e refl)
  obeyed (all_lines r like p c ∷ []) l e = at_once 2 refl (ap (typed_turn R k) e ∙ no_turn R 2 k)
  obeyed (c ∷ b ∷ cs) l e = absurd (omega arith)

  pub obeys_at : Leads codec R n C (going x d (said t) [] 0)
  unfolding machine_by answers_by
  obeys_at =
      let o : On-course codec R n C [] C.shown 0 0 = record { rows = refl; count = omega arith } in
      is_going fits (stops codec R n C k held light (safe_rest C.kept rest) o) (obeyed (reads t) (reads_one t) refl)

-- SOUND
pub sound : (codec : Codec) (R : ℕ) → 1024 ≤ R → R ≤ 1048576 → SoundMachine (May core R) (machine_by codec.reading) (Off codec R) (λ n x d w. Idle codec R n x d w)
sound codec R low most = record {
  rests = rests codec R;
  wakes = wakes codec R low most;
  obeys = λ n x d w h t. obeys_at codec R n most w h.kept t h.held (rest_small codec h.rest).light x d h.rest h.fits;
}

-- whatever keeps its memory is right beside the plain house; it may take for granted that the state after each step fits
fits_told : (reading : Page → Rec News) (x : House) (ev : Event) → (machine_by reading).Ok x ev → Fits x
unfolding machine_by
fits_told reading x ev f = f

pub engine-whole : (codec : Codec) (e : Engine) (Rep : List ℕ → House → Type 0) → Keeps (machine_by codec.reading) Fits e Rep → Steady e → Whole core e
unfolding BeginsAlike
engine-whole codec e Rep keeps steady =
    whole core (λ R n. Off codec R n) e
    (λ R. Idle-kept (May core R) (machine_by codec.reading) Fits e Rep keeps (Off codec R) (λ n x d w. Idle codec R n x d w)) steady
    (λ R low most. sound-engine (May core R) (machine_by codec.reading) Fits e Rep keeps (Off codec R) (λ n x d w. Idle codec R n x d w) (fits_told codec.reading) (λ n x d w h. h.fits) (sound codec R low most))
    (λ R n low most few. off_first codec R n begins_alike)
