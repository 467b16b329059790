-- Waking up, and that a stop at rest leaves what is kept. Assumes nothing.
use Rattle.std.proofs.Common.{◌≡◌, ℕ, suc, ◌*◌, ◌≤◌, false, eqb, ◌⊎◌, List, [], length, sym, refl, ap, ◌∙◌, subst, inl, inr, append-nil, arith}
use lib.ListN.{length-map}
use Rattle.plain.specs.Pattern.{pick}
use Rattle.plain.specs.House.{Plain, core}
use Rattle.plain.specs.Device.{Device, tape_of, stopped, read_record, fresh}
use Rattle.plain.specs.Promise.{May, first_plain}
use Rattle.plain.specs.Run.{on, page}
use Rattle.journal.specs.Log.{Position, Rec, state, neither, only, choose, chosen, head_of, generation, Sides, ahead, back, tapes}
use Rattle.journal.specs.Small.{News, updated, no_state}
use Rattle.journal.proofs.Running.{Asleep}
use Rattle.journal.proofs.Machine.{Where, going, Goes, is_going, after_did, Awoke}
use Rattle.journal.proofs.Contents.{layout_old_is}
use Rattle.journal.proofs.Lifecycle as lifecycle
use Rattle.journal.proofs.Recovery as recovery
use Rattle.commands.specs.Kept.{Kept, kept_weight, nothing_kept}
use Rattle.commands.specs.Smalls.{smalls_of}
use Rattle.commands.specs.Held.{Held}
use Rattle.engine.specs.State.{House, wake_first, wake_second, replaying, tapes_of}
use Rattle.engine.specs.Fits.{ReplayFits}
use Rattle.engine.specs.Machine.{machine_by, answers_by, wake_by}
use Rattle.engine.proofs.Facts.{Codec, OffAt, Off, Idle, Rest, quiet, busy, lines_of_kept}
use Rattle.engine.proofs.Course.{go_record, asks}
use Rattle.engine.proofs.Devices.{side_first}
use Rattle.engine.proofs.CompactFacts.{quiet-rests, busy-rests}
use Rattle.engine.proofs.WakeFacts.{waking, waking-fits, tapes_fit, nothing-fits, off_stays, head_is, off_generations, asleep}
use Rattle.engine.proofs.WakeReplay.{Found, replay_leads}
use Rattle.engine.proofs.WakeFresh.{no_heads, fresh-leads}

-- THE FIRST DEVICE keeps nothing
pub off_first : (codec : Codec) (R n : ℕ) → Held first_plain nothing_kept → Off codec R n (fresh R) first_plain
off_first codec R n held = record {
  kept = nothing_kept;
  held = held;
  light = omega arith;
  off = record { room = refl; fast_first = refl; fast-second = refl; fits_first = omega arith; fits-second = omega arith; log = recovery.empty refl refl };
}

-- A STOP AT REST
pub rests : (codec : Codec) (R n : ℕ) (x : House) (d : Device) (w : Plain) → Idle codec R n x d w → (cs : List ℕ) → Off codec R n (stopped d cs) w
rests codec R n x d w h cs = go h.rest
  where
    go : Rest codec R d x h.kept → Off codec R n (stopped d cs) w
    go (quiet q l) = record { kept = h.kept; held = h.held; light = q.powered.light; off = quiet-rests codec q cs }
    go (busy S b c) = record { kept = h.kept; held = h.held; light = b.powered.light; off = busy-rests codec b cs }

-- WAKING UP
side_fits : {codec : Codec} {R : ℕ} {d : Device} {k : Kept} {t y : ℕ} → Sides t y → OffAt codec R d k → (length (tape_of d t).records ≤ R) × (length (tape_of d y).records ≤ R)
side_fits ahead h = (h.fits_first, h.fits-second)
side_fits back h = (h.fits-second, h.fits_first)

side_low : (codec : Codec) (d : Device) {t y : ℕ} → Sides t y → (generation (tapes codec.reading d 0) ≤ 3) × (generation (tapes codec.reading d 1) ≤ 3) → generation (tapes codec.reading d t) ≤ 3
side_low codec d ahead h = h.0
side_low codec d back h = h.1

side_generation : (codec : Codec) (d : Device) {t y : ℕ} (g h : ℕ) → Sides t y → g ≡ generation (tapes codec.reading d 0) → h ≡ generation (tapes codec.reading d 1) → generation (tapes codec.reading d t) ≡ pick (eqb t 0) g h
side_generation codec d g h ahead a b = sym a
side_generation codec d g h back a b = sym b

found : (codec : Codec) {R : ℕ} {d : Device} {k : Kept} (t : ℕ) {y : ℕ} {D : List Position} → OffAt codec R d k →
    lifecycle.Active updated no_state ReplayFits codec.reading codec.torn false d t y (generation (tapes codec.reading d t)) (length (tapes codec.reading d t)) D (lines_of_kept k) (smalls_of k) →
    Found codec R d k t (generation (tapes codec.reading d t))
found codec {R} {d} {k} t {y} {D} off a =
    let sides = a.layout.sides in
    let f = side_fits sides off in
    record {
      other = y;
      dir = D;
      records = tapes codec.reading d t;
      is = refl;
      log = a;
      tape_is = sym (layout_old_is codec.reading a.layout ∙ append-nil a.T);
      room = off.room;
      low = side_low codec d sides (off_generations (tapes codec.reading d) off.log);
      long-fits = let e = length-map (tape_of d t).records codec.reading in let q = f.0 in omega arith;
      other_fits = f.1;
    }

-- what the heads of both tapes, g and h, lead to
module _
    (codec : Codec) (R n : ℕ) (enough : 1024 ≤ R) (at_most : R ≤ 1048576) {w : Plain} (k : Kept) (held : Held w k) (light : kept_weight k ≤ 32 * R) (d : Device) (off : OffAt codec R d k)
    (g h : ℕ) (is-g : g ≡ generation (tapes codec.reading d 0)) (is-h : h ≡ generation (tapes codec.reading d 1))
  where
    abbrev Wakes : Where House → Type 0
    Wakes p = Goes (machine_by codec.reading) (Asleep (May core R) (Off codec R n) w) (Awoke (May core R) (λ x d₁ s. Idle codec R n x d₁ s) w) p

    abbrev both_read : House
    both_read = waking wake_second (tapes_of d.room 0 g 0 false 0 0) (state [] [] no_state)

    same-choice : choose g h ≡ chosen (tapes codec.reading d)
    same-choice = ap (λ z. choose z h) is-g ∙ ap (choose (generation (tapes codec.reading d 0))) is-h

    heads-lead : Wakes (after_did d [] 2 (wake_by (choose g h) g h both_read))
    heads-lead = go (lifecycle.off_active updated no_state ReplayFits codec.reading codec.torn d off.fast_first off.fast-second off.log)
      where
        go : ((lines_of_kept k ≡ []) × (smalls_of k ≡ no_state) × (chosen (tapes codec.reading d) ≡ neither))
            ⊎ ((x : ℕ) × (y : ℕ) × (D : List Position) × (chosen (tapes codec.reading d) ≡ only x)
            × lifecycle.Active updated no_state ReplayFits codec.reading codec.torn false d x y (generation (tapes codec.reading d x)) (length (tapes codec.reading d x)) D (lines_of_kept k) (smalls_of k)) →
            Wakes (after_did d [] 2 (wake_by (choose g h) g h both_read))
        go (inl e) =
            let none-there = no_heads (generation (tapes codec.reading d 0)) (generation (tapes codec.reading d 1)) e.2 in
            let low = off_generations (tapes codec.reading d) off.log in
            subst (λ c. Wakes (after_did d [] 2 (wake_by c g h both_read))) (sym (same-choice ∙ e.2))
            (fresh-leads codec R n enough at_most k held light d off e.0 e.1 none-there.1 wake_second g h 2 (let q = low.0 in omega arith))
        go (inr e) =
            let t : ℕ = e.0 in
            let sides = e.4.layout.sides in
            subst (λ c. Wakes (after_did d [] 2 (wake_by c g h both_read))) (sym (same-choice ∙ e.3))
            (asks codec.reading d t 0 (side_first sides)
            (subst (λ z. Wakes (going (waking replaying (tapes_of d.room t z 0 false 0 0) (state [] [] no_state)) d (page (read_record d t 0)) [] 3)) (side_generation codec d g h sides is-g is-h)
            (replay_leads codec R n enough at_most k held light d t (generation (tapes codec.reading d t)) (found codec t off e.4) 3)))

pub wakes : (codec : Codec) (R : ℕ) → 1024 ≤ R → R ≤ 1048576 → (n : ℕ) (d : Device) (w : Plain) → Off codec R (suc n) d w →
    Goes (machine_by codec.reading) (Asleep (May core R) (Off codec R n) w) (Awoke (May core R) (λ x d₁ s. Idle codec R n x d₁ s) w) (going (machine_by codec.reading).start d (on d.room) [] 0)
unfolding machine_by answers_by
wakes codec R enough at_most n d w h =
    let k : Kept = h.kept in
    let off : OffAt codec R d k = h.off in
    let room : d.room ≤ 1048576 = let e = off.room in omega arith in
    let stop = asleep {n = n} h.held h.light d (off_stays off) in
    let z₀ : Rec News = codec.reading (read_record d 0 0) in
    let z₁ : Rec News = codec.reading (read_record d 1 0) in
    let e₀ : head_of z₀ ≡ generation (tapes codec.reading d 0) = head_is codec d 0 in
    let e₁ : head_of z₁ ≡ generation (tapes codec.reading d 1) = head_is codec d 1 in
    let low = off_generations (tapes codec.reading d) off.log in
    let low₀ : head_of z₀ ≤ 3 = let q = low.0 in omega arith in
    is_going (waking-fits (tapes_fit (omega arith) (omega arith) (omega arith) (omega arith)) nothing-fits) stop
    (asks codec.reading d 0 0 (omega arith)
    (go_record codec.reading (read_record d 0 0) wake_first z₀ refl refl (waking-fits (tapes_fit room (omega arith) (omega arith) (omega arith)) nothing-fits) stop
    (asks codec.reading d 1 0 (omega arith)
    (go_record codec.reading (read_record d 1 0) wake_second z₁ refl refl (waking-fits (tapes_fit room (omega arith) low₀ (omega arith)) nothing-fits) stop
    (heads-lead codec R n enough at_most k h.held h.light d off (head_of z₀) (head_of z₁) e₀ e₁)))))
