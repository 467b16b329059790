-- The course of a command: what it is to show, how it is to end, and what is to be kept then. It is fixed before the first act, and each phase is about one course.
-- Assumes nothing.
use Rattle.std.proofs.Common.{◌≡◌, ℕ, suc, ◌+◌, ◌*◌, ◌<◌, ◌≤◌, Bool, true, List, [], ◌++◌, sym, refl, ◌∙◌, subst, inl, inr, append-nil, arith}
use Rattle.std.proofs.lemmas.Bool.{lt-ltb}
use Rattle.plain.specs.Pattern.{pick}
use Rattle.plain.specs.House.{Plain, core}
use Rattle.plain.specs.Device.{Device, Page, longer, fastened, anew, read_record}
use Rattle.plain.specs.Run.{page, next, read, put_on, fasten, begin, has_room}
use Rattle.plain.specs.Promise.{May}
use Rattle.journal.specs.Log.{Rec}
use Rattle.journal.specs.Small.{News}
use Rattle.journal.proofs.Running.{Anywhere}
use Rattle.journal.proofs.Machine.{Where, going, over, Goes, is_going, after_act, after_did, Did-it}
use Rattle.commands.specs.Kept.{Kept, kept_weight}
use Rattle.commands.specs.Held.{Held}
use Rattle.engine.specs.State.{House, Phase}
use Rattle.engine.specs.Fits.{Fits}
use Rattle.engine.specs.Machine.{machine_by, answers_by, on_next, on_record}
use Rattle.engine.proofs.Facts.{Codec, Off, Safe, Idle}

pub record Course (R : ℕ) (w : Plain) (t : List ℕ) : Type 0 where
  pub shown : List (List ℕ)
  pub reply : ℕ
  pub next : Plain
  pub kept : Kept
  pub held : Held next kept
  pub light : kept_weight kept ≤ 32 * R
  pub grant : ℕ
  pub allowed : (r : ℕ) → r ≤ grant → May core R w t shown r reply next

module _ (codec : Codec) (R n : ℕ) {w : Plain} {t : List ℕ} (C : Course R w t) where
  abbrev pub Stop : Device → List (List ℕ) → Type 0
  Stop = Anywhere (May core R) (Off codec R n) w t

  abbrev pub End : House → Device → List (List ℕ) → ℕ → ℕ → Type 0
  End = Did-it (May core R) (λ x d s. Idle codec R n x d s) w t

  abbrev pub Leads : Where House → Type 0
  Leads p = Goes (machine_by codec.reading) Stop End p

  -- so much was shown and so many records were used; `more` rows and j records are still to come
  pub record On-course (ss more : List (List ℕ)) (r j : ℕ) : Type 0 where
    pub rows : ss ++ more ≡ C.shown
    pub count : r + j ≤ C.grant

  pub stops : {d : Device} {ss more : List (List ℕ)} {r j : ℕ} (k : Kept) → Held w k → kept_weight k ≤ 32 * R → Safe codec R d k C.kept → On-course ss more r j → Stop d ss
  stops {d} {ss} {more} k h l safe o cs =
      let ok : May core R w t (ss ++ more) 0 C.reply C.next = subst (λ z. May core R w t z 0 C.reply C.next) (sym o.rows) (C.allowed 0 (omega arith)) in
      elim (safe.leaves cs) [
        | inl q ↦ record { now = w; more = more; used = 0; reply = C.reply; then = C.next; allowed = ok; kept = inl refl; holds = record { kept = k; held = h; light = l; off = q } }
        | inr q ↦ record { now = C.next; more = more; used = 0; reply = C.reply; then = C.next; allowed = ok; kept = inr refl; holds = record { kept = C.kept; held = C.held; light = C.light; off = q } }
      ]

  -- the end: all is shown, and the machine waits with what is to be kept then
  pub ends : {x : House} {d : Device} {ss : List (List ℕ)} {r j e : ℕ} → On-course ss [] r j → e ≡ C.reply → Idle codec R n x d C.next → End x d ss r e
  ends {x} {d} {ss} {r} {j} {e} o q h = record {
    now = C.next;
    allowed = subst (λ z. May core R w t ss r z C.next) (sym q) (subst (λ z. May core R w t z r C.reply C.next) (sym o.rows ∙ append-nil ss) (C.allowed r (let c = o.count in omega arith)));
    holds = h;
  }

-- TELLING THE MACHINE, whatever is asked of stops and of the end
module _ (reading : Page → Rec News) {Stop : Device → List (List ℕ) → Type 0} {End : House → Device → List (List ℕ) → ℕ → ℕ → Type 0} where
  pub go_next : {x : House} {d : Device} {ss : List (List ℕ)} {r : ℕ} (ph : Phase) → x.phase ≡ ph → Fits x → Stop d ss →
      Goes (machine_by reading) Stop End (after_did d ss r (on_next ph x)) → Goes (machine_by reading) Stop End (going x d next ss r)
  unfolding machine_by answers_by
  go_next {x} {d} {ss} {r} ph e f stop h = is_going f stop (subst (λ q. Goes (machine_by reading) Stop End (after_did d ss r (on_next q x))) (sym e) h)

  -- a record is put on where there is room
  pub puts : {x : House} (d : Device) {ss : List (List ℕ)} {r : ℕ} (t : ℕ) (p : Page) → has_room d t p ≡ true →
      Goes (machine_by reading) Stop End (going x (longer d t p) next ss (suc r)) → Goes (machine_by reading) Stop End (after_act d ss r x (put_on t p))
  puts {x} d {ss} {r} t p q h = subst (λ b. Goes (machine_by reading) Stop End (pick b (going x (longer d t p) next ss (suc r)) (over x d ss r 1001))) (sym q) h

  -- told a record
  pub go_record : {x : House} {d : Device} {ss : List (List ℕ)} {r : ℕ} (p : Page) (ph : Phase) (z : Rec News) → x.phase ≡ ph → reading p ≡ z → Fits x → Stop d ss →
      Goes (machine_by reading) Stop End (after_did d ss r (on_record ph z x)) → Goes (machine_by reading) Stop End (going x d (page p) ss r)
  unfolding machine_by answers_by
  go_record {x} {d} {ss} {r} p ph z e q f stop h =
      is_going f stop (subst (λ a. Goes (machine_by reading) Stop End (after_did d ss r (on_record a (reading p) x))) (sym e)
      (subst (λ a. Goes (machine_by reading) Stop End (after_did d ss r (on_record ph a x))) (sym q) h))

  pub asks : {x : House} (d : Device) {ss : List (List ℕ)} {r : ℕ} (t i : ℕ) → t < 2 →
      Goes (machine_by reading) Stop End (going x d (page (read_record d t i)) ss (suc r)) → Goes (machine_by reading) Stop End (after_act d ss r x (read t i))
  asks {x} d {ss} {r} t i q h = subst (λ b. Goes (machine_by reading) Stop End (pick b (going x d (page (read_record d t i)) ss (suc r)) (over x d ss r 1001))) (sym (lt-ltb t 2 q)) h

  pub fastens : {x : House} (d : Device) {ss : List (List ℕ)} {r : ℕ} (t : ℕ) → t < 2 →
      Goes (machine_by reading) Stop End (going x (fastened d t) next ss r) → Goes (machine_by reading) Stop End (after_act d ss r x (fasten t))
  fastens {x} d {ss} {r} t q h = subst (λ b. Goes (machine_by reading) Stop End (pick b (going x (fastened d t) next ss r) (over x d ss r 1001))) (sym (lt-ltb t 2 q)) h

  pub begins : {x : House} (d : Device) {ss : List (List ℕ)} {r : ℕ} (t : ℕ) → t < 2 →
      Goes (machine_by reading) Stop End (going x (anew d t) next ss r) → Goes (machine_by reading) Stop End (after_act d ss r x (begin t))
  begins {x} d {ss} {r} t q h = subst (λ b. Goes (machine_by reading) Stop End (pick b (going x (anew d t) next ss r) (over x d ss r 1001))) (sym (lt-ltb t 2 q)) h

-- a choice that is known
pub chosen : {A : Type 0} (P : A → Type 0) (b c : Bool) (x y : A) → b ≡ c → P (pick c x y) → P (pick b x y)
chosen P b c x y q h = subst (λ z. P (pick z x y)) (sym q) h
