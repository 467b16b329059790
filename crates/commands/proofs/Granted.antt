-- What is done, or refused for want of room, is allowed beside the plain house. Assumes nothing.
use Rattle.std.proofs.Common.{◌≡◌, ℕ, suc, ◌+◌, ◌-◌, ◌*◌, ◌<◌, ◌≤◌, Bool, true, false, not, ◌&&◌, ltb, leb, List, length, sym, refl, ap, ◌∙◌, inl, inr, arith}
use Rattle.std.proofs.lemmas.Bool.{and_parts, and_cases, ltb-true, ltb-false, cases_lt}
use Rattle.plain.specs.Pattern.{pick}
use Rattle.plain.specs.Command.{Deed, append, insert, change, delete, join, move, copy, mark, print, number, where_is, swap, go_to, undo, redo, save, edit, load, files, bad, Command, plain, all_lines}
use Rattle.plain.specs.House.{Plain, Turn, turn, weight, core, core_deed, plain_range, given_lines}
use Rattle.plain.specs.Promise.{AllOrNone, TurnMay, may_use, span, goes_through, distinct}
use Rattle.plain.proofs.Turns.{all_or_none}
use Rattle.commands.specs.Kept.{Kept, kept_weight, other_names}
use Rattle.commands.specs.Resolve.{Checked, good, refused, Bounds, command_bounds}
use Rattle.commands.specs.Turn.{kept_no, kept_turn, lines_given, no_room}
use Rattle.commands.specs.Held.{Held, stand_weights, SameTurn, WeighsAlike, TurnsAlike, BeginsAlike, span_of, may_spend, Allowed, TurnsAllowed}
use Rattle.commands.proofs.Resolved.{both_from}
use Rattle.commands.proofs.Texts.{weighs_alike}
use Rattle.commands.proofs.Turned.{where_kept, turns_alike}

pub begins_alike : BeginsAlike
unfolding BeginsAlike stand_weights distinct other_names
begins_alike =
    record {
      text = refl;
      at = refl;
      files = refl;
      ring = refl;
      undone = refl;
      before = omega arith;
      apart = refl;
      old = refl;
      one = omega arith;
      sound = record { lines_fit = refl; files_fit = refl; few_files = omega arith; names_differ = refl; current = omega arith; few_stands = omega arith };
    }

-- THE GRANT
given_same : (d : Deed) → given_lines d ≡ length (lines_given d)
unfolding lines_given
given_same (append ls) = refl
given_same (insert ls) = refl
given_same (change ls) = refl
given_same delete = refl
given_same join = refl
given_same (move a) = refl
given_same (copy a) = refl
given_same (mark c) = refl
given_same print = refl
given_same number = refl
given_same where_is = refl
given_same (swap p r k) = refl
given_same go_to = refl
given_same undo = refl
given_same redo = refl
given_same (save n) = refl
given_same (edit n) = refl
given_same (load n) = refl
given_same files = refl
given_same bad = refl

span_same : (last : List ℕ) (r : Checked Bounds) → suc (both_from last r).to - (both_from last r).from ≡ span_of r
span_same last (good b) = refl
span_same last (refused n) = refl

pub spends_alike : (w : Plain) (k : Kept) (c : Command) (r : ℕ) → Held w k → core c ≡ true → (t : Turn) (rows : List (List ℕ)) → rows ≡ t.shows → may_use w c t r ≡ may_spend k c rows r
unfolding may_use core
spends_alike w k (plain c) r h e t rows s =
    let p = and_parts (plain_range c.range) (core_deed c.deed) e in
    let b = command_bounds (length k.text) k.at c in
    let sp : span w c ≡ span_of b = ap (λ z. suc z.to - z.from) (where_kept w k h c p.0) ∙ span_same w.pattern b in
    let gs = given_same c.deed in
    let ls = ap length (sym s) in
    let q = p.0 in
    λ i. pick (q i && not (goes_through c.deed)) (leb r (256 + 256 * (sp i + gs i + ls i))) true
spends_alike w k (all_lines a like p c) r h e t rows s = refl

-- ROOM
pub room-kept : (records : ℕ) (k k₁ : Kept) → kept_weight k ≤ 32 * records → no_room records k k₁ ≡ false → kept_weight k₁ ≤ 32 * records
room-kept records k k₁ h e =
    elim (and_cases (ltb (kept_weight k) (kept_weight k₁)) (ltb (32 * records) (kept_weight k₁)) e) [
      | inl t ↦ (let q = ltb-false (kept_weight k) (kept_weight k₁) t in omega arith)
      | inr t ↦ ltb-false (32 * records) (kept_weight k₁) t
    ]

-- a turn that leaves another weight was done
pub done-turn : (w : Plain) (c : Command) → weight w < weight (turn w c).next → (turn w c).reply ≡ 0
unfolding AllOrNone
done-turn w c h =
    elim (cases_lt 0 (turn w c).reply) [
      | inl l ↦ (let e : weight (turn w c).next ≡ weight w = ap weight (all_or_none w c l) in absurd (omega arith))
      | inr l ↦ omega arith
    ]

module _ (records : ℕ) (w : Plain) (k : Kept) (c : Command) (r : ℕ) (h : Held w k) (t : SameTurn (turn w c) (kept_turn k c)) (room : kept_weight k ≤ 32 * records) where
  full : no_room records k (kept_turn k c).next ≡ true → Allowed records w c (kept_no 8 k) r
  unfolding TurnMay WeighsAlike
  full e =
      let p = and_parts (ltb (kept_weight k) (kept_weight (kept_turn k c).next)) (ltb (32 * records) (kept_weight (kept_turn k c).next)) e in
      let a : weight w ≡ kept_weight k = weighs_alike w k h in
      let b : weight (turn w c).next ≡ kept_weight (kept_turn k c).next = weighs_alike (turn w c).next (kept_turn k c).next t.next in
      let x = ltb-true (kept_weight k) (kept_weight (kept_turn k c).next) p.0 in
      let y = ltb-true (32 * records) (kept_weight (kept_turn k c).next) p.1 in
      let grows : weight w < weight (turn w c).next = omega arith in
      let passes : 32 * records < weight (turn w c).next = omega arith in
      record { next = w; allowed = inr (refl, refl, refl, done-turn w c grows, grows, passes); held = h; room = room }

  fits : no_room records k (kept_turn k c).next ≡ false → may_use w c (turn w c) r ≡ true → Allowed records w c (kept_turn k c) r
  unfolding TurnMay
  fits e u = record { next = (turn w c).next; allowed = inl (t.reply, t.shows, refl, u); held = t.next; room = room-kept records k (kept_turn k c).next room e }

  either : (b : Bool) → no_room records k (kept_turn k c).next ≡ b → may_use w c (turn w c) r ≡ true → Allowed records w c (pick b (kept_no 8 k) (kept_turn k c)) r
  either true e u = full e
  either false e u = fits e u

pub turns_allowed : TurnsAllowed
unfolding TurnsAllowed TurnsAlike
turns_allowed records w k c r h e g room spend =
    let t = turns_alike w k c h e g in
    either records w k c r h t room (no_room records k (kept_turn k c).next) refl (spends_alike w k c r h e (turn w c) (kept_turn k c).shows t.shows ∙ spend)
