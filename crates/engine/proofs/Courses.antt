-- The course of whatever is typed, where this is kept. Assumes nothing.
use Rattle.std.proofs.Common.{◌≡◌, ℕ, ◌*◌, ◌<◌, ◌≤◌, Bool, true, false, not, ltb, leb, List, [], ◌∷◌, length, sym, refl, ap, ◌∙◌, subst, inl, inr, arith}
use Rattle.std.proofs.lemmas.Bool.{le-leb, and_parts, ltb-true}
use Rattle.plain.specs.Pattern.{pick}
use Rattle.plain.specs.Command.{Command, plain, all_lines, reads}
use Rattle.plain.specs.House.{Plain, turn, core, weight}
use Rattle.plain.specs.Promise.{May, TurnMay, goes_through}
use Rattle.commands.specs.Kept.{Kept, kept_weight}
use Rattle.commands.specs.Turn.{KeptTurn, kept_no, kept_turn, no_room, within_room, room_turn}
use Rattle.commands.specs.Held.{Held, TurnsAlike, WeighsAlike, ReadsWell, may_spend_on, grant, typed_turn}
use Rattle.commands.proofs.Granted.{spends_alike, done-turn, room-kept}
use Rattle.commands.proofs.Texts.{weighs_alike}
use Rattle.commands.proofs.Turned.{turns_alike}
use Rattle.commands.proofs.Readings.{reads_well, reads_one}
use Rattle.commands.proofs.Typed.{unknown_turn, no_turn}
use Rattle.engine.proofs.Course.{Course}

-- what is allowed, for whatever number of records that may be used
pub record Answers (R : ℕ) (w : Plain) (k : Kept) (t : List ℕ) (u : KeptTurn) : Type 0 where
  pub next : Plain
  pub held : Held next u.next
  pub light : kept_weight u.next ≤ 32 * R
  pub may : (r : ℕ) → may_spend_on k (reads t) r ≡ true → May core R w t u.shows r u.reply next

module _ (R : ℕ) (w : Plain) (k : Kept) (t : List ℕ) (h : Held w k) (l : kept_weight k ≤ 32 * R) where
  known-fits : (c : Command) → reads t ≡ c ∷ [] → core c ≡ true → no_room R k (kept_turn k c).next ≡ false → Answers R w k t (kept_turn k c)
  unfolding May TurnMay TurnsAlike ReadsWell
  known-fits c e f z =
      let s = turns_alike w k c h f (reads_well t c e) in
      record {
        next = (turn w c).next;
        held = s.next;
        light = room-kept R k (kept_turn k c).next l z;
        may = λ r m. inl (c, e, f, inl (s.reply, s.shows, refl, spends_alike w k c r h f (turn w c) (kept_turn k c).shows s.shows ∙ sym (ap (λ cs. may_spend_on k cs r) e) ∙ m));
      }

  -- for want of room; no record may have to be used for that
  known_full : (c : Command) → reads t ≡ c ∷ [] → core c ≡ true → no_room R k (kept_turn k c).next ≡ true → Answers R w k t (kept_no 8 k)
  unfolding May TurnMay TurnsAlike ReadsWell WeighsAlike
  known_full c e f z =
      let s = turns_alike w k c h f (reads_well t c e) in
      let p = and_parts (ltb (kept_weight k) (kept_weight (kept_turn k c).next)) (ltb (32 * R) (kept_weight (kept_turn k c).next)) z in
      let a : weight w ≡ kept_weight k = weighs_alike w k h in
      let b : weight (turn w c).next ≡ kept_weight (kept_turn k c).next = weighs_alike (turn w c).next (kept_turn k c).next s.next in
      let x = ltb-true (kept_weight k) (kept_weight (kept_turn k c).next) p.0 in
      let y = ltb-true (32 * R) (kept_weight (kept_turn k c).next) p.1 in
      let grows : weight w < weight (turn w c).next = omega arith in
      let passes : 32 * R < weight (turn w c).next = omega arith in
      record { next = w; held = h; light = l; may = λ r m. inl (c, e, f, inr (refl, refl, refl, done-turn w c grows, grows, passes)) }

  known : (c : Command) (b : Bool) → reads t ≡ c ∷ [] → core c ≡ true → no_room R k (kept_turn k c).next ≡ b → Answers R w k t (pick b (kept_no 8 k) (kept_turn k c))
  known c true e f z = known_full c e f z
  known c false e f z = known-fits c e f z

  one : (c : Command) (b : Bool) → reads t ≡ c ∷ [] → core c ≡ b → Answers R w k t (room_turn R k c)
  unfolding May
  one c true e f = known c (no_room R k (kept_turn k c).next) e f refl
  one c false e f =
      subst (Answers R w k t) (sym (ap (within_room R k) (unknown_turn k c f) ∙ no_turn R 2 k))
      (record { next = w; held = h; light = l; may = λ r m. inr (inl (c, e, f, refl, refl, refl)) })

  all : (cs : List Command) → reads t ≡ cs → length cs ≤ 1 → Answers R w k t (typed_turn R k cs)
  unfolding May
  all [] e n = record { next = w; held = h; light = l; may = λ r m. inr (inr (e, refl, refl, refl)) }
  all (c ∷ []) e n = one c (core c) e refl
  all (c ∷ b ∷ cs) e n = absurd (omega arith)

-- more than is ever used where nothing is said of it
abbrev pub unlimited : ℕ
unlimited = 1099511627776

abbrev pub grant-on : Kept → List Command → ℕ
grant-on k [] = unlimited
grant-on k (plain c ∷ cs) = pick (not (goes_through c.deed)) (grant k c (kept_turn k (plain c)).shows) unlimited
grant-on k (all_lines r like p c ∷ cs) = unlimited

within : (b : Bool) (r a z : ℕ) → r ≤ pick b a z → pick b (leb r a) true ≡ true
within true r a z h = le-leb r a h
within false r a z h = refl

pub may-within : (k : Kept) (cs : List Command) (r : ℕ) → r ≤ grant-on k cs → may_spend_on k cs r ≡ true
may-within k [] r h = refl
may-within k (plain c ∷ cs) r h = within (not (goes_through c.deed)) r (grant k c (kept_turn k (plain c)).shows) unlimited h
may-within k (all_lines a like p c ∷ cs) r h = refl

-- THE COURSE
module _ (R : ℕ) (w : Plain) (k : Kept) (t : List ℕ) (h : Held w k) (l : kept_weight k ≤ 32 * R) where
  abbrev pub turn-then : KeptTurn
  turn-then = typed_turn R k (reads t)

  pub answers : Answers R w k t turn-then
  answers = all R w k t h l (reads t) refl (reads_one t)

  abbrev pub course : Course R w t
  course = record {
    shown = turn-then.shows;
    reply = turn-then.reply;
    next = answers.next;
    kept = turn-then.next;
    held = answers.held;
    light = answers.light;
    grant = grant-on k (reads t);
    allowed = λ r s. answers.may r (may-within k (reads t) r s);
  }
