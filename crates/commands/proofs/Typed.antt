-- Whatever is typed is answered as is allowed beside the plain house. Assumes nothing.
use Rattle.std.proofs.Common.{◌≡◌, ℕ, ◌*◌, ◌≤◌, Bool, true, false, ltb, List, [], ◌∷◌, length, sym, refl, ap, ◌∙◌, subst, inl, inr, arith}
use Rattle.std.proofs.lemmas.Bool.{le-ltb, and_left}
use Rattle.plain.specs.Command.{Command, plain, all_lines, reads}
use Rattle.plain.specs.House.{Plain, core}
use Rattle.plain.specs.Promise.{May}
use Rattle.commands.specs.Kept.{Kept, kept_weight}
use Rattle.commands.specs.Plan.{decide}
use Rattle.commands.specs.Turn.{kept_no, kept_turn, within_room, room_turn}
use Rattle.commands.specs.Held.{Held, may_spend, may_spend_on, TurnsAllowed, ReadsWell, typed_turn, MayBe, TypedAllowed}
use Rattle.commands.proofs.Granted.{turns_allowed}
use Rattle.commands.proofs.Readings.{reads_well, reads_one}

-- what isn't known is refused
pub unknown_turn : (k : Kept) (c : Command) → core c ≡ false → kept_turn k c ≡ kept_no 2 k
unfolding kept_turn decide core
unknown_turn k (plain c) e = rw e
unknown_turn k (all_lines r like p c) e = refl

-- and what is refused needs no room
pub no_turn : (records n : ℕ) (k : Kept) → within_room records k (kept_no n k) ≡ kept_no n k
no_turn records n k = rw (and_left (ltb (kept_weight k) (kept_weight k)) (ltb (32 * records) (kept_weight k)) (le-ltb (kept_weight k) (kept_weight k) (omega arith)))

module _ (records : ℕ) (w : Plain) (k : Kept) (bs : List ℕ) (r : ℕ) (h : Held w k) (room : kept_weight k ≤ 32 * records) where
  one : (c : Command) (t : Bool) → reads bs ≡ c ∷ [] → core c ≡ t → may_spend k c (kept_turn k c).shows r ≡ true → MayBe records w bs (room_turn records k c) r
  unfolding May TurnsAllowed ReadsWell
  one c true e f s =
      let a = turns_allowed records w k c r h f (reads_well bs c e) room s in
      record { next = a.next; may = inl (c, e, f, a.allowed); held = a.held; room = a.room }
  one c false e f s =
      subst (λ u. MayBe records w bs u r) (sym (ap (within_room records k) (unknown_turn k c f) ∙ no_turn records 2 k))
      (record { next = w; may = inr (inl (c, e, f, refl, refl, refl)); held = h; room = room })

  all : (cs : List Command) → reads bs ≡ cs → length cs ≤ 1 → may_spend_on k cs r ≡ true → MayBe records w bs (typed_turn records k cs) r
  unfolding May
  all [] e l s = record { next = w; may = inr (inr (e, refl, refl, refl)); held = h; room = room }
  all (c ∷ []) e l s = one c (core c) e refl s
  all (c ∷ b ∷ cs) e l s = absurd (omega arith)

pub typed-allowed : TypedAllowed
unfolding TypedAllowed
typed-allowed records w k bs r h room s = all records w k bs r h room (reads bs) refl (reads_one bs) s
