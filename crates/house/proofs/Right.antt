-- The machine is right: it keeps its memory, and refuses what it is to refuse. Assumes nothing.
use Rattle.std.proofs.Common.{◌≡◌, ℕ, zero, suc, ◌<◌, ◌≤◌, Bool, true, false, ◌&&◌, eqb, ltb, ◌⊎◌, List, [], ◌∷◌, ◌++◌, length, drop, replicate, sym, refl, ap, ◌∙◌, subst, inl, inr, arith}
use lib.ListN.{length-replicate}
use Rattle.plain.specs.Pattern.{pick, every, none_of, Got, none, got}
use Rattle.plain.specs.Command.{Command, command, whole_command, reads}
use Rattle.plain.specs.House.{Plain}
use Rattle.plain.specs.Device.{Device}
use Rattle.plain.specs.Run.{all_small, refusal_end, Steady}
use Rattle.plain.specs.Promise.{May, Whole, first_plain}
use Rattle.journal.proofs.Running.{Anywhere}
use Rattle.journal.proofs.Machine.{is_going, is_over, SoundMachine}
use Rattle.journal.proofs.Coding.{Coding, laid-long, laid_is}
use Rattle.journal.proofs.Whole.{coded-whole}
use Rattle.memory.specs.declared.registers.Registers.{Registers}
use Rattle.memory.specs.Registers.{Tame, loaded, numbers, stored}
use Rattle.memory.proofs.Storing.{load_store, tame_loaded}
use Rattle.memory.proofs.Steadiness.{small-append, small-take, small-drop, small-numbers}
use Rattle.house.specs.Machine.{nothing, refused_by, woken, answers, machine, store, zeros}
use Rattle.house.specs.Entry.{own}

-- LOADING AND STORING
pub zeros-long : length zeros ≡ 262144
unfolding zeros
zeros-long = length-replicate {A = ℕ} 262144 0

pub stored_is : (r : Registers) (m : List ℕ) → 48 ≤ length m → store r m ≡ stored r m
unfolding stored
stored_is r m h = laid_is (numbers r) m h

coding : Coding machine loaded store zeros
unfolding machine zeros
coding = record {
  begins = refl;
  stored = λ m r ev long tame. ap loaded (stored_is r m (omega (arith, long, zeros-long))) ∙ load_store r m tame;
  as_long = λ m r. laid-long (numbers r) m;
}

-- STEADY
store-small : (r : Registers) (m : List ℕ) → all_small m ≡ true → all_small (store r m) ≡ true
store-small r m h = small-take (length m) (numbers r ++ drop 48 m) (small-append (numbers r) (drop 48 m) (small-numbers r) (small-drop 48 m h))

all_zero : (n : ℕ) → every (λ x. eqb x 0) (replicate n 0) ≡ true
all_zero zero = refl
all_zero (suc n) = all_zero n

pub own_steady : Steady own
unfolding Steady own zeros
own_steady = (
  omega (arith, zeros-long),
  all_zero 262144,
  λ m ev. (laid-long (numbers (machine.step (loaded m) ev).state) m, store-small (machine.step (loaded m) ev).state m),
)

-- RUNNING
one_command : (g : Got ℕ Command) → (whole_command g ≡ []) ⊎ ((c : Command) × (whole_command g ≡ c ∷ []))
unfolding whole_command
one_command none = inl refl
one_command (got c []) = inr (c, refl)
one_command (got c (b ∷ bs)) = inl refl

reads_one : (t : List ℕ) → (reads t ≡ []) ⊎ ((c : Command) × (reads t ≡ c ∷ []))
reads_one t = go (ltb (length t) 65536 && every (λ b. ltb b 256) t)
  where
    go : (b : Bool) → (pick b (whole_command (command t)) [] ≡ []) ⊎ ((c : Command) × (pick b (whole_command (command t)) [] ≡ c ∷ []))
    go true = one_command (command t)
    go false = inl refl

pub record OffNow (R : ℕ) (d : Device) (w : Plain) : Type 0 where
  pub room : d.room ≡ R
  pub same : w ≡ first_plain

pub record IdleNow (R : ℕ) (r : Registers) (d : Device) (w : Plain) : Type 0 where
  pub off : OffNow R d w
  pub tame : Tame r

may_refuse : (R : ℕ) (w : Plain) (t : List ℕ) → May nothing R w t [] 0 (refused_by t) w
unfolding May
may_refuse R w t = elim (reads_one t) [
  | inl e ↦ inr (inr (e, rw e refl, refl, refl))
  | inr c ↦ inr (inl (c.0, c.1, refl, rw c.1 refl, refl, refl))
]

anywhere : (R n : ℕ) (d : Device) (w : Plain) (t : List ℕ) → OffNow R d w → Anywhere (May nothing R) (λ d₁ w₁. OffNow R d₁ w₁) w t d []
anywhere R n d w t h cs = record { now = w; more = []; used = 0; reply = refused_by t; then = w; allowed = may_refuse R w t; kept = inl refl; holds = record { room = h.room; same = h.same } }

tame_woken : (R : ℕ) (r : Registers) → R < 4294967296 → Tame r → Tame (woken R r)
tame_woken R r h t = record {
  tapes = record { room = h; active = t.tapes.active; generation = t.tapes.generation; used = t.tapes.used; other = t.tapes.other; cursor = t.tapes.cursor };
  kept = t.kept;
  job = t.job;
  walking = t.walking;
  putting = t.putting;
  carrying = t.carrying;
}

sound : (R : ℕ) → 1024 ≤ R → R ≤ 1048576 → SoundMachine (May nothing R) machine (λ n d w. OffNow R d w) (λ n r d w. IdleNow R r d w)
unfolding machine answers
sound R low high = record {
  rests = λ n r d w h cs. record { room = h.off.room; same = h.off.same };
  wakes = λ n d w h.
      is_going (tame_loaded zeros) (record { silent = refl; holds = λ cs. record { room = h.room; same = h.same } })
      (is_over (record { well = refl; silent = refl; holds = record { off = h; tame = let e = h.room in tame_woken _ _ (omega arith) (tame_loaded zeros) } }));
  obeys = λ n r d w h t.
      is_going h.tame (anywhere R n d w t h.off)
      (is_over (record { now = w; allowed = subst (λ k. May nothing R w t [] 0 k w) (sym (ends_so t)) (may_refuse R w t); holds = h }));
}
  where
    by : (b : Bool) → refusal_end (pick b 1 2) ≡ pick b 1 2
    by true = refl
    by false = refl

    ends_so : (t : List ℕ) → refusal_end (refused_by t) ≡ refused_by t
    ends_so t = by (none_of (reads t))

pub own_right : Whole nothing own
unfolding own
own_right =
    coded-whole nothing (λ R n d w. OffNow R d w) machine loaded store zeros (λ R n r d w. IdleNow R r d w) own_steady coding sound
    (λ R n low high few. record { room = refl; same = refl })
