-- Power comes, and the tape that counts is replayed. Assumes nothing.
use Rattle.std.proofs.Common.{◌≡◌, ℕ, zero, suc, ◌<◌, ◌≤◌, Bool, true, false, eqb, List, [], length, refl, ap, ◌∙◌, subst, mod-eq_of_lt, arith}
use lib.ListN.{length-replicate}
use Rattle.plain.specs.Pattern.{pick}
use Rattle.plain.specs.Device.{Page, lesser}
use Rattle.plain.specs.Run.{read, fasten}
use Rattle.journal.specs.Log.{Position, hole, Rec, head, line, copy, commit, broken, State, state, Which, neither, only, choose, head_of, next_generation, after}
use Rattle.journal.specs.Small.{Small, small, Also, nothing_else, push, slot, News, updated}
use Rattle.journal.specs.Machine.{did}
use Rattle.records.specs.Pages as pages
use Rattle.records.specs.Pages.{beside}
use Rattle.records.specs.Checked.{checked_record_of}
use Rattle.records.proofs.Read.{commit-words, commit_beside}
use Rattle.engine.specs.State as engine
use Rattle.engine.specs.Fits.{Fits, PositionFits}
use Rattle.engine.specs.Machine as machine
use Rattle.engine.specs.Machine.{no_limit}
use Rattle.memory.specs.declared.registers.Registers.{Registers}
use Rattle.memory.specs.Registers.{TameKept}
use Rattle.memory.specs.Sections as sections
use Rattle.memory.specs.Abstract.{house_of, store_of, dir_of, pending_of, ring_of, files_at, text_of, name_of}
use Rattle.memory.proofs.Keeping as keeping
use Rattle.memory.proofs.Positions.{entry_set, beside_entry, cleared_means, beside_cleared}
use Rattle.memory.proofs.Steadiness.{kept_same}
use Rattle.memory.proofs.Steadiness as steadiness
use Rattle.commits.specs.Bounds.{Bounded}
use Rattle.records.specs.Checked.{cut_also, cut_news}
use Rattle.commits.specs.News.{kept_by, clamped}
use Rattle.commits.specs.Setters.{with_pending, with_used, with_kept, with_tapes}
use Rattle.recovery.specs.Wake.{wake, woke_first, wake_by, woke_second, here, kept_with, memory_with, next_record, replay_by, replay_record, fresh_first, fresh_next}
use Rattle.refinement.proofs.Same.{Safe, Same, rebuilt}
use Rattle.refinement.proofs.Clamp.{Lesser, first, second, lesser_is}
use Rattle.refinement.proofs.Commit.{SlotWord, commit_means, tame_kept_by}
use Rattle.refinement.proofs.Putting.{Noted, pending-noted, apart}
use Rattle.refinement.proofs.Carrying.{bounded_with, begin_safe, begin_same}

-- POWER
pub wake_safe : (room : ℕ) (m : List ℕ) → Safe m (wake room m)
unfolding wake
wake_safe room m = record {
  bounded = record {
    active = omega arith;
    kept = record { entries = omega arith; pending = omega arith; count = omega arith; current = omega arith; weight = omega arith; ring = omega arith; files = omega arith };
    name = omega arith;
    text = omega arith;
    bytes = omega arith;
    at = omega arith;
  };
  kept = kept_same m;
}

pub wake_same : (room : ℕ) (m : List ℕ) → Same (wake room m) (did (engine.at_phase engine.wake_first (engine.starting room)) (read 0 0))
unfolding wake house_of dir_of pending_of ring_of files_at text_of name_of
wake_same room m = record { act = refl; state = refl }

-- WHICH TAPE COUNTS
abbrev Side : Which → Type 0
Side neither = Unit {0}
Side (only t) = t < 2

pick-side : (b : Bool) (v w : Which) → Side v → Side w → Side (pick b v w)
pick-side true v w g h = g
pick-side false v w g h = h

chosen_side : (g k : ℕ) → Side (choose g k)
unfolding choose
chosen_side zero zero = tt
chosen_side zero (suc k) = omega arith
chosen_side (suc g) zero = omega arith
chosen_side (suc g) (suc k) = pick-side (eqb (suc k) (next_generation (suc g))) (only 0) (only 1) (omega arith) (omega arith)

module _ (r : Registers) (m : List ℕ) (h : length m ≡ 262144) where
  pub first_safe : (p : Page) → Bounded r → Safe m (woke_first p r m)
  unfolding woke_first
  first_safe p b = record { bounded = bounded_with r _ _ r.carrying b b.active; kept = kept_same m }

  pub first_same : (p : Page) → Same (woke_first p r m) (did (engine.at_phase engine.wake_second (engine.with_tapes (machine.with_generation (head_of (checked_record_of p)) (house_of r m).tapes) (house_of r m))) (read 1 0))
  unfolding woke_first house_of
  first_same p = record { act = refl; state = refl }

  by_safe : (w : Which) (k : ℕ) → Side w → Bounded r → Safe m (wake_by w k r m)
  by_safe neither k s b = record { bounded = bounded_with r _ r.tapes r.carrying b b.active; kept = kept_same m }
  by_safe (only t) k s b = record { bounded = bounded_with r _ _ r.carrying b s; kept = kept_same m }

  by_same : (w : Which) (k : ℕ) → Same (wake_by w k r m) (machine.wake_by w (house_of r m).tapes.generation k (house_of r m))
  unfolding house_of
  by_same neither k = record { act = refl; state = refl }
  by_same (only t) k = record { act = refl; state = refl }

  pub second_safe : (p : Page) → Bounded r → Safe m (woke_second p r m)
  unfolding woke_second
  second_safe p b = by_safe (choose r.tapes.generation (head_of (checked_record_of p))) (head_of (checked_record_of p)) (chosen_side r.tapes.generation (head_of (checked_record_of p))) b

  pub second_same : (p : Page) → Same (woke_second p r m) (machine.wake_by (choose (house_of r m).tapes.generation (head_of (checked_record_of p))) (house_of r m).tapes.generation (head_of (checked_record_of p)) (house_of r m))
  unfolding woke_second house_of
  second_same p = by_same (choose r.tapes.generation (head_of (checked_record_of p))) (head_of (checked_record_of p))

-- A COMMIT THAT WAS READ has numbers of 32 bits
also-read : (a : Also) → pages.AlsoFits a → cut_also a ≡ a
also-read nothing_else f = refl
also-read (push n) f = ap push (mod-eq_of_lt f)
also-read (slot i e) f = λ j. slot (mod-eq_of_lt f.0 j) (record { name = e.name; lines = mod-eq_of_lt f.1 j; size = mod-eq_of_lt f.2 j })

news-read : (u : News) → pages.NewsFits u → cut_news u ≡ u
news-read u f = λ i. record { count = mod-eq_of_lt f.count i; current = mod-eq_of_lt f.current i; weight = mod-eq_of_lt f.weight i; also = also-read u.also f.also i }

slot_read : (a : Also) → pages.AlsoFits a → SlotWord a
slot_read nothing_else f = tt
slot_read (push n) f = tt
slot_read (slot i e) f = f.0

-- REPLAY
module _ (r : Registers) (m : List ℕ) (h : length m ≡ 262144) (p : Page) where
  entries_few : (n : ℕ) → lesser n 524289 ≤ 524289
  entries_few n = go (lesser_is n 524289)
    where
      go : {l : ℕ} → Lesser n 524289 l → l ≤ 524289
      go (first g) = omega arith
      go (second g) = omega arith

  pending_few : (n : ℕ) → lesser (suc n) 65536 ≤ 65536
  pending_few n = go (lesser_is (suc n) 65536)
    where
      go : {l : ℕ} → Lesser (suc n) 65536 l → l ≤ 65536
      go (first g) = omega arith
      go (second g) = omega arith

  kept-bounded : (c : Rec News) → checked_record_of p ≡ c → Bounded r → TameKept (kept_with c r.kept)
  kept-bounded (head g n) e b = record { entries = entries_few n; pending = omega arith; count = b.kept.count; current = b.kept.current; weight = b.kept.weight; ring = b.kept.ring; files = b.kept.files }
  kept-bounded (line zero q) e b = record { entries = b.kept.entries; pending = pending_few r.kept.pending; count = b.kept.count; current = b.kept.current; weight = b.kept.weight; ring = b.kept.ring; files = b.kept.files }
  kept-bounded (line (suc j) q) e b = b.kept
  kept-bounded (copy i j q) e b = b.kept
  kept-bounded (commit c u) e b = subst (λ v. TameKept (kept_by r.kept c v)) (news-read u (commit-words p c u e).news) (tame_kept_by r.kept c u b.kept)
  kept-bounded broken e b = b.kept

  memory_kept : (c : Rec News) → steadiness.Kept m (memory_with c r m)
  memory_kept (head g n) = keeping.kept-cleared m h
  memory_kept (line zero q) = keeping.kept-pending r.kept.pending (here r) m h
  memory_kept (line (suc j) q) = kept_same m
  memory_kept (copy i zero q) = keeping.kept_entry i (here r) m h
  memory_kept (copy i (suc j) q) = kept_same m
  memory_kept (commit c u) = keeping.kept-applied r.kept (clamped r.kept.entries c) u m h
  memory_kept broken = kept_same m

  next_safe : (c : Rec News) → checked_record_of p ≡ c → Bounded r → Safe m (next_record c r m)
  next_safe c e b = record { bounded = record { active = b.active; kept = kept-bounded c e b; name = b.name; text = b.text; bytes = b.bytes; at = b.at }; kept = memory_kept c }

  broken_safe : Bounded r → Safe m (replay_by broken r m)
  broken_safe b = begin_safe (with_kept (with_pending 0 r.kept) r) m h no_limit true (record {
    active = b.active;
    kept = record { entries = b.kept.entries; pending = omega arith; count = b.kept.count; current = b.kept.current; weight = b.kept.weight; ring = b.kept.ring; files = b.kept.files };
    name = b.name;
    text = b.text;
    bytes = b.bytes;
    at = b.at;
  })

  safe_by : (c : Rec News) → checked_record_of p ≡ c → Bounded r → Safe m (replay_by c r m)
  safe_by (head g n) e b = next_safe (head g n) e b
  safe_by (line j q) e b = next_safe (line j q) e b
  safe_by (copy i j q) e b = next_safe (copy i j q) e b
  safe_by (commit c u) e b = next_safe (commit c u) e b
  safe_by broken e b = broken_safe b

  pub replay_safe : Bounded r → Safe m (replay_record p r m)
  unfolding replay_record
  replay_safe b = safe_by (checked_record_of p) refl b

  -- the store then
  abbrev then : Rec News → State Small
  then c = after updated r.tapes.active r.tapes.used (store_of r.kept m) c

  abbrev next_state : Rec News → engine.House
  next_state c = engine.with_store (then c) (engine.with_tapes (engine.with_used (suc r.tapes.used) (house_of r m).tapes) (house_of r m))

  here-fits : (c : Rec News) → Fits (next_state c) → PositionFits (record { tape = r.tapes.active; at = r.tapes.used })
  unfolding house_of
  here-fits c f = let u = f.tapes.used in record { tape = f.tapes.active; at = omega arith }

  noted : (c : Rec News) → checked_record_of p ≡ c → Bounded r → Fits (next_state c) → Noted r.kept (kept_with c r.kept) m (memory_with c r m) (then c)
  unfolding pending_of
  noted (head g n) e b f =
      let l = f.store.dir_few in
      let k = length-replicate {A = Position} n hole in
      let q = beside_cleared m h in
      let z : lesser n 524289 ≡ n = go (lesser_is n 524289) (omega arith) in
      record {
        store = λ i. state ((ap (λ j. dir_of j (sections.cleared m)) z ∙ cleared_means n m h (omega arith)) i) []
            (small r.kept.count r.kept.current r.kept.weight (q.ring r.kept.ring i) (q.files r.kept.files i));
        text = q.text;
        name = q.name;
      }
    where
      go : {l : ℕ} → Lesser n 524289 l → n ≤ 524288 → l ≡ n
      go (first a) c = refl
      go (second a) c = omega arith
  noted (line zero q) e b f = pending-noted r.kept m h b.kept.pending (here r) f.store.pending_few f.store.pending
  noted (line (suc j) q) e b f = record { store = refl; text = λ n. refl; name = λ n. refl }
  noted (copy i zero q) e b f =
      let s = beside_entry i (here r) m h in
      record {
        store = λ j. state (entry_set r.kept.entries i (here r) m h (here-fits (copy i zero q) f) j) (s.pending r.kept.pending j)
            (small r.kept.count r.kept.current r.kept.weight (s.ring r.kept.ring j) (s.files r.kept.files j));
        text = s.text;
        name = s.name;
      }
  noted (copy i (suc j) q) e b f = record { store = refl; text = λ n. refl; name = λ n. refl }
  noted (commit c u) e b f =
      let a = commit_means r.tapes.active r.tapes.used r.kept c u m h b.kept (apart c.from c.gone c.source (commit_beside p c u e)) (slot_read u.also (commit-words p c u e).news.also) f.store in
      record { store = a.store; text = a.text; name = a.name }
  noted broken e b f = record { store = refl; text = λ n. refl; name = λ n. refl }

  next_same : (c : Rec News) → checked_record_of p ≡ c → Bounded r → Fits (next_state c) → Same (next_record c r m) (did (next_state c) (read r.tapes.active (suc r.tapes.used)))
  unfolding house_of
  next_same c e b f =
      let n = noted c e b f in
      record { act = refl; state = rebuilt (with_kept (kept_with c r.kept) (with_tapes (with_used (suc r.tapes.used) r.tapes) r)) m (memory_with c r m) n.text n.name refl n.store }

  broken_same : Fits (machine.replay_record broken (house_of r m)).state → Same (replay_by broken r m) (machine.replay_record broken (house_of r m))
  unfolding house_of pending_of
  broken_same f = begin_same (with_kept (with_pending 0 r.kept) r) m h no_limit true

  same_by_record : (c : Rec News) → checked_record_of p ≡ c → Bounded r → Fits (machine.replay_record c (house_of r m)).state → Same (replay_by c r m) (machine.replay_record c (house_of r m))
  unfolding house_of
  same_by_record (head g n) e b f = next_same (head g n) e b f
  same_by_record (line j q) e b f = next_same (line j q) e b f
  same_by_record (copy i j q) e b f = next_same (copy i j q) e b f
  same_by_record (commit c u) e b f = next_same (commit c u) e b f
  same_by_record broken e b f = broken_same f

  pub replay_same : Bounded r → Fits (machine.replay_record (checked_record_of p) (house_of r m)).state → Same (replay_record p r m) (machine.replay_record (checked_record_of p) (house_of r m))
  unfolding replay_record
  replay_same b f = same_by_record (checked_record_of p) refl b f

-- NO TAPE COUNTS
module _ (r : Registers) (m : List ℕ) where
  pub fresh_safe : Bounded r → Safe m (fresh_first r m)
  unfolding fresh_first
  fresh_safe b = record {
    bounded = record {
      active = omega arith;
      kept = record { entries = omega arith; pending = omega arith; count = omega arith; current = omega arith; weight = omega arith; ring = omega arith; files = omega arith };
      name = b.name;
      text = b.text;
      bytes = b.bytes;
      at = b.at;
    };
    kept = kept_same m;
  }

  pub fresh_same : Same (fresh_first r m) (machine.fresh_first (house_of r m))
  unfolding fresh_first house_of dir_of pending_of ring_of files_at
  fresh_same = record { act = refl; state = refl }

  pub fresh_next_safe : Bounded r → Safe m (fresh_next r m)
  unfolding fresh_next
  fresh_next_safe b = record { bounded = bounded_with r _ r.tapes r.carrying b b.active; kept = kept_same m }

  pub fresh_next_same : Same (fresh_next r m) (did (engine.at_phase engine.fresh_fast (house_of r m)) (fasten 0))
  unfolding fresh_next house_of
  fresh_next_same = record { act = refl; state = refl }
