-- Putting on what a command brings. Assumes nothing.
use Rattle.std.proofs.Common.{◌≡◌, ℕ, zero, suc, ◌+◌, ◌-◌, ◌<◌, ◌≤◌, Bool, true, false, eqb, ltb, leb, ◌⊎◌, List, [], ◌∷◌, ◌++◌, length, drop, sym, refl, ap, ◌∙◌, subst, inl, inr, mod-eq_of_lt, arith, length-append, length-drop, length-take}
use Rattle.std.proofs.lemmas.List.{drop_all}
use Rattle.std.proofs.lemmas.Bool.{leb-true, ltb-true, and_parts, ne_eqb}
use Rattle.plain.specs.Pattern.{pick, or}
use Rattle.plain.specs.Device.{lesser}
use Rattle.plain.specs.Run.{put_on}
use Rattle.journal.specs.Log.{Position, Piece, Source, no_entries, new_entries, copied, Splice, State, state, after, line}
use Rattle.journal.specs.Small.{Small, small, News, updated}
use Rattle.records.specs.Pages.{page_of, source_beside}
use Rattle.commands.specs.Plan as plan
use Rattle.commands.specs.Plan.{same_as_before, current_only, the_text, the_file}
use Rattle.commands.specs.Smalls.{news_by}
use Rattle.journal.specs.Values.{splice_of}
use Rattle.engine.specs.State as engine
use Rattle.engine.specs.State.{House, house, walking_of, putting_of}
use Rattle.engine.specs.Fits.{Fits, StoreFits, UpdateFits, PositionsFit, more, PositionFits}
use Rattle.engine.specs.Packing.{records_of, piece_of}
use Rattle.engine.specs.Machine as machine
use Rattle.memory.specs.declared.phase.Phase.TheVariants.{LinePut, CommitPut}
use Rattle.memory.specs.declared.directory.Position as memory_position
use Rattle.memory.specs.declared.tapes.Tapes.{Tapes}
use Rattle.memory.specs.declared.kept.Kept.{Kept}
use Rattle.memory.specs.declared.registers.Registers.{Registers}
use Rattle.memory.specs.Abstract.{house_of, tapes_as, store_of, small_of, left_of, text_of, dir_of, pending_of}
use Rattle.memory.specs.Sections as sections
use Rattle.memory.proofs.Frames.{SameText, SameName}
use Rattle.memory.proofs.Keeping.{kept-applied, kept-pending}
use Rattle.memory.proofs.Positions.{position_as, pending-pushed, beside_pushed}
use Rattle.memory.proofs.Steadiness.{kept_same, kept_pick}
use Rattle.memory.proofs.Texting.{text-long}
use Rattle.memory.proofs.Worded.{line-ends, left_first, left_start}
use Rattle.commits.specs.Setters.{putting, with_putting, with_kept, with_tapes, with_cursor, with_other, with_used, in_phase, with_pending}
use Rattle.commits.specs.Bounds.{Bounded}
use Rattle.records.specs.Checked.{cut_news}
use Rattle.commits.specs.News.{clamped, kept_by, applied_by, news_in}
use Rattle.commits.specs.Putting.{target, target_used, target_longer, last_target, cursor_then, committed, put_commit, line_from, line_to, first_line, pending_then, target_position, noted_pending, put_piece, put_next, passing, start_pass, put_further, after_line, after_commit, after_fast}
use Rattle.refinement.proofs.Same.{Safe, Same, safe_pick, same_pick, same_at, pending-many, rebuilt}
use Rattle.refinement.proofs.Rows.{finish_safe, finish_same}
use Rattle.refinement.proofs.Clamp.{Lesser, first, second, lesser_is, Apart}
use Rattle.refinement.proofs.Commit.{SlotWord, news_cut, Applied, commit_means, tame_kept_by}

-- SIDES
pub tapes_pick : (b : Bool) (s t : Tapes) → tapes_as (pick b s t) ≡ pick b (tapes_as s) (tapes_as t)
tapes_pick true s t = refl
tapes_pick false s t = refl

cursor_pick : (b : Bool) (n : ℕ) (s t : engine.Tapes) → engine.with_cursor n (pick b s t) ≡ pick b (engine.with_cursor n s) (engine.with_cursor n t)
cursor_pick true n s t = refl
cursor_pick false n s t = refl

active_pick : (b : Bool) (s t : Tapes) (n : ℕ) → s.active < n → t.active < n → (pick b s t).active < n
active_pick true s t n g h = g
active_pick false s t n g h = h

-- THE COMMIT
slot_word : (q : plan.Update) (s : Small) (p : plan.Plan) (went came : ℕ) (n : List ℕ) → UpdateFits q → SlotWord (news_by q s p went came n).also
unfolding news_by
slot_word same_as_before s p went came n f = tt
slot_word current_only s p went came n f = tt
slot_word the_text s p went came n f = tt
slot_word (the_file i) s p went came n f = omega arith

or_true : (a b : Bool) → or a b ≡ true → (a ≡ true) ⊎ (b ≡ true)
or_true true b h = inl refl
or_true false b h = inr h

pub apart : (p q : ℕ) (s : Source) → source_beside p q s ≡ true → Apart p q s
apart p q no_entries h = tt
apart p q new_entries h = tt
apart p q (copied x y) h = elim (or_true (leb y p) (leb (p + q) x) (and_parts (leb x y) _ h).1) [ inl g ↦ inl (leb-true _ _ g) | inr g ↦ inr (leb-true _ _ g) ]

module _ (r : Registers) (m : List ℕ) (h : length m ≡ 262144) where
  pub commit_safe : Bounded r → Safe m (put_commit r m)
  unfolding put_commit
  commit_safe b = record {
    bounded = bounded (last_target r);
    kept = kept_pick (last_target r) m _ m (kept-applied r.kept (clamped r.kept.entries (splice_of r.job.plan.splice)) (news_in r m) m h) (kept_same m);
  }
    where
      active : (target_longer r).active < 2
      active = active_pick r.putting.second _ _ 2 b.active b.active

      bounded : (c : Bool) → Bounded (in_phase CommitPut (pick c (committed r m) (with_tapes (target_longer r) r)))
      bounded true = record { active = active; kept = tame_kept_by r.kept (splice_of r.job.plan.splice) (machine.news_of (house_of r m)) b.kept; name = b.name; text = b.text; bytes = b.bytes; at = b.at }
      bounded false = record { active = active; kept = b.kept; name = b.name; text = b.text; bytes = b.bytes; at = b.at }

  abbrev x : House
  x = house_of r m

  abbrev last_state : House
  last_state = engine.at_phase engine.commit_put (engine.with_store (machine.applied x) (engine.with_tapes (engine.with_cursor (machine.cursor_then x) (machine.target_longer x)) x))

  abbrev first_state : House
  first_state = engine.at_phase engine.commit_put (engine.with_tapes (machine.target_longer x) x)

  last_same : Bounded r → Fits last_state → house_of (in_phase CommitPut (committed r m)) (applied_by r.kept (splice_of r.job.plan.splice) (news_in r m) m) ≡ last_state
  unfolding house_of
  last_same b f =
      let c : Splice = splice_of r.job.plan.splice in
      let u : News = machine.news_of x in
      let fit = f.job.plan in
      let w : SlotWord u.also = slot_word x.job.plan.update x.store.small x.job.plan x.walking.went _ x.job.name fit.update in
      let cut : cut_news u ≡ u = news_cut u x.store.small f.store.small w in
      let a : Applied (target r) (target_used r) r.kept c u m = commit_means (target r) (target_used r) r.kept c u m h b.kept (apart c.from c.gone c.source fit.splice.beside) w f.store in
      let n = pending-many r.kept.pending m h b.kept.pending in
      ap (λ v. house_of (in_phase CommitPut (registers-by v)) (applied_by r.kept c v m)) cut
      ∙ rebuilt (in_phase CommitPut (registers-by u)) m (applied_by r.kept c u m) a.text a.name (cursors r.putting.second n) a.store
    where
      cursors : (s : Bool) → length (pending_of r.kept.pending m) ≡ r.kept.pending →
          tapes_as (with_cursor (cursor_then r) (pick s (with_other (suc r.tapes.other) r.tapes) (with_used (suc r.tapes.used) r.tapes)))
          ≡ engine.with_cursor (machine.cursor_after r.tapes.cursor r.job.plan.splice.from r.job.plan.splice.gone (length (pending_of r.kept.pending m)))
          (pick s (engine.with_other (suc r.tapes.other) (tapes_as r.tapes)) (engine.with_used (suc r.tapes.used) (tapes_as r.tapes)))
      cursors true e = ap (λ n. engine.with_cursor (machine.cursor_after r.tapes.cursor r.job.plan.splice.from r.job.plan.splice.gone n) (engine.with_other (suc r.tapes.other) (tapes_as r.tapes))) (sym e)
      cursors false e = ap (λ n. engine.with_cursor (machine.cursor_after r.tapes.cursor r.job.plan.splice.from r.job.plan.splice.gone n) (engine.with_used (suc r.tapes.used) (tapes_as r.tapes))) (sym e)

      registers-by : News → Registers
      registers-by v = with_kept (kept_by r.kept (splice_of r.job.plan.splice) v) (with_tapes (with_cursor (cursor_then r) (target_longer r)) r)

  pub commit_same : Bounded r → Fits (machine.put_commit (house_of r m)).state → Same (put_commit r m) (machine.put_commit (house_of r m))
  unfolding put_commit house_of
  commit_same b f = record { act = refl; state = go (last_target r) f }
    where
      go : (c : Bool) → Fits (engine.at_phase engine.commit_put (pick c (engine.with_store (machine.applied x) (engine.with_tapes (engine.with_cursor (machine.cursor_then x) (machine.target_longer x)) x)) (engine.with_tapes (machine.target_longer x) x))) →
          house_of (in_phase CommitPut (pick c (committed r m) (with_tapes (target_longer r) r))) (pick c (applied_by r.kept (splice_of r.job.plan.splice) (news_in r m) m) m)
          ≡ engine.at_phase engine.commit_put (pick c (engine.with_store (machine.applied x) (engine.with_tapes (engine.with_cursor (machine.cursor_then x) (machine.target_longer x)) x)) (engine.with_tapes (machine.target_longer x) x))
      go true g = last_same b g
      go false g = λ i. house engine.commit_put (tapes_pick r.putting.second (with_other (suc r.tapes.other) r.tapes) (with_used (suc r.tapes.used) r.tapes) i) x.store x.job x.walking x.putting x.carrying

-- A LINE
pub last_fits : (ps : List Position) (p : Position) → PositionsFit (ps ++ p ∷ []) → PositionFits p
last_fits [] p (more f g) = f
last_fits (q ∷ ps) p (more f g) = last_fits ps p g

-- one more pending line, as its first record is put on
pub record Noted (k k₁ : Kept) (m m₁ : List ℕ) (s : State Small) : Type 0 where
  pub store : store_of k₁ m₁ ≡ s
  pub text : SameText m m₁
  pub name : SameName m m₁

pub pending-noted : (k : Kept) (m : List ℕ) → length m ≡ 262144 → k.pending ≤ 65536 → (p : memory_position.Position) → length (pending_of k.pending m ++ position_as p ∷ []) ≤ 65536 →
    PositionsFit (pending_of k.pending m ++ position_as p ∷ []) →
    Noted k (with_pending (lesser (suc k.pending) 65536) k) m (sections.with_pending k.pending p m) (state (dir_of k.entries m) (pending_of k.pending m ++ position_as p ∷ []) (small_of k m))
pending-noted k m h few p long f =
    let n = pending-many k.pending m h few in
    let l = length-append (pending_of k.pending m) (position_as p ∷ []) in
    let b = beside_pushed k.pending p m h in
    let m₁ : List ℕ = sections.with_pending k.pending p m in
    let e : lesser (suc k.pending) 65536 ≡ k.pending + 1 = go (lesser_is (suc k.pending) 65536) (omega arith) in
    let q : pending_of (lesser (suc k.pending) 65536) m₁ ≡ pending_of k.pending m ++ position_as p ∷ [] =
    ap (λ j. pending_of j m₁) e ∙ pending-pushed k.pending p m h (omega arith) (last_fits (pending_of k.pending m) (position_as p) f) in
    record {
      store = λ i. state (b.dir k.entries i) (q i) (small k.count k.current k.weight (b.ring k.ring i) (b.files k.files i));
      text = b.text;
      name = b.name;
    }
  where
    go : {l : ℕ} → Lesser (suc k.pending) 65536 l → k.pending < 65536 → l ≡ k.pending + 1
    go (first g) j = omega arith
    go (second g) j = omega arith

module _ (r : Registers) (m : List ℕ) (h : length m ≡ 262144) where
  pending_few : (b : Bool) (n : ℕ) → n ≤ 65536 → pick b (lesser (suc n) 65536) n ≤ 65536
  pending_few true n g = go (lesser_is (suc n) 65536)
    where
      go : {l : ℕ} → Lesser (suc n) 65536 l → l ≤ 65536
      go (first i) = omega arith
      go (second i) = omega arith
  pending_few false n g = g

  pub piece_safe : Bounded r → Safe m (put_piece r m)
  unfolding put_piece
  piece_safe b = record {
    bounded = record {
      active = active_pick r.putting.second _ _ 2 b.active b.active;
      kept = record {
        entries = b.kept.entries;
        pending = pending_few (eqb r.putting.part 0) r.kept.pending b.kept.pending;
        count = b.kept.count;
        current = b.kept.current;
        weight = b.kept.weight;
        ring = b.kept.ring;
        files = b.kept.files;
      };
      name = b.name;
      text = b.text;
      bytes = b.bytes;
      at = b.at;
    };
    kept = kept_pick (eqb r.putting.part 0) m _ m (kept-pending r.kept.pending (target_position r) m h) (kept_same m);
  }

  part-noted : Bounded r → (j : ℕ) (b : Piece) → StoreFits (after updated (target r) (target_used r) (store_of r.kept m) (line j b)) →
      Noted r.kept (with_pending (pick (eqb j 0) (lesser (suc r.kept.pending) 65536) r.kept.pending) r.kept) m (pick (eqb j 0) (sections.with_pending r.kept.pending (target_position r) m) m)
      (after updated (target r) (target_used r) (store_of r.kept m) (line j b))
  part-noted bound zero b f = pending-noted r.kept m h bound.kept.pending (target_position r) f.pending_few f.pending
  part-noted bound (suc j) b f = rw (ne_eqb (suc j) 0 (λ e. omega arith)) (record { store = refl; text = λ n. refl; name = λ n. refl })

  pub piece_same : Bounded r → Fits (machine.put_piece (first_line r m) (house_of r m)).state → Same (put_piece r m) (machine.put_piece (first_line r m) (house_of r m))
  unfolding put_piece house_of
  piece_same b f =
      let few = f.putting.part in
      let n = part-noted b r.putting.part (piece_of (first_line r m) r.putting.part) f.store in
      record {
        act = ap (λ j. put_on (target r) (page_of (line j (piece_of (first_line r m) r.putting.part)))) (mod-eq_of_lt (let z : r.putting.part < 256 = omega arith in z));
        state = rebuilt (in_phase LinePut (with_kept (pending_then r) (with_tapes (target_longer r) r))) m (noted_pending r m) n.text n.name
            (tapes_pick r.putting.second (with_other (suc r.tapes.other) r.tapes) (with_used (suc r.tapes.used) r.tapes)) n.store;
      }

  pub next_safe : Bounded r → Safe m (put_next r m)
  unfolding put_next
  next_safe b = safe_pick r.putting.more (piece_safe b) (commit_safe r m h b)

  -- the first line that is left, and the others
  from_within : Bounded r → line_from r ≤ length (text_of r.job.text m)
  from_within b = let l = text-long r.job.text m h b.text in go (lesser_is r.putting.at r.job.text) l
    where
      go : {l : ℕ} → Lesser r.putting.at r.job.text l → length (text_of r.job.text m) ≡ r.job.text → l ≤ length (text_of r.job.text m)
      go (first g) e = omega arith
      go (second g) e = omega arith

  from_same : Bounded r → drop r.putting.at (text_of r.job.text m) ≡ drop (line_from r) (text_of r.job.text m)
  from_same b = let l = text-long r.job.text m h b.text in go (lesser_is r.putting.at r.job.text) l
    where
      go : {l : ℕ} → Lesser r.putting.at r.job.text l → length (text_of r.job.text m) ≡ r.job.text → drop r.putting.at (text_of r.job.text m) ≡ drop l (text_of r.job.text m)
      go (first g) e = refl
      go (second g) e = drop_all r.putting.at _ (omega arith) ∙ sym (drop_all r.job.text _ (omega arith))

  abbrev others : List (List ℕ)
  others = left_of (ltb (line_to r m) (length (text_of r.job.text m))) r.job.lines (drop (line_to r m + 1) (text_of r.job.text m))

  pub left_is : Bounded r → left_of true r.job.lines (drop r.putting.at (text_of r.job.text m)) ≡ first_line r m ∷ others
  left_is b = ap (left_of true r.job.lines) (from_same b) ∙ left_first r.job.lines (line_from r) (text_of r.job.text m) (from_within b)

  pub next_same : Bounded r → Fits (machine.put_next (house_of r m)).state → Same (put_next r m) (machine.put_next (house_of r m))
  unfolding put_next house_of
  next_same b f = go r.putting.more f
    where
      go : (c : Bool) → Fits (machine.put_first (left_of c r.job.lines (drop r.putting.at (text_of r.job.text m))) (house_of r m)).state →
          Same (pick c (put_piece r m) (put_commit r m)) (machine.put_first (left_of c r.job.lines (drop r.putting.at (text_of r.job.text m))) (house_of r m))
      go true g =
          subst (λ ls. Same (put_piece r m) (machine.put_first ls (house_of r m))) (sym (left_is b))
          (piece_same b (subst (λ ls. Fits (machine.put_first ls (house_of r m)).state) (left_is b) g))
      go false g = commit_same r m h b g

module _ (r : Registers) (m : List ℕ) (h : length m ≡ 262144) where
  pub pass_safe : (s : Bool) → Bounded r → Safe m (start_pass s r m)
  unfolding start_pass
  pass_safe s b = next_safe (passing s r) m h (record {
    active = b.active;
    kept = record { entries = b.kept.entries; pending = omega arith; count = b.kept.count; current = b.kept.current; weight = b.kept.weight; ring = b.kept.ring; files = b.kept.files };
    name = b.name;
    text = b.text;
    bytes = b.bytes;
    at = omega arith;
  })

  pub pass_same : (s : Bool) → Bounded r → Fits (machine.start_pass s (house_of r m)).state → Same (start_pass s r m) (machine.start_pass s (house_of r m))
  unfolding start_pass house_of pending_of
  pass_same s b f =
      same_at (put_next (passing s r) m) (house_of (passing s r) m) _ machine.put_next begins
      (next_same (passing s r) m h (pass-safe-bounds b)) f
    where
      begins : house_of (passing s r) m ≡ engine.with_putting (putting_of s (house_of r m).job.lines 0) (engine.with_store (engine.with_pending [] (house_of r m).store) (house_of r m))
      begins = ap (λ ls. engine.with_putting (putting_of s ls 0) (engine.with_store (engine.with_pending [] (house_of r m).store) (house_of r m))) (left_start r.job.lines (text_of r.job.text m))

      pass-safe-bounds : Bounded r → Bounded (passing s r)
      pass-safe-bounds b = record {
        active = b.active;
        kept = record { entries = b.kept.entries; pending = omega arith; count = b.kept.count; current = b.kept.current; weight = b.kept.weight; ring = b.kept.ring; files = b.kept.files };
        name = b.name;
        text = b.text;
        bytes = b.bytes;
        at = omega arith;
      }

  further_bounded : Bounded r → Bounded (with_putting (put_further r m) r)
  further_bounded b = record { active = b.active; kept = b.kept; name = b.name; text = b.text; bytes = b.bytes; at = go (ltb (suc r.putting.part) (records_of (line_to r m - line_from r))) }
    where
      at_most : (c : Bool) → ltb (line_to r m) r.job.text ≡ c → pick c (suc (line_to r m)) 0 ≤ 65536
      at_most true e = let l = ltb-true _ _ e in let t = b.text in omega arith
      at_most false e = omega arith

      go : (c : Bool) → (pick c (putting r.putting.second r.putting.more r.putting.at (suc r.putting.part))
          (putting r.putting.second (ltb (line_to r m) r.job.text) (pick (ltb (line_to r m) r.job.text) (suc (line_to r m)) 0) 0)).at ≤ 65536
      go true = b.at
      go false = at_most (ltb (line_to r m) r.job.text) refl

  pub line_safe : Bounded r → Safe m (after_line r m)
  unfolding after_line
  line_safe b = safe_pick r.putting.more (next_safe (with_putting (put_further r m) r) m h (further_bounded b)) (commit_safe r m h b)

  -- the lines that are left then
  further_is : Bounded r → r.putting.more ≡ true →
      house_of (with_putting (put_further r m) r) m
      ≡ engine.with_putting (pick (ltb (suc r.putting.part) (records_of (length (first_line r m)))) (putting_of r.putting.second (first_line r m ∷ others r m h) (suc r.putting.part))
      (putting_of r.putting.second (others r m h) 0)) (house_of r m)
  unfolding house_of
  further_is b e =
      let t : List ℕ = text_of r.job.text m in
      let l = text-long r.job.text m h b.text in
      let w = line-ends r.job.lines (line_from r) t (from_within r m h b) in
      let d = length-drop (line_from r) t in
      let in-it = w.within in
      let n : length (first_line r m) ≡ line_to r m - line_from r = length-take (line_to r m - line_from r) (drop (line_from r) t) ∙ omega arith in
      go (ltb (suc r.putting.part) (records_of (line_to r m - line_from r))) l
      ∙ ap (λ k. engine.with_putting (pick (ltb (suc r.putting.part) (records_of k)) (putting_of r.putting.second (first_line r m ∷ others r m h) (suc r.putting.part))
      (putting_of r.putting.second (others r m h) 0)) (house_of r m)) (sym n)
    where
      rest : (c : Bool) → left_of c r.job.lines (drop (pick c (suc (line_to r m)) 0) (text_of r.job.text m)) ≡ left_of c r.job.lines (drop (line_to r m + 1) (text_of r.job.text m))
      rest true = ap (λ k. left_of true r.job.lines (drop k (text_of r.job.text m))) (let z : suc (line_to r m) ≡ line_to r m + 1 = omega arith in z)
      rest false = refl

      go : (c : Bool) → length (text_of r.job.text m) ≡ r.job.text →
          house_of (with_putting (pick c (putting r.putting.second r.putting.more r.putting.at (suc r.putting.part))
          (putting r.putting.second (ltb (line_to r m) r.job.text) (pick (ltb (line_to r m) r.job.text) (suc (line_to r m)) 0) 0)) r) m
          ≡ engine.with_putting (pick c (putting_of r.putting.second (first_line r m ∷ others r m h) (suc r.putting.part)) (putting_of r.putting.second (others r m h) 0)) (house_of r m)
      go true l =
          ap (λ ls. engine.with_putting (putting_of r.putting.second ls (suc r.putting.part)) (house_of r m))
          (ap (λ c. left_of c r.job.lines (drop r.putting.at (text_of r.job.text m))) e ∙ left_is r m h b)
      go false l =
          ap (λ ls. engine.with_putting (putting_of r.putting.second ls 0) (house_of r m))
          (rest (ltb (line_to r m) r.job.text) ∙ ap (λ k. left_of (ltb (line_to r m) k) r.job.lines (drop (line_to r m + 1) (text_of r.job.text m))) (sym l))

  pub line_same : Bounded r → Fits (machine.after_line (house_of r m).putting.left (house_of r m)).state → Same (after_line r m) (machine.after_line (house_of r m).putting.left (house_of r m))
  unfolding after_line house_of
  line_same b f = go r.putting.more refl f
    where
      left_by : Bool → List (List ℕ)
      left_by c = left_of c r.job.lines (drop r.putting.at (text_of r.job.text m))

      go : (c : Bool) → r.putting.more ≡ c → Fits (machine.after_line (left_by c) (house_of r m)).state →
          Same (pick c (put_next (with_putting (put_further r m) r) m) (put_commit r m)) (machine.after_line (left_by c) (house_of r m))
      go true e g =
          subst (λ ls. Same (put_next (with_putting (put_further r m) r) m) (machine.after_line ls (house_of r m))) (sym (left_is r m h b))
          (same_at (put_next (with_putting (put_further r m) r) m) (house_of (with_putting (put_further r m) r) m) _ machine.put_next (further_is b e)
          (next_same (with_putting (put_further r m) r) m h (further_bounded b)) (subst (λ ls. Fits (machine.after_line ls (house_of r m)).state) (left_is r m h b) g))
      go false e g =
          subst (λ c. Same (put_commit r m) (machine.put_first (left_by c) (house_of r m))) (sym e)
          (commit_same r m h b (subst (λ c. Fits (machine.put_first (left_by c) (house_of r m)).state) e g))

  pub committed_safe : Bounded r → Safe m (after_commit r m)
  unfolding after_commit
  committed_safe b = safe_pick r.putting.second (finish_safe r m b) (record { bounded = record { active = b.active; kept = b.kept; name = b.name; text = b.text; bytes = b.bytes; at = b.at }; kept = kept_same m })

  pub committed_same : Bounded r → Fits (machine.after_commit (house_of r m)).state → Same (after_commit r m) (machine.after_commit (house_of r m))
  unfolding after_commit house_of
  committed_same b = same_pick r.putting.second (finish_same r m) (λ f. record { act = refl; state = refl })

  pub fast_safe : Bounded r → Safe m (after_fast r m)
  unfolding after_fast
  fast_safe b = safe_pick r.tapes.busy (pass_safe true b) (finish_safe r m b)

  pub fast_same : Bounded r → Fits (machine.after_fast (house_of r m)).state → Same (after_fast r m) (machine.after_fast (house_of r m))
  unfolding after_fast house_of
  fast_same b = same_pick r.tapes.busy (pass_same true b) (finish_same r m)
