-- What holds of every plan: that it fits, what it brings, what it weighs, and that it stays within what may be used. Assumes nothing.
use Rattle.std.proofs.Common.{◌≡◌, ℕ, suc, ◌+◌, ◌-◌, ◌<◌, ◌≤◌, Bool, true, false, ◌&&◌, eqb, ltb, leb, ◌⊎◌, List, [], ◌∷◌, length, take, drop, sym, refl, ap, ◌∙◌, subst, inl, inr, arith, length-append}
use Rattle.std.proofs.lemmas.List.{nil_from_length}
use lib.Seq.{take-length}
use Rattle.std.proofs.lemmas.Bool.{and_parts, leb-true, le-ltb, ltb-true, ltb-false, eqb-true, true≢false, false≢true}
use Rattle.plain.specs.Pattern.{pick, or}
use Rattle.plain.specs.Command.{Deed, append, insert, change, delete, join, move, copy, mark, print, number, where_is, swap, go_to, undo, redo, save, edit, load, files, bad, Simple}
use Rattle.plain.specs.House.{smaller, short_all}
use Rattle.plain.specs.Promise.{goes_through}
use Rattle.journal.specs.Log.{no_entries, new_entries}
use Rattle.commands.specs.Kept.{Kept, lines_size, directory, offset, Sound}
use Rattle.commands.specs.Resolve.{Checked, good, check, Bounds, command_bounds, there}
use Rattle.commands.specs.Plan as plan
use Rattle.commands.specs.Plan.{Plan, Walk, skip, show, show_numbered, measure, glue, Rows, text_plan, show_plan, say_plan, file_plan, decide, decide_deed, known, writable, at_gone}
use Rattle.commands.specs.Turn as turn
use Rattle.commands.specs.Turn.{lines_given, name_given, given_of, sizes_of, slot_in, updated_by, decision}
use Rattle.commands.proofs.Files.{There, Missing, looked}
use Rattle.commands.proofs.Brought.{again-text, again_file}
use Rattle.commands.proofs.Resolved.{Ordered, bounds-ordered}
use Rattle.commands.proofs.Filed.{or_parts}
use Rattle.commands.proofs.Planned.{directory-long, slot_inside}
use Rattle.engine.specs.Fits.{RowsFit}
use Rattle.engine.specs.Machine.{walks}
use Rattle.engine.proofs.Splices.{lines_most}
use Rattle.engine.proofs.PlanSums.{of_new, of_copies, cost, shows-lines, limit, JobPlan, AllJobs, beside_behind, beside_before, check_jobs, then_jobs, spans, text_weighs}

module _ (k : Kept) (few : length (directory k) ≤ 524288) where
  text_few : offset k.files + length k.text ≤ 524288
  text_few = omega (arith, directory-long k)

  -- lines put on come in place of lines of the text
  text-job : (r : Checked Bounds) (d : Deed) (w : Walk) (a b came at : ℕ) → a ≤ b → b ≤ length k.text → came ≤ 65536 → at ≤ length k.text + came + 1 →
      length (turn.put_lines w (take (b - a) (drop a k.text)) (lines_given d)) ≡ came → (walks w ≡ false → a ≡ b) → shows-lines w ≡ false → short_all (lines_given d) ≡ true →
      cost (text_plan (sizes_of k) w a b new_entries came at plan.no_row) (turn.put_lines w (take (b - a) (drop a k.text)) (lines_given d)) ≤ limit r d (text_plan (sizes_of k) w a b new_entries came at plan.no_row) →
      JobPlan k r d (text_plan (sizes_of k) w a b new_entries came at plan.no_row)
  unfolding updated_by turn.more_rows
  text-job r d w a b came at ab bn c16 cur long still hidden short g = record {
    fits = record {
      after = omega (arith, text_few);
      upto = omega (arith, text_few);
      update = tt;
      splice = record { from = omega (arith, text_few); gone = omega (arith, text_few); source = tt; beside = refl };
      came = omega arith;
      span = omega (arith, text_few);
      count = omega (arith, text_few);
      current = omega (arith, text_few);
      rows = tt;
    };
    source = of_new tt refl (omega arith);
    few = omega (arith, long);
    came = refl;
    room = inl (text_weighs k a b came at (turn.put_lines w (take (b - a) (drop a k.text)) (lines_given d)) ab);
    grant = g;
    went = λ e. rw (e, ne-lt (still e)) (sym (ap (λ n. lines_size (take n (drop a k.text))) (let q : b - a ≡ 0 = omega (arith, still e) in q)));
    light = λ e. absurd (true≢false (sym e ∙ hidden));
    rows = inr (λ fs gs. refl);
    still = λ e. absurd (let z : ◌≡◌ {A = ℕ} 0 1 = cc in omega arith);
    short = short;
  }
    where
      ne-lt : a ≡ b → ltb a b ≡ false
      ne-lt e = le-ltb a b (omega arith)

  -- lines of the text go
  gone-job : (r : Checked Bounds) (d : Deed) (a b at : ℕ) → a ≤ b → b ≤ length k.text → at ≤ length k.text + 1 → lines_given d ≡ [] →
      cost (text_plan (sizes_of k) measure a b no_entries 0 at plan.no_row) [] ≤ limit r d (text_plan (sizes_of k) measure a b no_entries 0 at plan.no_row) → JobPlan k r d (text_plan (sizes_of k) measure a b no_entries 0 at plan.no_row)
  unfolding updated_by turn.put_lines turn.more_rows
  gone-job r d a b at ab bn cur none g = record {
    fits = record {
      after = omega (arith, text_few);
      upto = omega (arith, text_few);
      update = tt;
      splice = record { from = omega (arith, text_few); gone = omega (arith, text_few); source = tt; beside = refl };
      came = omega arith;
      span = omega (arith, text_few);
      count = omega (arith, text_few);
      current = omega (arith, text_few);
      rows = tt;
    };
    source = of_new (ap length none) refl (omega arith);
    few = omega (arith, ap length none);
    came = refl;
    room = inr none;
    grant = subst (λ ls. cost (text_plan (sizes_of k) measure a b no_entries 0 at plan.no_row) ls ≤ limit r d (text_plan (sizes_of k) measure a b no_entries 0 at plan.no_row)) (sym none) g;
    went = λ e. absurd (true≢false e);
    light = λ e. absurd (false≢true e);
    rows = inr (λ fs gs. refl);
    still = λ e. absurd (let z : ◌≡◌ {A = ℕ} 0 1 = cc in omega arith);
    short = ap short_all none;
  }

  -- lines are shown
  show-job : (r : Checked Bounds) (d : Deed) (w : Walk) (a b : ℕ) → walks w ≡ true → turn.put_lines w (take (b - a) (drop a k.text)) (lines_given d) ≡ [] → short_all (lines_given d) ≡ true → a ≤ b → b ≤ length k.text →
      cost (show_plan (sizes_of k) w a b) [] ≤ limit r d (show_plan (sizes_of k) w a b) → JobPlan k r d (show_plan (sizes_of k) w a b)
  unfolding updated_by turn.more_rows
  show-job r d w a b walking none short ab bn g = record {
    fits = record {
      after = omega (arith, text_few);
      upto = omega (arith, text_few);
      update = tt;
      splice = record { from = omega arith; gone = omega arith; source = tt; beside = refl };
      came = omega arith;
      span = omega (arith, text_few);
      count = omega (arith, text_few);
      current = omega (arith, text_few);
      rows = tt;
    };
    source = of_new (ap length none) refl (omega arith);
    few = omega (arith, ap length none);
    came = refl;
    room = inr none;
    grant = subst (λ ls. cost (show_plan (sizes_of k) w a b) ls ≤ limit r d (show_plan (sizes_of k) w a b)) (sym none) g;
    went = λ e. absurd (true≢false (sym walking ∙ e));
    light = λ e. refl;
    rows = inr (λ fs gs. refl);
    still = λ e. absurd (let z : ◌≡◌ {A = ℕ} 0 1 = cc in omega arith);
    short = short;
  }

  -- something is said
  say_job : (r : Checked Bounds) (d : Deed) (rows : Rows) → RowsFit rows → k.at ≤ length k.text → lines_given d ≡ [] → cost (say_plan (sizes_of k) rows) [] ≤ limit r d (say_plan (sizes_of k) rows) → JobPlan k r d (say_plan (sizes_of k) rows)
  unfolding turn.put_lines updated_by
  say_job r d rows rf cur none g = record {
    fits = record {
      after = omega arith;
      upto = omega arith;
      update = tt;
      splice = record { from = omega arith; gone = omega arith; source = tt; beside = refl };
      came = omega arith;
      span = omega arith;
      count = omega (arith, text_few);
      current = omega (arith, text_few);
      rows = rf;
    };
    source = of_new (ap length none) refl (omega arith);
    few = omega (arith, ap length none);
    came = refl;
    room = inr none;
    grant = subst (λ ls. cost (say_plan (sizes_of k) rows) ls ≤ limit r d (say_plan (sizes_of k) rows)) (sym none) g;
    went = λ e. refl;
    light = λ e. refl;
    rows = inl refl;
    still = λ e. (refl, refl);
    short = ap short_all none;
  }

  -- a file gets copies of lines of the text
  save-job : (r : Checked Bounds) (n : List ℕ) (a b : ℕ) → k.at ≤ length k.text → a ≤ b → b ≤ length k.text → (slot_in k n).place ≤ 64 → (There n k.files (slot_in k n) 0 0 ⊎ Missing n k.files (slot_in k n) 0 0) →
      JobPlan k r (save n) (file_plan (sizes_of k) (slot_in k n) a b)
  unfolding turn.put_lines turn.more_rows lines_given name_given goes_through
  save-job r n a b cur ab bn place x =
      let inside = slot_inside k.files n (slot_in k n) x in
      record {
        fits = record {
          after = omega (arith, text_few);
          upto = omega (arith, text_few);
          update = place;
          splice = record { from = omega (arith, text_few); gone = omega (arith, text_few); source = (omega (arith, text_few), omega (arith, text_few)); beside = beside_behind (offset k.files + a) (offset k.files + b) (slot_in k n).before (slot_in k n).lines (omega arith) (omega arith) };
          came = omega (arith, text_few);
          span = omega (arith, text_few);
          count = omega (arith, text_few);
          current = omega (arith, text_few);
          rows = omega (arith, text_few);
        };
        source = of_copies refl;
        few = omega arith;
        came = sym (ap lines_size (again-text k a b));
        room = inr refl;
        grant = omega (arith, text_few);
        went = λ e. absurd (true≢false e);
        light = λ e. absurd (false≢true e);
        rows = inr (λ fs gs. refl);
        still = λ e. absurd (let z : ◌≡◌ {A = ℕ} 0 1 = cc in omega arith);
        short = refl;
      }

  -- the text becomes copies of a file's lines
  edit-job : (r : Checked Bounds) (n : List ℕ) → (slot_in k n).found ≡ true → (There n k.files (slot_in k n) 0 0 ⊎ Missing n k.files (slot_in k n) 0 0) →
      JobPlan k r (edit n) (plan.edit_plan (sizes_of k) (slot_in k n))
  unfolding turn.put_lines turn.more_rows lines_given name_given goes_through
  edit-job r n e (inr x) = absurd (true≢false (sym e ∙ ap (λ z. z.found) x.slot))
  edit-job r n e (inl x) =
      let s = slot_in k n in
      let inside = slot_inside k.files n s (inl x) in
      let from : s.before ≡ offset x.P = ap (λ z. z.before) x.slot ∙ (omega arith) in
      let long : s.lines ≡ length x.f.lines = ap (λ z. z.lines) x.slot in
      let size : s.size ≡ lines_size x.f.lines = ap (λ z. z.size) x.slot in
      let came : take ((s.before + s.lines) - s.before) (drop s.before (directory k)) ≡ x.f.lines =
      ap (λ m. take ((s.before + m) - s.before) (drop s.before (directory k))) long ∙ again_file k x.P x.f x.R s.before x.split from in
      record {
        fits = record {
          after = omega arith;
          upto = omega (arith, text_few);
          update = tt;
          splice = record { from = omega (arith, text_few); gone = omega (arith, text_few); source = (omega (arith, text_few), omega (arith, text_few)); beside = beside_before s.before (s.before + s.lines) (offset k.files + 0) (length k.text - 0) (omega arith) (omega arith) };
          came = omega (arith, text_few);
          span = omega (arith, text_few);
          count = omega (arith, text_few);
          current = omega (arith, text_few);
          rows = omega (arith, text_few);
        };
        source = of_copies refl;
        few = omega arith;
        came = size ∙ sym (ap lines_size came);
        room = inr refl;
        grant = omega (arith, text_few);
        went = λ z. whole (ltb 0 (length k.text)) refl;
        light = λ z. absurd (false≢true z);
        rows = inr (λ fs gs. refl);
        still = λ z. absurd (let y : ◌≡◌ {A = ℕ} 0 1 = cc in omega arith);
        short = refl;
      }
    where
      all_of : lines_size (take (length k.text - 0) k.text) ≡ lines_size k.text
      all_of = ap (λ m. lines_size (take m k.text)) (let q : length k.text - 0 ≡ length k.text = omega arith in q) ∙ ap lines_size (take-length k.text)

      whole : (b : Bool) → ltb 0 (length k.text) ≡ b → pick b (lines_size k.text) 0 ≡ lines_size (take (length k.text - 0) k.text)
      whole true e = sym all_of
      whole false e = sym (all_of ∙ ap lines_size (nil_from_length k.text (let a = ltb-false 0 (length k.text) e in omega arith)))

-- BY DEEDS
module _ (k : Kept) (sound : Sound k) (few : length (directory k) ≤ 524288) where
  slot-place : (n : List ℕ) → (slot_in k n).found ≡ true ⊎ ((slot_in k n).place < 64) → (There n k.files (slot_in k n) 0 0 ⊎ Missing n k.files (slot_in k n) 0 0) → (slot_in k n).place ≤ 64
  slot-place n h (inl x) =
      let at : (slot_in k n).place ≡ length x.P = ap (λ z. z.place) x.slot ∙ (omega arith) in
      let l : length k.files ≡ length x.P + suc (length x.R) = ap length x.split ∙ length-append x.P (x.f ∷ x.R) in
      let f = sound.few_files in
      omega (arith, at, l)
  slot-place n (inl e) (inr x) = absurd (true≢false (sym e ∙ ap (λ z. z.found) x.slot))
  slot-place n (inr l) (inr x) = omega arith

  pub deed_jobs : (d : Deed) (r : Checked Bounds) → Ordered r → length (lines_given d) ≤ 65535 → AllJobs k r d (decide_deed (sizes_of k) (slot_in k (name_given d)) (given_of d) r d)
  unfolding decide_deed lines_given name_given turn.put_lines goes_through
  deed_jobs (append ls) r o g =
      then_jobs k (append ls) r _ o (λ b h. check_jobs k (good b) (append ls) (short_all ls) 7 _ (λ s. check_jobs k (good b) (append ls) (leb b.last (length k.text)) 4 _ (λ e. (let l = leb-true _ _ e in let m = lines_most ls in
      text-job k few (good b) (append ls) skip b.last b.last (length ls) (b.last + length ls) (omega arith) l (omega arith) (omega arith) refl (λ q. refl) refl s (omega arith)))))
  deed_jobs (insert ls) r o g =
      then_jobs k (insert ls) r _ o (λ b h. check_jobs k (good b) (insert ls) (short_all ls) 7 _ (λ s. check_jobs k (good b) (insert ls) (leb b.last (length k.text)) 4 _ (λ e. (let l = leb-true _ _ e in let m = lines_most ls in
      text-job k few (good b) (insert ls) skip (b.last - 1) (b.last - 1) (length ls) _ (omega arith) (omega arith) (omega arith) (at-inserted (eqb (length ls) 0) b.last (length ls) (length k.text) l) refl (λ q. refl) refl s (omega arith)))))
    where
      at-inserted : (t : Bool) (b n count : ℕ) → b ≤ count → pick t b (b - 1 + n) ≤ count + n + 1
      at-inserted true b n count h = omega arith
      at-inserted false b n count h = omega arith
  deed_jobs (change ls) r o g =
      then_jobs k (change ls) r _ o (λ b h. check_jobs k (good b) (change ls) (short_all ls) 7 _ (λ s. check_jobs k (good b) (change ls) (there (length k.text) b) 4 _ (λ e. (let z = spans _ b e in let z₁ = z.one in let z₂ = z.order in let z₃ = z.there in let m = lines_most ls in
      text-job k few (good b) (change ls) measure (b.first - 1) b.last (length ls) _ (omega arith) z.there (omega arith) (at-changed (eqb (length ls) 0) b (length ls) (length k.text) z₂ z₃) refl (λ q. absurd (true≢false q)) refl s (omega arith)))))
    where
      small : (x y : ℕ) → smaller x y ≤ x
      small x y = go (ltb x y) refl
        where
          go : (t : Bool) → ltb x y ≡ t → pick t x y ≤ x
          go true e = omega arith
          go false e = ltb-false x y e

      at-changed : (t : Bool) (b : Bounds) (n count : ℕ) → b.first ≤ b.last → b.last ≤ count → pick t (at_gone count b) (b.first - 1 + n) ≤ count + n + 1
      at-changed true b n count h l = let a = small b.first (count - (suc b.last - b.first)) in omega arith
      at-changed false b n count h l = omega arith
  deed_jobs delete r o g =
      then_jobs k delete r _ o (λ b h. check_jobs k (good b) delete (there (length k.text) b) 4 _ (λ e. (let z = spans _ b e in let z₁ = z.one in let z₂ = z.order in let z₃ = z.there in
      gone-job k few (good b) delete (b.first - 1) b.last _ (omega arith) z.there (let a = smaller-first b.first (length k.text - (suc b.last - b.first)) in omega arith) refl (omega arith))))
    where
      smaller-first : (x y : ℕ) → smaller x y ≤ x
      smaller-first x y = go (ltb x y) refl
        where
          go : (t : Bool) → ltb x y ≡ t → pick t x y ≤ x
          go true e = omega arith
          go false e = ltb-false x y e
  deed_jobs join r o g =
      then_jobs k join r _ o (λ b h. check_jobs k (good b) join (there (length k.text) b) 4 _ (λ e. (let z = spans _ b e in let z₁ = z.one in let z₂ = z.order in let z₃ = z.there in
      let m = lines_most (turn.glued_lines (take (b.last - (b.first - 1)) (drop (b.first - 1) k.text)) ∷ []) in
      text-job k few (good b) join glue (b.first - 1) b.last 1 b.first (omega arith) z.there (omega arith) (omega arith) refl (λ q. absurd (true≢false q)) refl refl (omega arith))))
  deed_jobs (move a) r o g = tt
  deed_jobs (copy a) r o g = tt
  deed_jobs (mark c) r o g = tt
  deed_jobs print r o g =
      then_jobs k print r _ o (λ b h. check_jobs k (good b) print (there (length k.text) b) 4 _ (λ e. (let z = spans _ b e in let z₁ = z.one in let z₂ = z.order in
      show-job k few (good b) print show (b.first - 1) b.last refl refl refl (omega arith) z.there (omega arith))))
  deed_jobs number r o g =
      then_jobs k number r _ o (λ b h. check_jobs k (good b) number (there (length k.text) b) 4 _ (λ e. (let z = spans _ b e in let z₁ = z.one in let z₂ = z.order in
      show-job k few (good b) number show_numbered (b.first - 1) b.last refl refl refl (omega arith) z.there (omega arith))))
  deed_jobs where_is r o g =
      then_jobs k where_is r _ o (λ b h. check_jobs k (good b) where_is (leb b.last (length k.text)) 4 _ (λ e. (let l = leb-true _ _ e in let t = text_few k few in
      say_job k few (good b) where_is (plan.a_number b.last) (omega arith) sound.current refl (omega arith))))
  deed_jobs (swap p q i) r o g = tt
  deed_jobs go_to r o g =
      then_jobs k go_to r _ o (λ b h. check_jobs k (good b) go_to (leb 1 b.last && leb b.last (length k.text)) 4 _ (λ e. (let p = and_parts (leb 1 b.last) (leb b.last (length k.text)) e in let l = leb-true _ _ p.0 in
      show-job k few (good b) go_to show (b.last - 1) b.last refl refl refl (omega arith) (leb-true _ _ p.1) (omega arith))))
  deed_jobs undo r o g = tt
  deed_jobs redo r o g = tt
  deed_jobs (save n) r o g =
      check_jobs k r (save n) (or (slot_in k n).found (ltb (slot_in k n).place 64)) 7 _ (λ t. then_jobs k (save n) r _ o (λ b h. check_jobs k (good b) (save n) (writable (length k.text) b) 4 _ (λ e.
      (let z = written b h (or_parts _ _ e) in
      save-job k few (good b) n (b.first - 1) b.last sound.current z.0 z.1
      (slot-place n (elim (or_parts _ _ t) [ inl u ↦ inl u | inr u ↦ inr (ltb-true _ _ u) ]) (looked n k.files 0 0)) (looked n k.files 0 0)))))
    where
      written : (b : Bounds) → b.first ≤ suc b.last → (there (length k.text) b ≡ true) ⊎ (eqb (length k.text) 0 && eqb b.last 0 ≡ true) → (b.first - 1 ≤ b.last) × (b.last ≤ length k.text)
      written b h (inl e) = let z = spans _ b e in (omega arith, z.there)
      written b h (inr e) = let q = and_parts (eqb (length k.text) 0) (eqb b.last 0) e in let x = eqb-true _ _ q.1 in (omega arith, omega arith)
  deed_jobs (edit n) r o g = check_jobs k r (edit n) (slot_in k n).found 3 _ (λ e. edit-job k few r n e (looked n k.files 0 0))
  deed_jobs (load n) r o g = tt
  deed_jobs files r o g = say_job k few r files plan.all_files tt sound.current refl (omega arith)
  deed_jobs bad r o g = tt

  known_jobs : (r : Checked Bounds) (d : Deed) (t : Bool) (x : Checked Plan) → AllJobs k r d x → AllJobs k r d (check t 2 x)
  known_jobs r d true x h = h
  known_jobs r d false x h = tt

  pub job-plan : (c : Simple) (p : Plan) → length (lines_given c.deed) ≤ 65535 → decision k c ≡ good p → JobPlan k (command_bounds (length k.text) k.at c) c.deed p
  unfolding decide
  job-plan c p g e =
      let r = command_bounds (length k.text) k.at c in
      subst (AllJobs k r c.deed) e (known_jobs r c.deed (known c) _ (deed_jobs c.deed r (bounds-ordered (length k.text) k.at c) g))
