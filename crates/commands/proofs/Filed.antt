-- The turn of what is kept is the plain house's turn: commands on files. Assumes nothing.
use Rattle.std.proofs.Common.{◌≡◌, ℕ, zero, suc, ◌+◌, ◌-◌, ◌<◌, ◌≤◌, Bool, true, false, not, ◌&&◌, eqb, ltb, ◌⊎◌, List, [], ◌∷◌, ◌++◌, length, take, drop, sym, refl, ap, ◌∙◌, subst, inl, inr, arith}
use Rattle.std.proofs.lemmas.List.{append-nil, length-append, drop_all, nil_from_length}
use Rattle.std.proofs.lemmas.Bool.{and_parts, and_from, ltb-true, eqb-true}
use Rattle.plain.specs.Pattern.{pick, or, every, any, each, those, none_of, eight, same}
use Rattle.plain.specs.Command.{Deed, save, edit, files}
use Rattle.plain.specs.House.{Plain, Turn, File, both_of, how_many, new_lines, lines_from, real, can_write, with_file, put_file, file_of, file_work, edited, start_work, finished, no, file_row}
use Rattle.plain.proofs.Goods.{real_from}
use Rattle.plain.proofs.Fair.{length-lines}
use Rattle.journal.specs.Small.{pushed}
use Rattle.commands.specs.Kept.{Kept, kept, fit_line, fit_lines, fit_name, fit_file, other_names, lines_size, stand_size, directory, offset}
use Rattle.commands.specs.Resolve.{Checked, good, refused, then, check, Bounds}
use Rattle.commands.specs.Plan as plan
use Rattle.commands.specs.Plan.{Plan, Slot, slot_of, look_up, table, decide_deed, writable}
use Rattle.commands.specs.Turn as turn
use Rattle.commands.specs.Turn.{KeptTurn, kept_no, lines_given, name_given, given_of, sizes_of, slot_in, walked, walk_rows, more_rows, too_long, updated_by, kept_does, with_lines, with_file_at}
use Rattle.commands.specs.Held.{bytes_of, Held, SameTurn}
use Rattle.commands.proofs.Lists.{every_take, every_drop, every_both, every_parts}
use Rattle.commands.proofs.Files.{file, There, Missing, looked, at_place, at_end, same_true, names_place, names_more}
use Rattle.commands.proofs.Brought.{again-text, again_file}
use Rattle.commands.proofs.Resolved.{both_from, Worded, Ordered}
use Rattle.commands.proofs.Texts.{Replaced, text-held, quiet_held, same_files, count_same, FilesSound}
use Rattle.commands.proofs.Alike.{pick_alike, no_alike, there_same, lines_same}

pub or_parts : (x y : Bool) → or x y ≡ true → (x ≡ true) ⊎ (y ≡ true)
or_parts true y e = inl refl
or_parts false y e = inr e

pub part_none : {A : Type 0} (n m : ℕ) → take {A = A} n (drop m []) ≡ []
part_none zero zero = refl
part_none (suc n) zero = refl
part_none zero (suc m) = refl
part_none (suc n) (suc m) = refl

-- the files are sound with one put among them
pub files-place : (fs P : List File) (f : File) (R : List File) (n : List ℕ) (ls : List (List ℕ)) → fs ≡ P ++ (f ∷ R) → same f.name n ≡ true →
    fit_name n ≡ true → fit_lines ls ≡ true → FilesSound fs → FilesSound (P ++ (file n ls ∷ R))
files-place fs P f R n ls e s fn fl h =
    let p = every_parts fit_file P (f ∷ R) (ap (every fit_file) (sym e) ∙ h.files_fit) in
    let l : length fs ≡ length P + suc (length R) = ap length e ∙ length-append P (f ∷ R) in
    let few = h.few_files in
    record {
      files_fit = every_both fit_file P (file n ls ∷ R) p.0 (and_from (fit_file (file n ls)) (every fit_file R) (and_from (fit_name n) (fit_lines ls) fn fl) (and_parts (fit_file f) (every fit_file R) p.1).1);
      few_files = simp length-append (omega arith);
      names_differ = names_place P f (file n ls) R (same_true f.name n s) (ap other_names (sym e) ∙ h.names_differ);
    }

pub files-more : (fs : List File) (n : List ℕ) (ls : List (List ℕ)) → any (λ g. same g.name n) fs ≡ false → length fs < 64 →
    fit_name n ≡ true → fit_lines ls ≡ true → FilesSound fs → FilesSound (fs ++ (file n ls ∷ []))
files-more fs n ls e l fn fl h =
    record {
      files_fit = every_both fit_file fs (file n ls ∷ []) h.files_fit (and_from (fit_file (file n ls)) true (and_from (fit_name n) (fit_lines ls) fn fl) refl);
      few_files = simp length-append (omega arith);
      names_differ = names_more fs (file n ls) e h.names_differ;
    }

module _ (w : Plain) (k : Kept) (h : Held w k) where
  -- a turn that ends as a plan does
  pub record EndsTurn (d : Deed) (t : Turn) (x : Checked Plan) : Type 0 where
    pub same : SameTurn t (kept_does k d x)

  -- lines that can be written
  pub record Written (b : Bounds) : Type 0 where
    pub below : b.first - 1 ≤ b.last
    pub there : b.last ≤ length k.text
    pub bytes : bytes_of (lines_from w.now b.first b.last) ≡ take (b.last - (b.first - 1)) (drop (b.first - 1) k.text)
    pub long : length (lines_from w.now b.first b.last) ≡ b.last - (b.first - 1)

  pub written : (b : Bounds) → can_write w.now (both_of b.first b.last w.pattern) ≡ true → b.first ≤ suc b.last → Written b
  written b e o =
      let cs = count_same w k h in
      elim (or_parts (real w.now (both_of b.first b.last w.pattern)) (eqb (how_many w.now) 0 && eqb b.last 0) e) [
        | inl t ↦
            (let r = real_from w.now (both_of b.first b.last w.pattern) t in
            let one : 1 ≤ b.first = r.one in
            let ord : b.first ≤ b.last = r.order in
            let end : b.last ≤ how_many w.now = r.there in
            record {
              below = omega arith;
              there = omega arith;
              bytes = lines_same w k h b.first b.last one;
              long = length-lines w.now b.first b.last one ord end ∙ (omega arith);
            })
        | inr t ↦
            (let q = and_parts (eqb (how_many w.now) 0) (eqb b.last 0) t in
            let n : how_many w.now ≡ 0 = eqb-true _ _ q.0 in
            let l : b.last ≡ 0 = eqb-true _ _ q.1 in
            let m : length k.text ≡ 0 = omega arith in
            let e₁ : w.now.lines ≡ [] = nil_from_length w.now.lines n in
            let e₂ : k.text ≡ [] = nil_from_length k.text m in
            let none : lines_from w.now b.first b.last ≡ [] = ap (λ z. take (suc b.last - b.first) (drop (b.first - 1) z)) e₁ ∙ part_none (suc b.last - b.first) (b.first - 1) in
            record {
              below = omega arith;
              there = omega arith;
              bytes = ap bytes_of none ∙ sym (ap (λ z. take (b.last - (b.first - 1)) (drop (b.first - 1) z)) e₂ ∙ part_none (b.last - (b.first - 1)) (b.first - 1));
              long = ap length none ∙ (omega arith);
            })
      ]

  pub can_same : (b : Bounds) → can_write w.now (both_of b.first b.last w.pattern) ≡ writable (length k.text) b
  can_same b = let n = sym (count_same w k h) in λ i. or (there_same w k h b w.pattern i) (eqb (n i) 0 && eqb b.last 0)

  -- the lines written, as copies of entries
  pub copied-lines : (b : Bounds) → Written b →
      take ((offset k.files + b.last) - (offset k.files + (b.first - 1))) (drop (offset k.files + (b.first - 1)) (directory k)) ≡ bytes_of (lines_from w.now b.first b.last)
  copied-lines b r = again-text k (b.first - 1) b.last ∙ sym r.bytes

  pub copied_fit : (b : Bounds) → Written b → fit_lines (bytes_of (lines_from w.now b.first b.last)) ≡ true
  copied_fit b r = ap fit_lines r.bytes ∙ every_take fit_line (b.last - (b.first - 1)) (drop (b.first - 1) k.text) (every_drop fit_line (b.first - 1) k.text h.sound.lines_fit)

  -- where a file is put: as the plain house puts it
  pub record Placed (n : List ℕ) (f : Slot) : Type 0 where
    pub test : or (not (none_of (file_of w n))) (ltb (length w.kept) 64) ≡ or f.found (ltb f.place 64)
    pub puts : (ls : List (List ℕ)) → with_file_at f.place (file n ls) k.files ≡ put_file n ls w.kept
    pub sound : (ls : List (List ℕ)) → or f.found (ltb f.place 64) ≡ true → fit_lines ls ≡ true → FilesSound (with_file_at f.place (file n ls) k.files)

  there_placed : (n : List ℕ) (f : Slot) → fit_name n ≡ true → There n k.files f 0 0 → Placed n f
  there_placed n f fn t =
      let at : f.place ≡ length t.P = ap (λ z. z.place) t.slot ∙ (omega arith) in
      let found : f.found ≡ true = ap (λ z. z.found) t.slot in
      let new : (ls : List (List ℕ)) → with_file_at f.place (file n ls) k.files ≡ t.P ++ (file n ls ∷ t.R) =
      λ ls. (let e = t.split in λ i. with_file_at (at i) (file n ls) (e i)) ∙ at_place t.P t.f (file n ls) t.R in
      let some : none_of (file_of w n) ≡ false = ap (λ z. none_of (those (λ g. same g.name n) z)) (sym h.files) ∙ ap none_of t.those_are in
      record {
        test = ap (λ z. or (not z) (ltb (length w.kept) 64)) some ∙ sym (ap (λ z. or z (ltb f.place 64)) found);
        puts = λ ls. new ls ∙ sym (t.puts ls) ∙ ap (put_file n ls) h.files;
        sound = λ ls _ fl. subst (λ z. FilesSound z) (sym (new ls)) (files-place k.files t.P t.f t.R n ls t.split t.named fn fl (same_files w k h));
      }

  missing_placed : (n : List ℕ) (f : Slot) → fit_name n ≡ true → Missing n k.files f 0 0 → Placed n f
  missing_placed n f fn t =
      let at : f.place ≡ length k.files = ap (λ z. z.place) t.slot ∙ (omega arith) in
      let found : f.found ≡ false = ap (λ z. z.found) t.slot in
      let new : (ls : List (List ℕ)) → with_file_at f.place (file n ls) k.files ≡ k.files ++ (file n ls ∷ []) =
      λ ls. ap (λ z. with_file_at z (file n ls) k.files) at ∙ at_end k.files (file n ls) in
      let none : none_of (file_of w n) ≡ true = ap (λ z. none_of (those (λ g. same g.name n) z)) (sym h.files) ∙ ap none_of t.those_are in
      let many : length w.kept ≡ f.place = ap length (sym h.files) ∙ sym at in
      record {
        test = (λ i. or (not (none i)) (ltb (many i) 64)) ∙ sym (ap (λ z. or z (ltb f.place 64)) found);
        puts = λ ls. new ls ∙ sym (t.puts ls) ∙ ap (put_file n ls) h.files;
        sound = λ ls e fl. (let u : ltb f.place 64 ≡ true = ap (λ z. or z (ltb f.place 64)) (sym found) ∙ e in
            subst (λ z. FilesSound z) (sym (new ls)) (files-more k.files n ls t.none_such (omega (arith, ltb-true f.place 64 u)) fn fl (same_files w k h)));
      }

  pub placed : (n : List ℕ) → fit_name n ≡ true → Placed n (slot_in k n)
  placed n fn = elim (looked n k.files 0 0) [ inl t ↦ there_placed n (slot_in k n) fn t | inr t ↦ missing_placed n (slot_in k n) fn t ]

  save-range : (n : List ℕ) (f : Slot) (b : Bounds) → b.first ≤ suc b.last → Placed n f → or f.found (ltb f.place 64) ≡ true →
      EndsTurn (save n) (with_file w (both_of b.first b.last w.pattern) n) (check (writable (length k.text) b) 4 (good (plan.file_plan (sizes_of k) f (b.first - 1) b.last)))
  unfolding lines_given name_given too_long walk_rows more_rows updated_by turn.put_lines
  save-range n f b o p g =
      pick_alike (EndsTurn (save n)) (can_write w.now (both_of b.first b.last w.pattern)) (writable (length k.text) b) _ _ _ _ (can_same b)
      (λ t. (let r = written b t o in
      let L = bytes_of (lines_from w.now b.first b.last) in
      let fs = with_file_at f.place (file n L) k.files in
      let w₁ : Plain = record { now = w.now; before = w.before; undone = w.undone; kept = put_file n L w.kept; pattern = w.pattern; next = w.next } in
      record {
        same = record {
          reply = refl;
          shows = ap (λ z. eight z ∷ []) (sym r.long);
          next = subst (λ z. Held w₁ (kept k.text k.at (with_file_at f.place (file n z) k.files) k.ring)) (sym (copied-lines b r))
              (quiet_held w k h w₁ k.at fs (omega (arith, h.sound.current, count_same w k h)) (p.sound L g (copied_fit b r))
              (record { lines = refl; current = sym h.at; before = refl; undone = refl; files = sym (p.puts L); next = refl }));
        };
      }))
      (λ t. record { same = no_alike w k h 4 })

  save_inner : (n : List ℕ) (f : Slot) (r : Checked Bounds) → Worded r → Ordered r → Placed n f → or f.found (ltb f.place 64) ≡ true →
      EndsTurn (save n) (pick (eqb (both_from w.pattern r).fails 0) (with_file w (both_from w.pattern r) n) (no (both_from w.pattern r).fails w))
      (then r (λ b. check (writable (length k.text) b) 4 (good (plan.file_plan (sizes_of k) f (b.first - 1) b.last))))
  save_inner n f (good b) word ord p g = save-range n f b ord p g
  save_inner n f (refused m) word ord p g = rw word (record { same = no_alike w k h m })

  pub save-ends : (n : List ℕ) (r : Checked Bounds) → fit_name n ≡ true → Worded r → Ordered r →
      EndsTurn (save n)
      (pick (or (not (none_of (file_of w n))) (ltb (length w.kept) 64)) (pick (eqb (both_from w.pattern r).fails 0) (with_file w (both_from w.pattern r) n) (no (both_from w.pattern r).fails w)) (no 7 w))
      (decide_deed (sizes_of k) (slot_in k n) (given_of (save n)) r (save n))
  unfolding decide_deed
  save-ends n r fn word ord =
      let p = placed n fn in
      pick_alike (EndsTurn (save n)) (or (not (none_of (file_of w n))) (ltb (length w.kept) 64)) (or (slot_in k n).found (ltb (slot_in k n).place 64)) _ _ _ _ p.test
      (λ t. save_inner n (slot_in k n) r word ord p (sym p.test ∙ t))
      (λ t. record { same = no_alike w k h 7 })

  -- e: all of the text goes, the file's lines come
  edit-done : (n : List ℕ) (f : Slot) (g : File) → f.lines ≡ length g.lines → take ((f.before + f.lines) - f.before) (drop f.before (directory k)) ≡ g.lines → fit_lines g.lines ≡ true →
      EndsTurn (edit n) (finished w true (edited (start_work w) g)) (good (plan.edit_plan (sizes_of k) f))
  unfolding lines_given name_given too_long walk_rows more_rows updated_by turn.put_lines
  edit-done n f g long came fit =
      let c = length k.text in
      let cs = count_same w k h in
      let w₁ : Plain = (finished w true (edited (start_work w) g)).next in
      let r : Replaced w w₁ 0 c (length g.lines) g.lines =
      record {
        lines = sym (ap (λ z. new_lines w.next g.lines ++ z) (drop_all c w.now.lines (omega arith)) ∙ append-nil (new_lines w.next g.lines));
        current = refl;
        before = refl;
        undone = refl;
        files = refl;
        next = refl;
      } in
      let t = text-held w k h w₁ 0 c (length g.lines) g.lines (omega arith) (omega arith) fit (omega arith) r in
      record {
        same = record {
          reply = refl;
          shows = ap (λ z. eight z ∷ []) long;
          next =
              subst (λ m. Held w₁ (kept (with_lines 0 c (take ((f.before + f.lines) - f.before) (drop f.before (directory k))) k.text) m k.files (pushed k.ring (stand_size c 0 c (lines_size (take (c - 0) (drop 0 k.text))) m)))) (sym long)
              (subst (λ z. Held w₁ (kept (with_lines 0 c z k.text) (length g.lines) k.files (pushed k.ring (stand_size c 0 c (lines_size (take (c - 0) (drop 0 k.text))) (length g.lines))))) (sym came) t);
        };
      }

  edit-there : (n : List ℕ) (f : Slot) (r : Checked Bounds) → There n k.files f 0 0 →
      EndsTurn (edit n) (finished w true (file_work (start_work w) (file_of w n) (edited (start_work w)))) (decide_deed (sizes_of k) f (given_of (edit n)) r (edit n))
  unfolding decide_deed
  edit-there n f r t =
      let from : f.before ≡ offset t.P = ap (λ z. z.before) t.slot ∙ (omega arith) in
      let long : f.lines ≡ length t.f.lines = ap (λ z. z.lines) t.slot in
      let found : f.found ≡ true = ap (λ z. z.found) t.slot in
      let those_are : file_of w n ≡ t.f ∷ t.more = ap (λ z. those (λ g. same g.name n) z) (sym h.files) ∙ t.those_are in
      let came : take ((f.before + f.lines) - f.before) (drop f.before (directory k)) ≡ t.f.lines =
      ap (λ m. take ((f.before + m) - f.before) (drop f.before (directory k))) long ∙ again_file k t.P t.f t.R f.before t.split from in
      let p = every_parts fit_file t.P (t.f ∷ t.R) (ap (every fit_file) (sym t.split) ∙ h.sound.files_fit) in
      let fit : fit_lines t.f.lines ≡ true = (and_parts (fit_name t.f.name) (fit_lines t.f.lines) (and_parts (fit_file t.f) (every fit_file t.R) p.1).0).1 in
      subst (λ z. EndsTurn (edit n) (finished w true (file_work (start_work w) (file_of w n) (edited (start_work w)))) (check z 3 (good (plan.edit_plan (sizes_of k) f)))) (sym found)
      (subst (λ z. EndsTurn (edit n) (finished w true (file_work (start_work w) z (edited (start_work w)))) (good (plan.edit_plan (sizes_of k) f))) (sym those_are) (edit-done n f t.f long came fit))

  edit_missing : (n : List ℕ) (f : Slot) (r : Checked Bounds) → Missing n k.files f 0 0 →
      EndsTurn (edit n) (finished w true (file_work (start_work w) (file_of w n) (edited (start_work w)))) (decide_deed (sizes_of k) f (given_of (edit n)) r (edit n))
  unfolding decide_deed
  edit_missing n f r t =
      let found : f.found ≡ false = ap (λ z. z.found) t.slot in
      let those_are : file_of w n ≡ [] = ap (λ z. those (λ g. same g.name n) z) (sym h.files) ∙ t.those_are in
      subst (λ z. EndsTurn (edit n) (finished w true (file_work (start_work w) (file_of w n) (edited (start_work w)))) (check z 3 (good (plan.edit_plan (sizes_of k) f)))) (sym found)
      (subst (λ z. EndsTurn (edit n) (finished w true (file_work (start_work w) z (edited (start_work w)))) (refused 3)) (sym those_are) (record { same = no_alike w k h 3 }))

  pub edit-ends : (n : List ℕ) (r : Checked Bounds) →
      EndsTurn (edit n) (finished w true (file_work (start_work w) (file_of w n) (edited (start_work w)))) (decide_deed (sizes_of k) (slot_in k n) (given_of (edit n)) r (edit n))
  edit-ends n r = elim (looked n k.files 0 0) [ inl t ↦ edit-there n (slot_in k n) r t | inr t ↦ edit_missing n (slot_in k n) r t ]

  pub files-ends : (f : Slot) (r : Checked Bounds) → EndsTurn files (record { reply = 0; shows = each file_row w.kept; next = w }) (decide_deed (sizes_of k) f (given_of files) r files)
  unfolding decide_deed lines_given name_given too_long walk_rows more_rows updated_by turn.put_lines
  files-ends f r = record { same = record { reply = refl; shows = ap (each file_row) h.files; next = h } }
