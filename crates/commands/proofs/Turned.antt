-- The turn of what is kept is the plain house's turn, for every command of the core. Assumes nothing.
use Rattle.std.proofs.Common.{◌≡◌, ℕ, suc, ◌≤◌, true, false, eqb, [], length, sym, refl, ◌∙◌, subst}
use Rattle.std.proofs.lemmas.Bool.{false≢true, and_parts}
use Rattle.plain.specs.Pattern.{pick, every, all_bytes}
use Rattle.plain.specs.Command.{Deed, append, insert, change, delete, join, move, copy, mark, print, number, where_is, swap, go_to, undo, redo, save, edit, load, files, bad, Simple, plain, all_lines}
use Rattle.plain.specs.House.{Plain, Turn, turn, simple_turn, Both, where_of, start_work, deed_work, failed, core, core_deed, plain_range}
use Rattle.commands.specs.Kept.{Kept, fit_name}
use Rattle.commands.specs.Resolve.{Checked, good, refused, Bounds, command_bounds}
use Rattle.commands.specs.Plan.{Slot, decide, decide_deed, known}
use Rattle.commands.specs.Turn.{kept_turn, lines_given, name_given, given_of, sizes_of, slot_in, kept_does}
use Rattle.commands.specs.Held.{Held, SameTurn, well_given, TurnsAlike}
use Rattle.commands.proofs.Resolved.{both_from, Worded, Ordered, where_same, bounds_worded, bounds-ordered}
use Rattle.commands.proofs.Texts.{count_same}
use Rattle.commands.proofs.Alike.{no_alike, append-ends, insert-ends, change-ends, delete-ends, join-ends, print-ends, number-ends, where-ends, go-ends}
use Rattle.commands.proofs.Filed.{save-ends, edit-ends, files-ends}

-- a turn at a range that was found, or wasn't
abbrev turn_of : Plain → Both → Deed → Turn
turn_of w b d = simple_turn w b d (pick (eqb b.fails 0) (deed_work (start_work w) b d) (failed b.fails (start_work w)))

module _ (w : Plain) (k : Kept) (h : Held w k) where
  -- at a range that was found
  found_alike : (b : Bounds) (d : Deed) (f : Slot) → core_deed d ≡ true → well_given d ≡ true → b.first ≤ suc b.last → f ≡ slot_in k (name_given d) →
      SameTurn (turn_of w (both_from w.pattern (good b)) d) (kept_does k d (decide_deed (sizes_of k) f (given_of d) (good b) d))
  unfolding simple_turn core_deed lines_given name_given
  found_alike b (append ls) f e g o s = (append-ends w k h b ls (and_parts (every all_bytes ls) (fit_name []) g).0 f).same
  found_alike b (insert ls) f e g o s = (insert-ends w k h b ls (and_parts (every all_bytes ls) (fit_name []) g).0 f).same
  found_alike b (change ls) f e g o s = (change-ends w k h b ls (and_parts (every all_bytes ls) (fit_name []) g).0 f).same
  found_alike b delete f e g o s = (delete-ends w k h b f).same
  found_alike b join f e g o s = (join-ends w k h b f).same
  found_alike b (move a) f e g o s = absurd (false≢true e)
  found_alike b (copy a) f e g o s = absurd (false≢true e)
  found_alike b (mark c) f e g o s = absurd (false≢true e)
  found_alike b print f e g o s = (print-ends w k h b f).same
  found_alike b number f e g o s = (number-ends w k h b f).same
  found_alike b where_is f e g o s = (where-ends w k h b f).same
  found_alike b (swap p q i) f e g o s = absurd (false≢true e)
  found_alike b go_to f e g o s = (go-ends w k h b f).same
  found_alike b undo f e g o s = absurd (false≢true e)
  found_alike b redo f e g o s = absurd (false≢true e)
  found_alike b (save n) f e g o s =
      subst (λ z. SameTurn (turn_of w (both_from w.pattern (good b)) (save n)) (kept_does k (save n) (decide_deed (sizes_of k) z (given_of (save n)) (good b) (save n)))) (sym s)
      (save-ends w k h n (good b) (and_parts true (fit_name n) g).1 refl o).same
  found_alike b (edit n) f e g o s =
      subst (λ z. SameTurn (turn_of w (both_from w.pattern (good b)) (edit n)) (kept_does k (edit n) (decide_deed (sizes_of k) z (given_of (edit n)) (good b) (edit n)))) (sym s)
      (edit-ends w k h n (good b)).same
  found_alike b (load n) f e g o s = absurd (false≢true e)
  found_alike b files f e g o s = (files-ends w k h f (good b)).same
  found_alike b bad f e g o s = absurd (false≢true e)

  -- and at one that wasn't
  lost_alike : (m : ℕ) (d : Deed) (f : Slot) → core_deed d ≡ true → well_given d ≡ true → eqb m 0 ≡ false → f ≡ slot_in k (name_given d) →
      SameTurn (turn_of w (both_from w.pattern (refused m)) d) (kept_does k d (decide_deed (sizes_of k) f (given_of d) (refused m) d))
  unfolding simple_turn core_deed decide_deed lines_given name_given
  lost_alike m (append ls) f e g z s = rw (z, z) (no_alike w k h m)
  lost_alike m (insert ls) f e g z s = rw (z, z) (no_alike w k h m)
  lost_alike m (change ls) f e g z s = rw (z, z) (no_alike w k h m)
  lost_alike m delete f e g z s = rw (z, z) (no_alike w k h m)
  lost_alike m join f e g z s = rw (z, z) (no_alike w k h m)
  lost_alike m (move a) f e g z s = absurd (false≢true e)
  lost_alike m (copy a) f e g z s = absurd (false≢true e)
  lost_alike m (mark c) f e g z s = absurd (false≢true e)
  lost_alike m print f e g z s = rw (z, z) (no_alike w k h m)
  lost_alike m number f e g z s = rw (z, z) (no_alike w k h m)
  lost_alike m where_is f e g z s = rw (z, z) (no_alike w k h m)
  lost_alike m (swap p q i) f e g z s = absurd (false≢true e)
  lost_alike m go_to f e g z s = rw (z, z) (no_alike w k h m)
  lost_alike m undo f e g z s = absurd (false≢true e)
  lost_alike m redo f e g z s = absurd (false≢true e)
  lost_alike m (save n) f e g z s =
      subst (λ x. SameTurn (turn_of w (both_from w.pattern (refused m)) (save n)) (kept_does k (save n) (decide_deed (sizes_of k) x (given_of (save n)) (refused m) (save n)))) (sym s)
      (save-ends w k h n (refused m) (and_parts true (fit_name n) g).1 z refl).same
  lost_alike m (edit n) f e g z s =
      subst (λ x. SameTurn (turn_of w (both_from w.pattern (refused m)) (edit n)) (kept_does k (edit n) (decide_deed (sizes_of k) x (given_of (edit n)) (refused m) (edit n)))) (sym s)
      (edit-ends w k h n (refused m)).same
  lost_alike m (load n) f e g z s = absurd (false≢true e)
  lost_alike m files f e g z s = (files-ends w k h f (refused m)).same
  lost_alike m bad f e g z s = absurd (false≢true e)

  deed_alike : (r : Checked Bounds) (d : Deed) → Worded r → Ordered r → core_deed d ≡ true → well_given d ≡ true →
      SameTurn (turn_of w (both_from w.pattern r) d) (kept_does k d (decide_deed (sizes_of k) (slot_in k (name_given d)) (given_of d) r d))
  deed_alike (good b) d word ord e g = found_alike b d (slot_in k (name_given d)) e g ord refl
  deed_alike (refused m) d word ord e g = lost_alike m d (slot_in k (name_given d)) e g word refl

  pub where_kept : (c : Simple) → plain_range c.range ≡ true → where_of w.now w.pattern c ≡ both_from w.pattern (command_bounds (length k.text) k.at c)
  where_kept c e =
      let n = sym (count_same w k h) in
      let a = sym h.at in
      where_same w.now w.pattern c e ∙ (λ i. both_from w.pattern (command_bounds (n i) (a i) c))

  pub simple_alike : (c : Simple) → known c ≡ true → well_given c.deed ≡ true → SameTurn (turn w (plain c)) (kept_turn k (plain c))
  unfolding turn kept_turn decide
  simple_alike c e g =
      let p = and_parts (plain_range c.range) (core_deed c.deed) e in
      let r = command_bounds (length k.text) k.at c in
      let t = deed_alike r c.deed (bounds_worded (length k.text) k.at c) (bounds-ordered (length k.text) k.at c) p.1 g in
      rw e (subst (λ b. SameTurn (turn_of w b c.deed) (kept_does k c.deed (decide_deed (sizes_of k) (slot_in k (name_given c.deed)) (given_of c.deed) r c.deed))) (sym (where_kept c p.0)) t)

pub turns_alike : TurnsAlike
unfolding TurnsAlike core
turns_alike w k (plain c) h e g = simple_alike w k h c e g
turns_alike w k (all_lines r like p c) h e g = absurd (false≢true e)
