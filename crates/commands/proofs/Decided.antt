-- The decision, step by step as the code makes it. Assumes nothing.
use Rattle.std.proofs.Common.{◌≡◌, ℕ, Bool, true, false, List, Ok, Err, Result, sym, refl, ap, ◌∙◌, subst, Bor}
use Rattle.std.proofs.lemmas.Bool.{false≢true, and_parts}
use Rattle.plain.specs.Command.{Simple}
use Rattle.plain.specs.House.{plain_range, core_deed}
use Rattle.typed.specs.declared.deeds.Deed.{Deed}
use Rattle.typed.specs.declared.deeds.Deed.TheVariants as deed
use Rattle.typed.specs.declared.commands.Simple as typed_simple
use Rattle.typed.specs.Meaning.{deed_of, simple_of}
use Rattle.commands.specs.declared.refusal.Refusal.{Refusal}
use Rattle.commands.specs.declared.bounds.Bounds as code_bounds
use Rattle.commands.specs.Resolve.{Checked, good, refused, then, Bounds, command_bounds}
use Rattle.commands.specs.Plan.{Sizes, Slot, Given, known, decide, decide_deed, decide_lines, decide_save, decide_edit, say_plan, all_files}
use Rattle.commands.specs.Code.{checked_by, bounds_as, RangeOrdered}
use Rattle.commands.proofs.Resolved.{Ordered, bounds-ordered}

pub ordered_from : (r : Result code_bounds.Bounds Refusal) (x : Checked Bounds) → checked_by bounds_as r ≡ x → Ordered x → RangeOrdered r
ordered_from (Ok b) x e o = subst (λ y. Ordered y) (sym e) o
ordered_from (Err k) x e o = tt

pub range-ordered : (r : Result code_bounds.Bounds Refusal) (count at : ℕ) (c : Simple) → checked_by bounds_as r ≡ command_bounds count at c → RangeOrdered r
range-ordered r count at c e = ordered_from r (command_bounds count at c) e (bounds-ordered count at c)

module _ (s : Sizes) (f : Slot) (g : Given) (c : Simple) where
  pub decide_unknown : known c ≡ false → refused 2 ≡ decide s f g c
  unfolding decide
  decide_unknown e = rw e

  pub decide-known : known c ≡ true → decide s f g c ≡ decide_deed s f g (command_bounds s.count s.at c) c.deed
  unfolding decide
  decide-known e = rw e

pub known_by : (t : Bool) (c : Simple) → t ≡ known c → t ≡ true → known c ≡ true
known_by t c e h = sym e ∙ h

pub core-known : (c : Simple) → known c ≡ true → core_deed c.deed ≡ true
core-known c e = (and_parts (plain_range c.range) (core_deed c.deed) e).1

-- a deed that isn't about files looks at the range first
pub decide-then : (s : Sizes) (f : Slot) (g : Given) (r : Checked Bounds) (d : Deed) → core_deed (deed_of d) ≡ true →
    ((n : Bor (List ℕ)) → d ≡ deed.Write n → ⊥) → ((n : Bor (List ℕ)) → d ≡ deed.Edit n → ⊥) → (d ≡ deed.Files → ⊥) →
    decide_deed s f g r (deed_of d) ≡ then r (λ b. decide_lines s g b (deed_of d))
unfolding core_deed decide_deed decide_lines
decide-then s f g r (deed.Append ls) e p q t = refl
decide-then s f g r (deed.Insert ls) e p q t = refl
decide-then s f g r (deed.Change ls) e p q t = refl
decide-then s f g r deed.Delete e p q t = refl
decide-then s f g r deed.Join e p q t = refl
decide-then s f g r (deed.Move a) e p q t = absurd (false≢true e)
decide-then s f g r (deed.Copy a) e p q t = absurd (false≢true e)
decide-then s f g r (deed.Mark k) e p q t = absurd (false≢true e)
decide-then s f g r deed.Print e p q t = refl
decide-then s f g r deed.Number e p q t = refl
decide-then s f g r deed.LineNumber e p q t = refl
decide-then s f g r (deed.Substitute a b k) e p q t = absurd (false≢true e)
decide-then s f g r deed.GoTo e p q t = refl
decide-then s f g r deed.Undo e p q t = absurd (false≢true e)
decide-then s f g r deed.Redo e p q t = absurd (false≢true e)
decide-then s f g r (deed.Write n) e p q t = absurd (p n refl)
decide-then s f g r (deed.Edit n) e p q t = absurd (q n refl)
decide-then s f g r (deed.Read n) e p q t = absurd (false≢true e)
decide-then s f g r deed.Files e p q t = absurd (t refl)

-- what the code finds out one after the other, put together
module _ (s : Sizes) (f : Slot) (g : Given) (x : typed_simple.Simple) (r : Checked Bounds) (k : known (simple_of x) ≡ true) (e : r ≡ command_bounds s.count s.at (simple_of x)) where
  whole : decide_deed s f g r (deed_of x.deed) ≡ decide s f g (simple_of x)
  whole = ap (λ z. decide_deed s f g z (deed_of x.deed)) e ∙ sym (decide-known s f g (simple_of x) k)

  pub save_decided : (n : Bor (List ℕ)) → x.deed ≡ deed.Write n → decide_save s f r ≡ decide s f g (simple_of x)
  unfolding decide_deed
  save_decided n d = ap (λ z. decide_deed s f g r (deed_of z)) (sym d) ∙ whole

  pub edit_decided : (n : Bor (List ℕ)) → x.deed ≡ deed.Edit n → decide_edit s f ≡ decide s f g (simple_of x)
  unfolding decide_deed
  edit_decided n d = ap (λ z. decide_deed s f g r (deed_of z)) (sym d) ∙ whole

  pub files_decided : x.deed ≡ deed.Files → good (say_plan s all_files) ≡ decide s f g (simple_of x)
  unfolding decide_deed
  files_decided d = ap (λ z. decide_deed s f g r (deed_of z)) (sym d) ∙ whole

  pub lines_decided : ((n : Bor (List ℕ)) → x.deed ≡ deed.Write n → ⊥) → ((n : Bor (List ℕ)) → x.deed ≡ deed.Edit n → ⊥) → (x.deed ≡ deed.Files → ⊥) →
      then r (λ b. decide_lines s g b (deed_of x.deed)) ≡ decide s f g (simple_of x)
  lines_decided p q t = sym (decide-then s f g r x.deed (core-known (simple_of x) k) p q t) ∙ whole
