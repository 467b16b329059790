-- A walk on which lines are shown or joined is of a command without lines given. Assumes nothing.
use Rattle.std.proofs.Common.{◌≡◌, ℕ, Bool, true, false, leb, [], refl, subst}
use Rattle.std.proofs.lemmas.Bool.{false≢true}
use Rattle.plain.specs.Command.{Deed, append, insert, change, delete, join, move, copy, mark, print, number, where_is, swap, go_to, undo, redo, save, edit, load, files, bad, Simple}
use Rattle.commands.specs.Resolve.{Checked, good, refused, then, check, Bounds, command_bounds, there}
use Rattle.commands.specs.Plan.{Sizes, Slot, Given, Plan, Walk, skip, show, show_numbered, measure, glue, known, decide, decide_deed}
use Rattle.commands.specs.Turn.{lines_given}

abbrev pub gives_none : Walk → Bool
gives_none skip = false
gives_none show = true
gives_none show_numbered = true
gives_none measure = false
gives_none glue = true

abbrev NoneGiven : Deed → Checked Plan → Type 0
NoneGiven d (good p) = gives_none p.walk ≡ true → lines_given d ≡ []
NoneGiven d (refused n) = Unit {0}

check_none : (d : Deed) (t : Bool) (n : ℕ) (x : Checked Plan) → NoneGiven d x → NoneGiven d (check t n x)
check_none d true n x h = h
check_none d false n x h = tt

then_none : (d : Deed) (r : Checked Bounds) (f : Bounds → Checked Plan) → ((b : Bounds) → NoneGiven d (f b)) → NoneGiven d (then r f)
then_none d (good b) f h = h b
then_none d (refused n) f h = tt

always_none : (d : Deed) (x : Checked Plan) → lines_given d ≡ [] → NoneGiven d x
always_none d (good p) e = λ h. e
always_none d (refused n) e = tt

deed_none : (s : Sizes) (f : Slot) (g : Given) (r : Checked Bounds) (d : Deed) → NoneGiven d (decide_deed s f g r d)
unfolding decide_deed lines_given
deed_none s f g r (append ls) = then_none (append ls) r _ (λ b. check_none (append ls) g.short 7 _ (check_none (append ls) (leb b.last s.count) 4 _ (λ h. absurd (false≢true h))))
deed_none s f g r (insert ls) = then_none (insert ls) r _ (λ b. check_none (insert ls) g.short 7 _ (check_none (insert ls) (leb b.last s.count) 4 _ (λ h. absurd (false≢true h))))
deed_none s f g r (change ls) = then_none (change ls) r _ (λ b. check_none (change ls) g.short 7 _ (check_none (change ls) (there s.count b) 4 _ (λ h. absurd (false≢true h))))
deed_none s f g r delete = always_none delete _ refl
deed_none s f g r join = always_none join _ refl
deed_none s f g r (move a) = tt
deed_none s f g r (copy a) = tt
deed_none s f g r (mark c) = tt
deed_none s f g r print = always_none print _ refl
deed_none s f g r number = always_none number _ refl
deed_none s f g r where_is = always_none where_is _ refl
deed_none s f g r (swap p q i) = tt
deed_none s f g r go_to = always_none go_to _ refl
deed_none s f g r undo = tt
deed_none s f g r redo = tt
deed_none s f g r (save n) = always_none (save n) _ refl
deed_none s f g r (edit n) = always_none (edit n) _ refl
deed_none s f g r (load n) = tt
deed_none s f g r files = λ h. refl
deed_none s f g r bad = tt

pub shows-nothing-given : (s : Sizes) (f : Slot) (g : Given) (c : Simple) (p : Plan) → decide s f g c ≡ good p → gives_none p.walk ≡ true → lines_given c.deed ≡ []
unfolding decide
shows-nothing-given s f g c p e =
    subst (NoneGiven c.deed) e (check_none c.deed (known c) 2 _ (deed_none s f g (command_bounds s.count s.at c) c.deed))
