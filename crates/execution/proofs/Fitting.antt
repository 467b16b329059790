-- How large the numbers of a plan can be, whatever the memory holds. Assumes nothing.
use Rattle.std.proofs.Common.{◌≡◌, ℕ, zero, suc, ◌+◌, ◌-◌, ◌<◌, ◌≤◌, Bool, true, false, ◌&&◌, eqb, ltb, leb, List, [], ◌∷◌, length, drop, sym, refl, subst, arith}
use Rattle.std.proofs.lemmas.Bool.{and_parts, leb-true, eqb-true}
use Rattle.plain.specs.Pattern.{or, added_up, same}
use Rattle.plain.specs.Command as command
use Rattle.plain.specs.Command.{Deed, Simple}
use Rattle.journal.specs.Log as log
use Rattle.journal.specs.Small.{Entry}
use Rattle.commands.specs.Resolve.{Checked, good, refused, then, check, Bounds, command_bounds, there}
use Rattle.commands.specs.Plan.{Plan, Walk, skip, show, show_numbered, measure, glue, Rows, no_row, a_number, all_files, Sizes, Slot, slot_of, look_up, Given, at_gone, writable, text_plan, show_plan, say_plan, file_plan, known, decide, decide_deed}
use Rattle.commands.proofs.Resolved.{Ordered, bounds-ordered, pick_both}
use Rattle.memory.specs.Abstract.{files_at, files_of}
use Rattle.memory.specs.Sections.{files_in}
use Rattle.memory.proofs.Filing.{length-files}
use Rattle.commits.specs.Bounds.{Wide, WideSource, WideRows, WidePlan}
use Rattle.execution.specs.Plans.{source_code, rows_code, plan_code}

-- FILES in the table
abbrev AllSmall : List Entry → Type 0
AllSmall [] = Unit {0}
AllSmall (e ∷ es) = (e.lines < 4294967296) × ((e.size < 4294967296) × AllSmall es)

files-small : (n : ℕ) (s : List ℕ) → AllSmall (files_at n s)
unfolding files_at
files-small zero s = tt
files-small (suc n) s = (omega arith, (omega arith, files-small n (drop 67 s)))

pub record Found (f : Slot) (total files : ℕ) : Type 0 where
  pub before : f.before ≤ total
  pub lines : f.lines < 4294967296
  pub size : f.size < 4294967296
  pub place : f.place ≤ files

looked : (name : List ℕ) (p b : ℕ) (es : List Entry) → AllSmall es → Found (look_up name p b es) (b + added_up (λ e. e.lines) es) (p + length es)
unfolding look_up
looked name p b [] a = record { before = omega arith; lines = omega arith; size = omega arith; place = omega arith }
looked name p b (e ∷ es) a =
    let r = looked name (suc p) (b + e.lines) es a.1.1 in
    pick_both (λ f. Found f (b + (e.lines + added_up (λ x. x.lines) es)) (p + suc (length es))) (same e.name name) (slot_of true p b e.lines e.size)
    (look_up name (suc p) (b + e.lines) es)
    (record { before = omega arith; lines = a.0; size = a.1.0; place = omega arith })
    (record { before = omega (arith, r.before); lines = r.lines; size = r.size; place = omega (arith, r.place) })

pub found_fits : (name : List ℕ) (files : ℕ) (m : List ℕ) (f : Slot) → f ≡ look_up name 0 0 (files_of files m) → Found f (added_up (λ e. e.lines) (files_of files m)) files
found_fits name files m f e =
    let r = looked name 0 0 (files_of files m) (files-small files (files_in m)) in
    let n = length-files files (files_in m) in
    subst (λ x. Found x (added_up (λ y. y.lines) (files_of files m)) files) (sym e)
    (record { before = omega (arith, r.before); lines = r.lines; size = r.size; place = omega (arith, r.place, n) })

-- PLANS
abbrev pub GoodWide : Checked Plan → Type 0
GoodWide (good p) = WidePlan (plan_code p)
GoodWide (refused k) = Unit {0}

good-check : (t : Bool) (k : ℕ) (x : Checked Plan) → (t ≡ true → GoodWide x) → GoodWide (check t k x)
good-check true k x h = h refl
good-check false k x h = tt

good-then : (r : Checked Bounds) (f : Bounds → Checked Plan) → ((b : Bounds) → r ≡ good b → GoodWide (f b)) → GoodWide (then r f)
good-then (good b) f h = h b refl
good-then (refused k) f h = tt

module _ (s : Sizes) (f : Slot) (g : Given) (sc : s.count < 4294967296) (sa : s.at < 4294967296) (so : s.offset ≤ 274877906944)
    (x : Found f 274877906944 64) (gm : g.many < 4294967296) where
  text_wide : (w : Walk) (a b : ℕ) (src : log.Source) (came at : ℕ) (rows : Rows) → a ≤ b → b ≤ s.count → WideSource (source_code src) → came < 4294967296 → Wide at
      → WideRows (rows_code rows) → WidePlan (plan_code (text_plan s w a b src came at rows))
  text_wide w a b src came at rows h k ws c wa wr =
      record { after = omega arith; upto = omega arith; update = tt; from = omega arith; gone = omega arith; source = ws; came = omega arith; count = omega arith; current = wa; rows = wr }

  show_wide : (w : Walk) (a b : ℕ) → a ≤ b → b ≤ s.count → WidePlan (plan_code (show_plan s w a b))
  show_wide w a b h k =
      record { after = omega arith; upto = omega arith; update = tt; from = omega arith; gone = omega arith; source = tt; came = omega arith; count = omega arith; current = omega arith; rows = tt }

  say_wide : (rows : Rows) → WideRows (rows_code rows) → WidePlan (plan_code (say_plan s rows))
  say_wide rows wr =
      record { after = omega arith; upto = omega arith; update = tt; from = omega arith; gone = omega arith; source = tt; came = omega arith; count = omega arith; current = omega arith; rows = wr }

  file_wide : (a b : ℕ) → a ≤ b → b ≤ s.count → WidePlan (plan_code (file_plan s f a b))
  file_wide a b h k = record {
    after = omega arith;
    upto = omega arith;
    update = omega (arith, x.place);
    from = omega (arith, x.before);
    gone = omega (arith, x.lines);
    source = (omega arith, omega arith);
    came = omega arith;
    count = omega arith;
    current = omega arith;
    rows = omega arith;
  }

  there-both : (b : Bounds) → there s.count b ≡ true → (b.first ≤ b.last) × (b.last ≤ s.count)
  there-both b t =
      let p = and_parts (leb 1 b.first && leb b.first b.last) (leb b.last s.count) t in
      (leb-true b.first b.last (and_parts (leb 1 b.first) (leb b.first b.last) p.0).1, leb-true b.last s.count p.1)

  gone_wide : (b : Bounds) → b.first ≤ s.count → Wide (at_gone s.count b)
  gone_wide b h = pick_both (λ (n : ℕ). Wide n) (ltb b.first _) b.first (s.count - (suc b.last - b.first)) (omega arith) (omega arith)

  writable_in : (t u : Bool) (b : Bounds) → or t u ≡ true → (t ≡ true → b.last ≤ s.count) → (u ≡ true → b.last ≤ s.count) → b.last ≤ s.count
  writable_in true u b e h k = h refl
  writable_in false u b e h k = k e

  writable_last : (b : Bounds) → writable s.count b ≡ true → b.last ≤ s.count
  writable_last b e =
      writable_in (there s.count b) (eqb s.count 0 && eqb b.last 0) b e (λ t. (there-both b t).1)
      (λ t. let z = eqb-true b.last 0 (and_parts (eqb s.count 0) (eqb b.last 0) t).1 in omega arith)

  deed_wide : (r : Checked Bounds) (d : Deed) → Ordered r → GoodWide (decide_deed s f g r d)
  unfolding decide_deed
  deed_wide r (command.append ls) o =
      good-then r _ (λ b e. good-check g.short 7 _ (λ t. good-check (leb b.last s.count) 4 _ (λ u.
      let h = leb-true b.last s.count u in
      text_wide skip b.last b.last log.new_entries g.many (b.last + g.many) no_row (omega arith) h tt gm (omega arith) tt)))
  deed_wide r (command.insert ls) o =
      good-then r _ (λ b e. good-check g.short 7 _ (λ t. good-check (leb b.last s.count) 4 _ (λ u.
      let h = leb-true b.last s.count u in
      text_wide skip (b.last - 1) (b.last - 1) log.new_entries g.many _ no_row (omega arith) (omega arith) tt gm
      (pick_both (λ (n : ℕ). Wide n) (eqb g.many 0) b.last (b.last - 1 + g.many) (omega arith) (omega arith)) tt)))
  deed_wide r (command.change ls) o =
      good-then r _ (λ b e. good-check g.short 7 _ (λ t. good-check (there s.count b) 4 _ (λ u.
      let h = there-both b u in let h₀ = h.0 in let h₁ = h.1 in
      text_wide measure (b.first - 1) b.last log.new_entries g.many _ no_row (omega arith) h₁ tt gm
      (pick_both (λ (n : ℕ). Wide n) (eqb g.many 0) (at_gone s.count b) (b.first - 1 + g.many) (gone_wide b (omega arith)) (omega arith)) tt)))
  deed_wide r command.delete o =
      good-then r _ (λ b e. good-check (there s.count b) 4 _ (λ u.
      let h = there-both b u in let h₀ = h.0 in let h₁ = h.1 in
      text_wide measure (b.first - 1) b.last log.no_entries 0 _ no_row (omega arith) h₁ tt (omega arith) (gone_wide b (omega arith)) tt))
  deed_wide r command.join o =
      good-then r _ (λ b e. good-check (there s.count b) 4 _ (λ u.
      let h = there-both b u in let h₀ = h.0 in let h₁ = h.1 in
      text_wide glue (b.first - 1) b.last log.new_entries 1 b.first no_row (omega arith) h₁ tt (omega arith) (omega arith) tt))
  deed_wide r (command.move a) o = tt
  deed_wide r (command.copy a) o = tt
  deed_wide r (command.mark c) o = tt
  deed_wide r command.print o =
      good-then r _ (λ b e. good-check (there s.count b) 4 _ (λ u.
      let h = there-both b u in let h₀ = h.0 in let h₁ = h.1 in show_wide show (b.first - 1) b.last (omega arith) h₁))
  deed_wide r command.number o =
      good-then r _ (λ b e. good-check (there s.count b) 4 _ (λ u.
      let h = there-both b u in let h₀ = h.0 in let h₁ = h.1 in show_wide show_numbered (b.first - 1) b.last (omega arith) h₁))
  deed_wide r command.where_is o =
      good-then r _ (λ b e. good-check (leb b.last s.count) 4 _ (λ u.
      let h = leb-true b.last s.count u in say_wide (a_number b.last) (omega arith)))
  deed_wide r (command.swap p q k) o = tt
  deed_wide r command.go_to o =
      good-then r _ (λ b e. good-check (leb 1 b.last && leb b.last s.count) 4 _ (λ u.
      let h = leb-true b.last s.count (and_parts (leb 1 b.last) (leb b.last s.count) u).1 in show_wide show (b.last - 1) b.last (omega arith) h))
  deed_wide r command.undo o = tt
  deed_wide r command.redo o = tt
  deed_wide r (command.save n) o =
      good-check (or f.found (ltb f.place 64)) 7 _ (λ t. good-then r _ (λ b e. good-check (writable s.count b) 4 _ (λ u.
      let h = writable_last b u in
      let k : b.first ≤ suc b.last = subst Ordered e o in
      file_wide (b.first - 1) b.last (omega arith) h)))
  deed_wide r (command.edit n) o =
      good-check f.found 3 _ (λ t.
      text_wide skip 0 s.count (log.copied f.before (f.before + f.lines)) f.lines f.lines (a_number f.lines) (omega arith) (omega arith)
      (omega (arith, x.before), omega (arith, x.before, x.lines)) x.lines (omega (arith, x.lines)) (omega (arith, x.lines)))
  deed_wide r (command.load n) o = tt
  deed_wide r command.files o = say_wide all_files tt
  deed_wide r command.bad o = tt

  pub decided_wide : (c : Simple) → GoodWide (decide s f g c)
  unfolding decide
  decided_wide c = good-check (known c) 2 _ (λ t. deed_wide (command_bounds s.count s.at c) c.deed (bounds-ordered s.count s.at c))

pub found_within : (name : List ℕ) (files : ℕ) (m : List ℕ) (f : Slot) (offset : ℕ) → f ≡ look_up name 0 0 (files_of files m) → offset ≡ added_up (λ e. e.lines) (files_of files m)
    → offset ≤ 274877906944 → files ≤ 64 → Found f 274877906944 64
found_within name files m f offset e g h k =
    let r = found_fits name files m f e in
    record { before = omega (arith, r.before, g, h); lines = r.lines; size = r.size; place = omega (arith, r.place, k) }
