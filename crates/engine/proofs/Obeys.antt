-- A command, from what is typed to its end. Assumes nothing.
use Rattle.std.proofs.Common.{◌≡◌, ℕ, zero, suc, ◌+◌, ◌-◌, ◌*◌, ◌<◌, ◌≤◌, Bool, true, false, not, ltb, leb, ◌⊎◌, List, [], ◌∷◌, ◌++◌, length, take, drop, sym, refl, ap, ◌∙◌, subst, inl, inr, arith, length-append}
use Rattle.std.proofs.lemmas.Bool.{true≢false, and_parts, and_from, and_left, le-ltb, ltb-false, lt-ltb, leb-true, le-leb}
use Rattle.plain.specs.Pattern.{pick, every, added_up, all_bytes}
use Rattle.plain.specs.Command.{Deed, Simple, plain, reads}
use Rattle.plain.specs.House.{Plain, short_all}
use Rattle.plain.specs.Device.{Device}
use Rattle.plain.specs.Promise.{goes_through}
use Rattle.plain.proofs.Basics.{In, every_in, every_by, every_append, added_append}
use Rattle.plain.proofs.Fair.{in_take}
use Rattle.journal.proofs.Machine.{after_did}
use Rattle.commands.specs.Kept.{Kept, kept_weight, lines_size, file_size, fit_line, fit_lines, fit_name}
use Rattle.commands.specs.Resolve.{good, command_bounds}
use Rattle.commands.specs.Plan.{Plan, Walk, skip, show, show_numbered, measure, glue, Update, same_as_before, current_only, the_text, the_file}
use Rattle.commands.specs.Turn as turn
use Rattle.commands.specs.Turn.{KeptTurn, kept_no, kept_turn, kept_does, carried_out, within_room, lines_given, name_given, slot_in, walked, walk_rows, more_rows, new_lines_of, kept_after, rows_of}
use Rattle.commands.specs.Smalls.{smalls_of}
use Rattle.commands.specs.Held.{Held, AsPlanned, PlansStand, ReadsWell, ReadsFew, span_of, grant, typed_turn}
use Rattle.commands.proofs.Files.{There, Missing, looked}
use Rattle.commands.proofs.Planned.{plans_stand}
use Rattle.commands.proofs.Readings.{reads_well, reads_few}
use Rattle.engine.specs.State.{House, Phase, Walking}
use Rattle.engine.specs.Fits.{Fits}
use Rattle.engine.specs.Packing.{lines_records}
use Rattle.engine.specs.Machine.{walks, went_at_once, quota_by, start_job, do_plan, walk_on, weigh, finish, slot_for, refuses}
use Rattle.engine.proofs.Facts.{Codec, Rest}
use Rattle.engine.proofs.Course.{Course, Leads, On-course}
use Rattle.engine.proofs.Courses.{course, turn-then, unlimited, grant-on}
use Rattle.engine.proofs.Finish.{rest_as, rest_small, finish_leads}
use Rattle.engine.proofs.Fetching.{walk_at, walk_with, job-walks, walked-long}
use Rattle.engine.proofs.Walking.{shown_walk, shown_walks, show_leads, measure_leads, skip_leads}
use Rattle.engine.proofs.Joining.{join_leads, joined_at}
use Rattle.engine.proofs.Kepts.{directory_few}
use Rattle.engine.proofs.Plans.{job-plan}
use Rattle.engine.proofs.PlanSums.{JobPlan, size_of, cost, shown_by, shows-lines}
use Rattle.engine.proofs.Weighing.{refuse_leads, job_for}
use Rattle.engine.proofs.Decided.{Outcome, too_long, full, done, outcome, slot_same, weigh_full, weigh-done}

-- WHAT IS PUT ON fits
in_drop : {A : Type 0} (n : ℕ) (x : A) (xs : List A) → In x (drop n xs) → In x xs
in_drop zero x xs h = h
in_drop (suc n) x [] h = h
in_drop (suc n) x (y ∷ xs) h = inr (in_drop n x xs h)

fit_given : (ls : List (List ℕ)) → every all_bytes ls ≡ true → short_all ls ≡ true → fit_lines ls ≡ true
fit_given [] e f = refl
fit_given (l ∷ ls) e f =
    let p = and_parts (all_bytes l) (every all_bytes ls) e in
    let q = and_parts (leb (length l) 1024) (short_all ls) f in
    and_from _ _ (and_from _ _ q.0 p.0) (fit_given ls p.1 q.1)

fit_bytes : (ls : List (List ℕ)) → fit_lines ls ≡ true → all_bytes (turn.glued_lines ls) ≡ true
fit_bytes [] e = refl
fit_bytes (l ∷ ls) e =
    let p = and_parts (fit_line l) (fit_lines ls) e in
    let q = and_parts (leb (length l) 1024) (all_bytes l) p.0 in
    every_append (λ b. ltb b 256) l (turn.glued_lines ls) ∙ and_from _ _ q.1 (fit_bytes ls p.1)

-- lines that are shown are among the rows
numbered-long : (m : ℕ) (ls : List (List ℕ)) → length (turn.numbered m ls) ≡ length ls
unfolding turn.numbered
numbered-long m [] = refl
numbered-long m (l ∷ ls) = ap suc (numbered-long (suc m) ls)

shown_most : (v : Walk) (m n : ℕ) (ls more : List (List ℕ)) → length ls ≡ n → shown_by v n ≤ length (pick (turn.too_long v ls) [] (walk_rows v m ls ++ more))
unfolding walk_rows turn.too_long
shown_most skip m n ls more e = omega arith
shown_most show m n ls more e = simp length-append (omega arith)
shown_most show_numbered m n ls more e = let a = numbered-long m ls in simp length-append (omega arith)
shown_most measure m n ls more e = omega arith
shown_most glue m n ls more e = omega arith

pick_more : (b : Bool) (x y z : ℕ) → x ≤ y → pick b x z ≤ pick b y z
pick_more true x y z h = h
pick_more false x y z h = omega arith

pick-shows : (b : Bool) (u v : KeptTurn) → (pick b u v).shows ≡ pick b u.shows v.shows
pick-shows true u v = refl
pick-shows false u v = refl

fit_part : (a n : ℕ) (ls : List (List ℕ)) → fit_lines ls ≡ true → fit_lines (take n (drop a ls)) ≡ true
fit_part a n ls e = every_by fit_line (take n (drop a ls)) (λ l h. every_in fit_line l ls e (in_drop a l ls (in_take n l (drop a ls) h)))

-- a slot weighs no more than what is kept
slot_light : (k : Kept) (nm : List ℕ) → (slot_in k nm).size ≤ kept_weight k
slot_light k nm = go (looked nm k.files 0 0)
  where
    go : There nm k.files (slot_in k nm) 0 0 ⊎ Missing nm k.files (slot_in k nm) 0 0 → (slot_in k nm).size ≤ kept_weight k
    go (inl h) =
        let a : (slot_in k nm).size ≡ lines_size h.f.lines = ap (λ z. z.size) h.slot in
        let b : added_up file_size k.files ≡ added_up file_size h.P + (file_size h.f + added_up file_size h.R) = ap (added_up file_size) h.split ∙ added_append file_size h.P (h.f ∷ h.R) in
        omega (arith, a, b)
    go (inr h) = let a : (slot_in k nm).size ≡ 0 = ap (λ z. z.size) h.slot in omega arith

-- THE PLAN carried out
module _ (codec : Codec) (R n : ℕ) (most : R ≤ 1048576) (w : Plain) (k : Kept) (t : List ℕ) (held : Held w k) (light : kept_weight k ≤ 32 * R)
    (c : Simple) (p : Plan) (e : reads t ≡ plain c ∷ []) (dp : turn.decision k c ≡ good p)
  where
    abbrev C : Course R w t
    C = course R w k t held light

    abbrev D : Deed
    D = c.deed

    A : AsPlanned k p c.deed
    unfolding PlansStand
    A = plans_stand k c p dp

    given_few : length (lines_given c.deed) ≤ 65535
    unfolding ReadsFew
    given_few = let a = reads_few t (plain c) e in let b = a.0 in let l = a.1 in omega arith

    P : JobPlan k (command_bounds (length k.text) k.at c) c.deed p
    P = job-plan k held.sound (directory_few R k light most) c p given_few dp

    turn_is : turn-then R w k t held light ≡ within_room R k (carried_out k p c.deed)
    unfolding kept_turn
    turn_is = ap (typed_turn R k) e ∙ ap (λ z. within_room R k (kept_does k c.deed z)) dp

    comes-out : Outcome R k c.deed p (turn-then R w k t held light)
    comes-out = subst (Outcome R k c.deed p) (sym turn_is) (outcome R k c.deed p)

    -- what it may cost
    turn-shows : (kept_turn k (plain c)).shows ≡ (carried_out k p c.deed).shows
    unfolding kept_turn
    turn-shows = ap (λ z. (kept_does k c.deed z).shows) dp

    shown-few : shown_by p.walk (p.upto - p.after) ≤ length (kept_turn k (plain c)).shows
    shown-few =
        subst (λ z. shown_by p.walk (p.upto - p.after) ≤ length z) (sym (turn-shows ∙ pick-shows (turn.too_long p.walk (walked k p)) (kept_no 7 k) (record { reply = 0; shows = rows_of k p; next = kept_after k p c.deed })))
        (shown_most p.walk (suc p.after) (p.upto - p.after) (walked k p) (more_rows p.rows k.files) (walked-long k p A.below A.there))

    grant-enough : cost p (new_lines_of k p (lines_given c.deed)) ≤ C.grant
    grant-enough =
        let a = P.grant in
        let b = shown-few in
        let z = pick_more (not (goes_through c.deed)) (256 + 256 * (span_of (command_bounds (length k.text) k.at c) + length (lines_given c.deed) + shown_by p.walk (p.upto - p.after))) (grant k c (kept_turn k (plain c)).shows) unlimited (omega arith) in
        subst (λ cs. cost p (new_lines_of k p (lines_given c.deed)) ≤ grant-on k cs) (sym e) (omega (arith, a, z))

    -- how it comes out, as the course says it
    abbrev Shown : List (List ℕ) → Type 0
    Shown rows = rows ≡ C.shown

    new-fits : turn.too_long p.walk (walked k p) ≡ false → (v : Walk) → p.walk ≡ v → fit_lines (turn.put_lines v (walked k p) (lines_given c.deed)) ≡ true
    unfolding turn.put_lines turn.too_long ReadsWell
    new-fits f v m = by v (subst (λ z. turn.too_long z (walked k p) ≡ false) m f)
      where
        given : fit_lines (lines_given c.deed) ≡ true
        given = fit_given (lines_given c.deed) (and_parts (every all_bytes (lines_given c.deed)) (fit_name (name_given c.deed)) (reads_well t (plain c) e)).0 P.short

        walked-fit : fit_lines (walked k p) ≡ true
        walked-fit = fit_part p.after (p.upto - p.after) k.text held.sound.lines_fit

        by : (v : Walk) → turn.too_long v (walked k p) ≡ false → fit_lines (turn.put_lines v (walked k p) (lines_given c.deed)) ≡ true
        by skip f = given
        by show f = given
        by show_numbered f = given
        by measure f = given
        by glue f = and_from _ _ (and_from _ _ (le-leb _ _ (ltb-false 1024 (length (turn.glued_lines (walked k p))) f)) (fit_bytes (walked k p) walked-fit)) refl

    new-few : (v : Walk) → length (turn.put_lines v (walked k p) (lines_given c.deed)) ≤ 65536
    unfolding turn.put_lines
    new-few skip = let a = given_few in omega arith
    new-few show = let a = given_few in omega arith
    new-few show_numbered = let a = given_few in omega arith
    new-few measure = let a = given_few in omega arith
    new-few glue = omega arith

    module _ (x : House) (d : Device) (rest : Rest codec R d x k) (fits : Fits x) where
      abbrev x₀ : House
      x₀ = start_job c (slot_for x c).size p x

      s : x.store.small ≡ smalls_of k
      s = (rest_small codec rest).small

      went-few : (a b : Bool) (m : ℕ) → pick a 0 (pick b m 0) ≤ m
      went-few true b m = omega arith
      went-few false true m = omega arith
      went-few false false m = omega arith

      fits₀ : Fits x₀
      unfolding ReadsWell
      fits₀ =
          let g = and_parts (every all_bytes (lines_given c.deed)) (fit_name (name_given c.deed)) (reads_well t (plain c) e) in
          let nm = and_parts (leb (length (name_given c.deed)) 64) (all_bytes (name_given c.deed)) g.1 in
          let sl = slot_light k (name_given c.deed) in
          let se : (slot_for x c).size ≡ (slot_in k (name_given c.deed)).size = ap (λ z. z.size) (slot_same k c x s) in
          let wf = went-few (walks p.walk) (ltb p.after p.upto) x.store.small.weight in
          let ww = fits.store.small.weight in
          record {
            tapes = fits.tapes;
            store = fits.store;
            job = record { plan = P.fits; name = leb-true _ _ nm.0; name_bytes = nm.1; size = omega (arith, se, sl) };
            walking = record { line = P.fits.after; part = omega arith; went = omega (arith, wf, ww); bytes_few = omega arith; bytes = refl };
            putting = record { part = omega arith };
            carrying = fits.carrying;
          }

      rest₀ : Rest codec R d x₀ k
      rest₀ = rest_as codec x.phase x₀.job x₀.walking x₀.putting x.carrying rest

      job_is : new_lines_of k p (lines_given c.deed) ≡ lines_given c.deed → x₀.job ≡ job_for k c.deed p
      job_is q = let z = ap (λ y. y.size) (slot_same k c x s) in let l = sym q in λ i. record { plan = p; name = name_given c.deed; size = z i; lines = l i }

      -- after the walk, as it comes out
      abbrev more-for : Outcome R k c.deed p (turn-then R w k t held light) → List (List ℕ)
      more-for (too_long f q) = []
      more-for (full f g q) = []
      more-for (done f g q) = more_rows p.rows k.files

      abbrev left_over : ℕ
      left_over = 130 + 6 * quota_by p.splice.source (size_of p) + 2 * suc (lines_records (new_lines_of k p (lines_given c.deed)))

      weighs : (o : Outcome R k c.deed p (turn-then R w k t held light)) → turn.too_long p.walk (walked k p) ≡ false → (p.update ≡ same_as_before → ⊥) →
          (y : House) {ss : List (List ℕ)} {r : ℕ} → Rest codec R d y k → Fits y → y.job ≡ job_for k c.deed p → y.walking.went ≡ lines_size (walked k p) →
          On-course codec R n C ss (more-for o) r left_over → Leads codec R n C (after_did d ss r (weigh y))
      weighs (too_long f q) g u y a b j v o = absurd (true≢false (sym f ∙ g))
      weighs (full f z q) g u y a b j v o =
          weigh_full codec R n most C k held light c.deed p A _ P y (a, b, j, v) z (sym (ap (λ m. m.reply) q)) (ap (λ m. m.next) q) o
      weighs (done f z q) g u y a b j v o =
          weigh-done codec R n most C k held light c.deed p A _ P y (a, b, j, v) z (sym (ap (λ m. m.reply) q)) (ap (λ m. m.next) q) (new-fits f p.walk refl) (new-few p.walk) u o

      -- THE WALK, as it comes out
      begin : {rows : List (List ℕ)} (j : ℕ) → rows ≡ C.shown → j ≤ C.grant → On-course codec R n C [] rows 0 j
      begin j q g = record { rows = q; count = omega arith }

      long : length (walked k p) ≡ p.upto - p.after
      long = walked-long k p A.below A.there

      enough : 3 * length (walked k p) + left_over ≤ C.grant
      enough = let a = grant-enough in omega (arith, long)

      -- rows of lines come first
      rows-begin : (o : Outcome R k c.deed p (turn-then R w k t held light)) → shows-lines p.walk ≡ false → (v : Walk) → p.walk ≡ v → more-for o ≡ C.shown
      unfolding walk_rows
      rows-begin (too_long f q) h v m = sym (ap (λ z. z.shows) q)
      rows-begin (full f g q) h v m = sym (ap (λ z. z.shows) q)
      rows-begin (done f g q) h v m = by v m (subst (λ z. shows-lines z ≡ false) m h) ∙ sym (ap (λ z. z.shows) q)
        where
          by : (v : Walk) → p.walk ≡ v → shows-lines v ≡ false → more_rows p.rows k.files ≡ rows_of k p
          by skip m h = ap (λ z. walk_rows z (suc p.after) (walked k p) ++ more_rows p.rows k.files) (sym m)
          by show m h = absurd (true≢false h)
          by show_numbered m h = absurd (true≢false h)
          by measure m h = ap (λ z. walk_rows z (suc p.after) (walked k p) ++ more_rows p.rows k.files) (sym m)
          by glue m h = ap (λ z. walk_rows z (suc p.after) (walked k p) ++ more_rows p.rows k.files) (sym m)

      not-long : (v : Walk) → p.walk ≡ v → (v ≡ glue → ⊥) → turn.too_long p.walk (walked k p) ≡ false
      unfolding turn.too_long
      not-long skip m h = ap (λ z. turn.too_long z (walked k p)) m
      not-long show m h = ap (λ z. turn.too_long z (walked k p)) m
      not-long show_numbered m h = ap (λ z. turn.too_long z (walked k p)) m
      not-long measure m h = ap (λ z. turn.too_long z (walked k p)) m
      not-long glue m h = absurd (h refl)

      given-only : (v : Walk) → p.walk ≡ v → (v ≡ glue → ⊥) → new_lines_of k p (lines_given c.deed) ≡ lines_given c.deed
      unfolding turn.put_lines
      given-only skip m h = ap (λ z. turn.put_lines z (walked k p) (lines_given c.deed)) m
      given-only show m h = ap (λ z. turn.put_lines z (walked k p) (lines_given c.deed)) m
      given-only show_numbered m h = ap (λ z. turn.put_lines z (walked k p) (lines_given c.deed)) m
      given-only measure m h = ap (λ z. turn.put_lines z (walked k p) (lines_given c.deed)) m
      given-only glue m h = absurd (h refl)

      -- lines that are shown are neither joined nor kept anew
      shown-short : (b : Bool) → p.walk ≡ shown_walk b → turn.too_long p.walk (walked k p) ≡ false
      unfolding turn.too_long
      shown-short true m = ap (λ z. turn.too_long z (walked k p)) m
      shown-short false m = ap (λ z. turn.too_long z (walked k p)) m

      shown-given : (b : Bool) → p.walk ≡ shown_walk b → new_lines_of k p (lines_given c.deed) ≡ lines_given c.deed
      unfolding turn.put_lines
      shown-given true m = ap (λ z. turn.put_lines z (walked k p) (lines_given c.deed)) m
      shown-given false m = ap (λ z. turn.put_lines z (walked k p) (lines_given c.deed)) m

      shown-lines : (b : Bool) → p.walk ≡ shown_walk b → shows-lines p.walk ≡ true
      shown-lines true m = ap shows-lines m
      shown-lines false m = ap shows-lines m

      shown-room : (b : Bool) → p.walk ≡ shown_walk b → turn.no_room R k (kept_after k p c.deed) ≡ false
      shown-room b m = let q = P.light (shown-lines b m) in and_left _ _ (le-ltb (kept_weight k) (kept_weight (kept_after k p c.deed)) (omega (arith, q)))

      showing : (b : Bool) → p.walk ≡ shown_walk b → (p.update ≡ same_as_before → ⊥) → (o : Outcome R k c.deed p (turn-then R w k t held light)) → Leads codec R n C (after_did d [] 0 (walk_on x₀))
      showing b m u (too_long f q) = absurd (true≢false (sym f ∙ shown-short b m))
      showing b m u (full f g q) = absurd (true≢false (sym g ∙ shown-room b m))
      showing b m u (done f g q) =
          let j = job_is (shown-given b m) in
          let r : walk_rows (shown_walk b) (suc p.after) (walked k p) ++ more_rows p.rows k.files ≡ C.shown = ap (λ z. walk_rows z (suc p.after) (walked k p) ++ more_rows p.rows k.files) (sym m) ∙ sym (ap (λ z. z.shows) q) in
          subst (λ y. Leads codec R n C (after_did d [] 0 (walk_on y))) (sym (job-walks c (slot_for x c).size p x (ap walks m ∙ shown_walks b)))
          (show_leads codec R n C held rest₀ fits₀ b x.phase [] 0 m A.below A.there (begin (3 * length (walked k p) + left_over) r enough)
          (λ ph ss i z a y. weighs (done f g q) f u (walk_at ph p.upto 0 (lines_size (walked k p)) [] x₀) a z j refl y))

      by-walk : (v : Walk) → p.walk ≡ v → (p.update ≡ same_as_before → ⊥) → (o : Outcome R k c.deed p (turn-then R w k t held light)) → Leads codec R n C (after_did d [] 0 (walk_on x₀))
      unfolding turn.too_long turn.put_lines
      by-walk skip m u o =
          let j = job_is (given-only skip m (λ q. let z : ◌≡◌ {A = ℕ} 0 1 = cc in omega arith)) in
          let v : x₀.walking.went ≡ lines_size (walked k p) = ap (λ z. went_at_once p z) s ∙ P.went (ap walks m) in
          skip_leads codec R n C held rest₀ fits₀ [] 0 m
          (weighs o (not-long skip m (λ q. let z : ◌≡◌ {A = ℕ} 0 1 = cc in omega arith)) u x₀ rest₀ fits₀ j v (begin left_over (rows-begin o (ap shows-lines m) skip m) (let a = enough in omega arith)))
      by-walk measure m u o =
          let j = job_is (given-only measure m (λ q. let z : ◌≡◌ {A = ℕ} 0 1 = cc in omega arith)) in
          subst (λ y. Leads codec R n C (after_did d [] 0 (walk_on y))) (sym (job-walks c (slot_for x c).size p x (ap walks m)))
          (measure_leads codec R n C held rest₀ fits₀ x.phase [] 0 m A.below A.there (begin (3 * length (walked k p) + left_over) (rows-begin o (ap shows-lines m) measure m) enough)
          (λ ph ss r f a q. weighs o (not-long measure m (λ z. let i : ◌≡◌ {A = ℕ} 0 1 = cc in omega arith)) u (walk_at ph p.upto 0 (lines_size (walked k p)) [] x₀) a f j refl q))
      by-walk show m u o = showing false m u o
      by-walk show_numbered m u o = showing true m u o
      by-walk glue m u o =
          let started : x₀ ≡ walk_at x.phase p.after 0 0 [] x₀ = job-walks c (slot_for x c).size p x (ap walks m) in
          subst (λ y. Leads codec R n C (after_did d [] 0 (walk_on y))) (sym started)
          (join_leads codec R n C held rest₀ fits₀ [] x.phase 0 m A.below A.there (begin (3 * length (walked k p) + left_over) (rows-begin o (ap shows-lines m) glue m) enough)
          (λ l ph r f a q. weighs o (joined-short l) u (joined_at ph p.upto (lines_size (walked k p)) (turn.glued_lines (walked k p)) x₀) a f joined-job refl q)
          (λ l ph v r f a q. long-refused o (joined-long l) ph v r f a q))
        where
          joined-short : length (turn.glued_lines (walked k p)) ≤ 1024 → turn.too_long p.walk (walked k p) ≡ false
          joined-short l = ap (λ z. turn.too_long z (walked k p)) m ∙ le-ltb 1024 (length (turn.glued_lines (walked k p))) l

          joined-long : 1024 < length (turn.glued_lines (walked k p)) → turn.too_long p.walk (walked k p) ≡ true
          joined-long l = ap (λ z. turn.too_long z (walked k p)) m ∙ lt-ltb 1024 (length (turn.glued_lines (walked k p))) l

          joined-job : record { plan = p; name = name_given c.deed; size = (slot_for x c).size; lines = turn.glued_lines (walked k p) ∷ [] } ≡ job_for k c.deed p
          joined-job =
              let z = ap (λ y. y.size) (slot_same k c x s) in
              let l : turn.glued_lines (walked k p) ∷ [] ≡ new_lines_of k p (lines_given c.deed) = ap (λ y. turn.put_lines y (walked k p) (lines_given c.deed)) (sym m) in
              λ i. record { plan = p; name = name_given c.deed; size = z i; lines = l i }

          long-refused : (o : Outcome R k c.deed p (turn-then R w k t held light)) → turn.too_long p.walk (walked k p) ≡ true → (ph : Phase) (v : Walking) (r : ℕ) → Fits (walk_with ph v x₀) → Rest codec R d (walk_with ph v x₀) k →
              On-course codec R n C [] (more-for o) r left_over → Leads codec R n C (after_did d [] r (refuses 7 (walk_with ph v x₀)))
          long-refused (full f g q) h ph v r z a y = absurd (true≢false (sym h ∙ f))
          long-refused (done f g q) h ph v r z a y = absurd (true≢false (sym h ∙ f))
          long-refused (too_long f q) h ph v r z a y =
              refuse_leads codec R n C 7 (walk_with ph v x₀) refl (sym (ap (λ i. i.reply) q)) (subst (λ i. Rest codec R d (walk_with ph v x₀) i) (sym (ap (λ i. i.next) q)) a) z y

      -- WHAT IS ONLY SAID
      only-said : p.update ≡ same_as_before → (o : Outcome R k c.deed p (turn-then R w k t held light)) → Leads codec R n C (after_did d [] 0 (finish x₀))
      only-said u (too_long f q) = absurd (true≢false (sym f ∙ not-long skip (P.still u).0 (λ z. let i : ◌≡◌ {A = ℕ} 0 1 = cc in omega arith)))
      only-said u (full f g q) =
          let same = ap kept_weight (P.still u).1 in
          absurd (true≢false (sym g ∙ and_left _ _ (le-ltb (kept_weight k) (kept_weight (kept_after k p c.deed)) (omega (arith, same)))))
      only-said u (done f g q) =
          let same : C.kept ≡ k = ap (λ i. i.next) q ∙ (P.still u).1 in
          let r : more_rows p.rows C.kept.files ≡ C.shown = ap (λ z. more_rows p.rows z.files) same ∙ rows-begin (done f g q) (ap shows-lines (P.still u).0) skip (P.still u).0 in
          finish_leads codec R n C x₀ (subst (λ z. Rest codec R d x₀ z) (sym same) rest₀) fits₀ (begin 0 r (omega arith)) (sym (ap (λ i. i.reply) q))

      by-update : (q : Update) → p.update ≡ q → Leads codec R n C (after_did d [] 0 (do_plan q x₀))
      by-update same_as_before u = only-said u comes-out
      by-update current_only u = by-walk p.walk refl (λ z. let i : ◌≡◌ {A = ℕ} 0 1 = cc in omega arith) comes-out
      by-update the_text u = by-walk p.walk refl (λ z. let i : ◌≡◌ {A = ℕ} 0 1 = cc in omega arith) comes-out
      by-update (the_file m) u = by-walk p.walk refl (λ z. let i : ◌≡◌ {A = ℕ} 0 1 = cc in omega arith) comes-out

      pub planned-leads : Leads codec R n C (after_did d [] 0 (do_plan p.update x₀))
      planned-leads = by-update p.update refl
