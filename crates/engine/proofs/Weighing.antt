-- After the walk: whether there is room, and what is brought. Assumes nothing.
use Rattle.std.proofs.Common.{◌≡◌, ℕ, suc, ◌+◌, ◌*◌, ◌≤◌, Bool, true, false, ◌&&◌, ltb, ◌⊎◌, List, [], ◌∷◌, ◌++◌, length, take, drop, sym, refl, ap, ◌∙◌, subst, inl, inr, arith}
use lib.ListN.{length-map}
use Rattle.std.proofs.lemmas.Bool.{ltb-true}
use Rattle.plain.specs.Pattern.{pick}
use Rattle.plain.specs.Command.{Deed}
use Rattle.plain.specs.House.{Plain}
use Rattle.plain.specs.Device.{Device}
use Rattle.plain.specs.Run.{refusal_end}
use Rattle.plain.proofs.Basics.{in_right, every_in}
use Rattle.journal.specs.Log.{apply}
use Rattle.journal.specs.Small.{Entry, Small, News, Also, nothing_else, push, slot, updated, pushed}
use Rattle.journal.proofs.Machine.{after_did, is_over}
use Rattle.commands.specs.Kept.{Kept, kept_weight, lines_size, directory, fit_lines, Sound}
use Rattle.commands.specs.Resolve.{Checked, Bounds}
use Rattle.commands.specs.Plan.{Plan, Update, same_as_before, current_only, the_text, the_file}
use Rattle.commands.specs.Turn as turn
use Rattle.commands.specs.Turn.{lines_given, name_given, slot_in, walked, new_lines_of, lines_that_come, kept_after, more_rows}
use Rattle.commands.specs.Smalls.{smalls_of, news_by, smalls_weight}
use Rattle.commands.specs.Held.{AsPlanned, SmallsWeigh}
use Rattle.commands.proofs.Planned.{smalls_weigh}
use Rattle.engine.specs.State.{House, Job, idle}
use Rattle.engine.specs.Fits.{Fits, Word, words, entry_fits, SmallFits, NewsFits, AlsoFits, ReplayFits, UpdateFits}
use Rattle.engine.specs.Packing.{lines_records, packed, packs}
use Rattle.engine.specs.Machine.{came_weight, news_of, need, job_size, quota_by, quota_of, no_room, refuses}
use Rattle.engine.proofs.Facts.{Codec, Rest}
use Rattle.engine.proofs.Course.{Course, Leads, On-course, ends}
use Rattle.engine.proofs.Finish.{rest_as, fits_as}
use Rattle.engine.proofs.PutBrings.{Bringing, packs-apply}
use Rattle.engine.proofs.Shares.{directory_weighs}
use Rattle.engine.proofs.Splices.{OnlyNew, lines_most}
use Rattle.engine.proofs.Kepts.{small-fits, kept-fits}
use Rattle.engine.proofs.PlanSums.{JobPlan, Sourced, of_new, of_copies, size_of}
use Rattle.engine.proofs.Prepare.{From, from_new, from_copies, Sized}

-- A REFUSAL leaves all as it was
module _ (codec : Codec) (R n : ℕ) {w : Plain} {t : List ℕ} (C : Course R w t) where
  pub refuse_leads : (m : ℕ) (x : House) {d : Device} {ss : List (List ℕ)} {r j : ℕ} → refusal_end m ≡ m → m ≡ C.reply → Rest codec R d x C.kept → Fits x → On-course codec R n C ss [] r j →
      Leads codec R n C (after_did d ss r (refuses m x))
  refuse_leads m x e q h f o =
      is_over (ends codec R n C o (e ∙ q) (record {
        kept = C.kept;
        held = C.held;
        fits = fits_as idle x.carrying f.carrying f;
        phase = refl;
        rest = rest_as codec idle x.job x.walking x.putting x.carrying h;
      }))

-- the job of a plan, with the lines that are put on
abbrev pub job_for : Kept → Deed → Plan → Job
job_for k d p = record { plan = p; name = name_given d; size = (slot_in k (name_given d)).size; lines = new_lines_of k p (lines_given d) }

module _ (k : Kept) (d : Deed) (p : Plan) (A : AsPlanned k p d) where
  -- what a machine with that job, after its walk, makes of the small state
  pub news_is : (x : House) (r : Checked Bounds) → JobPlan k r d p → x.store.small ≡ smalls_of k → x.job ≡ job_for k d p → x.walking.went ≡ lines_size (walked k p) →
      news_of x ≡ news_by p.update (smalls_of k) p (lines_size (walked k p)) (lines_size (lines_that_come k p (lines_given d))) (name_given d)
  news_is x r P s j v =
      (λ i. news_by (j i).plan.update (s i) (j i).plan (v i) (came_weight (j i).plan.splice.source (j i).plan.update (j i).lines (v i) (j i).size) (j i).name)
      ∙ ap (λ m. news_by p.update (smalls_of k) p (lines_size (walked k p)) m (name_given d)) P.came

  pub small-then : (x : House) (r : Checked Bounds) → JobPlan k r d p → x.store.small ≡ smalls_of k → x.job ≡ job_for k d p → x.walking.went ≡ lines_size (walked k p) →
      smalls_of (kept_after k p d) ≡ updated (news_of x) (smalls_of k)
  small-then x r P s j v = A.numbers ∙ ap (λ u. updated u (smalls_of k)) (sym (news_is x r P s j v))

  -- the machine's test for room is the one of what is kept
  pub room_same : (R : ℕ) (x : House) (r : Checked Bounds) → JobPlan k r d p → x.tapes.room ≡ R → x.store.small ≡ smalls_of k → x.job ≡ job_for k d p → x.walking.went ≡ lines_size (walked k p) →
      no_room x ≡ turn.no_room R k (kept_after k p d)
  unfolding SmallsWeigh
  room_same R x r P m s j v =
      let k₁ : Kept = kept_after k p d in
      let a : smalls_weight x.store.small ≡ kept_weight k = ap smalls_weight s ∙ sym (smalls_weigh k) in
      let b : smalls_weight (updated (news_of x) x.store.small) ≡ kept_weight k₁ = ap (λ z. smalls_weight (updated (news_of x) z)) s ∙ ap smalls_weight (sym (small-then x r P s j v)) ∙ sym (smalls_weigh k₁) in
      λ i. ltb (a i) (b i) && ltb (32 * m i) (b i)

-- WHAT A COMMIT SAYS fits, if what is kept then does
last_word : (r : List ℕ) (m : ℕ) → words (pushed r m) ≡ true → Word m
last_word r m e = go (ltb (length r) 64) e
  where
    at_end : (xs : List ℕ) → words (xs ++ m ∷ []) ≡ true → Word m
    at_end xs f = ltb-true m 4294967296 (every_in (λ z. ltb z 4294967296) m (xs ++ m ∷ []) f (in_right m xs (m ∷ []) (inl refl)))

    go : (b : Bool) → words (pick b (r ++ m ∷ []) (drop 1 r ++ m ∷ [])) ≡ true → Word m
    go true f = at_end r f
    go false f = at_end (drop 1 r) f

also-fits : (a : Also) (s : Small) → SmallFits (updated (record { count = 0; current = 0; weight = 0; also = a }) s) → ((i : ℕ) (z : Entry) → a ≡ slot i z → Word i) → AlsoFits a
also-fits nothing_else s f i = tt
also-fits (push m) s f i = last_word s.ring m f.ring
also-fits (slot m z) s f i = (i m z refl, every_in entry_fits z (take m s.files ++ (z ∷ drop (suc m) s.files)) f.files (in_right z (take m s.files) (z ∷ drop (suc m) s.files) (inl refl)))

news-fits : (u : News) (s : Small) → SmallFits (updated u s) → ((i : ℕ) (z : Entry) → u.also ≡ slot i z → Word i) → NewsFits u
news-fits u s f i = record {
  count = f.count;
  current = f.current;
  weight = f.weight;
  also = also-fits u.also s (record { count = omega arith; current = omega arith; weight = omega arith; ring_few = f.ring_few; ring = f.ring; files_few = f.files_few; files = f.files }) i;
}

slot_word : (q : Update) (s : Small) (p : Plan) (a b : ℕ) (n : List ℕ) → UpdateFits q → (i : ℕ) (z : Entry) → (news_by q s p a b n).also ≡ slot i z → Word i
unfolding news_by
slot_word same_as_before s p a b n f i z e = let y : ◌≡◌ {A = ℕ} 0 1 = cc in absurd (omega arith)
slot_word current_only s p a b n f i z e = let y : ◌≡◌ {A = ℕ} 0 1 = cc in absurd (omega arith)
slot_word the_text s p a b n f i z e = let y : ◌≡◌ {A = ℕ} 0 1 = cc in absurd (omega arith)
slot_word (the_file m) s p a b n f i z e = let y : m ≡ i = cc in omega arith

-- WHAT IS BROUGHT
module _ (R : ℕ) (most : R ≤ 1048576) (k : Kept) (sound : Sound k) (light : kept_weight k ≤ 32 * R) (d : Deed) (p : Plan) (A : AsPlanned k p d) where
  pub brings : (x : House) (r : Checked Bounds) (k₁ : Kept) → JobPlan k r d p → x.store.small ≡ smalls_of k → x.job ≡ job_for k d p → x.walking.went ≡ lines_size (walked k p) →
      k₁ ≡ kept_after k p d → Sound k₁ → kept_weight k₁ ≤ 32 * R → fit_lines (new_lines_of k p (lines_given d)) ≡ true → length (new_lines_of k p (lines_given d)) ≤ 65536 →
      Bringing k k₁ x.job.lines x.job.plan.splice (news_of x)
  brings x r k₁ P s j v q sound₁ light₁ fit few =
      let new : List (List ℕ) = new_lines_of k p (lines_given d) in
      let u : News = news_of x in
      let entries₁ : directory k₁ ≡ apply p.splice (directory k) new = ap directory q ∙ A.entries in
      let numbers₁ : smalls_of k₁ ≡ updated u (smalls_of k) = ap smalls_of q ∙ small-then k d p A x r P s j v in
      let fits₁ : SmallFits (updated u (smalls_of k)) = subst SmallFits numbers₁ (small-fits k₁ sound₁ (omega arith)) in
      let n = news_is k d p A x r P s j v in
      let word : (i : ℕ) (z : Entry) → u.also ≡ slot i z → Word i = λ i z e. slot_word p.update (smalls_of k) p _ _ (name_given d) P.fits.update i z (sym (ap (λ y. y.also) n) ∙ e) in
      let long : length (apply p.splice (packs (directory k)) (packs new)) ≡ length (directory k₁) = ap length (packs-apply p.splice (directory k) new) ∙ length-map (apply p.splice (directory k) new) _ ∙ ap length (sym entries₁) in
      subst (λ (y : Job). Bringing k k₁ y.lines y.plan.splice u) (sym j) (record {
        entries = entries₁;
        numbers = numbers₁;
        lines = fit;
        few = few;
        splice = P.fits.splice;
        news = news-fits u (smalls_of k) fits₁ word;
        allowed = record {
          so_far = λ m l. subst (λ z. ReplayFits z m (smalls_of k)) (sym (length-map (directory k) _)) (kept-fits R m k sound light most (omega (arith, length-map new packed)));
          then = subst (λ z. ReplayFits z 0 (updated u (smalls_of k))) (sym long) (subst (ReplayFits (length (directory k₁)) 0) numbers₁ (kept-fits R 0 k₁ sound₁ light₁ most (omega arith)));
        };
      })

  -- how large it is
  pub sized : (x : House) (r : Checked Bounds) → JobPlan k r d p → x.job ≡ job_for k d p → kept_weight (kept_after k p d) ≤ 32 * R → Sized R k x
  sized x r P j light₁ =
      let new : List (List ℕ) = new_lines_of k p (lines_given d) in
      let m = lines_most new in
      let f = P.few in
      let ne : need x ≡ suc (lines_records new) = ap (λ (y : Job). suc (lines_records y.lines)) j in
      let se : job_size x ≡ size_of p = ap (λ (y : Job). size_of y.plan) j in
      let qe : quota_of x ≡ quota_by p.splice.source (size_of p) = ap (λ (y : Job). quota_by y.plan.splice.source (size_of y.plan)) j in
      let ge : x.job.plan.splice.gone ≡ p.splice.gone = ap (λ (y : Job). y.plan.splice.gone) j in
      record {
        source = from P.source qe se ge;
        few = omega (arith, ne, se);
        room = subst (λ (y : Job). 64 * (lines_records (directory k) + lines_records y.lines) ≤ 32 * R) (sym j) (heavy P.room);
        quota = word P.source qe P.fits.came P.fits.span;
      }
    where
      from : Sourced p (new_lines_of k p (lines_given d)) → quota_of x ≡ quota_by p.splice.source (size_of p) → job_size x ≡ size_of p → x.job.plan.splice.gone ≡ p.splice.gone → From x
      from (of_new only e g) qe se ge = from_new (subst (λ (y : Job). OnlyNew y.plan.splice.source y.lines) (sym j) only) (qe ∙ e ∙ ap (λ z. 16 * z) (sym se)) (omega arith)
      from (of_copies e) qe se ge = from_copies (qe ∙ e)

      heavy : (64 * (lines_records (directory k) + lines_records (new_lines_of k p (lines_given d))) ≤ kept_weight (kept_after k p d)) ⊎ (new_lines_of k p (lines_given d) ≡ []) →
          64 * (lines_records (directory k) + lines_records (new_lines_of k p (lines_given d))) ≤ 32 * R
      heavy (inl h) = omega arith
      heavy (inr e) = let a = directory_weighs k in let b : lines_records (new_lines_of k p (lines_given d)) ≡ 0 = ap lines_records e in omega arith

      word : Sourced p (new_lines_of k p (lines_given d)) → quota_of x ≡ quota_by p.splice.source (size_of p) → p.came ≤ 1048576 → p.upto ≤ p.after + 1048576 → Word (quota_of x)
      word (of_new only e g) qe ca sp = omega (arith, qe, e)
      word (of_copies e) qe ca sp = omega (arith, qe, e)
