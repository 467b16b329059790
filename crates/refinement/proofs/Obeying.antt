-- A command that was typed. Assumes nothing.
use Rattle.std.proofs.Common.{◌≡◌, ℕ, ◌≤◌, Bool, true, false, leb, List, [], ◌∷◌, length, sym, refl, ap, ◌∙◌, subst, arith}
use Rattle.std.proofs.lemmas.Bool.{le-leb, leb-true, and_parts}
use Rattle.plain.specs.Pattern.{pick, every, all_bytes}
use Rattle.plain.specs.Command.{Deed, Simple, Command, plain, all_lines, lines_of, reads}
use Rattle.journal.specs.Log as log
use Rattle.journal.specs.Log.{state}
use Rattle.journal.specs.Small.{small}
use Rattle.commands.specs.Kept.{fit_name}
use Rattle.commands.specs.Resolve.{Checked, good, refused}
use Rattle.commands.specs.Plan as plan
use Rattle.commands.specs.Code.{walk_as, update_as, rows_as, plan_as}
use Rattle.journal.specs.Values.{source_of}
use Rattle.commands.specs.Turn.{lines_given, name_given}
use Rattle.commands.specs.Held.{ReadsWell, ReadsFew}
use Rattle.commands.proofs.Readings.{Typed, no_lines, lines_in, reads_well, reads_few, reads-typed, reads_one}
use Rattle.commands.specs.declared.plan.Update.{Update}
use Rattle.commands.specs.declared.plan.Update.TheVariants as update
use Rattle.commands.specs.declared.plan.Walk.{Walk}
use Rattle.commands.specs.declared.plan.Walk.TheVariants.{Skip, Show, ShowNumbered, Measure, Join}
use Rattle.engine.specs.State as engine
use Rattle.engine.specs.Fits.{Fits}
use Rattle.engine.specs.Machine as machine
use Rattle.memory.specs.declared.job.Lines.TheVariants.{Nothing, Given}
use Rattle.memory.specs.declared.registers.Registers.{Registers}
use Rattle.memory.specs.Abstract.{house_of, phase_as, tapes_as, carrying_as, small_of, job_lines, text_of, name_of}
use Rattle.memory.specs.Sections.{extended}
use Rattle.memory.proofs.Committing.{pick_yes}
use Rattle.memory.proofs.Frames.{BesideText, BesideName}
use Rattle.memory.proofs.Keeping.{kept-extended, kept-name}
use Rattle.memory.proofs.Noting.{name_means, beside_kept-name}
use Rattle.memory.proofs.Steadiness.{Kept, kept_then}
use Rattle.memory.proofs.Worded.{text-kept, beside_extended}
use Rattle.commits.specs.Acts.{Made}
use Rattle.commits.specs.Bounds.{Bounded}
use Rattle.execution.specs.Plans.{walk_code, update_code, rows_code, source_code, plan_code, with_newlines, lines_kind}
use Rattle.execution.proofs.Given.{lines_some, joined_back}
use Rattle.execution.specs.Obey.{few_of, typed_text, begun, begun_memory, do_plan, by_decision, command, obey_one, obey}
use Rattle.refinement.proofs.Same.{Safe, Same, same_at}
use Rattle.refinement.proofs.Rows.{refuses_safe, refuses_same, finish_safe, finish_same}
use Rattle.refinement.proofs.Walking.{Ready, walk_safe, walk_same}

-- THE PLAN, as the registers have it
walk-back : (w : plan.Walk) → walk_as (walk_code w) ≡ w
walk-back plan.skip = refl
walk-back plan.show = refl
walk-back plan.show_numbered = refl
walk-back plan.measure = refl
walk-back plan.glue = refl

update-back : (u : plan.Update) → update_as (update_code u) ≡ u
update-back plan.same_as_before = refl
update-back plan.current_only = refl
update-back plan.the_text = refl
update-back (plan.the_file i) = refl

rows_back : (q : plan.Rows) → rows_as (rows_code q) ≡ q
rows_back plan.no_row = refl
rows_back (plan.a_number n) = refl
rows_back plan.all_files = refl

source-back : (s : log.Source) → source_of (source_code s) ≡ s
source-back log.no_entries = refl
source-back log.new_entries = refl
source-back (log.copied a b) = refl

plan-back : (p : plan.Plan) → plan_as (plan_code p) ≡ p
plan-back p = λ i.
    record {
      walk = walk-back p.walk i;
      after = p.after;
      upto = p.upto;
      update = update-back p.update i;
      splice = log.splice p.splice.from p.splice.gone (source-back p.splice.source i);
      came = p.came;
      count = p.count;
      current = p.current;
      rows = rows_back p.rows i;
    }

-- LINES GIVEN, joined again as they were typed
record Text (ls : List (List ℕ)) : Type 0 where
  few : length (with_newlines ls) ≤ 65536
  bytes : all_bytes (with_newlines ls) ≡ true
  back : job_lines (lines_kind ls) (with_newlines ls) ≡ ls

text_of_typed : (n : ℕ) (ls : List (List ℕ)) → n ≤ 65536 → Typed n ls → Text ls
text_of_typed n [] h no_lines = record { few = omega arith; bytes = refl; back = refl }
text_of_typed n ls h (lines_in cs l) =
    let e = joined_back [] cs in
    let a = l.few in
    record {
      few = let z = ap length e in omega arith;
      bytes = subst (λ t. all_bytes t ≡ true) (sym e) l.bytes;
      back = ap (λ b. job_lines (pick b Nothing Given) (with_newlines (lines_of [] cs))) (lines_some [] cs) ∙ ap (lines_of []) e;
    }

few_is : (most n : ℕ) → n ≤ most → few_of most n ≡ n
few_is most n h = pick_yes (leb n most) n 0 (le-leb n most h)

few_few : (most n : ℕ) → few_of most n ≤ most
few_few most n = go (leb n most) refl
  where
    go : (b : Bool) → leb n most ≡ b → pick b n 0 ≤ most
    go true e = leb-true _ _ e
    go false e = omega arith

-- A COMMAND BEGINS
module _ (c : Simple) (r : Registers) (m : List ℕ) (h : length m ≡ 262144) where
  abbrev m₁ : List ℕ
  m₁ = extended 0 (typed_text c) m

  text-kept-long : Kept m m₁
  text-kept-long = kept-extended 0 (typed_text c) m h

  long₁ : length m₁ ≡ 262144
  long₁ = text-kept-long.long ∙ h

  begun_kept : Kept m (begun_memory c m)
  begun_kept = kept_then text-kept-long (kept-name (name_given c.deed) m₁ long₁)

  begun-long : length (begun_memory c m) ≡ 262144
  begun-long = begun_kept.long ∙ h

  begun-bounded : (size : ℕ) (p : plan.Plan) → Bounded r → Bounded (begun c size p r m)
  begun-bounded size p b = record { active = b.active; kept = b.kept; name = few_few 64 (length (name_given c.deed)); text = few_few 65536 (length (typed_text c)); bytes = omega arith; at = omega arith }

  begun_is : (size : ℕ) (p : plan.Plan) → Text (lines_given c.deed) → fit_name (name_given c.deed) ≡ true → house_of (begun c size p r m) (begun_memory c m) ≡ machine.start_job c size p (house_of r m)
  unfolding house_of text_of
  begun_is size p t n =
      let d : Deed = c.deed in
      let q = and_parts (leb (length (name_given d)) 64) (all_bytes (name_given d)) n in
      let short : length (name_given d) ≤ 64 = leb-true _ _ q.0 in
      let few = t.few in
      let bt : BesideText m m₁ = beside_extended 0 (typed_text c) m h (omega arith) in
      let bn : BesideName m₁ (begun_memory c m) = beside_kept-name (name_given d) m₁ long₁ short in
      let name : name_of (few_of 64 (length (name_given d))) (begun_memory c m) ≡ name_given d =
      ap (λ k. name_of k (begun_memory c m)) (few_is 64 (length (name_given d)) short) ∙ name_means (name_given d) m₁ long₁ short q.1 in
      let text : text_of (few_of 65536 (length (typed_text c))) (begun_memory c m) ≡ typed_text c =
      ap (λ k. text_of k (begun_memory c m)) (few_is 65536 (length (typed_text c)) few) ∙ bn.text (length (typed_text c)) ∙ text-kept (typed_text c) m h few t.bytes in
      λ i.
      engine.house (phase_as r.phase) (tapes_as r.tapes)
      (state ((bn.dir r.kept.entries ∙ bt.dir r.kept.entries) i) ((bn.pending r.kept.pending ∙ bt.pending r.kept.pending) i)
      (small r.kept.count r.kept.current r.kept.weight ((bn.ring r.kept.ring ∙ bt.ring r.kept.ring) i) ((bn.files r.kept.files ∙ bt.files r.kept.files) i)))
      (record { plan = plan-back p i; name = name i; size = size; lines = (ap (job_lines (lines_kind (lines_given d))) text ∙ t.back) i })
      (engine.walking_of p.after 0 (machine.went_at_once p (small_of r.kept m)) [])
      (engine.putting_of false [] 0)
      (carrying_as r.carrying)

-- and is done
module _ (r : Registers) (m : List ℕ) (h : length m ≡ 262144) where
  do_safe : (u : Update) → Bounded r → Safe m (do_plan u r m)
  unfolding do_plan
  do_safe update.Nothing b = finish_safe r m b
  do_safe update.Current b = walk_safe r m h b
  do_safe update.Text b = walk_safe r m h b
  do_safe (update.File i) b = walk_safe r m h b

  do_same : (u : plan.Update) → Bounded r → Ready r.job.plan.walk r.putting.more → Fits (machine.do_plan u (house_of r m)).state → Same (do_plan (update_code u) r m) (machine.do_plan u (house_of r m))
  unfolding do_plan
  do_same plan.same_as_before b q f = finish_same r m f
  do_same plan.current_only b q f = walk_same r m h b q f
  do_same plan.the_text b q f = walk_same r m h b q f
  do_same (plan.the_file i) b q f = walk_same r m h b q f

ready_none : (w : Walk) → Ready w false
ready_none Skip = tt
ready_none Show = tt
ready_none ShowNumbered = tt
ready_none Measure = tt
ready_none Join = refl

module _ (r : Registers) (m : List ℕ) (h : length m ≡ 262144) where
  decided_safe : (c : Simple) (d : Checked plan.Plan) → Bounded r → Safe m (by_decision c d r m)
  decided_safe c (good p) b = begins (do_safe (begun c (machine.slot_for (house_of r m) c).size p r m) (begun_memory c m) (begun-long c r m h) (update_code p.update) (begun-bounded c r m h (machine.slot_for (house_of r m) c).size p b))
    where
      begins : {d : Made} → Safe (begun_memory c m) d → Safe m d
      begins s = record { bounded = s.bounded; kept = kept_then (begun_kept c r m h) s.kept }
  decided_safe c (refused k) b = refuses_safe r m k b

  decided_same : (c : Simple) (d : Checked plan.Plan) → Bounded r → Text (lines_given c.deed) → fit_name (name_given c.deed) ≡ true → Fits (machine.by_decision c d (house_of r m)).state → Same (by_decision c d r m) (machine.by_decision c d (house_of r m))
  decided_same c (good p) b t n f =
      let s : ℕ = (machine.slot_for (house_of r m) c).size in
      same_at (do_plan (update_code p.update) (begun c s p r m) (begun_memory c m)) (house_of (begun c s p r m) (begun_memory c m)) (machine.start_job c s p (house_of r m)) (machine.do_plan p.update)
      (begun_is c r m h s p t n)
      (do_same (begun c s p r m) (begun_memory c m) (begun-long c r m h) p.update (begun-bounded c r m h s p b) (ready_none (walk_code p.walk))) f
  decided_same c (refused k) b t n f = refuses_same r m k

  one_safe : (cs : List Command) → Bounded r → Safe m (obey_one cs r m)
  unfolding command
  one_safe [] b = refuses_safe r m 1 b
  one_safe (plain c ∷ cs) b = decided_safe c (machine.decision (house_of r m) c) b
  one_safe (all_lines s like p c ∷ cs) b = refuses_safe r m 2 b

  pub obey_safe : (t : List ℕ) → Bounded r → Safe m (obey t r m)
  unfolding obey
  obey_safe t b = one_safe (reads t) b

  one_same : (t : List ℕ) (cs : List Command) → reads t ≡ cs → length cs ≤ 1 → Bounded r → Fits (machine.obey cs (house_of r m)).state → Same (obey_one cs r m) (machine.obey cs (house_of r m))
  unfolding command ReadsWell ReadsFew
  one_same t [] e l b f = refuses_same r m 1
  one_same t (plain c ∷ []) e l b f =
      let w = and_parts (every all_bytes (lines_given c.deed)) (fit_name (name_given c.deed)) (reads_well t (plain c) e) in
      let n = (reads_few t (plain c) e).1 in
      decided_same c (machine.decision (house_of r m) c) b (text_of_typed (length t) (lines_given c.deed) (omega arith) (reads-typed t c e)) w.1 f
  one_same t (all_lines s like p c ∷ []) e l b f = refuses_same r m 2
  one_same t (c ∷ k ∷ cs) e l b f = absurd (omega arith)

  pub obey_same : (t : List ℕ) → Bounded r → Fits (machine.obey (reads t) (house_of r m)).state → Same (obey t r m) (machine.obey (reads t) (house_of r m))
  unfolding obey
  obey_same t b f = one_same t (reads t) refl (reads_one t) b f
