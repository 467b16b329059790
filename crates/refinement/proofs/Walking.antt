-- The walk over lines, and what is looked at before anything is put on. Assumes nothing.
use Rattle.std.proofs.Common.{◌≡◌, ℕ, ◌+◌, ◌≤◌, Bool, true, false, ◌&&◌, eqb, ltb, leb, List, [], ◌∷◌, ◌++◌, length, drop, sym, refl, ap, ◌∙◌, subst, arith}
use Rattle.std.proofs.lemmas.Bool.{le-leb, leb-true}
use Rattle.plain.specs.Pattern.{pick}
use Rattle.plain.specs.Device.{Page}
use Rattle.plain.specs.Run.{read}
use Rattle.journal.specs.Log.{Piece, State, state}
use Rattle.journal.specs.Small.{Small, small}
use Rattle.records.proofs.Read.{piece-short, piece_bytes}
use Rattle.commands.specs.Code.{walk_as, plan_as}
use Rattle.commands.specs.declared.plan.Walk.{Walk}
use Rattle.commands.specs.declared.plan.Walk.TheVariants.{Skip, Show, ShowNumbered, Measure, Join}
use Rattle.engine.specs.State as engine
use Rattle.engine.specs.Fits.{Fits}
use Rattle.engine.specs.Machine as machine
use Rattle.engine.specs.Machine.{Does, threshold, walks}
use Rattle.memory.specs.declared.job.Lines.TheVariants.{Nothing, Joined}
use Rattle.memory.specs.declared.walking.Walking as memory_walking
use Rattle.memory.specs.declared.registers.Registers.{Registers}
use Rattle.memory.specs.Abstract.{house_of, phase_as, tapes_as, carrying_as, store_of, small_of, job_of, putting_as, job_lines, left_of, text_of}
use Rattle.memory.proofs.Committing.{pick_yes}
use Rattle.memory.proofs.Frames.{SameName}
use Rattle.memory.proofs.Keeping.{kept-extended}
use Rattle.memory.proofs.Positions.{entry_means}
use Rattle.memory.proofs.Steadiness.{Kept, kept_same, kept_then}
use Rattle.memory.proofs.Texting.{text-long}
use Rattle.memory.proofs.Worded.{text-more, beside_extended}
use Rattle.commits.specs.Acts.{Made}
use Rattle.commits.specs.Setters.{with_walking}
use Rattle.commits.specs.Bounds.{Bounded}
use Rattle.compaction.specs.Carry.{piece_of_page}
use Rattle.execution.specs.Walk.{need, quota_of, with_quota, prepare, weigh, fetch, lines_then, walk_on, line_past, bytes_then, joined_memory, next_part, more_parts, show_piece, too_long, glue_piece, fetched_by, fetched}
use Rattle.refinement.proofs.Same.{Safe, Same, safe_pick, same_pick, same_by, same_at}
use Rattle.refinement.proofs.Rows.{refuses_safe, refuses_same}
use Rattle.refinement.proofs.Putting.{pass_safe, pass_same}
use Rattle.refinement.proofs.Carrying.{bounded_with, carry_safe, carry_same, begin_safe, begin_same}

-- NO LINES in the cells: those that are walked over may use them
pub record Clear (r : Registers) : Type 0 where
  pub lines : r.job.lines ≡ Nothing
  pub left : r.putting.more ≡ false

-- a state with other text in the cells
rebuilt_clear : (r : Registers) (m m₁ : List ℕ) → Clear r → SameName m m₁ → {s : State Small} {bs : List ℕ} → store_of r.kept m₁ ≡ s → text_of r.walking.bytes m₁ ≡ bs →
    house_of r m₁
    ≡ engine.house (phase_as r.phase) (tapes_as r.tapes) s (job_of r.job m) (engine.walking_of r.walking.line r.walking.part r.walking.went bs)
    (putting_as r.putting r.job m) (carrying_as r.carrying)
unfolding house_of
rebuilt_clear r m m₁ c name s bs = λ i.
    engine.house (phase_as r.phase) (tapes_as r.tapes) (s i)
    (record { plan = plan_as r.job.plan; name = name r.job.name i; size = r.job.size; lines = none (text_of r.job.text m₁) (text_of r.job.text m) i })
    (engine.walking_of r.walking.line r.walking.part r.walking.went (bs i))
    (engine.putting_of r.putting.second (no-left (drop r.putting.at (text_of r.job.text m₁)) (drop r.putting.at (text_of r.job.text m)) i) r.putting.part)
    (carrying_as r.carrying)
  where
    none : (t u : List ℕ) → job_lines r.job.lines t ≡ job_lines r.job.lines u
    none t u = ap (λ l. job_lines l t) c.lines ∙ sym (ap (λ l. job_lines l u) c.lines)

    no-left : (t u : List ℕ) → left_of r.putting.more r.job.lines t ≡ left_of r.putting.more r.job.lines u
    no-left t u = ap (λ b. left_of b r.job.lines t) c.left ∙ sym (ap (λ b. left_of b r.job.lines u) c.left)

bounded-job : (r : Registers) (w : memory_walking.Walking) → Bounded r → w.bytes ≤ 65536 → Bounded (with_walking w r)
bounded-job r w b h = record { active = b.active; kept = b.kept; name = b.name; text = b.text; bytes = h; at = b.at }

module _ (r : Registers) (m : List ℕ) (h : length m ≡ 262144) where
  -- BEFORE ANYTHING IS PUT ON
  pub prepare_safe : Bounded r → Safe m (prepare r m)
  unfolding prepare
  prepare_safe b =
      safe_pick r.tapes.busy (carry_safe (with_quota (quota_of r) false r) m h (bounded_with r _ r.tapes _ b b.active))
      (safe_pick (ltb (threshold r.tapes.room) (r.tapes.used + need r m)) (begin_safe r m h (quota_of r) false b) (pass_safe r m h false b))

  pub prepare_same : Bounded r → Fits (machine.prepare (house_of r m)).state → Same (prepare r m) (machine.prepare (house_of r m))
  unfolding prepare house_of
  prepare_same b =
      same_pick r.tapes.busy (carry_same (with_quota (quota_of r) false r) m h (bounded_with r _ r.tapes _ b b.active))
      (same_pick (ltb (threshold r.tapes.room) (r.tapes.used + need r m)) (λ f. begin_same r m h (quota_of r) false) (pass_same r m h false b))

  pub weigh_safe : Bounded r → Safe m (weigh r m)
  unfolding weigh
  weigh_safe b = safe_pick (machine.no_room (house_of r m)) (refuses_safe r m 8 b) (prepare_safe b)

  pub weigh_same : Bounded r → Fits (machine.weigh (house_of r m)).state → Same (weigh r m) (machine.weigh (house_of r m))
  unfolding weigh
  weigh_same b = same_pick (machine.no_room (house_of r m)) (λ f. refuses_same r m 8) (prepare_same b)

  -- THE WALK
  pub fetch_safe : Bounded r → Safe m (fetch r m)
  unfolding fetch
  fetch_safe b = record { bounded = bounded_with r _ r.tapes r.carrying b b.active; kept = kept_same m }

  pub fetch_same : Same (fetch r m) (machine.fetch (house_of r m))
  unfolding fetch house_of
  fetch_same =
      record {
        act = ap (λ p. read p.tape (p.at + r.walking.part)) (entry_means r.kept.entries (machine.text_at (small_of r.kept m) + r.walking.line) m);
        state = refl;
      }

-- a join leaves one line, where none was left
abbrev pub Ready : Walk → Bool → Type 0
Ready Skip more = Unit {0}
Ready Show more = Unit {0}
Ready ShowNumbered more = Unit {0}
Ready Measure more = Unit {0}
Ready Join more = more ≡ false

module _ (r : Registers) (m : List ℕ) (h : length m ≡ 262144) where
  then-bounded : (w : Walk) → Bounded r → Bounded (lines_then w r)
  then-bounded Skip b = b
  then-bounded Show b = b
  then-bounded ShowNumbered b = b
  then-bounded Measure b = b
  then-bounded Join b = record { active = b.active; kept = b.kept; name = b.name; text = b.bytes; bytes = b.bytes; at = b.at }

  joined_left : r.putting.more ≡ false → house_of (lines_then Join r) m ≡ machine.lines_then (walk_as Join) (house_of r m)
  unfolding house_of
  joined_left e =
      let t : List ℕ = text_of r.walking.bytes m in
      let u : List ℕ = text_of r.job.text m in
      let q : left_of r.putting.more Joined (drop r.putting.at t) ≡ left_of r.putting.more r.job.lines (drop r.putting.at u) =
      ap (λ c. left_of c Joined (drop r.putting.at t)) e ∙ sym (ap (λ c. left_of c r.job.lines (drop r.putting.at u)) e) in
      ap (λ ls. engine.with_putting (engine.putting_of r.putting.second ls r.putting.part) (engine.with_job (engine.with_lines (t ∷ []) (job_of r.job m)) (house_of r m))) q

  then_is : (w : Walk) → Ready w r.putting.more → house_of (lines_then w r) m ≡ machine.lines_then (walk_as w) (house_of r m)
  then_is Skip q = refl
  then_is Show q = refl
  then_is ShowNumbered q = refl
  then_is Measure q = refl
  then_is Join q = joined_left q

  pub walk_safe : Bounded r → Safe m (walk_on r m)
  unfolding walk_on
  walk_safe b =
      safe_pick (walks (walk_as r.job.plan.walk) && ltb r.walking.line r.job.plan.span.upto) (fetch_safe r m h b)
      (weigh_safe (lines_then r.job.plan.walk r) m h (then-bounded r.job.plan.walk b))

  pub walk_same : Bounded r → Ready r.job.plan.walk r.putting.more → Fits (machine.walk_on (house_of r m)).state → Same (walk_on r m) (machine.walk_on (house_of r m))
  unfolding walk_on house_of
  walk_same b q =
      same_pick (walks (walk_as r.job.plan.walk) && ltb r.walking.line r.job.plan.span.upto) (λ f. fetch_same r m h)
      (same_at (weigh (lines_then r.job.plan.walk r) m) (house_of (lines_then r.job.plan.walk r) m) _ machine.weigh (then_is r.job.plan.walk q)
      (weigh_same (lines_then r.job.plan.walk r) m h (then-bounded r.job.plan.walk b)))

-- what is needed of the cells, by the walk
abbrev pub Uses : Registers → Walk → Type 0
Uses r Skip = Unit {0}
Uses r Show = Clear r
Uses r ShowNumbered = Clear r
Uses r Measure = Unit {0}
Uses r Join = Clear r

-- A RECORD OF A LINE
module _ (r : Registers) (m : List ℕ) (h : length m ≡ 262144) (p : Page) where
  abbrev b : Piece
  b = piece_of_page p

  joined-kept : Kept m (joined_memory b r m)
  joined-kept = kept-extended r.walking.bytes b.bytes m h

  room : Bounded r → Fits (house_of r m) → r.walking.bytes + length b.bytes ≤ 65536
  unfolding house_of
  room bound f =
      let l = text-long r.walking.bytes m h bound.bytes in
      let few = f.walking.bytes_few in
      let s = piece-short p in
      omega arith

  bytes_are : Bounded r → Fits (house_of r m) → text_of (bytes_then b r) (joined_memory b r m) ≡ text_of r.walking.bytes m ++ b.bytes
  bytes_are bound f =
      let g = room bound f in
      ap (λ n. text_of n (joined_memory b r m)) (pick_yes (leb (r.walking.bytes + length b.bytes) 65536) (r.walking.bytes + length b.bytes) r.walking.bytes (le-leb _ _ g))
      ∙ text-more r.walking.bytes b.bytes m h g (piece_bytes p)

  store_is : Bounded r → Fits (house_of r m) → store_of r.kept (joined_memory b r m) ≡ store_of r.kept m
  store_is bound f =
      let q = beside_extended r.walking.bytes b.bytes m h (room bound f) in
      λ i. state (q.dir r.kept.entries i) (q.pending r.kept.pending i) (small r.kept.count r.kept.current r.kept.weight (q.ring r.kept.ring i) (q.files r.kept.files i))

  name_is : Bounded r → Fits (house_of r m) → SameName m (joined_memory b r m)
  name_is bound f = (beside_extended r.walking.bytes b.bytes m h (room bound f)).name

  part_is : Bounded r → Fits (house_of r m) → Clear r → house_of (next_part b r) (joined_memory b r m) ≡ machine.next_part b (house_of r m)
  unfolding house_of
  part_is bound f c = rebuilt_clear (next_part b r) m (joined_memory b r m) (record { lines = c.lines; left = c.left }) (name_is bound f) (store_is bound f) (bytes_are bound f)

  past_is : Bounded r → Fits (house_of r m) → Clear r → house_of (line_past b.long (bytes_then b r) r) (joined_memory b r m) ≡ machine.line_past b.long (machine.joined b (house_of r m)) (house_of r m)
  unfolding house_of
  past_is bound f c = rebuilt_clear (line_past b.long (bytes_then b r) r) m (joined_memory b r m) (record { lines = c.lines; left = c.left }) (name_is bound f) (store_is bound f) (bytes_are bound f)

  skip_is : house_of (line_past b.long 0 r) m ≡ machine.line_past b.long [] (house_of r m)
  unfolding house_of text_of
  skip_is = refl

  then_bound : Bounded r → (w : memory_walking.Walking) → w.bytes ≡ bytes_then b r → Bounded (with_walking w r)
  then_bound bound w e = bounded-job r w bound (subst (λ n. n ≤ 65536) (sym e) (then-few-of bound))
    where
      go : (t : Bool) → leb (r.walking.bytes + length b.bytes) 65536 ≡ t → r.walking.bytes ≤ 65536 → pick t (r.walking.bytes + length b.bytes) r.walking.bytes ≤ 65536
      go true e g = leb-true _ _ e
      go false e g = g

      then-few-of : Bounded r → bytes_then b r ≤ 65536
      then-few-of bound = go (leb (r.walking.bytes + length b.bytes) 65536) refl bound.bytes

  after_joined : {d : Made} → Safe (joined_memory b r m) d → Safe m d
  after_joined s = record { bounded = s.bounded; kept = kept_then joined-kept s.kept }

  joined-long : length (joined_memory b r m) ≡ 262144
  joined-long = joined-kept.long ∙ h

  pub show_safe : (numbered : Bool) → Bounded r → Safe m (show_piece numbered b r m)
  unfolding show_piece
  show_safe numbered bound =
      safe_pick (more_parts b r) (after_joined (fetch_safe (next_part b r) (joined_memory b r m) joined-long (then_bound bound _ refl)))
      (record { bounded = bounded_with (line_past b.long 0 r) _ r.tapes r.carrying (bounded-job r _ bound (omega arith)) bound.active; kept = kept_same m })

  pub show_same : (numbered : Bool) → Bounded r → Fits (house_of r m) → Clear r → Fits (machine.show_piece numbered b (house_of r m)).state → Same (show_piece numbered b r m) (machine.show_piece numbered b (house_of r m))
  unfolding show_piece house_of text_of
  show_same numbered bound f c =
      same_pick (more_parts b r)
      (same_at (fetch (next_part b r) (joined_memory b r m)) (house_of (next_part b r) (joined_memory b r m)) (machine.next_part b (house_of r m)) machine.fetch (part_is bound f c)
      (λ g. fetch_same (next_part b r) (joined_memory b r m) joined-long))
      (λ g. record { act = refl; state = refl })

  pub glue_safe : Bounded r → Safe m (glue_piece b r m)
  unfolding glue_piece
  glue_safe bound =
      safe_pick (too_long b r) (refuses_safe r m 7 bound)
      (safe_pick (more_parts b r) (after_joined (fetch_safe (next_part b r) (joined_memory b r m) joined-long (then_bound bound _ refl)))
      (after_joined (walk_safe (line_past b.long (bytes_then b r) r) (joined_memory b r m) joined-long (then_bound bound _ refl))))

  pub glue_same : Bounded r → Fits (house_of r m) → Clear r → Fits (machine.glue_piece b (house_of r m)).state → Same (glue_piece b r m) (machine.glue_piece b (house_of r m))
  unfolding glue_piece house_of
  glue_same bound f c =
      same_by (ap (λ n. eqb r.walking.part 0 && ltb 1024 (n + b.long)) (sym (text-long r.walking.bytes m h bound.bytes))) (λ g. refuses_same r m 7)
      (same_pick (more_parts b r)
      (same_at (fetch (next_part b r) (joined_memory b r m)) (house_of (next_part b r) (joined_memory b r m)) (machine.next_part b (house_of r m)) machine.fetch (part_is bound f c)
      (λ g. fetch_same (next_part b r) (joined_memory b r m) joined-long))
      (same_at (walk_on (line_past b.long (bytes_then b r) r) (joined_memory b r m)) (house_of (line_past b.long (bytes_then b r) r) (joined_memory b r m))
      (machine.line_past b.long (machine.joined b (house_of r m)) (house_of r m)) machine.walk_on (past_is bound f c)
      (walk_same (line_past b.long (bytes_then b r) r) (joined_memory b r m) joined-long (then_bound bound _ refl) (ready r.job.plan.walk))))
    where
      ready : (w : Walk) → Ready w r.putting.more
      ready Skip = tt
      ready Show = tt
      ready ShowNumbered = tt
      ready Measure = tt
      ready Join = c.left

  by_safe : (w : Walk) → Bounded r → Safe m (fetched_by w b r m)
  by_safe Skip bound = refuses_safe r m 999 bound
  by_safe Show bound = show_safe false bound
  by_safe ShowNumbered bound = show_safe true bound
  by_safe Measure bound = walk_safe (line_past b.long 0 r) m h (bounded-job r _ bound (omega arith))
  by_safe Join bound = glue_safe bound

  pub fetched_safe : Bounded r → Safe m (fetched p r m)
  unfolding fetched
  fetched_safe bound = by_safe r.job.plan.walk bound

  by_same : (w : Walk) → r.job.plan.walk ≡ w → Bounded r → Fits (house_of r m) → Uses r w → Fits (machine.fetched (walk_as w) b (house_of r m)).state → Same (fetched_by w b r m) (machine.fetched (walk_as w) b (house_of r m))
  by_same Skip e bound f c g = refuses_same r m 999
  by_same Show e bound f c g = show_same false bound f c g
  by_same ShowNumbered e bound f c g = show_same true bound f c g
  by_same Measure e bound f c g =
      same_at (walk_on (line_past b.long 0 r) m) (house_of (line_past b.long 0 r) m) (machine.line_past b.long [] (house_of r m)) machine.walk_on skip_is
      (walk_same (line_past b.long 0 r) m h (bounded-job r _ bound (omega arith)) (subst (λ w. Ready w r.putting.more) (sym e) tt)) g
  by_same Join e bound f c g = glue_same bound f c g

  pub fetched_same : Bounded r → Fits (house_of r m) → Uses r r.job.plan.walk → Fits (machine.fetched (house_of r m).job.plan.walk b (house_of r m)).state → Same (fetched p r m) (machine.fetched (house_of r m).job.plan.walk b (house_of r m))
  unfolding fetched house_of
  fetched_same bound f c g = by_same r.job.plan.walk refl bound f c g
