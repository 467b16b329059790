-- Fetching a line of the text, record by record: what is read there, and where it leads. Assumes nothing.
use Rattle.std.proofs.Common.{◌≡◌, ℕ, zero, suc, ◌+◌, ◌-◌, ◌*◌, ◌<◌, ◌≤◌, Bool, true, false, ◌&&◌, ltb, leb, List, [], ◌∷◌, ◌++◌, length, get_or, take, drop, sym, refl, ap, ◌∙◌, subst, inl, arith, length-append, length-drop, take-append-drop, length-take, take_all, drop-cons, get_or-append-add, take-add}
use Rattle.std.proofs.lemmas.List.{append_assoc}
use Rattle.std.proofs.lemmas.Bool.{and_parts, and_from, and_right, lt-ltb, le-ltb, ltb-false}
use Rattle.plain.specs.Pattern.{pick, all_bytes}
use Rattle.plain.specs.Command.{Simple}
use Rattle.plain.specs.House.{Plain}
use Rattle.plain.specs.Device.{Device, Page, read_record}
use Rattle.plain.proofs.Basics.{added_append}
use Rattle.journal.specs.Log.{Position, hole, no_piece, pieces_of, piece_in}
use Rattle.journal.specs.Small.{updated, no_state}
use Rattle.journal.proofs.Lifecycle as lifecycle
use Rattle.journal.proofs.Machine.{after_did}
use Rattle.commands.specs.Kept.{Kept, kept_weight, lines_size, directory, file_lines, offset, fit_line}
use Rattle.commands.specs.Plan.{Walk, Plan}
use Rattle.commands.specs.Plan as plan
use Rattle.commands.specs.Smalls.{smalls_of}
use Rattle.commands.specs.Turn.{walked}
use Rattle.commands.specs.Held.{Held}
use Rattle.commands.proofs.Lists.{added_each, every_take, every_both}
use Rattle.commands.proofs.Brought.{offset_is}
use Rattle.commands.proofs.Planned.{directory-long}
use Rattle.engine.specs.State.{House, house, Phase, fetching, Walking, walking_of}
use Rattle.engine.specs.Fits.{Fits, Word, WalkingFits, PositionsFit, none, more, ReplayFits}
use Rattle.engine.specs.Packing.{records_of, piece_of, packed, packs}
use Rattle.engine.specs.Machine.{Does, text_at, entry_of, fetch, fetched, next_part, walks, walk_on, weigh, lines_then, start_job}
use Rattle.engine.proofs.Facts.{Codec, Safe, Rest, quiet, busy}
use Rattle.engine.proofs.Course.{Course, Leads, On-course, stops, asks, go_record, chosen}
use Rattle.engine.proofs.Pieces.{line_of, packed-long, packed-at, packs-at, line-fits, records_few}
use Rattle.engine.proofs.CompactFacts.{quiet_at, busy-at, quiet_long, busy-long}
use Rattle.engine.proofs.Finish.{rest_as, rest_off, rest_small}

-- THE WALK'S STATES differ only in their phase and in what the walk has
abbrev pub walk_with : Phase → Walking → House → House
walk_with ph v x = house ph x.tapes x.store x.job v x.putting x.carrying

abbrev pub walk_at : Phase → ℕ → ℕ → ℕ → List ℕ → House → House
walk_at ph i j went bs x = walk_with ph (walking_of i j went bs) x

pub fits-walk : {x : House} (ph : Phase) {v : Walking} → Fits x → WalkingFits v → Fits (walk_with ph v x)
fits-walk ph f g = record { tapes = f.tapes; store = f.store; job = f.job; walking = g; putting = f.putting; carrying = f.carrying }

pub rest_walk : {codec : Codec} {R : ℕ} {d : Device} {x : House} {k : Kept} (ph : Phase) (v : Walking) → Rest codec R d x k → Rest codec R d (walk_with ph v x) k
rest_walk {codec} {x = x} ph v h = rest_as codec ph x.job v x.putting x.carrying h

-- a job that walks begins before its first line
pub job-walks : (c : Simple) (size : ℕ) (p : Plan) (x : House) → walks p.walk ≡ true → start_job c size p x ≡ walk_at x.phase p.after 0 0 [] (start_job c size p x)
job-walks c size p x e = ap (λ b. walk_at x.phase p.after 0 (pick b 0 (pick (ltb p.after p.upto) x.store.small.weight 0)) [] (start_job c size p x)) e

-- a stop leaves what was kept before
pub safe_rest : {codec : Codec} {R : ℕ} {d : Device} {x : House} {k : Kept} (k₁ : Kept) → Rest codec R d x k → Safe codec R d k k₁
safe_rest {codec} k₁ h = record { leaves = λ cs. inl (rest_off codec h cs) }

-- LINES of the text, of which some are still ahead
pub record Line-at (text : List (List ℕ)) (i : ℕ) (l : List ℕ) : Type 0 where
  pub there : i < length text
  pub is : line_of text i ≡ l

pub record Ahead (text ls : List (List ℕ)) (i upto : ℕ) : Type 0 where
  pub behind : List (List ℕ)
  pub split : drop i text ≡ ls ++ behind
  pub count : i + length ls ≡ upto

pub ahead_all : (text : List (List ℕ)) (a b : ℕ) → a ≤ b → b ≤ length text → Ahead text (take (b - a) (drop a text)) a b
ahead_all text a b p q = record { behind = drop (b - a) (drop a text); split = sym (take-append-drop (b - a) (drop a text)); count = simp (length-take, length-drop) (omega arith) }

pub walked-long : (k : Kept) (p : Plan) → p.after ≤ p.upto → p.upto ≤ length k.text → length (walked k p) ≡ p.upto - p.after
walked-long k p a b = simp (length-take, length-drop) (omega arith)

pub ahead_first : {text : List (List ℕ)} {l : List ℕ} {ls : List (List ℕ)} {i upto : ℕ} → Ahead text (l ∷ ls) i upto → Line-at text i l × Ahead text ls (suc i) upto
ahead_first {text} {l} {ls} {i} h =
    let n : length text - i ≡ suc (length (ls ++ h.behind)) = sym (length-drop i text) ∙ ap length h.split in
    let b : i < length text = omega arith in
    let c : line_of text i ∷ drop (suc i) text ≡ l ∷ (ls ++ h.behind) = sym (drop-cons text i [] b) ∙ h.split in
    (record { there = b; is = cc }, record { behind = h.behind; split = cc; count = let q = h.count in omega arith })

-- WHERE IT LIES
pub text_starts : (k : Kept) → text_at (smalls_of k) ≡ offset k.files
text_starts k = added_each (λ e. e.lines) plan.entry_of k.files

text-line : (k : Kept) (i : ℕ) → line_of (directory k) (offset k.files + i) ≡ line_of k.text i
text-line k i = ap (λ o. get_or (directory k) (o + i) []) (sym (offset_is k.files)) ∙ get_or-append-add (file_lines k.files) k.text i []

pub on_a_tape : {D : List Position} → PositionsFit D → (i : ℕ) → (get_or D i hole).tape < 2
on_a_tape none i = omega arith
on_a_tape (more f h) zero = f.tape
on_a_tape (more f h) (suc i) = on_a_tape h i

module _ (codec : Codec) {R : ℕ} {d : Device} {x : House} {k : Kept} where
  rest_long : Rest codec R d x k → length x.store.dir ≡ length (directory k)
  rest_long (quiet h l) = quiet_long codec (quiet_at codec h)
  rest_long (busy S h l) = busy-long codec (busy-at codec h)

  -- record j of entry e, which is the line l
  entry-reads : (e j : ℕ) (l : List ℕ) → Rest codec R d x k → e < length (directory k) → line_of (directory k) e ≡ l → j < records_of (length l) →
      piece_in (codec.reading (read_record d (entry_of x e).tape ((entry_of x e).at + j))) ≡ piece_of l j
  entry-reads e j l h b q c =
      let p : get_or (packs (directory k)) e (packed l) ≡ packed l = subst (λ z. get_or (packs (directory k)) e (packed z) ≡ packed z) q (packs-at (directory k) e b) in
      let n : j < length (pieces_of (packed l)) = let z = packed-long l in omega arith in
      let m : e < length x.store.dir = let z = rest_long h in omega arith in
      go h m p n ∙ packed-at l j c
    where
      go : Rest codec R d x k → e < length x.store.dir → get_or (packs (directory k)) e (packed l) ≡ packed l → j < length (pieces_of (packed l)) →
          piece_in (codec.reading (read_record d (entry_of x e).tape ((entry_of x e).at + j))) ≡ get_or (pieces_of (packed l)) j no_piece
      go (quiet f u) m p n = lifecycle.active-reads updated no_state ReplayFits codec.reading codec.torn e j (packed l) f.log codec.empty m p n
      go (busy S f u) m p n = lifecycle.copying_reads updated no_state ReplayFits codec.reading codec.torn e j (packed l) f.log codec.empty m p n

  -- record j of line i of the text
  pub reading : (i j : ℕ) {l : List ℕ} → Rest codec R d x k → Line-at k.text i l → j < records_of (length l) →
      piece_in (codec.reading (read_record d (entry_of x (text_at x.store.small + i)).tape ((entry_of x (text_at x.store.small + i)).at + j))) ≡ piece_of l j
  reading i j {l} h a c =
      let s : text_at x.store.small ≡ offset k.files = ap text_at (rest_small codec h).small ∙ text_starts k in
      let e : ℕ = text_at x.store.small + i in
      entry-reads e j l h (let u = directory-long k in let v = a.there in omega arith) (ap (λ o. line_of (directory k) (o + i)) s ∙ text-line k i ∙ a.is) c

-- BYTES of a line's records behind one another, after some from before
records_hold : (n j : ℕ) → suc j ≡ records_of n → n ≤ 1024 → n ≤ 503 * suc j
records_hold n j e h = go (ltb 1006 n) refl (ltb 503 n) refl e
  where
    go : (a : Bool) → ltb 1006 n ≡ a → (b : Bool) → ltb 503 n ≡ b → suc j ≡ pick a 3 (pick b 2 1) → n ≤ 503 * suc j
    go true p b q f = omega arith
    go false p true q f = let u = ltb-false 1006 n p in omega arith
    go false p false q f = let u = ltb-false 503 n q in omega arith

pub parts-joined : (pre l : List ℕ) (j : ℕ) → (pre ++ take (503 * j) l) ++ take 503 (drop (503 * j) l) ≡ pre ++ take (503 * suc j) l
parts-joined pre l j =
    append_assoc pre (take (503 * j) l) (take 503 (drop (503 * j) l)) ∙ ap (λ z. pre ++ z) (sym (take-add (503 * j) 503 l))
    ∙ (let e : 503 * j + 503 ≡ 503 * suc j = omega arith in ap (λ m. pre ++ take m l) e)

pub line-joined : (pre l : List ℕ) (j : ℕ) → suc j ≡ records_of (length l) → length l ≤ 1024 → (pre ++ take (503 * j) l) ++ take 503 (drop (503 * j) l) ≡ pre ++ l
line-joined pre l j e h = parts-joined pre l j ∙ ap (λ z. pre ++ z) (take_all (503 * suc j) l (records_hold (length l) j e h))

pub walking-fits : (i j went : ℕ) (bs : List ℕ) → Word i → j ≤ 2 → Word went → length bs ≤ 1024 → all_bytes bs ≡ true → WalkingFits (walking_of i j went bs)
walking-fits i j went bs a b c e f = record { line = a; part = b; went = c; bytes_few = e; bytes = f }

pub bytes_fit : (l : List ℕ) → fit_line l ≡ true → all_bytes l ≡ true
bytes_fit l h = (and_parts (leb (length l) 1024) (all_bytes l) h).1

-- HOW MUCH lines weigh
pub size-append : (us vs : List (List ℕ)) → lines_size (us ++ vs) ≡ lines_size us + lines_size vs
size-append us vs = added_append (λ l. 64 + length l) us vs

pub part_light : (n m : ℕ) (ls : List (List ℕ)) → lines_size (take n (drop m ls)) ≤ lines_size ls
part_light n m ls =
    let a : lines_size (take m ls) + lines_size (drop m ls) ≡ lines_size ls = sym (size-append (take m ls) (drop m ls)) ∙ ap lines_size (take-append-drop m ls) in
    let b : lines_size (take n (drop m ls)) + lines_size (drop n (drop m ls)) ≡ lines_size (drop m ls) = sym (size-append (take n (drop m ls)) (drop n (drop m ls))) ∙ ap lines_size (take-append-drop n (drop m ls)) in
    omega arith

-- WHERE IT LEADS
module _ (codec : Codec) (R n : ℕ) {w : Plain} {t : List ℕ} (C : Course R w t) {k : Kept} {d : Device} {x : House} (held : Held w k) (rest : Rest codec R d x k) (fits : Fits x) where
  -- what the lines weigh that are walked over is a number of 32 bits
  pub walked_word : (p : Plan) → Word (lines_size (walked k p))
  walked_word p =
      let h = rest_small codec rest in
      let a = part_light (p.upto - p.after) p.after k.text in
      let b : lines_size k.text ≤ kept_weight k = omega arith in
      let c = h.light in
      let e = h.at_most in
      omega arith

  pub line-fits-at : {i : ℕ} {l : List ℕ} → Line-at k.text i l → fit_line l ≡ true
  line-fits-at {i} a = subst (λ z. fit_line z ≡ true) a.is (line-fits k.text i held.sound.lines_fit)

  module _ {W : Walk} (walk : x.job.plan.walk ≡ W) (ss : List (List ℕ)) where
    pub fetch-leads : (ph : Phase) (i j went : ℕ) (bs : List ℕ) (r : ℕ) {l : List ℕ} {more : List (List ℕ)} {r₀ c : ℕ} → Line-at k.text i l → j < records_of (length l) →
        WalkingFits (walking_of i j went bs) → On-course codec R n C ss more r₀ c → Leads codec R n C (after_did d ss (suc r) (fetched W (piece_of l j) (walk_at fetching i j went bs x))) →
        Leads codec R n C (after_did d ss r (fetch (walk_at ph i j went bs x)))
    fetch-leads ph i j went bs r {l} a b f o h =
        let p : Position = entry_of x (text_at x.store.small + i) in
        let y : House = walk_at fetching i j went bs x in
        let g : Page = read_record d p.tape (p.at + j) in
        asks codec.reading d p.tape (p.at + j) (on_a_tape fits.store.dir (text_at x.store.small + i))
        (go_record codec.reading g fetching (codec.reading g) refl refl (fits-walk fetching fits f) (stops codec R n C k held (rest_small codec rest).light (safe_rest C.kept rest) o)
        (subst (λ z. Leads codec R n C (after_did d ss (suc r) (fetched z (piece_in (codec.reading g)) y))) (sym walk)
        (subst (λ z. Leads codec R n C (after_did d ss (suc r) (fetched W z y))) (sym (reading codec i j rest a b)) h)))

    -- at the decision whether there are more lines
    pub walk_more : (ph : Phase) (i went : ℕ) (bs : List ℕ) (r : ℕ) → walks W ≡ true → i < x.job.plan.upto →
        Leads codec R n C (after_did d ss r (fetch (walk_at ph i 0 went bs x))) → Leads codec R n C (after_did d ss r (walk_on (walk_at ph i 0 went bs x)))
    walk_more ph i went bs r q b h =
        chosen (λ (y : Does). Leads codec R n C (after_did d ss r y)) (walks x.job.plan.walk && ltb i x.job.plan.upto) true _ _ (and_from _ _ (ap walks walk ∙ q) (lt-ltb i x.job.plan.upto b)) h

    pub walk-done : (ph : Phase) (i went : ℕ) (bs : List ℕ) (r : ℕ) → x.job.plan.upto ≤ i →
        Leads codec R n C (after_did d ss r (weigh (lines_then W (walk_at ph i 0 went bs x)))) → Leads codec R n C (after_did d ss r (walk_on (walk_at ph i 0 went bs x)))
    walk-done ph i went bs r b h =
        chosen (λ (y : Does). Leads codec R n C (after_did d ss r y)) (walks x.job.plan.walk && ltb i x.job.plan.upto) false _ _ (and_right _ _ (le-ltb i x.job.plan.upto b))
        (subst (λ z. Leads codec R n C (after_did d ss r (weigh (lines_then z (walk_at ph i 0 went bs x))))) (sym walk) h)

    -- the records of a line, from the jth on, behind which there are m
    pub line-leads : (m j i went : ℕ) (pre : List ℕ) (r r₁ : ℕ) {l : List ℕ} {more : List (List ℕ)} {r₀ c : ℕ} → Line-at k.text i l → j + suc m ≡ records_of (length l) → Word i → Word went →
        length pre + length l ≤ 1024 → all_bytes pre ≡ true → On-course codec R n C ss more r₀ c → r + m ≤ r₁ →
        ((j r : ℕ) → suc j < records_of (length l) → Leads codec R n C (after_did d ss r (fetch (next_part (piece_of l j) (walk_at fetching i j went (pre ++ take (503 * j) l) x)))) →
        Leads codec R n C (after_did d ss r (fetched W (piece_of l j) (walk_at fetching i j went (pre ++ take (503 * j) l) x)))) →
        ((j r : ℕ) → suc j ≡ records_of (length l) → r ≤ r₁ → Leads codec R n C (after_did d ss r (fetched W (piece_of l j) (walk_at fetching i j went (pre ++ take (503 * j) l) x)))) →
        Leads codec R n C (after_did d ss r (fetched W (piece_of l j) (walk_at fetching i j went (pre ++ take (503 * j) l) x)))
    line-leads zero j i went pre r r₁ a e u v s g o q goes_on last = last j r (omega arith) (omega arith)
    line-leads (suc m) j i went pre r r₁ {l} a e u v s g o q goes_on last =
        let bs : List ℕ = pre ++ take (503 * suc j) l in
        let few = records_few (length l) in
        let f : WalkingFits (walking_of i (suc j) went bs) = walking-fits i (suc j) went bs u (omega arith) v (simp (length-append, length-take) (omega arith))
        (every_both (λ b. ltb b 256) pre (take (503 * suc j) l) g (every_take (λ b. ltb b 256) (503 * suc j) l (bytes_fit l (line-fits-at a)))) in
        goes_on j r (omega arith)
        (subst (λ z. Leads codec R n C (after_did d ss r (fetch (walk_at fetching i (suc j) went z x)))) (sym (parts-joined pre l j))
        (fetch-leads fetching i (suc j) went bs r a (omega arith) f o (line-leads m (suc j) i went pre (suc r) r₁ a (omega arith) u v s g o (omega arith) goes_on last)))
