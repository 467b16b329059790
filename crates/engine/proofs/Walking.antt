-- The walk over lines of the text: shown, measured or joined, each line leads to the next one, and the last to what is done after it. Assumes nothing.
use Rattle.std.proofs.Common.{◌≡◌, ℕ, suc, ◌+◌, ◌-◌, ◌*◌, ◌<◌, ◌≤◌, Bool, true, false, ◌&&◌, ltb, List, [], ◌∷◌, ◌++◌, length, take, sym, refl, ap, ◌∙◌, subst, append_assoc, arith}
use Rattle.std.proofs.lemmas.Bool.{lt-ltb, le-ltb, and_left}
use Rattle.plain.specs.Pattern.{pick, eight}
use Rattle.plain.specs.House.{Plain}
use Rattle.plain.specs.Device.{Device}
use Rattle.journal.specs.Log.{Piece}
use Rattle.plain.specs.Run.{next}
use Rattle.journal.proofs.Machine.{going, after_did}
use Rattle.commands.specs.Kept.{Kept, lines_size}
use Rattle.commands.specs.Plan.{Walk, skip, show, show_numbered, measure}
use Rattle.commands.specs.Turn.{walked, walk_rows, numbered}
use Rattle.commands.specs.Held.{Held}
use Rattle.engine.specs.State.{House, Phase, fetching, row_shown, walking_of}
use Rattle.engine.specs.Fits.{Fits, Word}
use Rattle.engine.specs.Packing.{records_of, piece_of}
use Rattle.engine.specs.Machine.{Does, fetch, fetched, next_part, walks, walk_on, weigh, show_piece, lines_then}
use Rattle.engine.proofs.Facts.{Codec, Rest}
use Rattle.engine.proofs.Course.{Course, Leads, On-course, stops, go_next, chosen}
use Rattle.engine.proofs.Pieces.{records_few, long-fits}
use Rattle.engine.proofs.Finish.{rest_small}
use Rattle.engine.proofs.Fetching.{walk_at, fits-walk, rest_walk, safe_rest, Line-at, Ahead, ahead_all, ahead_first, line-joined, walking-fits, walked_word, line-fits-at, fetch-leads, walk_more, walk-done, line-leads}

-- SHOWING, with or without numbers
abbrev pub shown_walk : Bool → Walk
shown_walk true = show_numbered
shown_walk false = show

pub shown_walks : (b : Bool) → walks (shown_walk b) ≡ true
shown_walks true = refl
shown_walks false = refl

shown_rows : (b : Bool) (m : ℕ) (l : List ℕ) (ls : List (List ℕ)) → walk_rows (shown_walk b) m (l ∷ ls) ≡ pick b (eight m ++ l) l ∷ walk_rows (shown_walk b) (suc m) ls
unfolding walk_rows numbered
shown_rows true m l ls = refl
shown_rows false m l ls = refl

shown_none : (b : Bool) (m : ℕ) → walk_rows (shown_walk b) m [] ≡ []
unfolding walk_rows numbered
shown_none true m = refl
shown_none false m = refl

shown_piece : (b : Bool) (p : Piece) (y : House) → fetched (shown_walk b) p y ≡ show_piece b p y
shown_piece true p y = refl
shown_piece false p y = refl

shown_then : (b : Bool) (y : House) → lines_then (shown_walk b) y ≡ y
shown_then true y = refl
shown_then false y = refl

module _ (codec : Codec) (R n : ℕ) {w : Plain} {t : List ℕ} (C : Course R w t) {k : Kept} {d : Device} {x : House} (held : Held w k) (rest : Rest codec R d x k) (fits : Fits x) where
  -- where it leads when all lines are walked over, and weigh as much as that
  abbrev pub Past : ℕ → List (List ℕ) → ℕ → Type 0
  Past total more c =
      (ph : Phase) (ss : List (List ℕ)) (r : ℕ) → Fits (walk_at ph x.job.plan.upto 0 total [] x) → Rest codec R d (walk_at ph x.job.plan.upto 0 total [] x) k →
      On-course codec R n C ss more r c → Leads codec R n C (after_did d ss r (weigh (walk_at ph x.job.plan.upto 0 total [] x)))

  past : {total : ℕ} {more : List (List ℕ)} {c : ℕ} (ph : Phase) (i went : ℕ) (ss : List (List ℕ)) (r : ℕ) → i + 0 ≡ x.job.plan.upto → went + 0 ≡ total → Word total → Past total more c →
      On-course codec R n C ss more r c → Leads codec R n C (after_did d ss r (weigh (walk_at ph i 0 went [] x)))
  past {total} {more} {c} ph i went ss r e q u then o =
      let e₁ : x.job.plan.upto ≡ i = omega arith in
      let q₁ : total ≡ went = omega arith in
      subst (λ z. Leads codec R n C (after_did d ss r (weigh (walk_at ph z 0 went [] x)))) e₁
      (subst (λ z. Leads codec R n C (after_did d ss r (weigh (walk_at ph x.job.plan.upto 0 z [] x)))) q₁
      (then ph ss r (fits-walk ph fits (walking-fits x.job.plan.upto 0 total [] fits.job.plan.upto (omega arith) u (omega arith) refl)) (rest_walk ph (walking_of x.job.plan.upto 0 total []) rest) o))

  -- NOTHING to walk over
  pub skip_leads : (ss : List (List ℕ)) (r : ℕ) → x.job.plan.walk ≡ skip → Leads codec R n C (after_did d ss r (weigh x)) → Leads codec R n C (after_did d ss r (walk_on x))
  skip_leads ss r m h =
      chosen (λ (y : Does). Leads codec R n C (after_did d ss r y)) (walks x.job.plan.walk && ltb x.walking.line x.job.plan.upto) false _ _ (and_left _ _ (ap walks m))
      (subst (λ z. Leads codec R n C (after_did d ss r (weigh (lines_then z x)))) (sym m) h)

  -- MEASURING: the first record of each line
  pub measure_from : (ls : List (List ℕ)) (ph : Phase) (i went total : ℕ) (ss : List (List ℕ)) (r : ℕ) {more : List (List ℕ)} {c : ℕ} → x.job.plan.walk ≡ measure →
      Ahead k.text ls i x.job.plan.upto → went + lines_size ls ≡ total → Word total → On-course codec R n C ss more r (3 * length ls + c) → Past total more c →
      Leads codec R n C (after_did d ss r (walk_on (walk_at ph i 0 went [] x)))
  measure_from [] ph i went total ss r {more} {c} m a q u o then =
      let b = a.count in
      walk-done codec R n C held rest fits m ss ph i went [] r (omega arith) (past ph i went ss r b q u then (record { rows = o.rows; count = let z = o.count in omega arith }))
  measure_from (l ∷ ls) ph i went total ss r {more} {c} m a q u o then =
      let b = ahead_first a in
      let e = a.count in
      let few = records_few (length l) in
      let top : Word x.job.plan.upto = fits.job.plan.upto in
      let g : On-course codec R n C ss more (suc r) (3 * length ls + c) = record { rows = o.rows; count = let z = o.count in omega arith } in
      walk_more codec R n C held rest fits m ss ph i went [] r refl (omega arith)
      (fetch-leads codec R n C held rest fits m ss ph i 0 went [] r b.0 (omega arith) (walking-fits i 0 went [] (omega arith) (omega arith) (omega arith) (omega arith) refl) g
      (measure_from ls fetching (suc i) (went + (64 + length l)) total ss (suc r) m b.1 (omega arith) u g then))

  -- SHOWING: a line is read, record by record, and shown
  abbrev row_at : Bool → ℕ → List ℕ → List ℕ
  row_at b i l = pick b (eight (suc i) ++ l) l

  row-then : {ss more : List (List ℕ)} {r c : ℕ} (row : List ℕ) → On-course codec R n C ss (row ∷ more) r c → On-course codec R n C (ss ++ row ∷ []) more r c
  row-then {ss} {more} row o = record { rows = append_assoc ss (row ∷ []) more ∙ o.rows; count = o.count }

  show-line : (b : Bool) (ph : Phase) (i went : ℕ) (ss : List (List ℕ)) (r : ℕ) {l : List ℕ} {more : List (List ℕ)} {r₀ c : ℕ} → x.job.plan.walk ≡ shown_walk b → Line-at k.text i l →
      Word (suc i) → Word (went + (64 + length l)) → On-course codec R n C ss (row_at b i l ∷ more) r₀ c →
      ((r₁ : ℕ) → r₁ ≤ r + 3 → Leads codec R n C (after_did d (ss ++ row_at b i l ∷ []) r₁ (walk_on (walk_at row_shown (suc i) 0 (went + (64 + length l)) [] x)))) →
      Leads codec R n C (after_did d ss r (fetch (walk_at ph i 0 went [] x)))
  show-line b ph i went ss r {l} {more} {r₀} {c} m a u v o then =
      let few = records_few (length l) in
      let short : length l ≤ 1024 = long in
      fetch-leads codec R n C held rest fits m ss ph i 0 went [] r a (omega arith) (walking-fits i 0 went [] (omega arith) (omega arith) (omega arith) (omega arith) refl) o
      (line-leads codec R n C held rest fits m ss (records_of (length l) - 1) 0 i went [] (suc r) (r + 3) a (omega arith) (omega arith) (omega arith) (omega arith) refl o (omega arith) goes_on last)
    where
      long : length l ≤ 1024
      long = long-fits l (line-fits-at codec R n C held rest fits a)

      at_part : ℕ → House
      at_part j = walk_at fetching i j went ([] ++ take (503 * j) l) x

      goes_on : (j r : ℕ) → suc j < records_of (length l) → Leads codec R n C (after_did d ss r (fetch (next_part (piece_of l j) (at_part j)))) →
          Leads codec R n C (after_did d ss r (fetched (shown_walk b) (piece_of l j) (at_part j)))
      goes_on j r q h =
          subst (λ z. Leads codec R n C (after_did d ss r z)) (sym (shown_piece b (piece_of l j) (at_part j)))
          (chosen (λ (y : Does). Leads codec R n C (after_did d ss r y)) (ltb (suc j) (records_of (length l))) true _ _ (lt-ltb (suc j) (records_of (length l)) q) h)

      last : (j r₁ : ℕ) → suc j ≡ records_of (length l) → r₁ ≤ r + 3 → Leads codec R n C (after_did d ss r₁ (fetched (shown_walk b) (piece_of l j) (at_part j)))
      last j r₁ e q =
          let o₁ : On-course codec R n C (ss ++ row_at b i l ∷ []) more r₀ c = row-then (row_at b i l) o in
          let s = stops codec R n C k held (rest_small codec rest).light (safe_rest C.kept rest) o₁ in
          let y : House = walk_at row_shown (suc i) 0 (went + (64 + length l)) [] x in
          let f : Fits y = fits-walk row_shown fits (walking-fits (suc i) 0 (went + (64 + length l)) [] u (omega arith) v (omega arith) refl) in
          subst (λ z. Leads codec R n C (after_did d ss r₁ z)) (sym (shown_piece b (piece_of l j) (at_part j)))
          (chosen (λ (y : Does). Leads codec R n C (after_did d ss r₁ y)) (ltb (suc j) (records_of (length l))) false _ _ (le-ltb (suc j) (records_of (length l)) (omega arith))
          (subst (λ z. Leads codec R n C (going y d next (ss ++ row_at b i z ∷ []) r₁)) (sym (line-joined [] l j e long)) (go_next codec.reading row_shown refl f s (then r₁ q))))

  pub show_from : (b : Bool) (ls : List (List ℕ)) (ph : Phase) (i went total : ℕ) (ss : List (List ℕ)) (r : ℕ) {more : List (List ℕ)} {c : ℕ} → x.job.plan.walk ≡ shown_walk b →
      Ahead k.text ls i x.job.plan.upto → went + lines_size ls ≡ total → Word total → On-course codec R n C ss (walk_rows (shown_walk b) (suc i) ls ++ more) r (3 * length ls + c) →
      Past total more c → Leads codec R n C (after_did d ss r (walk_on (walk_at ph i 0 went [] x)))
  show_from b [] ph i went total ss r {more} {c} m a q u o then =
      let e = a.count in
      let o₁ : On-course codec R n C ss more r c = record { rows = ap (λ z. ss ++ (z ++ more)) (sym (shown_none b (suc i))) ∙ o.rows; count = let z = o.count in omega arith } in
      walk-done codec R n C held rest fits m ss ph i went [] r (omega arith)
      (subst (λ z. Leads codec R n C (after_did d ss r (weigh z))) (sym (shown_then b (walk_at ph i 0 went [] x))) (past ph i went ss r e q u then o₁))
  show_from b (l ∷ ls) ph i went total ss r {more} {c} m a q u o then =
      let g = ahead_first a in
      let e = a.count in
      let top : Word x.job.plan.upto = fits.job.plan.upto in
      let more₁ : List (List ℕ) = walk_rows (shown_walk b) (suc (suc i)) ls ++ more in
      let o₁ : On-course codec R n C ss (row_at b i l ∷ more₁) r (3 * length (l ∷ ls) + c) = record { rows = ap (λ z. ss ++ (z ++ more)) (sym (shown_rows b (suc i) l ls)) ∙ o.rows; count = o.count } in
      walk_more codec R n C held rest fits m ss ph i went [] r (shown_walks b) (omega arith)
      (show-line b ph i went ss r m g.0 (omega arith) (omega arith) o₁ (λ r₁ h.
      show_from b ls row_shown (suc i) (went + (64 + length l)) total (ss ++ row_at b i l ∷ []) r₁ m g.1 (omega arith) u
      (record { rows = (row-then (row_at b i l) o₁).rows; count = let z = o.count in omega arith }) then))

  -- FROM THE START
  pub show_leads : (b : Bool) (ph : Phase) (ss : List (List ℕ)) (r : ℕ) {more : List (List ℕ)} {c : ℕ} → x.job.plan.walk ≡ shown_walk b →
      x.job.plan.after ≤ x.job.plan.upto → x.job.plan.upto ≤ length k.text →
      On-course codec R n C ss (walk_rows (shown_walk b) (suc x.job.plan.after) (walked k x.job.plan) ++ more) r (3 * length (walked k x.job.plan) + c) →
      Past (lines_size (walked k x.job.plan)) more c → Leads codec R n C (after_did d ss r (walk_on (walk_at ph x.job.plan.after 0 0 [] x)))
  show_leads b ph ss r m p q o then =
      show_from b (walked k x.job.plan) ph x.job.plan.after 0 (lines_size (walked k x.job.plan)) ss r m (ahead_all k.text x.job.plan.after x.job.plan.upto p q) (omega arith)
      (walked_word codec R n C held rest fits x.job.plan) o then

  pub measure_leads : (ph : Phase) (ss : List (List ℕ)) (r : ℕ) {more : List (List ℕ)} {c : ℕ} → x.job.plan.walk ≡ measure →
      x.job.plan.after ≤ x.job.plan.upto → x.job.plan.upto ≤ length k.text → On-course codec R n C ss more r (3 * length (walked k x.job.plan) + c) →
      Past (lines_size (walked k x.job.plan)) more c → Leads codec R n C (after_did d ss r (walk_on (walk_at ph x.job.plan.after 0 0 [] x)))
  measure_leads ph ss r m p q o then =
      measure_from (walked k x.job.plan) ph x.job.plan.after 0 (lines_size (walked k x.job.plan)) ss r m (ahead_all k.text x.job.plan.after x.job.plan.upto p q) (omega arith)
      (walked_word codec R n C held rest fits x.job.plan) o then
