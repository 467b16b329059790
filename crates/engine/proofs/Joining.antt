-- The walk over lines that are joined: their bytes behind one another, or refused where these are too many for a line. Assumes nothing.
use Rattle.std.proofs.Common.{◌≡◌, ℕ, zero, suc, ◌+◌, ◌-◌, ◌*◌, ◌<◌, ◌≤◌, true, false, ltb, ◌⊎◌, List, [], ◌∷◌, ◌++◌, length, take, sym, refl, ap, ◌∙◌, subst, inl, inr, append_assoc, append-nil, arith, length-append}
use Rattle.std.proofs.lemmas.Bool.{lt-ltb, le-ltb, ne_eqb, and_left, cases_lt}
use Rattle.plain.specs.Pattern.{all_bytes}
use Rattle.plain.specs.House.{Plain}
use Rattle.plain.specs.Device.{Device}
use Rattle.journal.proofs.Machine.{after_did}
use Rattle.commands.specs.Kept.{Kept, lines_size}
use Rattle.commands.specs.Plan.{glue}
use Rattle.commands.specs.Turn.{walked, glued_lines}
use Rattle.commands.specs.Held.{Held}
use Rattle.commands.proofs.Lists.{every_both}
use Rattle.engine.specs.State.{House, Phase, fetching, Walking, walking_of}
use Rattle.engine.specs.Fits.{Fits, Word}
use Rattle.engine.specs.Packing.{records_of, piece_of}
use Rattle.engine.specs.Machine.{Does, refuses, fetch, fetched, next_part, too_long, walk_on, weigh, lines_then}
use Rattle.engine.proofs.Facts.{Codec, Rest}
use Rattle.engine.proofs.Course.{Course, Leads, On-course, chosen}
use Rattle.engine.proofs.Pieces.{records_few}
use Rattle.engine.proofs.Finish.{rest_as}
use Rattle.engine.proofs.Fetching.{walk_with, walk_at, fits-walk, rest_walk, Line-at, Ahead, ahead_all, ahead_first, line-joined, bytes_fit, walking-fits, walked_word, line-fits-at, fetch-leads, walk_more, walk-done, line-leads}

-- the state in which the joined line is to be put on
abbrev pub joined_at : Phase → ℕ → ℕ → List ℕ → House → House
joined_at ph upto total all x = lines_then glue (walk_at ph upto 0 total all x)

pub fits-joined : (x : House) (ph : Phase) (upto total : ℕ) (all : List ℕ) → Fits (walk_at ph upto 0 total all x) → Fits (joined_at ph upto total all x)
fits-joined x ph upto total all f = record {
  tapes = f.tapes;
  store = f.store;
  job = record { plan = f.job.plan; name = f.job.name; name_bytes = f.job.name_bytes; size = f.job.size };
  walking = f.walking;
  putting = f.putting;
  carrying = f.carrying;
}

module _ (codec : Codec) (R n : ℕ) {w : Plain} {t : List ℕ} (C : Course R w t) {k : Kept} {d : Device} {x : House} (held : Held w k) (rest : Rest codec R d x k) (fits : Fits x) (ss : List (List ℕ)) where
  -- where it leads when all lines are joined, and where they are too long
  abbrev pub Joined : ℕ → List ℕ → List (List ℕ) → ℕ → Type 0
  Joined total all more c =
      (ph : Phase) (r : ℕ) → Fits (joined_at ph x.job.plan.upto total all x) → Rest codec R d (joined_at ph x.job.plan.upto total all x) k →
      On-course codec R n C ss more r c → Leads codec R n C (after_did d ss r (weigh (joined_at ph x.job.plan.upto total all x)))

  abbrev pub Refused : List (List ℕ) → ℕ → Type 0
  Refused more c =
      (ph : Phase) (v : Walking) (r : ℕ) → Fits (walk_with ph v x) → Rest codec R d (walk_with ph v x) k → On-course codec R n C ss more r c →
      Leads codec R n C (after_did d ss r (refuses 7 (walk_with ph v x)))

  -- a line that isn't too long: its records behind what is joined so far
  join-line : (i went : ℕ) (pre : List ℕ) (r : ℕ) {l : List ℕ} {more : List (List ℕ)} {r₀ c : ℕ} → x.job.plan.walk ≡ glue → Line-at k.text i l → Word i → Word went →
      length pre + length l ≤ 1024 → all_bytes pre ≡ true → On-course codec R n C ss more r₀ c →
      ((r₁ : ℕ) → r₁ ≤ r + 2 → Leads codec R n C (after_did d ss r₁ (walk_on (walk_at fetching (suc i) 0 (went + (64 + length l)) (pre ++ l) x)))) →
      Leads codec R n C (after_did d ss r (fetched glue (piece_of l 0) (walk_at fetching i 0 went pre x)))
  join-line i went pre r {l} {more} {r₀} {c} m a u v b f o then =
      let few = records_few (length l) in
      subst (λ z. Leads codec R n C (after_did d ss r (fetched glue (piece_of l 0) (walk_at fetching i 0 went z x)))) (append-nil pre)
      (line-leads codec R n C held rest fits m ss (records_of (length l) - 1) 0 i went pre r (r + 2) a (omega arith) u v b f o (omega arith) goes_on last)
    where
      at_part : ℕ → House
      at_part j = walk_at fetching i j went (pre ++ take (503 * j) l) x

      short : (j : ℕ) → too_long (piece_of l j) (at_part j) ≡ false
      short zero = le-ltb 1024 (length (pre ++ []) + length l) (simp length-append (omega arith))
      short (suc j) = and_left _ _ (ne_eqb (suc j) 0 (λ e. omega arith))

      goes_on : (j r : ℕ) → suc j < records_of (length l) → Leads codec R n C (after_did d ss r (fetch (next_part (piece_of l j) (at_part j)))) →
          Leads codec R n C (after_did d ss r (fetched glue (piece_of l j) (at_part j)))
      goes_on j r q h =
          chosen (λ (y : Does). Leads codec R n C (after_did d ss r y)) (too_long (piece_of l j) (at_part j)) false _ _ (short j)
          (chosen (λ (y : Does). Leads codec R n C (after_did d ss r y)) (ltb (suc j) (records_of (length l))) true _ _ (lt-ltb (suc j) (records_of (length l)) q) h)

      last : (j r₁ : ℕ) → suc j ≡ records_of (length l) → r₁ ≤ r + 2 → Leads codec R n C (after_did d ss r₁ (fetched glue (piece_of l j) (at_part j)))
      last j r₁ e q =
          chosen (λ (y : Does). Leads codec R n C (after_did d ss r₁ y)) (too_long (piece_of l j) (at_part j)) false _ _ (short j)
          (chosen (λ (y : Does). Leads codec R n C (after_did d ss r₁ y)) (ltb (suc j) (records_of (length l))) false _ _ (le-ltb (suc j) (records_of (length l)) (omega arith))
          (subst (λ z. Leads codec R n C (after_did d ss r₁ (walk_on (walk_at fetching (suc i) 0 (went + (64 + length l)) z x)))) (sym (line-joined pre l j e (omega arith))) (then r₁ q)))

  pub join_from : (ls : List (List ℕ)) (ph : Phase) (i went total : ℕ) (pre all : List ℕ) (r : ℕ) {more : List (List ℕ)} {c : ℕ} → x.job.plan.walk ≡ glue →
      Ahead k.text ls i x.job.plan.upto → went + lines_size ls ≡ total → Word total → pre ++ glued_lines ls ≡ all → length pre ≤ 1024 → all_bytes pre ≡ true →
      On-course codec R n C ss more r (3 * length ls + c) → (length all ≤ 1024 → Joined total all more c) → (1024 < length all → Refused more c) →
      Leads codec R n C (after_did d ss r (walk_on (walk_at ph i 0 went pre x)))
  join_from [] ph i went total pre all r {more} {c} m a q u e b f o then refuse =
      let z = a.count in
      let upto : ℕ = x.job.plan.upto in
      let e₁ : upto ≡ i = omega arith in
      let e₂ : total ≡ went = omega arith in
      let e₃ : all ≡ pre = sym e ∙ append-nil pre in
      let b₁ : length all ≤ 1024 = subst (λ (y : List ℕ). length y ≤ 1024) (sym e₃) b in
      let f₁ : all_bytes all ≡ true = subst (λ (y : List ℕ). all_bytes y ≡ true) (sym e₃) f in
      let g : Fits (walk_at ph upto 0 total all x) = fits-walk ph fits (walking-fits upto 0 total all fits.job.plan.upto (omega arith) u b₁ f₁) in
      let h : Rest codec R d (joined_at ph upto total all x) k = rest_as codec ph (joined_at ph upto total all x).job (walking_of upto 0 total all) x.putting x.carrying rest in
      walk-done codec R n C held rest fits m ss ph i went pre r (omega arith)
      (subst (λ y. Leads codec R n C (after_did d ss r (weigh (joined_at ph y went pre x)))) e₁
      (subst (λ y. Leads codec R n C (after_did d ss r (weigh (joined_at ph upto y pre x)))) e₂
      (subst (λ y. Leads codec R n C (after_did d ss r (weigh (joined_at ph upto total y x)))) e₃
      (then b₁ ph r (fits-joined x ph upto total all g) h (record { rows = o.rows; count = let y = o.count in omega arith })))))
  join_from (l ∷ ls) ph i went total pre all r {more} {c} m a q u e b f o then refuse =
      let g = ahead_first a in
      let z = a.count in
      let few = records_few (length l) in
      let top : Word x.job.plan.upto = fits.job.plan.upto in
      walk_more codec R n C held rest fits m ss ph i went pre r refl (omega arith)
      (fetch-leads codec R n C held rest fits m ss ph i 0 went pre r g.0 (omega arith) (walking-fits i 0 went pre (omega arith) (omega arith) (omega arith) b f) o
      (by_length (cases_lt 1024 (length pre + length l)) g.0 (omega arith) (λ p r₁ y.
      join_from ls fetching (suc i) (went + (64 + length l)) total (pre ++ l) all r₁ m g.1 (omega arith) u (append_assoc pre l (glued_lines ls) ∙ e) (simp length-append (omega arith))
      (every_both (λ y. ltb y 256) pre l f (bytes_fit l (line-fits-at codec R n C held rest fits g.0))) (record { rows = o.rows; count = let v = o.count in omega arith }) then refuse)))
    where
      all-long : length all ≡ length pre + (length l + length (glued_lines ls))
      all-long = ap length (sym e) ∙ length-append pre (l ++ glued_lines ls) ∙ ap (λ y. length pre + y) (length-append l (glued_lines ls))

      by_length : (1024 < length pre + length l) ⊎ (length pre + length l ≤ 1024) → Line-at k.text i l → Word i →
          (length pre + length l ≤ 1024 → (r₁ : ℕ) → r₁ ≤ suc r + 2 → Leads codec R n C (after_did d ss r₁ (walk_on (walk_at fetching (suc i) 0 (went + (64 + length l)) (pre ++ l) x)))) →
          Leads codec R n C (after_did d ss (suc r) (fetched glue (piece_of l 0) (walk_at fetching i 0 went pre x)))
      by_length (inl y) s h on =
          let v : Word went = omega arith in
          let z = all-long in
          chosen (λ (y : Does). Leads codec R n C (after_did d ss (suc r) y)) (too_long (piece_of l 0) (walk_at fetching i 0 went pre x)) true _ _ (lt-ltb 1024 (length pre + length l) y)
          (refuse (omega arith) fetching (walking_of i 0 went pre) (suc r) (fits-walk fetching fits (walking-fits i 0 went pre h (omega arith) v b f)) (rest_walk fetching (walking_of i 0 went pre) rest)
          (record { rows = o.rows; count = let y = o.count in omega arith }))
      by_length (inr y) s h on = join-line i went pre (suc r) m s h (omega arith) y f o (on y)

  -- from the start
  pub join_leads : (ph : Phase) (r : ℕ) {more : List (List ℕ)} {c : ℕ} → x.job.plan.walk ≡ glue → x.job.plan.after ≤ x.job.plan.upto → x.job.plan.upto ≤ length k.text →
      On-course codec R n C ss more r (3 * length (walked k x.job.plan) + c) →
      (length (glued_lines (walked k x.job.plan)) ≤ 1024 → Joined (lines_size (walked k x.job.plan)) (glued_lines (walked k x.job.plan)) more c) →
      (1024 < length (glued_lines (walked k x.job.plan)) → Refused more c) → Leads codec R n C (after_did d ss r (walk_on (walk_at ph x.job.plan.after 0 0 [] x)))
  join_leads ph r m p q o then refuse =
      join_from (walked k x.job.plan) ph x.job.plan.after 0 (lines_size (walked k x.job.plan)) [] (glued_lines (walked k x.job.plan)) r m
      (ahead_all k.text x.job.plan.after x.job.plan.upto p q) (omega arith) (walked_word codec R n C held rest fits x.job.plan) refl (omega arith) refl o then refuse
