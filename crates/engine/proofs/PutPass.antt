-- Putting a command's records on a tape, one at a time, up to its commit. Assumes nothing.
use Rattle.std.proofs.Common.{◌≡◌, ℕ, zero, suc, ◌+◌, ◌-◌, ◌*◌, ◌<◌, ◌≤◌, Bool, true, false, ltb, List, [], ◌∷◌, ◌++◌, length, sym, refl, ap, ◌∙◌, subst, append_assoc, append-nil, arith, length-append}
use mathlib.Core.List.{map-append}
use Rattle.std.proofs.lemmas.Bool.{lt-ltb, le-ltb}
use Rattle.plain.specs.Pattern.{pick}
use Rattle.plain.specs.House.{Plain}
use Rattle.plain.specs.Device.{Device, longer}
use Rattle.plain.specs.Run.{next, put_on, has_room}
use Rattle.plain.specs.Promise.{all_longer}
use Rattle.journal.specs.Log.{Position, position, Rec, line, state, pieces_of, parts, block, positions, command_records}
use Rattle.journal.specs.Small.{News}
use Rattle.journal.specs.Machine.{did}
use Rattle.records.specs.Pages.{page_of}
use Rattle.journal.proofs.Machine.{going, after_act, after_did}
use Rattle.commands.specs.Kept.{Kept, kept_weight}
use Rattle.commands.specs.Held.{Held}
use Rattle.engine.specs.State.{House, house, Phase, line_put, Tapes, putting_of, with_putting, with_used, with_other, passive}
use Rattle.engine.specs.Fits.{Fits, TapesFit, PositionsFit}
use Rattle.engine.specs.Packing.{records_of, lines_records, piece_of, pieces_from, packed, packs}
use Rattle.engine.specs.Machine.{Does, need, news_of, commit_of, put_piece, put_commit, put_next}
use Rattle.engine.proofs.Facts.{Codec, Safe}
use Rattle.engine.proofs.Course.{Course, Leads, On-course, stops, go_next, puts, chosen}
use Rattle.engine.proofs.PassDevices.{all_longer_next}
use Rattle.engine.proofs.Pieces.{records_few, packed-long}
use Rattle.engine.proofs.PutRecords.{pages, command-count, fit_left, positions_fit, positions-count}

-- WHERE THE MACHINE IS in the middle of it: n records on the tape that gets them, these positions pending, these lines left, and which record of the first
abbrev pub counted : Bool → ℕ → Tapes → Tapes
counted true n t = with_other n t
counted false n t = with_used n t

abbrev pub midway : Bool → Phase → ℕ → List Position → List (List ℕ) → ℕ → House → House
midway second ph n P left j x = house ph (counted second n x.tapes) (state x.store.dir P x.store.small) x.job x.walking (putting_of second left j) x.carrying

-- the tape that gets them
abbrev pub side : Bool → House → ℕ
side second x = pick second (passive x) x.tapes.active

-- the first record of a line is pending
abbrev pub grown : ℕ → ℕ → ℕ → List Position → List Position
grown t n zero P = P ++ position t n ∷ []
grown t n (suc j) P = P

-- all that is put on
abbrev pub brought : House → List (Rec News)
brought x = command_records (packs x.job.lines) x.job.plan.splice (news_of x)

put_piece_is :
    (second : Bool) (ph : Phase) (n : ℕ) (P : List Position) (l : List ℕ) (ls : List (List ℕ)) (j : ℕ) (x : House) →
    put_piece l (midway second ph n P (l ∷ ls) j x)
    ≡ did (midway second line_put (suc n) (grown (side second x) n j P) (l ∷ ls) j x) (put_on (side second x) (page_of (line j (piece_of l j))))
put_piece_is true ph n P l ls zero x = refl
put_piece_is true ph n P l ls (suc j) x = refl
put_piece_is false ph n P l ls zero x = refl
put_piece_is false ph n P l ls (suc j) x = refl

pub tapes-counted : (second : Bool) {t : Tapes} (n : ℕ) → n ≤ 1048576 → TapesFit t → TapesFit (counted second n t)
tapes-counted true n l f = record { room = f.room; active = f.active; generation = f.generation; used = f.used; other = l; cursor = f.cursor }
tapes-counted false n l f = record { room = f.room; active = f.active; generation = f.generation; used = l; other = f.other; cursor = f.cursor }

pub fits_midway : (second : Bool) {x : House} (ph : Phase) (n : ℕ) (P : List Position) (left : List (List ℕ)) (j : ℕ) → Fits x → n ≤ 1048576 → length P ≤ 65536 → PositionsFit P → j ≤ 2 →
    Fits (midway second ph n P left j x)
fits_midway second ph n P left j f a b c l = record {
  tapes = tapes-counted second n a f.tapes;
  store = record { dir_few = f.store.dir_few; pending_few = b; dir = f.store.dir; pending = c; small = f.store.small };
  job = f.job;
  walking = f.walking;
  putting = record { part = l };
  carrying = f.carrying;
}

module _ (codec : Codec) (R n : ℕ) {w : Plain} {t : List ℕ} (C : Course R w t) where
  -- what is known before the first of them, where the tape has m records
  pub record Passing (second : Bool) (x : House) (d : Device) (k : Kept) (m : ℕ) : Type 0 where
    pub held : Held w k
    pub light : kept_weight k ≤ 32 * R
    pub fits : Fits x
    pub below : side second x < 2
    pub few : length x.job.lines ≤ 65536
    pub most : m + need x ≤ 1048576
    pub safe : (P Q : List (Rec News)) → P ++ Q ≡ brought x → Safe codec R (all_longer d (side second x) (pages P)) k C.kept
    pub room : (P : List (Rec News)) (r : Rec News) (Q : List (Rec News)) → P ++ r ∷ Q ≡ brought x → has_room (all_longer d (side second x) (pages P)) (side second x) (page_of r) ≡ true

  module _ {second : Bool} {x : House} {d : Device} {k : Kept} {m : ℕ} (h : Passing second x d k m) {ss more : List (List ℕ)} {r₀ j₀ : ℕ} (o : On-course codec R n C ss more r₀ j₀) where
    abbrev to : ℕ
    to = side second x

    abbrev on-it : List (Rec News) → Device
    on-it P = all_longer d to (pages P)

    -- so many records are on
    record Count (P : List (Rec News)) (m₁ r : ℕ) : Type 0 where
      used : m₁ ≡ m + length P
      spent : r ≡ r₀ + length P

    count_next : {P : List (Rec News)} {m₁ r : ℕ} (z : Rec News) → Count P m₁ r → Count (P ++ z ∷ []) (suc m₁) (suc r)
    count_next {P} z c =
        let e = length-append P (z ∷ []) in
        record { used = let a = c.used in omega (arith, e); spent = let a = c.spent in omega (arith, e) }

    count_most : (P Q : List (Rec News)) {m₁ r : ℕ} → P ++ Q ≡ brought x → Count P m₁ r → m₁ ≤ 1048576
    count_most P Q e c =
        let a = c.used in let b = h.most in let q = sym (length-append P Q) ∙ ap length e ∙ command-count x.job.lines x.job.plan.splice (news_of x) in omega (arith, q)

    -- the positions of lines that are pending, and those of the lines left
    abbrev Pending : ℕ → List Position → List (List ℕ) → Type 0
    Pending m₁ P left = P ++ positions to m₁ (packs left) ≡ positions to m (packs x.job.lines)

    pending_few : (P E : List Position) → P ++ E ≡ positions to m (packs x.job.lines) → (length P ≤ 65536) × PositionsFit P
    pending_few P E e =
        let a = sym (length-append P E) ∙ ap length e ∙ positions-count to m x.job.lines in
        let b = h.few in
        let c : m + lines_records x.job.lines ≤ 1048576 = let q = h.most in omega arith in
        (omega (arith, a), fit_left P E (subst PositionsFit (sym e) (positions_fit to m x.job.lines h.below c)))

    -- one record
    one-put : {y : House} {r : ℕ} (P : List (Rec News)) (z : Rec News) (Q : List (Rec News)) → P ++ z ∷ Q ≡ brought x → Leads codec R n C (going y (on-it (P ++ z ∷ [])) next ss (suc r)) →
        Leads codec R n C (after_act (on-it P) ss r y (put_on to (page_of z)))
    one-put {y} {r} P z Q e g =
        let q : longer (on-it P) to (page_of z) ≡ on-it (P ++ z ∷ []) = all_longer_next d to (pages P) (page_of z) ∙ ap (all_longer d to) (sym (map-append page_of P (z ∷ []))) in
        puts codec.reading (on-it P) to (page_of z) (h.room P z Q e) (subst (λ v. Leads codec R n C (going y v next ss (suc r))) (sym q) g)

    next_part : (P : List (Rec News)) (z : Rec News) (Q : List (Rec News)) → P ++ z ∷ Q ≡ brought x → (P ++ z ∷ []) ++ Q ≡ brought x
    next_part P z Q e = append_assoc P (z ∷ []) Q ∙ e

    as-did : (v : Device) (r : ℕ) {y z : Does} → y ≡ z → Leads codec R n C (after_did v ss r z) → Leads codec R n C (after_did v ss r y)
    as-did v r e g = subst (λ q. Leads codec R n C (after_did v ss r q)) (sym e) g

    -- told that a record of a line is on
    midway-next :
        (l : List ℕ) (ls : List (List ℕ)) (j : ℕ) (P Q : List (Rec News)) (pend E : List Position) {m₁ r : ℕ} (b : Bool) → suc j ≤ records_of (length l) →
        P ++ Q ≡ brought x → Count P m₁ r → pend ++ E ≡ positions to m (packs x.job.lines) → ltb (suc j) (records_of (length l)) ≡ b →
        Leads codec R n C (after_did (on-it P) ss r (put_next (with_putting (pick b (putting_of second (l ∷ ls) (suc j)) (putting_of second ls 0)) (midway second line_put m₁ pend (l ∷ ls) j x)))) →
        Leads codec R n C (going (midway second line_put m₁ pend (l ∷ ls) j x) (on-it P) next ss r)
    midway-next l ls j P Q pend E {m₁} {r} b z e c p q g =
        let y : House = midway second line_put m₁ pend (l ∷ ls) j x in
        let a = pending_few pend E p in
        let f : Fits y = fits_midway second line_put m₁ pend (l ∷ ls) j h.fits (count_most P Q e c) a.0 a.1 (let v = (records_few (length l)).1 in omega arith) in
        go_next codec.reading line_put refl f (stops codec R n C k h.held h.light (h.safe P Q e) o)
        (chosen (λ v. Leads codec R n C (after_did (on-it P) ss r (put_next (with_putting v y)))) (ltb (suc j) (records_of (length l))) b (putting_of second (l ∷ ls) (suc j)) (putting_of second ls 0) q g)

    -- the records of a line behind part j, and then what follows the line
    line-leads :
        (l : List ℕ) (ls : List (List ℕ)) (i j : ℕ) (P : List (Rec News)) (pend : List Position) {m₁ r : ℕ} →
        suc j + i ≡ records_of (length l) → P ++ (parts (suc j) (pieces_from l (suc j) i) ++ (block (packs ls) ++ commit_of x ∷ [])) ≡ brought x → Count P m₁ r → Pending (m₁ + i) pend ls →
        ((P₁ : List (Rec News)) (m₂ r₂ : ℕ) → P₁ ++ (block (packs ls) ++ commit_of x ∷ []) ≡ brought x → Count P₁ m₂ r₂ → Pending m₂ pend ls →
        Leads codec R n C (after_did (on-it P₁) ss r₂ (put_next (midway second line_put m₂ pend ls 0 x)))) →
        Leads codec R n C (going (midway second line_put m₁ pend (l ∷ ls) j x) (on-it P) next ss r)
    unfolding parts pieces_from
    line-leads l ls zero j P pend {m₁} {r} e s c p g =
        let p₁ : Pending m₁ pend ls = subst (λ a. Pending a pend ls) (let q : m₁ + 0 ≡ m₁ = omega arith in q) p in
        midway-next l ls j P (block (packs ls) ++ commit_of x ∷ []) pend (positions to m₁ (packs ls)) false (omega arith) s c p₁ (le-ltb (suc j) (records_of (length l)) (omega arith)) (g P m₁ r s c p₁)
    line-leads l ls (suc i) j P pend {m₁} {r} e s c p g =
        let z : Rec News = line (suc j) (piece_of l (suc j)) in
        let Q : List (Rec News) = parts (suc (suc j)) (pieces_from l (suc (suc j)) i) ++ (block (packs ls) ++ commit_of x ∷ []) in
        let p₁ : Pending (suc m₁ + i) pend ls = subst (λ a. Pending a pend ls) (let q : m₁ + suc i ≡ suc m₁ + i = omega arith in q) p in
        midway-next l ls j P (z ∷ Q) pend (positions to (m₁ + suc i) (packs ls)) true (omega arith) s c p (lt-ltb (suc j) (records_of (length l)) (omega arith))
        (as-did (on-it P) r (put_piece_is second line_put m₁ pend l ls (suc j) x)
        (one-put P z Q s (line-leads l ls i (suc j) (P ++ z ∷ []) pend (omega arith) (next_part P z Q s) (count_next z c) p₁ g)))

    -- THE LINES that are left, and then the commit
    lines-lead :
        (left : List (List ℕ)) (ph : Phase) (P : List (Rec News)) (pend : List Position) {m₁ r : ℕ} → P ++ (block (packs left) ++ commit_of x ∷ []) ≡ brought x → Count P m₁ r → Pending m₁ pend left →
        ((ph₁ : Phase) (P₁ : List (Rec News)) (pend₁ : List Position) (m₂ r₂ : ℕ) → P₁ ++ commit_of x ∷ [] ≡ brought x → Count P₁ m₂ r₂ → Pending m₂ pend₁ [] →
        Leads codec R n C (after_did (on-it P₁) ss r₂ (put_commit (midway second ph₁ m₂ pend₁ [] 0 x)))) →
        Leads codec R n C (after_did (on-it P) ss r (put_next (midway second ph m₁ pend left 0 x)))
    unfolding block positions
    lines-lead [] ph P pend {m₁} {r} s c p g = g ph P pend m₁ r s c p
    lines-lead (l ∷ ls) ph P pend {m₁} {r} s c p g =
        let z : Rec News = line 0 (piece_of l 0) in
        let i : ℕ = records_of (length l) - 1 in
        let some = (records_few (length l)).0 in
        let Q : List (Rec News) = parts 1 (pieces_from l 1 i) ++ (block (packs ls) ++ commit_of x ∷ []) in
        let s₁ : P ++ z ∷ Q ≡ brought x = ap (λ v. P ++ z ∷ v) (sym (append_assoc (parts 1 (pieces_from l 1 i)) (block (packs ls)) (commit_of x ∷ []))) ∙ s in
        let here : List Position = position to m₁ ∷ [] in
        let e : suc m₁ + i ≡ m₁ + length (pieces_of (packed l)) = let q = packed-long l in omega (arith, q) in
        let p₁ : Pending (suc m₁ + i) (pend ++ here) ls =
        append_assoc pend here (positions to (suc m₁ + i) (packs ls)) ∙ ap (λ a. pend ++ (position to m₁ ∷ positions to a (packs ls))) e ∙ p in
        as-did (on-it P) r (put_piece_is second ph m₁ pend l ls 0 x)
        (one-put P z Q s₁ (line-leads l ls i 0 (P ++ z ∷ []) (pend ++ here) (omega arith) (next_part P z Q s₁) (count_next z c) p₁
        (λ P₁ m₂ r₂ s₂ c₂ p₂. lines-lead ls line_put P₁ (pend ++ here) s₂ c₂ p₂ g)))

    -- THE WHOLE PASS, up to where its commit is on and the machine is at y
    pub pass-goes :
        (ph : Phase) (y : House) →
        ((ph₁ : Phase) → put_commit (midway second ph₁ (m + lines_records x.job.lines) (positions to m (packs x.job.lines)) [] 0 x) ≡ did y (put_on to (page_of (commit_of x)))) →
        Leads codec R n C (going y (on-it (brought x)) next ss (r₀ + need x)) → Leads codec R n C (after_did d ss r₀ (put_next (midway second ph m [] x.job.lines 0 x)))
    unfolding all_longer positions
    pass-goes ph y q g = lines-lead x.job.lines ph [] [] refl (record { used = omega arith; spent = omega arith }) refl last
      where
        last : (ph₁ : Phase) (P : List (Rec News)) (pend : List Position) (m₂ r₂ : ℕ) → P ++ commit_of x ∷ [] ≡ brought x → Count P m₂ r₂ → Pending m₂ pend [] →
            Leads codec R n C (after_did (on-it P) ss r₂ (put_commit (midway second ph₁ m₂ pend [] 0 x)))
        last ph₁ P pend m₂ r₂ s c p =
            let l = sym (length-append P (commit_of x ∷ [])) ∙ ap length s ∙ command-count x.job.lines x.job.plan.splice (news_of x) in
            let a : m₂ ≡ m + lines_records x.job.lines = let e = c.used in omega (arith, l) in
            let b : suc r₂ ≡ r₀ + need x = let e = c.spent in omega (arith, l) in
            let f : pend ≡ positions to m (packs x.job.lines) = sym (append-nil pend) ∙ p in
            let e : put_commit (midway second ph₁ m₂ pend [] 0 x) ≡ did y (put_on to (page_of (commit_of x))) =
            ap (λ i. put_commit (midway second ph₁ i pend [] 0 x)) a ∙ ap (λ E. put_commit (midway second ph₁ (m + lines_records x.job.lines) E [] 0 x)) f ∙ q ph₁ in
            as-did (on-it P) r₂ e (one-put P (commit_of x) [] s (subst (λ i. Leads codec R n C (going y (on-it (P ++ commit_of x ∷ [])) next ss i)) (sym b) (subst (λ v. Leads codec R n C (going y (on-it v) next ss (r₀ + need x))) (sym s) g)))
