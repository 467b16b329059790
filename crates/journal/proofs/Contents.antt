-- Two tapes of the device, as records that have been read: what the acts make of them, and what a stop leaves. Nothing of what the records mean.
-- Assumes nothing.
use Rattle.std.proofs.Common.{◌≡◌, ℕ, zero, suc, ◌-◌, ◌≤◌, Bool, true, false, eqb, List, [], ◌∷◌, ◌++◌, map, length, get_or, take, drop, sym, refl, ap, ◌∙◌, subst, append_assoc, append-nil, arith, length-append, length-drop, take-append-drop, length-take}
use mathlib.Core.List.{map-append}
use Rattle.plain.specs.Pattern.{pick}
use Rattle.plain.specs.Device.{Device, Page, Tape, tape, lesser, half, left, stopped, so_many_of, tape_of, with_tape, read_record, nth_record, longer, fastened, anew}
use Rattle.plain.proofs.Stops.{surviving, left_split}
use Rattle.journal.specs.Log.{Rec, broken, Left, gone, torn, kept, Sides, ahead, back, Tapes, tapes, halved}
use Rattle.journal.proofs.Stored.{left_behind}

pub sides_turn : {x y : ℕ} → Sides x y → Sides y x
sides_turn ahead = back
sides_turn back = ahead

-- a record that is whole says so in its last byte
zeros : (n k : ℕ) → get_or (so_many_of {A = ℕ} n 0) k 0 ≡ 0
unfolding so_many_of
zeros zero k = refl
zeros (suc n) zero = refl
zeros (suc n) (suc k) = zeros n k

zeros_behind : (xs : List ℕ) (n k : ℕ) → length xs ≤ k → get_or (xs ++ so_many_of n 0) k 0 ≡ 0
zeros_behind [] n k h = zeros n k
zeros_behind (x ∷ xs) n zero h = absurd (omega arith)
zeros_behind (x ∷ xs) n (suc k) h = zeros_behind xs n k (omega arith)

pub torn_unsealed : (p : Page) → get_or (halved p) 511 0 ≡ 0
torn_unsealed p = zeros_behind (take 256 p) 256 511 (simp length-take (omega arith))

-- as much as has been put on so far
pub left_so_far : {K : Type 0} {rs zs : List (Rec K)} (qs : List (Rec K)) → Left rs zs → Left (rs ++ qs) zs
left_so_far qs gone = gone
left_so_far qs torn = torn
left_so_far qs (kept h) = kept (left_so_far qs h)

-- each tape after a stop
pub record Left-layout {K : Type 0} (d : Tapes K) (x y : ℕ) (T P Y : List (Rec K)) : Type 0 where
  pub some : List (Rec K)
  pub left_old : Left P some
  pub old : d x ≡ T ++ some
  pub left_new : Left Y (d y)

module _ {K : Type 0} (read : Page → Rec K) where
  pub record Tape-holds (z : Tape) (fast loose : List (Rec K)) : Type 0 where
    pub fasts : List Page
    pub looses : List Page
    pub is : z ≡ tape (fasts ++ looses) (length looses)
    pub fast-read : map read fasts ≡ fast
    pub loose-read : map read looses ≡ loose

  pub tape_holds_longer : {z : Tape} {fast loose : List (Rec K)} (p : Page) → Tape-holds z fast loose → Tape-holds (tape (z.records ++ p ∷ []) (suc z.loose)) fast (loose ++ read p ∷ [])
  tape_holds_longer {z} {fast} {loose} p q = record {
    fasts = q.fasts;
    looses = q.looses ++ p ∷ [];
    is = ap (λ y. tape (y.records ++ p ∷ []) (suc y.loose)) q.is
        ∙ (let e : suc (length q.looses) ≡ length (q.looses ++ p ∷ []) = simp length-append (omega arith) in rw (append_assoc q.fasts q.looses (p ∷ []), e) refl);
    fast-read = q.fast-read;
    loose-read = map-append read q.looses (p ∷ []) ∙ ap (λ y. y ++ read p ∷ []) q.loose-read;
  }

  pub tape_holds_fastened : {z : Tape} {fast loose : List (Rec K)} → Tape-holds z fast loose → Tape-holds (tape z.records 0) (fast ++ loose) []
  tape_holds_fastened {z} q = record {
    fasts = q.fasts ++ q.looses;
    looses = [];
    is = ap (λ y. tape y.records 0) q.is ∙ ap (λ y. tape y 0) (sym (append-nil (q.fasts ++ q.looses)));
    fast-read = map-append read q.fasts q.looses ∙ (let a = q.fast-read in let b = q.loose-read in cc);
    loose-read = refl;
  }

  pub tape_holds_anew : Tape-holds (tape [] 0) [] []
  tape_holds_anew = record { fasts = []; looses = []; is = refl; fast-read = refl; loose-read = refl }

  pub all_fast : (z : Tape) → z.loose ≡ 0 → Tape-holds z (map read z.records) []
  all_fast z e = record {
    fasts = z.records;
    looses = [];
    is = ap (tape z.records) e ∙ ap (λ y. tape y 0) (sym (append-nil z.records));
    fast-read = refl;
    loose-read = refl;
  }

  -- any tape, as its fast and its loose records
  pub some_fast : (z : Tape) → z.loose ≤ length z.records → Tape-holds z (map read (take (length z.records - z.loose) z.records)) (map read (drop (length z.records - z.loose) z.records))
  some_fast z h =
      let n : ℕ = length z.records - z.loose in
      let p : z.records ≡ take n z.records ++ drop n z.records = sym (take-append-drop n z.records) in
      let q : z.loose ≡ length (drop n z.records) = simp length-drop (omega arith) in
      record { fasts = take n z.records; looses = drop n z.records; is = λ i. record { records = p i; loose = q i }; fast-read = refl; loose-read = refl }

  -- tape x holds T, fast, and P behind it, loose; tape y holds F, fast, and L
  pub record Layout (v : Device) (x y : ℕ) (T P F L : List (Rec K)) : Type 0 where
    pub sides : Sides x y
    pub old : Tape-holds (tape_of v x) T P
    pub new : Tape-holds (tape_of v y) F L

  tape_holds_is : {z : Tape} {fast loose : List (Rec K)} → Tape-holds z fast loose → map read z.records ≡ fast ++ loose
  tape_holds_is q = ap (λ y. map read y.records) q.is ∙ map-append read q.fasts q.looses ∙ (let a = q.fast-read in let b = q.loose-read in cc)

  pub layout_old_is : {v : Device} {x y : ℕ} {T P F L : List (Rec K)} → Layout v x y T P F L → tapes read v x ≡ T ++ P
  layout_old_is h = tape_holds_is h.old

  pub layout_new_is : {v : Device} {x y : ℕ} {T P F L : List (Rec K)} → Layout v x y T P F L → tapes read v y ≡ F ++ L
  layout_new_is h = tape_holds_is h.new

  layout_old : (v : Device) {x y : ℕ} {T P F L : List (Rec K)} (z : Tape) → Sides x y → Tape-holds z T P → Tape-holds (tape_of v y) F L → Layout (with_tape v x z) x y T P F L
  layout_old v z ahead a b = record { sides = ahead; old = a; new = b }
  layout_old v z back a b = record { sides = back; old = a; new = b }

  layout_new : (v : Device) {x y : ℕ} {T P F L : List (Rec K)} (z : Tape) → Sides x y → Tape-holds (tape_of v x) T P → Tape-holds z F L → Layout (with_tape v y z) x y T P F L
  layout_new v z ahead a b = record { sides = ahead; old = a; new = b }
  layout_new v z back a b = record { sides = back; old = a; new = b }

  -- the acts
  module _ {v : Device} {x y : ℕ} {T P F L : List (Rec K)} (h : Layout v x y T P F L) where
    pub layout-put-old : (p : Page) → Layout (longer v x p) x y T (P ++ read p ∷ []) F L
    layout-put-old p = layout_old v _ h.sides (tape_holds_longer p h.old) h.new

    pub layout-put-new : (p : Page) → Layout (longer v y p) x y T P F (L ++ read p ∷ [])
    layout-put-new p = layout_new v _ h.sides h.old (tape_holds_longer p h.new)

    pub layout-fasten-old : Layout (fastened v x) x y (T ++ P) [] F L
    layout-fasten-old = layout_old v _ h.sides (tape_holds_fastened h.old) h.new

    pub layout-fasten-new : Layout (fastened v y) x y T P (F ++ L) []
    layout-fasten-new = layout_new v _ h.sides h.old (tape_holds_fastened h.new)

    pub layout-begin-new : Layout (anew v y) x y T P [] []
    layout-begin-new = layout_new v _ h.sides h.old tape_holds_anew

    pub layout-swap : Layout v y x F L T P
    layout-swap = record { sides = sides_turn h.sides; old = h.new; new = h.old }

    -- the moment of the change
    pub layout-begin-old : Layout (anew v x) y x F L [] []
    layout-begin-old = layout_new v _ (sides_turn h.sides) h.new tape_holds_anew

  -- when power comes back nothing is loose
  pub wake_layout : (v : Device) {x y : ℕ} → v.first.loose ≡ 0 → v.second.loose ≡ 0 → Sides x y → Layout v x y (tapes read v x) [] (tapes read v y) []
  wake_layout v a b ahead = record { sides = ahead; old = all_fast v.first a; new = all_fast v.second b }
  wake_layout v a b back = record { sides = back; old = all_fast v.second b; new = all_fast v.first a }

  -- what reading a record gives
  pub reads : (v : Device) (t k : ℕ) → read [] ≡ broken → read (read_record v t k) ≡ get_or (tapes read v t) k broken
  unfolding nth_record
  reads v t k e = go (tape_of v t).records k
    where
      go : (ps : List Page) (k : ℕ) → read (nth_record ps k) ≡ get_or (map read ps) k broken
      go [] k = e
      go (p ∷ ps) zero = refl
      go (p ∷ ps) (suc k) = go ps k

-- a stop
module _ {K : Type 0} (read : Page → Rec K) (torn-read : (p : Page) → read (halved p) ≡ broken) where
  cut_left : (us : List Page) (k : ℕ) (b : Bool) → Left (map read us) (map read (take k us ++ pick b (half (drop k us)) []))
  unfolding half
  cut_left [] zero true = gone
  cut_left [] zero false = gone
  cut_left [] (suc k) true = gone
  cut_left [] (suc k) false = gone
  cut_left (u ∷ us) zero true = subst (λ r. Left (read u ∷ map read us) (r ∷ [])) (sym (torn-read u)) torn
  cut_left (u ∷ us) zero false = gone
  cut_left (u ∷ us) (suc k) b = kept (cut_left us k b)

  -- a stop, and the three acts
  pub tape_holds_stops : {z : Tape} {fast loose : List (Rec K)} (n h : ℕ) → Tape-holds read z fast loose → (zs : List (Rec K)) × Left loose zs × (map read (left z n h).records ≡ fast ++ zs)
  tape_holds_stops {z} {fast} {loose} n h q =
      let us = q.looses in (
        map read (surviving us n h),
        subst (λ r. Left r (map read (surviving us n h))) q.loose-read (cut_left us (lesser n (length us)) (eqb h 1)),
        ap (λ y. map read (left y n h).records) q.is ∙ ap (λ y. map read y.records) (left_split q.fasts us n h)
            ∙ map-append read q.fasts (surviving us n h) ∙ ap (λ y. y ++ map read (surviving us n h)) q.fast-read,
      )

  pub layout_stops-at : {v : Device} {x y : ℕ} {T P F L : List (Rec K)} (cs : List ℕ) → Sides x y → Layout read v x y T P F L → Left-layout (tapes read (stopped v cs)) x y T P (F ++ L)
  layout_stops-at {F = F} cs ahead h =
      let a = tape_holds_stops (get_or cs 0 0) (get_or cs 1 0) h.old in
      let b = tape_holds_stops (get_or cs 2 0) (get_or cs 3 0) h.new in
      record { some = a.0; left_old = a.1; old = a.2; left_new = rw b.2 (left_behind F b.1) }
  layout_stops-at {F = F} cs back h =
      let a = tape_holds_stops (get_or cs 2 0) (get_or cs 3 0) h.old in
      let b = tape_holds_stops (get_or cs 0 0) (get_or cs 1 0) h.new in
      record { some = a.0; left_old = a.1; old = a.2; left_new = rw b.2 (left_behind F b.1) }
