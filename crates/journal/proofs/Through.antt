-- Whatever holds of the state at each record of a tape, as that it fits into memory, while it is replayed from the first on: how it comes to
-- hold, and that a stop keeps it. Assumes nothing.
use Rattle.std.proofs.Common.{◌≡◌, ℕ, suc, ◌+◌, ◌≤◌, List, [], ◌∷◌, ◌++◌, map, length, take, set, replicate, sym, refl, ap, subst, add-zero, zero-add, arith, length-append, length-set}
use lib.ListN.{length-replicate}
use Rattle.std.proofs.lemmas.Bool.{and_parts}
use Rattle.plain.specs.Pattern.{pick, every}
use Rattle.journal.specs.Log.{Position, position, hole, Splice, Rec, commit, State, state, apply, intact, after, replay_from, replay, Piece, Packed, parts, copies, copy_records, block, positions, command_records, set_up, settled, begin_records, Left, gone, torn, kept, Intact}
use Rattle.journal.proofs.Replay.{intact-block, intact-parts, replay_from-block, replay_from-parts}
use Rattle.journal.proofs.Stored.{Ready}

pub length-positions : (t k : ℕ) (ls : List Packed) → length (positions t k ls) ≡ length ls
unfolding positions
length-positions t k [] = refl
length-positions t k (l ∷ ls) = ap suc (length-positions t (k + suc (length l.more)) ls)

module _ {K S : Type 0} (upd : K → S → S) (first : S) (Good : ℕ → ℕ → S → Type 0) where
  abbrev pub Fits : State S → Type 0
  Fits s = Good (length s.dir) (length s.pending) s.small

  pub data Through (t : ℕ) : ℕ → State S → List (Rec K) → Type 0 where
    last : {k : ℕ} {s : State S} → Fits s → Through t k s []
    then : {k : ℕ} {s : State S} {r : Rec K} {rs : List (Rec K)} → Fits s → Through t (suc k) (after upd t k s r) rs → Through t k s (r ∷ rs)

  abbrev pub AllThrough : ℕ → List (Rec K) → Type 0
  AllThrough t rs = Through t 0 (state [] [] first) rs

  pub through_left : {t k : ℕ} {s : State S} {rs zs : List (Rec K)} → Through t k s rs → Left rs zs → Through t k s zs
  through_left (last f) gone = last f
  through_left (then f h) gone = last f
  through_left (then f h) torn = then f (last f)
  through_left (then f h) (kept l) = then f (through_left h l)

  pub through_append : {t k : ℕ} {s : State S} {xs : List (Rec K)} (ys : List (Rec K)) → Through t k s xs → Intact xs → Through t (k + length xs) (replay_from upd t k s xs) ys → Through t k s (xs ++ ys)
  unfolding replay_from
  through_append {t} {k} {s} ys (last f) w h = subst (λ n. Through t n s ys) (add-zero k) h
  through_append {t} {k} {s} ys (then {r = r} {rs = rs} f g) w h =
      let q = and_parts (intact r) (every intact rs) w in
      let e : k + suc (length rs) ≡ suc k + length rs = omega arith in
      let h₁ : Through t (k + suc (length rs)) (replay_from upd t (suc k) (after upd t k s r) rs) ys =
      subst (λ b. Through t (k + suc (length rs)) (pick b (replay_from upd t (suc k) (after upd t k s r) rs) s) ys) q.0 h in
      then f (through_append ys g q.1 (subst (λ n. Through t n (replay_from upd t (suc k) (after upd t k s r) rs) ys) e h₁))

  through_parts : (t k j : ℕ) (s : State S) (bs : List Piece) → Fits s → Through t k s (parts (suc j) bs)
  unfolding parts
  through_parts t k j s [] f = last f
  through_parts t k j s (b ∷ bs) f = then f (through_parts t (suc k) (suc j) s bs f)

  through_copies : (t k i j : ℕ) (s : State S) (bs : List Piece) → Fits s → Through t k s (copies i (suc j) bs)
  unfolding copies
  through_copies t k i j s [] f = last f
  through_copies t k i j s (b ∷ bs) f = then f (through_copies t (suc k) i (suc j) s bs f)

  through_block : (t k : ℕ) (s : State S) (ls : List Packed) → ((n : ℕ) → n ≤ length ls → Good (length s.dir) (length s.pending + n) s.small) → Through t k s (block ls)
  unfolding block
  through_block t k s [] f = last (rw add-zero at (f 0 (omega arith)))
  through_block t k s (l ∷ ls) f =
      let s₁ : State S = state s.dir (s.pending ++ position t k ∷ []) s.small in
      let e : length s₁.pending ≡ suc (length s.pending) = simp length-append (omega arith) in
      let f₁ : (n : ℕ) → n ≤ length ls → Good (length s.dir) (length s₁.pending + n) s.small = λ n h.
      let e₁ : length s.pending + suc n ≡ length s₁.pending + n = omega arith in
      subst (λ m. Good (length s.dir) m s.small) e₁ (f (suc n) (omega arith)) in
      let here : Fits s₁ = rw add-zero at (f₁ 0 (omega arith)) in
      then (rw add-zero at (f 0 (omega arith)))
      (through_append (block ls) (through_parts t (suc k) 0 s₁ l.more here) (intact-parts K 1 l.more)
      (subst (λ z. Through t (suc k + length {A = Rec K} (parts 1 l.more)) z (block ls)) (sym (replay_from-parts upd t (suc k) 0 s₁ l.more)) (through_block t (suc k + length {A = Rec K} (parts 1 l.more)) s₁ ls f₁)))

  through_more : {t : ℕ} {T : List (Rec K)} {D : List Position} {s : S} (zs : List (Rec K)) → AllThrough t T → Ready upd first t T D s → Through t (length T) (state D [] s) zs → AllThrough t (T ++ zs)
  through_more {t} {T} {D} {s} zs h r g =
      through_append zs h r.all_intact (subst (λ n. Through t n (replay upd first t T) zs) (sym (zero-add (length T))) (subst (λ z. Through t (length T) z zs) (sym r.gives) g))

  pub through_command :
      {t : ℕ} {T : List (Rec K)} {D : List Position} {s : S} (ls : List Packed) (c : Splice) (u : K) → AllThrough t T → Ready upd first t T D s →
      ((n : ℕ) → n ≤ length ls → Good (length D) n s) → Good (length (apply c D (positions t (length T) ls))) 0 (upd u s) → AllThrough t (T ++ command_records ls c u)
  through_command {t} {T} {D} {s} ls c u h r f g =
      let k : ℕ = length T + length (block {K = K} ls) in
      let s₁ : State S = state D (positions t (length T) ls) s in
      let f₁ : (n : ℕ) → n ≤ length ls → Good (length D) (0 + n) s = λ n l. rw zero-add (f n l) in
      let e = replay_from-block upd t (length T) (state D [] s) ls in
      through_more (command_records ls c u) h r
      (through_append (commit c u ∷ []) (through_block t (length T) (state D [] s) ls f₁) (intact-block K ls)
      (subst (λ z. Through t k z (commit c u ∷ [])) (sym e) (then (rw (length-positions t (length T) ls) (f (length ls) (omega arith))) (last g))))

  pub through_copy :
      {t : ℕ} {T : List (Rec K)} {D : List Position} {s : S} (i : ℕ) (l : Packed) → AllThrough t T → Ready upd first t T D s → Good (length D) 0 s → AllThrough t (T ++ copy_records i l)
  through_copy {t} {T} {D} {s} i l h r g =
      through_more (copy_records i l) h r (then g (through_copies t (suc (length T)) i 0 (state (set D i (position t (length T))) [] s) l.more (rw length-set g)))

  through_set_up : (t k : ℕ) (D : List Position) (s : S) (us : List K) → ((n : ℕ) → Good (length D) 0 (settled upd s (take n us))) → Through t k (state D [] s) (map set_up us)
  unfolding settled apply
  through_set_up t k D s [] f = last (f 0)
  through_set_up t k D s (u ∷ us) f = then (f 0) (through_set_up t (suc k) D (upd u s) us (λ n. f (suc n)))

  pub through_begin : (t g n : ℕ) (us : List K) → Good 0 0 first → ((m : ℕ) → Good n 0 (settled upd first (take m us))) → AllThrough t (begin_records g n us)
  through_begin t g n us z f = then z (through_set_up t 1 (replicate n hole) first us (λ m. rw length-replicate (f m)))
