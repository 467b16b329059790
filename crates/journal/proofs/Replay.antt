-- What replaying a tape gives: records put on behind others, a record that isn't whole, lines that no commit follows, and a command. Assumes nothing.
use Rattle.std.proofs.Common.{◌≡◌, ℕ, zero, suc, ◌+◌, List, [], ◌∷◌, ◌++◌, map, length, sym, refl, ap, ◌∙◌, subst, append_assoc, append-nil, add-zero, arith}
use Rattle.std.proofs.lemmas.Bool.{and_parts}
use Rattle.plain.specs.Pattern.{pick, every}
use Rattle.journal.specs.Log.{Position, position, Rec, line, broken, State, state, apply, intact, after, replay_from, Piece, Packed, parts, copies, block, positions, set_up, settled, LinesOnly, no_more, a_line, a_broken, Intact}

abbrev pub with_pending : {S : Type 0} → State S → List Position → State S
with_pending s P = state s.dir P s.small

abbrev pub committed : {S : Type 0} → State S → List Position × S
committed s = (s.dir, s.small)

pub intact-append : {K : Type 0} (xs ys : List (Rec K)) → Intact xs → Intact ys → Intact (xs ++ ys)
intact-append [] ys h k = k
intact-append (x ∷ xs) ys h k = let q = and_parts (intact x) (every intact xs) h in rw q.0 (intact-append xs ys q.1 k)

pub intact-parts : (K : Type 0) (j : ℕ) (bs : List Piece) → Intact {K = K} (parts j bs)
unfolding parts
intact-parts K j [] = refl
intact-parts K j (b ∷ bs) = intact-parts K (suc j) bs

pub intact-copies : (K : Type 0) (i j : ℕ) (bs : List Piece) → Intact {K = K} (copies i j bs)
unfolding copies
intact-copies K i j [] = refl
intact-copies K i j (b ∷ bs) = intact-copies K i (suc j) bs

pub intact-block : (K : Type 0) (ls : List Packed) → Intact {K = K} (block ls)
unfolding block
intact-block K [] = refl
intact-block K (l ∷ ls) = intact-append (parts 1 l.more) (block ls) (intact-parts _ 1 l.more) (intact-block K ls)

pub intact-set_up : {K : Type 0} (us : List K) → Intact (map set_up us)
intact-set_up [] = refl
intact-set_up (u ∷ us) = intact-set_up us

pub length-parts : (K : Type 0) (j : ℕ) (bs : List Piece) → length {A = Rec K} (parts j bs) ≡ length bs
unfolding parts
length-parts K j [] = refl
length-parts K j (b ∷ bs) = ap suc (length-parts K (suc j) bs)

module _ {K S : Type 0} (upd : K → S → S) where
  -- records behind others
  pub replay_from-append : (t k : ℕ) (s : State S) (xs ys : List (Rec K)) → Intact xs → replay_from upd t k s (xs ++ ys) ≡ replay_from upd t (k + length xs) (replay_from upd t k s xs) ys
  unfolding replay_from
  replay_from-append t k s [] ys h = rw add-zero refl
  replay_from-append t k s (x ∷ xs) ys h =
      let q = and_parts (intact x) (every intact xs) h in
      let e : suc k + length xs ≡ k + suc (length xs) = omega arith in
      rw q.0 (subst (λ n. replay_from upd t (suc k) (after upd t k s x) (xs ++ ys) ≡ replay_from upd t n (replay_from upd t (suc k) (after upd t k s x) xs) ys) e
      (replay_from-append t (suc k) (after upd t k s x) xs ys q.1))

  -- a broken record, and whatever may stand behind it
  pub replay_from-broken : (t k : ℕ) (s : State S) (xs ys : List (Rec K)) → replay_from upd t k s (xs ++ broken ∷ ys) ≡ replay_from upd t k s xs
  unfolding replay_from
  replay_from-broken t k s [] ys = refl
  replay_from-broken t k s (x ∷ xs) ys = ap (λ z. pick (intact x) z s) (replay_from-broken t (suc k) (after upd t k s x) xs ys)

  pub replay_from-lines : (t k : ℕ) (s : State S) {rs : List (Rec K)} → LinesOnly rs → committed (replay_from upd t k s rs) ≡ committed s
  unfolding replay_from
  replay_from-lines t k s no_more = refl
  replay_from-lines t k s (a_line {j = zero} {b = b} h) = replay_from-lines t (suc k) (after upd t k s (line 0 b)) h
  replay_from-lines t k s (a_line {j = suc j} h) = replay_from-lines t (suc k) s h
  replay_from-lines t k s (a_broken h) = refl

  -- the records of lines
  pub replay_from-parts : (t k j : ℕ) (s : State S) (bs : List Piece) → replay_from upd t k s (parts (suc j) bs) ≡ s
  unfolding replay_from parts
  replay_from-parts t k j s [] = refl
  replay_from-parts t k j s (b ∷ bs) = replay_from-parts t (suc k) (suc j) s bs

  pub replay_from-copies : (t k i j : ℕ) (s : State S) (bs : List Piece) → replay_from upd t k s (copies i (suc j) bs) ≡ s
  unfolding replay_from copies
  replay_from-copies t k i j s [] = refl
  replay_from-copies t k i j s (b ∷ bs) = replay_from-copies t (suc k) i (suc j) s bs

  pub replay_from-block : (t k : ℕ) (s : State S) (ls : List Packed) → replay_from upd t k s (block ls) ≡ with_pending s (s.pending ++ positions t k ls)
  unfolding replay_from block positions
  replay_from-block t k s [] = ap (with_pending s) (sym (append-nil s.pending))
  replay_from-block t k s (l ∷ ls) =
      let s₁ : State S = with_pending s (s.pending ++ position t k ∷ []) in
      replay_from-append t (suc k) s₁ (parts 1 l.more) (block ls) (intact-parts _ 1 l.more)
      ∙ ap (λ z. replay_from upd t (suc k + length {A = Rec K} (parts 1 l.more)) z (block ls)) (replay_from-parts t (suc k) 0 s₁ l.more)
      ∙ ap (λ n. replay_from upd t n s₁ (block ls)) (let e = length-parts K 1 l.more in let g : suc k + length {A = Rec K} (parts 1 l.more) ≡ k + suc (length l.more) = omega arith in g)
      ∙ replay_from-block t (k + suc (length l.more)) s₁ ls
      ∙ ap (with_pending s) (append_assoc s.pending (position t k ∷ []) (positions t (k + suc (length l.more)) ls))

  pub replay_from-set_up : (t k : ℕ) (D : List Position) (s : S) (us : List K) → replay_from upd t k (state D [] s) (map set_up us) ≡ state D [] (settled upd s us)
  unfolding replay_from settled apply
  replay_from-set_up t k D s [] = refl
  replay_from-set_up t k D s (u ∷ us) = replay_from-set_up t (suc k) D (upd u s) us
