-- Tapes that only grow: which line lies where, what replaying gives after each thing that is put on, and what a stop leaves of a command.
-- Assumes nothing.
use Rattle.std.proofs.Common.{◌≡◌, ℕ, suc, ◌+◌, ◌<◌, ◌≤◌, true, ◌⊎◌, List, [], ◌∷◌, ◌++◌, map, length, get_or, take, drop, set, replicate, sym, refl, ap, ◌∙◌, subst, inl, inr, append_assoc, zero-add, arith, length-append, length-drop, get_or-drop, get_or-take, take_at}
use lib.ListN.{get_or-map}
use lib.Seq.{take-append-le, drop-append-le, drop-append_seam}
use Rattle.plain.specs.Pattern.{pick}
use Rattle.journal.specs.Log.{Position, position, hole, Splice, Rec, line, commit, broken, State, state, apply, intact, after, replay_from, replay, Piece, no_piece, Packed, pieces_of, piece_in, stored, parts, copies, line_records, copy_records, block, positions, command_records, settled, begin_records, Left, gone, torn, kept, LinesOnly, no_more, a_line, a_broken, Alike, none, more, Holds, On, Intact}
use Rattle.journal.proofs.Replay.{intact-append, intact-copies, intact-block, intact-set_up, length-parts, replay_from-append, replay_from-broken, replay_from-lines, replay_from-copies, replay_from-block, replay_from-set_up}

pub pieces-parts : (K : Type 0) (j : ℕ) (bs : List Piece) → map piece_in (parts {K = K} j bs) ≡ bs
unfolding parts
pieces-parts K j [] = refl
pieces-parts K j (b ∷ bs) = ap (λ t. b ∷ t) (pieces-parts K (suc j) bs)

pub pieces-copies : (K : Type 0) (i j : ℕ) (bs : List Piece) → map piece_in (copies {K = K} i j bs) ≡ bs
unfolding copies
pieces-copies K i j [] = refl
pieces-copies K i j (b ∷ bs) = ap (λ t. b ∷ t) (pieces-copies K i (suc j) bs)

pub length-copies : (K : Type 0) (i j : ℕ) (bs : List Piece) → length (copies {K = K} i j bs) ≡ length bs
unfolding copies
length-copies K i j [] = refl
length-copies K i j (b ∷ bs) = ap suc (length-copies K i (suc j) bs)

-- which line lies where
module _ {K : Type 0} where
  pub stored-append : (T zs : List (Rec K)) (k n : ℕ) → k + n ≤ length T → stored (T ++ zs) k n ≡ stored T k n
  stored-append T zs k n h =
      let e : drop k (T ++ zs) ≡ drop k T ++ zs = drop-append-le k T zs (omega arith) in
      let g : n ≤ length (drop k T) = simp length-drop (omega arith) in
      rw (e, take-append-le n (drop k T) zs g) refl

  -- of two tapes that begin alike, as one before and after a stop
  pub stored_common : (P Q R : List (Rec K)) (k n : ℕ) → k + n ≤ length P → stored (P ++ Q) k n ≡ stored (P ++ R) k n
  stored_common P Q R k n h = stored-append P Q k n h ∙ sym (stored-append P R k n h)

  pub holds_more : {T : List (Rec K)} (zs : List (Rec K)) {k : ℕ} {l : Packed} → Holds T k l → Holds (T ++ zs) k l
  holds_more {T} zs {k} {l} h = record {
    there = let g = h.there in simp length-append (omega arith);
    is = stored-append T zs k (length (pieces_of l)) h.there ∙ h.is;
  }

  pub holds_new : (T rs zs : List (Rec K)) (l : Packed) → map piece_in rs ≡ pieces_of l → length rs ≡ length (pieces_of l) → Holds (T ++ (rs ++ zs)) (length T) l
  holds_new T rs zs l e n = record {
    there = simp length-append (omega arith);
    is = rw (drop-append_seam T (rs ++ zs), take_at rs zs (suc (length l.more)) n) e;
  }

  -- reading it, record by record
  pub holds_read : {T : List (Rec K)} {k : ℕ} {l : Packed} (j : ℕ) → Holds T k l → j < length (pieces_of l) → piece_in (get_or T (k + j) broken) ≡ get_or (pieces_of l) j no_piece
  holds_read {T} {k} {l} j h b =
      let n : ℕ = length (pieces_of l) in
      let e₁ : get_or (stored T k n) j no_piece ≡ piece_in (get_or (take n (drop k T)) j broken) = get_or-map piece_in (take n (drop k T)) j broken in
      let e₂ : get_or (take n (drop k T)) j broken ≡ get_or T (k + j) broken = get_or-take n (drop k T) j broken b ∙ get_or-drop k T j broken in
      sym (ap piece_in e₂) ∙ sym e₁ ∙ ap (λ z. get_or z j no_piece) h.is

  pub on-more : {T : List (Rec K)} {t : ℕ} (zs : List (Rec K)) (p : Position) (l : Packed) → On T t p l → On (T ++ zs) t p l
  on-more zs p l h = record { on = h.on; line = holds_more zs h.line }

  -- the lines of a command lie where `places` says
  pub positions_hold : (t : ℕ) (T : List (Rec K)) (ls : List Packed) (zs : List (Rec K)) → Alike (On (T ++ (block ls ++ zs)) t) (positions t (length T) ls) ls
  unfolding block positions
  positions_hold t T [] zs = none
  positions_hold t T (l ∷ ls) zs =
      let rs : List (Rec K) = line_records l in
      let n : length rs ≡ length (pieces_of l) = ap suc (length-parts K 1 l.more) in
      let h : On (T ++ (rs ++ (block ls ++ zs))) t (position t (length T)) l =
      record { on = refl; line = holds_new T rs (block ls ++ zs) l (ap (λ z. l.one ∷ z) (pieces-parts K 1 l.more)) n } in
      let e : length (T ++ rs) ≡ length T + length (pieces_of l) = length-append T rs ∙ ap (λ m. length T + m) n in
      let k : Alike (On (T ++ (rs ++ (block ls ++ zs))) t) (positions t (length (T ++ rs)) ls) ls =
      subst (λ z. Alike (On z t) (positions t (length (T ++ rs)) ls) ls) (append_assoc T rs (block ls ++ zs)) (positions_hold t (T ++ rs) ls zs) in
      rw (append_assoc rs (block ls) zs) (more h (subst (λ m. Alike (On (T ++ (rs ++ (block ls ++ zs))) t) (positions t m ls) ls) e k))

-- what a stop leaves of a command: lines only, or all of it
module _ {K : Type 0} where
  pub lines-append : {xs ys : List (Rec K)} → LinesOnly xs → LinesOnly ys → LinesOnly (xs ++ ys)
  lines-append no_more k = k
  lines-append (a_line h) k = a_line (lines-append h k)
  lines-append (a_broken h) k = a_broken (lines-append h k)

  pub lines-parts : (j : ℕ) (bs : List Piece) → LinesOnly {K = K} (parts j bs)
  unfolding parts
  lines-parts j [] = no_more
  lines-parts j (b ∷ bs) = a_line (lines-parts (suc j) bs)

  pub lines-block : (ls : List Packed) → LinesOnly {K = K} (block ls)
  unfolding block
  lines-block [] = no_more
  lines-block (l ∷ ls) = a_line (lines-append (lines-parts 1 l.more) (lines-block ls))

  pub left_command : {xs : List (Rec K)} (r : Rec K) {zs : List (Rec K)} → LinesOnly xs → Left (xs ++ r ∷ []) zs → LinesOnly zs ⊎ (zs ≡ xs ++ r ∷ [])
  left_command r no_more gone = inl no_more
  left_command r no_more torn = inl (a_broken no_more)
  left_command r no_more (kept gone) = inr refl
  left_command r (a_line h) gone = inl no_more
  left_command r (a_line h) torn = inl (a_broken no_more)
  left_command r (a_line {j = j} {b = b} h) (kept k) = elim (left_command r h k) [ inl g ↦ inl (a_line g) | inr e ↦ inr (ap (λ z. line j b ∷ z) e) ]
  left_command r (a_broken h) gone = inl no_more
  left_command r (a_broken h) torn = inl (a_broken no_more)
  left_command r (a_broken h) (kept k) = elim (left_command r h k) [ inl g ↦ inl (a_broken g) | inr e ↦ inr (ap (λ z. broken ∷ z) e) ]

  pub left_behind : (xs : List (Rec K)) {rs zs : List (Rec K)} → Left rs zs → Left (xs ++ rs) (xs ++ zs)
  left_behind [] h = h
  left_behind (x ∷ xs) h = kept (left_behind xs h)

same_state : {S : Type 0} (z : State S) (D : List Position) (s : S) → z.dir ≡ D → z.pending ≡ [] → z.small ≡ s → z ≡ state D [] s
same_state z D s e f g = let eta : z ≡ state z.dir z.pending z.small = refl in cc

-- what replaying gives
module _ {K S : Type 0} (upd : K → S → S) (first : S) where
  -- the directory and the small numbers, whatever is pending or broken behind
  pub record Shows (t : ℕ) (T : List (Rec K)) (D : List Position) (s : S) : Type 0 where
    pub dir : (replay upd first t T).dir ≡ D
    pub small : (replay upd first t T).small ≡ s

  -- and nothing is: more can be put on
  pub record Open (t : ℕ) (T : List (Rec K)) : Type 0 where
    pub all_intact : Intact T
    pub pending : (replay upd first t T).pending ≡ []

  pub record Ready (t : ℕ) (T : List (Rec K)) (D : List Position) (s : S) : Type 0 where
    pub all_intact : Intact T
    pub gives : replay upd first t T ≡ state D [] s

  pub ready_shows : {t : ℕ} {T : List (Rec K)} {D : List Position} {s : S} → Ready t T D s → Shows t T D s
  ready_shows h = record { dir = ap (λ z. z.dir) h.gives; small = ap (λ z. z.small) h.gives }

  pub ready_open : {t : ℕ} {T : List (Rec K)} {D : List Position} {s : S} → Ready t T D s → Open t T
  ready_open h = record { all_intact = h.all_intact; pending = ap (λ z. z.pending) h.gives }

  pub open_ready : {t : ℕ} {T : List (Rec K)} {D : List Position} {s : S} → Open t T → Shows t T D s → Ready t T D s
  open_ready {t} {T} {D} {s} o h = record { all_intact = o.all_intact; gives = same_state (replay upd first t T) D s h.dir o.pending h.small }

  pub ready_more :
      {t : ℕ} {T : List (Rec K)} {D : List Position} {s : S} (zs : List (Rec K)) {D₁ : List Position} {s₁ : S} → Ready t T D s → Intact zs →
      replay_from upd t (length T) (state D [] s) zs ≡ state D₁ [] s₁ → Ready t (T ++ zs) D₁ s₁
  ready_more {t} {T} {D} {s} zs h w e = record {
    all_intact = intact-append T zs h.all_intact w;
    gives = replay_from-append upd t 0 (state [] [] first) T zs h.all_intact
        ∙ ap (λ n. replay_from upd t n (replay upd first t T) zs) (zero-add (length T)) ∙ ap (λ z. replay_from upd t (length T) z zs) h.gives ∙ e;
  }

  -- one record more
  pub replay_next : (t : ℕ) (P : List (Rec K)) (r : Rec K) → Intact P → intact r ≡ true → replay upd first t (P ++ r ∷ []) ≡ after upd t (length P) (replay upd first t P) r
  unfolding replay_from
  replay_next t P r w e =
      replay_from-append upd t 0 (state [] [] first) P (r ∷ []) w ∙ ap (λ n. replay_from upd t n (replay upd first t P) (r ∷ [])) (zero-add (length P))
      ∙ ap (λ b. pick b (after upd t (length P) (replay upd first t P) r) (replay upd first t P)) e

  pub ready_begin : (t g n : ℕ) (us : List K) → Ready t (begin_records g n us) (replicate n hole) (settled upd first us)
  unfolding replay_from
  ready_begin t g n us = record { all_intact = intact-set_up us; gives = replay_from-set_up upd t 1 (replicate n hole) first us }

  pub ready_copy :
      {t : ℕ} {T : List (Rec K)} {D : List Position} {s : S} (i : ℕ) (l : Packed) → Ready t T D s → Ready t (T ++ copy_records i l) (set D i (position t (length T))) s
  unfolding replay_from
  ready_copy {t} {T} {D} {s} i l h =
      ready_more (copy_records i l) h (intact-copies K i 1 l.more) (replay_from-copies upd t (suc (length T)) i 0 (state (set D i (position t (length T))) [] s) l.more)

  pub ready_command :
      {t : ℕ} {T : List (Rec K)} {D : List Position} {s : S} (ls : List Packed) (c : Splice) (u : K) → Ready t T D s →
      Ready t (T ++ command_records ls c u) (apply c D (positions t (length T) ls)) (upd u s)
  unfolding replay_from
  ready_command {t} {T} {D} {s} ls c u h =
      ready_more (command_records ls c u) h (intact-append (block ls) (commit c u ∷ []) (intact-block K ls) refl)
      (replay_from-append upd t (length T) (state D [] s) (block ls) (commit c u ∷ []) (intact-block K ls)
      ∙ ap (λ z. replay_from upd t (length T + length (block {K = K} ls)) z (commit c u ∷ [])) (replay_from-block upd t (length T) (state D [] s) ls))

  -- lines that no commit follows, and a broken record, are not seen
  pub lines_unseen : {t : ℕ} {T : List (Rec K)} {D : List Position} {s : S} (zs : List (Rec K)) → Ready t T D s → LinesOnly zs → Shows t (T ++ zs) D s
  lines_unseen {t} {T} {D} {s} zs h o =
      let e = replay_from-append upd t 0 (state [] [] first) T zs h.all_intact in
      let g = replay_from-lines upd t (0 + length T) (replay upd first t T) o in
      record { dir = ap (λ z. z.dir) e ∙ ap (λ z. z.0) g ∙ ap (λ z. z.dir) h.gives; small = ap (λ z. z.small) e ∙ ap (λ z. z.1) g ∙ ap (λ z. z.small) h.gives }

  pub broken_unseen : {t : ℕ} {T : List (Rec K)} {D : List Position} {s : S} (zs : List (Rec K)) → Shows t T D s → Shows t (T ++ broken ∷ zs) D s
  broken_unseen {t} {T} zs h =
      let e = replay_from-broken upd t 0 (state [] [] first) T zs in
      record { dir = ap (λ z. z.dir) e ∙ h.dir; small = ap (λ z. z.small) e ∙ h.small }
