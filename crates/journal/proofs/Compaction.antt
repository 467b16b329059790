-- Two tapes, and the lines that they keep: the directory is carried from one to the other, entry by entry, while commands go on.
-- Assumes nothing.
use Rattle.std.proofs.Common.{◌≡◌, ℕ, suc, ◌+◌, ◌<◌, ◌≤◌, ◌⊎◌, List, [], ◌∷◌, ◌++◌, length, get_or, take, set, replicate, sym, refl, ap, ◌∙◌, subst, inl, inr, append-nil, arith}
use Rattle.journal.specs.Log.{Position, position, hole, Splice, Rec, commit, apply, Packed, pieces_of, copy_records, positions, command_records, settled, begin_records, Left, Alike, none, more, Holds, On}
use Rattle.journal.proofs.Alike.{alike_length, alike_set, alike_set_left, apply_alike, alike_map, length-apply}
use Rattle.journal.proofs.Stored.{holds_new, pieces-copies, length-copies, on-more, positions_hold, lines-block, left_command, left_behind, Shows, Open, Ready, ready_shows, ready_open, open_ready, ready_begin, ready_copy, ready_command, lines_unseen}
use Rattle.journal.proofs.Through.{length-positions, AllThrough, through_left, through_command, through_copy, through_begin}

-- an entry of the new tape's directory beside that of the directory in memory
pub data Carried (x y : ℕ) : Position → Position → Type 0 where
  moved : {p : Position} → p.tape ≡ y → Carried x y p p
  waits : {p q : Position} → q.tape ≡ x → Carried x y p q

abbrev pub Either : {K : Type 0} → ℕ → List (Rec K) → ℕ → List (Rec K) → Position → Packed → Type 0
Either x X y Y p l = On X x p l ⊎ On Y y p l

pub either-more : {K : Type 0} {x y : ℕ} {X Y : List (Rec K)} (us vs : List (Rec K)) (p : Position) (l : Packed) → Either x X y Y p l → Either x (X ++ us) y (Y ++ vs) p l
either-more us vs p l (inl h) = inl (on-more us p l h)
either-more us vs p l (inr h) = inr (on-more vs p l h)

-- a command that is allowed, where these are the lines and the small numbers: whatever is to be true of each state that is replayed will be
pub record Allowed {K S : Type 0} (upd : K → S → S) (Good : ℕ → ℕ → S → Type 0) (ls : List Packed) (s : S) (new : List Packed) (c : Splice) (u : K) : Type 0 where
  pub so_far : (n : ℕ) → n ≤ length new → Good (length ls) n s
  pub then : Good (length (apply c ls new)) 0 (upd u s)

module _ {K S : Type 0} (upd : K → S → S) (first : S) (Good : ℕ → ℕ → S → Type 0) where
  -- a tape T, by itself, keeps these lines and small numbers
  pub record Tape-keeps (t : ℕ) (T : List (Rec K)) (D : List Position) (ls : List Packed) (s : S) : Type 0 where
    pub shows : Shows upd first t T D s
    pub holds : Alike (On T t) D ls
    pub through : AllThrough upd first Good t T
    pub good : Good (length ls) 0 s

  through_commands :
      {t : ℕ} {T : List (Rec K)} {D : List Position} {ls : List Packed} {s : S} (new : List Packed) (c : Splice) (u : K) → Allowed upd Good ls s new c u →
      AllThrough upd first Good t T → Ready upd first t T D s → length D ≡ length ls → AllThrough upd first Good t (T ++ command_records new c u)
  through_commands {t} {T} {D} {ls} {s} new c u a h r e =
      through_command upd first Good new c u h r
      (λ n l. subst (λ m. Good m n s) (sym e) (a.so_far n l))
      (subst (λ m. Good m 0 (upd u s)) (sym (length-apply c D ls (positions t (length T) new) new e (length-positions t (length T) new))) a.then)

  -- a command on one tape; and a stop in the middle of it
  pub keeps_command :
      {t : ℕ} {T : List (Rec K)} {D : List Position} {ls : List Packed} {s : S} (new : List Packed) (c : Splice) (u : K) → Allowed upd Good ls s new c u →
      Tape-keeps t T D ls s → Open upd first t T →
      Tape-keeps t (T ++ command_records new c u) (apply c D (positions t (length T) new)) (apply c ls new) (upd u s) × Open upd first t (T ++ command_records new c u)
  keeps_command {t} {T} {D} {ls} {s} new c u a h o =
      let r₀ = open_ready upd first o h.shows in
      let r = ready_command upd first new c u r₀ in (
        record {
          shows = ready_shows upd first r;
          holds = apply_alike c (alike_map (λ p l k. on-more (command_records new c u) p l k) h.holds) (positions_hold t T new (commit c u ∷ []));
          through = through_commands new c u a h.through r₀ (alike_length h.holds);
          good = a.then;
        },
        ready_open upd first r,
      )

  pub keeps_stop :
      {t : ℕ} {T : List (Rec K)} {D : List Position} {ls : List Packed} {s : S} (new : List Packed) (c : Splice) (u : K) {zs : List (Rec K)} → Allowed upd Good ls s new c u →
      Tape-keeps t T D ls s → Open upd first t T → Left (command_records new c u) zs →
      Tape-keeps t (T ++ zs) D ls s ⊎ Tape-keeps t (T ++ zs) (apply c D (positions t (length T) new)) (apply c ls new) (upd u s)
  keeps_stop {t} {T} {D} {ls} {s} new c u {zs} a h o k =
      let after = (keeps_command new c u a h o).0 in
      elim (left_command (commit c u) (lines-block new) k) [
        | inl g ↦ inl (record {
          shows = lines_unseen upd first zs (open_ready upd first o h.shows) g;
          holds = alike_map (λ p l q. on-more zs p l q) h.holds;
          through = through_left upd first Good after.through (left_behind T k);
          good = h.good;
        })
        | inr e ↦ inr (subst (λ z. Tape-keeps t (T ++ z) (apply c D (positions t (length T) new)) (apply c ls new) (upd u s)) (sym e) after)
      ]

  -- the invariant of carrying over, from tape x, which holds X, to tape y, which holds Y so far, with D in memory
  pub record Compacting (x : ℕ) (X : List (Rec K)) (y : ℕ) (Y : List (Rec K)) (D : List Position) (ls : List Packed) (s : S) : Type 0 where
    pub old : List Position
    pub keeps : Tape-keeps x X old ls s
    pub new : List Position
    pub ready : Ready upd first y Y new s
    pub through : AllThrough upd first Good y Y
    pub holds : Alike (Either x X y Y) D ls
    pub carried : Alike (Carried x y) new D

  all_wait : (x y : ℕ) {T : List (Rec K)} {D : List Position} {ls : List Packed} → Alike (On T x) D ls → Alike (Carried x y) (replicate (length D) hole) D
  all_wait x y none = none
  all_wait x y (more r h) = more (waits r.on) (all_wait x y h)

  pub compaction_begins :
      {x : ℕ} {X : List (Rec K)} (y g : ℕ) (us : List K) {D : List Position} {ls : List Packed} {s : S} →
      Tape-keeps x X D ls s → settled upd first us ≡ s → Good 0 0 first → ((m : ℕ) → Good (length ls) 0 (settled upd first (take m us))) → Compacting x X y (begin_records g (length D) us) D ls s
  compaction_begins {x} {X} y g us {D} {ls} {s} h q z f = record {
    through = through_begin upd first Good y g (length D) us z (λ m. subst (λ n. Good n 0 (settled upd first (take m us))) (sym (alike_length h.holds)) (f m));
    old = D;
    keeps = h;
    new = replicate (length D) hole;
    ready = subst (λ z. Ready upd first y (begin_records g (length D) us) (replicate (length D) hole) z) q (ready_begin upd first y g (length D) us);
    holds = alike_map (λ p l k. inl k) h.holds;
    carried = all_wait x y h.holds;
  }

  pub compaction_carries :
      {x : ℕ} {X : List (Rec K)} {y : ℕ} {Y : List (Rec K)} (i : ℕ) (l : Packed) {D : List Position} {ls : List Packed} {s : S} →
      Compacting x X y Y D ls s → get_or ls i l ≡ l → Compacting x X y (Y ++ copy_records i l) (set D i (position y (length Y))) ls s
  compaction_carries {x} {X} {y} {Y} i l {D} {ls} {s} h e =
      let p : Position = position y (length Y) in
      let there : Holds (Y ++ (copy_records i l ++ [])) (length Y) l =
      holds_new Y (copy_records i l) [] l (ap (λ z. l.one ∷ z) (pieces-copies K i 1 l.more)) (ap suc (length-copies K i 1 l.more)) in
      let at : Either x X y (Y ++ copy_records i l) p l = inr (record { on = refl; line = subst (λ z. Holds (Y ++ z) (length Y) l) (append-nil (copy_records i l)) there }) in
      record {
        old = h.old;
        keeps = h.keeps;
        new = set h.new i p;
        ready = ready_copy upd first i l h.ready;
        through = through_copy upd first Good i l h.through h.ready (subst (λ n. Good n 0 s) (sym (alike_length h.carried ∙ alike_length h.holds)) h.keeps.good);
        holds = alike_set_left i p l (subst (Either x X y (Y ++ copy_records i l) p) (sym e) at) (alike_map (λ q m k. elim k [ inl z ↦ inl z | inr z ↦ inr (on-more (copy_records i l) q m z) ]) h.holds);
        carried = alike_set i p p (moved refl) h.carried;
      }

  positions-moved : (x y k : ℕ) (ls : List Packed) → Alike (Carried x y) (positions y k ls) (positions y k ls)
  unfolding positions
  positions-moved x y k [] = none
  positions-moved x y k (l ∷ ls) = more (moved refl) (positions-moved x y (k + length (pieces_of l)) ls)

  pub compaction_commands :
      {x : ℕ} {X : List (Rec K)} {y : ℕ} {Y : List (Rec K)} (new : List Packed) (c : Splice) (u : K) {D : List Position} {ls : List Packed} {s : S} → Allowed upd Good ls s new c u →
      Compacting x X y Y D ls s → Open upd first x X →
      Compacting x (X ++ command_records new c u) y (Y ++ command_records new c u) (apply c D (positions y (length Y) new)) (apply c ls new) (upd u s)
  compaction_commands {x} {X} {y} {Y} new c u {D} {ls} {s} a h o =
      let rs : List (Rec K) = command_records new c u in
      record {
        old = apply c h.old (positions x (length X) new);
        keeps = (keeps_command new c u a h.keeps o).0;
        new = apply c h.new (positions y (length Y) new);
        ready = ready_command upd first new c u h.ready;
        through = through_commands new c u a h.through h.ready (alike_length h.carried ∙ alike_length h.holds);
        holds = apply_alike c (alike_map (either-more rs rs) h.holds) (alike_map (λ p l q. inr q) (positions_hold y Y new (commit c u ∷ [])));
        carried = apply_alike c h.carried (positions-moved x y (length Y) new);
      }

  -- no entry of D lies on x any more: y alone is the state
  all_moved :
      {x : ℕ} {X : List (Rec K)} {y : ℕ} {Y : List (Rec K)} {N D : List Position} {ls : List Packed} → Alike (Carried x y) N D → Alike (Either x X y Y) D ls →
      ((i : ℕ) → i < length D → (get_or D i hole).tape ≡ x → ⊥) → (N ≡ D) × Alike (On Y y) D ls
  all_moved none none f = (refl, none)
  all_moved (more (moved {p = p} e) h) (more (inr r) k) f = let q = all_moved h k (λ i j. f (suc i) (omega arith)) in (ap (λ z. p ∷ z) q.0, more r q.1)
  all_moved (more (moved e) h) (more (inl r) k) f = absurd (f 0 (omega arith) r.on)
  all_moved (more (waits e) h) (more r k) f = absurd (f 0 (omega arith) e)

  pub compaction_ends :
      {x : ℕ} {X : List (Rec K)} {y : ℕ} {Y : List (Rec K)} {D : List Position} {ls : List Packed} {s : S} → Compacting x X y Y D ls s →
      ((i : ℕ) → i < length D → (get_or D i hole).tape ≡ x → ⊥) → Tape-keeps y Y D ls s × Open upd first y Y
  compaction_ends {x} {X} {y} {Y} {D} {ls} {s} h f =
      let q = all_moved h.carried h.holds f in
      let r : Ready upd first y Y D s = subst (λ N. Ready upd first y Y N s) q.0 h.ready in
      (record { shows = ready_shows upd first r; holds = q.1; through = h.through; good = h.keeps.good }, ready_open upd first r)
