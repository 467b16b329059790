-- The log on two tapes as a machine above uses it: active on one tape, or copying to the other meanwhile; how each act leads from one to the other; and that
-- whatever is stopped keeps its lines. Assumes nothing.
use Rattle.std.proofs.Common.{◌≡◌, ℕ, ◌+◌, ◌<◌, Bool, true, false, ◌⊎◌, List, [], ◌∷◌, ◌++◌, map, length, get_or, take, set, sym, refl, ap, ◌∙◌, subst, inl, inr, append_assoc, append-nil, arith, length-append}
use lib.ListN.{length-map}
use Rattle.plain.specs.Device.{Device, Page, stopped, read_record, longer, fastened, anew}
use Rattle.plain.specs.Promise.{all_longer}
use Rattle.journal.specs.Log.{Position, position, hole, Splice, Rec, head, broken, apply, no_piece, Packed, pieces_of, piece_in, copy_records, positions, command_records, settled, begin_records, head_of, generation, next_generation, neither, only, choose, chosen, On, Newer, InCycle, cycle_1, tapes, halved}
use Rattle.std.proofs.lemmas.Bool.{false≢true}
use Rattle.journal.proofs.Alike.{alike_at}
use Rattle.journal.proofs.Stored.{Open, holds_read}
use Rattle.journal.proofs.Contents.{Layout, layout-put-old, layout-put-new, layout-fasten-old, layout-fasten-new, layout-begin-new, layout-begin-old, layout-swap, wake_layout, layout_old_is, layout_new_is, reads}
use Rattle.journal.proofs.Compaction.{Allowed, Tape-keeps, keeps_command, Compacting, compaction_begins, compaction_carries, compaction_commands, compaction_ends, Either}
use Rattle.journal.proofs.Generations.{cycle_next, generation-append, old_counts}
use Rattle.journal.proofs.Waiting.{Behind}
use Rattle.journal.proofs.Recovery.{Off, empty, counts, quiet-stop, command-stop, first-keeps}

-- many records, one act each
pub layout_all_old : {K : Type 0} (read : Page → Rec K) (ps : List Page) {v : Device} {x y : ℕ} {T P F L : List (Rec K)} → Layout read v x y T P F L → Layout read (all_longer v x ps) x y T (P ++ map read ps) F L
unfolding all_longer
layout_all_old read [] {v} {x} {y} {T} {P} {F} {L} h = subst (λ z. Layout read v x y T z F L) (sym (append-nil P)) h
layout_all_old read (p ∷ ps) {v} {x} {y} {T} {P} {F} {L} h =
    subst (λ z. Layout read (all_longer (longer v x p) x ps) x y T z F L) (append_assoc P (read p ∷ []) (map read ps)) (layout_all_old read ps (layout-put-old read h p))

pub layout_all_new : {K : Type 0} (read : Page → Rec K) (ps : List Page) {v : Device} {x y : ℕ} {T P F L : List (Rec K)} → Layout read v x y T P F L → Layout read (all_longer v y ps) x y T P F (L ++ map read ps)
unfolding all_longer
layout_all_new read [] {v} {x} {y} {T} {P} {F} {L} h = subst (λ z. Layout read v x y T P F z) (sym (append-nil L)) h
layout_all_new read (p ∷ ps) {v} {x} {y} {T} {P} {F} {L} h =
    subst (λ z. Layout read (all_longer (longer v y p) y ps) x y T P F z) (append_assoc L (read p ∷ []) (map read ps)) (layout_all_new read ps (layout-put-new read h p))

pub newer_put : {K : Type 0} (g : ℕ) (T : List (Rec K)) (r : Rec K) → Newer g T → (head_of r ≡ 0) ⊎ (head_of r ≡ next_generation g) → Newer g (T ++ r ∷ [])
newer_put g [] r h k = k
newer_put g (t ∷ T) r h k = h

longer_by : {K : Type 0} (read : Page → Rec K) {m : ℕ} (T : List (Rec K)) (ps : List Page) (rs : List (Rec K)) → length T ≡ m → map read ps ≡ rs → length (T ++ rs) ≡ m + length ps
longer_by read T ps rs u e = let a = length-append T rs in let b = ap length e in let c = length-map ps read in omega (arith, a, b, c)

module _ {K S : Type 0} (upd : K → S → S) (first : S) (Good : ℕ → ℕ → S → Type 0) (read : Page → Rec K) (torn-read : (p : Page) → read (halved p) ≡ broken) where
  -- tape x counts, by itself, with the generation g and m records; y may hold whatever is newer. Live: more can be put on x
  pub record Active (live : Bool) (v : Device) (x y g m : ℕ) (D : List Position) (ls : List Packed) (s : S) : Type 0 where
    pub T : List (Rec K)
    pub F : List (Rec K)
    pub L : List (Rec K)
    pub layout : Layout read v x y T [] F L
    pub cycle : InCycle g
    pub gen : generation T ≡ g
    pub used : length T ≡ m
    pub newer : Newer g (F ++ L)
    pub keeps : Tape-keeps upd first Good x T D ls s
    pub ready : live ≡ true → Open upd first x T

  -- and D is being carried over to y, which has n records
  pub record Copying (live : Bool) (v : Device) (x y g m n : ℕ) (D : List Position) (ls : List Packed) (s : S) : Type 0 where
    pub T : List (Rec K)
    pub F : List (Rec K)
    pub L : List (Rec K)
    pub layout : Layout read v x y T [] F L
    pub cycle : InCycle g
    pub gen : generation T ≡ g
    pub used : length T ≡ m
    pub next-gen : generation (F ++ L) ≡ next_generation g
    pub next-used : length (F ++ L) ≡ n
    pub compacting : Compacting upd first Good x T y (F ++ L) D ls s
    pub ready : live ≡ true → Open upd first x T

  module _ {live : Bool} {v : Device} {x y g m : ℕ} {D : List Position} {ls : List Packed} {s : S} where
    pub copying-active : {n : ℕ} (w : Copying live v x y g m n D ls s) → Active live v x y g m w.compacting.old ls s
    copying-active w = record {
      T = w.T;
      F = w.F;
      L = w.L;
      layout = w.layout;
      cycle = w.cycle;
      gen = w.gen;
      used = w.used;
      newer = inr w.next-gen;
      keeps = w.compacting.keeps;
      ready = w.ready;
    }

    -- whatever is stopped keeps its lines
    pub active-rests : (cs : List ℕ) → Active live v x y g m D ls s → Off upd first Good (tapes read (stopped v cs)) ls s
    active-rests cs w = quiet-stop upd first Good read torn-read cs w.layout w.cycle w.gen w.newer w.keeps

    -- at each act on the other tape
    pub active-begin : Active live v x y g m D ls s → Active live (anew v y) x y g m D ls s
    active-begin w = record {
      T = w.T;
      F = [];
      L = [];
      layout = layout-begin-new read w.layout;
      cycle = w.cycle;
      gen = w.gen;
      used = w.used;
      newer = inl refl;
      keeps = w.keeps;
      ready = w.ready;
    }

    pub active-put : (p : Page) → Active live v x y g m D ls s → (head_of (read p) ≡ 0) ⊎ (head_of (read p) ≡ next_generation g) → Active live (longer v y p) x y g m D ls s
    active-put p w k = record {
      T = w.T;
      F = w.F;
      L = w.L ++ read p ∷ [];
      layout = layout-put-new read w.layout p;
      cycle = w.cycle;
      gen = w.gen;
      used = w.used;
      newer = subst (Newer g) (append_assoc w.F w.L (read p ∷ [])) (newer_put g (w.F ++ w.L) (read p) w.newer k);
      keeps = w.keeps;
      ready = w.ready;
    }

    pub active-fasten : Active live v x y g m D ls s → Active live (fastened v y) x y g m D ls s
    active-fasten w = record {
      T = w.T;
      F = w.F ++ w.L;
      L = [];
      layout = layout-fasten-new read w.layout;
      cycle = w.cycle;
      gen = w.gen;
      used = w.used;
      newer = subst (Newer g) (sym (append-nil (w.F ++ w.L))) w.newer;
      keeps = w.keeps;
      ready = w.ready;
    }

  -- waking up
  pub off_active :
      (v : Device) {ls : List Packed} {s : S} → v.first.loose ≡ 0 → v.second.loose ≡ 0 → Off upd first Good (tapes read v) ls s →
      ((ls ≡ []) × (s ≡ first) × (chosen (tapes read v) ≡ neither))
      ⊎ ((x : ℕ) × (y : ℕ) × (D : List Position) × (chosen (tapes read v) ≡ only x) × Active false v x y (generation (tapes read v x)) (length (tapes read v x)) D ls s)
  unfolding choose
  off_active v a b (empty e f) = inl (refl, refl, rw (e, f) refl)
  off_active v {ls} {s} a b (counts {x = x} {y = y} {g = g} {D = D} sides cycle e n k) =
      inr (
        x,
        y,
        D,
        old_counts (tapes read v) sides cycle e n,
        subst (λ h. Active false v x y h (length (tapes read v x)) D ls s) (sym e) (record {
          T = tapes read v x;
          F = tapes read v y;
          L = [];
          layout = wake_layout read v a b sides;
          cycle = cycle;
          gen = e;
          used = refl;
          newer = subst (Newer g) (sym (append-nil (tapes read v y))) n;
          keeps = k;
          ready = λ q. absurd (false≢true q);
        }),
      )

  -- no tape has a head: tape x is begun, with a head and nothing else
  pub first_active :
      {v : Device} {x y : ℕ} {T P F L : List (Rec K)} (p : Page) → Layout read v x y T P F L → generation (F ++ L) ≡ 0 → read p ≡ head 1 0 → Good 0 0 first →
      Active true (fastened (longer (anew v x) x p) x) x y 1 1 [] [] first
  first_active {v} {x} {y} {T} {P} {F} {L} p h e q z =
      let k = first-keeps upd first Good read torn-read x z in
      record {
        T = begin_records 1 0 [];
        F = F;
        L = L;
        layout = subst (λ r. Layout read (fastened (longer (anew v x) x p) x) x y (r ∷ []) [] F L) q (layout-fasten-old read (layout-put-old read (layout-swap read (layout-begin-old read h)) p));
        cycle = cycle_1;
        gen = refl;
        used = refl;
        newer = inl e;
        keeps = k.0;
        ready = λ a. k.1;
      }

  -- a command, on one tape alone
  pub active-command :
      {v : Device} {x y g m : ℕ} {D : List Position} {ls : List Packed} {s : S} (ps : List Page) (new : List Packed) (c : Splice) (u : K) → Active true v x y g m D ls s →
      map read ps ≡ command_records new c u → Allowed upd Good ls s new c u →
      Active true (fastened (all_longer v x ps) x) x y g (m + length ps) (apply c D (positions x m new)) (apply c ls new) (upd u s)
  active-command {v} {x} {y} {g} {m} {D} {ls} {s} ps new c u w e a =
      let k = keeps_command upd first Good new c u a w.keeps (w.ready refl) in
      let rs : List (Rec K) = command_records new c u in
      record {
        T = w.T ++ rs;
        F = w.F;
        L = w.L;
        layout = subst (λ z. Layout read (fastened (all_longer v x ps) x) x y (w.T ++ z) [] w.F w.L) e (layout-fasten-old read (layout_all_old read ps w.layout));
        cycle = w.cycle;
        gen = generation-append w.T rs w.cycle w.gen;
        used = longer_by read w.T ps rs w.used e;
        newer = w.newer;
        keeps = subst (λ i. Tape-keeps upd first Good x (w.T ++ rs) (apply c D (positions x i new)) (apply c ls new) (upd u s)) w.used k.0;
        ready = λ q. k.1;
      }

  -- and a stop in the middle of it, where those of ps have been put on, and Q are to come; tape y may have got any number of records meanwhile
  pub command_rests :
      {v₁ : Device} {x y g : ℕ} {T P F L : List (Rec K)} {D : List Position} {ls : List Packed} {s : S} (cs : List ℕ) (Q : List (Rec K)) (new : List Packed) (c : Splice) (u : K) →
      P ++ Q ≡ command_records new c u → Allowed upd Good ls s new c u → Layout read v₁ x y T P F L → InCycle g → generation T ≡ g → Newer g (F ++ L) → Tape-keeps upd first Good x T D ls s → Open upd first x T →
      Off upd first Good (tapes read (stopped v₁ cs)) ls s ⊎ Off upd first Good (tapes read (stopped v₁ cs)) (apply c ls new) (upd u s)
  command_rests = command-stop upd first Good read torn-read

  -- carrying over
  pub copying_begins :
      {live : Bool} {v : Device} {x y g m : ℕ} {D : List Position} {ls : List Packed} {s : S} (ps : List Page) (us : List K) → Active live v x y g m D ls s →
      map read ps ≡ begin_records (next_generation g) (length D) us → settled upd first us ≡ s → Good 0 0 first → ((k : ℕ) → Good (length ls) 0 (settled upd first (take k us))) →
      Copying live (all_longer (anew v y) y ps) x y g m (length ps) D ls s
  copying_begins {live} {v} {x} {y} {g} {m} {D} ps us w e q z f = record {
    T = w.T;
    F = [];
    L = begin_records (next_generation g) (length D) us;
    layout = subst (λ r. Layout read (all_longer (anew v y) y ps) x y w.T [] [] r) e (layout_all_new read ps (layout-begin-new read w.layout));
    cycle = w.cycle;
    gen = w.gen;
    used = w.used;
    next-gen = refl;
    next-used = sym (ap length e) ∙ length-map ps read;
    compacting = compaction_begins upd first Good y (next_generation g) us w.keeps q z f;
    ready = w.ready;
  }

  pub copying_carries :
      {live : Bool} {v : Device} {x y g m n : ℕ} {D : List Position} {ls : List Packed} {s : S} (ps : List Page) (i : ℕ) (l : Packed) → Copying live v x y g m n D ls s →
      map read ps ≡ copy_records i l → get_or ls i l ≡ l → Copying live (all_longer v y ps) x y g m (n + length ps) (set D i (position y n)) ls s
  copying_carries {live} {v} {x} {y} {g} {m} {n} {D} {ls} {s} ps i l w e q =
      let rs : List (Rec K) = copy_records i l in
      let a = append_assoc w.F w.L rs in
      record {
        T = w.T;
        F = w.F;
        L = w.L ++ rs;
        layout = subst (λ r. Layout read (all_longer v y ps) x y w.T [] w.F (w.L ++ r)) e (layout_all_new read ps w.layout);
        cycle = w.cycle;
        gen = w.gen;
        used = w.used;
        next-gen = ap generation (sym a) ∙ generation-append (w.F ++ w.L) rs (cycle_next w.cycle) w.next-gen;
        next-used = ap length (sym a) ∙ longer_by read (w.F ++ w.L) ps rs w.next-used e;
        compacting = subst (λ Y. Compacting upd first Good x w.T y Y (set D i (position y n)) ls s) a
            (subst (λ k. Compacting upd first Good x w.T y ((w.F ++ w.L) ++ rs) (set D i (position y k)) ls s) w.next-used (compaction_carries upd first Good i l w.compacting q));
        ready = w.ready;
      }

  -- the records of a command on both tapes, those on x fast
  pub copying_commands :
      {v : Device} {x y g m n : ℕ} {D : List Position} {ls : List Packed} {s : S} (ps : List Page) (new : List Packed) (c : Splice) (u : K) → Copying true v x y g m n D ls s →
      map read ps ≡ command_records new c u → Allowed upd Good ls s new c u →
      Copying true (all_longer (fastened (all_longer v x ps) x) y ps) x y g (m + length ps) (n + length ps) (apply c D (positions y n new)) (apply c ls new) (upd u s)
  copying_commands {v} {x} {y} {g} {m} {n} {D} {ls} {s} ps new c u w e b =
      let rs : List (Rec K) = command_records new c u in
      let a = append_assoc w.F w.L rs in
      record {
        T = w.T ++ rs;
        F = w.F;
        L = w.L ++ rs;
        layout = subst (λ r. Layout read (all_longer (fastened (all_longer v x ps) x) y ps) x y (w.T ++ r) [] w.F (w.L ++ r)) e (layout_all_new read ps (layout-fasten-old read (layout_all_old read ps w.layout)));
        cycle = w.cycle;
        gen = generation-append w.T rs w.cycle w.gen;
        used = longer_by read w.T ps rs w.used e;
        next-gen = ap generation (sym a) ∙ generation-append (w.F ++ w.L) rs (cycle_next w.cycle) w.next-gen;
        next-used = ap length (sym a) ∙ longer_by read (w.F ++ w.L) ps rs w.next-used e;
        compacting = subst (λ Y. Compacting upd first Good x (w.T ++ rs) y Y (apply c D (positions y n new)) (apply c ls new) (upd u s)) a
            (subst (λ k. Compacting upd first Good x (w.T ++ rs) y ((w.F ++ w.L) ++ rs) (apply c D (positions y k new)) (apply c ls new) (upd u s)) w.next-used
            (compaction_commands upd first Good new c u b w.compacting (w.ready refl)));
        ready = λ q. (keeps_command upd first Good new c u b w.compacting.keeps (w.ready refl)).1;
      }

  -- the change of tapes: the other tape is empty then
  pub copying_changes :
      {live : Bool} {v : Device} {x y g m n : ℕ} {D : List Position} {ls : List Packed} {s : S} → Copying live v x y g m n D ls s → Behind x (length D) D →
      Active true (anew (fastened v y) x) y x (next_generation g) n D ls s
  copying_changes w h =
      let k = compaction_ends upd first Good w.compacting h in
      record {
        T = w.F ++ w.L;
        F = [];
        L = [];
        layout = layout-begin-old read (layout-fasten-new read w.layout);
        cycle = cycle_next w.cycle;
        gen = w.next-gen;
        used = w.next-used;
        newer = inl refl;
        keeps = k.0;
        ready = λ q. k.1;
      }

  -- fetching record j of line i
  pub active-reads :
      {live : Bool} {v : Device} {x y g m : ℕ} {D : List Position} {ls : List Packed} {s : S} (i j : ℕ) (l : Packed) → Active live v x y g m D ls s → read [] ≡ broken → i < length D →
      get_or ls i l ≡ l → j < length (pieces_of l) → piece_in (read (read_record v (get_or D i hole).tape ((get_or D i hole).at + j))) ≡ get_or (pieces_of l) j no_piece
  active-reads {v = v} {x = x} {D = D} {ls = ls} i j l w z b e k =
      let p : Position = get_or D i hole in
      let o : On w.T x p l = subst (On w.T x p) e (alike_at i hole l b w.keeps.holds) in
      let t : tapes read v x ≡ w.T = layout_old_is read w.layout ∙ append-nil w.T in
      ap piece_in (reads read v p.tape (p.at + j) z ∙ ap (λ u. get_or (tapes read v u) (p.at + j) broken) o.on ∙ ap (λ u. get_or u (p.at + j) broken) t) ∙ holds_read j o.line k

  pub copying_reads :
      {live : Bool} {v : Device} {x y g m n : ℕ} {D : List Position} {ls : List Packed} {s : S} (i j : ℕ) (l : Packed) → Copying live v x y g m n D ls s → read [] ≡ broken → i < length D →
      get_or ls i l ≡ l → j < length (pieces_of l) → piece_in (read (read_record v (get_or D i hole).tape ((get_or D i hole).at + j))) ≡ get_or (pieces_of l) j no_piece
  copying_reads {v = v} {x = x} {y = y} {D = D} {ls = ls} i j l w z b e k =
      let p : Position = get_or D i hole in
      let o : Either x w.T y (w.F ++ w.L) p l = subst (Either x w.T y (w.F ++ w.L) p) e (alike_at i hole l b w.compacting.holds) in
      let t : tapes read v x ≡ w.T = layout_old_is read w.layout ∙ append-nil w.T in
      let u : tapes read v y ≡ w.F ++ w.L = layout_new_is read w.layout in
      let go : (a : ℕ) (A : List (Rec K)) → tapes read v a ≡ A → On A a p l → piece_in (read (read_record v p.tape (p.at + j))) ≡ get_or (pieces_of l) j no_piece = λ a A f h.
      ap piece_in (reads read v p.tape (p.at + j) z ∙ ap (λ c. get_or (tapes read v c) (p.at + j) broken) h.on ∙ ap (λ c. get_or c (p.at + j) broken) f) ∙ holds_read j h.line k in
      elim o [ inl h ↦ go x w.T t h | inr h ↦ go y (w.F ++ w.L) u h ]
