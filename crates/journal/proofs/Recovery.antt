-- The log on the device: what it holds without power, and that a stop at any act leaves what was there before the command, or what is there after it.
-- Assumes nothing.
use Rattle.std.proofs.Common.{◌≡◌, ℕ, ◌⊎◌, List, [], ◌++◌, sym, refl, ap, ◌∙◌, subst, inl, inr, append-nil}
use Rattle.plain.specs.Device.{Device, Page, stopped}
use Rattle.journal.specs.Log.{Position, Splice, Rec, broken, apply, replay_from, Packed, command_records, begin_records, Left, gone, torn, kept, generation, neither, only, choose, chosen, none, Newer, InCycle, cycle_1, Sides, ahead, back, Tapes, tapes, halved}
use Rattle.journal.proofs.Stored.{Open, left_behind}
use Rattle.journal.proofs.Through.{last, then}
use Rattle.journal.proofs.Contents.{left_so_far, Layout, layout_stops-at}
use Rattle.journal.proofs.Compaction.{Allowed, Tape-keeps, keeps_stop}
use Rattle.journal.proofs.Generations.{left_newer, generation-append, old_counts}

left_none : {K : Type 0} {T zs : List (Rec K)} → Left T zs → generation T ≡ 0 → generation zs ≡ 0
left_none gone e = refl
left_none torn e = refl
left_none (kept h) e = e

-- without power
module _ {K S : Type 0} (upd : K → S → S) (first : S) (Good : ℕ → ℕ → S → Type 0) where
  pub data Off (d : Tapes K) : List Packed → S → Type 0 where
    empty : generation (d 0) ≡ 0 → generation (d 1) ≡ 0 → Off d [] first
    counts : {x y g : ℕ} {D : List Position} {ls : List Packed} {s : S} → Sides x y → InCycle g → generation (d x) ≡ g → Newer g (d y) → Tape-keeps upd first Good x (d x) D ls s → Off d ls s

  off_empty : (d : Tapes K) {x y : ℕ} → Sides x y → generation (d x) ≡ 0 → generation (d y) ≡ 0 → Off d [] first
  off_empty d ahead a b = empty a b
  off_empty d back a b = empty b a

  module _ (read : Page → Rec K) (torn-read : (p : Page) → read (halved p) ≡ broken) where
    -- a stop, while nothing that counts is loose: waking up, beginning the other tape, carrying over, and waiting
    pub quiet-stop :
        {v : Device} {x y g : ℕ} {T F L : List (Rec K)} {D : List Position} {ls : List Packed} {s : S} (cs : List ℕ) →
        Layout read v x y T [] F L → InCycle g → generation T ≡ g → Newer g (F ++ L) → Tape-keeps upd first Good x T D ls s → Off (tapes read (stopped v cs)) ls s
    quiet-stop {v} {x} {y} {g} {T} {D = D} {ls} {s} cs h cycle e b k =
        let q = layout_stops-at read torn-read cs h.sides h in
        let same : tapes read (stopped v cs) x ≡ T = q.old ∙ nothing_left q.left_old in
        counts h.sides cycle (ap generation same ∙ e) (left_newer g b q.left_new) (subst (λ z. Tape-keeps upd first Good x z D ls s) (sym same) k)
      where
        nothing_left : {zs : List (Rec K)} → Left [] zs → T ++ zs ≡ T
        nothing_left gone = append-nil T

    -- a stop in the middle of putting a command's records on: P so far, Q to come
    pub command-stop :
        {v : Device} {x y g : ℕ} {T P F L : List (Rec K)} {D : List Position} {ls : List Packed} {s : S} (cs : List ℕ) (Q : List (Rec K)) (new : List Packed) (c : Splice) (u : K) →
        P ++ Q ≡ command_records new c u → Allowed upd Good ls s new c u → Layout read v x y T P F L → InCycle g → generation T ≡ g → Newer g (F ++ L) → Tape-keeps upd first Good x T D ls s → Open upd first x T →
        Off (tapes read (stopped v cs)) ls s ⊎ Off (tapes read (stopped v cs)) (apply c ls new) (upd u s)
    command-stop {v} {x} {y} {g} {T} cs Q new c u parts a h cycle e b k o =
        let q = layout_stops-at read torn-read cs h.sides h in
        let l : Left (command_records new c u) q.some = subst (λ z. Left z q.some) parts (left_so_far Q q.left_old) in
        let off : (D₁ : List Position) (ls₁ : List Packed) (s₁ : S) → Tape-keeps upd first Good x (T ++ q.some) D₁ ls₁ s₁ → Off (tapes read (stopped v cs)) ls₁ s₁ =
        λ D₁ ls₁ s₁ k₁. counts h.sides cycle (ap generation q.old ∙ generation-append T q.some cycle e) (left_newer g b q.left_new) (subst (λ z. Tape-keeps upd first Good x z D₁ ls₁ s₁) (sym q.old) k₁) in
        elim (keeps_stop upd first Good new c u a k o l) [ inl z ↦ inl (off _ _ _ z) | inr z ↦ inr (off _ _ _ z) ]

    -- no head yet: nothing is kept, and the first tape is begun
    pub empty-stop : {v : Device} {x y : ℕ} {T P F L : List (Rec K)} (cs : List ℕ) → Layout read v x y T P F L → generation (T ++ P) ≡ 0 → generation (F ++ L) ≡ 0 → Off (tapes read (stopped v cs)) [] first
    empty-stop {v} {T = T} cs h a b =
        let q = layout_stops-at read torn-read cs h.sides h in
        off_empty (tapes read (stopped v cs)) h.sides (subst (λ z. generation z ≡ 0) (sym q.old) (left_none (left_behind T q.left_old) a)) (left_none q.left_new b)

    pub first-keeps : (x : ℕ) → Good 0 0 first → Tape-keeps upd first Good x (begin_records 1 0 []) [] [] first × Open upd first x (begin_records {K = K} 1 0 [])
    unfolding replay_from
    first-keeps x z = (record { shows = record { dir = refl; small = refl }; holds = none; through = then z (last z); good = z }, record { all_intact = refl; pending = refl })

    pub first-stop : {v : Device} {x y : ℕ} {F L : List (Rec K)} (cs : List ℕ) → Good 0 0 first → Layout read v x y [] (begin_records 1 0 []) F L → generation (F ++ L) ≡ 0 → Off (tapes read (stopped v cs)) [] first
    first-stop {v} {x} cs z h b =
        let q = layout_stops-at read torn-read cs h.sides h in
        go q.left_old q.old (left_none q.left_new b) h.sides
      where
        go : {x y : ℕ} {zs : List (Rec K)} → Left (begin_records 1 0 []) zs → tapes read (stopped v cs) x ≡ zs → generation (tapes read (stopped v cs) y) ≡ 0 → Sides x y → Off (tapes read (stopped v cs)) [] first
        go gone e n s = off_empty (tapes read (stopped v cs)) s (ap generation e) n
        go torn e n s = off_empty (tapes read (stopped v cs)) s (ap generation e) n
        go {x} (kept gone) e n s = counts s cycle_1 (ap generation e) (inl n) (subst (λ w. Tape-keeps upd first Good x w [] [] first) (sym e) (first-keeps x z).0)

-- what is found when power comes back: the tape that counts
pub off_chosen : {K S : Type 0} (upd : K → S → S) (first : S) (Good : ℕ → ℕ → S → Type 0) (d : Tapes K) {ls : List Packed} {s : S} → Off upd first Good d ls s →
    (chosen d ≡ neither) ⊎ ((x : ℕ) × (chosen d ≡ only x))
unfolding choose
off_chosen upd first Good d (empty a b) = inl (rw (a, b) refl)
off_chosen upd first Good d (counts {x = x} sides cycle e n k) = inr (x, old_counts d sides cycle e n)
