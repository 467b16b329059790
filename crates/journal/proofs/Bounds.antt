-- Every position that replaying comes upon is one of a record of that tape: so it fits into an entry of memory. And an example, by computation. Assumes nothing.
use Rattle.std.proofs.Common.{◌≡◌, ℕ, zero, suc, ◌+◌, ◌<◌, ◌≤◌, Bool, true, false, List, [], ◌∷◌, length, replicate, refl, arith}
use Rattle.plain.specs.Pattern.{pick}
use Rattle.journal.specs.Log.{piece, Position, position, hole, new_entries, copied, Rec, head, line, copy, commit, broken, State, state, apply, intact, after, replay_from, replay, Alike, none, more}
use Rattle.journal.proofs.Alike.{alike_append, alike_set, apply_alike}

module _ (B : ℕ) (some : 0 < B) where
  pub record Entry (p : Position) : Type 0 where
    pub tape : p.tape < 2
    pub at : p.at < B

  abbrev pub Entries : List Position → Type 0
  Entries D = Alike (λ p (q : Position). Entry p) D D

  pub record Fitting {S : Type 0} (s : State S) : Type 0 where
    pub dir : Entries s.dir
    pub pending : Entries s.pending

  holes : (n : ℕ) → Entries (replicate n hole)
  holes zero = none
  holes (suc n) = more (record { tape = omega arith; at = some }) (holes n)

  module _ {K S : Type 0} (upd : K → S → S) (t : ℕ) (side : t < 2) where
    after-fits : (k : ℕ) (s : State S) (r : Rec K) → k < B → Fitting s → Fitting (after upd t k s r)
    after-fits k s (head g n) l h = record { dir = holes n; pending = none }
    after-fits k s (line zero b) l h = record { dir = h.dir; pending = alike_append h.pending (more (record { tape = side; at = l }) none) }
    after-fits k s (line (suc j) b) l h = h
    after-fits k s (copy i zero b) l h = record { dir = alike_set i (position t k) (position t k) (record { tape = side; at = l }) h.dir; pending = h.pending }
    after-fits k s (copy i (suc j) b) l h = h
    after-fits k s (commit c u) l h = record { dir = apply_alike c h.dir h.pending; pending = none }
    after-fits k s broken l h = h

    pick-fits : (b : Bool) (x y : State S) → Fitting x → Fitting y → Fitting (pick b x y)
    pick-fits true x y h k = h
    pick-fits false x y h k = k

    pub replay-from-fits : (k : ℕ) (s : State S) (rs : List (Rec K)) → k + length rs ≤ B → Fitting s → Fitting (replay_from upd t k s rs)
    unfolding replay_from
    replay-from-fits k s [] l h = h
    replay-from-fits k s (r ∷ rs) l h = pick-fits (intact r) _ _ (replay-from-fits (suc k) (after upd t k s r) rs (omega arith) (after-fits k s r (omega arith) h)) h

    pub replay-fits : (first : S) (rs : List (Rec K)) → length rs ≤ B → Fitting (replay upd first t rs)
    replay-fits first rs l = replay-from-fits 0 (state [] [] first) rs (omega arith) (record { dir = none; pending = none })

-- two lines are put on, the first is copied behind them; then a line that no commit follows, and half a record
example :
    replay (λ (u s : ℕ). u) 0 1
    (head 1 0 ∷ line 0 (piece 1 (104 ∷ [])) ∷ line 0 (piece 1 (105 ∷ [])) ∷ line 1 (piece 1 (106 ∷ [])) ∷ commit (record { from = 0; gone = 0; source = new_entries }) 7
    ∷ commit (record { from = 2; gone = 0; source = copied 0 1 }) 8 ∷ line 0 (piece 1 (107 ∷ [])) ∷ broken ∷ [])
    ≡ state (position 1 1 ∷ position 1 2 ∷ position 1 1 ∷ []) (position 1 6 ∷ []) 8
unfolding replay_from apply
example = refl
