-- Which of the two tapes counts, by the heads that they begin with: the older one, or the only one. Assumes nothing.
use Rattle.std.proofs.Common.{◌≡◌, ℕ, ◌⊎◌, List, [], ◌∷◌, ◌++◌, refl, inl, inr, arith}
use Rattle.journal.specs.Log.{Rec, Left, gone, torn, kept, generation, next_generation, only, choose, chosen, Newer, InCycle, cycle_1, cycle_2, cycle_3, Sides, ahead, back}

pub cycle_next : {g : ℕ} → InCycle g → InCycle (next_generation g)
cycle_next cycle_1 = cycle_2
cycle_next cycle_2 = cycle_3
cycle_next cycle_3 = cycle_1

-- whatever a stop leaves of it
pub left_newer : {K : Type 0} (g : ℕ) {T zs : List (Rec K)} → Newer g T → Left T zs → Newer g zs
left_newer g h gone = inl refl
left_newer g h torn = inl refl
left_newer g h (kept k) = h

pub generation-append : {K : Type 0} {g : ℕ} (T zs : List (Rec K)) → InCycle g → generation T ≡ g → generation (T ++ zs) ≡ g
generation-append (r ∷ T) zs t e = e
generation-append [] zs cycle_1 e = absurd (omega arith)
generation-append [] zs cycle_2 e = absurd (omega arith)
generation-append [] zs cycle_3 e = absurd (omega arith)

pub older_first : {g h : ℕ} → InCycle g → (h ≡ 0) ⊎ (h ≡ next_generation g) → choose g h ≡ only 0
unfolding choose
older_first cycle_1 (inl e) = rw e
older_first cycle_2 (inl e) = rw e
older_first cycle_3 (inl e) = rw e
older_first cycle_1 (inr e) = rw e
older_first cycle_2 (inr e) = rw e
older_first cycle_3 (inr e) = rw e

pub older-second : {g h : ℕ} → InCycle g → (h ≡ 0) ⊎ (h ≡ next_generation g) → choose h g ≡ only 1
unfolding choose
older-second cycle_1 (inl e) = rw e
older-second cycle_2 (inl e) = rw e
older-second cycle_3 (inl e) = rw e
older-second cycle_1 (inr e) = rw e
older-second cycle_2 (inr e) = rw e
older-second cycle_3 (inr e) = rw e

-- the older one counts, or the only one
pub old_counts : {K : Type 0} (d : ℕ → List (Rec K)) {x y g : ℕ} → Sides x y → InCycle g → generation (d x) ≡ g → Newer g (d y) → chosen d ≡ only x
old_counts d ahead t e h = rw e (older_first t h)
old_counts d back t e h = rw e (older-second t h)
