-- An engine that loads a machine's memory from a list of numbers and stores it there again keeps it; and how a list is laid over the beginning of another.
-- Assumes nothing.
use Rattle.std.proofs.Common.{◌≡◌, ℕ, ◌≤◌, List, ◌++◌, length, drop, sym, refl, ap, ◌∙◌, subst, arith, length-append, length-drop, length-take, take_all}
use Rattle.plain.specs.Run.{Event}
use Rattle.journal.specs.Machine.{Machine, coded, laid}
use Rattle.journal.proofs.Machine.{Keeps}

-- what is to be shown of loading and storing: a memory loads what was stored, as far as it may be told anything; nothing is asked of other states, so that `Ok`
-- is about the state that a step begins with
module _ {X : Type 0} (M : Machine X) (load : List ℕ → X) (store : X → List ℕ → List ℕ) (zeros : List ℕ) where
  pub record Coding : Type 0 where
    pub begins : load zeros ≡ M.start
    pub stored : (m : List ℕ) (x : X) (ev : Event) → length m ≡ length zeros → M.Ok x ev → load (store x m) ≡ x
    pub as_long : (m : List ℕ) (x : X) → length (store x m) ≡ length m

  pub record Loads (m : List ℕ) (x : X) : Type 0 where
    pub loads : (ev : Event) → M.Ok x ev → load m ≡ x
    pub long : length m ≡ length zeros

  loads_on : Coding → (m : List ℕ) (x : X) (ev : Event) → M.Ok x ev → Loads m x → Loads (store (M.step (load m) ev).state m) (M.step x ev).state
  loads_on c m x ev ok q =
      subst (λ z. Loads (store (M.step z ev).state m) (M.step x ev).state) (sym (q.loads ev ok))
      (record { loads = λ ev₁ ok₁. c.stored m (M.step x ev).state ev₁ q.long ok₁; long = c.as_long m (M.step x ev).state ∙ q.long })

  pub coding_keeps : Coding → Keeps M (λ x. Unit {0}) (coded M load store zeros) Loads
  coding_keeps c = record {
    at_start = record { loads = λ ev ok. c.begins; long = refl };
    same_act = λ m x ev ok good q. ap (λ y. (M.step y ev).act) (q.loads ev ok);
    still = λ m x ev ok good q. loads_on c m x ev ok q;
  }

pub laid-long : (c m : List ℕ) → length (laid c m) ≡ length m
laid-long c m = simp (length-take, length-append, length-drop) (omega arith)

pub laid_is : (c m : List ℕ) → length c ≤ length m → laid c m ≡ c ++ drop (length c) m
laid_is c m h = take_all (length m) (c ++ drop (length c) m) (simp (length-append, length-drop) (omega arith))
