-- How far bytes that aren't a command could be read. Assumes nothing.
use Rattle.std.specs.Prelude.{◌≡◌, ℕ, ◌+◌, ◌-◌, ◌<◌, ◌≤◌, Bool, true, false, not, List, [], ◌∷◌, ◌++◌, length, take}
use Rattle.plain.specs.Pattern.{none_of, any, or}
use Rattle.plain.specs.Command.{reads}
use Rattle.reader.specs.declared.failure.Failure.{Failure}
use Rattle.reader.specs.declared.failure.Failure.TheVariants.{TooLong, EndsEarly, AtByte}

abbrev pub can_read : List ℕ → Bool
can_read bs = not (none_of (reads bs))

-- one of these endings makes a command of the bytes
abbrev pub one_of : List (List ℕ) → List ℕ → Bool
one_of es bs = any (λ e. can_read (bs ++ e)) es

abbrev pub slashes : List (List ℕ)
slashes = [] ∷ (47 ∷ []) ∷ (47 ∷ 47 ∷ []) ∷ (47 ∷ 47 ∷ 47 ∷ []) ∷ []

abbrev pub questions : List (List ℕ)
questions = (63 ∷ []) ∷ (63 ∷ 63 ∷ []) ∷ []

-- a letter, a blank and a letter, a digit
abbrev pub letters : List (List ℕ)
letters = (97 ∷ []) ∷ (32 ∷ 97 ∷ []) ∷ (49 ∷ []) ∷ []

unfoldable pub begins : List ℕ → Bool
begins bs = or (one_of slashes bs) (or (one_of questions bs) (one_of letters bs))

-- n bytes are the beginning of a command, and one more byte isn't
pub record Longest (bs : List ℕ) (n : ℕ) : Type 0 where
  pub within : n ≤ length bs
  pub so_far : begins (take n bs) ≡ true
  pub no_further : n < length bs → begins (take (n + 1) bs) ≡ false

-- the byte counted by n, from 1 on, is the first that no command goes on with
pub record Stuck (bs : List ℕ) (n : ℕ) : Type 0 where
  pub some : 1 ≤ n
  pub within : n ≤ length bs
  pub longest : Longest bs (n - 1)

abbrev pub Why : List ℕ → Failure → Type 0
Why bs TooLong = 65535 < length bs
Why bs EndsEarly = begins bs ≡ true
Why bs (AtByte n) = Stuck bs n
