-- A machine whose memory is a record of named fields, and the engine that keeps that memory in a list of numbers. Assumes nothing: these are definitions.
use Rattle.std.specs.Prelude.{ℕ, List, ◌++◌, length, take, drop}
use Rattle.plain.specs.Run.{Event, Act, Engine}

pub record Did (X : Type 0) : Type 0 where
  pub state : X
  pub act : Act

abbrev pub did : {X : Type 0} → X → Act → Did X
did x a = record { state = x; act = a }

-- Ok says what may be told where, as far as an engine that keeps this memory has to know
pub record Machine (X : Type 0) : Type 1 where
  pub start : X
  pub step : X → Event → Did X
  pub Ok : X → Event → Type 0

-- an engine that loads the machine's memory from the list of numbers, and stores it there again
abbrev pub coded : {X : Type 0} → Machine X → (List ℕ → X) → (X → List ℕ → List ℕ) → List ℕ → Engine
coded M load store zeros =
    record { start = zeros; step = λ m ev. record { memory = store (M.step (load m) ev).state m; act = (M.step (load m) ev).act } }

-- a list laid over the beginning of another, which stays as long as it was
abbrev pub laid : List ℕ → List ℕ → List ℕ
laid c m = take (length m) (c ++ drop (length c) m)
