-- That neither tape ever gets full, as linear facts. A tape has room for R records, and compaction begins past T = 7R/8 of them; m are used on the old tape and
-- n on the new one; the lines of the directory take V records, VY of them on the new tape; S is the sum of the sizes of the commands since compaction began,
-- and J entries still wait to be carried. A command of size s carries 16 s entries first. Every line weighs at least 64 for each of its records and at most 32 R
-- is kept, so 64 V ≤ 32 R. Beginning the new tape takes at most 130 records: a head, 64 stand weights, 64 files, the text's numbers. Assumes nothing: these
-- are definitions.
use Rattle.std.specs.Prelude.{ℕ, ◌+◌, ◌*◌, ◌<◌, ◌≤◌}

pub record Rooms (R T : ℕ) : Type 0 where
  pub enough : 1024 ≤ R
  pub below : 8 * T ≤ 7 * R
  pub above : 7 * R < 8 * T + 8

pub record Carrying (R T m n VY S J : ℕ) : Type 0 where
  pub old : m ≤ T + 3 * S
  pub new : n ≤ 130 + VY + 3 * S
  pub slow : 2 * (16 * S + J) ≤ R
