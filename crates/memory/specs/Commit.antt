-- What a commit makes of the memory: the directory spliced, and the small state set. Where it can't be done, all stays. Assumes nothing: these are definitions.
use Rattle.std.specs.Prelude.{ℕ, ◌+◌, ◌-◌, Bool, true, ◌&&◌, List, length}
use Rattle.plain.specs.Pattern.{pick}
use Rattle.journal.specs.Log.{Source, no_entries, new_entries, copied, Splice}
use Rattle.journal.specs.Small.{Also, nothing_else, push, slot, News}
use Rattle.memory.specs.declared.kept.Kept.{Kept}
use Rattle.memory.specs.declared.commit.Counts.{Counts}
use Rattle.memory.specs.Sections.{can_splice, can_put, can_copy, pending_spliced, nothing_spliced, copied_spliced, ring_count, with_weight, can_file, file_count, file_set}

-- THE DIRECTORY: so many entries, so many pending
abbrev pub can_by : Source → (count p q k : ℕ) → Bool
can_by no_entries c p q k = can_splice c p q 0
can_by new_entries c p q k = can_put c p q k
can_by (copied a b) c p q k = can_copy c p q a b

abbrev pub came_by : Source → ℕ → ℕ
came_by no_entries k = 0
came_by new_entries k = k
came_by (copied a b) k = b - a

abbrev pub spliced_by : Source → (count p q k : ℕ) → List ℕ → List ℕ
spliced_by no_entries c p q k m = nothing_spliced c p q m
spliced_by new_entries c p q k m = pending_spliced c p q k m
spliced_by (copied a b) c p q k m = copied_spliced c p q a b m

-- THE SMALL STATE: how many weights and files there are
abbrev pub counts_of : ℕ → ℕ → Counts
counts_of ring files = record { ring = ring; files = files }

abbrev pub can_note : Also → ℕ → Bool
can_note nothing_else files = true
can_note (push w) files = true
can_note (slot i e) files = can_file files i (length e.name)

abbrev pub counts_by : Also → ℕ → ℕ → Counts
counts_by nothing_else ring files = counts_of ring files
counts_by (push w) ring files = counts_of (ring_count ring) files
counts_by (slot i e) ring files = counts_of ring (pick (can_file files i (length e.name)) (file_count files i) files)

abbrev pub noted_by : Also → ℕ → ℕ → List ℕ → List ℕ
noted_by nothing_else ring files m = m
noted_by (push w) ring files m = with_weight ring w m
noted_by (slot i e) ring files m = file_set files i e.name e.lines e.size m

-- BOTH
unfoldable pub can_apply : Kept → Splice → News → Bool
can_apply k c u = can_note u.also k.files && can_by c.source k.entries c.from c.gone k.pending

unfoldable pub kept_after : Kept → Splice → News → Kept
kept_after k c u =
    record {
      entries = k.entries - c.gone + came_by c.source k.pending;
      pending = 0;
      count = u.count;
      current = u.current;
      weight = u.weight;
      ring = (counts_by u.also k.ring k.files).ring;
      files = (counts_by u.also k.ring k.files).files;
    }

unfoldable pub applied : Kept → Splice → News → List ℕ → List ℕ
applied k c u m =
    pick (can_apply k c u) (noted_by u.also k.ring k.files (spliced_by c.source k.entries c.from c.gone k.pending m)) m
