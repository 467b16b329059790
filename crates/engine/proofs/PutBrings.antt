-- What a command brings, and the tapes while its records are put on: a stop at each of them, room for each, and what is kept once they are fast.
-- Assumes nothing.
use Rattle.std.proofs.Common.{◌≡◌, ℕ, suc, ◌+◌, ◌≤◌, true, List, [], ◌∷◌, ◌++◌, map, length, sym, refl, ap, ◌∙◌, subst, inl, inr, append-nil, arith, length-append}
use lib.ListN.{length-map}
use Rattle.plain.specs.Device.{Device, tape_of, fastened, stopped}
use Rattle.plain.specs.Run.{has_room}
use Rattle.plain.specs.Promise.{all_longer}
use Rattle.journal.specs.Log.{Position, Splice, Rec, apply, Packed, positions, command_records, head_of, tapes}
use Rattle.journal.specs.Small.{Small, News, updated, no_state}
use Rattle.records.specs.Pages.{page_of}
use Rattle.journal.proofs.Alike.{apply_natural}
use Rattle.journal.proofs.Contents.{Layout}
use Rattle.journal.proofs.Compaction.{Allowed}
use Rattle.journal.proofs.Recovery as recovery
use Rattle.journal.proofs.Lifecycle as lifecycle
use Rattle.commands.specs.Kept.{Kept, directory, fit_lines}
use Rattle.commands.specs.Smalls.{smalls_of}
use Rattle.engine.specs.Fits.{SpliceFits, NewsFits, ReplayFits}
use Rattle.engine.specs.Packing.{lines_records, packed, packs}
use Rattle.engine.proofs.Facts.{Codec, Safe}
use Rattle.engine.proofs.Devices.{side_first, side_second, room_for}
use Rattle.engine.proofs.PassDevices.{Bounded, bounded_sides, off_at_by, all_longer-room, all_longer-count, all_longer_beside, layout_old_count}
use Rattle.engine.proofs.PutRecords.{pages, pages_read, AllBelong, first_belong, next_belongs, command_belongs, command-count}

-- the lines of a directory, packed, under a splice
pub packs-apply : (c : Splice) (ls new : List (List ℕ)) → apply c (packs ls) (packs new) ≡ packs (apply c ls new)
packs-apply c ls new = apply_natural packed c ls new

-- k is kept before the command, k₁ then: these lines come, with this splice and these small numbers
pub record Bringing (k k₁ : Kept) (new : List (List ℕ)) (c : Splice) (u : News) : Type 0 where
  pub entries : directory k₁ ≡ apply c (directory k) new
  pub numbers : smalls_of k₁ ≡ updated u (smalls_of k)
  pub lines : fit_lines new ≡ true
  pub few : length new ≤ 65536
  pub splice : SpliceFits c
  pub news : NewsFits u
  pub allowed : Allowed updated ReplayFits (packs (directory k)) (smalls_of k) (packs new) c u

module _ (codec : Codec) where
  -- the log with one tape that counts, and with the other one meanwhile
  abbrev pub One : Device → ℕ → ℕ → ℕ → ℕ → List Position → Kept → Type 0
  One v x y g m D k = lifecycle.Active updated no_state ReplayFits codec.reading codec.torn true v x y g m D (packs (directory k)) (smalls_of k)

  abbrev pub Two : Device → ℕ → ℕ → ℕ → ℕ → ℕ → List Position → Kept → Type 0
  Two v x y g m i D k = lifecycle.Copying updated no_state ReplayFits codec.reading codec.torn true v x y g m i D (packs (directory k)) (smalls_of k)

  module _ {k k₁ : Kept} {new : List (List ℕ)} {c : Splice} {u : News} (b : Bringing k k₁ new c u) where
    abbrev all_of : List (Rec News)
    all_of = command_records (packs new) c u

    pub lines_then : apply c (packs (directory k)) (packs new) ≡ packs (directory k₁)
    lines_then = packs-apply c (directory k) new ∙ ap packs (sym b.entries)

    -- whatever holds of what is there then
    by-then : (F : List Packed → Small → Type 0) → F (apply c (packs (directory k)) (packs new)) (updated u (smalls_of k)) → F (packs (directory k₁)) (smalls_of k₁)
    by-then F h = subst (λ s. F (packs (directory k₁)) s) (sym b.numbers) (subst (λ z. F z (updated u (smalls_of k))) lines_then h)

    belong : AllBelong all_of
    belong = command_belongs new c u b.lines b.splice b.news

    read_back : (P Q : List (Rec News)) → P ++ Q ≡ all_of → map codec.reading (pages P) ≡ P
    read_back P Q e = pages_read codec P (first_belong P Q e belong)

    read_all : map codec.reading (pages all_of) ≡ all_of
    read_all = pages_read codec all_of belong

    pub pages-count : length (pages all_of) ≡ suc (lines_records new)
    pages-count = length-map all_of page_of ∙ command-count new c u

    first-few : (P Q : List (Rec News)) → P ++ Q ≡ all_of → length (pages P) + length Q ≡ suc (lines_records new)
    first-few P Q e = let a = length-map P page_of in let q = sym (length-append P Q) ∙ ap length e ∙ command-count new c u in omega (arith, a, q)

    -- ON THE TAPE THAT COUNTS
    module _ {R : ℕ} {v : Device} {x y g m : ℕ} {D : List Position} (h : One v x y g m D k) (room : v.room ≡ R) (fits : m + suc (lines_records new) ≤ R) where
      there : length (tape_of v x).records ≡ m
      there = layout_old_count codec.reading h.layout ∙ ap length (append-nil h.T) ∙ h.used

      count-then : (P Q : List (Rec News)) → P ++ Q ≡ all_of → length (tape_of (all_longer v x (pages P)) x).records + length Q ≡ m + suc (lines_records new)
      count-then P Q e = let a = all_longer-count v x (pages P) in let f = first-few P Q e in let q = there in omega (arith, a, f, q)

      pub first-room : (P : List (Rec News)) (r : Rec News) (Q : List (Rec News)) → P ++ r ∷ Q ≡ all_of → has_room (all_longer v x (pages P)) x (page_of r) ≡ true
      first-room P r Q e =
          let a = count-then P (r ∷ Q) e in
          room_for (all_longer v x (pages P)) x R (length (tape_of (all_longer v x (pages P)) x).records) (page_of r) (side_first h.layout.sides) (all_longer-room v x (pages P) ∙ room) refl (omega (arith, a))
          (codec.pages r (next_belongs P r Q e belong).fits)

      pub first-bounded : (P Q : List (Rec News)) → length (tape_of v y).records ≤ R → P ++ Q ≡ all_of → Bounded R (all_longer v x (pages P))
      first-bounded P Q l e =
          let a = count-then P Q e in
          let s : length (tape_of (all_longer v x (pages P)) y).records ≡ length (tape_of v y).records = ap (λ z. length z.records) (all_longer_beside v (pages P) h.layout.sides) in
          bounded_sides h.layout.sides (all_longer-room v x (pages P) ∙ room) (omega (arith, a)) (omega (arith, s))

      -- a stop there leaves what was kept before, or what is kept then
      pub first_safe : length (tape_of v y).records ≤ R → (P Q : List (Rec News)) → P ++ Q ≡ all_of → Safe codec R (all_longer v x (pages P)) k k₁
      first_safe l P Q e = record {
        leaves = λ cs.
            let v₁ : Device = all_longer v x (pages P) in
            let lay : Layout codec.reading v₁ x y h.T P h.F h.L = subst (λ z. Layout codec.reading v₁ x y h.T z h.F h.L) (read_back P Q e) (lifecycle.layout_all_old codec.reading (pages P) h.layout) in
            let o = first-bounded P Q l e in
            elim (lifecycle.command_rests updated no_state ReplayFits codec.reading codec.torn cs Q (packs new) c u e b.allowed lay h.cycle h.gen h.newer h.keeps (h.ready refl)) [
              | inl q ↦ inl (off_at_by codec cs o q)
              | inr q ↦ inr (off_at_by codec cs o (by-then (λ ls s. recovery.Off updated no_state ReplayFits (tapes codec.reading (stopped v₁ cs)) ls s) q))
            ];
      }

    -- all of them are there, and fast
    pub first-fast : {v : Device} {x y g m : ℕ} {D : List Position} → One v x y g m D k →
        One (fastened (all_longer v x (pages all_of)) x) x y g (m + suc (lines_records new)) (apply c D (positions x m (packs new))) k₁
    first-fast {v} {x} {y} {g} {m} {D} h =
        let v₁ : Device = fastened (all_longer v x (pages all_of)) x in
        let D₁ : List Position = apply c D (positions x m (packs new)) in
        subst (λ i. One v₁ x y g (m + i) D₁ k₁) pages-count
        (by-then (λ ls s. lifecycle.Active updated no_state ReplayFits codec.reading codec.torn true v₁ x y g (m + length (pages all_of)) D₁ ls s)
        (lifecycle.active-command updated no_state ReplayFits codec.reading codec.torn (pages all_of) (packs new) c u h read_all b.allowed))

    -- AND ON THE OTHER ONE, when they are
    pub other-on : (P : List (Rec News)) {v : Device} {x y g m : ℕ} {D : List Position} → One v x y g m D k₁ → AllBelong P → One (all_longer v y (pages P)) x y g m D k₁
    unfolding all_longer
    other-on [] h a = h
    other-on (r ∷ P) h a =
        other-on P
        (lifecycle.active-put updated no_state ReplayFits codec.reading codec.torn (page_of r) h (inl (ap head_of (codec.reads r (a r (inl refl)).fits) ∙ (a r (inl refl)).no_head)))
        (λ q i. a q (inr i))

    module _ {R : ℕ} {v : Device} {x y g m i : ℕ} {D : List Position} (h : One v x y g m D k₁) (room : v.room ≡ R) (fits : m ≤ R) (long : length (tape_of v y).records ≡ i)
        (more-fits : i + suc (lines_records new) ≤ R) where
      pub second-room : (P : List (Rec News)) (r : Rec News) (Q : List (Rec News)) → P ++ r ∷ Q ≡ all_of → has_room (all_longer v y (pages P)) y (page_of r) ≡ true
      second-room P r Q e =
          let a = all_longer-count v y (pages P) in
          let f = first-few P (r ∷ Q) e in
          room_for (all_longer v y (pages P)) y R (length (tape_of (all_longer v y (pages P)) y).records) (page_of r) (side_second h.layout.sides) (all_longer-room v y (pages P) ∙ room) refl (omega (arith, a, f))
          (codec.pages r (next_belongs P r Q e belong).fits)

      pub second_safe : (P Q : List (Rec News)) → P ++ Q ≡ all_of → Safe codec R (all_longer v y (pages P)) k k₁
      second_safe P Q e = record {
        leaves = λ cs.
            let h₁ = other-on P h (first_belong P Q e belong) in
            let a = all_longer-count v y (pages P) in
            let f = first-few P Q e in
            let q = layout_old_count codec.reading h₁.layout ∙ ap length (append-nil h₁.T) ∙ h₁.used in
            inr (off_at_by codec cs (bounded_sides h₁.layout.sides (all_longer-room v y (pages P) ∙ room) (omega (arith, q)) (omega (arith, a, f)))
            (lifecycle.active-rests updated no_state ReplayFits codec.reading codec.torn cs h₁));
      }

    -- all of them are on both
    pub both-on : {v : Device} {x y g m i : ℕ} {D : List Position} → Two v x y g m i D k →
        Two (all_longer (fastened (all_longer v x (pages all_of)) x) y (pages all_of)) x y g (m + suc (lines_records new)) (i + suc (lines_records new)) (apply c D (positions y i (packs new))) k₁
    both-on {v} {x} {y} {g} {m} {i} {D} h =
        let v₁ : Device = all_longer (fastened (all_longer v x (pages all_of)) x) y (pages all_of) in
        let D₁ : List Position = apply c D (positions y i (packs new)) in
        subst (λ j. Two v₁ x y g (m + j) (i + j) D₁ k₁) pages-count
        (by-then (λ ls s. lifecycle.Copying updated no_state ReplayFits codec.reading codec.torn true v₁ x y g (m + length (pages all_of)) (i + length (pages all_of)) D₁ ls s)
        (lifecycle.copying_commands updated no_state ReplayFits codec.reading codec.torn (pages all_of) (packs new) c u h read_all b.allowed))
