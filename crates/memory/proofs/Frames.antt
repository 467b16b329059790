-- What a change of one section leaves as it was. Assumes nothing.
use Rattle.std.proofs.Common.{◌≡◌, ℕ, List, [], ◌∷◌, map, length, take, sym, refl, ap, ◌∙◌, arith, lit≤}
use Rattle.std.proofs.lemmas.List.{take-map}
use Rattle.lines.specs.Slots.{slots}
use Rattle.memory.specs.declared.registers.Registers.{Registers}
use Rattle.memory.specs.Numbers.{capped}
use Rattle.memory.specs.Registers.{stored}
use Rattle.memory.specs.Sections.{ring_in, files_in, name_in, cells_in, words_in, with_ring, with_files, with_name, with_cells, with_words, low, high}
use Rattle.memory.specs.Abstract.{position_of, pending_at, dir_of, pending_of, ring_of, files_at, files_of, text_of, name_of}
use Rattle.memory.proofs.Parted as parted
use Rattle.memory.proofs.Storing.{behind_stored}

-- WHAT IS THE SAME, whatever the registers say of its length
abbrev pub SameDir : List ℕ → List ℕ → Type 0
SameDir m m₁ = (n : ℕ) → dir_of n m₁ ≡ dir_of n m

abbrev pub SamePending : List ℕ → List ℕ → Type 0
SamePending m m₁ = (n : ℕ) → pending_of n m₁ ≡ pending_of n m

abbrev pub SameRing : List ℕ → List ℕ → Type 0
SameRing m m₁ = (n : ℕ) → ring_of n m₁ ≡ ring_of n m

abbrev pub SameFiles : List ℕ → List ℕ → Type 0
SameFiles m m₁ = (n : ℕ) → files_of n m₁ ≡ files_of n m

abbrev pub SameText : List ℕ → List ℕ → Type 0
SameText m m₁ = (n : ℕ) → text_of n m₁ ≡ text_of n m

abbrev pub SameName : List ℕ → List ℕ → Type 0
SameName m m₁ = (n : ℕ) → name_of n m₁ ≡ name_of n m

-- all but one
pub record BesideDir (m m₁ : List ℕ) : Type 0 where
  pub pending : SamePending m m₁
  pub ring : SameRing m m₁
  pub files : SameFiles m m₁
  pub text : SameText m m₁
  pub name : SameName m m₁

pub record BesidePending (m m₁ : List ℕ) : Type 0 where
  pub dir : SameDir m m₁
  pub ring : SameRing m m₁
  pub files : SameFiles m m₁
  pub text : SameText m m₁
  pub name : SameName m m₁

pub record BesideRing (m m₁ : List ℕ) : Type 0 where
  pub dir : SameDir m m₁
  pub pending : SamePending m m₁
  pub files : SameFiles m m₁
  pub text : SameText m m₁
  pub name : SameName m m₁

pub record BesideFiles (m m₁ : List ℕ) : Type 0 where
  pub dir : SameDir m m₁
  pub pending : SamePending m m₁
  pub ring : SameRing m m₁
  pub text : SameText m m₁
  pub name : SameName m m₁

pub record BesideText (m m₁ : List ℕ) : Type 0 where
  pub dir : SameDir m m₁
  pub pending : SamePending m m₁
  pub ring : SameRing m m₁
  pub files : SameFiles m m₁
  pub name : SameName m m₁

pub record BesideName (m m₁ : List ℕ) : Type 0 where
  pub dir : SameDir m m₁
  pub pending : SamePending m m₁
  pub ring : SameRing m m₁
  pub files : SameFiles m m₁
  pub text : SameText m m₁

-- FROM THE SECTIONS
module _ (m m₁ : List ℕ) where
  pub same_dir : words_in m₁ ≡ words_in m → SameDir m m₁
  unfolding dir_of
  same_dir e n = ap (λ w. map position_of (take n (slots w))) e

  pub same_ring : ring_in m₁ ≡ ring_in m → SameRing m m₁
  unfolding ring_of
  same_ring e n = ap (λ s. map capped (take n s)) e

  pub same_files : files_in m₁ ≡ files_in m → SameFiles m m₁
  same_files e n = ap (files_at n) e

  pub same_name : name_in m₁ ≡ name_in m → SameName m m₁
  unfolding name_of
  same_name e n = ap (λ s. map low (take n s)) e

  pub same_text : map low (cells_in m₁) ≡ map low (cells_in m) → SameText m m₁
  unfolding text_of
  same_text e n = sym (take-map low n (cells_in m₁)) ∙ ap (take n) e ∙ take-map low n (cells_in m)

  positions_in : (cs : List ℕ) → map position_of (map high cs) ≡ map pending_at cs
  positions_in [] = refl
  positions_in (c ∷ cs) = ap (λ t. pending_at c ∷ t) (positions_in cs)

  pub same_pending : map high (cells_in m₁) ≡ map high (cells_in m) → SamePending m m₁
  unfolding pending_of
  same_pending e n =
      sym (positions_in (take n (cells_in m₁))) ∙ ap (map position_of) (sym (take-map high n (cells_in m₁)) ∙ ap (take n) e ∙ take-map high n (cells_in m))
      ∙ positions_in (take n (cells_in m))

-- CHANGES OF A SECTION
module _ (m ys : List ℕ) (h : length m ≡ 262144) where
  pub beside_words : length ys ≡ 174763 → BesideDir m (with_words m ys)
  beside_words l =
      let cells = parted.part-before 70016 174763 m ys (omega arith) 4480 65536 (lit≤ tt) in
      record {
        pending = same_pending m (with_words m ys) (ap (map high) cells);
        ring = same_ring m (with_words m ys) (parted.part-before 70016 174763 m ys (omega arith) 64 64 (lit≤ tt));
        files = same_files m (with_words m ys) (parted.part-before 70016 174763 m ys (omega arith) 128 4288 (lit≤ tt));
        text = same_text m (with_words m ys) (ap (map low) cells);
        name = same_name m (with_words m ys) (parted.part-before 70016 174763 m ys (omega arith) 4416 64 (lit≤ tt));
      }

  module _ (l : length ys ≡ 65536) where
    cells-dir : SameDir m (with_cells m ys)
    cells-dir = same_dir m (with_cells m ys) (parted.part_behind 4480 65536 m ys (omega arith) 70016 174763 (lit≤ tt) l)

    cells-ring : SameRing m (with_cells m ys)
    cells-ring = same_ring m (with_cells m ys) (parted.part-before 4480 65536 m ys (omega arith) 64 64 (lit≤ tt))

    cells-files : SameFiles m (with_cells m ys)
    cells-files = same_files m (with_cells m ys) (parted.part-before 4480 65536 m ys (omega arith) 128 4288 (lit≤ tt))

    cells_name : SameName m (with_cells m ys)
    cells_name = same_name m (with_cells m ys) (parted.part-before 4480 65536 m ys (omega arith) 4416 64 (lit≤ tt))

    cells_are : cells_in (with_cells m ys) ≡ ys
    cells_are = parted.part_with 4480 65536 m ys (omega arith) l

    pub beside-low : map high ys ≡ map high (cells_in m) → BesideText m (with_cells m ys)
    beside-low e = record {
      dir = cells-dir;
      pending = same_pending m (with_cells m ys) (ap (map high) cells_are ∙ e);
      ring = cells-ring;
      files = cells-files;
      name = cells_name;
    }

    pub beside-high : map low ys ≡ map low (cells_in m) → BesidePending m (with_cells m ys)
    beside-high e = record {
      dir = cells-dir;
      ring = cells-ring;
      files = cells-files;
      text = same_text m (with_cells m ys) (ap (map low) cells_are ∙ e);
      name = cells_name;
    }

  pub beside_weights : length ys ≡ 64 → BesideRing m (with_ring m ys)
  beside_weights l =
      let cells = parted.part_behind 64 64 m ys (omega arith) 4480 65536 (lit≤ tt) l in
      record {
        dir = same_dir m (with_ring m ys) (parted.part_behind 64 64 m ys (omega arith) 70016 174763 (lit≤ tt) l);
        pending = same_pending m (with_ring m ys) (ap (map high) cells);
        files = same_files m (with_ring m ys) (parted.part_behind 64 64 m ys (omega arith) 128 4288 (lit≤ tt) l);
        text = same_text m (with_ring m ys) (ap (map low) cells);
        name = same_name m (with_ring m ys) (parted.part_behind 64 64 m ys (omega arith) 4416 64 (lit≤ tt) l);
      }

  pub beside_table : length ys ≡ 4288 → BesideFiles m (with_files m ys)
  beside_table l =
      let cells = parted.part_behind 128 4288 m ys (omega arith) 4480 65536 (lit≤ tt) l in
      record {
        dir = same_dir m (with_files m ys) (parted.part_behind 128 4288 m ys (omega arith) 70016 174763 (lit≤ tt) l);
        pending = same_pending m (with_files m ys) (ap (map high) cells);
        ring = same_ring m (with_files m ys) (parted.part-before 128 4288 m ys (omega arith) 64 64 (lit≤ tt));
        text = same_text m (with_files m ys) (ap (map low) cells);
        name = same_name m (with_files m ys) (parted.part_behind 128 4288 m ys (omega arith) 4416 64 (lit≤ tt) l);
      }

  pub beside_bytes : length ys ≡ 64 → BesideName m (with_name m ys)
  beside_bytes l =
      let cells = parted.part_behind 4416 64 m ys (omega arith) 4480 65536 (lit≤ tt) l in
      record {
        dir = same_dir m (with_name m ys) (parted.part_behind 4416 64 m ys (omega arith) 70016 174763 (lit≤ tt) l);
        pending = same_pending m (with_name m ys) (ap (map high) cells);
        ring = same_ring m (with_name m ys) (parted.part-before 4416 64 m ys (omega arith) 64 64 (lit≤ tt));
        files = same_files m (with_name m ys) (parted.part-before 4416 64 m ys (omega arith) 128 4288 (lit≤ tt));
        text = same_text m (with_name m ys) (ap (map low) cells);
      }

-- registers that are stored change none of these
pub record BesideAll (m m₁ : List ℕ) : Type 0 where
  pub dir : SameDir m m₁
  pub pending : SamePending m m₁
  pub ring : SameRing m m₁
  pub files : SameFiles m m₁
  pub text : SameText m m₁
  pub name : SameName m m₁

pub beside_stored : (r : Registers) (m : List ℕ) → BesideAll m (stored r m)
beside_stored r m =
    let cells : cells_in (stored r m) ≡ cells_in m = ap (take 65536) (behind_stored r m 4480 (lit≤ tt)) in
    record {
      dir = same_dir m (stored r m) (ap (take 174763) (behind_stored r m 70016 (lit≤ tt)));
      pending = same_pending m (stored r m) (ap (map high) cells);
      ring = same_ring m (stored r m) (ap (take 64) (behind_stored r m 64 (lit≤ tt)));
      files = same_files m (stored r m) (ap (take 4288) (behind_stored r m 128 (lit≤ tt)));
      text = same_text m (stored r m) (ap (map low) cells);
      name = same_name m (stored r m) (ap (take 64) (behind_stored r m 4416 (lit≤ tt)));
    }
