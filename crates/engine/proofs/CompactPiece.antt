-- Carrying one entry: its records are read from the tape that counts and put on the other one, one after the other. Assumes nothing.
use Rattle.std.proofs.Common.{◌≡◌, ℕ, zero, suc, ◌+◌, ◌-◌, ◌*◌, ◌<◌, ◌≤◌, true, false, ltb, List, length, set, sym, refl, ap, ◌∙◌, subst, inl, arith}
use Rattle.std.proofs.lemmas.Bool.{lt-ltb, le-ltb}
use Rattle.plain.specs.Device.{Device, Page, tape_of, stopped, longer, read_record}
use Rattle.plain.specs.Promise.{all_longer}
use Rattle.plain.specs.Run.{page}
use Rattle.journal.specs.Log.{position, copy, Piece, piece_in, copies, head_of}
use Rattle.records.specs.Pages.{page_of}
use Rattle.journal.proofs.Machine.{going, Goes, after_did}
use Rattle.commands.specs.Kept.{Kept, fit_line}
use Rattle.engine.specs.State.{House, carry_read, carry_put, at_phase, with_tapes, with_other, with_cursor, with_store, with_dir, with_carrying, carrying_of, passive}
use Rattle.engine.specs.Fits.{Fits, Word}
use Rattle.engine.specs.Packing.{records_of, piece_of, pieces_from}
use Rattle.engine.specs.Machine.{machine_by, entry_of, carry, carry_piece, after_carry}
use Rattle.engine.proofs.Facts.{Codec, OffAt}
use Rattle.engine.proofs.Course.{go_next, go_record, puts, asks, chosen}
use Rattle.engine.proofs.Devices.{Firm, firm-off, firm-sides, firm-put, side_first, side_second, longer-long, longer-reads, room_for}
use Rattle.engine.proofs.CompactFacts.{fits-phase}
use Rattle.engine.proofs.Pieces.{records_few, long-fits, copy-fits, copy_pages}

-- record j of entry i is asked for, or was put on; s is where the first one came, o how many records the other tape has
abbrev pub reading : House → ℕ → ℕ → ℕ → ℕ → ℕ → House
reading x i j n s o = at_phase carry_read (with_carrying (carrying_of i j n s x.carrying.quota x.carrying.waking) (with_tapes (with_other o x.tapes) x))

abbrev pub copied_on : House → ℕ → ℕ → ℕ → ℕ → ℕ → House
copied_on x i j n s o = at_phase carry_put (reading x i j n s o)

-- and the entry was carried
abbrev pub moved : House → ℕ → ℕ → ℕ → House
moved x i s o =
    at_phase carry_put (with_carrying (carrying_of i 0 0 s (x.carrying.quota - 1) x.carrying.waking)
    (with_tapes (with_cursor (suc i) (with_other o x.tapes))
    (with_store (with_dir (set x.store.dir i (position (passive x) s)) x.store) x)))

-- numbers that fit
record SmallNumbers (i j n s o : ℕ) : Type 0 where
  index : Word i
  part : j ≤ 2
  long : n ≤ 1024
  start : s < 1048576
  other : o ≤ 1048576

fits_reading : {x : House} {i j n s o : ℕ} → Fits x → SmallNumbers i j n s o → Fits (reading x i j n s o)
fits_reading f h = record {
  tapes = record { room = f.tapes.room; active = f.tapes.active; generation = f.tapes.generation; used = f.tapes.used; other = h.other; cursor = f.tapes.cursor };
  store = f.store;
  job = f.job;
  walking = f.walking;
  putting = f.putting;
  carrying = record { index = h.index; part = h.part; long = h.long; start = h.start; quota = f.carrying.quota };
}

fits-copied : {x : House} {i j n s o : ℕ} → Fits x → SmallNumbers i j n s o → Fits (copied_on x i j n s o)
fits-copied f h = fits-phase carry_put (fits_reading f h)

-- entry i, which lies on the tape that counts, is the line l
pub record Entry (codec : Codec) (R : ℕ) (k : Kept) (x : House) (i : ℕ) (l : List ℕ) (d : Device) : Type 0 where
  pub fits : Fits x
  pub index : Word i
  pub line : fit_line l ≡ true
  pub on : (entry_of x i).tape ≡ x.tapes.active
  pub firm : Firm codec R k d x.tapes.active (passive x) x.tapes.generation
  pub reads : (j : ℕ) → j < records_of (length l) → piece_in (codec.reading (read_record d (entry_of x i).tape ((entry_of x i).at + j))) ≡ piece_of l j

-- a record more on the other tape
entry_put : {codec : Codec} {R : ℕ} {k : Kept} {x : House} {i : ℕ} {l : List ℕ} {d : Device} (j : ℕ) → Entry codec R k x i l d → j ≤ 2 → length (tape_of d (passive x)).records < R →
    Entry codec R k x i l (longer d (passive x) (page_of (copy i j (piece_of l j))))
entry_put {codec} {R} {k} {x} {i} {l} {d} j h p q =
    let g : Page = page_of (copy i j (piece_of l j)) in
    let e : codec.reading g ≡ copy i j (piece_of l j) = codec.reads (copy i j (piece_of l j)) (copy-fits i l j h.index p h.line) in
    let a : ℕ = (entry_of x i).at in
    let sides = firm-sides codec R k h.firm in
    record {
      fits = h.fits;
      index = h.index;
      line = h.line;
      on = h.on;
      firm = firm-put codec R k h.firm g (inl (ap head_of e)) q;
      reads = λ n b.
          ap (λ z. piece_in (codec.reading z)) (subst (λ t. read_record (longer d (passive x) g) t (a + n) ≡ read_record d t (a + n)) (sym h.on) (longer-reads d g (a + n) sides)) ∙ h.reads n b;
    }

module _
    (codec : Codec) (R : ℕ) (Stop : Device → List (List ℕ) → Type 0) (End : House → Device → List (List ℕ) → ℕ → ℕ → Type 0) (ss : List (List ℕ)) (k : Kept)
    (can_stop : (d : Device) → ((cs : List ℕ) → OffAt codec R (stopped d cs) k) → Stop d ss) (at_most : R ≤ 1048576)
  where
    -- record j is read and put on; c is what the machine has for the line's length
    piece-on :
        (j c o s : ℕ) {x : House} {i : ℕ} {l : List ℕ} {d : Device} (r : ℕ) (h : Entry codec R k x i l d) → j < records_of (length l) → c ≤ 1024 → s < 1048576 →
        length (tape_of d (passive x)).records ≡ o → o < R →
        Goes (machine_by codec.reading) Stop End (after_did (longer d (passive x) (page_of (copy i j (piece_of l j)))) ss (suc r) (after_carry (copied_on x i j (length l) s (suc o)))) →
        Goes (machine_by codec.reading) Stop End (going (reading x i j c s o) d (page (read_record d (entry_of x i).tape ((entry_of x i).at + j))) ss r)
    piece-on j c o s {x} {i} {l} {d} r h e small w long room then =
        let few = records_few (length l) in
        let y : ℕ = passive x in
        let b : Piece = piece_of l j in
        let g : Page = page_of (copy i j b) in
        let a : ℕ = (entry_of x i).at in
        let t : ℕ = (entry_of x i).tape in
        let part : j ≤ 2 = omega arith in
        let sides = firm-sides codec R k h.firm in
        let has = room_for d y R o g (side_second sides) h.firm.room long room (codec.pages (copy i j b) (copy-fits i l j h.index part h.line)) in
        let h₁ : Entry codec R k x i l (longer d y g) = entry_put j h part (omega arith) in
        let x₁ : House = copied_on x i j (length l) s (suc o) in
        let fits₁ : Fits x₁ = fits-copied h.fits (record { index = h.index; part = part; long = long-fits l h.line; start = w; other = omega arith }) in
        go_record codec.reading (read_record d t (a + j)) carry_read (codec.reading (read_record d t (a + j))) refl refl
        (fits_reading h.fits (record { index = h.index; part = part; long = small; start = w; other = omega arith })) (can_stop d (firm-off codec R k h.firm))
        (subst (λ z. Goes (machine_by codec.reading) Stop End (after_did d ss r (carry_piece z (reading x i j c s o)))) (sym (h.reads j e))
        (puts codec.reading d y g has (go_next codec.reading carry_put refl fits₁ (can_stop (longer d y g) (firm-off codec R k h₁.firm)) then)))

    -- and n more behind it
    pub pieces_go :
        (n j c o s : ℕ) {x : House} {i : ℕ} {l : List ℕ} {d : Device} (r : ℕ) → Entry codec R k x i l d → j + suc n ≡ records_of (length l) → c ≤ 1024 → s < 1048576 →
        length (tape_of d (passive x)).records ≡ o → o + suc n ≤ R →
        ((o₁ r₁ : ℕ) → o₁ ≡ o + suc n → r₁ ≤ r + suc (2 * n) → Goes (machine_by codec.reading) Stop End (after_did (all_longer d (passive x) (copy_pages i l j (suc n))) ss r₁ (carry (moved x i s o₁)))) →
        Goes (machine_by codec.reading) Stop End (going (reading x i j c s o) d (page (read_record d (entry_of x i).tape ((entry_of x i).at + j))) ss r)
    unfolding all_longer copies pieces_from
    pieces_go zero j c o s {x} {i} {l} {d} r h e small w long room cont =
        let D : Device = longer d (passive x) (page_of (copy i j (piece_of l j))) in
        piece-on j c o s r h (omega arith) small w long (omega arith)
        (chosen (λ z. Goes (machine_by codec.reading) Stop End (after_did D ss (suc r) z)) (ltb (suc j) (records_of (length l))) false _ _ (le-ltb (suc j) (records_of (length l)) (omega arith))
        (cont (suc o) (suc r) (omega arith) (omega arith)))
    pieces_go (suc n) j c o s {x} {i} {l} {d} r h e small w long room cont =
        let few = records_few (length l) in
        let y : ℕ = passive x in
        let g : Page = page_of (copy i j (piece_of l j)) in
        let D : Device = longer d y g in
        let sides = firm-sides codec R k h.firm in
        let h₁ : Entry codec R k x i l D = entry_put j h (omega arith) (omega arith) in
        let long₁ : length (tape_of D y).records ≡ suc o = longer-long d g sides ∙ ap suc long in
        piece-on j c o s r h (omega arith) small w long (omega arith)
        (chosen (λ z. Goes (machine_by codec.reading) Stop End (after_did D ss (suc r) z)) (ltb (suc j) (records_of (length l))) true _ _ (lt-ltb (suc j) (records_of (length l)) (omega arith))
        (asks codec.reading D (entry_of x i).tape ((entry_of x i).at + suc j) (subst (λ t. t < 2) (sym h.on) (side_first sides))
        (pieces_go n (suc j) (length l) (suc o) s (suc (suc r)) h₁ (omega arith) (long-fits l h.line) w long₁ (omega arith)
        (λ o₁ r₁ p q. cont o₁ r₁ (omega arith) (omega arith)))))
