-- That the records of lines, of copies and of a new tape fit their pages; and that many pages are read back. Assumes nothing.
use Rattle.std.proofs.Common.{◌≡◌, ℕ, zero, suc, ◌+◌, ◌-◌, ◌/◌, ◌≤◌, List, [], ◌∷◌, ◌++◌, map, length, refl, subst, inl, inr, arith}
use Rattle.plain.proofs.Basics.{In, in_cases}
use Rattle.journal.specs.Log.{Splice, Rec, commit, parts, copies, line_records, copy_records, block, command_records, set_up, begin_records}
use Rattle.journal.specs.Small.{News}
use Rattle.records.specs.Lines.{records_for, pieces, packed}
use Rattle.records.specs.Pages.{page_of, record_of, SmallNumber, Bytes, SpliceFits, NewsFits, RecFits}
use Rattle.records.proofs.Lines.{piece-fits}
use Rattle.records.proofs.Pages.{page-back}

abbrev pub AllFit : List (Rec News) → Type 0
AllFit rs = (r : Rec News) → In r rs → RecFits r

pub pages_back : (rs : List (Rec News)) → AllFit rs → map record_of (map page_of rs) ≡ rs
pages_back [] f = refl
pages_back (r ∷ rs) f =
    let x = page-back r (f r (inl refl)) in
    let y = pages_back rs (λ q h. f q (inr h)) in
    λ i. x i ∷ y i

pub fit_append : (rs qs : List (Rec News)) → AllFit rs → AllFit qs → AllFit (rs ++ qs)
fit_append rs qs f g r h = elim (in_cases r rs qs h) [ inl k ↦ f r k | inr k ↦ g r k ]

-- a line of up to 1,024 bytes
pub record LineFits (bs : List ℕ) : Type 0 where
  pub long : length bs ≤ 1024
  pub bytes : Bytes bs

parts_fit : (bs : List ℕ) → LineFits bs → (k j : ℕ) → j + k ≤ records_for (length bs) → AllFit (parts j (pieces k j bs))
unfolding parts pieces
parts_fit bs f zero j h r i = absurd i
parts_fit bs f (suc k) j h r (inl e) = subst RecFits e (piece-fits bs f.long f.bytes j (omega arith))
parts_fit bs f (suc k) j h r (inr i) = parts_fit bs f k (suc j) (omega arith) r i

pub line_fit : (bs : List ℕ) → LineFits bs → AllFit (line_records (packed bs))
line_fit bs f r (inl e) = subst RecFits e (piece-fits bs f.long f.bytes 0 (omega arith))
line_fit bs f r (inr i) = parts_fit bs f ((length bs - 1) / 503) 1 (omega arith) r i

copies_fit : (i : ℕ) → SmallNumber i → (bs : List ℕ) → LineFits bs → (k j : ℕ) → j + k ≤ records_for (length bs) → AllFit (copies i j (pieces k j bs))
unfolding copies pieces
copies_fit i s bs f zero j h r k = absurd k
copies_fit i s bs f (suc k) j h r (inl e) = subst RecFits e (s, piece-fits bs f.long f.bytes j (omega arith))
copies_fit i s bs f (suc k) j h r (inr q) = copies_fit i s bs f k (suc j) (omega arith) r q

pub copy_fit : (i : ℕ) → SmallNumber i → (bs : List ℕ) → LineFits bs → AllFit (copy_records i (packed bs))
copy_fit i s bs f r (inl e) = subst RecFits e (s, piece-fits bs f.long f.bytes 0 (omega arith))
copy_fit i s bs f r (inr k) = copies_fit i s bs f ((length bs - 1) / 503) 1 (omega arith) r k

block_fit : (ls : List (List ℕ)) → ((bs : List ℕ) → In bs ls → LineFits bs) → AllFit (block (map packed ls))
unfolding block
block_fit [] f r h = absurd h
block_fit (bs ∷ ls) f r h = fit_append (line_records (packed bs)) (block (map packed ls)) (line_fit bs (f bs (inl refl))) (block_fit ls (λ cs k. f cs (inr k))) r h

-- a command's lines and its commit
pub command_fit :
    (ls : List (List ℕ)) (c : Splice) (u : News) → ((bs : List ℕ) → In bs ls → LineFits bs) → SpliceFits c → NewsFits u → AllFit (command_records (map packed ls) c u)
command_fit ls c u f s n = fit_append (block (map packed ls)) (commit c u ∷ []) (block_fit ls f) (λ r h. elim h [ inl e ↦ subst RecFits e (s, n) | inr z ↦ absurd z ])

-- what a new tape begins with
set_ups_fit : (us : List News) → ((u : News) → In u us → NewsFits u) → AllFit (map set_up us)
set_ups_fit [] f r h = absurd h
set_ups_fit (u ∷ us) f r (inl e) =
    subst RecFits e (record { from = omega arith; gone = omega arith; source_from = omega arith; source_to = omega arith }, f u (inl refl))
set_ups_fit (u ∷ us) f r (inr h) = set_ups_fit us (λ v k. f v (inr k)) r h

pub begin_fit : (g n : ℕ) (us : List News) → SmallNumber g → SmallNumber n → ((u : News) → In u us → NewsFits u) → AllFit (begin_records g n us)
begin_fit g n us a b f r (inl e) = subst RecFits e (a, b)
begin_fit g n us a b f r (inr h) = set_ups_fit us f r h
