-- What is checked when a record is read back keeps what was written, and what a power cut leaves is broken. Assumes nothing.
use Rattle.std.proofs.Common.{◌≡◌, ℕ, Bool, true, false, eqb, List, [], length, refl, ap, sym, ◌∙◌}
use denote.Bor.{Bor}
use Rattle.std.proofs.lemmas.Bool.{and_parts}
use Rattle.plain.specs.Pattern.{pick, all_bytes}
use Rattle.plain.specs.Device.{Page}
use Rattle.journal.specs.Log.{Splice, Rec, head, line, copy, commit, broken, halved}
use Rattle.journal.specs.Small.{News}
use Rattle.records.specs.Pages.{beside, page_of, record_of, Bytes, RecFits}
use Rattle.records.specs.Checked.{checked, checked_record_of}
use Rattle.records.specs.Values.{rec_of}
use Rattle.journal.specs.declared.commit.Splice as code
use Rattle.journal.specs.declared.commit.Numbers.{Numbers}
use Rattle.records.specs.declared.Record.{Record}
use Rattle.records.specs.declared.Record.TheVariants.{Head, Line, Copy, Commit, Broken}
use Rattle.records.proofs.Pages.{page-back, page-whole, torn-broken, none_broken}

-- the record of a page of bytes
pub checked_bytes : (p : Page) → Bytes p → checked_record_of p ≡ checked (record_of p)
unfolding checked_record_of
checked_bytes p f = ap (λ b. pick b (checked (record_of p)) broken) f

picked_broken : (b : Bool) (r : Rec News) → r ≡ broken → pick b (checked r) broken ≡ broken
picked_broken true r e = ap checked e
picked_broken false r e = refl

pub checked_broken : (p : Page) → record_of p ≡ broken → checked_record_of p ≡ broken
unfolding checked_record_of
checked_broken p e = picked_broken (all_bytes p) (record_of p) e

pub checked_torn : (p : Page) → checked_record_of (halved p) ≡ broken
checked_torn p = checked_broken (halved p) (torn-broken p)

pub checked_none : checked_record_of [] ≡ broken
checked_none = checked_broken [] none_broken

-- a commit copies nothing that it takes out
abbrev pub Beside : Rec News → Type 0
Beside (head g n) = Unit {0}
Beside (line j b) = Unit {0}
Beside (copy i j b) = Unit {0}
Beside (commit c u) = beside c ≡ true
Beside broken = Unit {0}

checked_commit : (c : Splice) (u : News) (b : Bool) → beside c ≡ b → checked (commit c u) ≡ pick b (commit c u) broken
checked_commit c u b e = ap (λ q. pick q (commit c u) broken) e

checked_same : (r : Rec News) → Beside r → checked r ≡ r
checked_same (head g n) b = refl
checked_same (line j x) b = refl
checked_same (copy i j x) b = refl
checked_same (commit c u) b = checked_commit c u true b
checked_same broken b = refl

pub checked_back : (r : Rec News) → RecFits r → Beside r → checked_record_of (page_of r) ≡ r
checked_back r f b =
    checked_bytes (page_of r) (and_parts (eqb (length (page_of r)) 512) (all_bytes (page_of r)) (page-whole r f)).1
    ∙ ap checked (page-back r f) ∙ checked_same r b

-- WHAT THE CODE DECODED, checked
pub read_checked : (p : Page) → Bytes p → (x : Rec News) → x ≡ record_of p → checked x ≡ checked_record_of p
read_checked p f x e = ap checked e ∙ sym (checked_bytes p f)

pub commit_kept : (x : Rec News) (c : Splice) (u : News) → x ≡ commit c u → beside c ≡ true → x ≡ checked x
commit_kept x c u e b = e ∙ sym (ap checked e ∙ checked_commit c u true b)

pub commit_broken : (x : Rec News) (c : Splice) (u : News) → x ≡ commit c u → beside c ≡ false → broken ≡ checked x
commit_broken x c u e b = sym (ap checked e ∙ checked_commit c u false b)

pub others_kept : (r : Record) → ((s : code.Splice ℕ) (n : Numbers ℕ) (b : Bor (List ℕ)) → r ≡ Commit s n b → ⊥) → rec_of r ≡ checked (rec_of r)
others_kept (Head g n) h = refl
others_kept (Line b) h = refl
others_kept (Copy i b) h = refl
others_kept (Commit s n b) h = absurd (h s n b refl)
others_kept Broken h = refl
