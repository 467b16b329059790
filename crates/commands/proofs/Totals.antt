-- The weight of what is kept after a command, from the weight before. Assumes nothing.
use Rattle.std.proofs.Common.{◌≡◌, ℕ, suc, ◌+◌, ◌≤◌, true, false, ◌⊎◌, List, [], ◌∷◌, ◌++◌, length, get_or, take, drop, refl, ap, ◌∙◌, inl, inr, arith}
use Rattle.std.proofs.lemmas.Bool.{lt-ltb, le-ltb, cases_lt, cases_Bool}
use Rattle.plain.specs.Pattern.{added_up, same}
use Rattle.plain.proofs.Basics.{added_append}
use Rattle.journal.specs.Small.{Entry, entry, pushed}
use Rattle.commands.specs.Kept.{sum, stand_size}
use Rattle.commands.specs.Plan.{Slot, look_up}
use Rattle.commands.specs.Smalls.{news_by, entry_size, oldest, file_total, TotalsStand}
use Rattle.commands.proofs.Files.{same_true}

-- THE RING
sum_first : (r : List ℕ) → get_or r 0 0 + sum (drop 1 r) ≡ sum r
sum_first [] = refl
sum_first (n ∷ r) = refl

sum-pushed : (r : List ℕ) (n : ℕ) → sum (pushed r n) + oldest r ≡ sum r + n
sum-pushed r n =
    elim (cases_lt (length r) 64) [
      | inl l ↦ rw (lt-ltb (length r) 64 l) (let e = added_append (λ m. m) r (n ∷ []) in omega arith)
      | inr l ↦ rw (le-ltb (length r) 64 l) (let e = added_append (λ m. m) (drop 1 r) (n ∷ []) in let f = sum_first r in omega arith)
    ]

oldest_less : (r : List ℕ) → oldest r ≤ sum r
oldest_less r =
    elim (cases_lt (length r) 64) [
      | inl l ↦ rw (lt-ltb (length r) 64 l) (omega arith)
      | inr l ↦ rw (le-ltb (length r) 64 l) (let f = sum_first r in omega arith)
    ]

-- THE TABLE OF FILES
record EntryThere (n : List ℕ) (es : List Entry) (x : Slot) (at : ℕ) : Type 0 where
  P : List Entry
  e : Entry
  R : List Entry
  split : es ≡ P ++ (e ∷ R)
  named : same e.name n ≡ true
  found : x.found ≡ true
  place : x.place ≡ at + length P
  size : x.size ≡ e.size

record EntryMissing (es : List Entry) (x : Slot) (at : ℕ) : Type 0 where
  found : x.found ≡ false
  place : x.place ≡ at + length es
  size : x.size ≡ 0

entry-there-more : (n : List ℕ) (e : Entry) (es : List Entry) (at from : ℕ) → same e.name n ≡ false →
    EntryThere n es (look_up n (suc at) (from + e.lines) es) (suc at) → EntryThere n (e ∷ es) (look_up n at from (e ∷ es)) at
unfolding look_up
entry-there-more n e es at from s t =
    let p = t.place in
    record { P = e ∷ t.P; e = t.e; R = t.R; split = ap (λ z. e ∷ z) t.split; named = t.named; found = rw s t.found; place = rw s (t.place ∙ (omega arith)); size = rw s t.size }

entry_missing_more : (n : List ℕ) (e : Entry) (es : List Entry) (at from : ℕ) → same e.name n ≡ false →
    EntryMissing es (look_up n (suc at) (from + e.lines) es) (suc at) → EntryMissing (e ∷ es) (look_up n at from (e ∷ es)) at
unfolding look_up
entry_missing_more n e es at from s t = record { found = rw s t.found; place = rw s (t.place ∙ (omega arith)); size = rw s t.size }

entry_here : (n : List ℕ) (e : Entry) (es : List Entry) (at from : ℕ) → same e.name n ≡ true → EntryThere n (e ∷ es) (look_up n at from (e ∷ es)) at
unfolding look_up
entry_here n e es at from s = record { P = []; e = e; R = es; split = refl; named = s; found = rw s; place = rw s (omega arith); size = rw s }

entry_looked : (n : List ℕ) (es : List Entry) (at from : ℕ) → EntryThere n es (look_up n at from es) at ⊎ EntryMissing es (look_up n at from es) at
unfolding look_up
entry_looked n [] at from = inr (record { found = refl; place = omega arith; size = refl })
entry_looked n (e ∷ es) at from =
    elim (cases_Bool (same e.name n)) [
      | inl s ↦ inl (entry_here n e es at from s)
      | inr s ↦ elim (entry_looked n es (suc at) (from + e.lines)) [ inl t ↦ inl (entry-there-more n e es at from s t) | inr t ↦ inr (entry_missing_more n e es at from s t) ]
    ]

abbrev entry_at : ℕ → Entry → List Entry → List Entry
entry_at i e es = take i es ++ (e ∷ drop (suc i) es)

entry_place : (P : List Entry) (e g : Entry) (R : List Entry) → entry_at (length P) g (P ++ (e ∷ R)) ≡ P ++ (g ∷ R)
entry_place [] e g R = refl
entry_place (p ∷ P) e g R = ap (λ z. p ∷ z) (entry_place P e g R)

entry-end : (es : List Entry) (g : Entry) → entry_at (length es) g es ≡ es ++ (g ∷ [])
entry-end [] g = refl
entry-end (e ∷ es) g = ap (λ z. e ∷ z) (entry-end es g)

entry_total : (w : ℕ) (n : List ℕ) (es : List Entry) (x : Slot) (lines came : ℕ) → (EntryThere n es x 0 ⊎ EntryMissing es x 0) →
    w + added_up entry_size (entry_at x.place (entry n lines came) es) ≡ file_total (w + added_up entry_size es) x.found x.size came (length n)
entry_total w n es x lines came (inl t) =
    let g = entry n lines came in
    let at : x.place ≡ length t.P = t.place ∙ (omega arith) in
    let new : entry_at x.place g es ≡ t.P ++ (g ∷ t.R) = (let s = t.split in λ i. entry_at (at i) g (s i)) ∙ entry_place t.P t.e g t.R in
    let a : added_up entry_size (entry_at x.place g es) ≡ added_up entry_size t.P + (entry_size g + added_up entry_size t.R) = ap (added_up entry_size) new ∙ added_append entry_size t.P (g ∷ t.R) in
    let b : added_up entry_size es ≡ added_up entry_size t.P + (entry_size t.e + added_up entry_size t.R) = ap (added_up entry_size) t.split ∙ added_append entry_size t.P (t.e ∷ t.R) in
    let l : length t.e.name ≡ length n = ap length (same_true t.e.name n t.named) in
    let sz = t.size in
    rw t.found (omega (arith, a, b, l))
entry_total w n es x lines came (inr t) =
    let g = entry n lines came in
    let at : x.place ≡ length es = t.place ∙ (omega arith) in
    let new : entry_at x.place g es ≡ es ++ (g ∷ []) = ap (λ i. entry_at i g es) at ∙ entry-end es g in
    let a : added_up entry_size (entry_at x.place g es) ≡ added_up entry_size es + (entry_size g + 0) = ap (added_up entry_size) new ∙ added_append entry_size es (g ∷ []) in
    let sz = t.size in
    rw t.found (omega (arith, a))

pub totals_stand : TotalsStand
unfolding TotalsStand news_by
totals_stand s p went came n = (
  (λ h.
      let a = sum-pushed s.ring (stand_size s.count p.after p.upto went p.came) in
      let b = oldest_less s.ring in
      omega (arith, a, b)),
  entry_total (s.weight + sum s.ring) n s.files (look_up n 0 0 s.files) p.came came (entry_looked n s.files 0 0),
)
