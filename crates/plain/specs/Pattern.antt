-- Patterns: read from bytes, matched, replaced. Assumes nothing: these are definitions.
use Rattle.std.specs.Prelude.{ℕ, zero, suc, ◌+◌, ◌*◌, ◌/◌, ◌%◌, Bool, true, false, not, ◌&&◌, ltb, List, [], ◌∷◌, ◌++◌, length, take, drop, ◌==◌, nat_eq, nat_le, nat_lt, slice_index, slice_range}

abbrev pub pick : {A : Type 0} → Bool → A → A → A
pick true a b = a
pick false a b = b

abbrev pub or : Bool → Bool → Bool
or true b = true
or false b = b

abbrev pub every : {A : Type 0} → (A → Bool) → List A → Bool
every p [] = true
every p (x ∷ xs) = p x && every p xs

abbrev pub any : {A : Type 0} → (A → Bool) → List A → Bool
any p [] = false
any p (x ∷ xs) = or (p x) (any p xs)

abbrev pub each : {A B : Type 0} → (A → B) → List A → List B
each f [] = []
each f (x ∷ xs) = f x ∷ each f xs

abbrev pub those : {A : Type 0} → (A → Bool) → List A → List A
those p [] = []
those p (x ∷ xs) = pick (p x) (x ∷ those p xs) (those p xs)

abbrev pub flat : {A B : Type 0} → (A → List B) → List A → List B
flat f [] = []
flat f (x ∷ xs) = f x ++ flat f xs

abbrev pub added_up : {A : Type 0} → (A → ℕ) → List A → ℕ
added_up f [] = 0
added_up f (x ∷ xs) = f x + added_up f xs

abbrev pub none_of : {A : Type 0} → List A → Bool
none_of [] = true
none_of (x ∷ xs) = false

unfoldable pub same : List ℕ → List ℕ → Bool
same [] [] = true
same [] (y ∷ ys) = false
same (x ∷ xs) [] = false
same (x ∷ xs) (y ∷ ys) = x == y && same xs ys

unfoldable pub earlier : List ℕ → List ℕ → Bool
earlier [] [] = false
earlier [] (y ∷ ys) = true
earlier (x ∷ xs) [] = false
earlier (x ∷ xs) (y ∷ ys) = pick (nat_lt x y) true (x == y && earlier xs ys)

-- eight bytes, the highest first; and bytes with their count before them
unfoldable pub in_bytes : ℕ → ℕ → List ℕ → List ℕ
in_bytes zero n bs = bs
in_bytes (suc k) n bs = in_bytes k (n / 256) (n % 256 ∷ bs)

abbrev pub eight : ℕ → List ℕ
eight n = in_bytes 8 n []

abbrev pub with_length : List ℕ → List ℕ
with_length bs = eight (length bs) ++ bs

abbrev pub all_bytes : List ℕ → Bool
all_bytes bs = every (λ b. ltb b 256) bs

abbrev pub between : ℕ → ℕ → ℕ → Bool
between a b c = nat_le a c && nat_le c b

-- patterns: a byte out of some spans, one after the other, either, none or more
pub record Span : Type 0 where
  pub low : ℕ
  pub high : ℕ

pub data Pattern : Type 0 where
  nothing : Pattern
  byte : List Span → Bool → Pattern  -- in one of these spans, or in none
  both : Pattern → Pattern → Pattern
  either : Pattern → Pattern → Pattern
  some : Pattern → Pattern
  at_start : Pattern
  at_end : Pattern

abbrev pub in_spans : List Span → ℕ → Bool
in_spans ss c = any (λ s. between s.low s.high c) ss

abbrev pub has : List ℕ → ℕ → Bool
has ks k = any (nat_eq k) ks

unfoldable pub with_all : List ℕ → List ℕ → List ℕ
with_all [] ks = ks
with_all (j ∷ js) ks = with_all js (pick (has ks j) ks (ks ++ j ∷ []))

abbrev pub byte_at : List ℕ → ℕ → List ℕ
byte_at bs i = take 1 (drop i bs)

abbrev pub one_byte : List Span → Bool → ℕ → List ℕ → List ℕ
one_byte ss v i [] = []
one_byte ss v i (c ∷ cs) = pick (pick v (in_spans ss c) (not (in_spans ss c))) (suc i ∷ []) []

-- where a match that begins at a place may end
unfoldable pub again : (ℕ → List ℕ) → ℕ → List ℕ → List ℕ
again f zero ks = ks
again f (suc n) ks = again f n (with_all (flat f ks) ks)

unfoldable pub ends : List ℕ → Pattern → ℕ → List ℕ
ends bs nothing i = i ∷ []
ends bs (byte ss v) i = one_byte ss v i (byte_at bs i)
ends bs (both p q) i = with_all (flat (λ j. ends bs q j) (ends bs p i)) []
ends bs (either p q) i = with_all (ends bs q i) (with_all (ends bs p i) [])
ends bs (some p) i = again (λ j. ends bs p j) (length bs) (i ∷ [])
ends bs at_start i = pick (i == 0) (i ∷ []) []
ends bs at_end i = pick (i == length bs) (i ∷ []) []

unfoldable pub greatest : ℕ → List ℕ → ℕ
greatest m [] = m
greatest m (k ∷ ks) = greatest (pick (nat_lt m k) k m) ks

-- the first place at which a match begins, and its longest end: none, or two numbers
unfoldable pub first_match : List ℕ → Pattern → ℕ → ℕ → List ℕ
first_match bs p i zero = []
first_match bs p i (suc n) = pick (none_of (ends bs p i)) (first_match bs p (suc i) n) (i ∷ greatest 0 (ends bs p i) ∷ [])

abbrev pub matches : List ℕ → Pattern → Bool
matches bs p = not (none_of (first_match bs p 0 (suc (length bs))))

abbrev pub next_is : ℕ → List ℕ → Bool
next_is d [] = false
next_is d (c ∷ cs) = c == d

abbrev pub less_one : List ℕ → List ℕ
less_one [] = []
less_one (c ∷ cs) = cs

-- patterns, read from bytes
pub data Got (T A : Type 0) : Type 0 where
  none : Got T A
  got : A → List T → Got T A

abbrev pub with_got : {T A B : Type 0} → Got T A → (A → List T → Got T B) → Got T B
with_got none f = none
with_got (got a ts) f = f a ts

abbrev pub one_of : ℕ → Pattern
one_of c = byte (record { low = c; high = c } ∷ []) true

abbrev pub any_byte : Pattern
any_byte = byte [] false

-- spans in brackets, up to the closing one; a closing one that stands first is itself
unfoldable pub spans : ℕ → List Span → Bool → List ℕ → Got ℕ (List Span)
spans zero ss first cs = none
spans (suc n) ss first [] = none
spans (suc n) ss first (c ∷ cs) =
    pick (c == 93 && pick first false true) (got ss cs)
    (pick (next_is 45 cs && pick (next_is 93 (less_one cs)) false (pick (none_of (less_one cs)) false true))
    (spans n (ss ++ record { low = c; high = slice_index (less_one cs) 0 } ∷ []) false (less_one (less_one cs)))
    (spans n (ss ++ record { low = c; high = c } ∷ []) false cs))

abbrev pub repeated : ℕ → Pattern → Pattern
repeated c p = pick (c == 42) (some p) (pick (c == 43) (both p (some p)) (either p nothing))

unfoldable mutual
  pub pattern : ℕ → List ℕ → Got ℕ Pattern
  pattern zero cs = none
  pattern (suc n) cs = with_got (row n nothing cs) (λ p ds. pick (next_is 124 ds) (with_got (pattern n (less_one ds)) (λ q es. got (either p q) es)) (got p ds))

  pub row : ℕ → Pattern → List ℕ → Got ℕ Pattern
  row zero p cs = none
  row (suc n) p [] = got p []
  row (suc n) p (c ∷ cs) =
      pick (or (c == 124) (c == 41)) (got p (c ∷ cs)) (with_got (atom n (c ∷ cs)) (λ q ds. with_got (marks n q ds) (λ r es. row n (both p r) es)))

  pub marks : ℕ → Pattern → List ℕ → Got ℕ Pattern
  marks zero p cs = none
  marks (suc n) p [] = got p []
  marks (suc n) p (c ∷ cs) = pick (or (c == 42) (or (c == 43) (c == 63))) (marks n (repeated c p) cs) (got p (c ∷ cs))

  pub atom : ℕ → List ℕ → Got ℕ Pattern
  atom zero cs = none
  atom (suc n) [] = none
  atom (suc n) (c ∷ cs) =
      pick (or (c == 42) (or (c == 43) (c == 63))) none
      (pick (c == 40) (with_got (pattern n cs) (λ p ds. pick (next_is 41 ds) (got p (less_one ds)) none))
      (pick (c == 46) (got any_byte cs) (pick (c == 94) (got at_start cs) (pick (c == 36) (got at_end cs)
      (pick (c == 92) (pick (none_of cs) none (got (one_of (slice_index cs 0)) (less_one cs)))
      (pick (c == 91) (pick (next_is 94 cs) (with_got (spans n [] true (less_one cs)) (λ ss ds. got (byte ss false) ds)) (with_got (spans n [] true cs) (λ ss ds. got (byte ss true) ds)))
      (got (one_of c) cs)))))))

unfoldable pub whole_pattern : Got ℕ Pattern → List Pattern
whole_pattern none = []
whole_pattern (got p []) = p ∷ []
whole_pattern (got p (c ∷ cs)) = []

abbrev pub pattern_of : List ℕ → List Pattern
pattern_of bs = pick (nat_le (length bs) 255) (whole_pattern (pattern (4 * length bs + 4) bs)) []

-- bytes put in place of a match: & stands for the match, a backslash before a byte for that byte
unfoldable pub filled : List ℕ → List ℕ → List ℕ
filled m [] = []
filled m (c ∷ []) = pick (c == 38) m (c ∷ [])
filled m (c ∷ d ∷ cs) = pick (c == 92) (d ∷ filled m cs) (pick (c == 38) (m ++ filled m (d ∷ cs)) (c ∷ filled m (d ∷ cs)))

-- matches that don't overlap, from the left, the longest each: the nth of them replaced, or (0) all; an empty one right after a match is passed over
pub record Put : Type 0 where
  pub bytes : List ℕ
  pub times : ℕ

abbrev pub one_on : List ℕ → ℕ → Put → Put
one_on bs i s = pick (nat_lt i (length bs)) (record { bytes = byte_at bs i ++ s.bytes; times = s.times }) (record { bytes = []; times = 0 })

abbrev pub chosen : ℕ → ℕ → Bool
chosen which k = or (which == 0) (which == suc k)

-- a match from i to j, the kth before it counted: its bytes or what is put there, and how the rest goes on
abbrev pub with_put : ℕ → ℕ → List ℕ → List ℕ → Put → Put
with_put which k m rep s = pick (chosen which k) (record { bytes = filled m rep ++ s.bytes; times = suc s.times }) (record { bytes = m ++ s.bytes; times = s.times })

abbrev pub part : List ℕ → ℕ → ℕ → List ℕ
part bs i j = slice_range bs i j

unfoldable pub put_from : ℕ → ℕ → List ℕ → Pattern → List ℕ → ℕ → ℕ → Bool → Put
put_from zero which bs p rep i k just = record { bytes = drop i bs; times = 0 }
put_from (suc n) which bs p rep i k just =
    pick (none_of (ends bs p i)) (one_on bs i (put_from n which bs p rep (suc i) k false))
    (pick (greatest 0 (ends bs p i) == i)
    (pick just (one_on bs i (put_from n which bs p rep (suc i) k false))
    (with_put which k [] rep (one_on bs i (put_from n which bs p rep (suc i) (suc k) false))))
    (with_put which k (part bs i (greatest 0 (ends bs p i))) rep (put_from n which bs p rep (greatest 0 (ends bs p i)) (suc k) true)))

abbrev pub replaced : ℕ → Pattern → List ℕ → List ℕ → Put
replaced which p rep bs = put_from (2 * length bs + 2) which bs p rep 0 0 false
