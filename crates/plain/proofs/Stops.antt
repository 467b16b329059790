-- What a stop leaves of a tape, and that what was fastened stays. Assumes nothing.
use Rattle.std.proofs.Common.{◌≡◌, ℕ, zero, suc, ◌-◌, ◌<◌, eqb, List, [], ◌∷◌, ◌++◌, length, get_or, take, drop, sym, refl, ap, ◌∙◌, subst, append_assoc, append-nil, arith, length-append}
use lib.Seq.{take-append-add, drop-append-add}
use Rattle.plain.specs.Pattern.{pick}
use Rattle.plain.specs.Device.{Device, Page, Tape, tape, nth_record, longer, fastened, lesser, half, left}
use Rattle.plain.specs.Promise.{all_longer, FastenedStays}

-- of the loose records those that stay
abbrev pub surviving : List Page → ℕ → ℕ → List Page
surviving ys n h = take (lesser n (length ys)) ys ++ pick (eqb h 1) (half (drop (lesser n (length ys)) ys)) []

pub left_split : (xs ys : List Page) (n h : ℕ) → left (tape (xs ++ ys) (length ys)) n h ≡ tape (xs ++ surviving ys n h) 0
left_split xs ys n h =
    let k : ℕ = lesser n (length ys) in
    let q : length (xs ++ ys) - length ys ≡ length xs = simp length-append (omega arith) in
    rw (q, take-append-add xs ys k, drop-append-add xs ys k, append_assoc)

nth-append : (xs ys : List Page) (k : ℕ) → k < length xs → nth_record (xs ++ ys) k ≡ nth_record xs k
unfolding nth_record
nth-append [] ys k h = absurd (omega arith)
nth-append (x ∷ xs) ys zero h = refl
nth-append (x ∷ xs) ys (suc k) h = nth-append xs ys k (omega arith)

-- a tape that begins with these records, which are fast
record Fast (rs : List Page) (x : Tape) : Type 0 where
  more : List Page
  is : x ≡ tape (rs ++ more) (length more)

fast_left : (rs : List Page) (x : Tape) (n h k : ℕ) → Fast rs x → k < length rs → nth_record (left x n h).records k ≡ nth_record rs k
fast_left rs x n h k f l =
    ap (λ y. nth_record (left y n h).records k) f.is ∙ ap (λ y. nth_record y.records k) (left_split rs f.more n h) ∙ nth-append rs (surviving f.more n h) k l

fast_put : (rs : List Page) (x : Tape) (p : Page) → Fast rs x → Fast rs (tape (x.records ++ p ∷ []) (suc x.loose))
fast_put rs x p f = record {
  more = f.more ++ p ∷ [];
  is = ap (λ y. tape (y.records ++ p ∷ []) (suc y.loose)) f.is
      ∙ (let e : suc (length f.more) ≡ length (f.more ++ p ∷ []) = simp length-append (omega arith) in rw (append_assoc, e));
}

fast_all_first : (rs : List Page) (d : Device) (ps : List Page) → Fast rs d.first → Fast rs (all_longer d 0 ps).first
unfolding all_longer
fast_all_first rs d [] f = f
fast_all_first rs d (p ∷ ps) f = fast_all_first rs (longer d 0 p) ps (fast_put rs d.first p f)

fast_all_second : (rs : List Page) (d : Device) (ps : List Page) → Fast rs d.second → Fast rs (all_longer d 1 ps).second
unfolding all_longer
fast_all_second rs d [] f = f
fast_all_second rs d (p ∷ ps) f = fast_all_second rs (longer d 1 p) ps (fast_put rs d.second p f)

other_first : (d : Device) (ps : List Page) → (all_longer d 1 ps).first ≡ d.first
unfolding all_longer
other_first d [] = refl
other_first d (p ∷ ps) = other_first (longer d 1 p) ps

other-second : (d : Device) (ps : List Page) → (all_longer d 0 ps).second ≡ d.second
unfolding all_longer
other-second d [] = refl
other-second d (p ∷ ps) = other-second (longer d 0 p) ps

fast_now : (rs : List Page) → Fast rs (tape rs 0)
fast_now rs = record { more = []; is = rw append-nil }

pub fastened_stays : FastenedStays
unfolding FastenedStays
fastened_stays d ps qs cs zero k s l =
    let rs : List Page = d.first.records in
    let d₁ : Device = all_longer (fastened d 0) 0 ps in
    let f : Fast rs (all_longer d₁ 1 qs).first = subst (Fast rs) (sym (other_first d₁ qs)) (fast_all_first rs (fastened d 0) ps (fast_now rs)) in
    (fast_left rs (all_longer d₁ 1 qs).first (get_or cs 0 0) (get_or cs 1 0) k f l, fast_left rs (tape rs 0) (get_or cs 0 0) (get_or cs 1 0) k (fast_now rs) l)
fastened_stays d ps qs cs (suc zero) k s l =
    let rs : List Page = d.second.records in
    let d₁ : Device = all_longer (fastened d 1) 1 ps in
    let f : Fast rs (all_longer d₁ 0 qs).second = subst (Fast rs) (sym (other-second d₁ qs)) (fast_all_second rs (fastened d 1) ps (fast_now rs)) in
    (fast_left rs (all_longer d₁ 0 qs).second (get_or cs 2 0) (get_or cs 3 0) k f l, fast_left rs (tape rs 0) (get_or cs 2 0) (get_or cs 3 0) k (fast_now rs) l)
fastened_stays d ps qs cs (suc (suc t)) k s l = absurd (omega arith)
