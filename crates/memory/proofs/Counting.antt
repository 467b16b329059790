-- Sums over the lines of a text, one line after the other. Assumes nothing.
use Rattle.std.proofs.Common.{◌≡◌, ℕ, suc, ◌+◌, ◌-◌, ◌*◌, ◌<◌, ◌≤◌, Bool, true, false, ltb, List, length, take, drop, sym, refl, ap, ◌∙◌, subst, mul-add, arith}
use Rattle.std.proofs.lemmas.List.{length-take, length-drop}
use Rattle.std.proofs.lemmas.Bool.{ltb-true}
use Rattle.plain.specs.Pattern.{pick, added_up}
use Rattle.memory.specs.declared.job.Lines.{Lines}
use Rattle.memory.specs.Abstract.{job_lines, left_of, line_end, some_lines}
use Rattle.memory.proofs.Worded.{Ends, line-ends, left_first, left_start}

-- what is added up so far, of lines that each add so much by their length, and what is left; each byte adds at most `most`
pub record Summed (f : ℕ → ℕ) (most : ℕ) (ls : Lines) (t : List ℕ) (sum at : ℕ) (more : Bool) : Type 0 where
  pub total : sum + added_up (λ l. f (length l)) (left_of more ls (drop at t)) ≡ added_up (λ l. f (length l)) (job_lines ls t)
  pub there : more ≡ true → at ≤ length t
  pub within : at ≤ suc (length t)
  pub few : sum ≤ most * at

module _ (f : ℕ → ℕ) (most : ℕ) (ls : Lines) (t : List ℕ) where
  pub summed_none : Summed f most ls t 0 0 (some_lines ls)
  summed_none = record {
    total = ap (λ n. 0 + n) (ap (added_up (λ l. f (length l))) (left_start ls t)) ∙ omega arith;
    there = λ e. omega arith;
    within = omega arith;
    few = omega arith;
  }

  pub summed-end : (sum at : ℕ) → Summed f most ls t sum at false → sum ≡ added_up (λ l. f (length l)) (job_lines ls t)
  summed-end sum at s = let e = s.total in omega arith

  module _ (sum at : ℕ) (s : Summed f most ls t sum at true) where
    ends : Ends ls at t
    ends = line-ends ls at t (s.there refl)

    one : length (take (line_end ls at t - at) (drop at t)) ≡ line_end ls at t - at
    one = let b = ends.behind in let w = ends.within in let l = length-drop at t in length-take (line_end ls at t - at) (drop at t) ∙ omega arith

    pub summed-more : (bound : (n : ℕ) → f n ≤ most * (n + 1)) → (end v : ℕ) (more : Bool) → end ≡ line_end ls at t → v ≡ f (end - at) → more ≡ ltb end (length t)
        → Summed f most ls t (sum + v) (end + 1) more
    summed-more bound end v more e ev em =
        let b = ends.behind in let w = ends.within in
        let first = ap (added_up (λ l. f (length l))) (left_first ls at t (s.there refl)) in
        let here : f (length (take (line_end ls at t - at) (drop at t))) ≡ v = ap f (one ∙ ap (λ n. n - at) (sym e)) ∙ sym ev in
        let rest : added_up (λ l. f (length l)) (left_of (ltb (line_end ls at t) (length t)) ls (drop (line_end ls at t + 1) t))
        ≡ added_up (λ l. f (length l)) (left_of more ls (drop (end + 1) t)) =
        ap (λ n. added_up (λ l. f (length l)) (left_of (ltb n (length t)) ls (drop (n + 1) t))) (sym e)
        ∙ ap (λ c. added_up (λ l. f (length l)) (left_of c ls (drop (end + 1) t))) (sym em) in
        record {
          total = omega (arith, s.total, first, here, rest);
          there = λ q. omega (arith, ltb-true end (length t) (sym em ∙ q));
          within = omega arith;
          few = let q = bound (end - at) in let d = mul-add most at (end - at + 1) in let j : at + (end - at + 1) ≡ end + 1 = omega arith in
              let k = ap (λ n. most * n) j in omega (arith, s.few);
        }

  -- as a loop has it, with the text's length and its test
  pub summed-on : (bound : (n : ℕ) → f n ≤ most * (n + 1)) → (len sum at end v : ℕ) (more : Bool) → length t ≡ len → more ≡ true → Summed f most ls t sum at more
      → end ≡ line_end ls at t → v ≡ f (end - at) → Summed f most ls t (sum + v) (end + 1) (ltb end len)
  summed-on bound len sum at end v more h e s q qv =
      summed-more sum at (subst (Summed f most ls t sum at) e s) bound end v (ltb end len) q qv (ap (ltb end) (sym h))

  pub summed-place : (len sum at : ℕ) (more : Bool) → length t ≡ len → more ≡ true → Summed f most ls t sum at more → at ≤ len
  summed-place len sum at more h e s = omega (arith, s.there e)

  pub summed_all : (sum at : ℕ) (more : Bool) → more ≡ false → Summed f most ls t sum at more → sum ≡ added_up (λ l. f (length l)) (job_lines ls t)
  summed_all sum at more e s = summed-end sum at (subst (Summed f most ls t sum at) e s)

pub ends_later : (len at end : ℕ) (more : Bool) → more ≡ true → at ≤ end → end ≤ len → pick (ltb end len) (len + 1 - (end + 1)) 0 < pick more (len + 1 - at) 0
ends_later len at end more e h g = subst (λ b. pick (ltb end len) (len + 1 - (end + 1)) 0 < pick b (len + 1 - at) 0) (sym e) (by (ltb end len))
  where
    by : (b : Bool) → pick b (len + 1 - (end + 1)) 0 < len + 1 - at
    by true = omega arith
    by false = omega arith
