-- The records that set the small state up, one by one. Assumes nothing.
use Rattle.std.proofs.Common.{◌≡◌, ℕ, zero, suc, ◌+◌, ◌-◌, ◌*◌, ◌<◌, ◌≤◌, List, [], ◌∷◌, ◌++◌, map, length, get_or, take, drop, refl, ap, ◌∙◌, arith}
use Rattle.std.proofs.lemmas.List.{length-map, length-take-le, get_or-append_right, get_or-take}
use Rattle.journal.specs.Small.{Entry, News, news, nothing_else, push, slot, pushes, slots, set_up_of}
use Rattle.engine.specs.Machine.{no_news}
use Rattle.memory.specs.declared.kept.Kept.{Kept}
use Rattle.memory.specs.Numbers.{capped}
use Rattle.memory.specs.Registers.{part}
use Rattle.memory.specs.Sections.{ring_in, files_in}
use Rattle.memory.specs.Abstract.{ring_of, file_at, files_of, small_of}
use Rattle.memory.proofs.Filing.{length-files, file_there}
use Rattle.memory.proofs.Parted.{length_part}

length-pushes : (ws : List ℕ) → length (pushes ws) ≡ length ws
unfolding pushes
length-pushes [] = refl
length-pushes (w ∷ ws) = ap suc (length-pushes ws)

length-slots : (j : ℕ) (es : List Entry) → length (slots j es) ≡ length es
unfolding slots
length-slots j [] = refl
length-slots j (e ∷ es) = ap suc (length-slots (suc j) es)

-- THE RING
push-there : (ws : List ℕ) (us : List News) (i : ℕ) → i < length ws → get_or (pushes ws ++ us) i no_news ≡ news 0 0 0 (push (get_or ws i 0))
unfolding pushes
push-there [] us i h = absurd (omega arith)
push-there (w ∷ ws) us zero h = refl
push-there (w ∷ ws) us (suc i) h = push-there ws us i (omega arith)

ring_long : (n : ℕ) (m : List ℕ) → length m ≡ 262144 → n ≤ 64 → length (ring_of n m) ≡ n
unfolding ring_of
ring_long n m l h = length-map _ _ ∙ length-take-le n (ring_in m) (let e = length_part 64 64 m (omega arith) in omega arith)

ring-there : (n i : ℕ) (m : List ℕ) → i < n → get_or (ring_of n m) i 0 ≡ capped (get_or (ring_in m) i 0)
unfolding ring_of
ring-there n i m h = read (take n (ring_in m)) i ∙ ap capped (get_or-take n (ring_in m) i 0 h)
  where
    read : (xs : List ℕ) (i : ℕ) → get_or (map capped xs) i 0 ≡ capped (get_or xs i 0)
    read [] i = refl
    read (x ∷ xs) zero = refl
    read (x ∷ xs) (suc i) = read xs i

-- THE FILES
slot-there : (j : ℕ) (es : List Entry) (us : List News) (i : ℕ) (e : Entry) (fs : List Entry) → drop i es ≡ e ∷ fs → get_or (slots j es ++ us) i no_news ≡ news 0 0 0 (slot (j + i) e)
unfolding slots
slot-there j [] us zero e fs h = absurd (let l : 0 ≡ suc (length fs) = ap length h in omega arith)
slot-there j [] us (suc i) e fs h = absurd (let l : 0 ≡ suc (length fs) = ap length h in omega arith)
slot-there j (x ∷ es) us zero e fs h =
    let k : j ≡ j + 0 = omega arith in
    let x-is : x ≡ e = ap (λ zs. get_or zs 0 e) h in
    λ i. news 0 0 0 (slot (k i) (x-is i))
slot-there j (x ∷ es) us (suc i) e fs h = slot-there (suc j) es us i e fs h ∙ ap (λ k. news 0 0 0 (slot k e)) (omega arith)

module _ (k : Kept) (m : List ℕ) (i : ℕ) (l : length m ≡ 262144) (ring : k.ring ≤ 64) where
  abbrev text : News
  text = news k.count k.current k.weight nothing_else

  pub set_up-push : i < k.ring → get_or (set_up_of (small_of k m)) i no_news ≡ news 0 0 0 (push (capped (get_or (ring_in m) i 0)))
  set_up-push h =
      push-there (ring_of k.ring m) (slots 0 (files_of k.files m) ++ text ∷ []) i (let e = ring_long k.ring m l ring in omega arith)
      ∙ ap (λ w. news 0 0 0 (push w)) (ring-there k.ring i m h)

  past_ring : k.ring ≤ i → get_or (set_up_of (small_of k m)) i no_news ≡ get_or (slots 0 (files_of k.files m) ++ text ∷ []) (i - k.ring) no_news
  past_ring h =
      get_or-append_right (pushes (ring_of k.ring m)) (slots 0 (files_of k.files m) ++ text ∷ []) k.ring i no_news
      (length-pushes (ring_of k.ring m) ∙ ring_long k.ring m l ring) h

  pub set_up-slot : k.ring ≤ i → i - k.ring < k.files
      → get_or (set_up_of (small_of k m)) i no_news ≡ news 0 0 0 (slot (i - k.ring) (file_at (part (67 * (i - k.ring)) 67 (files_in m))))
  set_up-slot h g =
      past_ring h
      ∙ slot-there 0 (files_of k.files m) (text ∷ []) (i - k.ring) _ _ (file_there (i - k.ring) k.files (files_in m) g)
      ∙ ap (λ n. news 0 0 0 (slot n (file_at (part (67 * (i - k.ring)) 67 (files_in m))))) (omega arith)

  pub set_up_last : k.ring ≤ i → k.files ≤ i - k.ring → i ≤ k.ring + k.files → get_or (set_up_of (small_of k m)) i no_news ≡ text
  set_up_last h g f =
      let z : i - k.ring - k.files ≡ 0 = omega arith in
      past_ring h
      ∙ get_or-append_right (slots 0 (files_of k.files m)) (text ∷ []) k.files (i - k.ring) no_news
      (length-slots 0 (files_of k.files m) ∙ length-files k.files (files_in m)) g
      ∙ ap (λ n. get_or (text ∷ []) n no_news) z
