-- The records that begin a tape set the small state up: the stand weights, oldest first, the files that there are, the text's numbers. Assumes nothing.
use Rattle.std.proofs.Common.{◌≡◌, ℕ, zero, suc, ◌+◌, ◌≤◌, List, [], ◌∷◌, ◌++◌, length, take, drop, sym, refl, ap, ◌∙◌, subst, inl, inr, append_assoc, append-nil, arith, length-append, take_all}
use lib.ListN.{length-map}
use Rattle.std.proofs.lemmas.List.{drop_all}
use Rattle.std.proofs.lemmas.Bool.{lt-ltb}
use Rattle.plain.proofs.Basics.{In, in_cases}
use Rattle.journal.specs.Log.{settled, begin_records}
use Rattle.journal.specs.Small.{Entry, Small, small, no_state, nothing_else, push, slot, News, news, pushed, updated, pushes, slots, set_up_of}

settled-append : {K S : Type 0} (upd : K → S → S) (s : S) (us vs : List K) → settled upd s (us ++ vs) ≡ settled upd (settled upd s us) vs
unfolding settled
settled-append upd s [] vs = refl
settled-append upd s (u ∷ us) vs = settled-append upd (upd u s) us vs

settled-pushes : (r ws : List ℕ) (fs : List Entry) → length r + length ws ≤ 64 → settled updated (small 0 0 0 r fs) (pushes ws) ≡ small 0 0 0 (r ++ ws) fs
unfolding settled pushes
settled-pushes r [] fs h = ap (λ z. small 0 0 0 z fs) (sym (append-nil r))
settled-pushes r (w ∷ ws) fs h =
    let e : pushed r w ≡ r ++ w ∷ [] = rw (lt-ltb (length r) 64 (omega arith)) refl in
    let l : length (r ++ w ∷ []) + length ws ≤ 64 = simp length-append (omega arith) in
    ap (λ z. settled updated (small 0 0 0 z fs) (pushes ws)) e ∙ settled-pushes (r ++ w ∷ []) ws fs l ∙ ap (λ z. small 0 0 0 z fs) (append_assoc r (w ∷ []) ws)

settled-slots : (r : List ℕ) (done es : List Entry) (k : ℕ) → length done ≡ k → settled updated (small 0 0 0 r done) (slots k es) ≡ small 0 0 0 r (done ++ es)
unfolding settled slots
settled-slots r done [] k e = ap (small 0 0 0 r) (sym (append-nil done))
settled-slots r done (x ∷ es) k e =
    let q : take k done ++ (x ∷ drop (suc k) done) ≡ done ++ x ∷ [] = rw (take_all k done (omega arith), drop_all (suc k) done (omega arith)) in
    ap (λ z. settled updated (small 0 0 0 r z) (slots (suc k) es)) q
    ∙ settled-slots r (done ++ x ∷ []) es (suc k) (simp length-append (omega arith)) ∙ ap (small 0 0 0 r) (append_assoc done (x ∷ []) es)

-- what `compaction_begins` asks for
pub set_up_right : (s : Small) → length s.ring ≤ 64 → settled updated no_state (set_up_of s) ≡ s
unfolding settled
set_up_right s h =
    let text : List News = news s.count s.current s.weight nothing_else ∷ [] in
    settled-append updated no_state (pushes s.ring) (slots 0 s.files ++ text)
    ∙ ap (λ z. settled updated z (slots 0 s.files ++ text)) (settled-pushes [] s.ring [] (omega arith))
    ∙ settled-append updated (small 0 0 0 s.ring []) (slots 0 s.files) text
    ∙ ap (λ z. settled updated z text) (settled-slots s.ring [] s.files 0 refl)

-- beginning a tape takes few records
pub length-pushes : (ws : List ℕ) → length (pushes ws) ≡ length ws
unfolding pushes
length-pushes [] = refl
length-pushes (w ∷ ws) = ap suc (length-pushes ws)

pub length-slots : (k : ℕ) (fs : List Entry) → length (slots k fs) ≡ length fs
unfolding slots
length-slots k [] = refl
length-slots k (f ∷ fs) = ap suc (length-slots (suc k) fs)

pub begin_few : (g n : ℕ) (s : Small) → length s.ring ≤ 64 → length s.files ≤ 64 → length (begin_records g n (set_up_of s)) ≤ 130
begin_few g n s r f =
    let a = length-pushes s.ring in
    let b = length-slots 0 s.files in
    simp (length-map, length-append) (omega arith)

-- what holds of each state while it is set up, where each of the records keeps it
pub settled_keeps :
    {K S : Type 0} (upd : K → S → S) (Q : K → Type 0) (P : S → Type 0) → ((u : K) (s : S) → Q u → P s → P (upd u s)) →
    (us : List K) → ((u : K) → In u us → Q u) → (s : S) → P s → (m : ℕ) → P (settled upd s (take m us))
unfolding settled
settled_keeps upd Q P step us q s h zero = h
settled_keeps upd Q P step [] q s h (suc m) = h
settled_keeps upd Q P step (u ∷ us) q s h (suc m) = settled_keeps upd Q P step us (λ v k. q v (inr k)) (upd u s) (step u s (q u (inl refl)) h) m

in_pushes : (u : News) (ws : List ℕ) → In u (pushes ws) → (w : ℕ) × In w ws × (news 0 0 0 (push w) ≡ u)
unfolding pushes
in_pushes u [] h = absurd h
in_pushes u (w ∷ ws) (inl e) = (w, inl refl, e)
in_pushes u (w ∷ ws) (inr h) = let r = in_pushes u ws h in (r.0, inr r.1, r.2)

in_slots : (Q : News → Type 0) (fs : List Entry) → ((k : ℕ) (f : Entry) → In f fs → Q (news 0 0 0 (slot k f))) → (k : ℕ) (u : News) → In u (slots k fs) → Q u
unfolding slots
in_slots Q [] q k u h = absurd h
in_slots Q (f ∷ fs) q k u (inl e) = subst Q e (q k f (inl refl))
in_slots Q (f ∷ fs) q k u (inr h) = in_slots Q fs (λ j g i. q j g (inr i)) (suc k) u h

-- each record that sets the small state up
pub each_set_up :
    (Q : News → Type 0) (s : Small) → ((w : ℕ) → In w s.ring → Q (news 0 0 0 (push w))) → ((k : ℕ) (f : Entry) → In f s.files → Q (news 0 0 0 (slot k f))) →
    Q (news s.count s.current s.weight nothing_else) → (u : News) → In u (set_up_of s) → Q u
each_set_up Q s ring files last u h =
    let text : List News = news s.count s.current s.weight nothing_else ∷ [] in
    elim (in_cases u (pushes s.ring) (slots 0 s.files ++ text) h) [
      | inl k ↦ let r = in_pushes u s.ring k in subst Q r.2 (ring r.0 r.1)
      | inr k ↦ elim (in_cases u (slots 0 s.files) text k) [
        | inl i ↦ in_slots Q s.files files 0 u i
        | inr i ↦ elim i [ inl e ↦ subst Q e last | inr z ↦ absurd z ]
      ]
    ]
