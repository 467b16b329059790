-- Running an engine, one act at a time. What is shown here of single acts gives `Right`, so that no later proof has to open `runs`, `one_act` or `Right`.
-- Assumes nothing.
use Rattle.std.proofs.Common.{◌≡◌, ℕ, zero, suc, ◌<◌, Bool, true, false, ltb, ◌⊎◌, List, [], ◌∷◌, ◌++◌, length, sym, refl, subst, inl, inr, arith}
use mathlib.Core.Bool.{false≢true}
use Rattle.plain.specs.Pattern.{pick}
use Rattle.plain.specs.Device.{Device, Page, read_record, longer, fastened, anew, stopped}
use Rattle.plain.specs.Run.{Event, on, said, page, next, Act, read, put_on, fasten, begin, shows, done, refused, Step, Engine, World, Ran, in_memory, on_device, has_room, ran, refusal_end, one_act, runs, Item, power, power_stops, whole, stops, proper, dark, woken, ran_as, Right}

-- what one act comes to: something is told next; or it has ended, as a `Ran` says
pub data Outcome : Type 0 where
  goes_on : World → Event → List (List ℕ) → ℕ → Outcome
  ended : World → List (List ℕ) → ℕ → ℕ → Outcome

abbrev pub faulty : World → List ℕ → List (List ℕ) → ℕ → Outcome
faulty w m ss r = ended (in_memory w m) ss r 1001

-- `one_act`, without what comes after
abbrev pub acted : World → List (List ℕ) → ℕ → List ℕ → Act → Outcome
acted w ss r m (read t k) = pick (ltb t 2) (goes_on (in_memory w m) (page (read_record w.device t k)) ss (suc r)) (faulty w m ss r)
acted w ss r m (put_on t p) = pick (has_room w.device t p) (goes_on (on_device m (longer w.device t p)) next ss (suc r)) (faulty w m ss r)
acted w ss r m (fasten t) = pick (ltb t 2) (goes_on (on_device m (fastened w.device t)) next ss r) (faulty w m ss r)
acted w ss r m (begin t) = pick (ltb t 2) (goes_on (on_device m (anew w.device t)) next ss r) (faulty w m ss r)
acted w ss r m (shows s) = goes_on (in_memory w m) next (ss ++ s ∷ []) r
acted w ss r m done = ended (in_memory w m) ss r 0
acted w ss r m (refused k) = ended (in_memory w m) ss r (refusal_end k)

-- one step of an engine that is told `ev`
abbrev pub acted_on : World → List (List ℕ) → ℕ → Step → Outcome
acted_on w ss r x = acted w ss r x.memory x.act

abbrev pub told : Engine → World → Event → List (List ℕ) → ℕ → Outcome
told e w ev ss r = acted_on w ss r (e.step w.memory ev)

abbrev pub follow : (World → Event → List (List ℕ) → ℕ → Ran) → Outcome → Ran
follow go (goes_on w ev ss r) = go w ev ss r
follow go (ended w ss r k) = ran w ss r k

follow_pick : (go : World → Event → List (List ℕ) → ℕ → Ran) (b : Bool) (x y : Outcome) → pick b (follow go x) (follow go y) ≡ follow go (pick b x y)
follow_pick go true x y = refl
follow_pick go false x y = refl

one_act_is :
    (go : World → Event → List (List ℕ) → ℕ → Ran) (w : World) (ss : List (List ℕ)) (r : ℕ) (m : List ℕ) (a : Act) →
    one_act go w ss r m a ≡ follow go (acted w ss r m a)
unfolding one_act
one_act_is go w ss r m (read t k) = follow_pick go (ltb t 2) (goes_on (in_memory w m) (page (read_record w.device t k)) ss (suc r)) (faulty w m ss r)
one_act_is go w ss r m (put_on t p) = follow_pick go (has_room w.device t p) (goes_on (on_device m (longer w.device t p)) next ss (suc r)) (faulty w m ss r)
one_act_is go w ss r m (fasten t) = follow_pick go (ltb t 2) (goes_on (on_device m (fastened w.device t)) next ss r) (faulty w m ss r)
one_act_is go w ss r m (begin t) = follow_pick go (ltb t 2) (goes_on (on_device m (anew w.device t)) next ss r) (faulty w m ss r)
one_act_is go w ss r m (shows s) = refl
one_act_is go w ss r m done = refl
one_act_is go w ss r m (refused k) = refl

-- so many acts at most, from an outcome
abbrev pub onward : ℕ → Engine → Outcome → Ran
onward n e o = follow (λ w ev ss r. runs n e w ev ss r) o

pub runs-step : (n : ℕ) (e : Engine) (w : World) (ev : Event) (ss : List (List ℕ)) (r : ℕ) → runs (suc n) e w ev ss r ≡ onward n e (told e w ev ss r)
unfolding runs
runs-step n e w ev ss r = one_act_is (λ w₁ ev₁ ss₁ r₁. runs n e w₁ ev₁ ss₁ r₁) w ss r (e.step w.memory ev).memory (e.step w.memory ev).act

-- From an outcome on the engine comes to an end that is as End says, and at each act before it the device and what was shown are as Stop says: it ends, and may
-- stop anywhere.
pub data Then (e : Engine) (Stop : Device → List (List ℕ) → Type 0) (End : World → List (List ℕ) → ℕ → ℕ → Type 0) : Outcome → Type 0 where
  at_end : {w : World} {ss : List (List ℕ)} {r k : ℕ} → End w ss r k → Then e Stop End (ended w ss r k)
  at-act : {w : World} {ev : Event} {ss : List (List ℕ)} {r : ℕ} → Stop w.device ss → Then e Stop End (told e w ev ss r) → Then e Stop End (goes_on w ev ss r)

abbrev pub Ended : (World → List (List ℕ) → ℕ → ℕ → Type 0) → Ran → Type 0
Ended End x = End x.here x.showed x.records_used x.end

abbrev pub Cut : (Device → List (List ℕ) → Type 0) → Ran → Type 0
Cut Stop x = (x.end ≡ 1000) × Stop x.here.device x.showed

abbrev pub does : List ℕ → Act → Step
does m a = record { memory = m; act = a }

pub picked_true : {A : Type 0} (P : A → Type 0) (b : Bool) (x y : A) → b ≡ true → P x → P (pick b x y)
picked_true P b x y q h = subst (λ c. P (pick c x y)) (sym q) h

module _ {e : Engine} {Stop : Device → List (List ℕ) → Type 0} {End : World → List (List ℕ) → ℕ → ℕ → Type 0} where
  -- with enough acts it ends; and with any number it has ended, or is still running where it may stop
  pub to_the_end : {o : Outcome} → Then e Stop End o → (n : ℕ) × Ended End (onward n e o)
  to_the_end (at_end h) = (0, h)
  to_the_end (at-act {w} {ev} {ss} {r} s h) =
      let q = to_the_end h in (suc q.0, subst (Ended End) (sym (runs-step q.0 e w ev ss r)) q.1)

  pub so_far : {o : Outcome} (n : ℕ) → Then e Stop End o → Ended End (onward n e o) ⊎ Cut Stop (onward n e o)
  unfolding runs
  so_far n (at_end h) = inl h
  so_far zero (at-act s h) = inr (refl, s)
  so_far (suc n) (at-act {w} {ev} {ss} {r} s h) =
      subst (λ x. Ended End x ⊎ Cut Stop x) (sym (runs-step n e w ev ss r)) (so_far n h)

  -- The acts: what the engine does when told is given as an equation; the rest of the run is proved from where it then is.
  module _ {w : World} {ev : Event} {ss : List (List ℕ)} {r : ℕ} (m : List ℕ) where
    pub by-act :
        (a : Act) → e.step w.memory ev ≡ does m a → Stop w.device ss → Then e Stop End (acted w ss r m a) → Then e Stop End (goes_on w ev ss r)
    by-act a q s h = at-act s (subst (λ x. Then e Stop End (acted_on w ss r x)) (sym q) h)

    pub by_read :
        (t k : ℕ) → ltb t 2 ≡ true → e.step w.memory ev ≡ does m (read t k) → Stop w.device ss →
        Then e Stop End (goes_on (in_memory w m) (page (read_record w.device t k)) ss (suc r)) → Then e Stop End (goes_on w ev ss r)
    by_read t k b q s h = by-act (read t k) q s (picked_true (Then e Stop End) _ _ _ b h)

    pub by-put-on :
        (t : ℕ) (p : Page) → has_room w.device t p ≡ true → e.step w.memory ev ≡ does m (put_on t p) → Stop w.device ss →
        Then e Stop End (goes_on (on_device m (longer w.device t p)) next ss (suc r)) → Then e Stop End (goes_on w ev ss r)
    by-put-on t p b q s h = by-act (put_on t p) q s (picked_true (Then e Stop End) _ _ _ b h)

    pub by-fasten :
        (t : ℕ) → ltb t 2 ≡ true → e.step w.memory ev ≡ does m (fasten t) → Stop w.device ss →
        Then e Stop End (goes_on (on_device m (fastened w.device t)) next ss r) → Then e Stop End (goes_on w ev ss r)
    by-fasten t b q s h = by-act (fasten t) q s (picked_true (Then e Stop End) _ _ _ b h)

    pub by-begin :
        (t : ℕ) → ltb t 2 ≡ true → e.step w.memory ev ≡ does m (begin t) → Stop w.device ss →
        Then e Stop End (goes_on (on_device m (anew w.device t)) next ss r) → Then e Stop End (goes_on w ev ss r)
    by-begin t b q s h = by-act (begin t) q s (picked_true (Then e Stop End) _ _ _ b h)

    pub by-shows :
        (x : List ℕ) → e.step w.memory ev ≡ does m (shows x) → Stop w.device ss →
        Then e Stop End (goes_on (in_memory w m) next (ss ++ x ∷ []) r) → Then e Stop End (goes_on w ev ss r)
    by-shows x q s h = by-act (shows x) q s h

    pub by-done : e.step w.memory ev ≡ does m done → Stop w.device ss → End (in_memory w m) ss r 0 → Then e Stop End (goes_on w ev ss r)
    by-done q s h = by-act done q s (at_end h)

    pub by-refused :
        (k : ℕ) → refusal_end k ≡ k → e.step w.memory ev ≡ does m (refused k) → Stop w.device ss → End (in_memory w m) ss r k → Then e Stop End (goes_on w ev ss r)
    by-refused k b q s h = by-act (refused k) q s (at_end (subst (λ n. End (in_memory w m) ss r n) (sym b) h))

-- what is asked may be weakened
pub weaker :
    {e : Engine} {Stop Stop₁ : Device → List (List ℕ) → Type 0} {End End₁ : World → List (List ℕ) → ℕ → ℕ → Type 0} {o : Outcome} →
    ((d : Device) (ss : List (List ℕ)) → Stop d ss → Stop₁ d ss) → ((w : World) (ss : List (List ℕ)) (r k : ℕ) → End w ss r k → End₁ w ss r k) →
    Then e Stop End o → Then e Stop₁ End₁ o
weaker f g (at_end {w} {ss} {r} {k} h) = at_end (g w ss r k h)
weaker f g (at-act {w} {ev} {ss} {r} s h) = at-act (f w.device ss s) (weaker f g h)

-- By a measure, where an invariant fits better: at each place that P speaks of it may stop, and one step ends well or leads to such a place with less to
-- come
abbrev pub After :
    (World → Event → List (List ℕ) → ℕ → ℕ → Type 0) → (World → List (List ℕ) → ℕ → ℕ → Type 0) → ℕ → Outcome → Type 0
After P End k (goes_on w ev ss r) = (k₁ : ℕ) × (k₁ < k) × P w ev ss r k₁
After P End k (ended w ss r n) = End w ss r n

module _
    (e : Engine) (Stop : Device → List (List ℕ) → Type 0) (End : World → List (List ℕ) → ℕ → ℕ → Type 0) (P : World → Event → List (List ℕ) → ℕ → ℕ → Type 0)
    (stop : (w : World) (ev : Event) (ss : List (List ℕ)) (r k : ℕ) → P w ev ss r k → Stop w.device ss)
    (step : (w : World) (ev : Event) (ss : List (List ℕ)) (r k : ℕ) → P w ev ss r k → After P End k (told e w ev ss r))
  where
    abbrev Reached : ℕ → Type 0
    Reached f = (w : World) (ev : Event) (ss : List (List ℕ)) (r k : ℕ) → k < f → P w ev ss r k → Then e Stop End (goes_on w ev ss r)

    reached-after : (f k : ℕ) → Reached f → k < suc f → (o : Outcome) → After P End k o → Then e Stop End o
    reached-after f k go l (goes_on w ev ss r) h = go w ev ss r h.0 (let q : h.0 < k = h.1 in omega arith) h.2
    reached-after f k go l (ended w ss r n) h = at_end h

    within : (f : ℕ) → Reached f
    within zero w ev ss r k l p = absurd (omega arith)
    within (suc f) w ev ss r k l p = at-act (stop w ev ss r k p) (reached-after f k (within f) l (told e w ev ss r) (step w ev ss r k p))

    pub by-measure : (w : World) (ev : Event) (ss : List (List ℕ)) (r k : ℕ) → P w ev ss r k → Then e Stop End (goes_on w ev ss r)
    by-measure w ev ss r k p = within (suc k) w ev ss r k (omega arith) p

-- Beside a specification `may` of commands. What is to be shown of an engine: what the device holds without power and with it, that a stop while it waits loses
-- nothing, and its two kinds of run, waking up and doing a command.
module _ {S : Type 0} (may : S → List ℕ → List (List ℕ) → ℕ → ℕ → S → Type 0) where
  -- a stop in the middle of the command t that was begun at s, when ss was shown: the device holds what was there before, or what would have been there then
  pub record Torn (Off : Device → S → Type 0) (s : S) (t : List ℕ) (ss : List (List ℕ)) (d : Device) : Type 0 where
    pub now : S
    pub more : List (List ℕ)
    pub used : ℕ
    pub reply : ℕ
    pub then : S
    pub allowed : may s t (ss ++ more) used reply then
    pub kept : (now ≡ s) ⊎ (now ≡ then)
    pub holds : Off d now

  pub record Finished (Idle : World → S → Type 0) (s : S) (t : List ℕ) (w : World) (ss : List (List ℕ)) (r k : ℕ) : Type 0 where
    pub now : S
    pub allowed : may s t ss r k now
    pub holds : Idle w now

  pub record Awake (Idle : World → S → Type 0) (s : S) (w : World) (ss : List (List ℕ)) (r k : ℕ) : Type 0 where
    pub well : k ≡ 0
    pub silent : ss ≡ []
    pub holds : Idle w s

  pub record Asleep (Off : Device → S → Type 0) (s : S) (d : Device) (ss : List (List ℕ)) : Type 0 where
    pub silent : ss ≡ []
    pub holds : (cs : List ℕ) → Off (stopped d cs) s

  abbrev pub Anywhere : (Device → S → Type 0) → S → List ℕ → Device → List (List ℕ) → Type 0
  Anywhere Off s t d ss = (cs : List ℕ) → Torn Off s t ss (stopped d cs)

  -- Off n d s: the device, without power, holds s, and no more than n things happen from now on; Idle n w s: it waits for a command, and so on. (Where no
  -- number ever grows too large, the n may be left unused.)
  pub record Sound (e : Engine) (Off : ℕ → Device → S → Type 0) (Idle : ℕ → World → S → Type 0) : Type 0 where
    pub rests : (n : ℕ) (w : World) (s : S) → Idle n w s → (cs : List ℕ) → Off n (stopped w.device cs) s
    pub wakes : (n : ℕ) (d : Device) (s : S) → Off (suc n) d s → Then e (Asleep (Off n) s) (Awake (Idle n) s) (goes_on (on_device e.start d) (on d.room) [] 0)
    pub obeys : (n : ℕ) (w : World) (s : S) → Idle (suc n) w s → (t : List ℕ) → Then e (Anywhere (Off n) s t) (Finished (Idle n) s t) (goes_on w (said t) [] 0)

  module _ (e : Engine) (Off : ℕ → Device → S → Type 0) (Idle : ℕ → World → S → Type 0) (sound : Sound e Off Idle) where
    abbrev Holds : Bool → ℕ → World → S → Type 0
    Holds true n v s = Idle n v s
    Holds false n v s = Off n v.device s

    -- a stop while it wakes up, after whatever number of acts
    wake-cut :
        (n : ℕ) (s : S) (x : Ran) → Ended (Awake (Idle n) s) x ⊎ Cut (Asleep (Off n) s) x →
        ((x.end ≡ 0) ⊎ (x.end ≡ 1000)) × (x.showed ≡ []) × ((cs : List ℕ) → Off n (stopped x.here.device cs) s)
    wake-cut n s x (inl a) = (inl a.well, a.silent, sound.rests n x.here s a.holds)
    wake-cut n s x (inr c) = (inr c.0, c.1.silent, c.1.holds)

    -- and while it does a command
    abbrev Command-cut : S → List ℕ → Ran → S → Type 0
    Command-cut s t x s₁ =
        may s t x.showed x.records_used x.end s₁
        ⊎ ((x.end ≡ 1000) × (more : List (List ℕ)) × (r : ℕ) × (reply : ℕ) × (s₂ : S) × may s t (x.showed ++ more) r reply s₂ × ((s₁ ≡ s) ⊎ (s₁ ≡ s₂)))

    command-cut :
        (n : ℕ) (s : S) (t cs : List ℕ) (x : Ran) → Ended (Finished (Idle n) s t) x ⊎ Cut (Anywhere (Off n) s t) x →
        (s₁ : S) × Command-cut s t x s₁ × Off n (stopped x.here.device cs) s₁
    command-cut n s t cs x (inl a) = (a.now, inl a.allowed, sound.rests n x.here a.now a.holds cs)
    command-cut n s t cs x (inr c) =
        let h = c.1 cs in (h.now, inr (c.0, h.more, h.used, h.reply, h.then, h.allowed, h.kept), h.holds)

    right : (up : Bool) (is : List Item) (v : World) (s : S) → Holds up (length is) v s → proper up is ≡ true → Right may (λ x. x) e v s is
    unfolding Right proper
    right up [] v s h p = refl
    right true (power ∷ is) v s h p = absurd (false≢true p)
    right false (power ∷ is) v s h p =
        let q = to_the_end (sound.wakes (length is) v.device s h) in
        (q.0, q.1.well, q.1.silent, right true is (woken e q.0 v).here s q.1.holds p)
    right true (power_stops n cs ∷ is) v s h p = absurd (false≢true p)
    right false (power_stops n cs ∷ is) v s h p =
        let q = wake-cut (length is) s (woken e n v) (so_far n (sound.wakes (length is) v.device s h)) in
        (q.0, q.1, right false is (dark (woken e n v).here cs) s (q.2 cs) p)
    right true (whole t ∷ is) v s h p =
        let q = to_the_end (sound.obeys (length is) v s h t) in
        (q.0, q.1.now, q.1.allowed, right true is (ran_as e q.0 v t).here q.1.now q.1.holds p)
    right false (whole t ∷ is) v s h p = absurd (false≢true p)
    right true (stops t n cs ∷ is) v s h p =
        let q = command-cut (length is) s t cs (ran_as e n v t) (so_far n (sound.obeys (length is) v s h t)) in
        (q.0, q.1, right false is (dark (ran_as e n v t).here cs) q.0 q.2 p)
    right false (stops t n cs ∷ is) v s h p = absurd (false≢true p)

    pub right-off : (d : Device) (s : S) (is : List Item) → Off (length is) d s → proper false is ≡ true → Right may (λ x. x) e (on_device [] d) s is
    right-off d s is h p = right false is (on_device [] d) s h p

    pub right-idle : (w : World) (s : S) (is : List Item) → Idle (length is) w s → proper true is ≡ true → Right may (λ x. x) e w s is
    right-idle w s is h p = right true is w s h p
