-- A machine whose memory is of any type, as a record of named fields: its runs, and that an engine which keeps that memory in a list of numbers runs as it
-- does. Assumes nothing.
use Rattle.std.proofs.Common.{◌≡◌, ℕ, suc, Bool, true, false, ltb, List, [], ◌∷◌, ◌++◌, length, sym, refl, subst}
use Rattle.plain.specs.Pattern.{pick}
use Rattle.plain.specs.Device.{Device, Page, read_record, longer, fastened, anew, stopped}
use Rattle.plain.specs.Run.{Event, on, said, page, next, Act, read, put_on, fasten, begin, shows, done, refused, Engine, World, on_device, has_room, refusal_end, Item, proper, Right}
use Rattle.journal.specs.Machine.{Did, did, Machine}
use Rattle.journal.proofs.Running.{Outcome, goes_on, ended, acted, told, Then, at_end, at-act, weaker, Asleep, Anywhere, Sound, right-off, picked_true}

pub data Where (X : Type 0) : Type 0 where
  going : X → Device → Event → List (List ℕ) → ℕ → Where X
  over : X → Device → List (List ℕ) → ℕ → ℕ → Where X

abbrev pub after_act : {X : Type 0} → Device → List (List ℕ) → ℕ → X → Act → Where X
after_act d ss r x (read t k) = pick (ltb t 2) (going x d (page (read_record d t k)) ss (suc r)) (over x d ss r 1001)
after_act d ss r x (put_on t p) = pick (has_room d t p) (going x (longer d t p) next ss (suc r)) (over x d ss r 1001)
after_act d ss r x (fasten t) = pick (ltb t 2) (going x (fastened d t) next ss r) (over x d ss r 1001)
after_act d ss r x (begin t) = pick (ltb t 2) (going x (anew d t) next ss r) (over x d ss r 1001)
after_act d ss r x (shows s) = going x d next (ss ++ s ∷ []) r
after_act d ss r x done = over x d ss r 0
after_act d ss r x (refused k) = over x d ss r (refusal_end k)

abbrev pub after_did : {X : Type 0} → Device → List (List ℕ) → ℕ → Did X → Where X
after_did d ss r x = after_act d ss r x.state x.act

pub data Goes {X : Type 0} (M : Machine X) (Stop : Device → List (List ℕ) → Type 0) (End : X → Device → List (List ℕ) → ℕ → ℕ → Type 0) : Where X → Type 0 where
  is_over : {x : X} {d : Device} {ss : List (List ℕ)} {r k : ℕ} → End x d ss r k → Goes M Stop End (over x d ss r k)
  is_going :
      {x : X} {d : Device} {ev : Event} {ss : List (List ℕ)} {r : ℕ} → M.Ok x ev → Stop d ss → Goes M Stop End (after_did d ss r (M.step x ev)) → Goes M Stop End (going x d ev ss r)

-- the acts, as of an engine
module _ {X : Type 0} {M : Machine X} {Stop : Device → List (List ℕ) → Type 0} {End : X → Device → List (List ℕ) → ℕ → ℕ → Type 0} where
  module _ {x : X} {d : Device} {ev : Event} {ss : List (List ℕ)} {r : ℕ} (ok : M.Ok x ev) (x₁ : X) where
    pub go-act : (a : Act) → M.step x ev ≡ did x₁ a → Stop d ss → Goes M Stop End (after_act d ss r x₁ a) → Goes M Stop End (going x d ev ss r)
    go-act a q s h = is_going ok s (subst (λ y. Goes M Stop End (after_did d ss r y)) (sym q) h)

    pub go-read :
        (t k : ℕ) → ltb t 2 ≡ true → M.step x ev ≡ did x₁ (read t k) → Stop d ss →
        Goes M Stop End (going x₁ d (page (read_record d t k)) ss (suc r)) → Goes M Stop End (going x d ev ss r)
    go-read t k b q s h = go-act (read t k) q s (picked_true (Goes M Stop End) _ _ _ b h)

    pub go-put-on :
        (t : ℕ) (p : Page) → has_room d t p ≡ true → M.step x ev ≡ did x₁ (put_on t p) → Stop d ss →
        Goes M Stop End (going x₁ (longer d t p) next ss (suc r)) → Goes M Stop End (going x d ev ss r)
    go-put-on t p b q s h = go-act (put_on t p) q s (picked_true (Goes M Stop End) _ _ _ b h)

    pub go-fasten :
        (t : ℕ) → ltb t 2 ≡ true → M.step x ev ≡ did x₁ (fasten t) → Stop d ss →
        Goes M Stop End (going x₁ (fastened d t) next ss r) → Goes M Stop End (going x d ev ss r)
    go-fasten t b q s h = go-act (fasten t) q s (picked_true (Goes M Stop End) _ _ _ b h)

    pub go-begin :
        (t : ℕ) → ltb t 2 ≡ true → M.step x ev ≡ did x₁ (begin t) → Stop d ss →
        Goes M Stop End (going x₁ (anew d t) next ss r) → Goes M Stop End (going x d ev ss r)
    go-begin t b q s h = go-act (begin t) q s (picked_true (Goes M Stop End) _ _ _ b h)

    pub go-shows :
        (y : List ℕ) → M.step x ev ≡ did x₁ (shows y) → Stop d ss → Goes M Stop End (going x₁ d next (ss ++ y ∷ []) r) → Goes M Stop End (going x d ev ss r)
    go-shows y q s h = go-act (shows y) q s h

    pub go-done : M.step x ev ≡ did x₁ done → Stop d ss → End x₁ d ss r 0 → Goes M Stop End (going x d ev ss r)
    go-done q s h = go-act done q s (is_over h)

    pub go-refused : (k : ℕ) → refusal_end k ≡ k → M.step x ev ≡ did x₁ (refused k) → Stop d ss → End x₁ d ss r k → Goes M Stop End (going x d ev ss r)
    go-refused k b q s h = go-act (refused k) q s (is_over (subst (λ n. End x₁ d ss r n) (sym b) h))

-- the same place for an engine with the memory m
abbrev pub placed : {X : Type 0} → List ℕ → Where X → Outcome
placed m (going x d ev ss r) = goes_on (on_device m d) ev ss r
placed m (over x d ss r k) = ended (on_device m d) ss r k

abbrev pub state_of : {X : Type 0} → Where X → X
state_of (going x d ev ss r) = x
state_of (over x d ss r k) = x

placed_pick : {X : Type 0} (m : List ℕ) (b : Bool) (p q : Where X) → placed m (pick b p q) ≡ pick b (placed m p) (placed m q)
placed_pick m true p q = refl
placed_pick m false p q = refl

state_pick : {X : Type 0} (x : X) (b : Bool) (p q : Where X) → state_of p ≡ x → state_of q ≡ x → state_of (pick b p q) ≡ x
state_pick x true p q g h = g
state_pick x false p q g h = h

placed_act : {X : Type 0} (m m₁ : List ℕ) (d : Device) (ss : List (List ℕ)) (r : ℕ) (x : X) (a : Act) → placed m₁ (after_act d ss r x a) ≡ acted (on_device m d) ss r m₁ a
placed_act m m₁ d ss r x (read t k) = placed_pick m₁ (ltb t 2) (going x d (page (read_record d t k)) ss (suc r)) (over x d ss r 1001)
placed_act m m₁ d ss r x (put_on t p) = placed_pick m₁ (has_room d t p) (going x (longer d t p) next ss (suc r)) (over x d ss r 1001)
placed_act m m₁ d ss r x (fasten t) = placed_pick m₁ (ltb t 2) (going x (fastened d t) next ss r) (over x d ss r 1001)
placed_act m m₁ d ss r x (begin t) = placed_pick m₁ (ltb t 2) (going x (anew d t) next ss r) (over x d ss r 1001)
placed_act m m₁ d ss r x (shows s) = refl
placed_act m m₁ d ss r x done = refl
placed_act m m₁ d ss r x (refused k) = refl

state-act : {X : Type 0} (d : Device) (ss : List (List ℕ)) (r : ℕ) (x : X) (a : Act) → state_of (after_act d ss r x a) ≡ x
state-act d ss r x (read t k) = state_pick x (ltb t 2) (going x d (page (read_record d t k)) ss (suc r)) (over x d ss r 1001) refl refl
state-act d ss r x (put_on t p) = state_pick x (has_room d t p) (going x (longer d t p) next ss (suc r)) (over x d ss r 1001) refl refl
state-act d ss r x (fasten t) = state_pick x (ltb t 2) (going x (fastened d t) next ss r) (over x d ss r 1001) refl refl
state-act d ss r x (begin t) = state_pick x (ltb t 2) (going x (anew d t) next ss r) (over x d ss r 1001) refl refl
state-act d ss r x (shows s) = refl
state-act d ss r x done = refl
state-act d ss r x (refused k) = refl

-- the state that a machine comes to in a run is good, if it is so wherever it may be told something, and at the end
pub goes-good :
    {X : Type 0} {M : Machine X} {Stop : Device → List (List ℕ) → Type 0} {End : X → Device → List (List ℕ) → ℕ → ℕ → Type 0} (Good : X → Type 0) →
    ((x : X) (ev : Event) → M.Ok x ev → Good x) → ((x : X) (d : Device) (ss : List (List ℕ)) (r k : ℕ) → End x d ss r k → Good x) →
    {p : Where X} → Goes M Stop End p → Good (state_of p)
goes-good Good told ends (is_over {x} {d} {ss} {r} {k} h) = ends x d ss r k h
goes-good Good told ends (is_going {x} {d} {ev} ok s h) = told x ev ok

-- an engine keeps the machine's memory, as Rep says, through steps that lead to a good state
pub record Keeps {X : Type 0} (M : Machine X) (Good : X → Type 0) (e : Engine) (Rep : List ℕ → X → Type 0) : Type 0 where
  pub at_start : Rep e.start M.start
  pub same_act : (m : List ℕ) (x : X) (ev : Event) → M.Ok x ev → Good (M.step x ev).state → Rep m x → (e.step m ev).act ≡ (M.step x ev).act
  pub still : (m : List ℕ) (x : X) (ev : Event) → M.Ok x ev → Good (M.step x ev).state → Rep m x → Rep (e.step m ev).memory (M.step x ev).state

module _ {X : Type 0} (M : Machine X) (Good : X → Type 0) (e : Engine) (Rep : List ℕ → X → Type 0) (keeps : Keeps M Good e Rep) where
  -- what holds of a world, by the machine's memory that it keeps
  pub record Kept (P : X → Device → Type 0) (w : World) : Type 0 where
    pub state : X
    pub rep : Rep w.memory state
    pub holds : P state w.device

  module _ (Stop : Device → List (List ℕ) → Type 0) (End : X → Device → List (List ℕ) → ℕ → ℕ → Type 0) where
    abbrev pub Kept-end : World → List (List ℕ) → ℕ → ℕ → Type 0
    Kept-end w ss r k = Kept (λ x d. End x d ss r k) w

    pub carried :
        ((x : X) (ev : Event) → M.Ok x ev → Good x) → ((x : X) (d : Device) (ss : List (List ℕ)) (r k : ℕ) → End x d ss r k → Good x) →
        {p : Where X} (m : List ℕ) → Rep m (state_of p) → Goes M Stop End p → Then e Stop Kept-end (placed m p)
    carried told ends m q (is_over {x} h) = at_end (record { state = x; rep = q; holds = h })
    carried told ends m q (is_going {x} {d} {ev} {ss} {r} ok s h) =
        let m₁ : List ℕ = (e.step m ev).memory in
        let a : Act = (M.step x ev).act in
        let x₁ : X = (M.step x ev).state in
        let good₁ : Good x₁ = subst Good (state-act d ss r x₁ a) (goes-good Good told ends h) in
        let rep₁ : Rep m₁ (state_of (after_act d ss r x₁ a)) = subst (Rep m₁) (sym (state-act d ss r x₁ a)) (keeps.still m x ev ok good₁ q) in
        let t : Then e Stop Kept-end (acted (on_device m d) ss r m₁ a) = subst (Then e Stop Kept-end) (placed_act m m₁ d ss r x₁ a) (carried told ends m₁ rep₁ h) in
        at-act s (subst (λ b. Then e Stop Kept-end (acted (on_device m d) ss r m₁ b)) (sym (keeps.same_act m x ev ok good₁ q)) t)

-- beside a specification of commands
module _ {S : Type 0} (may : S → List ℕ → List (List ℕ) → ℕ → ℕ → S → Type 0) {X : Type 0} where
  pub record Did-it (Idle : X → Device → S → Type 0) (s : S) (t : List ℕ) (x : X) (d : Device) (ss : List (List ℕ)) (r k : ℕ) : Type 0 where
    pub now : S
    pub allowed : may s t ss r k now
    pub holds : Idle x d now

  pub record Awoke (Idle : X → Device → S → Type 0) (s : S) (x : X) (d : Device) (ss : List (List ℕ)) (r k : ℕ) : Type 0 where
    pub well : k ≡ 0
    pub silent : ss ≡ []
    pub holds : Idle x d s

  pub record SoundMachine (M : Machine X) (Off : ℕ → Device → S → Type 0) (Idle : ℕ → X → Device → S → Type 0) : Type 0 where
    pub rests : (n : ℕ) (x : X) (d : Device) (s : S) → Idle n x d s → (cs : List ℕ) → Off n (stopped d cs) s
    pub wakes : (n : ℕ) (d : Device) (s : S) → Off (suc n) d s → Goes M (Asleep may (Off n) s) (Awoke (Idle n) s) (going M.start d (on d.room) [] 0)
    pub obeys : (n : ℕ) (x : X) (d : Device) (s : S) → Idle (suc n) x d s → (t : List ℕ) → Goes M (Anywhere may (Off n) s t) (Did-it (Idle n) s t) (going x d (said t) [] 0)

  module _
      (M : Machine X) (Good : X → Type 0) (e : Engine) (Rep : List ℕ → X → Type 0) (keeps : Keeps M Good e Rep) (Off : ℕ → Device → S → Type 0)
      (Idle : ℕ → X → Device → S → Type 0)
    where
      abbrev pub Idle-kept : ℕ → World → S → Type 0
      Idle-kept n w s = Kept M Good e Rep keeps (λ x d. Idle n x d s) w

  -- good is every state in which the machine may be told something, and in which it is idle
  module _
      (M : Machine X) (Good : X → Type 0) (e : Engine) (Rep : List ℕ → X → Type 0) (keeps : Keeps M Good e Rep) (Off : ℕ → Device → S → Type 0)
      (Idle : ℕ → X → Device → S → Type 0) (told : (x : X) (ev : Event) → M.Ok x ev → Good x) (rested : (n : ℕ) (x : X) (d : Device) (s : S) → Idle n x d s → Good x)
      (sound : SoundMachine M Off Idle)
    where
      pub sound-engine : Sound may e Off (Idle-kept M Good e Rep keeps Off Idle)
      sound-engine = record {
        rests = λ n w s h. sound.rests n h.state w.device s h.holds;
        wakes = λ n d s h.
            weaker (λ d₁ ss c. c)
            (λ w ss r k c. record { well = c.holds.well; silent = c.holds.silent; holds = record { state = c.state; rep = c.rep; holds = c.holds.holds } })
            (carried M Good e Rep keeps (Asleep may (Off n) s) (Awoke (Idle n) s) told (λ x d₁ ss r k c. rested n x d₁ s c.holds) e.start keeps.at_start (sound.wakes n d s h));
        obeys = λ n w s h t.
            weaker (λ d₁ ss c. c)
            (λ w₁ ss r k c. record { now = c.holds.now; allowed = c.holds.allowed; holds = record { state = c.state; rep = c.rep; holds = c.holds.holds } })
            (carried M Good e Rep keeps (Anywhere may (Off n) s t) (Did-it (Idle n) s t) told (λ x d₁ ss r k c. rested n x d₁ c.now c.holds) w.memory h.rep
            (sound.obeys n h.state w.device s h.holds t));
      }

      pub machine-right : (d : Device) (s : S) (is : List Item) → Off (length is) d s → proper false is ≡ true → Right may (λ x. x) e (on_device [] d) s is
      machine-right = right-off may e Off (Idle-kept M Good e Rep keeps Off Idle) sound-engine
