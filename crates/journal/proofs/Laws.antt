-- The laws of the log, for its own records. Assumes nothing.
use Rattle.std.proofs.Common.{◌≡◌, ℕ, suc, ◌+◌, ◌-◌, ◌⊎◌, List, [], ◌∷◌, ◌++◌, map, length, take, drop, sym, refl, ap, ◌∙◌, subst, inl, inr, append_assoc, arith}
use Rattle.plain.specs.Device.{Device, Tape, tape_of, stopped}
use Rattle.plain.specs.Promise.{all_longer}
use Rattle.journal.specs.Log.{Position, Splice, commit, State, state, Packed, copy_records, command_records, settled, begin_records, Alike, On, Left, generation, InCycle, Newer, tapes}
use Rattle.journal.specs.Small.{Small, News, updated, set_up_of, no_state}
use Rattle.journal.specs.Room.{Carrying}
use Rattle.journal.specs.Laws.{Log, replayed, Same, Settled, ApplyNatural, TornTailUnseen, CommitAllAtOnce, StopKeepsState, Compaction, begun, carried, commanded, CompactionKeepsLines, NoFullTape, WithinGrant}
use Rattle.journal.proofs.Alike.{apply_natural, alike_length}
use Rattle.journal.proofs.Replay.{replay_from-append, replay_from-broken, replay_from-lines}
use Rattle.journal.proofs.Stored.{Open, Ready, open_ready, ready_command, lines_unseen, lines-block, left_command}
use Rattle.journal.proofs.Through.{Through, last, then}
use Rattle.journal.proofs.Contents.{Layout, all_fast, some_fast, layout_new_is, layout_stops-at, left_so_far}
use Rattle.journal.proofs.Lifecycle.{layout_all_old, layout_all_new}
use Rattle.journal.proofs.Generations.{generation-append, left_newer, old_counts}
use Rattle.journal.proofs.Compaction.{Allowed, Tape-keeps, keeps_command, Compacting, compaction_begins, compaction_carries, compaction_commands, compaction_ends}
use Rattle.journal.proofs.Small.{set_up_right}
use Rattle.journal.proofs.Room.{carrying-begins, carrying-fits, carrying-goes-on, carrying-ends}

abbrev none_kept : Small
none_kept = no_state

pub apply_is_natural : ApplyNatural
unfolding ApplyNatural
apply_is_natural f c D P = apply_natural f c D P

pub torn_tail_unseen : TornTailUnseen
unfolding TornTailUnseen
torn_tail_unseen t T zs = (
  replay_from-broken updated t 0 (state [] [] none_kept) T zs,
  λ w o.
      let e = replay_from-append updated t 0 (state [] [] none_kept) T zs w in
      let g = replay_from-lines updated t (0 + length T) (replayed t T) o in
      record { dir = ap (λ z. z.dir) e ∙ ap (λ z. z.0) g; small = ap (λ z. z.small) e ∙ ap (λ z. z.1) g },
)

settled_open : {t : ℕ} {T : Log} → Settled t T → Open updated none_kept t T
settled_open h = record { all_intact = h.all_intact; pending = h.pending }

open_settled : {t : ℕ} {T : Log} → Open updated none_kept t T → Settled t T
open_settled h = record { all_intact = h.all_intact; pending = h.pending }

settled_ready : {t : ℕ} {T : Log} → Settled t T → Ready updated none_kept t T (replayed t T).dir (replayed t T).small
settled_ready h = open_ready updated none_kept (settled_open h) (record { dir = refl; small = refl })

before_or_after :
    (t : ℕ) (T : Log) (new : List Packed) (c : Splice) (u : News) → Settled t T → (zs : Log) → Left (command_records new c u) zs →
    Same (replayed t (T ++ zs)) (replayed t T) ⊎ Same (replayed t (T ++ zs)) (replayed t (T ++ command_records new c u))
before_or_after t T new c u h zs k =
    elim (left_command (commit c u) (lines-block new) k) [
      | inl o ↦ let q = lines_unseen updated none_kept zs (settled_ready h) o in inl (record { dir = q.dir; small = q.small })
      | inr e ↦ inr (record { dir = ap (λ z. (replayed t (T ++ z)).dir) e; small = ap (λ z. (replayed t (T ++ z)).small) e })
    ]

pub commit_all_at_once : CommitAllAtOnce
unfolding CommitAllAtOnce
commit_all_at_once t T new c u h = ((ready_command updated none_kept new c u (settled_ready h)).gives, before_or_after t T new c u h)

pub stop_keeps_state : StopKeepsState
unfolding StopKeepsState
stop_keeps_state read torn-read v x y g at ps qs others new c u parts newer cs =
    let T : Log = tapes read v x in
    let z : Tape = tape_of v y in
    let F : Log = map read (take (length z.records - z.loose) z.records) in
    let L : Log = map read (drop (length z.records - z.loose) z.records) in
    let first : Layout read v x y T [] F L = record { sides = at.sides; old = all_fast read (tape_of v x) at.fast; new = some_fast read (tape_of v y) at.loose } in
    let h = layout_all_new read others (layout_all_old read ps first) in
    let d : Device = stopped (all_longer (all_longer v x ps) y others) cs in
    let q = layout_stops-at read torn-read cs at.sides h in
    let k : Left (command_records new c u) q.some = subst (λ z. Left z q.some) parts (left_so_far (map read qs) q.left_old) in
    let n : Newer g (F ++ (L ++ map read others)) = subst (Newer g) (ap (λ t. t ++ map read others) (layout_new_is read first) ∙ append_assoc F L (map read others)) newer in (
      old_counts (tapes read d) at.sides at.cycle (ap generation q.old ∙ generation-append T q.some at.cycle at.older) (left_newer g n q.left_new),
      subst (λ z. Same (replayed x z) (replayed x T) ⊎ Same (replayed x z) (replayed x (T ++ command_records new c u))) (sym q.old)
          (before_or_after x T new c u at.settled q.some k),
    )

-- compaction, where nothing else is asked of the states that are replayed
abbrev Any : ℕ → ℕ → Small → Type 0
Any n k s = Unit {0}

any_through : (t k : ℕ) (s : State Small) (rs : Log) → Through updated none_kept Any t k s rs
any_through t k s [] = last tt
any_through t k s (r ∷ rs) = then tt (any_through t (suc k) _ rs)

any_allowed : (ls : List Packed) (s : Small) (new : List Packed) (c : Splice) (u : News) → Allowed updated Any ls s new c u
any_allowed ls s new c u = record { so_far = λ n h. tt; then = tt }

record SoFar (x y g : ℕ) (X Y : Log) (D : List Position) (ls : List Packed) (s : Small) : Type 0 where
  compacting : Compacting updated none_kept Any x X y Y D ls s
  settled : Settled x X
  cycle : InCycle g
  begins : generation Y ≡ g

so_far : {x y g : ℕ} {X Y : Log} {D : List Position} {ls : List Packed} {s : Small} → Compaction x y g X Y D ls s → SoFar x y g X Y D ls s
so_far {x} {y} {g} (begun {X} {ls} {s} cycle h lines e r) =
    let D : List Position = (replayed x X).dir in
    let keeps : Tape-keeps updated none_kept Any x X D ls s = record { shows = record { dir = refl; small = e }; holds = lines; through = any_through x 0 _ X; good = tt } in
    let set : settled updated none_kept (set_up_of s) ≡ s = set_up_right s r in
    record {
      compacting = subst (λ n. Compacting updated none_kept Any x X y (begin_records g n (set_up_of s)) D ls s) (alike_length lines)
          (compaction_begins updated none_kept Any y g (set_up_of s) keeps set tt (λ m. tt));
      settled = h;
      cycle = cycle;
      begins = refl;
    }
so_far {x} {y} {g} (carried {X} {Y} {D} {ls} {s} i l e k) =
    let h = so_far k in
    record {
      compacting = compaction_carries updated none_kept Any i l h.compacting e;
      settled = h.settled;
      cycle = h.cycle;
      begins = generation-append Y (copy_records i l) h.cycle h.begins;
    }
so_far {x} {y} {g} (commanded {X} {Y} {D} {ls} {s} new c u k) =
    let h = so_far k in
    let a = any_allowed ls s new c u in
    record {
      compacting = compaction_commands updated none_kept Any new c u a h.compacting (settled_open h.settled);
      settled = open_settled (keeps_command updated none_kept Any new c u a h.compacting.keeps (settled_open h.settled)).1;
      cycle = h.cycle;
      begins = generation-append Y (command_records new c u) h.cycle h.begins;
    }

pub compaction_keeps_lines : CompactionKeepsLines
unfolding CompactionKeepsLines
compaction_keeps_lines x y g X Y D ls s k =
    let h = so_far k in
    let o = h.compacting.keeps in (
      (h.settled, subst (λ z. Alike (On X x) z ls) (sym o.shows.dir) o.holds, o.shows.small),
      λ f.
          let q = compaction_ends updated none_kept Any h.compacting f in
          let r = open_ready updated none_kept q.1 q.0.shows in
          record { gives = r.gives; lines = q.0.holds; all_intact = r.all_intact; generation_is = h.begins },
    )

pub no_full_tape : NoFullTape
unfolding NoFullTape
no_full_tape R T m n VY S J V r v = (
  carrying-begins V,
  λ c. (
    λ s put w j p. carrying-fits V s put r c v w j p,
    λ s put more went VY₁ J₁ j p q w. carrying-goes-on s put more went VY₁ J₁ r c j p q w,
    λ put e w. carrying-ends put r (subst (λ z. Carrying R T m n z S J) e c) w,
  ),
)

pub within-grant : WithinGrant
unfolding WithinGrant
within-grant range given shown a b c d h i j k = omega arith
