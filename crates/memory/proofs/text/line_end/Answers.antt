use Rattle.std.proofs.Common.{◌≡◌, ℕ, ◌≤◌, ◌⊎◌, inl, inr, List, map, length, drop, sym, ap, ◌∙◌, arith}
use Rattle.memory.specs.Abstract.{text_of, line_end}
use Rattle.memory.specs.Sections.{low, newline}
use Rattle.memory.proofs.Texting.{whole-end, text-long}
use Rattle.memory.proofs.Worded.{line-ends}
use Rattle.memory.specs.declared.job.Lines.{Lines}
use Rattle.memory.specs.declared.job.Lines.TheVariants.{Joined, Nothing}
use Rattle.memory.proofs.text.line_end.Goals as goal

ended : (ls : Lines) (from len r : ℕ) (m : List ℕ) → length m ≡ 262144 → from ≤ len → len ≤ 65536 → r ≡ line_end ls from (text_of len m)
    → (r ≡ line_end ls from (text_of len m)) × ((from ≤ r) × (r ≤ len))
ended ls from len r m h g k e =
    let l = text-long len m h k in
    let w = line-ends ls from (text_of len m) (omega arith) in
    (e, (omega (arith, w.behind), omega (arith, w.within)))

pub returns-in-Given : goal.returns-in-Given
unfolding text_of
returns-in-Given c =
    let r = ended c.args.lines c.args.from c.args.len c.newline.result c.args.memory.now c.requires.0 (omega arith) (omega arith)
    (c.newline.ensures ∙ ap (λ t. newline c.args.from (drop c.args.from (map low t))) c.text_cells.ensures.cells
    ∙ ap (λ l. line_end l c.args.from (text_of c.args.len c.args.memory.now)) (sym c.in-Given.is)) in
    record { end = r.0; behind = r.1.0; within = r.1.1 }

-- all that is put on ends behind the last byte
whole : (ls : Lines) (from len : ℕ) (m : List ℕ) → length m ≡ 262144 → from ≤ len → len ≤ 65536 → (ls ≡ Joined) ⊎ (ls ≡ Nothing) → len ≡ line_end ls from (text_of len m)
whole ls from len m h g k is =
    elim is [
      | inl e ↦ whole-end from len m h k g ∙ ap (λ l. line_end l from (text_of len m)) (sym e)
      | inr e ↦ whole-end from len m h k g ∙ ap (λ l. line_end l from (text_of len m)) (sym e)
    ]

pub returns-in-Joined : goal.returns-in-Joined
returns-in-Joined c =
    let h = c.requires.0 in
    let r = ended c.args.lines c.args.from c.args.len c.args.len c.args.memory.now h (omega arith) (omega arith) (whole c.args.lines c.args.from c.args.len c.args.memory.now h (omega arith) (omega arith) c.in-Joined.is) in
    record { end = r.0; behind = r.1.0; within = r.1.1 }
