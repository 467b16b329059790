use Rattle.std.proofs.Common.{◌-◌, sym, ap, ◌∙◌}
use Rattle.journal.specs.Log.{set_up}
use Rattle.journal.specs.Small.{news, entry, push, slot}
use Rattle.records.specs.Pages.{page_of}
use Rattle.records.specs.Values.{low_bytes}
use Rattle.compaction.specs.Laid.{laid}
use Rattle.compaction.proofs.Setup.{set_up-push, set_up-slot, set_up_last}
use Rattle.compaction.proofs.tapes.set_up_record.Goals as goal

pub returns-then-index-kept : goal.returns-then-index-kept
returns-then-index-kept c =
    c.encode_also.ensures
    ∙ ap (λ u. laid (page_of (set_up u)) c.args.out.now)
    (ap (λ w. news 0 0 0 (push w)) c.weight_at-weight.ensures ∙ sym (set_up-push c.args.kept c.args.memory.now c.args.index c.requires.0 c.requires.1.1.0.ring c.if-index-kept.true))

pub returns-then-place-kept : goal.returns-then-place-kept
returns-then-place-kept c =
    let place = c.args.index - c.args.kept.ring in
    let file = c.file_at-file.ensures in
    let name = c.file_name.ensures in
    c.encode_also-then-place-kept.ensures
    ∙ ap (λ u. laid (page_of (set_up u)) c.args.out.now)
    ((λ i. news 0 0 0 (slot place (entry (low_bytes (name i)) (file i).lines (file i).size)))
    ∙ sym (set_up-slot c.args.kept c.args.memory.now c.args.index c.requires.0 c.requires.1.1.0.ring c.if-index-kept.false c.if-place-kept.true))

pub returns : goal.returns
returns c =
    c.encode_numbers.ensures
    ∙ ap (λ u. laid (page_of (set_up u)) c.args.out.now)
    (sym (set_up_last c.args.kept c.args.memory.now c.args.index c.requires.0 c.requires.1.1.0.ring c.if-index-kept.false c.if-place-kept.false c.requires.1.1.1))
