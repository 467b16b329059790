use Rattle.std.proofs.Common.{◌∙◌}
use Rattle.journal.specs.Values.{splice_of, news_of}
use Rattle.memory.proofs.Committing.{applied_unnoted, applied_unspliced, applied-both}
use Rattle.memory.proofs.commit.apply.Goals as goal

pub returns-then-not-can_note : goal.returns-then-not-can_note
returns-then-not-can_note c =
    let r = applied_unnoted c.args.kept (splice_of c.args.splice) (news_of c.args.numbers c.args.name.now) c.args.memory.now c.if-not-can_note.ensures in
    record { kept = r.kept; memory = r.memory }

pub returns-in_err-entries : goal.returns-in_err-entries
returns-in_err-entries c =
    let r = applied_unspliced c.args.kept (splice_of c.args.splice) (news_of c.args.numbers c.args.name.now) c.args.memory.now
    c.splice_entries.new.memory c.in_err-entries.ensures.count c.in_err-entries.ensures.memory in
    record { kept = c.from_residual.ensures ∙ r.kept; memory = r.memory }

pub returns : goal.returns
returns c =
    let r = applied-both c.args.kept (splice_of c.args.splice) (news_of c.args.numbers c.args.name.now) c.args.memory.now c.in_ok-entries.entries
    c.splice_entries.new.memory c.note-counts.new.memory c.note-counts.result c.if-not-can_note.ensures c.in_ok-entries.ensures.count
    c.in_ok-entries.ensures.memory c.note-counts.ensures.counts c.note-counts.ensures.memory in
    record { kept = r.kept; memory = r.memory }
