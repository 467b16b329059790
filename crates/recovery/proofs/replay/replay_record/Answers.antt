use Rattle.std.proofs.Common.{◌<◌, sym, refl, subst}
use Rattle.journal.specs.Log.{head, line, copy, commit, broken}
use Rattle.records.specs.Values.{piece_of}
use Rattle.journal.specs.Values.{splice_of, news_of}
use Rattle.recovery.proofs.Replayed.{next_said, replayed_as}
use Rattle.recovery.proofs.replay.replay_record.Goals as goal

pub next_record-requires : goal.next_record-requires
next_record-requires c =
    subst (λ r. (r.tapes.used < 4294967296) × (r.tapes.active < 2)) (sym (c.replay_head.ensures.registers 0)) (c.requires.1.tapes.used, c.requires.1.tapes.active)

pub next_record-requires-in-Line : goal.next_record-requires-in-Line
next_record-requires-in-Line c =
    subst (λ r. (r.tapes.used < 4294967296) × (r.tapes.active < 2)) (sym (c.replay_line.ensures.registers (piece_of c.in-Line.piece))) (c.requires.1.tapes.used, c.requires.1.tapes.active)

pub returns-in-Head : goal.returns-in-Head
returns-in-Head c =
    let r = c.args.registers.now in
    let m = c.args.memory.now in
    let g = c.in-Head.generation in
    let x = head g c.in-Head.entries in
    λ out. replayed_as c.args.read.now x r c.next_record.new.registers m c.replay_head.new.memory c.next_record.result out c.in-Head.ensures
    (next_said x r c.replay_head.new.registers c.next_record.new.registers m c.replay_head.new.memory c.next_record.result out
    (c.replay_head.ensures.registers g) (c.replay_head.ensures.memory g) c.next_record.ensures.told c.next_record.ensures.state)

pub returns-in-Line : goal.returns-in-Line
returns-in-Line c =
    let r = c.args.registers.now in
    let m = c.args.memory.now in
    let b = piece_of c.in-Line.piece in
    let x = line c.in-Line.piece.part b in
    λ out. replayed_as c.args.read.now x r c.next_record-in-Line.new.registers m c.replay_line.new.memory c.next_record-in-Line.result out c.in-Line.ensures
    (next_said x r c.replay_line.new.registers c.next_record-in-Line.new.registers m c.replay_line.new.memory c.next_record-in-Line.result out
    (c.replay_line.ensures.registers b) (c.replay_line.ensures.memory b) c.next_record-in-Line.ensures.told c.next_record-in-Line.ensures.state)

pub returns-in-Copy : goal.returns-in-Copy
returns-in-Copy c =
    let r = c.args.registers.now in
    let m = c.args.memory.now in
    let b = piece_of c.in-Copy.piece in
    let x = copy c.in-Copy.index c.in-Copy.piece.part b in
    λ out. replayed_as c.args.read.now x r c.next_record-in-Copy.new.registers m c.replay_copy.new.memory c.next_record-in-Copy.result out c.in-Copy.ensures
    (next_said x r r c.next_record-in-Copy.new.registers m c.replay_copy.new.memory c.next_record-in-Copy.result out
    refl (c.replay_copy.ensures b) c.next_record-in-Copy.ensures.told c.next_record-in-Copy.ensures.state)

pub returns-in-Commit : goal.returns-in-Commit
returns-in-Commit c =
    let r = c.args.registers.now in
    let m = c.args.memory.now in
    let x = commit (splice_of c.in-Commit.splice) (news_of c.in-Commit.numbers c.in-Commit.name.now) in
    λ out. replayed_as c.args.read.now x r c.next_record-in-Commit.new.registers m c.replay_commit.new.memory c.next_record-in-Commit.result out c.in-Commit.ensures
    (next_said x r c.replay_commit.new.registers c.next_record-in-Commit.new.registers m c.replay_commit.new.memory c.next_record-in-Commit.result out
    c.replay_commit.ensures.registers c.replay_commit.ensures.memory c.next_record-in-Commit.ensures.told c.next_record-in-Commit.ensures.state)

pub returns-in-Broken : goal.returns-in-Broken
returns-in-Broken c =
    let r = c.args.registers.now in
    let m = c.args.memory.now in
    λ out. replayed_as c.args.read.now broken r c.begin_other.new.registers m m c.begin_other.result out c.in-Broken.ensures (c.begin_other.ensures m out)
