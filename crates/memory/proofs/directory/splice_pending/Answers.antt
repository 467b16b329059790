use Rattle.std.proofs.Common.{◌≡◌, length, refl, ◌∙◌, arith}
use Rattle.memory.specs.Sections.{pending_spliced}
use Rattle.memory.proofs.Splicing.{words_long, room_can, put_many, put_none, put_all}
use Rattle.memory.proofs.Parted.{length_with}
use Rattle.memory.proofs.directory.splice_pending.Goals as goal

pub returns-then-pending : goal.returns-then-pending
unfolding pending_spliced
returns-then-pending c =
    rw (put_many c.args.cut.count c.args.cut.from c.args.cut.gone c.args.pending c.if-pending.true) record { count = refl; memory = refl }

pub returns-in_err-count : goal.returns-in_err-count
unfolding pending_spliced
returns-in_err-count c =
    let e = c.in_err-count.ensures in
    let r = put_none c.args.cut.count c.args.cut.from c.args.cut.gone c.args.pending c.args.memory.now c.make_room.new.dir c.requires c.if-pending.false
    e.done e.refused in
    record { count = c.from_residual.ensures ∙ r.count; memory = r.memory }

pub fill_pending-requires : goal.fill_pending-requires
fill_pending-requires c =
    let e = c.in_ok-count.ensures in
    let s = room_can c.args.cut.count c.args.cut.from c.args.cut.gone c.args.pending c.in_ok-count.count c.args.memory.now _ c.requires e.refused in
    let l : length c.make_room.new.dir ≡ 174763 = c.make_room.auto.dir ∙ words_long c.args.memory.now c.requires in
    (length_with 70016 174763 c.args.memory.now c.make_room.new.dir (omega arith) l ∙ c.requires, (c.if-pending.false, omega (arith, s.there, s.held, s.fits)))

pub returns : goal.returns
unfolding pending_spliced
returns c =
    let e = c.in_ok-count.ensures in
    let s = room_can c.args.cut.count c.args.cut.from c.args.cut.gone c.args.pending c.in_ok-count.count c.args.memory.now _ c.requires e.refused in
    let l : length c.make_room.new.dir ≡ 174763 = c.make_room.auto.dir ∙ words_long c.args.memory.now c.requires in
    let r = put_all c.args.cut.count c.args.cut.from c.args.cut.gone c.args.pending c.in_ok-count.count c.args.memory.now c.make_room.new.dir
    c.fill_pending.new.memory c.requires c.if-pending.false l e.done s e.spare c.fill_pending.ensures in
    record { count = r.count; memory = r.memory }
