-- The laws of pages. Assumes nothing.
use Rattle.records.specs.Laws.{PageBack, TornBroken, LinePacked, RecopiedRight}
use Rattle.records.proofs.Pages.{page-back, page-whole, torn-broken, none_broken, recopied-line, recopied-copy}
use Rattle.records.proofs.Lines.{packed_right}

pub page_is_back : PageBack
unfolding PageBack
page_is_back r f = (page-back r f, page-whole r f)

pub torn_is_broken : TornBroken
unfolding TornBroken
torn_is_broken = (torn-broken, none_broken)

pub line-packed : LinePacked
unfolding LinePacked
line-packed bs h k = packed_right bs h k

pub recopied_right : RecopiedRight
unfolding RecopiedRight
recopied_right i k j b f = (recopied-line i j b f, recopied-copy i k j b f)
