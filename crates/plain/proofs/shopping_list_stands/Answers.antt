use Rattle.plain.proofs.Listed.{shopping_list-stands}
use Rattle.plain.proofs.shopping_list_stands.Goals as goal

pub returns : goal.returns
returns c = shopping_list-stands
