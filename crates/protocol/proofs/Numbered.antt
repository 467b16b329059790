-- An event has one of four numbers. Assumes nothing.
use Rattle.std.proofs.Common.{◌≤◌, arith}
use Rattle.protocol.specs.declared.Event.{Event}
use Rattle.protocol.specs.declared.Event.TheVariants.{Power, Command, Record, Next}
use Rattle.protocol.specs.Events.{kind_number}

pub kind-low : (e : Event) → kind_number e ≤ 3
kind-low Power = omega arith
kind-low Command = omega arith
kind-low Record = omega arith
kind-low Next = omega arith
