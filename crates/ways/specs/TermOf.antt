-- The term of a known table.
use Rattle.cows.specs.Terms.{Term}
use Rattle.ways.specs.Known.{Table}
use Rattle.ways.specs.declared.known.KnownTable.{KnownTable}

abbrev pub TermOf : KnownTable → Term → Type 0
TermOf k t = Table k.bytes.now k.ends.now t
