-- The index as one value: for the code that looks numbers up, not for callers of the product.
use Rattle.std.specs.Prelude.{◌≡◌, length}
use Rattle.register_index.specs.Indexed.{Indexed}
use Rattle.register_index.specs.declared.number_index.NumberIndex.{NumberIndex}

-- the first n numbers are indexed
abbrev pub IsIndexed : NumberIndex → Type 0
IsIndexed ix = Indexed ix.numbers.now ix.n ix.links.now

-- the rooms that come back are those that were lent, and as long
abbrev pub SameParts : NumberIndex → NumberIndex → Type 0
SameParts lent back = (back.numbers.ghost_name ≡ lent.numbers.ghost_name) × (back.links.ghost_name ≡ lent.links.ghost_name)
    × (length back.numbers.now ≡ length lent.numbers.now)
