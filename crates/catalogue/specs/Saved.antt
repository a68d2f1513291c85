-- What a catalogue saves: a definition for theorems on lengths only, that no contract goes by. "Shorter than the old form, for
-- each objection, by its target's number and 3 bytes": `O`, a tab and the line's end.
use Rattle.std.specs.Prelude.{List, [], ◌∷◌, ℕ, ◌+◌, length}
use Rattle.register.specs.Number.{number_bytes}
use Rattle.register.specs.declared.ObjectionLine.{ObjectionLine}

unfoldable pub saved : List ObjectionLine → ℕ
saved [] = 0
saved (o ∷ O) = length (number_bytes o.target) + 3 + saved O
