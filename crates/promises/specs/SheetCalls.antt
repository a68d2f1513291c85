-- The promises of the calls that keep a label sheet beside a register text: a fresh sheet, and an old one that is updated. Two
-- rooms are lent, for the sheet and for its totals. The labels are those of the book of the register that the text is the written
-- form of; what a sheet is, `sheet` says.
use Rattle.std.specs.Prelude.{List, ◌⊎◌, ◌≡◌, ℕ, ◌<◌, length}
use Rattle.game.specs.Book.{Book}
use Rattle.answer.specs.declared.Refusal.{Refusal}
use Rattle.answer.specs.declared.Refusal.TheVariants.{Sheet}
use Rattle.answer.specs.Answer.{Written, Begins, Short}
use Rattle.answer.specs.Answer.{Answer}
use Rattle.sheet.specs.Sheet.{IsSheet, codes, total, bytes_for, SoundSheet}
use Rattle.register.specs.Register.{book}
use Rattle.promises.specs.OnText.{OnText}

-- Two rooms are lent, for the sheet and for the totals. They begin with the book's sheet, n bytes, and with its totals in the
-- order of the codes; beyond that they are as found.
abbrev pub SheetIn : Book → List ℕ × List ℕ → ℕ → List ℕ × List ℕ → Type 0
SheetIn B rooms n after =
    (sheet : List ℕ) × IsSheet B sheet × Written sheet rooms.0 n after.0
    × Begins codes (λ c e. e ≡ total sheet B.size c) rooms.1 after.1

-- either room is shorter than that
abbrev pub SheetShort : Book → List ℕ × List ℕ → Type 0
SheetShort B rooms = (length rooms.0 < bytes_for B.size) ⊎ (length rooms.1 < codes)

-- the rooms hold an old sheet of as many statements, and its totals
abbrev pub OldSheet : Book → List ℕ × List ℕ → Type 0
OldSheet B rooms = SoundSheet B.size rooms.0 rooms.1

-- What an update refuses: "16 with place 0 for an old sheet with a 3, a size that isn't the register's, a set spare bit or wrong
-- totals, then 10".
abbrev pub UpdateRefused : Book → List ℕ × List ℕ → Refusal → Type 0
UpdateRefused B rooms r = ((¬ OldSheet B rooms) × (r ≡ Sheet)) ⊎ (OldSheet B rooms × Short (length rooms.1 < codes) r)

-- what an update leaves
abbrev pub UpdatedIn : Book → List ℕ × List ℕ → ℕ → List ℕ × List ℕ → Type 0
UpdatedIn B rooms n after = OldSheet B rooms × SheetIn B rooms n after

-- a fresh sheet
abbrev pub TextSheet : (text : List ℕ) → List ℕ × List ℕ → Answer → List ℕ × List ℕ → Type 0
TextSheet text rooms = OnText text (λ R. Short (SheetShort (book R) rooms)) (λ R. SheetIn (book R) rooms) rooms

-- the old sheet, updated
abbrev pub TextSheetUpdate : (text : List ℕ) → List ℕ × List ℕ → Answer → List ℕ × List ℕ → Type 0
TextSheetUpdate text rooms = OnText text (λ R. UpdateRefused (book R) rooms) (λ R. UpdatedIn (book R) rooms) rooms
