-- What reading any text line by line leaves in the lent rooms, not for callers of the product: first statements are settled, then
-- objections, and each line has the number of its fate in a room of its own.
use Rattle.std.specs.Prelude.{Bool, cond, false, ◌&&◌, List, map, [], ◌∷◌, ◌++◌, ◌≡◌, ℕ, ◌≤◌, ◌<◌, eqb, length, get_or, drop, set}
use Rattle.std.specs.Prelude.{Some, take}
use Rattle.register.specs.Lines.{BeginsWith}
use Rattle.register_line.specs.LineReading.{GotAt}
use Rattle.register.specs.declared.StatementLine.{StatementLine}
use Rattle.register.specs.declared.Line.{Line}
use Rattle.register.specs.declared.Line.TheVariants.{Statement, Objection}
use Rattle.register.specs.Register.{Register, Valid}
use Rattle.register_read.specs.ReadState.{Holds}
use Rattle.mend.specs.TextLines.{Unbroken, TextLine, good, spoiled, unended, LinesOf}
use Rattle.mend.specs.Mended.{moved_if, settle_statement, with_statement, late_after, settle_objection, fates, with_objection}
use Rattle.mend.specs.Mended.{listed}
use Rattle.mend.specs.Mended.{mended}
use Rattle.mend_line.specs.SettledRooms.{told, Stated}
use Rattle.mend_text.specs.declared.AnyLine.{AnyLine}
use Rattle.mend_text.specs.declared.AnyLine.TheVariants.{Good, Spoiled, Unended}
use Rattle.mend_text.specs.declared.StatementPass.{StatementPass}
use Rattle.mend_text.specs.declared.ObjectionPass.{ObjectionPass}
use Rattle.mend_text.specs.declared.KeptCounts.{KeptCounts}

-- the line at a place of any text, and where the next one starts
abbrev pub AnyLineAt : List ℕ → ℕ → AnyLine → Type 0
AnyLineAt s at (Good l next) = GotAt s at (Some (l, next))
AnyLineAt s at (Spoiled next) =
    ((l : Line) → ¬ BeginsWith l (drop at s)) × (at < next) × (next ≤ length s)
    × ((w : List ℕ) × Unbroken w × (drop at s ≡ w ++ (10 ∷ drop next s)))
AnyLineAt s at Unended = Unbroken (drop at s)

-- the number of a statement line's fate, from that of settling it
abbrev pub told_if : Bool → ℕ → ℕ
told_if late fate = cond (late && eqb fate 0) 4 fate

-- the number of a line's fate once statements are settled: that of an objection waits, as 0
abbrev pub first_fate : List StatementLine → Bool → TextLine → ℕ
first_fate S late (good (Statement st)) = told (moved_if late (settle_statement S st).0)
first_fate S late (good (Objection o)) = 0
first_fate S late spoiled = 3
first_fate S late unended = 2

unfoldable pub first_fates : List StatementLine → Bool → List TextLine → List ℕ
first_fates S late [] = []
first_fates S late (l ∷ ls) = first_fate S late l ∷ first_fates (with_statement S l) (late_after late l) ls

-- the number of a line's fate once objections are settled, from that before
abbrev pub later_fate : Register → TextLine → ℕ → ℕ
later_fate R (good (Statement st)) f = f
later_fate R (good (Objection o)) f = told (settle_objection R o).0
later_fate R spoiled f = f
later_fate R unended f = f

-- ls are the lines from a place on; the first of them is passed, and the others are those from `next` on
pub record Passed (s : List ℕ) (at : ℕ) (ls : List TextLine) (next : ℕ) (line : TextLine) : Type 0 where
  pub more : List TextLine
  pub first : ls ≡ line ∷ more
  pub left : LinesOf (drop next s) more
  pub onward : at < next
  pub within : next ≤ length s

-- One line passed while statements are settled, and while objections are.
pub record StatementPassed (s : List ℕ) (at : ℕ) (ls : List TextLine) (S : List StatementLine) (late : Bool) (r : StatementPass)
    (n' : ℕ) (nums' marks' links' : List ℕ) : Type 0 where
  pub line : TextLine
  pub passed : Passed s at ls r.next line
  pub stated : Stated (with_statement S line) n' nums' marks' links'
  pub late_is : r.late ≡ late_after late line
  pub fate_is : r.fate ≡ first_fate S late line

pub record ObjectionPassed (s : List ℕ) (at : ℕ) (ls : List TextLine) (R : Register) (n : ℕ) (fates : List ℕ) (k : ℕ)
    (r : ObjectionPass) (nums marks' objectors' targets' fates' : List ℕ) : Type 0 where
  pub line : TextLine
  pub passed : Passed s at ls r.next line
  pub valid : Valid (with_objection R line)
  pub holds : Holds (with_objection R line) n r.objections nums marks' objectors' targets'
  pub fates_are : fates' ≡ set fates k (later_fate R line (get_or fates k 0))

-- The statements of a text with these lines are settled; then its objections; both, with how many there are.
pub record StatementsSettled (s : List ℕ) (ls : List TextLine) (n : ℕ) (nums marks links fates : List ℕ) : Type 0 where
  pub lines_of : LinesOf s ls
  pub stated : Stated (listed ls).statements n nums marks links
  pub fates_are : take (length ls) fates ≡ first_fates [] false ls

pub record ObjectionsSettled (ls : List TextLine) (n m : ℕ) (nums marks objectors targets fates-room : List ℕ) : Type 0 where
  pub valid : Valid (mended ls)
  pub holds : Holds (mended ls) n m nums marks objectors targets
  pub fates_are : take (length ls) fates-room ≡ map told (fates ls)

pub record TextSettled (s : List ℕ) (r : KeptCounts) (nums marks objectors targets fates-room : List ℕ) : Type 0 where
  pub ls : List TextLine
  pub lines_of : LinesOf s ls
  pub counted : r.lines ≡ length ls
  pub settled : ObjectionsSettled ls r.statements r.objections nums marks objectors targets fates-room

-- the rooms for statements and fates are long enough; those for objections too
abbrev pub StatementRooms : (nums marks fates : List ℕ) → Type 0
StatementRooms nums marks fates = (1024 ≤ length nums) × (1024 ≤ length marks) × (65535 ≤ length fates)

abbrev pub ObjectionRooms : (objectors targets : List ℕ) → Type 0
ObjectionRooms objectors targets = (4096 ≤ length objectors) × (4096 ≤ length targets)
