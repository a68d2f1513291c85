-- When a line of a text that is mended has which fate, said by the lines alone. "The cause is the first that holds of 2, 3, 5, 6
-- for a statement, of 2, 3, 7, 8, 9 for an objection; a line moved and kept has 4." That it has just that fate is proved.
use Rattle.std.specs.Prelude.{List, ◌⊎◌, ◌≡◌, ℕ, ◌≤◌, ◌<◌, T, length, get_or, take}
use Rattle.register.specs.declared.StatementLine.{StatementLine}
use Rattle.register.specs.declared.ObjectionLine.{ObjectionLine}
use Rattle.mend.specs.TextLines.{TextLine, spoiled, unended, StatementAt, ObjectionAt}
use Rattle.mend.specs.Fate.{Fate, kept, moved, dropped, stays, unended_line, spoiled_line, second_statement}
use Rattle.mend.specs.Fate.{statement_limit, unknown_number, repeat, objection_limit}
use Rattle.mend.specs.Mended.{fates}
use Rattle.mend.specs.Staying.{statements_staying, objections_staying}

-- A statement line before line k stays, and has this number; the number is known if any line of the text is such.
abbrev pub NumberBefore : List TextLine → ℕ → ℕ → Type 0
NumberBefore ls k n =
    (j : ℕ) × (st : StatementLine) × (j < k) × StatementAt ls j st × (st.number ≡ n) × T (stays (get_or (fates ls) j kept))

abbrev pub IsKnown : List TextLine → ℕ → Type 0
IsKnown ls n = NumberBefore ls (length ls) n

-- an objection line before line k is kept, and has the same objector and target
abbrev pub SameBefore : List TextLine → ℕ → ObjectionLine → Type 0
SameBefore ls k o =
    (j : ℕ) × (p : ObjectionLine) × (j < k) × ObjectionAt ls j p × (p.objector ≡ o.objector) × (p.target ≡ o.target)
    × (get_or (fates ls) j kept ≡ kept)

-- an objection line stands before line k, whatever becomes of it
abbrev pub ObjectionBefore : List TextLine → ℕ → Type 0
ObjectionBefore ls k = (j : ℕ) × (o : ObjectionLine) × (j < k) × ObjectionAt ls j o

-- how many statement lines, how many objection lines before line k stay
abbrev pub statements_before : List TextLine → ℕ → ℕ
statements_before ls k = length (statements_staying (take k ls) (take k (fates ls)))

abbrev pub objections_before : List TextLine → ℕ → ℕ
objections_before ls k = length (objections_staying (take k ls) (take k (fates ls)))

-- line k is a statement line, new and within the limit; it is an objection line between known numbers
abbrev pub NewStatement : List TextLine → ℕ → Type 0
NewStatement ls k =
    (st : StatementLine) × StatementAt ls k st × (¬ NumberBefore ls k st.number) × (statements_before ls k < 1024)

abbrev pub KnownObjection : List TextLine → ℕ → (ObjectionLine → Type 0) → Type 0
KnownObjection ls k P = (o : ObjectionLine) × ObjectionAt ls k o × (IsKnown ls o.objector × IsKnown ls o.target) × P o

-- when line k has which fate
abbrev pub Due : List TextLine → ℕ → Fate → Type 0
Due ls k kept =
    (NewStatement ls k × (¬ ObjectionBefore ls k))
    ⊎ KnownObjection ls k (λ o. (¬ SameBefore ls k o) × (objections_before ls k < 4096))
Due ls k moved = NewStatement ls k × ObjectionBefore ls k
Due ls k (dropped unended_line) = get_or ls k spoiled ≡ unended
Due ls k (dropped spoiled_line) = get_or ls k spoiled ≡ spoiled
Due ls k (dropped second_statement) = (st : StatementLine) × StatementAt ls k st × NumberBefore ls k st.number
Due ls k (dropped statement_limit) =
    (st : StatementLine) × StatementAt ls k st × (¬ NumberBefore ls k st.number) × (1024 ≤ statements_before ls k)
Due ls k (dropped unknown_number) =
    (o : ObjectionLine) × ObjectionAt ls k o × (¬ (IsKnown ls o.objector × IsKnown ls o.target))
Due ls k (dropped repeat) = KnownObjection ls k (SameBefore ls k)
Due ls k (dropped objection_limit) = KnownObjection ls k (λ o. (¬ SameBefore ls k o) × (4096 ≤ objections_before ls k))
