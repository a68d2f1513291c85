-- The loops over the lines: what is settled of the lines passed, and what is left to the lines from the place on.
use mathlib.Core.Bool.{Bool, false}
use mathlib.Core.List.{List, map, append_assoc, append-nil, [], ◌∷◌, ◌++◌}
use mathlib.Core.Path.{sym, ap, refl, subst, ◌≡◌, ◌∙◌}
use Prim.Native.Nat.{ℕ, ◌+◌, ◌≤◌, ◌<◌}
use native.Mathlib.Omega.{arith}
use lib.ListN.{length, take, set, drop, length-drop, get_or}
use lib.Seq.{take-set-lt, set_at, length-take-le, get_or-take, get_or_at}
use Rattle.register_index.specs.Indexed.{Indexed}
use Rattle.register.specs.declared.StatementLine.{StatementLine}
use Rattle.register.specs.declared.Line.TheVariants.{Statement, Objection}
use Rattle.register.specs.Register.{Register, Valid}
use Rattle.register_read.specs.ReadState.{Holds}
use Rattle.register.proofs.OneMore.{empty_valid}
use Rattle.register_read.proofs.Held.{take_more, holds_back}
use Rattle.mend.specs.TextLines.{TextLine, LinesOf, good, spoiled, unended}
use Rattle.mend.specs.Mended.{fates, with_statements, with_statement, late_after, mended, with_objections, fates_from}
use Rattle.mend.specs.Mended.{fate_of}
use Rattle.mend.specs.Mended.{with_objection}
use Rattle.mend.proofs.TextLines.{none_first, few_lines}
use Rattle.mend_line.specs.SettledRooms.{told, Stated}
use Rattle.mend_text.specs.Passes.{Passed, first_fates, StatementPassed, first_fate, StatementsSettled, later_fate}
use Rattle.mend_text.specs.Passes.{ObjectionPassed, ObjectionsSettled}
use Rattle.mend_text.specs.declared.StatementPass.{StatementPass}
use Rattle.mend_text.specs.declared.ObjectionPass.{ObjectionPass}

-- one fate more in its room
put_fate : (room : List ℕ) (k f : ℕ) (more : List ℕ) → k < length room
    → take k room ++ (f ∷ more) ≡ take (k + 1) (set room k f) ++ more
put_fate room k f more h =
    sym (append_assoc (take k room) (f ∷ []) more) ∙ ap (λ u. u ++ more) (sym (take_more room k f h))

-- k lines are passed, and the others are those from the place on
pub record Place (s : List ℕ) (ls : List TextLine) (at k : ℕ) (rest : List TextLine) : Type 0 where
  pub within : at ≤ length s
  pub left : LinesOf (drop at s) rest
  pub counted : length ls ≡ k + length rest

pub place_first : (s : List ℕ) (ls : List TextLine) → LinesOf s ls → Place s ls 0 0 ls
place_first s ls p = record { within = omega arith; left = p; counted = omega arith }

place_next : (s : List ℕ) (ls : List TextLine) (at k : ℕ) (rest : List TextLine) (next : ℕ) (line : TextLine) → Place s ls at k
    rest
    → (q : Passed s at rest next line) → Place s ls next (k + 1) q.more
place_next s ls at k rest next line p q =
    record { within = q.within; left = q.left; counted = omega (arith, p.counted, ap length q.first) }

place_last : (s : List ℕ) (ls : List TextLine) (at k : ℕ) (rest : List TextLine) → Place s ls at k rest → length s ≤ at → rest ≡
    []
place_last s ls at k rest p h = none_first (drop at s) rest (omega (arith, length-drop at s)) p.left

-- before the end there is a line, so its fate has room
pub fate_room : (s : List ℕ) (ls : List TextLine) (at k : ℕ) (rest : List TextLine) → LinesOf s ls → Place s ls at k rest
    → at < length s → length s ≤ 65535 → k < 65535
unfolding LinesOf
fate_room s ls at k rest lines p h few = go rest refl
  where
    go : (r : List TextLine) → rest ≡ r → k < 65535
    go [] e = absurd (omega (arith, ap length (subst (LinesOf (drop at s)) e p.left), length-drop at s))
    go (l ∷ r) e = omega (arith, p.counted, ap length e, few_lines s ls lines)

-- While statements are settled.
pub record Stating (s : List ℕ) (ls : List TextLine) (at n k : ℕ) (late : Bool) (nums marks links fates : List ℕ) : Type 0 where
  pub lines_of : LinesOf s ls
  pub rest : List TextLine
  pub place : Place s ls at k rest
  pub S : List StatementLine
  pub stated : Stated S n nums marks links
  pub kept : with_statements [] ls ≡ with_statements S rest
  pub fates_are : first_fates [] false ls ≡ take k fates ++ first_fates S late rest

pub stating_first : (s : List ℕ) (ls : List TextLine) (nums marks links fates : List ℕ) → LinesOf s ls → Indexed nums 0 links
    → Stating s ls 0 0 0 false nums marks links fates
stating_first s ls nums marks links fates p i = record {
  lines_of = p;
  rest = ls;
  place = place_first s ls p;
  S = [];
  stated = record {
    holds =
        record {
          statements = refl;
          objections = refl;
          numbers_are = refl;
          marks_are = refl;
          objectors_are = refl;
          targets_are
              = refl;
        };
    valid = empty_valid;
    indexed = i;
  };
  kept = refl;
  fates_are = refl;
}

pub stating_next : (s : List ℕ) (ls : List TextLine) (at n k : ℕ) (late : Bool) (nums marks links fates : List ℕ)
    → (v : Stating s ls at n k late nums marks links fates) → k < length fates → (r : StatementPass)
    (n' : ℕ) (nums' marks' links' : List ℕ) → StatementPassed s at v.rest v.S late r n' nums' marks' links'
    → Stating s ls r.next n' (k + 1) r.late nums' marks' links' (set fates k r.fate)
unfolding with_statements first_fates
stating_next s ls at n k late nums marks links fates v h r n' nums' marks' links' q = record {
  lines_of = v.lines_of;
  rest = q.passed.more;
  place = place_next s ls at k v.rest r.next q.line v.place q.passed;
  S = with_statement v.S q.line;
  stated = q.stated;
  kept = v.kept ∙ ap (with_statements v.S) q.passed.first;
  fates_are =
      v.fates_are ∙ ap (λ u. take k fates ++ first_fates v.S late u) q.passed.first
      ∙ ap (λ f. take k fates ++ (f ∷ waiting (late_after late q.line))) (sym q.fate_is)
      ∙ put_fate fates k r.fate (waiting (late_after late q.line)) h
      ∙ ap (λ b. take (k + 1) (set fates k r.fate) ++ waiting b) (sym q.late_is);
}
  where
    -- the fates of the lines behind this one
    waiting : Bool → List ℕ
    waiting b = first_fates (with_statement v.S q.line) b q.passed.more

pub stating_last : (s : List ℕ) (ls : List TextLine) (at n k : ℕ) (late : Bool) (nums marks links fates : List ℕ)
    → Stating s ls at n k late nums marks links fates → length s ≤ at
    → StatementsSettled s ls n nums marks links fates
unfolding with_statements first_fates
stating_last s ls at n k late nums marks links fates v h =
    let none : v.rest ≡ [] = place_last s ls at k v.rest v.place h in
    let c : length ls ≡ k = v.place.counted ∙ omega (arith, ap length none) in
    record {
      lines_of = v.lines_of;
      stated = subst (λ S. Stated S n nums marks links) (sym (v.kept ∙ ap (with_statements v.S) none)) v.stated;
      fates_are =
          ap (λ j. take j fates) c ∙ sym (append-nil (take k fates))
          ∙ sym (v.fates_are ∙ ap (λ u. take k fates ++ first_fates v.S late u) none);
    }

-- While objections are settled.
pub record Objecting (s : List ℕ) (ls : List TextLine) (at n m k : ℕ) (nums marks objectors targets fates-room : List ℕ) : Type 0
  where
    pub lines_of : LinesOf s ls
    pub rest : List TextLine
    pub place : Place s ls at k rest
    pub S : List StatementLine
    pub late : Bool
    pub R : Register
    pub valid : Valid R
    pub holds : Holds R n m nums marks objectors targets
    pub kept : mended ls ≡ with_objections R rest
    pub fates_are : map told (fates ls) ≡ take k fates-room ++ map told (fates_from S late R rest)
    pub ahead : take (length ls) fates-room ≡ take k fates-room ++ first_fates S late rest

both_fates : (S : List StatementLine) (late : Bool) (R : Register) (l : TextLine)
    → later_fate R l (first_fate S late l) ≡ told (fate_of S late R l)
both_fates S late R (good (Statement st)) = refl
both_fates S late R (good (Objection o)) = refl
both_fates S late R spoiled = refl
both_fates S late R unended = refl

pub objecting_next : (s : List ℕ) (ls : List TextLine) (at n m k : ℕ) (nums marks objectors targets fates-room : List ℕ)
    → (v : Objecting s ls at n m k nums marks objectors targets fates-room) → k < length fates-room → length ls ≤ length
    fates-room
    → (r : ObjectionPass) (marks' objectors' targets' fates' : List ℕ)
    → ObjectionPassed s at v.rest v.R n fates-room k r nums marks' objectors' targets' fates'
    → Objecting s ls r.next n r.objections (k + 1) nums marks' objectors' targets' fates'
unfolding with_objections fates_from first_fates
objecting_next s ls at n m k nums marks objectors targets room v h few r marks' objectors' targets' fates' q = record {
  lines_of = v.lines_of;
  rest = more;
  place = place_next s ls at k v.rest r.next line v.place q.passed;
  S = with_statement v.S line;
  late = late_after v.late line;
  R = with_objection v.R line;
  valid = q.valid;
  holds = q.holds;
  kept = v.kept ∙ ap (with_objections v.R) q.passed.first;
  fates_are =
      v.fates_are ∙ ap (λ u. take k room ++ map told (fates_from v.S v.late v.R u)) q.passed.first
      ∙ put_fate room k fate later h ∙ ap (λ u. take (k + 1) u ++ later) (sym put);
  ahead =
      ap (take (length ls)) put ∙ take-set-lt (length ls) room k fate l ∙ ap (λ u. set u k fate) first
      ∙ set_at (take k room) (first_fate v.S v.late line) waiting fate k (length-take-le k room (omega arith))
      ∙ put_fate room k fate waiting h ∙ ap (λ u. take (k + 1) u ++ waiting) (sym put);
}
  where
    line : TextLine
    line = q.line

    more : List TextLine
    more = q.passed.more

    fate : ℕ
    fate = told (fate_of v.S v.late v.R line)

    later : List ℕ
    later = map told (fates_from (with_statement v.S line) (late_after v.late line) (with_objection v.R line) more)

    waiting : List ℕ
    waiting = first_fates (with_statement v.S line) (late_after v.late line) more

    l : k < length ls
    l = omega (arith, v.place.counted, ap length q.passed.first)

    first : take (length ls) room ≡ take k room ++ (first_fate v.S v.late line ∷ waiting)
    first = v.ahead ∙ ap (λ u. take k room ++ first_fates v.S v.late u) q.passed.first

    was : get_or room k 0 ≡ first_fate v.S v.late line
    was =
        sym (get_or-take (length ls) room k 0 l) ∙ ap (λ u. get_or u k 0) first
        ∙ get_or_at (take k room) (first_fate v.S v.late line) waiting 0 k (length-take-le k room (omega arith))

    put : fates' ≡ set room k fate
    put = q.fates_are ∙ ap (λ f. set room k (later_fate v.R line f)) was ∙ ap (set room k)
        (both_fates v.S v.late v.R line)

pub objecting_last : (s : List ℕ) (ls : List TextLine) (at n m k : ℕ) (nums marks objectors targets fates-room : List ℕ)
    → Objecting s ls at n m k nums marks objectors targets fates-room → length s ≤ at
    → ObjectionsSettled ls n m nums marks objectors targets fates-room × (k ≡ length ls)
unfolding with_objections fates_from
objecting_last s ls at n m k nums marks objectors targets room v h =
    let none : v.rest ≡ [] = place_last s ls at k v.rest v.place h in
    let c : length ls ≡ k = v.place.counted ∙ omega (arith, ap length none) in
    let e : mended ls ≡ v.R = v.kept ∙ ap (with_objections v.R) none in (
      record {
        valid = subst Valid (sym e) v.valid;
        holds = subst (λ Q. Holds Q n m nums marks objectors targets) (sym e) v.holds;
        fates_are =
            ap (λ j. take j room) c ∙ sym (append-nil (take k room))
            ∙ sym (v.fates_are ∙ ap (λ u. take k room ++ map told (fates_from v.S v.late v.R u)) none);
      },
      sym c,
    )

-- what is settled in linked rooms is settled in the lists given back
pub settled_back : (ls : List TextLine) (n m : ℕ) (nums marks objectors targets fates-room objectors' targets' : List ℕ)
    → ObjectionsSettled ls n m nums marks objectors targets fates-room → take m objectors' ≡ take m objectors
    → take m targets' ≡ take m targets → ObjectionsSettled ls n m nums marks objectors' targets' fates-room
settled_back ls n m nums marks objectors targets fates-room objectors' targets' s p q = record {
  valid = s.valid;
  holds = holds_back (mended ls) n m nums marks objectors targets objectors' targets' s.holds p q;
  fates_are = s.fates_are;
}
