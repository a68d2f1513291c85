-- The four idle programs of 01, shut out by the promises themselves, each by a named input: on the lone read statement the one
-- that refuses all, the one that says open of all and the one that writes nothing; on the chain of four the one that labels
-- lengths 0 and 1 only, and the one with invented lengths. What a promise allows there is computed by the tests of the tables,
-- and each promise leaves one answer.
use mathlib.Core.Bool.{not}
use mathlib.Core.List.{List, [], ◌∷◌}
use mathlib.Core.Path.{ap, ◌≡◌}
use Prim.Native.Nat.{ℕ}
use native.Mathlib.Omega.{arith}
use lib.Dec.{T, T_not}
use Rattle.game.specs.Book.{book_of, any, all, count}
use Rattle.game.specs.Account.{account_number, account_length}
use Rattle.game.specs.Rules.{stands_within, falls_within}
use Rattle.game.proofs.Verdict.{verdict, verdict_by}
use Rattle.game.proofs.Reason.{reaching, belonging, counts}
use Rattle.register.specs.Texts.{decimal, decimal_in}
use Rattle.register.specs.Number.{number_bytes}
use Rattle.register.specs.Register.{bytes, place_of}
use Rattle.register.proofs.Decimals.{spell}
use Rattle.register.proofs.Number.{number_test, spell_number}
use Rattle.register.proofs.Guess.{field, behind, guess_mark, guess_fields, guess_line}
use Rattle.answer.specs.declared.Refusal.{Refusal}
use Rattle.answer.specs.Answer.{Answer}
use Rattle.std.specs.Prelude.{Ok, Err}
use Rattle.listing.specs.Rows.{statement_row, numbers_row}
use Rattle.listing.specs.Listing.{objection_rows, statement_rows}
use Rattle.reason.specs.Alone.{keep}
use Rattle.sheet.specs.Sheet.{code_at, total}
use Rattle.promises.specs.LabelCalls.{TextLabels, PairsLabels, TextLengths, PairsLengths}
use Rattle.promises.specs.ListingCalls.{TextListing}
use Rattle.promises.specs.ReasonCalls.{TextReason}
use Rattle.promises.specs.SheetCalls.{TextSheet}
use Rattle.promises.specs.MendCalls.{TextMend, Lent}
use Rattle.promises.proofs.UniqueLabels.{unique_pairs_labels, unique_pairs_lengths, unique_text_labels, unique_text_lengths}
use Rattle.promises.proofs.UniqueListing.{unique_text_listing}
use Rattle.promises.proofs.UniqueReason.{unique_text_reason}
use Rattle.promises.proofs.UniqueSheet.{unique_text_sheet}
use Rattle.promises.proofs.UniqueMend.{unique_text_mend}
use Rattle.examples.specs.Table.{ascii}
use Rattle.examples.proofs.Text.{behind_line, guess_first, line_count, register_of, same, same_passes, issued, numbered}
use Rattle.examples.proofs.Text.{differ, known, distinct, ordered, accepted}
use Rattle.examples.proofs.Told.{inside, coded, packed}
use Rattle.examples.proofs.ListsTable as lists
use Rattle.examples.proofs.TextTable as text

-- the two inputs
abbrev pub lone_bytes : List ℕ
lone_bytes = ascii "S\t1\tR\n"

abbrev pub chain_bytes : List ℕ
chain_bytes = ascii "S\t1\tU\nS\t2\tR\nS\t3\tR\nS\t4\tR\nO\t4\t3\nO\t3\t2\nO\t2\t1\n"

abbrev pub chain_marks : List ℕ
chain_marks = 1 ∷ 0 ∷ 0 ∷ 0 ∷ []

abbrev pub chain_objectors : List ℕ
chain_objectors = 3 ∷ 2 ∷ 1 ∷ []

abbrev pub chain_targets : List ℕ
chain_targets = 2 ∷ 1 ∷ 0 ∷ []

-- a room of bytes, and rooms of four entries
abbrev pub dots : List ℕ
dots = ascii "........................"

abbrev pub nines : List ℕ
nines = 9 ∷ 9 ∷ 9 ∷ 9 ∷ []

-- What the promises allow there: the lone read statement stands, in 0 turns; the chain falls in 3, stands in 2, falls in 1,
-- stands in 0.
pub record Texts : Type 0 where
  pub labels : TextLabels lone_bytes nines (Ok 1) (1 ∷ 9 ∷ 9 ∷ 9 ∷ [])
  pub listing : TextListing lone_bytes dots (Ok 24) (ascii "REGISTER\t1\t0\n1\tstands\t0\n")
  pub reason : TextReason lone_bytes 1 dots (Ok 11) (ascii "1\tstands\t0\n.............")
  pub sheet : TextSheet lone_bytes (nines, nines) (Ok 1) (1 ∷ 9 ∷ 9 ∷ 9 ∷ [], 0 ∷ 1 ∷ 0 ∷ 9 ∷ [])
  pub mended : TextMend lone_bytes (dots, nines, 9) (Ok 6) (ascii "S\t1\tR\n..................", nines, 0)
  pub chain_labels : TextLabels chain_bytes nines (Ok 4) (2 ∷ 1 ∷ 2 ∷ 1 ∷ [])
  pub chain_lengths : TextLengths chain_bytes nines (Ok 4) (3 ∷ 2 ∷ 1 ∷ 0 ∷ [])

texts : Texts
unfolding ascii field behind guess_mark guess_fields guess_line spell
    spell_number behind_line guess_first line_count register_of same issued numbered
    differ known distinct ordered accepted inside coded packed code_at total count any all book_of stands_within falls_within
    verdict verdict_by number_test number_bytes decimal decimal_in bytes place_of numbers_row statement_row statement_rows
    objection_rows
    keep counts belonging reaching
texts = record {
  labels = (text.statements lone_bytes account_number nines (Ok 1) (1 ∷ 9 ∷ 9 ∷ 9 ∷ [])).is tt;
  listing = (text.listed lone_bytes dots (Ok 24) (ascii "REGISTER\t1\t0\n1\tstands\t0\n")).is tt;
  reason = (text.reason_by lone_bytes 1 dots (Ok 11) (ascii "1\tstands\t0\n.............")).is tt;
  sheet = (text.sheet_by lone_bytes (nines, nines) (Ok 1) (1 ∷ 9 ∷ 9 ∷ 9 ∷ [], 0 ∷ 1 ∷ 0 ∷ 9 ∷ [])).is tt;
  mended = (text.mend_by lone_bytes (dots, nines, 9) (Ok 6) (ascii "S\t1\tR\n..................", nines, 0)).is tt;
  chain_labels = (text.statements chain_bytes account_number nines (Ok 4) (2 ∷ 1 ∷ 2 ∷ 1 ∷ [])).is tt;
  chain_lengths = (text.statements chain_bytes account_length nines (Ok 4) (3 ∷ 2 ∷ 1 ∷ 0 ∷ [])).is tt;
}

pub record OnLists : Type 0 where
  pub labels : PairsLabels (0 ∷ []) [] [] nines (Ok 1) (1 ∷ 9 ∷ 9 ∷ 9 ∷ [])
  pub chain_labels : PairsLabels chain_marks chain_objectors chain_targets nines (Ok 4) (2 ∷ 1 ∷ 2 ∷ 1 ∷ [])
  pub chain_lengths : PairsLengths chain_marks chain_objectors chain_targets nines (Ok 4) (3 ∷ 2 ∷ 1 ∷ 0 ∷ [])

on_lists_lem : OnLists
unfolding same any all book_of stands_within falls_within verdict verdict_by
on_lists_lem = record {
  labels = (lists.statements (0 ∷ []) [] [] account_number nines (Ok 1) (1 ∷ 9 ∷ 9 ∷ 9 ∷ [])).is tt;
  chain_labels =
      (lists.statements chain_marks chain_objectors chain_targets account_number nines (Ok 4) (2 ∷ 1 ∷ 2 ∷ 1 ∷ [])).is tt;
  chain_lengths =
      (lists.statements chain_marks chain_objectors chain_targets account_length nines (Ok 4) (3 ∷ 2 ∷ 1 ∷ 0 ∷ [])).is tt;
}

-- So the idle programs break their promises: P is the promise, and it allows one answer.
module _ {Rooms : Type 0} (P : Answer → Rooms → Type 0) (n : ℕ) (right : Rooms)
    (one : (a : Answer) (after : Rooms) → P a after → (a ≡ Ok n) × (after ≡ right)) where
  refuses_all : (r : Refusal) (after : Rooms) → P (Err r) after → ⊥
  refuses_all r after p = let e : Err r ≡ Ok n = (one (Err r) after p).0 in let z : ◌≡◌ {A = ℕ} 0 1 = cc in omega arith

  -- whatever else it leaves in the rooms
  leaves : (after : Rooms) → (after ≡ right → ⊥) → (a : Answer) → P a after → ⊥
  leaves after ne a p = ne (one a after p).1

-- the one that refuses all, the one that says open of all, and the one that writes nothing
abbrev pub ShutOut : {Rooms : Type 0} → (P : Answer → Rooms → Type 0) → (all-open nothing : Rooms) → Type 0
ShutOut {Rooms} P all-open nothing =
    ((r : Refusal) (after : Rooms) → P (Err r) after → ⊥) × ((a : Answer) → P a all-open → ⊥)
    × ((a : Answer) → P a nothing → ⊥)

shut_out : {Rooms : Type 0} (P : Answer → Rooms → Type 0) (n : ℕ) (right all-open nothing : Rooms)
    → ((a : Answer) (after : Rooms) → P a after → (a ≡ Ok n) × (after ≡ right)) → (all-open ≡ right → ⊥)
    → (nothing ≡ right → ⊥) → ShutOut P all-open nothing
shut_out P n right all-open nothing one h k =
    (refuses_all P n right one, leaves P n right one all-open h, leaves P n right one nothing k)

differing : (u v : List ℕ) → T (not (same u v)) → u ≡ v → ⊥
differing u v t e = T_not (same u v) t (same_passes u v e)

pub idle_texts : ShutOut (TextLabels lone_bytes nines) (0 ∷ 9 ∷ 9 ∷ 9 ∷ []) nines
unfolding same
idle_texts =
    shut_out (TextLabels lone_bytes nines) 1 (1 ∷ 9 ∷ 9 ∷ 9 ∷ []) (0 ∷ 9 ∷ 9 ∷ 9 ∷ []) nines
    (λ a after p. unique_text_labels lone_bytes nines a (Ok 1) after (1 ∷ 9 ∷ 9 ∷ 9 ∷ []) p texts.labels)
    (differing (0 ∷ 9 ∷ 9 ∷ 9 ∷ []) (1 ∷ 9 ∷ 9 ∷ 9 ∷ []) tt) (differing nines (1 ∷ 9 ∷ 9 ∷ 9 ∷ []) tt)

pub idle_lists : ShutOut (PairsLabels (0 ∷ []) [] [] nines) (0 ∷ 9 ∷ 9 ∷ 9 ∷ []) nines
unfolding same
idle_lists =
    shut_out (PairsLabels (0 ∷ []) [] [] nines) 1 (1 ∷ 9 ∷ 9 ∷ 9 ∷ []) (0 ∷ 9 ∷ 9 ∷ 9 ∷ []) nines
    (λ a after p. unique_pairs_labels (0 ∷ []) [] [] nines a (Ok 1) after (1 ∷ 9 ∷ 9 ∷ 9 ∷ []) p on_lists_lem.labels)
    (differing (0 ∷ 9 ∷ 9 ∷ 9 ∷ []) (1 ∷ 9 ∷ 9 ∷ 9 ∷ []) tt) (differing nines (1 ∷ 9 ∷ 9 ∷ 9 ∷ []) tt)

pub idle_listing : ShutOut (TextListing lone_bytes dots) (ascii "REGISTER\t1\t0\n1\topen\t-\n..") dots
unfolding same ascii
idle_listing =
    let right : List ℕ = ascii "REGISTER\t1\t0\n1\tstands\t0\n" in
    shut_out (TextListing lone_bytes dots) 24 right (ascii "REGISTER\t1\t0\n1\topen\t-\n..") dots
    (λ a after p. unique_text_listing lone_bytes dots a (Ok 24) after right p texts.listing)
    (differing (ascii "REGISTER\t1\t0\n1\topen\t-\n..") right tt) (differing dots right tt)

pub idle_reason : ShutOut (TextReason lone_bytes 1 dots) (ascii "1\topen\t-\n...............") dots
unfolding same ascii
idle_reason =
    let right : List ℕ = ascii "1\tstands\t0\n............." in
    shut_out (TextReason lone_bytes 1 dots) 11 right (ascii "1\topen\t-\n...............") dots
    (λ a after p. unique_text_reason lone_bytes 1 dots a (Ok 11) after right p texts.reason)
    (differing (ascii "1\topen\t-\n...............") right tt) (differing dots right tt)

pub idle_sheet : ShutOut (TextSheet lone_bytes (nines, nines)) (0 ∷ 9 ∷ 9 ∷ 9 ∷ [], 1 ∷ 0 ∷ 0 ∷ 9 ∷ []) (nines, nines)
unfolding same
idle_sheet =
    let right : List ℕ × List ℕ = (1 ∷ 9 ∷ 9 ∷ 9 ∷ [], 0 ∷ 1 ∷ 0 ∷ 9 ∷ []) in
    shut_out (TextSheet lone_bytes (nines, nines)) 1 right (0 ∷ 9 ∷ 9 ∷ 9 ∷ [], 1 ∷ 0 ∷ 0 ∷ 9 ∷ []) (nines, nines)
    (λ a after p. unique_text_sheet lone_bytes (nines, nines) a (Ok 1) after right p texts.sheet)
    (λ e. differing (0 ∷ 9 ∷ 9 ∷ 9 ∷ []) right.0 tt (ap (λ (u : List ℕ × List ℕ). u.0) e))
    (λ e. differing nines right.0 tt (ap (λ (u : List ℕ × List ℕ). u.0) e))

-- of a mended text: that a statement is unread is all that could be said of each
pub idle_mend : ShutOut (TextMend lone_bytes (dots, nines, 9)) (ascii "S\t1\tU\n..................", nines, 0) (dots, nines, 9)
unfolding same ascii
idle_mend =
    let right : Lent = (ascii "S\t1\tR\n..................", nines, 0) in
    shut_out (TextMend lone_bytes (dots, nines, 9)) 6 right (ascii "S\t1\tU\n..................", nines, 0) (dots, nines, 9)
    (λ a after p. unique_text_mend lone_bytes (dots, nines, 9) a (Ok 6) after right p texts.mended)
    (λ e. differing (ascii "S\t1\tU\n..................") right.0 tt (ap (λ (u : Lent). u.0) e))
    (λ e. differing dots right.0 tt (ap (λ (u : Lent). u.0) e))

-- the one that leaves what takes more than one turn open, and the one with any other lengths
abbrev pub ChainShutOut : (labels lengths : Answer → List ℕ → Type 0) → Type 0
ChainShutOut labels lengths =
    ((a : Answer) → labels a (0 ∷ 0 ∷ 2 ∷ 1 ∷ []) → ⊥)
    × ((after : List ℕ) → (after ≡ 3 ∷ 2 ∷ 1 ∷ 0 ∷ [] → ⊥) → (a : Answer) → lengths a after → ⊥)

chain_shut_out : (labels lengths : Answer → List ℕ → Type 0) → ((a : Answer) (after : List ℕ) → labels a after → (a ≡ Ok 4)
    × (after ≡ 2 ∷ 1 ∷ 2 ∷ 1 ∷ [])) → ((a : Answer) (after : List ℕ) → lengths a after → (a ≡ Ok 4)
    × (after ≡ 3 ∷ 2 ∷ 1 ∷ 0 ∷ [])) → ChainShutOut labels lengths
unfolding same
chain_shut_out labels lengths one_Label one-length = (
  leaves labels 4 (2 ∷ 1 ∷ 2 ∷ 1 ∷ []) one_Label (0 ∷ 0 ∷ 2 ∷ 1 ∷ []) (differing (0 ∷ 0 ∷ 2 ∷ 1 ∷ []) (2 ∷ 1 ∷ 2 ∷ 1 ∷ []) tt),
  leaves lengths 4 (3 ∷ 2 ∷ 1 ∷ 0 ∷ []) one-length,
)

pub idle_chain_texts : ChainShutOut (TextLabels chain_bytes nines) (TextLengths chain_bytes nines)
idle_chain_texts =
    chain_shut_out (TextLabels chain_bytes nines) (TextLengths chain_bytes nines)
    (λ a after p. unique_text_labels chain_bytes nines a (Ok 4) after (2 ∷ 1 ∷ 2 ∷ 1 ∷ []) p texts.chain_labels)
    (λ a after p. unique_text_lengths chain_bytes nines a (Ok 4) after (3 ∷ 2 ∷ 1 ∷ 0 ∷ []) p texts.chain_lengths)

pub idle_chain_lists : ChainShutOut (PairsLabels chain_marks chain_objectors chain_targets nines)
    (PairsLengths chain_marks chain_objectors chain_targets nines)
idle_chain_lists =
    let labels : Answer → List ℕ → Type 0 = PairsLabels chain_marks chain_objectors chain_targets nines in
    let lengths : Answer → List ℕ → Type 0 = PairsLengths chain_marks chain_objectors chain_targets nines in
    chain_shut_out labels lengths
    (λ a after p. unique_pairs_labels chain_marks chain_objectors chain_targets nines a (Ok 4) after (2 ∷ 1 ∷ 2 ∷ 1 ∷ []) p
    on_lists_lem.chain_labels)
    (λ a after p. unique_pairs_lengths chain_marks chain_objectors chain_targets nines a (Ok 4) after (3 ∷ 2 ∷ 1 ∷ 0 ∷ []) p
    on_lists_lem.chain_lengths)
