-- The table of the calls between the two forms: tests of its rows, put together as the promises are, and that every row holds.
use mathlib.Core.List.{List}
use Prim.Native.Nat.{ℕ, ◌<◌}
use lib.ListN.{length}
use Rattle.game.specs.Book.{any, all}
use Rattle.register.specs.Texts.{decimal, decimal_in}
use Rattle.register.specs.Number.{number_bytes}
use Rattle.register.specs.Register.{bytes, place_of, written}
use Rattle.register.proofs.Decimals.{spell}
use Rattle.register.proofs.Number.{number_test, spell_number}
use Rattle.register.proofs.Guess.{field, behind, guess_mark, guess_fields, guess_line, ahead, formed_test, begins_test}
use Rattle.register.proofs.Guess.{spoiled_test}
use Rattle.catalogue.specs.Cards.{fields_bytes, cards_bytes}
use Rattle.catalogue.specs.Regrouped.{against, catalogued, all_objections}
use Rattle.catalogue.specs.CatalogueReads.{CatalogueAccepts}
use Rattle.catalogue.proofs.CardGuess.{guess_objectors, guess_behind, guess_card, numbers_test, card_test, spoiled_card_test}
use Rattle.answer.specs.Answer.{Short, Written}
use Rattle.answer.specs.Answer.{Answer}
use Rattle.promises.specs.CatalogueCalls.{TextCatalogue, CatalogueText, CatalogueRefused}
use Rattle.examples.specs.Table.{ascii, in_parts, Every}
use Rattle.examples.specs.CatalogueTable.{CatalogueRow, catalogue, uncatalogue, OnFormSays, catalogue_table}
use Rattle.examples.proofs.Rows.{pass, pass_is}
use Rattle.examples.proofs.Text.{behind_line, rest_from, guess_first, line_count, register_of, same, issued, numbered}
use Rattle.examples.proofs.Text.{differ, known, distinct, ordered, accepted, unended_test}
use Rattle.examples.proofs.Test.{Test, so, decided, below}
use Rattle.examples.proofs.Promise.{for_fault, on_input, in_numbers, unchanged, writes, short}
use Rattle.examples.proofs.Fault.{fault_of}
use Rattle.examples.proofs.CardFault.{guess_cards, cards_of, catalogue_accepted, catalogue_fault, R}
use Rattle.examples.proofs.TextTable.{on_text, refusal_of}

module _ (s room : List ℕ) where
  abbrev pub catalogue_by : (a : Answer) (after : List ℕ) → Test (TextCatalogue s room a after)
  catalogue_by =
      on_text s (λ R. Short (length room < length (catalogued R))) (λ R. Written (catalogued R) room) room
      (short (so (λ h t. h) (decided (below (length room) (length (catalogued (register_of s)))))))
      (λ n after. so (λ w t. w) (writes n room after (catalogued (register_of s)))) (unchanged room)

  abbrev pub text_by : (a : Answer) (after : List ℕ) → Test (CatalogueText s room a after)
  text_by =
      on_input (CatalogueAccepts s) (CatalogueRefused s) (λ R. Short (length room < length (written R)))
      (λ R. Written (written R) room) room (R s) (catalogue_accepted s) (for_fault (catalogue_fault s))
      (short (so (λ h t. h) (decided (below (length room) (length (written (R s)))))))
      (λ n after. so (λ w t. w) (writes n room after (written (R s)))) (unchanged room)

-- The test of a row.
test_of : (r : CatalogueRow) → Test (OnFormSays r)
test_of (catalogue text room c after) =
    in_numbers (λ a. TextCatalogue (ascii text) (ascii room) a (ascii after)) refusal_of c
    (λ a. catalogue_by (ascii text) (ascii room) a (ascii after))
test_of (uncatalogue cards room c after) =
    in_numbers (λ a. CatalogueText (ascii cards) (ascii room) a (ascii after)) refusal_of c
    (λ a. text_by (ascii cards) (ascii room) a (ascii after))

-- Every row holds.
pub catalogue_table_holds : Every OnFormSays catalogue_table
unfolding catalogue_table test_of pass refusal_of fault_of
    ascii in_parts field behind guess_mark guess_fields guess_line spell spell_number ahead formed_test begins_test spoiled_test
    behind_line rest_from guess_first line_count register_of same issued numbered differ known distinct ordered accepted
    unended_test
    guess_objectors guess_behind guess_card numbers_test card_test spoiled_card_test guess_cards cards_of
    fields_bytes cards_bytes against all_objections
    any all number_test number_bytes decimal decimal_in bytes place_of
catalogue_table_holds = pass_is OnFormSays (λ r. (test_of r).passes) (λ r t. (test_of r).is t) catalogue_table tt
