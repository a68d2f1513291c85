-- The three demands, said of what the public calls promise: the top of everything, where a reader starts. `Settled` and
-- `Answers` are said of every text and of every handed list (demand 1); what a written label, length or kind says, by demands
-- 2 and 3, is said of a book and its places. That the promises say so is proved in proofs/Demands and proofs/CallsSay.
use Rattle.std.specs.Prelude.{List, ◌⊎◌, ◌↔◌, ◌≡◌, ℕ, suc, ◌≤◌, ◌<◌, get_or}
use Rattle.game.specs.Book.{Book, Objects}
use Rattle.game.specs.Game.{FirstWins, SecondWins}
use Rattle.game.specs.Label.{Falls, Stands, Open, Least, Means}
use Rattle.game.specs.Finish.{Finish}
use Rattle.register.specs.Register.{Register}
use Rattle.register.specs.Reads.{Accepts}
use Rattle.answer.specs.declared.Refusal.{Refusal}
use Rattle.answer.specs.Answer.{Answer}
use Rattle.std.specs.Prelude.{Ok, Err}
use Rattle.answer.specs.declared.CAnswer.{CAnswer}
use Rattle.answer.specs.Refusals.{refusal_number, refusal_place}
use Rattle.answer.specs.InC.{InC}
use Rattle.game.specs.Label as verdict

-- "Every register text or list of pairs is either listed or refused, and nothing is left for the caller to check first. [..]
-- refused with a fixed number and place, and the caller's answer room is untouched." An input is accepted as what it makes (a
-- text as a register), or it is refused.
pub record Settled {Made : Type 0} (accepts : Made → Type 0) (refuses : Refusal → Type 0) : Type 0 where
  pub either : ((m : Made) × accepts m) ⊎ ((r : Refusal) × refuses r)
  pub not_both : (m : Made) (r : Refusal) → accepts m → refuses r → ⊥
  pub one_refusal : (r r' : Refusal) → refuses r → refuses r' → r ≡ r'

-- What a call does with it. There is something that the promise allows; and whatever that is, an answer is given exactly if the
-- input is accepted and nothing else is amiss (`fine`, said of each call in `Fine`); the refusal of a refused input is that
-- input's; and a refusal leaves the rooms as found.
pub record Answers {Rooms : Type 0} (fine : Type 0) (refuses : Refusal → Type 0) (promise : Answer → Rooms → Type 0)
    (rooms : Rooms) : Type 0 where
  pub there : (a : Answer) × (after : Rooms) × promise a after
  pub gives : (a : Answer) (after : Rooms) → promise a after → ((n : ℕ) × (a ≡ Ok n)) ↔ fine
  pub refusal : (a : Answer) (after : Rooms) → promise a after → (r : Refusal) → refuses r → a ≡ Err r
  pub untouched : (r : Refusal) (after : Rooms) → promise (Err r) after → after ≡ rooms

-- The same as C sees it, of the exported function for that call: `refusal` is 0 exactly if nothing is amiss; of a refused input
-- it is 01's number, with the place as `value`; and where it is not 0, the rooms are as found.
pub record AnswersInC {Rooms : Type 0} (fine : Type 0) (refuses : Refusal → Type 0) (promise : Answer → Rooms → Type 0)
    (rooms : Rooms) : Type 0 where
  pub there : (c : CAnswer) × (after : Rooms) × InC (λ a. promise a after) c
  pub gives : (c : CAnswer) (after : Rooms) → InC (λ a. promise a after) c → (c.refusal ≡ 0) ↔ fine
  pub refusal : (c : CAnswer) (after : Rooms) → InC (λ a. promise a after) c → (r : Refusal) → refuses r
      → (c.refusal ≡ refusal_number r) × (c.value ≡ refusal_place r)
  pub untouched : (c : CAnswer) (after : Rooms) → InC (λ a. promise a after) c → (c.refusal ≡ 0 → ⊥) → after ≡ rooms

-- What a label written for x says. "A statement falls exactly if the first speaker can force a win, stands exactly if the second
-- can, and is otherwise open." "A listed statement falls exactly if it falls in every finish, and stands exactly if it stands in
-- every finish."
pub record LabelSays (B : Book) (x label : ℕ) : Type 0 where
  pub falls : (label ≡ 2) ↔ Falls B x
  pub stands : (label ≡ 1) ↔ Stands B x
  pub is_open : (label ≡ 0) ↔ Open B x
  pub falls_finishes : (label ≡ 2) ↔ ((F : Book) → Finish B F → Falls F x)
  pub stands_finishes : (label ≡ 1) ↔ ((F : Book) → Finish B F → Stands F x)

-- What a length written for x says. "Its length is the least number of turns that suffices for the winner." "One that has a
-- length has no greater length in any finish."
pub record LengthSays (B : Book) (x length : ℕ) : Type 0 where
  pub falls : Falls B x → Least (λ n. FirstWins B n x) length
  pub stands : Stands B x → Least (λ n. SecondWins B n x) length
  pub none : Open B x → length ≡ 65535
  pub falls_finishes : Falls B x → (F : Book) → Finish B F → (m : ℕ) × (m ≤ length) × Means F x (verdict.falls m)
  pub stands_finishes : Stands B x → (F : Book) → Finish B F → (m : ℕ) × (m ≤ length) × Means F x (verdict.stands m)

-- What a kind and a length written for the objection of y against x say: the table of kinds. "A felling or delaying objection has
-- length 1 plus the objector's length. Standoff and idle have `-`."
pub record KindSays (B : Book) (y x kind length : ℕ) : Type 0 where
  pub objects : Objects B y x
  pub idle : (kind ≡ 0) ↔ ((Falls B x × (Falls B y ⊎ Open B y)) ⊎ (Open B x × Falls B y))
  pub felling : (kind ≡ 1) ↔ (Falls B x × Stands B y)
  pub delaying : (kind ≡ 2) ↔ (Stands B x × Falls B y)
  pub standoff : (kind ≡ 3) ↔ (Open B x × Open B y)
  pub felling_length : kind ≡ 1 → (m : ℕ) × Means B y (verdict.stands m) × (length ≡ suc m)
  pub delaying_length : kind ≡ 2 → (m : ℕ) × Means B y (verdict.falls m) × (length ≡ suc m)
  pub no_length : (kind ≡ 0) ⊎ (kind ≡ 3) → length ≡ 65535

-- what the labels of so many statements say, and their lengths, one behind the other; the kinds and lengths of so many objections
abbrev pub LabelsSay : Book → (statements : ℕ) → (labels : List ℕ) → Type 0
LabelsSay B n labels = (x : ℕ) → x < n → LabelSays B x (get_or labels x 0)

abbrev pub LengthsSay : Book → (statements : ℕ) → (lengths : List ℕ) → Type 0
LengthsSay B n lengths = (x : ℕ) → x < n → LengthSays B x (get_or lengths x 0)

abbrev pub KindsSay : Book → (objections : ℕ) → (objectors targets kinds lengths : List ℕ) → Type 0
KindsSay B n objectors targets kinds lengths =
    (k : ℕ) → k < n → KindSays B (get_or objectors k 0) (get_or targets k 0) (get_or kinds k 0) (get_or lengths k 0)

-- the text is accepted, and so much is said of its register
abbrev pub OfText : (text : List ℕ) → (says : Register → Type 0) → Type 0
OfText text says = (R : Register) × Accepts text R × says R
