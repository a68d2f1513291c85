-- The steps of the two loops: one objection against x is looked at, and one statement of the queue is.
use mathlib.Core.Bool.{Bool, true, false}
use mathlib.Core.List.{List}
use mathlib.Core.Logic.{⊎_elim, ◌↔◌}
use mathlib.Core.Path.{subst, sym, ap, ◌≡◌, ◌∙◌}
use Prim.Native.Nat.{ℕ, ◌+◌, ◌-◌, ◌≤◌, ◌<◌}
use native.Mathlib.Omega.{arith}
use lib.ListN.{get_or, length}
use Rattle.game.specs.Book.{book_of, Book, InOrder, Listed}
use Rattle.game.specs.Questions.{Decides}
use Rattle.game.specs.Reason.{Belongs, Reaches, asked, onward, InReason}
use Rattle.game.proofs.HandedBook.{objects_entry}
use Rattle.game.proofs.Reason.{reaches_listed}
use Rattle.pair_chain.specs.Linked.{Walk, Chains}
use Rattle.pair_chain.proofs.ChainSteps.{split}
use Rattle.pair_chain.proofs.ChainWalks.{walk_entry, walk_more, walk_map, walk_ends}
use Rattle.reason_find.specs.Ticks.{Ticked, Grown, Queued, ReachTicked}
use Rattle.reason_find.proofs.Ticks.{grown_more}

-- an objection that was looked at: if it belongs to the reasons that come to x, its objector has a tick
abbrev pub Seen : (marks objectors targets : List ℕ) → ℕ → List ℕ → ℕ → Type 0
Seen marks objectors targets x room e =
    Belongs (book_of marks objectors targets) (get_or objectors e 0) x → Ticked room (get_or objectors e 0)

-- on the way along the chain of x, at the link c
pub record Following (marks objectors targets : List ℕ) (n x tail : ℕ) (room₀ queue₀ : List ℕ) (end : ℕ) (room queue : List ℕ)
    (c : ℕ) : Type 0 where
  pub grown : Grown (λ y. Belongs (book_of marks objectors targets) y x) n tail room₀ queue₀ end room queue
  pub walk : Walk targets (length targets) x (Seen marks objectors targets x room) c

module _ (marks objectors targets head next : List ℕ) (chains : Chains marks targets head next) (n x tail : ℕ)
    (room₀ queue₀ : List ℕ) where
  abbrev B : Book
  B = book_of marks objectors targets

  abbrev At : ℕ → List ℕ → List ℕ → ℕ → Type 0
  At = Following marks objectors targets n x tail room₀ queue₀

  module _ (end : ℕ) (room queue : List ℕ) (c : ℕ) (f : At end room queue c) (t : c ≡ 0 → ⊥) (d : ℕ)
      (e : d ≡ get_or next (c - 1) 0) where
    target_is : get_or targets (c - 1) 0 ≡ x
    target_is = (walk_entry f.walk t).1

    pub follow_comes : (end' : ℕ) (room' queue' : List ℕ) → Belongs B (get_or objectors (c - 1) 0) (get_or targets (c - 1) 0)
        → Grown (λ z. z ≡ get_or objectors (c - 1) 0) n end room queue end' room' queue'
        → Ticked room' (get_or objectors (c - 1) 0) → At end' room' queue' d
    follow_comes end' room' queue' b g m = record {
      grown =
          grown_more (λ z. Belongs B z x) (λ z. z ≡ get_or objectors (c - 1) 0) n tail room₀ queue₀ end room queue end' room'
          queue' f.grown
          (λ z q. subst (λ u. Belongs B u x) (sym q) (subst (Belongs B (get_or objectors (c - 1) 0)) target_is b)) g;
      walk =
          walk_more chains.chained (walk_map (λ k s h. g.kept (get_or objectors k 0) (s h)) f.walk) t e (λ h. m);
    }

  pub follow_ends : length targets ≡ length objectors → (end : ℕ) (room queue : List ℕ) (c : ℕ) → At end room queue c → c ≡ 0
      → (y : ℕ) → Belongs B y x → Ticked room y
  follow_ends paired end room queue c f z y b =
      let (l, (k, (h, p, q))) = (objects_entry marks objectors targets y x).0 b.of_kind.objects in
      subst (Ticked room) p (walk_ends f.walk z k (omega arith) q (subst (λ u. Belongs B u x) (sym p) b))

-- on the way along the queue: the statements before `at` are followed
pub record Spreading (marks objectors targets : List ℕ) (n a tail : ℕ) (room queue : List ℕ) (at : ℕ) : Type 0 where
  pub queued : Queued n tail room queue
  pub sound : (x : ℕ) → Ticked room x → Reaches (book_of marks objectors targets) a x
  pub first : Ticked room a
  pub behind : at ≤ tail
  pub followed : (i : ℕ) → i < at → (y : ℕ) → Belongs (book_of marks objectors targets) y (get_or queue i 0) → Ticked room y

module _ (marks objectors targets : List ℕ) (n a : ℕ) where
  abbrev book : Book
  book = book_of marks objectors targets

  pub spread_begins : (room₀ queue₀ : List ℕ) (tail : ℕ) (room queue : List ℕ) → ((x : ℕ) → get_or room₀ x 0 ≡ 0)
      → Grown (λ x. x ≡ a) n 0 room₀ queue₀ tail room queue → Ticked room a
      → Spreading marks objectors targets n a tail room queue 0
  spread_begins room₀ queue₀ tail room queue z g m = record {
    queued = g.queued;
    sound = λ x k. ⊎_elim (λ o. absurd (o (z x))) (λ e. subst (Reaches book a) (sym e) asked) (g.new x k);
    first = m;
    behind = omega arith;
    followed = λ i h. absurd (omega arith);
  }

  module _ (tail : ℕ) (room queue : List ℕ) (at : ℕ) (s : Spreading marks objectors targets n a tail room queue at) where
    pub spread_more : (x tail' : ℕ) (room' queue' : List ℕ) → at < tail → x ≡ get_or queue at 0
        → Grown (λ y. Belongs book y x) n tail room queue tail' room' queue'
        → ((y : ℕ) → Belongs book y x → Ticked room' y) → Spreading marks objectors targets n a tail' room' queue' (at + 1)
    spread_more x tail' room' queue' l e g f = record {
      queued = g.queued;
      sound = λ z m. ⊎_elim (s.sound z) (λ b. onward come b) (g.new z m);
      first = g.kept a s.first;
      behind = omega (arith, g.longer);
      followed = λ i h y b. ⊎_elim (old i y b) (λ p. f y (here i y p b)) (split h);
    }
      where
        come : Reaches book a x
        come = s.sound x (subst (Ticked room) (sym e) (s.queued.places at l).1)

        old : (i y : ℕ) → Belongs book y (get_or queue' i 0) → i < at → Ticked room' y
        old i y b h = g.kept y (s.followed i h y (subst (Belongs book y) (g.before i (omega arith)) b))

        here : (i y : ℕ) → i ≡ at → Belongs book y (get_or queue' i 0) → Belongs book y x
        here i y p b =
            subst (Belongs book y) (ap (λ j. get_or queue' j 0) p ∙ g.before at l ∙ sym e) b

    -- what is queued is listed
    pub spread_listed : a < length marks → at < tail → get_or queue at 0 < length marks
    unfolding book_of
    spread_listed h l = reaches_listed book a h (get_or queue at 0) (s.sound (get_or queue at 0) (s.queued.places at l).1)

    pub spread_ends : tail ≤ at → ReachTicked book a room
    spread_ends h x l = (s.sound x, met x)
      where
        met : (z : ℕ) → Reaches book a z → Ticked room z
        met z asked = s.first
        met z (onward {x} r b) =
            let (i, l, e) = s.queued.each x (met x r) in
            s.followed i (omega arith) z (subst (Belongs book z) (sym e) b)

-- whether an objection is in the reason, by the tick of its target
module _ (marks objectors targets : List ℕ) (order : InOrder marks objectors targets) (k : ℕ) (l : k < length objectors) (a : ℕ)
    (room : List ℕ) (r : ReachTicked (book_of marks objectors targets) a room) where
  listed : Listed (book_of marks objectors targets) (get_or targets k 0)
  unfolding book_of
  listed = order.target k l

  pub apart : get_or room (get_or targets k 0) 0 ≡ 0
      → ¬ InReason (book_of marks objectors targets) a (get_or objectors k 0) (get_or targets k 0)
  apart z i = (r (get_or targets k 0) listed).1 i.0 z

  pub within : Ticked room (get_or targets k 0) → (b : Bool)
      → Decides (Belongs (book_of marks objectors targets) (get_or objectors k 0) (get_or targets k 0)) b
      → Decides (InReason (book_of marks objectors targets) a (get_or objectors k 0) (get_or targets k 0)) b
  within m true d = ((r (get_or targets k 0) listed).0 m, d)
  within m false d = λ i. d i.1

-- the objections before k are looked at
abbrev pub Choosing : (marks objectors targets : List ℕ) → ℕ → List ℕ → ℕ → Type 0
Choosing marks objectors targets a inside k =
    ((j : ℕ) → j < k
    → Ticked inside j ↔ InReason (book_of marks objectors targets) a (get_or objectors j 0) (get_or targets j 0))
    × ((j : ℕ) → k ≤ j → get_or inside j 0 ≡ 0)
