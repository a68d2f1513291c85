-- Steps of the linear-time solver.
use mathlib.Core.Path.{sym, ap, refl, subst, ◌≡◌, ◌∙◌}
use mathlib.Core.Logic.{⊎_elim, inr, inl, ◌⊎◌}
use mathlib.Core.List.{List}
use Prim.Native.Nat.{ℕ, ◌+◌, ◌-◌, ◌<◌, ◌≤◌}
use native.Mathlib.Omega.{arith}
use native.Mathlib.Decide.{ℕ_discrete}
use lib.Dec.{lit<}
use lib.ListN.{length, get_or, set, length-set}
use lib.Seq.{get_or-set_other, get_or-set_same}
use Rattle.pair_chain.specs.Linked.{Walk, Chains}
use Rattle.lists.specs.Handed.{Handed}
use Rattle.pair_chain.proofs.ChainSteps.{split}
use Rattle.pair_chain.proofs.ChainWalks.{walk_begins, walk_entry, walk_more}
use Rattle.label_queue.specs.LabelState.{Sound, Fells, Blank, Full}
use Rattle.label_queue.specs.Queue.{Pending, Run, Owed, cnt, Counted, QueueAt}
use Rattle.label_queue.proofs.LabelSteps.{zeros_set, back, kept, sound_stand, sound_fall, sound_blank, zeros_all}
use Rattle.label_queue.proofs.Counts.{cnt_flip, cnt_other, cnt_none, cnt_some}

-- the queue with one more place
module _ (queue : List ℕ) (t x : ℕ) (hq : t < length queue) where
  queue_back : (i : ℕ) → i < t + 1 → ((i ≡ t) × (get_or (set queue t x) i 0 ≡ x))
      ⊎ ((i < t) × (get_or (set queue t x) i 0 ≡ get_or queue i 0))
  queue_back i h =
      ⊎_elim (λ a. inr (a, get_or-set_other queue t i x 0 (λ (p : i ≡ t). omega arith)))
      (λ a. inl (a, rw a (get_or-set_same queue t x 0 hq))) (split h)

  pending_more : {s z : ℕ} → Pending queue s t z → Pending (set queue t x) s (t + 1) z
  pending_more p =
      (p.0, p.1, omega (arith, p.2), get_or-set_other queue t p.0 x 0 (λ (q : p.0 ≡ t). omega (arith, p.2)) ∙ p.3)

  pending_new : {s : ℕ} → s ≤ t → Pending (set queue t x) s (t + 1) x
  pending_new h = (t, h, omega arith, get_or-set_same queue t x 0 hq)

  -- what is pending after the push is the new place, or was pending
  pending_back : {s z : ℕ} → Pending (set queue t x) s (t + 1) z → (z ≡ x) ⊎ Pending queue s t z
  pending_back {s} {z} p =
      ⊎_elim (λ a. inl (sym p.3 ∙ a.1)) (λ a. inr (p.0, p.1, a.0, sym a.1 ∙ p.3)) (queue_back p.0 p.2)

module _ (marks objectors targets : List ℕ) (reg : Handed marks objectors targets) (lim s t y c k : ℕ)
    (labels lengths left queue : List ℕ) (r : Run marks objectors targets lim s t y c k labels lengths left queue) where
  -- a place gets a label and goes to the end of the queue
  module _ (x v : ℕ) (hx : x < length marks) (hl : x < length labels) (hn : x < length lengths) (hq : t < length queue)
      (z : get_or labels x 0 ≡ 0) (hv : 0 < v) (hs : s ≤ t) (ok : Sound marks objectors targets (set labels x v)
      (set lengths x k))
    where
      pub push : Run marks objectors targets lim s (t + 1) y c k (set labels x v) (set lengths x k) left (set queue t x)
      push = record {
        done = r.done;
        room = r.room;
        sound = ok;
        places = λ i h. ⊎_elim (λ a. rw a.1 hx) (λ a. rw a.1 (r.places i a.0)) (qb i h);
        marked =
            λ i h. ⊎_elim (λ a l. omega (arith, rw a.1 at l, here))
            (λ a l. r.marked i a.0 (sym (old i a.0).0 ∙ rw a.1 at l)) (qb i h);
        listed =
            λ w hw n. ⊎_elim (λ a. (t, omega arith, get_or-set_same queue t x 0 hq ∙ sym a.0))
            (λ a. let f = r.listed w hw (λ l. n (a.0 ∙ l)) in (
              f.0,
              omega (arith, f.1),
              get_or-set_other queue t f.0 x 0 (λ (q : f.0 ≡ t). omega (arith, f.1)) ∙ f.2,
            )) (bk w);
        unique =
            λ i j hi hj p. ⊎_elim (λ a. ⊎_elim (λ b. omega arith) (λ b. absurd (clash j b.0 (sym b.1 ∙ sym p ∙ a.1)))
            (qb j hj)) (λ a. ⊎_elim (λ b. absurd (clash i a.0 (sym a.1 ∙ p ∙ b.1)))
            (λ b. r.unique i j a.0 b.0 (sym a.1 ∙ p ∙ b.1)) (qb j hj)) (qb i hi);
        sorted =
            λ i j h hij hj. ⊎_elim (λ a. ⊎_elim (λ b. omega arith)
            (λ b. omega (arith, r.low (get_or queue i 0) (r.places i b.0) (r.marked i b.0))) (ln i (omega arith)))
            (λ a. ⊎_elim (λ b. absurd (omega arith)) (λ b. omega (arith, r.sorted i j h hij a.0)) (ln i (omega arith)))
            (ln j hj);
        high = λ i h hi. ⊎_elim (λ a. omega arith) (λ a. omega (arith, r.high i h a.0)) (ln i hi);
        low = λ w hw n. ⊎_elim (λ a. omega arith) (λ a. omega (arith, r.low w hw (λ l. n (a.0 ∙ l)))) (bk w);
        short = λ i hi. ⊎_elim (λ a. omega (arith, r.within)) (λ a. omega (arith, r.short i a.0)) (ln i hi);
        within = omega (arith, r.within);
        full = omega (arith, r.full, zeros_set labels x v hl z hv);
        fallen =
            λ e he n. let f = r.fallen e he n in let q = kp (get_or objectors e 0) (omega (arith, f.0)) in
            (q.0 ∙ f.0, omega (arith, f.1));
        fresh =
            λ e he. ⊎_elim (λ p. ⊎_elim (λ a. new_fresh e he a) (λ a. r.fresh e he (inl a)) (pending_back queue t x hq p))
            (λ w. r.fresh e he (inr w));
        owed =
            λ e he d l. ⊎_elim (λ a. inl (pend e a.0)) (λ a. more e (r.owed e he d (sym a.0 ∙ l)))
            (bk (get_or objectors e 0));
        fells =
            λ e he l. ⊎_elim (λ a. inr (inl (pend e a.0))) (λ a. ⊎_elim (λ f. inl (keep e he (sym a.0 ∙ l) f))
            (λ o. inr (more e o)) (r.fells e he (sym a.0 ∙ l))) (bk (get_or objectors e 0));
        counts = r.counts;
        lifted =
            λ w hw hlim m l0. ⊎_elim (λ a. absurd (omega (
              arith,
              z,
              sym (ap (λ (i : ℕ). get_or labels i 0) a.0)
                  ∙ r.lifted w hw hlim m l0,
            ))) (λ a. a.0 ∙ r.lifted w hw hlim m l0) (bk w);
      }
        where
          bk : (w : ℕ) → ((w ≡ x) × (get_or (set labels x v) w 0 ≡ v) × (get_or (set lengths x k) w 0 ≡ k))
              ⊎ ((get_or (set labels x v) w 0 ≡ get_or labels w 0) × (get_or (set lengths x k) w 0 ≡ get_or lengths w 0))
          bk = back labels lengths x v k hl hn

          kp : (w : ℕ) → (get_or labels w 0 ≡ 0 → ⊥) → (get_or (set labels x v) w 0 ≡ get_or labels w 0)
              × (get_or (set lengths x k) w 0 ≡ get_or lengths w 0)
          kp = kept labels lengths x v k hl hn z

          qb : (i : ℕ) → i < t + 1 → ((i ≡ t) × (get_or (set queue t x) i 0 ≡ x))
              ⊎ ((i < t) × (get_or (set queue t x) i 0 ≡ get_or queue i 0))
          qb = queue_back queue t x hq

          here : get_or (set labels x v) x 0 ≡ v
          here = get_or-set_same labels x v 0 hl

          old : (i : ℕ) → i < t → (get_or (set labels x v) (get_or queue i 0) 0 ≡ get_or labels (get_or queue i 0) 0)
              × (get_or (set lengths x k) (get_or queue i 0) 0 ≡ get_or lengths (get_or queue i 0) 0)
          old i h = kp (get_or queue i 0) (r.marked i h)

          ln : (i : ℕ) → i < t + 1 → ((i ≡ t) × (get_or (set lengths x k) (get_or (set queue t x) i 0) 0 ≡ k))
              ⊎ ((i < t) × (get_or (set lengths x k) (get_or (set queue t x) i 0) 0 ≡ get_or lengths (get_or queue i 0) 0))
          ln i h =
              ⊎_elim (λ a. inl (a.0, rw a.1 (get_or-set_same lengths x k 0 hn))) (λ a. inr (a.0, rw a.1 (old i a.0).1))
              (qb i h)

          clash : (i : ℕ) → i < t → get_or queue i 0 ≡ x → ⊥
          clash i h p = r.marked i h (rw p z)

          new_fresh : (e : ℕ) → e < length objectors → get_or objectors e 0 ≡ x → get_or r.done e 0 ≡ 0
          new_fresh e he p = go (ℕ_discrete (get_or r.done e 0) 0)
            where
              go : Dec (get_or r.done e 0 ≡ 0) → get_or r.done e 0 ≡ 0
              go (yes q) = q
              go (no q) = absurd (omega (arith, z, rw p at (r.fallen e he q).0))

          pend : (e : ℕ) → get_or objectors e 0 ≡ x → Pending (set queue t x) s (t + 1) (get_or objectors e 0)
          pend e p = rw p (pending_new queue t x hq hs)

          more : (e : ℕ) → Owed objectors queue s t y c e → Owed objectors (set queue t x) s (t + 1) y c e
          more e = ⊎_elim (λ p. inl (pending_more queue t x hq p)) (λ w. inr w)

          keep : (e : ℕ) → e < length objectors → get_or labels (get_or objectors e 0) 0 ≡ 1
              → Fells marks objectors targets labels lengths e → Fells marks objectors targets (set labels x v) (set lengths x k)
              e
          keep e he l f =
              let a = kp (get_or objectors e 0) (omega arith) in
              let b = kp (get_or targets e 0) (omega (arith, f.0)) in
              (b.0 ∙ f.0, omega (arith, f.1))

  -- the objection e of the standing y is looked at: its target falls
  module _ (head next : List ℕ) (ch : Chains marks objectors head next) (e : ℕ) (hc : e + 1 ≡ c)
      (he : e < length objectors) (ho : get_or objectors e 0 ≡ y) where
    -- what is owed past the link, is owed past the next one, or is e
    owed_next : (d : ℕ) → Owed objectors queue s t y c d → (d ≡ e) ⊎ Owed objectors queue s t y (get_or next e 0) d
    owed_next d = ⊎_elim (λ p. inr (inl p)) (λ w. go w (ℕ_discrete d e))
      where
        go : (get_or objectors d 0 ≡ y) × (d + 1 ≤ c) → Dec (d ≡ e) → (d ≡ e) ⊎ Owed objectors queue s t y (get_or next e 0) d
        go w (yes p) = inl p
        go w (no p) = inr (inr (w.0, omega (arith, (ch.chained.links e he).seen d (omega arith) (w.0 ∙ sym ho))))

    owed_wider : (d : ℕ) → Owed objectors queue s t y (get_or next e 0) d → Owed objectors queue s t y c d
    owed_wider d = ⊎_elim (λ p. inl p) (λ w. inr (w.0, omega (arith, (ch.chained.links e he).low)))

    pub advance : get_or labels y 0 ≡ 1 → Fells marks objectors targets labels lengths e
        → Run marks objectors targets lim s t y (get_or next e 0) k labels lengths left queue
    advance l1 f = record {
      done = r.done;
      room = r.room;
      sound = r.sound;
      places = r.places;
      marked = r.marked;
      listed = r.listed;
      unique = r.unique;
      sorted = r.sorted;
      high = r.high;
      low = r.low;
      short = r.short;
      within = r.within;
      full = r.full;
      fallen = r.fallen;
      counts = r.counts;
      lifted = r.lifted;
      fresh = λ d hd o. r.fresh d hd (owed_wider d o);
      owed =
          λ d hd z l2. ⊎_elim (λ p. absurd (omega (arith, l1, rw (ap (λ (i : ℕ). get_or objectors i 0) p ∙ ho) at l2))) (λ o. o)
          (owed_next d (r.owed d hd z l2));
      fells = λ d hd l. ⊎_elim (λ g. inl g) (λ o. ⊎_elim (λ p. inl (rw p f)) (λ q. inr q) (owed_next d o)) (r.fells d hd l);
    }

    -- the objection e of the falling y is looked at: its target has one objector less
    module _ (x n : ℕ) (hx : get_or targets e 0 ≡ x) (hf : x < length left) (hn : n + 1 ≡ get_or left x 0)
        (l2 : get_or labels y 0 ≡ 2)
        (hk : get_or lengths y 0 + 1 ≡ k) (gone : Pending queue s t y → ⊥) where
      pub flip : (get_or marks x 0 ≡ 0 → n ≡ 0 → get_or labels x 0 ≡ 1)
          → Run marks objectors targets lim s t y (get_or next e 0) k labels lengths (set left x n) queue
      flip hz = record {
        done = set r.done e 1;
        room = length-set r.done e 1 ∙ r.room;
        sound = r.sound;
        places = r.places;
        marked = r.marked;
        listed = r.listed;
        unique = r.unique;
        sorted = r.sorted;
        high = r.high;
        low = r.low;
        short = r.short;
        within = r.within;
        full = r.full;
        fallen = λ d hd g. go_fallen d hd g (ℕ_discrete d e);
        fresh = λ d hd o. other d (not_e d o) ∙ r.fresh d hd (owed_wider d o);
        owed = λ d hd z l. go_owed d hd z l (ℕ_discrete d e);
        fells =
            λ d hd l. ⊎_elim (λ g. inl g) (λ o. ⊎_elim (λ p. absurd
            (omega (arith, l2, rw (ap (λ (i : ℕ). get_or objectors i 0) p ∙ ho) at l))) (λ q. inr q) (owed_next d o))
            (r.fells d hd l);
        counts = λ w hw. go_counts w hw (ℕ_discrete w x);
        lifted = λ w hw hlim m l0. go_lifted w hw hlim m l0 (ℕ_discrete w x);
      }
        where
          hd' : e < length r.done
          hd' = omega (arith, r.room)

          other : (d : ℕ) → (d ≡ e → ⊥) → get_or (set r.done e 1) d 0 ≡ get_or r.done d 0
          other d p = get_or-set_other r.done e d 1 0 p

          zero_e : get_or r.done e 0 ≡ 0
          zero_e = r.fresh e he (inr (ho, omega arith))

          go_fallen : (d : ℕ) → d < length objectors → (get_or (set r.done e 1) d 0 ≡ 0 → ⊥) → Dec (d ≡ e)
              → (get_or labels (get_or objectors d 0) 0 ≡ 2) × (get_or lengths (get_or objectors d 0) 0 + 1 ≤ k)
          go_fallen d hd g (yes p) =
              let q : get_or objectors d 0 ≡ y = ap (λ (i : ℕ). get_or objectors i 0) p ∙ ho in (rw q l2, rw q (omega arith))
          go_fallen d hd g (no p) = r.fallen d hd (λ z. g (other d p ∙ z))

          not_e : (d : ℕ) → Owed objectors queue s t y (get_or next e 0) d → d ≡ e → ⊥
          not_e d o p =
              ⊎_elim (λ q. gone (rw (ap (λ (i : ℕ). get_or objectors i 0) p ∙ ho) at q))
              (λ w. omega (arith, (ch.chained.links e he).low, w.1)) o

          go_owed : (d : ℕ) → d < length objectors → get_or (set r.done e 1) d 0 ≡ 0 → get_or labels (get_or objectors d 0) 0 ≡ 2
              → Dec (d ≡ e) → Owed objectors queue s t y (get_or next e 0) d
          go_owed d hd z l (yes p) =
              let q : get_or (set r.done e 1) e 0 ≡ 0 = rw p at z in absurd (omega (arith, q, get_or-set_same r.done e 1 0 hd'))
          go_owed d hd z l (no p) = ⊎_elim (λ q. absurd (p q)) (λ o. o) (owed_next d (r.owed d hd (sym (other d p) ∙ z) l))

          go_counts : (w : ℕ) → w < length marks → Dec (w ≡ x) → get_or (set left x n) w 0 ≡ cnt targets (set r.done e 1) w
          go_counts w hw (yes p) =
              let q : get_or left x 0 ≡ cnt targets r.done x = rw p at (r.counts w hw) in
              rw p (omega (
                arith,
                q,
                get_or-set_same left x n 0 hf,
                cnt_flip targets r.done e x
                    (omega (arith, reg.order.paired)) hd' zero_e hx,
              ))
          go_counts w hw (no p) =
              get_or-set_other left x w n 0 p ∙ r.counts w hw ∙ sym (cnt_other targets r.done e 1 w (λ q. p (sym q ∙ hx))
              (omega (arith, reg.order.paired)))

          go_lifted : (w : ℕ) → w < length marks → w < lim → get_or marks w 0 ≡ 0 → get_or (set left x n) w 0 ≡ 0 → Dec (w ≡ x)
              → get_or labels w 0 ≡ 1
          go_lifted w hw hlim m l0 (yes p) = rw p (hz (rw p at m) (sym (get_or-set_same left x n 0 hf) ∙ rw p at l0))
          go_lifted w hw hlim m l0 (no p) = r.lifted w hw hlim m (sym (get_or-set_other left x w n 0 p) ∙ l0)

-- the place at h of the queue is looked at
module _ (marks objectors targets : List ℕ) (reg : Handed marks objectors targets) (lim h t y k : ℕ)
    (labels lengths left queue head next : List ℕ) (ch : Chains marks objectors head next)
    (r : Run marks objectors targets lim h t y 0 k labels lengths left queue) (hh : h < t) where
  owed_pop : (e : ℕ) → e < length objectors → Owed objectors queue h t y 0 e
      → Owed objectors queue (h + 1) t (get_or queue h 0) (get_or head (get_or queue h 0) 0) e
  owed_pop e he = ⊎_elim (λ p. go p (ℕ_discrete p.0 h)) (λ w. absurd (omega arith))
    where
      go : (p : Pending queue h t (get_or objectors e 0)) → Dec (p.0 ≡ h)
          → Owed objectors queue (h + 1) t (get_or queue h 0) (get_or head (get_or queue h 0) 0) e
      go p (yes q) =
          let a : get_or objectors e 0 ≡ get_or queue h 0 = sym p.3 ∙ ap (λ (i : ℕ). get_or queue i 0) q in
          inr (a, omega (arith, (ch.chained.begins (get_or queue h 0) (omega (arith, r.places h hh, ch.head_room))).seen e he a))
      go p (no q) = inl (p.0, omega (arith, p.1), p.2, p.3)

  owed_back : (e : ℕ) → Owed objectors queue (h + 1) t (get_or queue h 0) (get_or head (get_or queue h 0) 0) e
      → Owed objectors queue h t y 0 e
  owed_back e = ⊎_elim (λ p. inl (p.0, omega (arith, p.1), p.2, p.3)) (λ w. inl (h, omega arith, hh, sym w.0))

  pub pop : Run marks objectors targets lim (h + 1) t (get_or queue h 0) (get_or head (get_or queue h 0) 0)
      (get_or lengths (get_or queue h 0) 0 + 1) labels lengths left queue
  pop = record {
    done = r.done;
    room = r.room;
    sound = r.sound;
    places = r.places;
    marked = r.marked;
    listed = r.listed;
    unique = r.unique;
    short = r.short;
    full = r.full;
    counts = r.counts;
    lifted = r.lifted;
    sorted = λ i j a b c. r.sorted i j (omega arith) b c;
    high = λ i a b. omega (arith, r.sorted h i (omega arith) (omega arith) b);
    low = λ x hx n. omega (arith, r.low x hx n, r.high h (omega arith) hh);
    within = omega (arith, r.short h hh);
    fallen = λ e he n. let f = r.fallen e he n in (f.0, omega (arith, f.1, r.high h (omega arith) hh));
    fresh = λ e he o. r.fresh e he (owed_back e o);
    owed = λ e he z l. owed_pop e he (r.owed e he z l);
    fells = λ e he l. ⊎_elim (λ f. inl f) (λ o. inr (owed_pop e he o)) (r.fells e he l);
  }

-- what is looked at: the place y at h of the queue, with its label v and a length one below k, at the link c of its chain; what
-- came of the objections passed is left to `Run`
pub record Link (marks objectors : List ℕ) (h t y v c k : ℕ) (labels lengths queue : List ℕ) : Type 0 where
  pub place : y < length marks
  pub label : get_or labels y 0 ≡ v
  pub len : get_or lengths y 0 + 1 ≡ k
  pub walk : Walk objectors (length objectors) y (λ _. Unit {0}) c
  pub before_tail : h < t
  pub at : get_or queue h 0 ≡ y

module _ (marks objectors targets head next : List ℕ) (ch : Chains marks objectors head next) where
  pub link_first : (lim s h t y c k v : ℕ) (labels lengths left queue : List ℕ)
      → Run marks objectors targets lim s t y c k labels lengths left queue → h < t → get_or labels (get_or queue h 0) 0 ≡ v
      → Link marks objectors h t (get_or queue h 0) v (get_or head (get_or queue h 0) 0) (get_or lengths (get_or queue h 0) 0 + 1)
      labels
      lengths queue
  link_first lim s h t y c k v labels lengths left queue r hh l = record {
    place = r.places h hh;
    label = l;
    len = refl;
    walk = walk_begins ch.chained (omega (arith, r.places h hh, ch.head_room)) refl;
    before_tail = hh;
    at = refl;
  }

module _ {marks objectors : List ℕ} {h t y v c k : ℕ} {labels lengths queue : List ℕ}
    (ln : Link marks objectors h t y v c k labels lengths queue) where
  link_next : {head next : List ℕ} → Chains marks objectors head next → (c ≡ 0 → ⊥)
      → Link marks objectors h t y v (get_or next (c - 1) 0) k labels lengths queue
  link_next ch hc = record {
    place = ln.place;
    label = ln.label;
    len = ln.len;
    before_tail = ln.before_tail;
    at = ln.at;
    walk = walk_more ch.chained ln.walk hc refl tt;
  }

  gone : {targets left : List ℕ} {lim s : ℕ} → Run marks objectors targets lim s t y c k labels lengths left queue → h < s
      → Pending queue s t y → ⊥
  gone r hs p = omega (arith, p.1, r.unique p.0 h p.2 ln.before_tail (p.3 ∙ sym ln.at))

  link_push : (x w : ℕ) → x < length labels → x < length lengths → t < length queue → get_or labels x 0 ≡ 0 → 0 < v
      → Link marks objectors h (t + 1) y v c k (set labels x w) (set lengths x k) (set queue t x)
  link_push x w hl hn hq z hv =
      let a = kept labels lengths x w k hl hn z y (omega (arith, ln.label)) in
      record {
        place = ln.place;
        label = a.0 ∙ ln.label;
        len = omega (arith, ln.len);
        walk = ln.walk;
        before_tail = omega (arith, ln.before_tail);
        at = get_or-set_other queue t h x 0 (λ (p : h ≡ t). omega (arith, ln.before_tail)) ∙ ln.at;
      }

module _ {marks objectors targets : List ℕ} (reg : Handed marks objectors targets) {head next : List ℕ}
    (ch : Chains marks objectors head next) {lim h t y v c k : ℕ} {labels lengths left queue : List ℕ}
    (r : Run marks objectors targets lim (h + 1) t y c k labels lengths left queue)
    (ln : Link marks objectors h t y v c k labels lengths queue) (hc : c ≡ 0 → ⊥) where
  here : c - 1 < length objectors
  here = (walk_entry ln.walk hc).0

  objector : get_or objectors (c - 1) 0 ≡ y
  objector = (walk_entry ln.walk hc).1

  module _ {x : ℕ} (hx : get_or targets (c - 1) 0 ≡ x) where
    -- what is labelled already, y standing
    pub fell_skip : v ≡ 1 → (get_or labels x 0 ≡ 0 → ⊥) → Run marks objectors targets lim (h + 1) t y (get_or next (c - 1) 0) k
        labels
        lengths left queue × Link marks objectors h t y v (get_or next (c - 1) 0) k labels lengths queue
    fell_skip v1 n0 = (
      advance marks objectors targets reg lim (h + 1) t y c k labels lengths left queue r head next ch (c - 1) (omega arith)
          here objector (ln.label ∙ v1) (go (ℕ_discrete (get_or labels x 0) 1)),
      link_next ln ch hc,
    )
      where
        go : Dec (get_or labels x 0 ≡ 1) → Fells marks objectors targets labels lengths (c - 1)
        go (yes p) =
            let b : get_or labels (get_or objectors (c - 1) 0) 0 ≡ 2 = (r.sound.beaten (c - 1) here (rw hx p)).0 in
            absurd (omega (arith, v1, ln.label, rw objector at b))
        go (no p) = (rw hx l2, rw (hx, objector) (omega (arith, ln.len, r.low x place n0)))
          where
            place : x < length marks
            place = rw hx at (reg.order.target (c - 1) here)

            l2 : get_or labels x 0 ≡ 2
            l2 = omega (arith, r.sound.small x place)

    -- there is room in the queue for what is not labelled
    pub queue_room : x < length labels → length marks ≤ length queue → get_or labels x 0 ≡ 0 → t < length queue
    queue_room hl hq z = omega (arith, r.full, zeros_set labels x 1 hl z (lit< tt))

    -- there is an objection less to count
    pub left_some : 0 < get_or left x 0
    left_some =
        let q = r.counts x (rw hx at (reg.order.target (c - 1) here)) in
        omega (
          arith,
          q,
          cnt_flip targets r.done (c - 1) x (omega (arith, reg.order.paired, here))
              (omega (arith, r.room, here)) (r.fresh (c - 1) here (inr (objector, omega arith))) hx,
        )

    module _ (n : ℕ) (hn' : n + 1 ≡ get_or left x 0) (v2 : v ≡ 2) where
      -- with none left each objector falls
      all_beaten : n ≡ 0 → (d : ℕ) → d < length objectors → get_or targets d 0 ≡ x → (get_or labels (get_or objectors d 0) 0 ≡ 2)
          × (get_or lengths (get_or objectors d 0) 0 + 1 ≤ k)
      all_beaten n0 d hd ht = go (ℕ_discrete d (c - 1))
        where
          none : cnt targets (set r.done (c - 1) 1) x ≡ 0
          none =
              omega (
                arith,
                n0,
                hn',
                r.counts x (rw hx at (reg.order.target (c - 1) here)),
                cnt_flip targets r.done (c - 1) x (omega (arith, reg.order.paired, here)) (omega (arith, r.room, here))
                    (r.fresh (c - 1) here (inr (objector, omega arith))) hx,
              )

          go : Dec (d ≡ c - 1) → (get_or labels (get_or objectors d 0) 0 ≡ 2) × (get_or lengths (get_or objectors d 0) 0 + 1 ≤ k)
          go (yes p) =
              let q : get_or objectors d 0 ≡ y = ap (λ (i : ℕ). get_or objectors i 0) p ∙ objector in
              (rw q (ln.label ∙ v2), rw q (omega (arith, ln.len)))
          go (no p) =
              r.fallen d hd (λ z. cnt_none targets (set r.done (c - 1) 1) d x none (omega (arith, reg.order.paired))
              (rw length-set (omega (arith, r.room))) ht (get_or-set_other r.done (c - 1) d 1 0 p ∙ z))

      pub lift_skip : x < length left → (get_or marks x 0 ≡ 0 → n ≡ 0 → get_or labels x 0 ≡ 0 → ⊥)
          → Run marks objectors targets lim (h + 1) t y (get_or next (c - 1) 0) k labels lengths (set left x n) queue
          × Link marks objectors h t y v (get_or next (c - 1) 0) k labels lengths queue
      lift_skip hf h3 = (
        flip marks objectors targets reg lim (h + 1) t y c k labels lengths left queue r head next ch (c - 1) (omega arith)
            here objector x n hx hf hn' (ln.label ∙ v2) ln.len
            (gone ln r (omega arith)) hz,
        link_next ln ch hc,
      )
        where
          hz : get_or marks x 0 ≡ 0 → n ≡ 0 → get_or labels x 0 ≡ 1
          hz m n0 = go (ℕ_discrete (get_or labels x 0) 2)
            where
              place : x < length marks
              place = rw hx at (reg.order.target (c - 1) here)

              go : Dec (get_or labels x 0 ≡ 2) → get_or labels x 0 ≡ 1
              go (yes p) =
                  let f = r.sound.felled x place p in absurd (omega (arith, f.3, (all_beaten n0 f.0 f.1 f.2).0))
              go (no p) = let a : get_or labels x 0 ≡ 0 → ⊥ = h3 m n0 in omega (arith, r.sound.small x place)

      pub lift_set : x < length left → x < length labels → x < length lengths → t < length queue → n ≡ 0 → get_or marks x 0 ≡ 0
          → get_or labels x 0 ≡ 0 → Run marks objectors targets lim (h + 1) (t + 1) y (get_or next (c - 1) 0) k (set labels x 1)
          (set lengths x k) (set left x n) (set queue t x) × Link marks objectors h (t + 1) y v (get_or next (c - 1) 0) k
          (set labels x 1) (set lengths x k) (set queue t x)
      lift_set hf hl hn hq n0 m z = (
        flip marks objectors targets reg lim (h + 1) (t + 1) y c k (set labels x 1) (set lengths x k) left (set queue t x) r1 head
            next ch (c - 1) (omega arith) here objector x n hx hf hn' (l1.label ∙ v2) l1.len (gone l1 r1 (omega arith))
            (λ _ _. get_or-set_same labels x 1 0 hl),
        link_next l1 ch hc,
      )
        where
          ok : Sound marks objectors targets (set labels x 1) (set lengths x k)
          ok =
              sound_stand marks objectors targets labels lengths x k hl hn r.sound z m (all_beaten n0)
              (inr (c - 1, here, hx, rw objector ln.len))

          r1 : Run marks objectors targets lim (h + 1) (t + 1) y c k (set labels x 1) (set lengths x k) left (set queue t x)
          r1 =
              push marks objectors targets reg lim (h + 1) t y c k labels lengths left queue r x 1
              (rw hx at (reg.order.target (c - 1) here)) hl hn hq z (lit< tt) (omega (arith, ln.before_tail)) ok

          l1 : Link marks objectors h (t + 1) y v c k (set labels x 1) (set lengths x k) (set queue t x)
          l1 = link_push ln x 1 hl hn hq z (omega arith)

    pub fell_set : v ≡ 1 → x < length labels → x < length lengths → t < length queue → get_or labels x 0 ≡ 0
        → Run marks objectors targets lim (h + 1) (t + 1) y (get_or next (c - 1) 0) k (set labels x 2) (set lengths x k) left
        (set queue t x) × Link marks objectors h (t + 1) y v (get_or next (c - 1) 0) k (set labels x 2) (set lengths x k)
        (set queue t x)
    fell_set v1 hl hn hq z = (
      advance marks objectors targets reg lim (h + 1) (t + 1) y c k (set labels x 2) (set lengths x k) left (set queue t x) r1
          head next ch (c - 1) (omega arith) here objector (l1.label ∙ v1)
          (rw hx (get_or-set_same labels x 2 0 hl), rw (hx, objector) (omega (arith, get_or-set_same lengths x k 0 hn, l1.len))),
      link_next l1 ch hc,
    )
      where
        ok : Sound marks objectors targets (set labels x 2) (set lengths x k)
        ok =
            sound_fall marks objectors targets labels lengths x k hl hn r.sound z (c - 1) here hx
            (rw objector (ln.label ∙ v1)) (rw objector ln.len)

        r1 : Run marks objectors targets lim (h + 1) (t + 1) y c k (set labels x 2) (set lengths x k) left (set queue t x)
        r1 =
            push marks objectors targets reg lim (h + 1) t y c k labels lengths left queue r x 2
            (rw hx at (reg.order.target (c - 1) here)) hl hn hq z (lit< tt) (omega (arith, ln.before_tail)) ok

        l1 : Link marks objectors h (t + 1) y v c k (set labels x 2) (set lengths x k) (set queue t x)
        l1 = link_push ln x 2 hl hn hq z (omega arith)

-- before the queue is begun
pub run_blank : (marks objectors targets : List ℕ) → Handed marks objectors targets → (labels lengths left queue : List ℕ)
    → length labels ≡ length marks → Blank marks labels lengths → Counted marks targets (length targets) left
    → Run marks objectors targets 0 0 0 0 0 0 labels lengths left queue
run_blank marks objectors targets reg labels lengths left queue hl b c = record {
  done = c.done;
  room = c.room ∙ reg.order.paired;
  sound = sound_blank marks objectors targets reg labels lengths b;
  places = λ i h. absurd (omega arith);
  marked = λ i h. absurd (omega arith);
  listed = λ x hx n. absurd (n (b.no_label x hx));
  unique = λ i j h. absurd (omega arith);
  sorted = λ i j _ _ h. absurd (omega arith);
  high = λ i _ h. absurd (omega arith);
  low = λ x hx n. absurd (n (b.no_label x hx));
  short = λ i h. absurd (omega arith);
  within = omega arith;
  full = omega (arith, hl, zeros_all labels (λ x h. b.no_label x (omega arith)));
  fallen = λ e he n. absurd (n (c.past e (omega (arith, reg.order.paired))));
  fresh = λ e he _. c.past e (omega (arith, reg.order.paired));
  owed = λ e he _ l. absurd (omega (arith, b.no_label (get_or objectors e 0) (reg.order.objector e he)));
  fells = λ e he l. absurd (omega (arith, b.no_label (get_or objectors e 0) (reg.order.objector e he)));
  counts = c.counts;
  lifted = λ x hx h. absurd (omega arith);
}

module _ (marks objectors targets : List ℕ) (reg : Handed marks objectors targets) (i t : ℕ) (labels lengths left queue : List ℕ)
    (r : Run marks objectors targets i 0 t 0 0 0 labels lengths left queue) where
  -- the place i is settled
  pub settle : (get_or marks i 0 ≡ 0 → get_or left i 0 ≡ 0 → get_or labels i 0 ≡ 1)
      → Run marks objectors targets (i + 1) 0 t 0 0 0 labels lengths left queue
  settle h = record {
    done = r.done;
    room = r.room;
    sound = r.sound;
    places = r.places;
    marked = r.marked;
    listed = r.listed;
    unique = r.unique;
    sorted = r.sorted;
    high = r.high;
    low = r.low;
    short = r.short;
    within = r.within;
    full = r.full;
    fallen = r.fallen;
    fresh = r.fresh;
    owed = r.owed;
    fells = r.fells;
    counts = r.counts;
    lifted = λ x hx hi m l. ⊎_elim (λ a. r.lifted x hx a m l) (λ a. rw a (h (rw a at m) (rw a at l))) (split hi);
  }

  pub start_room : i < length labels → length marks ≤ length queue → get_or labels i 0 ≡ 0 → t < length queue
  start_room hl hq z = omega (arith, r.full, zeros_set labels i 1 hl z (lit< tt))

module _ (marks objectors targets : List ℕ) (reg : Handed marks objectors targets) (i t : ℕ) (labels lengths left queue : List ℕ)
    (r : Run marks objectors targets i 0 t 0 0 0 labels lengths left queue) where
  pub start_set : i < length marks → i < length labels → i < length lengths → t < length queue → get_or marks i 0 ≡ 0
      → get_or left i 0 ≡ 0 → get_or labels i 0 ≡ 0 → Run marks objectors targets (i + 1) 0 (t + 1) 0 0 0 (set labels i 1)
      (set lengths i 0) left (set queue t i)
  start_set hx hl hn hq m l z =
      settle marks objectors targets reg i (t + 1) (set labels i 1) (set lengths i 0) left (set queue t i)
      (push marks objectors targets reg i 0 t 0 0 0 labels lengths left queue r i 1 hx hl hn hq z (lit< tt) (omega arith) ok)
      (λ _ _. get_or-set_same labels i 1 0 hl)
    where
      ok : Sound marks objectors targets (set labels i 1) (set lengths i 0)
      ok =
          sound_stand marks objectors targets labels lengths i 0 hl hn r.sound z m
          (λ e he ht. r.fallen e he (cnt_none targets r.done e i (sym (r.counts i hx) ∙ l)
          (omega (arith, reg.order.paired)) (omega (arith, r.room)) ht)) (inl refl)

-- the queue is empty: nothing is left to label
pub finish : (marks objectors targets : List ℕ) → Handed marks objectors targets → (h t : ℕ) (labels lengths left queue : List ℕ)
    → QueueAt marks objectors targets h t labels lengths left queue → t ≤ h → Full marks objectors targets labels lengths
finish marks objectors targets reg h t labels lengths left queue turn ht = record {
  fells = λ e he l. ⊎_elim (λ f. f) (λ o. absurd (never e o)) (turn.run.fells e he l);
  holds = λ x hx m n.
      let w = cnt_some targets turn.run.done x (λ z. n (turn.run.lifted x hx hx m (turn.run.counts x hx ∙ z))) in
      let he : w.0 < length objectors = omega (arith, w.1, reg.order.paired) in
      (w.0, he, w.2, λ l2. never w.0 (turn.run.owed w.0 he w.3 l2));
}
  where
    never : (e : ℕ) → Owed objectors queue h t turn.y 0 e → ⊥
    never e = ⊎_elim (λ p. omega (arith, p.1, p.2)) (λ w. omega arith)

-- the place at h is taken up, under the names that the code has for it and for its first link
pub enter : (marks objectors targets : List ℕ) → Handed marks objectors targets
    → (lim h t y₀ k₀ v y c : ℕ) (labels lengths left queue head next : List ℕ) → Chains marks objectors head next
    → Run marks objectors targets lim h t y₀ 0 k₀ labels lengths left queue → h < t → get_or labels (get_or queue h 0) 0 ≡ v
    → y ≡ get_or queue h 0 → c ≡ get_or head y 0 → Run marks objectors targets lim (h + 1) t y c (get_or lengths y 0 + 1) labels
    lengths
    left queue × Link marks objectors h t y v c (get_or lengths y 0 + 1) labels lengths queue
enter marks objectors targets reg lim h t y₀ k₀ v y c labels lengths left queue head next ch r hh l p q =
    rw (q, p) (
      pop marks objectors targets reg lim h t y₀ k₀ labels lengths left queue head next ch r hh,
      link_first marks objectors targets head next ch lim h h t y₀ 0 k₀ v labels lengths left queue r hh l,
    )

pub moved : {marks objectors targets : List ℕ} {lim s h t y v c c' k : ℕ} {labels lengths left queue : List ℕ} → c ≡ c'
    → Run marks objectors targets lim s t y c k labels lengths left queue × Link marks objectors h t y v c k labels lengths queue
    → Run marks objectors targets lim s t y c' k labels lengths left queue
    × Link marks objectors h t y v c' k labels lengths queue
moved {marks} {objectors} {targets} {lim} {s} {h} {t} {y} {v} {c} {c'} {k} {labels} {lengths} {left} {queue} p w =
    subst (λ (n : ℕ). Run marks objectors targets lim s t y n k labels lengths left queue
    × Link marks objectors h t y v n k labels lengths queue) p w
