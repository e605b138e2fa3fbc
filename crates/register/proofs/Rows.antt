-- The row of a read: the read and the writes that sent, sorted by a key.
--
-- The key of a write is twice its timestamp, raised by twice a number above all timestamps if it did not
-- begin before the read ended; the read's key is twice the timestamp that it shows, plus one. So writes stand
-- by timestamp, the later ones last, and the read right after the write that it shows. That a member that
-- ended before another began has the lower key is `Ordered` for two writes, `NotOld` for a write and the
-- read, and the raise for the read and a write.
-- Assumes nothing.
use Rattle.register.proofs.Vocabulary.{Member, At, begins, Earlier}
use Rattle.basics.proofs.Prelude.{◌≡◌, refl, ap, subst, cond, ◌⊎◌, inl, inr, ◌≢◌, List, ◌∷◌, ℕ, suc, ◌+◌, ◌*◌}
use Rattle.basics.proofs.Prelude.{◌≤◌, ◌<◌, arith, eqb, ltb, eq-eqb, ne_eqb, ltb-true, ltb-false, lt-ltb}
use Rattle.basics.proofs.Prelude.{le-ltb}
use Rattle.basics.proofs.Cases.{by_test, by_either, clash}
use Rattle.basics.proofs.Members.{every_of}
use Rattle.basics.proofs.Sorting.{Rises, apart_of, sort_by, mem_sort, sort_mem, sort_rises, place, earlier}
use Rattle.basics.proofs.Sorting.{next_to, first, rises_at}
use Rattle.message.proofs.Pairs.{initial_stamp}
use Rattle.register.proofs.Vocabulary.{Entry, Pair, stamp, initial, Reading, ReadingForWrite}
use Rattle.register.proofs.Run.{Run, event_in}
use Rattle.register.proofs.Since.{since}
use Rattle.register.proofs.ReadStatus.{DecidesAt}
use Rattle.register.proofs.Genuine.{Known}
use Rattle.register.proofs.NotOld.{stored_stays, not_old_lem, chosen_known}
use Rattle.register.proofs.Ordered.{sent_facts, stored_when_ended, ordered}
use Rattle.register.proofs.WriteStatus.{Ending}
use Rattle.register.proofs.Unique.{unique, sender}
use Rattle.register.proofs.SentWrites.{sent_writes, stamp_of, top, SentBefore, member_sent, sent_member}
use Rattle.register.proofs.SentWrites.{stamp_at, top_above, below_top, apart}

module _ (run : Run) where
  -- the read of client d begun at `begin` ends at step j, one of a total of steps, and shows the pair
  pub record Showing (total begin d j : ℕ) (pair : Pair) : Type 0 where
    pub begins : event_in run begin ≡ begins d Reading
    pub after : begin < j
    pub in_list : j < total
    pub begun : since run j d ≡ begin
    pub decides : DecidesAt run j d pair

  -- of an operation: `total` is the number of steps, `begin` the read, j its end, `shown` the timestamp that
  -- it shows
  unfoldable pub key : (total begin j shown : ℕ) → ℕ → ℕ
  key total begin j shown operation =
      cond (eqb operation begin) (2 * shown + 1)
      (cond (ltb operation j) 0 (2 * top run total) + 2 * stamp_of run total operation)

  unfoldable pub row_of : (total begin j shown : ℕ) → List ℕ
  row_of total begin j shown = sort_by (key total begin j shown) (begin ∷ sent_writes run total)

  not_read : (begin d write : ℕ) (entry : Entry) (d' : ℕ) → event_in run begin ≡ begins d Reading
      → event_in run write ≡ begins d' (ReadingForWrite entry) → write ≡ begin → ⊥
  not_read begin d write entry d' is_read is_write e =
      let is_write' : event_in run begin ≡ begins d' (ReadingForWrite entry) =
      subst (λ (z : ℕ). event_in run z ≡ begins d' (ReadingForWrite entry)) e is_write in
      clash (cc)

module _ {run : Run} {total begin d j : ℕ} {pair : Pair} (showing : Showing run total begin d j pair) where
  -- the key and the row of this read, and its writes
  abbrev key_of : ℕ → ℕ
  key_of operation = key run total begin j (stamp pair) operation

  abbrev row : List ℕ
  row = row_of run total begin j (stamp pair)

  abbrev Write : ℕ → Type 0
  Write operation = SentBefore run total operation

  -- ---- the keys

  key_read : key_of begin ≡ 2 * stamp pair + 1
  unfolding key
  key_read = rw (eq-eqb begin begin refl) refl

  key_early : (write : ℕ) (sent : Write write) → write < j → key_of write ≡ 2 * stamp sent.pair
  unfolding key
  key_early write sent lt =
      rw (
        ne_eqb write begin
            (not_read run begin d write _ sent.client showing.begins sent.sending.begins),
        lt-ltb write j lt,
        stamp_at run total sent.sending sent.before,
      ) (omega arith)

  key_late : (write : ℕ) (sent : Write write) → j ≤ write
      → key_of write ≡ 2 * top run total + 2 * stamp sent.pair
  unfolding key
  key_late write sent le =
      rw (
        ne_eqb write begin
            (not_read run begin d write _ sent.client showing.begins sent.sending.begins),
        le-ltb write j le,
        stamp_at run total sent.sending sent.before,
      ) refl

  stamp_top : (write : ℕ) (sent : Write write) → stamp sent.pair < top run total
  stamp_top write sent = below_top run total sent.sending sent.before

  -- a write began before the read ended, or did not
  by_time {ℓ} : {C : Type ℓ} (write : ℕ) (sent : Write write)
      → (write < j → key_of write ≡ 2 * stamp sent.pair → C)
      → (j ≤ write → key_of write ≡ 2 * top run total + 2 * stamp sent.pair → C) → C
  by_time write sent early late =
      by_test (ltb write j) (λ e. early (ltb-true write j e) (key_early write sent (ltb-true write j e)))
      (λ e. late (ltb-false write j e) (key_late write sent (ltb-false write j e)))

  same_key : (write write' : ℕ) → Write write → Write write' → key_of write ≡ key_of write' → write ≡ write'
  same_key write write' sent sent' e =
      let la = stamp_top write sent in
      let lc = stamp_top write' sent' in
      let one : stamp sent.pair ≡ stamp sent'.pair → write ≡ write' =
      unique sent.sending sent'.sending in
      by_time write sent
      (λ x ka. by_time write' sent' (λ y kc. one (omega arith)) (λ y kc. absurd (omega arith)))
      (λ x ka. by_time write' sent' (λ y kc. absurd (omega arith)) (λ y kc. one (omega arith)))

  -- the read's key is odd, a write's is even
  odd : (write : ℕ) → Write write → key_of begin ≡ key_of write → ⊥
  odd write sent e = let kr = key_read in by_time write sent (λ y ka. omega arith) (λ y ka. omega arith)

  -- ---- the row

  pub row_rises : Rises key_of row
  unfolding row_of
  row_rises =
      sort_rises key_of (begin ∷ sent_writes run total) (
        every_of (λ y. key_of begin ≢ key_of y) (sent_writes run total)
            (λ y m e. odd y (member_sent run total y m) e),
        apart_of key_of (sent_writes run total)
            (λ a c ma mc e. same_key a c (member_sent run total a ma) (member_sent run total c mc) e)
            (apart run total),
      )

  pub from_row : (operation : ℕ) → Member operation row → (operation ≡ begin) ⊎ Write operation
  unfolding row_of
  from_row operation member =
      by_either (mem_sort key_of operation (begin ∷ sent_writes run total) member) (λ e. inl e)
      (λ q. inr (member_sent run total operation q))

  pub in_row : (operation : ℕ) → (operation ≡ begin) ⊎ Write operation → Member operation row
  unfolding row_of
  in_row operation h =
      sort_mem key_of operation (begin ∷ sent_writes run total)
      (by_either h (λ e. inl e) (λ w. inr (sent_member run total w.sending w.before)))

  pub lower_earlier : (early late : ℕ) → Member early row → Member late row
      → key_of early < key_of late → Earlier row early late
  lower_earlier early late member member' lt =
      let here = place row early member in
      let there = place row late member' in
      record {
        one = here.0;
        two = there.0;
        first = here.1;
        second = there.1;
        before = earlier key_of row row_rises here.1 there.1 lt;
      }

  pub earlier_lower : (early late : ℕ) → Earlier row early late → key_of early < key_of late
  earlier_lower early late e =
      rw (e.first.is, e.second.is)
      at (rises_at key_of row row_rises e.one e.two e.before e.second.inside)

  -- ---- a member that ended before another began has the lower key

  pub write_write : (early late i : ℕ) (sent : Write early) (sent' : Write late)
      → Ending run early sent.client i → i < late → key_of early < key_of late
  write_write early late i sent sent' ending ic =
      let less = ordered sent.sending ending sent'.sending ic in
      let la = stamp_top early sent in
      let ai = ending.after in
      by_time late sent' (λ y kc. let ka = key_early early sent (omega arith) in omega arith)
      (λ y kc. by_time early sent (λ x ka. omega arith) (λ x ka. omega arith))

  pub write_read : (write i : ℕ) (sent : Write write) → Ending run write sent.client i → i < begin
      → key_of write < key_of begin
  write_read write i sent ending ib =
      let stored = stored_when_ended sent.sending ending in
      let low : stamp sent.pair ≤ stamp pair = not_old_lem run j d pair (stamp sent.pair) showing.decides
      (rw showing.begun (stored_stays run i begin (stamp sent.pair) (omega arith) stored)) in
      let bj = showing.after in
      let ai = ending.after in
      let ka = key_early write sent (omega arith) in
      let kr = key_read in
      omega arith

  shown_top : Known run j pair → stamp pair < top run total
  shown_top (inl e) =
      let one = top_above run total in let z : stamp pair ≡ 0 = rw e initial_stamp in omega arith
  shown_top (inr written) =
      let found = sender run written.at written.client pair written.puts in
      let x = written.before in
      below_top run total found.sending (omega arith)

  pub read_write : (write : ℕ) (sent : Write write) → j < write → key_of begin < key_of write
  read_write write sent lt =
      let kc = key_late write sent (omega arith) in
      let kr = key_read in
      let l = shown_top (chosen_known run j d pair showing.decides) in
      omega arith

  -- ---- where the read stands

  high : (write : ℕ) (sent : Write write) → 16 ≤ stamp sent.pair
  high write sent = let f = (sent_facts sent.sending).stamp in omega arith

  pub stands_first : pair ≡ initial → At row begin 0
  stands_first e =
      let here = place row begin (in_row begin (inl refl)) in
      let z : stamp pair ≡ 0 = rw e initial_stamp in
      let kr = key_read in
      let at = first key_of row row_rises here.1
      (λ c m. by_either (from_row c m) (λ q. rw q (omega arith))
      (λ w. let h = high c w in by_time c w (λ y kc. omega arith) (λ y kc. omega arith))) in
      rw at at here.1

  pub record Follows (a : ℕ) : Type 0 where
    pub place : ℕ
    pub here : At row a place
    pub next : At row begin (suc place)

  pub right_after : (write : ℕ) (sent : Write write) → write < j → sent.pair ≡ pair → Follows write
  right_after write sent lt e =
      let here = place row write (in_row write (inr sent)) in
      let next = place row begin (in_row begin (inl refl)) in
      let kr = key_read in
      let ka = key_early write sent lt in
      let t : stamp sent.pair ≡ stamp pair = ap stamp e in
      let q = next_to key_of row row_rises here.1 next.1 (omega arith) (λ c m less. omega arith) in
      record { place = here.0; here = here.1; next = rw q at next.1 }

  -- writes that began before the read ended stand by timestamp
  pub stamp_of_key : (write write' : ℕ) (sent : Write write) (sent' : Write write') → write < j → write' < j
      → key_of write < key_of write' → stamp sent.pair < stamp sent'.pair
  stamp_of_key write write' sent sent' la lc lt =
      let ka = key_early write sent la in let kc = key_early write' sent' lc in omega arith

  pub key_of_stamp : (write write' : ℕ) (sent : Write write) (sent' : Write write') → write < j → write' < j
      → stamp sent.pair < stamp sent'.pair → key_of write < key_of write'
  key_of_stamp write write' sent sent' la lc lt =
      let ka = key_early write sent la in let kc = key_early write' sent' lc in omega arith
