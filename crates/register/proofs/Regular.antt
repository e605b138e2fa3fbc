-- Multi-writer regularity of the history: each finished read has a row, and any two rows agree.
--
-- The row is the sorted one of `Rows`, for the one end that the read has (`Finished`, `OneEnd`). Its order
-- follows from the keys; the read stands first, or right after the write that it shows, since what it shows
-- is initial or was sent, by exactly one write (`Genuine`, `Unique`). Two rows agree on writes that began
-- before both reads ended, since both have these by timestamp.
-- Assumes nothing.
use Rattle.basics.proofs.Prelude.{◌≡◌, refl, subst, ◌⊎◌, inl, inr, List, [], length, ℕ, suc, ◌<◌, arith}
use Rattle.basics.proofs.Cases.{by_either, clash}
use Rattle.basics.proofs.Ranges.{at_last}
use Rattle.basics.proofs.Sorting.{once}
use Rattle.register.specs.History.{Ends, HasSent, PairOf}
use Rattle.register.specs.DemandThree.{Earlier, Legal, first, behind, Row, Agree}
use Rattle.register.proofs.Vocabulary.{Pair, stamp, Read, Ok}
use Rattle.register.proofs.Run.{Run, answer_in}
use Rattle.register.proofs.Since.{since}
use Rattle.register.proofs.ReadStatus.{DecidesAt, read_status}
use Rattle.register.proofs.Genuine.{Written, Known}
use Rattle.register.proofs.NotOld.{chosen_known}
use Rattle.register.proofs.Ordered.{not_initial}
use Rattle.register.proofs.WriteStatus.{Ending}
use Rattle.register.proofs.Unique.{unique, sender}
use Rattle.register.proofs.SentWrites.{SentBefore}
use Rattle.register.proofs.Rows.{Showing, key, row_of, row_rises, from_row, in_row, lower_earlier}
use Rattle.register.proofs.Rows.{earlier_lower, write_write, write_read, read_write, stands_first}
use Rattle.register.proofs.Rows.{right_after, stamp_of_key, key_of_stamp}
use Rattle.register.proofs.Translation.{ReadEndsIn, read_begins, write_begins, reads_in_lem, reads_out}
use Rattle.register.proofs.Translation.{sends_in, sends_out, ends_in}
use Rattle.register.proofs.OneEnd.{read_ends_once}
use Rattle.register.proofs.Finished.{Finished, Unfinished, finished}

module _ (run : Run) where
  -- the number of steps
  abbrev total : ℕ
  total = length run.steps

  sent_in : (begin : ℕ) → HasSent run.settings run.judge run.steps begin → SentBefore run total begin
  sent_in begin sent =
      record {
        client = sent.client;
        at = sent.at;
        before = sent.sends.in_list;
        pair = sent.pair;
        sending = sends_in run sent.sends;
      }

  sent_out : (begin : ℕ) → SentBefore run total begin
      → HasSent run.settings run.judge run.steps begin
  sent_out begin sent =
      record {
        client = sent.client;
        at = sent.at;
        pair = sent.pair;
        sends = sends_out run sent.before sent.sending;
      }

  -- a finished read decides, at its end, for what it shows
  pub showing : (begin d j : ℕ) (pair : Pair) → ReadEndsIn run begin d j pair
      → Showing run total begin d j pair
  showing begin d j pair ends =
      let begins = read_begins run ends.begins in
      let in_list = ends.ends.in_list in
      let later = ends.later in
      by_either (read_status run begin d begins (suc j) (omega arith))
      (λ status. absurd (status.silent j ends.later (omega arith) pair (reads_in_lem run ends.ends)))
      (λ status. at_last status.at j status.before
      (λ e. let a : answer_in run j ≡ Ok (Read status.how.pair) =
      subst (λ (k : ℕ). answer_in run k ≡ Ok (Read status.how.pair)) e status.how.reads.answer in
      let a' = ends.ends.answer in
      let same : status.how.pair ≡ pair = cc in
      record {
        begins = begins;
        after = ends.later;
        in_list = ends.ends.in_list;
        begun = subst (λ (k : ℕ). since run k d ≡ begin) e status.how.begun;
        decides = subst (λ (q : Pair). DecidesAt run j d q) same
            (subst (λ (k : ℕ). DecidesAt run k d status.how.pair) e status.how.decides);
      })
      (λ less. absurd
      (ends.next status.at status.after less status.how.pair
      (reads_out run (omega arith) status.how.reads))))

  -- a pair that was sent before step j is that of exactly one write, which began before j
  pub pair_of : (j : ℕ) (pair : Pair) → j < total → Written run j pair
      → (write : ℕ) × PairOf run.settings run.judge run.steps pair write × (write < j)
  pair_of j pair inside written =
      let found = sender run written.at written.client pair written.puts in
      let before = written.before in
      let after = found.sending.after in (
        found.begin,
        record {
          client = written.client;
          at = written.at;
          sends = sends_out run (omega arith) found.sending;
          only = λ begin' d' j' sends. unique (sends_in run sends) found.sending refl;
        },
        omega arith,
      )

  -- the row of the read that began at `begin`; of what is no finished read, an empty one
  row_by : (begin : ℕ) → Finished run begin ⊎ Unfinished run begin → List ℕ
  row_by begin (inl finish) = row_of run total begin finish.at (stamp finish.pair)
  row_by begin (inr h) = []

  pub row : ℕ → List ℕ
  row begin = row_by begin (finished run begin)

  -- the sorted row of a read that ends at step j and shows the pair
  abbrev sorted : ℕ → ℕ → Pair → List ℕ
  sorted begin j pair = row_of run total begin j (stamp pair)

  by_end : (begin d j : ℕ) (pair : Pair) → ReadEndsIn run begin d j pair
      → (status : Finished run begin ⊎ Unfinished run begin) → sorted begin j pair ≡ row_by begin status
  unfolding row_by
  by_end begin d j pair ends (inl finish) =
      let once =
      read_ends_once run.settings run.judge run.steps begin d j pair finish.client finish.at
      finish.pair ends finish.ends in
      rw (once.1, once.2) refl
  by_end begin d j pair ends (inr h) = absurd (h d j pair ends)

  row_is : (begin d j : ℕ) (pair : Pair) → ReadEndsIn run begin d j pair → sorted begin j pair ≡ row begin
  unfolding row
  row_is begin d j pair ends = by_end begin d j pair ends (finished run begin)

  module _ (begin d j : ℕ) (pair : Pair) (ends : ReadEndsIn run begin d j pair) where
    shown : Showing run total begin d j pair
    shown = showing begin d j pair ends

    -- ---- the end of a member

    write_ended : (write i : ℕ) (sent : SentBefore run total write)
        → Ends run.settings run.judge run.steps write i → Ending run write sent.client i
    write_ended write i sent (inl e) =
        let q = read_begins run e.2.begins in let q' = sent.sending.begins in clash (cc)
    write_ended write i sent (inr e) = ends_in run sent.sending e.1

    read_ended : (i : ℕ) → Ends run.settings run.judge run.steps begin i → i ≡ j
    read_ended i (inl e) =
        (read_ends_once run.settings run.judge run.steps begin e.0 i e.1 d j pair e.2 ends).1
    read_ended i (inr e) = let q = write_begins run e.1.begins in let q' = shown.begins in clash (cc)

    -- ---- the order of the row

    key_order : (early late i : ℕ) → (early ≡ begin) ⊎ SentBefore run total early
        → (late ≡ begin) ⊎ SentBefore run total late → Ends run.settings run.judge run.steps early i
        → i < late → key run total begin j (stamp pair) early < key run total begin j (stamp pair) late
    key_order early late i (inl ea) (inl ec) ended lt =
        absurd (let q = read_ended i (rw ea at ended) in let l = ends.later in omega arith)
    key_order early late i (inl ea) (inr sent') ended lt =
        let q = read_ended i (rw ea at ended) in rw ea (read_write shown late sent' (omega arith))
    key_order early late i (inr sent) (inl ec) ended lt =
        rw ec (write_read shown early i sent (write_ended early i sent ended) (rw ec at lt))
    key_order early late i (inr sent) (inr sent') ended lt =
        write_write shown early late i sent sent' (write_ended early i sent ended) lt

    -- ---- what the read shows

    legal : Known run j pair
        → Legal run.settings run.judge run.steps begin j pair (row_of run total begin j (stamp pair))
    unfolding sent_in
    legal (inl e) = first (record { shown = e; stands = stands_first shown e })
    legal (inr written) =
        let one = pair_of j pair shown.in_list written in
        let only = one.1 in
        let sent = sent_in one.0
        (record { client = only.client; at = only.at; pair = pair; sends = only.sends }) in
        let follows = right_after shown one.0 sent one.2 refl in
        behind (record {
          shown = not_initial sent.sending;
          write = one.0;
          only = only;
          sooner = one.2;
          place = follows.place;
          stands = follows.here;
          next = follows.next;
        })

    sorted_row : Row run.settings run.judge run.steps begin j pair (sorted begin j pair)
    sorted_row =
        record {
          members = λ operation. (
            (λ m. by_either (from_row shown operation m) (λ e. inl e) (λ w. inr (sent_out operation w))),
            (λ h. in_row shown operation (by_either h (λ e. inl e) (λ w. inr (sent_in operation w)))),
          );
          once = λ operation i i' u v. once (key run total begin j (stamp pair)) _ (row_rises shown) u v;
          order = λ early late i member member' ended lt. lower_earlier shown early late member member'
              (key_order early late i (from_row shown early member) (from_row shown late member') ended lt);
          legal = legal (chosen_known run j d pair shown.decides);
        }

    pub is_row : Row run.settings run.judge run.steps begin j pair (row begin)
    is_row =
        subst (λ (l : List ℕ). Row run.settings run.judge run.steps begin j pair l)
        (row_is begin d j pair ends) sorted_row

  -- ---- agreement

  one_way : (begin₁ d₁ j₁ : ℕ) (pair₁ : Pair) (begin₂ d₂ j₂ : ℕ) (pair₂ : Pair)
      → ReadEndsIn run begin₁ d₁ j₁ pair₁ → ReadEndsIn run begin₂ d₂ j₂ pair₂ → (early late : ℕ)
      → HasSent run.settings run.judge run.steps early
      → HasSent run.settings run.judge run.steps late → early < j₁ → early < j₂ → late < j₁
      → late < j₂ → Earlier (sorted begin₁ j₁ pair₁) early late
      → Earlier (sorted begin₂ j₂ pair₂) early late
  one_way begin₁ d₁ j₁ pair₁ begin₂ d₂ j₂ pair₂ ends₁ ends₂ early late sent sent' early₁ early₂ late₁ late₂
      earlier =
      let showing₁ = showing begin₁ d₁ j₁ pair₁ ends₁ in
      let showing₂ = showing begin₂ d₂ j₂ pair₂ ends₂ in
      let before = sent_in early sent in
      let before' = sent_in late sent' in
      let less = stamp_of_key showing₁ early late before before' early₁ late₁
      (earlier_lower showing₁ early late earlier) in
      lower_earlier showing₂ early late (in_row showing₂ early (inr before))
      (in_row showing₂ late (inr before')) (key_of_stamp showing₂ early late before before' early₂ late₂ less)

  pub agree : (begin₁ d₁ j₁ : ℕ) (pair₁ : Pair) (begin₂ d₂ j₂ : ℕ) (pair₂ : Pair)
      → ReadEndsIn run begin₁ d₁ j₁ pair₁ → ReadEndsIn run begin₂ d₂ j₂ pair₂
      → Agree run.settings run.judge run.steps j₁ j₂ (row begin₁) (row begin₂)
  agree begin₁ d₁ j₁ pair₁ begin₂ d₂ j₂ pair₂ ends₁ ends₂ =
      rw (← (row_is begin₁ d₁ j₁ pair₁ ends₁), ← (row_is begin₂ d₂ j₂ pair₂ ends₂))
      (λ early late sent sent' early₁ early₂ late₁ late₂. (
        one_way begin₁ d₁ j₁ pair₁ begin₂ d₂ j₂ pair₂ ends₁ ends₂ early late sent sent' early₁ early₂ late₁
            late₂,
        one_way begin₂ d₂ j₂ pair₂ begin₁ d₁ j₁ pair₁ ends₂ ends₁ early late sent sent' early₂ early₁ late₂
            late₁,
      ))
