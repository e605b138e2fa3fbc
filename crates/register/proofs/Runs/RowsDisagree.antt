-- In the run of `Disagree` no rows of the two reads agree on its two writes: the first row has the write of
-- step 0 before that of step 16, the second has them the other way round. So 01 cannot ask for agreement on
-- all writes.
--
-- Why: both reads show the pair of the write of step 0, so each stands right after it. The first read ended
-- before the write of step 16 began, and this write ended before the second read began.
-- In order: what the run answers; its operations; places in a row; the two rows.
-- Assumes nothing.
use Rattle.basics.proofs.Prelude.{◌≡◌, refl, sym, ap, ◌∙◌, subst, Bool, true, false, not, ◌||◌, ◌⊎◌, inl, inr}
use Rattle.basics.proofs.Prelude.{List, ◌++◌, length, get_or, ℕ, suc, ◌<◌, arith, leb, leb-true}
use mathlib.Core.Bool.{or-false}
use Rattle.register.proofs.Vocabulary.{Member, At, all_below, puts_up, Step, D, step_at, world_at}
use Rattle.register.proofs.Vocabulary.{answer_at, ReadBegins, WriteBegins, AnswersRead, AnswersWrite}
use Rattle.register.proofs.Vocabulary.{ReadEnds, WriteEnds, Sends, Earlier, Legal, first, behind, Row}
use Rattle.register.proofs.Vocabulary.{formats, Ok, Err, StepAnswer}
use Rattle.basics.proofs.Tests.{below}
use Rattle.register.specs.History.{event_at}
use Rattle.register.proofs.Vocabulary.{WriteInfo, Pair, Went, Read, Wrote, Spent}
use Rattle.register.proofs.Runs.{answers, the_entry, pair_by_1, pair_by_2}
use Rattle.register.proofs.Runs.Disagree.{four, early, second, late}
use Rattle.register.proofs.Runs.Disagree as run

abbrev steps : List Step
steps = run.first ++ early ++ second ++ late

-- ---- what the run answers

is_read : StepAnswer → Bool
is_read (Ok Went) = false
is_read (Ok (Read pair)) = true
is_read (Ok (Wrote pair)) = false
is_read (Ok Spent) = false
is_read (Err refusal) = false

is_end : StepAnswer → Bool
is_end (Ok Went) = false
is_end (Ok (Read pair)) = false
is_end (Ok (Wrote pair)) = true
is_end (Ok Spent) = true
is_end (Err refusal) = false

-- no step after `low` and before `high` answers so
abbrev none : (StepAnswer → Bool) → ℕ → ℕ → Bool
none test low high = all_below (λ i. leb i low || not (test (answer_at four formats steps i))) high

no_answer : (test : StepAnswer → Bool) (low high : ℕ) → none test low high ≡ true → (i : ℕ) → low < i → i < high
    → test (answer_at four formats steps i) ≡ true → ⊥
no_answer test low high h i above under e =
    let x = leb-true i low (rw (e, or-false) at (below _ high h i under)) in omega arith

-- ---- its operations

-- the pair that both reads show, and that of the later write
abbrev shown : Pair
shown = pair_by_2

abbrev lower : Pair
lower = pair_by_1

read_answer : (i : ℕ) (other : Pair) → answer_at four formats steps i ≡ Ok (Read other)
    → is_read (answer_at four formats steps i) ≡ true
unfolding is_read
read_answer i other e = rw e refl

end_answer : (i : ℕ)
    → ((other : Pair) × (answer_at four formats steps i ≡ Ok (Wrote other)))
    ⊎ (answer_at four formats steps i ≡ Ok Spent) → is_end (answer_at four formats steps i) ≡ true
unfolding is_end
end_answer i (inl (q, e)) = rw e refl
end_answer i (inr e) = rw e refl

-- the read of client 3 begun at `begin` ends at step j
ends_read : (begin j : ℕ) → begin < j → ReadBegins four formats steps begin 3
    → AnswersRead four formats steps j 3 shown → none is_read begin j ≡ true
    → ReadEnds four formats steps begin 3 j shown
ends_read begin j lt begins ends h =
    record {
      begins = begins;
      later = lt;
      ends = ends;
      next = λ i low high q x. no_answer is_read begin j h i low high (read_answer i q x.answer);
    }

first_read : ReadEnds four formats steps 7 3 15 shown
unfolding answers is_read
first_read =
    ends_read 7 15 (omega arith) (record { in_list = omega arith; step = refl; answer = refl })
    (record { in_list = omega arith; server = 4; step = refl; answer = refl }) refl

second_read : ReadEnds four formats steps 31 3 40 shown
unfolding answers is_read
second_read =
    ends_read 31 40 (omega arith) (record { in_list = omega arith; step = refl; answer = refl })
    (record { in_list = omega arith; server = 4; step = refl; answer = refl }) refl

write_once : (begin j d : ℕ) → none is_end begin j ≡ true → (i : ℕ) → begin < i → i < j
    → AnswersWrite four formats steps i d → ⊥
write_once begin j d h i low high x = no_answer is_end begin j h i low high (end_answer i x.answer)

later_begins : WriteBegins four formats steps 16 1
unfolding answers
later_begins = record { in_list = omega arith; entry = the_entry; step = refl; answer = refl }

later_write : WriteEnds four formats steps 16 1 30
unfolding answers is_end
later_write =
    record {
      begins = later_begins;
      later = omega arith;
      ends = record { in_list = omega arith; server = 4; step = refl; answer = inl (lower, refl) };
      next = write_once 16 30 1 refl;
    }

-- the write of client d begun at `begin` sends the pair at step j
sends_pair : (begin d j k : ℕ) (pair : Pair) → begin < j → j < length steps
    → WriteBegins four formats steps begin d → step_at four formats steps j ≡ D d k
    → Member (WriteInfo pair) (puts_up four (world_at four formats steps j) (event_at four formats steps j) d 1)
    → none is_end begin (suc j) ≡ true → Sends four formats steps begin d j pair
sends_pair begin d j k pair lt inside begins step puts h =
    record {
      begins = begins;
      later = lt;
      in_list = inside;
      server = k;
      step = step;
      to = 1;
      puts = puts;
      unended = λ i low high x. write_once begin (suc j) d h i low (omega arith) x;
    }

-- the write of step 0 sends what the reads show
first_sends : Sends four formats steps 0 2 6 shown
unfolding answers is_end
first_sends =
    sends_pair 0 2 6 3 shown (omega arith) (omega arith)
    (record { in_list = omega arith; entry = the_entry; step = refl; answer = refl }) refl (inr (inl refl)) refl

later_sends : Sends four formats steps 16 1 22 lower
unfolding answers is_end
later_sends =
    sends_pair 16 1 22 4 lower (omega arith) (omega arith) later_begins refl (inr (inl refl)) refl

-- ---- places in a row

-- a read that shows that pair stands right after the write of step 0
record RightAfter (row : List ℕ) (begin : ℕ) : Type 0 where
  place : ℕ
  write : At row 0 place
  read : At row begin (suc place)

right_after : (begin j : ℕ) (row : List ℕ) → Row four formats steps begin j shown row → RightAfter row begin
right_after begin j row h = by_place h.legal
  where
    by_place : Legal four formats steps begin j shown row → RightAfter row begin
    by_place (first q) =
        absurd (let z : shown.0 ≡ 0 = ap (λ (p : Pair). p.0) q.shown in omega arith)
    by_place (behind q) =
        let is : 0 ≡ q.write = q.only.only 0 2 6 first_sends in
        record {
          place = q.place;
          write = subst (λ (w : ℕ). At row w q.place) (sym is) q.stands;
          read = q.next;
        }

later_member : (begin j : ℕ) (row : List ℕ) → Row four formats steps begin j shown row → Member 16 row
later_member begin j row h =
    (h.members 16).1 (inr (record { client = 1; at = 22; pair = lower; sends = later_sends }))

-- ---- the two rows

-- both reads have ended
pub reads_ended : ReadEnds four formats steps 7 3 15 shown × ReadEnds four formats steps 31 3 40 shown
reads_ended = (first_read, second_read)

pub rows_disagree : (row₁ row₂ : List ℕ) → Row four formats steps 7 15 shown row₁
    → Row four formats steps 31 40 shown row₂
    → Earlier row₁ 0 16 × Earlier row₂ 16 0
rows_disagree row₁ row₂ h₁ h₂ = (before, after)
  where
    before : Earlier row₁ 0 16
    before =
        let a = right_after 7 15 row₁ h₁ in
        let e = h₁.order 7 16 15 ((h₁.members 7).1 (inl refl)) (later_member 7 15 row₁ h₁)
        (inl (3, shown, first_read)) (omega arith) in
        let same : e.one ≡ suc a.place = h₁.once 7 e.one (suc a.place) e.first a.read in
        record {
          one = a.place;
          two = e.two;
          first = a.write;
          second = e.second;
          before = let x = e.before in omega arith;
        }

    after : Earlier row₂ 16 0
    after =
        let a = right_after 31 40 row₂ h₂ in
        let e =
        h₂.order 16 31 30 (later_member 31 40 row₂ h₂) ((h₂.members 31).1 (inl refl)) (inr (1, later_write))
        (omega arith) in
        let same : e.two ≡ suc a.place = h₂.once 31 e.two (suc a.place) e.second a.read in
        let other : e.one ≡ a.place → ⊥ = λ q.
        let z : ◌≡◌ {A = ℕ} 16 0 = sym e.first.is ∙ ap (λ (i : ℕ). get_or row₂ i 0) q
        ∙ a.write.is in omega arith in
        record {
          one = e.one;
          two = a.place;
          first = e.first;
          second = a.write;
          before = let x = e.before in omega arith;
        }
