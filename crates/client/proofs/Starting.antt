-- An idle client's replies are empty, so a start, which empties them, need only store the head.
-- Assumes nothing.
use Rattle.basics.proofs.Prelude.{◌≡◌, refl, sym, ap, ◌∙◌, true, false, List, ◌++◌, drop, replicate, ℕ, ◌+◌}
use Rattle.std.specs.Prelude.{Ok}
use Rattle.basics.proofs.Cases.{true_or_false}
use Rattle.register.proofs.Vocabulary.{ReadNumber, is_idle, is_reading, next_read, started}
use Rattle.register.specs.declared.Answer.TheVariants.{Went}
use Rattle.register.specs.declared.Phase.{Phase}
use Rattle.register.specs.declared.Phase.TheVariants.{Idle, Reading, ReadingForWrite, Storing}
use Rattle.replies.specs.Replies.{replies_length}
use Rattle.replies.proofs.Soundness.{facts}
use Rattle.replies.proofs.Storing.{store_cleared}
use Rattle.replies.proofs.Unused.{unused_empty}
use Rattle.client.specs.declared.Client.{Client}
use Rattle.client.specs.declared.Sends.TheVariants.{GetInfo}
use Rattle.client.specs.Memory.{replies_at, phase_in, loaded, head_of, view, store}
use Rattle.client.specs.Sound.{stores, is_sound_memory}
use Rattle.client.specs.Outcome.{after, started_of}
use Rattle.client.proofs.Memory.{memory_facts}

pub idle_is : (phase : Phase) → is_idle phase ≡ true → phase ≡ Idle
unfolding is_idle
idle_is Idle h = refl
idle_is Reading h = absurd (true_or_false false h refl)
idle_is (ReadingForWrite entry) h = absurd (true_or_false false h refl)
idle_is (Storing entry count) h = absurd (true_or_false false h refl)

pub idle_empty : (n f : ℕ) (memory : List ℕ) → is_sound_memory n f memory ≡ true
    → is_idle (phase_in memory) ≡ true → drop replies_at memory ≡ replicate replies_length 0
unfolding is_reading stores
idle_empty n f memory h idle =
    unused_empty n (drop replies_at memory)
    (facts n false false (drop replies_at memory)
    (rw (idle_is (phase_in memory) idle) at (memory_facts n f memory h).replies))

-- what a start stores is the memory of the client that has started
started_is : (n f : ℕ) (memory : List ℕ) (phase : Phase) → is_sound_memory n f memory ≡ true
    → is_idle (phase_in memory) ≡ true
    → head_of phase (next_read (view memory)) ++ drop replies_at memory ≡ store (started (view memory) phase)
unfolding started
started_is n f memory phase h idle =
    ap (λ (replies : List ℕ). head_of phase (next_read (view memory)) ++ replies)
    (idle_empty n f memory h idle ∙ sym (store_cleared phase (next_read (view memory))))

-- so that is the outcome of a start
pub starts : (client : Client) (phase : Phase) (memory left : List ℕ) (reads : ReadNumber)
    → client ≡ loaded client.number client.n client.f memory
    → is_sound_memory client.n client.f memory ≡ true → is_idle client.phase ≡ true
    → reads ≡ record { 0 = client.reads.0 + 1 } → left ≡ head_of phase reads ++ drop replies_at memory
    → after (Ok (record { sends = GetInfo reads; answer = Went })) left ≡ started_of memory phase
unfolding next_read
starts client phase memory left reads e h idle er el =
    let next : reads ≡ next_read (view memory) =
    er ∙ ap (λ (x : Client). record { 0 = x.reads.0 + 1 }) e in
    rw (el, next) (ap (λ (z : List ℕ). after (Ok (record {
      sends = GetInfo (next_read (view memory));
      answer = Went;
    })) z)
    (started_is client.n client.f memory phase h
    (ap (λ (x : Client). is_idle x.phase) (sym e) ∙ idle)))
