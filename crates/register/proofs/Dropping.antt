-- What is put on a channel that may drop: nothing changes if it drops, or if nothing is put; else it stands
-- last. And a change at one channel only.
-- Assumes nothing.
use Rattle.basics.proofs.Prelude.{◌≡◌, Bool, true, false, cond, ◌&&◌, List, [], ◌++◌, append-nil, ℕ, eqb}
use Rattle.basics.proofs.Prelude.{eqb-true}
use Rattle.basics.proofs.Cases.{by_test, both}
use Rattle.message.specs.declared.Message.{Message}

pub put_or_dropped : (P : List Message → Type 0) (drops : Bool) (channel more : List Message) → P channel
    → (drops ≡ false → P (channel ++ more)) → P (channel ++ cond drops [] more)
put_or_dropped P drops channel more old new =
    by_test drops (λ e. rw (e, append-nil channel) old) (λ e. rw e (new e))

pub nothing_put : (drops : Bool) (channel : List Message) → channel ++ cond drops [] [] ≡ channel
nothing_put true channel = append-nil channel
nothing_put false channel = append-nil channel

-- one list on the channel of server k and client d, another elsewhere
pub at_channel : (P : List Message → Type 0) (k' d' k d : ℕ) (here there : List Message)
    → (k' ≡ k → d' ≡ d → P here) → P there → P (cond (eqb k' k && eqb d' d) here there)
at_channel P k' d' k d here there new old =
    by_test (eqb k' k && eqb d' d) (λ e. let q = both (eqb k' k) (eqb d' d) e in
    rw e (new (eqb-true k' k q.0) (eqb-true d' d q.1))) (λ e. rw e old)
