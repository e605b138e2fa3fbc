-- `server::serve` meets its contract: each return is one case of the ladder (`Outcomes`). Assumes nothing.
use Rattle.basics.proofs.Prelude.{◌≡◌, false, sym, ap, ◌∙◌, inl, inr, arith}
use Rattle.register.proofs.Vocabulary.{goes_up, goes}
use Rattle.server.specs.Serving.{result_of}
use Rattle.server.proofs.Outcomes.{unsound, no_process_low, no_process_high, malformed, served}
use Rattle.server.proofs.serve.Goals as goal

pub returns-then-not-is_sound : goal.returns-then-not-is_sound
unfolding result_of
returns-then-not-is_sound c =
    let a = c.args in
    sym (unsound a.memory.now a.d a.bytes.now (sym c.is_sound.ensures ∙ c.if-not-is_sound.true))

pub returns-then-d-lt1 : goal.returns-then-d-lt1
unfolding result_of
returns-then-d-lt1 c =
    let a = c.args in
    let h = sym c.is_sound.ensures ∙ c.if-not-is_sound.false in
    elim c.then-d-lt1.either [
      | inl low ↦ sym (no_process_low a.memory.now a.d a.bytes.now h low)
      | inr over ↦ sym (no_process_high a.memory.now a.d a.bytes.now h over.0 over.1)
    ]

pub returns-in_default : goal.returns-in_default
unfolding result_of goes
returns-in_default c =
    let a = c.args in
    let h = sym c.is_sound.ensures ∙ c.if-not-is_sound.false in
    sym (malformed a.memory.now a.d a.bytes.now h (omega arith) (omega arith)
    (ap goes_up (sym c.unpack.ensures ∙ c.in_default.is)))

pub returns-then-is_reply : goal.returns-then-is_reply
unfolding result_of goes
returns-then-is_reply c =
    let a = c.args in
    let h = sym c.is_sound.ensures ∙ c.if-not-is_sound.false in
    let good = sym c.unpack.ensures ∙ c.in-Ok.is in
    sym (malformed a.memory.now a.d a.bytes.now h (omega arith) (omega arith)
    (ap goes_up good ∙ rw (sym c.is_reply.ensures ∙ c.if-is_reply.true)))

pub returns : goal.returns
unfolding result_of goes
returns c =
    let a = c.args in
    let h = sym c.is_sound.ensures ∙ c.if-not-is_sound.false in
    let good = sym c.unpack.ensures ∙ c.in-Ok.is in
    let e = served a.memory.now a.d a.bytes.now h (omega arith) (omega arith) _ good
    (let asks : c.is_reply.result ≡ false = cc in rw (sym c.is_reply.ensures ∙ asks)) in
    cc
