-- `channel::words_go` meets its contract: a first number over 32 bits is no message's, and else the numbers
-- are words.
-- Assumes nothing.
use Rattle.basics.proofs.Prelude.{◌≡◌, refl, sym, ap, ◌∙◌, Bool, true, false, cond, not, ◌^◌, lt-ltb, rules}
use mathlib.Core.Bool.{beq}
use Rattle.register.proofs.Vocabulary.{goes, pair_bits}
use Rattle.channel.proofs.Slot.{over_fails}
use Rattle.channel.proofs.words_go.Goals as goal

-- a reply goes down, and what is none goes up
way : (reply down : Bool) → beq reply down ≡ cond down reply (not reply)
way true true = refl
way true false = refl
way false true = refl
way false false = refl

pub returns-then-first-ge-OVER_32 : goal.returns-then-first-ge-OVER_32
unfolding goes
returns-then-first-ge-OVER_32 c =
    let a = c.args in
    sym (over_fails a.down a.first a.second (search rules))

pub returns-in_default : goal.returns-in_default
unfolding goes
returns-in_default c =
    rw (lt-ltb c.args.second (2 ^ pair_bits) (search rules), sym c.of_words.ensures ∙ c.in_default.is)

pub returns : goal.returns
unfolding goes
returns c =
    let a = c.args in
    rw (lt-ltb a.second (2 ^ pair_bits) (search rules))
    (way c.is_reply.result a.down
    ∙ ap (λ (reply : Bool). cond a.down reply (not reply)) c.is_reply.ensures
    ∙ ap (goes a.down) (sym c.in-Ok.is ∙ c.of_words.ensures))
